-- Rows that are handed over one at a time.
use Rattle.std.proofs.Common.{◌≡◌, ◌≤◌, ◌+◌, ◌-◌, ◌^◌, inl, inr, ℕ, length, length-append, arith, Bool, true, false, List, [], ◌∷◌, ◌++◌, Option, Some, None, Result, Ok, Err, IfErr, OnOk, IsTrue, refl, sym, subst, ◌∙◌}
use Rattle.std.specs.Result.{IsErrAnd}
use Rattle.sqlite.specs.Order.{Row}
use Rattle.sqlite.specs.declared.error.Error.{Error}
use Rattle.sqlite.specs.declared.error.Error.TheVariants.{SqliteFailure}
use Rattle.sqlite.specs.declared.error.ErrorCode.TheVariants as code
use Rattle.sqlite_schema.specs.declared.command.Returning.{Returning}
use Rattle.sqlite_resolve.specs.declared.compiled.Compiled.{Compiled}
use Rattle.sqlite.specs.Store.{Ghosts}
use Rattle.sqlite.specs.Held.{Held, state}
use Rattle.sqlite.specs.Given.{Advances, HasGiven, HasBegun, IsPlain}
use Rattle.sqlite.specs.Effect.{Database}
use Rattle.sqlite.specs.Listing.{understood, reads_listing, IsSourceOf}
use Rattle.sqlite.specs.State.{State, HasCleanDisk, Shown, ShowsRows, IsUnchanged, IsRolledBack}
use Rattle.sqlite.proofs.Callers.{unchanged_then, begun_plain}
use Rattle.desk_sql.specs.Effects.{Holds}
use Rattle.desk_sql.proofs.lemmas.Read.{was_open, is_open}
use Rattle.desk_sql.specs.Queries.{FailsNext, FailsToHandAll, HandsOver, HandsAll, IsLeft, Refusing}

pub unchanged_itself : (s : State) → IsTrue s.is_open → IsUnchanged s s
unchanged_itself s live = (
  record { was_open = live; is_open = live; now_is = refl; committed_is = refl; mode = refl },
  record
      { changes = refl; last_rowid = refl },
  refl,
)

pub rolled_back : (a b c : State) → IsUnchanged a b → IsRolledBack b c → IsRolledBack a c
rolled_back a b c same back = record {
  was_open = λ live. same.0.was_open;
  undone = λ live. (let e = back.undone live in (e.0 ∙ same.0.committed_is, e.1 ∙ same.0.committed_is));
  autocommit = back.autocommit;
  unmarked = back.unmarked;
  counts = record {
    changes = back.counts.changes ∙ same.1.changes;
    last_rowid = back.counts.last_rowid
        ∙ same.1.last_rowid;
  };
}

-- an answer that is shown after no change is shown by the whole of both
shown_rows : (first mid new : State) (sql : List ℕ) (c : Compiled) (params : Row) (rows : List Row)
    (r : Option Returning) → r ≡ None → IsUnchanged first mid → ShowsRows mid new sql c params rows r
    → ShowsRows first new sql c params rows r
shown_rows first mid new sql c params rows None none same h = (
  h.0,
  subst (λ (d : Database). IsSourceOf (reads_listing d.schema sql) d h.0) same.0.now_is h.1,
  h.2,
  unchanged_then first mid new same h.3,
)
shown_rows first mid new sql c params rows (Some what) none same h = cc

pub shown_from : (sql : List ℕ) (params : Row) (first mid new : State) (rows : List Row)
    → IsPlain (understood first.now.schema sql) → IsUnchanged first mid → Shown sql params mid new rows
    → Shown sql params first new rows
unfolding Shown
shown_from sql params first mid new rows plain same h =
    let is = subst (λ (d : Database). understood d.schema sql ≡ Ok h.0) same.0.now_is h.1.is in
    let none = (subst IsPlain is plain).0 in (
      h.0,
      record { is = is; whole = h.1.whole; given = h.1.given; now = h.1.now },
      shown_rows first mid new
          sql h.0 _ rows h.0.returning none same h.2,
    )

-- nothing has changed since the start, and what was handed over since then begins the answer
pub record IsUnderWay {S : Type 0} (g : Ghosts S) (old now : Held S)
    (had has : List Row → Type 0) (rounds : ℕ) : Type 0
  where
    pub same : HasCleanDisk (state g now) → IsUnchanged (state g old) (state g now)
    pub handed :
        HasCleanDisk (state g now) → (sql : List ℕ) (params : Row) (given : List Row)
        → HasGiven g sql params old given → had given
        → (all : List Row) × HasGiven g sql params now all × has all
        × (length all ≡ length given + rounds)

module _ {S : Type 0} (g : Ghosts S) where
  pub begins : (old : Held S) (had : List Row → Type 0)
      → (HasCleanDisk (state g old) → IsTrue (state g old).is_open) → IsUnderWay g old old had had 0
  begins old had live = record {
    same = λ clean. unchanged_itself (state g old) (live clean);
    handed = λ clean sql params given h t. (given, h, t, omega arith);
  }

  module _ (old now new : Held S) (had has does : List Row → Type 0)
      (rounds : ℕ) (way : IsUnderWay g old now had has rounds)
      (clean : HasCleanDisk (state g new) → HasCleanDisk (state g now)) where
    pub goes_on : (HasCleanDisk (state g new) → IsUnchanged (state g now) (state g new)) → (more : Bool)
        → more ≡ true → (HasCleanDisk (state g new) → HandsOver g now new has does more)
        → IsUnderWay g old new had does (rounds + 1)
    goes_on same true is hands = record {
      same = λ c. unchanged_then (state g old) (state g now) (state g new) (way.same (clean c))
          (same c);
      handed = λ c sql params given h t. (let (all, gave, took, count) = way.handed (clean c) sql params
          given h t
          in let (row, gives, takes) = hands c sql params all gave took
          in (all ++ row ∷ [], gives, takes, omega (arith, count, length-append all (row ∷ []))));
    }
    goes_on same false is hands = cc

    pub ends : (more : Bool) → more ≡ false → (HasCleanDisk (state g new)
        → HandsOver g now new has does more)
        → HasCleanDisk (state g new) → HandsAll g old new had does
    ends true is hands = cc
    ends false is hands = λ c sql params given plain h t.
        let (all, gave, took, count) = way.handed (clean c) sql params given h t in
        let (shown, takes) = hands c sql params all gave took in (
          all,
          shown_from sql params (state g old) (state g now) (state g new) all plain (way.same (clean c))
              shown,
          takes,
        )

    pub is_left : (HasCleanDisk (state g new) → IsLeft g now new) → HasCleanDisk (state g new)
        → IsLeft g old new
    is_left left c = elim (left c) [
      | inl same ↦ inl (unchanged_then (state g old) (state g now) (state g new) (way.same (clean c))
          same)
      | inr back ↦ inr (rolled_back (state g old) (state g now) (state g new) (way.same (clean c)) back)
    ]

    -- what fails now is a failure since the start
    pub fails_now : (refuses : Refusing) → (state g old).faults ≤ (state g now).faults
        → now.step_limit ≡ old.step_limit → (e : Error)
        → FailsNext g now new (λ row e. (taken : List Row) → has taken → refuses taken row e) e
        → HasCleanDisk (state g new) → FailsToHandAll g old new had refuses e
    fails_now refuses faults limit e (inl fails) c sql params given h t =
        let (all, gave, took, count) = way.handed (clean c) sql params given h t in
        inl (record {
          now = now;
          clean = clean c;
          same = way.same (clean c);
          faults = faults;
          limit = limit;
          fails = fails sql params all gave;
        })
    fails_now refuses faults limit e (inr (row, refused, same, gives)) c sql params given h t =
        let (all, gave, took, count) = way.handed (clean c) sql params given h t in
        inr (
          unchanged_then (state g old) (state g now) (state g new) (way.same (clean c)) same,
          inl (all, row, gives sql params all gave, refused all took),
        )

  -- so many rounds, each with a row
  pub too_many : (old now : Held S) (had has : List Row → Type 0) (rounds : ℕ) (refuses : Refusing)
      → IsUnderWay g old now had has rounds → 2 ^ 64 - 1 ≤ rounds → HasCleanDisk (state g now)
      → FailsToHandAll g old now had refuses (SqliteFailure code.TooBig)
  too_many old now had has rounds refuses way many c sql params given h t =
      let (all, gave, took, count) = way.handed c sql params given h t in
      inr (way.same c, inr (refl, all, gave, omega (arith, many, count)))

-- an error that a `?` hands on
pub on_err : {V E : Type 0} (r : Result V E) (fault : E) (P : E → Type 0) → IsErrAnd r (λ e. e ≡ fault)
    → P fault → IfErr r P
on_err (Err e) fault P is holds = subst P (sym is) holds
on_err (Ok v) fault P is holds = tt

-- the next row was given, and is refused
pub refused_next : {S : Type 0} (g : Ghosts S) (old new : Held S) (row : Row) (found : Option Row)
    (refuses : Row → Error → Type 0) (e : Error) → Some row ≡ found
    → IsUnchanged (state g old) (state g new) → Advances g old new found → refuses row e
    → FailsNext g old new refuses e
refused_next g old new row None refuses e is same goes refused = cc
refused_next g old new row (Some r) refuses e is same goes refused =
    let one : r ≡ row = cc in
    inr (
      row,
      refused,
      same,
      λ sql params given h. subst (λ q. HasGiven g sql params new (given ++ q ∷ [])) one
          (goes sql params given h),
    )

-- ---- a query that shows rows

module _ {S : Type 0} (g : Ghosts S) (sql : List ℕ) (params : Row) (old : Held S)
    (plain_here : IsTrue (state g old).is_open → IsPlain (understood old.schema sql)) where
  pub begun : (first : Held S) → HasBegun g sql params old first → HasGiven g sql params first []
      × IsUnchanged (state g old) (state g first)
  begun first (inl h) = h
  begun first (inr h) = begun_plain g sql params old first (plain_here (was_open sql params _ _ _ h.1))
      (inr h)

  module _ (first new : Held S) (begins : HasBegun g sql params old first) where
    pub shown_if : (had has : List Row → Type 0) → had [] → (r : Result (Unit {0}) Error)
        → OnOk r (HandsAll g first new had has)
        → OnOk r ((all : List Row) × Shown sql params (state g old) (state g new) all × has all)
    shown_if had has fresh (Err e) hands = tt
    shown_if had has fresh (Ok u) hands =
        let (given, same) = begun first begins in
        let here = plain_here same.0.was_open in
        let (all, shown, takes) = hands sql params []
        (subst (λ (d : Database). IsPlain (understood d.schema sql)) (sym same.0.now_is) here) given
        fresh
        in (
          all,
          shown_from sql params (state g old) (state g first) (state g new) all here same shown,
          takes,
        )

    pub left_then : IsLeft g first new → IsLeft g old new
    left_then (inl same) =
        inl (unchanged_then (state g old) (state g first) (state g new) (begun first begins).1 same)
    left_then (inr back) =
        inr (rolled_back (state g old) (state g first) (state g new) (begun first begins).1 back)

pub open_on : (r : Result (Unit {0}) Error) (s : State) → IsTrue s.is_open → OnOk r (IsTrue s.is_open)
open_on (Ok u) s live = live
open_on (Err e) s live = tt

-- rows that the tables have are handed over, whenever something is
pub if_handed : {S : Type 0} (g : Ghosts S) (old new : Held S) (text : List ℕ) (params : Row)
    (Is : Database → Type 0) (P has : List Row → Type 0) → Holds g old Is → HasCleanDisk (state g old)
    → ((rows : List Row) → Is (state g old).now → Shown text params (state g old) (state g new) rows
    → P rows)
    → (r : Result (Unit {0}) Error) → OnOk r ((rows : List Row)
    × Shown text params (state g old) (state g new) rows × has rows)
    → OnOk r ((rows : List Row) × P rows × has rows)
if_handed g old new text params Is P has ready clean gives (Ok u) handed =
    let (rows, shown, takes) = handed
    in (rows, gives rows (ready clean (was_open text params _ _ _ shown)) shown, takes)
if_handed g old new text params Is P has ready clean gives (Err e) handed = tt

-- the same of what the rows of an answer are
pub handed_as : (P Q has : List Row → Type 0) → ((rows : List Row) → P rows → Q rows)
    → (r : Result (Unit {0}) Error) → OnOk r ((rows : List Row) × P rows × has rows)
    → OnOk r ((rows : List Row) × Q rows × has rows)
handed_as P Q has so (Ok u) (rows, are, takes) = (rows, so rows are, takes)
handed_as P Q has so (Err e) h = tt

-- what was handed over leaves the connection open
pub live_handed : {S : Type 0} (g : Ghosts S) (old new : Held S) (text : List ℕ) (params : Row)
    (has : List Row → Type 0) (r : Result (Unit {0}) Error)
    → (HasCleanDisk (state g new) → OnOk r ((rows : List Row)
    × Shown text params (state g old) (state g new) rows × has rows))
    → OnOk r (HasCleanDisk (state g new) → IsTrue (state g new).is_open)
live_handed g old new text params has (Ok u) handed =
    λ clean. is_open text params (state g old) (state g new) (handed clean).0 (handed clean).1
live_handed g old new text params has (Err e) handed = tt

-- a taker that was fresh has taken some rows
pub taken_fresh : (had has : List Row → Type 0) → had [] → (r : Result (Unit {0}) Error)
    → OnOk r (((rows : List Row) × had rows) → (rows : List Row) × has rows)
    → OnOk r ((rows : List Row) × has rows)
taken_fresh had has fresh (Ok u) on = on ([], fresh)
taken_fresh had has fresh (Err e) on = tt
