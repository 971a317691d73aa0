-- What a crash leaves, after a text was prepared and after a transaction.
use Rattle.std.proofs.Common.{◌≡◌, ◌⊎◌, inl, inr, true, false, List, [], ℕ, ◌≤◌, Result, Ok, Err, IfOk, IfErr, OnOk, IsTrue, refl, ap, sym, subst, ◌∙◌, arith}
use Rattle.sqlite.specs.Order.{Row}
use Rattle.sqlite.specs.Tree.{Trees}
use Rattle.sqlite.specs.Effect.{Database, IsDatabase}
use Rattle.sqlite.specs.View.{doubt}
use Rattle.sqlite.specs.declared.error.Error.{Error}
use Rattle.sqlite.specs.Store.{Ghosts}
use Rattle.sqlite.specs.Held.{Held, state}
use Rattle.sqlite.specs.Given.{IsPlain, HasBegun}
use Rattle.sqlite.specs.Listing.{understood}
use Rattle.sqlite.specs.State.{HasCleanDisk, Survives, CommitsShowing, Shown, Shows, FailsToQuery, IsUnchanged, IsRolledBack}
use Rattle.sqlite.proofs.Callers.{never_commits, unchanged_then}
use Rattle.sqlite.specs.Schema.{Schema}
use Rattle.desk_sql.specs.Schema.{beside_of, desk_with, desk_in}
use Rattle.desk_sql.specs.Rows.{IsDesk, Tables, tables_of}
use Rattle.desk_sql.specs.Effects.{Holds, StaysShown, Makes, Commits, MayMake, Spares, ShowsAsBefore, OnlyReads, Remembers}
use Rattle.desk_sql.proofs.lemmas.Read.{failed, if_either, unmoved}
use Rattle.desk_sql.specs.Queries.{HandsAll, IsLeft}
use Rattle.desk_sql.proofs.AskLemmas.{KnownPlain}
use Rattle.desk_sql.proofs.TakingLemmas.{shown_from, rolled_back, begun, shown_if, left_then}

-- a text was prepared, and stands for what it did
abbrev pub IsPrepared : {S : Type 0} → Ghosts S → Held S → Held S → List ℕ → List ℕ → Type 0
IsPrepared g old mid sql text = HasCleanDisk (state g mid) → (text ≡ sql)
    × IsUnchanged (state g old) (state g mid)

module _ {S : Type 0} (g : Ghosts S) (old mid new : Held S) (sql text : List ℕ) (params : Row)
    (clean : HasCleanDisk (state g old))
    (plain : IsTrue (state g old).is_open → IsPlain (understood old.schema sql))
    (same : IsUnchanged (state g old) (state g mid)) (is : text ≡ sql) where
  plain_mid : IsPlain (understood mid.schema text)
  plain_mid = subst (λ t. IsPlain (understood mid.schema t)) (sym is)
      (subst (λ (d : Database). IsPlain (understood d.schema sql)) (sym same.0.now_is)
      (plain same.0.was_open))

  pub shown_old : (rows : List Row) → Shown text params (state g mid) (state g new) rows
      → Shown sql params (state g old) (state g new) rows
  shown_old rows h = shown_from sql params (state g old) (state g mid) (state g new) rows
      (plain same.0.was_open) same
      (subst (λ t. Shown t params (state g mid) (state g new) rows) is h)

  pub shown_after : {V : Type 0} (items : V → List Row) (r : Result V Error)
      → IfOk r (λ v. Shown text params (state g mid) (state g new) (items v))
      → IfOk r (λ v. Shown sql params (state g old) (state g new) (items v))
  shown_after items (Ok v) h = shown_old (items v) h
  shown_after items (Err e) h = tt

  either_old : IsUnchanged (state g mid) (state g new) ⊎ IsRolledBack (state g mid) (state g new)
      → IsUnchanged (state g old) (state g new) ⊎ IsRolledBack (state g old) (state g new)
  either_old (inl h) = inl (unchanged_then (state g old) (state g mid) (state g new) same h)
  either_old (inr h) = inr (rolled_back (state g old) (state g mid) (state g new) same h)

  pub kept_by_either : (IsTrue (state g old).is_open → (state g old).now ≡ (state g old).committed)
      → IsTrue (state g new).is_open
      → IsUnchanged (state g mid) (state g new) ⊎ IsRolledBack (state g mid) (state g new)
      → ShowsAsBefore g old new
  kept_by_either settled live h = if_either g old new settled live (either_old h)

  unmoved_mid : (rows : List Row) → Shown text params (state g mid) (state g new) rows
      → IsUnchanged (state g mid) (state g new)
  unmoved_mid rows h = unmoved text params (state g mid) (state g new) rows plain_mid h

  pub kept_by_query : (IsTrue (state g old).is_open → (state g old).now ≡ (state g old).committed)
      → {V : Type 0} (items : V → List Row) (r : Result V Error)
      → IfOk r (λ v. Shown text params (state g mid) (state g new) (items v))
      → IfErr r (FailsToQuery text params (state g mid) (state g new))
      → IsTrue (state g new).is_open → ShowsAsBefore g old new
  kept_by_query settled items (Ok v) shown fails live = kept_by_either settled live
      (inl (unmoved_mid (items v) shown))
  kept_by_query settled items (Err e) shown fails live = kept_by_either settled live
      (failed text params (state g mid) (state g new) e fails)

  spared_clean : Survives (state g old) (state g mid) (λ _. ⊥)
      → Survives (state g mid) (state g new) (CommitsShowing text params (state g mid))
      → HasCleanDisk (state g mid) → HasCleanDisk (state g new) → (db : Trees)
      → (state g new).may_leave db → (state g old).may_leave db
  spared_clean first last early late db left = elim (last.crash late db left) [
    | inl before ↦ elim (first.crash early db before) [ inl it ↦ it | inr never ↦ absurd never ]
    | inr commits ↦ absurd (never_commits text params (state g mid) db plain_mid commits)
  ]

-- a query that was prepared commits nothing
pub spared_after : {S : Type 0} (g : Ghosts S) (old mid new : Held S) (sql text : List ℕ) (params : Row)
    → KnownPlain g old sql → IsPrepared g old mid sql text
    → Survives (state g old) (state g mid) (λ _. ⊥)
    → Survives (state g mid) (state g new) (CommitsShowing text params (state g mid))
    → Spares g old new
spared_after g old mid new sql text params plain prepared first last clean =
    let early : HasCleanDisk (state g mid) = omega (arith, last.clean, clean) in
    let start : HasCleanDisk (state g old) = omega (arith, first.clean, early) in
    let it = prepared early in
    spared_clean g old mid new sql text params start (plain start) it.1 it.0 first last early clean

-- ---- rows that are handed over

module _ {S : Type 0} (g : Ghosts S) (sql text : List ℕ) (params : Row) (old mid : Held S)
    (plain : KnownPlain g old sql) (prepared : IsPrepared g old mid sql text)
    (survives : Survives (state g old) (state g mid) (λ _. ⊥)) where
  pub plain_text : HasCleanDisk (state g mid) → IsTrue (state g mid).is_open
      → IsPlain (understood mid.schema text)
  plain_text early live =
      let start : HasCleanDisk (state g old) = omega (arith, survives.clean, early) in
      plain_mid g old mid mid sql text params start (plain start) (prepared early).1 (prepared early).0

  module _ (first : Held S) (clean : HasCleanDisk (state g first))
      (commits : Survives (state g mid) (state g first) (CommitsShowing text params (state g mid)))
      (begins : HasBegun g text params mid first) where
    early : HasCleanDisk (state g mid)
    early = omega (arith, commits.clean, clean)

    start : HasCleanDisk (state g old)
    start = omega (arith, survives.clean, early)

    pub begun_after : IsUnchanged (state g mid) (state g first)
    begun_after = (begun g text params mid (plain_text early) first begins).1

    pub was_prepared : IsTrue (state g old).is_open
    was_prepared = (prepared early).1.0.was_open

    module _ (new : Held S) where
      pub handed_after : (had has : List Row → Type 0) → had [] → (r : Result (Unit {0}) Error)
          → OnOk r (HandsAll g first new had has)
          → OnOk r ((all : List Row) × Shown sql params (state g old) (state g new) all × has all)
      handed_after had has fresh (Err e) hands = tt
      handed_after had has fresh (Ok u) hands =
          let (all, shown, takes) = shown_if g text params mid (plain_text early) first new
          begins had has fresh (Ok u) hands in (
            all,
            shown_old g old mid new sql text params start (plain start) (prepared early).1
                (prepared early).0 all shown,
            takes,
          )

      pub kept_after : (IsTrue (state g old).is_open → (state g old).now ≡ (state g old).committed)
          → IsTrue (state g new).is_open → IsLeft g first new → ShowsAsBefore g old new
      kept_after settled live left = kept_by_either g old mid new sql text params start (plain start)
          (prepared early).1 (prepared early).0 settled live
          (left_then g text params mid (plain_text early) first new begins left)

  pub kept_refused : (new : Held S)
      → Survives (state g mid) (state g new) (CommitsShowing text params (state g mid))
      → HasCleanDisk (state g new)
      → (IsTrue (state g old).is_open → (state g old).now ≡ (state g old).committed)
      → IsTrue (state g new).is_open → (e : Error)
      → FailsToQuery text params (state g mid) (state g new) e → ShowsAsBefore g old new
  kept_refused new commits clean settled live e fails =
      let early : HasCleanDisk (state g mid) = omega (arith, commits.clean, clean) in
      let start : HasCleanDisk (state g old) = omega (arith, survives.clean, early) in
      kept_by_either g old mid new sql text params start (plain start) (prepared early).1
      (prepared early).0 settled live (failed text params (state g mid) (state g new) e fails)

  pub spared_handed : (new : Held S)
      → Survives (state g mid) (state g new) (CommitsShowing text params (state g mid)) → Spares g old new
  spared_handed new commits =
      spared_after g old mid new sql text params plain prepared survives commits

pub spared_then : {S : Type 0} (g : Ghosts S) (a b c : Held S)
    → doubt (state g b).is_clean ≤ doubt (state g c).is_clean → Spares g a b → Spares g b c → Spares g a c
spared_then g a b c doubted first last clean db left =
    first (omega (arith, doubted, clean)) db (last clean db left)

-- ---- what every call leaves

-- of a text that was not prepared
pub reads_unprepared : {S : Type 0} (g : Ghosts S) (old new : Held S) → StaysShown g old new
    → new.in_transaction ≡ false → Survives (state g old) (state g new) (λ _. ⊥) → OnlyReads g old new
reads_unprepared g old new kept mode survives = record {
  kept = kept;
  mode = mode;
  limit = survives.limit;
  doubt = survives.clean;
  faults = survives.counts;
  shield = survives.shield;
  spared = λ clean db left. elim (survives.crash clean db left) [ inl it ↦ it | inr never ↦ absurd never ];
}

-- of a text that was prepared, and then run
pub reads_prepared : {S : Type 0} (g : Ghosts S) (old mid new : Held S) (Committed : Trees → Type 0)
    → StaysShown g old new → new.in_transaction ≡ false → Spares g old new
    → Survives (state g old) (state g mid) (λ _. ⊥) → Survives (state g mid) (state g new) Committed
    → OnlyReads g old new
reads_prepared g old mid new Committed kept mode spared first last = record {
  kept = kept;
  mode = mode;
  limit = last.limit ∙ first.limit;
  doubt = omega (arith, first.clean, last.clean);
  faults = omega (arith, first.counts, last.counts);
  shield = λ s. last.shield (first.shield s);
  spared = spared;
}

pub remembers_itself : {S : Type 0} (g : Ghosts S) (h : Held S) → Remembers g h h
remembers_itself g h = record {
  limit = refl;
  doubt = omega arith;
  faults = omega arith;
  shield = λ s. s;
  spared = λ clean db left. left;
}

-- what holds of the schema that is shown, if what was called only reads
pub still_held : {S : Type 0} (g : Ghosts S) (old new : Held S) (Is : Schema → Type 0) → OnlyReads g old new
    → Holds g old (λ (db : Database). Is db.schema) → Holds g new (λ (db : Database). Is db.schema)
still_held g old new Is reads holds clean live =
    let kept = reads.kept clean live in
    subst (λ (db : Database). Is db.schema) (sym kept.now) (holds (omega (arith, reads.doubt, clean))
    kept.was_open)

pub remembers_survived : {S : Type 0} (g : Ghosts S) (old new : Held S)
    → Survives (state g old) (state g new) (λ _. ⊥) → Remembers g old new
remembers_survived g old new survives = record {
  limit = survives.limit;
  doubt = survives.clean;
  faults = survives.counts;
  shield = survives.shield;
  spared = λ clean db left. elim (survives.crash clean db left) [ inl it ↦ it | inr never ↦ absurd never ];
}

pub remembers_then : {S : Type 0} (g : Ghosts S) (a b c : Held S) → Remembers g a b → Remembers g b c
    → Remembers g a c
remembers_then g a b c first last = record {
  limit = last.limit ∙ first.limit;
  doubt = omega (arith, first.doubt, last.doubt);
  faults = omega (arith, first.faults, last.faults);
  shield = λ s. last.shield (first.shield s);
  spared = spared_then g a b c last.doubt first.spared last.spared;
}

-- of a query whose rows are handed over
pub reads_handed : {S : Type 0} (g : Ghosts S) (old mid first new : Held S) (Committed : Trees → Type 0)
    → StaysShown g old new → new.in_transaction ≡ false → Spares g old first
    → Survives (state g old) (state g mid) (λ _. ⊥) → Survives (state g mid) (state g first) Committed
    → Remembers g first new → OnlyReads g old new
reads_handed g old mid first new Committed kept mode spared prepared begun last = record {
  kept = kept;
  mode = mode;
  limit = last.limit ∙ begun.limit ∙ prepared.limit;
  doubt = omega (arith, prepared.clean, begun.clean, last.doubt);
  faults = omega (arith, prepared.counts, begun.counts, last.faults);
  shield = λ s. last.shield (begun.shield (prepared.shield s));
  spared = spared_then g old first new last.doubt spared last.spared;
}

-- ---- a transaction

pub may_make : {S : Type 0} (g : Ghosts S) (old begun mid new : Held S)
    (Changes : Tables → Tables → Type 0) → begun ≡ record old { in_transaction = true }
    → (HasCleanDisk (state g mid) → Makes g begun mid Changes) → Spares g begun mid
    → Survives (state g mid) (state g new) (λ db. db ≡ (state g mid).now.trees)
    → MayMake g old new Changes
may_make {S = S} g old begun mid new Changes is made spared last clean db left =
    let early : HasCleanDisk (state g mid) = omega (arith, last.clean, clean) in
    elim (last.crash clean db left) [
      | inl before ↦ inl (subst (λ (h : Held S). (state g h).may_leave db) is (spared early db before))
      | inr now ↦ (let done : Makes g (record old { in_transaction = true }) mid Changes =
          subst (λ h. Makes g h mid Changes) is (made early) in
          inr (record {
            was_open = done.was_open;
            desk = subst (λ trees. IsDesk (record {
              schema = desk_in (state g old).now.schema;
              trees = trees;
            })) (sym now)
                (subst (λ schema. IsDesk (record { schema = schema; trees = (state g mid).now.trees }))
                (done.desk.schema.is ∙ ap desk_with done.beside) done.desk);
            sound = subst (λ trees. IsDatabase (record {
              schema = desk_in (state g old).now.schema;
              trees =
                  trees;
            })) (sym now)
                (subst (λ schema. IsDatabase (record { schema = schema; trees = (state g mid).now.trees }))
                (done.desk.schema.is ∙ ap desk_with done.beside) done.sound);
            changed = subst (λ trees. Changes (tables_of (state g old).now.trees) (tables_of trees))
                (sym now) done.changed;
          }))
    ]

-- what was made is committed
pub committed : {S : Type 0} (g : Ghosts S) (old begun mid new : Held S)
    (Changes : Tables → Tables → Type 0)
    → begun ≡ record old { in_transaction = true } → Makes g begun mid Changes
    → Shows (state g mid) (state g new) (state g mid).now (state g mid).now false
    → Commits g old new Changes
committed g old begun mid new Changes begins made shown =
    let done : Makes g (record old { in_transaction = true }) mid Changes =
    subst (λ h. Makes g h mid Changes) begins made in
    record {
      was_open = done.was_open;
      is_open = shown.is_open;
      settled = shown.now_is ∙ sym shown.committed_is;
      desk = subst IsDesk (sym shown.now_is) done.desk;
      beside = ap (λ (db : Database). beside_of db.schema) shown.now_is ∙ done.beside;
      changed = subst (λ (db : Database). Changes (tables_of (state g old).now.trees)
          (tables_of db.trees))
          (sym shown.now_is) done.changed;
    }
