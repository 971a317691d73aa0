-- From what a query shows to the rows of the tables.
use Rattle.std.proofs.Common.{◌≡◌, ◌⊎◌, inl, inr, ℕ, List, [], ◌∷◌, ◌++◌, map, filter, Bool, true, false, cond, None, Some, Option, IsTrue, Ok, Err, Result, refl, sym, ap, ap₂, subst, ◌∙◌, IfOk, OnOk, not, ℤ, ◌&&◌, ◌||◌, if◌then◌else◌, Ordering, Less, Equal, Greater}
use Rattle.std.specs.List.{flat_map, list_all}
use Rattle.std.specs.List.Sorted.{IsPermutation}
use Rattle.std.proofs.lemmas.List.Sorted.{IsPermutation-map}
use Rattle.std.specs.Ordering.{is_eq, is_ne}
use Rattle.sqlite.specs.Order.{Row, value_cmp}
use Rattle.sqlite.specs.declared.types.Value.{Value}
use Rattle.sqlite.specs.declared.types.Value.TheVariants.{Null, Int, Real, Text, Blob}
use Rattle.sqlite.specs.declared.error.Error.{Error}
use Rattle.sqlite.specs.Collation.TheVariants.{Binary}
use Rattle.sqlite.specs.Term.{Term, Env, eval_all, holds}
use Rattle.sqlite.specs.Query.{Query, Join, matches, IsAnswer, output, Output}
use Rattle.sqlite.specs.Program.{overlay}
use Rattle.sqlite.specs.Ops.{binary, is_true, is_null, truth, or3, from_truth}
use Rattle.sqlite_value.specs.declared.keys.Key.{Key}
use Rattle.sqlite_sql.specs.declared.ops.BinaryOp.TheVariants.{Compare, Or}
use Rattle.sqlite_sql.specs.declared.ops.CompareOp.TheVariants.{Eq, Ne, Lt, Le, Gt, Ge}
use Rattle.sqlite_schema.specs.declared.command.Returning.{Returning}
use Rattle.sqlite_resolve.specs.declared.compiled.Compiled.{Compiled}
use Rattle.sqlite_resolve.specs.declared.error.CompileError.{CompileError}
use Rattle.sqlite.specs.Listing.{understood, reads_listing}
use Rattle.sqlite.specs.Command.TheVariants.{Select}
use Rattle.sqlite.specs.Effect.{Database, Reads}
use Rattle.sqlite.specs.Schema.{Schema}
use Rattle.sqlite.specs.State.{State, HasCleanDisk, Shown, ShowsRows, FailsToQuery, FailsToShow, IsUnchanged, IsRolledBack, IsNotRun}
use Rattle.sqlite.specs.Store.{Ghosts}
use Rattle.sqlite.specs.Held.{Held, state}
use Rattle.sqlite_value.proofs.OrderLemmas.{value_cmp-Null, value_cmp-apart}
use Rattle.sqlite_keyed.proofs.ListLemmas.{map-map}
use Rattle.sqlite.proofs.Callers.{IsPlain, reads_as, command_of}
use Rattle.desk_sql.specs.Rows.{IsDesk, Tables, tables_of, Lists, is_text, is_same, differs, is_at_most, is_at_least, is_below, is_above}
use Rattle.desk_sql.specs.Effects.{ShowsAsBefore}
use Rattle.desk_sql.specs.Statements.{IsSureGiven, IsSureMeaning, MayRead, Selects}
use Rattle.desk_sql.proofs.lemmas.QueryTexts.{IsQueryIn, query_of}

-- ---- the connection was open, and shows what it showed

showed : (old new : State) (text : List ℕ) (c : Compiled) (params : Row) (rows : List Row)
    (r : Option Returning) → ShowsRows old new text c params rows r
    → IsTrue old.is_open × IsTrue new.is_open
showed old new text c params rows None h = (h.3.0.was_open, h.3.0.is_open)
showed old new text c params rows (Some what) h = (h.1.shown.was_open, h.1.shown.is_open)

pub was_open : (text : List ℕ) (params : Row) (old new : State) (rows : List Row)
    → Shown text params old new rows → IsTrue old.is_open
unfolding Shown
was_open text params old new rows h = (showed old new text h.0 _ rows h.0.returning h.2).0

pub is_open : (text : List ℕ) (params : Row) (old new : State) (rows : List Row)
    → Shown text params old new rows → IsTrue new.is_open
unfolding Shown
is_open text params old new rows h = (showed old new text h.0 _ rows h.0.returning h.2).1

unchanged_if : (old new : State) (text : List ℕ) (c : Compiled) (params : Row) (rows : List Row)
    (r : Option Returning) → r ≡ None → ShowsRows old new text c params rows r → IsUnchanged old new
unchanged_if old new text c params rows None none h = h.3
unchanged_if old new text c params rows (Some what) none h = cc

pub unmoved : (text : List ℕ) (params : Row) (old new : State) (rows : List Row)
    → IsPlain (understood old.now.schema text) → Shown text params old new rows → IsUnchanged old new
unfolding Shown
unmoved text params old new rows plain h = unchanged_if old new text h.0 _ rows h.0.returning
    (subst IsPlain h.1.is plain).0 h.2

failed_to_show : (old new : State) (text : List ℕ) (c : Compiled) (params : Row) (e : Error)
    (r : Option Returning) → FailsToShow old new text c params e r → IsUnchanged old new
    ⊎ IsRolledBack old new
failed_to_show old new text c params e None h = inl h.3
failed_to_show old new text c params e (Some what) (inl h) = inl h.1
failed_to_show old new text c params e (Some what) (inr h) = inr h.3

pub failed : (text : List ℕ) (params : Row) (old new : State) (e : Error)
    → FailsToQuery text params old new e
    → IsUnchanged old new ⊎ IsRolledBack old new
unfolding FailsToQuery IsNotRun
failed text params old new e (inl (inl h)) = inl h.1
failed text params old new e (inl (inr h)) = inr h.3
failed text params old new e (inr h) = failed_to_show old new text h.0 _ e h.0.returning h.2

pub unprepared : (text : List ℕ) (params : Row) (old new : State) (e : Error)
    → IsNotRun old new text params e → IsUnchanged old new ⊎ IsRolledBack old new
unfolding IsNotRun
unprepared text params old new e (inl h) = inl h.1
unprepared text params old new e (inr h) = inr h.3

module _ {S : Type 0} (g : Ghosts S) (old new : Held S) where
  if_unchanged : IsUnchanged (state g old) (state g new) → ShowsAsBefore g old new
  if_unchanged h = record { was_open = h.0.was_open; now = h.0.now_is; committed = h.0.committed_is }

  pub if_either : (IsTrue (state g old).is_open → (state g old).now ≡ (state g old).committed)
      → IsTrue (state g new).is_open → IsUnchanged (state g old) (state g new)
      ⊎ IsRolledBack (state g old) (state g new) → ShowsAsBefore g old new
  if_either settled live (inl h) = if_unchanged h
  if_either settled live (inr h) =
      let was = h.was_open live in
      let back = h.undone live in
      record { was_open = was; now = back.0 ∙ sym (settled was); committed = back.1 }

-- an answer comes from an open connection alone
pub open_if : {V : Type 0} (items : V → List Row) (text : List ℕ) (params : Row) (old new : State)
    (r : Result V Error) → IfOk r (λ v. Shown text params old new (items v))
    → OnOk r (IsTrue old.is_open)
open_if items text params old new (Ok v) shown = was_open text params old new (items v) shown
open_if items text params old new (Err e) shown = tt

-- and leaves it open
pub open_after : {V : Type 0} (items : V → List Row) (text : List ℕ) (params : Row) (old new : State)
    (r : Result V Error)
    → (HasCleanDisk new → IfOk r (λ v. Shown text params old new (items v)))
    → OnOk r (HasCleanDisk new → IsTrue old.is_open → IsTrue new.is_open)
open_after items text params old new (Ok v) shown =
    λ clean was. is_open text params old new (items v) (shown clean)
open_after items text params old new (Err e) shown = tt

-- ---- the answer of a query

-- what a text that is this query may show is its answer
pub may_answer : {schema : Schema} (text : List ℕ) (query : Query) (names : List (List ℕ))
    → IsQueryIn schema text query names → (params : Row) (db : Database) (rows : List Row)
    → MayRead (understood schema text) db params rows → IsAnswer query (overlay db.trees []) params rows
may_answer {schema} text query names known params db rows h =
    (by_command (understood schema text) known.is h).answer Null where
      by_command : (r : Result Compiled CompileError) → command_of r
          ≡ Select (record { lets = []; body = query }) names → MayRead r db params rows
          → Reads (Select (record { lets = []; body = query }) names) db params rows
      by_command (Ok c) is read = subst (λ k. Reads k db params rows) is read
      by_command (Err e) is read = absurd read

module _ {schema : Schema} (text : List ℕ) (from : Join) (terms : List Term) (project : List Term)
    (order : List (Term × Key))
    (names : List (List ℕ)) (known : IsQueryIn schema text (query_of from terms project order) names)
  where
    abbrev query : Query
    query = query_of from terms project order

    pub answer_rows : (params : Row) (db : Database) (rows : List Row)
        → IsAnswer query (overlay db.trees []) params rows
        → IsPermutation (map (eval_all project) (matches (overlay db.trees []) terms from (params ∷ [])))
        rows
    answer_rows params db rows a =
        let all = matches (overlay db.trees []) terms from (params ∷ []) in
        let kept : a.kept ≡ map (output query) all = a.distinct ∙ ap (map (output query)) a.grouped in
        let second : map (λ (o : Output). o.1) a.kept ≡ map (eval_all project) all =
        ap (map (λ (o : Output). o.1)) kept ∙ map-map (λ (o : Output). o.1) (output query) all in
        subst (λ xs. IsPermutation xs rows) second
        (subst (IsPermutation (map (λ (o : Output). o.1) a.kept))
        (sym a.shown) (IsPermutation-map (λ (o : Output). o.1) a.kept a.ordered a.same))

-- what is shown, a text may show
pub shown_read : {schema : Schema} (text : List ℕ) (params : Row) (old new : State) (rows : List Row)
    → old.now.schema ≡ schema
    → IsPlain (understood schema text) → reads_listing schema text ≡ false
    → Shown text params old new rows → MayRead (understood schema text) old.now params rows
shown_read {schema} text params old new rows same plain unlisted h =
    by_command (understood schema text) plain (reads_as text params old new schema same
    (command_of (understood schema text)) refl plain unlisted rows h) where
      by_command : (r : Result Compiled CompileError) → IsPlain r
          → Reads (command_of r) old.now params rows
          → MayRead r old.now params rows
      by_command (Ok c) is read = read
      by_command (Err e) is read = absurd is

plain_in : (schema : Schema) (text : List ℕ) (params : Row) (r : Result Compiled CompileError)
    → IsSureMeaning schema text params r → IsPlain r
plain_in schema text params (Ok c) sure = (sure.bare, sure.timeless)
plain_in schema text params (Err e) sure = absurd sure

pub sure_plain : (schema : Schema) (text : List ℕ) (params : Row) → IsSureGiven schema text params
    → IsPlain (understood schema text)
sure_plain schema text params sure = plain_in schema text params _ sure.means

-- what is shown was selected
pub selected : (text : List ℕ) (params : Row) (cells : List ℕ) (wanted : Tables → List Row)
    → Selects text params cells wanted → (old new : State) (rows : List Row) → IsDesk old.now
    → Shown text params old new rows → Lists cells (wanted (tables_of old.now.trees)) rows
selected text params cells wanted known old new rows desk h = known.rows old.now rows desk
    (shown_read text params old new rows refl
    (sure_plain old.now.schema text params (known.sure old.now.schema desk.schema))
    (known.sure old.now.schema desk.schema).unlisted h)

kept_first : {E : Type 0} (f : E → Row) (e : E) (x : Row) → f e ≡ x → (a b : Bool) → a ≡ b
    → (es : List E) (xs : List Row) → map f es ≡ xs → map f (cond a (e ∷ []) [] ++ es)
    ≡ cond b (x ∷ xs) xs
kept_first f e x at true true same es xs more = ap₂ (λ y ys. y ∷ ys) at more
kept_first f e x at false false same es xs more = more
kept_first f e x at true false same es xs more = cc
kept_first f e x at false true same es xs more = cc

-- the rows of one table that pass, as they are shown
pub scanned : (env : Row → Env) (terms : List Term) (project : List Term) (show : Row → Row)
    (wanted : Row → Bool) → ((r : Row) → eval_all project (env r) ≡ show r)
    → ((r : Row) → list_all (holds (env r)) terms ≡ wanted (show r)) → (rows : List Row)
    → map (eval_all project) (flat_map (λ r. cond (list_all (holds (env r)) terms) (env r ∷ []) [])
    rows)
    ≡ filter wanted (map show rows)
scanned env terms project show wanted shown passes [] = refl
scanned env terms project show wanted shown passes (r ∷ rows) =
    kept_first (eval_all project) (env r) (show r) (shown r) _ _ (passes r) _ _
    (scanned env terms project show wanted shown passes rows)

-- ---- SQL's comparisons

truth_of : (b : Bool) → is_true (from_truth (Some b)) ≡ b
truth_of true = refl
truth_of false = refl

-- SQL's = with a text, which is not true of NULL
pub equals_text : (v : Value) (t : List ℕ) → is_true (binary (Compare Eq Binary) v (Text t))
    ≡ is_text v t
unfolding binary
equals_text Null t = rw value_cmp-Null
equals_text (Int n) t = truth_of _
equals_text (Real n) t = truth_of _
equals_text (Text n) t = truth_of _
equals_text (Blob n) t = truth_of _

pub equals : (a b : Value) → is_true (binary (Compare Eq Binary) a b) ≡ is_same a b
unfolding binary
equals Null b = refl
equals (Int n) Null = sym (ap is_eq (value_cmp-apart (Int n) Null (λ e. cc)))
equals (Int n) (Int m) = truth_of _
equals (Int n) (Real m) = truth_of _
equals (Int n) (Text m) = truth_of _
equals (Int n) (Blob m) = truth_of _
equals (Real n) Null = sym (ap is_eq (value_cmp-apart (Real n) Null (λ e. cc)))
equals (Real n) (Int m) = truth_of _
equals (Real n) (Real m) = truth_of _
equals (Real n) (Text m) = truth_of _
equals (Real n) (Blob m) = truth_of _
equals (Text n) Null = sym (ap is_eq (value_cmp-apart (Text n) Null (λ e. cc)))
equals (Text n) (Int m) = truth_of _
equals (Text n) (Real m) = truth_of _
equals (Text n) (Text m) = truth_of _
equals (Text n) (Blob m) = truth_of _
equals (Blob n) Null = sym (ap is_eq (value_cmp-apart (Blob n) Null (λ e. cc)))
equals (Blob n) (Int m) = truth_of _
equals (Blob n) (Real m) = truth_of _
equals (Blob n) (Text m) = truth_of _
equals (Blob n) (Blob m) = truth_of _

pub ne_is : (o : Ordering) → is_ne o ≡ not (is_eq o)
ne_is Less = refl
ne_is Equal = refl
ne_is Greater = refl

pub compared : (v : Value) (b : Bool) → is_true (if is_null v || false then Null else from_truth (Some b))
    ≡ (not (is_null v) && b)
compared Null b = refl
compared (Int n) b = truth_of b
compared (Real x) b = truth_of b
compared (Text t) b = truth_of b
compared (Blob t) b = truth_of b

-- SQL's comparisons with a number
pub le_number : (v : Value) (n : ℤ) → is_true (binary (Compare Le Binary) v (Int n)) ≡ is_at_most v n
unfolding binary
le_number v n = compared v _

pub ge_number : (v : Value) (n : ℤ) → is_true (binary (Compare Ge Binary) v (Int n)) ≡ is_at_least v n
unfolding binary
ge_number v n = compared v _

pub lt_number : (v : Value) (n : ℤ) → is_true (binary (Compare Lt Binary) v (Int n)) ≡ is_below v n
unfolding binary
lt_number v n = compared v _

pub gt_number : (v : Value) (n : ℤ) → is_true (binary (Compare Gt Binary) v (Int n)) ≡ is_above v n
unfolding binary
gt_number v n = compared v _

or_true : (p q x y : Bool)
    → is_true (from_truth (or3 (truth (if p || false then Null else from_truth (Some x)))
    (truth (if q || false then Null else from_truth (Some y)))))
    ≡ ((not p && x) || (not q && y))
or_true true true x y = refl
or_true true false x true = refl
or_true true false x false = refl
or_true false true true y = refl
or_true false true false y = refl
or_true false false true true = refl
or_true false false true false = refl
or_true false false false true = refl
or_true false false false false = refl

pub either_true : (v w : Value) (t u : List ℕ) → is_true
    (binary Or (binary (Compare Ne Binary) v (Text t)) (binary (Compare Ne Binary) w (Text u)))
    ≡ (differs v (Text t) || differs w (Text u))
unfolding binary
either_true v w t u = or_true (is_null v) (is_null w) _ _
    ∙ ap₂ (λ a b. (not (is_null v) && a) || (not (is_null w) && b)) (ne_is (value_cmp v (Text t)))
    (ne_is (value_cmp w (Text u)))

-- <> with NULL is never true
or_null : (p q x y : Bool)
    → is_true (from_truth (or3 (truth (if p || false then Null else from_truth (Some x)))
    (truth (if q || true then Null else from_truth (Some y)))))
    ≡ (not p && x)
or_null true true x y = refl
or_null true false x y = refl
or_null false true true y = refl
or_null false true false y = refl
or_null false false true y = refl
or_null false false false y = refl

pub either_null : (v w : Value) (t : List ℕ) → is_true
    (binary Or (binary (Compare Ne Binary) v (Text t)) (binary (Compare Ne Binary) w Null))
    ≡ differs v (Text t)
unfolding binary
either_null v w t = or_null (is_null v) (is_null w) _ _
    ∙ ap (λ b. not (is_null v) && b) (ne_is (value_cmp v (Text t)))
