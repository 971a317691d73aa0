-- Why a reader answers that the store failed.
use Rattle.std.proofs.Common.{◌≡◌, ◌≢◌, ◌≤◌, ◌<◌, ◌^◌, ◌⊎◌, ◌∙◌, ◌∷◌, inl, inr, ℕ, List, [], length, true, false, cond, Bool, Option, Some, None, Result, Ok, Err, IfErr, IfOk, OnErr, OnOk, IsTrue, IsPermutation, map, sym, ap, subst, true≢false, arith}
use Rattle.std.specs.Prelude.{IsSome}
use Rattle.desk_store.specs.Changes.{IsFitting}
use Rattle.desk_store.specs.declared.change.Change.TheVariants.{Close}
use Rattle.std.specs.List.{AllByRecursion, AllZip, filter, find}
use Rattle.std.proofs.lemmas.List.{append-nil}
use Rattle.sqlite_trees.specs.declared.store.Store.{Ghosts}
use Rattle.sqlite_value.specs.Order.{Row}
use Rattle.sqlite.specs.declared.error.Error.{Error}
use Rattle.sqlite.specs.declared.error.Error.TheVariants.{SqliteFailure}
use Rattle.sqlite.specs.declared.error.ErrorCode.TheVariants as code
use Rattle.sqlite.specs.State.{HasCleanDisk}
use Rattle.sqlite.specs.Held.{Held, state}
use Rattle.volume4d.specs.Volume.{Block}
use Rattle.desk_rules.specs.Limits.{max_priority, max_plans}
use Rattle.desk_rules.specs.declared.plan.PlanRow.{PlanRow}
use Rattle.desk_sql.specs.Statements.{HasDiskFailed, IsRefusal}
use Rattle.desk_store.specs.World.{is_own, Filed, World, plans_of, stored_of, IsContent, IsPlan}
use Rattle.desk_store.specs.declared.fault.StoreFault.{StoreFault}
use Rattle.desk_store.specs.declared.fault.StoreFault.TheVariants.{Store}
use Rattle.desk_tables.specs.Store.{BlamesStore, one_or_none, own_of, HasTooManySpans}
use Rattle.row_codec.specs.RowsRead.{IsReportedAs, IsHead, IsVolumeAt, BeginNoListing, HasCollected, HasNoArea, listing_rows, IsNoHeld}
use Rattle.row_codec.specs.Tables.{area_rows, plan_rows, row_of_plan, volume_rows, AreTables}
use Rattle.row_codec.specs.declared.values.PlanHead.{PlanHead}
use Rattle.desk_sql.specs.Rows.{columns_from_first, tables_of}
use Rattle.desk_sql.specs.Queries.{IsTakenInPart}
use Rattle.std.specs.Result.{IsErrAnd}
use Rattle.std.proofs.lemmas.List.{length-map}
use Rattle.std.proofs.lemmas.List.Sorted.{length_permutation}
use Rattle.row_codec.proofs.lemmas.Order.{ArePlans}
use Rattle.row_codec.proofs.lemmas.Collector.{AreLow, listing_short, never_cut}
use Rattle.desk_tables.proofs.ListingLemmas.{area_read, head_read}
use Rattle.desk_tables.proofs.SlabLemmas.{spans_read}

no_limit : {S : Type 0} (h : Held S) → h.step_limit ≡ None → ¬ IsSome h.step_limit
no_limit h unlimited some = absurd (true≢false (sym (subst IsSome unlimited some)))

-- the fault that an error of SQLite is
module _ {S : Type 0} (g : Ghosts S) where
  pub blamed : (old new : Held S) (error : Error) (fault : StoreFault) → old.step_limit ≡ None
      → (fault ≡ Store → error ≢ SqliteFailure code.OutOfMemory)
      → (HasCleanDisk (state g new) → IsTrue (state g new).is_open → IsRefusal g old new error)
      → BlamesStore g old new fault
  blamed old new error fault unlimited other refusal clean live is = elim (refusal clean live) [
    | inl memory ↦ absurd (other is memory)
    | inr (inl disk) ↦ disk
    | inr (inr steps) ↦ absurd (no_limit old unlimited steps.1)
  ]

  pub blamed_since : (old mid new : Held S) (fault : StoreFault)
      → (state g old).faults ≤ (state g mid).faults → BlamesStore g mid new fault
      → BlamesStore g old new fault
  blamed_since old mid new fault faults h clean live is = omega (arith, faults, h clean live is)

pub err_weaker : {V : Type 0} (r : Result V StoreFault) {P : StoreFault → Type 0}
    (Q : StoreFault → Type 0) → IfErr r P → ((e : StoreFault) → P e → Q e) → IfErr r Q
err_weaker (Ok v) Q h gives = tt
err_weaker (Err e) Q h gives = gives e h

-- what holds of a refusal
pub on_refused : {V E A : Type 0} (P : E → Type 0) (r : Result V E) → OnErr r A → (A → IfErr r P)
    → IfErr r P
on_refused P (Ok v) holds gives = tt
on_refused P (Err e) holds gives = gives holds

-- what is said of an answer of SQLite
pub reported_value : {V : Type 0} (P : V → Type 0) (answer : Result V Error) (result : Result V StoreFault)
    → IsReportedAs answer result → IfOk answer P → IfOk result P
reported_value P (Ok v) result is holds = subst (λ r. IfOk r P) (sym is) holds
reported_value P (Err e) (Err f) is holds = tt
reported_value P (Err e) (Ok v) is holds = absurd is

pub reported_cause : {S V : Type 0} (g : Ghosts S) (old new : Held S) (answer : Result V Error)
    (result : Result V StoreFault) → old.step_limit ≡ None → IsReportedAs answer result
    → (HasCleanDisk (state g new) → IsTrue (state g new).is_open → IfErr answer (IsRefusal g old new))
    → IfErr result (BlamesStore g old new)
reported_cause g old new (Ok v) result unlimited is refusal =
    subst (λ r. IfErr r (BlamesStore g old new)) (sym is) tt
reported_cause g old new (Err e) (Err f) unlimited is refusal = blamed g old new e f unlimited is refusal
reported_cause g old new (Err e) (Ok v) unlimited is refusal = absurd is

pub within_bits : (ps : List Filed) → AllByRecursion (λ p. p.row.priority ≤ max_priority) ps
    → AllByRecursion (λ p. p.row.priority < 2 ^ 32) ps
within_bits [] h = tt
within_bits (p ∷ ps) h = (omega (arith, h.0), within_bits ps h.1)

-- what a plan of a content and its rows are not
abbrev pub IsNone : Row → List Row → Type 0
IsNone head rows = (p : PlanRow) → IsPlan p → p.priority < 2 ^ 32 → IsHead head p
    → ¬ AllZip (λ r v. IsVolumeAt r 3 v) rows p.area

abbrev Both : Option Filed → Type 0
Both found = AllByRecursion (λ p. IsPlan p.row) (one_or_none found)
    × AllByRecursion (λ p. p.row.priority < 2 ^ 32) (one_or_none found)

own_within : (o id : List ℕ) (ps : List Filed) → AllByRecursion (λ p. IsPlan p.row) ps
    → AllByRecursion (λ p. p.row.priority < 2 ^ 32) ps
    → AllByRecursion (λ p. IsPlan p.row) (one_or_none (find (is_own o id) ps))
    × AllByRecursion (λ p. p.row.priority < 2 ^ 32) (one_or_none (find (is_own o id) ps))
own_within o id [] h k = (tt, tt)
own_within o id (p ∷ ps) h k = by_test (is_own o id p) (own_within o id ps h.1 k.1) where
  by_test : (b : Bool) → Both (find (is_own o id) ps) → Both (cond b (Some p) (find (is_own o id) ps))
  by_test true ih = ((h.0, tt), (k.0, tt))
  by_test false ih = ih

-- the rows of a stored plan are read
pub plan_reads : (o id : List ℕ) (w : World) (head_rows rows rest : List Row) (head : Row)
    → IsContent w → head_rows ≡ plan_rows (own_of o id w) → rows ≡ volume_rows (own_of o id w) → head_rows
    ≡ head ∷ rest → ¬ IsNone head rows
plan_reads o id w head_rows rows rest head h are volumes some none =
    by_found (find (is_own o id) w.plans)
    (own_within o id w.plans h.rows (within_bits w.plans h.world.priorities)) (sym some ∙ are) volumes where
      by_found : (found : Option Filed) → AllByRecursion (λ p. IsPlan p.row) (one_or_none found)
          × AllByRecursion (λ p. p.row.priority < 2 ^ 32) (one_or_none found)
          → head ∷ rest ≡ plan_rows (one_or_none found) → rows ≡ volume_rows (one_or_none found) → ⊥
      by_found None hp e f = cc
      by_found (Some p) hp e f =
          let is : head ≡ row_of_plan p = cc in
          none p.row hp.0.0 hp.1.0 (subst (λ r. IsHead r p.row) (sym is) (head_read p))
          (subst (λ xs. AllZip (λ r v. IsVolumeAt r 3 v) xs p.row.area)
          (sym (f ∙ append-nil (area_rows p))) (area_read p 0 p.row.area))

-- the first row of a stored plan is its head
pub head_reads : (o id : List ℕ) (w : World) (head_rows rest : List Row) (head : Row) → IsContent w
    → head_rows ≡ plan_rows (own_of o id w) → head_rows ≡ head ∷ rest
    → (p : PlanRow) × (p.priority < 2 ^ 32) × IsHead head p
head_reads o id w head_rows rest head h are some =
    by_found (find (is_own o id) w.plans)
    (own_within o id w.plans h.rows (within_bits w.plans h.world.priorities)) (sym some ∙ are) where
      by_found : (found : Option Filed) → AllByRecursion (λ p. IsPlan p.row) (one_or_none found)
          × AllByRecursion (λ p. p.row.priority < 2 ^ 32) (one_or_none found)
          → head ∷ rest ≡ plan_rows (one_or_none found)
          → (p : PlanRow) × (p.priority < 2 ^ 32) × IsHead head p
      by_found None hp e = cc
      by_found (Some p) hp e =
          let is : head ≡ row_of_plan p = cc in
          (p.row, hp.1.0, subst (λ r. IsHead r p.row) (sym is) (head_read p))

-- a plan that may be closed is stored
pub closed_stored : (operator id : List ℕ) (w : World) → IsFitting (Close operator id) w
    → ¬ (◌≡◌ {A = Option PlanRow} None (stored_of id (plans_of operator w)))
unfolding IsFitting
closed_stored operator id w fits none = none_there (stored_of id (plans_of operator w)) fits.1 none
  where
    none_there : (o : Option PlanRow) → IsSome o → ¬ (None ≡ o)
    none_there None some e = absurd (true≢false (sym some))
    none_there (Some p) some e = cc

-- what takes rows and refuses one that a reading says of
abbrev Or : (List Row → Row → Type 0) → List Row → Row → Error → Type 0
Or P taken row e = (e ≡ SqliteFailure code.OutOfMemory) ⊎ P taken row

failed_by : {S : Type 0} (g : Ghosts S) (old new : Held S) (e : Error) → old.step_limit ≡ None
    → e ≢ SqliteFailure code.OutOfMemory → IsRefusal g old new e → HasDiskFailed g old new
failed_by g old new e unlimited other (inl memory) = absurd (other memory)
failed_by g old new e unlimited other (inr (inl disk)) = disk
failed_by g old new e unlimited other (inr (inr steps)) = absurd (no_limit old unlimited steps.1)

module _ {S : Type 0} (g : Ghosts S) (old new : Held S) (unlimited : old.step_limit ≡ None)
    (IsAnswer : List Row → Type 0) (ps : List Filed) (h : ArePlans ps) (low : AreLow ps)
    (few : length ps ≤ max_plans)
    (are : (rows : List Row) → IsAnswer rows → rows ≡ listing_rows ps) where
  -- a listing of plans is gathered to its end
  pub listing_blamed : (r : Result (Unit {0}) Error) (plans : List PlanRow) (head : Option PlanHead)
      (volumes : List Block)
      → IfErr r (λ e. e ≢ SqliteFailure code.OutOfMemory) × OnOk r (HasNoArea head volumes)
      → IfErr r (IsTakenInPart g old new IsAnswer (Or BeginNoListing))
      → OnOk r ((rows : List Row) × IsAnswer rows × HasCollected plans head volumes rows)
      → HasDiskFailed g old new
  listing_blamed (Ok u) plans head volumes why cut handed =
      let (rows, is, taken) = handed in
      absurd (never_cut plans head volumes ps (taken ps [] h (append-nil rows ∙ are rows is)) why.1)
  listing_blamed (Err e) plans head volumes why cut handed = elim cut [
    | inl refused ↦ failed_by g old new e unlimited why.0 refused
    | inr (inl (taken, row, left, is, inl memory)) ↦ absurd (why.0 memory)
    | inr (inl (taken, row, left, is, inr none)) ↦ absurd (none ps left h low (are _ is))
    | inr (inr (big, rows, is, many)) ↦
        absurd (omega (arith, many, ap length (are rows is), listing_short ps h, few))
  ]

kept_few : (want : Row → Bool) (rows : List Row) → length (filter want rows) ≤ length rows
kept_few want [] = omega arith
kept_few want (r ∷ rows) = by_test (want r) (kept_few want rows) where
  by_test : (b : Bool) → length (filter want rows) ≤ length rows
      → length (cond b (r ∷ filter want rows) (filter want rows)) ≤ length (r ∷ rows)
  by_test true h = omega (arith, h)
  by_test false h = omega (arith, h)

-- spans are read as slabs to the end
pub spans_blamed : {S : Type 0} (g : Ghosts S) (old new : Held S) → old.step_limit ≡ None
    → (want : Row → Bool) (w : World)
    → IsContent w → AreTables (tables_of (state g old).now.trees) w → (r : Result (Unit {0}) Error)
    → IsErrAnd r (λ e. e ≢ SqliteFailure code.OutOfMemory)
    → IfErr r (IsTakenInPart g old new (IsPermutation
    (map columns_from_first (filter want (tables_of (state g old).now.trees).spans)))
    (Or (λ taken row. IsNoHeld row)))
    → HasDiskFailed g old new ⊎ HasTooManySpans (state g old).now
spans_blamed g old new unlimited want w h t (Ok u) why cut = absurd why
spans_blamed g old new unlimited want w h t (Err e) why cut =
    let tables = tables_of (state g old).now.trees in
    elim cut [
      | inl refused ↦ inl (failed_by g old new e unlimited why refused)
      | inr (inl (taken, row, left, is, inl memory)) ↦ absurd (why memory)
      | inr (inl (taken, row, left, is, inr none)) ↦
          absurd (spans_read tables w want taken left row h t is none)
      | inr (inr (big, rows, is, many)) ↦ inr (omega (
        arith,
        many,
        length_permutation (map columns_from_first (filter want tables.spans)) rows is,
        length-map (filter want tables.spans) columns_from_first,
        kept_few want tables.spans,
      ))
    ]
