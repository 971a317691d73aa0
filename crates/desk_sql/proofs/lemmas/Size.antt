-- Rows with short texts can be stored.
use Rattle.std.proofs.Common.{◌≡◌, ◌≤◌, ◌<◌, ◌^◌, ◌+◌, inl, inr, ℕ, ℤ, pos, negsuc, List, [], ◌∷◌, ◌++◌, length, sym, subst, ◌∙◌, arith, ◌==◌, false, true≢false, eq-eqb, refl}
use Rattle.std.specs.List.{AllByRecursion, sum_by}
use Rattle.std.specs.Float.{NotNan}
use Rattle.std.specs.Float.Ieee
use Rattle.std.proofs.lemmas.Nat.Bits.{bit_at-zero}
use Rattle.std.proofs.lemmas.List.Elements.{All-from_recursion}
use Rattle.sqlite.specs.declared.types.Value.TheVariants.{Int, Text, Blob}
use Rattle.sqlite.specs.Order.{Row}
use Rattle.sqlite_value.specs.Order.{number, bytes}
use Rattle.sqlite_trees.specs.View.{IsStorable}
use Rattle.sqlite.specs.Edit.{IsOversized}
use Rattle.sqlite_sql.specs.Catalog.{entry_of}
use Rattle.sqlite_schema.specs.Rules.{table_reals, index_reals}
use Rattle.sqlite_schema.specs.declared.schema.Index.{Index}
use Rattle.sqlite_schema.specs.declared.schema.Table.{Table}
use Rattle.desk_sql.specs.Schema.{operator_table, plan_table, volume_table, span_table, Beside, StandsApart, desk_with}
use Rattle.desk_sql.specs.Rows.{VolumeColumns, SpanColumns, operator_row, plan_row, volume_row, span_row}
use Rattle.desk_sql.specs.Changing.{IsShort}
use Rattle.desk_sql.proofs.lemmas.Beside.{index_behind}

pub whole : (n : ℤ) → NotNan (number (Int n))
unfolding Ieee.is_nan
whole (pos n) = tt
whole (negsuc n) = tt

pub text : (t : List ℕ) → NotNan (number (Text t))
unfolding Ieee.is_nan
text t = tt

pub blob : (t : List ℕ) → NotNan (number (Blob t))
unfolding Ieee.is_nan
blob t = tt

pub storable : (entry : Row) → 0 < length entry → length entry ≤ 2001
    → AllByRecursion (λ v. NotNan (number v)) entry
    → sum_by (λ v. 18 + length (bytes v)) entry ≤ 10 ^ 9 → IsStorable 0 entry
storable entry some few numbers short = record {
  typed = λ c h. absurd (let none = sym (bit_at-zero c) ∙ h in cc);
  columns = (some, few);
  numbers = All-from_recursion (λ v. NotNan (number v)) entry numbers;
  short = short;
}

abbrev operator_at : Table
operator_at = record operator_table { tree = 0 }

abbrev plan_at : Table
plan_at = record plan_table { tree = 2 }

-- no entry of another table's index
other_index : (i is : Index) (tree : ℕ) → i ≡ is → i.table ≡ tree → is.table ≡ tree
other_index i is tree same on = subst (λ (i : Index). i.table ≡ tree) same on

other_tree : (i is : Index) (tree : ℕ) → i ≡ is → i.table ≡ tree → (is.table == tree) ≡ false → ⊥
other_tree i is tree same on other =
    true≢false (sym (eq-eqb is.table tree (other_index i is tree same on)) ∙ other)

module _ {beside : Beside} (away : StandsApart beside) where
  pub operator_stored : (name : List ℕ) (ceiling : ℕ) → IsShort name → (n : ℤ)
      → ¬ IsOversized (desk_with beside) operator_at (Int n ∷ operator_row name ceiling)
  operator_stored name ceiling short n (inl big) = big (
    storable (Int n ∷ operator_row name ceiling) (omega arith) (omega arith)
        (whole n, (text name, (whole (pos ceiling), tt))) (omega (arith, short)),
    omega arith,
  )
  operator_stored name ceiling short n (inr (i, inl is, on, big)) =
      subst (λ (i : Index). ¬ IsStorable (index_reals (table_reals operator_at) i.columns)
      (entry_of i.columns (Int n ∷ operator_row name ceiling))) is big
      (storable (Text name ∷ Int n ∷ []) (omega arith) (omega arith) (text name, (whole n, tt))
      (omega (arith, short)))
  operator_stored name ceiling short n (inr (i, inr (inl is), on, big)) =
      absurd (other_tree i _ 0 is on refl)
  operator_stored name ceiling short n (inr (i, inr (inr (inl is)), on, big)) =
      absurd (other_tree i _ 0 is on refl)
  operator_stored name ceiling short n (inr (i, inr (inr (inr (inl is))), on, big)) =
      absurd (other_tree i _ 0 is on refl)
  operator_stored name ceiling short n (inr (i, inr (inr (inr (inr (inl is)))), on, big)) =
      absurd (other_tree i _ 0 is on refl)
  operator_stored name ceiling short n (inr (i, inr (inr (inr (inr (inr (inl is))))), on, big)) =
      absurd (other_tree i _ 0 is on refl)
  operator_stored name ceiling short n (inr (i, inr (inr (inr (inr (inr (inr (inl is)))))), on, big)) =
      absurd (other_tree i _ 0 is on refl)
  operator_stored name ceiling short n (inr (i, inr (inr (inr (inr (inr (inr (inr (inl is))))))), on, big)) =
      absurd (other_tree i _ 0 is on refl)
  operator_stored name ceiling short n
      (inr (i, inr (inr (inr (inr (inr (inr (inr (inr known))))))), on, big)) =
      absurd (let high = index_behind away i known in omega (arith, high, on))

  pub plan_stored : (operator id : List ℕ) (priority usage aircraft : ℕ) → IsShort operator → IsShort id
      → (n : ℤ) → ¬ IsOversized (desk_with beside) plan_at (Int n
      ∷ plan_row operator id priority usage aircraft)
  plan_stored operator id priority usage aircraft short brief n (inl big) = big (
    storable (Int n ∷ plan_row operator id priority usage aircraft) (omega arith) (omega arith) (
      whole n,
      (
        text operator,
        (
          text id,
          (
            whole (pos priority),
            (
              whole (pos usage),
              (whole (pos aircraft), tt),
            ),
          ),
        ),
      ),
    )
        (omega (arith, short, brief)),
    omega arith,
  )
  plan_stored operator id priority usage aircraft short brief n (inr (i, inl is, on, big)) =
      absurd (other_tree i _ 2 is on refl)
  plan_stored operator id priority usage aircraft short brief n (inr (i, inr (inl is), on, big)) =
      subst (λ (i : Index). ¬ IsStorable (index_reals (table_reals plan_at) i.columns)
      (entry_of i.columns (Int n ∷ plan_row operator id priority usage aircraft))) is big
      (storable (Text operator ∷ Text id ∷ Int n ∷ []) (omega arith) (omega arith)
      (text operator, (text id, (whole n, tt))) (omega (arith, short, brief)))
  plan_stored operator id priority usage aircraft short brief n (inr (i, inr (inr (inl is)), on, big)) =
      absurd (other_tree i _ 2 is on refl)
  plan_stored operator id priority usage aircraft short brief n (inr (i, inr (inr (inr (inl is))), on, big)) =
      absurd (other_tree i _ 2 is on refl)
  plan_stored operator id priority usage aircraft short brief n
      (inr (i, inr (inr (inr (inr (inl is)))), on, big)) =
      absurd (other_tree i _ 2 is on refl)
  plan_stored operator id priority usage aircraft short brief n
      (inr (i, inr (inr (inr (inr (inr (inl is))))), on, big)) =
      absurd (other_tree i _ 2 is on refl)
  plan_stored operator id priority usage aircraft short brief n
      (inr (i, inr (inr (inr (inr (inr (inr (inl is)))))), on, big)) =
      absurd (other_tree i _ 2 is on refl)
  plan_stored operator id priority usage aircraft short brief n
      (inr (i, inr (inr (inr (inr (inr (inr (inr (inl is))))))), on, big)) =
      absurd (other_tree i _ 2 is on refl)
  plan_stored operator id priority usage aircraft short brief n
      (inr (i, inr (inr (inr (inr (inr (inr (inr (inr known))))))), on, big)) =
      absurd (let high = index_behind away i known in omega (arith, high, on))

  abbrev volume_at : Table
  volume_at = record volume_table { tree = 9 }

  abbrev span_at : Table
  span_at = record span_table { tree = 11 }

  pub volume_stored : (v : VolumeColumns) (canon : List ℕ)
      → IsShort v.operator → IsShort v.id → IsShort v.asked → IsShort canon → (n : ℤ)
      → ¬ IsOversized (desk_with beside) volume_at (Int n ∷ volume_row v ++ Blob canon ∷ [])
  volume_stored v canon short brief small little n (inl big) = big (
    storable (Int n ∷ volume_row v ++ Blob canon ∷ []) (omega arith) (omega arith) (
      whole n,
      (
        text v.operator,
        (
          text v.id,
          (
            whole (pos v.place),
            (
              whole v.lower,
              (
                whole v.upper,
                (whole v.start, (whole v.stop, (blob v.asked, (blob canon, tt)))),
              ),
            ),
          ),
        ),
      ),
    ) (omega (arith, short, brief, small, little)),
    omega arith,
  )
  volume_stored v canon short brief small little n
      (inr (i, inl is, on, big)) = absurd (other_tree i _ 9 is on refl)
  volume_stored v canon short brief small little n
      (inr (i, inr (inl is), on, big)) = absurd (other_tree i _ 9 is on refl)
  volume_stored v canon short brief small little n
      (inr (i, inr (inr (inl is)), on, big)) = absurd (other_tree i _ 9 is on refl)
  volume_stored v canon short brief small little n
      (inr (i, inr (inr (inr (inl is))), on, big)) = absurd (other_tree i _ 9 is on refl)
  volume_stored v canon short brief small little n
      (inr (i, inr (inr (inr (inr (inl is)))), on, big)) = absurd (other_tree i _ 9 is on refl)
  volume_stored v canon short brief small little n (inr (i, inr (inr (inr (inr (inr (inl is))))), on, big)) =
      subst (λ (i : Index). ¬ IsStorable (index_reals (table_reals volume_at) i.columns)
      (entry_of i.columns (Int n ∷ volume_row v ++ Blob canon ∷ []))) is big
      (storable (Text v.operator ∷ Text v.id ∷ Int (pos v.place) ∷ Int n ∷ []) (omega arith) (omega arith)
      (text v.operator, (text v.id, (whole (pos v.place), (whole n, tt)))) (omega (arith, short, brief)))
  volume_stored v canon short brief small little n
      (inr (i, inr (inr (inr (inr (inr (inr (inl is)))))), on, big)) =
      absurd (other_tree i _ 9 is on refl)
  volume_stored v canon short brief small little n
      (inr (i, inr (inr (inr (inr (inr (inr (inr (inl is))))))), on, big)) =
      absurd (other_tree i _ 9 is on refl)
  volume_stored v canon short brief small little n
      (inr (i, inr (inr (inr (inr (inr (inr (inr (inr known))))))), on, big)) =
      absurd (let high = index_behind away i known in omega (arith, high, on))

  pub span_stored : (s : SpanColumns) → IsShort s.operator → IsShort s.id → (n : ℤ)
      → ¬ IsOversized (desk_with beside) span_at (Int n ∷ span_row s)
  span_stored s short brief n (inl big) = big (
    storable (Int n ∷ span_row s) (omega arith) (omega arith) (
      whole n,
      (
        text s.operator,
        (
          text s.id,
          (
            whole (pos s.place),
            (
              whole s.first,
              (
                whole s.last,
                (
                  whole s.lower,
                  (whole s.upper, (whole s.start, (whole s.stop, (whole (pos s.priority), tt)))),
                ),
              ),
            ),
          ),
        ),
      ),
    )
        (omega (arith, short, brief)),
    omega arith,
  )
  span_stored s short brief n (inr (i, inr (inr (inr (inr (inr (inr (inl is)))))), on, big)) =
      subst (λ (i : Index). ¬ IsStorable (index_reals (table_reals span_at) i.columns)
      (entry_of i.columns (Int n ∷ span_row s))) is big
      (storable (Text s.operator ∷ Text s.id ∷ Int (pos s.place) ∷ Int s.first ∷ Int n ∷ []) (omega arith)
      (omega arith) (text s.operator, (text s.id, (whole (pos s.place), (whole s.first, (whole n, tt)))))
      (omega (arith, short, brief)))
  span_stored s short brief n (inr (i, inr (inr (inr (inr (inr (inr (inr (inl is))))))), on, big)) =
      subst (λ (i : Index). ¬ IsStorable (index_reals (table_reals span_at) i.columns)
      (entry_of i.columns (Int n ∷ span_row s))) is big
      (storable (Int s.first ∷ Int s.last ∷ Int s.lower ∷ Int s.upper ∷ Int s.start ∷ Int s.stop
      ∷ Int (pos s.priority) ∷ Text s.operator ∷ Text s.id ∷ Int n ∷ []) (omega arith) (omega arith) (
        whole s.first,
        (
          whole s.last,
          (
            whole s.lower,
            (
              whole s.upper,
              (
                whole s.start,
                (
                  whole s.stop,
                  (whole (pos s.priority), (text s.operator, (text s.id, (whole n, tt)))),
                ),
              ),
            ),
          ),
        ),
      )
      (omega (arith, short, brief)))
  span_stored s short brief n (inr (i, inl is, on, big)) = absurd (other_tree i _ 11 is on refl)
  span_stored s short brief n (inr (i, inr (inl is), on, big)) = absurd (other_tree i _ 11 is on refl)
  span_stored s short brief n
      (inr (i, inr (inr (inl is)), on, big)) = absurd (other_tree i _ 11 is on refl)
  span_stored s short brief n
      (inr (i, inr (inr (inr (inl is))), on, big)) = absurd (other_tree i _ 11 is on refl)
  span_stored s short brief n
      (inr (i, inr (inr (inr (inr (inl is)))), on, big)) = absurd (other_tree i _ 11 is on refl)
  span_stored s short brief n
      (inr (i, inr (inr (inr (inr (inr (inl is))))), on, big)) = absurd (other_tree i _ 11 is on refl)
  span_stored s short brief n
      (inr (i, inr (inr (inr (inr (inr (inr (inr (inr known))))))), on, big)) =
      absurd (let high = index_behind away i known in omega (arith, high, on))
