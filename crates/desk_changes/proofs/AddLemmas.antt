-- A row that is added under a free rowid and a free key, and whose parents are there, passes every test.
use Rattle.std.proofs.Common.{◌≡◌, ◌≢◌, ◌<◌, ◌+ℤ◌, pos, ◌⊎◌, inl, inr, ℕ, ℤ, true, false, not, ◌&&◌, List, [], ◌∷◌, None, Some, Option, refl, sym, ap, subst, arith}
use Rattle.std.specs.List.{AllByRecursion, list_any, list_all}
use Rattle.std.proofs.lemmas.Bool.{and_from, and_parts, both_ways, cases_eq, false_from_ne_true, not-true, not_from_false, or_cases, or_left, or_right}
use Rattle.std.proofs.lemmas.Cmp.{tied_itself}
use Rattle.std.proofs.lemmas.Int.{ints}
use Rattle.sqlite_value.proofs.OrderLemmas.{value_cmp_total}
use Rattle.sqlite_sql.specs.Ops.{binary, is_true, from_truth}
use Rattle.std.specs.Ordering.{is_ne}
use Rattle.sqlite.specs.Order.{Row, column}
use Rattle.sqlite.specs.Ops.{fits_i64}
use Rattle.sqlite.specs.declared.types.Value.TheVariants.{Int}
use Rattle.sqlite.specs.Tree.{Trees, rowid, put_row, with_tree, IsTable}
use Rattle.sqlite.specs.View.{is_int}
use Rattle.sqlite.specs.Table.{Table}
use Rattle.sqlite.specs.Edit.{Edit, edit_of, edited, is_taken, next_rowid, with_rowid}
use Rattle.sqlite.specs.Rowids.TheVariants.{Chosen}
use Rattle.sqlite.specs.Source.{Source}
use Rattle.sqlite_rules.specs.Lists.{Has}
use Rattle.sqlite_rules.proofs.ListLemmas.{all_has, some_has, some_from, test_has, test_from}
use Rattle.sqlite_rules.proofs.KeyLemmas.{agree_back, differ_back}
use Rattle.sqlite_rules.proofs.RuleLemmas.{keeps_at, keeps_from, same_table, refers_at, refers_from, parent_is_table}
use Rattle.sqlite_rules.proofs.TableLemmas.{put_has, put_all_keeps}
use Rattle.sqlite_rules.proofs.PlaceLemmas.{next_is_free}
use Rattle.sqlite_schema.specs.Rules.{ParentKey, agree, differ, clashes, guards, has_null, has_parent, is_held, is_key_of, parent_key, Keeps, Refers}
use Rattle.sqlite_schema.specs.declared.schema.Index.{Index}
use Rattle.sqlite_schema.specs.declared.schema.Reference.{Reference}
use Rattle.sqlite_schema.specs.declared.schema.Among.TheVariants.{All}
use Rattle.sqlite_schema.specs.declared.schema.Constraint.TheVariants.{Unique}
use Rattle.desk_sql.specs.Changing.{HasRowids}
use Rattle.desk_changes.proofs.PassLemmas.{Passes, apart, with_here, with_others}
use Rattle.desk_changes.proofs.UpdateStops.{IsGood}
use Rattle.desk_sql.specs.Schema.{Beside, StandsApart, desk_with}

no_differ : (n : ℤ) → differ (Int n) (Int n) ≡ false
unfolding binary
no_differ n = ap (λ o. is_true (from_truth (Some (is_ne o)))) (tied_itself value_cmp_total (Int n))

first_fits : (count : ℕ) (rows : List Row) → 0 < count → HasRowids count rows
    → fits_i64 (next_rowid rows) ≡ true
first_fits count rows some room =
    let same : next_rowid rows +ℤ pos 0 ≡ next_rowid rows = omega (arith, ints) in
    subst (λ z. fits_i64 z ≡ true) same (room.next 0 some)

module _ {beside : Beside} (away : StandsApart beside) where
  module _ (table : Table) (listed : Has (desk_with beside).tables table) (db : Trees) (cells : Row) where
    abbrev rows : List Row
    rows = db table.tree

    abbrev pub added : Row
    added = Int (next_rowid rows) ∷ cells

    -- no row has its key
    abbrev pub IsLone : Type 0
    IsLone = (i : Index) → Has (desk_with beside).indexes i → guards i table ≡ true
        → list_any (λ r. agree i.order i.columns r i.columns added) rows ≡ false

    -- each of its parents is there
    abbrev pub HasParents : Type 0
    HasParents = AllByRecursion (λ ref. has_parent (desk_with beside).tables db added ref ≡ true)
        table.references

    module _ (room : HasRowids 1 rows) (whole : AllByRecursion (λ r. is_int (rowid r) ≡ true) rows) where
      pub free : is_taken rows added ≡ false
      free = next_is_free Chosen rows cells room.rising whole

      -- where each row was there or is this one
      module _ (next : Trees) (here : next table.tree ≡ put_row added rows)
          (others : (t : Table) → Has (desk_with beside).tables t → t.tree ≢ table.tree → next t.tree
          ≡ db t.tree)
        where
          from : (t : Table) (row : Row) → Has (desk_with beside).tables t → Has (next t.tree) row
              → ((t ≡ table) × (row ≡ added)) ⊎ Has (db t.tree) row
          from t row known there = elim (cases_eq t.tree table.tree) [
            | inl same ↦
                (let is = same_table (desk_with beside).tables t table (apart away) known listed same in
                elim (put_has added rows row (subst (λ l. Has l row) here
                (subst (λ n. Has (next n) row) same there))) [
                  | inl new ↦ inl (is, new)
                  | inr was ↦ inr (subst (λ n. Has (db n) row) (sym same) was)
                ])
            | inr other ↦ inr (subst (λ l. Has l row) (others t known other) there)
          ]

          kept : (t : Table) (row : Row) → Has (desk_with beside).tables t → Has (db t.tree) row
              → Has (next t.tree) row
          kept t row known there = elim (cases_eq t.tree table.tree) [
            | inl same ↦ subst (λ n. Has (next n) row) (sym same) (subst (λ l. Has l row) (sym here)
                (put_all_keeps (added ∷ []) rows row (and_from _ _ (not_from_false _ free) refl)
                (subst (λ n. Has (db n) row) same there)))
            | inr other ↦ subst (λ l. Has l row) (sym (others t known other)) there
          ]

          -- another row with its key
          no_other : IsLone → (i : Index) → Has (desk_with beside).indexes i → guards i table ≡ true → (x : Row)
              → Has (next table.tree) x → agree i.order i.columns x i.columns added ≡ true
              → differ (rowid x) (rowid added) ≡ true → ⊥
          no_other lone i known on x there same apart_ids = elim (from table x listed there) [
            | inl new ↦ both_ways _ (no_differ (next_rowid rows))
                (subst (λ r. differ (rowid r) (rowid added) ≡ true) new.1 apart_ids)
            | inr was ↦ both_ways _ (lone i known on)
                (some_from (λ r. agree i.order i.columns r i.columns added) rows x was same)
          ]

          pub unique_added : IsLone → Keeps Unique (desk_with beside) db → Keeps Unique (desk_with beside) next
          unique_added lone keeps = keeps_from Unique (desk_with beside) next (λ t row known there.
              test_from _ (desk_with beside).indexes (λ i k. not_from_false _ (false_from_ne_true _ (λ clash.
              let parts = and_parts (guards i t) (clashes i.order i.columns (next t.tree) row) clash in
              let other = some_has _ (next t.tree) parts.1 in
              let both = and_parts _ _ other.2 in
              elim (from t row known there) [
                | inl new ↦ absurd (no_other lone i k (subst (λ (t : Table). guards i t ≡ true) new.0 parts.0)
                    other.0 (subst (λ (t : Table). Has (next t.tree) other.0) new.0 other.1)
                    (subst (λ r. agree i.order i.columns other.0 i.columns r ≡ true) new.1 both.0)
                    (subst (λ r. differ (rowid other.0) (rowid r) ≡ true) new.1 both.1))
                | inr was ↦ elim (from t other.0 known other.1) [
                  | inl new ↦ absurd (no_other lone i k (subst (λ (t : Table). guards i t ≡ true) new.0 parts.0)
                      row (subst (λ (t : Table). Has (next t.tree) row) new.0 there)
                      (agree_back _ _ _ _ _
                      (subst (λ r. agree i.order i.columns r i.columns row ≡ true) new.1 both.0))
                      (differ_back _ _ (subst (λ r. differ (rowid r) (rowid row) ≡ true) new.1 both.1)))
                  | inr also ↦ absurd (both_ways _ (not-true _ (test_has
                      (λ i. not (guards i t && clashes i.order i.columns (db t.tree) row))
                      (desk_with beside).indexes i
                      (keeps_at Unique (desk_with beside) db t row keeps known was) k))
                      (and_from _ _ parts.0 (some_from
                      (λ x. agree i.order i.columns x i.columns row && differ (rowid x) (rowid row)) (db t.tree)
                      other.0 also other.2)))
                ]
              ]))))

          held_on : (row : Row) (ref : Reference) (o : Option ParentKey)
              → parent_key (desk_with beside).tables ref ≡ o
              → is_held db ref.columns row o ≡ true → is_held next ref.columns row o ≡ true
          held_on row ref None is h = h
          held_on row ref (Some key) is h =
              let p = some_has (λ p. agree key.2 key.1 p ref.columns row) (db key.0) h in
              let parent = parent_is_table (desk_with beside).tables ref key is in
              some_from (λ p. agree key.2 key.1 p ref.columns row) (next key.0) p.0
              (subst (λ n. Has (next n) p.0) parent.2
              (kept parent.0 p.0 parent.1 (subst (λ n. Has (db n) p.0) (sym parent.2) p.1))) p.2

          has_still : (row : Row) (ref : Reference) → has_parent (desk_with beside).tables db row ref ≡ true
              → has_parent (desk_with beside).tables next row ref ≡ true
          has_still row ref h = elim (or_cases (has_null ref.columns row) _ h) [
            | inl null ↦ or_left _ _ null
            | inr held ↦ or_right (has_null ref.columns row) _
                (held_on row ref (parent_key (desk_with beside).tables ref) refl held)
          ]

          pub refers_added : HasParents → Refers All (desk_with beside) db → Refers All (desk_with beside) next
          refers_added parents refers = refers_from All (desk_with beside) next (λ t ref row known k is there.
              has_still row ref (elim (from t row known there) [
                | inl new ↦ subst (λ r. has_parent (desk_with beside).tables db r ref ≡ true) (sym new.1)
                    (all_has (λ ref. has_parent (desk_with beside).tables db added ref ≡ true)
                    table.references ref
                    parents (subst (λ (t : Table). Has t.references ref) new.0 k))
                | inr was ↦ refers_at All (desk_with beside) db t row ref refers known was k is
              ]))

      pub passes_added : IsGood away table db cells → IsLone → Keeps Unique (desk_with beside) db
          → list_all (is_key_of (desk_with beside)) table.references ≡ true
          → Passes away db (record { table = table; gone = []; news = added ∷ [] })
      passes_added good lone keeps refers = record {
        typed = and_from _ _ (good.typed (next_rowid rows)) refl;
        present = and_from _ _ (good.present (next_rowid rows)) refl;
        checked = and_from _ _ (good.checked (next_rowid rows)) refl;
        fresh = and_from _ _ (not_from_false _ free) refl;
        unique = unique_added (with_tree db table.tree (put_row added rows))
            (with_here db table.tree (put_row added rows))
            (λ t known other. with_others db table.tree t.tree (put_row added rows) other) lone keeps;
        keyed = refl;
        low = and_from _ _ (first_fits 1 rows (omega arith) room) refl;
        referred = and_from _ _ (or_right false _ refers) refl;
        stored = λ row there. elim there [
          | inl is ↦ subst (λ r. ¬ Rattle.sqlite.specs.Edit.IsOversized (desk_with beside) table r) (sym is)
              (good.stored (next_rowid rows))
          | inr none ↦ absurd none
        ];
      }
