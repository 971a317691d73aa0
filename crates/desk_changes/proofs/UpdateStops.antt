-- Rows that are set in their places pass every test.
use Rattle.std.proofs.Common.{◌≡◌, inl, inr, ℤ, Bool, true, false, not, List, [], ◌∷◌, map, filter, refl, sym, ap, ap₂, subst, ◌∙◌}
use Rattle.std.specs.List.{AllByRecursion, list_all}
use Rattle.std.specs.List.Sorted.{IsPermutation}
use Rattle.std.specs.Ordering.{is_eq}
use Rattle.std.proofs.lemmas.List.Sorted.{IsPermutation-sym}
use Rattle.std.proofs.lemmas.Map.Keys.{IsDistinct-IsPermutation}
use Rattle.std.proofs.lemmas.Bool.{and_from, both_ways, cases_Bool, false_from_ne_true, not-true, not_from_false, or_right}
use Rattle.sqlite_trees.proofs.ListLemmas.{all-permutation}
use Rattle.sqlite_keyed.proofs.ListLemmas.{all_unmap, all_map}
use Rattle.sqlite.specs.Order.{Row, value_cmp}
use Rattle.sqlite.specs.Ops.{fits_i64}
use Rattle.sqlite.specs.declared.types.Value.TheVariants.{Int}
use Rattle.sqlite.specs.Tree.{Trees, rowid, put_row, with_tree, IsAscending}
use Rattle.sqlite.specs.View.{is_int}
use Rattle.sqlite.specs.Table.{Table}
use Rattle.sqlite.specs.Edit.{Edit, id_in, edited, without_all, put_all, is_taken, are_fresh, IsOversized}
use Rattle.sqlite_rules.specs.Lists.{Has}
use Rattle.sqlite_rules.specs.InPlace.{AgreeAt, KeepsKeys, Twins, AreTwins}
use Rattle.sqlite_rules.proofs.ListLemmas.{all_has, all_from, test_from, some_has, some_from, has_filtered, has_kept}
use Rattle.sqlite_rules.proofs.TableLemmas.{int_is, put_has, put_all_has, put_all_keeps, put_all_adds}
use Rattle.sqlite_rules.proofs.PlaceLemmas.{agrees_itself}
use Rattle.sqlite_schema.specs.Rules.{guards, passes, is_key_of}
use Rattle.sqlite_schema.specs.declared.schema.Constraint.TheVariants.{Datatype, NotNull, Check, Unique}
use Rattle.sqlite_schema.specs.Rules.{Keeps}
use Rattle.desk_sql.specs.Rows.{AreNumbered}
use Rattle.desk_sql.specs.Changing.{AreLow}
use Rattle.desk_sql.proofs.lemmas.Number.{IsApart, all_both, numbered_kept}
use Rattle.desk_sql.proofs.lemmas.Rowid.{is_same_id, flips, to_distinct, from_distinct}
use Rattle.desk_sql.proofs.lemmas.Cascade.{one_row}
use Rattle.desk_changes.proofs.DeleteStops.{IsReferredTo}
use Rattle.desk_changes.proofs.PassLemmas.{Passes, with_here, unique_twins}
use Rattle.desk_sql.specs.Schema.{Beside, StandsApart, desk_with}

-- ---- rows with rowids of their own

-- rows that keep their rowids keep them apart
ascend_as : (g : Row → Row) (rows : List Row) → AllByRecursion (λ r. rowid (g r) ≡ rowid r) rows
    → IsAscending IsApart rows → IsAscending IsApart (map g rows)
ascend_as g [] same up = tt
ascend_as g (r ∷ rows) same up = (
  all_map (IsApart (g r)) g rows
      (all_both (λ x. rowid (g x) ≡ rowid x) (IsApart r) (λ x. IsApart (g r) (g x))
      (λ x is far. ap₂ (λ a b. is_eq (value_cmp a b)) same.0 is ∙ far) rows same.1 up.0),
  ascend_as g rows same.1 up.1,
)

pub permuted_apart : (rows shown : List Row) → IsPermutation rows shown → IsAscending IsApart rows
    → IsAscending IsApart shown
permuted_apart rows shown same up =
    from_distinct shown (IsDistinct-IsPermutation is_same_id flips rows shown same (to_distinct rows up))

taken_put : (n x : Row) (rows : List Row) → IsApart n x → is_taken rows x ≡ false
    → is_taken (put_row n rows) x ≡ false
taken_put n x rows far free = false_from_ne_true _ (λ taken.
    let r = some_has (λ r. is_eq (value_cmp (rowid r) (rowid x))) (put_row n rows) taken in
    elim (put_has n rows r.0 r.1) [
      | inl same ↦ both_ways _ far (subst (λ r. is_eq (value_cmp (rowid r) (rowid x)) ≡ true) same r.2)
      | inr was ↦
          both_ways _ free (some_from (λ r. is_eq (value_cmp (rowid r) (rowid x))) rows r.0 was r.2)
    ])

pub fresh_news : (news rows : List Row) → IsAscending IsApart news
    → AllByRecursion (λ n. is_taken rows n ≡ false) news → are_fresh rows news ≡ true
fresh_news [] rows far free = refl
fresh_news (n ∷ news) rows far free = and_from _ _ (not_from_false _ free.0)
    (fresh_news news (put_row n rows) far.1
    (all_both (IsApart n) (λ x. is_taken rows x ≡ false) (λ x. is_taken (put_row n rows) x ≡ false)
    (λ x a f. taken_put n x rows a f) news far.0 free.1))

-- ---- an edit of rows in their places

module _ {beside : Beside} (away : StandsApart beside) where
  itself : (table : Table) (r : Row) → Twins (desk_with beside) table r r
  itself table r = record {
    id = refl;
    keys = record {
      unique = all_from (λ i. guards i table ≡ true → AgreeAt i.columns r r) (desk_with beside).indexes
          (λ i known on. agrees_itself i.columns r);
      refers = all_from (λ ref. AgreeAt ref.columns r r) table.references
          (λ ref known. agrees_itself ref.columns r);
    };
  }

  -- what an UPDATE makes of each row that it finds
  pub record Sets (table : Table) (wanted : Row → Bool) (g : Row → Row) (cells : Row) : Type 0
    where
      pub row : (r : Row) → is_int (rowid r) ≡ true → wanted r ≡ true → g r ≡ rowid r ∷ cells
      pub keys : (r : Row) → is_int (rowid r) ≡ true → wanted r ≡ true
          → KeepsKeys (desk_with beside) table r (g r)

  -- what the cells of each such row have to pass
  pub record IsGood (table : Table) (db : Trees) (cells : Row) : Type 0 where
    pub typed : (n : ℤ) → passes Datatype (desk_with beside) db table (Int n ∷ cells) ≡ true
    pub present : (n : ℤ) → passes NotNull (desk_with beside) db table (Int n ∷ cells) ≡ true
    pub checked : (n : ℤ) → passes Check (desk_with beside) db table (Int n ∷ cells) ≡ true
    pub stored : (n : ℤ) → ¬ IsOversized (desk_with beside) table (Int n ∷ cells)

  module _ (table : Table) (listed : Has (desk_with beside).tables table) (fit : IsReferredTo away table)
      (db : Trees) (news : List Row) (wanted : Row → Bool) (g : Row → Row) (cells : Row)
      (num : AreNumbered (db table.tree)) (sets : Sets table wanted g cells)
      (made : IsPermutation (map g (filter wanted (db table.tree))) news) where
    abbrev rows : List Row
    rows = db table.tree

    abbrev left : List Row
    left = filter (λ r. not (wanted r)) rows

    -- each row that is put in comes of one that was there
    abbrev Comes : Row → Type 0
    Comes n = (r : Row) × Has rows r × (wanted r ≡ true) × (is_int (rowid r) ≡ true) × (n ≡ g r)

    come : AllByRecursion Comes news
    come = all-permutation Comes _ news made (all_map Comes g (filter wanted rows)
        (all_from (λ r. Comes (g r)) (filter wanted rows) (λ r there.
        let it = has_filtered wanted rows r there in
        (r, it.0, it.1, all_has (λ r. is_int (rowid r) ≡ true) rows r num.whole it.0, refl))))

    went_in : (r : Row) → Has rows r → wanted r ≡ true → Has news (g r)
    went_in r there is =
        all_has (λ r. Has news (g r)) (filter wanted rows) r (all_unmap (Has news) g (filter wanted rows)
        (all-permutation (Has news) news (map g (filter wanted rows)) (IsPermutation-sym _ news made)
        (all_from (Has news) news (λ n h. h)))) (has_kept wanted rows r there is)

    same_id : (r : Row) → is_int (rowid r) ≡ true → wanted r ≡ true → rowid (g r) ≡ rowid r
    same_id r whole is = ap rowid (sets.row r whole is)

    pub apart_news : IsAscending IsApart news
    apart_news =
        let kept = numbered_kept wanted rows num in
        permuted_apart (map g (filter wanted rows)) news made (ascend_as g (filter wanted rows)
        (all_from (λ r. rowid (g r) ≡ rowid r) (filter wanted rows) (λ r there.
        let it = has_filtered wanted rows r there in
        same_id r (all_has (λ r. is_int (rowid r) ≡ true) rows r num.whole it.0) it.1)) kept.distinct)

    free : AllByRecursion (λ n. is_taken left n ≡ false) news
    free = all_from (λ n. is_taken left n ≡ false) news (λ n there.
        let (r, was, is, whole, same) = all_has Comes news n come there in
        false_from_ne_true _ (λ taken.
        let x = some_has (λ x. is_eq (value_cmp (rowid x) (rowid n))) left taken in
        let kept = has_filtered (λ r. not (wanted r)) rows x.0 x.1 in
        let one = one_row rows x.0 r num.distinct kept.0 was
        (subst (λ v. is_eq (value_cmp (rowid x.0) v) ≡ true) (ap rowid same ∙ same_id r whole is) x.2) in
        both_ways _ (not-true _ kept.1) (subst (λ y. wanted y ≡ true) (sym one) is)))

    pub fresh : are_fresh left news ≡ true
    fresh = fresh_news news left apart_news free

    pub twins_of : (new : Trees) → new table.tree ≡ put_all left news → AreTwins (desk_with beside) table db new
    twins_of new now = record {
      before = λ n there. elim (put_all_has news left n (subst (λ l. Has l n) now there)) [
        | inl fresh ↦
            (let (r, had, is, whole, same) = all_has Comes news n come fresh in (
              r,
              had,
              subst (Twins (desk_with beside) table r) (sym same)
                  (record { id = sym (same_id r whole is); keys = sets.keys r whole is }),
            ))
        | inr kept ↦
            (n, (has_filtered (λ r. not (wanted r)) rows n kept).0, itself table n)
      ];
      after = λ o there.
          elim (cases_Bool (wanted o)) [
            | inl is ↦
                (let whole = all_has (λ r. is_int (rowid r) ≡ true) rows o num.whole there in (
                  g o,
                  subst (λ l. Has l (g o)) (sym now) (put_all_adds news left (g o) fresh (went_in o there is)),
                  record { id = sym (same_id o whole is); keys = sets.keys o whole is },
                ))
            | inr other ↦ (
              o,
              subst (λ l. Has l o) (sym now) (put_all_keeps news left o fresh
                  (has_kept (λ r. not (wanted r)) rows o there (not_from_false _ other))),
              itself table o,
            )
          ];
      keys = fit;
    }

    shape : (n : Row) → Has news n → (id : ℤ) × (n ≡ Int id ∷ cells) × (r : Row) × Has rows r
        × (id ≡ id_in (rowid r))
    shape n there =
        let (r, had, is, whole, same) = all_has Comes news n come there in (
          id_in (rowid r),
          same ∙ sets.row r whole is ∙ ap (λ v. v ∷ cells) (int_is (rowid r) whole),
          r,
          had,
          refl,
        )

    pub passes_all : (gone : List ℤ) → without_all rows gone ≡ left → AreLow rows → IsGood table db cells
        → list_all (is_key_of (desk_with beside)) table.references ≡ true → Keeps Unique (desk_with beside) db
        → Passes away db (record { table = table; gone = gone; news = news })
    passes_all gone leaves low good refers keeps =
        let edit : Edit = record { table = table; gone = gone; news = news } in
        record {
          typed = test_from _ news (λ n there. let it = shape n there in
              subst (λ r. passes Datatype (desk_with beside) db table r ≡ true) (sym it.1) (good.typed it.0));
          present = test_from _ news (λ n there. let it = shape n there in
              subst (λ r. passes NotNull (desk_with beside) db table r ≡ true) (sym it.1) (good.present it.0));
          checked = test_from _ news (λ n there. let it = shape n there in
              subst (λ r. passes Check (desk_with beside) db table r ≡ true) (sym it.1) (good.checked it.0));
          fresh = subst (λ l. are_fresh l news ≡ true) (sym leaves) fresh;
          unique = unique_twins away db table (edited db edit) listed
              (twins_of (with_tree db table.tree (edited db edit))
              (with_here db table.tree (edited db edit) ∙ ap (λ l. put_all l news) leaves)) keeps;
          keyed = test_from (λ r. is_int (rowid r)) news (λ n there. let it = shape n there in
              subst (λ r. is_int (rowid r) ≡ true) (sym it.1) refl);
          low = test_from (λ r. fits_i64 (id_in (rowid r))) news (λ n there. let it = shape n there in
              subst (λ r. fits_i64 (id_in (rowid r)) ≡ true) (sym it.1)
              (ap fits_i64 it.4 ∙ all_has (λ r. fits_i64 (id_in (rowid r)) ≡ true) rows it.2 low it.3));
          referred = and_from _ _ (or_right _ _ refers) (or_right _ _ fit);
          stored = λ n there. (let it = shape n there in
              subst (λ r. ¬ IsOversized (desk_with beside) table r) (sym it.1) (good.stored it.0));
        }
