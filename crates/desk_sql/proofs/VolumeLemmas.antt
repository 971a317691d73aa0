-- The rows of `volume2` with all their columns are those of volumes and those of covers.
use Rattle.std.proofs.Common.{◌≡◌, ◌<◌, ◌+◌, ℕ, List, [], ◌∷◌, length, map, arith, refl, ap, ap₂, subst, ◌∙◌, true}
use Rattle.std.specs.Ordering.{is_lt}
use Rattle.std.specs.List.Sorted.{IsSorted}
use Rattle.std.proofs.lemmas.List.{get_or-map, length-map}
use Rattle.std.proofs.lemmas.List.Sorted.{IsPermutation-map}
use Rattle.sqlite.specs.Order.{Row}
use Rattle.sqlite.specs.Tree.{Trees}
use Rattle.sqlite_keyed.proofs.ListLemmas.{map-map}
use Rattle.desk_sql.specs.declared.opening.finding.TablesPresent.{TablesPresent}
use Rattle.desk_sql.specs.Rows.{by_cells, columns, cover_columns, tables_at, Lists, ListVolumes, cover_part, volume_part, volume_table_in}
use Rattle.desk_sql.specs.Schema.{has_table, is_packed, tree_of}

abbrev key : List ℕ
key = 0 ∷ 1 ∷ 2 ∷ []

-- a part that has the key comes in the same order
module _ (f : Row → Row) (same : (x y : Row) → by_cells key (f x) (f y) ≡ by_cells key x y) where
  sorted_part : (rows : List Row) → IsSorted (by_cells key) rows → IsSorted (by_cells key) (map f rows)
  sorted_part rows sorted k d low high =
      let more : k + 1 < length rows = omega (arith, high, length-map rows f) in
      ap is_lt (
      ap₂ (by_cells key) (get_or-map f rows (k + 1) [] d more)
      (get_or-map f rows k [] d (omega (arith, more)))
      ∙ same _ _
      ) ∙ sorted k [] low more

  listed_part : (wanted rows : List Row) → Lists key wanted rows → Lists key (map f wanted) (map f rows)
  listed_part wanted rows lists = record {
    same = IsPermutation-map f wanted rows lists.same;
    sorted = sorted_part rows lists.sorted;
  }

volumes_of : (stored rows : List Row) → Lists key (map (columns 9) stored) rows
    → Lists key (map (columns 8) stored) (map volume_part rows)
volumes_of stored rows lists =
    subst (λ wanted. Lists key wanted (map volume_part rows)) (map-map volume_part (columns 9) stored)
    (listed_part volume_part (λ x y. refl) (map (columns 9) stored) rows lists)

covers_of : (stored rows : List Row) → Lists key (map (columns 9) stored) rows
    → Lists key (map cover_columns stored) (map cover_part rows)
covers_of stored rows lists =
    subst (λ wanted. Lists key wanted (map cover_part rows)) (map-map cover_part (columns 9) stored)
    (listed_part cover_part (λ x y. refl) (map (columns 9) stored) rows lists)

module _ (made : TablesPresent) (db : Trees) where
  abbrev stored : List Row
  stored = db (tree_of (volume_table_in (is_packed made)))

  volumes_at : has_table made (volume_table_in (is_packed made)) ≡ true
      → map (columns 8) stored ≡ (tables_at made db).volumes
  volumes_at = grind arith

  covers_at : has_table made (volume_table_in (is_packed made)) ≡ true
      → map cover_columns stored ≡ (tables_at made db).covers
  covers_at = grind arith

  -- rows with all columns are reported as the rows of the tables
  pub parts_listed : has_table made (volume_table_in (is_packed made)) ≡ true
      → (rows : List Row) → Lists key (map (columns 9) stored) rows → ListVolumes (tables_at made db) rows
  parts_listed there rows lists = record {
    volumes_listed = subst (λ wanted. Lists key wanted (map volume_part rows)) (volumes_at there)
        (volumes_of stored rows lists);
    covers_listed = subst (λ wanted. Lists key wanted (map cover_part rows)) (covers_at there)
        (covers_of stored rows lists);
  }
