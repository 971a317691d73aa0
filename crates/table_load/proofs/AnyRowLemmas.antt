-- Whether tables have a row.
use Rattle.std.proofs.Common.{◌≡◌, ◌↔◌, Bool, true, false, not, ◌||◌, List, [], ◌∷◌, map, refl, sym, ◌∙◌, true≢false, IsTrue}
use Rattle.sqlite_value.specs.Order.{Row}
use Rattle.sqlite.specs.Tree.{Trees}
use Rattle.desk_sql.specs.declared.opening.finding.TablesPresent.{TablesPresent}
use Rattle.desk_sql.specs.declared.opening.finding.TablesPresent.TheVariants.{Nothing, Operators, Plans, OldVolumes, OldSpans, OldIndex, Volumes, Spans, All, Packed}
use Rattle.desk_sql.specs.Rows.{columns, cover_columns, has_new_rows, has_rows, tables_at}
use Rattle.table_load.specs.Moving.{HasNoNewRows}

none_if : (rows : List Row) → has_rows rows ≡ false → rows ≡ []
none_if [] e = refl
none_if (r ∷ rows) e = absurd (true≢false e)

-- of rows that are seen in two parts there are none in either
none_of_both : (f g : Row → Row) (rows : List Row) → has_rows (map f rows) ≡ false → map g rows ≡ []
none_of_both f g [] e = refl
none_of_both f g (r ∷ rows) e = absurd (true≢false e)

-- without a volume there is no cover
no_cover : (made : TablesPresent) (db : Trees) → has_rows (tables_at made db).volumes ≡ false
    → (tables_at made db).covers ≡ []
no_cover Nothing db e = refl
no_cover Operators db e = refl
no_cover Plans db e = refl
no_cover OldVolumes db e = refl
no_cover OldSpans db e = refl
no_cover OldIndex db e = refl
no_cover Volumes db e = none_of_both (columns 8) cover_columns (db 9) e
no_cover Spans db e = none_of_both (columns 8) cover_columns (db 9) e
no_cover All db e = none_of_both (columns 8) cover_columns (db 9) e
no_cover Packed db e = none_of_both (columns 8) cover_columns (db 8) e

or_parts : (a b : Bool) → (a || b) ≡ false → (a ≡ false) × (b ≡ false)
or_parts true b h = cc
or_parts false b h = (refl, h)

pub none_new : (made : TablesPresent) (db : Trees) (has : Bool) → has ≡ has_new_rows (tables_at made db)
    → IsTrue (not has) ↔ HasNoNewRows (tables_at made db)
none_new made db false is =
    let parts = or_parts (has_rows (tables_at made db).volumes) (has_rows (tables_at made db).spans) (sym is)
    in (
      λ t. record {
        volumes = none_if (tables_at made db).volumes parts.0;
        covers = no_cover made db parts.0;
        spans = none_if (tables_at made db).spans parts.1;
      },
      λ none. refl,
    )
none_new made db true is = (
  λ t. absurd (true≢false (sym t)),
  λ none. absurd (true≢false (is ∙ (λ i. has_rows (none.volumes i) || has_rows (none.spans i)))),
)
