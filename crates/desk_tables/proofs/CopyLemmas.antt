-- A content that is written into new tables.
use Rattle.std.proofs.Common.{◌≡◌, ◌≤◌, false, List, [], ◌∷◌, ◌++◌, map, refl, sym, ap, subst, ◌∙◌, arith, IsPermutation}
use Rattle.std.proofs.lemmas.List.{append-nil, map-append}
use Rattle.std.proofs.lemmas.List.Sorted.{IsPermutation-refl}
use Rattle.sqlite_trees.specs.declared.store.Store.{Ghosts}
use Rattle.sqlite_trees.specs.View.{doubt}
use Rattle.sqlite_value.specs.Order.{Row}
use Rattle.sqlite.specs.State.{HasCleanDisk}
use Rattle.sqlite.specs.Held.{Held, state}
use Rattle.desk_sql.specs.Effects.{Commits}
use Rattle.desk_sql.specs.Rows.{Tables, tables_of, AddsOperator, AddsPlan}
use Rattle.desk_store.specs.World.{Filed, Listed, World, IsContent}
use Rattle.table_load.specs.Opening.{Stands}
use Rattle.row_codec.specs.Tables.{row_of_operator, operator_rows, row_of_plan, plan_rows, volume_rows, cover_rows, AreTables}
use Rattle.desk_tables.specs.Copying.{AddsHeadRows, AddsOperatorRows, AddsWorldRows}
use Rattle.table_load.proofs.lemmas.Moving.{further}
use Rattle.table_load.proofs.lemmas.Store.{no_row, nothing}

-- ---- one row more

pub no_operators : (t : Tables) → AddsOperatorRows [] t t
no_operators t = record {
  operators = IsPermutation-refl t.operators;
  plans = refl;
  old_volumes = refl;
  old_spans = refl;
  volumes = refl;
  covers = refl;
  spans = refl;
}

pub more_operators : (ls : List Listed) (l : Listed) (all : List Listed) → all ≡ ls ++ l ∷ []
    → (a b c : Tables) → AddsOperatorRows ls a b → AddsOperator (row_of_operator l) b c
    → AddsOperatorRows all a c
more_operators ls l all is a b c first last =
    subst (λ ks. AddsOperatorRows ks a c) (sym is) (record {
      operators = subst (λ rs. IsPermutation (rs ++ a.operators) c.operators)
          (sym (map-append row_of_operator ls (l ∷ [])))
          (further (map row_of_operator ls) (row_of_operator l ∷ []) a.operators b.operators c.operators
          first.operators last.0);
      plans = ap (λ (t : Tables). t.plans) last.1 ∙ first.plans;
      old_volumes = ap (λ (t : Tables). t.old_volumes) last.1 ∙ first.old_volumes;
      old_spans = ap (λ (t : Tables). t.old_spans) last.1 ∙ first.old_spans;
      volumes = ap (λ (t : Tables). t.volumes) last.1 ∙ first.volumes;
      covers = ap (λ (t : Tables). t.covers) last.1 ∙ first.covers;
      spans = ap (λ (t : Tables). t.spans) last.1 ∙ first.spans;
    })

pub no_heads : (t : Tables) → AddsHeadRows [] t t
no_heads t = record {
  operators = refl;
  plans = IsPermutation-refl t.plans;
  old_volumes = refl;
  old_spans = refl;
  volumes = refl;
  covers = refl;
  spans = refl;
}

pub more_heads : (ps : List Filed) (p : Filed) (all : List Filed) → all ≡ ps ++ p ∷ []
    → (a b c : Tables) → AddsHeadRows ps a b → AddsPlan (row_of_plan p) b c → AddsHeadRows all a c
more_heads ps p all is a b c first last =
    subst (λ qs. AddsHeadRows qs a c) (sym is) (record {
      operators = ap (λ (t : Tables). t.operators) last.1 ∙ first.operators;
      plans = subst (λ rs. IsPermutation (rs ++ a.plans) c.plans) (sym (map-append row_of_plan ps (p ∷ [])))
          (further (plan_rows ps) (row_of_plan p ∷ []) a.plans b.plans c.plans first.plans last.0);
      old_volumes = ap (λ (t : Tables). t.old_volumes) last.1 ∙ first.old_volumes;
      old_spans = ap (λ (t : Tables). t.old_spans) last.1 ∙ first.old_spans;
      volumes = ap (λ (t : Tables). t.volumes) last.1 ∙ first.volumes;
      covers = ap (λ (t : Tables). t.covers) last.1 ∙ first.covers;
      spans = ap (λ (t : Tables). t.spans) last.1 ∙ first.spans;
    })

-- ---- what stands then

pub alone : (rows old new : List Row) → old ≡ [] → IsPermutation (rows ++ old) new → IsPermutation rows new
alone rows old new none same = subst (λ rs. IsPermutation rs new) (append-nil rows)
    (subst (λ os. IsPermutation (rows ++ os) new) none same)

written : (w : World) (old new : Tables) → AreTables old nothing → AddsWorldRows w old new
    → AreTables new w
written w old new empty adds =
    let rows : empty.spans.0 ≡ [] = empty.spans.1 in
    record {
      old = record {
        volumes = adds.old_volumes ∙ empty.old.volumes;
        spans = adds.old_spans ∙ empty.old.spans;
      };
      operators = alone (operator_rows w) old.operators new.operators (no_row old.operators empty.operators)
          adds.operators;
      plans = alone (plan_rows w.plans) old.plans new.plans (no_row old.plans empty.plans) adds.plans;
      volumes = alone (volume_rows w.plans) old.volumes new.volumes (no_row old.volumes empty.volumes)
          adds.with_volumes;
      covers = alone (cover_rows w.plans) old.covers new.covers (no_row old.covers empty.covers)
          adds.with_covers;
      spans = (
        adds.with_spans.0,
        adds.with_spans.1,
        alone adds.with_spans.0 old.spans new.spans
            (no_row old.spans (subst (λ rs. IsPermutation rs old.spans) rows empty.spans.2))
            adds.with_spans.2,
      );
    }

-- tables that had no row stand for the content that was written into them
pub written_stands : {S : Type 0} (g : Ghosts S) (old new : Held S) (w : World) → Stands g old nothing
    → new.in_transaction ≡ false → new.step_limit ≡ old.step_limit
    → doubt (state g old).is_clean ≤ doubt (state g new).is_clean
    → IsContent w → (HasCleanDisk (state g new) → Commits g old new (AddsWorldRows w)) → Stands g new w
written_stands g old new w stood mode limit rises content done = record {
  settled = mode;
  unlimited = limit ∙ stood.unlimited;
  standing = λ clean live.
      let made = done clean in
      let before = stood.standing (omega (arith, rises, clean)) made.was_open in
      record {
        content = content;
        desk = made.desk;
        tables = written w (tables_of (state g old).now.trees) (tables_of (state g new).now.trees)
            before.tables made.changed;
      };
}
