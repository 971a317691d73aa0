-- Each UPDATE of a sound desk's rows is refused only by memory, the disk and a limit on steps.
use Rattle.std.proofs.Common.{◌≡◌, inl, inr, ℕ, pos, Bool, true, false, ◌&&◌, List, [], ◌∷◌, drop, None, Option, Err, refl, sym, ap, ap₂, subst, ◌∙◌, true≢false, arith, ◌≤◌}
use Rattle.std.specs.List.{list_all, AllByRecursion}
use Rattle.std.proofs.lemmas.Bool.{and_parts}
use Rattle.sqlite.specs.Order.{Row, column}
use Rattle.sqlite.specs.declared.types.Value.{Value}
use Rattle.sqlite.specs.declared.types.Value.TheVariants.{Int}
use Rattle.sqlite.specs.declared.error.Error.{Error}
use Rattle.sqlite.specs.Tree.{Trees, rowid}
use Rattle.sqlite.specs.View.{is_int}
use Rattle.sqlite.specs.Table.{Table}
use Rattle.sqlite.specs.Edit.{taken_by}
use Rattle.sqlite.specs.Cast.{cast, cast_row}
use Rattle.sqlite.specs.Kind.TheVariants as kind
use Rattle.sqlite.specs.Command.TheVariants.{Update}
use Rattle.sqlite.specs.Effect.{Database, IsDatabase}
use Rattle.sqlite.specs.Does.{OnRows}
use Rattle.sqlite.specs.Listing.{understood}
use Rattle.sqlite_rules.proofs.TableLemmas.{int_is}
use Rattle.sqlite_schema.specs.Rules.{is_key_of, Obeys, guards}
use Rattle.sqlite_tied.specs.Compute.{everything}
use Rattle.desk_sql.specs.Schema.{operator_table, plan_table, Beside, StandsApart, desk_in, desk_with}
use Rattle.desk_sql.specs.Rows.{IsDesk, is_text, operator_row, plan_row}
use Rattle.desk_sql.specs.Statements.{enforced}
use Rattle.desk_changes.specs.RowChanges.{closing_row}
use Rattle.desk_sql.specs.Changing.{AreLow, IsShort, IsAtLimit, IsSureChange}
use Rattle.desk_sql.proofs.lemmas.Texts.{set_ceiling_text, close_plan_text}
use Rattle.desk_sql.proofs.lemmas.CommandTexts.{set_ceiling_is, set_ceiling_query, close_plan_is, close_plan_query}
use Rattle.desk_sql.proofs.lemmas.Read.{equals_text}
use Rattle.desk_changes.proofs.SetLemmas.{text_same, both_hold}
use Rattle.desk_changes.proofs.UpdateLemmas.{update_edit, operator_quiet, plan_quiet}
use Rattle.desk_sql.proofs.lemmas.Write.{task_at, cast_int}
use Rattle.desk_sql.proofs.lemmas.Sure.{Misfits, never}
use Rattle.desk_sql.proofs.lemmas.Stop.{sure_change}
use Rattle.desk_changes.proofs.DeleteStops.{IsReferredTo}
use Rattle.desk_sql.proofs.lemmas.Size.{operator_stored, plan_stored}
use Rattle.desk_changes.proofs.InPlaceStops.{never_stops}
use Rattle.sqlite_rules.proofs.ListLemmas.{all_from}
use Rattle.sqlite_schema.specs.declared.schema.Index.{Index}
use Rattle.desk_sql.proofs.lemmas.Beside.{others_fit, unguarded}

abbrev operator_at : Table
operator_at = record operator_table { tree = 0 }

abbrev plan_at : Table
plan_at = record plan_table { tree = 2 }

module _ {beside : Beside} (away : StandsApart beside) where
  ceiling_fits : (name : List ℕ) (ceiling : ℕ) (trees : Trees)
      → ¬ Misfits set_ceiling_query (desk_with beside) trees (operator_row name ceiling)
  unfolding everything
  ceiling_fits name ceiling trees misfit = true≢false misfit

  closing_fits : (operator id : List ℕ) (priority aircraft : ℕ) (trees : Trees)
      → ¬ Misfits close_plan_query (desk_with beside) trees (closing_row operator id priority aircraft)
  unfolding everything
  closing_fits operator id priority aircraft trees misfit = true≢false misfit

  operator_referred : IsReferredTo away operator_at
  unfolding everything
  operator_referred = others_fit away operator_at (inl refl)

  plan_referred : IsReferredTo away plan_at
  unfolding everything
  plan_referred = others_fit away plan_at (inr (inl refl))

  plan_refers : list_all (is_key_of (desk_with beside)) plan_table.references ≡ true
  unfolding everything
  plan_refers = refl

cast_whole : (r : Row) → is_int (rowid r) ≡ true → cast kind.Integer (rowid r) ≡ rowid r
cast_whole r is = ap (cast kind.Integer) (int_is (rowid r) is) ∙ cast_int _ ∙ sym (int_is (rowid r) is)

then : {a b : Value} {xs ys : Row} → a ≡ b → xs ≡ ys → a ∷ xs ≡ b ∷ ys
then p q = ap₂ (λ x xs. x ∷ xs) p q

-- a key of another table
off : {P : Type 0} → false ≡ true → P
off on = absurd (true≢false (sym on))

-- the keys of tables beside
module _ {beside : Beside} (away : StandsApart beside) where
  others : (P : Index → Type 0) (table : Table) → table.tree ≤ 13
      → AllByRecursion (λ i. guards i table ≡ true → P i) beside.indexes
  others P table low = all_from (λ i. guards i table ≡ true → P i) beside.indexes
      (λ i known on. off (sym (unguarded away table low i known) ∙ on))

-- ---- an operator's ceiling

module _ (name : List ℕ) (ceiling : ℕ) (limit : Option ℕ) (old : Database) (desk : IsDesk old)
    (sound : IsDatabase old) (short : IsShort name) (low : AreLow (old.trees 0)) where
  abbrev ceiling_source : Row → Row
  ceiling_source r = rowid r ∷ rowid r ∷ column r 1 ∷ Int (pos ceiling) ∷ []

  abbrev is_named : Row → Bool
  is_named r = is_text (column r 1) name

  ceiling_set : (r : Row) → is_int (rowid r) ≡ true → is_named r ≡ true
      → cast_row operator_at (drop 1 (ceiling_source r)) ≡ rowid r ∷ operator_row name ceiling
  ceiling_set r whole is = then (cast_whole r whole)
      (then (ap (cast kind.Text) (text_same (column r 1) name is))
      (then (cast_int (pos ceiling)) refl))

  ceiling_never : (stop : Option Error)
      → OnRows (task_at desk.schema.apart limit (operator_row name ceiling) operator_table.name
      operator_table.columns
      operator_table.primary operator_table.references 0) enforced None
      (Update 0 (record { lets = []; body = set_ceiling_query })) old.trees (Err stop)
      → IsAtLimit limit stop
  ceiling_never = never_stops desk.schema.apart limit (operator_row name ceiling) operator_table.name
      operator_table.columns
      operator_table.primary operator_table.references 0 old.trees set_ceiling_query.filter
      set_ceiling_query.project is_named ceiling_source (operator_row name ceiling) (record {
        listed = inl refl;
        referred = (operator_referred desk.schema.apart);
        refers = refl;
        alone = refl;
        shows = λ r. refl;
        finds = λ r. both_hold _ ∙ equals_text (column r 1) name;
        keeps = λ r. refl;
        sets = record {
          row = ceiling_set;
          keys = λ r whole is. record {
            unique = (
              (λ on. (
                text_same (column r 1) name is
                    ∙ sym (ap (λ x. column x 1) (ceiling_set r whole is)),
                tt,
              )),
              (
                off,
                (
                  off,
                  (
                    off,
                    (
                      off,
                      (
                        off,
                        (
                          off,
                          (
                            off,
                            others desk.schema.apart _ operator_at
                                (omega arith),
                          ),
                        ),
                      ),
                    ),
                  ),
                ),
              ),
            );
            refers = tt;
          };
        };
        good = record {
          typed = λ n. refl;
          present = λ n. refl;
          checked = λ n. refl;
          stored = operator_stored desk.schema.apart name ceiling short;
        };
        num = desk.operators;
        low = low;
        obeys = subst (λ s. Obeys s old.trees) desk.schema.is sound.obeys;
        quiet = λ found.
            let edit = update_edit desk.schema.apart limit (operator_row name ceiling) operator_table.name
            operator_table.columns
            operator_table.primary operator_table.references 0 old.trees found in
            operator_quiet desk.schema.apart (taken_by old.trees edit) edit.news;
        sure = λ e. never (desk_in old.schema) set_ceiling_query [] (operator_row name ceiling)
            (ceiling_fits desk.schema.apart name ceiling)
            (λ trees h. elim h [ inl none ↦ absurd none | inr fold ↦ absurd fold.4 ]) limit
            (record { schema = desk_in old.schema; trees = old.trees }) e refl;
      }) 0

-- ---- a plan that is closed

module _ (operator id : List ℕ) (priority aircraft : ℕ) (limit : Option ℕ) (old : Database)
    (desk : IsDesk old) (sound : IsDatabase old)
    (short : IsShort operator) (brief : IsShort id) (low : AreLow (old.trees 2)) where
  abbrev closing_source : Row → Row
  closing_source r = rowid r ∷ rowid r ∷ column r 1 ∷ column r 2 ∷ Int (pos priority) ∷ Int (pos 2)
      ∷ Int (pos aircraft) ∷ []

  abbrev is_closed : Row → Bool
  is_closed r = is_text (column r 1) operator && is_text (column r 2) id

  closing_set : (r : Row) → is_int (rowid r) ≡ true → is_closed r ≡ true
      → cast_row plan_at (drop 1 (closing_source r))
      ≡ rowid r ∷ plan_row operator id priority 2 aircraft
  closing_set r whole is =
      let parts = and_parts (is_text (column r 1) operator) (is_text (column r 2) id) is in
      then (cast_whole r whole) (then (ap (cast kind.Text) (text_same (column r 1) operator parts.0))
      (then (ap (cast kind.Text) (text_same (column r 2) id parts.1))
      (then (cast_int (pos priority)) (then (cast_int (pos 2)) (then (cast_int (pos aircraft)) refl)))))

  closing_key : (r : Row) → is_int (rowid r) ≡ true → is_closed r ≡ true
      → column r 1 ≡ column (cast_row plan_at (drop 1 (closing_source r))) 1
  closing_key r whole is =
      let parts = and_parts (is_text (column r 1) operator) (is_text (column r 2) id) is in
      text_same (column r 1) operator parts.0 ∙ sym (ap (λ x. column x 1) (closing_set r whole is))

  closing_id : (r : Row) → is_int (rowid r) ≡ true → is_closed r ≡ true
      → column r 2 ≡ column (cast_row plan_at (drop 1 (closing_source r))) 2
  closing_id r whole is =
      let parts = and_parts (is_text (column r 1) operator) (is_text (column r 2) id) is in
      text_same (column r 2) id parts.1 ∙ sym (ap (λ x. column x 2) (closing_set r whole is))

  closing_never : (stop : Option Error)
      → OnRows (task_at desk.schema.apart limit (closing_row operator id priority aircraft) plan_table.name
      plan_table.columns plan_table.primary
      plan_table.references 2) enforced None
      (Update 1 (record { lets = []; body = close_plan_query })) old.trees (Err stop)
      → IsAtLimit limit stop
  closing_never = never_stops desk.schema.apart limit (closing_row operator id priority aircraft)
      plan_table.name
      plan_table.columns
      plan_table.primary plan_table.references 2 old.trees close_plan_query.filter
      close_plan_query.project is_closed closing_source (plan_row operator id priority 2 aircraft)
      (record {
        listed = inr (inl refl);
        referred = (plan_referred desk.schema.apart);
        refers = (plan_refers desk.schema.apart);
        alone = refl;
        shows = λ r. refl;
        finds = λ r. ap₂ (λ a b. a && b) (equals_text (column r 1) operator)
            (both_hold _ ∙ equals_text (column r 2) id);
        keeps = λ r. refl;
        sets = record {
          row = closing_set;
          keys = λ r whole is. record {
            unique = (
              off,
              (
                (λ on. (closing_key r whole is, (closing_id r whole is, tt))),
                (off, (off, (off, (off, (off, (off, others desk.schema.apart _ plan_at (omega arith))))))),
              ),
            );
            refers = ((closing_key r whole is, tt), tt);
          };
        };
        good = record {
          typed = λ n. refl;
          present = λ n. refl;
          checked = λ n. refl;
          stored = plan_stored desk.schema.apart operator id priority 2 aircraft short brief;
        };
        num = desk.plans;
        low = low;
        obeys = subst (λ s. Obeys s old.trees) desk.schema.is sound.obeys;
        quiet = plan_quiet desk.schema.apart limit (closing_row operator id priority aircraft) plan_table.name
            plan_table.columns plan_table.primary
            plan_table.references old.trees;
        sure = λ e. never (desk_in old.schema) close_plan_query [] (closing_row operator id priority aircraft)
            (closing_fits desk.schema.apart operator id priority aircraft)
            (λ trees h. elim h [ inl none ↦ absurd none | inr fold ↦ absurd fold.4 ]) limit
            (record { schema = desk_in old.schema; trees = old.trees }) e refl;
      }) 1

-- ---- the texts

pub set_ceiling_sure : (name : List ℕ) (ceiling : ℕ)
    → IsSureChange set_ceiling_text (operator_row name ceiling) (λ db. IsShort name × AreLow (db.trees 0))
unfolding understood everything
set_ceiling_sure name ceiling =
    sure_change set_ceiling_text (operator_row name ceiling) _ _ set_ceiling_is tt (λ beside. refl)
    (λ beside. omega arith)
    (λ limit db stop desk sound fits h. ceiling_never name ceiling limit db desk sound fits.0 fits.1 stop h)

pub set_closed_sure : (operator id : List ℕ) (priority aircraft : ℕ)
    → IsSureChange close_plan_text (closing_row operator id priority aircraft)
    (λ db. IsShort operator × IsShort id × AreLow (db.trees 2))
unfolding understood everything
set_closed_sure operator id priority aircraft =
    sure_change close_plan_text (closing_row operator id priority aircraft) _ _ close_plan_is tt
    (λ beside. refl)
    (λ beside. omega arith)
    (λ limit db stop desk sound fits h.
    closing_never operator id priority aircraft limit db desk sound fits.0 fits.1 fits.2 stop h)
