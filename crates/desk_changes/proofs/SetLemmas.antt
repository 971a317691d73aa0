-- What each UPDATE sets.
use Rattle.std.proofs.Common.{◌≡◌, ℕ, pos, Bool, true, false, ◌&&◌, List, [], ◌∷◌, filter, length, map, unwrap_or, refl, sym, ap, ap₂, subst, ◌∙◌, true≢false, IsPermutation, Option}
use Rattle.std.specs.Ordering.{is_eq}
use Rattle.std.proofs.lemmas.Map.Text.{is_eq-slice_cmp}
use Rattle.std.proofs.lemmas.Slice.Eq.{bytes_eq-Decides}
use Rattle.std.proofs.lemmas.Bool.{and_parts}
use Rattle.sqlite_value.proofs.OrderLemmas.{value_cmp-Null, value_cmp-apart, value_cmp-Text}
use Rattle.sqlite.specs.Order.{Row, column}
use Rattle.sqlite.specs.declared.types.Value.{Value}
use Rattle.sqlite.specs.declared.types.Value.TheVariants.{Null, Int, Real, Text, Blob}
use Rattle.sqlite.specs.Tree.{Trees, rowid}
use Rattle.sqlite.specs.Edit.{taken_by}
use Rattle.sqlite.specs.Cast.{cast}
use Rattle.sqlite.specs.Kind.TheVariants as kind
use Rattle.sqlite.specs.Command.TheVariants.{Update}
use Rattle.sqlite.specs.Effect.{Database}
use Rattle.sqlite_schema.specs.declared.program.Program.{Program}
use Rattle.desk_sql.specs.Schema.{operator_table, plan_table, IsDeskSchema}
use Rattle.desk_sql.specs.Rows.{IsDesk, AreNumbered, is_text, is_row_by, is_of, columns, tables_of, operator_row, plan_row, with_row, SetsOperators, SetsPlans}
use Rattle.desk_sql.specs.Statements.{Changes}
use Rattle.desk_changes.specs.RowChanges.{TextCounts, TextTakes, OperatorsStayUnless, closing_row}
use Rattle.desk_sql.proofs.lemmas.Texts.{set_ceiling_text, close_plan_text}
use Rattle.desk_sql.proofs.lemmas.CommandTexts.{set_ceiling_is, set_ceiling_query, close_plan_is, close_plan_query}
use Rattle.desk_sql.proofs.lemmas.Read.{equals_text}
use Rattle.desk_changes.proofs.InsertLemmas.{tables_operator, tables_plan}
use Rattle.desk_sql.proofs.lemmas.Number.{unequal}
use Rattle.desk_sql.proofs.lemmas.Write.{May, did, did_counting, changes_by, rows_counted, rows_written, task_at, cast_int}
use Rattle.desk_changes.proofs.UpdateLemmas.{as_many, changes, none_pass, operator_quiet, plan_quiet, update_counts, update_edit, update_sets, update_stays}

pub text_same : (v : Value) (t : List ℕ) → is_text v t ≡ true → v ≡ Text t
text_same Null t h = absurd (true≢false (sym h ∙ ap is_eq (value_cmp-Null (Text t))))
text_same (Int n) t h =
    absurd (true≢false (sym h ∙ ap is_eq (value_cmp-apart (Int n) (Text t) (λ e. cc))))
text_same (Real n) t h =
    absurd (true≢false (sym h ∙ ap is_eq (value_cmp-apart (Real n) (Text t) (λ e. cc))))
text_same (Text s) t h =
    ap Text ((bytes_eq-Decides s t).0 (sym (is_eq-slice_cmp s t) ∙ sym (ap is_eq (value_cmp-Text s t))
    ∙ h))
text_same (Blob n) t h =
    absurd (true≢false (sym h ∙ ap is_eq (value_cmp-apart (Blob n) (Text t) (λ e. cc))))

pub both_hold : (a : Bool) → (a && true) ≡ a
both_hold true = refl
both_hold false = refl

then : {a b : Value} {xs ys : Row} → a ≡ b → xs ≡ ys → a ∷ xs ≡ b ∷ ys
then p q = ap₂ (λ x xs. x ∷ xs) p q

module _ (name : List ℕ) (ceiling : ℕ) (limit : Option ℕ) (old new : Database) where
  abbrev ceiling_params : Row
  ceiling_params = Text name ∷ Int (pos ceiling) ∷ []

  pub set_ceiling : IsDesk old → May set_ceiling_text ceiling_params limit old new
      → IsDesk new × SetsOperators (is_row_by name) (operator_row name ceiling)
      (tables_of old.trees)
      (tables_of new.trees)
      × (new.schema ≡ old.schema)
  set_ceiling desk h =
      let db = old.trees in
      let q : Program = record { lets = []; body = set_ceiling_query } in
      let d = did set_ceiling_text ceiling_params limit old new desk (Update 0 q) set_ceiling_is h in
      let it = rows_written (task_at desk.schema.apart limit ceiling_params operator_table.name
      operator_table.columns
      operator_table.primary operator_table.references 0) (Update 0 q) db d.0 new d.1 in
      let wanted = λ (r : Row). is_text (column r 1) name in
      let source = λ (r : Row). rowid r ∷ rowid r ∷ column r 1 ∷ Int (pos ceiling) ∷ [] in
      let s = update_sets desk.schema.apart limit ceiling_params operator_table.name operator_table.columns
      operator_table.primary operator_table.references 0 db
      set_ceiling_query.filter set_ceiling_query.project wanted source it.0 refl (λ r. refl)
      (λ r. both_hold _ ∙ equals_text (column r 1) name) it.1 in
      let c = changes desk.schema.apart limit ceiling_params operator_table.name operator_table.columns
      operator_table.primary operator_table.references 0 db wanted (is_row_by name) (columns 2) source
      (operator_row name ceiling) it.0.trees desk.operators (λ r. refl) (λ r. refl)
      (λ r is. then (ap (cast kind.Text) (text_same (column r 1) name is))
      (then (cast_int (pos ceiling)) refl)) (λ found.
      let edit = update_edit desk.schema.apart limit ceiling_params operator_table.name operator_table.columns
      operator_table.primary operator_table.references 0 db found in
      operator_quiet desk.schema.apart (taken_by db edit) edit.news) s in
      let same : new.schema ≡ old.schema = ap (λ (d : Database). d.schema) it.2 ∙ sym desk.schema.is in
      let now : new.trees ≡ it.0.trees = ap (λ (d : Database). d.trees) it.2 in
      let e2 : new.trees 2 ≡ db 2 = ap (λ (t : Trees). t 2) now ∙ c.others.1.0 (unequal _ _ refl) in
      let e4 : new.trees 4 ≡ db 4 = ap (λ (t : Trees). t 4) now ∙ c.others.1.1.0 (unequal _ _ refl) in
      let e6 : new.trees 6 ≡ db 6 = ap (λ (t : Trees). t 6) now ∙ c.others.1.1.1.0 (unequal _ _ refl) in
      let e9 : new.trees 9 ≡ db 9 = ap (λ (t : Trees). t 9) now ∙ c.others.1.1.1.1.0 (unequal _ _ refl) in
      let e11 : new.trees 11 ≡ db 11 =
      ap (λ (t : Trees). t 11) now ∙ c.others.1.1.1.1.1.0 (unequal _ _ refl) in (
        record {
          schema = subst IsDeskSchema (sym same) desk.schema;
          operators = subst (λ (t : Trees). AreNumbered (t 0)) (sym now) c.num;
          plans = subst AreNumbered (sym e2) desk.plans;
          old_volumes = subst AreNumbered (sym e4) desk.old_volumes;
          old_spans = subst AreNumbered (sym e6) desk.old_spans;
          volumes = subst AreNumbered (sym e9) desk.volumes;
          spans = subst AreNumbered (sym e11) desk.spans;
        },
        (
          subst (λ (t : Trees). IsPermutation (with_row (is_row_by name) (operator_row name ceiling)
              (map (columns 2) (db 0))) (map (columns 2) (t 0))) (sym now) c.rows,
          tables_operator db new.trees e2 e4 e6 e9 e11,
        ),
        same,
      )

module _ (operator id : List ℕ) (priority aircraft : ℕ) (limit : Option ℕ) (old new : Database) where
  abbrev close_params : Row
  close_params = Text operator ∷ Text id ∷ Int (pos priority) ∷ Int (pos aircraft) ∷ []

  pub close_plan : IsDesk old → May close_plan_text close_params limit old new
      → IsDesk new × SetsPlans (is_of operator id) (plan_row operator id priority 2 aircraft)
      (tables_of old.trees) (tables_of new.trees)
      × (new.schema ≡ old.schema)
  close_plan desk h =
      let db = old.trees in
      let q : Program = record { lets = []; body = close_plan_query } in
      let d = did close_plan_text close_params limit old new desk (Update 1 q) close_plan_is h in
      let it = rows_written (task_at desk.schema.apart limit close_params plan_table.name plan_table.columns
      plan_table.primary plan_table.references 2) (Update 1 q) db d.0 new d.1 in
      let wanted = λ (r : Row). is_text (column r 1) operator && is_text (column r 2) id in
      let source = λ (r : Row). rowid r ∷ rowid r ∷ column r 1 ∷ column r 2 ∷ Int (pos priority)
      ∷ Int (pos 2)
      ∷ Int (pos aircraft) ∷ [] in
      let s = update_sets desk.schema.apart limit close_params plan_table.name plan_table.columns
      plan_table.primary
      plan_table.references 2 db
      close_plan_query.filter close_plan_query.project wanted source it.0 refl (λ r. refl)
      (λ r. ap₂ (λ a b. a && b) (equals_text (column r 1) operator)
      (both_hold _ ∙ equals_text (column r 2) id)) it.1 in
      let c = changes desk.schema.apart limit close_params plan_table.name plan_table.columns plan_table.primary
      plan_table.references 2 db wanted (is_of operator id) (columns 5) source
      (plan_row operator id priority 2 aircraft) it.0.trees desk.plans (λ r. refl) (λ r. refl)
      (λ r is.
      let parts = and_parts (is_text (column r 1) operator) (is_text (column r 2) id) is in
      then (ap (cast kind.Text) (text_same (column r 1) operator parts.0))
      (then (ap (cast kind.Text) (text_same (column r 2) id parts.1))
      (then (cast_int (pos priority)) (then (cast_int (pos 2)) (then (cast_int (pos aircraft)) refl)))))
      (plan_quiet desk.schema.apart limit close_params plan_table.name plan_table.columns plan_table.primary
      plan_table.references db) s in
      let same : new.schema ≡ old.schema = ap (λ (d : Database). d.schema) it.2 ∙ sym desk.schema.is in
      let now : new.trees ≡ it.0.trees = ap (λ (d : Database). d.trees) it.2 in
      let e0 : new.trees 0 ≡ db 0 = ap (λ (t : Trees). t 0) now ∙ c.others.0 (unequal _ _ refl) in
      let e4 : new.trees 4 ≡ db 4 = ap (λ (t : Trees). t 4) now ∙ c.others.1.1.0 (unequal _ _ refl) in
      let e6 : new.trees 6 ≡ db 6 = ap (λ (t : Trees). t 6) now ∙ c.others.1.1.1.0 (unequal _ _ refl) in
      let e9 : new.trees 9 ≡ db 9 = ap (λ (t : Trees). t 9) now ∙ c.others.1.1.1.1.0 (unequal _ _ refl) in
      let e11 : new.trees 11 ≡ db 11 =
      ap (λ (t : Trees). t 11) now ∙ c.others.1.1.1.1.1.0 (unequal _ _ refl) in (
        record {
          schema = subst IsDeskSchema (sym same) desk.schema;
          operators = subst AreNumbered (sym e0) desk.operators;
          plans = subst (λ (t : Trees). AreNumbered (t 2)) (sym now) c.num;
          old_volumes = subst AreNumbered (sym e4) desk.old_volumes;
          old_spans = subst AreNumbered (sym e6) desk.old_spans;
          volumes = subst AreNumbered (sym e9) desk.volumes;
          spans = subst AreNumbered (sym e11) desk.spans;
        },
        (
          subst (λ (t : Trees). IsPermutation (with_row (is_of operator id)
              (plan_row operator id priority 2 aircraft) (map (columns 5) (db 2)))
              (map (columns 5) (t 2)))
              (sym now) c.rows,
          tables_plan db new.trees e0 e4 e6 e9 e11,
        ),
        same,
      )

pub set_ceiling_changes : (name : List ℕ) (ceiling : ℕ) → Changes set_ceiling_text (operator_row name ceiling)
    (SetsOperators (is_row_by name) (operator_row name ceiling))
set_ceiling_changes name ceiling =
    changes_by set_ceiling_text (operator_row name ceiling) _ _ set_ceiling_is tt
    (λ limit old new desk h. set_ceiling name ceiling limit old new desk h)

-- it counts the operator's row, if there is one
pub set_ceiling_counts : (name : List ℕ) (ceiling : ℕ)
    → TextCounts set_ceiling_text (operator_row name ceiling)
    (λ count t. count ≡ length (filter (is_row_by name) t.operators))
set_ceiling_counts name ceiling = record {
  counted = λ limit old new count desk h.
      let params = operator_row name ceiling in
      let db = old.trees in
      let q : Program = record { lets = []; body = set_ceiling_query } in
      let d = did_counting set_ceiling_text params limit old new count desk (Update 0 q) set_ceiling_is h in
      let it = rows_counted (task_at desk.schema.apart limit params operator_table.name operator_table.columns
      operator_table.primary operator_table.references 0) (Update 0 q) db d.0 new d.1 in
      let wanted = λ (r : Row). is_text (column r 1) name in
      d.2 ∙ ap (λ rows. unwrap_or rows 0) it.2
      ∙ update_counts desk.schema.apart limit params operator_table.name operator_table.columns
      operator_table.primary operator_table.references 0 db
      set_ceiling_query.filter set_ceiling_query.project wanted
      (λ r. rowid r ∷ rowid r ∷ column r 1 ∷ Int (pos ceiling) ∷ []) it.0 refl (λ r. refl)
      (λ r. both_hold _ ∙ equals_text (column r 1) name) it.1
      ∙ as_many wanted (columns 2) (is_row_by name) (λ r. refl) (db 0);
}

-- where there is none, it writes nothing
pub set_ceiling_room : (name : List ℕ) (ceiling : ℕ)
    → TextTakes set_ceiling_text (operator_row name ceiling) (OperatorsStayUnless (is_row_by name))
set_ceiling_room name ceiling = record {
  room = λ limit old new desk h none.
      let params = operator_row name ceiling in
      let db = old.trees in
      let q : Program = record { lets = []; body = set_ceiling_query } in
      let d = did set_ceiling_text params limit old new desk (Update 0 q) set_ceiling_is h in
      let it = rows_written (task_at desk.schema.apart limit params operator_table.name operator_table.columns
      operator_table.primary operator_table.references 0) (Update 0 q) db d.0 new d.1 in
      let wanted = λ (r : Row). is_text (column r 1) name in
      let source = λ (r : Row). rowid r ∷ rowid r ∷ column r 1 ∷ Int (pos ceiling) ∷ [] in
      let s = update_sets desk.schema.apart limit params operator_table.name operator_table.columns
      operator_table.primary operator_table.references 0 db
      set_ceiling_query.filter set_ceiling_query.project wanted source it.0 refl (λ r. refl)
      (λ r. both_hold _ ∙ equals_text (column r 1) name) it.1 in
      ap (λ (d : Database). d.trees 0) it.2
      ∙ update_stays desk.schema.apart limit params operator_table.name operator_table.columns
      operator_table.primary operator_table.references 0 db wanted source it.0.trees
      (none_pass wanted (columns 2) (is_row_by name) (λ r. refl) (db 0) none)
      (λ found.
      let edit = update_edit desk.schema.apart limit params operator_table.name operator_table.columns
      operator_table.primary operator_table.references 0 db found in
      operator_quiet desk.schema.apart (taken_by db edit) edit.news) s;
}

pub set_closed_changes : (operator id : List ℕ) (priority aircraft : ℕ)
    → Changes close_plan_text (closing_row operator id priority aircraft)
    (SetsPlans (is_of operator id) (plan_row operator id priority 2 aircraft))
set_closed_changes operator id priority aircraft =
    changes_by close_plan_text (closing_row operator id priority aircraft) _ _ close_plan_is tt
    (λ limit old new desk h. close_plan operator id priority aircraft limit old new desk h)
