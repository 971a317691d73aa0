-- Each text of an INSERT is refused, where its row fits, only by memory, the disk and a limit on steps.
use Rattle.std.proofs.Common.{◌≡◌, inl, inr, ℕ, ℤ, pos, Bool, true, false, ◌&&◌, List, [], ◌∷◌, ◌++◌, map, None, Option, Err, refl, sym, ap, ap₂, subst, ◌∙◌, true≢false, arith}
use Rattle.std.specs.Prelude.{IsSome}
use Rattle.std.specs.List.{list_any, list_all}
use Rattle.std.proofs.lemmas.Bool.{or_right}
use Rattle.sqlite.specs.Order.{Row, column}
use Rattle.sqlite.specs.declared.types.Value.{Value}
use Rattle.sqlite.specs.declared.types.Value.TheVariants.{Int}
use Rattle.sqlite.specs.declared.error.Error.{Error}
use Rattle.sqlite.specs.declared.error.Error.TheVariants.{SqliteFailure}
use Rattle.sqlite.specs.declared.error.ErrorCode.TheVariants as code
use Rattle.sqlite.specs.Tree.{Trees}
use Rattle.sqlite.specs.Edit.{next_rowid}
use Rattle.sqlite.specs.Source.TheVariants.{Values}
use Rattle.sqlite.specs.Command.TheVariants.{Insert}
use Rattle.sqlite.specs.Effect.{Database, IsDatabase, RefusesSource}
use Rattle.sqlite.specs.Does.{OnRows}
use Rattle.sqlite.specs.Listing.{understood}
use Rattle.sqlite.specs.Table.{Table}
use Rattle.sqlite_schema.specs.Rules.{agree, guards, has_null, has_parent, is_held, is_key_of, Obeys}
use Rattle.sqlite_schema.specs.declared.schema.Index.{Index}
use Rattle.sqlite_value.specs.Keys.{plain, first_key}
use Rattle.sqlite_tied.specs.Compute.{everything}
use Rattle.desk_sql.specs.Schema.{operator_table, plan_table, volume_table, span_table, to_operator, to_plan, Beside, StandsApart, desk_in, desk_with}
use Rattle.desk_sql.specs.Rows.{IsDesk, columns, operator_row, tables_of}
use Rattle.desk_changes.specs.RowChanges.{volume_columns, volume_row_in, volume_params, span_columns, span_row_in, plan_row_in}
use Rattle.desk_sql.specs.Statements.{enforced}
use Rattle.desk_changes.specs.declared.writing.PlanRecord.{PlanRecord}
use Rattle.desk_changes.specs.declared.writing.VolumeRecord.{VolumeRecord}
use Rattle.desk_changes.specs.declared.writing.SpanRecord.{SpanRecord}
use Rattle.desk_sql.specs.Changing.{FitsOperator, FitsPlan, FitsVolume, FitsSpan, HasKey, IsAtLimit, IsSureChange, has_same_key}
use Rattle.desk_sql.proofs.lemmas.Texts.{insert_operator_text, insert_plan_text, insert_volume_text, insert_span_text}
use Rattle.desk_sql.proofs.lemmas.CommandTexts.{insert_operator_is, insert_operator_terms, insert_plan_is, insert_plan_terms, insert_volume_is, insert_volume_terms, insert_span_is, insert_span_terms}
use Rattle.desk_sql.proofs.lemmas.Read.{equals}
use Rattle.desk_sql.proofs.lemmas.Number.{any_map, any_same}
use Rattle.desk_sql.proofs.lemmas.Write.{task_at, cast_int}
use Rattle.desk_sql.proofs.lemmas.Stop.{sure_change}
use Rattle.desk_sql.proofs.lemmas.Key.{operator_key, plan_key}
use Rattle.desk_sql.proofs.lemmas.Cascade.{key_places}
use Rattle.desk_changes.proofs.AddLemmas.{IsLone}
use Rattle.desk_changes.proofs.InsertStops.{never_stops}
use Rattle.desk_sql.proofs.lemmas.Size.{operator_stored, plan_stored, volume_stored, span_stored}
use Rattle.desk_sql.proofs.lemmas.Beside.{unguarded}

then : {a b : Value} {xs ys : Row} → a ≡ b → xs ≡ ys → a ∷ xs ≡ b ∷ ys
then p q = ap₂ (λ x xs. x ∷ xs) p q

-- ---- keys of stored rows, and of rows as they are shown

-- what holds of a row as it is shown
shown_any : (p q : Row → Bool) (show : Row → Row) → ((r : Row) → p r ≡ q (show r)) → (rows : List Row)
    → list_any p rows ≡ list_any q (map show rows)
shown_any p q show same rows = any_same p (λ r. q (show r)) same rows ∙ sym (any_map q show rows)

both : {a b c d : Bool} → a ≡ c → b ≡ d → (a && b) ≡ (c && d)
both p q = ap₂ (λ a b. a && b) p q

module _ (n : ℤ) (cells r : Row) where
  key_1 : agree plain (1 ∷ []) r (1 ∷ []) (Int n ∷ cells) ≡ has_same_key 1 (columns 2 r) cells
  unfolding first_key
  key_1 = both (equals (column r 1) (column cells 0)) refl

  key_2 : agree plain key_places r key_places (Int n ∷ cells) ≡ has_same_key 2 (columns 5 r) cells
  unfolding first_key
  key_2 = both (equals (column r 1) (column cells 0)) (both (equals (column r 2) (column cells 1)) refl)

  key_3 : agree plain (1 ∷ 2 ∷ 3 ∷ []) r (1 ∷ 2 ∷ 3 ∷ []) (Int n ∷ cells)
      ≡ has_same_key 3 (columns 8 r) cells
  unfolding first_key
  key_3 = both (equals (column r 1) (column cells 0)) (both (equals (column r 2) (column cells 1))
      (both (equals (column r 3) (column cells 2)) refl))

  key_4 : agree plain (1 ∷ 2 ∷ 3 ∷ 4 ∷ []) r (1 ∷ 2 ∷ 3 ∷ 4 ∷ []) (Int n ∷ cells)
      ≡ has_same_key 4 (columns 10 r) cells
  unfolding first_key
  key_4 = both (equals (column r 1) (column cells 0)) (both (equals (column r 2) (column cells 1))
      (both (equals (column r 3) (column cells 2)) (both (equals (column r 4) (column cells 3)) refl)))

module _ {beside : Beside} (away : StandsApart beside) where
  -- a parent that is shown is there
  operator_there : (db : Trees) (n : ℤ) (cells : Row) → HasKey 1 cells (tables_of db).operators
      → has_parent (desk_with beside).tables db (Int n ∷ cells) to_operator ≡ true
  operator_there db n cells has = or_right (has_null (1 ∷ []) (Int n ∷ cells)) _
      (subst (λ o. is_held db (1 ∷ []) (Int n ∷ cells) o ≡ true) (sym (operator_key away))
      (shown_any _ (λ r. has_same_key 1 r cells) (columns 2) (key_1 n cells) (db 0) ∙ has))

  plan_there : (db : Trees) (n : ℤ) (cells : Row) → HasKey 2 cells (tables_of db).plans
      → has_parent (desk_with beside).tables db (Int n ∷ cells) to_plan ≡ true
  plan_there db n cells has = or_right (has_null key_places (Int n ∷ cells)) _
      (subst (λ o. is_held db key_places (Int n ∷ cells) o ≡ true) (sym (plan_key away))
      (shown_any _ (λ r. has_same_key 2 r cells) (columns 5) (key_2 n cells) (db 2) ∙ has))

-- no key of another table
off : {P : Type 0} (table : Table) (i is : Index) → i ≡ is → guards is table ≡ false
    → guards i table ≡ true → P
off table i is same none on =
    absurd (true≢false (sym on ∙ ap (λ i. guards i table) same ∙ none))

abbrev at : ℕ → Table → Table
at tree table = record table { tree = tree }

alone : (show : Row → Row) (k : Row → Bool) (i is : Index) → i ≡ is → (row : Row) (rows : List Row)
    → ((r : Row) → agree is.order is.columns r is.columns row ≡ k (show r))
    → list_any k (map show rows) ≡ false
    → list_any (λ r. agree i.order i.columns r i.columns row) rows ≡ false
alone show k i is same row rows key none =
    subst (λ (i : Index). list_any (λ r. agree i.order i.columns r i.columns row) rows ≡ false) (sym same)
    (shown_any _ k show key rows ∙ none)

-- ---- the values fit their columns

operator_values : (name : List ℕ) (ceiling : ℕ) (limit : Option ℕ) (db : Database) (e : Error)
    → RefusesSource limit db (operator_row name ceiling ++ []) (Values insert_operator_terms 3) e
    → (e ≡ SqliteFailure code.OperationInterrupted) × IsSome limit
unfolding everything
operator_values name ceiling limit db e (inl misfit) = absurd (true≢false misfit.1)
operator_values name ceiling limit db e (inr steps) = steps

plan_values : (it : PlanRecord) (limit : Option ℕ) (db : Database) (e : Error)
    → RefusesSource limit db (plan_row_in it ++ []) (Values insert_plan_terms 6) e
    → (e ≡ SqliteFailure code.OperationInterrupted) × IsSome limit
unfolding everything
plan_values it limit db e (inl misfit) = absurd (true≢false misfit.1)
plan_values it limit db e (inr steps) = steps

volume_values : (it : VolumeRecord) (limit : Option ℕ) (db : Database) (e : Error)
    → RefusesSource limit db (volume_params it ++ []) (Values insert_volume_terms 10) e
    → (e ≡ SqliteFailure code.OperationInterrupted) × IsSome limit
unfolding everything
volume_values it limit db e (inl misfit) = absurd (true≢false misfit.1)
volume_values it limit db e (inr steps) = steps

span_values : (it : SpanRecord) (limit : Option ℕ) (db : Database) (e : Error)
    → RefusesSource limit db (span_row_in it ++ []) (Values insert_span_terms 11) e
    → (e ≡ SqliteFailure code.OperationInterrupted) × IsSome limit
unfolding everything
span_values it limit db e (inl misfit) = absurd (true≢false misfit.1)
span_values it limit db e (inr steps) = steps

module _ {beside : Beside} (away : StandsApart beside) where
  plan_refers : list_all (is_key_of (desk_with beside)) plan_table.references ≡ true
  unfolding everything
  plan_refers = refl

  volume_refers : list_all (is_key_of (desk_with beside)) volume_table.references ≡ true
  unfolding everything
  volume_refers = refl

  span_refers : list_all (is_key_of (desk_with beside)) span_table.references ≡ true
  unfolding everything
  span_refers = refl

-- ---- each row

module _ (name : List ℕ) (ceiling : ℕ) (limit : Option ℕ) (old : Database) (desk : IsDesk old)
    (sound : IsDatabase old) (fits : FitsOperator name (operator_row name ceiling) old) where
  abbrev operator_trees : Trees
  operator_trees = old.trees

  operator_lone : IsLone desk.schema.apart (at 0 operator_table) (inl refl) operator_trees
      (operator_row name ceiling)
  operator_lone i (inl is) on =
      alone (columns 2) (λ r. has_same_key 1 r (operator_row name ceiling)) i _ is _ (operator_trees 0)
      (key_1 (next_rowid (old.trees 0)) (operator_row name ceiling)) fits.1.1
  operator_lone i (inr (inl is)) on = off (at 0 operator_table) i _ is refl on
  operator_lone i (inr (inr (inl is))) on = off (at 0 operator_table) i _ is refl on
  operator_lone i (inr (inr (inr (inl is)))) on = off (at 0 operator_table) i _ is refl on
  operator_lone i (inr (inr (inr (inr (inl is))))) on = off (at 0 operator_table) i _ is refl on
  operator_lone i (inr (inr (inr (inr (inr (inl is)))))) on = off (at 0 operator_table) i _ is refl on
  operator_lone i (inr (inr (inr (inr (inr (inr (inl is))))))) on = off (at 0 operator_table) i _ is refl on
  operator_lone i (inr (inr (inr (inr (inr (inr (inr (inl is)))))))) on =
      off (at 0 operator_table) i _ is refl on
  operator_lone i (inr (inr (inr (inr (inr (inr (inr (inr known)))))))) on =
      absurd (true≢false (sym on ∙ unguarded desk.schema.apart (at 0 operator_table) (omega arith) i known))

  operator_never : (stop : Option Error)
      → OnRows (task_at desk.schema.apart limit (operator_row name ceiling) operator_table.name
      operator_table.columns
      operator_table.primary operator_table.references 0) enforced None
      (Insert 0 (Values insert_operator_terms 3)) old.trees (Err stop)
      → IsAtLimit limit stop
  operator_never = never_stops desk.schema.apart limit (operator_row name ceiling) operator_table.name
      operator_table.columns
      operator_table.primary operator_table.references 0 old.trees
      insert_operator_terms 3 (operator_row name ceiling) (record {
        listed = inl refl;
        refers = refl;
        one = refl;
        sure = operator_values name ceiling limit (record { schema = desk_in old.schema; trees = old.trees });
        casts = then refl (then (cast_int (pos ceiling)) refl);
        good = record {
          typed = λ n. refl;
          present = λ n. refl;
          checked = λ n. refl;
          stored = operator_stored desk.schema.apart name ceiling fits.0;
        };
        room = fits.1.0;
        whole = desk.operators.whole;
        lone = operator_lone;
        parents = tt;
        obeys = subst (λ s. Obeys s old.trees) desk.schema.is sound.obeys;
      }) 0

module _ (p : PlanRecord) (limit : Option ℕ) (old : Database) (desk : IsDesk old) (sound : IsDatabase old)
    (fits : FitsPlan p.operator.now p.id.now (plan_row_in p) old) where
  abbrev plan_trees : Trees
  plan_trees = old.trees

  plan_lone : IsLone desk.schema.apart (at 2 plan_table) (inr (inl refl)) plan_trees (plan_row_in p)
  plan_lone i (inl is) on = off (at 2 plan_table) i _ is refl on
  plan_lone i (inr (inl is)) on =
      alone (columns 5) (λ r. has_same_key 2 r (plan_row_in p)) i _ is _ (plan_trees 2)
      (key_2 (next_rowid (old.trees 2)) (plan_row_in p)) fits.2.1
  plan_lone i (inr (inr (inl is))) on = off (at 2 plan_table) i _ is refl on
  plan_lone i (inr (inr (inr (inl is)))) on = off (at 2 plan_table) i _ is refl on
  plan_lone i (inr (inr (inr (inr (inl is))))) on = off (at 2 plan_table) i _ is refl on
  plan_lone i (inr (inr (inr (inr (inr (inl is)))))) on = off (at 2 plan_table) i _ is refl on
  plan_lone i (inr (inr (inr (inr (inr (inr (inl is))))))) on = off (at 2 plan_table) i _ is refl on
  plan_lone i (inr (inr (inr (inr (inr (inr (inr (inl is)))))))) on = off (at 2 plan_table) i _ is refl on
  plan_lone i (inr (inr (inr (inr (inr (inr (inr (inr known)))))))) on =
      absurd (true≢false (sym on ∙ unguarded desk.schema.apart (at 2 plan_table) (omega arith) i known))

  plan_never : (stop : Option Error)
      → OnRows (task_at desk.schema.apart limit (plan_row_in p) plan_table.name plan_table.columns
      plan_table.primary
      plan_table.references 2) enforced None (Insert 1 (Values insert_plan_terms 6)) old.trees (Err stop)
      → IsAtLimit limit stop
  plan_never = never_stops desk.schema.apart limit (plan_row_in p) plan_table.name plan_table.columns
      plan_table.primary
      plan_table.references 2 old.trees insert_plan_terms 6 (plan_row_in p) (record {
        listed = inr (inl refl);
        refers = (plan_refers desk.schema.apart);
        one = refl;
        sure = plan_values p limit (record { schema = desk_in old.schema; trees = old.trees });
        casts = then refl (then refl (then (cast_int (pos p.priority)) (then (cast_int (pos p.usage))
            (then (cast_int (pos p.aircraft)) refl))));
        good = record {
          typed = λ n. refl;
          present = λ n. refl;
          checked = λ n. refl;
          stored = plan_stored desk.schema.apart p.operator.now p.id.now p.priority p.usage p.aircraft fits.0
              fits.1;
        };
        room = fits.2.0;
        whole = desk.plans.whole;
        lone = plan_lone;
        parents = (operator_there desk.schema.apart plan_trees _ (plan_row_in p) fits.3, tt);
        obeys = subst (λ s. Obeys s old.trees) desk.schema.is sound.obeys;
      }) 1

module _ (v : VolumeRecord) (limit : Option ℕ) (old : Database) (desk : IsDesk old) (sound : IsDatabase old)
    (fits : FitsVolume v.operator.now v.id.now v.asked.now v.canon.now (volume_row_in v) old) where
  abbrev volume_trees : Trees
  volume_trees = old.trees

  volume_lone : IsLone desk.schema.apart (at 9 volume_table) (inr (inr (inr (inr (inl refl))))) volume_trees
      (volume_params v)
  volume_lone i (inl is) on = off (at 9 volume_table) i _ is refl on
  volume_lone i (inr (inl is)) on = off (at 9 volume_table) i _ is refl on
  volume_lone i (inr (inr (inl is))) on = off (at 9 volume_table) i _ is refl on
  volume_lone i (inr (inr (inr (inl is)))) on = off (at 9 volume_table) i _ is refl on
  volume_lone i (inr (inr (inr (inr (inl is))))) on = off (at 9 volume_table) i _ is refl on
  volume_lone i (inr (inr (inr (inr (inr (inl is)))))) on =
      alone (columns 8) (λ r. has_same_key 3 r (volume_params v)) i _ is _ (volume_trees 9)
      (key_3 (next_rowid (old.trees 9)) (volume_params v)) fits.4.1
  volume_lone i (inr (inr (inr (inr (inr (inr (inl is))))))) on = off (at 9 volume_table) i _ is refl on
  volume_lone i (inr (inr (inr (inr (inr (inr (inr (inl is)))))))) on = off (at 9 volume_table) i _ is refl on
  volume_lone i (inr (inr (inr (inr (inr (inr (inr (inr known)))))))) on =
      absurd (true≢false (sym on ∙ unguarded desk.schema.apart (at 9 volume_table) (omega arith) i known))

  volume_never : (stop : Option Error)
      → OnRows (task_at desk.schema.apart limit (volume_params v) volume_table.name volume_table.columns
      volume_table.primary
      volume_table.references 9) enforced None (Insert 4 (Values insert_volume_terms 10)) old.trees
      (Err stop)
      → IsAtLimit limit stop
  volume_never = never_stops desk.schema.apart limit (volume_params v) volume_table.name volume_table.columns
      volume_table.primary volume_table.references 9 old.trees insert_volume_terms 10 (volume_params v)
      (record {
        listed = inr (inr (inr (inr (inl refl))));
        refers = (volume_refers desk.schema.apart);
        one = refl;
        sure = volume_values v limit (record { schema = desk_in old.schema; trees = old.trees });
        casts = then refl (then refl (then (cast_int (pos v.place)) (then (cast_int v.lower)
            (then (cast_int v.upper) (then (cast_int v.start) (then (cast_int v.stop) refl))))));
        good = record {
          typed = λ n. refl;
          present = λ n. refl;
          checked = λ n. refl;
          stored = volume_stored desk.schema.apart (volume_columns v) v.canon.now fits.0 fits.1 fits.2 fits.3;
        };
        room = fits.4.0;
        whole = desk.volumes.whole;
        lone = volume_lone;
        parents = (plan_there desk.schema.apart volume_trees _ (volume_params v) fits.5, tt);
        obeys = subst (λ s. Obeys s old.trees) desk.schema.is sound.obeys;
      }) 4

module _ (s : SpanRecord) (limit : Option ℕ) (old : Database) (desk : IsDesk old) (sound : IsDatabase old)
    (fits : FitsSpan s.operator.now s.id.now (span_row_in s) old) where
  abbrev span_trees : Trees
  span_trees = old.trees

  span_lone : IsLone desk.schema.apart (at 11 span_table) (inr (inr (inr (inr (inr (inl refl)))))) span_trees
      (span_row_in s)
  span_lone i (inl is) on = off (at 11 span_table) i _ is refl on
  span_lone i (inr (inl is)) on = off (at 11 span_table) i _ is refl on
  span_lone i (inr (inr (inl is))) on = off (at 11 span_table) i _ is refl on
  span_lone i (inr (inr (inr (inl is)))) on = off (at 11 span_table) i _ is refl on
  span_lone i (inr (inr (inr (inr (inl is))))) on = off (at 11 span_table) i _ is refl on
  span_lone i (inr (inr (inr (inr (inr (inl is)))))) on = off (at 11 span_table) i _ is refl on
  span_lone i (inr (inr (inr (inr (inr (inr (inl is))))))) on =
      alone (columns 10) (λ r. has_same_key 4 r (span_row_in s)) i _ is _ (span_trees 11)
      (key_4 (next_rowid (old.trees 11)) (span_row_in s)) fits.2.1
  span_lone i (inr (inr (inr (inr (inr (inr (inr (inl is)))))))) on = off (at 11 span_table) i _ is refl on
  span_lone i (inr (inr (inr (inr (inr (inr (inr (inr known)))))))) on =
      absurd (true≢false (sym on ∙ unguarded desk.schema.apart (at 11 span_table) (omega arith) i known))

  span_never : (stop : Option Error)
      → OnRows (task_at desk.schema.apart limit (span_row_in s) span_table.name span_table.columns
      span_table.primary
      span_table.references 11) enforced None (Insert 5 (Values insert_span_terms 11)) old.trees (Err stop)
      → IsAtLimit limit stop
  span_never = never_stops desk.schema.apart limit (span_row_in s) span_table.name span_table.columns
      span_table.primary
      span_table.references 11 old.trees insert_span_terms 11 (span_row_in s) (record {
        listed = inr (inr (inr (inr (inr (inl refl)))));
        refers = (span_refers desk.schema.apart);
        one = refl;
        sure = span_values s limit (record { schema = desk_in old.schema; trees = old.trees });
        casts = then refl (then refl (then (cast_int (pos s.place)) (then (cast_int s.first)
            (then (cast_int s.last) (then (cast_int s.lower) (then (cast_int s.upper) (then (cast_int s.start)
            (then (cast_int s.stop) (then (cast_int (pos s.priority)) refl)))))))));
        good = record {
          typed = λ n. refl;
          present = λ n. refl;
          checked = λ n. refl;
          stored = span_stored desk.schema.apart (span_columns s) fits.0 fits.1;
        };
        room = fits.2.0;
        whole = desk.spans.whole;
        lone = span_lone;
        parents = (plan_there desk.schema.apart span_trees _ (span_row_in s) fits.3, tt);
        obeys = subst (λ s. Obeys s old.trees) desk.schema.is sound.obeys;
      }) 5

-- ---- the texts

pub insert_operator_sure : (name : List ℕ) (ceiling : ℕ) → IsSureChange insert_operator_text
    (operator_row name ceiling) (FitsOperator name (operator_row name ceiling))
unfolding understood everything
insert_operator_sure name ceiling =
    sure_change insert_operator_text (operator_row name ceiling) _ _ insert_operator_is tt (λ beside. refl)
    (λ beside. omega arith)
    (λ limit db stop desk sound fits h. operator_never name ceiling limit db desk sound fits stop h)

pub insert_plan_sure : (p : PlanRecord) → IsSureChange insert_plan_text (plan_row_in p)
    (FitsPlan p.operator.now p.id.now (plan_row_in p))
unfolding understood everything
insert_plan_sure p = sure_change insert_plan_text (plan_row_in p) _ _ insert_plan_is tt (λ beside. refl)
    (λ beside. omega arith)
    (λ limit db stop desk sound fits h. plan_never p limit db desk sound fits stop h)

pub insert_volume_sure : (v : VolumeRecord) → IsSureChange insert_volume_text (volume_params v)
    (FitsVolume v.operator.now v.id.now v.asked.now v.canon.now (volume_row_in v))
unfolding understood everything
insert_volume_sure v = sure_change insert_volume_text (volume_params v) _ _ insert_volume_is tt (λ beside. refl)
    (λ beside. omega arith)
    (λ limit db stop desk sound fits h. volume_never v limit db desk sound fits stop h)

pub insert_span_sure : (s : SpanRecord) → IsSureChange insert_span_text (span_row_in s)
    (FitsSpan s.operator.now s.id.now (span_row_in s))
unfolding understood everything
insert_span_sure s = sure_change insert_span_text (span_row_in s) _ _ insert_span_is tt (λ beside. refl)
    (λ beside. omega arith)
    (λ limit db stop desk sound fits h. span_never s limit db desk sound fits stop h)
