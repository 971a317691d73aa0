-- Emptying a sound desk's tables of version 1 is refused only by memory, the disk and a limit on steps.
use Rattle.std.proofs.Common.{inl, inr, ℕ, [], None, Option, Err, refl, sym, subst, true≢false, arith}
use Rattle.std.specs.Prelude.{⊤}
use Rattle.sqlite.specs.Tree.{Trees}
use Rattle.sqlite.specs.Edit.{edit_of, taken_by}
use Rattle.sqlite.specs.Rowids.TheVariants.{Given}
use Rattle.sqlite.specs.Command.TheVariants.{Delete}
use Rattle.sqlite.specs.Effect.{Database, IsDatabase}
use Rattle.sqlite.specs.Does.{OnRows}
use Rattle.sqlite.specs.Listing.{understood}
use Rattle.sqlite.specs.declared.error.Error.{Error}
use Rattle.sqlite_rules.specs.Lists.{Has}
use Rattle.sqlite_rules.specs.Calls.{ids_of}
use Rattle.sqlite_schema.specs.Rules.{Obeys, Refers}
use Rattle.sqlite_schema.specs.declared.program.Program.{Program}
use Rattle.sqlite_schema.specs.declared.schema.Among.TheVariants.{All}
use Rattle.sqlite_schema.specs.declared.schema.Constraint.TheVariants.{Unique}
use Rattle.sqlite_tied.specs.Compute.{everything}
use Rattle.desk_sql.specs.Schema.{old_volume_table, old_span_table, Beside, StandsApart, desk_in, desk_with}
use Rattle.desk_sql.specs.Rows.{IsDesk}
use Rattle.desk_sql.specs.Statements.{enforced}
use Rattle.desk_sql.specs.Changing.{IsAtLimit, IsSureChange}
use Rattle.desk_sql.proofs.lemmas.OldTexts.{empty_old_volumes_text, empty_old_spans_text, empty_query, empty_old_volumes_is, empty_old_spans_is}
use Rattle.desk_sql.proofs.lemmas.Number.{unequal}
use Rattle.desk_sql.proofs.lemmas.Cascade.{old_volume_works, old_span_works, old_volumes_at, old_spans_at}
use Rattle.desk_changes.proofs.EmptyLemmas.{Emptied, emptied, empty_task}
use Rattle.desk_sql.proofs.lemmas.Sure.{Misfits, never}
use Rattle.desk_sql.proofs.lemmas.Stop.{sure_change}
use Rattle.desk_changes.proofs.DeleteStops.{rows_stopped, deletes_stopped, quiet_out}
use Rattle.desk_sql.proofs.lemmas.Key.{obeyed_refers, refers_left, were_there}
use Rattle.desk_changes.proofs.RemoveStops.{still_there, old_volumes_referred, old_spans_referred}
use Rattle.desk_sql.proofs.lemmas.Beside.{rest_stays}

-- ---- version 1's volumes

module _ {beside : Beside} (away : StandsApart beside) where
  old_volumes_fit : (trees : Trees) → ¬ Misfits (empty_query 4) (desk_with beside) trees []
  unfolding everything
  old_volumes_fit trees misfit = true≢false misfit

  old_volumes_refer : (db next : Trees) → Emptied away 4 db next → Refers All (desk_with beside) db
      → Refers All (desk_with beside) next
  old_volumes_refer db next left refers =
      let a = left.others in
      let rest = rest_stays away 4 (omega arith) db next a.1.1.1.1.1.1 in
      refers_left away db next
      rest (were_there away db next rest (still_there (db 0) (next 0) (a.0 (unequal _ _ refl)))
      (still_there (db 2) (next 2) (a.1.0 (unequal _ _ refl)))
      (λ row there. absurd (subst (λ l. Has l row) left.rows there))
      (still_there (db 6) (next 6) (a.1.1.1.0 (unequal _ _ refl)))
      (still_there (db 9) (next 9) (a.1.1.1.1.0 (unequal _ _ refl)))
      (still_there (db 11) (next 11) (a.1.1.1.1.1.0 (unequal _ _ refl))))
      (λ p had. subst (λ l. Has l p) (sym (a.0 (unequal _ _ refl))) had)
      (λ row p there had _. subst (λ l. Has l p) (sym (a.1.0 (unequal _ _ refl))) had) refers

old_volumes_never : (limit : Option ℕ) (db : Database) (stop : Option Error) → (desk : IsDesk db)
    → IsDatabase db
    → OnRows (empty_task desk.schema.apart limit old_volume_table.name old_volume_table.columns
    old_volume_table.primary
    old_volume_table.references 4) enforced None
    (Delete 2 (record { lets = []; body = empty_query 4 })) db.trees (Err stop)
    → IsAtLimit limit stop
old_volumes_never limit db stop desk sound h =
    let task = empty_task desk.schema.apart limit old_volume_table.name old_volume_table.columns
    old_volume_table.primary
    old_volume_table.references 4 in
    let q : Program = record { lets = []; body = empty_query 4 } in
    let obeys = subst (λ s. Obeys s db.trees) desk.schema.is sound.obeys in
    rows_stopped task (Delete 2 q) db.trees stop (IsAtLimit limit stop)
    (deletes_stopped task q db.trees stop
    (λ e. never (desk_in db.schema) (empty_query 4) [] [] (old_volumes_fit desk.schema.apart)
    (λ trees h. elim h [ inl none ↦ absurd none | inr fold ↦ absurd fold.4 ]) limit
    (record { schema = desk_in db.schema; trees = db.trees }) e refl)
    (λ rows why. quiet_out desk.schema.apart old_volumes_at (old_volumes_referred desk.schema.apart) db.trees
    (ids_of rows) (obeys.rules Unique)
    (old_volume_works desk.schema.apart 0 (taken_by db.trees (edit_of db.trees old_volumes_at (ids_of rows)
    Given 0 []))) why))
    (λ w done. old_volumes_refer desk.schema.apart db.trees w.trees
    (emptied desk.schema.apart limit old_volume_table.name old_volume_table.columns old_volume_table.primary
    old_volume_table.references 4 db.trees w refl desk.old_volumes (old_volume_works desk.schema.apart) done)
    (obeyed_refers (desk_in db.schema) db.trees obeys)) h

pub empty_old_volumes_sure : IsSureChange empty_old_volumes_text [] (λ db. ⊤)
unfolding understood everything
empty_old_volumes_sure = sure_change empty_old_volumes_text [] _ _ empty_old_volumes_is tt (λ beside. refl)
    (λ beside. omega arith)
    (λ limit db stop desk sound fits h. old_volumes_never limit db stop desk sound h)

-- ---- version 1's spans

module _ {beside : Beside} (away : StandsApart beside) where
  old_spans_fit : (trees : Trees) → ¬ Misfits (empty_query 6) (desk_with beside) trees []
  unfolding everything
  old_spans_fit trees misfit = true≢false misfit

  old_spans_refer : (db next : Trees) → Emptied away 6 db next → Refers All (desk_with beside) db
      → Refers All (desk_with beside) next
  old_spans_refer db next left refers =
      let a = left.others in
      let rest = rest_stays away 6 (omega arith) db next a.1.1.1.1.1.1 in
      refers_left away db next
      rest (were_there away db next rest (still_there (db 0) (next 0) (a.0 (unequal _ _ refl)))
      (still_there (db 2) (next 2) (a.1.0 (unequal _ _ refl)))
      (still_there (db 4) (next 4) (a.1.1.0 (unequal _ _ refl)))
      (λ row there. absurd (subst (λ l. Has l row) left.rows there))
      (still_there (db 9) (next 9) (a.1.1.1.1.0 (unequal _ _ refl)))
      (still_there (db 11) (next 11) (a.1.1.1.1.1.0 (unequal _ _ refl))))
      (λ p had. subst (λ l. Has l p) (sym (a.0 (unequal _ _ refl))) had)
      (λ row p there had _. subst (λ l. Has l p) (sym (a.1.0 (unequal _ _ refl))) had) refers

old_spans_never : (limit : Option ℕ) (db : Database) (stop : Option Error) → (desk : IsDesk db) → IsDatabase db
    → OnRows (empty_task desk.schema.apart limit old_span_table.name old_span_table.columns
    old_span_table.primary
    old_span_table.references 6) enforced None
    (Delete 3 (record { lets = []; body = empty_query 6 })) db.trees (Err stop)
    → IsAtLimit limit stop
old_spans_never limit db stop desk sound h =
    let task = empty_task desk.schema.apart limit old_span_table.name old_span_table.columns
    old_span_table.primary
    old_span_table.references 6 in
    let q : Program = record { lets = []; body = empty_query 6 } in
    let obeys = subst (λ s. Obeys s db.trees) desk.schema.is sound.obeys in
    rows_stopped task (Delete 3 q) db.trees stop (IsAtLimit limit stop)
    (deletes_stopped task q db.trees stop
    (λ e. never (desk_in db.schema) (empty_query 6) [] [] (old_spans_fit desk.schema.apart)
    (λ trees h. elim h [ inl none ↦ absurd none | inr fold ↦ absurd fold.4 ]) limit
    (record { schema = desk_in db.schema; trees = db.trees }) e refl)
    (λ rows why. quiet_out desk.schema.apart old_spans_at (old_spans_referred desk.schema.apart) db.trees
    (ids_of rows) (obeys.rules Unique)
    (old_span_works desk.schema.apart 0 (taken_by db.trees (edit_of db.trees old_spans_at (ids_of rows) Given
    0 []))) why))
    (λ w done. old_spans_refer desk.schema.apart db.trees w.trees
    (emptied desk.schema.apart limit old_span_table.name old_span_table.columns old_span_table.primary
    old_span_table.references 6 db.trees w refl desk.old_spans (old_span_works desk.schema.apart) done)
    (obeyed_refers (desk_in db.schema) db.trees obeys)) h

pub empty_old_spans_sure : IsSureChange empty_old_spans_text [] (λ db. ⊤)
unfolding understood everything
empty_old_spans_sure = sure_change empty_old_spans_text [] _ _ empty_old_spans_is tt (λ beside. refl)
    (λ beside. omega arith)
    (λ limit db stop desk sound fits h. old_spans_never limit db stop desk sound h)
