-- Each DELETE of a sound desk's rows is refused only by memory, the disk and a limit on steps.
use Rattle.std.proofs.Common.{◌≡◌, inl, inr, ℕ, zero, suc, ℤ, Bool, true, false, not, cond, List, [], ◌∷◌, ◌++◌, append-nil, None, Option, Err, refl, sym, ap, subst, ◌∙◌, filter, true≢false, arith}
use Rattle.std.specs.Prelude.{⊤}
use Rattle.std.specs.List.{list_any}
use Rattle.std.proofs.lemmas.Bool.{both_ways, cases_Bool, not-true, not_from_false}
use Rattle.sqlite.specs.Order.{Row}
use Rattle.sqlite.specs.Tree.{Trees}
use Rattle.sqlite.specs.Edit.{edit_of, taken_by}
use Rattle.sqlite.specs.Rowids.TheVariants.{Given}
use Rattle.sqlite.specs.Command.TheVariants.{Delete}
use Rattle.sqlite.specs.Effect.{Database, IsDatabase}
use Rattle.sqlite.specs.Listing.{understood}
use Rattle.sqlite.specs.declared.error.Error.{Error}
use Rattle.sqlite_rules.specs.declared.error.Refusal.{Refusal}
use Rattle.sqlite_rules.specs.Lists.{Has}
use Rattle.sqlite_rules.specs.Calls.{ids_of}
use Rattle.sqlite_rules.specs.Action.{Leads, Acts, ActsOn, Settles, Writes, pairs, loses, Work}
use Rattle.sqlite_rules.proofs.ListLemmas.{has_filtered, has_kept, some_from}
use Rattle.sqlite_rules.proofs.KeyLemmas.{agree_back}
use Rattle.sqlite_schema.specs.Rules.{agree, Keeps, Refers}
use Rattle.sqlite_schema.specs.declared.schema.Among.TheVariants.{All}
use Rattle.sqlite_schema.specs.declared.schema.Constraint.TheVariants.{Unique}
use Rattle.sqlite_schema.specs.declared.schema.Keys.TheVariants.{Enforced}
use Rattle.sqlite_schema.specs.declared.schema.Table.{Table as TablesPresent}
use Rattle.sqlite_value.specs.Keys.{plain}
use Rattle.sqlite_tied.specs.Compute.{everything}
use Rattle.sqlite.specs.Does.{OnRows}
use Rattle.desk_sql.specs.Schema.{plan_table, Beside, StandsApart, desk_in, desk_with}
use Rattle.desk_sql.specs.Rows.{IsDesk}
use Rattle.desk_sql.specs.Statements.{enforced}
use Rattle.desk_changes.specs.RowChanges.{key_row}
use Rattle.desk_sql.specs.Changing.{IsAtLimit, IsSureChange}
use Rattle.desk_sql.proofs.lemmas.Texts.{remove_spans_text, remove_plan_text}
use Rattle.desk_sql.proofs.lemmas.CommandTexts.{remove_spans_is, remove_spans_query, remove_plan_is, remove_plan_query}
use Rattle.desk_sql.proofs.lemmas.Cascade.{IsQuiet, has_key, key_places, agrees, plan_works, plan_actions, old_volume_works, old_span_works, volume_works, span_works, delete_on, old_volumes_at, old_spans_at, volumes_at, spans_at, none_last, last_is}
use Rattle.desk_changes.proofs.RemoveLemmas.{AreSpared, AreCut, spans_task, spans_program, spans_removed, plan_task, plan_program, plan_removed}
use Rattle.desk_sql.proofs.lemmas.Sure.{Misfits, never}
use Rattle.desk_sql.proofs.lemmas.Stop.{sure_change}
use Rattle.desk_changes.proofs.DeleteStops.{IsReferredTo, rows_stopped, deletes_stopped, quiet_out, taken_out, never_ends}
use Rattle.desk_sql.proofs.lemmas.Key.{AreAmong, IsChild, obeyed_refers, refers_left, were_there}
use Rattle.desk_sql.proofs.lemmas.Beside.{others_fit}

-- ---- the queries that find the rows

abbrev plan_at : TablesPresent
plan_at = record plan_table { tree = 2 }

module _ {beside : Beside} (away : StandsApart beside) where
  spans_fit : (operator id : List ℕ) (trees : Trees)
      → ¬ Misfits remove_spans_query (desk_with beside) trees (key_row operator id)
  unfolding everything
  spans_fit operator id trees misfit = true≢false misfit

  plan_fits : (operator id : List ℕ) (trees : Trees)
      → ¬ Misfits remove_plan_query (desk_with beside) trees (key_row operator id)
  unfolding everything
  plan_fits operator id trees misfit = true≢false misfit

  -- ---- the spans of a plan

  pub old_volumes_referred : IsReferredTo away old_volumes_at
  unfolding everything
  old_volumes_referred = others_fit away old_volumes_at (inr (inr (inl refl)))

  pub old_spans_referred : IsReferredTo away old_spans_at
  unfolding everything
  old_spans_referred = others_fit away old_spans_at (inr (inr (inr (inl refl))))

  volumes_referred : IsReferredTo away volumes_at
  unfolding everything
  volumes_referred = others_fit away volumes_at (inr (inr (inr (inr (inl refl)))))

  spans_referred : IsReferredTo away spans_at
  unfolding everything
  spans_referred = others_fit away spans_at (inr (inr (inr (inr (inr (inl refl))))))

  plan_referred : IsReferredTo away plan_at
  unfolding everything
  plan_referred = others_fit away plan_at (inr (inl refl))

same_or_less : (rows next : List Row) (p : Row → Bool) (b : Bool)
    → next ≡ cond b (filter p rows) rows → AreAmong next rows
same_or_less rows next p true is row there = (has_filtered p rows row (subst (λ l. Has l row) is there)).0
same_or_less rows next p false is row there = subst (λ l. Has l row) is there

pub still_there : (rows next : List Row) → next ≡ rows → AreAmong next rows
still_there rows next is row there = subst (λ l. Has l row) is there

module _ {beside : Beside} (away : StandsApart beside) where
  module _ (operator id : List ℕ) where
    abbrev lacks : Row → Bool
    lacks r = not (has_key operator id r)

    spans_refer : (db next : Trees) → AreSpared away operator id db next → Refers All (desk_with beside) db
        → Refers All (desk_with beside) next
    spans_refer db next left refers =
        refers_left away db next
        left.rest (were_there away db next left.rest (still_there (db 0) (next 0) left.operators)
        (still_there (db 2) (next 2) left.plans) (still_there (db 4) (next 4) left.old_volumes)
        (still_there (db 6) (next 6) left.old_spans) (still_there (db 9) (next 9) left.volumes)
        (same_or_less (db 11) (next 11) lacks true left.spans))
        (λ p had. subst (λ l. Has l p) (sym left.operators) had)
        (λ row p there had _. subst (λ l. Has l p) (sym left.plans) had) refers

    -- ---- a plan

    has_key_at : (row p : Row) → has_key operator id p ≡ true
        → agree plain key_places p key_places row ≡ true → has_key operator id row ≡ true
    has_key_at row p is same = sym (agrees operator id row p is)
        ∙ agree_back plain key_places key_places p row same

    plan_refers : (db next : Trees) → AreCut away operator id (list_any (has_key operator id) (db 2)) db next
        → Refers All (desk_with beside) db → Refers All (desk_with beside) next
    plan_refers db next left refers =
        refers_left away db next
        left.rest (were_there away db next left.rest (still_there (db 0) (next 0) left.operators)
        (same_or_less (db 2) (next 2) lacks true left.plans)
        (same_or_less (db 4) (next 4) lacks _ left.old_volumes)
        (same_or_less (db 6) (next 6) lacks _ left.old_spans)
        (same_or_less (db 9) (next 9) lacks _ left.volumes)
        (same_or_less (db 11) (next 11) lacks _ left.spans))
        (λ p had. subst (λ l. Has l p) (sym left.operators) had)
        (λ row p there had same. subst (λ l. Has l p) (sym left.plans)
        (has_kept lacks (db 2) p had (stays row p there had same))) refers
      where
        gone_with : (b : Bool) (rows after : List Row) (row : Row) → b ≡ true
            → after ≡ cond b (filter lacks rows) rows → Has after row → has_key operator id row ≡ false
        gone_with true rows after row is cut there =
            not-true _ (has_filtered lacks rows row (subst (λ l. Has l row) cut there)).1
        gone_with false rows after row is cut there = cc

        lost : (row : Row) → list_any (has_key operator id) (db 2) ≡ true → IsChild next row
            → has_key operator id row ≡ false
        lost row is (inl there) = gone_with _ (db 4) (next 4) row is left.old_volumes there
        lost row is (inr (inl there)) = gone_with _ (db 6) (next 6) row is left.old_spans there
        lost row is (inr (inr (inl there))) = gone_with _ (db 9) (next 9) row is left.volumes there
        lost row is (inr (inr (inr there))) = gone_with _ (db 11) (next 11) row is left.spans there

        stays : (row p : Row) → IsChild next row → Has (db 2) p
            → agree plain key_places p key_places row ≡ true → lacks p ≡ true
        stays row p there had same = elim (cases_Bool (has_key operator id p)) [
          | inl is ↦
              absurd (both_ways _ (lost row (some_from (has_key operator id) (db 2) p had is) there)
              (has_key_at row p is same))
          | inr other ↦ not_from_false _ other
        ]

  -- ---- the actions

  module _ (moves : List (Row × Row)) (why : Option Refusal) where
    -- one action, and what is left to do
    one_gone : (n : ℕ) (db : Trees) (table : TablesPresent) → IsReferredTo away table → IsQuiet away table.tree
        → (below : List Work) (ids : List ℤ) → Keeps Unique (desk_with beside) db
        → ActsOn (desk_with beside) Enforced (Leads (desk_with beside) Enforced n) db (delete_on table moves)
        below (Err why)
        ids
        → (mid : Trees) × Keeps Unique (desk_with beside) mid
        × Leads (desk_with beside) Enforced n mid below (Err why)
    one_gone n db table referred quiet below [] keeps h = (db, keeps, h)
    one_gone n db table referred quiet below (id ∷ ids) keeps h =
        let done = taken_out away table referred db (id ∷ ids) keeps (Leads (desk_with beside) Enforced n) 1
        below why h in
        let rest = ap (λ ws. below ++ ws) (quiet 1 (taken_by db (edit_of db table (id ∷ ids) Given 0 [])))
        ∙ append-nil below in (
          done.0,
          done.1.fits.rules Unique (λ e. cc),
          subst (λ ws. Leads (desk_with beside) Enforced n done.0 ws (Err why)) rest done.2,
        )

    -- actions that are all made
    abbrev AreMade : List Work → Type 0
    AreMade works = (n : ℕ) (db : Trees) → Keeps Unique (desk_with beside) db
        → ¬ Leads (desk_with beside) Enforced n db works (Err why)

    none_end : AreMade []
    none_end n db keeps h = never_ends away n db why h

    one_ends : (table : TablesPresent) → IsReferredTo away table → IsQuiet away table.tree
        → (before : List Work)
        → AreMade before → AreMade (before ++ delete_on table moves ∷ [])
    one_ends table referred quiet before ends zero db keeps h =
        none_last before (delete_on table moves) h.0
    one_ends table referred quiet before ends (suc n) db keeps h =
        let last = last_is before h.0 (delete_on table moves) h.1 h.2 in
        let acts = subst (λ ws. Acts (desk_with beside) Enforced (Leads (desk_with beside) Enforced n) db
        (delete_on table moves) ws (Err why)) last.0
        (subst (λ w. Acts (desk_with beside) Enforced (Leads (desk_with beside) Enforced n) db w h.0
        (Err why)) last.1
        h.3) in
        let done = one_gone n db table referred quiet before acts.0 keeps acts.2 in
        ends n done.0 done.1 done.2

    all_end : AreMade (plan_actions moves)
    all_end =
        let one = one_ends old_volumes_at (old_volumes_referred away) (old_volume_works away) [] none_end in
        let two = one_ends old_spans_at (old_spans_referred away) (old_span_works away)
        (delete_on old_volumes_at moves ∷ []) one in
        let three = one_ends volumes_at (volumes_referred away) (volume_works away)
        (delete_on old_volumes_at moves ∷ delete_on old_spans_at moves ∷ []) two in
        one_ends spans_at (spans_referred away) (span_works away) (delete_on old_volumes_at moves
        ∷ delete_on old_spans_at moves ∷ delete_on volumes_at moves ∷ []) three

    some_end : (db : Trees) (b : Bool) → Keeps Unique (desk_with beside) db
        → ¬ Settles (desk_with beside) Enforced db (cond b (plan_actions moves) []) (Err why)
    some_end db true keeps h = all_end h.0 db keeps h.1
    some_end db false keeps h = never_ends away h.0 db why h.1

  plan_goes : (db : Trees) (gone : List ℤ) (why : Option Refusal) → Keeps Unique (desk_with beside) db
      → ¬ Writes (desk_with beside) Enforced db (edit_of db plan_at gone Given 0 []) (Err why)
  plan_goes db gone why keeps h =
      let done = taken_out away plan_at (plan_referred away) db gone keeps
      (Settles (desk_with beside) Enforced) 0 [] why h in
      let olds = taken_by db (edit_of db plan_at gone Given 0 []) in
      let b = list_any (loses plain key_places) (pairs olds []) in
      some_end (pairs olds []) why done.0 b (done.1.fits.rules Unique (λ e. cc))
      (subst (λ ws. Settles (desk_with beside) Enforced done.0 ws (Err why)) (plan_works away olds b refl)
      done.2)

spans_never : (operator id : List ℕ) (limit : Option ℕ) (db : Database) (stop : Option Error)
    → (desk : IsDesk db) → IsDatabase db
    → OnRows (spans_task desk.schema.apart operator id limit) enforced None
    (Delete 5 (spans_program desk.schema.apart operator id limit))
    db.trees (Err stop)
    → IsAtLimit limit stop
spans_never operator id limit db stop desk sound h =
    let obeys = subst (λ s. Rattle.sqlite_schema.specs.Rules.Obeys s db.trees) desk.schema.is sound.obeys in
    rows_stopped (spans_task desk.schema.apart operator id limit)
    (Delete 5 (spans_program desk.schema.apart operator id limit)) db.trees stop
    (IsAtLimit limit stop)
    (deletes_stopped (spans_task desk.schema.apart operator id limit)
    (spans_program desk.schema.apart operator id limit) db.trees stop
    (λ e. never (desk_in db.schema) remove_spans_query [] (key_row operator id)
    (spans_fit desk.schema.apart operator id)
    (λ trees h. elim h [ inl none ↦ absurd none | inr fold ↦ absurd fold.4 ]) limit
    (record { schema = desk_in db.schema; trees = db.trees }) e refl)
    (λ rows why. quiet_out desk.schema.apart spans_at (spans_referred desk.schema.apart) db.trees
    (ids_of rows) (obeys.rules Unique)
    (span_works desk.schema.apart 0 (taken_by db.trees (edit_of db.trees spans_at (ids_of rows) Given 0 [])))
    why))
    (λ w done. spans_refer desk.schema.apart operator id db.trees w.trees
    (spans_removed desk.schema.apart operator id limit db w desk done)
    (obeyed_refers (desk_in db.schema) db.trees obeys)) h

plan_never : (operator id : List ℕ) (limit : Option ℕ) (db : Database) (stop : Option Error)
    → (desk : IsDesk db)
    → IsDatabase db
    → OnRows (plan_task desk.schema.apart operator id limit) enforced None
    (Delete 1 (plan_program desk.schema.apart operator id limit))
    db.trees (Err stop)
    → IsAtLimit limit stop
plan_never operator id limit db stop desk sound h =
    let obeys = subst (λ s. Rattle.sqlite_schema.specs.Rules.Obeys s db.trees) desk.schema.is sound.obeys in
    rows_stopped (plan_task desk.schema.apart operator id limit)
    (Delete 1 (plan_program desk.schema.apart operator id limit)) db.trees stop
    (IsAtLimit limit stop)
    (deletes_stopped (plan_task desk.schema.apart operator id limit)
    (plan_program desk.schema.apart operator id limit) db.trees stop
    (λ e. never (desk_in db.schema) remove_plan_query [] (key_row operator id)
    (plan_fits desk.schema.apart operator id)
    (λ trees h. elim h [ inl none ↦ absurd none | inr fold ↦ absurd fold.4 ]) limit
    (record { schema = desk_in db.schema; trees = db.trees }) e refl)
    (λ rows why. plan_goes desk.schema.apart db.trees (ids_of rows) why (obeys.rules Unique)))
    (λ w done. plan_refers desk.schema.apart operator id db.trees w.trees
    (plan_removed desk.schema.apart operator id limit db w desk done)
    (obeyed_refers (desk_in db.schema) db.trees obeys)) h

-- ---- the texts

pub remove_spans_sure : (operator id : List ℕ)
    → IsSureChange remove_spans_text (key_row operator id) (λ db. ⊤)
unfolding understood everything
remove_spans_sure operator id =
    sure_change remove_spans_text (key_row operator id) _ _ remove_spans_is tt (λ beside. refl)
    (λ beside. omega arith)
    (λ limit db stop desk sound fits h. spans_never operator id limit db stop desk sound h)

pub remove_plan_sure : (operator id : List ℕ)
    → IsSureChange remove_plan_text (key_row operator id) (λ db. ⊤)
unfolding understood everything
remove_plan_sure operator id =
    sure_change remove_plan_text (key_row operator id) _ _ remove_plan_is tt (λ beside. refl)
    (λ beside. omega arith)
    (λ limit db stop desk sound fits h. plan_never operator id limit db stop desk sound h)
