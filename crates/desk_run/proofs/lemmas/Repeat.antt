-- A call that is made twice in a row leaves what it leaves once, with its proof.
use Rattle.std.proofs.Common.{◌≡◌, ℕ, ℤ, Bool, true, false, not, cond, List, [], ◌∷◌, ◌++◌, map, append-nil, Option, Some, None, refl, sym, ap, subst, ◌∙◌, Less, Equal, Greater}
use Rattle.std.specs.Prelude.{is_some, ⊤}
use Rattle.std.specs.List.{filter, list_any}
use Rattle.std.specs.Ordering.{is_eq, is_lt, is_gt, match_ordering}
use Rattle.std.specs.declared.cmp.Ordering.{Ordering}
use Rattle.std.specs.Cmp.Lexicographic.{nat_list_cmp_total}
use Rattle.std.proofs.lemmas.Cmp.{tied_itself}
use Rattle.std.proofs.lemmas.List.Elements.{filter-append}
use Rattle.volume4d.specs.Volume.{Point, Block}
use Rattle.volume4d.specs.Sweep.{Spot}
use Rattle.desk_rules.specs.declared.plan.PlanRow.{PlanRow}
use Rattle.desk_rules.specs.declared.plan.PutCall.{PutCall}
use Rattle.desk_rules.specs.declared.plan.States.{States}
use Rattle.desk_rules.specs.declared.words.Usage.{Usage}
use Rattle.desk_rules.specs.declared.words.Usage.TheVariants as usage
use Rattle.desk_rules.specs.declared.words.Aircraft.{Aircraft}
use Rattle.desk_rules.specs.declared.words.Aircraft.TheVariants as aircraft
use Rattle.desk_rules.specs.declared.words.Style.{Style}
use Rattle.desk_rules.specs.declared.words.Style.TheVariants as style
use Rattle.desk_rules.specs.declared.words.Note.{Note}
use Rattle.desk_rules.specs.declared.transition.Step.{Step}
use Rattle.desk_rules.specs.declared.transition.Step.TheVariants.{Refuse, Check, Report, Shut, Keep}
use Rattle.desk_rules.specs.declared.decide.Standing.{Standing}
use Rattle.desk_rules.specs.declared.decide.Effect.{Effect}
use Rattle.desk_rules.specs.declared.decide.Effect.TheVariants as effect
use Rattle.desk_rules.specs.declared.terms.Terms.{Terms}
use Rattle.desk_rules.specs.declared.call.Call.{Call}
use Rattle.desk_rules.specs.declared.call.Call.TheVariants as call
use Rattle.desk_rules.specs.Outcome.{step_from, step_from_closed, step_from_contingency, step_from_none, step_from_planned, step_from_states, step_from_use, note_from, outcome_under, step_effect, styled_effect, verdict_from}
use Rattle.desk_store.specs.World.{Filed, Listed, Own, World, own, text_cmp, has_id, stored_of, ceiling_of}
use Rattle.desk_store.specs.Changes.{put_row, closed, close_row, filed_by, is_before, is_after, replaced, with_plans, list_operator, with_operator}
use Rattle.desk_store.proofs.lemmas.World.{own_replaced}
use Rattle.desk_run.specs.Verdicts.{DeskWorld, enrolled, held_in, put_outcome, plans_left, put_ruling, row_asked, delete_ruling, show_ruling, clear_ruling, is_in, enrolled_ruling, ruling_under, verdict, world_with_plans, ruling_in, step}

-- ---- the changes of rows

tied : (name : List ℕ) → text_cmp name name ≡ Equal
tied name = tied_itself nat_list_cmp_total name

put_again : (row : PlanRow) (rows : List PlanRow) → put_row row (put_row row rows) ≡ put_row row rows
put_again row [] = ap (λ o. match_ordering o (row ∷ row ∷ []) (row ∷ []) (row ∷ put_row row [])) (tied row.id)
put_again row (r ∷ rs) = by_order (text_cmp row.id r.id) refl (put_again row rs) where
  front : (more : List PlanRow) → put_row row (row ∷ more) ≡ row ∷ more
  front more =
      ap (λ o. match_ordering o (row ∷ row ∷ more) (row ∷ more) (row ∷ put_row row more)) (tied row.id)

  by_order : (o : Ordering) → text_cmp row.id r.id ≡ o → put_row row (put_row row rs) ≡ put_row row rs
      → put_row row (match_ordering o (row ∷ r ∷ rs) (row ∷ rs) (r ∷ put_row row rs))
      ≡ match_ordering o (row ∷ r ∷ rs) (row ∷ rs) (r ∷ put_row row rs)
  by_order Less e ih = front (r ∷ rs)
  by_order Equal e ih = front rs
  by_order Greater e ih =
      ap (λ o. match_ordering o (row ∷ r ∷ put_row row rs) (row ∷ put_row row rs)
      (r ∷ put_row row (put_row row rs))) e ∙ ap (λ xs. r ∷ xs) ih

close_again : (id : List ℕ) (rows : List PlanRow) → close_row id (close_row id rows) ≡ close_row id rows
close_again id [] = refl
close_again id (r ∷ rs) = by_id (has_id id r) refl (close_again id rs) where
  by_id : (b : Bool) → has_id id r ≡ b → close_row id (close_row id rs) ≡ close_row id rs
      → close_row id (cond b (closed r) r ∷ close_row id rs) ≡ cond b (closed r) r ∷ close_row id rs
  by_id true e ih = (λ i. cond (e i) (closed r) (closed r) ∷ ih i)
  by_id false e ih = (λ i. cond (e i) (closed r) r ∷ ih i)

filter_again : {X : Type 0} (p : X → Bool) (xs : List X) → filter p (filter p xs) ≡ filter p xs
filter_again p [] = refl
filter_again p (x ∷ xs) = by_test (p x) refl (filter_again p xs) where
  by_test : (b : Bool) → p x ≡ b → filter p (filter p xs) ≡ filter p xs
      → filter p (cond b (x ∷ filter p xs) (filter p xs)) ≡ cond b (x ∷ filter p xs) (filter p xs)
  by_test true e ih =
      ap (λ b. cond b (x ∷ filter p (filter p xs)) (filter p (filter p xs))) e ∙ ap (λ ys. x ∷ ys) ih
  by_test false e ih = ih

-- of what passes one test nothing passes another
filter_none : {X : Type 0} (p q : X → Bool) → ((x : X) → q x ≡ true → p x ≡ false) → (xs : List X)
    → filter p (filter q xs) ≡ []
filter_none p q apart [] = refl
filter_none p q apart (x ∷ xs) = by_test (q x) refl (filter_none p q apart xs) where
  by_test : (b : Bool) → q x ≡ b → filter p (filter q xs) ≡ []
      → filter p (cond b (x ∷ filter q xs) (filter q xs)) ≡ []
  by_test true e ih = ap (λ b. cond b (x ∷ filter p (filter q xs)) (filter p (filter q xs))) (apart x e) ∙ ih
  by_test false e ih = ih

-- no plan of an operator passes a test that its name fails
filter_own : (p : Filed → Bool) (o : List ℕ) → ((row : PlanRow) → p (filed_by o row) ≡ false)
    → (rows : List PlanRow) → filter p (map (filed_by o) rows) ≡ []
filter_own p o fails [] = refl
filter_own p o fails (r ∷ rs) =
    ap (λ b. cond b (filed_by o r ∷ filter p (map (filed_by o) rs)) (filter p (map (filed_by o) rs)))
    (fails r)
    ∙ filter_own p o fails rs

-- the plans of others beside an operator's stay, whatever replaces those
module _ (o : List ℕ) (rows : List PlanRow) (ps : List Filed) where
  before_stays : filter (is_before o) (replaced o rows ps) ≡ filter (is_before o) ps
  before_stays =
      filter-append (is_before o) (filter (is_before o) ps) (map (filed_by o) rows ++ filter (is_after o) ps)
      ∙ (λ i. filter_again (is_before o) ps i
      ++ filter-append (is_before o) (map (filed_by o) rows) (filter (is_after o) ps) i)
      ∙ (λ i. filter (is_before o) ps ++ (filter_own (is_before o) o (λ row. ap is_gt (tied o)) rows i
      ++ filter_none (is_before o) (is_after o) apart ps i))
      ∙ append-nil (filter (is_before o) ps) where
        apart : (p : Filed) → is_after o p ≡ true → is_before o p ≡ false
        apart p e = by_order (text_cmp o p.operator) e where
          by_order : (n : Ordering) → is_lt n ≡ true → is_gt n ≡ false
          by_order Less f = refl
          by_order Equal f = refl
          by_order Greater f = cc

  after_stays : filter (is_after o) (replaced o rows ps) ≡ filter (is_after o) ps
  after_stays =
      filter-append (is_after o) (filter (is_before o) ps) (map (filed_by o) rows ++ filter (is_after o) ps)
      ∙ (λ i. filter_none (is_after o) (is_before o) apart ps i
      ++ filter-append (is_after o) (map (filed_by o) rows) (filter (is_after o) ps) i)
      ∙ (λ i. filter_own (is_after o) o (λ row. ap is_lt (tied o)) rows i
      ++ filter_again (is_after o) ps i) where
        apart : (p : Filed) → is_before o p ≡ true → is_after o p ≡ false
        apart p e = by_order (text_cmp o p.operator) e where
          by_order : (n : Ordering) → is_gt n ≡ true → is_lt n ≡ false
          by_order Less f = cc
          by_order Equal f = refl
          by_order Greater f = refl

replaced_again : (w : World) (o : List ℕ) (rows more : List PlanRow)
    → with_plans (with_plans w o rows) o more ≡ with_plans w o more
unfolding with_plans
replaced_again w o rows more = λ i. record w {
  plans = before_stays o rows w.plans i ++ (map (filed_by o) more ++ after_stays o rows w.plans i);
}

-- ---- what a verdict leaves

abbrev is_closing : Usage → Bool
is_closing usage.Planned = false
is_closing usage.InUse = false
is_closing usage.Closed = true

-- a step stores for a request that closes nothing, and shuts for one that closes
abbrev Suits : Usage → Step → Type 0
Suits want (Refuse n) = ⊤
Suits want (Check s) = is_closing want ≡ false
Suits want (Report s) = is_closing want ≡ false
Suits want Shut = is_closing want ≡ true
Suits want Keep = ⊤

none_suits : (want : Usage) (craft : Aircraft) → Suits want (step_from_none want craft)
none_suits usage.Planned aircraft.Nominal = refl
none_suits usage.Planned aircraft.OffNominal = tt
none_suits usage.Planned aircraft.Contingent = tt
none_suits usage.InUse aircraft.Nominal = refl
none_suits usage.InUse aircraft.OffNominal = tt
none_suits usage.InUse aircraft.Contingent = tt
none_suits usage.Closed craft = tt

planned_suits : (want : Usage) (craft : Aircraft) → Suits want (step_from_planned want craft)
planned_suits usage.Planned aircraft.Nominal = refl
planned_suits usage.Planned aircraft.OffNominal = tt
planned_suits usage.Planned aircraft.Contingent = tt
planned_suits usage.InUse aircraft.Nominal = refl
planned_suits usage.InUse aircraft.OffNominal = refl
planned_suits usage.InUse aircraft.Contingent = refl
planned_suits usage.Closed craft = refl

use_suits : (want : Usage) (craft : Aircraft) → Suits want (step_from_use want craft)
use_suits usage.Planned craft = tt
use_suits usage.InUse aircraft.Nominal = refl
use_suits usage.InUse aircraft.OffNominal = refl
use_suits usage.InUse aircraft.Contingent = refl
use_suits usage.Closed craft = refl

contingency_suits : (want : Usage) (craft : Aircraft) → Suits want (step_from_contingency want craft)
contingency_suits usage.Planned craft = tt
contingency_suits usage.InUse aircraft.Nominal = tt
contingency_suits usage.InUse aircraft.OffNominal = tt
contingency_suits usage.InUse aircraft.Contingent = refl
contingency_suits usage.Closed craft = refl

closed_suits : (want : Usage) → Suits want (step_from_closed want)
closed_suits usage.Planned = tt
closed_suits usage.InUse = tt
closed_suits usage.Closed = tt

step_suits : (stored : Option States) (asked : PutCall) → Suits asked.usage (step_from stored asked)
step_suits None asked = none_suits asked.usage asked.aircraft
step_suits (Some s) asked = by_states s.usage s.aircraft where
  by_states : (from : Usage) (craft : Aircraft)
      → Suits asked.usage (step_from_states from craft asked.usage asked.aircraft)
  by_states usage.Planned craft = planned_suits asked.usage asked.aircraft
  by_states usage.InUse aircraft.Nominal = use_suits asked.usage asked.aircraft
  by_states usage.InUse aircraft.OffNominal = use_suits asked.usage asked.aircraft
  by_states usage.InUse aircraft.Contingent = contingency_suits asked.usage asked.aircraft
  by_states usage.Closed craft = closed_suits asked.usage

-- the same of effects
abbrev SuitsEffect : Usage → Effect → Type 0
SuitsEffect want effect.Nothing = ⊤
SuitsEffect want effect.Save = is_closing want ≡ false
SuitsEffect want effect.Shut = is_closing want ≡ true

carried_suits : (want : Usage) (t : Step) → Suits want t → SuitsEffect want (step_effect t)
carried_suits want (Refuse n) h = tt
carried_suits want (Check s) h = h
carried_suits want (Report s) h = h
carried_suits want Shut h = h
carried_suits want Keep h = tt

styled_suits : (want : Usage) (s : Style) (e : Effect) → SuitsEffect want e
    → SuitsEffect want (styled_effect s e)
styled_suits want style.Hypothetical e h = tt
styled_suits want style.IfAllowed e h = h
styled_suits want style.InReality e h = h

outcome_suits : (asked : PutCall) (moment : ℤ) (stored : Option States) (standing : Standing)
    (spot : Option Spot) → SuitsEffect asked.usage (outcome_under asked moment stored standing spot).effect
unfolding outcome_under
outcome_suits asked moment stored standing spot =
    by_note (note_from asked moment stored standing (is_some spot)) where
      by_note : (n : Option Note) → SuitsEffect asked.usage (verdict_from asked stored spot n).effect
      by_note (Some n) = tt
      by_note None =
          styled_suits asked.usage asked.style (step_effect (step_from stored asked))
          (carried_suits asked.usage (step_from stored asked) (step_suits stored asked))

-- the plans stay as they are
abbrev Stays : List PlanRow → Option (List PlanRow) → Type 0
Stays rows None = ⊤
Stays rows (Some more) = more ≡ rows

again : (f : List PlanRow → List PlanRow) → ((rows : List PlanRow) → f (f rows) ≡ f rows)
    → (old rows : List PlanRow) → f old ≡ rows → f rows ≡ rows
again f twice old rows e = ap f (sym e) ∙ twice old ∙ e

some_same : {A : Type 0} {x y : A} → Some x ≡ Some y → x ≡ y
some_same e = cc

put_stays : (asked : PutCall) (old rows : List PlanRow) (e f : Effect) → SuitsEffect asked.usage e
    → SuitsEffect asked.usage f → plans_left e asked old ≡ Some rows → Stays rows (plans_left f asked rows)
put_stays asked old rows effect.Nothing f one two is = cc
put_stays asked old rows effect.Save effect.Nothing one two is = tt
put_stays asked old rows effect.Save effect.Save one two is =
    again (put_row (row_asked asked)) (put_again (row_asked asked)) old rows (some_same is)
put_stays asked old rows effect.Save effect.Shut one two is = cc
put_stays asked old rows effect.Shut effect.Nothing one two is = tt
put_stays asked old rows effect.Shut effect.Save one two is = cc
put_stays asked old rows effect.Shut effect.Shut one two is =
    again (close_row asked.id) (close_again asked.id) old rows (some_same is)

delete_stays : (id : List ℕ) (old rows : List PlanRow) (stored now : Option PlanRow)
    → (delete_ruling old id stored).plans ≡ Some rows → Stays rows (delete_ruling rows id now).plans
delete_stays id old rows None now is = cc
delete_stays id old rows (Some row) None is = tt
delete_stays id old rows (Some row) (Some one) is =
    again (close_row id) (close_again id) old rows (some_same is)

clear_stays : (extent : Block) (old rows : List PlanRow) → (clear_ruling old extent).plans ≡ Some rows
    → Stays rows (clear_ruling rows extent).plans
clear_stays extent old rows is =
    by_some (list_any (is_in extent) old) (list_any (is_in extent) rows) is where
      by_some : (one two : Bool)
          → cond one (Some (filter (λ row. not (is_in extent row)) old)) None ≡ Some rows
          → Stays rows (cond two (Some (filter (λ row. not (is_in extent row)) rows)) None)
      by_some false two e = cc
      by_some true false e = tt
      by_some true true e =
          again (filter (λ row. not (is_in extent row))) (filter_again (λ row. not (is_in extent row))) old
          rows (some_same e)

show_none : (permitted : List ℕ) (rows : List PlanRow) (others : Point → Option ℕ) (stored : Option PlanRow)
    → (show_ruling permitted rows others stored).plans ≡ None
show_none permitted rows others None = refl
show_none permitted rows others (Some row) = refl

-- what a call changed, the same call changes no further, whatever others hold then and whenever it comes
ruling_stays : (terms : Terms) (mine : Own) (others later : Point → Option ℕ) (ceiling : ℕ) (moment after : ℤ)
    (asked : Call) (rows : List PlanRow)
    → (enrolled_ruling terms mine others ceiling moment asked).plans ≡ Some rows
    → Stays rows (enrolled_ruling terms (record mine { plans = rows }) later ceiling after asked).plans
unfolding enrolled_ruling put_outcome
ruling_stays terms mine others later ceiling moment after call.Status rows is = cc
ruling_stays terms mine others later ceiling moment after call.List rows is = cc
ruling_stays terms mine others later ceiling moment after (call.Show id) rows is =
    let none = show_none terms.permitted mine.plans others (stored_of id mine.plans) in cc
ruling_stays terms mine others later ceiling moment after (call.Put asked) rows is =
    put_stays asked mine.plans rows _ _ (outcome_suits asked moment _ _ _)
    (outcome_suits asked after _ _ _) is
ruling_stays terms mine others later ceiling moment after (call.Delete id) rows is =
    delete_stays id mine.plans rows (stored_of id mine.plans) (stored_of id rows) is
ruling_stays terms mine others later ceiling moment after (call.Clear extent) rows is =
    clear_stays extent mine.plans rows is

under_stays : (listed : Option ℕ) (terms : Terms) (mine : Own) (others later : Point → Option ℕ) (moment : ℤ)
    (asked : Call) (rows : List PlanRow)
    → (ruling_under listed terms mine others moment asked).plans ≡ Some rows
    → Stays rows (ruling_under listed terms (record mine { plans = rows }) later moment asked).plans
under_stays None terms mine others later moment asked rows is = cc
under_stays (Some ceiling) terms mine others later moment asked rows is =
    ruling_stays terms mine others later ceiling moment moment asked rows is

-- ---- what a step leaves

left_again : (w : World) (o : List ℕ) (rows : List PlanRow) (plans : Option (List PlanRow)) → Stays rows plans
    → world_with_plans (with_plans w o rows) o plans ≡ with_plans w o rows
left_again w o rows None h = refl
left_again w o rows (Some more) h = replaced_again w o rows more ∙ ap (with_plans w o) h

-- an operator's own, once its plans are replaced
own_now : (w : World) (o : List ℕ) (rows : List PlanRow)
    → own (with_plans w o rows) o ≡ record (own w o) { plans = rows }
unfolding own with_plans ceiling_of
own_now w o rows = ap (λ p. record { ceiling = ceiling_of o w; plans = p }) (own_replaced o rows w)

pub step_again : (w : DeskWorld) (o : List ℕ) (moment : ℤ) (asked : Call)
    → step (step w o moment asked) o moment asked ≡ step w o moment asked
unfolding step verdict own
step_again w o moment asked = by_plans (ruling_in w o moment asked).plans refl where
  by_plans : (plans : Option (List PlanRow)) → (ruling_in w o moment asked).plans ≡ plans
      → step (step w o moment asked) o moment asked ≡ step w o moment asked
  by_plans None e =
      let same : step w o moment asked ≡ w =
      ap (λ p. record w { content = world_with_plans w.content o p }) e in
      ap (λ v. step v o moment asked) same
  by_plans (Some rows) e =
      let now : DeskWorld = record w { content = with_plans w.content o rows } in
      let is : step w o moment asked ≡ now =
      ap (λ p. record w { content = world_with_plans w.content o p }) e in
      let stays : Stays rows (ruling_in now o moment asked).plans =
      subst (λ mine. Stays rows (ruling_under mine.ceiling w.terms mine (held_in now o) moment asked).plans)
      (sym (own_now w.content o rows))
      (under_stays (own w.content o).ceiling w.terms (own w.content o) (held_in w o) (held_in now o) moment
      asked rows e) in
      ap (λ v. step v o moment asked) is
      ∙ ap (λ v. record w { content = v })
      (left_again w.content o rows (ruling_in now o moment asked).plans stays)
      ∙ sym is

-- ---- enrolments

listed_again : (one : Listed) (ls : List Listed)
    → list_operator one.name one.ceiling (list_operator one.name one.ceiling ls)
    ≡ list_operator one.name one.ceiling ls
listed_again one [] =
    ap (λ o. match_ordering o (one ∷ one ∷ []) (one ∷ []) (one ∷ list_operator one.name one.ceiling []))
    (tied one.name)
listed_again one (l ∷ ls) = by_order (text_cmp one.name l.name) refl (listed_again one ls) where
  front : (rest : List Listed) → list_operator one.name one.ceiling (one ∷ rest) ≡ one ∷ rest
  front rest =
      ap (λ o. match_ordering o (one ∷ one ∷ rest) (one ∷ rest)
      (one ∷ list_operator one.name one.ceiling rest)) (tied one.name)

  by_order : (o : Ordering) → text_cmp one.name l.name ≡ o
      → list_operator one.name one.ceiling (list_operator one.name one.ceiling ls)
      ≡ list_operator one.name one.ceiling ls
      → list_operator one.name one.ceiling
      (match_ordering o (one ∷ l ∷ ls) (one ∷ ls) (l ∷ list_operator one.name one.ceiling ls))
      ≡ match_ordering o (one ∷ l ∷ ls) (one ∷ ls) (l ∷ list_operator one.name one.ceiling ls)
  by_order Less e ih = front (l ∷ ls)
  by_order Equal e ih = front ls
  by_order Greater e ih =
      ap (λ o. match_ordering o (one ∷ l ∷ list_operator one.name one.ceiling ls)
      (one ∷ list_operator one.name one.ceiling ls)
      (l ∷ list_operator one.name one.ceiling (list_operator one.name one.ceiling ls))) e
      ∙ ap (λ xs. l ∷ xs) ih

pub enrolled_again : (w : DeskWorld) (name : List ℕ) (ceiling : ℕ)
    → enrolled (enrolled w name ceiling) name ceiling ≡ enrolled w name ceiling
unfolding with_operator
enrolled_again w name ceiling = λ i. record w {
  content = record w.content {
    operators = listed_again (record { name = name; ceiling = ceiling }) w.content.operators i;
  };
}
