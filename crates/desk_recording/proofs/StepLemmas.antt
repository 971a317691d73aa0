-- What one step more changes of what a port reports.
use Rattle.std.proofs.Common.{◌≡◌, ◌<◌, ◌⊎◌, ℕ, ℤ, pos, nat_abs, Bool, true, false, List, [], ◌∷◌, ◌++◌, Option, None, Some, IfSome, length, append-nil, ap, inl, inr, refl, subst, sym, ◌∙◌}
use Rattle.std.specs.Prelude.{⊤, not, option_map, Result}
use Rattle.io_ends.specs.Writing.{IsMoment}
use Rattle.io_ends.specs.declared.writing.WriteError.{WriteError}
use Rattle.desk_record.specs.Record.{entry}
use Rattle.desk_wire.specs.Streams.{Course, course, IsRequest}
use Rattle.desk_cli.specs.Lines.{AreEnrolments}
use Rattle.desk_cli.specs.declared.line.Enrolment.{Enrolment}
use Rattle.desk_program.specs.Enrolling.{AreNamed, Ended, IsOpen, Noted, Recorded, RecordsAnswer, RecordsEnrolments, RecordsNone, RecordsRequest, request_entry, with_answer, with_news, with_request}
use Rattle.desk_program.specs.Serving.{BringsEnrolments, Closes, AddsNothingNew, Parting, TakesArrival, arrived}
use Rattle.desk_recording.specs.Recording.{AddsStep, Answered, Asked, Enrolled, HasText, Lost, Notes, NotesOnDisk, SendsKept, Step, arrivals_in, news_in, partings_in, traffic_of}
use Rattle.desk_recording.specs.Inputs.{recorded_by}

news_and : (steps : List Step) (step : Step)
    → news_in (steps ++ step ∷ []) ≡ news_in steps ++ news_in (step ∷ [])
news_and [] step = refl
news_and (Enrolled newly_enrolled ∷ steps) step = ap (λ rest. newly_enrolled ∷ rest) (news_and steps step)
news_and (Asked moment bytes ∷ steps) step = news_and steps step
news_and (Answered parting ∷ steps) step = news_and steps step
news_and (Lost parting ∷ steps) step = news_and steps step

arrivals_and : (steps : List Step) (step : Step)
    → arrivals_in (steps ++ step ∷ []) ≡ arrivals_in steps ++ arrivals_in (step ∷ [])
arrivals_and [] step = refl
arrivals_and (Enrolled newly_enrolled ∷ steps) step = arrivals_and steps step
arrivals_and (Asked moment bytes ∷ steps) step =
    ap (λ rest. arrived moment (Some bytes) ∷ rest) (arrivals_and steps step)
arrivals_and (Answered parting ∷ steps) step = arrivals_and steps step
arrivals_and (Lost parting ∷ steps) step = arrivals_and steps step

partings_and : (steps : List Step) (step : Step)
    → partings_in (steps ++ step ∷ []) ≡ partings_in steps ++ partings_in (step ∷ [])
partings_and [] step = refl
partings_and (Enrolled newly_enrolled ∷ steps) step = partings_and steps step
partings_and (Asked moment bytes ∷ steps) step = partings_and steps step
partings_and (Answered parting ∷ steps) step = ap (λ rest. parting ∷ rest) (partings_and steps step)
partings_and (Lost parting ∷ steps) step = ap (λ rest. parting ∷ rest) (partings_and steps step)

-- ---- what is recorded

-- the record ends with this text
ends_with : (now : Option Noted) (text : List ℕ) → HasText now text → recorded_by true now ≡ Some (Ended text)
ends_with None text is = cc
ends_with (Some n) text is = ap (λ t. option_map Ended t) is

-- news are noted, or aren't
records_news : (noted now : Option Noted) (newly_enrolled : List Enrolment)
    → NotesOnDisk noted now true (λ n. with_news n newly_enrolled) → AreEnrolments newly_enrolled
    → IfSome noted (λ n. AreNamed newly_enrolled)
    → RecordsEnrolments (recorded_by false noted) (recorded_by false now) newly_enrolled
records_news None now newly_enrolled is small named = tt
records_news (Some n) now newly_enrolled is small named = (small, named, ap (λ v. recorded_by false v) is)

cut_news : (noted now : Option Noted) (newly_enrolled : List Enrolment)
    → NotesOnDisk noted now false (λ n. with_news n newly_enrolled)
    → RecordsNone (recorded_by false noted) (recorded_by true now)
cut_news None now newly_enrolled is = tt
cut_news (Some n) now newly_enrolled (inl is) = inr (record {
  newly_enrolled = [];
  moment = pos 0;
  request = [];
  ended = ends_with now n.text is ∙ ap (λ t. Some (Ended t)) (sym (append-nil n.text));
})
cut_news (Some n) now newly_enrolled (inr is) = inr (record {
  newly_enrolled = newly_enrolled;
  moment = pos 0;
  request = [];
  ended = ends_with now (with_news n newly_enrolled).text is;
})

-- a request is noted, or isn't
records_request : (noted now : Option Noted) (moment : ℤ) (request : List ℕ)
    → NotesOnDisk noted now true (λ n. with_request n moment request) → IsMoment moment
    → (0 < length request → IsRequest request)
    → RecordsRequest (recorded_by false noted) (recorded_by false now) moment (Some request)
records_request None now moment request is range whole = tt
records_request (Some n) now moment request is range whole = record {
  request = request;
  known = refl;
  whole = whole;
  range = range;
  added = ap (λ v. recorded_by false v) is;
}

with_none : (n : Noted) (moment : ℤ) (request : List ℕ)
    → (with_request (with_news n []) moment request).text ≡ (with_request n moment request).text
with_none n moment [] = append-nil n.text
with_none n moment (b ∷ request) =
    ap (λ t. t ++ entry (request_entry (nat_abs moment) (b ∷ request))) (append-nil n.text)

cut_request : (noted now : Option Noted) (moment : ℤ) (request : List ℕ)
    → NotesOnDisk noted now false (λ n. with_request n moment request)
    → RecordsNone (recorded_by false noted) (recorded_by true now)
cut_request None now moment request is = tt
cut_request (Some n) now moment request (inl is) = inr (record {
  newly_enrolled = [];
  moment = moment;
  request = [];
  ended = ends_with now n.text is ∙ ap (λ t. Some (Ended t)) (sym (append-nil n.text));
})
cut_request (Some n) now moment request (inr is) = inr (record {
  newly_enrolled = [];
  moment = moment;
  request = request;
  ended = ends_with now (with_request n moment request).text is
      ∙ ap (λ t. Some (Ended t)) (sym (with_none n moment request));
})

-- an answer is noted, or isn't
records_answer : (noted now : Option Noted) (was_lost is_lost is_answered : Bool) (answer : List ℕ)
    → Notes noted now (not is_lost) (λ n. with_answer n answer)
    → (is_lost ≡ false → (was_lost ≡ false) × (is_answered ≡ true))
    → RecordsAnswer (recorded_by was_lost noted) (recorded_by is_lost now) (Some answer) is_answered
records_answer None now was_lost is_lost is_answered answer is may = tt
records_answer (Some n) now false false is_answered answer is may = inl (record {
  whole = (may refl).1;
  answer = answer;
  known = refl;
  added = ap (λ v. recorded_by false v) is;
})
records_answer (Some n) now false true is_answered answer is may = inr (ends_with now n.text is)
records_answer (Some n) now true false is_answered answer is may =
    let none = (may refl).0 in cc
records_answer (Some n) now true true is_answered answer is may = ends_with now n.text is

-- ---- what a port reports

-- more is recorded if nothing was lost
pub is_open : (steps : Option (List Step)) (noted : Option Noted)
    → IsOpen (traffic_of steps (recorded_by false noted)).recorded
is_open None None = tt
is_open None (Some n) = tt
is_open (Some steps) None = tt
is_open (Some steps) (Some n) = tt

-- enrolments are brought
pub brings_enrolments : (old new : Option (List Step)) (noted now : Option Noted) (newly_enrolled : List Enrolment)
    → AddsStep old new (Enrolled newly_enrolled) → NotesOnDisk noted now true (λ n. with_news n newly_enrolled)
    → AreEnrolments newly_enrolled
    → IfSome noted (λ n. AreNamed newly_enrolled)
    → BringsEnrolments (traffic_of old (recorded_by false noted)) (traffic_of new (recorded_by false now)) newly_enrolled
brings_enrolments None new noted now newly_enrolled is noting small named =
    subst (λ s. BringsEnrolments (traffic_of None (recorded_by false noted)) (traffic_of s (recorded_by false now))
    newly_enrolled) (sym is) (tt, refl, refl, refl, records_news noted now newly_enrolled noting small named)
brings_enrolments (Some steps) new noted now newly_enrolled is noting small named =
    subst (λ s. BringsEnrolments (traffic_of (Some steps) (recorded_by false noted))
    (traffic_of s (recorded_by false now)) newly_enrolled) (sym is) (
      news_and steps (Enrolled newly_enrolled),
      ap Some (arrivals_and steps (Enrolled newly_enrolled) ∙ append-nil (arrivals_in steps)),
      ap Some (partings_and steps (Enrolled newly_enrolled) ∙ append-nil (partings_in steps)),
      refl,
      records_news noted now newly_enrolled noting small named,
    )

-- nothing is brought or taken
denies : (old new : Option (List Step)) (recorded after : Option Recorded) → new ≡ old
    → RecordsNone recorded after → AddsNothingNew (traffic_of old recorded) (traffic_of new after)
denies None new recorded after same none =
    subst (λ s. AddsNothingNew (traffic_of None recorded) (traffic_of s after)) (sym same)
    (refl, refl, refl, refl, none)
denies (Some steps) new recorded after same none =
    subst (λ s. AddsNothingNew (traffic_of (Some steps) recorded) (traffic_of s after)) (sym same)
    (refl, refl, refl, refl, none)

pub no_news : (old new : Option (List Step)) (noted now : Option Noted) (newly_enrolled : List Enrolment) → new ≡ old
    → NotesOnDisk noted now false (λ n. with_news n newly_enrolled)
    → AddsNothingNew (traffic_of old (recorded_by false noted)) (traffic_of new (recorded_by true now))
no_news old new noted now newly_enrolled same noting = denies old new _ _ same (cut_news noted now newly_enrolled noting)

pub none_taken : (old new : Option (List Step)) (noted now : Option Noted) (moment : ℤ) (request : List ℕ)
    → new ≡ old → NotesOnDisk noted now false (λ n. with_request n moment request)
    → AddsNothingNew (traffic_of old (recorded_by false noted)) (traffic_of new (recorded_by true now))
none_taken old new noted now moment request same noting =
    denies old new _ _ same (cut_request noted now moment request noting)

-- a connection is taken
pub takes_one : (old new : Option (List Step)) (noted now : Option Noted) (moment : ℤ) (bytes : List ℕ)
    → AddsStep old new (Asked moment bytes) → NotesOnDisk noted now true (λ n. with_request n moment bytes)
    → IsMoment moment → (0 < length bytes → IsRequest bytes)
    → TakesArrival (traffic_of old (recorded_by false noted)) (traffic_of new (recorded_by false now))
    (arrived moment (Some bytes))
takes_one None new noted now moment bytes is noting range whole =
    subst (λ s. TakesArrival (traffic_of None (recorded_by false noted))
    (traffic_of s (recorded_by false now))
    (arrived moment (Some bytes))) (sym is)
    (tt, refl, refl, refl, records_request noted now moment bytes noting range whole)
takes_one (Some steps) new noted now moment bytes is noting range whole =
    subst (λ s. TakesArrival (traffic_of (Some steps) (recorded_by false noted))
    (traffic_of s (recorded_by false now)) (arrived moment (Some bytes))) (sym is) (
      arrivals_and steps (Asked moment bytes),
      ap Some (partings_and steps (Asked moment bytes) ∙ append-nil (partings_in steps)),
      refl,
      ap Some (news_and steps (Asked moment bytes) ∙ append-nil (news_in steps)),
      records_request noted now moment bytes noting range whole,
    )

-- one is closed, and its answer is kept, or lost
closes : (old new : Option (List Step)) (recorded after : Option Recorded) (parting : Parting)
    → AddsStep old new (Answered parting) ⊎ AddsStep old new (Lost parting)
    → RecordsAnswer recorded after parting.sent parting.outcome.is_answered
    → Closes (traffic_of old recorded) (traffic_of new after) parting
closes None new recorded after parting (inl is) answer =
    subst (λ s. Closes (traffic_of None recorded) (traffic_of s after) parting) (sym is)
    (tt, refl, refl, refl, answer)
closes None new recorded after parting (inr is) answer =
    subst (λ s. Closes (traffic_of None recorded) (traffic_of s after) parting) (sym is)
    (tt, refl, refl, refl, answer)
closes (Some steps) new recorded after parting (inl is) answer =
    subst (λ s. Closes (traffic_of (Some steps) recorded) (traffic_of s after) parting) (sym is) (
      partings_and steps (Answered parting),
      ap Some (arrivals_and steps (Answered parting) ∙ append-nil (arrivals_in steps)),
      refl,
      ap Some (news_and steps (Answered parting) ∙ append-nil (news_in steps)),
      answer,
    )
closes (Some steps) new recorded after parting (inr is) answer =
    subst (λ s. Closes (traffic_of (Some steps) recorded) (traffic_of s after) parting) (sym is) (
      partings_and steps (Lost parting),
      ap Some (arrivals_and steps (Lost parting) ∙ append-nil (arrivals_in steps)),
      refl,
      ap Some (news_and steps (Lost parting) ∙ append-nil (news_in steps)),
      answer,
    )

kept_or_lost : {W : Type 0} (old new : Option (List Step)) (parting : Parting)
    (writes : Course (Option (List ℕ))) (done : Result ⊤ (WriteError W))
    → SendsKept (course old new) parting writes done
    → AddsStep old new (Answered parting) ⊎ AddsStep old new (Lost parting)
kept_or_lost old new parting writes done (inl kept) = inl kept.0
kept_or_lost old new parting writes done (inr lost) = inr lost.0

module _ {W : Type 0} (old new : Option (List Step)) (noted now : Option Noted) (was_lost is_lost : Bool)
    (parting : Parting) (answer : List ℕ) (out sent : Option (List ℕ)) (done : Result ⊤ (WriteError W)) where
  pub closes_so : SendsKept (course old new) parting (course out sent) done → parting.sent ≡ Some answer
      → Notes noted now (not is_lost) (λ n. with_answer n answer)
      → (is_lost ≡ false → (was_lost ≡ false) × (parting.outcome.is_answered ≡ true))
      → Closes (traffic_of old (recorded_by was_lost noted))
      (traffic_of new (recorded_by is_lost now)) parting
  closes_so sends tail_with noting may =
      closes old new (recorded_by was_lost noted) (recorded_by is_lost now) parting
      (kept_or_lost old new parting (course out sent) done sends)
      (subst (λ s. RecordsAnswer (recorded_by was_lost noted) (recorded_by is_lost now) s
      parting.outcome.is_answered) (sym tail_with)
      (records_answer noted now was_lost is_lost parting.outcome.is_answered answer noting may))
