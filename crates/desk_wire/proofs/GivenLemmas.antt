-- The answers that a desk gave, by how they ended: those before a 500 are the answers to what is asked.
use Rattle.std.proofs.Common.{◌≡◌, ◌<◌, ◌+◌, ◌-◌, ℕ, zero, suc, Bool, true, false, cond, Some, refl, sym, ap}
use Rattle.std.proofs.Common.{List, [], ◌∷◌, length, take, ◌∙◌, arith, length-append}
use Rattle.std.proofs.lemmas.List.{take_all, length-take-le}
use Rattle.std.proofs.Math.Seq.{take-append_seam, take-length}
use Rattle.std.specs.List.{slice_get}
use Rattle.desk_run.specs.Verdicts.{DeskWorld, side}
use Rattle.request_parser.specs.Requests.{asked}
use Rattle.desk_run.specs.Calls.{OwnAlike, is_from}
use Rattle.desk_wire.specs.declared.batch.AnswersEnd.{AnswersEnd}
use Rattle.desk_wire.specs.declared.batch.AnswersEnd.TheVariants.{All, Broken, NoMemory}
use Rattle.desk_wire.specs.Bytes.{server_error_text, text_for, Sent, answers_to, world_left, AreFirst, AreBroken, AreAnswers}
use Rattle.desk_wire.specs.Headline.{sender, LookAlike, world_at}
use Rattle.desk_wire.specs.Given.{answered, requests_of}
use Rattle.desk_wire.proofs.HeadlineLemmas.{one_each, answer_at, same_text, quiet}

abbrev GivenFirst : AnswersEnd → DeskWorld → List Sent → List (List ℕ) → DeskWorld → Type 0
GivenFirst e w rs answers after =
    AreFirst w rs (answered e answers) (take (answered e answers) answers) after

broken_first : (w after : DeskWorld) (rs : List Sent) (answers : List (List ℕ)) → AreBroken w rs answers after
    → GivenFirst Broken w rs answers after
broken_first w after rs answers h =
    let count : length h.before ≡ h.count =
    ap length h.first.reported ∙ one_each w (take h.count rs)
    ∙ length-take-le h.count rs (omega (arith, h.cut)) in
    let whole : length answers ≡ length h.before + 1 =
    ap length h.last ∙ length-append h.before (server_error_text h.why ∷ []) in
    let n : length answers - 1 ≡ length h.before = omega (arith, whole) in
    record {
      reported =
          ap (λ k. take k answers) n ∙ ap (take (length h.before)) h.last
          ∙ take-append_seam h.before (server_error_text h.why ∷ [])
          ∙ h.first.reported ∙ ap (λ k. answers_to w (take k rs)) (sym (n ∙ count));
      left = h.first.left ∙ ap (λ k. world_left w (take k rs)) (sym (n ∙ count));
    }

pub first_given : (e : AnswersEnd) (w after : DeskWorld) (rs : List Sent) (answers : List (List ℕ))
    → AreAnswers e w rs answers after → GivenFirst e w rs answers after
first_given All w after rs answers h =
    let count : length answers ≡ length rs = ap length h.reported ∙ one_each w rs in
    let whole : take (length answers) rs ≡ rs = take_all (length answers) rs (omega (arith, count)) in
    record {
      reported = take-length answers ∙ h.reported ∙ ap (answers_to w) (sym whole);
      left = h.left ∙ ap (world_left w) (sym whole);
    }
first_given Broken w after rs answers h = broken_first w after rs answers h
first_given NoMemory w after rs answers h = record {
  reported = take-length answers ∙ h.first.reported;
  left = h.first.left;
}

get_take : {A : Type 0} (xs : List A) (n i : ℕ) → i < n → slice_get (take n xs) i ≡ slice_get xs i
get_take xs zero i below = absurd (omega (arith, below))
get_take [] (suc n) i below = refl
get_take (x ∷ xs) (suc n) zero below = refl
get_take (x ∷ xs) (suc n) (suc i) below = get_take xs n i (omega (arith, below))

take_take : {A : Type 0} (xs : List A) (n i : ℕ) → i < n → take i (take n xs) ≡ take i xs
take_take xs n zero below = refl
take_take xs zero (suc i) below = absurd (omega (arith, below))
take_take [] (suc n) (suc i) below = refl
take_take (x ∷ xs) (suc n) (suc i) below = ap (λ ys. x ∷ ys) (take_take xs n i (omega (arith, below)))

-- an answer that was given is that to its request at the world before it
given_at : (e : AnswersEnd) (w after : DeskWorld) (rs : List Sent) (answers : List (List ℕ)) (i : ℕ)
    (r : Sent)
    → AreAnswers e w rs answers after → i < answered e answers → slice_get rs i ≡ Some r
    → slice_get answers i ≡ Some (text_for (world_at w rs i) r.0 (asked r.1))
given_at e w after rs answers i r h below is =
    let n = answered e answers in
    sym (get_take answers n i below)
    ∙ ap (λ xs. slice_get xs i) (first_given e w after rs answers h).reported
    ∙ answer_at w (take n rs) i r (get_take rs n i below ∙ is)
    ∙ ap (λ qs. Some (text_for (world_left w qs) r.0 (asked r.1))) (take_take rs n i below)

pub given_alike : (e f : AnswersEnd) (v w v_after w_after : DeskWorld) (rs ss : List Sent)
    (xs ys : List (List ℕ))
    (i j : ℕ) (r : Sent) → AreAnswers e v rs xs v_after → AreAnswers f w ss ys w_after
    → i < answered e xs → j < answered f ys → slice_get rs i ≡ Some r → slice_get ss j ≡ Some r
    → LookAlike (sender r) (world_at v rs i) (world_at w ss j) → slice_get xs i ≡ slice_get ys j
given_alike e f v w v_after w_after rs ss xs ys i j r g h below under is there alike =
    given_at e v v_after rs xs i r g below is
    ∙ ap Some (same_text (world_at v rs i) (world_at w ss j) r.0 (asked r.1) alike)
    ∙ sym (given_at f w w_after ss ys j r h under there)

pub quiet_take : (o : List ℕ) (n : ℕ) (rs : List Sent) → requests_of o rs ≡ [] → requests_of o (take n rs)
    ≡ []
quiet_take o zero rs none = refl
quiet_take o (suc n) [] none = refl
quiet_take o (suc n) (r ∷ rs) none = by_test (is_from o (sender r)) (quiet_take o n rs) none where
  by_test : (b : Bool) → (requests_of o rs ≡ [] → requests_of o (take n rs) ≡ [])
      → cond b (r ∷ requests_of o rs) (requests_of o rs) ≡ []
      → cond b (r ∷ requests_of o (take n rs)) (requests_of o (take n rs)) ≡ []
  by_test true ih e = cc
  by_test false ih e = ih e

pub given_quiet : (e : AnswersEnd) (w after : DeskWorld) (rs : List Sent) (answers : List (List ℕ))
    (o : List ℕ)
    → AreAnswers e w rs answers after → requests_of o rs ≡ [] → OwnAlike o after w
given_quiet e w after rs answers o h none =
    let n = answered e answers in
    ap (λ u. side u o) (first_given e w after rs answers h).left
    ∙ quiet o w (take n rs) (quiet_take o n rs none)
