-- What `clap` found for an argument, as the value that was given.
use Rattle.std.proofs.Common.{◌≡◌, ◌∙◌, ap, sym, Bor, ℕ, ℤ, Bool, true, false, List, [], ◌∷◌, Option, Some, None, Result, Ok, Err, refl, IfSome, codes, option_map, unwrap_or, map, w64, ◌<◌, ◌^◌, SFits, subst}
use Rattle.std.specs.Option.{IsSomeAnd}
use Rattle.std.specs.Result.{result_ok}
use Rattle.std.specs.Str.{bytes_eq}
use Rattle.std.specs.Str.Parse.{ParsesBool, ParsesSigned, ParsesUnsigned}
use Rattle.std.proofs.lemmas.Slice.Eq.{bytes_eq-Decides}
use Rattle.clap.proofs.WalkLemmas.{one_text-rows}
use Rattle.clap.specs.Matches.{ReadsOne, TriesOne, one_text}
use Rattle.clap.specs.Walk.{Text, rows_of}
use Rattle.clap.specs.declared.parser.matches.Found.{Found}
use Rattle.desk_cli.specs.Grammar.{IsNumberGiven, IsNumberOrNone, IsIntegerGiven, WritesNumber, WritesInteger, enrolment_in, is_given}
use Rattle.desk_cli.specs.declared.line.Enrolment.{Enrolment}

some_none : {A B : Type 0} (x : A) → Some x ≡ None → B
some_none x h = cc

ok_none : {A E B : Type 0} (x : A) → ◌≡◌ {A = Result (Option A) E} (Ok (Some x)) (Ok None) → B
ok_none x h = cc

err_none : {A E B : Type 0} (x : E) → ◌≡◌ {A = Result (Option A) E} (Err x) (Ok None) → B
err_none x h = cc

-- a number that `clap` reads, and one that it doesn't
module _ {E : Type 0} (M N : Text → Result ℕ E → Type 0) (k : ℕ) (f : Found) (id : Text) where
  abbrev Reads : Option ℕ → Type 0
  Reads r = (t : Text) → one_text f id ≡ Some t
      → ReadsOne (λ s x. ParsesUnsigned k 10 s x × M s x × N s x) t r

  pub number_read : (r : Option ℕ) → (one_text f id ≡ None → r ≡ None) → Reads r
      → IfSome r (IsNumberGiven id (rows_of f))
  number_read None none value = tt
  number_read (Some n) none value = go (one_text f id) refl
    where
      go : (o : Option Text) → one_text f id ≡ o → IsNumberGiven id (rows_of f) n
      go None e = some_none n (none e)
      go (Some t) e = subst (λ o. IsSomeAnd o (WritesNumber n)) (sym e ∙ one_text-rows f id)
          ((value t e).0.0.0, (value t e).0.1)

  pub number_none : (r : Option ℕ) → Reads r → r ≡ None → (n : ℕ) → n < 2 ^ k
      → IsNumberGiven id (rows_of f) n → ⊥
  number_none (Some m) value none n fits given = some_none m none
  number_none None value none n fits given =
      go (one_text f id) refl (subst (λ o. IsSomeAnd o (WritesNumber n)) (sym (one_text-rows f id)) given)
    where
      go : (o : Option Text) → one_text f id ≡ o → IsSomeAnd o (WritesNumber n) → ⊥
      go None e g = g
      go (Some t) e g = (value t e).1.0 (g.0, subst (λ m. m < 2 ^ k) g.1 fits)

-- a number that `clap` reads, if there is one
module _ {E : Type 0} (M N : Text → Result ℕ E → Type 0) (k : ℕ) (f : Found) (id : Text) where
  abbrev Tries : Result (Option ℕ) E → Type 0
  Tries r = (t : Text) → one_text f id ≡ Some t
      → TriesOne (λ s x. ParsesUnsigned k 10 s x × M s x × N s x) t r

  pub tried_read : (r : Result (Option ℕ) E) (o : Option (Option ℕ)) → o ≡ result_ok r
      → (one_text f id ≡ None → r ≡ Ok None) → Tries r → IfSome o (IsNumberOrNone id (rows_of f))
  tried_read r o is none value =
      subst (λ p. IfSome p (IsNumberOrNone id (rows_of f))) (sym is) (by r none value)
    where
      by : (r : Result (Option ℕ) E) → (one_text f id ≡ None → r ≡ Ok None) → Tries r
          → IfSome (result_ok r) (IsNumberOrNone id (rows_of f))
      by (Err e) none value = tt
      by (Ok None) none value = go (one_text f id) refl where
        go : (o : Option Text) → one_text f id ≡ o → IsNumberOrNone id (rows_of f) None
        go None e = sym (one_text-rows f id) ∙ e
        go (Some t) e = absurd (value t e)
      by (Ok (Some n)) none value = go (one_text f id) refl where
        go : (o : Option Text) → one_text f id ≡ o → IsNumberGiven id (rows_of f) n
        go None e = ok_none n (none e)
        go (Some t) e = subst (λ o. IsSomeAnd o (WritesNumber n)) (sym e ∙ one_text-rows f id)
            ((value t e).0.0.0, (value t e).0.1)

  pub tried_none : (r : Result (Option ℕ) E) (o : Option (Option ℕ)) → o ≡ result_ok r
      → (one_text f id ≡ None → r ≡ Ok None) → Tries r → o ≡ None → (found : Option ℕ)
      → IfSome found (λ n. n < 2 ^ k) → IsNumberOrNone id (rows_of f) found → ⊥
  tried_none (Ok m) o is none value missing found fits given = some_none m (sym is ∙ missing)
  tried_none (Err x) o is none value missing None fits given =
      err_none x (none (one_text-rows f id ∙ given))
  tried_none (Err x) o is none value missing (Some n) fits given =
      go (one_text f id) refl (subst (λ o. IsSomeAnd o (WritesNumber n)) (sym (one_text-rows f id)) given)
    where
      go : (o : Option Text) → one_text f id ≡ o → IsSomeAnd o (WritesNumber n) → ⊥
      go None e g = g
      go (Some t) e g = (value t e).0 (g.0, subst (λ m. m < 2 ^ k) g.1 fits)

module _ {E : Type 0} (M N : Text → Result ℤ E → Type 0) (f : Found) (id : Text) where
  abbrev ReadsSecond : Option ℤ → Type 0
  ReadsSecond r = (t : Text) → one_text f id ≡ Some t
      → ReadsOne (λ s x. ParsesSigned w64 10 s x × M s x × N s x) t r

  pub second_read : (r : Option ℤ) → (one_text f id ≡ None → r ≡ None) → ReadsSecond r
      → IfSome r (IsIntegerGiven id (rows_of f))
  second_read None none value = tt
  second_read (Some z) none value = go (one_text f id) refl
    where
      go : (o : Option Text) → one_text f id ≡ o → IsIntegerGiven id (rows_of f) z
      go None e = some_none z (none e)
      go (Some t) e = subst (λ o. IsSomeAnd o (WritesInteger z)) (sym e ∙ one_text-rows f id)
          ((value t e).0.0.0, (value t e).0.1)

  pub second_none : (r : Option ℤ) → ReadsSecond r → r ≡ None → (z : ℤ) → SFits w64 z
      → IsIntegerGiven id (rows_of f) z → ⊥
  second_none (Some m) value none z fits given = some_none m none
  second_none None value none z fits given =
      go (one_text f id) refl (subst (λ o. IsSomeAnd o (WritesInteger z)) (sym (one_text-rows f id)) given)
    where
      go : (o : Option Text) → one_text f id ≡ o → IsSomeAnd o (WritesInteger z) → ⊥
      go None e g = g
      go (Some t) e g = (value t e).1.0 (g.0, subst (SFits w64) g.1 fits)

false_if_not : (b : Bool) → (b ≡ true → ⊥) → false ≡ b
false_if_not true h = absurd (h refl)
false_if_not false h = refl

flag_text : (E : Type 0) (t : Text) (r : Option Bool) → ReadsOne (ParsesBool {E = E}) t r
    → unwrap_or r false ≡ bytes_eq t (codes "true")
flag_text E t (Some true) h = rw h refl
flag_text E t (Some false) h = rw h refl
flag_text E t None h =
    false_if_not (bytes_eq t (codes "true")) (λ e. h.1.0 ((bytes_eq-Decides t (codes "true")).0 e))

pub flag_read : (E : Type 0) (f : Found) (id : Text) (r : Option Bool)
    → (one_text f id ≡ None → r ≡ None)
    → ((t : Text) → one_text f id ≡ Some t → ReadsOne (ParsesBool {E = E}) t r)
    → unwrap_or r false ≡ is_given id (rows_of f)
flag_read E f id r none value = go (one_text f id) refl
  where
    go : (o : Option Text) → one_text f id ≡ o → unwrap_or r false ≡ is_given id (rows_of f)
    go None e = rw (none e, ← one_text-rows f id, e) refl
    go (Some t) e = rw (← one_text-rows f id, e) (flag_text E t r (value t e))

-- the texts of all values, none if there are none
pub words_read : (r : Option (Bor (List (Bor Text)))) (d : Bor (List (Bor Text))) (all : Option (List Text))
    → option_map (λ s. map (λ v. v.now) s.now) r ≡ all → d.now ≡ []
    → map (λ v. v.now) (unwrap_or r d).now ≡ unwrap_or all []
words_read None d all is none = ap (map (λ v. v.now)) none ∙ ap (λ o. unwrap_or o []) is
words_read (Some s) d all is none = ap (λ o. unwrap_or o []) is

mapped : (xs : List (Bor Text)) → map (λ w. enrolment_in w.now) xs ≡ map enrolment_in (map (λ v. v.now) xs)
mapped [] = refl
mapped (x ∷ xs) = ap (λ rest. enrolment_in x.now ∷ rest) (mapped xs)

pub enrolments_read : (enrolments : List Enrolment) (words : List (Bor Text)) (texts : List Text)
    → map Some enrolments ≡ map (λ w. enrolment_in w.now) words → map (λ v. v.now) words ≡ texts
    → map Some enrolments ≡ map enrolment_in texts
enrolments_read enrolments words texts read are = read ∙ (mapped words ∙ ap (map enrolment_in) are)

pub enrolments_back : (enrolments : List Enrolment) (words : List (Bor Text)) (texts : List Text)
    → map Some enrolments ≡ map enrolment_in texts → map (λ v. v.now) words ≡ texts
    → map Some enrolments ≡ map (λ w. enrolment_in w.now) words
enrolments_back enrolments words texts read are =
    read ∙ (ap (map enrolment_in) (sym are) ∙ sym (mapped words))
