-- Numbers of a picture, and the lines of its squares.
use Rattle.std.proofs.Common.{◌≡◌, ◌∙◌, ◌+◌, ◌-◌, ◌*◌, ◌/◌, ◌%◌, ◌++◌, ℕ, List, [], add-one, ap, append_assoc, arith, refl, sym}
use Rattle.std.proofs.lemmas.Nat.{div-add-mod'}
use Rattle.cell_picture.specs.Picture.{product64, level, horizontal_lines_text, vertical_line_text, vertical_lines_text}

pub floored : (number step : ℕ) → number - number % step ≡ number / step * step
floored number step = omega (arith, div-add-mod' number step)

pub no_upright : (step height : ℕ) → [] ≡ vertical_lines_text step height 0
unfolding vertical_lines_text
no_upright step height = refl

pub one_upright : (step height n : ℕ) (old new : List ℕ) → old ≡ vertical_lines_text step height n
    → new ≡ old ++ vertical_line_text (product64 n step) height → new ≡ vertical_lines_text step height (n + 1)
unfolding vertical_lines_text
one_upright step height n old new before next =
    next ∙ ap (λ text. text ++ vertical_line_text (product64 n step) height) before
    ∙ ap (vertical_lines_text step height) (sym (add-one n))

pub no_level : (step width height : ℕ) → [] ≡ horizontal_lines_text step width height 0
unfolding horizontal_lines_text
no_level step width height = refl

pub one_level : (step width height n : ℕ) (old new : List ℕ) → old ≡ horizontal_lines_text step width height n
    → new ≡ old ++ level (height - product64 n step) width → new ≡ horizontal_lines_text step width height (n + 1)
unfolding horizontal_lines_text
one_level step width height n old new before next =
    next ∙ ap (λ text. text ++ level (height - product64 n step) width) before
    ∙ ap (horizontal_lines_text step width height) (sym (add-one n))

-- parts one after the other
pub three : (a b c t u v : List ℕ) → t ≡ a → u ≡ t ++ b → v ≡ u ++ c → v ≡ a ++ (b ++ c)
three a b c t u v is first second =
    second ∙ ap (λ x. x ++ c) (first ∙ ap (λ x. x ++ b) is) ∙ append_assoc a b c

pub four : (a b c d t u v w : List ℕ) → t ≡ a → u ≡ t ++ b → v ≡ u ++ c → w ≡ v ++ d
    → w ≡ a ++ (b ++ (c ++ d))
four a b c d t u v w is first second third =
    three a b (c ++ d) t u w is first
    (third ∙ ap (λ x. x ++ d) second ∙ append_assoc u c d)

pub five : (a b c d e t u v w x : List ℕ) → t ≡ a → u ≡ t ++ b → v ≡ u ++ c → w ≡ v ++ d → x ≡ w ++ e
    → x ≡ a ++ (b ++ (c ++ (d ++ e)))
five a b c d e t u v w x is first second third last =
    four a b c (d ++ e) t u v x is first second
    (last ∙ ap (λ y. y ++ e) third ∙ append_assoc v d e)

pub six : (a b c d e f t u v w x y : List ℕ) → t ≡ a → u ≡ t ++ b → v ≡ u ++ c → w ≡ v ++ d → x ≡ w ++ e
    → y ≡ x ++ f → y ≡ a ++ (b ++ (c ++ (d ++ (e ++ f))))
six a b c d e f t u v w x y is first second third fourth last =
    five a b c d (e ++ f) t u v w y is first second third
    (last ∙ ap (λ z. z ++ f) fourth ∙ append_assoc w e f)

-- a part that is pushed, by what it says
pub pushed : (t b s c u : List ℕ) → u ≡ t ++ b → b ≡ s → s ≡ c → u ≡ t ++ c
pushed t b s c u is view text = is ∙ ap (λ x. t ++ x) (view ∙ text)
