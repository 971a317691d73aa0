-- The texts of ids are ordered as the ids.
use Rattle.std.proofs.Common.{◌≡◌, ℕ, ◌<◌, ◌/◌, ◌%◌, List, [], ◌∷◌, length, refl, ap, ◌∙◌, arith, Less, Equal, Greater}
use Rattle.std.specs.List.{AllByRecursion}
use Rattle.std.specs.declared.cmp.Ordering.{Ordering}
use Rattle.std.specs.Ordering.{nat_cmp, ordering_then}
use Rattle.std.proofs.lemmas.List.Elements.{recursion_from_All}
use Rattle.std.proofs.lemmas.Bool.Decides.{nat_tests}
use Rattle.uuid.specs.Text.{by_index, hex_digit}
use Rattle.desk_store.specs.World.{text_cmp, IsId}
use Rattle.row_codec.specs.Tables.{id_text}

with16 : (P : List ℕ → Type 0) → ((x0 x1 x2 x3 x4 x5 x6 x7 x8 x9 x10 x11 x12 x13 x14 x15 : ℕ)
    → P (x0 ∷ x1 ∷ x2 ∷ x3 ∷ x4 ∷ x5 ∷ x6 ∷ x7 ∷ x8 ∷ x9 ∷ x10 ∷ x11 ∷ x12 ∷ x13 ∷ x14 ∷ x15 ∷ []))
    → (xs : List ℕ) → length xs ≡ 16 → P xs
with16 P f (x0 ∷ x1 ∷ x2 ∷ x3 ∷ x4 ∷ x5 ∷ x6 ∷ x7 ∷ x8 ∷ x9 ∷ x10 ∷ x11 ∷ x12 ∷ x13 ∷ x14 ∷ x15 ∷ [])
    h =
    f x0 x1 x2 x3 x4 x5 x6 x7 x8 x9 x10 x11 x12 x13 x14 x15
with16 P f xs h = absurd (omega (arith, h))

digit_order : (a b : ℕ) → a < 16 → b < 16 → nat_cmp (hex_digit 97 a) (hex_digit 97 b) ≡ nat_cmp a b
digit_order a b h k = grind (arith, nat_tests)

-- a byte is two digits, the greater one first
two_digits : (x y : ℕ) → x < 256 → y < 256 → ordering_then (nat_cmp (x / 16 % 16) (y / 16 % 16))
    (nat_cmp (x % 16) (y % 16)) ≡ nat_cmp x y
two_digits x y h k = grind (arith, nat_tests)

pub then_then : (a b c : Ordering) → ordering_then a (ordering_then b c)
    ≡ ordering_then (ordering_then a b) c
then_then Less b c = refl
then_then Equal b c = refl
then_then Greater b c = refl

byte_order : (x y : ℕ) (o : Ordering) → x < 256 → y < 256
    → ordering_then (nat_cmp (hex_digit 97 (x / 16 % 16)) (hex_digit 97 (y / 16 % 16)))
    (ordering_then (nat_cmp (hex_digit 97 (x % 16)) (hex_digit 97 (y % 16))) o)
    ≡ ordering_then (nat_cmp x y) o
byte_order x y o h k =
    (λ i. ordering_then (digit_order (x / 16 % 16) (y / 16 % 16) (omega arith) (omega arith) i)
    (ordering_then (digit_order (x % 16) (y % 16) (omega arith) (omega arith) i) o))
    ∙ then_then (nat_cmp (x / 16 % 16) (y / 16 % 16)) (nat_cmp (x % 16) (y % 16)) o
    ∙ ap (λ c. ordering_then c o) (two_digits x y h k)

abbrev AreBytes : List ℕ → Type 0
AreBytes xs = AllByRecursion (λ b. b < 256) xs

ids_order : (x0 x1 x2 x3 x4 x5 x6 x7 x8 x9 x10 x11 x12 x13 x14 x15 y0 y1 y2 y3 y4 y5 y6 y7 y8 y9 y10 y11
    y12
    y13 y14 y15 : ℕ) → AreBytes (x0 ∷ x1 ∷ x2 ∷ x3 ∷ x4 ∷ x5 ∷ x6 ∷ x7 ∷ x8 ∷ x9 ∷ x10 ∷ x11 ∷ x12 ∷ x13
    ∷ x14
    ∷ x15 ∷ []) → AreBytes (y0 ∷ y1 ∷ y2 ∷ y3 ∷ y4 ∷ y5 ∷ y6 ∷ y7 ∷ y8 ∷ y9 ∷ y10 ∷ y11 ∷ y12 ∷ y13
    ∷ y14
    ∷ y15 ∷ [])
    → text_cmp (id_text (x0 ∷ x1 ∷ x2 ∷ x3 ∷ x4 ∷ x5 ∷ x6 ∷ x7 ∷ x8 ∷ x9 ∷ x10 ∷ x11 ∷ x12 ∷ x13 ∷ x14
    ∷ x15
    ∷ [])) (id_text (y0 ∷ y1 ∷ y2 ∷ y3 ∷ y4 ∷ y5 ∷ y6 ∷ y7 ∷ y8 ∷ y9 ∷ y10 ∷ y11 ∷ y12 ∷ y13 ∷ y14 ∷ y15
    ∷ []))
    ≡ text_cmp (x0 ∷ x1 ∷ x2 ∷ x3 ∷ x4 ∷ x5 ∷ x6 ∷ x7 ∷ x8 ∷ x9 ∷ x10 ∷ x11 ∷ x12 ∷ x13 ∷ x14 ∷ x15
    ∷ [])
    (y0 ∷ y1 ∷ y2 ∷ y3 ∷ y4 ∷ y5 ∷ y6 ∷ y7 ∷ y8 ∷ y9 ∷ y10 ∷ y11 ∷ y12 ∷ y13 ∷ y14 ∷ y15 ∷ [])
unfolding by_index
ids_order x0 x1 x2 x3 x4 x5 x6 x7 x8 x9 x10 x11 x12 x13 x14 x15 y0 y1 y2 y3 y4 y5 y6 y7 y8 y9 y10 y11
    y12 y13
    y14 y15 h k =
    byte_order x0 y0 _ h.0 k.0
    ∙ ap (ordering_then (nat_cmp x0 y0)) (byte_order x1 y1 _ h.1.0 k.1.0
    ∙ ap (ordering_then (nat_cmp x1 y1)) (byte_order x2 y2 _ h.1.1.0 k.1.1.0
    ∙ ap (ordering_then (nat_cmp x2 y2)) (byte_order x3 y3 _ h.1.1.1.0 k.1.1.1.0
    ∙ ap (ordering_then (nat_cmp x3 y3)) (byte_order x4 y4 _ h.1.1.1.1.0 k.1.1.1.1.0
    ∙ ap (ordering_then (nat_cmp x4 y4)) (byte_order x5 y5 _ h.1.1.1.1.1.0 k.1.1.1.1.1.0
    ∙ ap (ordering_then (nat_cmp x5 y5)) (byte_order x6 y6 _ h.1.1.1.1.1.1.0 k.1.1.1.1.1.1.0
    ∙ ap (ordering_then (nat_cmp x6 y6)) (byte_order x7 y7 _ h.1.1.1.1.1.1.1.0 k.1.1.1.1.1.1.1.0
    ∙ ap (ordering_then (nat_cmp x7 y7)) (byte_order x8 y8 _ h.1.1.1.1.1.1.1.1.0 k.1.1.1.1.1.1.1.1.0
    ∙ ap (ordering_then (nat_cmp x8 y8)) (byte_order x9 y9 _ h.1.1.1.1.1.1.1.1.1.0 k.1.1.1.1.1.1.1.1.1.0
    ∙ ap (ordering_then (nat_cmp x9 y9)) (byte_order x10 y10 _ h.1.1.1.1.1.1.1.1.1.1.0
    k.1.1.1.1.1.1.1.1.1.1.0
    ∙ ap (ordering_then (nat_cmp x10 y10)) (byte_order x11 y11 _ h.1.1.1.1.1.1.1.1.1.1.1.0
    k.1.1.1.1.1.1.1.1.1.1.1.0
    ∙ ap (ordering_then (nat_cmp x11 y11)) (byte_order x12 y12 _ h.1.1.1.1.1.1.1.1.1.1.1.1.0
    k.1.1.1.1.1.1.1.1.1.1.1.1.0
    ∙ ap (ordering_then (nat_cmp x12 y12)) (byte_order x13 y13 _ h.1.1.1.1.1.1.1.1.1.1.1.1.1.0
    k.1.1.1.1.1.1.1.1.1.1.1.1.1.0
    ∙ ap (ordering_then (nat_cmp x13 y13)) (byte_order x14 y14 _ h.1.1.1.1.1.1.1.1.1.1.1.1.1.1.0
    k.1.1.1.1.1.1.1.1.1.1.1.1.1.1.0
    ∙ ap (ordering_then (nat_cmp x14 y14)) (byte_order x15 y15 _ h.1.1.1.1.1.1.1.1.1.1.1.1.1.1.1.0
    k.1.1.1.1.1.1.1.1.1.1.1.1.1.1.1.0)))))))))))))))

pub text_order : (a b : List ℕ) → IsId a → IsId b → text_cmp (id_text a) (id_text b) ≡ text_cmp a b
text_order a b ha hb =
    with16 (λ a. AreBytes a → text_cmp (id_text a) (id_text b) ≡ text_cmp a b)
    (λ x0 x1 x2 x3 x4 x5 x6 x7 x8 x9 x10 x11 x12 x13 x14 x15 h.
    with16 (λ b. AreBytes b
    → text_cmp (id_text (x0 ∷ x1 ∷ x2 ∷ x3 ∷ x4 ∷ x5 ∷ x6 ∷ x7 ∷ x8 ∷ x9 ∷ x10 ∷ x11 ∷ x12 ∷ x13 ∷ x14
    ∷ x15 ∷ [])) (id_text b) ≡ text_cmp (x0 ∷ x1 ∷ x2 ∷ x3 ∷ x4 ∷ x5 ∷ x6 ∷ x7 ∷ x8 ∷ x9 ∷ x10 ∷ x11
    ∷ x12
    ∷ x13 ∷ x14 ∷ x15 ∷ []) b)
    (λ y0 y1 y2 y3 y4 y5 y6 y7 y8 y9 y10 y11 y12 y13 y14 y15 k. ids_order x0 x1 x2 x3 x4 x5 x6 x7 x8 x9
    x10
    x11 x12 x13 x14 x15 y0 y1 y2 y3 y4 y5 y6 y7 y8 y9 y10 y11 y12 y13 y14 y15 h k)
    b hb.sixteen (recursion_from_All (λ b. b < 256) b hb.are_bytes))
    a ha.sixteen (recursion_from_All (λ b. b < 256) a ha.are_bytes)
