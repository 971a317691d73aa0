-- Which shapes have the bytes of a rectangle.
use Rattle.std.specs.Prelude.{◌≡◌, ℕ, ◌+◌, ◌^◌, ◌<◌, Bool, true, false, ◌&&◌, cond, nat_lt, if◌then◌else◌, List, [], ◌∷◌, ◌++◌, length, Option, Some, None, MatchOption, Ok, Err, refl}
use Rattle.std.specs.Result.{result_ok}
use Rattle.std.specs.Int.{is_in_range, w32, to_be_bytes, from_be_bytes}
use Rattle.std.proofs.lemmas.Bool.{cases_Bool, both_ways}
use Rattle.std.proofs.lemmas.Bool.Decides.{nat_tests}
use Rattle.std.proofs.Common.{ap, sym, ◌∙◌, arith, get_or, drop, subst, inl, inr, suc, zero}
use Rattle.std.proofs.Math.Seq.{drop-cons}
use Rattle.std.proofs.lemmas.List.{length-drop, nil_from_length}
use Rattle.std.proofs.lemmas.Nat.{be_bytes_4, from_be_bytes-to_be_bytes_4}
use Rattle.s2_cover.specs.Covers.{RectParts, IsRect, min_level, max_level, are_coordinates, are_ordered, rect_or_fault}
use Rattle.s2_cover.specs.declared.rect.RectFault.TheVariants.{Face, Coordinate, Order, Level}
use Rattle.volume4d.specs.Volume.{Shape, cells, rectangle}
use Rattle.volume4d.specs.Footprint.{footprint_bytes, HasValidParts, AreBytesOf}
use Rattle.volume4d.proofs.IdBytes.{bytes_of}
use Rattle.volume4d.proofs.Readings.{ids_in-bytes_of}

-- the number of the four bytes from a place on
abbrev pub number_from : List ℕ → ℕ → ℕ
number_from bytes place =
    from_be_bytes w32
    (get_or bytes place 0 ∷ get_or bytes (place + 1) 0 ∷ get_or bytes (place + 2) 0
    ∷ get_or bytes (place + 3) 0 ∷ [])

-- the parts of a rectangle that stand behind the first byte
abbrev pub parts_in : List ℕ → RectParts
parts_in bytes = record {
  face = get_or bytes 0 0;
  i_min = number_from bytes 1;
  i_max = number_from bytes 5;
  j_min = number_from bytes 9;
  j_max = number_from bytes 13;
  level = get_or bytes 17 0;
}

same_parts : (one other : RectParts) → one.face ≡ other.face → one.i_min ≡ other.i_min
    → one.i_max ≡ other.i_max → one.j_min ≡ other.j_min → one.j_max ≡ other.j_max
    → one.level ≡ other.level → one ≡ other
same_parts one other face i_min i_max j_min j_max level = λ k. record {
  face = face k;
  i_min = i_min k;
  i_max = i_max k;
  j_min = j_min k;
  j_max = j_max k;
  level = level k;
}

-- all but the first byte
abbrev rest_of : List ℕ → List ℕ
rest_of [] = []
rest_of (byte ∷ bytes) = bytes

-- the bytes of a rectangle name it
parts_again : (r : RectParts) (bytes : List ℕ) → IsRect r → footprint_bytes (rectangle r) ≡ 2 ∷ bytes
    → (length bytes ≡ 18) × (parts_in bytes ≡ r)
parts_again r bytes is written =
    let rest : rest_of (footprint_bytes (rectangle r)) ≡ bytes = ap rest_of written in
    subst (λ b. (length b ≡ 18) × (parts_in b ≡ r)) rest (
      refl,
      same_parts (parts_in (rest_of (footprint_bytes (rectangle r)))) r refl
          (from_be_bytes-to_be_bytes_4 r.i_min (omega (arith, is)))
          (from_be_bytes-to_be_bytes_4 r.i_max (omega (arith, is)))
          (from_be_bytes-to_be_bytes_4 r.j_min (omega (arith, is)))
          (from_be_bytes-to_be_bytes_4 r.j_max (omega (arith, is))) refl,
    )

-- the tests that a rectangle has to pass
abbrev passes : RectParts → Bool
passes r = nat_lt r.face 6
    && (are_coordinates r && (are_ordered r && is_in_range min_level max_level r.level))

decided : (a b c d : Bool) (r : RectParts)
    → result_ok (if a then (if b then (if c then (if d then Ok r else Err Level) else Err Order)
    else Err Coordinate) else Err Face) ≡ cond (a && (b && (c && d))) (Some r) None
decided true true true true r = refl
decided true true true false r = refl
decided true true false d r = refl
decided true false c d r = refl
decided false b c d r = refl

passes_is : (r : RectParts) → passes r ≡ true → IsRect r
passes_is r holds = record {
  face = grind (arith, nat_tests, holds);
  i_order = grind (arith, nat_tests, holds);
  i_below = grind (arith, nat_tests, holds);
  j_order = grind (arith, nat_tests, holds);
  j_below = grind (arith, nat_tests, holds);
  level_from = grind (arith, nat_tests, holds);
  level_to = grind (arith, nat_tests, holds);
}

is_passes : (r : RectParts) → IsRect r → passes r ≡ true
is_passes r is =
    let i : r.i_min < 2 ^ 30 = omega (arith, is) in
    let j : r.j_min < 2 ^ 30 = omega (arith, is) in
    grind (arith, nat_tests, is, i, j)

-- the numbers of a list from a place on
abbrev listed : ℕ → ℕ → List ℕ → List ℕ
listed zero first xs = []
listed (suc n) first xs = get_or xs first 0 ∷ listed n (suc first) xs

is_listed : (n first : ℕ) (xs : List ℕ) → length xs ≡ first + n → drop first xs ≡ listed n first xs
is_listed zero first xs long = nil_from_length (drop first xs)
    (omega (arith, long, length-drop first xs))
is_listed (suc n) first xs long =
    drop-cons xs first 0 (omega (arith, long))
    ∙ ap (λ rest. get_or xs first 0 ∷ rest) (is_listed n (suc first) xs (omega (arith, long)))

in_places : (bytes : List ℕ) → length bytes ≡ 18 → bytes ≡ listed 18 0 bytes
in_places bytes long = is_listed 18 0 bytes long

four_small : (a b c d : ℕ) → a < 256 → b < 256 → c < 256 → d < 256
    → (i : ℕ) → get_or (a ∷ b ∷ c ∷ d ∷ []) i 0 < 256
four_small a b c d one two three four zero = one
four_small a b c d one two three four (suc zero) = two
four_small a b c d one two three four (suc (suc zero)) = three
four_small a b c d one two three four (suc (suc (suc zero))) = four
four_small a b c d one two three four (suc (suc (suc (suc i)))) = omega arith

-- a number read from four bytes has these
number_again : (bytes : List ℕ) (place : ℕ) → ((i : ℕ) → get_or bytes i 0 < 256)
    → to_be_bytes w32 (number_from bytes place)
    ≡ get_or bytes place 0 ∷ get_or bytes (place + 1) 0 ∷ get_or bytes (place + 2) 0
    ∷ get_or bytes (place + 3) 0 ∷ []
number_again bytes place small =
    be_bytes_4 (get_or bytes place 0 ∷ get_or bytes (place + 1) 0 ∷ get_or bytes (place + 2) 0
    ∷ get_or bytes (place + 3) 0 ∷ [])
    (number_from bytes place) refl
    (four_small (get_or bytes place 0) (get_or bytes (place + 1) 0) (get_or bytes (place + 2) 0)
    (get_or bytes (place + 3) 0)
    (small place) (small (place + 1)) (small (place + 2)) (small (place + 3))) refl

-- the parts read from eighteen bytes have these bytes
written_again : (bytes : List ℕ) → ((i : ℕ) → get_or bytes i 0 < 256) → length bytes ≡ 18
    → footprint_bytes (rectangle (parts_in bytes)) ≡ 2 ∷ bytes
written_again bytes small long =
    (λ k. 2 ∷ get_or bytes 0 0 ∷ (number_again bytes 1 small k ++ (number_again bytes 5 small k
    ++ (number_again bytes 9 small k ++ (number_again bytes 13 small k ++ [])))) ++ get_or bytes 17 0
    ∷ [])
    ∙ ap (λ rest. 2 ∷ rest) (sym (in_places bytes long))

-- what is read from eighteen bytes
pub read_rect : (bytes : List ℕ) (parts : RectParts) (found : Option RectParts)
    → ((i : ℕ) → get_or bytes i 0 < 256) → length bytes ≡ 18 → parts ≡ parts_in bytes
    → found ≡ result_ok (rect_or_fault parts)
    → MatchOption found ((shape : Shape) → ¬ AreBytesOf (2 ∷ bytes) shape)
    (λ rect. AreBytesOf (2 ∷ bytes) (rectangle rect))
read_rect bytes parts found small long same is =
    subst Found (sym (is ∙ ap (λ r. result_ok (rect_or_fault r)) same ∙ tests))
    (elim (cases_Bool (passes r)) [
      | inl holds ↦ subst (λ b. Found (cond b (Some r) None)) (sym holds) (record {
        limits = refl;
        valid = passes_is r holds;
        written = written_again bytes small long;
      })
      | inr fails ↦ subst (λ b. Found (cond b (Some r) None)) (sym fails) (λ shape a.
          both_ways (passes r) fails (named shape a))
    ]) where
      r : RectParts
      r = parts_in bytes

      Found : Option RectParts → Type 0
      Found o = MatchOption o ((shape : Shape) → ¬ AreBytesOf (2 ∷ bytes) shape)
          (λ rect. AreBytesOf (2 ∷ bytes) (rectangle rect))

      tests : result_ok (rect_or_fault r) ≡ cond (passes r) (Some r) None
      tests =
          decided (nat_lt r.face 6) (are_coordinates r) (are_ordered r)
          (is_in_range min_level max_level r.level) r

      named : (shape : Shape) → AreBytesOf (2 ∷ bytes) shape → passes r ≡ true
      named (cells ids) a =
          let other : get_or (footprint_bytes (cells ids)) 0 0 ≡ 2 = ap (λ b. get_or b 0 0) a.written in
          absurd (omega (arith, other))
      named (rectangle other) a =
          subst (λ q. passes q ≡ true) (sym (parts_again other bytes a.valid a.written).1)
          (is_passes other a.valid)

-- shapes of valid parts with the same bytes are the same
pub same_from_bytes : (one other : Shape) → HasValidParts one → HasValidParts other
    → footprint_bytes one ≡ footprint_bytes other → one ≡ other
same_from_bytes (cells ids) (cells others) valid others_valid same =
    let written : bytes_of ids ≡ bytes_of others = cc in
    ap cells (sym (ids_in-bytes_of ids (bytes_of others) valid written)
    ∙ ids_in-bytes_of others (bytes_of others) others_valid refl)
same_from_bytes (cells ids) (rectangle r) valid others_valid same =
    let other : get_or (footprint_bytes (cells ids)) 0 0 ≡ 2 = ap (λ b. get_or b 0 0) same in
    absurd (omega (arith, other))
same_from_bytes (rectangle r) (cells ids) valid others_valid same =
    let other : get_or (footprint_bytes (rectangle r)) 0 0 ≡ 1 = ap (λ b. get_or b 0 0) same in
    absurd (omega (arith, other))
same_from_bytes (rectangle r) (rectangle other) valid others_valid same =
    let bytes = rest_of (footprint_bytes (rectangle other)) in
    let one = parts_again r bytes valid same in
    let two = parts_again other bytes others_valid refl in
    ap rectangle (sym one.1 ∙ two.1)
