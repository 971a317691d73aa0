-- The bytes of lists of ids, cut into eights.
use Rattle.std.specs.Prelude.{◌≡◌, ℕ, suc, zero, ◌+◌, ◌*◌, ◌^◌, ◌<◌, List, [], ◌∷◌, ◌++◌, length, take, drop, map, All, refl}
use Rattle.std.specs.List.{flat_map}
use Rattle.std.specs.Int.{w64, to_be_bytes, from_be_bytes}
use Rattle.std.specs.Simd.{first_chunks}
use Rattle.std.proofs.Common.{ap₂, sym, ◌∙◌, arith, get_or}
use Rattle.std.proofs.lemmas.Nat.{be_bytes_8, from_be_bytes-to_be_bytes_8}
use Rattle.std.proofs.lemmas.List.{length-append, length-take-le, length-drop, take-append-drop, get_or-drop, nil_from_length}
use Rattle.s2_cellid.specs.Cell.{IsCellId}

-- ids as bytes, and eights of bytes as ids
abbrev pub bytes_of : List ℕ → List ℕ
bytes_of ids = flat_map (λ id. to_be_bytes w64 id) ids

abbrev pub ids_of : List (List ℕ) → List ℕ
ids_of eights = map (λ bytes. from_be_bytes w64 bytes) eights

pub length-bytes_of : (ids : List ℕ) → length (bytes_of ids) ≡ 8 * length ids
length-bytes_of [] = refl
length-bytes_of (id ∷ ids) =
    omega (arith, length-append (to_be_bytes w64 id) (bytes_of ids), length-bytes_of ids)

-- a valid id has at most 64 bits
pub cell_below : (id : ℕ) → IsCellId id → id < 2 ^ 64
cell_below id valid = grind arith

-- and back: the ids are read from their bytes
pub ids_again : (ids : List ℕ) → All IsCellId ids → ids_of (first_chunks 8 (length ids) (bytes_of ids))
    ≡ ids
ids_again [] valid = refl
ids_again (id ∷ ids) valid =
    let first : from_be_bytes w64 (to_be_bytes w64 id) ≡ id =
    from_be_bytes-to_be_bytes_8 id (cell_below id (valid 0 0 (omega arith))) in
    let rest : All IsCellId ids = λ k d within. valid (suc k) d (omega arith) in
    ap₂ ◌∷◌ first (ids_again ids rest)

-- what is taken of bytes are bytes
small_front : (count : ℕ) (bytes : List ℕ) → ((i : ℕ) → get_or bytes i 0 < 256) → (i : ℕ)
    → get_or (take count bytes) i 0 < 256
small_front zero bytes small i = omega arith
small_front (suc count) [] small i = omega arith
small_front (suc count) (byte ∷ bytes) small zero = small 0
small_front (suc count) (byte ∷ bytes) small (suc i) = small_front count bytes (λ k. small (suc k)) i

-- bytes, as many as eight for each of `count` ids, are those of the ids read from them
pub bytes_again : (count : ℕ) (bytes : List ℕ) → ((i : ℕ) → get_or bytes i 0 < 256) → length bytes
    ≡ 8 * count
    → bytes_of (ids_of (first_chunks 8 count bytes)) ≡ bytes
bytes_again zero bytes small many = sym (nil_from_length bytes (omega arith))
bytes_again (suc count) bytes small many =
    let first : to_be_bytes w64 (from_be_bytes w64 (take 8 bytes)) ≡ take 8 bytes =
    be_bytes_8 (take 8 bytes) _ (length-take-le 8 bytes (omega arith)) (small_front 8 bytes small) refl
    in
    let rest_small : (i : ℕ) → get_or (drop 8 bytes) i 0 < 256 = λ i. rw get_or-drop (small (8 + i)) in
    let rest = bytes_again count (drop 8 bytes) rest_small (omega (arith, length-drop 8 bytes)) in
    ap₂ ◌++◌ first rest ∙ take-append-drop 8 bytes
