-- Which shapes have given bytes.
use Rattle.std.specs.Prelude.{◌≡◌, ℕ, ◌+◌, ◌*◌, ◌/◌, ◌%◌, ◌<◌, ◌≤◌, IsTrue, List, [], ◌∷◌, length, All}
use Rattle.std.specs.Int.{w64, from_be_bytes}
use Rattle.std.specs.Simd.{first_chunks}
use Rattle.std.proofs.Common.{ap, sym, ◌∙◌, arith, get_or, take, ◌++◌, subst}
use Rattle.std.proofs.lemmas.List.{length-map, get_or-map, map_more, take_all}
use Rattle.std.proofs.lemmas.List.Elements.{All-push}
use Rattle.s2_cellid.specs.Cell.{IsCellId}
use Rattle.s2_cover.specs.Covers.{RectParts}
use Rattle.volume4d.specs.VolumeLimits.{within_cells}
use Rattle.volume4d.specs.Volume.{Shape, cells, rectangle}
use Rattle.volume4d.specs.Footprint.{footprint_bytes, AreBytesOf}
use Rattle.volume4d.proofs.IdBytes.{bytes_of, ids_of, length-bytes_of, ids_again, bytes_again}

-- the ids that stand behind the first byte
abbrev pub ids_in : List ℕ → List ℕ
ids_in bytes = ids_of (first_chunks 8 (length bytes / 8) bytes)

-- the bytes of valid ids name them
pub ids_in-bytes_of : (ids bytes : List ℕ) → All IsCellId ids → bytes_of ids ≡ bytes → ids_in bytes ≡ ids
ids_in-bytes_of ids bytes valid written =
    let count : length bytes / 8 ≡ length ids = omega (arith, length-bytes_of ids, ap length written) in
    rw (count, ← written) (ids_again ids valid)

-- a rectangle has another first byte
other_kind : (bytes : List ℕ) (r : RectParts) → AreBytesOf (1 ∷ bytes) (rectangle r) → ⊥
other_kind bytes r a =
    let other : get_or (footprint_bytes (rectangle r)) 0 0 ≡ 1 = ap (λ b. get_or b 0 0) a.written in
    absurd (omega (arith, other))

-- the bytes behind the first are whole ids, as many as the limits allow
pub counted : (bytes : List ℕ) (shape : Shape) → AreBytesOf (1 ∷ bytes) shape
    → (length bytes % 8 ≡ 0) × IsTrue (within_cells (length bytes / 8))
counted bytes (cells ids) a =
    let written : bytes_of ids ≡ bytes = cc (a.written) in
    let many : length bytes ≡ 8 * length ids = omega (arith, length-bytes_of ids, ap length written) in
    let count : length ids ≡ length bytes / 8 = omega arith in
    (omega arith, subst (λ n. IsTrue (within_cells n)) count a.limits)
counted bytes (rectangle r) a = absurd (other_kind bytes r a)

-- and each eight is a valid id
pub valid_ids : (bytes : List ℕ) (shape : Shape) → AreBytesOf (1 ∷ bytes) shape → All IsCellId (ids_in bytes)
valid_ids bytes (cells ids) a =
    let written : bytes_of ids ≡ bytes = cc (a.written) in
    rw (ids_in-bytes_of ids bytes a.valid written) a.valid
valid_ids bytes (rectangle r) a = absurd (other_kind bytes r a)

-- the same, by place
pub valid_id : (bytes : List ℕ) (shape : Shape) (eights : List (List ℕ)) (i : ℕ)
    → AreBytesOf (1 ∷ bytes) shape
    → eights ≡ first_chunks 8 (length bytes / 8) bytes → i < length eights
    → IsCellId (from_be_bytes w64 (get_or eights i []))
valid_id bytes shape eights i a cut within =
    let valid : All IsCellId (ids_of eights) = rw cut (valid_ids bytes shape a) in
    let place : i < length (ids_of eights) = rw length-map within in
    subst IsCellId (get_or-map (λ eight. from_be_bytes w64 eight) eights i [] 0 within) (valid i 0 place)

-- such bytes, of valid ids, are a footprint's
pub read : (bytes : List ℕ) → ((i : ℕ) → get_or bytes i 0 < 256) → length bytes % 8 ≡ 0
    → IsTrue (within_cells (length bytes / 8))
    → All IsCellId (ids_in bytes) → AreBytesOf (1 ∷ bytes) (cells (ids_in bytes))
read bytes small even few valid =
    let written : bytes_of (ids_in bytes) ≡ bytes =
    bytes_again (length bytes / 8) bytes small (omega arith) in
    let count : length bytes / 8 ≡ length (ids_in bytes) =
    omega (arith, length-bytes_of (ids_in bytes), ap length written) in
    record {
      limits = subst (λ n. IsTrue (within_cells n)) count few;
      valid = valid;
      written = ap (λ rest. 1 ∷ rest) written;
    }

-- the ids read so far, and one more eight that is a valid id
pub one_more : (eights : List (List ℕ)) (i cell : ℕ) (ids more : List ℕ) → i < length eights
    → ids ≡ ids_of (take i eights) → All IsCellId ids → more ≡ ids ++ cell ∷ []
    → IsCellId (from_be_bytes w64 (get_or eights i [])) × (cell ≡ from_be_bytes w64 (get_or eights i []))
    → (more ≡ ids_of (take (i + 1) eights)) × All IsCellId more
one_more eights i cell ids more within so_far valid pushed found =
    let next = map_more (λ eight. from_be_bytes w64 eight) eights i [] within in
    let cell_valid : IsCellId cell = subst IsCellId (sym found.1) found.0 in
    (rw (pushed, so_far, found.1) (sym next), rw pushed (All-push IsCellId ids cell valid cell_valid))

-- where all eights are read, the ids are a footprint's
pub all_read : (bytes : List ℕ) (eights : List (List ℕ)) (i : ℕ) (ids : List ℕ)
    → ((k : ℕ) → get_or bytes k 0 < 256)
    → length bytes % 8 ≡ 0 → IsTrue (within_cells (length bytes / 8)) → eights
    ≡ first_chunks 8 (length bytes / 8) bytes
    → length eights ≤ i → ids ≡ ids_of (take i eights) → All IsCellId ids → AreBytesOf (1 ∷ bytes) (cells ids)
all_read bytes eights i ids small even few cut ended so_far valid =
    let whole : ids ≡ ids_in bytes = so_far ∙ ap ids_of (take_all i eights ended ∙ cut) in
    subst (λ list. AreBytesOf (1 ∷ bytes) (cells list)) (sym whole)
    (read bytes small even few (subst (λ list. All IsCellId list) whole valid))
