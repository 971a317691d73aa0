-- Laws of entries and of records.
use Rattle.std.proofs.Common.{◌≡◌, ◌<◌, inl, inr, ℕ, ◌+◌, List, [], ◌∷◌, ◌++◌, length, take, drop, refl, sym, ap, subst, ◌∙◌, arith, append-nil}
use Rattle.std.specs.List.{AllByRecursion}
use Rattle.std.proofs.lemmas.List.{take_at, append_cancel_left, take-take, length-take-le}
use Rattle.std.proofs.lemmas.Bool.{cases_lt}
use Rattle.desk_record.specs.Record.{EntryParts, Fits, entries, entry, IsEntryLine, parsed_line, IsTooShort}
use Rattle.desk_record.proofs.LineLemmas.{line_read}
use Rattle.desk_record.proofs.ReadLemmas.{entry_length, is_its_line, its_bytes, line_is_read, line_of, some_same}

module _ (e other : EntryParts) (rest left : List ℕ) (fits : Fits e) (other_fits : Fits other)
    (same : entry e ++ rest ≡ entry other ++ left) where
  one_line : line_of e ≡ line_of other
  one_line =
      some_same (sym (line_is_read e rest fits) ∙ ap (λ x. parsed_line (take 86 x)) same
      ∙ line_is_read other left other_fits)

  behind : e.bytes ++ (10 ∷ rest) ≡ other.bytes ++ (10 ∷ left)
  behind = sym (its_bytes e rest) ∙ ap (drop 86) same ∙ its_bytes other left

  size : length other.bytes ≡ length e.bytes
  size = sym (ap (λ x. x.size) one_line)

  one_bytes : e.bytes ≡ other.bytes
  one_bytes =
      sym (take_at e.bytes (10 ∷ rest) (length e.bytes) refl) ∙ ap (take (length e.bytes)) behind
      ∙ take_at other.bytes (10 ∷ left) (length e.bytes) size

  pub one_at : (e ≡ other) × (rest ≡ left)
  one_at = (
    (λ i. record { kind = (one_line i).kind; number = (one_line i).number; bytes = one_bytes i }),
    (let tails = append_cancel_left e.bytes (10 ∷ rest) (10 ∷ left)
        (behind ∙ ap (λ x. x ++ (10 ∷ left)) (sym one_bytes)) in ap (drop 1) tails),
  )

-- an entry has a byte
some_bytes : (e : EntryParts) (rest : List ℕ) → entry e ++ rest ≡ [] → ⊥
some_bytes e rest is =
    let long = entry_length e rest in
    let none = ap length is in
    omega (arith, long, none)

pub one_list : (es others : List EntryParts) → AllByRecursion Fits es → AllByRecursion Fits others
    → entries es ≡ entries others → es ≡ others
one_list [] [] fits other_fits same = refl
one_list [] (o ∷ os) fits other_fits same = absurd (some_bytes o (entries os) (sym same))
one_list (e ∷ es) [] fits other_fits same = absurd (some_bytes e (entries es) same)
one_list (e ∷ es) (o ∷ os) fits other_fits same =
    let one = one_at e o (entries es) (entries os) fits.0 other_fits.0 same in
    let rest = one_list es os fits.1 other_fits.1 one.1 in
    (λ i. one.0 i ∷ rest i)

pub no_short : (e : EntryParts) (rest : List ℕ) → Fits e → IsTooShort (entry e ++ rest) → ⊥
no_short e rest fits h =
    let long = entry_length e rest in
    elim h.short [
      | inl w ↦ omega (arith, long, w)
      | inr w ↦ (let found = line_read (take 86 (entry e ++ rest)) w.line w.first in
          let same : w.line ≡ line_of e = some_same (sym found ∙ line_is_read e rest fits) in
          let size : w.line.size ≡ length e.bytes = ap (λ x. x.size) same in
          omega (arith, long, w.lacks, size))
    ]

pub length_of : (e : EntryParts) → length (entry e) ≡ 86 + length e.bytes + 1
length_of e =
    let long =
    subst (λ x. length x ≡ 86 + length e.bytes + 1 + 0) (append-nil (entry e)) (entry_length e []) in
    omega (arith, long)

pub short_beginning : (e : EntryParts) (n : ℕ) → Fits e → 0 < n → n < length (entry e)
    → IsTooShort (take n (entry e))
short_beginning e n fits some low =
    let whole = length_of e in
    let part = length-take-le n (entry e) (omega arith) in
    record {
      some = omega (arith, part);
      short = elim (cases_lt n 86) [
        | inl less ↦ inl (omega (arith, part, less))
        | inr more ↦ inr (record {
          line = line_of e;
          first = subst (λ x. IsEntryLine x (line_of e))
              (ap (take 86) (append-nil (entry e)) ∙ sym (take-take 86 n (entry e) more))
              (is_its_line e [] fits);
          lacks = omega (arith, part, whole, low);
        })
      ];
    }
