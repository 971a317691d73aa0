-- Reading: what was read is an entry, or there is none.
use Rattle.std.proofs.Common.{◌≡◌, ◌<◌, ◌≤◌, ◌^◌, inl, inr, ℕ, ◌+◌, List, [], ◌∷◌, ◌++◌, length, take, drop, Option, Some, None, IfSome, Bool, true, false, refl, sym, ap, subst, ◌∙◌, arith, append_assoc, length-append, eq-eqb, eqb-true}
use Rattle.std.proofs.lemmas.Bool.{cases_lt}
use Rattle.std.proofs.KnownBytes.{Consumes-trans}
use Rattle.std.specs.Prelude.{option_and_then, if◌then◌else◌, ◌==◌, ◌&&◌}
use Rattle.std.specs.Str.{bytes_eq}
use Rattle.std.specs.Io.KnownBytes.{Consumes, IsAtEnd}
use Rattle.std.proofs.lemmas.Slice.Eq.{bytes_eq-Decides}
use Rattle.std.proofs.lemmas.List.{take_at, drop_at, length-take-le, length-drop, append_cancel_left}
use Rattle.desk_record.specs.Record.{EntryParts, Fits, entry, line, sum, IsEntryLine, LineParts, kind_of, parsed_line, parsed_line_fields, line_of_parts, number_from, IsDamagedRecord, IsTooShort, are_bytes_intact}
use Rattle.desk_record.proofs.DigitLemmas.{read_fits}
use Rattle.desk_record.proofs.LineLemmas.{length_line, length_sum, line_read}

-- the line of an entry
abbrev pub line_of : EntryParts → LineParts
line_of e = record { kind = e.kind; number = e.number; size = length e.bytes; sum = sum e.bytes }

module _ (e : EntryParts) (rest : List ℕ) where
  pub behind_line : entry e ++ rest ≡ line_of_parts (line_of e) ++ (e.bytes ++ (10 ∷ rest))
  unfolding entry
  behind_line = simp append_assoc

  line_length : length (line_of_parts (line_of e)) ≡ 86
  line_length = length_line (line_of e) (length_sum e.bytes)

  pub its_line : take 86 (entry e ++ rest) ≡ line_of_parts (line_of e)
  its_line = ap (take 86) behind_line
      ∙ take_at (line_of_parts (line_of e)) (e.bytes ++ (10 ∷ rest)) 86 line_length

  pub its_bytes : drop 86 (entry e ++ rest) ≡ e.bytes ++ (10 ∷ rest)
  its_bytes = ap (drop 86) behind_line
      ∙ drop_at (line_of_parts (line_of e)) (e.bytes ++ (10 ∷ rest)) 86 line_length

  pub is_its_line : Fits e → IsEntryLine (take 86 (entry e ++ rest)) (line_of e)
  is_its_line fits = record {
    text = its_line;
    number = fits.number;
    size = fits.size;
    sum = length_sum e.bytes;
  }

  pub entry_length : length (entry e ++ rest) ≡ 86 + length e.bytes + 1 + length rest
  entry_length =
      let long = line_length in
      ap length behind_line ∙ simp length-append (omega (arith, long))

  pub line_is_read : Fits e → parsed_line (take 86 (entry e ++ rest)) ≡ Some (line_of e)
  line_is_read fits = line_read _ (line_of e) (is_its_line fits)

-- what is read as a line is one
pub is_line : (bytes : List ℕ) (l : LineParts) → length bytes ≡ 86 → parsed_line bytes ≡ Some l
    → IsEntryLine bytes l
unfolding parsed_line parsed_line_fields
is_line bytes l long e =
    by_kind (kind_of (take 9 bytes)) (number_from 0 (take 20 (drop 10 bytes)))
    (number_from 0 (take 20 (drop 31 bytes))) refl refl e where
      by_kind : (k : Option _) (n size : Option ℕ) → number_from 0 (take 20 (drop 10 bytes)) ≡ n
          → number_from 0 (take 20 (drop 31 bytes)) ≡ size
          → option_and_then (λ l. if bytes_eq (line_of_parts l) bytes then Some l else None)
          (option_and_then (λ reported. option_and_then (λ n. option_and_then (λ size.
          Some (record { kind = reported; number = n; size = size; sum = take 16 (drop 52 bytes) })) size) n) k)
          ≡ Some l → IsEntryLine bytes l
      by_kind None n size is_n is_size f = cc
      by_kind (Some k) None size is_n is_size f = cc
      by_kind (Some k) (Some n) None is_n is_size f = cc
      by_kind (Some k) (Some n) (Some size) is_n is_size f =
          by_text (record { kind = k; number = n; size = size; sum = take 16 (drop 52 bytes) })
          (bytes_eq (line_of_parts
          (record { kind = k; number = n; size = size; sum = take 16 (drop 52 bytes) })) bytes)
          refl f (read_fits 0 (take 20 (drop 10 bytes)) n (omega arith) is_n)
          (read_fits 0 (take 20 (drop 31 bytes)) size (omega arith) is_size)
          (length-take-le 16 (drop 52 bytes) (omega (arith, length-drop 52 bytes, long))) where
            by_text : (m : LineParts) (same : Bool) → bytes_eq (line_of_parts m) bytes ≡ same
                → (if same then Some m else None) ≡ Some l
                → m.number < 2 ^ 64 → m.size < 2 ^ 64 → length m.sum ≡ 16 → IsEntryLine bytes l
            by_text m false same f number size sum = cc
            by_text m true same f number size sum =
                let is : m ≡ l = cc in
                subst (IsEntryLine bytes) is (record {
                  text = sym ((bytes_eq-Decides (line_of_parts m) bytes).0 same);
                  number = number;
                  size = size;
                  sum = sum;
                })

pub some_same : {A : Type 0} {x y : A} → Some x ≡ Some y → x ≡ y
some_same e = cc

has_all : (a b c : Bool) → a ≡ true → b ≡ true → c ≡ true → (a && (b && c)) ≡ true
has_all a b c p q r = rw (p, q, r) refl

all_of : (a b c : Bool) → (a && (b && c)) ≡ true → (a ≡ true) × (b ≡ true) × (c ≡ true)
all_of true true true e = (refl, refl, refl)
all_of true true false e = cc
all_of true false c e = cc
all_of false b c e = cc

-- 86 bytes were taken
module _ (old mid : Option (List ℕ)) (text : List ℕ) (first : Consumes old mid text)
    (long : length text ≡ 86) where
  pub not_line : parsed_line text ≡ None → IfSome old IsDamagedRecord
  not_line none = by_known old mid first where
    by_known : (old mid : Option (List ℕ)) → Consumes old mid text → IfSome old IsDamagedRecord
    by_known None mid first = tt
    by_known (Some s) None first = absurd first
    by_known (Some s) (Some r) first =
        let line_fields : take 86 s ≡ text = ap (take 86) first ∙ take_at text r 86 long in
        let len = ap length first ∙ length-append text r in
        record {
          some = omega (arith, len, long);
          whole = λ h. elim h.short [
            | inl w ↦ omega (arith, len, long, w)
            | inr w ↦ (let read = line_read (take 86 s) w.line w.first in cc (none, line_fields))
          ];
          none = λ e rest fits is.
              let read = line_is_read e rest fits in
              let same : take 86 (entry e ++ rest) ≡ text = ap (take 86) (sym is) ∙ line_fields in
              cc (none, read);
        }

  -- a line, and some of its bytes
  module _ (l : LineParts) (read : parsed_line text ≡ Some l) (m2 new : Option (List ℕ)) (bytes last : List ℕ)
      (then_ : Consumes mid m2 bytes) (within : length bytes ≤ l.size) (end : Consumes m2 new last) where
    all_taken : (old mid m2 new : Option (List ℕ)) → Consumes old mid text → Consumes mid m2 bytes
        → Consumes m2 new last → (P : List ℕ → Type 0)
        → ((rest : List ℕ) → m2 ≡ Some (last ++ rest) → new ≡ Some rest
        → P (text ++ (bytes ++ (last ++ rest)))) → IfSome old P
    all_taken None mid m2 new a b c P h = tt
    all_taken (Some s) None m2 new a b c P h = absurd a
    all_taken (Some s) (Some r) None new a b c P h = absurd b
    all_taken (Some s) (Some r) (Some q) None a b c P h = absurd c
    all_taken (Some s) (Some r) (Some q) (Some rest) a b c P h =
        subst P (sym (a ∙ ap (λ x. text ++ x) (b ∙ ap (λ x. bytes ++ x) c))) (h rest (ap Some c) refl)

    the_line : (rest : List ℕ) → take 86 (text ++ rest) ≡ text
    the_line rest = take_at text rest 86 long

    all_length : (rest : List ℕ) → length (text ++ (bytes ++ (last ++ rest)))
        ≡ 86 + length bytes + length last + length rest
    all_length rest = simp length-append (omega (arith, long))

    pub lacks_bytes : length last ≡ 0 → IsAtEnd new → IfSome old IsTooShort
    lacks_bytes none at_end =
        all_taken old mid m2 new first then_ end IsTooShort
        (λ rest is ends. short rest (ap length (subst IsAtEnd ends at_end))) where
          short : (rest : List ℕ) → length rest ≡ 0 → IsTooShort (text ++ (bytes ++ (last ++ rest)))
          short rest no_more =
              let len = all_length rest in
              let line_fields = the_line (bytes ++ (last ++ rest)) in
              record {
                some = omega (arith, len);
                short = inr (record {
                  line = l;
                  first = subst (λ x. IsEntryLine x l) (sym line_fields) (is_line text l long read);
                  lacks = omega (arith, len, within, none, no_more);
                });
              }

    -- the bytes of an entry that begins so
    its_parts : (rest : List ℕ) → length bytes ≡ l.size → length last ≡ 1 → (e : EntryParts) (more : List ℕ)
        → Fits e → text ++ (bytes ++ (last ++ rest)) ≡ entry e ++ more → are_bytes_intact l bytes last ≡ true
    its_parts rest whole one e more fits is =
        let found = line_is_read e more fits in
        let line_fields : take 86 (entry e ++ more) ≡ text =
        ap (take 86) (sym is) ∙ the_line (bytes ++ (last ++ rest)) in
        let same : line_of e ≡ l = some_same (sym found ∙ ap parsed_line line_fields ∙ read) in
        let size : length bytes ≡ length e.bytes = whole ∙ sym (ap (λ x. x.size) same) in
        let behind : bytes ++ (last ++ rest) ≡ e.bytes ++ (10 ∷ more) =
        sym (drop_at text (bytes ++ (last ++ rest)) 86 long) ∙ ap (drop 86) is ∙ its_bytes e more in
        let equal : bytes ≡ e.bytes =
        sym (take_at bytes (last ++ rest) (length bytes) refl) ∙ ap (take (length bytes)) behind
        ∙ take_at e.bytes (10 ∷ more) (length bytes) (sym size) in
        let ends : last ++ rest ≡ 10 ∷ more =
        append_cancel_left bytes (last ++ rest) (10 ∷ more)
        (behind ∙ ap (λ x. x ++ (10 ∷ more)) (sym equal)) in
        let feed : last ≡ 10 ∷ [] = sym (take_at last rest 1 one) ∙ ap (take 1) ends in
        let sums : sum bytes ≡ l.sum = ap sum equal ∙ ap (λ x. x.sum) same in
        has_all (length bytes == l.size) (bytes_eq (sum bytes) l.sum) (bytes_eq last (10 ∷ []))
        (eq-eqb (length bytes) l.size whole)
        ((bytes_eq-Decides (sum bytes) l.sum).1 sums) ((bytes_eq-Decides last (10 ∷ [])).1 feed)

    pub unsound : are_bytes_intact l bytes last ≡ false → (length last ≡ 0 → ⊥) → length last ≤ 1
        → (length bytes < l.size → IsAtEnd m2) → IfSome old IsDamagedRecord
    unsound wrong some low at_end =
        all_taken old mid m2 new first then_ end IsDamagedRecord (λ rest is ends. damaged rest is) where
          all_there : (rest : List ℕ) → m2 ≡ Some (last ++ rest) → length bytes ≡ l.size
          all_there rest is = elim (cases_lt (length bytes) l.size) [
            | inl less ↦ (let none : last ++ rest ≡ [] = subst IsAtEnd is (at_end less) in
                let len = ap length none ∙ refl in
                let sizes = length-append last rest in
                absurd (some (omega (arith, len, sizes))))
            | inr more ↦ omega (arith, more, within)
          ]

          damaged : (rest : List ℕ) → m2 ≡ Some (last ++ rest)
              → IsDamagedRecord (text ++ (bytes ++ (last ++ rest)))
          damaged rest is =
              let whole = all_there rest is in
              let len = all_length rest in
              let one : length last ≡ 1 = omega (arith, low, some) in
              record {
                some = omega (arith, len);
                whole = λ h. elim h.short [
                  | inl w ↦ omega (arith, len, w)
                  | inr w ↦ (let found =
                      line_read (take 86 (text ++ (bytes ++ (last ++ rest)))) w.line w.first in
                      let same : w.line ≡ l =
                      some_same (sym found ∙ ap parsed_line (the_line (bytes ++ (last ++ rest))) ∙ read) in
                      let size : w.line.size ≡ l.size = ap (λ x. x.size) same in
                      omega (arith, len, w.lacks, size, whole, one))
                ];
                none = λ e more fits equal.
                    (let right = its_parts rest whole one e more fits equal in cc (wrong, right));
              }

    pub sound : are_bytes_intact l bytes last ≡ true
        → Consumes old new (entry (record { kind = l.kind; number = l.number; bytes = bytes }))
    unfolding entry
    sound right =
        let all =
        all_of (length bytes == l.size) (bytes_eq (sum bytes) l.sum) (bytes_eq last (10 ∷ [])) right in
        let size : length bytes ≡ l.size = eqb-true (length bytes) l.size all.0 in
        let sums : sum bytes ≡ l.sum = (bytes_eq-Decides (sum bytes) l.sum).0 all.1 in
        let feed : last ≡ 10 ∷ [] = (bytes_eq-Decides last (10 ∷ [])).0 all.2 in
        let line_is : text ≡ line l.kind l.number (length bytes) (sum bytes) =
        (is_line text l long read).text ∙ (λ i. line l.kind l.number (sym size i) (sym sums i)) in
        subst (Consumes old new) ((λ i. line_is i ++ (bytes ++ feed i)))
        (Consumes-trans old mid new text (bytes ++ last) first
        (Consumes-trans mid m2 new bytes last then_ end))

pub none_there : (len n : ℕ) → true ≡ (len == 0) → len ≡ n → n ≡ 0
none_there len n e is = let none = eqb-true len 0 (sym e) in omega (arith, none, is)

pub some_there : (len n : ℕ) → false ≡ (len == 0) → len ≡ n → n ≡ 0 → ⊥
some_there len n e is none = let zero_is = eq-eqb len 0 (is ∙ none) in cc
