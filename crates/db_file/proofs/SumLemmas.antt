-- What is left of pages that are copied, or counted, one after the other.
use Rattle.std.proofs.Common.{◌≡◌, ◌<◌, ◌+◌, ◌-◌, ℕ, suc, List, ◌++◌, take, drop, Option, None, Some, IfSome, append-nil, append_assoc, ap, arith, refl, sym, subst, ◌∙◌}
use Rattle.std.proofs.KnownBytes.{Appends-trans}
use Rattle.std.specs.Io.KnownBytes.{Appends, Consumes}
use Rattle.db_file.specs.Orders.{with_checksum, checksummed_pages, bad_checksums_in_page, bad_checksums_in_pages}

-- k of so many pages are copied
pub record IsCopying (size count k : ℕ) (bytes : List ℕ) (left out now : Option (List ℕ)) : Type 0 where
  pub rest : List ℕ
  pub so_far : List ℕ
  pub left_is : left ≡ Some rest
  pub written : Appends out now so_far
  pub whole : so_far ++ checksummed_pages size (count - k) rest ≡ checksummed_pages size count bytes

copies_page : (size count k : ℕ) → k < count → (rest : List ℕ)
    → checksummed_pages size (count - k) rest
    ≡ with_checksum (take size rest) ++ checksummed_pages size (count - (k + 1)) (drop size rest)
unfolding checksummed_pages
copies_page size count k less rest =
    let e : count - k ≡ suc (count - (k + 1)) = omega (arith, less) in
    ap (λ n. checksummed_pages size n rest) e

copies_next : (size count k : ℕ) (bytes : List ℕ) (left left_now out now next : Option (List ℕ)) → k < count
    → IfSome left (λ it. left_now ≡ Some (drop size it))
    → IfSome left (λ it. Appends now next (with_checksum (take size it)))
    → IsCopying size count k bytes left out now → IsCopying size count (k + 1) bytes left_now out next
copies_next size count k bytes left left_now out now next less goes page it = record {
  rest = drop size it.rest;
  so_far = it.so_far ++ with_checksum (take size it.rest);
  left_is = subst (λ l. IfSome l (λ it. left_now ≡ Some (drop size it))) it.left_is goes;
  written = Appends-trans out now next it.so_far (with_checksum (take size it.rest)) it.written
      (subst (λ l. IfSome l (λ it. Appends now next (with_checksum (take size it)))) it.left_is page);
  whole = append_assoc it.so_far (with_checksum (take size it.rest))
      (checksummed_pages size (count - (k + 1)) (drop size it.rest))
      ∙ ap (λ l. it.so_far ++ l) (sym (copies_page size count k less it.rest)) ∙ it.whole;
}

copies_all : (size count : ℕ) (bytes : List ℕ) (left out now : Option (List ℕ))
    → IsCopying size count count bytes left out now → Appends out now (checksummed_pages size count bytes)
unfolding checksummed_pages
copies_all size count bytes left out now it =
    let e : count - count ≡ 0 = omega arith in
    let last : it.so_far ≡ checksummed_pages size count bytes =
    sym (append-nil it.so_far) ∙ ap (λ n. it.so_far ++ checksummed_pages size n it.rest) (sym e) ∙ it.whole in
    subst (Appends out now) last it.written

-- the same of bytes that may be known
pub goes_on : {P Q : List ℕ → Type 0} (known : Option (List ℕ)) → ((bytes : List ℕ) → P bytes → Q bytes)
    → IfSome known P → IfSome known Q
goes_on None step is = tt
goes_on (Some bytes) step is = step bytes is

pub copies_more : (size count k : ℕ) (known left left_now out now next : Option (List ℕ)) → k < count
    → IfSome left (λ it. left_now ≡ Some (drop size it))
    → IfSome left (λ it. Appends now next (with_checksum (take size it)))
    → IfSome known (λ bytes. IsCopying size count k bytes left out now)
    → IfSome known (λ bytes. IsCopying size count (k + 1) bytes left_now out next)
copies_more size count k known left left_now out now next less goes page =
    goes_on known (λ bytes. copies_next size count k bytes left left_now out now next less goes page)

pub copies_to_end : (size count k : ℕ) (known left out now : Option (List ℕ)) → k ≡ count
    → IfSome known (λ bytes. IsCopying size count k bytes left out now)
    → IfSome known (λ bytes. Appends out now (checksummed_pages size count bytes))
copies_to_end size count k known left out now is =
    goes_on known (λ bytes it. copies_all size count bytes left out now
    (subst (λ n. IsCopying size count n bytes left out now) is it))

-- ---- pages that are counted

-- k of so many pages are counted
pub record IsCounting (size count k bad_count : ℕ) (bytes : List ℕ) (left : Option (List ℕ)) : Type 0 where
  pub rest : List ℕ
  pub left_is : left ≡ Some rest
  pub whole : bad_count + bad_checksums_in_pages size (count - k) rest ≡ bad_checksums_in_pages size count bytes

counts_page : (size count k : ℕ) → k < count → (rest : List ℕ)
    → bad_checksums_in_pages size (count - k) rest
    ≡ bad_checksums_in_page (take size rest) + bad_checksums_in_pages size (count - (k + 1)) (drop size rest)
unfolding bad_checksums_in_pages
counts_page size count k less rest =
    let e : count - k ≡ suc (count - (k + 1)) = omega (arith, less) in
    ap (λ n. bad_checksums_in_pages size n rest) e

counts_next : (size count k bad_count one : ℕ) (bytes : List ℕ) (left left_now : Option (List ℕ)) → k < count
    → IfSome left (λ it. left_now ≡ Some (drop size it))
    → IfSome left (λ it. one ≡ bad_checksums_in_page (take size it))
    → IsCounting size count k bad_count bytes left
    → IsCounting size count (k + 1) (bad_count + one) bytes left_now
counts_next size count k bad_count one bytes left left_now less goes page it =
    let more = bad_checksums_in_pages size (count - (k + 1)) (drop size it.rest) in
    let is : one ≡ bad_checksums_in_page (take size it.rest) =
    subst (λ l. IfSome l (λ it. one ≡ bad_checksums_in_page (take size it))) it.left_is page in
    let turn : bad_checksums_in_pages size (count - k) it.rest ≡ one + more =
    counts_page size count k less it.rest ∙ ap (λ n. n + more) (sym is) in
    record {
      rest = drop size it.rest;
      left_is = subst (λ l. IfSome l (λ it. left_now ≡ Some (drop size it))) it.left_is goes;
      whole = omega (arith, turn, it.whole);
    }

counts_all : (size count bad_count : ℕ) (bytes : List ℕ) (left : Option (List ℕ))
    → IsCounting size count count bad_count bytes left → bad_count ≡ bad_checksums_in_pages size count bytes
unfolding bad_checksums_in_pages
counts_all size count bad_count bytes left it =
    let e : count - count ≡ 0 = omega arith in
    let last : bad_count + bad_checksums_in_pages size 0 it.rest ≡ bad_checksums_in_pages size count bytes =
    ap (λ n. bad_count + bad_checksums_in_pages size n it.rest) (sym e) ∙ it.whole in
    omega (arith, last)

pub counts_more : (size count k bad_count one : ℕ) (known left left_now : Option (List ℕ)) → k < count
    → IfSome left (λ it. left_now ≡ Some (drop size it))
    → IfSome left (λ it. one ≡ bad_checksums_in_page (take size it))
    → IfSome known (λ bytes. IsCounting size count k bad_count bytes left)
    → IfSome known (λ bytes. IsCounting size count (k + 1) (bad_count + one) bytes left_now)
counts_more size count k bad_count one known left left_now less goes page =
    goes_on known (λ bytes. counts_next size count k bad_count one bytes left left_now less goes page)

pub counts_to_end : (size count k bad_count : ℕ) (known left : Option (List ℕ)) → k ≡ count
    → IfSome known (λ bytes. IsCounting size count k bad_count bytes left)
    → IfSome known (λ bytes. bad_count ≡ bad_checksums_in_pages size count bytes)
counts_to_end size count k bad_count known left is =
    goes_on known (λ bytes it. counts_all size count bad_count bytes left
    (subst (λ n. IsCounting size count n bad_count bytes left) is it))

-- ---- bytes that are copied

-- the first bytes are copied, and the rest is left
pub record IsPassing (bytes : List ℕ) (left out now : Option (List ℕ)) : Type 0 where
  pub so_far : List ℕ
  pub rest : List ℕ
  pub left_is : left ≡ Some rest
  pub written : Appends out now so_far
  pub whole : so_far ++ rest ≡ bytes

passes_next : (bytes more : List ℕ) (left left_now out now next : Option (List ℕ))
    → Consumes left left_now more → Appends now next more → IsPassing bytes left out now
    → IsPassing bytes left_now out next
passes_next bytes more left left_now out now next taken given it =
    by_rest left_now (subst (λ l. Consumes l left_now more) it.left_is taken)
  where
    by_rest : (l : Option (List ℕ)) → Consumes (Some it.rest) l more → IsPassing bytes l out next
    by_rest None is = absurd is
    by_rest (Some rest) is = record {
      so_far = it.so_far ++ more;
      rest = rest;
      left_is = refl;
      written = Appends-trans out now next it.so_far more it.written given;
      whole = append_assoc it.so_far more rest ∙ ap (λ l. it.so_far ++ l) (sym is) ∙ it.whole;
    }

pub passes_more : (known : Option (List ℕ)) (more : List ℕ) (left left_now out now next : Option (List ℕ))
    → Consumes left left_now more → Appends now next more
    → IfSome known (λ bytes. IsPassing bytes left out now)
    → IfSome known (λ bytes. IsPassing bytes left_now out next)
passes_more known more left left_now out now next taken given =
    goes_on known (λ bytes. passes_next bytes more left left_now out now next taken given)
