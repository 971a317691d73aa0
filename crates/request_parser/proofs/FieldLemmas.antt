-- One more header in a search by name, and one more digit in a number.
use Rattle.std.proofs.Common.{◌≡◌, ◌≢◌, ℕ, ◌+◌, ◌*◌, ◌^◌, ◌<◌, ◌≤◌, Bool, true, false, List, [], ◌∷◌, ◌++◌, length, take, get_or, map, arith, refl, sym, ap, ◌∙◌, add-one, append-nil}
use Rattle.std.specs.List.{filter}
use Rattle.std.specs.Bool.{Decides}
use Rattle.std.specs.Char.{to_ascii_lowercase}
use Rattle.std.proofs.lemmas.Bool.Decides.{same_from_decides}
use Rattle.std.proofs.lemmas.Slice.Eq.{bytes_eq-Decides}
use Rattle.std.specs.Str.{str_eq_ignore_ascii_case}
use Rattle.std.proofs.Math.Nat.{pow-le-pow_right, pow-suc}
use Rattle.std.proofs.lemmas.List.{map_more, map-append}
use Rattle.std.proofs.lemmas.List.Elements.{filter-append}
use Rattle.httparse.specs.declared.spans.HeaderSpan.{HeaderSpan}
use Rattle.httparse.specs.Spans.{header_bytes}
use Rattle.request_parser.specs.declared.fields.Occurrence.{Occurrence}
use Rattle.request_parser.specs.declared.fields.Occurrence.TheVariants.{Absent, Value, More}
use Rattle.request_parser.specs.Heads.{count_shown, Count, absent, once, more, once_of, values_of}

-- ---- values

-- the count with one value more
abbrev pub one_more : Count → List ℕ → Count
one_more absent value = once value
one_more (once other) value = more
one_more more value = more

once_of-push : (values : List (List ℕ)) (value : List ℕ) → once_of (values ++ value ∷ [])
    ≡ one_more (once_of values) value
once_of-push [] value = refl
once_of-push (first ∷ []) value = refl
once_of-push (first ∷ second ∷ rest) value = refl

-- where there is one already
one_more-present : (found : Occurrence) (value : List ℕ) → found ≢ Absent → one_more (count_shown found) value
    ≡ more
one_more-present Absent value present = absurd (present refl)
one_more-present (Value other) value present = refl
one_more-present More value present = refl

-- the values among the headers up to i
abbrev pub values_at : List ℕ → List ℕ → List HeaderSpan → List (List ℕ)
values_at name text headers = values_of name (map (header_bytes text) headers)

values_at-more : (name text : List ℕ) (headers : List HeaderSpan) (i : ℕ) (d : HeaderSpan)
    → i < length headers
    → values_at name text (take (i + 1) headers)
    ≡ values_at name text (take i headers)
    ++ map (λ (f : List ℕ × List ℕ). f.1) (filter
    (λ (f : List ℕ × List ℕ). str_eq_ignore_ascii_case f.0 name)
    (header_bytes text (get_or headers i d) ∷ []))
values_at-more name text headers i d below =
    rw (map_more (header_bytes text) headers i d below, filter-append, map-append)

-- the header at i has the name
pub once_of-found : (name text : List ℕ) (headers : List HeaderSpan) (i : ℕ) (d : HeaderSpan)
    → i < length headers
    → str_eq_ignore_ascii_case (header_bytes text (get_or headers i d)).0 name ≡ true
    → once_of (values_at name text (take (i + 1) headers))
    ≡ one_more (once_of (values_at name text (take i headers)))
    (header_bytes text (get_or headers i d)).1
once_of-found name text headers i d below same =
    let step = values_at-more name text headers i d below in
    ap once_of (rw same at step) ∙ once_of-push (values_at name text (take i headers)) _

-- the header at i has another name
pub once_of-passed : (name text : List ℕ) (headers : List HeaderSpan) (i : ℕ) (d : HeaderSpan)
    → i < length headers
    → str_eq_ignore_ascii_case (header_bytes text (get_or headers i d)).0 name ≡ false
    → once_of (values_at name text (take (i + 1) headers))
    ≡ once_of (values_at name text (take i headers))
once_of-passed name text headers i d below other =
    let step = values_at-more name text headers i d below in
    ap once_of (rw (other, append-nil) at step)

-- what `eq_ignore_ascii_case` answers
pub same_name-from : (a b : List ℕ) (r : Bool)
    → Decides r (map to_ascii_lowercase a ≡ map to_ascii_lowercase b) → r ≡ str_eq_ignore_ascii_case a b
same_name-from a b r decides = same_from_decides r _ decides
    (bytes_eq-Decides (map to_ascii_lowercase a) (map to_ascii_lowercase b))

-- a header with the name, where none was found before it and where one was
pub first_found : (found next : Occurrence) (name text : List ℕ) (headers : List HeaderSpan) (i : ℕ)
    (d : HeaderSpan) → i < length headers
    → count_shown found ≡ once_of (values_at name text (take i headers)) → found ≡ Absent
    → str_eq_ignore_ascii_case (header_bytes text (get_or headers i d)).0 name ≡ true
    → count_shown next ≡ once (header_bytes text (get_or headers i d)).1
    → count_shown next ≡ once_of (values_at name text (take (i + 1) headers))
first_found found next name text headers i d below sofar was same is =
    is
    ∙ ap (λ (n : Count). one_more n (header_bytes text (get_or headers i d)).1)
    (sym (ap count_shown was) ∙ sofar)
    ∙ sym (once_of-found name text headers i d below same)

pub further_found : (found : Occurrence) (name text : List ℕ) (headers : List HeaderSpan) (i : ℕ)
    (d : HeaderSpan)
    → i < length headers
    → count_shown found ≡ once_of (values_at name text (take i headers)) → found ≢ Absent
    → str_eq_ignore_ascii_case (header_bytes text (get_or headers i d)).0 name ≡ true
    → more ≡ once_of (values_at name text (take (i + 1) headers))
further_found found name text headers i d below sofar present same =
    sym (one_more-present found (header_bytes text (get_or headers i d)).1 present)
    ∙ ap (λ (n : Count). one_more n (header_bytes text (get_or headers i d)).1) sofar
    ∙ sym (once_of-found name text headers i d below same)

-- ---- numbers

-- one digit more in a number of less than 19
pub digits_fit : (total i : ℕ) → total < 10 ^ i → i < 19 → total * 10 + 9 < 2 ^ 64
digits_fit total i small short =
    let power : 10 ^ i ≤ 10 ^ 18 = pow-le-pow_right {n = 10} (omega arith) {i = i} {j = 18}
    (omega arith) in
    omega arith

pub digits_more : (total digit i : ℕ) → total < 10 ^ i → digit < 10 → total * 10 + digit < 10 ^ (i + 1)
digits_more total digit i small one = rw (add-one, pow-suc) (omega arith)
