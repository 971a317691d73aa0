-- The front of a request, and what follows it.
use Rattle.std.proofs.Common.{if◌then◌else◌, option_and_then, ◌≡◌, ℕ, zero, suc, ◌+◌, ◌<◌, ◌≤◌, ◌⊎◌, min, Bool, true, false, not, ◌==◌, List, [], ◌∷◌, ◌++◌, Option, Some, None, IfSome, Ok, Err, length, take, refl, sym, ap, subst, ◌∙◌, inl, inr, arith, add-one, length-append, append-nil, nat_lt}
use Rattle.std.proofs.lemmas.Bool.{cases_Bool, cases_eq}
use Rattle.std.proofs.lemmas.Bool.Decides.{nat_tests}
use Rattle.std.proofs.lemmas.List.{take-append-le}
use Rattle.std.proofs.Math.Seq.{take-append_seam, drop-append_seam}
use Rattle.std.proofs.KnownBytes.{Consumes-trans}
use Rattle.std.specs.Option.{option_or}
use Rattle.std.specs.Io.KnownBytes.{Consumes, IsAtEnd}
use Rattle.request_parser.specs.Heads.{ends_head, head_len, least}
use Rattle.request_parser.specs.Messages.{FrontParts, front_in, message_in, Reading, guard, or_met}
use Rattle.request_parser.specs.WireLimits.{head_room}
use Rattle.request_parser.specs.declared.wire_fault.WireFault.TheVariants.{BadHead}
use Rattle.desk_wire.specs.Streams.{IsCut, IsFront, IsRequest, front_parsed, front_within, request_len, size_or_zero, whole_len, with_body}

-- ---- the least number that passes

least_same : (test other : ℕ → Bool) (n : ℕ) → ((k : ℕ) → k < n → test k ≡ other k) → least test n
    ≡ least other n
least_same test other zero same = refl
least_same test other (suc n) same =
    rw (least_same test other n (λ k below. same k (omega (arith, below))), same n (omega arith)) refl

least_more : (test : ℕ → Bool) (n : ℕ) → least test n ≡ None → test n ≡ false → least test (n + 1)
    ≡ None
least_more test n none fails = rw (add-one, none, fails)

least_found : (test : ℕ → Bool) (n bound : ℕ) → least test n ≡ None → test n ≡ true → n < bound
    → least test bound ≡ Some n
least_found test n zero none passes below = absurd (omega arith)
least_found test n (suc bound) none passes below =
    elim (cases_eq n bound) [
      | inl same ↦ rw (sym same, none, passes)
      | inr other ↦ rw (least_found test n bound none passes (omega arith))
    ]

-- ---- fronts

-- no shorter prefix ends a head
abbrev pub HasNone : List ℕ → Type 0
HasNone text = least (λ n. ends_head (take n text)) (length text) ≡ None

none_before : (text rest : List ℕ) → HasNone text → least (λ n. ends_head (take n (text ++ rest)))
    (length text) ≡ None
none_before text rest none =
    least_same (λ n. ends_head (take n (text ++ rest))) (λ n. ends_head (take n text)) (length text)
    (λ k below. ap ends_head (take-append-le k text rest (omega (arith, below)))) ∙ none

-- one byte more, if these end no head
pub one_more : (text : List ℕ) (b : ℕ) → HasNone text → ends_head text ≡ false
    → HasNone (text ++ b ∷ [])
one_more text b none fails =
    rw (length-append text (b ∷ []))
    (least_more (λ n. ends_head (take n (text ++ b ∷ []))) (length text)
    (none_before text (b ∷ []) none)
    (ap ends_head (take-append_seam text (b ∷ [])) ∙ fails))

head_found : (text rest : List ℕ) → HasNone text → length text ≤ head_room → ends_head text ≡ true
    → head_len head_room (text ++ rest) ≡ Some (length text)
unfolding head_len
head_found text rest none within ends =
    least_found (λ n. ends_head (take n (text ++ rest))) (length text)
    (min (length (text ++ rest)) head_room + 1) (none_before text rest none)
    (ap ends_head (take-append_seam text rest) ∙ ends)
    (omega (arith, length-append text rest, within))

head_missed : (text rest : List ℕ) → HasNone text → ends_head text ≡ false
    → min (length (text ++ rest)) head_room ≡ length text → head_len head_room (text ++ rest) ≡ None
unfolding head_len
head_missed text rest none fails all =
    rw all (least_more (λ n. ends_head (take n (text ++ rest))) (length text)
    (none_before text rest none)
    (ap ends_head (take-append_seam text rest) ∙ fails))

-- what a front is
abbrev Fronted : List ℕ → Type 0
Fronted text = (ends_head text ≡ true) ⊎ ((ends_head text ≡ false) × (length text ≡ head_room))

fronted : (text : List ℕ) → IsFront text → Fronted text
fronted text h =
    elim (cases_Bool (ends_head text)) [
      | inl ends ↦ inl ends
      | inr fails ↦ elim h.whole [
        | inl ends ↦ absurd (differ (sym fails ∙ ends))
        | inr full ↦ inr
            (fails, full)
      ]
    ]
  where
    differ : false ≡ true → ⊥
    differ e = cc

not_below : (n room : ℕ) → room ≤ n → nat_lt n room ≡ false
not_below n room h = grind (arith, nat_tests)

is_below : (n room : ℕ) → n < room → nat_lt n room ≡ true
is_below n room h = grind (arith, nat_tests)

front_within_is : (text rest : List ℕ) → IsFront text → front_within head_room (text ++ rest)
    ≡ Some (length text)
unfolding front_within
front_within_is text rest h =
    elim (fronted text h) [
      | inl ends ↦ rw (head_found text rest h.none h.within ends) refl
      | inr full ↦ rw (
        head_missed text rest h.none full.0 (omega (arith, length-append text rest, full.1)),
        not_below (length (text ++ rest)) head_room (omega (arith, length-append text rest, full.1)),
      )
          (ap Some (sym full.1))
    ]

-- the length of a request by its front
request_by : (text rest : List ℕ) → IsFront text → request_len (text ++ rest)
    ≡ whole_len (length (text ++ rest)) (length text) (size_or_zero (front_parsed text))
unfolding request_len
request_by text rest h = rw (front_within_is text rest h, take-append_seam text rest) refl

whole_fits : (there front size : ℕ) → there ≡ front + size → whole_len there front size ≡ Some there
whole_fits there front size is = rw (not_below there (front + size) (omega (arith, is)))
    (ap Some (sym is))

whole_cut : (there front size : ℕ) → there < front + size → whole_len there front size ≡ None
whole_cut there front size short = rw (is_below there (front + size) short) refl

-- a front with its whole body is a request
pub is_request : (text body : List ℕ) → IsFront text → length body ≡ size_or_zero (front_parsed text)
    → IsRequest (text ++ body)
is_request text body h size =
    request_by text body h ∙ whole_fits (length (text ++ body)) (length text)
    (size_or_zero (front_parsed text))
    (length-append text body ∙ ap (λ n. length text + n) size)

-- a front with a shorter body is cut
pub is_cut_body : (text rest : List ℕ) → 0 < length text → IsFront text
    → length rest < size_or_zero (front_parsed text) → IsCut (text ++ rest)
is_cut_body text rest some h short = record {
  some = omega (arith, some, length-append text rest);
  cut = request_by text rest h ∙ whole_cut (length (text ++ rest)) (length text)
      (size_or_zero (front_parsed text))
      (omega (arith, short, length-append text rest));
}

-- less than a front is cut
pub is_cut_head : (text : List ℕ) → 0 < length text → HasNone text → ends_head text ≡ false
    → length text < head_room → IsCut text
unfolding request_len front_within
is_cut_head text some none fails short =
    let missed = head_missed text [] none fails (omega (arith, length-append text [], short)) in
    record {
      some = some;
      cut = rw (rw (append-nil text) at missed, is_below (length text) head_room short)
          refl;
    }

-- ---- messages

message_made : (r : Reading FrontParts) (body : List ℕ) → length body ≡ size_or_zero r
    → or_met r (λ front. guard (not (length body == front.size)) BadHead
    (Ok (record { head = front.head; body = body }))) ≡ with_body r body
message_made (Ok front) body size = rw (eq_test (length body) front.size size) refl
  where
    eq_test : (n m : ℕ) → n ≡ m → (n == m) ≡ true
    eq_test n m e = grind (arith, nat_tests)
message_made (Err fault) body size = refl

message_by_head : (text body : List ℕ) → IsFront text → ends_head text ≡ true → length body
    ≡ size_or_zero (front_parsed text) → message_in (text ++ body) ≡ with_body (front_parsed text) body
unfolding message_in front_parsed
message_by_head text body h ends size =
    rw (
      head_found text body h.none h.within ends,
      take-append_seam text body,
      drop-append_seam text body,
      ends,
    ) (message_made (front_in text) body (rw ends at size))

message_by_room : (text body : List ℕ) → IsFront text → ends_head text ≡ false → length text ≡ head_room
    → message_in (text ++ body) ≡ with_body (front_parsed text) body
unfolding message_in front_parsed
message_by_room text body h fails full =
    rw (
      head_missed text body h.none fails (omega (arith, length-append text body, full)),
      not_below
          (length (text ++ body)) head_room (omega (arith, length-append text body, full)),
      fails,
    ) refl

-- the message of a front with its whole body
pub message_is : (text body : List ℕ) → IsFront text → length body ≡ size_or_zero (front_parsed text)
    → message_in (text ++ body) ≡ with_body (front_parsed text) body
message_is text body h size =
    elim (fronted text h) [
      | inl ends ↦ message_by_head text body h ends size
      | inr full ↦ message_by_room text body h full.0 full.1
    ]

-- ---- the bytes that a reader reported

-- the reader's bytes are those taken, if it is at its end
reported_all : (old new : Option (List ℕ)) (taken : List ℕ) (P : List ℕ → Type 0) → Consumes old new taken
    → IsAtEnd new → P taken → IfSome old P
reported_all None new taken P c e p = tt
reported_all (Some xs) None taken P c e p = absurd c
reported_all (Some xs) (Some ys) taken P c e p = subst P
    (sym (c ∙ ap (λ zs. taken ++ zs) e ∙ append-nil taken)) p

-- at the end of the reader's bytes inside a head
pub reported_cut : (old now new : Option (List ℕ)) (text : List ℕ) → Consumes old now text
    → Consumes now new []
    → IsAtEnd new → 0 < length text → HasNone text → ends_head text ≡ false → length text < head_room
    → IfSome old IsCut
reported_cut old now new text first next end some none fails short =
    let all = subst (Consumes old new) (append-nil text) (Consumes-trans old now new text [] first next)
    in
    reported_all old new text IsCut all end (is_cut_head text some none fails short)

-- the stream of a front and a short body
pub reported_cut_body : (old now : Option (List ℕ)) (text : List ℕ) → Consumes old now text
    → 0 < length text
    → IsFront text → IfSome now (λ rest. length rest < size_or_zero (front_parsed text)) → IfSome old IsCut
reported_cut_body None now text c some h short = tt
reported_cut_body (Some xs) None text c some h short = absurd c
reported_cut_body (Some xs) (Some rest) text c some h short =
    subst IsCut (sym c) (is_cut_body text rest some h short)

pub some_count : (n m : ℕ) → false ≡ (n == 0) → m ≡ n → 0 < m
some_count zero m e is = cc
some_count (suc n) m e is = omega (arith, is)

-- ---- what follows a request

-- what a least number is
record IsLeast (test : ℕ → Bool) (bound n : ℕ) : Type 0 where
  pub none : least test n ≡ None
  pub passes : test n ≡ true
  pub below : n < bound

least_is : (test : ℕ → Bool) (bound n : ℕ) → least test bound ≡ Some n → IsLeast test bound n
least_is test zero n is = cc
least_is test (suc bound) n is = by (least_is test bound n) (least test bound) (test bound) refl refl is
  where
    by : (least test bound ≡ Some n → IsLeast test bound n) → (o : Option ℕ) (b : Bool)
        → least test bound ≡ o
        → test bound ≡ b → option_or o (if b then Some bound else None) ≡ Some n
        → IsLeast test (suc bound) n
    by again (Some m) b first last found =
        let same : m ≡ n = cc in
        let h = again (first ∙ ap Some same) in
        record { none = h.none; passes = h.passes; below = omega (arith, h.below) }
    by again None true first last found =
        let same : bound ≡ n = cc in
        record {
          none = subst (λ k. least test k ≡ None) same first;
          passes = subst (λ k. test k ≡ true) same last;
          below = omega (arith, same);
        }
    by again None false first last found = cc

head_more : (room : ℕ) (text rest : List ℕ) (n : ℕ) → head_len room text ≡ Some n
    → (head_len room (text ++ rest) ≡ Some n) × (n ≤ length text)
unfolding head_len
head_more room text rest n is =
    let h = least_is (λ k. ends_head (take k text)) (min (length text) room + 1) n is in
    let within : n ≤ length text = omega (arith, h.below) in
    let none = least_same (λ k. ends_head (take k (text ++ rest))) (λ k. ends_head (take k text)) n
    (λ k below. ap ends_head (take-append-le k text rest (omega (arith, below, within)))) ∙ h.none in (
      least_found (λ k. ends_head (take k (text ++ rest))) n (min (length (text ++ rest)) room + 1) none
          (ap ends_head (take-append-le n text rest within) ∙ h.passes)
          (omega (arith, h.below, length-append text rest)),
      within,
    )

head_missed_more : (room : ℕ) (text rest : List ℕ) → room ≤ length text → head_len room text ≡ None
    → head_len room (text ++ rest) ≡ None
unfolding head_len
head_missed_more room text rest full missed =
    let here : min (length text) room ≡ room = omega (arith, full) in
    let there : min (length (text ++ rest)) room ≡ room =
    omega (arith, full, length-append text rest) in
    rw there (least_same (λ k. ends_head (take k (text ++ rest))) (λ k. ends_head (take k text))
    (room + 1)
    (λ k below. ap ends_head (take-append-le k text rest (omega (arith, below, full))))
    ∙ rw here at missed)

front_more_by : (room : ℕ) (text rest : List ℕ) (n : ℕ) (o : Option ℕ) (b : Bool) → head_len room text
    ≡ o
    → nat_lt (length text) room ≡ b → option_or o (if b then None else Some room) ≡ Some n
    → (front_within room (text ++ rest) ≡ Some n) × (n ≤ length text)
unfolding front_within
front_more_by room text rest n (Some m) b found test is =
    let h = head_more room text rest m found in
    let same : m ≡ n = cc in
    (rw h.0 (ap Some same), omega (arith, same, h.1))
front_more_by room text rest n None true found test is = cc
front_more_by room text rest n None false found test is =
    let same : room ≡ n = cc in
    let full : room ≤ length text = grind (arith, nat_tests, test) in (
      rw (
        head_missed_more room text rest full found,
        not_below (length (text ++ rest)) room
            (omega (arith, full, length-append text rest)),
      ) (ap Some same),
      omega (arith, same, full),
    )

front_more : (room : ℕ) (text rest : List ℕ) (n : ℕ) → front_within room text ≡ Some n
    → (front_within room (text ++ rest) ≡ Some n) × (n ≤ length text)
unfolding front_within
front_more room text rest n is = front_more_by room text rest n (head_len room text)
    (nat_lt (length text) room) refl refl is

whole_is : (there front size n : ℕ) → whole_len there front size ≡ Some n → front + size ≡ n
whole_is there front size n is = by (nat_lt there (front + size)) is
  where
    by : (b : Bool) → (if b then None else Some (front + size)) ≡ Some n → front + size ≡ n
    by true e = cc
    by false e = cc

request_more_by : (request rest : List ℕ) (o : Option ℕ) → front_within head_room request ≡ o
    → option_and_then (λ front. whole_len (length request) front
    (size_or_zero (front_parsed (take front request)))) o ≡ Some (length request)
    → request_len (request ++ rest) ≡ Some (length request)
unfolding request_len
request_more_by request rest None found is = cc
request_more_by request rest (Some front) found is =
    let more = front_more head_room request rest front found in
    let whole = whole_is (length request) front (size_or_zero (front_parsed (take front request)))
    (length request)
    is in
    rw (more.0, take-append-le front request rest more.1)
    (rw (not_below (length (request ++ rest)) (front + size_or_zero (front_parsed (take front request)))
    (omega (arith, whole, length-append request rest))) (ap Some whole))

pub request_more : (request rest : List ℕ) → IsRequest request → request_len (request ++ rest)
    ≡ Some (length request)
unfolding request_len
request_more request rest h = request_more_by request rest (front_within head_room request) refl h
