-- The law of `head_in`: cutting a printed head into lines, and the lines at spaces and colons, gives
-- the head back, and the tests decide the classes of its parts.
use Rattle.std.proofs.Common.{Option, Some, None, Result, Ok, Err, ◌≢◌, drop, length-take, ◌≡◌, ℕ, ◌<◌, Bool, true, false, List, [], ◌∷◌, ◌++◌, length, ◌==◌, refl, sym, ap, ◌∙◌, subst, arith, append_assoc, append-nil, length-append, zero, suc, ◌≤◌, ◌&&◌, nat_lt, nat_le, inl, inr, if◌then◌else◌, bytes_eq, codes}
use Rattle.std.proofs.lemmas.List.{drop_all, length-map}
use Rattle.httparse.specs.Outcome.{IsCompleteAnd}
use Rattle.std.specs.List.{All, position_or_len, flat_map, list_all}
use Rattle.std.proofs.Math.Seq.{take-append_seam, drop-append-add}
use Rattle.std.proofs.lemmas.List.Sums.{AllPass-from_list_all, list_all-from_AllPass}
use Rattle.std.proofs.lemmas.List.Elements.{All-head, All-tail, All-append, All-cons, All-weaker}
use Rattle.std.proofs.lemmas.Bool.{false≢true, ne_eqb, eq-eqb, cond-true, cond-false, and_from, and_parts, lt-ltb, ltb-true, le-leb, leb-true, cases_Bool}
use Rattle.std.proofs.lemmas.Slice.Eq.{bytes_eq-Decides}
use Rattle.std.proofs.lemmas.Str.{IsUtf8-from_is_utf8, is_utf8-from_IsUtf8}
use Rattle.std.specs.Str.{is_utf8}
use Rattle.httparse.specs.Grammar.{is_token, LineEnd, crlf, lf, print_end, print_blank, print_version, is_token_byte, is_uri_byte, is_value_byte, AllPass, Field, print_field, IsField, RequestHead, print_request, IsRequestHead, ReadsRequest}
use Rattle.httparse.proofs.GrammarLemmas.{print_request-append, cons-append}
use Rattle.httparse.proofs.PieceLemmas.{space_ends_token, colon_ends_token}
use Rattle.std.specs.Option.{option_and_then, option_map}
use Rattle.httparse.specs.declared.Error.{Error}
use Rattle.httparse.specs.declared.Status.{Status}
use Rattle.httparse.specs.declared.Status.TheVariants.{Complete, Partial}
use Rattle.httparse.specs.declared.spans.HeaderSpan.{HeaderSpan}
use Rattle.httparse.specs.declared.spans.RequestSpans.{RequestSpans}
use Rattle.httparse.specs.Spans.{IsRequestOf, IsRequestAt, FindsRequest}
use Rattle.request_parser.specs.Heads.{head_within, head_parts, parts_at, Line, line, with_front, lines, before, after, field_of, fields_of, last_of, head_at, head_of, is_field, is_request_head, checked_head, head_in}

-- ---- classes of bytes

-- a byte that passes isn't one that fails
class_is_not : (test : ℕ → Bool) (c : ℕ) → test c ≡ false → (b : ℕ) → test b ≡ true → (b == c) ≡ false
class_is_not test c fails b passes = ne_eqb b c (λ e. false≢true (sym fails ∙ ap test (sym e) ∙ passes))

-- no byte of the text is c
abbrev pub HasNone : ℕ → List ℕ → Type 0
HasNone c text = All (λ b. (b == c) ≡ false) text

HasNone_from_class : (test : ℕ → Bool) (c : ℕ) → test c ≡ false → (text : List ℕ) → AllPass test text
    → HasNone c text
HasNone_from_class test c fails text pass =
    All-weaker (λ b. test b ≡ true) (λ b. (b == c) ≡ false) (class_is_not test c fails) text pass

-- a text without line ends in it
pub record IsLineText (text : List ℕ) : Type 0 where
  pub no_cr : HasNone 13 text
  pub no_lf : HasNone 10 text

IsLineText_from_class : (test : ℕ → Bool) → test 13 ≡ false → test 10 ≡ false → (text : List ℕ)
    → AllPass test text → IsLineText text
IsLineText_from_class test cr nl text pass = record {
  no_cr = HasNone_from_class test 13 cr text pass;
  no_lf = HasNone_from_class test 10 nl text pass;
}

IsLineText-append : (x y : List ℕ) → IsLineText x → IsLineText y → IsLineText (x ++ y)
IsLineText-append x y p q = record {
  no_cr = All-append (λ b. (b == 13) ≡ false) x y p.no_cr q.no_cr;
  no_lf = All-append (λ b. (b == 10) ≡ false) x y p.no_lf q.no_lf;
}

IsLineText-cons : (b : ℕ) (x : List ℕ) → (b == 13) ≡ false → (b == 10) ≡ false → IsLineText x
    → IsLineText (b ∷ x)
IsLineText-cons b x cr nl p = record {
  no_cr = All-cons (λ b. (b == 13) ≡ false) b x cr p.no_cr;
  no_lf = All-cons (λ b. (b == 10) ≡ false) b x nl p.no_lf;
}

token_cr : is_token_byte 13 ≡ false
unfolding is_token_byte
token_cr = refl

token_lf : is_token_byte 10 ≡ false
unfolding is_token_byte
token_lf = refl

-- ---- lines

with_front-line : (b : ℕ) (x : List ℕ) (end : LineEnd) (rest : List Line) → (b == 13) ≡ false
    → with_front b (line x end ∷ rest) ≡ line (b ∷ x) end ∷ rest
with_front-line b [] crlf rest e = refl
with_front-line b [] lf rest e = rw e
with_front-line b (c ∷ x) end rest e = refl

lines-line : (x : List ℕ) (end : LineEnd) (rest : List ℕ) → IsLineText x
    → lines (x ++ (print_end end ++ rest)) ≡ line x end ∷ lines rest
lines-line [] crlf rest p = refl
lines-line [] lf rest p = refl
lines-line (b ∷ x) end rest p =
    let no_cr : (b == 13) ≡ false = All-head (λ b. (b == 13) ≡ false) b x p.no_cr in
    let no_lf : (b == 10) ≡ false = All-head (λ b. (b == 10) ≡ false) b x p.no_lf in
    let tail : IsLineText x = record {
      no_cr = All-tail (λ b. (b == 13) ≡ false) b x p.no_cr;
      no_lf = All-tail (λ b. (b == 10) ≡ false) b x p.no_lf;
    } in
    rw (no_lf, lines-line x end rest tail) (with_front-line b x end (lines rest) no_cr)

-- ---- the parts of a line

position_at : (stop : ℕ) (x y : List ℕ) → HasNone stop x
    → position_or_len (λ b. b == stop) (x ++ stop ∷ y)
    ≡ length x
position_at stop [] y none = let same : (stop == stop) ≡ true = eq-eqb stop stop refl in rw same
position_at stop (b ∷ x) y none =
    let other : (b == stop) ≡ false = All-head (λ b. (b == stop) ≡ false) b x none in
    let more = position_at stop x y (All-tail (λ b. (b == stop) ≡ false) b x none) in
    rw (other, more) (omega arith)

before_at : (stop : ℕ) (x y : List ℕ) → HasNone stop x → before stop (x ++ stop ∷ y) ≡ x
before_at stop x y none = rw (position_at stop x y none) (take-append_seam x (stop ∷ y))

after_at : (stop : ℕ) (x y : List ℕ) → HasNone stop x → after stop (x ++ stop ∷ y) ≡ y
after_at stop x y none = rw (position_at stop x y none) (drop-append-add x (stop ∷ y) 1)

-- ---- the section

fields_of-line : (text : List ℕ) (end : LineEnd) (rest : List Line) → 0 < length text
    → fields_of (line text end ∷ rest) ≡ field_of text end ∷ fields_of rest
fields_of-line [] end rest some = absurd (omega arith)
fields_of-line (b ∷ text) end rest some = refl

last_of-line : (text : List ℕ) (end : LineEnd) (rest : List Line) → 0 < length text
    → last_of (line text end ∷ rest) ≡ last_of rest
last_of-line [] end rest some = absurd (omega arith)
last_of-line (b ∷ text) end rest some = refl

-- the text of a field line
abbrev pub field_text : Field → List ℕ
field_text f = f.name ++ 58 ∷ f.raw

field_of-text : (f : Field) → IsField f → field_of (field_text f) f.end ≡ f
field_of-text f ok =
    let none = HasNone_from_class is_token_byte 58 colon_ends_token f.name ok.name.1 in
    λ i. record {
      name = before_at 58 f.name f.raw none i;
      raw = after_at 58 f.name f.raw none i;
      end = f.end;
    }

field_text_is_line : (f : Field) → IsField f → IsLineText (field_text f)
field_text_is_line f ok =
    IsLineText-append f.name (58 ∷ f.raw)
    (IsLineText_from_class is_token_byte token_cr token_lf f.name ok.name.1)
    (IsLineText-cons 58 f.raw refl refl (IsLineText_from_class is_value_byte refl refl f.raw ok.raw))

field_text_some : (f : Field) → IsField f → 0 < length (field_text f)
field_text_some f ok = let some = ok.name.0 in simp length-append (omega arith)

lines-field : (f : Field) (more rest : List ℕ) → IsField f
    → lines ((print_field f ++ more) ++ rest) ≡ line (field_text f) f.end ∷ lines (more ++ rest)
lines-field f more rest ok =
    ap lines (regroup (field_text f) (print_end f.end) more rest)
    ∙ lines-line (field_text f) f.end (more ++ rest) (field_text_is_line f ok)
  where
    regroup : (a b c d : List ℕ) → ((a ++ b) ++ c) ++ d ≡ a ++ (b ++ (c ++ d))
    regroup a b c d = simp append_assoc

fields_of-section : (fields : List Field) (last : LineEnd) (rest : List ℕ) → All IsField fields
    → fields_of (lines (flat_map print_field fields ++ (print_end last ++ rest))) ≡ fields
fields_of-section [] crlf rest ok = refl
fields_of-section [] lf rest ok = refl
fields_of-section (f ∷ fields) last rest ok =
    let first = All-head IsField f fields ok in
    let more = fields_of-section fields last rest (All-tail IsField f fields ok) in
    ap fields_of (lines-field f (flat_map print_field fields) (print_end last ++ rest) first)
    ∙ fields_of-line (field_text f) f.end _ (field_text_some f first)
    ∙ (λ i. field_of-text f first i ∷ more i)

last_of-section : (fields : List Field) (last : LineEnd) (rest : List ℕ) → All IsField fields
    → last_of (lines (flat_map print_field fields ++ (print_end last ++ rest))) ≡ last
last_of-section [] crlf rest ok = refl
last_of-section [] lf rest ok = refl
last_of-section (f ∷ fields) last rest ok =
    let first = All-head IsField f fields ok in
    ap last_of (lines-field f (flat_map print_field fields) (print_end last ++ rest) first)
    ∙ last_of-line (field_text f) f.end _ (field_text_some f first)
    ∙ last_of-section fields last rest (All-tail IsField f fields ok)

-- ---- the head

head_of-line : (text : List ℕ) (end : LineEnd) (rest : List Line) → 0 < length text
    → head_of (line text end ∷ rest) ≡ head_at text end rest
head_of-line [] end rest some = absurd (omega arith)
head_of-line (b ∷ text) end rest some = refl

-- the text of a request line
abbrev pub request_text : RequestHead → List ℕ
request_text h = h.method ++ 32 ∷ (h.target ++ 32 ∷ print_version h.minor)

version_is_line : (minor : ℕ) → minor ≤ 1 → IsLineText (print_version minor)
version_is_line zero ok = IsLineText_from_class is_uri_byte refl refl _
    (AllPass-from_list_all is_uri_byte (print_version 0) refl)
version_is_line (suc zero) ok = IsLineText_from_class is_uri_byte refl refl _
    (AllPass-from_list_all is_uri_byte (print_version 1) refl)
version_is_line (suc (suc n)) ok = absurd (omega arith)

request_text_is_line : (h : RequestHead) → IsRequestHead h → IsLineText (request_text h)
request_text_is_line h ok =
    IsLineText-append h.method _
    (IsLineText_from_class is_token_byte token_cr token_lf h.method ok.method.1)
    (IsLineText-cons 32 _ refl refl
    (IsLineText-append h.target _
    (IsLineText_from_class is_uri_byte refl refl h.target ok.target.1)
    (IsLineText-cons 32 _ refl refl (version_is_line h.minor ok.minor))))

minor_of : (minor : ℕ) → minor ≤ 1
    → (if bytes_eq (print_version minor) (codes "HTTP/1.1") then 1 else 0) ≡ minor
minor_of zero ok = refl
minor_of (suc zero) ok = refl
minor_of (suc (suc n)) ok = absurd (omega arith)

request_text_some : (h : RequestHead) → IsRequestHead h → 0 < length (request_text h)
request_text_some h ok = let some = ok.method.0 in simp length-append (omega arith)

-- the head past its empty lines
abbrev pub without_blank : RequestHead → RequestHead
without_blank h = record h { blank = [] }

head_at-text : (h : RequestHead) → IsRequestHead h → (rest : List Line)
    → fields_of rest ≡ h.fields → last_of rest ≡ h.last
    → head_at (request_text h) h.line_end rest ≡ without_blank h
head_at-text h ok rest same_fields same_last =
    let no_space = HasNone_from_class is_token_byte 32 space_ends_token h.method ok.method.1 in
    let no_blank = HasNone_from_class is_uri_byte 32 refl h.target ok.target.1 in
    let after_method = after_at 32 h.method (h.target ++ 32 ∷ print_version h.minor) no_space in
    let target : before 32 (after 32 (request_text h)) ≡ h.target =
    ap (before 32) after_method ∙ before_at 32 h.target (print_version h.minor) no_blank in
    let version : after 32 (after 32 (request_text h)) ≡ print_version h.minor =
    ap (after 32) after_method ∙ after_at 32 h.target (print_version h.minor) no_blank in
    let minor : (if bytes_eq (after 32 (after 32 (request_text h))) (codes "HTTP/1.1") then 1 else 0)
    ≡ h.minor =
    rw version (minor_of h.minor ok.minor) in
    λ i. record {
      blank = [];
      method = before_at 32 h.method (h.target ++ 32 ∷ print_version h.minor) no_space i;
      target = target i;
      minor = minor i;
      line_end = h.line_end;
      fields = same_fields i;
      last = same_last i;
    }

lines-blank : (end : LineEnd) (rest : List ℕ) → lines (print_end end ++ rest) ≡ line [] end ∷ lines rest
lines-blank crlf rest = refl
lines-blank lf rest = refl

head_of-blank : (blank : List LineEnd) (h : RequestHead) (rest : List ℕ) → head_of (lines rest)
    ≡ without_blank h
    → head_of (lines (print_blank blank ++ rest)) ≡ record h { blank = blank }
head_of-blank [] h rest e = e
head_of-blank (end ∷ blank) h rest e =
    ap head_of (ap lines (append_assoc (print_end end) (print_blank blank) rest)
    ∙ lines-blank end (print_blank blank ++ rest))
    ∙ ap (λ (k : RequestHead). record k { blank = end ∷ k.blank }) (head_of-blank blank h rest e)

-- the lines of a printed head make that head
head_of-lines : (h : RequestHead) → IsRequestHead h → head_of (lines (print_request h ++ [])) ≡ h
head_of-lines h ok =
    let section : List ℕ = flat_map print_field h.fields ++ (print_end h.last ++ []) in
    let request : lines (request_text h ++ (print_end h.line_end ++ section))
    ≡ line (request_text h) h.line_end ∷ lines section =
    lines-line (request_text h) h.line_end section (request_text_is_line h ok) in
    let first : head_of (lines (request_text h ++ (print_end h.line_end ++ section)))
    ≡ without_blank h =
    ap head_of request
    ∙ head_of-line (request_text h) h.line_end (lines section) (request_text_some h ok)
    ∙ head_at-text h ok (lines section) (fields_of-section h.fields h.last [] ok.fields)
    (last_of-section h.fields h.last [] ok.fields) in
    ap (λ (t : List ℕ). head_of (lines t))
    (print_request-append h []
    ∙ ap (λ (t : List ℕ). print_blank h.blank ++ t)
    (regroup h.method h.target (print_version h.minor) (print_end h.line_end)
    (flat_map print_field h.fields) (print_end h.last)))
    ∙ head_of-blank h.blank h _ first
  where
    regroup : (a b c d e f : List ℕ)
        → a ++ 32 ∷ (b ++ 32 ∷ (c ++ (d ++ ((e ++ f) ++ [])))) ≡ (a ++ 32 ∷ (b ++ 32 ∷ c))
        ++ (d ++ (e ++ (f ++ [])))
    regroup a b c d e f = simp (append_assoc, cons-append)

-- ---- the tests

is_field-from : (f : Field) → IsField f → is_field f ≡ true
is_field-from f ok =
    and_from _ _
    (and_from _ _ (lt-ltb 0 (length f.name) ok.name.0)
    (list_all-from_AllPass is_token_byte f.name ok.name.1))
    (list_all-from_AllPass is_value_byte f.raw ok.raw)

IsField-from : (f : Field) → is_field f ≡ true → IsField f
IsField-from f e =
    let parts = and_parts (is_token f.name) (list_all is_value_byte f.raw) e in
    let name = and_parts (nat_lt 0 (length f.name)) (list_all is_token_byte f.name) parts.0 in
    record {
      name = (ltb-true 0 (length f.name) name.0, AllPass-from_list_all is_token_byte f.name name.1);
      raw = AllPass-from_list_all is_value_byte f.raw parts.1;
    }

is_request_head-from : (h : RequestHead) → IsRequestHead h → is_request_head h ≡ true
is_request_head-from h ok =
    let method : is_token h.method ≡ true =
    and_from _ _ (lt-ltb 0 (length h.method) ok.method.0)
    (list_all-from_AllPass is_token_byte h.method ok.method.1) in
    let target : (nat_lt 0 (length h.target) && list_all is_uri_byte h.target) ≡ true =
    and_from _ _ (lt-ltb 0 (length h.target) ok.target.0)
    (list_all-from_AllPass is_uri_byte h.target ok.target.1) in
    and_from _ _
    (and_from _ _
    (and_from _ _ (and_from _ _ method target) (is_utf8-from_IsUtf8 h.target ok.target_text))
    (le-leb h.minor 1 ok.minor))
    (list_all-from_AllPass is_field h.fields
    (All-weaker IsField (λ f. is_field f ≡ true) is_field-from h.fields ok.fields))

IsRequestHead-from : (h : RequestHead) → is_request_head h ≡ true → IsRequestHead h
IsRequestHead-from h e =
    let d = and_parts _ (list_all is_field h.fields) e in
    let c = and_parts _ (nat_le h.minor 1) d.0 in
    let b = and_parts _ (is_utf8 h.target) c.0 in
    let a = and_parts (is_token h.method) _ b.0 in
    let method = and_parts (nat_lt 0 (length h.method)) (list_all is_token_byte h.method) a.0 in
    let target = and_parts (nat_lt 0 (length h.target)) (list_all is_uri_byte h.target) a.1 in
    record {
      method = (
        ltb-true 0 (length h.method) method.0,
        AllPass-from_list_all is_token_byte h.method
            method.1,
      );
      target = (
        ltb-true 0 (length h.target) target.0,
        AllPass-from_list_all is_uri_byte h.target
            target.1,
      );
      target_text = IsUtf8-from_is_utf8 h.target b.1;
      minor = leb-true h.minor 1 c.1;
      fields = All-weaker (λ f. is_field f ≡ true) IsField IsField-from h.fields
          (AllPass-from_list_all is_field h.fields d.1);
    }

-- ---- the law

pub head_in-reads : (text : List ℕ) (h : RequestHead) → ReadsRequest text h [] → head_in text ≡ Some h
unfolding head_in
head_in-reads text h reads =
    let found : head_of (lines text) ≡ h = ap (λ (t : List ℕ). head_of (lines t)) reads.1
    ∙ head_of-lines h reads.0 in
    let same : bytes_eq (print_request h) text ≡ true =
    (bytes_eq-Decides (print_request h) text).1 (sym (reads.1 ∙ append-nil (print_request h))) in
    let passes : (is_request_head h && bytes_eq (print_request h) text) ≡ true =
    and_from _ _ (is_request_head-from h reads.0) same in
    ap (checked_head text) found ∙ cond-true _ (Some h) None passes

checked_head-reads : (text : List ℕ) (k h : RequestHead) → checked_head text k ≡ Some h
    → ReadsRequest text h []
checked_head-reads text k h e =
    elim (cases_Bool (is_request_head k && bytes_eq (print_request k) text)) [
      | inl passes ↦
          let parts = and_parts (is_request_head k) _ passes in
          let found : k ≡ h = let at : Some k ≡ Some h = sym (cond-true _ (Some k) None passes) ∙ e
          in cc in
          subst (λ (v : RequestHead). ReadsRequest text v []) found (
            IsRequestHead-from k parts.0,
            sym ((bytes_eq-Decides (print_request k) text).0 parts.1)
                ∙ sym (append-nil (print_request k)),
          )
      | inr fails ↦ let none : None ≡ Some h = sym (cond-false _ (Some k) None fails) ∙ e in cc
    ]

pub reads-head_in : (text : List ℕ) (h : RequestHead) → head_in text ≡ Some h → ReadsRequest text h []
unfolding head_in
reads-head_in text h e = checked_head-reads text (head_of (lines text)) h e

-- ---- what the parser found

-- the head that a parser read whole is the text's
pub head_within-reads : (room : ℕ) (text : List ℕ) (h : RequestHead) → ReadsRequest text h []
    → length h.fields ≤ room
    → head_within room text ≡ Some h
unfolding head_within
head_within-reads room text h reads fits =
    rw (head_in-reads text h reads, le-leb (length h.fields) room fits)

-- where no head of at most so many fields reads the text, there is none
pub head_within-none : (room : ℕ) (text : List ℕ)
    → ((h : RequestHead) → ReadsRequest text h [] → length h.fields ≤ room → ⊥) → head_within room text
    ≡ None
unfolding head_within
head_within-none room text none = by (head_in text) refl
  where
    by : (o : Option RequestHead) → head_in text ≡ o
        → option_and_then (λ (h : RequestHead). if nat_le (length h.fields) room then Some h else None)
        o
        ≡ None
    by None e = refl
    by (Some h) e =
        elim (cases_Bool (nat_le (length h.fields) room)) [
          | inl fits ↦ absurd (none h (reads-head_in text h e) (leb-true (length h.fields) room fits))
          | inr over ↦ rw over
        ]

-- a parser that stopped at the text's end
pub parts_at-whole : (text : List ℕ) (headers : List HeaderSpan) (r : RequestSpans)
    → IsRequestOf text headers r
    → length headers ≡ 64 → r.len ≡ length text
    → Some (parts_at text r headers) ≡ option_map head_parts (head_within 64 text)
parts_at-whole text headers r (h, at) room all =
    let rest : drop r.len text ≡ [] = drop_all r.len text (omega arith) in
    let whole : ReadsRequest text h [] =
    (at.reads.0, at.reads.1 ∙ ap (λ (t : List ℕ). print_request h ++ t) rest) in
    let fits : length h.fields ≤ 64 =
    omega (arith, simp (length-map, length-take) at (ap length at.fields)) in
    rw (head_within-reads 64 text h whole fits)
    (λ i. Some (record { method = at.method i; target = at.path i; fields = at.fields i }))

-- a parser that read no head, or stopped before the text's end
pub no_parts : (text : List ℕ) (headers : List HeaderSpan) (r : Result (Status RequestSpans) Error)
    → FindsRequest text 64 headers r → ((spans : RequestSpans) → r ≡ Ok (Complete spans)
    → spans.len ≢ length text)
    → None ≡ option_map head_parts (head_within 64 text)
no_parts text headers r finds short =
    rw (head_within-none 64 text (λ h reads fits. clash h r short (finds h [] reads fits) reads.1)) refl
  where
    clash : (h : RequestHead) (r : Result (Status RequestSpans) Error)
        → ((spans : RequestSpans) → r ≡ Ok (Complete spans) → spans.len ≢ length text)
        → IsCompleteAnd r (λ spans. IsRequestAt text headers spans h) → text ≡ print_request h ++ [] → ⊥
    clash h (Ok (Complete spans)) short at e = short spans refl
        (at.len ∙ ap length (sym (append-nil (print_request h)) ∙ sym e))
    clash h (Ok Partial) short at e = at
    clash h (Err e') short at e = at
