-- What is written of some bytes, part by part.
use Rattle.std.proofs.Common.{◌≡◌, ◌≢◌, ◌<◌, ◌∙◌, ap, sym, ℕ, List, [], ◌∷◌, ◌++◌, Option, refl, length, length-drop, take, drop, arith, append_assoc, Result, Ok, Err, IfErr}
use Rattle.std.proofs.lemmas.List.{take-append-drop}
use Rattle.std.proofs.KnownBytes.{Appends-trans}
use Rattle.std.specs.Io.KnownBytes.{Appends}
use Rattle.io_ends.specs.Writing.{BreaksOff}
use Rattle.io_ends.specs.declared.writing.PartialWrite.{PartialWrite}
use Rattle.desk_cli.specs.Exits.{IsPartlyWritten}

some_left : (n : ℕ) (bytes : List ℕ) → n < length bytes → drop n bytes ≢ []
some_left n bytes short none = omega (arith, short, ap length none, length-drop n bytes)

-- what a write that broke off leaves
pub begun_part : (bytes : List ℕ) (out now : Option (List ℕ)) (fault : PartialWrite)
    → BreaksOff bytes out now fault → IsPartlyWritten bytes out now
begun_part bytes out now fault off = record {
  begun = take fault.sent bytes;
  rest = drop fault.sent bytes;
  parts = sym (take-append-drop fault.sent bytes);
  left = some_left fault.sent bytes off.short;
  written = off.written;
}

-- a beginning of the first part begins the whole
pub begun_first : (a b : List ℕ) (out now : Option (List ℕ)) → IsPartlyWritten a out now → IsPartlyWritten (a ++ b) out now
begun_first a b out now h = record {
  begun = h.begun;
  rest = h.rest ++ b;
  parts = ap (λ xs. xs ++ b) h.parts ∙ append_assoc h.begun h.rest b;
  left = λ none. h.left (empty_first h.rest b none);
  written = h.written;
}
  where
    empty_first : (xs ys : List ℕ) → xs ++ ys ≡ [] → xs ≡ []
    empty_first [] ys none = refl
    empty_first (x ∷ xs) ys none = cc

-- the first part, and then a beginning of the second
pub begun_next : (a b : List ℕ) (out now after : Option (List ℕ)) → Appends out now a → IsPartlyWritten b now after
    → IsPartlyWritten (a ++ b) out after
begun_next a b out now after whole h = record {
  begun = a ++ h.begun;
  rest = h.rest;
  parts = ap (λ xs. a ++ xs) h.parts ∙ sym (append_assoc a h.begun h.rest);
  left = h.left;
  written = Appends-trans out now after a h.begun whole h.written;
}

-- what holds anyway holds of an error
pub if_err : {V E : Type 0} (r : Result V E) {P : Type 0} → P → IfErr r (λ e. P)
if_err (Ok v) h = tt
if_err (Err e) h = h
