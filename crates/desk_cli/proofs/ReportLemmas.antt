-- What is printed of a line that reports.
use Rattle.std.proofs.Common.{◌≡◌, ◌⊎◌, ◌∙◌, ap, sym, ℕ, List, [], ◌∷◌, ◌++◌, Option, refl, inl}
use Rattle.std.proofs.KnownBytes.{Appends-nil}
use Rattle.std.specs.Io.KnownBytes.{Appends}
use Rattle.io_ends.specs.Writing.{BreaksOff}
use Rattle.io_ends.specs.declared.writing.PartialWrite.{PartialWrite}
use Rattle.desk_cli.specs.Malformed.{IsMalformedReported, IsPrintedPart, IsReported}
use Rattle.desk_cli.proofs.WrittenLemmas.{begun_part}

append_nothing : (bytes : List ℕ) → bytes ≡ bytes ++ []
append_nothing [] = refl
append_nothing (x ∷ xs) = ap (λ ys. x ∷ ys) (append_nothing xs)

-- nothing of a line
pub nothing_printed : (bytes : List ℕ) (out : Option (List ℕ)) → IsPrintedPart bytes out out
nothing_printed bytes out = record { begun = []; rest = bytes; parts = refl; written = Appends-nil out }

pub nothing_reported : (place text : List ℕ) (out : Option (List ℕ)) → IsReported place text out out
nothing_reported place text out = nothing_printed _ out

-- all of it
pub printed_line : (bytes : List ℕ) (out now : Option (List ℕ)) → Appends out now bytes
    → IsPrintedPart bytes out now
printed_line bytes out now all = record {
  begun = bytes;
  rest = [];
  parts = append_nothing bytes;
  written = all;
}

-- what a write that broke off leaves of it
pub broken_line : (bytes : List ℕ) (out now : Option (List ℕ)) (fault : PartialWrite)
    → BreaksOff bytes out now fault → IsPrintedPart bytes out now
broken_line bytes out now fault off = let part = begun_part bytes out now fault off in record {
  begun = part.begun;
  rest = part.rest;
  parts = part.parts;
  written = part.written;
}

pub nothing_malformed : (words : List (List ℕ)) (out : Option (List ℕ)) → IsMalformedReported words out out
nothing_malformed words out = inl refl
