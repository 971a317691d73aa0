-- What is written of a line.
use Rattle.std.proofs.Common.{◌≡◌, ◌≢◌, ◌<◌, ℕ, List, [], Option, ap, drop, length, length-drop, sym, take, arith}
use Rattle.std.proofs.lemmas.List.{take-append-drop}
use Rattle.io_ends.specs.Writing.{BreaksOff}
use Rattle.io_ends.specs.declared.writing.PartialWrite.{PartialWrite}
use Rattle.desk_cli.specs.Exits.{IsPartlyWritten}

some_left : (n : ℕ) (bytes : List ℕ) → n < length bytes → drop n bytes ≢ []
some_left n bytes short none = omega (arith, short, ap length none, length-drop n bytes)

-- what a write that broke off leaves
pub begun_part : (bytes : List ℕ) (out now : Option (List ℕ)) (fault : PartialWrite)
    → BreaksOff bytes out now fault → IsPartlyWritten bytes out now
begun_part bytes out now fault off = record {
  begun = take fault.sent bytes;
  rest = drop fault.sent bytes;
  parts = sym (take-append-drop fault.sent bytes);
  left = some_left fault.sent bytes off.short;
  written = off.written;
}
