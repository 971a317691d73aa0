use Rattle.std.proofs.Common.{◌≡◌, ◌++◌, drop, string_bytes}
use Rattle.desk_cli.specs.Exits.{token_lines}
use Rattle.desk_cli.proofs.printed.tokens_text.Given as goal

-- the tokens of the others are still to come
abbrev pub invariant-loop-cell : goal.invariant-loop-cell
invariant-loop-cell l = string_bytes l.text ++ token_lines (drop l.cell-index l.cells) ≡ token_lines l.cells
