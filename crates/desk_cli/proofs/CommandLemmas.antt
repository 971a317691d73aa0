-- What the rules of a command say of its settings.
use Rattle.std.proofs.Common.{◌≡◌, ◌∙◌, ◌<◌, ◌+◌, ap, ℕ, Bool, true, false, ◌&&◌, not, refl, List, [], ◌∷◌, ◌++◌, map, length, take, get_or}
use Rattle.std.proofs.lemmas.List.{map_more}
use Rattle.std.proofs.lemmas.List.Sums.{fold_push}
use Rattle.clap.specs.Simple.{is_simple, with_subcommand}
use Rattle.clap.specs.Walk.{Rule, Text}
use Rattle.desk_cli.specs.Malformed.{of_kind, rule_of_row, shape_of_form}
use Rattle.desk_cli.specs.Grammar.{bare_program, line_shape, program, with_lines}
use Rattle.desk_cli.specs.declared.command.Form.{Form}
use Rattle.desk_cli.specs.declared.command.ArgRow.{ArgRow}
use Rattle.desk_cli.specs.declared.command.ArgKind.{ArgKind}
use Rattle.desk_cli.specs.declared.command.ArgKind.TheVariants as kind

pub second : (a b : Bool) → (a && b) ≡ true → b ≡ true
second true b h = h
second false b h = cc

pub first : (a b : Bool) → (a && b) ≡ true → a ≡ true
first true b h = refl
first false b h = cc

not_false : (x : Bool) → not x ≡ true → x ≡ false
not_false true h = cc
not_false false h = refl

-- a plain command has no global argument
pub plain_local : (a b x r : Bool) → (a && (b && (not x && r))) ≡ true → x ≡ false
plain_local a b x r h = not_false x (first (not x) r (second b (not x && r) (second a (b && (not x && r)) h)))

-- a simple argument is not global
pub simple_local : (a b c d e f g h i x : Bool)
    → (a && (b && (c && (d && (e && (f && (g && (h && (i && not x))))))))) ≡ true → x ≡ false
simple_local a b c d e f g h i x is =
    not_false x
    (second i _ (second h _ (second g _ (second f _ (second e _ (second d _
    (second c _ (second b _ (second a _ is)))))))))

-- an argument of any kind is as simple as a bare one
pub simple_kind : (k : ArgKind) (r : Rule) → r.is_simple ≡ true → (of_kind k r).is_simple ≡ true
simple_kind kind.Text r is = is
simple_kind kind.Texts r is = is
simple_kind (kind.Number least most) r is = is
simple_kind kind.Flag r is = is

-- one word more
pub words_more : (name : Text) (words : List ArgRow) (i : ℕ) (d : ArgRow) → i < length words
    → line_shape name (map rule_of_row (take (i + 1) words))
    ≡ line_shape name (map rule_of_row (take i words) ++ rule_of_row (get_or words i d) ∷ [])
words_more name words i d below = ap (line_shape name) (map_more rule_of_row words i d below)

-- one line more
pub lines_more : (forms : List Form) (i : ℕ) (d : Form) → i < length forms
    → with_lines (map shape_of_form (take (i + 1) forms))
    ≡ with_subcommand (with_lines (map shape_of_form (take i forms))) (shape_of_form (get_or forms i d))
lines_more forms i d below =
    ap with_lines (map_more shape_of_form forms i d below)
    ∙ fold_push with_subcommand bare_program (map shape_of_form (take i forms))
    (shape_of_form (get_or forms i d))

-- `clap` says of the program what it finds in words
pub program_is_simple : is_simple program ≡ true
program_is_simple = refl
