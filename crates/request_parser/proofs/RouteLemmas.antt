-- What a path has behind a folder, and a target that is no text.
use Rattle.std.proofs.Common.{◌≡◌, ℕ, false, List, drop, length, nat_eq, Option, Some, None, MatchOption, refl, option_map}
use denote.Ref.{Bor}
use Rattle.std.specs.Str.Pattern.{FindsTextPrefix, StripsPrefix}
use Rattle.std.specs.List.{starts_with}
use Rattle.std.specs.Str.{IsUtf8, is_utf8}
use Rattle.std.proofs.lemmas.Bool.{false_from_ne_true}
use Rattle.std.proofs.lemmas.Bool.Decides.{Decides-eqb}
use Rattle.std.proofs.lemmas.Slice.Eq.{starts_is}
use Rattle.std.proofs.lemmas.Str.{IsUtf8-from_is_utf8}
use Rattle.request_parser.specs.Routes.{plans_folder, rest_in}

pub behind : (path : List ℕ) (r : Option (Bor (List ℕ)))
    → MatchOption r (FindsTextPrefix plans_folder path None)
    (λ x. StripsPrefix (FindsTextPrefix plans_folder) path x.now)
    → option_map (λ rest. rest.now) r ≡ rest_in path
behind path None lacks =
    let reported = starts_is Decides-eqb path plans_folder (starts_with nat_eq path plans_folder) refl in
    rw (false_from_ne_true (starts_with nat_eq path plans_folder)
    (λ e. lacks (drop (length plans_folder) path) (reported.0 e))) refl
behind path (Some rest) (n, is, what, size) =
    let reported = starts_is Decides-eqb path plans_folder (starts_with nat_eq path plans_folder) refl in
    rw (reported.1 (drop n path) is.1, what, is.0) refl

-- what `from_utf8` says of a text, as the test
pub is_utf8-false : (text : List ℕ) → ¬ (IsUtf8 text) → is_utf8 text ≡ false
is_utf8-false text none = false_from_ne_true (is_utf8 text) (λ e. none (IsUtf8-from_is_utf8 text e))
