-- The enrolments of lines, one line after the other.
use Rattle.std.proofs.Common.{◌≡◌, ◌∙◌, ◌<◌, ◌+◌, ◌++◌, ◌∷◌, [], Bor, ℕ, List, ap, get_or, length, map, sym, take}
use Rattle.std.proofs.lemmas.List.{map_more}
use Rattle.std.proofs.lemmas.List.Elements.{filter_map-append}
use Rattle.desk_cli.specs.Malformed.{parse_enrolment_line, parse_enrolment_lines}
use Rattle.desk_cli.specs.declared.line.Enrolment.{Enrolment}

-- those of one line more
pub line_added : (lines : List (Bor (List ℕ))) (i : ℕ) (d : Bor (List ℕ)) (old new : List Enrolment)
    → i < length lines → new ≡ old ++ parse_enrolment_lines ((get_or lines i d).now ∷ [])
    → old ≡ parse_enrolment_lines (map (λ line. line.now) (take i lines))
    → new ≡ parse_enrolment_lines (map (λ line. line.now) (take (i + 1) lines))
line_added lines i d old new below added before =
    let line = (get_or lines i d).now ∷ [] in
    let texts = map (λ (line : Bor (List ℕ)). line.now) (take i lines) in
    added ∙ ap (λ es. es ++ parse_enrolment_lines line) before ∙ sym (filter_map-append parse_enrolment_line texts line)
    ∙ ap parse_enrolment_lines (sym (map_more (λ (line : Bor (List ℕ)). line.now) lines i d below))
