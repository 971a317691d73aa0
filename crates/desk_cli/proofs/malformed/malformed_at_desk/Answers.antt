use Rattle.std.proofs.Common.{◌≡◌, ◌∙◌, ap, codes, map, unwrap_or, refl, [], rules}
use Rattle.clap.proofs.WalkLemmas.{raw_values-rows}
use Rattle.clap.specs.Matches.{found_of}
use Rattle.clap.specs.Walk.{all_of, rows_of}
use Rattle.desk_cli.proofs.GivenLemmas.{words_read}
use Rattle.desk_cli.proofs.malformed.malformed_at_desk.Goals as goal

pub returns : goal.returns
returns c =
    let words : map (λ v. v.now) c.unwrap_or-words.result.now
    ≡ unwrap_or (all_of (codes "enrolments") (rows_of (found_of c.args.given.now))) [] =
    ap (λ x. map (λ v. v.now) x.now) c.unwrap_or-words.ensures
    ∙ words_read c.get_strs.result _ _
    (c.get_strs.ensures ∙ raw_values-rows (found_of c.args.given.now) (codes "enrolments")) refl in
    search (rules, words)
