use Rattle.std.proofs.Common.{◌≡◌, ◌∙◌, ap, codes, map, unwrap_or, refl, []}
use Rattle.std.proofs.lemmas.Result.{IfOk-weaker}
use Rattle.clap.proofs.WalkLemmas.{raw_values-rows}
use Rattle.clap.specs.Matches.{found_of}
use Rattle.clap.specs.Walk.{all_of, rows_of}
use Rattle.desk_cli.proofs.GivenLemmas.{enrolments_back, enrolments_read, words_read}
use Rattle.desk_cli.proofs.LackLemmas.{lacks_same}
use Rattle.desk_cli.proofs.line.read_enrolments.Goals as goal

pub returns-clause-given : goal.returns-clause-given
returns-clause-given c =
    let words : map (λ v. v.now) c.unwrap_or.result.now
    ≡ unwrap_or (all_of (codes "enrolments") (rows_of (found_of c.args.given.now))) [] =
    ap (λ x. map (λ v. v.now) x.now) c.unwrap_or.ensures
    ∙ words_read c.get_strs.result _ _
    (c.get_strs.ensures ∙ raw_values-rows (found_of c.args.given.now) (codes "enrolments")) refl in
    IfOk-weaker c.parse_enrolments.result _ _
    (λ e h. enrolments_read e.items c.unwrap_or.result.now _ h words) c.parse_enrolments.ensures.given

pub returns-clause-refused : goal.returns-clause-refused
returns-clause-refused c =
    let words : map (λ v. v.now) c.unwrap_or.result.now
    ≡ unwrap_or (all_of (codes "enrolments") (rows_of (found_of c.args.given.now))) [] =
    ap (λ x. map (λ v. v.now) x.now) c.unwrap_or.ensures
    ∙ words_read c.get_strs.result _ _
    (c.get_strs.ensures ∙ raw_values-rows (found_of c.args.given.now) (codes "enrolments")) refl in
    lacks_same _ _ c.parse_enrolments.result
    (λ es h. enrolments_back es c.unwrap_or.result.now _ h words) c.parse_enrolments.ensures.refused
