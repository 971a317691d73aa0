use Rattle.std.proofs.Common.{codes, ◌++◌, ◌∙◌, ◌≡◌, subst}
use Rattle.std.proofs.lemmas.Result.{IfErr-weaker}
use Rattle.std.specs.Io.KnownBytes.{Appends}
use Rattle.desk_cli.specs.Exits.{failure_word, IsPartlyWritten}
use Rattle.desk_cli.proofs.WrittenLemmas.{begun_first, begun_next, begun_part, if_err}
use Rattle.desk_cli.proofs.failure.write_failure.Goals as goal

pub returns-in_err-write_whole-clause-err : goal.returns-in_err-write_whole-clause-err
returns-in_err-write_whole-clause-err g c =
    if_err _ (begun_first (codes "uss_desk: ") (failure_word c.args.failure ++ codes "\n") _ _
    (begun_part _ _ _ _ c.in_err-write_whole.ensures.err))

pub returns-in_err-write_whole-2-clause-err : goal.returns-in_err-write_whole-2-clause-err
returns-in_err-write_whole-2-clause-err g c =
    let word : c.as_bytes.result.now ≡ failure_word c.args.failure =
    c.as_bytes.ensures.value ∙ c.word.ensures in
    let now = g.E.Write.contents c.write_whole.new.output in
    let after = g.E.Write.contents c.write_whole-2.new.output in
    if_err _ (begun_next (codes "uss_desk: ") (failure_word c.args.failure ++ codes "\n") _ now after
    c.in_ok-write_whole.ensures.ok
    (begun_first (failure_word c.args.failure) (codes "\n") now after
    (subst (λ w. IsPartlyWritten w now after) word (begun_part _ _ _ _ c.in_err-write_whole-2.ensures.err))))

pub returns-clause-err : goal.returns-clause-err
returns-clause-err g c =
    let word : c.as_bytes.result.now ≡ failure_word c.args.failure =
    c.as_bytes.ensures.value ∙ c.word.ensures in
    let now = g.E.Write.contents c.write_whole.new.output in
    let after = g.E.Write.contents c.write_whole-2.new.output in
    let last = g.E.Write.contents c.write_whole-3.new.output in
    IfErr-weaker c.write_whole-3.result _ _
    (λ cut off. begun_next (codes "uss_desk: ") (failure_word c.args.failure ++ codes "\n") _ now last
    c.in_ok-write_whole.ensures.ok
    (begun_next (failure_word c.args.failure) (codes "\n") now after last
    (subst (λ w. Appends now after w) word c.in_ok-write_whole-2.ensures.ok)
    (begun_part (codes "\n") after last cut.fault off))) c.write_whole-3.ensures.err
