use Rattle.std.proofs.Common.{◌≡◌, ◌<◌, ◌∙◌, arith, drop, take, IfSome, Some, rules, subst}
use Rattle.sqlite_wal.specs.PageSize.{bytes_of}
use Rattle.db_file.proofs.SumLemmas.{counts_more, counts_to_end}
use Rattle.db_file.specs.Orders.{bad_checksums_in_page}
use Rattle.db_file.proofs.sums.count_bad_in.Goals as goal

pub loop-preserved : goal.loop-preserved
loop-preserved g c =
    let size = c.loop.invariant.whole_page in
    let less : c.loop.counter < c.args.count = search rules in
    let one = c.in_ok-bad_count.field-0 in
    record {
      whole_page = c.count_bad_page.ensures.length ∙ size;
      few = omega (arith, c.loop.invariant.few, c.in_ok-bad_count.ensures.most);
      counted = counts_more (bytes_of c.args.size) c.args.count c.loop.counter c.loop.bad_count one _ _ _ less
          (subst (λ n. IfSome (g.R.Read.remaining c.loop.file)
          (λ it. g.R.Read.remaining c.count_bad_page.new.file ≡ Some (drop n it))) size
          c.in_ok-bad_count.ensures.left)
          (subst (λ n. IfSome (g.R.Read.remaining c.loop.file)
          (λ it. one ≡ bad_checksums_in_page (take n it))) size c.in_ok-bad_count.ensures.counted)
          c.loop.invariant.counted;
    }

pub returns : goal.returns
returns g c =
    let all : c.loop.counter ≡ c.args.count = search rules in
    counts_to_end (bytes_of c.args.size) c.args.count c.loop.counter c.loop.bad_count _ _ all
    c.loop.invariant.counted
