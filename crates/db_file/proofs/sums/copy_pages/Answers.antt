use Rattle.std.proofs.Common.{◌≡◌, ◌<◌, ◌∙◌, drop, take, IfSome, Some, rules, subst}
use Rattle.std.specs.Io.KnownBytes.{Appends}
use Rattle.sqlite_wal.specs.PageSize.{bytes_of}
use Rattle.db_file.proofs.SumLemmas.{copies_more, copies_to_end}
use Rattle.db_file.specs.Orders.{with_checksum}
use Rattle.db_file.proofs.sums.copy_pages.Goals as goal

pub loop-preserved : goal.loop-preserved
loop-preserved g c =
    let size = c.loop.invariant.whole_page in
    let less : c.loop.counter < c.args.count = search rules in
    record {
      whole_page = c.copy_page.ensures.length ∙ size;
      copied = copies_more (bytes_of c.args.size) c.args.count c.loop.counter _ _ _ _ _ _ less
          (subst (λ n. IfSome (g.R.Read.remaining c.loop.file)
          (λ it. g.R.Read.remaining c.copy_page.new.file ≡ Some (drop n it))) size
          c.in_ok-copy_page.ensures.left)
          (subst (λ n. IfSome (g.R.Read.remaining c.loop.file)
          (λ it. Appends (g.W.Write.contents c.loop.output) (g.W.Write.contents c.copy_page.new.output)
          (with_checksum (take n it)))) size c.in_ok-copy_page.ensures.copied)
          c.loop.invariant.copied;
    }

pub returns : goal.returns
returns g c =
    let all : c.loop.counter ≡ c.args.count = search rules in
    copies_to_end (bytes_of c.args.size) c.args.count c.loop.counter _ _ _ _ all c.loop.invariant.copied
