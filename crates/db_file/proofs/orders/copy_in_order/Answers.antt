use Rattle.std.proofs.Common.{◌≡◌, length, rules, IfSome, Some, subst, sym}
use Rattle.std.specs.Fmt.{option_append}
use Rattle.sqlite_wal.specs.PageSize.{bytes_of}
use Rattle.db_file.specs.Orders as spec
use Rattle.db_file.proofs.OrderLemmas.{mended_all}
use Rattle.db_file.proofs.orders.copy_in_order.Goals as goal

pub returns : goal.returns
returns g c =
    let known = g.R.Read.remaining c.args.file.now in
    let page = c.read_in_order.new.page in
    let left = g.R.Read.remaining c.read_in_order.new.file in
    let size : length page ≡ bytes_of c.args.size = search rules in
    mended_all c.copy_with.result known _ (bytes_of c.args.size) c.args.len
    c.args.has_checksums (g.W.Write.contents c.args.output.now) (g.W.Write.contents c.copy_with.new.output)
    (subst (λ n. IfSome known (λ bytes. length (spec.ordered_file n bytes) ≡ length bytes)) size
    c.in_ok-read_in_order.ensures.size)
    (subst (λ w. IfSome known (λ bytes. w ≡ Some (spec.ordered_file (bytes_of c.args.size) bytes)))
    (sym c.chain-whole.ensures.bytes)
    (subst (λ n. IfSome known
    (λ bytes. option_append (Some page) left ≡ Some (spec.ordered_file n bytes))) size
    c.in_ok-read_in_order.ensures.whole))
    c.copy_with.ensures
