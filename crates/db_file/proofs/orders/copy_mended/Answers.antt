use Rattle.std.proofs.Common.{◌≡◌, length, refl, rules}
use Rattle.sqlite_wal.specs.PageSize.{bytes_of}
use Rattle.db_file.proofs.OrderLemmas.{copied_as_said, header_says, sized_as_said}
use Rattle.db_file.proofs.orders.copy_mended.Goals as goal

pub returns-in-Some-clause-mended : goal.returns-in-Some-clause-mended
returns-in-Some-clause-mended g c =
    let header = c.read_exact.new.buf in
    let short : length header ≡ 24 = search rules in
    copied_as_said c.copy_in_order.result (g.R.Read.remaining c.args.file.now)
    (g.R.Read.remaining c.read_exact.new.self) _ header (bytes_of c.in-Some.size) c.args.len
    c.has_checksum_space.result (g.W.Write.contents c.args.output.now) (g.W.Write.contents c.copy_in_order.new.output)
    short c.in_ok-read_exact.ensures.bytes c.chain-whole.ensures.bytes c.in-Some.ensures.1
    c.has_checksum_space.ensures c.copy_in_order.ensures

pub returns-in-Some-clause-sized : goal.returns-in-Some-clause-sized
returns-in-Some-clause-sized g c =
    let known = g.R.Read.remaining c.args.file.now in
    let header = c.read_exact.new.buf in
    let short : length header ≡ 24 = search rules in
    sized_as_said c.copy_in_order.result known header
    (header_says known (g.R.Read.remaining c.read_exact.new.self) header short c.in_ok-read_exact.ensures.bytes)
    (c.in-Some.ensures.0.0 refl)
