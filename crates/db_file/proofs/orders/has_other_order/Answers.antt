use Rattle.std.proofs.Common.{◌≡◌, length, refl, rules}
use Rattle.sqlite_wal.specs.PageSize.{bytes_of}
use Rattle.db_file.proofs.OrderLemmas.{file_reported, header_says, order_said}
use Rattle.db_file.proofs.orders.has_other_order.Goals as goal

pub returns-in-Some : goal.returns-in-Some
returns-in-Some g c =
    let known = g.R.Read.remaining c.args.file.now in
    let left = g.R.Read.remaining c.read_exact.new.self in
    let header = c.read_exact.new.buf in
    let short : length header ≡ 24 = search rules in
    let says = header_says known left header short c.in_ok-read_exact.ensures.bytes in
    order_said c.is_first_page_disordered.result known header says (c.in-Some.ensures.0.0 refl)
    (file_reported c.is_first_page_disordered.result known left header (bytes_of c.in-Some.size)
    c.in_ok-read_exact.ensures.bytes says c.in-Some.ensures.1 c.is_first_page_disordered.ensures)
