use Rattle.sqlite_wal.specs.PageSize.{bytes_of}
use Rattle.db_file.proofs.OrderLemmas.{page_reported}
use Rattle.db_file.proofs.orders.is_first_page_disordered.Goals as goal

pub returns : goal.returns
returns g c =
    let page = c.read_page.new.page in
    page_reported (g.R.Read.remaining c.args.file.now) c.is_out_of_order.result c.args.header.now page
    (bytes_of c.args.size) c.in_ok-read_page.ensures.page c.read_page.ensures.length c.is_out_of_order.ensures
