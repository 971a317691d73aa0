use Rattle.db_file.proofs.OrderLemmas.{page_read}
use Rattle.db_file.proofs.orders.read_page.Goals as goal

pub returns-clause-page : goal.returns-clause-page
returns-clause-page g c =
    page_read c.read_exact.result (g.R.Read.remaining c.args.file.now) _ _ c.args.header.now c.read_exact.new.buf
    c.chain-whole.ensures.bytes c.read_exact.ensures.bytes
