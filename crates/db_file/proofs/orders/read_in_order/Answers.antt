use Rattle.std.proofs.Common.{◌≡◌, length, rules, refl}
use Rattle.db_file.proofs.OrderLemmas.{ordered_left, ordered_size}
use Rattle.db_file.proofs.orders.read_in_order.Goals as goal

pub returns-clause-size : goal.returns-clause-size
returns-clause-size g c =
    let long : length c.read_exact.new.buf ≡ length c.order_page.new.page = search rules in
    ordered_size _ _ c.read_exact.new.buf c.order_page.new.page _ long refl c.order_page.ensures
    c.in_ok-read_exact.ensures.bytes

pub returns-clause-whole : goal.returns-clause-whole
returns-clause-whole g c =
    let long : length c.read_exact.new.buf ≡ length c.order_page.new.page = search rules in
    ordered_left _ _ c.read_exact.new.buf c.order_page.new.page _ long c.order_page.ensures
    c.in_ok-read_exact.ensures.bytes
