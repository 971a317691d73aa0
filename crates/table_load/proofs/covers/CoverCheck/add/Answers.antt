use Rattle.std.proofs.Common.{◌≡◌, rules}
use Rattle.desk_sql.specs.Rows.{volume_part}
use Rattle.table_load.proofs.CoverLemmas.{compared_on}
use Rattle.table_load.proofs.covers.CoverCheck.add.Goals as goal

pub returns : goal.returns
returns c rows h =
    let own = c.args.self.now in
    let part : c.in_ok-volume.volume ≡ volume_part c.args.row.now = search rules in
    compared_on own.volumes.items c.push.new.self.items own.agree c.in_ok-self.field-0 c.args.row.now
    c.in_ok-volume.volume part c.in_ok-push.ensures.items c.in_ok-self.ensures rows h
