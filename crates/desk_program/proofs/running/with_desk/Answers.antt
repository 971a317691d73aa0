use Rattle.std.specs.Prelude.{is_some}
use Rattle.desk_program.proofs.running.with_desk.Goals as goal

-- whether it was broken off, the exit of the line says
pub returns : goal.returns
returns g c = record {
  cut = is_some c.carry_out_portless.result.cut;
  carried = c.carry_out_portless.ensures;
}
