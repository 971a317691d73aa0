use Rattle.std.proofs.Common.{◌≡◌, ◌++◌, arith, subst}
use Rattle.desk_record.specs.Record.{entries}
use Rattle.desk_recording.specs.RecordWrites.{permitted_below}
use Rattle.desk_recording.proofs.BeginningLemmas.{none_permitted, one_permitted}
use Rattle.desk_recording.proofs.header.write_permitted.Goals as goal

pub loop-priority-init : goal.loop-priority-init
loop-priority-init c = none_permitted c.args.permitted.now c.args.text.now.items

pub loop-priority-preserved : goal.loop-priority-preserved
loop-priority-preserved c =
    one_permitted c.loop-priority.priority c.args.permitted.now _ _ _ c.loop-priority.invariant
    c.in_ok-write_if_permitted.ensures

pub returns : goal.returns
returns c =
    let all : c.loop-priority.priority ≡ 1001 =
    omega (arith, c.loop-priority-test.false, c.loop-priority.auto.priority-end) in
    subst (λ n. c.loop-priority.text.items
    ≡ c.args.text.now.items ++ entries (permitted_below n c.args.permitted.now)) all c.loop-priority.invariant
