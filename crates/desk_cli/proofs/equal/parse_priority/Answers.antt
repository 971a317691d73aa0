use Rattle.std.proofs.Common.{sym}
use Rattle.desk_cli.proofs.EqualLemmas.{priority_taken, priority_too_great, priority_unread}
use Rattle.desk_cli.proofs.equal.parse_priority.Goals as goal

pub returns-in-Ok-clause-parsed : goal.returns-in-Ok-clause-parsed
returns-in-Ok-clause-parsed c =
    priority_taken c.args.text.now c.in-Ok.priority (sym c.if-not-is_short_number.ensures)
    c.in-Ok.ensures.value.0.1 c.if-priority-le-MAX_PRIORITY.true

pub returns-in_default-clause-parsed : goal.returns-in_default-clause-parsed
returns-in_default-clause-parsed c =
    priority_too_great c.args.text.now c.in-Ok.priority (sym c.if-not-is_short_number.ensures)
    c.in-Ok.ensures.value.0.1 c.if-priority-le-MAX_PRIORITY.false

pub returns-in_default-2-clause-parsed : goal.returns-in_default-2-clause-parsed
returns-in_default-2-clause-parsed c =
    priority_unread _ c.args.text.now c.in_default.field-0 (sym c.if-not-is_short_number.ensures)
    c.in_default.ensures.value.0
