use Rattle.std.proofs.Common.{◌≡◌, map, take}
use Rattle.serde_json.specs.View.{view}
use Rattle.desk_writing.specs.ReplyText.{shown_data}
use Rattle.desk_writing.proofs.shown_out.plans_value.Given as goal

-- the values so far
abbrev pub invariant-loop-shown : goal.invariant-loop-shown
invariant-loop-shown l = map view l.values.items ≡ map shown_data (take l.shown-index l.plans)
