use Rattle.std.proofs.Common.{◌≡◌, map, take}
use Rattle.serde_json.specs.View.{view}
use Rattle.desk_writing.specs.ReplyText.{volume_data}
use Rattle.desk_writing.proofs.shown_out.area_value.Given as goal

-- the values so far
abbrev pub invariant-loop-volume : goal.invariant-loop-volume
invariant-loop-volume l = map view l.values.items ≡ map volume_data (take l.volume-index l.area)
