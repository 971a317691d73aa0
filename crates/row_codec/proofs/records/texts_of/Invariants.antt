use Rattle.std.proofs.Common.{◌≡◌, map, take}
use Rattle.std.specs.List.{AllByRecursion}
use Rattle.std.specs.String.{string_bytes}
use Rattle.row_codec.specs.Tables.{id_text}
use Rattle.desk_store.specs.World.{IsId}
use Rattle.row_codec.proofs.records.texts_of.Given as goal

-- the texts of the ids so far
abbrev pub invariant-loop-id : goal.invariant-loop-id
invariant-loop-id l = (map string_bytes l.texts.items ≡ map id_text (take l.id-index l.ids))
    × AllByRecursion IsId (take l.id-index l.ids)
