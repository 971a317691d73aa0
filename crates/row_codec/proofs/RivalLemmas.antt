-- Rows of spans, read as slabs one after the other.
use Rattle.std.proofs.Common.{◌+◌, List, [], ◌∷◌, ◌++◌}
use Rattle.sqlite_value.specs.Order.{Row}
use Rattle.volume4d.specs.declared.slab.Held.{Held}
use Rattle.desk_store.specs.World.{held}
use Rattle.row_codec.specs.RowsRead.{IsHeldIn, HasTakenHelds}

pub one_taken : (helds : List Held) (rows : List Row) (held : Held) (row : Row)
    → HasTakenHelds helds rows
    → IsHeldIn row held → HasTakenHelds (helds ++ held ∷ []) (rows ++ row ∷ [])
one_taken [] [] held row h is = (is, tt)
one_taken [] (r ∷ rows) held row h is = absurd h
one_taken (g ∷ helds) [] held row h is = absurd h
one_taken (g ∷ helds) (r ∷ rows) held row h is = (h.0, one_taken helds rows held row h.1 is)
