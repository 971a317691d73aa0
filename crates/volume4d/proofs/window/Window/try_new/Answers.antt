use Rattle.std.proofs.Common.{w32, w64}
use Rattle.std.proofs.lemmas.Int.{to_z-of_z}
use Rattle.volume4d.proofs.Extents.{checked_ok}
use Rattle.volume4d.proofs.window.Window.try_new.Goals as goal

pub returns : goal.returns
returns c =
    checked_ok _ _ (to_z-of_z w32 c.args.lower c.ranges.lower) (to_z-of_z w32 c.args.upper c.ranges.upper)
    (to_z-of_z w64 c.args.start c.ranges.start) (to_z-of_z w64 c.args.end c.ranges.end)
    c.if-not-are_altitudes.ensures.value c.if-not-are_times.ensures.value c.if-not-is_allowed_length.ensures
