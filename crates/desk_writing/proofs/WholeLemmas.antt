-- What the desk writes has no float: its numbers are whole.
use Rattle.std.proofs.Common.{◌≡◌, ℤ, pos, negsuc, false, List, [], ◌∷◌, map, Option, Some, None, refl}
use Rattle.serde_json.specs.Data.{Data, Members}
use Rattle.serde_json.specs.Find.{is_float, of_integer}
use Rattle.serde_json.specs.View.{items_of}
use Rattle.serde_json.specs.Written.{has_float, items_have_float, members_have_float}
use Rattle.volume4d.specs.Sweep.{Spot}
use Rattle.volume4d.specs.Volume.{Shape, cells, rectangle, Block}
use Rattle.desk_rules.specs.Outcome.{ReplyParts, ready, plans, plan, answered, cleared}
use Rattle.desk_rules.specs.declared.reply.Shown.{Shown}
use Rattle.desk_writing.specs.ReplyText.{conflict_data, outcome_members, with_conflict, reply_data, cell_data, row_members, shown_data, volume_data, with_footprint, volume_with}

of_integer-whole : (z : ℤ) → is_float (of_integer z) ≡ false
of_integer-whole (pos n) = refl
of_integer-whole (negsuc n) = refl

items-whole : {A : Type 0} (f : A → Data) → ((x : A) → has_float (f x) ≡ false) → (xs : List A)
    → items_have_float (items_of (map f xs)) ≡ false
items-whole f whole [] = refl
items-whole f whole (x ∷ xs) = rw (whole x) (items-whole f whole xs)

conflict-whole : (spot : Spot) → has_float (conflict_data spot) ≡ false
conflict-whole spot =
    rw (of_integer-whole spot.point.altitude, of_integer-whole spot.point.second) refl

with_conflict-whole : (conflict : Option Spot) (rest : Members) → members_have_float rest ≡ false
    → members_have_float (with_conflict conflict rest) ≡ false
with_conflict-whole None rest whole = whole
with_conflict-whole (Some spot) rest whole = rw (conflict-whole spot) whole

volume-whole : (v : Block) → has_float (volume_data v) ≡ false
volume-whole v = by v.footprint
  where
    by : (shape : Shape) → has_float (volume_with v.window (with_footprint shape)) ≡ false
    by (cells ids) =
        rw (
          of_integer-whole v.window.lower,
          of_integer-whole v.window.upper,
          items-whole cell_data (λ _. refl) ids,
          of_integer-whole v.window.end,
          of_integer-whole v.window.start,
        )
        refl
    by (rectangle r) =
        rw (
          of_integer-whole v.window.lower,
          of_integer-whole v.window.upper,
          of_integer-whole v.window.end,
          of_integer-whole v.window.start,
        )
        refl

shown-whole : (shown : Shown) → has_float (shown_data shown) ≡ false
shown-whole shown =
    rw (items-whole volume_data volume-whole shown.row.area)
    (with_conflict-whole shown.conflict (row_members shown) refl)

pub reply-whole : (said : ReplyParts) → has_float (reply_data said) ≡ false
reply-whole ready = refl
reply-whole (plans shown) = rw (items-whole shown_data shown-whole shown) refl
reply-whole (plan shown) = shown-whole shown
reply-whole (answered r) =
    with_conflict-whole r.meeting (outcome_members r.status r.result r.note) refl
reply-whole (cleared count) = refl
