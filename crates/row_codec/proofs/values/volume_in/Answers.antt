use Rattle.std.proofs.Common.{w32, w64, SFits, subst, rules}
use Rattle.std.proofs.lemmas.Int.{to_z-of_z}
use Rattle.volume4d.specs.Footprint.{shape_of, AreBytesOf}
use Rattle.volume4d.specs.Volume.{Shape}
use Rattle.row_codec.proofs.ReadingLemmas.{volume_is}
use Rattle.row_codec.proofs.lemmas.Unread.{on_err, no_lower, no_upper, no_volume_window, no_footprint, no_cover, past_limit, volume_stands}
use Rattle.row_codec.proofs.values.volume_in.Goals as goal

pub returns-in-Ok-try_new-clause-value : goal.returns-in-Ok-try_new-clause-value
returns-in-Ok-try_new-clause-value c =
    let lower : SFits w32 c.in_ok-lower.lower = search rules in
    let upper : SFits w32 c.in_ok-upper.upper = search rules in
    let start : SFits w64 c.in_ok-start.start = search rules in
    let end : SFits w64 c.in_ok-end.end = search rules in
    let window = simp to_z-of_z at c.in-Ok.ensures in
    volume_is c.one_shape.ensures c.args.row.now c.args.at c.in_ok-lower.lower c.in_ok-upper.upper
    c.in_ok-start.start c.in_ok-end.end c.in_ok-asked.asked.items
    c.in-Ok.window (shape_of c.in-Some.footprint) c.in-Ok-try_new.volume
    c.in_ok-lower.ensures.value c.in_ok-upper.ensures.value c.in_ok-start.ensures.value
    c.in_ok-end.ensures.value c.in_ok-asked.ensures.value
    window (subst (λ bytes. AreBytesOf bytes (shape_of c.in-Some.footprint)) c.deref.ensures.value
    (rw c.in-Some.is at c.in_ok-footprint.ensures)) c.in-Ok-try_new.ensures.value

pub returns-in_err-lower-clause-refused : goal.returns-in_err-lower-clause-refused
returns-in_err-lower-clause-refused c =
    on_err c.from_residual.result c.in_err-lower.field-0.0 _ c.from_residual.ensures.1
    (λ e. no_lower c.args.row.now c.args.at (c.in_err-lower.ensures.refused e))

pub returns-in_err-upper-clause-refused : goal.returns-in_err-upper-clause-refused
returns-in_err-upper-clause-refused c =
    on_err c.from_residual-in_err-upper.result c.in_err-upper.field-0.0 _
    c.from_residual-in_err-upper.ensures.1
    (λ e. no_upper c.args.row.now c.args.at (c.in_err-upper.ensures.refused e))

pub returns-in_default-clause-refused : goal.returns-in_default-clause-refused
returns-in_default-clause-refused c =
    let lower : SFits w32 c.in_ok-lower.lower = search rules in
    let upper : SFits w32 c.in_ok-upper.upper = search rules in
    let start : SFits w64 c.in_ok-start.start = search rules in
    let end : SFits w64 c.in_ok-end.end = search rules in
    let refused = simp to_z-of_z at c.in_default.ensures in
    λ _. no_volume_window c.args.row.now c.args.at
    (record {
      lower = c.in_ok-lower.lower;
      upper = c.in_ok-upper.upper;
      start = c.in_ok-start.start;
      end = c.in_ok-end.end;
    }) c.in_default.field-0
    c.in_ok-lower.ensures.value c.in_ok-upper.ensures.value c.in_ok-start.ensures.value
    c.in_ok-end.ensures.value refused

pub returns-in_default-2-clause-refused : goal.returns-in_default-2-clause-refused
returns-in_default-2-clause-refused c =
    λ _. no_footprint c.args.row.now c.args.at c.in_ok-asked.asked.items c.in_ok-asked.ensures.value
    (subst (λ bytes. (shape : Shape) → AreBytesOf bytes shape → ⊥) c.deref.ensures.value
    (rw c.in_default-2.is at c.in_ok-footprint.ensures))

pub returns-in-Ok-try_new-clause-valid : goal.returns-in-Ok-try_new-clause-valid
returns-in-Ok-try_new-clause-valid c =
    let lower : SFits w32 c.in_ok-lower.lower = search rules in
    let upper : SFits w32 c.in_ok-upper.upper = search rules in
    let start : SFits w64 c.in_ok-start.start = search rules in
    let end : SFits w64 c.in_ok-end.end = search rules in
    let window = simp to_z-of_z at c.in-Ok.ensures in
    volume_stands c.args.row.now c.args.at (record {
      lower = c.in_ok-lower.lower;
      upper = c.in_ok-upper.upper;
      start = c.in_ok-start.start;
      end = c.in_ok-end.end;
    }) c.in-Ok.window
    c.in_ok-asked.asked.items (shape_of c.in-Some.footprint) c.in-Ok-try_new.volume
    c.in_ok-lower.ensures.value c.in_ok-upper.ensures.value c.in_ok-start.ensures.value
    c.in_ok-end.ensures.value c.in_ok-asked.ensures.value
    window (subst (λ bytes. AreBytesOf bytes (shape_of c.in-Some.footprint)) c.deref.ensures.value
    (rw c.in-Some.is at c.in_ok-footprint.ensures)) c.in-Ok-try_new.ensures.limits
    c.in-Ok-try_new.ensures.value

pub returns-clause-refused : goal.returns-clause-refused
returns-clause-refused c =
    let bytes = subst (λ bytes. AreBytesOf bytes (shape_of c.in-Some.footprint)) c.deref.ensures.value
    (rw c.in-Some.is at c.in_ok-footprint.ensures) in
    let shape = shape_of c.in-Some.footprint in
    λ e. no_cover c.args.row.now c.args.at c.one_shape.ensures c.in_ok-asked.asked.items shape
    c.in_ok-asked.ensures.value bytes
    (past_limit c.args.row.now c.args.at shape c.in-Err.e c.in-Err.ensures.fault
    (c.fault_of_volume.ensures e))
