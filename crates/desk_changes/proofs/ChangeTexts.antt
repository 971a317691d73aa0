-- What each text that changes rows does.
use Rattle.std.proofs.Common.{ℕ, List}
use Rattle.desk_changes.specs.declared.change.RowChange.TheVariants.{AddPlan, AddVolume, AddSpan, EmptyOldVolumes, EmptyOldSpans}
use Rattle.desk_changes.specs.declared.writing.PlanRecord.{PlanRecord}
use Rattle.desk_changes.specs.declared.writing.SpanRecord.{SpanRecord}
use Rattle.desk_changes.specs.declared.writing.VolumeRecord.{VolumeRecord}
use Rattle.desk_changes.specs.RowChanges.{DoesAddOperator, DoesRemovePlan, DoesRemoveSpans, DoesSetCeiling, DoesSetClosed, IsTextOf}
use Rattle.desk_sql.proofs.lemmas.Texts.{close_plan_text, insert_operator_text, insert_plan_text, insert_span_text, insert_volume_text, remove_plan_text, remove_spans_text, set_ceiling_text}
use Rattle.desk_sql.proofs.lemmas.OldTexts.{empty_old_spans_text, empty_old_volumes_text}
use Rattle.desk_changes.proofs.InsertLemmas.{insert_operator_changes, insert_plan_changes, insert_volume_changes, insert_span_changes}
use Rattle.desk_changes.proofs.Added.{insert_operator_sure, insert_plan_sure, insert_volume_sure, insert_span_sure}
use Rattle.desk_changes.proofs.SetLemmas.{set_ceiling_changes, set_ceiling_counts, set_ceiling_room, set_closed_changes}
use Rattle.desk_changes.proofs.SetStops.{set_ceiling_sure, set_closed_sure}
use Rattle.desk_changes.proofs.RemoveLemmas.{remove_plan_changes, remove_spans_changes}
use Rattle.desk_changes.proofs.RemoveStops.{remove_plan_sure, remove_spans_sure}
use Rattle.desk_changes.proofs.EmptyLemmas.{empty_old_volumes_changes, empty_old_spans_changes, empty_old_volumes_room, empty_old_spans_room}
use Rattle.desk_changes.proofs.EmptyStops.{empty_old_volumes_sure, empty_old_spans_sure}
use Rattle.desk_changes.proofs.RoomTexts.{any_count, any_room, insert_operator_room, insert_plan_room, insert_volume_room, insert_span_room, remove_plan_room}

pub add_operator_does : (name : List ℕ) (ceiling : ℕ) → DoesAddOperator name ceiling insert_operator_text
add_operator_does name ceiling = record {
  changed = insert_operator_changes name ceiling;
  sure = insert_operator_sure name ceiling;
  room = insert_operator_room name ceiling;
  counted = any_count _ _;
}

pub add_plan_does : (row : PlanRecord) → IsTextOf (AddPlan row) insert_plan_text
add_plan_does row = record {
  changed = insert_plan_changes row;
  sure = insert_plan_sure row;
  room = insert_plan_room row;
  counted = any_count _ _;
}

pub add_volume_does : (row : VolumeRecord) → IsTextOf (AddVolume row) insert_volume_text
add_volume_does row = record {
  changed = insert_volume_changes row;
  sure = insert_volume_sure row;
  room = insert_volume_room row;
  counted = any_count _ _;
}

pub add_span_does : (row : SpanRecord) → IsTextOf (AddSpan row) insert_span_text
add_span_does row = record {
  changed = insert_span_changes row;
  sure = insert_span_sure row;
  room = insert_span_room row;
  counted = any_count _ _;
}

pub set_ceiling_does : (name : List ℕ) (ceiling : ℕ) → DoesSetCeiling name ceiling set_ceiling_text
set_ceiling_does name ceiling = record {
  changed = set_ceiling_changes name ceiling;
  sure = set_ceiling_sure name ceiling;
  room = set_ceiling_room name ceiling;
  counted = set_ceiling_counts name ceiling;
}

pub set_closed_does : (operator id : List ℕ) (priority aircraft : ℕ)
    → DoesSetClosed operator id priority aircraft close_plan_text
set_closed_does operator id priority aircraft = record {
  changed = set_closed_changes operator id priority aircraft;
  sure = set_closed_sure operator id priority aircraft;
  room = any_room _ _;
  counted = any_count _ _;
}

pub remove_plan_does : (operator id : List ℕ) → DoesRemovePlan operator id remove_plan_text
remove_plan_does operator id = record {
  changed = remove_plan_changes operator id;
  sure = remove_plan_sure operator id;
  room = remove_plan_room operator id;
  counted = any_count _ _;
}

pub remove_spans_does : (operator id : List ℕ) → DoesRemoveSpans operator id remove_spans_text
remove_spans_does operator id = record {
  changed = remove_spans_changes operator id;
  sure = remove_spans_sure operator id;
  room = any_room _ _;
  counted = any_count _ _;
}

pub empty_old_volumes_does : IsTextOf EmptyOldVolumes empty_old_volumes_text
empty_old_volumes_does = record {
  changed = empty_old_volumes_changes;
  sure = empty_old_volumes_sure;
  room = empty_old_volumes_room;
  counted = any_count _ _;
}

pub empty_old_spans_does : IsTextOf EmptyOldSpans empty_old_spans_text
empty_old_spans_does = record {
  changed = empty_old_spans_changes;
  sure = empty_old_spans_sure;
  room = empty_old_spans_room;
  counted = any_count _ _;
}
