use Rattle.std.proofs.Common.{[], ◌∷◌, List, ℕ, sym, subst}
use Rattle.desk_sql.specs.Schema.{tree_of}
use Rattle.desk_sql.specs.Statements.{SelectsAll, rowids}
use Rattle.desk_sql.specs.declared.opening.numbers.DeskTable.{DeskTable}
use Rattle.desk_sql.proofs.PackedLemmas as packed
use Rattle.desk_sql.proofs.lemmas.Rowid.{operator_rowids_selected, plan_rowids_selected, old_volume_rowids_selected, old_span_rowids_selected, volume_rowids_selected, span_rowids_selected}
use Rattle.desk_sql.proofs.lemmas.Texts.{operator_rowids_text, plan_rowids_text, old_volume_rowids_text, old_span_rowids_text, volume_rowids_text, span_rowids_text}
use Rattle.desk_sql.proofs.opening.numbers.rowids_text.Goals as goal

-- a text that selects the rowids of a table
abbrev IsTextOf : List ℕ → DeskTable → Type 0
IsTextOf text table = SelectsAll table text (0 ∷ []) (λ db. rowids (db (tree_of table)))

pub returns-in-Operator : goal.returns-in-Operator
returns-in-Operator c = subst (IsTextOf operator_rowids_text) (sym c.in-Operator.is) operator_rowids_selected

pub returns-in-Plan : goal.returns-in-Plan
returns-in-Plan c = subst (IsTextOf plan_rowids_text) (sym c.in-Plan.is) plan_rowids_selected

pub returns-in-OldVolume : goal.returns-in-OldVolume
returns-in-OldVolume c = subst (IsTextOf old_volume_rowids_text) (sym c.in-OldVolume.is) old_volume_rowids_selected

pub returns-in-OldSpan : goal.returns-in-OldSpan
returns-in-OldSpan c = subst (IsTextOf old_span_rowids_text) (sym c.in-OldSpan.is) old_span_rowids_selected

pub returns-in-Volume : goal.returns-in-Volume
returns-in-Volume c = subst (IsTextOf volume_rowids_text) (sym c.in-Volume.is) volume_rowids_selected

pub returns-in-Span : goal.returns-in-Span
returns-in-Span c = subst (IsTextOf span_rowids_text) (sym c.in-Span.is) span_rowids_selected

pub returns-in-PackedVolume : goal.returns-in-PackedVolume
returns-in-PackedVolume c = subst (IsTextOf volume_rowids_text) (sym c.in-PackedVolume.is) packed.volume_rowids_selected

pub returns-in-PackedSpan : goal.returns-in-PackedSpan
returns-in-PackedSpan c = subst (IsTextOf span_rowids_text) (sym c.in-PackedSpan.is) packed.span_rowids_selected
