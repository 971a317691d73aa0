use Rattle.std.proofs.Common.{ap, sym, ◌∙◌}
use Rattle.sqlite_value.specs.Order.{column}
use Rattle.sqlite_value.specs.declared.value.Value.TheVariants.{Text}
use Rattle.row_codec.specs.Tables.{id_text}
use Rattle.row_codec.proofs.ReadingLemmas.{id_is}
use Rattle.desk_store.proofs.lemmas.Parse.{parsed_id}
use Rattle.row_codec.proofs.lemmas.Unread.{on_err, id_is_text, no_id}
use Rattle.row_codec.proofs.values.id_in.Goals as goal

pub returns-in-Some-clause-value : goal.returns-in-Some-clause-value
returns-in-Some-clause-value c =
    λ id is h. id_is c.deref.result.now c.in-Some.id id (column c.args.row.now 1) c.in-Some.ensures
    (c.in_ok-text.ensures.value ∙ ap Text (sym c.deref.ensures)) is h

pub returns-in_err-text-clause-refused : goal.returns-in_err-text-clause-refused
returns-in_err-text-clause-refused c =
    on_err c.from_residual.result c.in_err-text.field-0.0 _ c.from_residual.ensures.1
    (λ e id is. c.in_err-text.ensures.refused e (id_text id) (id_is_text id))

pub returns-in-Some-clause-valid : goal.returns-in-Some-clause-valid
returns-in-Some-clause-valid c = parsed_id c.deref.result.now c.in-Some.id c.in-Some.ensures

pub returns-clause-refused : goal.returns-clause-refused
returns-clause-refused c =
    λ _. no_id c.deref.result.now (column c.args.row.now 1) c.in-None.ensures
    (c.in_ok-text.ensures.value ∙ ap Text (sym c.deref.ensures))
