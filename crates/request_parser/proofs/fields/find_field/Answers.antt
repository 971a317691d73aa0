use Rattle.std.proofs.Common.{◌≡◌, ap, sym, ◌∙◌}
use Rattle.httparse.specs.declared.spans.HeaderSpan.{HeaderSpan}
use Rattle.std.specs.Str.{str_eq_ignore_ascii_case}
use Rattle.request_parser.specs.Heads.{count_shown, once}
use Rattle.request_parser.proofs.FieldLemmas.{same_name-from, first_found, further_found, once_of-passed}
use Rattle.request_parser.proofs.fields.find_field.Goals as goal
use Rattle.request_parser.proofs.fields.find_field.Goals.{then-eq_ignore_ascii_case+in-Absent, then-eq_ignore_ascii_case+in_default, else-eq_ignore_ascii_case}

pub loop-header-preserved : goal.loop-header-preserved
loop-header-preserved c =
    let name = c.args.name.now in
    let text = c.args.text.now in
    let headers = c.args.headers.now in
    let i = c.loop-header.header-index in
    let below = c.loop-header-test.true in
    let sofar = c.loop-header.invariant in
    let empty : HeaderSpan = record {
      name = record { start = 0; end = 0 };
      value = record { start = 0; end = 0 };
    } in
    let test : c.eq_ignore_ascii_case.result ≡ str_eq_ignore_ascii_case _ name =
    same_name-from _ name c.eq_ignore_ascii_case.result
    (rw c.of.ensures at c.eq_ignore_ascii_case.ensures.test) in
    elim c.if-eq_ignore_ascii_case.branch [
      | then-eq_ignore_ascii_case+in-Absent w ↦
          first_found c.loop-header.found _ name text headers i empty below sofar w.in-Absent.is
          (sym test ∙ w.if-eq_ignore_ascii_case.true)
          (ap count_shown w.found-is ∙ ap once w.of-in-Absent.ensures)
      | then-eq_ignore_ascii_case+in_default w ↦
          ap count_shown w.found-is
          ∙ further_found c.loop-header.found name text headers i empty below sofar
          w.in_default.not-Absent
          (sym test ∙ w.if-eq_ignore_ascii_case.true)
      | else-eq_ignore_ascii_case w ↦
          ap count_shown w.found-is ∙ sofar
          ∙ sym (once_of-passed name text headers i empty below
          (sym test ∙ w.if-eq_ignore_ascii_case.false))
    ]
