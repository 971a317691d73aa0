use Rattle.std.proofs.Common.{◌++◌, ap, ◌∙◌}
use Rattle.desk_record.proofs.LineLemmas.{front_written}
use Rattle.desk_record.proofs.line.write_line_fields.Goals as goal

pub returns : goal.returns
returns c =
    front_written _ _ _ _ _ _ _ _ _ _ _ _ _ _ c.word.ensures c.in_ok-extend_from_slice.ensures.items
    c.in_ok-extend_from_slice-2.ensures.items c.in_ok-write_number.ensures
    c.in_ok-extend_from_slice-3.ensures.items c.in_ok-write_number-2.ensures
    c.in_ok-extend_from_slice-4.ensures.items
    (c.in_ok-extend_from_slice-5.ensures.items
    ∙ ap (λ x. c.extend_from_slice-4.new.self.items ++ x) c.deref.ensures.value)
    c.in_ok-extend_from_slice-6.ensures.items
