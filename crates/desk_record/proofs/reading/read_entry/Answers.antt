use Rattle.std.proofs.Common.{◌≡◌, arith, length, ap, sym, ◌∙◌}
use Rattle.std.specs.Option.{option_map}
use Rattle.desk_record.specs.Record.{are_bytes_intact, parsed_line, line_parts}
use Rattle.desk_record.proofs.ReadLemmas.{lacks_bytes, none_there, not_line, some_there, sound, unsound}
use Rattle.desk_record.proofs.reading.read_entry.Goals as goal

pub returns-in_default-clause-fault : goal.returns-in_default-clause-fault
returns-in_default-clause-fault g c =
    let text = c.in_ok-text.text.items in
    let long : length text ≡ 86 =
    omega (arith, c.in_ok-text.ensures.within, c.if-len-lt-LINE_LEN.false, c.len.ensures) in
    not_line _ _ text c.in_ok-text.ensures.taken long
    (ap parsed_line (sym c.deref.ensures.value) ∙ sym c.in_ok-line.ensures
    ∙ ap (option_map line_parts) c.in_default.is)

pub returns-then-is_empty-2-clause-fault : goal.returns-then-is_empty-2-clause-fault
returns-then-is_empty-2-clause-fault g c =
    let text = c.in_ok-text.text.items in
    let long : length text ≡ 86 =
    omega (arith, c.in_ok-text.ensures.within, c.if-len-lt-LINE_LEN.false, c.len.ensures) in
    let none = none_there c.in_ok-last.last.len (length c.in_ok-last.last.items) c.if-is_empty-2.ensures
    c.in_ok-last.last.ok.0 in
    lacks_bytes _ _ text c.in_ok-text.ensures.taken long (line_parts c.in-Some.line)
    (ap parsed_line (sym c.deref.ensures.value) ∙ sym c.in_ok-line.ensures
    ∙ ap (option_map line_parts) c.in-Some.is)
    _ _ c.in_ok-bytes.bytes.items c.in_ok-last.last.items c.in_ok-bytes.ensures.taken
    c.in_ok-bytes.ensures.within c.in_ok-last.ensures.taken none
    (c.in_ok-last.ensures.end (omega (arith, none)))

pub returns-then-not-branch-clause-fault : goal.returns-then-not-branch-clause-fault
returns-then-not-branch-clause-fault g c =
    let text = c.in_ok-text.text.items in
    let long : length text ≡ 86 =
    omega (arith, c.in_ok-text.ensures.within, c.if-len-lt-LINE_LEN.false, c.len.ensures) in
    let reported =
    (λ i. are_bytes_intact (line_parts c.in-Some.line) (sym c.deref-2.ensures.value i)
    (sym c.deref-3.ensures.value i))
    ∙ sym c.in_ok-is_intact.ensures ∙ c.if-not-branch.true in
    unsound _ _ text c.in_ok-text.ensures.taken long (line_parts c.in-Some.line)
    (ap parsed_line (sym c.deref.ensures.value) ∙ sym c.in_ok-line.ensures
    ∙ ap (option_map line_parts) c.in-Some.is)
    _ _ c.in_ok-bytes.bytes.items c.in_ok-last.last.items c.in_ok-bytes.ensures.taken
    c.in_ok-bytes.ensures.within c.in_ok-last.ensures.taken reported
    (some_there c.in_ok-last.last.len (length c.in_ok-last.last.items) c.if-is_empty-2.ensures
    c.in_ok-last.last.ok.0) c.in_ok-last.ensures.within
    c.in_ok-bytes.ensures.end

pub returns-clause-entry : goal.returns-clause-entry
returns-clause-entry g c =
    let text = c.in_ok-text.text.items in
    let long : length text ≡ 86 =
    omega (arith, c.in_ok-text.ensures.within, c.if-len-lt-LINE_LEN.false, c.len.ensures) in
    let reported =
    (λ i. are_bytes_intact (line_parts c.in-Some.line) (sym c.deref-2.ensures.value i)
    (sym c.deref-3.ensures.value i))
    ∙ sym c.in_ok-is_intact.ensures ∙ c.if-not-branch.false in
    sound _ _ text c.in_ok-text.ensures.taken long (line_parts c.in-Some.line)
    (ap parsed_line (sym c.deref.ensures.value) ∙ sym c.in_ok-line.ensures
    ∙ ap (option_map line_parts) c.in-Some.is)
    _ _ c.in_ok-bytes.bytes.items c.in_ok-last.last.items c.in_ok-bytes.ensures.taken
    c.in_ok-bytes.ensures.within c.in_ok-last.ensures.taken reported
