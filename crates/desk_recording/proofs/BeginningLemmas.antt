-- The beginning of a record, entry by entry.
use Rattle.std.proofs.Common.{◌≡◌, ℕ, ◌+◌, List, [], ◌∷◌, ◌++◌, map, refl, sym, ap, ◌∙◌, append_assoc, append-nil, add-one}
use Rattle.std.specs.Prelude.{option_to_list}
use Rattle.desk_rules.specs.declared.terms.Terms.{Terms}
use Rattle.desk_cli.specs.declared.line.Enrolment.{Enrolment}
use Rattle.desk_record.specs.Record.{EntryParts, entries, entry}
use Rattle.desk_record.specs.declared.kind.Kind.TheVariants as kind
use Rattle.desk_recording.specs.RecordWrites.{header, limit_entry, permitted_below, permitted_if, record_entry}
use Rattle.desk_program.specs.Enrolling.{operator_entry}

entries_both : (es more : List EntryParts) → entries (es ++ more) ≡ entries es ++ entries more
entries_both [] more = refl
entries_both (e ∷ es) more =
    ap (λ rest. entry e ++ rest) (entries_both es more) ∙ sym (append_assoc (entry e) (entries es)
    (entries more))

-- entries behind a text, and more behind these
two_more : (old mid new : List ℕ) (es more : List EntryParts) → mid ≡ old ++ entries es
    → new ≡ mid ++ entries more → new ≡ old ++ entries (es ++ more)
two_more old mid new es more before next =
    next ∙ ap (λ text. text ++ entries more) before ∙ append_assoc old (entries es) (entries more)
    ∙ ap (λ text. old ++ text) (sym (entries_both es more))

-- no priority is below the first
pub none_permitted : (permitted old : List ℕ) → old ≡ old ++ entries (permitted_below 0 permitted)
unfolding permitted_below
none_permitted permitted old = sym (append-nil old)

-- one priority more
pub one_permitted : (n : ℕ) (permitted old mid new : List ℕ)
    → mid ≡ old ++ entries (permitted_below n permitted) → new ≡ mid ++ entries (permitted_if permitted n)
    → new ≡ old ++ entries (permitted_below (n + 1) permitted)
unfolding permitted_below
one_permitted n permitted old mid new before next =
    two_more old mid new (permitted_below n permitted) (permitted_if permitted n) before next
    ∙ ap (λ k. old ++ entries (permitted_below k permitted)) (sym (add-one n))

-- the parts of a beginning, one after the other
pub is_header : (n : ℕ) (terms : Terms) (operators : List Enrolment)
    (none first second third fourth text : List ℕ) → none ≡ [] → first ≡ none ++ entry (record_entry n)
    → second ≡ first ++ entries (permitted_below 1001 terms.permitted)
    → third ≡ second ++ entries (map (limit_entry kind.Spans) (option_to_list terms.spans))
    → fourth ≡ third ++ entries (map (limit_entry kind.Cells) (option_to_list terms.cells))
    → text ≡ fourth ++ entries (map operator_entry operators) → text ≡ entries (header n terms operators)
is_header n terms operators none first second third fourth text empty one two three four five =
    let permitted = permitted_below 1001 terms.permitted in
    let spans = map (limit_entry kind.Spans) (option_to_list terms.spans) in
    let cells = map (limit_entry kind.Cells) (option_to_list terms.cells) in
    let listed = map operator_entry operators in
    let begun : first ≡ entry (record_entry n) = one ∙ ap (λ x. x ++ entry (record_entry n)) empty in
    let limits : fourth ≡ second ++ entries (spans ++ cells) =
    two_more second third fourth spans cells three four in
    let reported : fourth ≡ entry (record_entry n) ++ entries (permitted ++ (spans ++ cells)) =
    two_more (entry (record_entry n)) second fourth permitted (spans ++ cells)
    (two ∙ ap (λ x. x ++ entries permitted) begun) limits in
    two_more (entry (record_entry n)) fourth text (permitted ++ (spans ++ cells)) listed reported five
