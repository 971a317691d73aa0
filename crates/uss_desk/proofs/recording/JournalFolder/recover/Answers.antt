use Rattle.std.proofs.Common.{◌≡◌, ◌∙◌, ap, subst, sym}
use Rattle.std.specs.Prelude.{if◌then◌else◌}
use Rattle.desk_host.specs.Operators.{next_number}
use Rattle.uss_desk.proofs.FinishLemmas.{numbered}
use Rattle.uss_desk.proofs.recording.JournalFolder.recover.Goals as goal
use Rattle.uss_desk.proofs.recording.JournalFolder.recover.Goals.{then-is_asked, else-is_asked}

pub returns-clause-kept : goal.returns-clause-kept
returns-clause-kept g c = c.in_ok-recover.ensures.kept

pub returns-clause-number : goal.returns-clause-number
returns-clause-number g c =
    let old = c.args.self.now.number in
    let number = c.in_ok-number.number in
    let new = c.if-is_asked.self.number in
    let same = ap (λ s. s.number) c.in_ok-check_unchanged.ensures.held in
    let asks = sym c.is_some-is_asked.ensures in
    numbered c.args.undone.tail.asked old number new (ap next_number (sym same)
    ∙ sym c.next_number.ensures.next ∙ sym c.in_ok-number.ensures.converted)
    (elim c.if-is_asked.branch [
      | then-is_asked w ↦ subst (λ b. new ≡ (if b then number else old)) (sym (asks ∙ w.if-is_asked.true))
          (ap (λ s. s.number) w.self-is)
      | else-is_asked w ↦ subst (λ b. new ≡ (if b then number else old)) (sym (asks ∙ w.if-is_asked.false))
          (ap (λ s. s.number) w.self-is ∙ same)
    ])
