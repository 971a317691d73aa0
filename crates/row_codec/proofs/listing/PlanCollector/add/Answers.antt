use Rattle.std.proofs.Common.{IsSomeAnd, sym, ap, subst, ◌∙◌}
use Rattle.row_codec.proofs.JoinLemmas.{ReadsHead, adds_first, adds_later}
use Rattle.row_codec.proofs.listing.PlanCollector.add.Goals as goal
use Rattle.row_codec.proofs.listing.PlanCollector.add.Goals.{then-not-is_later+in_ok-begin_plan, else-not-is_later+else-is_none}

pub returns-clause-leads : goal.returns-clause-leads
returns-clause-leads c = λ ps left h leads. elim c.if-not-is_later.branch [
  | then-not-is_later+in_ok-begin_plan w ↦
      adds_first c.args.self.now.plans.items c.args.self.now.head c.args.self.now.volumes.items
      c.args.row.now
      left ps h leads c.in_ok-volume_in.field-0 c.in_ok-volume_in.ensures.value
      c.if-not-is_later.self.plans.items c.if-not-is_later.self.head
      c.if-not-is_later.self.volumes.items
      c.push.new.self.items c.in_ok-push.ensures.items
      (sym c.is_later.ensures ∙ w.if-not-is_later.true)
      (ap (λ s. s.plans.items) w.self-is ∙ w.in_ok-begin_plan.ensures.plans)
      (subst (λ head. IsSomeAnd head (ReadsHead c.args.row.now)) (sym (ap (λ s. s.head) w.self-is))
      w.in_ok-begin_plan.ensures.head)
      (ap (λ s. s.volumes.items) w.self-is ∙ w.in_ok-begin_plan.ensures.volumes)
  | else-not-is_later+else-is_none w ↦
      adds_later c.args.self.now.plans.items c.args.self.now.head c.args.self.now.volumes.items
      c.args.row.now
      left ps h leads c.in_ok-volume_in.field-0 c.in_ok-volume_in.ensures.value
      c.if-not-is_later.self.plans.items c.if-not-is_later.self.head
      c.if-not-is_later.self.volumes.items
      c.push.new.self.items c.in_ok-push.ensures.items
      (sym c.is_later.ensures ∙ w.if-not-is_later.false) (ap (λ s. s.plans.items) w.self-is)
      (ap (λ s. s.head) w.self-is) (ap (λ s. s.volumes.items) w.self-is)
]
