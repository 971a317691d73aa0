-- What the status of a line of `enrol` says.
use Rattle.std.proofs.Common.{◌≡◌, ◌∙◌, ℕ, List, Option, inl, inr, sym}
use Rattle.desk_store.specs.declared.store.PlanStore.{Ghosts}
use Rattle.desk_store.specs.Changes.{IsHonest}
use Rattle.desk_run.specs.Verdicts.{DeskWorld, Parts, enrolled, world_of}
use Rattle.desk_wire.specs.Streams.{Course, Passage}
use Rattle.desk_cli.specs.declared.line.EnrolArgs.{EnrolArgs}
use Rattle.desk_cli.specs.declared.line.Enrolment.{Enrolment}
use Rattle.desk_cli.specs.declared.line.Line.TheVariants as line
use Rattle.desk_cli.specs.Exits.{Ending, IsBrokenDown}
use Rattle.desk_program.specs.Keeping.{EndsWithStatus}
use Rattle.desk_program.specs.Enrolling.{IsEnrolled}

-- with status 0 the operator is listed, since each failure has another status
listed_at : (H : Type 0) (e : Enrolment) (end : Ending) (writes : Course (Option (List ℕ)))
    (w after : DeskWorld) → end.status ≡ 0 → IsEnrolled H e end writes w after → H
    → after ≡ enrolled w e.operator e.ceiling
listed_at H e end writes w after is (inl done) h = done.2 h
listed_at H e end writes w after is (inr (inl cut)) h = let other : ◌≡◌ {A = ℕ} 0 4 = sym is ∙ cut.0.0 in cc
listed_at H e end writes w after is (inr (inr down)) h = by_cause down.0 where
  by_cause : IsBrokenDown end → after ≡ enrolled w e.operator e.ceiling
  by_cause (inl memory) = let other : ◌≡◌ {A = ℕ} 0 4 = sym is ∙ memory.0 in cc
  by_cause (inr store) = let other : ◌≡◌ {A = ℕ} 0 4 = sym is ∙ store.0 in cc

pub listed_if_0 : {S : Type 0} (g : Ghosts S) (enrol : EnrolArgs) (status : ℕ) (bytes : Passage)
    (errors : Course (Option (List ℕ))) (old new : Parts S)
    → EndsWithStatus g (line.Enrol enrol) status bytes errors old new → status ≡ 0
    → IsHonest (g.doubt new.store)
    → world_of g.content new
    ≡ enrolled (world_of g.content old) enrol.enrolment.operator enrol.enrolment.ceiling
listed_if_0 g enrol status bytes errors old new ended is honest =
    listed_at _ enrol.enrolment (record {
      status = status;
      cut = ended.cut;
      before = errors.before;
      now = errors.after;
    }) bytes.writes _ _ is ended.carried.done.2 honest
