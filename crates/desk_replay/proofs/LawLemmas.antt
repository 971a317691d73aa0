-- What a desk wrote is played again.
use Rattle.std.proofs.Common.{◌≡◌, ◌≤◌, ℕ, pos, List, [], ◌∷◌, map, Option, Some, None, Ok, Bool, true, false, refl, sym, ap, ◌∙◌, arith, eq-eqb}
use Rattle.std.specs.Prelude.{IsSome, is_none, is_some, nat_lt, not, ◌&&◌, ◌||◌, if◌then◌else◌}
use Rattle.std.specs.List.{AllByRecursion}
use Rattle.std.specs.Str.{bytes_eq}
use Rattle.std.proofs.lemmas.Bool.Decides.{nat_tests}
use Rattle.std.proofs.lemmas.Slice.Eq.{bytes_eq-Decides}
use Rattle.request_parser.specs.Requests.{asked}
use Rattle.desk_wire.specs.Bytes.{world_left, makes_change_for, text_for, world_after}
use Rattle.desk_replay.specs.Replaying.{AskingParts, State, answer_outcome, asked_now, answered_by, counted, is_failure, is_first, last_moment, played, requested, taken, then_taken, with_change, TimedRequest, IsTimely, answering_entry, asking_entry, sent, written}

-- the state in which a request waits for its answer, and the one after it
asked_of : State → TimedRequest → State
asked_of s r = record s {
  world = world_after s.world (pos r.second) (asked r.request);
  asking = Some (record {
    second = r.second;
    request = r.request;
    answer = text_for s.world (pos r.second) (asked r.request);
    before = None;
    reopened = false;
    made_change = makes_change_for s.world (pos r.second) (asked r.request);
  });
  requests = counted None s.requests;
  changes = with_change false (makes_change_for s.world (pos r.second) (asked r.request)) s.changes;
}

after : State → TimedRequest → State
after s r = record s {
  world = world_after s.world (pos r.second) (asked r.request);
  asking = None;
  requests = counted None s.requests;
  changes = with_change false (makes_change_for s.world (pos r.second) (asked r.request)) s.changes;
}

begun_is : (n : Option ℕ) → IsSome n → is_none n ≡ false
begun_is None h = cc
begun_is (Some n) h = refl

timely : (n : ℕ) → n ≤ last_moment → nat_lt last_moment n ≡ false
timely n low = grind (arith, nat_tests)

is_asked : (s : State) (r : TimedRequest) → IsSome s.record_number → s.asking ≡ None → IsTimely r
    → taken s (asking_entry r) ≡ Ok (asked_of s r)
unfolding taken requested asked_of
is_asked s r begun none low = rw (begun_is s.record_number begun, timely r.second low, none) refl

same : (xs : List ℕ) → bytes_eq xs xs ≡ true
same xs = (bytes_eq-Decides xs xs).1 refl

is_answered : (s : State) (r : TimedRequest) → IsSome s.record_number
    → taken (asked_of s r) (answering_entry s.world r) ≡ Ok (after s r)
unfolding taken answer_outcome asked_of after
is_answered s r begun =
    rw (
      begun_is s.record_number begun,
      eq-eqb r.second r.second refl,
      same (text_for s.world (pos r.second) (asked r.request)),
    ) refl

pub is_replayed : (s : State) (rs : List TimedRequest) → IsSome s.record_number → s.asking ≡ None
    → AllByRecursion IsTimely rs → (t : State) × (played s (written s.world rs) ≡ Ok t)
    × (t.world ≡ world_left s.world (map sent rs)) × (t.asking ≡ None)
unfolding played after
is_replayed s [] begun none low = (s, refl, refl, none)
is_replayed s (r ∷ rs) begun none low =
    let rest = is_replayed (after s r) rs begun refl low.1 in (
      rest.0,
      ap (then_taken (λ t. played t (answering_entry s.world r ∷ written (after s r).world rs)))
          (is_asked s r begun none low.0)
          ∙ ap (then_taken (λ t. played t (written (after s r).world rs))) (is_answered s r begun) ∙ rest.1,
      rest.2,
      rest.3,
    )
