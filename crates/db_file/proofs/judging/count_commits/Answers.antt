use Rattle.std.proofs.Common.{◌≡◌, ◌+◌, true, false, sym, arith, rules, ◌∙◌}
use Rattle.db_file.proofs.CountLemmas.{one_at_most, begins, before_next, ends_here, goes_on, ends_behind}
use Rattle.db_file.proofs.ReadLemmas.{begins_read, frame_more}
use Rattle.db_file.proofs.judging.count_commits.Goals as goal

pub loop-init : goal.loop-init
loop-init g c = record {
  few = search rules;
  counted = λ page stop bytes len head first. begins page stop bytes _ _ first;
  read = begins_read (g.R.Read.remaining c.args.log.now);
}

pub returns-then-not-has_salts-clause-value : goal.returns-then-not-has_salts-clause-value
returns-then-not-has_salts-clause-value g c page stop bytes len head first =
    let here = c.loop.invariant.counted page stop bytes len head first in
    let is_not : c.has_salts.result ≡ false = search rules in
    let unsalted = sym c.has_salts.ensures ∙ is_not in
    ends_here page stop c.loop.counter _ bytes _ _ _ head here unsalted

pub loop-preserved : goal.loop-preserved
loop-preserved g c = record {
  few = omega (arith, c.loop.invariant.few, one_at_most _ _ c.commits_ended.ensures);
  counted = λ page stop bytes len head first.
      let n = c.loop.counter in
      let here = c.loop.invariant.counted page stop bytes len head first in
      let is_so : c.has_salts.result ≡ true = search rules in
      let salted = sym c.has_salts.ensures ∙ is_so in
      let behind = before_next page stop n _ bytes _ _ _ head here in
      let next =
      rw c.if-not-branch.false at (c.in_ok-next_frame.ensures.value page (stop + (n + 1)) bytes
      (c.loop.auto.frame ∙ len) behind) in
      goes_on page stop n _ bytes _ _ _ head here _ c.commits_ended.ensures salted _ _ next;
  read = frame_more _ _ _ _ c.loop.counter c.loop.invariant.read
      (omega (arith, c.requires, c.loop.auto.frame, c.next_frame.auto.frame))
      (c.in_ok-next_frame.ensures.read c.if-not-branch.false);
}

pub returns-then-not-branch-clause-value : goal.returns-then-not-branch-clause-value
returns-then-not-branch-clause-value g c page stop bytes len head first =
    let n = c.loop.counter in
    let here = c.loop.invariant.counted page stop bytes len head first in
    let is_so : c.has_salts.result ≡ true = search rules in
    let salted = sym c.has_salts.ensures ∙ is_so in
    let behind = before_next page stop n _ bytes _ _ _ head here in
    let next =
    rw c.if-not-branch.true at (c.in_ok-next_frame.ensures.value page (stop + (n + 1)) bytes
    (c.loop.auto.frame ∙ len) behind) in
    ends_behind page stop n _ bytes _ _ _ head here _ c.commits_ended.ensures salted next
