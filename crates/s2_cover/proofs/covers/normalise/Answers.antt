use Rattle.std.proofs.Common.{◌≡◌, length, sym, ap, ◌∙◌, rules, arith}
use Rattle.std.proofs.lemmas.List.Sorted.{IsNonDecreasingBy-from_sort_by_key}
use Rattle.s2_cellid.specs.Cell.{first_leaf}
use Rattle.s2_cover.specs.Covers.{leaves_of, spans_have}
use Rattle.s2_cover.proofs.Laid.{canonical_same}
use Rattle.s2_cover.proofs.Merging.{given_leaves, some_kept}
use Rattle.s2_cover.proofs.covers.normalise.Goals as goal

pub of_sorted-requires : goal.of_sorted-requires
of_sorted-requires c =
    rw c.deref.ensures.value
    (IsNonDecreasingBy-from_sort_by_key first_leaf _ c.sort_unstable_by_key.ensures.sorted
    (λ a r q k. search rules))

pub invariant_of-result : goal.invariant_of-result
invariant_of-result c =
    let reported = c.in_ok-cells.ensures in
    let ids = c.in_ok-cells.cells.items in
    canonical_same (spans_have c.spans.result.now) (leaves_of ids) ids (λ p. sym (reported.leaves p))
    reported.canonical

pub returns-clause-canonical : goal.returns-clause-canonical
returns-clause-canonical c =
    let reported = c.in_ok-cells.ensures in
    let given =
    given_leaves c.args.cells.now c.in_ok-sorted.sorted.items
    c.sort_unstable_by_key.new.self.items c.deref.result.now c.spans.result.now
    c.in_ok-ranges.ranges c.in_ok-sorted.ensures.items c.sort_unstable_by_key.ensures.permutation
    c.deref.ensures.value c.in_ok-ranges.ensures.ranges c.spans.ensures.value in
    canonical_same (spans_have c.spans.result.now) (leaves_of c.args.cells.now)
    c.in_ok-cells.cells.items given reported.canonical

pub returns-clause-leaves : goal.returns-clause-leaves
returns-clause-leaves c p =
    let reported = c.in_ok-cells.ensures in
    let given =
    given_leaves c.args.cells.now c.in_ok-sorted.sorted.items
    c.sort_unstable_by_key.new.self.items c.deref.result.now c.spans.result.now
    c.in_ok-ranges.ranges c.in_ok-sorted.ensures.items c.sort_unstable_by_key.ensures.permutation
    c.deref.ensures.value c.in_ok-ranges.ensures.ranges c.spans.ensures.value in
    reported.leaves p ∙ given p

pub returns-clause-some : goal.returns-clause-some
returns-clause-some c given =
    let ranges = c.in_ok-ranges.ranges in
    let as_long : length c.deref.result.now ≡ length c.args.cells.now =
    omega (arith, c.deref.ensures.len, c.sort_unstable_by_key.ensures.len, c.in_ok-sorted.ensures.len) in
    some_kept ranges c.in_ok-cells.cells.items c.in_ok-ranges.ensures.ranges.each
    (λ p. c.in_ok-cells.ensures.leaves p ∙ ap (λ spans. spans_have spans p) c.spans.ensures.value)
    (c.in_ok-ranges.ensures.some (omega (arith, given, as_long)))
