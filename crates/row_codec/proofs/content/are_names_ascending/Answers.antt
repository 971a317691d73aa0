use Rattle.std.proofs.Common.{sym}
use Rattle.std.proofs.lemmas.Cmp.{on_total}
use Rattle.std.specs.Cmp.Lexicographic.{nat_list_cmp_total}
use Rattle.desk_store.specs.World.{Listed, listed_cmp}
use Rattle.row_codec.proofs.AscendLemmas.{goes_on, stops, ends, empty}
use Rattle.row_codec.proofs.content.are_names_ascending.Goals as goal

pub loop-first-preserved : goal.loop-first-preserved
loop-first-preserved c =
    goes_on listed_cmp (on_total (λ (l : Listed). l.name) nat_list_cmp_total) c.args.operators.now
    c.loop-first.left.now c.in-Some.later.now c.in-Some.first.now c.loop-first.invariant
    c.in-Some.ensures.cases.0 (sym c.if-not-name_is_below.ensures)

pub returns-then-not-name_is_below : goal.returns-then-not-name_is_below
returns-then-not-name_is_below c =
    stops listed_cmp (on_total (λ (l : Listed). l.name) nat_list_cmp_total) c.args.operators.now
    c.loop-first.left.now c.in-Some.later.now c.in-Some.first.now c.loop-first.invariant
    c.in-Some.ensures.cases.0 (sym c.if-not-name_is_below.ensures)

pub returns : goal.returns
returns c = ends listed_cmp (on_total (λ (l : Listed). l.name) nat_list_cmp_total) c.args.operators.now
    c.loop-first.left.now c.loop-first.invariant (empty c.loop-first.left.now c.in_default.ensures.cases)
