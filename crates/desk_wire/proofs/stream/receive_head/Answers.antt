use Rattle.std.proofs.Common.{◌+◌, ◌∷◌, [], length, length-append, arith, sym, ap, subst, ◌∙◌}
use Rattle.std.proofs.KnownBytes.{Consumes-trans}
use Rattle.std.specs.Io.KnownBytes.{Consumes}
use Rattle.request_parser.specs.Heads.{ends_head}
use Rattle.desk_wire.proofs.FrontLemmas.{HasNone, reported_cut, one_more, some_count}
use Rattle.desk_wire.proofs.stream.receive_head.Goals as goal

pub returns-else-is_empty-clause-fault : goal.returns-else-is_empty-clause-fault
returns-else-is_empty-clause-fault g c =
    let text = c.loop.text.items in
    reported_cut _ _ _ text c.loop.invariant.taken (rw c.in_default.is at c.in_ok-byte.ensures.taken)
    (c.in_ok-byte.ensures.end c.in_default.is)
    (some_count c.loop.text.len (length text) c.if-is_empty.ensures (sym c.loop.text.ok.0))
    c.loop.invariant.none
    (sym (c.if-is_ended.ensures ∙ ap ends_head c.deref.ensures.value))
    (omega (arith, c.loop.invariant.count, c.loop-test.true))

pub loop-preserved : goal.loop-preserved
loop-preserved g c =
    let text = c.loop.text.items in
    let b = c.in-Some.byte in
    let grown = c.in_ok-extend_from_slice.ensures.items in
    let fails = sym (c.if-is_ended.ensures ∙ ap ends_head c.deref.ensures.value) in
    record {
      taken =
          subst (Consumes (g.R.Read.remaining c.args.input.now) (g.R.Read.remaining c.receive_byte.new.input))
          (sym grown)
          (Consumes-trans _ _ _ text (b ∷ []) c.loop.invariant.taken
          (rw c.in-Some.is at c.in_ok-byte.ensures.taken));
      count = ap length grown ∙ length-append text (b ∷ []) ∙ ap (λ n. n + 1) c.loop.invariant.count;
      none = subst HasNone (sym grown) (one_more text b c.loop.invariant.none fails);
      limit = c.receive_byte.ensures.limit ∙ c.loop.invariant.limit;
    }
