use Rattle.std.proofs.Common.{◌+◌, ◌<◌, ◌≡◌, min, take, length, sym, arith}
use Rattle.request_parser.specs.WireLimits.{head_room}
use Rattle.request_parser.specs.Heads.{ends_head, head_len}
use Rattle.request_parser.proofs.FramingLemmas.{least_found}
use Rattle.request_parser.proofs.framing.head_length.Goals as goal

pub returns-then-is_ended-clause-shortest : goal.returns-then-is_ended-clause-shortest
unfolding head_len
returns-then-is_ended-clause-shortest c =
    let below : c.loop-n.n < min (length c.args.text.now) head_room + 1 = omega arith in
    sym (least_found (λ n. ends_head (take n c.args.text.now)) c.loop-n.n _ c.loop-n.invariant
    (sym c.if-is_ended.ensures) below)

pub returns-clause-shortest : goal.returns-clause-shortest
unfolding head_len
returns-clause-shortest c =
    let all : c.loop-n.n ≡ min (length c.args.text.now) head_room + 1 = omega arith in
    sym (rw all at c.loop-n.invariant)
