use Rattle.std.proofs.Common.{◌<◌, ◌++◌, IfSome, refl, sym, ap, subst, ◌∙◌, length}
use Rattle.desk_wire.specs.Streams.{IsCut, IsTaken, front_parsed, front_result, size_or_zero, with_body}
use Rattle.desk_wire.proofs.FrontLemmas.{some_count, reported_cut_body}
use Rattle.desk_wire.proofs.ServeLemmas.{received, stopped_so}
use Rattle.desk_wire.proofs.stream.receive_request.Goals as goal

pub returns-in_err-body-clause-fault : goal.returns-in_err-body-clause-fault
returns-in_err-body-clause-fault g c =
    let head = c.in_ok-request.request.items in
    let some = some_count c.in_ok-request.request.len (length head) c.if-is_empty.ensures
    (sym c.in_ok-request.request.ok.0) in
    let front = c.parse_front.ensures ∙ ap front_parsed c.deref.ensures.value in
    let size = c.body_size.ensures ∙ ap size_or_zero front in
    stopped_so (IfSome (g.R.Read.remaining c.receive_head.new.input) (λ rest. length rest < c.body_size.result))
    (IfSome (g.R.Read.remaining c.args.input.now) IsCut)
    c.from_residual-in_err-body.result c.in_err-body.field-0.0
    c.from_residual-in_err-body.ensures.1 c.in_err-body.ensures.fault
    (λ short. reported_cut_body (g.R.Read.remaining c.args.input.now)
    (g.R.Read.remaining c.receive_head.new.input) head c.in_ok-request.ensures.taken some
    (c.in_ok-request.ensures.front some)
    (subst (λ n. IfSome (g.R.Read.remaining c.receive_head.new.input) (λ rest. length rest < n)) size short))

pub returns-clause-taken : goal.returns-clause-taken
returns-clause-taken g c =
    let head = c.in_ok-request.request.items in
    let body = c.in_ok-body.body.items in
    let some = some_count c.in_ok-request.request.len (length head) c.if-is_empty.ensures
    (sym c.in_ok-request.request.ok.0) in
    let front = c.parse_front.ensures ∙ ap front_parsed c.deref.ensures.value in
    let got = received (g.R.Read.remaining c.args.input.now) (g.R.Read.remaining c.receive_head.new.input)
    (g.R.Read.remaining c.receive_body.new.input) head body (front_result c.parse_front.result)
    (with_body (front_result c.parse_front.result) body)
    c.in_ok-request.ensures.taken (c.in_ok-request.ensures.front some) front c.in_ok-body.ensures.taken
    (c.in_ok-body.ensures.size ∙ c.body_size.ensures) refl in
    λ some. subst (IsTaken (g.R.Read.remaining c.args.input.now) (g.R.Read.remaining c.receive_body.new.input))
    (sym (rw c.deref-2.ensures.value at c.in_ok-extend_from_slice.ensures.items)) got.taken
