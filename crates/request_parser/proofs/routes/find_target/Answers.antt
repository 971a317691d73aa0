use Rattle.std.proofs.Common.{refl}
use Rattle.std.proofs.lemmas.Str.{is_utf8-from_IsUtf8}
use Rattle.request_parser.specs.Routes.{route_in}
use Rattle.request_parser.proofs.RouteLemmas.{is_utf8-false}
use Rattle.request_parser.proofs.routes.find_target.Goals as goal

pub returns-in-Err : goal.returns-in-Err
unfolding route_in
returns-in-Err c = let reported = c.in-Err.ensures.cases in rw (is_utf8-false c.args.target.now reported.0) refl

pub returns-in-Ok : goal.returns-in-Ok
unfolding route_in
returns-in-Ok c =
    let reported = c.in-Ok.ensures.cases in
    rw (is_utf8-from_IsUtf8 c.args.target.now reported.1)
    (rw (c.read_path.ensures, reported.0) at c.find_route.ensures)
