use Rattle.request_parser.proofs.RouteLemmas.{behind}
use Rattle.request_parser.proofs.routes.strip_plans_folder.Goals as goal

pub returns : goal.returns
returns c = behind c.args.path.now c.strip_prefix.result c.strip_prefix.ensures.cases
