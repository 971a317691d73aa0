use Rattle.desk_tables.proofs.PutLemmas.{put_is_put}
use Rattle.desk_tables.proofs.laws.a_plan_put_changes_rows.Goals as goal

pub returns : goal.returns
returns c = put_is_put
