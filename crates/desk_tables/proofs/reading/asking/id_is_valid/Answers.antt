use Rattle.std.proofs.Common.{IfSome, subst, sym}
use Rattle.desk_store.specs.World.{IsId}
use Rattle.desk_store.proofs.lemmas.Parse.{parsed_id}
use Rattle.desk_tables.proofs.reading.asking.id_is_valid.Goals as goal

pub returns-in-Some : goal.returns-in-Some
returns-in-Some c =
    subst (λ id. IfSome id IsId) (sym c.in-Some.is)
    (parsed_id c.encode.result.now c.in-Some.id c.encode.ensures.parsed)
