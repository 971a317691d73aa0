use Rattle.std.proofs.Common.{Bool, subst, sym}
use Rattle.table_load.specs.Moving.{AreNoContentIn, IsContentIn}
use Rattle.table_load.specs.OpeningSteps.{IsRead}
use Rattle.table_load.proofs.looking.load_content_in_schema.Goals as goal

pub returns-then-old-clause-read : goal.returns-then-old-clause-read
returns-then-old-clause-read g c =
    subst (λ (old : Bool). IsRead g.S.Store c.args.connection.now c.load_old_tables.new.connection
    c.load_old_tables.result c.args.made (λ tables found. IsContentIn old tables found.0)
    (AreNoContentIn old)) (sym c.if-old.true) c.load_old_tables.ensures.read
