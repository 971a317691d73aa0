use Rattle.desk_sql.proofs.lemmas.Rowid.{one_taken}
use Rattle.desk_sql.proofs.opening.numbers.RowidsRowVisitor.take.Goals as goal

pub returns-clause-taken : goal.returns-clause-taken
returns-clause-taken c = λ rows so.
    one_taken rows c.args.row.now c.args.self.now.rise c.add.new.self.rise c.args.self.now.last
    c.add.new.self.last so c.add.ensures
