-- A query with parameters that is refused for no cause of its own.
use Rattle.std.proofs.Common.{◌≡◌, ◌≤◌, ℕ, List, [], length, None, Result, Ok, Err, refl, subst, sym, inl, inr}
use Rattle.sqlite.specs.Order.{Row}
use Rattle.sqlite.specs.Tree.{Trees}
use Rattle.sqlite.specs.Query.{Query}
use Rattle.sqlite.specs.Command.TheVariants.{Select}
use Rattle.sqlite.specs.Program.{overlay}
use Rattle.sqlite_sql.specs.Program.{QueryOverflows}
use Rattle.sqlite.specs.Effect.{IsShown}
use Rattle.sqlite.specs.Listing.{understood}
use Rattle.sqlite.specs.Given.{IsPlain}
use Rattle.sqlite_resolve.specs.declared.compiled.Compiled.{Compiled}
use Rattle.sqlite_resolve.specs.declared.error.CompileError.{CompileError}
use Rattle.sqlite.proofs.Callers.{command_of}
use Rattle.sqlite.specs.Schema.{Schema}
use Rattle.desk_sql.specs.Schema.{Beside, desk_with, beside_of}
use Rattle.desk_sql.specs.Statements.{NeverRefuses, IsSimple, IsSureGiven, IsSureFor, IsSureMeaning}
use Rattle.desk_sql.proofs.lemmas.QueryTexts.{IsQuery}
use Rattle.desk_sql.proofs.lemmas.Stop.{names_in, tail_of}

-- the query's types do not fit what it is given
abbrev pub Misfits : Query → Schema → Trees → Row → Type 0
Misfits query schema trees params = IsShown (λ (r : Row). r) (record { schema = schema; trees = trees })
    (record { lets = []; body = query }) params None

-- a query whose types fit, and in which nothing overflows
pub never : (schema : Schema) (query : Query) (names : List (List ℕ)) (params : Row)
    → ((trees : Trees) → ¬ Misfits query schema trees params)
    → ((db : Trees) → ¬ QueryOverflows query (overlay db []) params)
    → NeverRefuses schema (Select (record { lets = []; body = query }) names) params
never schema query names params fits sums limit db e same (inl h) =
    absurd (fits db.trees (subst (λ s. Misfits query s db.trees params) same h.1))
never schema query names params fits sums limit db e same (inr (inl h)) = absurd (sums db.trees h.1)
never schema query names params fits sums limit db e same (inr (inr h)) = h

pub meant : (schema : Schema) (text : List ℕ) (r : Result Compiled CompileError) (query : Query)
    (names : List (List ℕ)) (params : Row)
    → command_of r ≡ Select (record { lets = []; body = query }) names → IsPlain r
    → length params ≡ names_in r → length text ≤ tail_of r
    → NeverRefuses schema (Select (record { lets = []; body = query }) names) params
    → IsSureMeaning schema text params r
meant schema text (Ok c) query names params is plain count whole sure = record {
  bare = plain.0;
  timeless = plain.1;
  given = count;
  whole = whole;
  simple = subst IsSimple (sym is) refl;
  never = subst (λ k. NeverRefuses schema k params) (sym is) sure;
}
meant schema text (Err e) query names params is plain count whole sure = absurd plain

pub sure_given : (text : List ℕ) (query : Query) (names : List (List ℕ)) (params : Row)
    → IsQuery text query names
    → ((beside : Beside) → length params ≡ names_in (understood (desk_with beside) text))
    → ((beside : Beside) → length text ≤ tail_of (understood (desk_with beside) text))
    → ((beside : Beside) (trees : Trees) → ¬ Misfits query (desk_with beside) trees params)
    → ((db : Trees) → ¬ QueryOverflows query (overlay db []) params) → IsSureFor text params
sure_given text query names params known count whole fits sums schema desk =
    let beside = beside_of schema in
    let here = desk_with beside in
    subst (λ s. IsSureGiven s text params) (sym desk.is) (record {
      means = meant here text (understood here text) query names params (known beside).is (known beside).plain
          (count beside) (whole beside) (never here query names params (fits beside) sums);
      unlisted = (known beside).unlisted;
    })
