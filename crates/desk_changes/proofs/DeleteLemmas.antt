-- What a DELETE finds and takes out.
use Rattle.std.proofs.Common.{◌≡◌, ℕ, Bool, true, false, cond, List, [], ◌∷◌, ◌++◌, map, filter, Ok, refl, sym, ap, ap₂, subst, ◌∙◌, Option}
use Rattle.std.specs.List.{flat_map, list_all}
use Rattle.std.specs.List.Sorted.{IsPermutation}
use Rattle.std.proofs.lemmas.List.Sorted.{IsPermutation-map}
use Rattle.sqlite_keyed.proofs.ListLemmas.{map-map}
use Rattle.sqlite.specs.Order.{Row}
use Rattle.sqlite.specs.declared.types.Value.TheVariants.{Null}
use Rattle.sqlite.specs.Term.{Term, Env, col, eval_all, holds}
use Rattle.sqlite.specs.Query.{Join, inner, end, matches, IsAnswer, output, Output}
use Rattle.sqlite.specs.Program.{overlay}
use Rattle.sqlite.specs.Tree.{Trees, rowid}
use Rattle.sqlite.specs.Edit.{Edit, edit_of}
use Rattle.sqlite.specs.Rowids.TheVariants.{Given}
use Rattle.sqlite.specs.Rows.{Written, Deletes}
use Rattle.sqlite_rules.specs.Calls.{ids_of}
use Rattle.sqlite_rules.specs.Action.{Writes}
use Rattle.sqlite_schema.specs.declared.schema.Column.{Column}
use Rattle.sqlite_schema.specs.declared.schema.Reference.{Reference}
use Rattle.sqlite_schema.specs.declared.schema.Keys.TheVariants.{Enforced}
use Rattle.desk_sql.proofs.lemmas.QueryTexts.{query_of}
use Rattle.desk_sql.proofs.lemmas.Write.{went, same_value, table_at, task_at}
use Rattle.desk_sql.specs.Schema.{Beside, StandsApart, desk_with}

-- the rows that an answer shows
pub answer_shows : (from : Join) (terms project : List Term) (db : Trees) (params : Row)
    (rows : List Row)
    → IsAnswer (query_of from terms project []) db params rows
    → IsPermutation (map (eval_all project) (matches db terms from (params ∷ []))) rows
answer_shows from terms project db params rows a =
    let query = query_of from terms project [] in
    let all = matches db terms from (params ∷ []) in
    let kept : a.kept ≡ map (output query) all = a.distinct ∙ ap (map (output query)) a.grouped in
    let second : map (λ (o : Output). o.1) a.kept ≡ map (eval_all project) all =
    ap (map (λ (o : Output). o.1)) kept ∙ map-map (λ (o : Output). o.1) (output query) all in
    subst (λ xs. IsPermutation xs rows) second (subst (IsPermutation (map (λ (o : Output). o.1) a.kept))
    (sym a.shown) (IsPermutation-map (λ (o : Output). o.1) a.kept a.ordered a.same))

-- those of one table that pass
pub picked : (env : Row → Env) (terms project : List Term) (show : Row → Row) (wanted : Row → Bool)
    → ((r : Row) → eval_all project (env r) ≡ show r)
    → ((r : Row) → list_all (holds (env r)) terms ≡ wanted r)
    → (rows : List Row) → map (eval_all project) (flat_map
    (λ r. cond (list_all (holds (env r)) terms) (env r ∷ []) []) rows) ≡ map show (filter wanted rows)
picked env terms project show wanted shown passes [] = refl
picked env terms project show wanted shown passes (r ∷ rows) =
    go (list_all (holds (env r)) terms) (wanted r) (passes r)
    (picked env terms project show wanted shown passes rows)
  where
    go : (a b : Bool) → a ≡ b → map (eval_all project)
        (flat_map (λ r. cond (list_all (holds (env r)) terms) (env r ∷ []) []) rows)
        ≡ map show (filter wanted rows)
        → map (eval_all project) (cond a (env r ∷ []) []
        ++ flat_map (λ r. cond (list_all (holds (env r)) terms) (env r ∷ []) []) rows)
        ≡ map show (cond b (r ∷ filter wanted rows) (filter wanted rows))
    go true true same more = ap₂ (λ x xs. x ∷ xs) (shown r) more
    go false false same more = more
    go true false same more = cc
    go false true same more = cc

module _ {beside : Beside} (away : StandsApart beside) where
  module _ (limit : Option ℕ) (params : Row) (name : List ℕ) (cols : List Column) (key : List ℕ)
      (refs : List Reference) (tree : ℕ) (db : Trees) where
    abbrev pub delete_edit : List Row → Edit
    delete_edit found = edit_of db (table_at limit params name cols key refs tree) (ids_of found) Given 0
        []

    -- the rows that a DELETE finds are taken out
    pub record Finds (wanted : Row → Bool) (next : Trees) : Type 0 where
      pub found : List Row
      pub are : IsPermutation (map (λ r. rowid r ∷ []) (filter wanted (db tree))) found
      pub writes : Writes (desk_with beside) Enforced db (delete_edit found) (Ok next)

    pub delete_finds : (terms : List Term) (wanted : Row → Bool) (w : Written) → overlay db [] tree
        ≡ db tree
        → ((r : Row) → list_all (holds (params ∷ r ∷ [])) terms ≡ wanted r)
        → Deletes (task_at away limit params name cols key refs tree)
        (record { lets = []; body = query_of (inner tree end) terms (col 1 0 ∷ []) [] }) db (Ok w)
        → Finds wanted w.trees
    delete_finds terms wanted w same passes h =
        let asked = went h in
        let done = went asked.2 in
        let shown = answer_shows (inner tree end) terms (col 1 0 ∷ []) (overlay db []) params asked.0
        (asked.1.answer Null) in
        let rows = subst (λ rows. map (eval_all (col 1 0 ∷ []))
        (flat_map (λ r. cond (list_all (holds (params ∷ r ∷ [])) terms) ((params ∷ r ∷ []) ∷ []) []) rows)
        ≡ map (λ r. rowid r ∷ []) (filter wanted (db tree))) (sym same)
        (picked (λ r. params ∷ r ∷ []) terms (col 1 0 ∷ []) (λ r. rowid r ∷ []) wanted (λ r. refl) passes
        (db tree)) in
        record {
          found = asked.0;
          are = subst (λ xs. IsPermutation xs asked.0) rows shown;
          writes = subst (λ (next : Trees). Writes (desk_with beside) Enforced db (delete_edit asked.0)
              (Ok next))
              (sym (ap (λ (it : Written). it.trees) (same_value done.2))) done.1;
        }
