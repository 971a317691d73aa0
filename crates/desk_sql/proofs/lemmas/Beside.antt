-- What stands apart beside the desk's tables takes no part in what is done to these.
use Rattle.std.proofs.Common.{◌≡◌, ◌≢◌, ◌<◌, ◌≤◌, ◌++◌, ◌||◌, cond, codes, inl, inr, ℕ, Bool, true, false, List, [], ◌∷◌, Option, Some, None, find, append-nil, refl, sym, ap, ap₂, subst, ◌∙◌, arith, eqb-true}
use Rattle.std.specs.List.{AllByRecursion, cons_option, filter_map, flat_map, list_all}
use Rattle.std.specs.Option.{option_and_then}
use Rattle.std.proofs.lemmas.Bool.{and_parts, false_from_ne_true, ltb-true, ne_eqb, not-true, not_from_false, or_left, both_ways}
use Rattle.std.proofs.lemmas.Grind.{flat_map-append}
use Rattle.sqlite.specs.Order.{Row}
use Rattle.sqlite.specs.Tree.{Trees, IsAscending}
use Rattle.sqlite.specs.Table.{Table}
use Rattle.sqlite_trees.proofs.ListLemmas.{all-append}
use Rattle.sqlite_rules.specs.Lists.{Has}
use Rattle.sqlite_rules.specs.Action.{Work, pairs, work_by, work_for, works}
use Rattle.sqlite_rules.specs.declared.action.Deed.{Deed}
use Rattle.sqlite_rules.proofs.ListLemmas.{all_from, all_has, some_from, test_from, test_has}
use Rattle.sqlite_rules.proofs.RuleLemmas.{parent_is_table}
use Rattle.sqlite_schema.specs.Names.{same_name}
use Rattle.sqlite_schema.specs.Rules.{ParentKey, is_key_if_to, key_in, key_places, parent_key, guards}
use Rattle.sqlite_schema.specs.declared.schema.Index.{Index}
use Rattle.sqlite_schema.specs.declared.schema.Keys.{Keys}
use Rattle.sqlite_schema.specs.declared.schema.Reference.{Reference}
use Rattle.sqlite_tied.specs.Compute.{everything}
use Rattle.desk_sql.specs.Schema.{Beside, StandsApart, are_tables_apart, desk_schema, desk_with, is_index_apart, is_own_name, own_names, refers_elsewhere}
use Rattle.desk_sql.proofs.lemmas.Number.{unequal}

-- ---- tables that are apart

far : (last : ℕ) (tables : List Table) → are_tables_apart last tables ≡ true → (t : Table) → Has tables t
    → (last < t.tree) × (list_all refers_elsewhere t.references ≡ true)
far last [] apart t none = absurd none
far last (u ∷ tables) apart t (inl is) =
    let first = and_parts _ _ apart in
    let second = and_parts _ _ first.1 in (
      subst (λ (x : Table). last < x.tree) (sym is) (ltb-true last u.tree first.0),
      subst (λ (x : Table). list_all refers_elsewhere x.references ≡ true) (sym is) second.0,
    )
far last (u ∷ tables) apart t (inr there) =
    let first = and_parts _ _ apart in
    let low = ltb-true last u.tree first.0 in
    let more = far u.tree tables (and_parts _ _ first.1).1 t there in
    (omega (arith, low, more.0), more.1)

ascend : (last : ℕ) (tables : List Table) → are_tables_apart last tables ≡ true
    → IsAscending (λ (a b : Table). a.tree ≡ b.tree → ⊥) tables
ascend last [] apart = tt
ascend last (u ∷ tables) apart =
    let later = (and_parts _ _ (and_parts _ _ apart).1).1 in (
      all_from (λ (t : Table). u.tree ≡ t.tree → ⊥) tables
          (λ t there same. let more = far u.tree tables later t there in omega (arith, same, more.0)),
      ascend u.tree tables later,
    )

both_ascend : (R : Table → Table → Type 0) (xs ys : List Table) → IsAscending R xs → IsAscending R ys
    → ((x : Table) → Has xs x → AllByRecursion (R x) ys) → IsAscending R (xs ++ ys)
both_ascend R [] ys first last across = last
both_ascend R (x ∷ xs) ys first last across = (
  all-append (R x) xs ys first.0 (across x (inl refl)),
  both_ascend R xs ys first.1 last (λ z there. across z (inr there)),
)

-- ---- what refers to none of the desk's tables

all_false : (a b c d e f : Bool) (r s t u v w rest : Option Table)
    → (a || (b || (c || (d || (e || (f || false)))))) ≡ false
    → cond a r (cond b s (cond c t (cond d u (cond e v (cond f w rest))))) ≡ rest
all_false true b c d e f r s t u v w rest h = cc
all_false false true c d e f r s t u v w rest h = cc
all_false false false true d e f r s t u v w rest h = cc
all_false false false false true e f r s t u v w rest h = cc
all_false false false false false true f r s t u v w rest h = cc
all_false false false false false false true r s t u v w rest h = cc
all_false false false false false false false r s t u v w rest h = refl

-- the desk's tables are passed over
passed_over : (name : List ℕ) (tables : List Table) → is_own_name name ≡ false
    → find (λ (t : Table). same_name t.name name) (desk_schema.tables ++ tables)
    ≡ find (λ (t : Table). same_name t.name name) tables
passed_over name tables other =
    all_false (same_name (codes "operator") name) (same_name (codes "plan") name)
    (same_name (codes "volume") name) (same_name (codes "span") name) (same_name (codes "volume2") name)
    (same_name (codes "span2") name) _ _ _ _ _ _ (find (λ (t : Table). same_name t.name name) tables) other

parents_beside : (tables : List Table) (ref : Reference) → refers_elsewhere ref ≡ true
    → parent_key (desk_schema.tables ++ tables) ref ≡ parent_key tables ref
parents_beside tables ref elsewhere =
    ap (option_and_then (λ (t : Table). option_and_then (key_in t) (key_places t ref.parent_columns)))
    (passed_over ref.parent tables (not-true _ elsewhere))

no_work : (depth tree : ℕ) (moves : List (Row × Row)) (child : Table) (ref : Reference) (deed : Option Deed)
    (key : Option ParentKey) → ((k : ParentKey) → key ≡ Some k → tree < k.0)
    → work_by depth tree moves child ref deed key ≡ None
no_work depth tree moves child ref None key behind = refl
no_work depth tree moves child ref (Some deed) None behind = refl
no_work depth tree moves child ref (Some deed) (Some k) behind =
    rw (ne_eqb k.0 tree (λ same. omega (arith, same, behind k refl)))

-- ---- beside the desk's tables

module _ {beside : Beside} (away : StandsApart beside) where
  pub behind : (t : Table) → Has beside.tables t → 13 < t.tree
  behind t known = (far 13 beside.tables away.tables t known).0

  pub elsewhere : (t : Table) → Has beside.tables t → list_all refers_elsewhere t.references ≡ true
  elsewhere t known = (far 13 beside.tables away.tables t known).1

  pub index_behind : (i : Index) → Has beside.indexes i → 13 < i.table
  index_behind i known = ltb-true 13 i.table (test_has is_index_apart beside.indexes i away.indexes known)

  -- the trees of all tables are apart
  pub trees_apart : IsAscending (λ (a b : Table). a.tree ≡ b.tree → ⊥) (desk_with beside).tables
  trees_apart = both_ascend (λ (a b : Table). a.tree ≡ b.tree → ⊥) desk_schema.tables beside.tables (
    (unequal 0 2 refl, (unequal 0 4 refl, (unequal 0 6 refl, (unequal 0 9 refl, (unequal 0 11 refl, tt))))),
    (
      (unequal 2 4 refl, (unequal 2 6 refl, (unequal 2 9 refl, (unequal 2 11 refl, tt)))),
      (
        (unequal 4 6 refl, (unequal 4 9 refl, (unequal 4 11 refl, tt))),
        ((unequal 6 9 refl, (unequal 6 11 refl, tt)), ((unequal 9 11 refl, tt), (tt, tt))),
      ),
    ),
  ) (ascend 13 beside.tables away.tables) (λ x own.
      let low : x.tree ≤ 13 = all_has (λ (t : Table). t.tree ≤ 13) desk_schema.tables x (
        omega arith,
        (omega arith, (omega arith, (omega arith, (omega arith, (omega arith, tt))))),
      ) own in
      all_from (λ (t : Table). x.tree ≡ t.tree → ⊥) beside.tables
      (λ t known same. let high = behind t known in omega (arith, same, high, low)))

  -- a table beside is none of the desk's, so it stays where one of these changes
  pub rest_stays : (tree : ℕ) → tree ≤ 13 → (db next : Trees)
      → AllByRecursion (λ (t : Table). t.tree ≢ tree → next t.tree ≡ db t.tree) beside.tables
      → (t : Table) → Has beside.tables t → next t.tree ≡ db t.tree
  rest_stays tree low db next stay t known =
      all_has (λ (t : Table). t.tree ≢ tree → next t.tree ≡ db t.tree) beside.tables t stay known
      (λ same. let high = behind t known in omega (arith, same, high, low))

  -- the parents of its rows are beside too
  pub parent_beside : (ref : Reference) (key : ParentKey) → refers_elsewhere ref ≡ true
      → parent_key (desk_with beside).tables ref ≡ Some key → (t : Table) × Has beside.tables t
      × (t.tree ≡ key.0)
  parent_beside ref key other is =
      parent_is_table beside.tables ref key (sym (parents_beside beside.tables ref other) ∙ is)

  -- ---- no action leads there

  module _ (keys : Keys) (depth tree : ℕ) (olds news : List Row) (low : tree ≤ 13) where
    abbrev work_on : Table → List Work
    work_on child = filter_map (work_for (desk_with beside) keys depth tree olds news child) child.references

    none_on : (child : Table) (refs : List Reference) → list_all refers_elsewhere refs ≡ true
        → filter_map (work_for (desk_with beside) keys depth tree olds news child) refs ≡ []
    none_on child [] others = refl
    none_on child (ref ∷ refs) others =
        let parts = and_parts _ _ others in
        ap₂ (λ o rest. cons_option o rest)
        (no_work depth tree (pairs olds news) child ref _ (parent_key (desk_with beside).tables ref) (λ k is.
        let p = parent_beside ref k parts.0 is in
        let high = behind p.0 p.1 in
        omega (arith, high, p.2, low)))
        (none_on child refs parts.1)

    none_beside : (tables : List Table) → ((t : Table) → Has tables t → Has beside.tables t)
        → flat_map work_on tables ≡ []
    none_beside [] known = refl
    none_beside (t ∷ tables) known = ap₂ (λ a b. a ++ b)
        (none_on t t.references (elsewhere t (known t (inl refl))))
        (none_beside tables (λ u there. known u (inr there)))

    own_works : flat_map work_on desk_schema.tables ≡ works desk_schema keys depth tree olds news
    unfolding everything
    own_works = refl

    -- the actions are those on the desk's tables
    pub works_as : works (desk_with beside) keys depth tree olds news
        ≡ works desk_schema keys depth tree olds news
    works_as = flat_map-append work_on desk_schema.tables beside.tables
        ∙ ap (λ more. flat_map work_on desk_schema.tables ++ more)
        (none_beside beside.tables (λ t known. known))
        ∙ append-nil (flat_map work_on desk_schema.tables) ∙ own_works

  -- ---- no reference leads to one of the desk's tables

  pub others_fit : (table : Table) → Has own_names table.name
      → list_all (λ (t : Table). list_all (is_key_if_to (desk_with beside) table) t.references) beside.tables
      ≡ true
  others_fit table own =
      test_from (λ (t : Table). list_all (is_key_if_to (desk_with beside) table) t.references) beside.tables
      (λ t known.
      test_from (is_key_if_to (desk_with beside) table) t.references (λ ref k.
      or_left _ _ (not_from_false _ (false_from_ne_true _ (λ named.
      both_ways _ (not-true _ (test_has refers_elsewhere t.references ref (elsewhere t known) k))
      (some_from (λ own. same_name own ref.parent) own_names table.name own named))))))

  -- no index beside is on one of the desk's tables
  pub unguarded : (table : Table) → table.tree ≤ 13 → (i : Index) → Has beside.indexes i → guards i table
      ≡ false
  unguarded table low i known = false_from_ne_true _ (λ on.
      let same = eqb-true i.table table.tree (and_parts _ _ on).1 in
      let high = index_behind i known in
      omega (arith, same, high, low))
