-- The foreign keys of a desk's tables hold where rows go and their parents stay.
use Rattle.std.proofs.Common.{◌≡◌, ◌⊎◌, inl, inr, List, [], ◌∷◌, true, Some, refl, sym, subst, None, Option, ◌||◌, ◌∙◌}
use Rattle.std.proofs.lemmas.Bool.{or_cases, or_left, or_right}
use Rattle.sqlite.specs.Order.{Row}
use Rattle.sqlite.specs.Tree.{Trees}
use Rattle.sqlite.specs.Table.{Table}
use Rattle.sqlite_rules.specs.Lists.{Has}
use Rattle.sqlite_rules.proofs.ListLemmas.{some_has, some_from, test_has}
use Rattle.sqlite_rules.proofs.RuleLemmas.{keeps_at, refers_at, refers_from}
use Rattle.sqlite_schema.specs.Rules.{ParentKey, parent_key, agree, has_null, is_held, has_parent, Obeys, Refers}
use Rattle.sqlite_schema.specs.declared.schema.Among.TheVariants.{All}
use Rattle.sqlite_schema.specs.declared.schema.Constraint.TheVariants.{ForeignKey}
use Rattle.sqlite_schema.specs.declared.schema.Reference.{Reference}
use Rattle.sqlite_schema.specs.declared.schema.Schema.{Schema}
use Rattle.sqlite_value.specs.Keys.{plain}
use Rattle.sqlite_tied.specs.Compute.{everything}
use Rattle.desk_sql.specs.Schema.{to_operator, to_plan, Beside, StandsApart, desk_with, refers_elsewhere}
use Rattle.desk_sql.proofs.lemmas.Cascade.{key_places}
use Rattle.desk_sql.proofs.lemmas.Beside.{elsewhere, parent_beside}
use Rattle.std.specs.List.{list_any}

pub obeyed_refers : (schema : Schema) (db : Trees) → Obeys schema db → Refers All schema db
obeyed_refers schema db obeys = refers_from All schema db (λ t ref row known k is there.
    test_has _ t.references ref (keeps_at ForeignKey schema db t row (obeys.rules ForeignKey) known there)
    k)

module _ {beside : Beside} (away : StandsApart beside) where
  pub operator_key : parent_key (desk_with beside).tables to_operator ≡ Some (0, 1 ∷ [], plain)
  unfolding everything
  operator_key = refl

  pub plan_key : parent_key (desk_with beside).tables to_plan ≡ Some (2, key_places, plain)
  unfolding everything
  plan_key = refl

-- each of these rows is one of those
abbrev pub AreAmong : List Row → List Row → Type 0
AreAmong next rows = (row : Row) → Has next row → Has rows row

-- a row of a table whose rows go with their plan
abbrev pub IsChild : Trees → Row → Type 0
IsChild db row = Has (db 4) row ⊎ (Has (db 6) row ⊎ (Has (db 9) row ⊎ Has (db 11) row))

module _ {beside : Beside} (away : StandsApart beside) where
  module _ (db next : Trees) where
    -- what each row's parent does
    held : (ref : Reference) (row : Row) (key : ParentKey) → parent_key (desk_with beside).tables ref ≡ Some key
        → ((p : Row) → Has (db key.0) p → agree key.2 key.1 p ref.columns row ≡ true → Has (next key.0) p)
        → has_parent (desk_with beside).tables db row ref ≡ true
        → has_parent (desk_with beside).tables next row ref ≡ true
    held ref row key is stays h = elim (or_cases (has_null ref.columns row) _ h) [
      | inl null ↦ or_left _ _ null
      | inr one ↦
          (let p = some_has (λ p. agree key.2 key.1 p ref.columns row) (db key.0)
          (subst (λ o. is_held db ref.columns row o ≡ true) is one) in
          or_right (has_null ref.columns row) _ (subst (λ o. is_held next ref.columns row o ≡ true) (sym is)
          (some_from (λ p. agree key.2 key.1 p ref.columns row) (next key.0) p.0 (stays p.0 p.1 p.2) p.2)))
    ]

    -- the rows of these tables were there, each operator stays, and so does each plan that a row refers to
    pub refers_left : ((t : Table) → Has beside.tables t → next t.tree ≡ db t.tree)
        → ((t : Table) (row : Row) → Has (desk_with beside).tables t → Has (next t.tree) row
        → Has (db t.tree) row)
        → ((p : Row) → Has (db 0) p → Has (next 0) p)
        → ((row p : Row) → IsChild next row → Has (db 2) p
        → agree plain key_places p key_places row ≡ true → Has (next 2) p)
        → Refers All (desk_with beside) db → Refers All (desk_with beside) next
    refers_left rest were operators plans refers =
        refers_from All (desk_with beside) next (λ t ref row known k is there.
        one t ref row known k there
        (refers_at All (desk_with beside) db t row ref refers known (were t row known there) k is))
      where
        -- a row whose only parent is its plan
        child : (ref : Reference) (row : Row) → Has (to_plan ∷ []) ref → IsChild next row
            → has_parent (desk_with beside).tables db row ref ≡ true
            → has_parent (desk_with beside).tables next row ref ≡ true
        child ref row (inl same) there h =
            subst (λ ref. has_parent (desk_with beside).tables next row ref ≡ true) (sym same)
            (held to_plan row (2, key_places, plain) (plan_key away) (λ p. plans row p there)
            (subst (λ ref. has_parent (desk_with beside).tables db row ref ≡ true) same h))
        child ref row (inr none) there h = absurd none

        -- a row of another table, whose parents are in others too
        still : (ref : Reference) (row : Row) (o : Option ParentKey)
            → ((key : ParentKey) → o ≡ Some key → next key.0 ≡ db key.0)
            → (has_null ref.columns row || is_held db ref.columns row o) ≡ true
            → (has_null ref.columns row || is_held next ref.columns row o) ≡ true
        still ref row None stays h = h
        still ref row (Some key) stays h =
            subst (λ rows. (has_null ref.columns row || list_any (λ p. agree key.2 key.1 p ref.columns row)
            rows)
            ≡ true) (sym (stays key refl)) h

        others : (t : Table) (ref : Reference) (row : Row) (o : Option ParentKey)
            → parent_key (desk_with beside).tables ref ≡ o → Has beside.tables t → Has t.references ref
            → has_parent (desk_with beside).tables db row ref ≡ true
            → has_parent (desk_with beside).tables next row ref ≡ true
        others t ref row o is known k h =
            subst (λ o. (has_null ref.columns row || is_held next ref.columns row o) ≡ true) (sym is)
            (still ref row o (λ key same.
            let p = parent_beside away ref key (test_has refers_elsewhere t.references ref
            (elsewhere away t known) k)
            (is ∙ same) in
            subst (λ n. next n ≡ db n) p.2 (rest p.0 p.1))
            (subst (λ o. (has_null ref.columns row || is_held db ref.columns row o) ≡ true) is h))

        one : (t : Table) (ref : Reference) (row : Row) → Has (desk_with beside).tables t → Has t.references ref
            → Has (next t.tree) row → has_parent (desk_with beside).tables db row ref ≡ true
            → has_parent (desk_with beside).tables next row ref ≡ true
        one t ref row (inl is) k there h = absurd (subst (λ (t : Table). Has t.references ref) is k)
        one t ref row (inr (inl is)) k there h = elim (subst (λ (t : Table). Has t.references ref) is k) [
          | inl same ↦ subst (λ ref. has_parent (desk_with beside).tables next row ref ≡ true) (sym same)
              (held to_operator row (0, 1 ∷ [], plain) (operator_key away) (λ p had _. operators p had)
              (subst (λ ref. has_parent (desk_with beside).tables db row ref ≡ true) same h))
          | inr none ↦ absurd none
        ]
        one t ref row (inr (inr (inl is))) k there h = child ref row
            (subst (λ (t : Table). Has t.references ref) is k)
            (inl (subst (λ (t : Table). Has (next t.tree) row) is there)) h
        one t ref row (inr (inr (inr (inl is)))) k there h = child ref row
            (subst (λ (t : Table). Has t.references ref) is k)
            (inr (inl (subst (λ (t : Table). Has (next t.tree) row) is there))) h
        one t ref row (inr (inr (inr (inr (inl is))))) k there h = child ref row
            (subst (λ (t : Table). Has t.references ref) is k)
            (inr (inr (inl (subst (λ (t : Table). Has (next t.tree) row) is there)))) h
        one t ref row (inr (inr (inr (inr (inr (inl is)))))) k there h = child ref row
            (subst (λ (t : Table). Has t.references ref) is k)
            (inr (inr (inr (subst (λ (t : Table). Has (next t.tree) row) is there)))) h
        one t ref row (inr (inr (inr (inr (inr (inr known)))))) k there h =
            others t ref row (parent_key (desk_with beside).tables ref) refl known k h

    -- where no tree has other rows than it had
    pub were_there : ((t : Table) → Has beside.tables t → next t.tree ≡ db t.tree)
        → AreAmong (next 0) (db 0) → AreAmong (next 2) (db 2) → AreAmong (next 4) (db 4)
        → AreAmong (next 6) (db 6) → AreAmong (next 9) (db 9) → AreAmong (next 11) (db 11)
        → (t : Table) (row : Row) → Has (desk_with beside).tables t → Has (next t.tree) row
        → Has (db t.tree) row
    were_there rest zero two four six nine eleven = by_table
      where
        in_tree : (t made : Table) (row : Row) → t ≡ made → AreAmong (next made.tree) (db made.tree)
            → Has (next t.tree) row → Has (db t.tree) row
        in_tree t made row is among there = subst (λ (t : Table). Has (db t.tree) row) (sym is)
            (among row (subst (λ (t : Table). Has (next t.tree) row) is there))

        by_table : (t : Table) (row : Row) → Has (desk_with beside).tables t → Has (next t.tree) row
            → Has (db t.tree) row
        by_table t row (inl is) there = in_tree t _ row is zero there
        by_table t row (inr (inl is)) there = in_tree t _ row is two there
        by_table t row (inr (inr (inl is))) there = in_tree t _ row is four there
        by_table t row (inr (inr (inr (inl is)))) there = in_tree t _ row is six there
        by_table t row (inr (inr (inr (inr (inl is))))) there = in_tree t _ row is nine there
        by_table t row (inr (inr (inr (inr (inr (inl is)))))) there = in_tree t _ row is eleven there
        by_table t row (inr (inr (inr (inr (inr (inr known)))))) there = subst (λ l. Has l row) (rest t known)
            there
