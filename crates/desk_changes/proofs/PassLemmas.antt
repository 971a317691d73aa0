-- An edit that passes every test is made.
use Rattle.std.proofs.Common.{◌≡◌, ◌≢◌, inl, inr, ℕ, true, List, [], Option, Err, refl, subst, ◌∙◌, eq-eqb}
use Rattle.std.specs.List.{list_all}
use Rattle.std.proofs.lemmas.Bool.{both_ways, or_cases, or_left, or_right, ne_eqb}
use Rattle.sqlite.specs.Order.{Row}
use Rattle.sqlite.specs.Ops.{fits_i64}
use Rattle.sqlite.specs.Tree.{Trees, rowid, with_tree, IsAscending}
use Rattle.sqlite.specs.Table.{Table}
use Rattle.sqlite.specs.Edit.{Edit, id_in, edited, left_by, taken_by, are_fresh, have_rowids, is_referred, IsRefused, IsOversized}
use Rattle.sqlite_rules.specs.declared.error.Refusal.{Refusal}
use Rattle.sqlite_rules.specs.declared.error.Refusal.TheVariants.{Violates, Mismatch, NoRowid, BadReference, TooDeep}
use Rattle.sqlite_rules.specs.Lists.{Has}
use Rattle.sqlite_rules.specs.InPlace.{AreTwins}
use Rattle.sqlite_rules.specs.Action.{Settles, Writes, works}
use Rattle.sqlite_rules.proofs.ListLemmas.{all_has}
use Rattle.sqlite_rules.proofs.RuleLemmas.{refers_at, refers_from}
use Rattle.sqlite_rules.proofs.PlaceLemmas.{null_same, twin_of, held_stays, unique_stays}
use Rattle.sqlite_schema.specs.Rules.{passes, has_null, parent_key, Keeps, Refers}
use Rattle.sqlite_schema.specs.declared.schema.Among.TheVariants.{All}
use Rattle.sqlite_schema.specs.declared.schema.Constraint.TheVariants.{Datatype, NotNull, Check, PrimaryKey, Unique, ForeignKey}
use Rattle.sqlite_schema.specs.declared.schema.Keys.TheVariants.{Enforced}
use Rattle.desk_changes.proofs.DeleteStops.{never_ends}
use Rattle.desk_sql.specs.Schema.{Beside, StandsApart, desk_with}
use Rattle.desk_sql.proofs.lemmas.Beside.{trees_apart}

module _ {beside : Beside} (away : StandsApart beside) where
  -- the rows that an edit puts in pass each test of a desk's schema but the foreign keys, and can be stored
  pub record Passes (db : Trees) (edit : Edit) : Type 0 where
    pub typed : list_all (passes Datatype (desk_with beside) db edit.table) edit.news ≡ true
    pub present : list_all (passes NotNull (desk_with beside) db edit.table) edit.news ≡ true
    pub checked : list_all (passes Check (desk_with beside) db edit.table) edit.news ≡ true
    pub fresh : are_fresh (left_by db edit) edit.news ≡ true
    pub unique : Keeps Unique (desk_with beside) (with_tree db edit.table.tree (edited db edit))
    pub keyed : have_rowids edit.news ≡ true
    pub low : list_all (λ r. fits_i64 (id_in (rowid r))) edit.news ≡ true
    pub referred : is_referred (desk_with beside) Enforced edit ≡ true
    pub stored : (row : Row) → Has edit.news row → ¬ IsOversized (desk_with beside) edit.table row

  module _ (db : Trees) (edit : Edit) (pass : Passes db edit) where
    not_refused : (why : Refusal) → ¬ IsRefused (desk_with beside) Enforced db edit why
    not_refused (Violates Datatype) h = both_ways _ h pass.typed
    not_refused (Violates NotNull) h = both_ways _ h pass.present
    not_refused (Violates Check) h = both_ways _ h pass.checked
    not_refused (Violates PrimaryKey) h = both_ways _ h pass.fresh
    not_refused (Violates Unique) h = h pass.unique
    not_refused (Violates ForeignKey) h = h
    not_refused Mismatch h = both_ways _ h pass.keyed
    not_refused NoRowid h = both_ways _ h pass.low
    not_refused BadReference h = both_ways _ h pass.referred
    not_refused TooDeep h = h

    -- where no action follows
    pub passed : works (desk_with beside) Enforced 0 edit.table.tree (taken_by db edit) edit.news ≡ []
        → (why : Option Refusal) → ¬ Writes (desk_with beside) Enforced db edit (Err why)
    passed quiet why (inl (reason, refused, is)) = absurd (not_refused reason refused)
    passed quiet why (inr (inl (row, there, big, is))) = absurd (pass.stored row there big)
    passed quiet why (inr (inr (next, applies, settles))) =
        let settled = subst (λ ws. Settles (desk_with beside) Enforced next ws (Err why)) quiet settles in
        never_ends away settled.0 next why settled.1

-- ---- one tree in place of another

pub with_here : (db : Trees) (tree : ℕ) (rows : List Row) → with_tree db tree rows tree ≡ rows
with_here db tree rows = rw (eq-eqb tree tree refl)

pub with_others : (db : Trees) (tree t : ℕ) (rows : List Row) → t ≢ tree → with_tree db tree rows t ≡ db t
with_others db tree t rows other = rw (ne_eqb t tree other)

module _ {beside : Beside} (away : StandsApart beside) where
  pub apart : IsAscending (λ (a b : Table). a.tree ≡ b.tree → ⊥) (desk_with beside).tables
  apart = trees_apart away

  -- where each row has its twin, each foreign key that held still holds
  pub refers_twins : (old new : Trees) (table : Table) → Has (desk_with beside).tables table
      → ((t : Table) → Has (desk_with beside).tables t → t.tree ≢ table.tree → new t.tree ≡ old t.tree)
      → AreTwins (desk_with beside) table old new → Refers All (desk_with beside) old
      → Refers All (desk_with beside) new
  refers_twins old new table listed others twins refers = refers_from All (desk_with beside) new
      (λ t ref row known k is there.
      let was = twin_of (desk_with beside) old new table listed apart others twins t row known there in
      let same = all_has _ t.references ref was.3 k in
      elim (or_cases (has_null ref.columns was.0) _
      (refers_at All (desk_with beside) old t was.0 ref refers known was.1 k is)) [
        | inl null ↦ or_left _ _ (null_same ref.columns was.0 row same ∙ null)
        | inr held ↦ or_right (has_null ref.columns row) _
            (held_stays (desk_with beside) old new table listed apart others twins t ref was.0 row known k same
            (parent_key (desk_with beside).tables ref) refl held)
      ])

  pub unique_twins : (db : Trees) (table : Table) (rows : List Row) → Has (desk_with beside).tables table
      → AreTwins (desk_with beside) table db (with_tree db table.tree rows) → Keeps Unique (desk_with beside) db
      → Keeps Unique (desk_with beside) (with_tree db table.tree rows)
  unique_twins db table rows listed twins keeps =
      unique_stays (desk_with beside) db (with_tree db table.tree rows) table listed apart
      (λ t known other. with_others db table.tree t.tree rows other) twins keeps
