-- What is said since the limit on steps was lifted is said since before.
use Rattle.std.proofs.Common.{◌≡◌, ◌≤◌, ◌∙◌, ap, ℕ, None, inl, inr, refl, sym, subst, true≢false}
use Rattle.std.specs.Prelude.{IsSome}
use Rattle.sqlite_trees.specs.declared.store.Store.{Ghosts}
use Rattle.sqlite_trees.specs.View.{doubt}
use Rattle.sqlite.specs.Held.{Held, state}
use Rattle.desk_sql.specs.Effects.{ShowsAsBefore, StaysShown}
use Rattle.desk_store.specs.World.{World}
use Rattle.table_load.specs.declared.fault.OpenFault.{OpenFault}
use Rattle.table_load.specs.Moving.{BeginsMoved, KeepsRows, ShowsNoContent}
use Rattle.table_load.specs.Opening.{BeginsWith, BlamesDatabase, BlamesDisk, ShowsNoDesk, ShowsOldRows}

-- without a limit on steps it is none that refuses
pub disk_blamed : {S : Type 0} (g : Ghosts S) (a c : Held S) (e : OpenFault) → a.step_limit ≡ None
    → BlamesDatabase g a c e → BlamesDisk g a c e
disk_blamed g a c e unlimited cause clean live reported = elim (cause clean live reported) [
  | inl (inl disk) ↦ inl disk
  | inl (inr steps) ↦ absurd (true≢false (sym (subst IsSome unlimited steps)))
  | inr numbers ↦ inr numbers
]

-- the connection without its limit on steps
abbrev pub lifted : {S : Type 0} → Held S → Held S
lifted h = record h { step_limit = None }

module _ {S : Type 0} (g : Ghosts S) (a c : Held S) where
  shows : ShowsAsBefore g (lifted a) c → ShowsAsBefore g a c
  shows it = record { was_open = it.was_open; now = it.now; committed = it.committed }

  begins : (w : World) → BeginsWith g (lifted a) c w → BeginsWith g a c w
  begins w it = λ clean live. elim (it clean live) [
    | inl blank ↦ inl blank
    | inr (inl was) ↦ inr (inl (record {
      standing = record {
        content = was.standing.content;
        desk = was.standing.desk;
        tables = was.standing.tables;
      };
      kept = shows was.kept;
    }))
    | inr (inr (inl was)) ↦ inr (inr (inl (record {
      made = was.made;
      part = was.part;
      rows = was.rows;
      whole = was.whole;
      same = was.same;
    })))
    | inr (inr (inr was)) ↦ inr (inr (inr (record {
      part = was.part;
      rows = was.rows;
      standing = was.standing;
    })))
  ]

  moves : (w : World) (count : ℕ) → BeginsMoved g (lifted a) c w count → BeginsMoved g a c w count
  moves w count it = λ clean live. elim (it clean live) [
    | inl none ↦ inl (none.0, begins w none.1)
    | inr (reported, was) ↦ inr (
      reported,
      record {
        made = was.made;
        desk = was.desk;
        old_rows = was.old_rows;
        rows = was.rows;
        standing = was.standing;
      },
    )
  ]

  keeps : KeepsRows g (lifted a) c → KeepsRows g a c
  keeps it = λ clean live. elim (it clean live) [
    | inl same ↦ inl (shows same)
    | inr rows ↦ inr (record {
      made = rows.made;
      next = rows.next;
      was_open = rows.was_open;
      desk = rows.desk;
      after = rows.after;
      same = rows.same;
    })
  ]

module _ {S : Type 0} (g : Ghosts S) (a b c : Held S) (is : b ≡ lifted a) where
  pub begins_lifted : (w : World) → BeginsWith g b c w → BeginsWith g a c w
  begins_lifted w it = begins g a c w (subst (λ h. BeginsWith g h c w) is it)

  pub moves_lifted : (w : World) (count : ℕ) → BeginsMoved g b c w count → BeginsMoved g a c w count
  moves_lifted w count it = moves g a c w count (subst (λ h. BeginsMoved g h c w count) is it)

  pub kept_lifted : StaysShown g b c → StaysShown g a c
  kept_lifted it = λ clean live. shows g a c (subst (λ h. ShowsAsBefore g h c) is (it clean live))

  pub keeps_lifted : KeepsRows g b c → KeepsRows g a c
  keeps_lifted it = keeps g a c (subst (λ h. KeepsRows g h c) is it)

  pub none_lifted : ShowsNoDesk g b c → ShowsNoDesk g a c
  none_lifted it = subst (λ h. ShowsNoDesk g h c) is it

  pub older_lifted : ShowsOldRows g b c → ShowsOldRows g a c
  older_lifted it = subst (λ h. ShowsOldRows g h c) is it

  pub unmoved_lifted : ShowsNoContent g b c → ShowsNoContent g a c
  unmoved_lifted it = subst (λ h. ShowsNoContent g h c) is it

  pub blames_lifted : (e : OpenFault) → BlamesDatabase g b c e → BlamesDisk g a c e
  blames_lifted e it =
      disk_blamed g (lifted a) c e refl (subst (λ h. BlamesDatabase g h c e) is it)

  pub doubt_lifted : doubt (state g b).is_clean ≤ doubt (state g c).is_clean
      → doubt (state g a).is_clean ≤ doubt (state g c).is_clean
  doubt_lifted it = subst (λ h. doubt (state g h).is_clean ≤ doubt (state g c).is_clean) is it

  pub shield_lifted : ((state g b).IsShielded → (state g c).IsShielded) → (state g a).IsShielded
      → (state g c).IsShielded
  shield_lifted it = subst (λ h. (state g h).IsShielded → (state g c).IsShielded) is it

  pub none_then : c.step_limit ≡ b.step_limit → c.step_limit ≡ None
  none_then limit = limit ∙ ap (λ (h : Held S). h.step_limit) is
