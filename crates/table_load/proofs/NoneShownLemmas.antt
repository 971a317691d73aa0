-- What shows no content before a reading, or after it.
use Rattle.std.proofs.Common.{◌≡◌, inl, inr, Bool, true, false, Result, Ok, Err, IfErr, subst, arith}
use Rattle.sqlite_trees.specs.declared.store.Store.{Ghosts}
use Rattle.sqlite_trees.specs.View.{doubt}
use Rattle.sqlite.specs.Effect.{Database}
use Rattle.sqlite.specs.State.{HasCleanDisk}
use Rattle.sqlite.specs.Held.{Held, state}
use Rattle.desk_sql.specs.declared.opening.finding.TablesPresent.{TablesPresent}
use Rattle.desk_sql.specs.Effects.{Holds, OnlyReads}
use Rattle.desk_sql.specs.Rows.{IsMadeTo, tables_at, has_old_rows}
use Rattle.table_load.specs.declared.fault.OpenFault.{OpenFault}
use Rattle.table_load.specs.declared.fault.OpenFault.TheVariants.{NotADesk}
use Rattle.table_load.specs.Opening.{HasRowsOld, ShowsNoDesk}
use Rattle.table_load.specs.Moving.{AreNoContentIn, HoldsNone, ShowsNone}

none_held : (made : TablesPresent) (old : Bool) (db : Database) → IsMadeTo made db
    → has_old_rows (tables_at made db.trees) ≡ old → AreNoContentIn old (tables_at made db.trees)
    → HoldsNone db
none_held made true db desk rows none =
    inr (inr (inr (record { made = made; desk = desk; old = rows; none = none })))
none_held made false db desk rows none =
    inr (inr (inl (record { made = made; desk = desk; new = rows; none = none })))

module _ {S : Type 0} (g : Ghosts S) where
  -- what shows no desk's tables or rows shows no content
  pub none_shown : (a c : Held S) → ShowsNoDesk g a c → ShowsNone g a c
  none_shown a c none = λ clean live. elim (none clean live) [
    | inl others ↦ inr (inl others)
    | inr rows ↦ inr (inr (inl rows))
  ]

-- what has no content after a reading has none before it
module _ {S : Type 0} (g : Ghosts S) (a b c : Held S) (made : TablesPresent) (old : Bool)
    (reads : OnlyReads g a b)
    (part : Holds g b (IsMadeTo made)) (rows : Holds g b (HasRowsOld made old)) (later : OnlyReads g b c)
  where
    pub none_later_shown : {V : Type 0} (r : Result V OpenFault)
        → IfErr r (λ e. e ≡ NotADesk → HasCleanDisk (state g c)
        → AreNoContentIn old (tables_at made (state g b).now.trees))
        → IfErr r (λ e. e ≡ NotADesk → ShowsNone g a c)
    none_later_shown (Ok v) none = tt
    none_later_shown (Err e) none = λ is clean live.
        let mid : HasCleanDisk (state g b) = omega (arith, later.doubt, clean) in
        let was = (later.kept clean live).was_open in
        let shows = reads.kept mid was in
        subst HoldsNone shows.now
        (none_held made old (state g b).now (part mid was) (rows mid was) (none is clean))
