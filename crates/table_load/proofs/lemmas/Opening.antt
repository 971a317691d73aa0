-- What a store begins with, from what was found.
use Rattle.std.proofs.Common.{◌≡◌, ◌≢◌, ◌≤◌, None, List, [], ◌∷◌, ◌||◌, Bool, true, false, ◌∙◌, sym, ap, refl, OnOk, OnErr, subst, arith, inl, inr, IsTrue, Result, Ok, Err, IfOk, IfErr, true≢false}
use Rattle.std.specs.Prelude.{IsSome}
use Rattle.std.specs.Result.{IsErrAnd}
use Rattle.sqlite.specs.declared.error.Error.{Error}
use Rattle.sqlite.specs.declared.error.Error.TheVariants.{SqliteFailure}
use Rattle.sqlite.specs.declared.error.ErrorCode.TheVariants as code
use Rattle.sqlite_trees.specs.declared.store.Store.{Ghosts}
use Rattle.sqlite_trees.specs.View.{doubt}
use Rattle.sqlite.specs.State.{HasCleanDisk}
use Rattle.sqlite.specs.Held.{Held, state}
use Rattle.sqlite.specs.Effect.{Database}
use Rattle.desk_sql.specs.declared.opening.finding.TablesPresent.{TablesPresent}
use Rattle.desk_sql.specs.declared.opening.finding.TablesPresent.TheVariants.{Nothing, Operators, Plans, OldVolumes, OldSpans, OldIndex, Volumes, Spans, All, Packed}
use Rattle.desk_sql.specs.declared.opening.numbers.DeskTable.TheVariants as desk
use Rattle.desk_sql.specs.Schema.{tree_of, has_table}
use Rattle.desk_sql.specs.Rows.{IsDesk, IsMadeTo, AreNumbered, Tables, tables_of, tables_at, has_rows, has_old_rows}
use Rattle.desk_sql.specs.Effects.{IsOpenIfClean, ShowsAsBefore, StaysShown, OnlyReads, Holds}
use Rattle.desk_sql.specs.Statements.{AreRowsUnread, IsRefusal}
use Rattle.sqlite_value.specs.Order.{Row}
use Rattle.desk_store.specs.World.{World, IsContent}
use Rattle.table_load.specs.declared.fault.OpenFault.{OpenFault}
use Rattle.table_load.specs.declared.fault.OpenFault.TheVariants.{NotADesk, OldSchema, Store}
use Rattle.table_load.specs.Opening.{Stands, HasNewRows, IsContentOf, AreNoContent, IsPart, BeganBlank, BeginsWith, ShowsNoDesk, ShowsOldRows, IsNoDesk, IsHindered, BlamesReading, BlamesDatabase, open_fault_of}
use Rattle.row_codec.specs.Tables.{HasNoOldRows, AreTables}
use Rattle.table_load.specs.OpeningSteps.{HadNone, IsOpening, IsRead, IsSetUp}
use Rattle.table_load.proofs.lemmas.Frame.{kept_on}
use Rattle.table_load.proofs.lemmas.KeyOrder.{are_rows, are_tables}
use Rattle.table_load.proofs.lemmas.KeyOrder.{AreAllRows}
use Rattle.table_load.proofs.lemmas.KeyOrder.{AreSortedByKey}

-- what is made as a whole is a desk
pub desk_made : (db : Database) → IsMadeTo All db → IsDesk db
desk_made db made = record {
  schema = made.schema;
  operators = made.rows desk.Operator refl;
  plans = made.rows desk.Plan refl;
  old_volumes = made.rows desk.OldVolume refl;
  old_spans = made.rows desk.OldSpan refl;
  volumes = made.rows desk.Volume refl;
  spans = made.rows desk.Span refl;
}

-- and a desk is made as a whole
pub made_desk : (db : Database) → IsDesk db → IsMadeTo All db
made_desk db is = record {
  schema = is.schema;
  rows = λ table there. elim table as (λ t. has_table All t ≡ true → AreNumbered (db.trees (tree_of t))) [
    | desk.Operator ↦ λ there. is.operators
    | desk.Plan ↦ λ there. is.plans
    | desk.OldVolume ↦ λ there. is.old_volumes
    | desk.OldSpan ↦ λ there. is.old_spans
    | desk.Volume ↦ λ there. is.volumes
    | desk.Span ↦ λ there. is.spans
    | desk.PackedVolume ↦ λ there. absurd (true≢false (sym there))
    | desk.PackedSpan ↦ λ there. absurd (true≢false (sym there))
  ] there;
}

module _ {S : Type 0} (g : Ghosts S) where
  -- what is made so far stays
  pub part_on : (made : TablesPresent) (a b : Held S) → Holds g a (IsMadeTo made) → OnlyReads g a b
      → Holds g b (IsMadeTo made)
  part_on made a b part reads = λ clean live.
      let before = reads.kept clean live in
      subst (IsMadeTo made) (sym before.now) (part (omega (arith, reads.doubt, clean)) before.was_open)

  -- what is read of a desk's tables as a content stands
  found_stands : (w : World) (a b : Held S) → a.step_limit ≡ None → Holds g a (IsMadeTo All)
      → OnlyReads g a b
      → (HasCleanDisk (state g b) → IsContentOf (tables_of (state g a).now.trees) w) → Stands g b w
  found_stands w a b unlimited whole reads found = record {
    settled = reads.mode;
    unlimited = reads.limit ∙ unlimited;
    standing = λ clean live.
        let shows = reads.kept clean live in
        let it = found clean in
        record {
          content = it.content;
          desk = subst IsDesk (sym shows.now) (desk_made (state g a).now
              (whole (omega (arith, reads.doubt, clean)) shows.was_open));
          tables = subst (λ (db : Database). AreTables (tables_of db.trees) w) (sym shows.now) it.tables;
        };
  }

  -- rows of no content are no desk's
  none_shown : (made : TablesPresent) (a c : Held S) → Holds g a (IsMadeTo made) → Holds g a (HasNewRows made)
      → StaysShown g a c → doubt (state g a).is_clean ≤ doubt (state g c).is_clean → HadNone g a c made
      → ShowsNoDesk g a c
  none_shown made a c part new kept rises none = λ clean live.
      let shows = kept clean live in
      let was : HasCleanDisk (state g a) = omega (arith, rises, clean) in
      inr (record {
        made = made;
        desk = part was shows.was_open;
        new = new was shows.was_open;
        none = none clean;
      })

  -- a store begins over a desk's tables as they are read
  pub set_up_as_read : {V : Type 0} (world : V → World) (r : Result V OpenFault) (a b : Held S)
      → a.step_limit ≡ None → Holds g a (IsMadeTo All) → Holds g a (HasNewRows All)
      → IsRead g a b r All (λ t v. IsContentOf t (world v)) AreNoContent → OnOk r (IsOpenIfClean g b)
      → IsSetUp g a b r world (λ v. BeginsWith g a b (world v)) (ShowsNoDesk g a b) (StaysShown g a b)
  set_up_as_read world (Ok v) a b unlimited whole new read live = record {
    begins = λ clean live.
        let shows = read.reads.kept clean live in
        let it = read.value clean in
        inr (inl (record {
          standing = record {
            content = it.content;
            desk = desk_made (state g a).now (whole (omega (arith, read.reads.doubt, clean)) shows.was_open);
            tables = it.tables;
          };
          kept = shows;
        }));
    stands = found_stands (world v) a b unlimited whole read.reads read.value;
    was_open = read.was_open;
    live = live;
    none = tt;
    newer = tt;
    cause = tt;
    kept = tt;
    limit = read.reads.limit;
    doubt = read.reads.doubt;
    shield = read.reads.shield;
  }
  set_up_as_read world (Err e) a b unlimited whole new read live = record {
    begins = tt;
    stands = tt;
    was_open = read.was_open;
    live = tt;
    none = λ is. none_shown All a b whole new read.reads.kept read.reads.doubt (read.none is);
    newer = read.newer;
    cause = read.cause;
    kept = read.reads.kept;
    limit = read.reads.limit;
    doubt = read.reads.doubt;
    shield = read.reads.shield;
  }

  -- and so it does over tables that are completed, or put in order
  pub set_up_anew : {V : Type 0} (made : TablesPresent) (world : V → World) (r : Result V OpenFault)
      (Begins : World → Type 0) (a c : Held S) → ((w : World) → Begins w → BeginsWith g a c w)
      → Holds g a (IsMadeTo made) → Holds g a (HasNewRows made)
      → IsSetUp g a c r world (λ v. Begins (world v)) (HadNone g a c made) (StaysShown g a c)
      → IsSetUp g a c r world (λ v. BeginsWith g a c (world v)) (ShowsNoDesk g a c) (StaysShown g a c)
  set_up_anew made world (Ok v) Begins a c begins part new done = record {
    begins = begins (world v) done.begins;
    stands = done.stands;
    was_open = done.was_open;
    live = done.live;
    none = tt;
    newer = tt;
    cause = tt;
    kept = tt;
    limit = done.limit;
    doubt = done.doubt;
    shield = done.shield;
  }
  set_up_anew made world (Err e) Begins a c begins part new done = record {
    begins = tt;
    stands = tt;
    was_open = done.was_open;
    live = tt;
    none = λ is. none_shown made a c part new done.kept done.doubt (done.none is);
    newer = done.newer;
    cause = done.cause;
    kept = done.kept;
    limit = done.limit;
    doubt = done.doubt;
    shield = done.shield;
  }

-- what is said of an opening since a reading is said of it since before the reading
module _ {S : Type 0} (g : Ghosts S) (a b c : Held S) (reads : OnlyReads g a b)
    (rises : doubt (state g b).is_clean ≤ doubt (state g c).is_clean) where
  same_before : HasCleanDisk (state g c) → IsTrue (state g b).is_open → ShowsAsBefore g a b
  same_before clean live = reads.kept (omega (arith, rises, clean)) live

  begins_then : (w : World) → (HasCleanDisk (state g c) → IsTrue (state g b).is_open) → BeginsWith g b c w
      → BeginsWith g a c w
  begins_then w opened begins = λ clean live.
      let before = same_before clean (opened clean) in
      elim (begins clean live) [
        | inl blank ↦ inl (subst (λ db. BeganBlank db w) before.now blank)
        | inr (inl was) ↦ inr (inl (record {
          standing = record {
            content = was.standing.content;
            desk = subst IsDesk before.now was.standing.desk;
            tables = subst (λ (db : Database). AreTables (tables_of db.trees) w) before.now
                was.standing.tables;
          };
          kept = record {
            was_open = before.was_open;
            now = was.kept.now ∙ before.now;
            committed = was.kept.committed ∙ before.committed;
          };
        }))
        | inr (inr (inr was)) ↦ inr (inr (inr (record {
          part = subst (IsMadeTo Packed) before.now was.part;
          rows = subst (λ (db : Database). IsContentOf (tables_at Packed db.trees) w) before.now was.rows;
          standing = was.standing;
        })))
        | inr (inr (inl part)) ↦ inr (inr (inl (record {
          made = part.made;
          part = subst (IsPart part.made) before.now part.part;
          rows = subst (λ (db : Database). IsContentOf (tables_at part.made db.trees) w) before.now part.rows;
          whole = part.whole;
          same = part.same ∙ ap (λ (db : Database). tables_at part.made db.trees) before.now;
        })))
      ]

  none_then : StaysShown g b c → ShowsNoDesk g b c → ShowsNoDesk g a c
  none_then kept none = λ clean live.
      subst IsNoDesk (same_before clean (kept clean live).was_open).now (none clean live)

-- what is blamed since a reading is blamed since before the reading
module _ {S : Type 0} (g : Ghosts S) (a b c : Held S) (faults : (state g a).faults ≤ (state g b).faults)
    (limit : b.step_limit ≡ a.step_limit) where
  pub blames_since : (e : OpenFault) → BlamesReading g b c e → BlamesReading g a c e
  blames_since e cause clean live reported = elim (cause clean live reported) [
    | inl failed ↦ inl (omega (arith, failed, faults))
    | inr limited ↦ inr (subst IsSome limit limited)
  ]

  pub cause_then : (e : OpenFault) → BlamesReading g b c e → BlamesDatabase g a c e
  cause_then e cause clean live reported = inl (blames_since e cause clean live reported)

-- what is set up after a reading is a whole opening
pub opened_since : {S V : Type 0} (g : Ghosts S) (a b c : Held S) (world : V → World) (r : Result V OpenFault)
    → OnlyReads g a b
    → IsSetUp g b c r world (λ v. BeginsWith g b c (world v)) (ShowsNoDesk g b c) (StaysShown g b c)
    → IsOpening g a c r world (λ v. BeginsWith g a c (world v)) (ShowsNoDesk g a c) (ShowsOldRows g a c)
    (StaysShown g a c)
opened_since g a b c world (Ok v) reads done = record {
  begins = begins_then g a b c reads done.doubt (world v) done.was_open done.begins;
  stands = done.stands;
  live = done.live;
  none = tt;
  older = tt;
  cause = tt;
  kept = tt;
  limit = done.limit ∙ reads.limit;
  doubt = omega (arith, reads.doubt, done.doubt);
  shield = λ s. done.shield (reads.shield s);
}
opened_since g a b c world (Err e) reads done = record {
  begins = tt;
  stands = tt;
  live = tt;
  none = λ is. none_then g a b c reads done.doubt done.kept (done.none is);
  older = λ is. absurd (done.newer is);
  cause = cause_then g a b c reads.faults reads.limit e done.cause;
  kept = kept_on g a b c reads.kept done.kept done.doubt;
  limit = done.limit ∙ reads.limit;
  doubt = omega (arith, reads.doubt, done.doubt);
  shield = λ s. done.shield (reads.shield s);
}

-- a reading's refusal that is reported on
pub unread_as : {S V W : Type 0} (g : Ghosts S) (a b : Held S) (made : TablesPresent) {world : V → World}
    {Begins : V → Type 0} {Gives : Tables → W → Type 0} {Refuses : Tables → Type 0} {Keeps : Type 0}
    (r : Result V OpenFault) (e : OpenFault) → IsErrAnd r (λ fault. fault ≡ e)
    → IsRead g a b {V = W} (Err e) made Gives Refuses → (StaysShown g a b → Keeps)
    → IsSetUp g a b r world Begins
    (HasCleanDisk (state g b) → Refuses (tables_at made (state g a).now.trees)) Keeps
unread_as g a b made (Ok v) e is read keeps = absurd is
unread_as g a b made (Err f) e is read keeps = record {
  begins = tt;
  stands = tt;
  was_open = λ clean. tt;
  live = tt;
  none = λ reported. read.none (sym is ∙ reported);
  newer = λ reported. read.newer (sym is ∙ reported);
  cause = subst (BlamesReading g a b) (sym is) read.cause;
  kept = keeps read.reads.kept;
  limit = read.reads.limit;
  doubt = read.reads.doubt;
  shield = read.reads.shield;
}

-- an opening's refusal that is reported on
pub refused_as : {S V : Type 0} (g : Ghosts S) (a c : Held S) {world : V → World} {Begins : V → Type 0}
    {Refuses Older Keeps : Type 0} (r : Result V OpenFault) (e : OpenFault) → IsErrAnd r (λ fault. fault ≡ e)
    → (e ≡ NotADesk → Refuses) → e ≢ OldSchema → BlamesDatabase g a c e → Keeps
    → c.step_limit ≡ a.step_limit → doubt (state g a).is_clean ≤ doubt (state g c).is_clean
    → ((state g a).IsShielded → (state g c).IsShielded)
    → IsOpening g a c r world Begins Refuses Older Keeps
refused_as g a c (Ok v) e is none newer cause kept limit rises shield = absurd is
refused_as g a c (Err f) e is none newer cause kept limit rises shield = record {
  begins = tt;
  stands = tt;
  live = tt;
  none = λ reported. none (sym is ∙ reported);
  older = λ reported. absurd (newer (sym is ∙ reported));
  cause = subst (BlamesDatabase g a c) (sym is) cause;
  kept = kept;
  limit = limit;
  doubt = rises;
  shield = shield;
}

-- what is said of an error, once it is reported on
pub reported_as : {V : Type 0} (P : OpenFault → Type 0) (r : Result V OpenFault) (e : OpenFault)
    → IsErrAnd r (λ fault. fault ≡ e) → P e → IfErr r P
reported_as P (Ok v) e is p = tt
reported_as P (Err f) e is p = subst P (sym is) p

pub kept_on_err : {V E A : Type 0} (r : Result V E) → A → OnErr r A
kept_on_err (Ok v) a = tt
kept_on_err (Err e) a = a

-- what a refusal is blamed on
module _ {S : Type 0} (g : Ghosts S) where
  -- what SQLite refuses is reported as a failure only if the disk failed or the steps did not do
  failed_if : (a b c : Held S) (error : Error) → (state g a).faults ≤ (state g b).faults → b.step_limit
      ≡ a.step_limit → IsRefusal g b c error → open_fault_of error ≡ Store → IsHindered g a c
  failed_if a b c error fewer limit (inl h) reported =
      let e : open_fault_of (SqliteFailure code.OutOfMemory)
      ≡ Store = subst (λ x. open_fault_of x ≡ Store) h reported in cc
  failed_if a b c error fewer limit (inr (inl h)) reported = inl (omega (arith, h, fewer))
  failed_if a b c error fewer limit (inr (inr h)) reported = inr (subst IsSome limit h.1)

  -- what the tables are not found for
  pub blames_unread : (a b : Held S) (error : Error)
      → (HasCleanDisk (state g b) → IsTrue (state g b).is_open → AreRowsUnread g a b error)
      → BlamesDatabase g a b (open_fault_of error)
  blames_unread a b error why clean live reported = elim (why clean live) [
    | inl refusal ↦ inl (failed_if a a b error (omega arith) refl refusal reported)
    | inr numbers ↦ inr numbers.1
  ]

  pub blames_reading : (a b c : Held S) (error : Error) → (state g a).faults ≤ (state g b).faults
      → b.step_limit ≡ a.step_limit
      → (HasCleanDisk (state g c) → IsTrue (state g c).is_open → IsRefusal g b c error)
      → BlamesReading g a c (open_fault_of error)
  blames_reading a b c error fewer limit why clean live reported =
      failed_if a b c error fewer limit (why clean live) reported

no_rows : (rows : List Row) → has_rows rows ≡ false → rows ≡ []
no_rows [] none = refl
no_rows (r ∷ rows) none = cc

pub no_old_rows : (t : Tables) → has_old_rows t ≡ false → HasNoOldRows t
no_old_rows t none =
    let parts = or_parts (has_rows t.old_volumes) (has_rows t.old_spans) none in record {
      volumes = no_rows t.old_volumes parts.0;
      spans = no_rows t.old_spans parts.1;
    } where
      or_parts : (a b : Bool) → (a || b) ≡ false → (a ≡ false) × (b ≡ false)
      or_parts true b h = cc
      or_parts false b h = (refl, h)

-- a content has no rows of schema 1
pub old_rows_none : (t : Tables) → HasNoOldRows t → has_old_rows t ≡ false
old_rows_none t old = λ i. has_rows (old.volumes i) || has_rows (old.spans i)

-- what is made has the operators, unless it is nothing
pub some_operators : (made : TablesPresent) → made ≢ Nothing → has_table made desk.Operator ≡ true
some_operators Nothing some = absurd (some refl)
some_operators Operators some = refl
some_operators Plans some = refl
some_operators OldVolumes some = refl
some_operators OldSpans some = refl
some_operators OldIndex some = refl
some_operators Volumes some = refl
some_operators Spans some = refl
some_operators All some = refl
some_operators Packed some = refl
