-- What others hold, region by region.
use Rattle.std.proofs.Common.{◌≡◌, ◌<◌, ℕ, ◌+◌, Bool, true, false, ◌||◌, cond, max, List, [], length, take, get_or, Option, Some, None, Result, Ok, Err, IfOk, refl, sym, ap, ◌∙◌, arith}
use Rattle.std.proofs.lemmas.List.Folds.{list_any_more}
use Rattle.sqlite_trees.specs.declared.store.Store.{Ghosts}
use Rattle.sqlite.specs.State.{HasCleanDisk}
use Rattle.sqlite.specs.Held.{state}
use Rattle.volume4d.specs.declared.slab.Slab.{Slab}
use Rattle.volume4d.specs.declared.slab.Held.{Held as One}
use Rattle.volume4d.specs.Volume.{Point}
use Rattle.volume4d.specs.Slab.{greater, slab_has, slabs_have, top_held}
use Rattle.volume4d.proofs.lemmas.Level.{greater_none, top_held-nil}
use Rattle.desk_sql.specs.Effects.{OnlyReads}
use Rattle.desk_rules.specs.Conflict.{at_least}
use Rattle.desk_store.specs.World.{World, held, AddsLevel, AreHeldByOthers, HaveLevel}
use Rattle.live_index.specs.Live.{HoldNothingBeside}
use Rattle.table_load.specs.Opening.{Stands}
use Rattle.desk_tables.specs.Store.{HeldWorld}
use Rattle.desk_tables.proofs.HeldLemmas.{any_level}
use Rattle.table_load.proofs.lemmas.Frame.{reads_itself, reads_then}

-- what slabs hold at each point of some regions, and nothing elsewhere
abbrev pub HoldTheirs : World → List ℕ → List Slab → List One → Type 0
HoldTheirs w o regions helds =
    (x : Point) → top_held helds x ≡ cond (slabs_have regions x) (held w o x) None

same_max : (n : ℕ) → max n n ≡ n
same_max n = omega arith

once : (l : Option ℕ) → greater l l ≡ l
once None = refl
once (Some n) = ap Some (same_max n)

-- with one region more
theirs_more : (w : World) (o : List ℕ) (regions : List Slab) (i : ℕ) (region : Slab)
    (helds more new : List One) → i < length regions → region ≡ get_or regions i region
    → HoldTheirs w o (take i regions) helds → HaveLevel region more (held w o)
    → AddsLevel helds new (λ x. cond (slab_has region x) (top_held more x) None)
    → HoldTheirs w o (take (i + 1) regions) new
theirs_more w o regions i region helds more new below is before level added x =
    added x ∙ ap (λ l. greater l (cond (slab_has region x) (top_held more x) None)) (before x)
    ∙ go (slabs_have (take i regions) x) (slab_has region x) (level x)
    ∙ ap (λ b. cond b (held w o x) None) (sym (list_any_more (λ s. slab_has s x) regions i region below
    ∙ ap (λ s. slabs_have (take i regions) x || slab_has s x) (sym is))) where
      go : (a b : Bool) → (b ≡ true → top_held more x ≡ held w o x)
          → greater (cond a (held w o x) None) (cond b (top_held more x) None)
          ≡ cond (a || b) (held w o x) None
      go true true h = ap (greater (held w o x)) (h refl) ∙ once (held w o x)
      go true false h = greater_none (held w o x)
      go false true h = h refl
      go false false h = refl

module _ {S : Type 0} (g : Ghosts S) where
  -- some regions are read, and nothing was changed
  pub record IsReading (old new : HeldWorld S) (o : List ℕ) (regions : List Slab) (helds : List One) : Type 0
    where
      pub same : new.world ≡ old.world
      pub reads : OnlyReads g old.held new.held
      pub theirs : HasCleanDisk (state g new.held) → HoldTheirs old.world o regions helds

  pub reading_begins : (t : HeldWorld S) (o : List ℕ) (helds : List One) → Stands g t.held t.world
      → helds ≡ [] → IsReading t t o [] helds
  reading_begins t o helds stands none = record {
    same = refl;
    reads = reads_itself g t.held stands.settled;
    theirs = λ clean x. ap (λ hs. top_held hs x) none ∙ top_held-nil x;
  }

  pub reading_on : (old mid new : HeldWorld S) (o : List ℕ) (regions : List Slab) (i : ℕ)
      (region : Slab) (helds more given next : List One) → IsReading old mid o (take i regions) helds
      → new.world ≡ mid.world → OnlyReads g mid.held new.held → i < length regions
      → region ≡ get_or regions i region
      → (HasCleanDisk (state g new.held) → HaveLevel region more (λ x. at_least 0 (held mid.world o x)))
      → given ≡ more → AddsLevel helds next (λ x. cond (slab_has region x) (top_held given x) None)
      → IsReading old new o (take (i + 1) regions) next
  reading_on old mid new o regions i region helds more given next before same reads below is level alike
      added = record {
        same = same ∙ before.same;
        reads = reads_then g old.held mid.held new.held before.reads reads;
        theirs = λ clean. theirs_more old.world o regions i region helds given next below is
            (before.theirs (omega (arith, reads.doubt, clean)))
            (λ x here. ap (λ hs. top_held hs x) alike ∙ level clean x here
            ∙ ap (λ w. at_least 0 (held w o x)) before.same ∙ any_level (held old.world o x)) added;
      }

-- where the regions lie, and where others hold nothing
pub others_held : {V E : Type 0} (items : V → List One) (w : World) (o : List ℕ)
    (extents regions given : List Slab) → given ≡ regions → HoldNothingBeside w o extents regions
    → (r : Result V E) → IfOk r (λ v. HoldTheirs w o given (items v))
    → IfOk r (λ v. AreHeldByOthers w o extents (items v))
others_held items w o extents regions given same beside (Ok v) h = λ x here.
    h x ∙ ap (λ rs. cond (slabs_have rs x) (held w o x) None) same
    ∙ go (slabs_have regions x) (held w o x) (beside x here) where
      go : (b : Bool) (l : Option ℕ) → (b ≡ false → l ≡ None) → cond b l None ≡ l
      go true l k = refl
      go false l k = sym (k refl)
others_held items w o extents regions given same beside (Err e) h = tt
