-- What a few plans hold, whose spans are looked up by their keys.
use Rattle.std.proofs.Common.{◌≡◌, ◌<◌, ◌+◌, ℕ, Bool, false, true, ◌&&◌, ◌||◌, List, [], ◌∷◌, ◌++◌, length, take, get_or, map, filter, None, IsTrue, refl, sym, ap, subst, ◌∙◌, arith}
use Rattle.std.specs.List.{AllByRecursion, flat_map, list_any}
use Rattle.std.proofs.Math.Bool.{and-or_distrib_left, and-false}
use Rattle.std.proofs.lemmas.List.{take_more}
use Rattle.sqlite_trees.specs.declared.store.Store.{Ghosts}
use Rattle.sqlite_value.specs.declared.value.Value.TheVariants.{Text}
use Rattle.sqlite_value.specs.Order.{Row}
use Rattle.sqlite.specs.State.{HasCleanDisk}
use Rattle.sqlite.specs.Held.{state}
use Rattle.volume4d.specs.declared.slab.Slab.{Slab}
use Rattle.volume4d.specs.declared.slab.Held.{Held as One}
use Rattle.volume4d.specs.Slab.{top_by, slab_has, top_held}
use Rattle.volume4d.proofs.lemmas.Level.{top_held-nil}
use Rattle.volume4d.specs.Volume.{Point}
use Rattle.desk_rules.specs.Conflict.{at_least}
use Rattle.desk_sql.specs.Effects.{OnlyReads}
use Rattle.desk_sql.specs.Rows as sql
use Rattle.desk_sql.specs.Rows.{Tables, columns_from_first, tables_of}
use Rattle.desk_store.specs.World.{Filed, World, IsContent, IsId, IsPlan, HaveLevel}
use Rattle.desk_store.proofs.lemmas.Order.{all_append}
use Rattle.live_index.specs.declared.near.PlanKey.{PlanKey}
use Rattle.live_index.specs.Live.{is_listed, listed_level, listed_top}
use Rattle.row_codec.specs.RowsRead.{HasTakenHelds, HaveTaken, HaveTakenAll, is_asked_of_plan, span_filter_of}
use Rattle.desk_tables.specs.Store.{spans_shown, HeldWorld}
use Rattle.table_load.specs.Opening.{Stands}
use Rattle.row_codec.specs.Tables.{AreTables, id_text}
use Rattle.desk_tables.proofs.AskingLemmas.{IsAsking, asking_begins, asking_on}
use Rattle.desk_tables.proofs.FilterLemmas.{own_row}
use Rattle.desk_tables.proofs.HeldLemmas.{is_in, on_plans, row_has, row_priority, taken_top, top_asked, top_permuted}
use Rattle.table_load.proofs.lemmas.Store.{no_row}

abbrev pub AreIds : List PlanKey → Type 0
AreIds keys = AllByRecursion (λ k. IsId k.id) keys

-- a row is of one of the plans
abbrev of_one : List PlanKey → Row → Bool
of_one keys r = list_any (λ k. sql.is_of k.operator (id_text k.id) r) keys

is_one : (keys : List PlanKey) → AreIds keys → (p : Filed) (r : Row) → IsPlan p.row
    → of_one keys (Text p.operator ∷ Text (id_text p.row.id) ∷ r) ≡ is_listed keys p
is_one [] hi p r hp = refl
is_one (k ∷ keys) hi p r hp = λ i. own_row k.operator k.id p r hi.0 hp.id i || is_one keys hi.1 p r hp i

none_any : (l : Bool) → false ≡ (l && false)
none_any l = sym (and-false l)

each_reached : (l : Bool) (has : PlanKey → Bool) (keys : List PlanKey)
    → list_any (λ k. l && has k) keys ≡ (l && list_any has keys)
each_reached l has [] = none_any l
each_reached l has (k ∷ keys) = ap (λ b. (l && has k) || b) (each_reached l has keys)
    ∙ sym (and-or_distrib_left l (has k) (list_any has keys))

module _ (keys : List PlanKey) (least : ℕ) (e : Slab) where
  -- the slabs of their rows hold at a point what the plans hold there
  at_point : (tables : Tables) (w : World) (helds : List One) → AreIds keys → IsContent w
      → AreTables tables w → HaveTakenAll (is_asked_of_plan least e) keys tables.spans helds → (x : Point)
      → slab_has e x ≡ true → top_held helds x ≡ at_least least (listed_top keys w.plans x)
  at_point tables w helds hi h t (rows, alike, taken) x inside =
      let (all, are, moved) = t.spans in
      taken_top rows helds x taken
      ∙ sym (top_permuted (λ r. row_has r x) row_priority (flat_map (λ k.
      map columns_from_first (filter (is_asked_of_plan least e k) tables.spans)) keys) rows alike)
      ∙ top_asked (is_asked_of_plan least e) columns_from_first (λ r. row_has r x) row_priority tables.spans keys
      ∙ (λ i. top_by (λ r. each_reached (sql.passes_filter (span_filter_of e least) r)
      (λ k. sql.is_of k.operator (id_text k.id) r) keys i && row_has (columns_from_first r) x)
      (λ r. row_priority (columns_from_first r)) tables.spans)
      ∙ sym (top_permuted (λ r. (sql.passes_filter (span_filter_of e least) r && of_one keys r)
      && row_has (columns_from_first r) x) (λ r. row_priority (columns_from_first r)) all tables.spans moved)
      ∙ on_plans (of_one keys) (is_listed keys) (is_one keys hi) least e x (is_in e x inside)
      (λ p. listed_level keys p x) (λ ps. listed_top keys ps x) (λ p. refl) refl (λ p ps. refl)
      w.plans all h.rows are

-- no plan holds nothing
none_listed : (ps : List Filed) (x : Point) → listed_top [] ps x ≡ None
none_listed [] x = refl
none_listed (p ∷ ps) x = none_listed ps x

none_taken : (helds : List One) → HasTakenHelds helds [] → helds ≡ []
none_taken [] h = refl
none_taken (one ∷ helds) h = absurd h

module _ {S : Type 0} (g : Ghosts S) (least : ℕ) (e : Slab) where
  -- some plans are read, and nothing was changed
  pub record IsReadingPlans (old new : HeldWorld S) (keys : List PlanKey) (helds : List One) : Type 0 where
    pub asking : IsAsking g old new (is_asked_of_plan least e) keys helds
    pub ids : AreIds keys

  pub plans_begin : (t : HeldWorld S) (helds : List One) → Stands g t.held t.world → helds ≡ []
      → IsReadingPlans t t [] helds
  plans_begin t helds stands none = record {
    asking = asking_begins g (is_asked_of_plan least e) t helds stands none;
    ids = tt;
  }

  pub plans_on : (old mid new : HeldWorld S) (all : List PlanKey) (i : ℕ) (key : PlanKey)
      (helds more next : List One) → IsReadingPlans old mid (take i all) helds → new.world ≡ mid.world
      → OnlyReads g mid.held new.held → i < length all → key ≡ get_or all i key → IsId key.id
      → (HasCleanDisk (state g new.held) → IsTrue (state g mid.held).is_open)
      → (HasCleanDisk (state g new.held)
      → HaveTaken (is_asked_of_plan least e key) (spans_shown g mid) more)
      → next ≡ helds ++ more → IsReadingPlans old new (take (i + 1) all) next
  plans_on old mid new all i key helds more next before same reads within is id live taken then = record {
    asking = subst (IsAsking g old new (is_asked_of_plan least e) (take (i + 1) all)) (sym then)
        (asking_on g (is_asked_of_plan least e) old mid new all i key helds more before.asking same reads
        within live (λ clean. subst (λ k. HaveTaken (is_asked_of_plan least e k) (spans_shown g mid) more) is
        (taken clean)));
    ids = subst AreIds (sym (take_more all i key within)) (all_append (λ k. IsId k.id) (take i all)
        (get_or all i key ∷ []) before.ids (subst (λ k. IsId k.id) is id, tt));
  }

  pub plans_level : (old new : HeldWorld S) (keys : List PlanKey) (helds : List One)
      → Stands g old.held old.world → IsReadingPlans old new keys helds → HasCleanDisk (state g new.held)
      → HaveLevel e helds (λ x. at_least least (listed_top keys old.world.plans x))
  plans_level old new [] helds stands h clean = λ x inside.
      let (rows, alike, taken) = h.asking.taken clean in
      ap (λ hs. top_held hs x)
      (none_taken helds (subst (HasTakenHelds helds) (no_row rows alike) taken)) ∙ top_held-nil x
      ∙ sym (ap (at_least least) (none_listed old.world.plans x))
  plans_level old new (k ∷ keys) helds stands h clean = λ x inside.
      let standing = stands.standing (omega (arith, h.asking.reads.doubt, clean))
      (h.asking.opened clean (omega arith)) in
      at_point (k ∷ keys) least e (tables_of (state g old.held).now.trees) old.world helds h.ids
      standing.content standing.tables (h.asking.taken clean) x inside
