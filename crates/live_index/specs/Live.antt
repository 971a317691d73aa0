-- The volumes of live plans, as they are kept in memory, and which of them lie near an extent.
use Rattle.std.specs.Prelude.{ℕ, ◌+◌, ◌≤◌, ◌≡◌, false, List, Option, Some, None, length, Bool, true, not, ◌&&◌, nat_le, [], ◌∷◌, ◌++◌, MatchBool, ◌||◌}
use Rattle.std.specs.{Ordering.is_eq, Ordering.ordering_then, BTreeMap.is_at, Map.lookup, Global.Vec, List.AllByRecursion, List.AllZip, List.filter, List.list_any, List.Sorted.IsPermutation, List.Sorted.IsStrictlySortedBy}
use Rattle.std.specs.declared.cmp.Ordering.{Ordering}
use Rattle.volume4d.specs.{Volume.Block, Volume.block_has, Volume.Point, Slab.IsBounds, Slab.IsWithin, Slab.overlap, Slab.slab_has, Slab.slabs_have, Slab.greater, Slab.level_where}
use Rattle.volume4d.specs.declared.slab.Slab.{Slab}
use Rattle.desk_rules.specs.{Outcome.is_live, Outcome.row_holds, Conflict.at_least}
use Rattle.desk_store.specs.{World.text_cmp, World.Filed, World.World, World.filed_cmp, World.held, World.held_at, World.plans_of, Changes.filed_by}
use Rattle.desk_store.specs.declared.change.{Change.Change, Change.TheVariants.Enrol, Change.TheVariants.Put, Change.TheVariants.Close, Change.TheVariants.Clear}
use Rattle.desk_store.specs.World as rows
use Rattle.slab_regions.specs.Regions.{meets}
use Rattle.slab_regions.specs.declared.sought.SearchArea.{SearchArea}
use Rattle.live_index.specs.declared.{near.PlanKey.PlanKey, near.NearPlans.NearPlans, near.Wanted.Wanted, places.Places.Places, volume.LiveVolume.LiveVolume, bbox.BoundingBox.BoundingBox, chunk.Chunk.Chunk, group.Group.Group, live.LiveIndexBuilder.LiveIndexBuilder, live.LiveIndex.LiveIndex}

abbrev pub Lists : Type 0
Lists = List (PlanKey × Vec ℕ)

-- keys in the order of their operators, and then of their ids
abbrev pub key_cmp : PlanKey → PlanKey → Ordering
key_cmp one other = ordering_then (text_cmp one.operator other.operator) (text_cmp one.id other.id)

-- the list of a plan's places, if it has one
abbrev pub list_of : PlanKey → Lists → Option (Vec ℕ)
list_of key lists = lookup (is_at (key_cmp key)) lists

-- how many places a list has; 0 if there is no list
abbrev pub length_or_none : Option (Vec ℕ) → ℕ
length_or_none None = 0
length_or_none (Some places) = length places.items

-- how many places a plan has
abbrev pub places_in : PlanKey → Lists → ℕ
places_in key lists = length_or_none (list_of key lists)

abbrev pub places_at : List ℕ → List ℕ → Places → ℕ
places_at operator id places = places_in (record { operator = operator; id = id }) places.plans.entries

-- ---- changes
-- each plan has as many places in `new` as in `old`, or more
abbrev pub AreNoFewer : Lists → Lists → Type 0
AreNoFewer old new = (key : PlanKey) → places_in key old ≤ places_in key new

-- the plan has at least one place more in `new` than in `old`
abbrev pub HasOneMore : PlanKey → Lists → Lists → Type 0
HasOneMore key old new = places_in key old + 1 ≤ places_in key new

-- each other plan than this one has as many places in `new` as in `old`, or more
abbrev pub OthersAreNoFewer : PlanKey → Lists → Lists → Type 0
OthersAreNoFewer key old new = (other : PlanKey) → is_eq (key_cmp key other) ≡ false
    → places_in other old ≤ places_in other new

-- ==== The volumes of live plans, as they are kept in memory
-- `live` is the entry of plan p's volume v: the owner, the plan's priority, the smallest slab with its points
pub record IsLiveVolume (p : Filed) (v : Block) (live : LiveVolume) : Type 0 where
  pub operator : live.operator ≡ p.operator
  pub id : live.id ≡ p.row.id
  pub priority : live.priority ≡ p.row.priority
  pub bounds : IsBounds (block_has v) live.bounds

-- `lives` has one entry for each volume of a plan that is live, in their order; none for one that is closed
abbrev pub AreVolumesOf : Filed → List LiveVolume → Type 0
AreVolumesOf p lives = MatchBool (is_live p.row.usage) (AllZip (IsLiveVolume p) p.row.area lives) (lives ≡ [])

-- `lives` has the entries for the plans, one plan after the other
abbrev pub AreVolumes : List Filed → List LiveVolume → Type 0
AreVolumes [] lives = lives ≡ []
AreVolumes (p ∷ ps) lives =
    (front rest : List LiveVolume) × (lives ≡ front ++ rest) × AreVolumesOf p front × AreVolumes ps rest

-- each volume of a live plan of a world has one entry among `lives`, and nothing else has one
pub record AreLive (w : World) (lives : List LiveVolume) : Type 0 where
  pub order : IsStrictlySortedBy filed_cmp w.plans
  pub listed : List LiveVolume
  pub volumes : AreVolumes w.plans listed
  pub same : IsPermutation listed lives

-- the entries for the volumes of a plan's area are appended, whether the plan is live or not
abbrev pub AddsLiveVolumes : Filed → List Block → List LiveVolume → List LiveVolume → Type 0
AddsLiveVolumes p area old new =
    (more : List LiveVolume) × (new ≡ old ++ more) × AllZip (IsLiveVolume p) area more

-- the entries for a plan are appended: none if it isn't live
abbrev pub AddsLivePlan : Filed → List LiveVolume → List LiveVolume → Type 0
AddsLivePlan p old new = (more : List LiveVolume) × (new ≡ old ++ more) × AreVolumesOf p more

-- whether a volume is of the operator's plan with the id
abbrev pub is_volume_of : List ℕ → List ℕ → LiveVolume → Bool
is_volume_of operator id live = is_eq (text_cmp id live.id) && is_eq (text_cmp operator live.operator)

-- whether a volume is of another plan than the operator's with the id
abbrev pub is_of_other_plan : List ℕ → List ℕ → LiveVolume → Bool
is_of_other_plan operator id live = not (is_volume_of operator id live)

-- ---- what is kept
-- whether a chunk, or one of the chunks of a group, has a volume of the operator's plan with the id
abbrev pub chunk_has_plan : List ℕ → List ℕ → Chunk → Bool
chunk_has_plan operator id c = list_any (is_volume_of operator id) c.volumes.items

abbrev pub group_has_plan : List ℕ → List ℕ → Group → Bool
group_has_plan operator id g = list_any (chunk_has_plan operator id) g.chunks.items

-- the bounds of a volume lie within those of a bounding box, and its priority is at most that of the box
pub record IsInBox (bbox : BoundingBox) (live : LiveVolume) : Type 0 where
  pub within : IsWithin live.bounds bbox.bounds
  pub top : live.priority ≤ bbox.top

-- each volume of a chunk lies within the chunk's bounding box
abbrev pub IsBoundedChunk : Chunk → Type 0
IsBoundedChunk c = AllByRecursion (IsInBox c.bbox) c.volumes.items

abbrev pub AreBoundedChunks : List Chunk → Type 0
AreBoundedChunks chunks = AllByRecursion IsBoundedChunk chunks

-- the volumes of some things, one after the other
abbrev pub gather : {C : Type 0} → (C → List LiveVolume) → List C → List LiveVolume
gather vols [] = []
gather vols (c ∷ cs) = vols c ++ gather vols cs

-- the volumes of chunks, those of groups, and all that are kept
abbrev pub volumes_in : List Chunk → List LiveVolume
volumes_in chunks = gather (λ c. c.volumes.items) chunks

abbrev pub volumes_under : List Group → List LiveVolume
volumes_under groups = gather (λ g. volumes_in g.chunks.items) groups

abbrev pub volumes_of : LiveIndex → List LiveVolume
volumes_of kept = volumes_under kept.groups.items ++ kept.unindexed.items

-- each volume of a group lies within the bounding box of its chunk, and within that of the group
pub record IsBoundedGroup (group : Group) : Type 0 where
  pub each : AreBoundedChunks group.chunks.items
  pub all : AllByRecursion (IsInBox group.bbox) (volumes_in group.chunks.items)

abbrev pub AreBoundedGroups : List Group → Type 0
AreBoundedGroups groups = AllByRecursion IsBoundedGroup groups

-- how many volumes of the operator's plan with the id there are
abbrev pub count_of : List ℕ → List ℕ → List LiveVolume → ℕ
count_of operator id lives = length (filter (is_volume_of operator id) lives)

-- each plan has at least as many places as it has volumes among `lives`
abbrev pub ArePlaced : Places → List LiveVolume → Type 0
ArePlaced places lives = (operator id : List ℕ) → count_of operator id lives ≤ places_at operator id places

-- each live volume of a world is kept once, within the bounding boxes of its chunk and group if it is in one
pub record AreKeptOnce (kept : LiveIndex) (w : World) : Type 0 where
  pub live : AreLive w (volumes_of kept)
  pub group_bounded : AreBoundedGroups kept.groups.items
  pub placed : ArePlaced kept.places (volumes_under kept.groups.items)

-- the volumes that a builder has collected
abbrev pub gathered_in : LiveIndexBuilder → List LiveVolume
gathered_in gathering = gathering.volumes.items

-- the index has capacity for so many more unindexed volumes
abbrev pub HasRoomForVolumes : LiveIndex → ℕ → Type 0
HasRoomForVolumes kept count = length kept.unindexed.items + count ≤ kept.unindexed.cap

-- no volume waits to be put into a chunk
abbrev pub AreSettled : LiveIndex → Type 0
AreSettled kept = length kept.unindexed.items ≡ 0

-- ---- changes
-- whether a volume is of one of the operator's plans with the ids
abbrev pub is_of_any : List ℕ → List (List ℕ) → LiveVolume → Bool
is_of_any operator ids live = list_any (λ id. is_volume_of operator id live) ids

-- whether a volume stays when a change is made, which takes out the volumes of the plans that it names
abbrev pub stays_at : Change → LiveVolume → Bool
stays_at (Enrol operator ceiling) live = true
stays_at (Put operator row) live = is_of_other_plan operator row.id live
stays_at (Close operator id) live = is_of_other_plan operator id live
stays_at (Clear operator ids) live = not (is_of_any operator ids.items live)

-- `fresh` has the volumes that a change adds: a put adds those of its plan
abbrev pub AreAddedBy : Change → List LiveVolume → Type 0
AreAddedBy (Enrol operator ceiling) fresh = fresh ≡ []
AreAddedBy (Put operator row) fresh = AreVolumesOf (filed_by operator row) fresh
AreAddedBy (Close operator id) fresh = fresh ≡ []
AreAddedBy (Clear operator ids) fresh = fresh ≡ []

-- only volumes of the operator's plan with the id were removed, at least `gone` of them
pub record RemovesPlanVolumes (operator id : List ℕ) (old new : List LiveVolume) (gone : ℕ) : Type 0 where
  pub others : filter (is_of_other_plan operator id) new ≡ filter (is_of_other_plan operator id) old
  pub fewer : count_of operator id new + gone ≤ count_of operator id old

-- of all volumes of an index those are left that pass the test `stays`
pub record HasLeft (stays : LiveVolume → Bool) (old new : LiveIndex) : Type 0 where
  pub same : ArePlaced old.places (volumes_under old.groups.items)
      → volumes_of new ≡ filter stays (volumes_of old)
  pub group_bounded : AreBoundedGroups old.groups.items → AreBoundedGroups new.groups.items
  pub placed : ArePlaced old.places (volumes_under old.groups.items)
      → ArePlaced new.places (volumes_under new.groups.items)
  pub room : new.unindexed.cap ≡ old.unindexed.cap
  pub less : length new.unindexed.items ≤ length old.unindexed.items

-- ---- queries
-- whether a bounding box has a priority of at least `least`, and overlaps what is sought
abbrev pub may_meet : ℕ → SearchArea → BoundingBox → Bool
may_meet least sought bbox = nat_le least bbox.top && meets sought bbox.bounds

-- ==== Where live volumes of other operators lie near extents
-- at a point of the extents that is in no region, the plans of other operators hold nothing
abbrev pub HoldNothingBeside : World → List ℕ → List Slab → List Slab → Type 0
HoldNothingBeside w operator extents regions =
    (x : Point) → slabs_have extents x ≡ true → slabs_have regions x ≡ false → held w operator x ≡ None

-- whether a volume is another operator's
abbrev pub is_another : List ℕ → LiveVolume → Bool
is_another operator live = not (is_eq (text_cmp operator live.operator))

-- whether it is another operator's, and its bounds overlap an extent
abbrev pub is_theirs : List ℕ → Slab → LiveVolume → Bool
is_theirs operator extent live = is_another operator live && overlap live.bounds extent

-- whether a chunk, a group or an index has another operator's volume whose bounds overlap the extent
abbrev pub chunk_has_theirs : List ℕ → Slab → Chunk → Bool
chunk_has_theirs operator extent c =
    overlap c.bbox.bounds extent && list_any (is_theirs operator extent) c.volumes.items

abbrev pub group_has_theirs : List ℕ → Slab → Group → Bool
group_has_theirs operator extent g =
    overlap g.bbox.bounds extent && list_any (chunk_has_theirs operator extent) g.chunks.items

abbrev pub has_theirs : List ℕ → LiveIndex → Slab → Bool
has_theirs operator kept extent = list_any (group_has_theirs operator extent) kept.groups.items
    || list_any (is_theirs operator extent) kept.unindexed.items

-- ==== The plans that live volumes near extents belong to
-- ---- what plans that are listed hold
-- a plan is one of those
abbrev pub is_listed : List PlanKey → Filed → Bool
is_listed keys p = list_any (λ k. rows.is_own k.operator k.id p) keys

-- the priority that a plan holds at a point, if it is listed; and the greatest that some plans hold there
abbrev pub listed_level : List PlanKey → Filed → Point → Option ℕ
listed_level keys p x = level_where (is_listed keys p && row_holds p.row x) p.row.priority

abbrev pub listed_top : List PlanKey → List Filed → Point → Option ℕ
listed_top keys [] x = None
listed_top keys (p ∷ ps) x = greater (listed_level keys p x) (listed_top keys ps x)

-- what is held at a point by all plans but the operator's own one with this id, or, if there is no id, but
-- all of its own
abbrev pub held_but : World → List ℕ → Option (List ℕ) → Point → Option ℕ
held_but w operator None x = held w operator x
held_but w operator (Some id) x = held_at (plans_of operator w) (held w operator) id x

-- at each point of the extents, the greatest priority that the listed plans hold is the greatest that the
-- wanted plans hold; priorities below the least don't count
abbrev pub AreWantedPlans : World → Wanted → List Slab → List PlanKey → Type 0
AreWantedPlans w wanted extents keys = (x : Point) → slabs_have extents x ≡ true
    → at_least wanted.least (listed_top keys w.plans x)
    ≡ at_least wanted.least (held_but w wanted.operator wanted.id x)

-- ---- how they are found
abbrev pub key_of : LiveVolume → PlanKey
key_of live = record { operator = live.operator; id = live.id }

-- whether the id is the one that is given; any id is, if none is given
abbrev pub is_id : Option (List ℕ) → List ℕ → Bool
is_id None id = true
is_id (Some own) id = is_eq (text_cmp own id)

-- whether a volume is of the plan that `wanted` leaves out: the operator's with the id, or any of its plans
abbrev pub is_own_volume : Wanted → LiveVolume → Bool
is_own_volume wanted live = is_id wanted.id live.id && is_eq (text_cmp wanted.operator live.operator)

-- whether a volume is of a plan that is wanted: of at least the least priority, and not left out
abbrev pub is_wanted_volume : Wanted → LiveVolume → Bool
is_wanted_volume wanted live = nat_le wanted.least live.priority && not (is_own_volume wanted live)

-- whether a volume is wanted, and its bounds overlap what is sought
abbrev pub is_near_to : Wanted → SearchArea → LiveVolume → Bool
is_near_to wanted sought live = meets sought live.bounds && is_wanted_volume wanted live

-- whether the plan of a volume is listed
abbrev pub is_among : List PlanKey → LiveVolume → Bool
is_among keys live = list_any (λ k. is_volume_of k.operator k.id live) keys

-- whether a volume is wanted and its bounds have the point, but its plan isn't listed
abbrev pub is_missed_at : Wanted → List PlanKey → Point → LiveVolume → Bool
is_missed_at wanted keys x live =
    (slab_has live.bounds x && is_wanted_volume wanted live) && not (is_among keys live)

-- a plan is none that `wanted` leaves out
abbrev pub IsNotOwnPlan : Wanted → PlanKey → Type 0
IsNotOwnPlan wanted k = (is_id wanted.id k.id && is_eq (text_cmp wanted.operator k.operator)) ≡ false

-- plans were listed for the volumes `lives`, and none was dropped. If `new` is complete, `old` was (`still`),
-- and no volume is missed at the points that pass the test `inside`. A plan that `wanted` leaves out is not
-- listed anew (`another`); others may be listed that have no such point
pub record AddsPlans (wanted : Wanted) (inside : Point → Bool) (lives : List LiveVolume)
    (old new : NearPlans) : Type 0
  where
    pub kept : (live : LiveVolume) → is_among old.keys.keys live ≡ true → is_among new.keys.keys live ≡ true
    pub still : new.is_complete ≡ true → old.is_complete ≡ true
    pub whole : new.is_complete ≡ true → (x : Point) → inside x ≡ true
        → list_any (is_missed_at wanted new.keys.keys x) lives ≡ false
    pub another : AllByRecursion (IsNotOwnPlan wanted) old.keys.keys
        → AllByRecursion (IsNotOwnPlan wanted) new.keys.keys

-- the same plans are listed; `new` is complete only if `old` was
pub record ListsSamePlans (old new : NearPlans) : Type 0 where
  pub same : new.keys.keys ≡ old.keys.keys
  pub still : new.is_complete ≡ true → old.is_complete ≡ true

-- a volume's plan was added, or `new` isn't complete; no plan was dropped
pub record TakesPlan (live : LiveVolume) (old new : NearPlans) : Type 0 where
  pub kept : (other : LiveVolume) → is_among old.keys.keys other ≡ true → is_among new.keys.keys other ≡ true
  pub still : new.is_complete ≡ true → old.is_complete ≡ true
  pub listed : new.is_complete ≡ true → is_among new.keys.keys live ≡ true
  pub another : (wanted : Wanted) → is_own_volume wanted live ≡ false
      → AllByRecursion (IsNotOwnPlan wanted) old.keys.keys → AllByRecursion (IsNotOwnPlan wanted) new.keys.keys

-- all wanted volumes that have a point that passes the test `inside` are of plans that are listed, and none
-- of these is left out by `wanted`
pub record AreNearPlans (wanted : Wanted) (inside : Point → Bool) (lives : List LiveVolume)
    (keys : List PlanKey) : Type 0
  where
    pub whole : (x : Point) → inside x ≡ true → list_any (is_missed_at wanted keys x) lives ≡ false
    pub another : AllByRecursion (IsNotOwnPlan wanted) keys
