-- Regions near which other operators' volumes lie.
use Rattle.std.proofs.Common.{◌≡◌, ℕ, Bool, true, false, true≢false, MatchBool, ◌&&◌, ◌||◌, not, List, [], ◌∷◌, cond, None, refl, sym, ap, ◌∙◌}
use Rattle.std.specs.List.{AllByRecursion, AllZip, filter, list_any}
use Rattle.std.specs.Ordering.{is_eq}
use Rattle.std.proofs.lemmas.List.Folds.{list_any-append}
use Rattle.std.proofs.lemmas.List.Sorted.{list_any-IsPermutation}
use Rattle.volume4d.specs.declared.slab.Slab.{Slab}
use Rattle.volume4d.specs.Slab.{overlap, greater, level_where, slab_has, slabs_have}
use Rattle.volume4d.specs.Volume.{Point, Block, block_has, area_has}
use Rattle.volume4d.proofs.lemmas.Bounds.{overlapping, overlaps_round}
use Rattle.desk_rules.specs.Outcome.{is_live, row_holds}
use Rattle.desk_store.specs.World.{Filed, World, held, is_by, text_cmp, other_level, others_top}
use Rattle.desk_store.proofs.lemmas.Rival.{others_top-cons, others_top-nil, held_by_others}
use Rattle.live_index.specs.declared.volume.LiveVolume.{LiveVolume}
use Rattle.live_index.specs.declared.bbox.BoundingBox.{BoundingBox}
use Rattle.live_index.specs.declared.chunk.Chunk.{Chunk}
use Rattle.live_index.specs.declared.group.Group.{Group}
use Rattle.live_index.specs.declared.live.LiveIndex.{LiveIndex}
use Rattle.live_index.specs.Live.{AreBoundedGroups, AreKeptOnce, AreLive, AreVolumes, AreVolumesOf, IsInBox, IsBoundedGroup, IsLiveVolume, IsBoundedChunk, gather, volumes_in, volumes_of, volumes_under, HoldNothingBeside, chunk_has_theirs, group_has_theirs, has_theirs, is_another, is_theirs}
use Rattle.slab_regions.specs.Regions.{HaveEach}

-- whether it is another operator's, and its bounds have a point
abbrev pub is_theirs_at : List ℕ → Point → LiveVolume → Bool
is_theirs_at operator x live = is_another operator live && slab_has live.bounds x

either : (a b : Bool) → (a || b) ≡ false → (a ≡ false) × (b ≡ false)
either false false h = (refl, refl)
either false true h = absurd (true≢false h)
either true b h = absurd (true≢false h)

-- ---- volumes of other operators

module _ (o : List ℕ) (extent : Slab) (x : Point) (here : slab_has extent x ≡ true) where
  -- bounds that don't meet an extent have none of its points
  beside : (live : LiveVolume) → is_theirs o extent live ≡ false → is_theirs_at o x live ≡ false
  beside live far = go (is_another o live) (slab_has live.bounds x) refl far where
    go : (n b : Bool) → slab_has live.bounds x ≡ b → (n && overlap live.bounds extent) ≡ false
        → (n && b) ≡ false
    go false b e k = refl
    go true false e k = refl
    go true true e k = absurd (true≢false (sym (overlapping live.bounds extent x e here) ∙ k))

  none_beside : (lives : List LiveVolume) → list_any (is_theirs o extent) lives ≡ false
      → list_any (is_theirs_at o x) lives ≡ false
  none_beside [] far = refl
  none_beside (l ∷ lives) far =
      let parts = either (is_theirs o extent l) (list_any (is_theirs o extent) lives) far in
      λ i. beside l parts.0 i || none_beside lives parts.1 i

  -- volumes within a bounding box that doesn't overlap it
  none_within : (bbox : BoundingBox) (lives : List LiveVolume) → overlap bbox.bounds extent ≡ false
      → AllByRecursion (IsInBox bbox) lives → list_any (is_theirs_at o x) lives ≡ false
  none_within bbox [] far h = refl
  none_within bbox (l ∷ lives) far h =
      λ i. go (is_another o l) (slab_has l.bounds x) refl i || none_within bbox lives far h.1 i where
        go : (n b : Bool) → slab_has l.bounds x ≡ b → (n && b) ≡ false
        go false b e = refl
        go true false e = refl
        go true true e = absurd (true≢false (sym (overlaps_round l.bounds bbox.bounds extent h.0.within
            (overlapping l.bounds extent x e here)) ∙ far))

  none_in : {C : Type 0} (vols : C → List LiveVolume) (P : C → Type 0) (has : C → Bool)
      → ((one : C) → P one → has one ≡ false → list_any (is_theirs_at o x) (vols one) ≡ false)
      → (cs : List C) → AllByRecursion P cs → list_any has cs ≡ false
      → list_any (is_theirs_at o x) (gather vols cs) ≡ false
  none_in vols P has each [] h far = refl
  none_in vols P has each (c ∷ cs) h far =
      let parts = either (has c) (list_any has cs) far in
      list_any-append (is_theirs_at o x) (vols c) (gather vols cs)
      ∙ (λ i. each c h.0 parts.0 i || none_in vols P has each cs h.1 parts.1 i)

  none_in_chunk : (c : Chunk) → IsBoundedChunk c → chunk_has_theirs o extent c ≡ false
      → list_any (is_theirs_at o x) c.volumes.items ≡ false
  none_in_chunk c whole far = go (overlap c.bbox.bounds extent) refl far where
    go : (b : Bool) → overlap c.bbox.bounds extent ≡ b
        → (b && list_any (is_theirs o extent) c.volumes.items) ≡ false
        → list_any (is_theirs_at o x) c.volumes.items ≡ false
    go true e k = none_beside c.volumes.items k
    go false e k = none_within c.bbox c.volumes.items e whole

  none_in_group : (g : Group) → IsBoundedGroup g → group_has_theirs o extent g ≡ false
      → list_any (is_theirs_at o x) (volumes_in g.chunks.items) ≡ false
  none_in_group g group_bounded far = go (overlap g.bbox.bounds extent) refl far where
    go : (b : Bool) → overlap g.bbox.bounds extent ≡ b
        → (b && list_any (chunk_has_theirs o extent) g.chunks.items) ≡ false
        → list_any (is_theirs_at o x) (volumes_in g.chunks.items) ≡ false
    go true e k = none_in (λ c. c.volumes.items) IsBoundedChunk (chunk_has_theirs o extent) none_in_chunk
        g.chunks.items group_bounded.each k
    go false e k = none_within g.bbox (volumes_in g.chunks.items) e group_bounded.all

  none_kept : (kept : LiveIndex) → AreBoundedGroups kept.groups.items → has_theirs o kept extent ≡ false
      → list_any (is_theirs_at o x) (volumes_of kept) ≡ false
  none_kept kept group_bounded far =
      let parts = either (list_any (group_has_theirs o extent) kept.groups.items)
      (list_any (is_theirs o extent) kept.unindexed.items) far in
      list_any-append (is_theirs_at o x) (volumes_under kept.groups.items) kept.unindexed.items
      ∙ (λ i. none_in (λ g. volumes_in g.chunks.items) IsBoundedGroup (group_has_theirs o extent) none_in_group
      kept.groups.items group_bounded parts.0 i || none_beside kept.unindexed.items parts.1 i)

-- ---- where no such volume lies others hold nothing

module _ (o : List ℕ) (x : Point) where
  area_none : (p : Filed) (vs : List Block) (lives : List LiveVolume) → AllZip (IsLiveVolume p) vs lives
      → list_any (is_theirs_at o x) lives ≡ false
      → level_where (not (is_by o p) && area_has vs x) p.row.priority ≡ None
  area_none p [] [] h far = by_test (is_by o p) where
    by_test : (b : Bool) → level_where (not b && false) p.row.priority ≡ None
    by_test true = refl
    by_test false = refl
  area_none p [] (l ∷ lives) h far = absurd h
  area_none p (v ∷ vs) [] h far = absurd h
  area_none p (v ∷ vs) (l ∷ lives) h far =
      let parts = either (is_theirs_at o x l) (list_any (is_theirs_at o x) lives) far in
      go (is_by o p) (block_has v x) refl (h.0.bounds.has x)
      (ap (λ n. not (is_eq (text_cmp o n)) && slab_has l.bounds x) (sym h.0.operator) ∙ parts.0)
      (area_none p vs lives h.1 parts.1) where
        go : (b t : Bool) → block_has v x ≡ t → (block_has v x ≡ true → slab_has l.bounds x ≡ true)
            → (not b && slab_has l.bounds x) ≡ false
            → level_where (not b && area_has vs x) p.row.priority ≡ None
            → level_where (not b && (t || area_has vs x)) p.row.priority ≡ None
        go true t e has k ih = refl
        go false true e has k ih = absurd (true≢false (sym (has e) ∙ k))
        go false false e has k ih = ih

  plan_none : (p : Filed) (lives : List LiveVolume) → AreVolumesOf p lives
      → list_any (is_theirs_at o x) lives ≡ false → other_level o p x ≡ None
  unfolding other_level row_holds
  plan_none p lives are far = go (is_live p.row.usage) are where
    nothing : (b : Bool) → level_where (not b && false) p.row.priority ≡ None
    nothing true = refl
    nothing false = refl

    go : (b : Bool) → MatchBool b (AllZip (IsLiveVolume p) p.row.area lives) (lives ≡ [])
        → level_where (not (is_by o p) && (b && area_has p.row.area x)) p.row.priority ≡ None
    go true h = area_none p p.row.area lives h far
    go false h = nothing (is_by o p)

  plans_none : (ps : List Filed) (lives : List LiveVolume) → AreVolumes ps lives
      → list_any (is_theirs_at o x) lives ≡ false → others_top o ps x ≡ None
  plans_none [] lives are far = others_top-nil o x
  plans_none (p ∷ ps) lives (front, rest, are, mine, more) far =
      let parts = either (list_any (is_theirs_at o x) front) (list_any (is_theirs_at o x) rest)
      (sym (list_any-append (is_theirs_at o x) front rest) ∙ ap (list_any (is_theirs_at o x)) (sym are)
      ∙ far) in
      others_top-cons o p ps x ∙ ap (λ l. greater l (others_top o ps x)) (plan_none p front mine parts.0)
      ∙ plans_none ps rest more parts.1

  none_held : (w : World) (lives : List LiveVolume) → AreLive w lives
      → list_any (is_theirs_at o x) lives ≡ false → held w o x ≡ None
  none_held w lives h far =
      sym (held_by_others o w x) ∙ plans_none w.plans h.listed h.volumes
      (list_any-IsPermutation (is_theirs_at o x) h.listed lives h.same ∙ far)

-- from the extents that others' volumes are near to the regions
pub nothing_beside : (o : List ℕ) (w : World) (kept : LiveIndex) (all extents near regions : List Slab)
    → AreKeptOnce kept w → HaveEach all extents → near ≡ filter (has_theirs o kept) extents
    → HaveEach near regions → HoldNothingBeside w o all regions
nothing_beside o w kept all extents near regions h have is each x here beside =
    none_held o x w (volumes_of kept) h.live
    (in_all extents (have x here) (ap (λ ss. slabs_have ss x) (sym is) ∙ in_none (slabs_have near x) refl)) where
      in_none : (b : Bool) → slabs_have near x ≡ b → slabs_have near x ≡ false
      in_none false e = e
      in_none true e = absurd (true≢false (sym (each x e) ∙ beside))

      in_all : (es : List Slab) → slabs_have es x ≡ true
          → slabs_have (filter (has_theirs o kept) es) x ≡ false
          → list_any (is_theirs_at o x) (volumes_of kept) ≡ false
      in_all [] m k = absurd (true≢false (sym m))
      in_all (e ∷ es) m k = go (has_theirs o kept e) (slab_has e x) refl refl m k (in_all es) where
        go : (b c : Bool) → has_theirs o kept e ≡ b → slab_has e x ≡ c → (c || slabs_have es x) ≡ true
            → slabs_have (cond b (e ∷ filter (has_theirs o kept) es) (filter (has_theirs o kept) es)) x
            ≡ false
            → (slabs_have es x ≡ true → slabs_have (filter (has_theirs o kept) es) x ≡ false
            → list_any (is_theirs_at o x) (volumes_of kept) ≡ false)
            → list_any (is_theirs_at o x) (volumes_of kept) ≡ false
        go false true f t m k ih = none_kept o e x t kept h.group_bounded f
        go false false f t m k ih = ih m k
        go true c f t m k ih =
            let parts = either (slab_has e x) (slabs_have (filter (has_theirs o kept) es) x) k in
            by_first c t m parts.0 parts.1 where
              by_first : (c : Bool) → slab_has e x ≡ c → (c || slabs_have es x) ≡ true
                  → slab_has e x ≡ false → slabs_have (filter (has_theirs o kept) es) x ≡ false
                  → list_any (is_theirs_at o x) (volumes_of kept) ≡ false
              by_first true t m none k = absurd (true≢false (sym t ∙ none))
              by_first false t m none k = ih m k
