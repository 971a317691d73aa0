-- The bounds of a volume, and volumes that are appended.
use Rattle.std.proofs.Common.{◌≡◌, ℕ, ◌+◌, ◌<◌, Bool, List, [], ◌∷◌, ◌++◌, take, length, get_or, sym, ap, subst, ◌∙◌}
use Rattle.std.specs.List.{AllZip}
use Rattle.std.proofs.Math.Path.{fun_ext}
use Rattle.std.proofs.lemmas.List.{append_assoc, take_more}
use Rattle.volume4d.specs.declared.slab.Slab.{Slab}
use Rattle.volume4d.specs.Volume.{Point, Block}
use Rattle.volume4d.specs.Slab.{IsBounds}
use Rattle.desk_store.specs.World.{Filed}
use Rattle.live_index.specs.declared.volume.LiveVolume.{LiveVolume}
use Rattle.live_index.specs.Live.{IsLiveVolume, AddsLiveVolumes, AddsLivePlan, AreVolumes}
use Rattle.live_index.proofs.lemmas.Live.{one_more}

-- tests that agree at each point have the same bounds
pub bounds_alike : (f g : Point → Bool) (slab : Slab) → ((x : Point) → f x ≡ g x) → IsBounds f slab
    → IsBounds g slab
bounds_alike f g slab same = subst (λ test. IsBounds test slab) (fun_ext same)

-- a volume more of an area is appended
pub one_added : (p : Filed) (vs : List Block) (i : ℕ) (v : Block) (old now next : List LiveVolume)
    (live : LiveVolume) → i < length vs → v ≡ get_or vs i v → AddsLiveVolumes p (take i vs) old now
    → next ≡ now ++ live ∷ [] → IsLiveVolume p v live → AddsLiveVolumes p (take (i + 1) vs) old next
one_added p vs i v old now next live below is (more, are, each) then one = (
  more ++ live ∷ [],
  then ∙ ap (λ xs. xs ++ live ∷ []) are ∙ append_assoc old more (live ∷ []),
  subst (λ us. AllZip (IsLiveVolume p) us (more ++ live ∷ []))
      (sym (take_more vs i v below ∙ ap (λ u. take i vs ++ u ∷ []) (sym is)))
      (one_zipped (take i vs) more each),
) where
  one_zipped : (us : List Block) (lives : List LiveVolume) → AllZip (IsLiveVolume p) us lives
      → AllZip (IsLiveVolume p) (us ++ v ∷ []) (lives ++ live ∷ [])
  one_zipped [] [] h = (one, tt)
  one_zipped [] (l ∷ lives) h = absurd h
  one_zipped (u ∷ us) [] h = absurd h
  one_zipped (u ∷ us) (l ∷ lives) h = (h.0, one_zipped us lives h.1)

-- a plan more is appended to those of others
pub plan_added : (p : Filed) (ps : List Filed) (old new : List LiveVolume) → AddsLivePlan p old new
    → AreVolumes ps old → AreVolumes (ps ++ p ∷ []) new
plan_added p ps old new (more, are, mine) h =
    subst (AreVolumes (ps ++ p ∷ [])) (sym are) (one_more p ps old more h mine)
