use Rattle.std.proofs.Common.{◌≡◌, arith, refl, subst, sym}
use Rattle.std.specs.List.{filter}
use Rattle.desk_store.specs.declared.change.Change.{Change}
use Rattle.live_index.specs.Live.{stays_at, volumes_of}
use Rattle.live_index.proofs.LiveLemmas.{all_stay}
use Rattle.live_index.proofs.live.LiveIndex.remove_named.Goals as goal

pub returns-in-Enrol : goal.returns-in-Enrol
returns-in-Enrol c = record {
  same = λ placed.
      subst (λ (change : Change). volumes_of c.args.self.now
      ≡ filter (stays_at change) (volumes_of c.args.self.now)) (sym c.in-Enrol.is)
      (all_stay (volumes_of c.args.self.now));
  group_bounded = λ h. h;
  placed = λ h. h;
  room = refl;
  less = omega arith;
}
