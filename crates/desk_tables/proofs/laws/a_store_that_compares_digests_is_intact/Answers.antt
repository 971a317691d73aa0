use Rattle.std.proofs.Common.{◌≡◌, Bool, IsTrue, inl, inr, refl, sym, subst}
use Rattle.sqlite_trees.specs.View.{doubt}
use Rattle.sqlite_disk.specs.Modelled.{calls_of, start_of}
use Rattle.sqlite.proofs.Shield.{shield_means}
use Rattle.desk_tables.proofs.laws.a_store_that_compares_digests_is_intact.Goals as goal

no_doubt : (clean : Bool) → IsTrue clean → doubt clean ≡ 0
unfolding doubt
no_doubt clean up = subst (λ b. doubt b ≡ 0) (sym up) refl

pub returns : goal.returns
returns g c = λ shielded.
    elim (shield_means (start_of g.S.Start) (λ f. g.C.Calls.history (calls_of f)) (λ _. refl) (λ _. refl)
    c.args.store.now.held.store shielded) [
      | inl up ↦ inl (no_doubt _ up)
      | inr collided ↦ inr collided
    ]
