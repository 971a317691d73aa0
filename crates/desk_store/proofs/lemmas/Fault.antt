-- Honesty over calls, with its proof.
use Rattle.std.proofs.Common.{ℕ, ◌≤◌, arith}
use Rattle.desk_store.specs.Changes.{IsHonest}

-- doubt never falls, so a store that is honest after a call was honest before it
pub was_honest : {old new : ℕ} → old ≤ new → IsHonest new → IsHonest old
was_honest h e = omega (arith, h, e)
