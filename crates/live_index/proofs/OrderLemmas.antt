-- The bits of a place in the order of chunks.
use Rattle.std.proofs.Common.{◌≡◌, ℕ, bit_and}
use Rattle.std.proofs.lemmas.Nat.{and_assoc}

pub masked : (n : ℕ) → bit_and (bit_and n 0x1249_2492_4924_9249) 0x1249_2492_4924_9249
    ≡ bit_and n 0x1249_2492_4924_9249
masked n = and_assoc 0x1249_2492_4924_9249 n 0x1249_2492_4924_9249
