-- A number that a conversion gave.
use Rattle.std.proofs.Common.{◌≡◌, Some, Result, Ok, Err}
use Rattle.std.specs.Result.{OkIff, result_ok}

-- it is the number that was converted
pub converted_is : {T E : Type 0} (r : Result T E) (P : Type 0) (was found : T) → OkIff r P was → Some found
    ≡ result_ok r → found ≡ was
converted_is (Ok x) P was found holds is = let same = holds.1 in cc
converted_is (Err e) P was found holds is = cc
