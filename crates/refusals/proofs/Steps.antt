-- Steps of which the first that refuses decides.
use Rattle.std.proofs.Common.{◌≡◌, true, is_ok, Ok, Err, Result, refl}
use Rattle.refusals.specs.Chains.{and_then}

-- the first step of two that are accepted
pub then_ok : {X Y E : Type 0} (r : Result X E) (f : X → Result Y E) → is_ok (and_then r f) ≡ true → is_ok r ≡ true
then_ok (Ok x) f ok = refl
then_ok (Err e) f ok = ok
