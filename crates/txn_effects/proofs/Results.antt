-- Results one behind the other.
use Rattle.std.proofs.Common.{◌≡◌, Ok, Err, refl}
use Rattle.std.specs.Prelude.{Result}
use Rattle.txn_effects.specs.Parts.{result_then}

-- where something came out behind a result, that came out too
pub result_then-Ok : {A B E : Type 0} (first : Result A E) (following : A → Result B E) (b : B) → result_then first following ≡ Ok b → (a : A) × (first ≡ Ok a) × (following a ≡ Ok b)
result_then-Ok (Ok a) following b gives = (a, refl, gives)
result_then-Ok (Err e) following b gives = cc
