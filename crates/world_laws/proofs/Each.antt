-- What holds of each of a list.
use Rattle.std.specs.Prelude.{List, [], ◌∷◌}
use Rattle.std.specs.List.{AllByRecursion}

-- what follows from two things that hold of each holds of each
pub all_both : {X : Type 0} (P Q R : X → Type 0) (xs : List X) → ((x : X) → P x → Q x → R x) → AllByRecursion P xs → AllByRecursion Q xs → AllByRecursion R xs
all_both P Q R [] each ps qs = tt
all_both P Q R (x ∷ xs) each ps qs = (each x ps.0 qs.0, all_both P Q R xs each ps.1 qs.1)
