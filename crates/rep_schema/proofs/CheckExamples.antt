-- Which rows meet a check, and the first check that a row doesn't meet.
use Rattle.std.proofs.Common.{◌≡◌, [], ◌∷◌, pos, negsuc, Some, None, true, false, refl}
use Rattle.std.specs.Prelude.{codes}
use Rattle.rep_values.specs.declared.value.Value.TheVariants.{Num, Words}
use Rattle.rep_schema.specs.declared.check.Check.{Check}
use Rattle.rep_schema.specs.declared.check.Rel.TheVariants.{Ne, Lt, Ge}
use Rattle.rep_schema.specs.Checks.{check_holds, first_failed}

-- the second column is 0 or more, the third isn't empty
abbrev low : Check
low = record { name = codes "low"; column = 1; rel = Ge; value = Num (pos 0) }

abbrev named : Check
named = record { name = codes "named"; column = 2; rel = Ne; value = Words [] }

zero_is_enough : check_holds low (Num (pos 1) ∷ Num (pos 0) ∷ []) ≡ true
zero_is_enough = refl

below_zero_is_not : check_holds low (Num (pos 1) ∷ Num (negsuc 0) ∷ []) ≡ false
below_zero_is_not = refl

no_column_meets_none : check_holds low (Num (pos 1) ∷ []) ≡ false
no_column_meets_none = refl

first_in_order : first_failed (low ∷ named ∷ []) (Num (pos 1) ∷ Num (negsuc 4) ∷ Words [] ∷ []) ≡ Some low
first_in_order = refl

second_fails_alone : first_failed (low ∷ named ∷ []) (Num (pos 1) ∷ Num (pos 4) ∷ Words [] ∷ []) ≡ Some named
second_fails_alone = refl

none_fails : first_failed (low ∷ named ∷ []) (Num (pos 1) ∷ Num (pos 4) ∷ Words (codes "x") ∷ []) ≡ None
none_fails = refl

texts_by_their_bytes : check_holds (record { name = codes "early"; column = 0; rel = Lt; value = Words (codes "M") }) (Words (codes "LON") ∷ []) ≡ true
texts_by_their_bytes = refl
