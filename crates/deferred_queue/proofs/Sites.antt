-- The test whether two sites are the same.
use Rattle.std.proofs.Common.{◌≡◌, ℕ, ◌<◌, ◌==◌, true, false, List, refl, ap, arith}
use Rattle.std.specs.Bool.{Decides}
use Rattle.std.specs.Cmp.{unsigned_Decides}
use Rattle.std.proofs.lemmas.Slice.Eq.{slice_eq-Decides}
use Rattle.std.proofs.lemmas.Bool.Decides.{nat_tests}
use Rattle.rep_values.specs.declared.name.SiteName.{SiteName}
use Rattle.rep_values.specs.Name.{same_bytes}
use Rattle.rep_values.specs.SiteNames.{is_same_site}

same_bytes-Decides : (a b : List ℕ) → Decides (same_bytes a b) (a ≡ b)
same_bytes-Decides a b = slice_eq-Decides unsigned_Decides a b (same_bytes a b) refl

-- sites that pass the test are the same
pub is_same_site-true : (a b : SiteName) → is_same_site a b ≡ true → a ≡ b
is_same_site-true a b is = ap (λ (n : List ℕ). record { 0 = n }) ((same_bytes-Decides a.0 b.0).0 is)

-- a site is the same as itself
pub is_same_site-refl : (a : SiteName) → is_same_site a a ≡ true
is_same_site-refl a = (same_bytes-Decides a.0 a.0).1 refl

-- a number is itself
pub eq_true : (a b : ℕ) → a ≡ b → (a == b) ≡ true
eq_true a b same = grind (arith, nat_tests)

-- and isn't a greater one
pub eq_false : (a b : ℕ) → a < b → (a == b) ≡ false
eq_false a b less = grind (arith, nat_tests)

-- nor a lower one
pub eq_false_above : (a b : ℕ) → b < a → (a == b) ≡ false
eq_false_above a b more = grind (arith, nat_tests)
