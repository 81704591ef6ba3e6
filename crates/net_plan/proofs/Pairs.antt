-- When a direction is between two sites, and two pairs of sites are the same.
use Rattle.std.proofs.Common.{◌≡◌, ℕ, true, List, refl, sym, ap, ◌∙◌}
use Rattle.std.specs.Bool.{Decides}
use Rattle.std.specs.Cmp.{unsigned_Decides}
use Rattle.std.proofs.lemmas.Slice.Eq.{slice_eq-Decides}
use Rattle.std.proofs.lemmas.Bool.{and_parts, and_from}
use Rattle.rep_values.specs.declared.name.SiteName.{SiteName}
use Rattle.rep_values.specs.Name.{same_bytes}
use Rattle.net_plan.specs.Directions.{Direction, new_direction, is_between}
use Rattle.net_plan.specs.Calls.{is_same_pair}

same_bytes-Decides : (a b : List ℕ) → Decides (same_bytes a b) (a ≡ b)
same_bytes-Decides a b = slice_eq-Decides unsigned_Decides a b (same_bytes a b) refl

-- what is the same as one thing is the same as each other
same_both : (x a b : List ℕ) → same_bytes x a ≡ true → same_bytes x b ≡ true → same_bytes a b ≡ true
same_both x a b one other = (same_bytes-Decides a b).1 (sym ((same_bytes-Decides x a).0 one) ∙ (same_bytes-Decides x b).0 other)

same_then : (x a b : List ℕ) → same_bytes x a ≡ true → same_bytes a b ≡ true → same_bytes x b ≡ true
same_then x a b one other = (same_bytes-Decides x b).1 ((same_bytes-Decides x a).0 one ∙ (same_bytes-Decides a b).0 other)

-- a direction is between one pair of sites
pub is_same_pair-between : (a b from to : SiteName) (d : Direction) → is_between a b d ≡ true → is_between from to d ≡ true → is_same_pair a b from to ≡ true
is_same_pair-between a b from to d one other =
    let ones = and_parts _ _ one in
    let others = and_parts _ _ other in
    and_from _ _ (same_both d.from.0 a.0 from.0 ones.0 others.0) (same_both d.to.0 b.0 to.0 ones.1 others.1)

-- so it is between the same pair, however this is named
pub is_between-same_pair : (a b from to : SiteName) (d : Direction) → is_same_pair a b from to ≡ true → is_between a b d ≡ true → is_between from to d ≡ true
is_between-same_pair a b from to d same one =
    let ones = and_parts _ _ one in
    let sames = and_parts _ _ same in
    and_from _ _ (same_then d.from.0 a.0 from.0 ones.0 sames.0) (same_then d.to.0 b.0 to.0 ones.1 sames.1)

-- pairs that pass the test are the same
pub is_same_pair-true : (a b from to : SiteName) → is_same_pair a b from to ≡ true → (a ≡ from) × (b ≡ to)
is_same_pair-true a b from to same =
    let sames = and_parts _ _ same in (
      ap (λ (bytes : List ℕ). record { 0 = bytes }) ((same_bytes-Decides a.0 from.0).0 sames.0),
      ap (λ (bytes : List ℕ). record { 0 = bytes }) ((same_bytes-Decides b.0 to.0).0 sames.1),
    )

-- a new direction is between its sites
pub is_between-new : (from to : SiteName) → is_between from to (new_direction from to) ≡ true
is_between-new from to = and_from _ _ ((same_bytes-Decides from.0 from.0).1 refl) ((same_bytes-Decides to.0 to.0).1 refl)
