-- The parts of an update that is made of two rows lead from the one to the other, each of them matching.
use Rattle.std.proofs.Common.{◌≡◌, ◌≢◌, ℕ, zero, suc, ◌+◌, ◌<◌, ◌==◌, Bool, true, false, cond, List, [], ◌∷◌, length, get_or, set, map, Ok, refl, ap, ◌∙◌, subst, inl, inr, arith}
use Rattle.std.specs.Prelude.{Option, Some, None, IfSome, slice_get, Contains, ◌||◌}
use Rattle.std.specs.List.{AllByRecursion, AllPairs, list_any}
use Rattle.std.specs.List.Sorted.{IsStrictlyIncreasing}
use Rattle.std.proofs.lemmas.Bool.{eq-eqb}
use Rattle.std.proofs.lemmas.List.Kept.{AllPairs-from_increasing}
use Rattle.std.proofs.lemmas.List.Elements.{recursion_from_All}
use Rattle.std.proofs.lemmas.List.Folds.{list_any-from_Any}
use Rattle.std.proofs.lemmas.Option.{get_or_from_slice_get}
use Rattle.rep_lists.proofs.Places.{found_at}
use Rattle.rep_values.specs.declared.value.Value.{Value}
use Rattle.rep_schema.specs.declared.schema.Schema.{Schema}
use Rattle.rep_schema.specs.declared.schema.TableEntry.{TableEntry}
use Rattle.rep_schema.specs.declared.schema.Column.{Column}
use Rattle.rep_schema.specs.declared.schema.Group.{Group}
use Rattle.rep_schema.specs.Tables.{Cells, columns_of}
use Rattle.rep_schema.specs.Shape.{ShareNone, HasShape, HasTableShape}
use Rattle.rep_schema.specs.Groups.{shadow_group, groups_in, groups_of, is_grouped, shadow_from, named_columns, group_columns_of, values_at, with_values, group_values, with_group_values, are_same, differing_groups}
use Rattle.rep_schema.proofs.Shapes.{table_shape}
use Rattle.rep_schema.proofs.GroupShapes.{group_columns_of-shadow, group_columns_of-named, length-groups_of}
use Rattle.rep_schema.proofs.Coverage.{group_number_cases}
use Rattle.rep_schema.proofs.ValuesAt.{are_same-Decides}
use Rattle.rep_calls.specs.declared.call.Part.{Part}
use Rattle.conflict_detect.specs.Fits.{IsGroupOf, PartFits, UpdateFits}
use Rattle.conflict_detect.specs.ChangeCalls.{part_between, parts_between, with_parts}
use Rattle.conflict_detect.specs.Laws.{AreOneRow}
use Rattle.conflict_detect.proofs.RowAfter.{with_parts-parts_between}
use Rattle.txn_effects.specs.Parts.{settled_parts}

-- what is listed by the test is there, and the other way round
Contains-listed : (xs : List ℕ) (x : ℕ) → Contains xs x → list_any (λ y. y == x) xs ≡ true
Contains-listed xs x has = go xs has.0 has.1 has.2
  where
    go : (ys : List ℕ) (i : ℕ) → i < length ys → get_or ys i x ≡ x → list_any (λ y. y == x) ys ≡ true
    go [] i below is = absurd (omega (arith, below))
    go (y ∷ ys) zero below is = rw (eq-eqb y x is) refl
    go (y ∷ ys) (suc i) below is = let later = go ys i (omega (arith, below)) is in either (y == x) (list_any (λ z. z == x) ys) later
      where
        either : (a b : Bool) → b ≡ true → (a || b) ≡ true
        either true b later = refl
        either false b later = later

-- a column of the shadow group is in no named group
shadow_alone : (groups : List Group) (n : ℕ) (columns : List Column) (x i : ℕ) → i < length (shadow_from groups n columns) → get_or (shadow_from groups n columns) i x ≡ x → is_grouped groups x ≡ false
shadow_alone groups n [] x i below is = absurd (omega (arith, below))
shadow_alone groups n (c ∷ cs) x i below is = go (c.key || is_grouped groups n) refl i below is (λ j within same. shadow_alone groups (n + 1) cs x j within same)
  where
    alone : (a b : Bool) → (a || b) ≡ false → b ≡ false
    alone true b e = cc
    alone false b e = e

    go : (b : Bool) → (c.key || is_grouped groups n) ≡ b → (j : ℕ) → j < length (cond b (shadow_from groups (n + 1) cs) (n ∷ shadow_from groups (n + 1) cs))
        → get_or (cond b (shadow_from groups (n + 1) cs) (n ∷ shadow_from groups (n + 1) cs)) j x ≡ x
        → ((k : ℕ) → k < length (shadow_from groups (n + 1) cs) → get_or (shadow_from groups (n + 1) cs) k x ≡ x → is_grouped groups x ≡ false) → is_grouped groups x ≡ false
    go true out j below is later = later j below is
    go false out zero below is later = subst (λ m. is_grouped groups m ≡ false) is (alone c.key (is_grouped groups n) out)
    go false out (suc j) below is later = later j (omega (arith, below)) is

pub slice_get-set_other : (xs : Cells) (p q : ℕ) (y : Value) → q ≢ p → slice_get (set xs p y) q ≡ slice_get xs q
slice_get-set_other [] p q y other = refl
slice_get-set_other (x ∷ xs) zero zero y other = absurd (other refl)
slice_get-set_other (x ∷ xs) zero (suc q) y other = refl
slice_get-set_other (x ∷ xs) (suc p) zero y other = refl
slice_get-set_other (x ∷ xs) (suc p) (suc q) y other = slice_get-set_other xs p q y (λ same. other (ap suc same))

-- a write at other places
pub values_at-set_other : (places : List ℕ) (xs : Cells) (p : ℕ) (y : Value) → ¬ Contains places p → values_at places (set xs p y) ≡ values_at places xs
values_at-set_other [] xs p y none = refl
values_at-set_other (q ∷ qs) xs p y none =
    let other : q ≢ p = λ same. none (0, omega arith, same) in
    let later = values_at-set_other qs xs p y (λ has. none (suc has.0, omega (arith, has.1), has.2)) in
    rw (slice_get-set_other xs p q y other, later) refl

pub values_at-with_values : (places : List ℕ) (values row : Cells) (others : List ℕ) → ShareNone places others → values_at others (with_values places values row) ≡ values_at others row
values_at-with_values [] values row others apart = refl
values_at-with_values (p ∷ ps) [] row others apart = refl
values_at-with_values (p ∷ ps) (v ∷ vs) row others apart =
    values_at-with_values ps vs (set row p v) others (λ x has. apart x (suc has.0, omega (arith, has.1), has.2))
    ∙ values_at-set_other others row p v (apart p (0, omega arith, refl))

module _ (schema : Schema) (shape : HasShape schema) (table : ℕ) where
  -- the columns of two named groups
  named_apart : (g h : ℕ) → g < h → h < length (groups_of schema table) → ShareNone (named_columns (slice_get (groups_of schema table) g)) (named_columns (slice_get (groups_of schema table) h))
  named_apart g h below within = go (slice_get schema.tables table) (table_shape schema shape table) within
    where
      go : (entry : Option TableEntry) → IfSome entry (HasTableShape (length schema.priorities)) → h < length (groups_in entry)
          → ShareNone (named_columns (slice_get (groups_in entry) g)) (named_columns (slice_get (groups_in entry) h))
      go None is within = absurd (omega (arith, within))
      go (Some entry) is within =
          let first = found_at entry.groups g (omega (arith, below, within)) in
          let second = found_at entry.groups h within in
          let apart = is.groups_apart g h first.0 below within in
          let one : get_or entry.groups g first.0 ≡ first.0 = get_or_from_slice_get entry.groups g first.0 first.0 first.1 in
          let two : get_or entry.groups h first.0 ≡ second.0 = get_or_from_slice_get entry.groups h second.0 first.0 second.1 in
          rw (first.1, second.1) (rw (one, two) at apart)

  -- a column of a named group is not in the shadow group
  named_not_shadow : (g : ℕ) → g < length (groups_of schema table) → ShareNone (named_columns (slice_get (groups_of schema table) g)) (group_columns_of schema table shadow_group)
  named_not_shadow g within x has also =
      let found = found_at (groups_of schema table) g within in
      let listed : list_any (λ c. c == x) found.0.columns ≡ true = Contains-listed found.0.columns x (rw found.1 at has) in
      let grouped : is_grouped (groups_of schema table) x ≡ true = list_any-from_Any (λ (group : Group). list_any (λ c. c == x) group.columns) (groups_of schema table)
      (g, found.0, within, get_or_from_slice_get (groups_of schema table) g found.0 found.0 found.1, listed) in
      let here = rw (group_columns_of-shadow schema table) at also in
      let alone = shadow_alone (groups_of schema table) 0 (columns_of schema table) x here.0 here.1 here.2 in
      cc (grouped, alone)

  turned : (xs ys : List ℕ) → ShareNone xs ys → ShareNone ys xs
  turned xs ys apart x has also = apart x also has

  -- two groups of a table have no column in common
  pub groups_share_none : (g h : ℕ) → IsGroupOf schema table g → IsGroupOf schema table h → g < h → ShareNone (group_columns_of schema table g) (group_columns_of schema table h)
  groups_share_none g h of_g of_h below = elim (group_number_cases schema table g of_g) [
    | inl named ↦
        let few = length-groups_of schema shape table in
        let plain : g ≢ shadow_group = omega (arith, named, few) in
        elim (group_number_cases schema table h of_h) [
          | inl also ↦
              let other : h ≢ shadow_group = omega (arith, also, few) in
              rw (group_columns_of-named schema table g plain, group_columns_of-named schema table h other) (named_apart g h below also)
          | inr shadow ↦ rw (group_columns_of-named schema table g plain, shadow) (named_not_shadow g named)
        ]
    | inr shadow ↦ elim (group_number_cases schema table h of_h) [
      | inl also ↦ let few = length-groups_of schema shape table in absurd (omega (arith, shadow, below, also, few))
      | inr shadow_too ↦ absurd (omega (arith, shadow, below, shadow_too))
    ]
  ]

  module _ (before after : Cells) where
    -- the row has the first row's values in each of these groups
    abbrev AreAsBefore : List ℕ → Cells → Type 0
    AreAsBefore groups row = AllByRecursion (λ g. group_values schema table g row ≡ group_values schema table g before) groups

    as_before : (g : ℕ) (values row : Cells) → IsGroupOf schema table g → (groups : List ℕ) → AllByRecursion (IsGroupOf schema table) groups → AllByRecursion (λ h. g < h) groups
        → AreAsBefore groups row → AreAsBefore groups (with_group_values schema table g values row)
    as_before g values row of_g [] of above same = tt
    as_before g values row of_g (h ∷ hs) of above same = (
      values_at-with_values (group_columns_of schema table g) values row (group_columns_of schema table h) (groups_share_none g h of_g of.0 above.0) ∙ same.0,
      as_before g values row of_g hs of.1 above.1 same.1,
    )

    abbrev parts_of : List ℕ → List Part
    parts_of groups = map (part_between schema table before after) groups

    abbrev Rise : List ℕ → Type 0
    Rise [] = Unit {0}
    Rise (g ∷ gs) = AllByRecursion (λ h. g < h) gs × Rise gs

    settled_own : (groups : List ℕ) → AllByRecursion (IsGroupOf schema table) groups → Rise groups → (row : Cells) → AreAsBefore groups row
        → settled_parts schema table (parts_of groups) row ≡ Ok (with_parts schema table (parts_of groups) row)
    settled_own [] of rise row same = refl
    settled_own (g ∷ gs) of rise row same =
        let matches : are_same (group_values schema table g row) (group_values schema table g before) ≡ true = (are_same-Decides (group_values schema table g row) (group_values schema table g before)).1 same.0 in
        rw matches
        (settled_own gs of.1 rise.1 (with_group_values schema table g (group_values schema table g after) row) (as_before g (group_values schema table g after) row of.0 gs of.1 rise.0 same.1))

    -- groups whose numbers rise, by recursion
    Rise-increasing : (groups : List ℕ) → IsStrictlyIncreasing groups → Rise groups
    Rise-increasing groups rising = go groups (AllPairs-from_increasing groups rising)
      where
        go : (gs : List ℕ) → AllPairs (λ x y. x < y) gs → Rise gs
        go [] pairs = tt
        go (h ∷ hs) pairs = (
          recursion_from_All (λ x. h < x) hs (λ i d within. pairs 0 (suc i) d (omega arith) (omega (arith, within))),
          go hs (λ i j d before_j within. pairs (suc i) (suc j) d (omega (arith, before_j)) (omega (arith, within))),
        )

    groups_of_parts : (groups : List ℕ) → map (λ (part : Part). part.group) (parts_of groups) ≡ groups
    groups_of_parts [] = refl
    groups_of_parts (g ∷ gs) = ap (λ xs. g ∷ xs) (groups_of_parts gs)

    are_groups : (groups : List ℕ) → AllByRecursion (PartFits schema table) (parts_of groups) → AllByRecursion (IsGroupOf schema table) groups
    are_groups [] fit = tt
    are_groups (g ∷ gs) fit = (fit.0.group, are_groups gs fit.1)

    unchanged : (groups : List ℕ) → AreAsBefore groups before
    unchanged [] = tt
    unchanged (g ∷ gs) = (refl, unchanged gs)

    -- the parts that two rows make lead from the one to the other
    pub settled_parts-own : (key : Cells) → AreOneRow schema table before after → UpdateFits schema table key (parts_between schema table before after)
        → settled_parts schema table (parts_between schema table before after) before ≡ Ok after
    settled_parts-own key one fits =
        let groups = differing_groups schema table before after in
        let rise : Rise groups = Rise-increasing groups (subst IsStrictlyIncreasing (groups_of_parts groups) fits.rise) in
        settled_own groups (are_groups groups fits.parts_fit) rise before (unchanged groups) ∙ ap (λ (row : Cells). Ok row) (with_parts-parts_between schema shape table before after one)
