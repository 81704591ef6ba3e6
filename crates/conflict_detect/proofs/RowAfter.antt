-- The groups in which two rows with one key differ hold all that differs.
use Rattle.std.proofs.Common.{◌≡◌, ◌≢◌, ◌⊎◌, ℕ, zero, suc, ◌<◌, List, [], ◌∷◌, length, get_or, map, Bool, true, false, cond, pos, refl, sym, ◌∙◌, subst, inl, inr, arith}
use Rattle.std.specs.Prelude.{not, ◌||◌, ◌==◌, filter, Contains}
use Rattle.std.specs.List.{AllByRecursion, list_any}
use Rattle.std.proofs.lemmas.Bool.{eqb-true, eq-eqb}
use Rattle.std.proofs.lemmas.List.{ext_get_or}
use Rattle.rep_values.specs.declared.value.Value.{Value}
use Rattle.rep_values.specs.declared.value.Value.TheVariants.{Num}
use Rattle.rep_values.specs.Equality.{value_eq, value_eq-Decides}
use Rattle.rep_schema.specs.declared.schema.Schema.{Schema}
use Rattle.rep_schema.specs.declared.schema.Column.{Column}
use Rattle.rep_schema.specs.Tables.{Cells, columns_of, key_of, RowFits}
use Rattle.rep_schema.specs.Shape.{HasShape}
use Rattle.rep_schema.specs.Groups.{group_columns_of, group_numbers_of, values_at, with_values, group_values, are_same, differ_in, differing_groups}
use Rattle.rep_schema.proofs.RowFit.{length-fits}
use Rattle.rep_schema.proofs.ValuesAt.{are_same-Decides}
use Rattle.rep_schema.proofs.WithValues.{length-with_values, with_values_keep, with_values_put, same_from_values_at}
use Rattle.rep_schema.proofs.Coverage.{group_columns_of-below, group_of_column}
use Rattle.conflict_detect.specs.ChangeCalls.{part_between, parts_between, with_parts}
use Rattle.conflict_detect.specs.Laws.{AreOneRow}
use Rattle.conflict_detect.proofs.FitTested.{listed_test}

-- the value that is never there
abbrev blank : Value
blank = Num (pos 0)

-- rows with one key have the same value in each key column
same_key_at : (columns : List Column) (a b : Cells) (k : ℕ) (c : Column) (d : Value) → RowFits columns a → RowFits columns b → key_of columns a ≡ key_of columns b → k < length columns → (get_or columns k c).key ≡ true
    → get_or a k d ≡ get_or b k d
same_key_at [] a b k c d fits_a fits_b same within is_key = absurd (omega (arith, within))
same_key_at (x ∷ xs) [] b k c d fits_a fits_b same within is_key = absurd fits_a
same_key_at (x ∷ xs) (v ∷ vs) [] k c d fits_a fits_b same within is_key = absurd fits_b
same_key_at (x ∷ xs) (v ∷ vs) (w ∷ ws) zero c d fits_a fits_b same within is_key = let both = rw is_key at same in cc
same_key_at (x ∷ xs) (v ∷ vs) (w ∷ ws) (suc k) c d fits_a fits_b same within is_key =
    same_key_at xs vs ws k c d fits_a.1 fits_b.1 (rest x.key same) (omega (arith, within)) is_key
  where
    rest : (b : Bool) → cond b (v ∷ key_of xs vs) (key_of xs vs) ≡ cond b (w ∷ key_of xs ws) (key_of xs ws) → key_of xs vs ≡ key_of xs ws
    rest true same = cc
    rest false same = same

-- a list with a place has a value
some_value : {X : Type 0} (xs : List X) (k : ℕ) → k < length xs → X
some_value [] k within = absurd (omega (arith, within))
some_value (x ∷ xs) k within = x

-- what is listed and passes is listed among what passes
listed-filter : (p : ℕ → Bool) (xs : List ℕ) (x : ℕ) → list_any (λ y. y == x) xs ≡ true → p x ≡ true → list_any (λ y. y == x) (filter p xs) ≡ true
listed-filter p [] x listed passes = cc
listed-filter p (y ∷ ys) x listed passes = go (y == x) refl listed (λ later. listed-filter p ys x later passes)
  where
    behind : (b : Bool) → list_any (λ y. y == x) (filter p ys) ≡ true → list_any (λ y. y == x) (cond b (y ∷ filter p ys) (filter p ys)) ≡ true
    behind false later = later
    behind true later = either (y == x)
      where
        either : (b : Bool) → (b || list_any (λ y. y == x) (filter p ys)) ≡ true
        either true = refl
        either false = later

    go : (b : Bool) → (y == x) ≡ b → (b || list_any (λ y. y == x) ys) ≡ true → (list_any (λ y. y == x) ys ≡ true → list_any (λ y. y == x) (filter p ys) ≡ true)
        → list_any (λ y. y == x) (cond (p y) (y ∷ filter p ys) (filter p ys)) ≡ true
    go true here listed later = let is : y ≡ x = eqb-true y x here in rw (is, passes, eq-eqb x x refl)
    go false here listed later = behind (p y) (later listed)

module _ (schema : Schema) (shape : HasShape schema) (table : ℕ) (a b : Cells) (one : AreOneRow schema table a b) where
  as_long : length a ≡ length b
  as_long = sym (length-fits (columns_of schema table) a one.first) ∙ length-fits (columns_of schema table) b one.second

  within_b : (group : ℕ) → AllByRecursion (λ c. c < length b) (group_columns_of schema table group)
  within_b group = subst (λ n. AllByRecursion (λ c. c < n) (group_columns_of schema table group)) (length-fits (columns_of schema table) b one.second) (group_columns_of-below schema shape table group)

  -- where the rows have other values, a group that differs has the column
  differing_at : (k : ℕ) (c : Column) → k < length (columns_of schema table) → get_or a k blank ≢ get_or b k blank
      → (group : ℕ) × Contains (group_numbers_of schema table) group × (differ_in schema table a b group ≡ true) × (list_any (λ c. c == k) (group_columns_of schema table group) ≡ true)
  differing_at k c within differ = go (get_or (columns_of schema table) k c).key refl
    where
      go : (is_key : Bool) → (get_or (columns_of schema table) k c).key ≡ is_key
          → (group : ℕ) × Contains (group_numbers_of schema table) group × (differ_in schema table a b group ≡ true) × (list_any (λ c. c == k) (group_columns_of schema table group) ≡ true)
      go true is_key = absurd (differ (same_key_at (columns_of schema table) a b k c blank one.first one.second one.same_key within is_key))
      go false plain =
          let found = group_of_column schema shape table k c within plain in
          let test = are_same-Decides (group_values schema table found.0 a) (group_values schema table found.0 b) in
          (found.0, found.1, fails (are_same (group_values schema table found.0 a) (group_values schema table found.0 b)) (λ same. differ (same_from_values_at b blank (group_columns_of schema table found.0) a k as_long (within_b found.0) found.2 (test.0 same))), found.2)
        where
          fails : (t : Bool) → (t ≡ true → ⊥) → not t ≡ true
          fails true never = absurd (never refl)
          fails false never = refl

  listed_group : (k : ℕ) → k < length a → get_or a k blank ≢ get_or b k blank
      → (group : ℕ) × (list_any (λ g. g == group) (differing_groups schema table a b) ≡ true) × (list_any (λ c. c == k) (group_columns_of schema table group) ≡ true)
  listed_group k within differ =
      let in_columns : k < length (columns_of schema table) = omega (arith, within, length-fits (columns_of schema table) a one.first) in
      let found = differing_at k (some_value (columns_of schema table) k in_columns) in_columns differ in
      (found.0, listed-filter (differ_in schema table a b) (group_numbers_of schema table) found.0 ((listed_test (group_numbers_of schema table) found.0).1 found.1) found.2, found.3)

  -- rows are the same where all their values are
  same_or_listed : (k : ℕ) → k < length a → (get_or a k blank ≡ get_or b k blank)
      ⊎ ((group : ℕ) × (list_any (λ g. g == group) (differing_groups schema table a b) ≡ true) × (list_any (λ c. c == k) (group_columns_of schema table group) ≡ true))
  same_or_listed k within = go (value_eq (get_or a k blank) (get_or b k blank)) refl
    where
      go : (t : Bool) → value_eq (get_or a k blank) (get_or b k blank) ≡ t → (get_or a k blank ≡ get_or b k blank)
          ⊎ ((group : ℕ) × (list_any (λ g. g == group) (differing_groups schema table a b) ≡ true) × (list_any (λ c. c == k) (group_columns_of schema table group) ≡ true))
      go true e = inl ((value_eq-Decides (get_or a k blank) (get_or b k blank)).0 e)
      go false e = inr (listed_group k within (λ same. let test = (value_eq-Decides (get_or a k blank) (get_or b k blank)).1 same in cc))

  -- so two rows that differ in no group are the same
  pub same_from_groups : differing_groups schema table a b ≡ [] → a ≡ b
  same_from_groups none = ext_get_or blank a b as_long (λ k within. elim (same_or_listed k within) [
    | inl same ↦ same
    | inr found ↦ let nothing = rw none at found.1 in cc
  ])

  -- the row with the new values of the parts of some groups
  abbrev with_groups : List ℕ → Cells → Cells
  with_groups groups row = with_parts schema table (map (part_between schema table a b) groups) row

  put_group : ℕ → Cells → Cells
  put_group group row = with_values (group_columns_of schema table group) (values_at (group_columns_of schema table group) b) row

  length-put_group : (group : ℕ) (row : Cells) → length (put_group group row) ≡ length row
  unfolding put_group
  length-put_group group row = length-with_values (group_columns_of schema table group) (values_at (group_columns_of schema table group) b) row

  length-with_groups : (groups : List ℕ) (row : Cells) → length (with_groups groups row) ≡ length row
  unfolding put_group
  length-with_groups [] row = refl
  length-with_groups (g ∷ gs) row = length-with_groups gs (put_group g row) ∙ length-put_group g row

  -- what is as after stays so
  with_groups_keep : (groups : List ℕ) (row : Cells) (k : ℕ) → length row ≡ length b → get_or row k blank ≡ get_or b k blank → get_or (with_groups groups row) k blank ≡ get_or b k blank
  unfolding put_group
  with_groups_keep [] row k long same = same
  with_groups_keep (g ∷ gs) row k long same =
      with_groups_keep gs (put_group g row) k (length-put_group g row ∙ long) (with_values_keep b blank (group_columns_of schema table g) row k long (within_b g) same)

  -- and a column of one of the groups becomes so
  with_groups_put : (groups : List ℕ) (row : Cells) (k group : ℕ) → length row ≡ length b → list_any (λ g. g == group) groups ≡ true → list_any (λ c. c == k) (group_columns_of schema table group) ≡ true
      → get_or (with_groups groups row) k blank ≡ get_or b k blank
  unfolding put_group
  with_groups_put [] row k group long listed in_group = cc
  with_groups_put (g ∷ gs) row k group long listed in_group =
      go (g == group) refl listed (λ later. with_groups_put gs (put_group g row) k group (length-put_group g row ∙ long) later in_group)
    where
      go : (t : Bool) → (g == group) ≡ t → (t || list_any (λ g. g == group) gs) ≡ true
          → (list_any (λ g. g == group) gs ≡ true → get_or (with_groups gs (put_group g row)) k blank ≡ get_or b k blank) → get_or (with_groups gs (put_group g row)) k blank ≡ get_or b k blank
      go true here listed later =
          let is : g ≡ group = eqb-true g group here in
          with_groups_keep gs (put_group g row) k (length-put_group g row ∙ long) (with_values_put b blank (group_columns_of schema table g) row k long (within_b g) (subst (λ n. list_any (λ c. c == k) (group_columns_of schema table n) ≡ true) (sym is) in_group))
      go false here listed later = later listed

  -- the new values of the groups that differ lead to the row after
  pub with_parts-parts_between : with_parts schema table (parts_between schema table a b) a ≡ b
  with_parts-parts_between =
      let groups = differing_groups schema table a b in
      ext_get_or blank (with_groups groups a) b (length-with_groups groups a ∙ as_long) (λ k within.
      let in_a : k < length a = omega (arith, within, length-with_groups groups a) in
      elim (same_or_listed k in_a) [
        | inl same ↦ with_groups_keep groups a k as_long same
        | inr found ↦ with_groups_put groups a k found.0 as_long found.1 found.2
      ])
