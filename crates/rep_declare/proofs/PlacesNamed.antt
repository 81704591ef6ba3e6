-- The places of the columns that a line names: they rise, they are the table's, and none of them is taken.
use Rattle.std.proofs.Common.{◌≡◌, ℕ, zero, suc, ◌+◌, ◌<◌, ◌≤◌, Bool, true, false, cond, List, [], ◌∷◌, ◌++◌, length, get_or, Option, Some, None, refl, sym, subst, ◌∙◌, eq-eqb, arith}
use Rattle.std.specs.Prelude.{map, ◌==◌}
use Rattle.std.specs.List.{All, list_any}
use Rattle.std.specs.List.Sorted.{IsStrictlyIncreasing}
use Rattle.std.proofs.lemmas.Bool.{both_ways, or_parts}
use Rattle.std.proofs.lemmas.List.Elements.{All-nil, All-cons, All-contains}
use Rattle.std.proofs.lemmas.List.Folds.{Any-from_list_any, list_any_at}
use Rattle.std.proofs.lemmas.List.Quantifiers.{position-Some}
use Rattle.rep_values.specs.declared.refusal.Refusal.TheVariants as refusal
use Rattle.rep_values.specs.Name.{same_bytes}
use Rattle.rep_schema.specs.declared.schema.Column.{Column}
use Rattle.rep_schema.specs.declared.schema.Kind.TheVariants as kind
use Rattle.rep_schema.specs.Shape.{AreDistinct, AreColumns, ShareNone}
use Rattle.rep_schema.specs.Named.{is_column, column_named, column_place, places_from, places_named}
use Rattle.rep_values.specs.RefusalSteps.{unknown}
use Rattle.rep_declare.specs.Refusals.{column_step, columns_step}
use Rattle.rep_declare.specs.Additions.{place_or_zero, column_number}
use Rattle.rep_declare.specs.Laws.{ColumnIsFree}
use Rattle.rep_values.proofs.RefusalSteps.{or_then-None, refused-None}
use Rattle.rep_declare.proofs.ListNames.{same_bytes-true, same_bytes-same, list_any-false, place-AreDistinct}

-- what holds of the place of each column that is named holds of the places
pub All-places_from : (names : List (List ℕ)) (P : ℕ → Type 0) (n : ℕ) (cs : List Column) (d : Column)
    → ((k : ℕ) → k < length cs → list_any (same_bytes (get_or cs k d).name) names ≡ true → P (n + k)) → All P (places_from names n cs)
All-places_from names P n [] d holds = All-nil P
All-places_from names P n (c ∷ cs) d holds = at (list_any (same_bytes c.name) names) refl (All-places_from names P (n + 1) cs d next)
  where
    next : (k : ℕ) → k < length cs → list_any (same_bytes (get_or cs k d).name) names ≡ true → P (n + 1 + k)
    next k within named = let here : n + suc k ≡ n + 1 + k = omega arith in subst P here (holds (suc k) (omega (arith, within)) named)

    at : (b : Bool) → list_any (same_bytes c.name) names ≡ b → All P (places_from names (n + 1) cs) → All P (cond b (n ∷ places_from names (n + 1) cs) (places_from names (n + 1) cs))
    at true is later = let here : n + 0 ≡ n = omega arith in All-cons P n (places_from names (n + 1) cs) (subst P here (holds 0 (omega arith) is)) later
    at false is later = later

-- a number below all of a rising list may stand before it
IsStrictlyIncreasing-cons : (x : ℕ) (xs : List ℕ) → All (λ y. x < y) xs → IsStrictlyIncreasing xs → IsStrictlyIncreasing (x ∷ xs)
IsStrictlyIncreasing-cons x xs above rising zero within = above 0 0 (omega (arith, within))
IsStrictlyIncreasing-cons x xs above rising (suc k) within = let next : suc k + 1 ≡ suc (k + 1) = omega arith in rw next (rising k (omega (arith, within)))

pub IsStrictlyIncreasing-places_from : (names : List (List ℕ)) (n : ℕ) (cs : List Column) → IsStrictlyIncreasing (places_from names n cs)
IsStrictlyIncreasing-places_from names n [] = λ k within. absurd (omega (arith, within))
IsStrictlyIncreasing-places_from names n (c ∷ cs) = at (list_any (same_bytes c.name) names) (IsStrictlyIncreasing-places_from names (n + 1) cs)
  where
    at : (b : Bool) → IsStrictlyIncreasing (places_from names (n + 1) cs) → IsStrictlyIncreasing (cond b (n ∷ places_from names (n + 1) cs) (places_from names (n + 1) cs))
    at true later = IsStrictlyIncreasing-cons n (places_from names (n + 1) cs) (All-places_from names (λ y. n < y) (n + 1) cs c (λ k within named. omega arith)) later
    at false later = later

-- a column that is named has its place there
some-places_from : (names : List (List ℕ)) (n : ℕ) (cs : List Column) (k : ℕ) (d : Column) → k < length cs → list_any (same_bytes (get_or cs k d).name) names ≡ true
    → 1 ≤ length (places_from names n cs)
some-places_from names n [] k d within named = absurd (omega (arith, within))
some-places_from names n (c ∷ cs) zero d within named = rw named (omega arith)
some-places_from names n (c ∷ cs) (suc k) d within named = at (list_any (same_bytes c.name) names) (some-places_from names (n + 1) cs k d (omega (arith, within)) named)
  where
    at : (b : Bool) → 1 ≤ length (places_from names (n + 1) cs) → 1 ≤ length (cond b (n ∷ places_from names (n + 1) cs) (places_from names (n + 1) cs))
    at true later = omega arith
    at false later = later

-- columns of a line that isn't refused are free
pub columns_step-None : (columns : List Column) (is_taken : ℕ → Bool) (before names : List (List ℕ)) → columns_step columns is_taken before names ≡ None
    → All (ColumnIsFree columns is_taken) names
unfolding columns_step
columns_step-None columns is_taken before [] passed = All-nil (ColumnIsFree columns is_taken)
columns_step-None columns is_taken before (name ∷ names) passed =
    All-cons (ColumnIsFree columns is_taken) name names (at (column_place columns name) refl steps.0) (columns_step-None columns is_taken (before ++ name ∷ []) names steps.1)
  where
    steps : (column_step is_taken (list_any (same_bytes name) before) (column_place columns name) ≡ None) × (columns_step columns is_taken (before ++ name ∷ []) names ≡ None)
    steps = or_then-None _ _ passed

    at : (found : Option ℕ) → column_place columns name ≡ found → column_step is_taken (list_any (same_bytes name) before) found ≡ None → ColumnIsFree columns is_taken name
    at None is free = cc
    at (Some place) is free = (place, is, (or_parts (is_taken place) (list_any (same_bytes name) before) (refused-None _ refusal.NameTaken free)).0)

abbrev pub no_column : Column
no_column = record { name = []; kind = kind.Number; key = false }

-- the place of a name is one of the columns, and has the name
pub column_place-Some : (columns : List Column) (name : List ℕ) (place : ℕ) → column_place columns name ≡ Some place
    → (place < length columns) × ((get_or columns place no_column).name ≡ name)
column_place-Some columns name place is =
    let found = position-Some (is_column name) columns place no_column is in
    (found.0, same_bytes-true (get_or columns place no_column).name name found.1)

-- a column that is there has its place among the columns
pub column_number-below : (columns : List Column) (name : List ℕ) → unknown (column_place columns name) ≡ None → column_number columns name < length columns
column_number-below columns name there = at (column_place columns name) refl there
  where
    at : (found : Option ℕ) → column_place columns name ≡ found → unknown found ≡ None → place_or_zero found < length columns
    at None is there = cc
    at (Some place) is there = (column_place-Some columns name place is).0

-- and so has a column that is found by its name
pub column_number-named : (columns : List Column) (name : List ℕ) (column : Column) → column_named columns name ≡ Some column → column_number columns name < length columns
column_number-named columns name column found = at (column_place columns name) refl
  where
    some : (cs : List Column) → column_named cs name ≡ Some column → 0 < length cs
    some [] found = cc
    some (c ∷ cs) found = omega arith

    at : (place : Option ℕ) → column_place columns name ≡ place → place_or_zero place < length columns
    at None is = some columns found
    at (Some place) is = (column_place-Some columns name place is).0

module _ (columns : List Column) (is_taken : ℕ → Bool) (names : List (List ℕ)) (passed : columns_step columns is_taken [] names ≡ None) where
  free : All (ColumnIsFree columns is_taken) names
  free = columns_step-None columns is_taken [] names passed

  -- they are columns of the table where a column is named
  pub AreColumns-places_named : 1 ≤ length names → AreColumns (length columns) (places_named columns names)
  AreColumns-places_named some =
      let first = free 0 [] some in
      let found = column_place-Some columns (get_or names 0 []) first.0 first.1 in
      let named : list_any (same_bytes (get_or columns first.0 no_column).name) names ≡ true =
      list_any_at (same_bytes (get_or columns first.0 no_column).name) names 0 [] some (rw found.1 (same_bytes-same (get_or names 0 []))) in
      record {
        some = some-places_from names 0 columns first.0 no_column found.0 named;
        rising = IsStrictlyIncreasing-places_from names 0 columns;
        in_range = All-places_from names (λ p. p < length columns) 0 columns no_column (λ k within named. omega (arith, within));
      }

  -- none of them is taken, since a name has one place
  untaken : AreDistinct (map (λ c. c.name) columns) → All (λ p. is_taken p ≡ false) (places_named columns names)
  untaken distinct = All-places_from names (λ p. is_taken p ≡ false) 0 columns no_column (λ k within named.
      let by = Any-from_list_any (same_bytes (get_or columns k no_column).name) names named in
      let there : ColumnIsFree columns is_taken by.1 = subst (ColumnIsFree columns is_taken) by.3 (free by.0 by.1 by.2) in
      let found = column_place-Some columns by.1 there.0 there.1 in
      let same : there.0 ≡ k = place-AreDistinct (λ c. c.name) columns there.0 k no_column distinct found.0 within
      (found.1 ∙ sym (same_bytes-true (get_or columns k no_column).name by.1 by.4)) in
      let here : there.0 ≡ 0 + k = omega (arith, same) in
      subst (λ p. is_taken p ≡ false) here there.2)

-- they share nothing with those whose columns are taken
pub ShareNone-places_named : {X : Type 0} (columns_of : X → List ℕ) (xs : List X) (columns : List Column) (names : List (List ℕ)) → AreDistinct (map (λ c. c.name) columns)
    → columns_step columns (λ place. list_any (λ x. list_any (λ c. c == place) (columns_of x)) xs) [] names ≡ None → All (λ x. ShareNone (columns_of x) (places_named columns names)) xs
ShareNone-places_named columns_of xs columns names distinct passed = λ k d within p in_x in_places.
    let is_taken : ℕ → Bool = λ place. list_any (λ x. list_any (λ c. c == place) (columns_of x)) xs in
    let free : is_taken p ≡ false = All-contains (λ q. is_taken q ≡ false) (places_named columns names) p (untaken columns is_taken names passed distinct) in_places in
    let none : list_any (λ c. c == p) (columns_of (get_or xs k d)) ≡ false = list_any-false (λ x. list_any (λ c. c == p) (columns_of x)) xs free k d within in
    both_ways _ none (list_any_at (λ c. c == p) (columns_of (get_or xs k d)) in_x.0 p in_x.1 (eq-eqb _ _ in_x.2))
