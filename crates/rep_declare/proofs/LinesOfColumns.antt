-- Lines that name columns: where they pass, and which places they name.
use Rattle.std.proofs.Common.{◌≡◌, ◌≢◌, ℕ, zero, suc, ◌+◌, ◌<◌, Bool, true, false, cond, List, [], ◌∷◌, ◌++◌, length, get_or, Option, Some, None, refl, sym, subst, ◌∙◌, arith}
use Rattle.std.specs.Prelude.{◌||◌}
use Rattle.std.specs.List.{All, Contains, list_any}
use Rattle.std.proofs.lemmas.Bool.{or_parts, false_from_ne_true}
use Rattle.std.proofs.lemmas.List.Elements.{All-nil, All-cons, All-head, All-tail, All-contains}
use Rattle.std.proofs.lemmas.List.Folds.{Any-from_list_any, list_any_at, list_any-append}
use Rattle.std.proofs.lemmas.List.Kept.{AllPairs-cons}
use Rattle.std.proofs.lemmas.Option.{slice_get-get_or, get_or_from_slice_get, slice_get_within}
use Rattle.rep_values.specs.declared.refusal.Refusal.TheVariants as refusal
use Rattle.rep_values.specs.Name.{same_bytes}
use Rattle.rep_schema.specs.declared.schema.Column.{Column}
use Rattle.rep_schema.specs.Shape.{AreDistinct}
use Rattle.rep_schema.specs.Named.{column_place, places_from, places_named}
use Rattle.rep_declare.specs.Refusals.{column_step, columns_step}
use Rattle.rep_declare.specs.Laws.{IsNamedAt, PlacesAreThoseOfNamedColumns, ColumnIsFree, LinesPassThatNameFreeColumns}
use Rattle.rep_values.proofs.RefusalSteps.{or_then-None, refused-None}
use Rattle.rep_declare.proofs.ListNames.{same_bytes-true, same_bytes-false, same_bytes-same}
use Rattle.rep_declare.proofs.PlacesNamed.{All-places_from, IsStrictlyIncreasing-places_from, columns_step-None, no_column}

-- a name that the test finds is in the list
Contains-same_bytes : (name : List ℕ) (names : List (List ℕ)) → list_any (same_bytes name) names ≡ true → Contains names name
Contains-same_bytes name names found =
    let by = Any-from_list_any (same_bytes name) names found in
    (by.0, by.2, subst (λ y. get_or names by.0 y ≡ y) (sym (same_bytes-true name by.1 by.4)) by.3)

-- and one in the list is found
same_bytes-Contains : (name : List ℕ) (names : List (List ℕ)) → Contains names name → list_any (same_bytes name) names ≡ true
same_bytes-Contains name names there = list_any_at (same_bytes name) names there.0 name there.1 (rw there.2 (same_bytes-same name))

-- a name that the test doesn't find differs from one in the list
other-same_bytes : (name other : List ℕ) (names : List (List ℕ)) → list_any (same_bytes name) (names ++ other ∷ []) ≡ false
    → (list_any (same_bytes name) names ≡ false) × (name ≢ other)
other-same_bytes name other names none =
    let parts = or_parts (list_any (same_bytes name) names) (same_bytes name other || false) (sym (list_any-append (same_bytes name) names (other ∷ [])) ∙ none) in
    (parts.0, same_bytes-false name other (or_parts (same_bytes name other) false parts.1).0)

-- a column that is named has its place among the places
named_is_among : (names : List (List ℕ)) (n : ℕ) (cs : List Column) (k : ℕ) (d : Column) → k < length cs → list_any (same_bytes (get_or cs k d).name) names ≡ true
    → Contains (places_from names n cs) (n + k)
named_is_among names n [] k d within named = absurd (omega (arith, within))
named_is_among names n (c ∷ cs) zero d within named = rw named (zero, omega arith, omega arith)
named_is_among names n (c ∷ cs) (suc k) d within named =
    at (list_any (same_bytes c.name) names) (subst (Contains (places_from names (n + 1) cs)) here (named_is_among names (n + 1) cs k d (omega (arith, within)) named))
  where
    here : n + 1 + k ≡ n + suc k
    here = omega arith

    at : (b : Bool) → Contains (places_from names (n + 1) cs) (n + suc k)
        → Contains (cond b (n ∷ places_from names (n + 1) cs) (places_from names (n + 1) cs)) (n + suc k)
    at true there = (suc there.0, omega (arith, there.1), there.2)
    at false there = there

-- the places of named columns
pub places_are_those_of_named_columns : PlacesAreThoseOfNamedColumns
places_are_those_of_named_columns columns names = (IsStrictlyIncreasing-places_from names 0 columns, λ place. (named_at place, among place))
  where
    each : All (IsNamedAt columns names) (places_named columns names)
    each = All-places_from names (IsNamedAt columns names) 0 columns no_column (λ k within named.
        let here : 0 + k ≡ k = omega arith in
        rw here (get_or columns k no_column, slice_get-get_or columns k no_column within, Contains-same_bytes _ names named))

    named_at : (place : ℕ) → Contains (places_named columns names) place → IsNamedAt columns names place
    named_at place there = All-contains (IsNamedAt columns names) (places_named columns names) place each there

    among : (place : ℕ) → IsNamedAt columns names place → Contains (places_named columns names) place
    among place there =
        let within = slice_get_within columns place there.0 there.1 in
        let here = get_or_from_slice_get columns place there.0 no_column there.1 in
        let from_first : 0 + place ≡ place = omega arith in
        subst (Contains (places_named columns names)) from_first (named_is_among names 0 columns place no_column within (rw here (same_bytes-Contains there.0.name names there.2)))

-- a line that isn't refused names no column twice, nor one that stands before it
once-columns_step : (columns : List Column) (is_taken : ℕ → Bool) (before names : List (List ℕ)) → columns_step columns is_taken before names ≡ None
    → AreDistinct names × All (λ name. list_any (same_bytes name) before ≡ false) names
unfolding columns_step
once-columns_step columns is_taken before [] passed = (λ i j d less within. absurd (omega (arith, within)), All-nil _)
once-columns_step columns is_taken before (name ∷ names) passed = all (once-columns_step columns is_taken (before ++ name ∷ []) names steps.1)
  where
    steps : (column_step is_taken (list_any (same_bytes name) before) (column_place columns name) ≡ None) × (columns_step columns is_taken (before ++ name ∷ []) names ≡ None)
    steps = or_then-None _ _ passed

    at : (found : Option ℕ) → column_step is_taken (list_any (same_bytes name) before) found ≡ None → list_any (same_bytes name) before ≡ false
    at None free = cc
    at (Some place) free = (or_parts (is_taken place) (list_any (same_bytes name) before) (refused-None _ refusal.NameTaken free)).1

    all : AreDistinct names × All (λ other. list_any (same_bytes other) (before ++ name ∷ []) ≡ false) names
        → AreDistinct (name ∷ names) × All (λ other. list_any (same_bytes other) before ≡ false) (name ∷ names)
    all later =
        let apart : (k : ℕ) (d : List ℕ) → k < length names → (list_any (same_bytes (get_or names k d)) before ≡ false) × (get_or names k d ≢ name) =
        λ k d within. other-same_bytes (get_or names k d) name before (later.1 k d within) in (
          AllPairs-cons (λ a b. a ≢ b) name names (λ k d within. λ same. (apart k d within).1 (sym same)) later.0,
          All-cons (λ other. list_any (same_bytes other) before ≡ false) name names (at (column_place columns name) steps.0) (λ k d within. (apart k d within).0),
        )

-- a line that names free columns once, none of which stands before, isn't refused
columns_step-free : (columns : List Column) (is_taken : ℕ → Bool) (before names : List (List ℕ)) → All (ColumnIsFree columns is_taken) names → AreDistinct names
    → All (λ name. list_any (same_bytes name) before ≡ false) names → columns_step columns is_taken before names ≡ None
unfolding columns_step
columns_step-free columns is_taken before [] free once new = refl
columns_step-free columns is_taken before (name ∷ names) free once new =
    rw step (columns_step-free columns is_taken (before ++ name ∷ []) names (All-tail (ColumnIsFree columns is_taken) name names free) (λ i j d less within. once (suc i) (suc j) d (omega (arith, less)) (omega (arith, within))) others)
  where
    first : ColumnIsFree columns is_taken name
    first = All-head (ColumnIsFree columns is_taken) name names free

    step : column_step is_taken (list_any (same_bytes name) before) (column_place columns name) ≡ None
    step = rw first.1 (rw first.2 (rw (All-head (λ other. list_any (same_bytes other) before ≡ false) name names new) refl))

    differs : (other : List ℕ) → other ≢ name → same_bytes other name ≡ false
    differs other apart = false_from_ne_true (same_bytes other name) (λ is. apart (same_bytes-true other name is))

    others : All (λ other. list_any (same_bytes other) (before ++ name ∷ []) ≡ false) names
    others = λ k d within. list_any-append (same_bytes (get_or names k d)) before (name ∷ [])
        ∙ rw (All-tail (λ other. list_any (same_bytes other) before ≡ false) name names new k d within) (rw (differs (get_or names k d) (λ same. once zero (suc k) d (omega arith) (omega (arith, within)) (sym same))) refl)

-- where a line isn't refused for its columns
pub lines_pass_that_name_free_columns : LinesPassThatNameFreeColumns
lines_pass_that_name_free_columns columns is_taken names = (
  λ passed. record { free = columns_step-None columns is_taken [] names passed; once = (once-columns_step columns is_taken [] names passed).0 },
  λ holds. columns_step-free columns is_taken [] names holds.free holds.once (λ k d within. refl),
)
