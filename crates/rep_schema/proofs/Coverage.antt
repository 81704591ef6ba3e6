-- Every column is a key column or in a group, and a group's columns are the table's.
use Rattle.std.proofs.Common.{◌≡◌, ◌≢◌, ℕ, zero, suc, ◌+◌, ◌<◌, ◌⊎◌, List, [], ◌∷◌, length, get_or, Bool, true, false, cond, Some, None, refl, sym, ap, ◌∙◌, inl, inr, arith}
use Rattle.std.specs.Prelude.{Option, IfSome, slice_get, ◌||◌, ◌==◌}
use Rattle.std.specs.List.{AllByRecursion, Contains, list_any, range_with_len}
use Rattle.std.proofs.lemmas.Bool.{eq-eqb}
use Rattle.std.proofs.lemmas.Bool.Decides.{eqb_tells}
use Rattle.std.proofs.lemmas.List.Elements.{Contains-append_left, Contains-append_cases, Contains-push, recursion_from_All}
use Rattle.std.proofs.lemmas.List.Folds.{Any-from_list_any}
use Rattle.std.proofs.lemmas.List.FromFn.{length-range_with_len, get_or-range_with_len}
use Rattle.std.proofs.lemmas.Option.{slice_get_read}
use Rattle.rep_lists.proofs.Each.{each_then}
use Rattle.rep_schema.specs.declared.schema.Schema.{Schema}
use Rattle.rep_schema.specs.declared.schema.Column.{Column}
use Rattle.rep_schema.specs.declared.schema.Group.{Group}
use Rattle.rep_schema.specs.Tables.{columns_of}
use Rattle.rep_schema.specs.Shape.{HasGroupShape, HasShape}
use Rattle.rep_schema.specs.Groups.{shadow_group, groups_of, is_grouped, shadow_from, named_columns, group_columns_of, group_numbers_of}
use Rattle.rep_schema.proofs.GroupShapes.{group_columns_of-shadow, group_columns_of-named, group_shape, length-groups_of}

-- the columns of the shadow group are the table's
shadow_below : (groups : List Group) (n : ℕ) (columns : List Column) → AllByRecursion (λ c. c < n + length columns) (shadow_from groups n columns)
shadow_below groups n [] = tt
shadow_below groups n (c ∷ cs) =
    go (c.key || is_grouped groups n) (each_then (λ x. x < n + 1 + length cs) (λ x. x < n + length (c ∷ cs)) (λ x below. omega (arith, below)) (shadow_from groups (n + 1) cs) (shadow_below groups (n + 1) cs))
  where
    go : (b : Bool) → AllByRecursion (λ x. x < n + length (c ∷ cs)) (shadow_from groups (n + 1) cs) → AllByRecursion (λ x. x < n + length (c ∷ cs)) (cond b (shadow_from groups (n + 1) cs) (n ∷ shadow_from groups (n + 1) cs))
    go true later = later
    go false later = (omega arith, later)

-- a column that is no key column and in no named group is a column of the shadow group
shadow_lists : (groups : List Group) (n : ℕ) (columns : List Column) (k : ℕ) (d : Column) → k < length columns → (get_or columns k d).key ≡ false → is_grouped groups (n + k) ≡ false
    → list_any (λ c. c == n + k) (shadow_from groups n columns) ≡ true
shadow_lists groups n [] k d within plain alone = absurd (omega (arith, within))
shadow_lists groups n (c ∷ cs) zero d within plain alone =
    let here : n + 0 ≡ n = omega arith in
    let apart : is_grouped groups n ≡ false = rw here at alone in
    rw (here, plain, apart, eq-eqb n n refl)
shadow_lists groups n (c ∷ cs) (suc k) d within plain alone =
    let next : n + suc k ≡ n + 1 + k = omega arith in
    rw next (go (c.key || is_grouped groups n) (shadow_lists groups (n + 1) cs k d (omega arith) plain (rw next at alone)))
  where
    go : (b : Bool) → list_any (λ c. c == n + 1 + k) (shadow_from groups (n + 1) cs) ≡ true → list_any (λ c. c == n + 1 + k) (cond b (shadow_from groups (n + 1) cs) (n ∷ shadow_from groups (n + 1) cs)) ≡ true
    go true later = later
    go false later = either (n == n + 1 + k) later
      where
        either : (b : Bool) → list_any (λ c. c == n + 1 + k) (shadow_from groups (n + 1) cs) ≡ true → (b || list_any (λ c. c == n + 1 + k) (shadow_from groups (n + 1) cs)) ≡ true
        either true later = refl
        either false later = later

module _ (schema : Schema) (table : ℕ) where
  -- a named group's number is one of the table's
  pub Contains-named : (group : ℕ) → group < length (groups_of schema table) → Contains (group_numbers_of schema table) group
  Contains-named group below =
      let counted = length-range_with_len 0 (length (groups_of schema table)) in
      let here : get_or (range_with_len 0 (length (groups_of schema table))) group group ≡ group = get_or-range_with_len 0 (length (groups_of schema table)) group group below ∙ omega arith in
      Contains-append_left (range_with_len 0 (length (groups_of schema table))) (shadow_group ∷ []) group (group, omega (arith, counted, below), here)

  -- so is the shadow group's
  pub Contains-shadow : Contains (group_numbers_of schema table) shadow_group
  Contains-shadow = Contains-push (range_with_len 0 (length (groups_of schema table))) shadow_group

  -- and there are no others
  pub group_number_cases : (group : ℕ) → Contains (group_numbers_of schema table) group → (group < length (groups_of schema table)) ⊎ (group ≡ shadow_group)
  group_number_cases group has = elim (Contains-append_cases (range_with_len 0 (length (groups_of schema table))) (shadow_group ∷ []) group has) [
    | inl named ↦
        let within : named.0 < length (groups_of schema table) = omega (arith, named.1, length-range_with_len 0 (length (groups_of schema table))) in
        inl (omega (arith, within, sym named.2 ∙ get_or-range_with_len 0 (length (groups_of schema table)) named.0 group within))
    | inr last ↦
        let first : last.0 ≡ 0 = omega (arith, last.1) in
        inr (sym (ap (λ k. get_or (shadow_group ∷ []) k group) (sym first) ∙ last.2))
  ]

module _ (schema : Schema) (shape : HasShape schema) (table : ℕ) where
  -- the columns of a group are the table's
  pub group_columns_of-below : (group : ℕ) → AllByRecursion (λ c. c < length (columns_of schema table)) (group_columns_of schema table group)
  group_columns_of-below group = elim (eqb_tells group shadow_group) [
    | inl same ↦
        rw (same.1, group_columns_of-shadow schema table)
        (each_then (λ c. c < 0 + length (columns_of schema table)) (λ c. c < length (columns_of schema table)) (λ c below. omega (arith, below)) _ (shadow_below (groups_of schema table) 0 (columns_of schema table)))
    | inr other ↦ rw (group_columns_of-named schema table group other.1) (named (slice_get (groups_of schema table) group) (group_shape schema shape table group))
  ]
    where
      named : (entry : Option Group) → IfSome entry (HasGroupShape (length (columns_of schema table)) (length schema.priorities)) → AllByRecursion (λ c. c < length (columns_of schema table)) (named_columns entry)
      named None is = tt
      named (Some entry) is = recursion_from_All (λ c. c < length (columns_of schema table)) entry.columns is.columns.in_range

  -- a column that is no key column is in a group
  pub group_of_column : (k : ℕ) (d : Column) → k < length (columns_of schema table) → (get_or (columns_of schema table) k d).key ≡ false
      → (group : ℕ) × Contains (group_numbers_of schema table) group × (list_any (λ c. c == k) (group_columns_of schema table group) ≡ true)
  group_of_column k d within plain = go (is_grouped (groups_of schema table) k) refl
    where
      go : (b : Bool) → is_grouped (groups_of schema table) k ≡ b → (group : ℕ) × Contains (group_numbers_of schema table) group × (list_any (λ c. c == k) (group_columns_of schema table group) ≡ true)
      go true grouped =
          let named = Any-from_list_any (λ (g : Group). list_any (λ c. c == k) g.columns) (groups_of schema table) grouped in
          let other : named.0 ≢ shadow_group = omega (arith, named.2, length-groups_of schema shape table) in
          let there : slice_get (groups_of schema table) named.0 ≡ Some named.1 = slice_get_read (groups_of schema table) (length (groups_of schema table)) named.0 named.1 refl named.2 (sym named.3) in
          (named.0, Contains-named schema table named.0 named.2, rw (group_columns_of-named schema table named.0 other, there) named.4)
      go false alone =
          let zeroed : 0 + k ≡ k = omega arith in
          let listed = shadow_lists (groups_of schema table) 0 (columns_of schema table) k d within plain (rw zeroed alone) in
          (shadow_group, Contains-shadow schema table, rw (group_columns_of-shadow schema table) (rw zeroed at listed))
