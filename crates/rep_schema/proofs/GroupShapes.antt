-- The groups of a table of a schema that has its shape.
use Rattle.std.proofs.Common.{◌≡◌, ◌≢◌, ℕ, zero, suc, ◌+◌, ◌<◌, ◌≤◌, List, [], ◌∷◌, length, get_or, Some, None, refl, sym, ◌∙◌, arith}
use Rattle.std.specs.Prelude.{Option, IfSome, slice_get, map}
use Rattle.std.specs.List.{All, AllPairs, Contains}
use Rattle.std.specs.List.Sorted.{IsStrictlyIncreasing}
use Rattle.std.proofs.lemmas.Bool.{ne_eqb}
use Rattle.std.proofs.lemmas.List.{get_or_default, get_or-map, length-map}
use Rattle.rep_schema.specs.declared.schema.Schema.{Schema}
use Rattle.rep_schema.specs.declared.schema.TableEntry.{TableEntry}
use Rattle.rep_schema.specs.declared.schema.Group.{Group}
use Rattle.rep_schema.specs.Limits.{most_columns}
use Rattle.rep_schema.specs.Tables.{columns_in, columns_of}
use Rattle.rep_schema.specs.Shape.{ShareNone, AreColumns, HasGroupShape, HasTableShape, HasShape}
use Rattle.rep_schema.specs.Groups.{shadow_group, groups_in, groups_of, shadow_columns_of, named_columns, group_columns_of}
use Rattle.rep_schema.proofs.FewNumbers.{few_distinct}
use Rattle.rep_schema.proofs.Shapes.{slice_get-All, table_shape, length-columns_of}

-- the columns of the shadow group
pub group_columns_of-shadow : (schema : Schema) (table : ℕ) → group_columns_of schema table shadow_group ≡ shadow_columns_of schema table
unfolding group_columns_of
group_columns_of-shadow schema table = refl

-- the columns of a named group
pub group_columns_of-named : (schema : Schema) (table group : ℕ) → group ≢ shadow_group → group_columns_of schema table group ≡ named_columns (slice_get (groups_of schema table) group)
unfolding group_columns_of
group_columns_of-named schema table group named = rw (ne_eqb group shadow_group named)

-- a number at a place of a strictly increasing list is at least the place
pub place_below : (xs : List ℕ) → IsStrictlyIncreasing xs → (k : ℕ) → k < length xs → k ≤ get_or xs k 0
place_below xs rising zero within = omega arith
place_below xs rising (suc k) within =
    let next : suc k ≡ k + 1 = omega arith in
    let below : get_or xs k 0 < get_or xs (suc k) 0 = rw next (rising k (omega arith)) in
    omega (arith, below, place_below xs rising k (omega arith))

-- columns of a table are at most as many as it has
pub length-AreColumns : (width : ℕ) (places : List ℕ) → AreColumns width places → length places ≤ width
length-AreColumns width [] are = omega arith
length-AreColumns width (p ∷ ps) are =
    let last : length ps ≤ get_or (p ∷ ps) (length ps) 0 = place_below (p ∷ ps) are.rising (length ps) (omega arith) in
    let below : get_or (p ∷ ps) (length ps) 0 < width = are.in_range (length ps) 0 (omega arith) in
    omega (arith, last, below)

module _ (schema : Schema) (shape : HasShape schema) (table : ℕ) where
  -- a named group has its shape
  pub group_shape : (group : ℕ) → IfSome (slice_get (groups_of schema table) group) (HasGroupShape (length (columns_of schema table)) (length schema.priorities))
  group_shape group = go (slice_get schema.tables table) (table_shape schema shape table)
    where
      go : (entry : Option TableEntry) → IfSome entry (HasTableShape (length schema.priorities)) → IfSome (slice_get (groups_in entry) group) (HasGroupShape (length (columns_in entry)) (length schema.priorities))
      go None is = tt
      go (Some entry) is = slice_get-All (HasGroupShape (length entry.columns) (length schema.priorities)) entry.groups group is.groups

  -- it has at most 32 columns
  pub length-named_columns : (group : ℕ) → length (named_columns (slice_get (groups_of schema table) group)) ≤ most_columns
  length-named_columns group = go (slice_get (groups_of schema table) group) (group_shape group)
    where
      go : (named : Option Group) → IfSome named (HasGroupShape (length (columns_of schema table)) (length schema.priorities)) → length (named_columns named) ≤ most_columns
      go None is = omega arith
      go (Some named) is = omega (arith, length-columns_of schema shape table, length-AreColumns (length (columns_of schema table)) named.columns is.columns)

-- the first of a group's columns
first_column : Group → ℕ
first_column group = get_or group.columns 0 0

-- it is one of them
first_is_one : (width priorities : ℕ) (group : Group) → HasGroupShape width priorities group → Contains group.columns (first_column group)
unfolding first_column
first_is_one width priorities group shape = (0, shape.columns.some, get_or_default group.columns 0 (get_or group.columns 0 0) 0 shape.columns.some)

first_below : (width priorities : ℕ) (group : Group) → HasGroupShape width priorities group → first_column group < width
unfolding first_column
first_below width priorities group shape = shape.columns.in_range 0 0 shape.columns.some

-- named groups with a column each and none in common are at most as many as the table's columns
few_groups : (width priorities : ℕ) (groups : List Group) → All (HasGroupShape width priorities) groups → AllPairs (λ g h. ShareNone g.columns h.columns) groups → length groups ≤ width
few_groups width priorities [] shapes apart = omega arith
few_groups width priorities (g ∷ gs) shapes apart =
    let groups : List Group = g ∷ gs in
    let at : (i : ℕ) (d : ℕ) → i < length groups → get_or (map first_column groups) i d ≡ first_column (get_or groups i g) = λ i d within. get_or-map first_column groups i g d within in
    let counted = length-map groups first_column in
    let distinct : AllPairs (λ x y. x ≢ y) (map first_column groups) = λ i j d below within same.
    let in_i : i < length groups = omega (arith, below, within, counted) in
    let in_j : j < length groups = omega (arith, within, counted) in
    let one : first_column (get_or groups i g) ≡ first_column (get_or groups j g) = sym (at i d in_i) ∙ same ∙ at j d in_j in
    let has_i = first_is_one width priorities (get_or groups i g) (shapes i g in_i) in
    let has_j = first_is_one width priorities (get_or groups j g) (shapes j g in_j) in
    apart i j g below in_j (first_column (get_or groups i g)) has_i (rw one has_j) in
    let low : All (λ x. x < width) (map first_column groups) = λ i d within.
    let in_i : i < length groups = omega (arith, within, counted) in
    rw (at i d in_i) (first_below width priorities (get_or groups i g) (shapes i g in_i)) in
    omega (arith, counted, few_distinct width (map first_column groups) distinct low)

module _ (schema : Schema) (shape : HasShape schema) (table : ℕ) where
  -- a table has at most 32 named groups
  pub length-groups_of : length (groups_of schema table) ≤ most_columns
  length-groups_of = go (slice_get schema.tables table) (table_shape schema shape table)
    where
      go : (entry : Option TableEntry) → IfSome entry (HasTableShape (length schema.priorities)) → length (groups_in entry) ≤ most_columns
      go None is = omega arith
      go (Some entry) is = omega (arith, is.columns, few_groups (length entry.columns) (length schema.priorities) entry.groups is.groups is.groups_apart)
