-- A column stands in one group of its table at most.
use Rattle.std.proofs.Common.{◌≡◌, ℕ, ◌+◌, ◌<◌, Bool, true, false, List, [], ◌∷◌, length, get_or, refl, sym, ◌∙◌, inl, inr, arith}
use Rattle.std.specs.Prelude.{Option, Some, None, IfSome, cond, ◌||◌, ◌==◌, slice_get}
use Rattle.std.specs.List.{AllPairs, Contains}
use Rattle.std.proofs.lemmas.Bool.{eqb-true, or_parts, both_ways, cases_order}
use Rattle.std.proofs.lemmas.Bool.Decides.{eqb_tells}
use Rattle.std.proofs.lemmas.List.Folds.{Any-from_list_any, list_any_at}
use Rattle.std.proofs.lemmas.Option.{slice_get_within, get_or_from_slice_get}
use Rattle.rep_schema.specs.declared.schema.Schema.{Schema}
use Rattle.rep_schema.specs.declared.schema.TableEntry.{TableEntry}
use Rattle.rep_schema.specs.declared.schema.Column.{Column}
use Rattle.rep_schema.specs.declared.schema.Group.{Group}
use Rattle.rep_schema.specs.Tables.{columns_of}
use Rattle.rep_schema.specs.Shape.{HasShape, HasTableShape, ShareNone}
use Rattle.rep_schema.specs.Kinds.{has_place}
use Rattle.rep_schema.specs.Groups.{shadow_group, groups_in, groups_of, is_grouped, shadow_from, named_columns, group_columns_of}
use Rattle.rep_schema.proofs.Shapes.{table_shape}
use Rattle.rep_schema.proofs.GroupShapes.{group_columns_of-shadow, group_columns_of-named}

-- a place that is found is one of the places
Contains-has_place : (places : List ℕ) (p : ℕ) → has_place places p ≡ true → Contains places p
Contains-has_place places p has =
    let found = Any-from_list_any (λ (x : ℕ). x == p) places has in
    let is : found.1 ≡ p = eqb-true found.1 p found.4 in
    (found.0, found.2, let at : get_or places found.0 found.1 ≡ found.1 = found.3 in rw is at at)

-- a column of the shadow group is in no named one
ungrouped : (groups : List Group) (n : ℕ) (columns : List Column) (p : ℕ) → has_place (shadow_from groups n columns) p ≡ true → is_grouped groups p ≡ false
ungrouped groups n [] p has = cc
ungrouped groups n (c ∷ cs) p has = go (c.key || is_grouped groups n) refl has (λ later. ungrouped groups (n + 1) cs p later)
  where
    first : (b : Bool) → (n == p) ≡ b → is_grouped groups n ≡ false → (b || has_place (shadow_from groups (n + 1) cs) p) ≡ true
        → (has_place (shadow_from groups (n + 1) cs) p ≡ true → is_grouped groups p ≡ false) → is_grouped groups p ≡ false
    first true here alone found rest = let is : n ≡ p = eqb-true n p here in rw is at alone
    first false other alone found rest = rest found

    go : (b : Bool) → (c.key || is_grouped groups n) ≡ b → has_place (cond b (shadow_from groups (n + 1) cs) (n ∷ shadow_from groups (n + 1) cs)) p ≡ true
        → (has_place (shadow_from groups (n + 1) cs) p ≡ true → is_grouped groups p ≡ false) → is_grouped groups p ≡ false
    go true held found rest = rest found
    go false free found rest = first (n == p) refl (or_parts c.key (is_grouped groups n) free).1 found rest

-- a column of a named group stands in the one that is there
record IsNamed (groups : List Group) (g p : ℕ) : Type 0 where
  group : Group
  there : slice_get groups g ≡ Some group
  has : has_place group.columns p ≡ true

named_group : (groups : List Group) (g p : ℕ) → has_place (named_columns (slice_get groups g)) p ≡ true → IsNamed groups g p
named_group groups g p has = go (slice_get groups g) refl has
  where
    go : (o : Option Group) → slice_get groups g ≡ o → has_place (named_columns o) p ≡ true → IsNamed groups g p
    go None gone found = cc
    go (Some group) there found = record { group = group; there = there; has = found }

is_grouped-named : (groups : List Group) (g p : ℕ) → IsNamed groups g p → is_grouped groups p ≡ true
is_grouped-named groups g p named =
    let at : get_or groups g named.group ≡ named.group = get_or_from_slice_get groups g named.group named.group named.there in
    list_any_at (λ (group : Group). has_place group.columns p) groups g named.group (slice_get_within groups g named.group named.there) (rw at named.has)

-- two named groups with one column are the same
named_apart : (groups : List Group) (g h p : ℕ) → AllPairs (λ (a b : Group). ShareNone a.columns b.columns) groups → IsNamed groups g p → IsNamed groups h p → g ≡ h
named_apart groups g h p apart first second = elim (cases_order g h) [
  | inl same ↦ same
  | inr (inl before) ↦ absurd (clash g h before first second)
  | inr (inr behind) ↦ absurd (clash h g behind second first)
]
  where
    clash : (i j : ℕ) → i < j → IsNamed groups i p → IsNamed groups j p → ⊥
    clash i j below one other =
        let within = slice_get_within groups j other.group other.there in
        let at_i : get_or groups i one.group ≡ one.group = get_or_from_slice_get groups i one.group one.group one.there in
        let at_j : get_or groups j one.group ≡ other.group = get_or_from_slice_get groups j other.group one.group other.there in
        let none : ShareNone one.group.columns other.group.columns = rw (at_i, at_j) at (apart i j one.group below within) in
        none p (Contains-has_place one.group.columns p one.has) (Contains-has_place other.group.columns p other.has)

-- two groups with one column are the same
pub group_columns_of-apart : (schema : Schema) (table : ℕ) → HasShape schema → (g h p : ℕ) → has_place (group_columns_of schema table g) p ≡ true → has_place (group_columns_of schema table h) p ≡ true → g ≡ h
group_columns_of-apart schema table shape g h p in_g in_h = elim (eqb_tells g shadow_group) [
  | inl g_shadow ↦ elim (eqb_tells h shadow_group) [
    | inl h_shadow ↦ g_shadow.1 ∙ sym h_shadow.1
    | inr h_named ↦ absurd (mixed g h p (rw (g_shadow.1, group_columns_of-shadow schema table) at in_g) (rw (group_columns_of-named schema table h h_named.1) at in_h))
  ]
  | inr g_named ↦ elim (eqb_tells h shadow_group) [
    | inl h_shadow ↦ absurd (mixed h g p (rw (h_shadow.1, group_columns_of-shadow schema table) at in_h) (rw (group_columns_of-named schema table g g_named.1) at in_g))
    | inr h_named ↦ named_apart (groups_of schema table) g h p apart (named_group (groups_of schema table) g p (rw (group_columns_of-named schema table g g_named.1) at in_g))
        (named_group (groups_of schema table) h p (rw (group_columns_of-named schema table h h_named.1) at in_h))
  ]
]
  where
    mixed : (i j q : ℕ) → has_place (shadow_from (groups_of schema table) 0 (columns_of schema table)) q ≡ true → has_place (named_columns (slice_get (groups_of schema table) j)) q ≡ true → ⊥
    mixed i j q shadow named =
        both_ways (is_grouped (groups_of schema table) q) (ungrouped (groups_of schema table) 0 (columns_of schema table) q shadow)
        (is_grouped-named (groups_of schema table) j q (named_group (groups_of schema table) j q named))

    of_entry : (o : Option TableEntry) → IfSome o (HasTableShape (length schema.priorities)) → AllPairs (λ (a b : Group). ShareNone a.columns b.columns) (groups_in o)
    of_entry None none = λ i j d below within. absurd (omega (arith, within))
    of_entry (Some entry) has = has.groups_apart

    apart : AllPairs (λ (a b : Group). ShareNone a.columns b.columns) (groups_of schema table)
    apart = of_entry (slice_get schema.tables table) (table_shape schema shape table)
