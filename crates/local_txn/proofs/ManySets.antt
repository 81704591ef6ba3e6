-- Sets that are more than the columns.
use Rattle.std.proofs.Common.{◌≡◌, ℕ, ◌<◌, ◌≤◌, Bool, true, false, List, [], ◌∷◌, length, map, refl, sym, ◌∙◌, arith}
use Rattle.std.specs.Prelude.{◌||◌}
use Rattle.std.specs.List.{list_any, IsDistinct, AllByRecursion}
use Rattle.std.specs.Cmp.Lexicographic.{nat_list_eq_equiv}
use Rattle.std.proofs.lemmas.Bool.{or_parts, and_parts}
use Rattle.std.proofs.lemmas.List.{length-map}
use Rattle.std.proofs.lemmas.Map.Made.{length-le_from_is_member}
use Rattle.rep_values.specs.Name.{same_bytes}
use Rattle.rep_schema.specs.declared.schema.Column.{Column}
use Rattle.rep_schema.specs.Named.{is_column}
use Rattle.rep_calls.specs.declared.statement.Set.{Set}
use Rattle.txn_effects.specs.Sets.{names_columns, is_about, names_one_twice}
use Rattle.local_txn.proofs.NamedSets.{same_bytes-Decides, same_bytes-turned}

-- the names that sets name
abbrev set_names : List Set → List (List ℕ)
set_names sets = map (λ s. s.column) sets

abbrev column_names : List Column → List (List ℕ)
column_names columns = map (λ c. c.name) columns

unlike_others : (name : List ℕ) (sets : List Set) → list_any (is_about name) sets ≡ false → AllByRecursion (λ other. same_bytes name other ≡ false) (set_names sets)
unlike_others name [] none = tt
unlike_others name (s ∷ ss) none =
    let parts = or_parts (is_about name s) (list_any (is_about name) ss) none in
    (same_bytes-turned name s.column ∙ parts.0, unlike_others name ss parts.1)

-- where none is named twice, the names are distinct
distinct_names : (sets : List Set) → names_one_twice sets ≡ false → IsDistinct same_bytes (set_names sets)
unfolding IsDistinct
distinct_names [] once = tt
distinct_names (s ∷ ss) once =
    let parts = or_parts (list_any (is_about s.column) ss) (names_one_twice ss) once in
    (unlike_others s.column ss parts.0, distinct_names ss parts.1)

-- a name of a column is among the columns' names
among_columns : (name : List ℕ) (columns : List Column) → list_any (is_column name) columns ≡ list_any (same_bytes name) (column_names columns)
among_columns name [] = refl
among_columns name (c ∷ cs) = rw (same_bytes-turned c.name name, among_columns name cs) refl

-- where each name is that of a column, a name of a set is among the columns' names
among_names : (columns : List Column) (sets : List Set) → names_columns columns sets ≡ true
    → (name : List ℕ) → list_any (same_bytes name) (set_names sets) ≡ true → list_any (same_bytes name) (column_names columns) ≡ true
among_names columns [] known name there = cc
among_names columns (s ∷ ss) known name there = go (same_bytes name s.column) refl (among_names columns ss parts.1 name) there
  where
    parts : (list_any (is_column s.column) columns ≡ true) × (names_columns columns ss ≡ true)
    parts = and_parts (list_any (is_column s.column) columns) (names_columns columns ss) known

    go : (b : Bool) → same_bytes name s.column ≡ b → (list_any (same_bytes name) (set_names ss) ≡ true → list_any (same_bytes name) (column_names columns) ≡ true)
        → (b || list_any (same_bytes name) (set_names ss)) ≡ true → list_any (same_bytes name) (column_names columns) ≡ true
    go true same rest found =
        let is : name ≡ s.column = (same_bytes-Decides name s.column).0 same in
        rw is (sym (among_columns s.column columns) ∙ parts.0)
    go false other rest found = rest found

-- sets that name each a column, and none twice, are at most as many as the columns
few_sets : (columns : List Column) (sets : List Set) → names_columns columns sets ≡ true → names_one_twice sets ≡ false → length sets ≤ length columns
few_sets columns sets known once =
    let few = length-le_from_is_member nat_list_eq_equiv (set_names sets) (column_names columns) (distinct_names sets once) (among_names columns sets known) in
    omega (arith, few, length-map sets (λ s. s.column), length-map columns (λ c. c.name))

-- where they are more, one is named twice
pub twice_of_many : (columns : List Column) (sets : List Set) → length columns < length sets → names_columns columns sets ≡ true → names_one_twice sets ≡ true
twice_of_many columns sets many known = go (names_one_twice sets) refl
  where
    go : (b : Bool) → names_one_twice sets ≡ b → names_one_twice sets ≡ true
    go true twice = twice
    go false once = absurd (omega (arith, many, few_sets columns sets known once))
