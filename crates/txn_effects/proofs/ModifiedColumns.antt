-- Which columns an update modifies.
use Rattle.std.proofs.Common.{◌≡◌, ℕ, ◌<◌, Bool, true, false, List, [], ◌∷◌, length, refl}
use Rattle.std.specs.Prelude.{Some, ◌||◌, ◌==◌, slice_get}
use Rattle.std.specs.List.{list_any, AllByRecursion}
use Rattle.std.proofs.lemmas.Bool.{eqb-true, both_ways}
use Rattle.rep_schema.specs.declared.schema.Schema.{Schema}
use Rattle.rep_schema.specs.declared.schema.Column.{Column}
use Rattle.rep_schema.specs.Tables.{Cells, columns_of}
use Rattle.rep_schema.specs.Kinds.{has_place}
use Rattle.rep_schema.specs.Groups.{group_columns_of, differing_groups}
use Rattle.txn_effects.specs.Calls.{IsOffTheKey, KeysStandAlone}
use Rattle.txn_effects.proofs.PartEffects.{IsOffTheKey-group}
use Rattle.txn_effects.specs.Filled.{is_modified}

pub list_any-never : {X : Type 0} (test : X → Bool) (xs : List X) → ((x : X) → test x ≡ false) → list_any test xs ≡ false
list_any-never test [] never = refl
list_any-never test (x ∷ xs) never = rw (never x) (list_any-never test xs never)

-- a key column isn't among places off the key
has_place-key : (columns : List Column) (places : List ℕ) (k : ℕ) (c : Column) → AllByRecursion (IsOffTheKey columns) places → slice_get columns k ≡ Some c → c.key ≡ true → has_place places k ≡ false
has_place-key columns [] k c off at is_key = refl
has_place-key columns (p ∷ ps) k c off at is_key = go (p == k) refl (has_place-key columns ps k c off.1 at is_key)
  where
    go : (b : Bool) → (p == k) ≡ b → has_place ps k ≡ false → (b || has_place ps k) ≡ false
    go true same rest = let is : p ≡ k = eqb-true p k same in let plain : c.key ≡ false = rw (is, at) at off.0 in absurd (both_ways c.key plain is_key)
    go false other rest = rest

module _ (schema : Schema) (table : ℕ) (apart : KeysStandAlone schema) (below : table < length schema.tables) where
  -- a key column is in no group that is modified
  pub is_modified-key : (before after : Cells) (k : ℕ) (c : Column) → slice_get (columns_of schema table) k ≡ Some c → c.key ≡ true → is_modified schema table before after k ≡ false
  is_modified-key before after k c at is_key =
      list_any-never (λ group. has_place (group_columns_of schema table group) k) (differing_groups schema table before after)
      (λ group. has_place-key (columns_of schema table) (group_columns_of schema table group) k c (IsOffTheKey-group schema table apart below group) at is_key)
