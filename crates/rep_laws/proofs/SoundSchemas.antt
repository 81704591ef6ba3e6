-- A sound schema has keys, and they stand alone.
use Rattle.std.proofs.Common.{◌≡◌, ℕ, zero, suc, Bool, true, false, not, List, [], ◌∷◌, Option, Some, None, refl, ap}
use Rattle.std.specs.Prelude.{◌&&◌, nat_le, slice_get, IfSome}
use Rattle.std.specs.List.{AllByRecursion, list_all}
use Rattle.std.proofs.lemmas.Bool.{leb-true}
use Rattle.rep_lists.proofs.Places.{found_at}
use Rattle.rep_schema.specs.declared.schema.Schema.{Schema}
use Rattle.rep_schema.specs.declared.schema.TableEntry.{TableEntry}
use Rattle.rep_schema.specs.declared.schema.Column.{Column}
use Rattle.rep_schema.specs.declared.schema.Group.{Group}
use Rattle.rep_schema.specs.Shape.{HasShape}
use Rattle.rep_schema.specs.Tables.{columns_in, columns_of, key_count}
use Rattle.rep_schema.specs.Groups.{named_columns}
use Rattle.rep_schema.proofs.Shapes.{key_count-columns_of}
use Rattle.rep_schema.specs.Kinds.{is_some_and, is_key_at}
use Rattle.schema_rules.specs.KeyRules.{is_well_keyed, is_off_the_key}
use Rattle.schema_rules.specs.Rules.{broken_rule}
use Rattle.schema_rules.specs.Soundness.{KeepsAllRules}
use Rattle.schema_rules.proofs.SoundRules.{KeepsAllRules-unbroken}
use Rattle.txn_effects.specs.Calls.{IsOffTheKey, KeysStandAlone}
use Rattle.conflict_detect.specs.KeysNamed.{HasKeys}

pub both_hold : (a b : Bool) → (a && b) ≡ true → (a ≡ true) × (b ≡ true)
both_hold true b holds = (refl, holds)
both_hold false b holds = cc

-- what all pass, each that is found passes
pub passes : {X : Type 0} (test : X → Bool) (xs : List X) (i : ℕ) (x : X) → list_all test xs ≡ true → slice_get xs i ≡ Some x → test x ≡ true
passes test [] i x all found = cc
passes test (y ∷ ys) zero x all found = let same : y ≡ x = cc in rw (← same) (both_hold (test y) (list_all test ys) all).0
passes test (y ∷ ys) (suc i) x all found = passes test ys i x (both_hold (test y) (list_all test ys) all).1 found

pub off_the_key : (columns : List Column) (places : List ℕ) → list_all (λ place. not (is_key_at columns place)) places ≡ true → AllByRecursion (IsOffTheKey columns) places
off_the_key columns [] all = tt
off_the_key columns (p ∷ ps) all =
    let both = both_hold (not (is_key_at columns p)) (list_all (λ place. not (is_key_at columns place)) ps) all in
    (plain (slice_get columns p) both.0, off_the_key columns ps both.1)
  where
    no_key : (key : Bool) → not key ≡ true → key ≡ false
    no_key true is = cc
    no_key false is = refl

    plain : (found : Option Column) → not (is_some_and (λ column. column.key) found) ≡ true → IfSome found (λ column. column.key ≡ false)
    plain None is = tt
    plain (Some column) is = no_key column.key is

module _ (schema : Schema) (unbroken : broken_rule schema ≡ None) where
  sound : KeepsAllRules schema
  sound = (KeepsAllRules-unbroken schema).1 unbroken

  -- every table has 1 to 4 key columns
  pub HasKeys-sound : HasShape schema → HasKeys schema
  HasKeys-sound shape table below =
      let found = found_at schema.tables table below in
      let keyed = passes is_well_keyed schema.tables table found.0 sound.keyed found.1 in
      let some = both_hold (nat_le 1 (key_count found.0.columns)) _ keyed in
      let columns : columns_of schema table ≡ found.0.columns = ap columns_in found.1 in
      (rw columns (leb-true 1 (key_count found.0.columns) some.0), key_count-columns_of schema shape table)

  -- no column of a named group is a key column
  pub KeysStandAlone-sound : KeysStandAlone schema
  KeysStandAlone-sound table below group =
      let found = found_at schema.tables table below in
      let groups = passes (λ (entry : TableEntry). list_all (is_off_the_key entry.columns) entry.groups) schema.tables table found.0 sound.grouped_apart found.1 in
      rw found.1 (named found.0.columns found.0.groups (slice_get found.0.groups group) refl groups)
    where
      named : (columns : List Column) (all : List Group) (one : Option Group) → slice_get all group ≡ one → list_all (is_off_the_key columns) all ≡ true
          → AllByRecursion (IsOffTheKey columns) (named_columns one)
      named columns all None is off = tt
      named columns all (Some g) is off = off_the_key columns g.columns (passes (is_off_the_key columns) all group g off is)
