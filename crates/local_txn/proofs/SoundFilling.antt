-- In a schema that breaks no rule no filled column is a key column or stands in a secondary constraint.
use Rattle.std.proofs.Common.{◌≡◌, ℕ, zero, suc, Bool, true, false, List, [], ◌∷◌, refl, subst}
use Rattle.std.specs.Prelude.{Option, Some, None, ◌&&◌, ◌||◌, not, nat_le, slice_get}
use Rattle.std.specs.List.{list_all, AllByRecursion}
use Rattle.std.proofs.lemmas.Bool.{and_parts, and_right, not-true}
use Rattle.rep_schema.specs.declared.schema.Schema.{Schema}
use Rattle.rep_schema.specs.declared.schema.TableEntry.{TableEntry}
use Rattle.rep_schema.specs.declared.schema.Column.{Column}
use Rattle.rep_schema.specs.declared.schema.Constraint.{Constraint}
use Rattle.rep_schema.specs.declared.schema.Kind.{Kind}
use Rattle.rep_schema.specs.declared.schema.Kind.TheVariants as kind
use Rattle.rep_schema.specs.Tables.{columns_in, columns_of, constraints_in, places_in, constraint_columns_of, key_count}
use Rattle.rep_schema.specs.Kinds.{is_stamp, is_site_kind, is_filled, is_plain, is_key_at, has_kind}
use Rattle.schema_rules.specs.KeyRules.{is_well_keyed}
use Rattle.schema_rules.specs.ConstraintRules.{has_plain_columns}
use Rattle.schema_rules.specs.Soundness.{KeepsAllRules}
use Rattle.schema_rules.proofs.SoundRules.{KeepsAllRules-unbroken}
use Rattle.local_txn.specs.BaseRows.{IsNotFilled}
use Rattle.local_txn.specs.Laws.{SoundSchemasFillFreely}

-- what all pass the one at a place passes
passes_there : {X : Type 0} (test : X → Bool) (xs : List X) (i : ℕ) (x : X) → list_all test xs ≡ true → slice_get xs i ≡ Some x → test x ≡ true
passes_there test [] i x all there = cc
passes_there test (y ∷ ys) zero x all there = let same : y ≡ x = cc in subst (λ z. test z ≡ true) same (and_parts (test y) (list_all test ys) all).0
passes_there test (y ∷ ys) (suc i) x all there = passes_there test ys i x (and_parts (test y) (list_all test ys) all).1 there

-- a NUMBER, TEXT or DATE isn't filled
unfilled_where_plain : (k : Kind) (key : Bool) → is_plain k ≡ true → (is_stamp k || (is_site_kind k && not key)) ≡ false
unfilled_where_plain kind.Number key plain = refl
unfilled_where_plain kind.Words key plain = refl
unfilled_where_plain kind.Date key plain = refl
unfilled_where_plain kind.Stamp key plain = cc
unfilled_where_plain kind.Site key plain = cc

-- nor is a key column that isn't a STAMP
unfilled_where_key : (k : Kind) (key : Bool) → not (key && is_stamp k) ≡ true → key ≡ true → (is_stamp k || (is_site_kind k && not key)) ≡ false
unfilled_where_key k key allowed is_key =
    let unstamped : not (is_stamp k) ≡ true = rw is_key at allowed in
    rw (is_key, not-true (is_stamp k) unstamped, and_right (is_site_kind k) false refl) refl

keys_unfilled : (schema : Schema) → KeepsAllRules schema → (table place : ℕ) (column : Column) → slice_get (columns_of schema table) place ≡ Some column → column.key ≡ true → is_filled column ≡ false
keys_unfilled schema sound table place column there is_key = go (slice_get schema.tables table) refl there
  where
    go : (entry : Option TableEntry) → slice_get schema.tables table ≡ entry → slice_get (columns_in entry) place ≡ Some column → is_filled column ≡ false
    go None gone at = cc
    go (Some entry) is at =
        let keyed : is_well_keyed entry ≡ true = passes_there is_well_keyed schema.tables table entry sound.keyed is in
        let tests = and_parts (nat_le 1 (key_count entry.columns)) (list_all (λ c. not (c.key && is_stamp c.kind)) entry.columns) keyed in
        unfilled_where_key column.kind column.key (passes_there (λ c. not (c.key && is_stamp c.kind)) entry.columns place column tests.1 at) is_key

-- each of these places
plain_places : (columns : List Column) (places : List ℕ) → list_all (λ place. not (is_key_at columns place) && has_kind is_plain columns place) places ≡ true → AllByRecursion (IsNotFilled columns) places
plain_places columns [] all = tt
plain_places columns (place ∷ places) all =
    let parts = and_parts (not (is_key_at columns place) && has_kind is_plain columns place) (list_all (λ p. not (is_key_at columns p) && has_kind is_plain columns p) places) all in
    let plain = (and_parts (not (is_key_at columns place)) (has_kind is_plain columns place) parts.0).1 in
    (λ column there. unfilled_where_plain column.kind column.key (rw there at plain), plain_places columns places parts.1)

constraints_unfilled : (schema : Schema) → KeepsAllRules schema → (table constraint : ℕ) → AllByRecursion (IsNotFilled (columns_of schema table)) (constraint_columns_of schema table constraint)
constraints_unfilled schema sound table constraint = go (slice_get schema.tables table) refl
  where
    plainly : TableEntry → Bool
    plainly entry = list_all (has_plain_columns entry.columns) entry.constraints

    within : (entry : TableEntry) → list_all (has_plain_columns entry.columns) entry.constraints ≡ true → (found : Option Constraint) → slice_get entry.constraints constraint ≡ found
        → AllByRecursion (IsNotFilled entry.columns) (places_in found)
    within entry all None gone = tt
    within entry all (Some found) is = plain_places entry.columns found.columns (passes_there (has_plain_columns entry.columns) entry.constraints constraint found all is)

    go : (entry : Option TableEntry) → slice_get schema.tables table ≡ entry → AllByRecursion (IsNotFilled (columns_in entry)) (places_in (slice_get (constraints_in entry) constraint))
    go None gone = tt
    go (Some entry) is =
        within entry (passes_there (λ t. list_all (has_plain_columns t.columns) t.constraints) schema.tables table entry sound.plainly_constrained is) (slice_get entry.constraints constraint) refl

-- so filling columns in moves no row
pub FillsFreely-sound : SoundSchemasFillFreely
FillsFreely-sound schema unbroken =
    let sound = (KeepsAllRules-unbroken schema).1 unbroken in
    record { keys = keys_unfilled schema sound; constraints = constraints_unfilled schema sound }
