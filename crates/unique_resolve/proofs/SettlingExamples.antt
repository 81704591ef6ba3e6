-- Rows that are settled, worked out by hand.
use Rattle.std.proofs.Common.{◌≡◌, ℕ, Bool, List, [], ◌∷◌, ◌++◌, true, false, refl, pos, replicate, arith}
use Rattle.std.specs.Prelude.{codes, decimal}
use Rattle.std.proofs.lemmas.Fmt.{decimal_digit, decimal-digits_of}
use Rattle.rep_values.specs.declared.value.Value.TheVariants.{Num, Words}
use Rattle.rep_schema.specs.declared.schema.Schema.{Schema}
use Rattle.rep_schema.specs.declared.schema.TableEntry.{TableEntry}
use Rattle.rep_schema.specs.declared.schema.Column.{Column}
use Rattle.rep_schema.specs.declared.schema.UniqueMethod.{UniqueMethod}
use Rattle.rep_schema.specs.declared.schema.UniqueMethod.TheVariants.{AppendSite, AppendSequence, Discard}
use Rattle.rep_schema.specs.declared.schema.Kind.TheVariants as kind
use Rattle.rep_schema.specs.Tables.{Cells, Rows}
use Rattle.unique_resolve.specs.declared.settled.Settled.{Settled}
use Rattle.unique_resolve.specs.declared.settled.Settled.TheVariants.{Fits, Dropped, Conflict}
use Rattle.unique_resolve.specs.Numbers.{first_numbers}
use Rattle.unique_resolve.specs.Settling.{Settlement, settlement_of}

abbrev columns : List Column
columns =
    record { name = codes "ID"; kind = kind.Number; key = true }
    ∷ record { name = codes "CODE"; kind = kind.Words; key = false }
    ∷ []

-- the key column ID and the constraint u of CODE, with their methods
abbrev table_of : List UniqueMethod → List UniqueMethod → TableEntry
table_of key_methods methods = record {
  name = record { 0 = codes "T" };
  columns = columns;
  groups = [];
  key_methods = key_methods;
  constraints = record { name = codes "u"; columns = 1 ∷ []; methods = methods } ∷ [];
  checks = [];
  convergent = false;
}

abbrev schema_of : List UniqueMethod → List UniqueMethod → Schema
schema_of key_methods methods = record { sites = []; tables = table_of key_methods methods ∷ []; priorities = [] }

abbrev row_of : ℕ → List ℕ → Cells
row_of id code = Num (pos id) ∷ Words code ∷ []

-- a row from site B, where the methods of u and its counter are these and the rows are those
abbrev settled : List UniqueMethod → ℕ → Rows → Bool → Cells → Settlement
settled methods number rows inserting row = settlement_of (schema_of [] methods) (rows ∷ []) ((number ∷ []) ∷ []) (record { 0 = codes "B" }) 0 inserting row

-- what is settled, and the counter after it
abbrev answer : Settled → ℕ → Settlement
answer outcome number = record { settled = outcome; numbers = (number ∷ []) ∷ [] }

abbrev row_a : Cells
row_a = row_of 1 (codes "a")

-- digits, worked out
decimal_1 : decimal 1 ≡ codes "1"
decimal_1 = decimal_digit 1 (omega arith)

decimal_2 : decimal 2 ≡ codes "2"
decimal_2 = decimal_digit 2 (omega arith)

decimal_10 : decimal 10 ≡ codes "10"
decimal_10 = decimal-digits_of 10 (omega arith) (omega arith)

counter_is_0_at_first : first_numbers (schema_of [] []) ≡ (0 ∷ []) ∷ []
counter_is_0_at_first = refl

free_row_fits : settled (AppendSequence 1 ∷ []) 3 (row_a ∷ []) true (row_of 2 (codes "b")) ≡ answer (Fits (row_of 2 (codes "b"))) 3
free_row_fits = refl

own_values_are_free : settled [] 0 (row_a ∷ []) false row_a ≡ answer (Fits row_a) 0
own_values_are_free = refl

site_is_appended : settled (AppendSite 1 ∷ []) 0 (row_a ∷ []) true (row_of 2 (codes "a")) ≡ answer (Fits (row_of 2 (codes "aB"))) 0
site_is_appended = refl

first_number_is_1 : settled (AppendSequence 1 ∷ []) 0 (row_a ∷ []) true (row_of 2 (codes "a")) ≡ answer (Fits (row_of 2 (codes "a1"))) 1
first_number_is_1 = rw decimal_1 refl

second_number_is_2 : settled (AppendSequence 1 ∷ []) 1 (row_a ∷ row_of 2 (codes "a1") ∷ []) true (row_of 3 (codes "a")) ≡ answer (Fits (row_of 3 (codes "a2"))) 2
second_number_is_2 = rw decimal_2 refl

-- a1 is taken, so the row is as before, and the counter is raised again
next_method_begins_anew : settled (AppendSequence 1 ∷ AppendSequence 1 ∷ []) 0 (row_a ∷ row_of 2 (codes "a1") ∷ []) true (row_of 3 (codes "a")) ≡ answer (Fits (row_of 3 (codes "a2"))) 2
next_method_begins_anew = rw (decimal_1, decimal_2) refl

-- a code of 63 letters
abbrev long_code : List ℕ
long_code = replicate 63 120

-- 63 bytes and the two digits of 10 are too many
long_text_is_left : settled (AppendSequence 1 ∷ []) 9 (row_of 1 long_code ∷ []) true (row_of 2 long_code) ≡ answer (Conflict (codes "u")) 10
long_text_is_left = rw decimal_10 refl

next_method_helps_a_long_text : settled (AppendSequence 1 ∷ AppendSite 1 ∷ []) 9 (row_of 1 long_code ∷ []) true (row_of 2 long_code) ≡ answer (Fits (row_of 2 (long_code ++ codes "B"))) 10
next_method_helps_a_long_text = rw decimal_10 refl

discard_drops : settled (AppendSequence 1 ∷ Discard ∷ []) 9 (row_of 1 long_code ∷ []) true (row_of 2 long_code) ≡ answer Dropped 10
discard_drops = rw decimal_10 refl

no_method_is_a_conflict : settled [] 0 (row_a ∷ []) true (row_of 2 (codes "a")) ≡ answer (Conflict (codes "u")) 0
no_method_is_a_conflict = refl

-- ID is a key column, so no append changes it
key_column_is_left : settled (AppendSite 0 ∷ []) 0 (row_a ∷ []) true (row_of 2 (codes "a")) ≡ answer (Conflict (codes "u")) 0
key_column_is_left = refl

-- so the counter alone is changed, which stands still at its last value
counter_rises_at_each_try : settled (AppendSequence 0 ∷ []) 0 (row_a ∷ []) true (row_of 2 (codes "a")) ≡ answer (Conflict (codes "u")) 1
counter_rises_at_each_try = refl

counter_stands_at_its_last : settled (AppendSequence 0 ∷ []) 18446744073709551615 (row_a ∷ []) true (row_of 2 (codes "a")) ≡ answer (Conflict (codes "u")) 18446744073709551615
counter_stands_at_its_last = refl

-- the row violates u as well
key_comes_first : settled (Discard ∷ []) 0 (row_a ∷ row_of 2 (codes "b") ∷ []) true (row_of 1 (codes "b")) ≡ answer (Conflict (codes "key")) 0
key_comes_first = refl

discard_drops_a_taken_key :
    settlement_of (schema_of (Discard ∷ []) []) ((row_a ∷ []) ∷ []) ((0 ∷ []) ∷ []) (record { 0 = codes "B" }) 0 true (row_of 1 (codes "c")) ≡ answer Dropped 0
discard_drops_a_taken_key = refl

key_is_free_for_an_update : settled [] 0 (row_a ∷ []) false (row_of 1 (codes "c")) ≡ answer (Fits (row_of 1 (codes "c"))) 0
key_is_free_for_an_update = refl
