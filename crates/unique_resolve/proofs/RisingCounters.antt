-- Counters never fall where a row is settled; those of other tables stand still, and all do where nothing raises one.
use Rattle.std.proofs.Common.{◌≡◌, ◌≢◌, ℕ, zero, suc, ◌<◌, ◌^◌, Bool, true, false, cond, List, [], ◌∷◌, get_or, set, Some, None, refl, ap, ◌∙◌, arith}
use Rattle.std.specs.Prelude.{Option, ◌&&◌, ◌||◌, is_some, slice_get, decimal}
use Rattle.std.specs.List.{list_any}
use Rattle.std.proofs.lemmas.List.{set-get_or}
use Rattle.rep_values.specs.declared.name.SiteName.{SiteName}
use Rattle.rep_schema.specs.declared.schema.Schema.{Schema}
use Rattle.rep_schema.specs.declared.schema.TableEntry.{TableEntry}
use Rattle.rep_schema.specs.declared.schema.Column.{Column}
use Rattle.rep_schema.specs.declared.schema.Constraint.{Constraint}
use Rattle.rep_schema.specs.declared.schema.UniqueMethod.{UniqueMethod}
use Rattle.rep_schema.specs.declared.schema.UniqueMethod.TheVariants as method
use Rattle.rep_schema.specs.Tables.{Cells, Rows, columns_of, constraints_in, constraints_of, key_of, find_row, rows_of}
use Rattle.unique_resolve.specs.declared.settled.Settled.{Settled}
use Rattle.unique_resolve.specs.declared.settled.Settled.TheVariants.{Fits, Dropped, Conflict}
use Rattle.unique_resolve.specs.Numbers.{Numbers, number_raised, is_sequence, has_sequence, has_sequence_in}
use Rattle.unique_resolve.specs.Appending.{appended}
use Rattle.unique_resolve.specs.Settling.{is_held, helping, ConstraintOutcome, or_following, settled_by, settled_one, go_on, settled_each, key_methods_in, key_taken, with_numbers, settlement_of}
use Rattle.unique_resolve.specs.Laws.{IsNoLower, CountersNeverFall, OtherCountersStandStill, CountersStandStillWithoutSequences}

-- a number of 64 bits doesn't fall, and stays one
abbrev Rises : ℕ → ℕ → Type 0
Rises before after = before < 2 ^ 64 → IsNoLower before after

Rises-same : (n : ℕ) → Rises n n
Rises-same n low = record { least = omega arith; bits = low }

Rises-trans : (a b c : ℕ) → Rises a b → Rises b c → Rises a c
Rises-trans a b c first next low =
    let one = first low in
    let two = next one.bits in
    record { least = omega (arith, one.least, two.least); bits = two.bits }

Rises-raised : (n : ℕ) → Rises n (number_raised n)
Rises-raised n low = record { least = grind (arith, low); bits = grind (arith, low) }

Rises-or_following : (number : ℕ) (later : ConstraintOutcome) (helped : Option Cells) (now : ℕ) → Rises number now → Rises number later.number → Rises number (or_following helped now later).number
Rises-or_following number later None now rises rest = rest
Rises-or_following number later (Some row) now rises rest = rises

module _ (columns : List Column) (rows : Rows) (origin : SiteName) where
  Rises-settled_by : (constraint : Constraint) (row : Cells) (methods : List UniqueMethod) (number : ℕ) → Rises number (settled_by columns constraint rows origin methods row number).number
  Rises-settled_by constraint row [] number = Rises-same number
  Rises-settled_by constraint row (method.Discard ∷ methods) number = Rises-same number
  Rises-settled_by constraint row (method.AppendSite column ∷ methods) number =
      Rises-or_following number (settled_by columns constraint rows origin methods row number)
      (helping columns constraint.columns rows (appended columns constraint.columns column origin.0 row)) number (Rises-same number) (Rises-settled_by constraint row methods number)
  Rises-settled_by constraint row (method.AppendSequence column ∷ methods) number =
      Rises-or_following number (settled_by columns constraint rows origin methods row (number_raised number))
      (helping columns constraint.columns rows (appended columns constraint.columns column (decimal (number_raised number)) row)) (number_raised number) (Rises-raised number)
      (Rises-trans number (number_raised number) (settled_by columns constraint rows origin methods row (number_raised number)).number (Rises-raised number) (Rises-settled_by constraint row methods (number_raised number)))

  Rises-settled_one : (constraint : Constraint) (row : Cells) (number : ℕ) → Rises number (settled_one columns rows origin constraint row number).number
  Rises-settled_one constraint row number = go (is_held columns constraint.columns rows row)
    where
      go : (b : Bool) → Rises number (cond b (settled_by columns constraint rows origin constraint.methods row number) (record { settled = Fits row; number = number })).number
      go true = Rises-settled_by constraint row constraint.methods number
      go false = Rises-same number

  Rises-settled_each : (constraints : List Constraint) (numbers : List ℕ) (row : Cells) (place : ℕ)
      → Rises (get_or numbers place 0) (get_or (settled_each columns rows origin constraints numbers row).numbers place 0)
  Rises-settled_each [] numbers row place = Rises-same (get_or numbers place 0)
  Rises-settled_each (c ∷ cs) [] row place = Rises-same 0
  Rises-settled_each (c ∷ cs) (n ∷ ns) row place = go (settled_one columns rows origin c row n).settled place (Rises-settled_one c row n) (λ one later. Rises-settled_each cs ns one later)
    where
      go : (settled : Settled) (place : ℕ) → Rises n (settled_one columns rows origin c row n).number
          → ((one : Cells) (later : ℕ) → Rises (get_or ns later 0) (get_or (settled_each columns rows origin cs ns one).numbers later 0))
          → Rises (get_or (n ∷ ns) place 0) (get_or (go_on settled (settled_one columns rows origin c row n).number ns (settled_each columns rows origin cs ns)).numbers place 0)
      go (Fits one) zero first rest = first
      go (Fits one) (suc later) first rest = rest one later
      go Dropped zero first rest = first
      go Dropped (suc later) first rest = Rises-same (get_or ns later 0)
      go (Conflict name) zero first rest = first
      go (Conflict name) (suc later) first rest = Rises-same (get_or ns later 0)

-- what holds of a list's element and of another one holds of it where the other one is written
after_set : (P : List ℕ → Type 0) (numbers : Numbers) (table : ℕ) (x : List ℕ) → P (get_or numbers table []) → P x → P (get_or (set numbers table x) table [])
after_set P [] table x here written = here
after_set P (ns ∷ rest) zero x here written = written
after_set P (ns ∷ rest) (suc table) x here written = after_set P rest table x here written

set_elsewhere : (numbers : Numbers) (table other : ℕ) (x : List ℕ) → other ≢ table → get_or (set numbers table x) other [] ≡ get_or numbers other []
set_elsewhere [] table other x apart = refl
set_elsewhere (ns ∷ rest) zero zero x apart = absurd (apart refl)
set_elsewhere (ns ∷ rest) zero (suc other) x apart = refl
set_elsewhere (ns ∷ rest) (suc table) zero x apart = refl
set_elsewhere (ns ∷ rest) (suc table) (suc other) x apart = set_elsewhere rest table other x (λ same. apart (ap suc same))

module _ (schema : Schema) (tables : List Rows) (numbers : Numbers) (origin : SiteName) (table : ℕ) (inserting : Bool) (row : Cells) where
  -- what holds of the counters, and of those that the constraints leave, holds after the settlement
  after_settlement : (P : Numbers → Type 0) → P numbers
      → P (set numbers table (settled_each (columns_of schema table) (rows_of tables table) origin (constraints_of schema table) (get_or numbers table []) row).numbers)
      → P (settlement_of schema tables numbers origin table inserting row).numbers
  after_settlement P same moved = go (inserting && is_some (find_row (columns_of schema table) (key_of (columns_of schema table) row) (rows_of tables table)))
    where
      go : (b : Bool) → P (cond b (record { settled = key_taken (key_methods_in (slice_get schema.tables table)); numbers = numbers })
          (with_numbers table numbers (settled_each (columns_of schema table) (rows_of tables table) origin (constraints_of schema table) (get_or numbers table []) row))).numbers
      go true = same
      go false = moved

pub counters_never_fall : CountersNeverFall
counters_never_fall schema tables numbers origin table inserting row constraint =
    let rise : List ℕ → Type 0 = λ ns. Rises (get_or (get_or numbers table []) constraint 0) (get_or ns constraint 0) in
    let same : rise (get_or numbers table []) = Rises-same (get_or (get_or numbers table []) constraint 0) in
    after_settlement schema tables numbers origin table inserting row (λ ns. rise (get_or ns table [])) same
    (after_set rise numbers table (settled_each (columns_of schema table) (rows_of tables table) origin (constraints_of schema table) (get_or numbers table []) row).numbers same
    (Rises-settled_each (columns_of schema table) (rows_of tables table) origin (constraints_of schema table) (get_or numbers table []) row constraint))

pub other_counters_stand_still : OtherCountersStandStill
other_counters_stand_still schema tables numbers origin table inserting row other apart =
    after_settlement schema tables numbers origin table inserting row (λ ns. get_or ns other [] ≡ get_or numbers other []) refl
    (set_elsewhere numbers table other (settled_each (columns_of schema table) (rows_of tables table) origin (constraints_of schema table) (get_or numbers table []) row).numbers apart)

-- without append-sequence a constraint's methods leave its counter
number-settled_by : (columns : List Column) (rows : Rows) (origin : SiteName) (constraint : Constraint) (row : Cells) (methods : List UniqueMethod) (number : ℕ) → list_any is_sequence methods ≡ false
    → (settled_by columns constraint rows origin methods row number).number ≡ number
number-settled_by columns rows origin constraint row [] number none = refl
number-settled_by columns rows origin constraint row (method.Discard ∷ methods) number none = refl
number-settled_by columns rows origin constraint row (method.AppendSite column ∷ methods) number none =
    go (helping columns constraint.columns rows (appended columns constraint.columns column origin.0 row)) (number-settled_by columns rows origin constraint row methods number none)
  where
    go : (helped : Option Cells) → (settled_by columns constraint rows origin methods row number).number ≡ number
        → (or_following helped number (settled_by columns constraint rows origin methods row number)).number ≡ number
    go None later = later
    go (Some one) later = refl
number-settled_by columns rows origin constraint row (method.AppendSequence column ∷ methods) number none = cc

number-settled_one : (columns : List Column) (rows : Rows) (origin : SiteName) (constraint : Constraint) (row : Cells) (number : ℕ) → has_sequence constraint ≡ false
    → (settled_one columns rows origin constraint row number).number ≡ number
number-settled_one columns rows origin constraint row number none = go (is_held columns constraint.columns rows row)
  where
    go : (b : Bool) → (cond b (settled_by columns constraint rows origin constraint.methods row number) (record { settled = Fits row; number = number })).number ≡ number
    go true = number-settled_by columns rows origin constraint row constraint.methods number none
    go false = refl

-- where a test fails for all, it fails for the first and for the others
none_of : (a b : Bool) → (a || b) ≡ false → (a ≡ false) × (b ≡ false)
none_of true b none = cc
none_of false b none = (refl, none)

numbers-settled_each : (columns : List Column) (rows : Rows) (origin : SiteName) (constraints : List Constraint) (numbers : List ℕ) (row : Cells) → list_any has_sequence constraints ≡ false
    → (settled_each columns rows origin constraints numbers row).numbers ≡ numbers
numbers-settled_each columns rows origin [] numbers row none = refl
numbers-settled_each columns rows origin (c ∷ cs) [] row none = refl
numbers-settled_each columns rows origin (c ∷ cs) (n ∷ ns) row none =
    let both = none_of (has_sequence c) (list_any has_sequence cs) none in
    go (settled_one columns rows origin c row n).settled (number-settled_one columns rows origin c row n both.0) (λ one. numbers-settled_each columns rows origin cs ns one both.1)
  where
    go : (settled : Settled) → (settled_one columns rows origin c row n).number ≡ n → ((one : Cells) → (settled_each columns rows origin cs ns one).numbers ≡ ns)
        → (go_on settled (settled_one columns rows origin c row n).number ns (settled_each columns rows origin cs ns)).numbers ≡ n ∷ ns
    go (Fits one) first rest = rw (first, rest one) refl
    go Dropped first rest = rw first refl
    go (Conflict name) first rest = rw first refl

-- a schema without append-sequence has none at a table
none_at : (entries : List TableEntry) (table : ℕ) → list_any has_sequence_in entries ≡ false → list_any has_sequence (constraints_in (slice_get entries table)) ≡ false
none_at [] table none = refl
none_at (e ∷ es) zero none = (none_of (has_sequence_in e) (list_any has_sequence_in es) none).0
none_at (e ∷ es) (suc table) none = none_at es table (none_of (has_sequence_in e) (list_any has_sequence_in es) none).1

pub counters_stand_still_without_sequences : CountersStandStillWithoutSequences
counters_stand_still_without_sequences schema tables numbers origin table inserting row none =
    after_settlement schema tables numbers origin table inserting row (λ ns. ns ≡ numbers) refl
    (ap (set numbers table) (numbers-settled_each (columns_of schema table) (rows_of tables table) origin (constraints_of schema table) (get_or numbers table []) row (none_at schema.tables table none))
    ∙ set-get_or numbers table [])
