-- Calls as they are carried: the tests of their form, and what they do one after the other.
use Rattle.std.proofs.Common.{◌≡◌, ◌≢◌, ℕ, zero, suc, ◌+◌, ◌<◌, ◌≤◌, Bool, true, false, cond, pos, negsuc, List, [], ◌∷◌, length, set, take, drop, Some, None, Ok, refl, sym, ap, ◌∙◌, arith, add-one}
use Rattle.std.specs.Prelude.{ℤ, ◌==◌, ◌&&◌, Option, is_some, filter_map, int_le, nat_abs, slice_get, IsSome}
use Rattle.std.specs.List.{cons_option}
use Rattle.std.proofs.lemmas.Bool.{and_parts, le-leb}
use Rattle.std.proofs.lemmas.List.{drop_all, length-set}
use Rattle.rep_lists.proofs.Places.{drop_from_found}
use Rattle.rep_values.specs.Equality.{value_eq, value_eq-Decides}
use Rattle.rep_values.specs.declared.value.Value.{Value}
use Rattle.rep_values.specs.declared.value.Value.TheVariants.{Num}
use Rattle.rep_schema.specs.declared.schema.Schema.{Schema}
use Rattle.rep_schema.specs.declared.schema.Column.{Column}
use Rattle.rep_values.specs.Number.{IsRowLen}
use Rattle.rep_schema.specs.Tables.{Cells, Rows, columns_of, key_count, RowFits}
use Rattle.rep_schema.specs.Groups.{are_same}
use Rattle.rep_schema.proofs.RowFit.{length-fits}
use Rattle.rep_schema.proofs.Shapes.{length-columns_of}
use Rattle.rep_calls.specs.declared.call.Call.{Call}
use Rattle.rep_calls.specs.declared.call.Call.TheVariants.{Insert}
use Rattle.txn_effects.specs.Parts.{result_then}
use Rattle.txn_effects.specs.Transactions.{failing_at}
use Rattle.site_state.specs.Fits.{SchemaIsKeyed}
use Rattle.proc_state.specs.declared.procedure.Procedure.{Procedure}
use Rattle.proc_state.specs.declared.call.ProcCall.{ProcCall}
use Rattle.proc_state.specs.Calls.{TakesAmounts, IsProcedure, AreProcedures, values_fit, call_fits, procedure_after, calls_after}
use Rattle.proc_state.specs.Carriers.{blank, blanks, carrier_row, place_in, place_named, has_form, values_in, is_row_of, call_in}
use Rattle.proc_state.proofs.Carrying.{each_at_place}
use Rattle.proc_calls.specs.declared.stop.ProcStop.{ProcStop}
use Rattle.proc_calls.specs.declared.stop.ProcStop.TheVariants.{Failed, Memory}
use Rattle.proc_calls.specs.Stops.{StopsAs}
use Rattle.proc_calls.specs.Carrying.{read_after, carried_after, carried_calls_after}

-- ---- values

and_assoc : (a b c : Bool) → (a && (b && c)) ≡ ((a && b) && c)
and_assoc true b c = refl
and_assoc false b c = refl

and_true : (b : Bool) → (b && true) ≡ b
and_true true = refl
and_true false = refl

both_false : (b : Bool) → (b && false) ≡ false
both_false true = refl
both_false false = refl

-- as many values as columns are wanted
pub other_length : (columns : List Column) (values : Cells) → length columns ≢ length values → are_same values (blanks columns) ≡ false
other_length [] [] other = absurd (other refl)
other_length [] (v ∷ vs) other = refl
other_length (c ∷ cs) [] other = refl
other_length (c ∷ cs) (v ∷ vs) other = ap (λ (b : Bool). value_eq v (blank c) && b) (other_length cs vs (λ same. other (ap suc same))) ∙ both_false (value_eq v (blank c))

-- also where one of them is another one
pub other_length_set : (columns : List Column) (values : Cells) (i : ℕ) → length columns ≢ length values → are_same (set values i (Num (pos 0))) (blanks columns) ≡ false
other_length_set columns values i other = other_length columns (set values i (Num (pos 0))) (λ same. other (same ∙ length-set values i (Num (pos 0))))

-- a column that takes amounts is there
pub takes_within : (columns : List Column) (i : ℕ) → TakesAmounts (slice_get columns i) → i < length columns
takes_within [] i takes = absurd takes
takes_within (c ∷ cs) zero takes = omega arith
takes_within (c ∷ cs) (suc i) takes = omega (arith, takes_within cs i takes)

module _ (columns : List Column) (values : Cells) (i : ℕ) (rest : are_same values (blanks columns) ≡ are_same (drop i values) (blanks (drop i columns)))
    (c : Column) (v : Value) (here : slice_get columns i ≡ Some c) (there : slice_get values i ≡ Some v) where
  -- one blank more
  pub blank_more : value_eq v (blank c) ≡ true → are_same values (blanks columns) ≡ are_same (drop (i + 1) values) (blanks (drop (i + 1) columns))
  blank_more is = rest ∙ rw (drop_from_found columns i c here, drop_from_found values i v there, is) refl

  -- another value
  pub blank_stops : value_eq v (blank c) ≡ false → are_same values (blanks columns) ≡ false
  blank_stops is = rest ∙ rw (drop_from_found columns i c here, drop_from_found values i v there, is) refl

blank_beside_suc : (columns : List Column) (values : Cells) (i : ℕ) → length columns ≡ length values → TakesAmounts (slice_get columns i)
    → are_same (set values i (Num (pos 0))) (blanks columns) ≡ (are_same (take i values) (blanks (take i columns)) && are_same (drop (suc i) values) (blanks (drop (suc i) columns)))
blank_beside_suc [] values i long takes = absurd takes
blank_beside_suc (c ∷ cs) [] i long takes = absurd (omega (arith, long))
blank_beside_suc (c ∷ cs) (v ∷ vs) zero long takes = rw takes.0 refl
blank_beside_suc (c ∷ cs) (v ∷ vs) (suc i) long takes =
    ap (λ (b : Bool). value_eq v (blank c) && b) (blank_beside_suc cs vs i (omega (arith, long)) takes)
    ∙ and_assoc (value_eq v (blank c)) (are_same (take i vs) (blanks (take i cs))) (are_same (drop (suc i) vs) (blanks (drop (suc i) cs)))

-- values that are blanks beside a column, at which 0 is the blank
pub blank_beside : (columns : List Column) (values : Cells) (i : ℕ) → length columns ≡ length values → TakesAmounts (slice_get columns i)
    → are_same (set values i (Num (pos 0))) (blanks columns) ≡ (are_same (take i values) (blanks (take i columns)) && are_same (drop (i + 1) values) (blanks (drop (i + 1) columns)))
blank_beside columns values i long takes = rw (add-one i) (blank_beside_suc columns values i long takes)

-- a number is its own absolute value where it isn't below 0
pub place_test : (n : ℤ) → int_le (pos 0) n ≡ value_eq (Num n) (Num (pos (nat_abs n)))
place_test (pos n) = le-leb 0 n (omega arith) ∙ sym ((value_eq-Decides (Num (pos n)) (Num (pos n))).1 refl)
place_test (negsuc n) = refl

-- a carrier's row begins with 0 and a place
pub headed : (key place : Value) (rest : Cells) → are_same (take 2 (key ∷ place ∷ rest)) (carrier_row (place_named (key ∷ place ∷ rest)) []) ≡ (value_eq key (Num (pos 0)) && value_eq place (Num (pos (place_in (Some place)))))
headed key place rest = ap (λ (b : Bool). value_eq key (Num (pos 0)) && b) (and_true (value_eq place (Num (pos (place_in (Some place))))))

-- ---- one call

some_if : {X : Type 0} (b : Bool) (x : X) → is_some (cond b (Some x) None) ≡ b
some_if true x = refl
some_if false x = refl

module _ (schema : Schema) (procedures : List Procedure) (table : ℕ) (row : Cells) where
  -- a row that names no procedure has the form of none
  pub no_procedure : slice_get procedures (place_named row) ≡ None → is_some (call_in schema procedures (Insert table row)) ≡ false
  no_procedure none = rw none refl

  module _ (p : Procedure) (there : slice_get procedures (place_named row) ≡ Some p) where
    -- one that names a procedure has a form where it has that one's
    pub of_form : is_some (call_in schema procedures (Insert table row)) ≡ is_row_of schema table row p
    of_form = rw there (some_if (is_row_of schema table row p) (record { procedure = place_named row; values = values_in p.action (drop 2 row) }))

    pub is_one : AreProcedures schema procedures → IsProcedure schema p
    is_one are = rw there at (each_at_place (IsProcedure schema) procedures (place_named row) are)

    module _ (form : is_some (call_in schema procedures (Insert table row)) ≡ true) where
      is_row : is_row_of schema table row p ≡ true
      is_row = sym of_form ∙ form

      pub values_form : has_form (columns_of schema p.table) p.action (drop 2 row) ≡ true
      values_form = (and_parts (p.table == table && are_same (take 2 row) (carrier_row (place_named row) [])) (has_form (columns_of schema p.table) p.action (drop 2 row)) is_row).1

      -- it does what the procedure does
      pub after_is : (tables : List Rows) → carried_after schema procedures (Insert table row) tables ≡ procedure_after schema p (values_in p.action (drop 2 row)) tables
      after_is tables = rw (there, is_row, there) refl

-- ---- one call after the other

module _ (schema : Schema) (procedures : List Procedure) (calls : List Call) (before now : List Rows) (i : ℕ)
    (so_far : carried_calls_after schema procedures 1 calls before ≡ carried_calls_after schema procedures (i + 1) (drop i calls) now) where
  module _ (call : Call) (there : slice_get calls i ≡ Some call) (form : is_some (call_in schema procedures call) ≡ true) where
    abbrev rest : List ProcCall
    rest = filter_map (call_in schema procedures) (drop (i + 1) calls)

    one : carried_calls_after schema procedures (i + 1) (drop i calls) now ≡ result_then (failing_at (i + 1) (carried_after schema procedures call now)) (calls_after schema procedures (i + 1 + 1) rest)
    one = rw (drop_from_found calls i call there) (go (call_in schema procedures call) form)
      where
        go : (o : Option ProcCall) → is_some o ≡ true
            → calls_after schema procedures (i + 1) (cons_option o rest) now ≡ result_then (failing_at (i + 1) (read_after schema procedures o now)) (calls_after schema procedures (i + 1 + 1) rest)
        go None is = absurd (cc is)
        go (Some read) is = refl

    -- one more was made
    pub calls_more : (new : List Rows) → carried_after schema procedures call now ≡ Ok new → carried_calls_after schema procedures 1 calls before ≡ carried_calls_after schema procedures (i + 1 + 1) (drop (i + 1) calls) new
    calls_more new gives = so_far ∙ one ∙ rw gives refl

    -- one fails, or there is no memory
    pub calls_stop : (stop : ProcStop) → StopsAs (failing_at (i + 1) (carried_after schema procedures call now)) stop → StopsAs (carried_calls_after schema procedures 1 calls before) stop
    calls_stop (Failed number error) stops = so_far ∙ one ∙ rw stops refl
    calls_stop Memory stops = tt

  -- all were made
  pub calls_done : length calls ≤ i → carried_calls_after schema procedures 1 calls before ≡ Ok now
  calls_done past = so_far ∙ rw (drop_all i calls past) refl

-- ---- what an action wants

-- what is there is something
pub some_is : {X : Type 0} (o : Option X) → IsSome o → ((x : X) → o ≡ Some x → ⊥) → ⊥
some_is None is other = absurd (cc is)
some_is (Some x) is other = other x refl

-- columns with a key column are some columns
some_keyed : (columns : List Column) → 1 ≤ key_count columns → 1 ≤ length columns
some_keyed [] some = absurd (omega (arith, some))
some_keyed (c ∷ cs) some = omega arith

-- a row that fits a table has as many values as a row may have
pub IsRowLen-fits : (schema : Schema) (table : ℕ) (row : Cells) → SchemaIsKeyed schema → table < length schema.tables → RowFits (columns_of schema table) row → IsRowLen (length row)
IsRowLen-fits schema table row keyed there fits =
    let long = length-fits (columns_of schema table) row fits in
    (omega (arith, long, some_keyed (columns_of schema table) (keyed.keys table there).0), omega (arith, long, length-columns_of schema keyed.shape table))

-- ---- a call that fits

module _ (schema : Schema) (procedures : List Procedure) where
  pub procedure_is : AreProcedures schema procedures → (place : ℕ) (p : Procedure) → slice_get procedures place ≡ Some p → IsProcedure schema p
  procedure_is are place p there = rw there at (each_at_place (IsProcedure schema) procedures place are)

  pub values_are_fit : (call : ProcCall) (p : Procedure) → slice_get procedures call.procedure ≡ Some p → call_fits schema procedures call ≡ true → values_fit (columns_of schema p.table) p.action call.values ≡ true
  values_are_fit call p there fits = rw there at fits
