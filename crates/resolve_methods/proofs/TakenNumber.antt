-- A number that the methods take fits the group's one column.
use Rattle.std.proofs.Common.{◌≡◌, ℕ, List, [], ◌∷◌, Bool, true, false, Some, None, cond, refl, ◌∙◌, subst, arith, pos, negsuc}
use Rattle.std.specs.Prelude.{ℤ, ◌+ℤ◌, ◌-ℤ◌, ◌≤ℤ◌, int_le, int_div, Option, IfSome, ◌&&◌, T, slice_get}
use Rattle.std.specs.declared.cmp.Ordering.{Ordering}
use Rattle.std.specs.declared.cmp.Ordering.TheVariants.{Less, Equal, Greater}
use Rattle.std.proofs.lemmas.Int.{ints}
use Rattle.rep_values.specs.declared.value.Value.TheVariants.{Num, Words}
use Rattle.rep_schema.specs.declared.schema.Schema.{Schema}
use Rattle.rep_schema.specs.declared.schema.Column.{Column}
use Rattle.rep_schema.specs.declared.schema.Kind.{Kind}
use Rattle.rep_schema.specs.declared.schema.Kind.TheVariants as kind
use Rattle.rep_schema.specs.declared.schema.Method.{Method}
use Rattle.rep_schema.specs.declared.schema.Method.TheVariants as method
use Rattle.rep_schema.specs.Tables.{Cells, columns_of, IsInRange, FitsKind, RowFits}
use Rattle.rep_schema.specs.Fitting.{is_in_range}
use Rattle.rep_schema.specs.Levels.{level_of}
use Rattle.rep_schema.specs.Groups.{group_columns_of, columns_in_group, group_values}
use Rattle.rep_schema.proofs.PartFit.{RowFits-values_at}
use Rattle.rep_calls.specs.declared.call.Part.{Part}
use Rattle.resolve_methods.specs.PartValues.{HasGroupValues}
use Rattle.resolve_methods.specs.declared.decision.Decision.{Decision}
use Rattle.resolve_methods.specs.declared.decision.Decision.TheVariants.{TakeNew, TakeNumber, Keep, Undecided, Range}
use Rattle.resolve_methods.specs.Ranks.{number_of, site_level_of}
use Rattle.resolve_methods.specs.Decide.{greater_stays, lesser_stays, only, by_order, taken_in_range, added, averaged, new_in, decided_by, or_next, first_decision, methods_of, decision_of}
use Rattle.resolve_methods.proofs.InRange.{IsInRange-only, IsInRange-only_group}

both_true : (a b : Bool) → (a && b) ≡ true → (a ≡ true) × (b ≡ true)
both_true true b e = (refl, e)
both_true false b e = cc

passes : (b : Bool) → b ≡ true → T b
passes true e = tt
passes false e = cc

-- a number that passes the test of the range lies in it
pub IsInRange-tested : (n : ℤ) → is_in_range n ≡ true → IsInRange n
IsInRange-tested n e =
    let p = both_true (int_le (negsuc 999999999999999) n) (int_le n (pos 1000000000000000)) e in
    (record { le = passes _ p.0 }, record { le = passes _ p.1 })

-- so does half the sum of two numbers in it
half_in_range : (s : ℤ) → negsuc 1999999999999999 ≤ℤ s → s ≤ℤ pos 2000000000000000 → IsInRange (int_div s (pos 2))
half_in_range (pos k) low high = (omega (arith, ints), omega (arith, ints))
half_in_range (negsuc k) low high = (omega (arith, ints), omega (arith, ints))

pub IsInRange-mean : (a b : ℤ) → IsInRange a → IsInRange b → IsInRange (int_div (a +ℤ b) (pos 2))
IsInRange-mean a b in_a in_b = half_in_range (a +ℤ b) (omega (arith, ints, in_a.0, in_b.0)) (omega (arith, ints, in_a.1, in_b.1))

other_number_fits : (k : Kind) (x n : ℤ) → FitsKind k (Num x) → IsInRange n → FitsKind k (Num n)
other_number_fits kind.Number x n fits within = within
other_number_fits kind.Date x n fits within = within
other_number_fits kind.Stamp x n fits within = within
other_number_fits kind.Words x n fits within = absurd fits
other_number_fits kind.Site x n fits within = absurd fits

-- where one number fits some columns, so does another one in range
number_fits : (columns : List Column) (values : Cells) (k n : ℤ) → RowFits columns values → number_of (only values) ≡ Some k → IsInRange n → RowFits columns (Num n ∷ [])
number_fits [] [] k n fits there within = cc
number_fits [] (v ∷ vs) k n fits there within = absurd fits
number_fits (c ∷ cs) [] k n fits there within = absurd fits
number_fits (c ∷ []) (Num x ∷ []) k n fits there within = (other_number_fits c.kind x n fits.0 within, tt)
number_fits (c ∷ d ∷ cs) (Num x ∷ []) k n fits there within = absurd fits.1
number_fits (c ∷ cs) (Words t ∷ []) k n fits there within = cc
number_fits (c ∷ cs) (v ∷ w ∷ vs) k n fits there within = cc

-- no order takes a number
none_by_order : (stays : Ordering → Decision) (n : ℤ) → ((order : Ordering) → stays order ≡ TakeNumber n → ⊥) → (new current : Option ℤ) → by_order stays new current ≡ TakeNumber n → ⊥
none_by_order stays n never None current takes = cc
none_by_order stays n never (Some new) None takes = cc
none_by_order stays n never (Some new) (Some current) takes = never _ takes

never_greater : (n : ℤ) (order : Ordering) → greater_stays order ≡ TakeNumber n → ⊥
never_greater n Less takes = cc
never_greater n Equal takes = cc
never_greater n Greater takes = cc

never_lesser : (n : ℤ) (order : Ordering) → lesser_stays order ≡ TakeNumber n → ⊥
never_lesser n Less takes = cc
never_lesser n Equal takes = cc
never_lesser n Greater takes = cc

-- a number was taken beside a current one, and lies in range
abbrev TakesBeside : Option ℤ → ℤ → Type 0
TakesBeside current n = (k : ℤ) × (current ≡ Some k) × IsInRange n

taken_in : (x n : ℤ) → taken_in_range x ≡ TakeNumber n → IsInRange n
taken_in x n takes = go (is_in_range x) refl takes
  where
    go : (b : Bool) → is_in_range x ≡ b → cond b (TakeNumber x) Range ≡ TakeNumber n → IsInRange n
    go true within takes = let same : x ≡ n = cc in subst IsInRange same (IsInRange-tested x within)
    go false out takes = cc

added_takes : (old new current : Option ℤ) (n : ℤ) → added old new current ≡ TakeNumber n → TakesBeside current n
added_takes None new current n takes = cc
added_takes (Some old) None current n takes = cc
added_takes (Some old) (Some new) None n takes = cc
added_takes (Some old) (Some new) (Some current) n takes = (current, refl, taken_in (current +ℤ (new -ℤ old)) n takes)

averaged_takes : (new current : Option ℤ) (n : ℤ) → IfSome new IsInRange → IfSome current IsInRange → averaged new current ≡ TakeNumber n → TakesBeside current n
averaged_takes None current n in_new in_current takes = cc
averaged_takes (Some new) None n in_new in_current takes = cc
averaged_takes (Some new) (Some current) n in_new in_current takes =
    let same : int_div (current +ℤ new) (pos 2) ≡ n = cc in
    (current, refl, subst IsInRange same (IsInRange-mean current new in_current in_new))

module _ (schema : Schema) (table : ℕ) (part : Part) (current : Cells) (n : ℤ) (part_fits : HasGroupValues schema table part) (fits : RowFits (columns_of schema table) current) where
  -- a number taken beside the row's one fits the group's one column
  fits_beside : TakesBeside (number_of (only (group_values schema table part.group current))) n → RowFits (columns_in_group schema table part.group) (Num n ∷ [])
  fits_beside takes =
      number_fits (columns_in_group schema table part.group) (group_values schema table part.group current) takes.0 n
      (RowFits-values_at (group_columns_of schema table part.group) (columns_of schema table) current fits) takes.1 takes.2

  taken_by : (m : Method) → decided_by schema table part current m ≡ TakeNumber n → RowFits (columns_in_group schema table part.group) (Num n ∷ [])
  taken_by (method.Latest column) takes = absurd (none_by_order greater_stays n (never_greater n) (number_of (new_in schema table part current column)) (number_of (slice_get current column)) takes)
  taken_by (method.Earliest column) takes = absurd (none_by_order lesser_stays n (never_lesser n) (number_of (new_in schema table part current column)) (number_of (slice_get current column)) takes)
  taken_by method.Overwrite takes = cc
  taken_by method.Discard takes = cc
  taken_by method.Additive takes = fits_beside (added_takes _ _ _ n takes)
  taken_by method.Average takes =
      fits_beside (averaged_takes _ _ n
      (IsInRange-only (columns_in_group schema table part.group) part.new part_fits.new) (IsInRange-only_group schema table part.group current fits) takes)
  taken_by (method.Maximum column) takes = absurd (none_by_order greater_stays n (never_greater n) (number_of (new_in schema table part current column)) (number_of (slice_get current column)) takes)
  taken_by (method.Minimum column) takes = absurd (none_by_order lesser_stays n (never_lesser n) (number_of (new_in schema table part current column)) (number_of (slice_get current column)) takes)
  taken_by (method.Priority column group) takes = absurd (none_by_order greater_stays n (never_greater n) (level_of schema group (new_in schema table part current column)) (level_of schema group (slice_get current column)) takes)
  taken_by (method.SitePriority column) takes = absurd (none_by_order greater_stays n (never_greater n) (site_level_of schema (new_in schema table part current column)) (site_level_of schema (slice_get current column)) takes)

  taken_first : (ms : List Method) → first_decision schema table part current ms ≡ TakeNumber n → RowFits (columns_in_group schema table part.group) (Num n ∷ [])
  taken_first [] takes = cc
  taken_first (m ∷ ms) takes = go (decided_by schema table part current m) refl takes (taken_first ms)
    where
      go : (d : Decision) → decided_by schema table part current m ≡ d → or_next d (first_decision schema table part current ms) ≡ TakeNumber n
          → (first_decision schema table part current ms ≡ TakeNumber n → RowFits (columns_in_group schema table part.group) (Num n ∷ [])) → RowFits (columns_in_group schema table part.group) (Num n ∷ [])
      go TakeNew here takes later = cc
      go (TakeNumber k) here takes later = taken_by m (here ∙ takes)
      go Keep here takes later = cc
      go Undecided here takes later = later takes
      go Range here takes later = cc

  -- where the methods take a number, it fits the group's one column
  pub RowFits-taken_number : decision_of schema table part current ≡ TakeNumber n → RowFits (columns_in_group schema table part.group) (Num n ∷ [])
  RowFits-taken_number takes = taken_first (methods_of schema table part.group) takes
