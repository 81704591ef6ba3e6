-- What the method sequences of convergent groups leave.
use Rattle.std.proofs.Common.{◌≡◌, ℕ, zero, suc, List, [], ◌∷◌, Bool, true, false, Some, None, cond, refl, sym, ap, ◌∙◌, subst, inl, inr, arith, pos, ◌<◌, length}
use Rattle.std.specs.Prelude.{ℤ, ◌+ℤ◌, ◌-ℤ◌, ◌<ℤ◌, int_lt, Option, slice_get}
use mathlib.Core.Logic.{⊎_elim}
use Rattle.std.specs.Option.{option_map}
use Rattle.std.specs.List.{AllByRecursion, sum_by, cons_option}
use Rattle.std.proofs.lemmas.List.Sums.{sum_by-cons}
use Rattle.std.proofs.lemmas.List.Sorted.{sum_by-IsPermutation}
use Rattle.std.specs.Ordering.{int_cmp}
use Rattle.std.specs.declared.cmp.Ordering.TheVariants.{Less, Equal, Greater}
use Rattle.std.proofs.lemmas.Int.{ints}
use Rattle.rep_values.specs.declared.value.Value.{Value}
use Rattle.rep_values.specs.declared.value.Value.TheVariants.{Num, Words}
use Rattle.rep_schema.specs.declared.schema.Schema.{Schema}
use Rattle.rep_schema.specs.declared.schema.Column.{Column}
use Rattle.rep_schema.specs.declared.schema.Method.{Method}
use Rattle.rep_schema.specs.declared.schema.Kind.{Kind}
use Rattle.rep_schema.specs.declared.schema.Kind.TheVariants as kind
use Rattle.rep_schema.specs.Tables.{Cells, columns_of, FitsKind, RowFits}
use Rattle.rep_schema.specs.Fitting.{is_in_range}
use Rattle.rep_schema.specs.Kinds.{is_some_and, takes_numbers, has_kind}
use Rattle.rep_schema.specs.Groups.{values_at, group_columns_of, columns_in_group, group_values, with_group_values}
use Rattle.rep_schema.proofs.Coverage.{group_columns_of-below}
use Rattle.rep_schema.proofs.PartFit.{RowFits-with_values}
use Rattle.rep_calls.specs.declared.call.Part.{Part}
use Rattle.resolve_methods.specs.declared.decision.Decision.TheVariants.{TakeNew, TakeNumber, Keep, Undecided, Range}
use Rattle.resolve_methods.specs.Ranks.{number_of, site_level_of}
use Rattle.resolve_methods.specs.Decide.{greater_stays, lesser_stays, by_order, only, taken_in_range, added, new_in, or_next, first_decision, methods_of, decision_of}
use Rattle.resolve_methods.specs.SequenceLaws.{sum_methods, greatest_methods, least_methods, IsOfOneNumber, number_or_zero, one_group_number, group_number, move_of, sum_of_moves, TakenInTurn, MoveIsAdded, MovesAreTaken, MovesAddUp, MovesAddInAnyOrder, GreatestStays, LeastStays, Rank, IsLowerLevel, GoesByRank, GreaterRankStays}
use Rattle.resolve_methods.proofs.Over.{slice_get-set_same}
use Rattle.resolve_methods.proofs.TakenNumber.{RowFits-taken_number}
use Rattle.resolve_methods.proofs.Orders.{gain, loss, balance}

-- a column of numbers takes no text
no_text : (k : Kind) (t : List ℕ) → takes_numbers k ≡ true → FitsKind k (Words t) → ⊥
no_text kind.Number t numbers fits = fits
no_text kind.Words t numbers fits = cc
no_text kind.Date t numbers fits = fits
no_text kind.Stamp t numbers fits = fits
no_text kind.Site t numbers fits = cc

-- a row has a number in a column of numbers
number_at : (columns : List Column) (row : Cells) (p : ℕ) → has_kind takes_numbers columns p ≡ true → RowFits columns row → (n : ℤ) × (slice_get row p ≡ Some (Num n))
number_at [] row p numbers fits = cc
number_at (c ∷ cs) [] p numbers fits = absurd fits
number_at (c ∷ cs) (Num n ∷ vs) zero numbers fits = (n, refl)
number_at (c ∷ cs) (Words t ∷ vs) zero numbers fits = absurd (no_text c.kind t numbers fits.0)
number_at (c ∷ cs) (v ∷ vs) (suc p) numbers fits = number_at cs vs p numbers fits.1

-- what fits one column of numbers is one number
one_number : (column : Option Column) (values : Cells) → is_some_and takes_numbers (option_map (λ c. c.kind) column) ≡ true → RowFits (cons_option column []) values → (n : ℤ) × (values ≡ Num n ∷ [])
one_number None values numbers fits = cc
one_number (Some c) [] numbers fits = absurd fits
one_number (Some c) (Num n ∷ []) numbers fits = (n, refl)
one_number (Some c) (Words t ∷ []) numbers fits = absurd (no_text c.kind t numbers fits.0)
one_number (Some c) (v ∷ w ∷ vs) numbers fits = absurd fits.1

module _ (schema : Schema) (table group column : ℕ) (sequence : List Method) (one : IsOfOneNumber schema table group column sequence) where
  -- so in a group of one number
  one_of_group : (values : Cells) → RowFits (columns_in_group schema table group) values → (n : ℤ) × (values ≡ Num n ∷ [])
  one_of_group values fits =
      one_number (slice_get (columns_of schema table) column) values one.numbers (subst (λ places. RowFits (values_at places (columns_of schema table)) values) one.columns fits)

  -- the row's value there is the group's
  group_values_one : (row : Cells) (v : Value) → slice_get row column ≡ Some v → group_values schema table group row ≡ v ∷ []
  group_values_one row v here = rw (one.columns, here) refl

  -- with a number in the group, the number is there
  written_one : (row : Cells) (v : Value) (n : ℤ) → slice_get row column ≡ Some v → slice_get (with_group_values schema table group (Num n ∷ []) row) column ≡ Some (Num n)
  written_one row v n here = rw (one.columns, slice_get-set_same row column (Num n), here) refl

or_next-taken_in_range : (z : ℤ) → or_next (taken_in_range z) Undecided ≡ taken_in_range z
or_next-taken_in_range z = go (is_in_range z)
  where
    go : (b : Bool) → or_next (cond b (TakeNumber z) Range) Undecided ≡ cond b (TakeNumber z) Range
    go true = refl
    go false = refl

pub move_is_added : MoveIsAdded
move_is_added schema table column part row one part_fits fits =
    let old = one_of_group schema table part.group column sum_methods one part.old part_fits.old in
    let new = one_of_group schema table part.group column sum_methods one part.new part_fits.new in
    let now = number_at (columns_of schema table) row column one.numbers fits in
    let current = group_values_one schema table part.group column sum_methods one row (Num now.0) now.1 in
    rw (one.methods, old.1, new.1, current) (or_next-taken_in_range (now.0 +ℤ (new.0 -ℤ old.0)))

-- there is a column where one has a kind
column_below : (test : Kind → Bool) (columns : List Column) (p : ℕ) → has_kind test columns p ≡ true → p < length columns
column_below test [] p has = cc
column_below test (c ∷ cs) zero has = omega arith
column_below test (c ∷ cs) (suc p) has = omega (arith, column_below test cs p has)

pub moves_are_taken : MovesAreTaken
moves_are_taken schema table group column [] row one each fits within = (row, refl)
moves_are_taken schema table group column (part ∷ parts) row one each fits within =
    let same = each.0.0 in
    let n : ℤ = group_number schema table group row +ℤ move_of part in
    let its_one : IsOfOneNumber schema table part.group column sum_methods = rw same one in
    let adds : decision_of schema table part row ≡ taken_in_range n = subst (λ g. decision_of schema table part row ≡ taken_in_range (group_number schema table g row +ℤ move_of part)) same
    (move_is_added schema table column part row its_one each.0.1 fits) in
    let takes : decision_of schema table part row ≡ TakeNumber n = adds ∙ ap (λ b. cond b (TakeNumber n) Range) within.0 in
    let number_fits : RowFits (columns_in_group schema table group) (Num n ∷ []) = subst (λ g. RowFits (columns_in_group schema table g) (Num n ∷ [])) same
    (RowFits-taken_number schema table part row n each.0.1 fits takes) in
    let below : AllByRecursion (λ p. p < length (columns_of schema table)) (group_columns_of schema table group) = rw one.columns (column_below takes_numbers (columns_of schema table) column one.numbers, tt) in
    let next : Cells = with_group_values schema table group (Num n ∷ []) row in
    let next_fits : RowFits (columns_of schema table) next = RowFits-with_values (columns_of schema table) (group_columns_of schema table group) (Num n ∷ []) row below number_fits fits in
    let now = number_at (columns_of schema table) row column one.numbers fits in
    let there : slice_get next column ≡ Some (Num n) = written_one schema table group column sum_methods one row (Num now.0) n now.1 in
    let number : group_number schema table group next ≡ n = ap one_group_number (group_values_one schema table group column sum_methods one next (Num n) there) in
    let rest = moves_are_taken schema table group column parts next one each.1 next_fits (rw number within.1) in
    (rest.0, (n, same, takes, rest.1))

-- a number that additive takes is the sum
taken_sum : (old new current : Option ℤ) (n : ℤ) → or_next (added old new current) Undecided ≡ TakeNumber n → n ≡ number_or_zero current +ℤ (number_or_zero new -ℤ number_or_zero old)
taken_sum None new current n takes = cc
taken_sum (Some old) None current n takes = cc
taken_sum (Some old) (Some new) None n takes = cc
taken_sum (Some old) (Some new) (Some current) n takes = go (is_in_range (current +ℤ (new -ℤ old))) takes
  where
    go : (b : Bool) → or_next (cond b (TakeNumber (current +ℤ (new -ℤ old))) Range) Undecided ≡ TakeNumber n → n ≡ current +ℤ (new -ℤ old)
    go true takes = cc
    go false takes = cc

module _ (schema : Schema) (table group column : ℕ) (one : IsOfOneNumber schema table group column sum_methods) where
  -- of one part
  one_sum : (part : Part) (row : Cells) (n : ℤ) → part.group ≡ group → decision_of schema table part row ≡ TakeNumber n → n ≡ group_number schema table group row +ℤ move_of part
  one_sum part row n same takes =
      let its : methods_of schema table part.group ≡ sum_methods = rw same one.methods in
      let first : first_decision schema table part row sum_methods ≡ TakeNumber n = subst (λ ms. first_decision schema table part row ms ≡ TakeNumber n) its takes in
      let sum : n ≡ group_number schema table part.group row +ℤ move_of part = taken_sum (number_of (only part.old)) (number_of (only part.new)) (number_of (only (group_values schema table part.group row))) n first in
      subst (λ g. n ≡ group_number schema table g row +ℤ move_of part) same sum

  -- of all, from a row with a number in the group
  all_sums : (parts : List Part) (row last : Cells) (v : Value) → slice_get row column ≡ Some v → TakenInTurn schema table group parts row last
      → group_number schema table group last ≡ group_number schema table group row +ℤ sum_of_moves parts
  all_sums [] row last v here taken = rw (sym taken) (omega (arith, ints))
  all_sums (part ∷ parts) row last v here taken =
      let n = taken.0 in
      let next : Cells = with_group_values schema table group (Num n ∷ []) row in
      let there : slice_get next column ≡ Some (Num n) = written_one schema table group column sum_methods one row v n here in
      let rest = all_sums parts next last (Num n) there taken.3 in
      let number : group_number schema table group next ≡ n = ap one_group_number (group_values_one schema table group column sum_methods one next (Num n) there) in
      let first = one_sum part row n taken.1 taken.2 in
      omega (arith, ints, rest, number, first)

pub moves_add_up : MovesAddUp
moves_add_up schema table group column parts row last one fits taken =
    let now = number_at (columns_of schema table) row column one.numbers fits in
    all_sums schema table group column one parts row last (Num now.0) now.1 taken

gain_by : Part → ℕ
gain_by part = gain (move_of part)

loss_by : Part → ℕ
loss_by part = loss (move_of part)

-- moves are gains and losses
moves_balance : (parts : List Part) → sum_of_moves parts +ℤ pos (sum_by loss_by parts) ≡ pos (sum_by gain_by parts)
unfolding gain_by loss_by
moves_balance [] = refl
moves_balance (part ∷ parts) =
    let rest = moves_balance parts in
    let gains = sum_by-cons gain_by part parts in
    let losses = sum_by-cons loss_by part parts in
    let balanced = balance (move_of part) in
    omega (arith, ints, rest, gains, losses, balanced)

pub moves_add_in_any_order : MovesAddInAnyOrder
moves_add_in_any_order schema table group column parts turned row last other one fits same taken taken_turned =
    let sum = moves_add_up schema table group column parts row last one fits taken in
    let sum_turned = moves_add_up schema table group column turned row other one fits taken_turned in
    let balanced = moves_balance parts in
    let balanced_turned = moves_balance turned in
    let gains = sum_by-IsPermutation gain_by parts turned same in
    let losses = sum_by-IsPermutation loss_by parts turned same in
    omega (arith, ints, sum, sum_turned, balanced, balanced_turned, gains, losses)

-- two numbers are one of three ways
three_ways : {P : Type 0} (a b : ℤ) → (a <ℤ b → int_cmp a b ≡ Less → P) → (a ≡ b → int_cmp a b ≡ Equal → P) → (b <ℤ a → int_cmp a b ≡ Greater → P) → P
three_ways {P} a b below same above = go (int_lt a b) (int_lt b a) refl refl
  where
    go : (low high : Bool) → int_lt a b ≡ low → int_lt b a ≡ high → P
    go true high e f = below (omega (arith, ints)) (rw e refl)
    go false true e f = above (omega (arith, ints)) (rw (e, f) refl)
    go false false e f = same (omega (arith, ints)) (rw (e, f) refl)

greatest_of : (new current : ℤ) → or_next (greater_stays (int_cmp new current)) (or_next Keep Undecided) ≡ cond (int_lt current new) TakeNew Keep
greatest_of new current = go (int_lt new current) (int_lt current new) refl refl
  where
    go : (low high : Bool) → int_lt new current ≡ low → int_lt current new ≡ high → or_next (greater_stays (cond low Less (cond high Greater Equal))) (or_next Keep Undecided) ≡ cond high TakeNew Keep
    go true true e f = absurd (omega (arith, ints))
    go true false e f = refl
    go false true e f = refl
    go false false e f = refl

least_of : (new current : ℤ) → or_next (lesser_stays (int_cmp new current)) (or_next Keep Undecided) ≡ cond (int_lt new current) TakeNew Keep
least_of new current = go (int_lt new current) (int_lt current new) refl refl
  where
    go : (low high : Bool) → int_lt new current ≡ low → int_lt current new ≡ high → or_next (lesser_stays (cond low Less (cond high Greater Equal))) (or_next Keep Undecided) ≡ cond low TakeNew Keep
    go true high e f = refl
    go false true e f = refl
    go false false e f = refl

pub greatest_stays : GreatestStays
greatest_stays schema table column part row one part_fits fits =
    let new = one_of_group schema table part.group column (greatest_methods column) one part.new part_fits.new in
    let now = number_at (columns_of schema table) row column one.numbers fits in
    let there = written_one schema table part.group column (greatest_methods column) one row (Num now.0) new.0 now.1 in
    let current = group_values_one schema table part.group column (greatest_methods column) one row (Num now.0) now.1 in
    rw (one.methods, new.1, there, current, now.1) (greatest_of new.0 now.0)

pub least_stays : LeastStays
least_stays schema table column part row one part_fits fits =
    let new = one_of_group schema table part.group column (least_methods column) one part.new part_fits.new in
    let now = number_at (columns_of schema table) row column one.numbers fits in
    let there = written_one schema table part.group column (least_methods column) one row (Num now.0) new.0 now.1 in
    let current = group_values_one schema table part.group column (least_methods column) one row (Num now.0) now.1 in
    rw (one.methods, new.1, there, current, now.1) (least_of new.0 now.0)

none_lower : (a : Option ℤ) → IsLowerLevel a None → ⊥
none_lower None lower = lower
none_lower (Some a) lower = lower

abbrev ranked : ℤ → Option ℤ → Rank
ranked s a = record { stamp = s; level = a }

-- where the stamps are the same the levels decide
by_levels : (s : ℤ) (a b : Option ℤ) → GoesByRank (or_next (by_order greater_stays a b) Undecided) (ranked s a) (ranked s b)
by_levels s None b = record {
  takes = (λ takes. cc, λ lower. absurd (⊎_elim (λ l. omega (arith, ints, l)) (λ r. none_lower b r.1) lower));
  keeps = (λ keeps. cc, λ lower. absurd (⊎_elim (λ l. omega (arith, ints, l)) (λ r. r.1) lower));
  undecided = (λ none. (refl, tt), λ tie. refl);
}
by_levels s (Some a) None = record {
  takes = (λ takes. cc, λ lower. absurd (⊎_elim (λ l. omega (arith, ints, l)) (λ r. r.1) lower));
  keeps = (λ keeps. cc, λ lower. absurd (⊎_elim (λ l. omega (arith, ints, l)) (λ r. r.1) lower));
  undecided = (λ none. (refl, tt), λ tie. refl);
}
by_levels s (Some a) (Some b) = three_ways a b (λ below cmp. rw cmp (lower below)) (λ same cmp. rw cmp (tied same)) (λ above cmp. rw cmp (higher above))
  where
    lower : a <ℤ b → GoesByRank Keep (ranked s (Some a)) (ranked s (Some b))
    lower below = record {
      takes = (λ takes. cc, λ l. absurd (⊎_elim (λ l. omega (arith, ints, l)) (λ r. omega (arith, ints, r.1, below)) l));
      keeps = (λ keeps. inr (refl, below), λ l. refl);
      undecided = (λ none. cc, λ tie. absurd (omega (arith, ints, tie.1, below)));
    }

    tied : a ≡ b → GoesByRank Undecided (ranked s (Some a)) (ranked s (Some b))
    tied same = record {
      takes = (λ takes. cc, λ l. absurd (⊎_elim (λ l. omega (arith, ints, l)) (λ r. omega (arith, ints, r.1, same)) l));
      keeps = (λ keeps. cc, λ l. absurd (⊎_elim (λ l. omega (arith, ints, l)) (λ r. omega (arith, ints, r.1, same)) l));
      undecided = (λ none. (refl, same), λ tie. refl);
    }

    higher : b <ℤ a → GoesByRank TakeNew (ranked s (Some a)) (ranked s (Some b))
    higher above = record {
      takes = (λ takes. inr (refl, above), λ l. refl);
      keeps = (λ keeps. cc, λ l. absurd (⊎_elim (λ l. omega (arith, ints, l)) (λ r. omega (arith, ints, r.1, above)) l));
      undecided = (λ none. cc, λ tie. absurd (omega (arith, ints, tie.1, above)));
    }

-- the stamps first
by_ranks : (s t : ℤ) (a b : Option ℤ)
    → GoesByRank (or_next (greater_stays (int_cmp s t)) (or_next (by_order greater_stays a b) Undecided)) (ranked s a) (ranked t b)
by_ranks s t a b = three_ways s t (λ below cmp. rw cmp (lower below)) (λ same cmp. rw cmp (tied same)) (λ above cmp. rw cmp (higher above))
  where
    lower : s <ℤ t → GoesByRank Keep (ranked s a) (ranked t b)
    lower below = record {
      takes = (λ takes. cc, λ l. absurd (⊎_elim (λ l. omega (arith, ints, l, below)) (λ r. omega (arith, ints, r.0, below)) l));
      keeps = (λ keeps. inl below, λ l. refl);
      undecided = (λ none. cc, λ tie. absurd (omega (arith, ints, tie.0, below)));
    }

    tied : s ≡ t → GoesByRank (or_next (by_order greater_stays a b) Undecided) (ranked s a) (ranked t b)
    tied same = subst (λ u. GoesByRank (or_next (by_order greater_stays a b) Undecided) (ranked s a) (ranked u b)) same (by_levels s a b)

    higher : t <ℤ s → GoesByRank TakeNew (ranked s a) (ranked t b)
    higher above = record {
      takes = (λ takes. inl above, λ l. refl);
      keeps = (λ keeps. cc, λ l. absurd (⊎_elim (λ l. omega (arith, ints, l, above)) (λ r. omega (arith, ints, r.0, above)) l));
      undecided = (λ none. cc, λ tie. absurd (omega (arith, ints, tie.0, above)));
    }

pub greater_rank_stays : GreaterRankStays
greater_rank_stays schema table stamp site part row shape numbers methods part_fits fits =
    let now = number_at (columns_of schema table) row stamp numbers fits in
    let made = RowFits-with_values (columns_of schema table) (group_columns_of schema table part.group) part.new row (group_columns_of-below schema shape table part.group) part_fits.new fits in
    let new = number_at (columns_of schema table) (with_group_values schema table part.group part.new row) stamp numbers made in
    rw (methods, new.1, now.1)
    (by_ranks new.0 now.0 (site_level_of schema (new_in schema table part row site)) (site_level_of schema (slice_get row site)))
