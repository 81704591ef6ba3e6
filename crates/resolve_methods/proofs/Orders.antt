-- What the methods leave that compare numbers, add amounts or take a mean.
use Rattle.std.proofs.Common.{◌≡◌, ℕ, List, [], ◌∷◌, Bool, true, false, Some, None, cond, refl, sym, ap, ◌∙◌, arith, pos, negsuc, ◌+◌}
use Rattle.std.specs.Prelude.{ℤ, ◌+ℤ◌, ◌-ℤ◌, int_lt, int_div, slice_get}
use Rattle.std.specs.List.{sum_by}
use Rattle.std.proofs.lemmas.List.Sums.{sum_by-cons}
use Rattle.std.proofs.lemmas.List.Sorted.{sum_by-IsPermutation}
use Rattle.std.specs.Int.{int_max, int_min}
use Rattle.std.specs.Ordering.{int_cmp}
use Rattle.std.specs.declared.cmp.Ordering.{Ordering}
use Rattle.std.specs.declared.cmp.Ordering.TheVariants.{Less, Equal, Greater}
use Rattle.std.proofs.lemmas.Int.{ints}
use Rattle.rep_schema.specs.declared.schema.Schema.{Schema}
use Rattle.rep_schema.specs.Tables.{Cells}
use Rattle.rep_schema.specs.Fitting.{is_in_range}
use Rattle.rep_calls.specs.declared.call.Part.{Part}
use Rattle.resolve_methods.specs.declared.decision.Decision.{Decision}
use Rattle.resolve_methods.specs.declared.decision.Decision.TheVariants.{TakeNumber, Range}
use Rattle.resolve_methods.specs.Ranks.{number_of}
use Rattle.resolve_methods.specs.Decide.{greater_stays, lesser_stays, by_order, new_in, taken_in_range, added}
use Rattle.resolve_methods.specs.Laws.{AreCompared, number_after, Amount, AddUp, GreaterNumberStays, LesserNumberStays, EitherSideEndsTheSame, AmountsAddInAnyOrder, MeanIsTheSameFromEitherSide}

greater_after : (new current : ℤ) → number_after (greater_stays (int_cmp new current)) new current ≡ int_max new current
greater_after new current = go (int_lt new current) (int_lt current new) refl refl
  where
    go : (low high : Bool) → int_lt new current ≡ low → int_lt current new ≡ high → number_after (greater_stays (cond low Less (cond high Greater Equal))) new current ≡ cond high new current
    go true true e f = grind (arith, ints)
    go true false e f = refl
    go false true e f = refl
    go false false e f = refl

lesser_after : (new current : ℤ) → number_after (lesser_stays (int_cmp new current)) new current ≡ int_min new current
lesser_after new current = go (int_lt new current) (int_lt current new) refl refl
  where
    go : (low high : Bool) → int_lt new current ≡ low → int_lt current new ≡ high → number_after (lesser_stays (cond low Less (cond high Greater Equal))) new current ≡ cond high current new
    go true true e f = grind (arith, ints)
    go true false e f = refl
    go false true e f = refl
    go false false e f = grind (arith, ints)

int_max-swap : (a b : ℤ) → int_max a b ≡ int_max b a
int_max-swap a b = grind (arith, ints)

int_min-swap : (a b : ℤ) → int_min a b ≡ int_min b a
int_min-swap a b = grind (arith, ints)

module _ (schema : Schema) (table : ℕ) (part : Part) (row : Cells) (column : ℕ) (new current : ℤ) (are : AreCompared schema table part row column new current) where
  -- the numbers in the column stand beside each other as those two do
  compared : (stays : Ordering → Decision) → by_order stays (number_of (new_in schema table part row column)) (number_of (slice_get row column)) ≡ stays (int_cmp new current)
  compared stays = rw (are.incoming, are.present) refl

  greater_of_compared : number_after (by_order greater_stays (number_of (new_in schema table part row column)) (number_of (slice_get row column))) new current ≡ int_max new current
  greater_of_compared = ap (λ d. number_after d new current) (compared greater_stays) ∙ greater_after new current

  lesser_of_compared : number_after (by_order lesser_stays (number_of (new_in schema table part row column)) (number_of (slice_get row column))) new current ≡ int_min new current
  lesser_of_compared = ap (λ d. number_after d new current) (compared lesser_stays) ∙ lesser_after new current

pub greater_stays_always : GreaterNumberStays
greater_stays_always schema table part row column new current are =
    let stays = greater_of_compared schema table part row column new current are in
    (stays, (stays, tt))

pub lesser_stays_always : LesserNumberStays
lesser_stays_always schema table part row column new current are =
    let stays = lesser_of_compared schema table part row column new current are in
    (stays, (stays, tt))

pub both_end_the_same : EitherSideEndsTheSame
both_end_the_same schema table here there to_here to_there column a b at_here at_there =
    let greater = greater_of_compared schema table to_here here column b a at_here ∙ int_max-swap b a ∙ sym (greater_of_compared schema table to_there there column a b at_there) in
    let lesser = lesser_of_compared schema table to_here here column b a at_here ∙ int_min-swap b a ∙ sym (lesser_of_compared schema table to_there there column a b at_there) in
    ((greater, (greater, tt)), (lesser, (lesser, tt)))

-- a number that is taken in range is the number
taken_is : (x n : ℤ) → taken_in_range x ≡ TakeNumber n → x ≡ n
taken_is x n takes = go (is_in_range x) takes
  where
    go : (b : Bool) → cond b (TakeNumber x) Range ≡ TakeNumber n → x ≡ n
    go true takes = cc
    go false takes = cc

-- how much an amount adds, and how much it takes away
pub gain : ℤ → ℕ
gain (pos n) = n
gain (negsuc n) = 0

pub loss : ℤ → ℕ
loss (pos n) = 0
loss (negsuc n) = n + 1

pub balance : (z : ℤ) → z ≡ pos (gain z) -ℤ pos (loss z)
unfolding gain loss
balance (pos n) = omega (arith, ints)
balance (negsuc n) = omega (arith, ints)

gain_of : Amount → ℕ
gain_of amount = gain (amount.new -ℤ amount.old)

loss_of : Amount → ℕ
loss_of amount = loss (amount.new -ℤ amount.old)

added_up : (amounts : List Amount) (start sum : ℤ) → AddUp amounts start sum → start +ℤ pos (sum_by gain_of amounts) ≡ sum +ℤ pos (sum_by loss_of amounts)
unfolding gain_of loss_of
added_up [] start sum add = ap (λ n. n +ℤ pos 0) add
added_up (amount ∷ amounts) start sum add =
    let first = taken_is (start +ℤ (amount.new -ℤ amount.old)) add.0 add.1 in
    let rest = added_up amounts add.0 sum add.2 in
    let gains = sum_by-cons gain_of amount amounts in
    let losses = sum_by-cons loss_of amount amounts in
    let balanced = balance (amount.new -ℤ amount.old) in
    omega (arith, ints, first, rest, gains, losses, balanced)

pub sums_are_the_same : AmountsAddInAnyOrder
sums_are_the_same amounts turned start sum other same add added =
    let one = added_up amounts start sum add in
    let two = added_up turned start other added in
    let gains = sum_by-IsPermutation gain_of amounts turned same in
    let losses = sum_by-IsPermutation loss_of amounts turned same in
    omega (arith, ints, one, two, gains, losses)

pub means_are_the_same : MeanIsTheSameFromEitherSide
means_are_the_same None None = refl
means_are_the_same None (Some b) = refl
means_are_the_same (Some a) None = refl
means_are_the_same (Some a) (Some b) =
    let same : b +ℤ a ≡ a +ℤ b = omega (arith, ints) in
    ap (λ s. TakeNumber (int_div s (pos 2))) same
