-- The set of the tables that pass a test, which are gathered by number.
use Rattle.std.proofs.Common.{◌≡◌, ℕ, ◌+◌, ◌<◌, ◌≤◌, ◌==◌, Bool, true, false, List, [], ◌∷◌, ◌++◌, length, map, get_or, refl, sym, ap, ◌∙◌, zero-add, inl, inr, arith}
use Rattle.std.specs.Prelude.{◌||◌}
use Rattle.std.specs.List.{list_any, range_with_len, AllByRecursion}
use Rattle.std.proofs.lemmas.Bool.{cases_eq, eqb-true, or_right}
use Rattle.std.proofs.lemmas.List.{ext_get_or}
use Rattle.std.proofs.lemmas.List.Folds.{list_any-append}
use Rattle.std.proofs.lemmas.List.FromFn.{length-map-range_with_len, get_or-map-range_with_len}
use Rattle.rep_lists.proofs.Each.{each_push}

-- numbers are those of the tables below one that pass a test
pub record AreThoseBelow (test : ℕ → Bool) (end : ℕ) (numbers : List ℕ) : Type 0 where
  pub few : AllByRecursion (λ n. n < 32) numbers
  pub each : (t : ℕ) → t < end → list_any (λ n. n == t) numbers ≡ test t
  pub none : (t : ℕ) → end ≤ t → list_any (λ n. n == t) numbers ≡ false

or_false : (b : Bool) → (b || false) ≡ b
or_false true = refl
or_false false = refl

same_number : (n : ℕ) → (n == n) ≡ true
same_number n = grind arith

other_number : (n t : ℕ) → ¬ (t ≡ n) → (n == t) ≡ false
other_number n t ne = go (n == t) refl
  where
    go : (b : Bool) → (n == t) ≡ b → (n == t) ≡ false
    go true same = absurd (ne (sym (eqb-true n t same)))
    go false other = other

module _ (test : ℕ → Bool) (end : ℕ) (numbers : List ℕ) (are : AreThoseBelow test end numbers) where
  -- one behind them isn't the next number
  behind : (t : ℕ) → ¬ (t ≡ end) → list_any (λ n. n == t) (numbers ++ end ∷ []) ≡ list_any (λ n. n == t) numbers
  behind t ne = list_any-append (λ n. n == t) numbers (end ∷ []) ∙ rw (other_number end t ne) (or_false (list_any (λ n. n == t) numbers))

  -- the next one passes too
  pub one_more : end < 32 → test end ≡ true → AreThoseBelow test (end + 1) (numbers ++ end ∷ [])
  one_more within passes = record {
    few = each_push (λ n. n < 32) numbers end are.few within;
    each = λ t below. elim (cases_eq t end) [
      | inl e ↦ list_any-append (λ n. n == t) numbers (end ∷ []) ∙ or_right (list_any (λ n. n == t) numbers) ((end == t) || false) (rw (e, same_number end) refl) ∙ sym (ap test e ∙ passes)
      | inr ne ↦ behind t ne ∙ are.each t (omega (arith, ne, below))
    ];
    none = λ t past. behind t (λ e. absurd (omega (arith, e, past))) ∙ are.none t (omega (arith, past));
  }

  -- or it doesn't
  pub none_more : test end ≡ false → AreThoseBelow test (end + 1) numbers
  none_more fails = record {
    few = are.few;
    each = λ t below. elim (cases_eq t end) [
      | inl e ↦ are.none t (omega (arith, e)) ∙ sym (ap test e ∙ fails)
      | inr ne ↦ are.each t (omega (arith, ne, below))
    ];
    none = λ t past. are.none t (omega (arith, past));
  }

-- the set of those below 32
pub set_of_those : (test : ℕ → Bool) (end : ℕ) (numbers : List ℕ) (set : List Bool) → AreThoseBelow test end numbers → 32 ≤ end → length set ≡ 32 → ((t : ℕ) → get_or set t false ≡ list_any (λ n. n == t) numbers)
    → set ≡ map test (range_with_len 0 32)
set_of_those test end numbers set are ended whole marked = ext_get_or false set (map test (range_with_len 0 32)) (whole ∙ sym (length-map-range_with_len test 0 32))
    (λ t within. marked t ∙ are.each t (omega (arith, whole, within, ended)) ∙ sym (get_or-map-range_with_len test 0 32 t t false (omega (arith, whole, within)) (zero-add t)))
