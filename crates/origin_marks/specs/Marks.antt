-- What a contract sees of one sender's finished positions, and the low-water mark.
use Rattle.std.specs.Prelude.{◌≡◌, ℕ, zero, suc, ◌+◌, ◌<◌, ◌≤◌, ◌==◌, ◌&&◌, Bool, true, false, cond, List}
use Rattle.origin_marks.specs.Edges.{is_between}

-- the edges at which finished positions and others meet, and how many more can be finished without memory
pub record Marked : Type 0 where
  pub edges : List ℕ
  pub room : ℕ

-- whether a position is finished
abbrev pub finished : Marked → ℕ → Bool
finished m p = is_between m.edges p

-- the greatest number up to a bound with all of 1 to it finished
abbrev pub low_up_to : (ℕ → Bool) → ℕ → ℕ
low_up_to is_finished zero = 0
low_up_to is_finished (suc bound) = cond (low_up_to is_finished bound == bound && is_finished (suc bound)) (suc bound) (low_up_to is_finished bound)

-- no position above n is finished, and n is, where it isn't 0
pub record IsHighest (is_finished : ℕ → Bool) (n : ℕ) : Type 0 where
  pub above : (p : ℕ) → n < p → is_finished p ≡ false
  pub itself : 1 ≤ n → is_finished n ≡ true

-- all of 1 to n are finished, and the next isn't
pub record IsLowWater (is_finished : ℕ → Bool) (n : ℕ) : Type 0 where
  pub below : (p : ℕ) → 0 < p → p ≤ n → is_finished p ≡ true
  pub next : is_finished (n + 1) ≡ false
