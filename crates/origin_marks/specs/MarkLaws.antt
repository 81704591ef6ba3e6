-- What holds of every low-water mark.
use Rattle.std.specs.Prelude.{◌≡◌, ℕ, ◌≤◌, ◌==◌, ◌||◌, Bool}
use Rattle.origin_marks.specs.Marks.{IsLowWater, IsHighest, low_up_to}

-- two numbers that are both the low-water mark are equal
abbrev pub LowWaterIsOne : Type 0
LowWaterIsOne = (is_finished : ℕ → Bool) (m n : ℕ) → IsLowWater is_finished m → IsLowWater is_finished n → m ≡ n

-- where one more position is finished, the mark isn't lower
abbrev pub FinishKeepsLowWater : Type 0
FinishKeepsLowWater = (before after : ℕ → Bool) (position m n : ℕ) → ((p : ℕ) → after p ≡ (p == position || before p))
    → IsLowWater before m → IsLowWater after n → m ≤ n

-- computed up to the greatest finished position, the mark is the low-water mark
abbrev pub LowWaterIsComputed : Type 0
LowWaterIsComputed = (is_finished : ℕ → Bool) (highest : ℕ) → IsHighest is_finished highest → IsLowWater is_finished (low_up_to is_finished highest)
