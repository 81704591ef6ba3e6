-- The numbers that a storm draws, each state made from the one before.
use Rattle.std.specs.Prelude.{ℕ, zero, suc, ◌+◌, ◌*◌, ◌/◌, ◌%◌, ◌^◌}

-- the state behind one more draw
unfoldable pub next_draw : ℕ → ℕ
next_draw x = (x * 6364136223846793005 + 1442695040888963407) % 2 ^ 64

-- what a draw below a bound gives, by the state behind it
unfoldable pub drawn : ℕ → ℕ → ℕ
drawn bound x = (x / 2 ^ 33) % bound

-- the state behind so many draws
abbrev pub state_behind : ℕ → ℕ → ℕ
state_behind zero x = x
state_behind (suc n) x = state_behind n (next_draw x)
