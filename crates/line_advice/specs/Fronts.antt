-- The longest front of a line that passes a test.
use Rattle.std.specs.Prelude.{ℕ, ◌≡◌, ◌<◌, ◌≤◌, Bool, true, false, nat_le, List, length, take, Result, Ok, Err}
use Rattle.std.specs.Prelude.{is_ok}
use Rattle.script_lex.specs.declared.token.Token.{Token}
use Rattle.script_lex.specs.Lines.{lexed}

-- the bytes break no rule of tokens
abbrev pub is_read : List ℕ → Bool
is_read front = is_ok (lexed front)

-- there are tokens, and so many at most
abbrev pub count_at_most : ℕ → Result (List Token) ℕ → Bool
count_at_most most (Ok tokens) = nat_le (length tokens) most
count_at_most most (Err rule) = false

-- the bytes break no rule of tokens, and have so many tokens at most
abbrev pub has_at_most : ℕ → List ℕ → Bool
has_at_most most front = count_at_most most (lexed front)

-- the front of n bytes passes the test, and no longer one does
pub record IsLongest (test : List ℕ → Bool) (line : List ℕ) (n : ℕ) : Type 0 where
  pub within : n ≤ length line
  pub passes : test (take n line) ≡ true
  pub last : (k : ℕ) → n < k → k ≤ length line → test (take k line) ≡ false
