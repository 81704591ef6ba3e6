-- Blocks of sessions by their numbers, from 1.
use Rattle.std.proofs.Common.{◌≡◌, ℕ, zero, suc, ◌+◌, ◌<◌, ◌≤◌, List, [], ◌∷◌, ◌++◌, length, true, Some, None, refl, ap, arith}
use Rattle.std.specs.Prelude.{Option, is_some}
use Rattle.std.specs.List.{range_with_len}
use Rattle.live_laws.specs.declared.turn.Session.{Session}
use Rattle.live_laws.specs.Turns.{at_number, blocks_in, block_of}

-- the numbers from 1 to the length are those at which something stands
pub at_number-within : {X : Type 0} (n : ℕ) (xs : List X) → 0 < n → n ≤ length xs → is_some (at_number n xs) ≡ true
at_number-within zero xs from_one within = absurd (omega (arith, from_one))
at_number-within (suc n) [] from_one within = absurd (omega (arith, within))
at_number-within (suc zero) (x ∷ xs) from_one within = refl
at_number-within (suc (suc n)) (x ∷ xs) from_one within = at_number-within (suc n) xs (omega arith) (omega (arith, within))

pub number_within : {X : Type 0} (n : ℕ) (xs : List X) → is_some (at_number n xs) ≡ true → n ≤ length xs
number_within zero xs some = absurd (cc some)
number_within (suc n) [] some = absurd (cc some)
number_within (suc zero) (x ∷ xs) some = omega arith
number_within (suc (suc n)) (x ∷ xs) some = omega (arith, number_within (suc n) xs some)

-- a session that has a block is there
pub session_within : (session block : ℕ) (sessions : List Session) → is_some (block_of session block sessions) ≡ true → session ≤ length sessions
session_within session block sessions some = number_within session sessions (go (at_number session sessions) block some)
  where
    go : (found : Option Session) (block : ℕ) → is_some (at_number block (blocks_in found)) ≡ true → is_some found ≡ true
    go (Some session) block some = refl
    go None zero some = absurd (cc some)
    go None (suc n) some = absurd (cc some)

pub range_with_len-append : (m n from : ℕ) → range_with_len from m ++ range_with_len (from + m) n ≡ range_with_len from (m + n)
range_with_len-append zero n from = let same : from + 0 ≡ from = omega arith in let sum : 0 + n ≡ n = omega arith in rw (same, sum) refl
range_with_len-append (suc m) n from =
    let next : from + suc m ≡ from + 1 + m = omega arith in
    let sum : suc m + n ≡ suc (m + n) = omega arith in
    rw (next, sum) (ap (λ (ns : List ℕ). from ∷ ns) (range_with_len-append m n (from + 1)))
