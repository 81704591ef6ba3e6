-- What is found by key in a rising list, after a put and after a take, and that this is all there is to know of it.
use Rattle.std.specs.Prelude.{◌≡◌, ◌≢◌, List, Some, None}
use Rattle.std.specs.Cmp.{IsTotalOrder}
use Rattle.std.specs.declared.cmp.Ordering.{Ordering}
use Rattle.std.specs.declared.cmp.Ordering.TheVariants.{Equal}
use Rattle.rep_lists.specs.Rising.{IsRising, find_at, put_at, take_at}

-- where a value stands beside a key
abbrev pub at_key : {X K : Type 0} → (X → K) → (K → K → Ordering) → K → X → Ordering
at_key key R k x = R (key x) k

-- values in rising order of key
abbrev pub RisesBy : {X K : Type 0} → (X → K) → (K → K → Ordering) → List X → Type 0
RisesBy key R xs = IsRising (λ x y. R (key x) (key y)) xs

-- a value that was put is found under its key
abbrev pub FindsWhatWasPut : Type 0 → Type 0 → Type 0
FindsWhatWasPut X K = (key : X → K) (R : K → K → Ordering) → IsTotalOrder R → (y : X) (xs : List X)
    → find_at (at_key key R (key y)) (put_at (at_key key R (key y)) y xs) ≡ Some y

-- under another key, a put changes nothing
abbrev pub PutsUnderOneKey : Type 0 → Type 0 → Type 0
PutsUnderOneKey X K = (key : X → K) (R : K → K → Ordering) → IsTotalOrder R → (y : X) (k : K) (xs : List X) → R (key y) k ≢ Equal
    → find_at (at_key key R k) (put_at (at_key key R (key y)) y xs) ≡ find_at (at_key key R k) xs

-- after a take nothing is found under its key
abbrev pub TakesAllOfAKey : Type 0 → Type 0 → Type 0
TakesAllOfAKey X K = (key : X → K) (R : K → K → Ordering) → IsTotalOrder R → (k : K) (xs : List X) → RisesBy key R xs
    → find_at (at_key key R k) (take_at (at_key key R k) xs) ≡ None

-- under another key, a take changes nothing
abbrev pub TakesUnderOneKey : Type 0 → Type 0 → Type 0
TakesUnderOneKey X K = (key : X → K) (R : K → K → Ordering) → IsTotalOrder R → (k j : K) (xs : List X) → RisesBy key R xs → R k j ≢ Equal
    → find_at (at_key key R j) (take_at (at_key key R k) xs) ≡ find_at (at_key key R j) xs

-- two rising lists in which the same is found under every key are the same
abbrev pub FindsTellAll : Type 0 → Type 0 → Type 0
FindsTellAll X K = (key : X → K) (R : K → K → Ordering) → IsTotalOrder R → (xs ys : List X) → RisesBy key R xs → RisesBy key R ys
    → ((k : K) → find_at (at_key key R k) xs ≡ find_at (at_key key R k) ys) → xs ≡ ys
