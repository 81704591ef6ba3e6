-- What reads and writes do to the bytes that a source has left and a sink has taken, where they tell them.
use Rattle.std.specs.Prelude.{◌≡◌, ℕ, ◌<◌, ◌≤◌, List, length, take, IfOk, OnErr, Option, Result}
use Rattle.std.specs.Io.KnownBytes.{Keeps, Appends, Consumes, IsAtEnd}

-- the n bytes given are the first that were left, and are none only at the end; a failure takes none
pub record Reads {E : Type 0} (before after : Option (List ℕ)) (result : Result ℕ E) (piece : List ℕ) : Type 0 where
  pub bound : IfOk result (λ n. n ≤ length piece)
  pub given : IfOk result (λ n. Consumes before after (take n piece))
  pub end : IfOk result (λ n. n ≡ 0 → 0 < length piece → IsAtEnd after)
  pub failed : OnErr result (Keeps before after)

-- the first n bytes of the piece were taken, and at least one; a failure takes none
pub record Writes {E : Type 0} (before after : Option (List ℕ)) (result : Result ℕ E) (piece : List ℕ) : Type 0 where
  pub bound : IfOk result (λ n. n ≤ length piece)
  pub some : IfOk result (λ n. 0 < length piece → 0 < n)
  pub taken : IfOk result (λ n. Appends before after (take n piece))
  pub failed : OnErr result (Keeps before after)

-- not all of the bytes were taken, and those that were are their first ones
abbrev pub TakesFront : Option (List ℕ) → Option (List ℕ) → List ℕ → Type 0
TakesFront before after bytes = (n : ℕ) × (n < length bytes) × Appends before after (take n bytes)
