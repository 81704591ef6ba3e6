-- Bytes that are read one piece after the other.
use Rattle.std.proofs.Common.{◌≡◌, ℕ, List, [], ◌++◌, take, Some, None, refl, sym, ap, ◌∙◌, append_assoc}
use Rattle.std.specs.Prelude.{Option}
use Rattle.std.specs.Io.KnownBytes.{Consumes}

-- nothing was read
pub consumes_none : (left : Option (List ℕ)) → Consumes left left []
consumes_none None = tt
consumes_none (Some bytes) = refl

-- one more piece
pub consumes_more : (first next last : Option (List ℕ)) (bytes more : List ℕ) → Consumes first next bytes → Consumes next last more → Consumes first last (bytes ++ more)
consumes_more None next last bytes more front piece = tt
consumes_more (Some whole) None last bytes more front piece = absurd front
consumes_more (Some whole) (Some rest) None bytes more front piece = absurd piece
consumes_more (Some whole) (Some rest) (Some left) bytes more front piece = front ∙ ap (λ (xs : List ℕ). bytes ++ xs) piece ∙ sym (append_assoc bytes more left)

-- a piece without a byte
pub consumes_end : (first next last : Option (List ℕ)) (bytes piece : List ℕ) (count : ℕ) → Consumes first next bytes → Consumes next last (take count piece) → count ≡ 0 → Consumes first last bytes
consumes_end None next last bytes piece count front none is = tt
consumes_end (Some whole) None last bytes piece count front none is = absurd front
consumes_end (Some whole) (Some rest) None bytes piece count front none is = absurd none
consumes_end (Some whole) (Some rest) (Some left) bytes piece count front none is = front ∙ ap (λ (xs : List ℕ). bytes ++ xs) same
  where
    same : rest ≡ left
    same = none ∙ ap (λ (n : ℕ). take n piece ++ left) is

pub ruleset reading_facts = (consumes_none, consumes_more, consumes_end)
