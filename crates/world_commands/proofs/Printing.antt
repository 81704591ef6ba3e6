-- What a line prints into room that was empty.
use Rattle.std.proofs.Common.{◌≡◌, ℕ, List, [], ◌++◌, ap, ◌∙◌}

-- it is all that is printed
pub printed_alone : (before after piece text : List ℕ) → before ≡ [] → after ≡ before ++ piece → piece ≡ text → after ≡ text
printed_alone before after piece text none put is = put ∙ ap (λ (bytes : List ℕ). bytes ++ piece) none ∙ is
