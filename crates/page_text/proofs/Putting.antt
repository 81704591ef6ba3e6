-- Steps of putting pieces behind other bytes.
use Rattle.std.proofs.Common.{◌≡◌, List, ℕ, ◌∷◌, ◌++◌, ◌∙◌, ap, append_assoc}
use Rattle.std.specs.List.{flat_map}

-- one more piece was put, and those to come still end the whole
pub put_more : {X : Type 0} (f : X → List ℕ) (out more whole : List ℕ) (x : X) (left rest : List X) → out ++ flat_map f left ≡ whole
    → left ≡ x ∷ rest → more ≡ out ++ f x → more ++ flat_map f rest ≡ whole
put_more f out more whole x left rest kept next put = rw put (append_assoc out (f x) (flat_map f rest) ∙ (rw next at kept))

-- an element was opened, filled and closed
pub put_around : (out opening inside closing begun filled whole : List ℕ) → begun ≡ out ++ opening → filled ≡ begun ++ inside → whole ≡ filled ++ closing
    → whole ≡ out ++ (opening ++ (inside ++ closing))
put_around out opening inside closing begun filled whole first second third =
    third ∙ ap (λ o. o ++ closing) (second ∙ ap (λ o. o ++ inside) first)
    ∙ append_assoc (out ++ opening) inside closing ∙ append_assoc out opening (inside ++ closing)
