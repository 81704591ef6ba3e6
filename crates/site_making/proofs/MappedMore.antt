-- What a loop over a list makes of one value more.
use Rattle.std.proofs.Common.{◌≡◌, ℕ, ◌+◌, ◌<◌, List, [], ◌∷◌, ◌++◌, length, map, drop, get_or, sym, ap, ◌∙◌}
use Rattle.std.proofs.lemmas.List.{drop_more, append_assoc}

pub mapped_more : {X Y : Type 0} (f : X → Y) (xs : List X) (ys : List Y) (i : ℕ) (x : X) (y : Y) → i < length xs → x ≡ get_or xs i x → y ≡ f x → map f xs ≡ ys ++ map f (drop i xs)
    → map f xs ≡ (ys ++ y ∷ []) ++ map f (drop (i + 1) xs)
mapped_more {X} {Y} f xs ys i x y within is made so_far =
    so_far
    ∙ ap (λ (zs : List X). ys ++ map f zs) (drop_more xs i x within)
    ∙ ap (λ (z : Y). ys ++ (z ∷ map f (drop (i + 1) xs))) (ap f (sym is) ∙ sym made)
    ∙ sym (append_assoc ys (y ∷ []) (map f (drop (i + 1) xs)))
