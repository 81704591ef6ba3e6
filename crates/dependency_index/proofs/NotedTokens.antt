-- What is noted of tokens, and the dependency number that it gives.
use Rattle.std.proofs.Common.{◌≡◌, ℕ, suc, ◌+◌, ◌≤◌, Bool, true, false, cond, max, List, [], ◌∷◌, length, refl, sym, arith}
use Rattle.std.specs.Prelude.{◌||◌}
use Rattle.dependency_index.specs.declared.token.Token.{Token}
use Rattle.dependency_index.specs.Tokens.{has_token, share_token}
use Rattle.dependency_index.specs.Dependencies.{last_where, dependency_number}
use Rattle.dependency_index.specs.Noting.{greatest_noted}

-- no position is above the length
pub last_where-bound : {X : Type 0} (p : X → Bool) (xs : List X) → last_where p xs ≤ length xs
last_where-bound p [] = omega arith
last_where-bound p (x ∷ xs) = go (p x) (last_where-bound p xs)
  where
    go : (here : Bool) → last_where p xs ≤ length xs → cond here (length xs + 1) (last_where p xs) ≤ suc (length xs)
    go true below = omega arith
    go false below = omega (arith, below)

-- nothing is at no position
pub last_where-never : {X : Type 0} (xs : List X) → last_where (λ (x : X). false) xs ≡ 0
last_where-never [] = refl
last_where-never (x ∷ xs) = last_where-never xs

-- the last position at which one of two things holds
pub last_where-or : {X : Type 0} (p q : X → Bool) (xs : List X) → last_where (λ x. p x || q x) xs ≡ max (last_where p xs) (last_where q xs)
last_where-or p q [] = refl
last_where-or p q (x ∷ xs) = go (p x) (q x) (last_where-or p q xs)
  where
    go : (a b : Bool) → last_where (λ x. p x || q x) xs ≡ max (last_where p xs) (last_where q xs)
        → cond (a || b) (length xs + 1) (last_where (λ x. p x || q x) xs) ≡ max (cond a (length xs + 1) (last_where p xs)) (cond b (length xs + 1) (last_where q xs))
    go true true rest = omega arith
    go true false rest = omega (arith, last_where-bound q xs)
    go false true rest = omega (arith, last_where-bound p xs)
    go false false rest = rest

-- where the last position of each token is noted, the greatest of them is the dependency number
pub greatest_noted-is : (noted : Token → ℕ) (stream : List (List Token))
    → ((token : Token) → noted token ≡ last_where (λ tokens. has_token tokens token) stream)
    → (tokens : List Token) → greatest_noted tokens noted ≡ dependency_number tokens stream
greatest_noted-is noted stream last [] = sym (last_where-never stream)
greatest_noted-is noted stream last (token ∷ tokens) =
    rw (last token, greatest_noted-is noted stream last tokens) (sym (last_where-or (λ others. has_token others token) (share_token tokens) stream))
