-- What holds of every dependency number.
use Rattle.std.specs.Prelude.{◌≡◌, ℕ, ◌+◌, ◌≤◌, true, List, ◌∷◌, ◌++◌, length}
use Rattle.dependency_index.specs.declared.token.Token.{Token}
use Rattle.dependency_index.specs.Tokens.{share_token}
use Rattle.dependency_index.specs.Dependencies.{dependency_number}

-- it is a position of the stream, or 0
abbrev pub NumbersAreEarlier : Type 0
NumbersAreEarlier = (tokens : List Token) (stream : List (List Token)) → dependency_number tokens stream ≤ length stream

-- an earlier position that shares a token is at most the number
abbrev pub SharersAreCounted : Type 0
SharersAreCounted = (tokens others : List Token) (newer older : List (List Token)) → share_token tokens others ≡ true → length older + 1 ≤ dependency_number tokens (newer ++ others ∷ older)

-- a position, its tokens, and those before and behind it
pub record StandsAt (stream : List (List Token)) (position : ℕ) (others : List Token) : Type 0 where
  pub newer : List (List Token)
  pub older : List (List Token)
  pub is : stream ≡ newer ++ others ∷ older
  pub place : position ≡ length older + 1

-- where it is above 0, the position that it is shares a token
abbrev pub NumberedOnesShare : Type 0
NumberedOnesShare = (tokens : List Token) (stream : List (List Token)) → 1 ≤ dependency_number tokens stream
    → (others : List Token) × StandsAt stream (dependency_number tokens stream) others × (share_token tokens others ≡ true)
