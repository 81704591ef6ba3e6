-- What holds of every dependency number.
use Rattle.std.proofs.Common.{◌≡◌, ◌+◌, ◌≤◌, Bool, true, false, cond, List, [], ◌∷◌, ◌++◌, length, refl, ap, arith}
use Rattle.std.proofs.lemmas.List.{length-append}
use Rattle.dependency_index.specs.declared.token.Token.{Token}
use Rattle.dependency_index.specs.Tokens.{share_token}
use Rattle.dependency_index.specs.Dependencies.{dependency_number}
use Rattle.dependency_index.specs.Laws.{NumbersAreEarlier, SharersAreCounted, StandsAt, NumberedOnesShare}
use Rattle.dependency_index.proofs.NotedTokens.{last_where-bound}

-- it is a position of the stream, or 0
pub numbers_are_earlier : NumbersAreEarlier
numbers_are_earlier = λ tokens stream. last_where-bound (share_token tokens) stream

counted : (tokens others : List Token) (newer older : List (List Token)) → share_token tokens others ≡ true → length older + 1 ≤ dependency_number tokens (newer ++ others ∷ older)
counted tokens others [] older shares = rw shares (omega arith)
counted tokens others (one ∷ newer) older shares = go (share_token tokens one) (counted tokens others newer older shares)
  where
    go : (b : Bool) → length older + 1 ≤ dependency_number tokens (newer ++ others ∷ older)
        → length older + 1 ≤ cond b (length (newer ++ others ∷ older) + 1) (dependency_number tokens (newer ++ others ∷ older))
    go true later = omega (arith, length-append newer (others ∷ older))
    go false later = later

-- no later position shares a token
pub sharers_are_counted : SharersAreCounted
sharers_are_counted = λ tokens others newer older. counted tokens others newer older

numbered_shares : (tokens : List Token) (stream : List (List Token)) → 1 ≤ dependency_number tokens stream
    → (others : List Token) × StandsAt stream (dependency_number tokens stream) others × (share_token tokens others ≡ true)
numbered_shares tokens [] above = absurd (omega (arith, above))
numbered_shares tokens (one ∷ older) above = go (share_token tokens one) refl (numbered_shares tokens older) above
  where
    go : (b : Bool) → share_token tokens one ≡ b
        → (1 ≤ dependency_number tokens older → (others : List Token) × StandsAt older (dependency_number tokens older) others × (share_token tokens others ≡ true))
        → 1 ≤ cond b (length older + 1) (dependency_number tokens older)
        → (others : List Token) × StandsAt (one ∷ older) (cond b (length older + 1) (dependency_number tokens older)) others × (share_token tokens others ≡ true)
    go true is later above = (one, record { newer = []; older = older; is = refl; place = refl }, is)
    go false is later above =
        let found = later above in
        (found.0, record { newer = one ∷ found.1.newer; older = found.1.older; is = ap (λ rest. one ∷ rest) found.1.is; place = found.1.place }, found.2)

-- the position that it is shares a token
pub numbered_ones_share : NumberedOnesShare
numbered_ones_share = λ tokens stream. numbered_shares tokens stream
