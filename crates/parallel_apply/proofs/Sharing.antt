-- Whether two lists of tokens share one doesn't depend on which is named first.
use Rattle.std.proofs.Common.{◌≡◌, Bool, true, false, List, [], ◌∷◌, refl}
use Rattle.std.specs.Prelude.{◌||◌}
use Rattle.std.specs.List.{list_any}
use Rattle.std.proofs.lemmas.Bool.{eq-eqb}
use Rattle.rep_schema.specs.Groups.{are_same}
use Rattle.rep_schema.proofs.ValuesAt.{are_same-Decides}
use Rattle.dependency_index.specs.declared.token.Token.{Token}
use Rattle.dependency_index.specs.declared.token.Token.TheVariants.{Key, Unique}
use Rattle.dependency_index.specs.Tokens.{is_same_token, has_token, share_token}
use Rattle.rep_laws.proofs.SharedTokens.{has_token-share_token_back}

is_same_token-own : (one : Token) → is_same_token one one ≡ true
is_same_token-own (Key table key) = let keys : are_same key key ≡ true = (are_same-Decides key key).1 refl in rw (eq-eqb table table refl, keys) refl
is_same_token-own (Unique table) = eq-eqb table table refl

or_own : (b c : Bool) → b ≡ true → (b || c) ≡ true
or_own true c is = refl
or_own false c is = cc

or_later : (b c : Bool) → c ≡ true → (b || c) ≡ true
or_later true c is = refl
or_later false c is = is

none_among : (others tokens : List Token) → ((one : Token) → has_token tokens one ≡ true → has_token others one ≡ false) → list_any (has_token others) tokens ≡ false
none_among others [] off = refl
none_among others (one ∷ tokens) off =
    rw (off one (or_own _ _ (is_same_token-own one))) (none_among others tokens (λ other among. off other (or_later _ _ among)))

none_either_way : (tokens others : List Token) → share_token tokens others ≡ false → share_token others tokens ≡ false
none_either_way tokens others none = none_among tokens others (has_token-share_token_back tokens others none)

-- two lists share a token in either order
pub share_token-either_way : (tokens others : List Token) → share_token tokens others ≡ true → share_token others tokens ≡ true
share_token-either_way tokens others is = go (share_token others tokens) refl
  where
    go : (b : Bool) → share_token others tokens ≡ b → b ≡ true
    go true shared = refl
    go false none = let off = none_either_way others tokens none in absurd (cc (off, is))
