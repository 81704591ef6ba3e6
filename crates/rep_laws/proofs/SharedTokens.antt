-- Lists of tokens that share none.
use Rattle.std.proofs.Common.{◌≡◌, Bool, true, false, ◌&&◌, List, [], ◌∷◌, refl, ap}
use Rattle.std.specs.Prelude.{◌||◌, ◌==◌}
use Rattle.std.proofs.lemmas.Bool.{eqb-true}
use Rattle.rep_schema.specs.Groups.{are_same}
use Rattle.rep_schema.proofs.ValuesAt.{are_same-Decides}
use Rattle.dependency_index.specs.declared.token.Token.{Token}
use Rattle.dependency_index.specs.declared.token.Token.TheVariants.{Key, Unique}
use Rattle.dependency_index.specs.Tokens.{is_same_token, has_token, share_token}

both_hold : (a b : Bool) → (a && b) ≡ true → (a ≡ true) × (b ≡ true)
both_hold true b holds = (refl, holds)
both_hold false b holds = cc

neither_holds : (a b : Bool) → (a || b) ≡ false → (a ≡ false) × (b ≡ false)
neither_holds true b none = cc
neither_holds false b none = (refl, none)

-- the same token is one
is_same_token-is : (one other : Token) → is_same_token one other ≡ true → one ≡ other
is_same_token-is (Key table key) (Key other_table other_key) same =
    let both = both_hold (table == other_table) (are_same key other_key) same in
    let tables = eqb-true table other_table both.0 in
    let keys = (are_same-Decides key other_key).0 both.1 in
    cc
is_same_token-is (Key table key) (Unique other_table) same = cc
is_same_token-is (Unique table) (Key other_table other_key) same = cc
is_same_token-is (Unique table) (Unique other_table) same = ap Unique (eqb-true table other_table same)

-- of two lists that share no token, what is among the first isn't among the second
pub has_token-share_token : (tokens others : List Token) → share_token tokens others ≡ false → (one : Token) → has_token tokens one ≡ true → has_token others one ≡ false
has_token-share_token [] others none one among = cc
has_token-share_token (first ∷ tokens) others none one among =
    let neither = neither_holds (has_token others first) (share_token tokens others) none in
    go (is_same_token one first) refl neither.0 (has_token-share_token tokens others neither.1 one) among
  where
    go : (b : Bool) → is_same_token one first ≡ b → has_token others first ≡ false → (has_token tokens one ≡ true → has_token others one ≡ false)
        → (b || has_token tokens one) ≡ true → has_token others one ≡ false
    go true same off later among = rw (is_same_token-is one first same) off
    go false other off later among = later among

-- nor is what is among the second among the first
pub has_token-share_token_back : (tokens others : List Token) → share_token tokens others ≡ false → (one : Token) → has_token others one ≡ true → has_token tokens one ≡ false
has_token-share_token_back tokens others none one among = go (has_token tokens one) refl
  where
    go : (b : Bool) → has_token tokens one ≡ b → b ≡ false
    go true here = let off = has_token-share_token tokens others none one here in cc
    go false here = refl
