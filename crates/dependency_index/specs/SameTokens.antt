-- The test whether tokens are the same tells exactly that, and what is hashed of a token.
use Rattle.std.proofs.Common.{◌≡◌, Bool, true, false, refl, sym, ap}
use Rattle.std.specs.Prelude.{ℕ, ◌==◌, ◌&&◌, ◌∷◌, [], ◌++◌, flat_map, IsTrue}
use Rattle.std.specs.Hash as fed
use Rattle.std.specs.Cmp.{IsEquivalence}
use Rattle.std.specs.Bool.{Decides}
use Rattle.std.proofs.lemmas.Bool.Decides.{Decides-eqb}
use Rattle.rep_values.specs.declared.value.Value.{Value}
use Rattle.rep_values.specs.declared.value.Value.TheVariants.{Num, Words}
use Rattle.rep_schema.specs.Tables.{Cells}
use Rattle.rep_schema.specs.Groups.{are_same}
use Rattle.rep_schema.proofs.ValuesAt.{are_same-Decides}
use Rattle.dependency_index.specs.declared.token.Token.{Token}
use Rattle.dependency_index.specs.declared.token.Token.TheVariants.{Key, Unique}
use Rattle.dependency_index.specs.Tokens.{is_same_token}

-- the same table and the same key
same_row : (table other : ℕ) (key other_key : Cells) → (table == other && are_same key other_key) ≡ true → Key table key ≡ Key other other_key
same_row table other key other_key same = go (table == other) refl (are_same key other_key) refl same
  where
    go : (a : Bool) → (table == other) ≡ a → (b : Bool) → are_same key other_key ≡ b → (a && b) ≡ true → Key table key ≡ Key other other_key
    go true a true b both =
        let tables : table ≡ other = (Decides-eqb table other).0 a in
        let keys : key ≡ other_key = (are_same-Decides key other_key).0 b in
        rw (tables, keys)
    go true a false b both = cc
    go false a b is both = cc

same_row-own : (table : ℕ) (key : Cells) → (table == table && are_same key key) ≡ true
same_row-own table key = rw ((Decides-eqb table table).1 refl, (are_same-Decides key key).1 refl)

-- a token is the same as itself
pub is_same_token-own : (token : Token) → is_same_token token token ≡ true
is_same_token-own (Key table key) = same_row-own table key
is_same_token-own (Unique table) = (Decides-eqb table table).1 refl

-- tokens that pass the test are equal
pub is_same_token-equal : (a b : Token) → is_same_token a b ≡ true → a ≡ b
is_same_token-equal (Key table key) (Key other other_key) same = same_row table other key other_key same
is_same_token-equal (Key table key) (Unique other) same = cc
is_same_token-equal (Unique table) (Key other other_key) same = cc
is_same_token-equal (Unique table) (Unique other) same = ap Unique ((Decides-eqb table other).0 same)

-- the test whether tokens are the same
pub is_same_token-Decides : (a b : Token) → Decides (is_same_token a b) (a ≡ b)
is_same_token-Decides a b = (is_same_token-equal a b, λ same. rw same (is_same_token-own b))

-- either way round
pub is_same_token-symm : (a b : Token) → is_same_token a b ≡ is_same_token b a
is_same_token-symm a b = go (is_same_token a b) refl (is_same_token b a) refl
  where
    go : (x : Bool) → is_same_token a b ≡ x → (y : Bool) → is_same_token b a ≡ y → x ≡ y
    go true there true back = refl
    go true there false back = let same : is_same_token b a ≡ true = (is_same_token-Decides b a).1 (sym (is_same_token-equal a b there)) in cc
    go false there true back = let same : is_same_token a b ≡ true = (is_same_token-Decides a b).1 (sym (is_same_token-equal b a back)) in cc
    go false there false back = refl

-- the test is an equivalence
pub is_same_token_equiv : IsEquivalence is_same_token
is_same_token_equiv = record {
  refl = is_same_token-own;
  symm = is_same_token-symm;
  congr = λ a b c same. ap (λ t. is_same_token t c) (is_same_token-equal a b same);
}

-- what is written to a hasher of a value
abbrev pub value_writes : Value → fed.HashWrites
value_writes (Num number) = fed.i64 number
value_writes (Words bytes) = bytes ∷ []

-- of a token: its table, and the values of its key
abbrev pub token_writes : Token → fed.HashWrites
token_writes (Key table key) = fed.u32 table ++ flat_map value_writes key
token_writes (Unique table) = fed.u32 table

-- of the same tokens the same is written
pub token_writes-same : (a b : Token) → IsTrue (is_same_token a b) → token_writes a ≡ token_writes b
token_writes-same a b same = ap token_writes (is_same_token-equal a b same)
