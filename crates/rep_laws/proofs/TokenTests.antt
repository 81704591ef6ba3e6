-- Which tokens a list has: those of each call whose tokens are in it.
use Rattle.std.proofs.Common.{◌≡◌, ℕ, ◌⊎◌, List, [], ◌∷◌, ◌++◌, Bool, true, false, refl, ◌∙◌, inl, inr}
use Rattle.std.specs.Prelude.{◌||◌, flat_map}
use Rattle.std.specs.List.{AllByRecursion}
use Rattle.std.proofs.lemmas.Bool.{eq-eqb, cases_eq}
use Rattle.std.proofs.lemmas.Bool.Decides.{not_from_Decides}
use Rattle.std.proofs.lemmas.List.Folds.{list_any-append}
use Rattle.rep_schema.specs.declared.schema.Schema.{Schema}
use Rattle.rep_schema.specs.Tables.{Cells}
use Rattle.rep_schema.specs.Groups.{are_same}
use Rattle.rep_schema.proofs.ValuesAt.{are_same-Decides}
use Rattle.rep_calls.specs.declared.call.Call.{Call}
use Rattle.conflict_detect.specs.Fits.{table_of}
use Rattle.conflict_detect.specs.KeysNamed.{key_named}
use Rattle.dependency_index.specs.declared.token.Token.{Token}
use Rattle.dependency_index.specs.declared.token.Token.TheVariants as token
use Rattle.dependency_index.specs.Tokens.{touches_constraints, call_tokens, is_same_token, has_token}

-- the tokens of a call are among these
pub record Covers (schema : Schema) (tokens : List Token) (call : Call) : Type 0 where
  pub row : has_token tokens (token.Key (table_of call) (key_named schema call)) ≡ true
  pub constraints : touches_constraints schema call ≡ true → has_token tokens (token.Unique (table_of call)) ≡ true

or_left : (a b : Bool) → a ≡ true → (a || b) ≡ true
or_left true b holds = refl
or_left false b holds = cc

or_right : (a b : Bool) → b ≡ true → (a || b) ≡ true
or_right true b holds = refl
or_right false b holds = holds

-- a token is the same as itself
is_same_token-self : (one : Token) → is_same_token one one ≡ true
is_same_token-self (token.Key table key) = rw (eq-eqb table table refl) ((are_same-Decides key key).1 refl)
is_same_token-self (token.Unique table) = eq-eqb table table refl

-- a call's own tokens cover it
module _ (schema : Schema) (call : Call) where
  has_token-row : has_token (call_tokens schema call) (token.Key (table_of call) (key_named schema call)) ≡ true
  has_token-row = or_left _ _ (is_same_token-self (token.Key (table_of call) (key_named schema call)))

  has_token-constraints : touches_constraints schema call ≡ true → has_token (call_tokens schema call) (token.Unique (table_of call)) ≡ true
  has_token-constraints touches = rw touches (or_left _ _ (is_same_token-self (token.Unique (table_of call))))

-- tokens that have those of calls one after the other cover each of the calls
pub each_covered : (schema : Schema) (tokens : List Token) (calls : List Call)
    → ((one : Token) → has_token (flat_map (call_tokens schema) calls) one ≡ true → has_token tokens one ≡ true) → AllByRecursion (Covers schema tokens) calls
each_covered schema tokens [] has = tt
each_covered schema tokens (call ∷ calls) has = (
  record {
    row = has (token.Key (table_of call) (key_named schema call)) (first (token.Key (table_of call) (key_named schema call)) (has_token-row schema call));
    constraints = λ touches. has (token.Unique (table_of call)) (first (token.Unique (table_of call)) (has_token-constraints schema call touches));
  },
  each_covered schema tokens calls (λ one there. has one (later one there)),
)
  where
    rest : List Token
    rest = flat_map (call_tokens schema) calls

    first : (one : Token) → has_token (call_tokens schema call) one ≡ true → has_token (call_tokens schema call ++ rest) one ≡ true
    first one there = list_any-append (is_same_token one) (call_tokens schema call) rest ∙ or_left _ (has_token rest one) there

    later : (one : Token) → has_token rest one ≡ true → has_token (call_tokens schema call ++ rest) one ≡ true
    later one there = list_any-append (is_same_token one) (call_tokens schema call) rest ∙ or_right (has_token (call_tokens schema call) one) _ there

-- a key of a table is another one, or one of another table
abbrev pub AreElsewhere : ℕ → Cells → ℕ → Cells → Type 0
AreElsewhere table key other_table other_key = table ≡ other_table → key ≡ other_key → ⊥

-- two keys of tables are the same, or they are elsewhere
pub place_cases : (table : ℕ) (key : Cells) (other_table : ℕ) (other_key : Cells) → ((table ≡ other_table) × (key ≡ other_key)) ⊎ AreElsewhere table key other_table other_key
place_cases table key other_table other_key = elim (cases_eq table other_table) [
  | inl same ↦ keys same (are_same key other_key) refl
  | inr other ↦ inr (λ same keys. other same)
]
  where
    keys : table ≡ other_table → (b : Bool) → are_same key other_key ≡ b → ((table ≡ other_table) × (key ≡ other_key)) ⊎ AreElsewhere table key other_table other_key
    keys same true tells = inl (same, (are_same-Decides key other_key).0 tells)
    keys same false tells = inr (λ here equal. not_from_Decides (are_same key other_key) (are_same-Decides key other_key) tells equal)

-- of a token that is there and one that isn't, the keys are elsewhere
pub elsewhere_off : (tokens : List Token) (table : ℕ) (key : Cells) (other_table : ℕ) (other_key : Cells)
    → has_token tokens (token.Key table key) ≡ false → has_token tokens (token.Key other_table other_key) ≡ true → AreElsewhere table key other_table other_key
elsewhere_off tokens table key other_table other_key off on same equal = let both : has_token tokens (token.Key table key) ≡ true = rw (same, equal) on in cc
