-- The keys among the tokens of calls, call by call.
use Rattle.std.proofs.Common.{◌≡◌, ℕ, ◌⊎◌, List, [], ◌∷◌, Bool, true, false, cond, refl, sym, ◌∙◌, subst, inl, inr}
use Rattle.std.specs.Prelude.{◌||◌, ◌&&◌, ◌==◌, flat_map}
use Rattle.std.specs.List.{list_any}
use Rattle.std.proofs.lemmas.Bool.{eqb-true}
use Rattle.std.proofs.lemmas.List.Folds.{list_any-append}
use Rattle.rep_schema.specs.declared.schema.Schema.{Schema}
use Rattle.rep_schema.specs.Tables.{Cells, Rows}
use Rattle.rep_schema.specs.Groups.{are_same}
use Rattle.rep_schema.proofs.ValuesAt.{are_same-Decides}
use Rattle.rep_calls.specs.declared.call.Call.{Call}
use Rattle.conflict_detect.specs.Fits.{table_of}
use Rattle.conflict_detect.specs.KeysNamed.{key_named}
use Rattle.dependency_index.specs.declared.token.Token.{Token}
use Rattle.dependency_index.specs.declared.token.Token.TheVariants as token
use Rattle.dependency_index.specs.Tokens.{touches_constraints, call_tokens, is_same_token, has_token}
use Rattle.txn_apply.specs.Naming.{HaveAlike, TakesNamed}

both_hold : (a b : Bool) → (a && b) ≡ true → (a ≡ true) × (b ≡ true)
both_hold true b holds = (refl, holds)
both_hold false b holds = cc

left_holds : (a b : Bool) → b ≡ false → (a || b) ≡ true → a ≡ true
left_holds true b none holds = refl
left_holds false b none holds = cc

right_holds : (a b : Bool) → a ≡ false → (a || b) ≡ true → b ≡ true
right_holds true b none holds = cc
right_holds false b none holds = holds

-- the one key among a call's tokens is that of the row that it names
call_tokens-key : (schema : Schema) (call : Call) (table : ℕ) (key : Cells) → has_token (call_tokens schema call) (token.Key table key) ≡ true
    → (table_of call ≡ table) × (key_named schema call ≡ key)
call_tokens-key schema call table key among =
    let first : (table == table_of call && are_same key (key_named schema call)) ≡ true = left_holds _ _ (no_other (touches_constraints schema call)) among in
    let both = both_hold (table == table_of call) (are_same key (key_named schema call)) first in
    (sym (eqb-true table (table_of call) both.0), sym ((are_same-Decides key (key_named schema call)).0 both.1))
  where
    no_other : (touches : Bool) → list_any (is_same_token (token.Key table key)) (cond touches (token.Unique (table_of call) ∷ []) []) ≡ false
    no_other true = refl
    no_other false = refl

-- a key among the tokens that are left is alike, or still left after one call more
pub alike_or_left : (schema : Schema) (call : Call) (calls : List Call) (whole old new : List Rows) → TakesNamed schema call whole old new → (table : ℕ) (key : Cells)
    → HaveAlike schema whole old table key ⊎ (has_token (flat_map (call_tokens schema) (call ∷ calls)) (token.Key table key) ≡ true)
    → HaveAlike schema whole new table key ⊎ (has_token (flat_map (call_tokens schema) calls) (token.Key table key) ≡ true)
alike_or_left schema call calls whole old new takes table key (inl alike) = inl (takes.others table key alike)
alike_or_left schema call calls whole old new takes table key (inr among) = go (has_token (call_tokens schema call) (token.Key table key)) refl
  where
    left : List Token
    left = flat_map (call_tokens schema) calls

    either : (has_token (call_tokens schema call) (token.Key table key) || has_token left (token.Key table key)) ≡ true
    either = sym (list_any-append (is_same_token (token.Key table key)) (call_tokens schema call) left) ∙ among

    go : (here : Bool) → has_token (call_tokens schema call) (token.Key table key) ≡ here
        → HaveAlike schema whole new table key ⊎ (has_token left (token.Key table key) ≡ true)
    go true here =
        let same = call_tokens-key schema call table key here in
        inl (subst (λ t. HaveAlike schema whole new t key) same.0 (subst (HaveAlike schema whole new (table_of call)) same.1 takes.named))
    go false here = inr (right_holds _ _ here either)

-- where no token is left, it is alike
pub alike_at_last : (schema : Schema) (calls : List Call) (whole some : List Rows) → calls ≡ [] → (table : ℕ) (key : Cells)
    → HaveAlike schema whole some table key ⊎ (has_token (flat_map (call_tokens schema) calls) (token.Key table key) ≡ true) → HaveAlike schema whole some table key
alike_at_last schema calls whole some none table key (inl alike) = alike
alike_at_last schema calls whole some none table key (inr among) = let nothing = rw none at among in cc
