-- Which columns and calls touch constraints.
use Rattle.std.proofs.Common.{◌≡◌, ℕ, Bool, true, false, cond, List, [], ◌∷◌, length, refl, ap, ◌∙◌, arith}
use Rattle.std.specs.Prelude.{◌||◌, flat_map}
use Rattle.std.specs.List.{list_any}
use Rattle.std.proofs.lemmas.List.Folds.{list_any-append}
use Rattle.rep_schema.specs.declared.schema.Schema.{Schema}
use Rattle.rep_schema.specs.declared.schema.Constraint.{Constraint}
use Rattle.rep_schema.specs.Tables.{constraints_of}
use Rattle.rep_schema.specs.Groups.{group_columns_of}
use Rattle.rep_calls.specs.declared.call.Call.{Call}
use Rattle.rep_calls.specs.declared.call.Call.TheVariants.{Insert, Update, Delete}
use Rattle.rep_calls.specs.declared.call.Part.{Part}
use Rattle.conflict_detect.specs.Fits.{table_of}
use Rattle.conflict_detect.specs.KeysNamed.{key_named}
use Rattle.dependency_index.specs.declared.token.Token.TheVariants as token
use Rattle.dependency_index.specs.Tokens.{is_constrained, has_constrained_column, touches_constraints, call_tokens, is_unique_token}

-- one of all values passes a test where one of some list's values does
pub list_any-flat_map : {X Y : Type 0} (p : Y → Bool) (f : X → List Y) (xs : List X) → list_any p (flat_map f xs) ≡ list_any (λ x. list_any p (f x)) xs
list_any-flat_map p f [] = refl
list_any-flat_map p f (x ∷ xs) = list_any-append p (f x) (flat_map f xs) ∙ ap (λ rest. list_any p (f x) || rest) (list_any-flat_map p f xs)

-- where a table has no constraint, no call touches one
pub touches_none : (schema : Schema) (call : Call) → length (constraints_of schema (table_of call)) ≡ 0 → touches_constraints schema call ≡ false
touches_none schema (Insert table row) none = rw none refl
touches_none schema (Delete table row) none = rw none refl
touches_none schema (Update table key parts) none = each parts
  where
    no_columns : (constraints : List Constraint) → length constraints ≡ 0 → flat_map (λ (constraint : Constraint). constraint.columns) constraints ≡ []
    no_columns [] none = refl
    no_columns (c ∷ cs) none = absurd (omega (arith, none))

    column : (places : List ℕ) → list_any (is_constrained schema table) places ≡ false
    column [] = refl
    column (place ∷ places) = rw (no_columns (constraints_of schema table) none, column places) refl

    each : (parts : List Part) → list_any (has_constrained_column schema table) parts ≡ false
    each [] = refl
    each (part ∷ parts) = rw (column (group_columns_of schema table part.group), each parts) refl

-- a call's tokens have one of constraints where it touches them
pub unique-call_tokens : (schema : Schema) (call : Call) → list_any is_unique_token (call_tokens schema call) ≡ touches_constraints schema call
unique-call_tokens schema call = go (touches_constraints schema call)
  where
    go : (b : Bool) → list_any is_unique_token (token.Key (table_of call) (key_named schema call) ∷ cond b (token.Unique (table_of call) ∷ []) []) ≡ b
    go true = refl
    go false = refl

-- one of the tokens of calls is one of constraints where the first call's is or a later one's
pub unique-calls : (schema : Schema) (call : Call) (calls : List Call)
    → list_any is_unique_token (flat_map (call_tokens schema) (call ∷ calls)) ≡ (touches_constraints schema call || list_any is_unique_token (flat_map (call_tokens schema) calls))
unique-calls schema call calls =
    list_any-append is_unique_token (call_tokens schema call) (flat_map (call_tokens schema) calls)
    ∙ ap (λ b. b || list_any is_unique_token (flat_map (call_tokens schema) calls)) (unique-call_tokens schema call)
