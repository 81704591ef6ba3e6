-- What a transaction touches, and when two transactions are independent.
use Rattle.std.specs.Prelude.{◌≡◌, ℕ, ◌==◌, ◌&&◌, Bool, true, false, not, cond, List, [], ◌∷◌, length, flat_map}
use Rattle.std.specs.List.{list_any}
use Rattle.rep_schema.specs.declared.schema.Schema.{Schema}
use Rattle.rep_schema.specs.declared.schema.Constraint.{Constraint}
use Rattle.rep_schema.specs.Tables.{constraints_of}
use Rattle.rep_schema.specs.Groups.{group_columns_of, are_same}
use Rattle.rep_calls.specs.declared.call.Call.{Call}
use Rattle.rep_calls.specs.declared.call.Call.TheVariants.{Insert, Update, Delete}
use Rattle.rep_calls.specs.declared.call.Part.{Part}
use Rattle.rep_calls.specs.declared.call.Txn.{Txn}
use Rattle.conflict_detect.specs.Fits.{table_of}
use Rattle.conflict_detect.specs.KeysNamed.{key_named}
use Rattle.dependency_index.specs.declared.token.Token.{Token}
use Rattle.dependency_index.specs.declared.token.Token.TheVariants as token

-- a table has a secondary constraint
abbrev pub has_constraints : Schema → ℕ → Bool
has_constraints schema table = not (length (constraints_of schema table) == 0)

-- the columns of a table's secondary constraints
abbrev pub constrained_columns : Schema → ℕ → List ℕ
constrained_columns schema table = flat_map (λ (constraint : Constraint). constraint.columns) (constraints_of schema table)

-- a column stands in a secondary constraint of a table
abbrev pub is_constrained : Schema → ℕ → ℕ → Bool
is_constrained schema table column = list_any (λ c. c == column) (constrained_columns schema table)

-- a part of an update of a table whose group has a constrained column
abbrev pub has_constrained_column : Schema → ℕ → Part → Bool
has_constrained_column schema table part = list_any (is_constrained schema table) (group_columns_of schema table part.group)

-- a call touches its table's constraints: an insert or delete where there are any, an update of a constrained column's group
abbrev pub touches_constraints : Schema → Call → Bool
touches_constraints schema (Insert table row) = has_constraints schema table
touches_constraints schema (Update table key parts) = list_any (has_constrained_column schema table) parts
touches_constraints schema (Delete table row) = has_constraints schema table

-- the tokens of a call: its row's, and then its table's constraints where it touches them
abbrev pub call_tokens : Schema → Call → List Token
call_tokens schema call = token.Key (table_of call) (key_named schema call)
    ∷ cond (touches_constraints schema call) (token.Unique (table_of call) ∷ []) []

-- the tokens of a transaction, call by call
abbrev pub txn_tokens : Schema → Txn → List Token
txn_tokens schema txn = flat_map (call_tokens schema) txn.calls

-- the same token
abbrev pub is_same_token : Token → Token → Bool
is_same_token (token.Key table key) (token.Key other_table other_key) = table == other_table && are_same key other_key
is_same_token (token.Key table key) (token.Unique other_table) = false
is_same_token (token.Unique table) (token.Key other_table other_key) = false
is_same_token (token.Unique table) (token.Unique other_table) = table == other_table

-- a token is among these
abbrev pub has_token : List Token → Token → Bool
has_token tokens token = list_any (is_same_token token) tokens

-- two lists share a token
abbrev pub share_token : List Token → List Token → Bool
share_token tokens others = list_any (has_token others) tokens

-- two transactions share no token
abbrev pub AreIndependent : Schema → Txn → Txn → Type 0
AreIndependent schema txn other = share_token (txn_tokens schema txn) (txn_tokens schema other) ≡ false

-- a token of a table's constraints
abbrev pub is_unique_token : Token → Bool
is_unique_token (token.Key table key) = false
is_unique_token (token.Unique table) = true
