-- Tokens of transactions at two tables, one of them with a constraint, and which of them are independent, worked out by hand.
use Rattle.std.proofs.Common.{◌≡◌, ℕ, zero, suc, ◌<◌, ◌≤◌, List, [], ◌∷◌, None, true, false, length, get_or, refl, ap, pos, arith}
use Rattle.std.specs.Prelude.{◌≢◌, codes, map}
use Rattle.std.specs.List.{All, AllPairs}
use Rattle.std.proofs.lemmas.List.{length-map}
use Rattle.std.proofs.lemmas.List.Elements.{All-from_recursion}
use Rattle.std.proofs.lemmas.List.Kept.{AllPairs-cons}
use Rattle.rep_values.specs.declared.value.Value.TheVariants.{Num}
use Rattle.rep_values.specs.declared.name.TableName.{TableName}
use Rattle.rep_schema.specs.declared.schema.Schema.{Schema}
use Rattle.rep_schema.specs.declared.schema.SiteEntry.{SiteEntry}
use Rattle.rep_schema.specs.declared.schema.TableEntry.{TableEntry}
use Rattle.rep_schema.specs.declared.schema.Group.{Group}
use Rattle.rep_schema.specs.declared.schema.Constraint.{Constraint}
use Rattle.rep_schema.specs.declared.schema.Kind.TheVariants as kind
use Rattle.rep_schema.specs.declared.check.Check.{Check}
use Rattle.rep_schema.specs.declared.check.Rel.TheVariants as rel
use Rattle.rep_schema.specs.Shape.{key_name, shadow_name, ShareNone, AreColumns, HasGroupShape, HasConstraintShape, HasTableShape, HasMaster, HasShape}
use Rattle.rep_schema.specs.Tables.{rows_of, IsTable}
use Rattle.rep_schema.specs.Groups.{group_columns_of}
use Rattle.rep_schema.proofs.Coverage.{Contains-named}
use Rattle.schema_rules.specs.Rules.{broken_rule}
use Rattle.rep_calls.specs.declared.call.Call.TheVariants.{Insert, Update}
use Rattle.rep_calls.specs.declared.call.Txn.{Txn}
use Rattle.conflict_detect.specs.Fits.{TxnFits}
use Rattle.dependency_index.specs.declared.token.Token.{Token}
use Rattle.dependency_index.specs.declared.token.Token.TheVariants.{Key, Unique}
use Rattle.dependency_index.specs.Tokens.{txn_tokens, share_token, AreIndependent}
use Rattle.dependency_index.specs.Dependencies.{dependency_number}
use Rattle.txn_effects.specs.Contents.{Content, IsContent}
use Rattle.rep_laws.specs.Commuting.{IsSound, Commute, IndependentTransactionsCommute}

-- the group g of the column CODE, and the constraint u on it
abbrev code_group : Group
code_group = record { name = codes "g"; columns = 1 ∷ []; methods = [] }

abbrev code_constraint : Constraint
code_constraint = record { name = codes "u"; columns = 1 ∷ []; methods = [] }

-- the check that CODE is at most 9
abbrev code_check : Check
code_check = record { name = codes "small"; column = 1; rel = rel.Le; value = Num (pos 9) }

-- a table of the columns ID (the key) and CODE, in the group g and with its check
abbrev table_of : List ℕ → List Constraint → TableEntry
table_of name constraints = record {
  name = record { 0 = name };
  columns = record { name = codes "ID"; kind = kind.Number; key = true } ∷ record { name = codes "CODE"; kind = kind.Number; key = false } ∷ [];
  groups = code_group ∷ [];
  key_methods = [];
  constraints = constraints;
  checks = code_check ∷ [];
  convergent = false;
}

-- the master site A
abbrev site_a : SiteEntry
site_a = record { name = record { 0 = codes "A" }; master = None; level = None; late = false }

-- table 0 has the constraint u on CODE, and table 1 has none
abbrev schema : Schema
schema = record {
  sites = site_a ∷ [];
  tables = table_of (codes "T") (code_constraint ∷ []) ∷ table_of (codes "S") [] ∷ [];
  priorities = [];
}

-- a transaction of one call: a row is inserted, or its CODE is changed from 5 to 6
abbrev insert : ℕ → ℕ → Txn
insert table id = record { calls = Insert table (Num (pos id) ∷ Num (pos 5) ∷ []) ∷ [] }

abbrev update : ℕ → ℕ → Txn
update table id = record { calls = Update table (Num (pos id) ∷ []) (record { group = 0; old = Num (pos 5) ∷ []; new = Num (pos 6) ∷ [] } ∷ []) ∷ [] }

-- the token of a row
abbrev row : ℕ → ℕ → Token
row table id = Key table (Num (pos id) ∷ [])

insert_touches_its_row_and_the_constraint : txn_tokens schema (insert 0 1) ≡ row 0 1 ∷ Unique 0 ∷ []
insert_touches_its_row_and_the_constraint = refl

update_without_a_constraint_touches_its_row : txn_tokens schema (update 1 1) ≡ row 1 1 ∷ []
unfolding group_columns_of
update_without_a_constraint_touches_its_row = refl

update_of_the_constrained_column_touches_both : txn_tokens schema (update 0 2) ≡ row 0 2 ∷ Unique 0 ∷ []
unfolding group_columns_of
update_of_the_constrained_column_touches_both = refl

-- rows of one key in two tables are two rows
tables_are_apart : AreIndependent schema (insert 0 1) (update 1 1)
unfolding group_columns_of
tables_are_apart = refl

-- two rows of a table with a constraint share it, and two rows of the other table share nothing
rows_share_a_constraint : share_token (txn_tokens schema (insert 0 1)) (txn_tokens schema (update 0 2)) ≡ true
unfolding group_columns_of
rows_share_a_constraint = refl

rows_without_a_constraint_are_apart : AreIndependent schema (insert 1 1) (update 1 2)
unfolding group_columns_of
rows_without_a_constraint_are_apart = refl

-- a row that is inserted by the one and updated by the other is shared
one_row_is_shared : share_token (txn_tokens schema (insert 1 1)) (txn_tokens schema (update 1 1)) ≡ true
unfolding group_columns_of
one_row_is_shared = refl

-- the dependency number of a transaction behind others of one stream, the newest first
abbrev depends_on : Txn → List Txn → ℕ
depends_on txn stream = dependency_number (txn_tokens schema txn) (map (txn_tokens schema) stream)

-- two inserts into the table with a constraint, and then two updates of one row of the other table
four_transactions_depend_on_0_1_0_and_3 :
    depends_on (insert 0 1) []
    ∷ depends_on (insert 0 2) (insert 0 1 ∷ [])
    ∷ depends_on (update 1 5) (insert 0 2 ∷ insert 0 1 ∷ [])
    ∷ depends_on (update 1 5) (update 1 5 ∷ insert 0 2 ∷ insert 0 1 ∷ [])
    ∷ [] ≡ 0 ∷ 1 ∷ 0 ∷ 3 ∷ []
unfolding group_columns_of
four_transactions_depend_on_0_1_0_and_3 = refl

-- two transactions at two tables meet what is asked of those that commute: the schema, the tables and the counters too
abbrev name_t : TableName
name_t = record { 0 = codes "T" }

abbrev name_s : TableName
name_s = record { 0 = codes "S" }

-- at most one value has no pair
few_pairs : {X : Type 0} (R : X → X → Type 0) (xs : List X) → length xs ≤ 1 → AllPairs R xs
few_pairs R xs few i j d before within = absurd (omega (arith, few, before, within))

one_pair : {X : Type 0} (R : X → X → Type 0) (x : X) → AllPairs R (x ∷ [])
one_pair R x = few_pairs R (x ∷ []) (omega arith)

code_column : AreColumns 2 (1 ∷ [])
code_column = record {
  some = omega arith;
  rising = λ k within. absurd (omega (arith, within));
  in_range = All-from_recursion (λ p. p < 2) (1 ∷ []) (omega arith, tt);
}

code_constraint_has_shape : HasConstraintShape 2 code_constraint
code_constraint_has_shape = record { columns = code_column; methods = record { number = omega arith; columns = All-from_recursion _ [] tt } }

code_group_has_shape : HasGroupShape 2 0 code_group
code_group_has_shape = record {
  columns = code_column;
  methods = omega arith;
  method_columns = All-from_recursion _ [] tt;
  method_priorities = All-from_recursion _ [] tt;
}

table_has_shape : (name : List ℕ) (constraints : List Constraint) → length constraints ≤ 1 → All (HasConstraintShape 2) constraints → All (λ c. c.name ≢ key_name) constraints
    → HasTableShape 0 (table_of name constraints)
table_has_shape name constraints few shapes named = record {
  columns = omega arith;
  column_names = AllPairs-cons (λ a b. a ≢ b) (codes "ID") (codes "CODE" ∷ [])
      (All-from_recursion (λ b. codes "ID" ≢ b) (codes "CODE" ∷ []) ((λ same. let first : 73 ≡ 67 = ap (λ n. get_or n 0 0) same in omega arith), tt))
      (one_pair (λ a b. a ≢ b) (codes "CODE"));
  keys = omega arith;
  key_methods = record { number = omega arith; columns = All-from_recursion _ [] tt };
  groups = All-from_recursion (HasGroupShape 2 0) (code_group ∷ []) (code_group_has_shape, tt);
  group_names = one_pair (λ a b. a ≢ b) (codes "g");
  shadow_free = All-from_recursion (λ g. g.name ≢ shadow_name) (code_group ∷ []) ((λ same. cc), tt);
  groups_apart = one_pair (λ g h. ShareNone g.columns h.columns) code_group;
  constraints = shapes;
  constraint_number = omega (arith, few);
  constraint_names = few_pairs (λ a b. a ≢ b) (map (λ c. c.name) constraints) (omega (arith, few, length-map constraints (λ (c : Constraint). c.name)));
  key_free = named;
  constraints_apart = few_pairs (λ c d. ShareNone c.columns d.columns) constraints few;
  checks = All-from_recursion (λ (c : Check). c.column < 2) (code_check ∷ []) (omega arith, tt);
  check_number = omega arith;
  check_names = one_pair (λ a b. a ≢ b) (codes "small");
}

schema_has_shape : HasShape schema
schema_has_shape = record {
  masters = omega arith;
  snapshots = omega arith;
  site_names = one_pair (λ a b. a ≢ b) site_a.name;
  site_masters = All-from_recursion (HasMaster schema.sites) schema.sites (tt, tt);
  tables = All-from_recursion (HasTableShape 0) schema.tables (
    table_has_shape (codes "T") (code_constraint ∷ []) (omega arith)
        (All-from_recursion (HasConstraintShape 2) (code_constraint ∷ []) (code_constraint_has_shape, tt))
        (All-from_recursion (λ c. c.name ≢ key_name) (code_constraint ∷ []) ((λ same. cc), tt)),
    (table_has_shape (codes "S") [] (omega arith) (All-from_recursion _ [] tt) (All-from_recursion _ [] tt), tt),
  );
  table_number = omega arith;
  table_names = AllPairs-cons (λ a b. a ≢ b) name_t (name_s ∷ [])
      (All-from_recursion (λ b. name_t ≢ b) (name_s ∷ []) ((λ same. let first : 84 ≡ 83 = ap (λ (n : TableName). get_or n.0 0 0) same in omega arith), tt))
      (one_pair (λ a b. a ≢ b) name_s);
  priorities = All-from_recursion _ [] tt;
  priority_names = few_pairs (λ a b. a ≢ b) [] (omega arith);
}

schema_is_sound : IsSound schema
unfolding broken_rule
schema_is_sound = record { shape = schema_has_shape; unbroken = refl }

-- the table S has the row (1, 5), and the counter of the constraint is 0
abbrev content : Content
content = record { tables = [] ∷ ((Num (pos 1) ∷ Num (pos 5) ∷ []) ∷ []) ∷ []; numbers = (0 ∷ []) ∷ [] ∷ [] }

is_content : IsContent schema content
is_content = record { tables = record { number = refl; each = table }; counters = refl }
  where
    table : (n : ℕ) → n < 2 → IsTable schema n (rows_of content.tables n)
    table zero there = record { rising = tt; fit = tt; apart = tt }
    table (suc zero) there = record {
      rising = (tt, tt);
      fit = (((omega arith, omega arith), ((omega arith, omega arith), tt)), tt);
      apart = (record { unheld = λ constraint below held. absurd (omega (arith, below)) }, tt);
    }
    table (suc (suc n)) there = absurd (omega (arith, there))

insert_fits : TxnFits schema (insert 0 1)
insert_fits = record { calls = (record { table = omega arith; content = ((omega arith, omega arith), ((omega arith, omega arith), tt)) }, tt) }

update_fits : TxnFits schema (update 1 1)
unfolding group_columns_of
update_fits = record {
  calls = (
    record {
      table = omega arith;
      content = record {
        key_fits = ((omega arith, omega arith), tt);
        some = omega arith;
        parts_fit = (
          record {
            group = Contains-named schema 1 0 (omega arith);
            old = ((omega arith, omega arith), tt);
            new = ((omega arith, omega arith), tt);
            differ = λ same. cc;
          },
          tt,
        );
        rise = λ k within. absurd (omega (arith, within));
      };
    },
    tt,
  );
}

-- so the law says that they commute
pub worked_transactions_commute : IndependentTransactionsCommute → Commute schema site_a.name site_a.name (insert 0 1) (update 1 1) content
worked_transactions_commute law =
    law schema site_a.name site_a.name (insert 0 1) (update 1 1) content schema_is_sound insert_fits update_fits is_content tables_are_apart
