-- Values in the columns of a table's secondary constraints, and that an update of other groups leaves them.
use Rattle.std.proofs.Common.{◌≡◌, ◌≢◌, ℕ, zero, suc, List, [], ◌∷◌, ◌++◌, set, Bool, true, false, Ok, refl, sym, ap, ◌∙◌, arith}
use Rattle.std.specs.Prelude.{slice_get, flat_map, ◌||◌, ◌==◌, not, length}
use Rattle.std.specs.List.{AllByRecursion, list_any, cons_option}
use Rattle.std.proofs.lemmas.Bool.{eqb-false, ne_eqb}
use Rattle.rep_values.specs.declared.value.Value.{Value}
use Rattle.rep_schema.specs.declared.schema.Schema.{Schema}
use Rattle.rep_schema.specs.declared.schema.Constraint.{Constraint}
use Rattle.rep_schema.specs.Tables.{Cells, constraints_of, picked}
use Rattle.rep_schema.specs.Groups.{group_columns_of, values_at, with_values, with_group_values}
use Rattle.rep_calls.specs.declared.call.Part.{Part}
use Rattle.txn_effects.specs.Parts.{settled_values, settled_part, settled_parts}
use Rattle.txn_effects.proofs.Results.{result_then-Ok}
use Rattle.dependency_index.specs.Tokens.{has_constraints, constrained_columns, has_constrained_column}

-- rows with the same values, or none, at some places have the same values there
pub values_at-picked : (places : List ℕ) (a b : Cells) → picked places a ≡ picked places b → values_at places a ≡ values_at places b
values_at-picked [] a b same = refl
values_at-picked (p ∷ ps) a b same =
    let first : slice_get a p ≡ slice_get b p = cc in
    let rest : picked ps a ≡ picked ps b = cc in
    rw first (ap (cons_option (slice_get b p)) (values_at-picked ps a b rest))

-- the same values at some places and then others are the same at both
picked-append : (places others : List ℕ) (a b : Cells) → picked (places ++ others) a ≡ picked (places ++ others) b → (picked places a ≡ picked places b) × (picked others a ≡ picked others b)
picked-append [] others a b same = (refl, same)
picked-append (p ∷ ps) others a b same =
    let first : slice_get a p ≡ slice_get b p = cc in
    let rest : picked (ps ++ others) a ≡ picked (ps ++ others) b = cc in
    let both = picked-append ps others a b rest in
    (rw first (ap (λ vs. slice_get b p ∷ vs) both.0), both.1)

-- rows with the same values at some places, those of these constraints among them, have the same values in each constraint
each_constraint_same : (places : List ℕ) (constraints : List Constraint) → ((a b : Cells) → picked places a ≡ picked places b → picked (flat_map (λ (c : Constraint). c.columns) constraints) a ≡ picked (flat_map (λ (c : Constraint). c.columns) constraints) b)
    → AllByRecursion (λ (c : Constraint). (a b : Cells) → picked places a ≡ picked places b → values_at c.columns a ≡ values_at c.columns b) constraints
each_constraint_same places [] among = tt
each_constraint_same places (c ∷ cs) among = (
  λ a b same. values_at-picked c.columns a b (picked-append c.columns (flat_map (λ (c : Constraint). c.columns) cs) a b (among a b same)).0,
  each_constraint_same places cs (λ a b same. (picked-append c.columns (flat_map (λ (c : Constraint). c.columns) cs) a b (among a b same)).1),
)

-- rows with the same values in a table's constrained columns have the same values in each of its constraints
pub constrained_values_same : (schema : Schema) (table : ℕ)
    → AllByRecursion (λ (c : Constraint). (a b : Cells) → picked (constrained_columns schema table) a ≡ picked (constrained_columns schema table) b → values_at c.columns a ≡ values_at c.columns b) (constraints_of schema table)
constrained_values_same schema table = each_constraint_same (constrained_columns schema table) (constraints_of schema table) (λ a b same. same)

neither : (a b : Bool) → (a || b) ≡ false → (a ≡ false) × (b ≡ false)
neither true b e = cc
neither false b e = (refl, e)

slice_get-set_other : {X : Type 0} (xs : List X) (p q : ℕ) (y : X) → q ≢ p → slice_get (set xs p y) q ≡ slice_get xs q
slice_get-set_other [] p q y other = refl
slice_get-set_other (x ∷ xs) zero zero y other = absurd (other refl)
slice_get-set_other (x ∷ xs) zero (suc q) y other = refl
slice_get-set_other (x ∷ xs) (suc p) zero y other = refl
slice_get-set_other (x ∷ xs) (suc p) (suc q) y other = slice_get-set_other xs p q y (λ same. other (ap suc same))

-- a write at another place leaves the values at some places
picked-set_off : (places : List ℕ) (row : Cells) (p : ℕ) (v : Value) → list_any (λ c. c == p) places ≡ false → picked places (set row p v) ≡ picked places row
picked-set_off [] row p v off = refl
picked-set_off (q ∷ qs) row p v off =
    let both = neither (q == p) (list_any (λ c. c == p) qs) off in
    rw (slice_get-set_other row p q v (eqb-false q p both.0)) (ap (λ vs. slice_get row q ∷ vs) (picked-set_off qs row p v both.1))

-- so do writes at other places
picked-with_values_off : (places written : List ℕ) (values row : Cells) → list_any (λ p. list_any (λ c. c == p) places) written ≡ false → picked places (with_values written values row) ≡ picked places row
picked-with_values_off places [] values row off = refl
picked-with_values_off places (p ∷ ps) [] row off = refl
picked-with_values_off places (p ∷ ps) (v ∷ vs) row off =
    let both = neither (list_any (λ c. c == p) places) (list_any (λ p. list_any (λ c. c == p) places) ps) off in
    picked-with_values_off places ps vs (set row p v) both.1 ∙ picked-set_off places row p v both.0

-- parts of groups without a constrained column leave what the row has in constrained columns
pub picked-settled_parts : (schema : Schema) (table : ℕ) (parts : List Part) (row after : Cells) → list_any (has_constrained_column schema table) parts ≡ false → settled_parts schema table parts row ≡ Ok after
    → picked (constrained_columns schema table) after ≡ picked (constrained_columns schema table) row
picked-settled_parts schema table [] row after off gives = let is : row ≡ after = cc in ap (picked (constrained_columns schema table)) (sym is)
picked-settled_parts schema table (part ∷ parts) row after off gives =
    let both = neither (has_constrained_column schema table part) (list_any (has_constrained_column schema table) parts) off in
    let settled = result_then-Ok (settled_part schema table part row) (settled_parts schema table parts) after gives in
    let values = result_then-Ok (settled_values schema table part row) (λ values. Ok (with_group_values schema table part.group values row)) settled.0 settled.1 in
    let is : with_group_values schema table part.group values.0 row ≡ settled.0 = cc (values.2) in
    picked-settled_parts schema table parts settled.0 after both.1 settled.2
    ∙ ap (picked (constrained_columns schema table)) (sym is)
    ∙ picked-with_values_off (constrained_columns schema table) (group_columns_of schema table part.group) values.0 row both.0

no_length : {X : Type 0} (xs : List X) → not (length xs == 0) ≡ false → xs ≡ []
no_length [] none = refl
no_length (x ∷ xs) none = let some : (length (x ∷ xs) == 0) ≡ false = ne_eqb (length (x ∷ xs)) 0 (omega arith) in let both = rw some at none in cc

-- a table that has no constraints has an empty list of them
pub constraints_of-none : (schema : Schema) (table : ℕ) → has_constraints schema table ≡ false → constraints_of schema table ≡ []
constraints_of-none schema table none = no_length (constraints_of schema table) none
