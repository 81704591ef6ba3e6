-- Calls of a block of which none is refused fit their procedures.
use Rattle.std.proofs.Common.{◌≡◌, ℕ, zero, suc, ◌+◌, ◌<◌, ◌≤◌, List, [], ◌∷◌, length, Bool, true, false, not, Some, None, refl, sym, ◌∙◌, arith}
use Rattle.std.specs.Prelude.{◌&&◌, nat_lt, slice_get, Option}
use Rattle.std.specs.List.{find, position, position_or_len}
use Rattle.std.proofs.lemmas.Bool.Decides.{nat_tests}
use Rattle.std.proofs.lemmas.List.{length-map}
use Rattle.std.proofs.lemmas.List.Folds.{find_at}
use Rattle.rep_values.specs.declared.literal.Literal.{Literal}
use Rattle.rep_values.specs.declared.literal.Literal.TheVariants as literal
use Rattle.rep_values.specs.Literal.{value_of_literal}
use Rattle.rep_values.specs.declared.refusal.Refusal.{Refusal}
use Rattle.rep_values.specs.declared.refusal.Refusal.TheVariants as refusal
use Rattle.rep_values.specs.declared.refusal.Limit.TheVariants as limit
use Rattle.rep_values.specs.RefusalSteps.{refused, first_refusal, known}
use Rattle.rep_values.proofs.RefusalSteps.{or_then-None, refused-None, refused_not-None}
use Rattle.rep_schema.specs.declared.schema.Schema.{Schema}
use Rattle.rep_schema.specs.declared.schema.Column.{Column}
use Rattle.rep_schema.specs.declared.schema.Kind.{Kind}
use Rattle.rep_schema.specs.declared.schema.Kind.TheVariants as kind
use Rattle.rep_schema.specs.Tables.{columns_of}
use Rattle.rep_schema.specs.Fitting.{fits_kind, row_fits}
use Rattle.rep_schema.specs.Kinds.{is_of_kind, value_in_range, row_in_range}
use Rattle.rep_laws.proofs.SoundSchemas.{both_hold}
use Rattle.txn_effects.specs.Literals.{literal_fits, literals_fit, values_of}
use Rattle.site_state.specs.Steps.{is_empty}
use Rattle.proc_state.specs.declared.procedure.Action.{Action}
use Rattle.proc_state.specs.declared.procedure.Action.TheVariants as action
use Rattle.proc_state.specs.declared.procedure.Procedure.{Procedure}
use Rattle.proc_state.specs.Calls.{is_amount, values_fit, call_fits, calls_fit}
use Rattle.proc_state.specs.State.{ProcState}
use Rattle.proc_state.specs.Events.{AreCalls}
use Rattle.script_parse.specs.declared.proc_line.CallWords.{CallWords}
use Rattle.world_state.specs.declared.call_block.CallStop.{CallStop}
use Rattle.world_state.specs.ProcDeclaring.{is_procedure, procedure_named}
use Rattle.world_state.specs.CallBlocks.{most_calls, call_of, calls_of, is_one_number, literals_suit, call_steps, call_refusal, stopped_at, words_stop}

-- ---- what is found has a place

within_found : {X : Type 0} (xs : List X) (i : ℕ) (x : X) → slice_get xs i ≡ Some x → i < length xs
within_found [] i x found = absurd (cc found)
within_found (y ∷ ys) zero x found = omega arith
within_found (y ∷ ys) (suc i) x found = omega (arith, within_found ys i x found)

-- the first one that passes a test, with its place
pub record FirstAt {X : Type 0} (test : X → Bool) (xs : List X) (x : X) : Type 0 where
  pub place : ℕ
  pub at : position test xs ≡ Some place
  pub is : slice_get xs place ≡ Some x
  pub within : place < length xs

pub first_at : {X : Type 0} (test : X → Bool) (xs : List X) (x : X) → find test xs ≡ Some x → FirstAt test xs x
first_at {X} test xs x found = record { place = i; at = rw below refl; is = there; within = within }
  where
    i : ℕ
    i = position_or_len test xs

    there : slice_get xs i ≡ Some x
    there = sym (find_at test xs) ∙ found

    within : i < length xs
    within = within_found xs i x there

    below : nat_lt i (length xs) ≡ true
    below = grind (arith, nat_tests, within)

-- ---- values

value_fits : (k : Kind) (l : Literal) → is_of_kind k l ≡ true → value_in_range (value_of_literal l) ≡ true → fits_kind k (value_of_literal l) ≡ true
value_fits kind.Number (literal.Num n) of_kind in_range = in_range
value_fits kind.Date (literal.Num n) of_kind in_range = in_range
value_fits kind.Stamp (literal.Num n) of_kind in_range = in_range
value_fits kind.Words (literal.Num n) of_kind in_range = absurd (cc of_kind)
value_fits kind.Site (literal.Num n) of_kind in_range = absurd (cc of_kind)
value_fits kind.Number (literal.Words t) of_kind in_range = absurd (cc of_kind)
value_fits kind.Date (literal.Words t) of_kind in_range = absurd (cc of_kind)
value_fits kind.Stamp (literal.Words t) of_kind in_range = absurd (cc of_kind)
value_fits kind.Words (literal.Words t) of_kind in_range = refl
value_fits kind.Site (literal.Words t) of_kind in_range = refl

both_true : (b c : Bool) → b ≡ true → c ≡ true → (b && c) ≡ true
both_true b c is also = rw (is, also) refl

-- literals for the columns of a table whose numbers are in range are a row of it
pub literals_row : (schema : Schema) (columns : List Column) (values : List Literal) → literals_fit schema columns values ≡ true → row_in_range (values_of values) ≡ true → row_fits columns (values_of values) ≡ true
literals_row schema [] [] fit in_range = refl
literals_row schema [] (l ∷ ls) fit in_range = absurd (cc fit)
literals_row schema (c ∷ cs) [] fit in_range = absurd (cc fit)
literals_row schema (c ∷ cs) (l ∷ ls) fit in_range =
    let first = both_hold (literal_fits schema c l) (literals_fit schema cs ls) fit in
    let range = both_hold (value_in_range (value_of_literal l)) (row_in_range (values_of ls)) in_range in
    both_true (fits_kind c.kind (value_of_literal l)) (row_fits cs (values_of ls)) (value_fits c.kind l (both_hold (is_of_kind c.kind l) _ first.0).0 range.0) (literals_row schema cs ls first.1 range.1)

amount_is_one : (values : List Literal) → is_one_number values ≡ true → row_in_range (values_of values) ≡ true → is_amount (values_of values) ≡ true
amount_is_one [] one in_range = absurd (cc one)
amount_is_one (l ∷ []) one in_range = value_fits kind.Number l one (both_hold (value_in_range (value_of_literal l)) true in_range).0
amount_is_one (l ∷ m ∷ ls) one in_range = absurd (cc one)

none_is_empty : (values : List Literal) → is_empty values ≡ true → is_empty (values_of values) ≡ true
none_is_empty [] none = refl
none_is_empty (l ∷ ls) none = absurd (cc none)

-- values that an action takes fit it
pub suits_fit : (schema : Schema) (columns : List Column) (does : Action) (values : List Literal) → literals_suit schema columns does values ≡ true → row_in_range (values_of values) ≡ true
    → values_fit columns does (values_of values) ≡ true
suits_fit schema columns action.Put values suit in_range = literals_row schema columns values suit in_range
suits_fit schema columns (action.Add column tests) values suit in_range = amount_is_one values suit in_range
suits_fit schema columns (action.Drop tests) values suit in_range = none_is_empty values suit

-- ---- calls

-- a call that no step refuses fits
pub call_fits-None : (x : ProcState) (call : CallWords) → first_refusal (call_steps x call) ≡ None → call_fits x.schema x.procedures (call_of x call) ≡ true
call_fits-None x call passes = go (procedure_named x.procedures call.procedure) refl passes
  where
    steps : Procedure → List (Option Refusal)
    steps q =
        refused (not (literals_suit x.schema (columns_of x.schema q.table) q.action call.values)) refusal.RowShape ∷
        refused (not (row_in_range (values_of call.values))) refusal.ValueRange ∷ []

    by : (q : Procedure) → procedure_named x.procedures call.procedure ≡ Some q → first_refusal (steps q) ≡ None → call_fits x.schema x.procedures (call_of x call) ≡ true
    by q found passes =
        let at = first_at (is_procedure call.procedure) x.procedures q found in
        let shape = or_then-None (refused (not (literals_suit x.schema (columns_of x.schema q.table) q.action call.values)) refusal.RowShape) _ passes in
        let suit = refused_not-None (literals_suit x.schema (columns_of x.schema q.table) q.action call.values) refusal.RowShape shape.0 in
        let range = refused_not-None (row_in_range (values_of call.values)) refusal.ValueRange (or_then-None (refused (not (row_in_range (values_of call.values))) refusal.ValueRange) None shape.1).0 in
        rw (at.at, at.is) (suits_fit x.schema (columns_of x.schema q.table) q.action call.values suit range)

    go : (o : Option Procedure) → procedure_named x.procedures call.procedure ≡ o → first_refusal (known o steps) ≡ None → call_fits x.schema x.procedures (call_of x call) ≡ true
    go None found passes = absurd (cc passes)
    go (Some q) found passes = by q found passes

-- none of these calls is refused, and there are no more than there may be
record NoneRefused (x : ProcState) (number : ℕ) (calls : List CallWords) : Type 0 where
  fit : calls_fit x.schema x.procedures (calls_of x calls) ≡ true
  most : number + length calls ≤ most_calls + 1

unstopped : (number : ℕ) (o : Option Refusal) (following : Option CallStop) → stopped_at number o following ≡ None → (o ≡ None) × (following ≡ None)
unstopped number None following is = (refl, is)
unstopped number (Some why) following is = absurd (cc is)

none_refused : (x : ProcState) (number : ℕ) (calls : List CallWords) → number ≤ most_calls + 1 → words_stop x number calls ≡ None → NoneRefused x number calls
none_refused x number [] within is = record { fit = refl; most = omega (arith, within) }
none_refused x number (call ∷ calls) within is =
    let passed = unstopped number (call_refusal x number call) (words_stop x (number + 1) calls) is in
    let steps = or_then-None (refused (nat_lt most_calls number) (refusal.LimitReached limit.Statements)) (first_refusal (call_steps x call)) passed.0 in
    let few : nat_lt most_calls number ≡ false = refused-None (nat_lt most_calls number) (refusal.LimitReached limit.Statements) steps.0 in
    let below : number ≤ most_calls = grind (arith, nat_tests, few) in
    let rest = none_refused x (number + 1) calls (omega (arith, below)) passed.1 in
    record {
      fit = both_true (call_fits x.schema x.procedures (call_of x call)) (calls_fit x.schema x.procedures (calls_of x calls)) (call_fits-None x call steps.1) rest.fit;
      most = omega (arith, rest.most);
    }

-- calls of a block, of which there are some and none is refused, can be made
pub are_calls : (x : ProcState) (call : CallWords) (calls : List CallWords) → words_stop x 1 (call ∷ calls) ≡ None → AreCalls x.schema x.procedures (calls_of x (call ∷ calls))
are_calls x call calls is =
    let none = none_refused x 1 (call ∷ calls) (omega arith) is in
    record { fit = none.fit; some = omega arith; most = omega (arith, none.most, length-map calls (call_of x)) }
