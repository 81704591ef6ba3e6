-- The words of calls one after another.
use Rattle.std.proofs.Common.{◌≡◌, ◌≢◌, ℕ, ◌+◌, ◌<◌, ◌≤◌, List, [], ◌∷◌, length, drop, get_or, false, Some, None, refl, sym, ◌∙◌, arith, subst}
use Rattle.std.specs.Prelude.{nat_lt}
use Rattle.std.specs.List.{find}
use Rattle.std.proofs.lemmas.Bool.Decides.{nat_tests}
use Rattle.rep_lists.proofs.Each.{each_found}
use Rattle.rep_lists.proofs.Places.{drop_from_place}
use Rattle.rep_values.specs.declared.refusal.Refusal.{Refusal}
use Rattle.rep_values.specs.declared.refusal.Refusal.TheVariants as refusal
use Rattle.rep_values.specs.declared.refusal.Limit.TheVariants as limit
use Rattle.rep_values.specs.RefusalSteps.{refused, first_refusal}
use Rattle.rep_values.proofs.RefusalSteps.{or_then-None, refused-None}
use Rattle.rep_schema.specs.declared.schema.Schema.{Schema}
use Rattle.script_parse.specs.declared.proc_line.CallWords.{CallWords}
use Rattle.proc_state.specs.declared.procedure.Procedure.{Procedure}
use Rattle.proc_state.specs.Calls.{IsProcedure, AreProcedures}
use Rattle.proc_state.specs.Fits.{ProcFits}
use Rattle.proc_state.specs.State.{ProcState}
use Rattle.proc_state.specs.Events.{AreCalls}
use Rattle.world_state.specs.ProcDeclaring.{is_procedure}
use Rattle.world_state.specs.CallBlocks.{most_calls, call_steps, call_refusal, words_stop, calls_of}
use Rattle.world_laws.proofs.CallSending.{first_at, are_calls}

module _ (x : ProcState) (calls : List CallWords) (place number : ℕ) (call : CallWords) (within : place < length calls) (is : call ≡ get_or calls place call)
    (rest : words_stop x number (drop place calls) ≡ words_stop x 1 calls) where
  next : drop place calls ≡ call ∷ drop (place + 1) calls
  next = drop_from_place calls place call within is

  -- this one is refused
  pub stops_here : (why : Refusal) → call_refusal x number call ≡ Some why → Some (record { call = number; refusal = why }) ≡ words_stop x 1 calls
  stops_here why refuses = sym (sym rest ∙ rw (next, refuses) refl)

  -- it isn't, and the others are left
  pub goes_on : call_refusal x number call ≡ None → words_stop x (number + 1) (drop (place + 1) calls) ≡ words_stop x 1 calls
  goes_on passes = sym (rw (next, passes) refl) ∙ rest

-- one that isn't refused is among the first
pub among_first : (x : ProcState) (number : ℕ) (call : CallWords) → call_refusal x number call ≡ None → number + 1 ≤ 1001
among_first x number call passes =
    let few : nat_lt most_calls number ≡ false
    = refused-None (nat_lt most_calls number) (refusal.LimitReached limit.Statements) (or_then-None (refused (nat_lt most_calls number) (refusal.LimitReached limit.Statements)) (first_refusal (call_steps x call)) passes).0 in
    grind (arith, nat_tests, few)

-- calls of which there are some and none is refused can be made
pub can_be_made : (x : ProcState) (calls : List CallWords) → calls ≢ [] → words_stop x 1 calls ≡ None → AreCalls x.schema x.procedures (calls_of x calls)
can_be_made x [] some passes = absurd (some refl)
can_be_made x (call ∷ calls) some passes = are_calls x call calls passes

-- the table of a procedure that is found at a site is one of its tables
pub table_there : (x : ProcState) (name : List ℕ) (procedures : List Procedure) (schema : Schema) (q : Procedure) → ProcFits x → procedures ≡ x.procedures → schema ≡ x.schema
    → Some q ≡ find (is_procedure name) procedures → q.table < length schema.tables
table_there x name procedures schema q fits same_procedures same_schema found =
    let at = first_at (is_procedure name) procedures q (sym found) in
    let all : AreProcedures schema procedures
    = subst (λ (s : Schema). AreProcedures s procedures) (sym same_schema) (subst (λ (qs : List Procedure). AreProcedures x.schema qs) (sym same_procedures) fits.procedures) in
    let one = each_found (IsProcedure schema) procedures at.place at.within all in
    let same : one.0 ≡ q = cc (one.1, at.is) in
    subst (λ (p : Procedure). p.table < length schema.tables) same one.2.table
