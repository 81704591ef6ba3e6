-- What is declared behind a line.
use Rattle.std.proofs.Common.{◌≡◌, ℕ, List, Some, None, refl, sym, ap, inl, inr, ◌∙◌, subst}
use Rattle.std.specs.Prelude.{◌⊎◌, Option}
use Rattle.rep_values.specs.declared.name.SiteName.{SiteName}
use Rattle.rep_values.proofs.RefusalSteps.{or_then-None}
use Rattle.rep_values.specs.declared.refusal.Refusal.{Refusal}
use Rattle.rep_schema.specs.declared.schema.Schema.{Schema}
use Rattle.rep_declare.specs.declared.declaration.Declare.{Declare}
use Rattle.rep_declare.specs.Refusals.{declare_refusal}
use Rattle.script_parse.specs.declared.command.Command.{Command}
use Rattle.script_parse.specs.declared.command.Command.TheVariants as command
use Rattle.script_parse.specs.declared.command.ParentWords.{ParentWords}
use Rattle.script_parse.specs.declared.command.TestWords.{TestWords}
use Rattle.script_parse.specs.declared.proc_line.ProcLine.{ProcLine}
use Rattle.script_parse.specs.declared.proc_line.ProcLine.TheVariants as proc_line
use Rattle.world_state.specs.declared.phase.Phase.{Phase}
use Rattle.world_state.specs.declared.phase.Phase.TheVariants as phase
use Rattle.world_state.specs.declared.refused.Refused.{Refused}
use Rattle.world_state.specs.World.{WorldState}
use Rattle.world_state.specs.Declaring.{with_snapshot_at, tests_in}
use Rattle.rep_schema.specs.Named.{table_place}
use Rattle.world_state.specs.Phases.{declare_step}
use Rattle.world_state.specs.ProcRefusals.{declaring_step}
use Rattle.world_state.specs.Steps.{resumed, world_done}
use Rattle.world_laws.proofs.DeclaredStays.{IsPlain, plain_stays, refused_stays}
use Rattle.world.specs.declared.answer.Answer.{Answer}
use Rattle.world.specs.Doing.{IsDone, IsOutOfMemory, IsRefused}
use Rattle.script_steps.specs.Coming.{schema_with, declared_unless, renewed}
use Rattle.script_steps.proofs.Worlds.{world_step-done, step_refused-done, world_step-told, step_refused-told, line_text-done, line_text-told}

-- a command that is no declaration leaves it
module _ (number : ℕ) (w w' : WorldState) where
  abbrev Stays : Command → Type 0
  Stays c = w' ≡ world_done number c w → w.schema ≡ w'.schema

  plain : (c : Command) → IsPlain c → Stays c
  plain c is made = sym (ap (λ (y : WorldState). y.schema) made ∙ (plain_stays number c w is).schema)

  snapshot : (site : SiteName) (table : Option ℕ) (parent : Option ParentWords) (tests : List TestWords) → (with_snapshot_at site table parent tests w).schema ≡ w.schema
  snapshot site None parent tests = refl
  snapshot site (Some table) parent tests = refl

  resume : (now : Phase) → (resumed now w).schema ≡ w.schema
  resume phase.Setup = refl
  resume phase.Running = refl
  resume phase.Suspended = refl

  along : (y : WorldState) → w' ≡ y → y.schema ≡ w.schema → w.schema ≡ w'.schema
  along y made kept = sym (ap (λ (z : WorldState). z.schema) made ∙ kept)

-- a declaration that was done is taken into the schema
declared_lands : (number : ℕ) (d : Declare) (w w' : WorldState) (answer : Answer) → IsDone number (command.Declare d) w w' answer → renewed (schema_with (command.Declare d) w.schema) w.schema ≡ w'.schema
declared_lands number d w w' answer done =
    let takes : declare_refusal w.schema d ≡ None =
    (or_then-None (declare_refusal w.schema d) None (or_then-None (declaring_step d w) _ (or_then-None (declare_step d w) _ done.passes).1).1).0 in
    subst (λ (o : Option Refusal). renewed (declared_unless o d w.schema) w.schema ≡ w'.schema) (sym takes) (sym (ap (λ (y : WorldState). y.schema) done.world))

-- the schema behind a command that was done
pub lands : (number : ℕ) (c : Command) (w w' : WorldState) (answer : Answer) → IsDone number c w w' answer → renewed (schema_with c w.schema) w.schema ≡ w'.schema
lands number (command.Declare d) w w' answer done = declared_lands number d w w' answer done
lands number (command.Snapshot site table parent tests) w w' answer done =
    along number w w' (with_snapshot_at site (table_place w.schema table) parent (tests_in tests) w) done.world (snapshot number w w' site (table_place w.schema table) parent (tests_in tests))
lands number (command.Row table values) w w' answer done = along number w w' (world_done number (command.Row table values) w) done.world refl
lands number command.Resume w w' answer done = along number w w' (resumed w.phase w) done.world (resume number w w' w.phase)
lands number command.Suspend w w' answer done = along number w w' (world_done number command.Suspend w) done.world refl
lands number c w w' answer done = plain number w w' c tt done.world

-- the same, by what was found of it
pub schema-done : (number : ℕ) (c : Command) (w w' : WorldState) (answer : Answer) (schema : Schema) (next : Option Schema) → IsDone number c w w' answer → schema ≡ w.schema → next ≡ schema_with c schema
    → renewed next schema ≡ w'.schema
schema-done number c w w' answer schema next done same is =
    ap (λ (o : Option Schema). renewed o schema) (is ∙ ap (schema_with c) same) ∙ (ap (renewed (schema_with c w.schema)) same ∙ lands number c w w' answer done)

-- a refused line leaves it
pub schema-refused : (number : ℕ) (c : Command) (w w' : WorldState) (r : Refused) → IsRefused number c w w' r → w.schema ≡ w'.schema
schema-refused number c w w' r refused = sym (ap (λ (y : WorldState). y.schema) refused.world ∙ (refused_stays c w).schema)

short_calls : (number : ℕ) (line : ProcLine) (w w' : WorldState) (r : Refused) → IsOutOfMemory number (command.Procedures line) w w' r → w.schema ≡ w'.schema
short_calls number (proc_line.Push from to) w w' r short = sym (ap (λ (y : WorldState). y.schema) (short.called from to refl).rest)
short_calls number _ w w' r short = sym (ap (λ (y : WorldState). y.schema) (short.kept refl))

-- and so does one for which there was no memory
pub schema-short : (number : ℕ) (c : Command) (w w' : WorldState) (r : Refused) → IsOutOfMemory number c w w' r → w.schema ≡ w'.schema
schema-short number (command.Push from to count) w w' r short = sym (short.pushed from to count refl).beside.schema
schema-short number (command.Procedures line) w w' r short = short_calls number line w w' r short
schema-short number _ w w' r short = sym (ap (λ (y : WorldState). y.schema) (short.kept refl))

-- and so does a line that isn't done
pub schema-err : (number : ℕ) (c : Command) (w w' : WorldState) (r : Refused) (schema : Schema) → IsOutOfMemory number c w w' r ⊎ IsRefused number c w w' r → schema ≡ w.schema → schema ≡ w'.schema
schema-err number c w w' r schema (inl short) same = same ∙ schema-short number c w w' r short
schema-err number c w w' r schema (inr refused) same = same ∙ schema-refused number c w w' r refused

pub ruleset step_facts = (schema-done, schema-err, world_step-done, step_refused-done, world_step-told, step_refused-told, line_text-done, line_text-told)
