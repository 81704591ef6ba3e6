-- What scripts declare, snapshots among it.
use Rattle.std.specs.Prelude.{◌≡◌, true, false, List, [], ◌∷◌, None}
use Rattle.std.specs.List.{AllByRecursion}
use Rattle.rep_schema.specs.declared.schema.Schema.{Schema}
use Rattle.schema_rules.specs.Rules.{broken_rule}
use Rattle.site_events.specs.Rules.{IsParentWithin}
use Rattle.script_parse.specs.declared.command.Command.{Command}
use Rattle.script_parse.specs.Named.{NamesColumn}
use Rattle.world_state.specs.declared.declared_snapshot.DeclaredSnapshot.{DeclaredSnapshot}
use Rattle.world_state.specs.World.{WorldState}
use Rattle.world_state.specs.Phases.{is_setup}
use Rattle.world_state.specs.Declaring.{has_snapshot}
use Rattle.world_laws.specs.Fitting.{IsWellDeclared}
use Rattle.world_laws.specs.Scripts.{script_world}

-- no site has two snapshots of a table
abbrev pub AreDeclaredOnce : List DeclaredSnapshot → Type 0
AreDeclaredOnce [] = Unit {0}
AreDeclaredOnce (s ∷ ss) = (has_snapshot ss s.site s.table ≡ false) × AreDeclaredOnce ss

-- the tables of parents are the schema's
abbrev pub AreParentsWithin : Schema → List DeclaredSnapshot → Type 0
AreParentsWithin schema snapshots = AllByRecursion (λ (s : DeclaredSnapshot). IsParentWithin schema s.parent) snapshots

-- what is declared is sound, no site has two snapshots of a table, and the parents of each are in a table
pub record DeclaresWell (w : WorldState) : Type 0 where
  pub sound : IsWellDeclared w
  pub once : AreDeclaredOnce w.snapshots
  pub parents : AreParentsWithin w.schema w.snapshots

-- what a script has declared in Setup is that, where its schema breaks no rule
abbrev pub ScriptsDeclareWell : Type 0
ScriptsDeclareWell = (lines : List Command) → AllByRecursion NamesColumn lines → is_setup (script_world lines).phase ≡ true → broken_rule (script_world lines).schema ≡ None
    → DeclaresWell (script_world lines)
