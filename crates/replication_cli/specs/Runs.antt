-- A storm that is being run.
use Rattle.std.specs.Prelude.{◌≡◌, ℕ, suc, ◌*◌, ◌^◌, ◌≤◌, true, List, [], fold, Option, Some, None}
use Rattle.rep_values.specs.Name.{is_name}
use Rattle.script_parse.specs.declared.command.Command.{Command}
use Rattle.world_state.specs.declared.block.Block.{Block}
use Rattle.world_state.specs.World.{WorldState, first_world}
use Rattle.world_state.specs.Steps.{world_step}
use Rattle.world.specs.Texts.{line_text}
use Rattle.replication_cli.specs.declared.tally.Tally.{Tally}
use Rattle.replication_cli.specs.Tallies.{tally_of, with_text}

-- the world behind the commands so far, the number of the one that comes, and what they told
pub record Running : Type 0 where
  pub world : WorldState
  pub number : ℕ
  pub tally : Tally

-- no more was told than commands were run
pub record IsCounted (number : ℕ) (t : Tally) : Type 0 where
  pub commits : t.commits ≤ number
  pub refused : t.refused ≤ number
  pub pushes : t.pushes ≤ number
  pub errors : t.errors ≤ number * 2 ^ 64

-- the site of the open block has a name, where one is open
abbrev pub IsNamedBlock : Option Block → Type 0
IsNamedBlock None = Unit {0}
IsNamedBlock (Some block) = is_name block.site.0 ≡ true

-- nothing was run yet
abbrev pub storm_beginning : Running
storm_beginning = record { world = first_world; number = 1; tally = tally_of [] }

-- one more command
abbrev pub with_command : Running → Command → Running
with_command r c = record {
  world = world_step r.number c r.world;
  number = suc r.number;
  tally = with_text r.tally (line_text r.number c r.world);
}

-- more commands, one after another
abbrev pub with_commands : Running → List Command → Running
with_commands r cs = fold with_command r cs
