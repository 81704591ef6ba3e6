-- What a receiver does with the calls that came by a push, and what it tells of it.
use Rattle.std.specs.Prelude.{◌≡◌, ℕ, List, ◌++◌, flat_map, Option}
use Rattle.rep_values.specs.declared.name.SiteName.{SiteName}
use Rattle.report_text.specs.Texts.{push_calls_text}
use Rattle.proc_state.specs.State.{ProcState}
use Rattle.world_state.specs.CallPushes.{calls_count_in, calls_errors_in}
use Rattle.world.specs.Calling.{proc_parts}
use Rattle.world.specs.Texts.{new_error_text}

-- what is told of a push that sent so many positions, of the receiver before it applies them
abbrev pub told_calls_text : SiteName → SiteName → ℕ → Option ProcState → List ℕ
told_calls_text from to sent x = push_calls_text from.0 to.0 (calls_count_in sent from x) ++ flat_map new_error_text (calls_errors_in from x)

-- the receiver has made some passes, or parts of them
abbrev pub PartlyPassed : ProcState → ProcState → Type 0
PartlyPassed x y = (parts : List (SiteName × List ℕ)) × (y ≡ proc_parts parts x)
