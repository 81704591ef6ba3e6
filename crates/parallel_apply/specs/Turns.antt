-- What turns did to a site: each applied one position of a sender, or none.
use Rattle.std.specs.Prelude.{ℕ, List, [], ◌∷◌, ◌++◌, Option, Some, None, replicate}
use Rattle.rep_values.specs.declared.name.SiteName.{SiteName}
use Rattle.site_state.specs.State.{SiteState}
use Rattle.event_laws.specs.Confluence.{applied_in_turn}
use Rattle.parallel_apply.specs.declared.turns.Installed.{Installed}
use Rattle.parallel_apply.specs.declared.turns.TurnLog.{TurnLog}

-- the positions that turns applied, in their order
abbrev pub positions_of : List (Option ℕ) → List ℕ
positions_of [] = []
positions_of (None ∷ turns) = positions_of turns
positions_of (Some position ∷ turns) = position ∷ positions_of turns

-- a site after turns that applied positions of a sender
abbrev pub site_after_crew : SiteName → List (Option ℕ) → SiteState → SiteState
site_after_crew origin turns x = applied_in_turn origin (positions_of turns) x

-- so many turns that applied nothing
abbrev pub quiet_turns : ℕ → List (Option ℕ)
quiet_turns count = replicate count None

abbrev pub turns_up_to : List Installed → List (Option ℕ)
turns_up_to [] = []
turns_up_to (one ∷ installed) = (quiet_turns one.quiet ++ Some one.position ∷ []) ++ turns_up_to installed

-- the turns that a log has
abbrev pub turns_in : TurnLog → List (Option ℕ)
turns_in log = turns_up_to log.installed.items ++ quiet_turns log.quiet
