-- What a receiver does with what came by a push, and what it tells of it.
use Rattle.std.specs.Prelude.{◌≡◌, ◌⊎◌, ℕ, List, ◌++◌, flat_map, Option, Some}
use Rattle.rep_values.specs.declared.name.SiteName.{SiteName}
use Rattle.report_text.specs.Texts.{push_text}
use Rattle.site_state.specs.State.{SiteState}
use Rattle.site_events.specs.Cluster.{site_of}
use Rattle.world_state.specs.World.{WorldState}
use Rattle.site_state.specs.Rounds.{site_until_quiet}
use Rattle.world_state.specs.PushAnswers.{count_in, errors_in}
use Rattle.site_rounds.specs.Parts.{PartlyApplied, MastersCanPass}
use Rattle.world.specs.Texts.{new_error_text}

-- what is told of a push that sent so many positions, of the receiver before it applies them
abbrev pub told_text : SiteName → SiteName → ℕ → Option SiteState → List ℕ
told_text from to sent x = push_text from.0 to.0 (count_in sent from x) ++ flat_map new_error_text (errors_in from x)

-- the receiver has made some of its passes, or all
abbrev pub IsApplying : SiteName → SiteState → SiteState → Type 0
IsApplying origin x y = PartlyApplied x y ⊎ (y ≡ site_until_quiet origin x)

-- at the site of a name what is ready of masters can be applied in any order
abbrev pub CanApplyThere : SiteName → WorldState → Type 0
CanApplyThere name w = (x : SiteState) → site_of name w.sites ≡ Some x → MastersCanPass x
