-- What whoever makes a pass is given, and what it answers.
use Rattle.std.specs.Prelude.{◌≡◌, ℕ, ◌+◌, ◌<◌, ◌^◌, true, List, Result, Ok, Err}
use Rattle.std.specs.declared.alloc.Global.{Global}
use Rattle.rep_lists.specs.declared.memory.NoMemory.{NoMemory}
use Rattle.rep_values.specs.declared.name.SiteName.{SiteName}
use Rattle.site_state.specs.declared.answers.PassCount.{PassCount}
use Rattle.site_state.specs.State.{SiteState}
use Rattle.rep_schema.specs.Sites.{is_master_site}
use Rattle.site_state.specs.Passes.{site_pass, pass_answer}
use Rattle.event_laws.specs.Confluence.{CanPassInAnyOrder}
use Rattle.site_rounds.specs.Parts.{part_of}

-- the moment can rise, and where the sender is a master what is ready of it can be applied in any order
pub record PassRequires (origin : SiteName) (x : SiteState) : Type 0 where
  pub few : x.moment + 1 < 2 ^ 64
  pub any_order : is_master_site x.schema origin ≡ true → CanPassInAnyOrder origin x

-- the site with what its pass finished, or as want of memory left it
abbrev pub PassAnswer : Type 0
PassAnswer = Result (SiteState × PassCount) (SiteState × NoMemory)

-- the answer is that of a pass; where there is no memory, some positions are applied
abbrev pub PassEnsures : SiteName → SiteState → PassAnswer → Type 0
PassEnsures origin x (Ok made) = (made.0 ≡ site_pass origin x) × (made.1 ≡ pass_answer origin x)
PassEnsures origin x (Err stopped) = (positions : List ℕ) × (stopped.0 ≡ part_of origin positions x)

-- a call that can be made wherever a pass can, and that answers as a pass does
pub record MakesPasses (pre : Global → SiteState → SiteName → Type 0) (post : Global → SiteState → SiteName → PassAnswer → Type 0) : Type 0 where
  pub able : (alloc : Global) (x : SiteState) (origin : SiteName) → PassRequires origin x → pre alloc x origin
  pub answers : (alloc : Global) (x : SiteState) (origin : SiteName) (answer : PassAnswer) → post alloc x origin answer → PassEnsures origin x answer
