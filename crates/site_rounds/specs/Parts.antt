-- Passes that were made, the last perhaps in part, and what they counted.
use Rattle.std.specs.Prelude.{◌≡◌, ℕ, ◌≤◌, true, Bool, List, [], ◌∷◌}
use Rattle.rep_values.specs.declared.name.SiteName.{SiteName}
use Rattle.site_state.specs.declared.answers.PassCount.{PassCount}
use Rattle.site_state.specs.declared.entry.Entry.{Entry}
use Rattle.site_state.specs.State.{SiteState}
use Rattle.rep_schema.specs.Sites.{is_master_site}
use Rattle.site_state.specs.Steps.{begun}
use Rattle.rep_lists.specs.Counting.{count_where}
use Rattle.site_state.specs.Passes.{is_done, is_error, added_count}
use Rattle.event_laws.specs.Confluence.{applied_in_turn, CanPassInAnyOrder}

-- a pass for a sender, of which these positions are applied
abbrev pub part_of : SiteName → List ℕ → SiteState → SiteState
part_of origin positions x = applied_in_turn origin positions (begun x)

-- parts of passes, one after the other
abbrev pub parts_done : List (SiteName × List ℕ) → SiteState → SiteState
parts_done [] x = x
parts_done (part ∷ parts) x = parts_done parts (part_of part.0 part.1 x)

-- some passes were made, of each some positions
abbrev pub PartlyApplied : SiteState → SiteState → Type 0
PartlyApplied x y = (parts : List (SiteName × List ℕ)) × (y ≡ parts_done parts x)

-- of each sender that is a master, what is ready can be applied in any order
abbrev pub MastersCanPass : SiteState → Type 0
MastersCanPass x = (origin : SiteName) → is_master_site x.schema origin ≡ true → CanPassInAnyOrder origin x

-- what entries finish
abbrev pub finished_in : List Entry → PassCount
finished_in entries = record { done = count_where is_done entries; errors = count_where is_error entries }

-- passes were made, and a count has what they finished; what is ready of a master can still be applied in any order
pub record Passes (before after : SiteState) (count : PassCount) : Type 0 where
  pub senders : after.senders ≡ before.senders
  pub grows : (test : Entry → Bool) → count_where test before.journal ≤ count_where test after.journal
  pub done : count.done ≡ added_count is_done before after
  pub errors : count.errors ≡ added_count is_error before after
  pub partly : PartlyApplied before after
  pub masters : MastersCanPass after
