-- What an opening leaves of the destinations: others are as before, and nothing changes where none has the name.
use Rattle.std.proofs.Common.{◌≡◌, ℕ, List, [], ◌∷◌, Bool, true, false, cond, Some, None, refl, sym, ap, ◌∙◌}
use Rattle.std.specs.Prelude.{Option}
use mathlib.Core.Bool.{true≢false}
use Rattle.rep_values.specs.declared.name.SiteName.{SiteName}
use Rattle.rep_calls.specs.declared.call.Txn.{Txn}
use Rattle.rep_values.specs.SiteNames.{is_same_site}
use Rattle.deferred_queue.proofs.Sites.{is_same_site-refl}
use Rattle.site_state.specs.State.{DestinationState, destination_of, at_destination}
use Rattle.site_state.specs.Streams.{stream_in}
use Rattle.site_state.specs.Joining.{opened_from, opened_at}
use Rattle.site_state.proofs.Destinations.{destination_split}

-- another destination than the one that is opened is as it was
pub destination_of-opened : (to site : SiteName) (count : ℕ) (ds : List DestinationState) → is_same_site to site ≡ false → destination_of site (at_destination to (opened_at count) ds) ≡ destination_of site ds
destination_of-opened to site count ds other =
    destination_split (λ (o : Option DestinationState). o ≡ destination_of site ds) to site (opened_at count) ds (λ d. refl)
    (λ d same found. absurd (true≢false (sym (is_same_site-refl to) ∙ ap (is_same_site to) same ∙ other))) refl

-- where none has the name nothing changes
pub at_destination-none : (site : SiteName) (change : DestinationState → DestinationState) (ds : List DestinationState) → destination_of site ds ≡ None → at_destination site change ds ≡ ds
at_destination-none site change [] none = refl
at_destination-none site change (d ∷ ds) none = go (is_same_site d.site site) none (at_destination-none site change ds)
  where
    go : (b : Bool) → cond b (Some d) (destination_of site ds) ≡ None → (destination_of site ds ≡ None → at_destination site change ds ≡ ds) → cond b (change d ∷ ds) (d ∷ at_destination site change ds) ≡ d ∷ ds
    go true none later = absurd (cc none)
    go false none later = ap (λ (es : List DestinationState). d ∷ es) (later none)

-- what was opened is open
pub opened_from_some : (before : Option ℕ) (count : ℕ) → opened_from before count ≡ None → ⊥
opened_from_some None count none = absurd (cc none)
opened_from_some (Some n) count none = absurd (cc none)

-- an empty queue has empty streams
pub stream_in-none : (opened : Option ℕ) → stream_in {X = Txn} opened [] ≡ []
stream_in-none None = refl
stream_in-none (Some n) = refl
