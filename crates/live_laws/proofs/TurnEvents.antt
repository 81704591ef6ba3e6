-- Turns are events of their site.
use Rattle.std.proofs.Common.{◌≡◌, List, [], ◌∷◌, Bool, true, false, Some, None, refl, sym, ap, ◌∙◌}
use Rattle.std.specs.Prelude.{◌||◌, not, Option}
use Rattle.rep_values.specs.declared.name.SiteName.{SiteName}
use Rattle.site_state.specs.State.{SiteState}
use Rattle.rep_schema.specs.Sites.{is_among}
use Rattle.site_state.specs.Passes.{site_apply}
use Rattle.site_state.specs.Commits.{site_commit}
use Rattle.deferred_queue.proofs.Sites.{is_same_site-refl}
use Rattle.site_state.specs.Steps.{begun}
use Rattle.site_events.specs.Cluster.{Cluster, site_of, at_site}
use Rattle.site_events.specs.Events.{Begin, applied_where, is_master_in, happens, run}
use Rattle.event_laws.proofs.Sites.{at_same, at_twice}
use Rattle.event_laws.proofs.Runs.{run-append}
use Rattle.live_laws.specs.declared.turn.LiveTurn.{LiveTurn}
use Rattle.live_laws.specs.declared.turn.LiveTurn.TheVariants.{Applied, Committed}
use Rattle.live_laws.specs.declared.turn.Block.{Block}
use Rattle.live_laws.specs.declared.turn.Session.{Session}
use Rattle.live_laws.specs.Turns.{block_of, committed_block, site_after_turn, site_after}
use Rattle.live_laws.specs.RunLaws.{statements_in, event_of, events_of, TurnsAreEvents, LivePartsAreEvents}
use Rattle.live_laws.proofs.TurnSteps.{turn_steps}

committed_by_event : (block : Option Block) (x : SiteState) → site_commit (statements_in block) x ≡ committed_block block x
committed_by_event None x = refl
committed_by_event (Some block) x = refl

turn_is_event : (site : SiteName) (sessions : List Session) (turn : LiveTurn) (w : Cluster) → is_among w.begun site ≡ true
    → happens (event_of site sessions turn) w ≡ record w { sites = at_site site (site_after_turn sessions turn) w.sites }
turn_is_event site sessions (Applied origin position call error) w begun = go (is_among w.begun site) begun
  where
    go : (b : Bool) → b ≡ true → record w { sites = applied_where (b || not (is_master_in (site_of site w.sites))) site origin position w.sites } ≡ record w { sites = at_site site (site_apply origin position) w.sites }
    go true is = refl
    go false is = absurd (cc is)
turn_is_event site sessions (Committed session block reply) w begun =
    ap (λ (change : SiteState → SiteState). record w { sites = at_site site change w.sites }) (λ i x. committed_by_event (block_of session block sessions) x i)

pub turns_are_events : TurnsAreEvents
turns_are_events site sessions [] w begun = ap (λ (xs : List SiteState). record w { sites = xs }) (sym (at_same site (λ x. x) w.sites (λ x. refl)))
turns_are_events site sessions (turn ∷ turns) w begun =
    run-append (events_of site sessions turns) (event_of site sessions turn ∷ []) w
    ∙ ap (run (events_of site sessions turns)) (turn_is_event site sessions turn w begun)
    ∙ turns_are_events site sessions turns (record w { sites = at_site site (site_after_turn sessions turn) w.sites }) begun
    ∙ ap (λ (xs : List SiteState). record w { sites = xs }) (at_twice site (site_after_turn sessions turn) (site_after sessions turns) w.sites (λ x. (turn_steps sessions turn x).here))

pub live_parts_are_events : LivePartsAreEvents
live_parts_are_events site sessions turns w =
    run-append (events_of site sessions turns) (Begin site ∷ []) w
    ∙ turns_are_events site sessions turns (happens (Begin site) w) (rw (is_same_site-refl site) refl)
    ∙ ap (λ (xs : List SiteState). record w { sites = xs; begun = site ∷ w.begun }) (at_twice site begun (site_after sessions turns) w.sites (λ x. refl))
