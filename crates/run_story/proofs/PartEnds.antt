-- The end of a part, step by step.
use Rattle.std.specs.Prelude.{Ok}
use Rattle.std.proofs.Common.{◌≡◌, List, Some, None, refl, ap, subst, ◌∙◌}
use Rattle.rep_values.specs.declared.name.SiteName.{SiteName}
use Rattle.site_state.specs.State.{SiteState}
use Rattle.site_events.specs.Cluster.{site_of}
use Rattle.live_laws.specs.declared.turn.LiveTurn.{LiveTurn}
use Rattle.live_laws.specs.declared.turn.Session.{Session}
use Rattle.live_laws.specs.Turns.{site_after}
use Rattle.world_state.specs.World.{WorldState, with_site}
use Rattle.world_laws.proofs.Finding.{at_found}
use Rattle.world_push.specs.Lending.{live_opened, live_closed, given_back}
use Rattle.world_run.specs.Lent.{LentWorld}
use Rattle.world_run.specs.Ended.{RanPart}
use Rattle.world_run.specs.LiveParts.{origins_of, world_behind_part}
use Rattle.world_run.specs.LiveAnswers.{RunsSessions}
use Rattle.world_run.specs.Streaming.{AnswersStreams}

-- a site that comes back as turns leave it is that site with these turns made
came_back : (name : SiteName) (sessions : List Session) (turns : List LiveTurn) (w : WorldState) (x : SiteState) → site_of name w.sites ≡ Some x
    → given_back name (site_after sessions turns x) w ≡ with_site name (site_after sessions turns) w
came_back name sessions turns w x found =
    ap (λ (sites : List SiteState). record w { sites = sites }) (at_found name (λ old. site_after sessions turns x) (site_after sessions turns) w.sites x found refl)

module _ (name : SiteName) (w : WorldState) (sessions : List Session) (turns : List LiveTurn) (lent closed : LentWorld) (x y : SiteState) where
  behind : lent.world ≡ live_opened name w → site_of name lent.world.sites ≡ Some x → y ≡ site_after sessions turns x → closed.world ≡ live_closed name (given_back name y lent.world)
      → closed.world ≡ world_behind_part name sessions turns w
  behind opens found runs closes =
      closes ∙ ap (λ (z : SiteState). live_closed name (given_back name z lent.world)) runs
      ∙ ap (live_closed name) (came_back name sessions turns lent.world x found)
      ∙ ap (λ (v : WorldState). live_closed name (with_site name (site_after sessions turns) v)) opens

  -- all of it together
  pub runs_sessions : lent.world ≡ live_opened name w → site_of name lent.world.sites ≡ Some x → AnswersStreams (origins_of name x) sessions x (Ok (y, turns))
      → closed.world ≡ live_closed name (given_back name y lent.world) → closed.lent ≡ None → RunsSessions name sessions turns w closed
  runs_sessions opens found runs closes free = record {
    full = record { opened = x; here = subst (λ (v : WorldState). site_of name v.sites ≡ Some x) opens found; full = runs.0 };
    behind = behind opens found runs.1 closes;
    free = free;
  }

-- what only contracts look at
pub ended_is : (site site' : SiteName) (before before' : WorldState) (sessions sessions' : List Session) (turns turns' : List LiveTurn) → site ≡ site' → before ≡ before' → sessions ≡ sessions' → turns ≡ turns'
    → ◌≡◌ {A = RanPart} (record { site = site; before = before; sessions = sessions; turns = turns }) (record { site = site'; before = before'; sessions = sessions'; turns = turns' })
ended_is site site' before before' sessions sessions' turns turns' same_site same_before same_sessions same_turns = rw (same_site, same_before, same_sessions, same_turns) refl
