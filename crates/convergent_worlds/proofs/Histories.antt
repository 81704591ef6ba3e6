-- From one moment of a world to a later one masters agree again, and the rows that they miss were lost.
use Rattle.std.proofs.Common.{◌≡◌, List, true, false, refl, sym, ap, ◌∙◌, subst}
use Rattle.rep_schema.specs.declared.schema.Schema.{Schema}
use Rattle.site_state.specs.State.{SiteState}
use Rattle.site_events.specs.Cluster.{Cluster, site_of}
use Rattle.site_events.specs.Events.{Event, run}
use Rattle.site_events.specs.Quiet.{are_quiet}
use Rattle.convergence_laws.specs.QuietAgreement.{NothingWasDroppedSince, MastersAgree, QuietMastersAgreeAgain}
use Rattle.error_cause_laws.specs.LostInsertLaws.{MissingRowsAreOfLostInserts}
use Rattle.world_state.specs.World.{WorldState}
use Rattle.world_state.specs.Phases.{is_setup}
use Rattle.world_state.specs.Steps.{world_steps}
use Rattle.world_laws.specs.Simulation.{Leads}
use Rattle.event_laws.proofs.Runs.{run-append}
use Rattle.world_laws.proofs.WorldLaws.{lines_lead}
use Rattle.world_laws.specs.AlikeMasters.{SitesBegin}
use Rattle.convergent_worlds.specs.Histories.{MastersAgreeAgain, MastersAgreeSince, EachMissingRowWasLost, HasHistory}
use Rattle.world_laws.specs.AlikeWorlds.{GoesOnAlike, IsOfConvergence, Declaring, Going}

module _ (w : WorldState) (a : GoesOnAlike w) where
  same : w.sites ≡ (run a.leads.events a.start).sites
  same = a.leads.simulates.sites

  -- the start is one of the world's schema
  begins : SitesBegin w.schema a.start
  begins = subst (λ (s : Schema). SitesBegin s a.start) a.of_schema its_own
    where
      its_own : SitesBegin a.schema a.start
      its_own = record { fit = a.fit; meshed = a.meshed; alike = a.alike }

  -- where masters are quiet and agree after some events, they agree again after others
  agree_then : QuietMastersAgreeAgain → (xs ys : List SiteState) (older newer : List Event) → xs ≡ (run older a.start).sites → ys ≡ (run newer (run older a.start)).sites
      → are_quiet xs ≡ true → MastersAgree w.schema xs → are_quiet ys ≡ true → NothingWasDroppedSince w.schema xs ys → MastersAgree w.schema ys
  agree_then law xs ys older newer earlier later = rw (earlier, later) (law w.schema a.start older newer begins.fit begins.meshed)

  again : QuietMastersAgreeAgain → MastersAgreeAgain w
  again law behind number lines = agree_then law w.sites (world_steps number lines w).sites a.leads.events on.events same on.simulates.sites
    where
      on : Leads (world_steps number lines w) (run a.leads.events a.start)
      on = lines_lead number lines w (run a.leads.events a.start) a.leads.simulates

  since : QuietMastersAgreeAgain → MastersAgreeSince w a.start a.leads.events
  since law newer older parts = agree_then law (run older a.start).sites w.sites older newer refl
      (same ∙ ap (λ (es : List Event). (run es a.start).sites) parts ∙ ap (λ (v : Cluster). v.sites) (run-append newer older a.start))

  was_lost : MissingRowsAreOfLostInserts → EachMissingRowWasLost w a.start a.leads.events
  was_lost law site x found master =
      law w.schema a.start a.leads.events begins.fit begins.meshed begins.alike.shared site x (ap (site_of site) (sym same) ∙ found) master

  history : QuietMastersAgreeAgain → MissingRowsAreOfLostInserts → HasHistory w
  history agree lost = record { start = a.start; events = a.leads.events; begins = begins; leads = same; agree = since agree; lost = was_lost lost }

-- ---- behind Setup

pub again_of : QuietMastersAgreeAgain → (w : WorldState) → IsOfConvergence w → MastersAgreeAgain w
again_of law w (Declaring so_far) behind = absurd (cc (so_far.setup.setup, behind))
again_of law w (Going a) behind = again w a law behind

pub history_of : QuietMastersAgreeAgain → MissingRowsAreOfLostInserts → (w : WorldState) → IsOfConvergence w → is_setup w.phase ≡ false → HasHistory w
history_of agree lost w (Declaring so_far) behind = absurd (cc (so_far.setup.setup, behind))
history_of agree lost w (Going a) behind = history w a agree lost
