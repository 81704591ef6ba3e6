-- Positions of a sender that are applied one after the other, and what stays of a site meanwhile.
use Rattle.std.proofs.Common.{◌≡◌, ℕ, List, [], ◌∷◌, ◌++◌, Bool, true, false, cond, Some, None, refl, ap, ◌∙◌}
use Rattle.std.specs.Prelude.{◌||◌, is_none, Option, Result, Ok, Err}
use Rattle.rep_values.specs.declared.name.SiteName.{SiteName}
use Rattle.txn_effects.specs.Calls.{Effect}
use Rattle.txn_effects.specs.Transactions.{Failure}
use Rattle.txn_effects.specs.Contents.{content_after}
use Rattle.site_state.specs.declared.answers.Why.{Why}
use Rattle.site_state.specs.declared.arrival.Arrival.{Arrival}
use Rattle.site_state.specs.declared.entry.Entry.{Entry}
use Rattle.site_state.specs.State.{SiteState, arrived_at}
use Rattle.rep_schema.specs.Sites.{is_master_site}
use Rattle.site_state.specs.Journal.{finished, is_position}
use Rattle.site_state.specs.Contents.{content_of}
use Rattle.site_state.specs.Ready.{stale_of, is_ready}
use Rattle.site_state.specs.Passes.{effect_here, finished_by, applied_unless, site_apply, apply_each}
use Rattle.site_state.proofs.LowWater.{finished-append}
use Rattle.site_state.proofs.Stepping.{with_entry, arrived_has, apply_steps}
use Rattle.event_laws.specs.Confluence.{applied_in_turn, AreReadyInTurn}
use Rattle.site_state.proofs.Waited.{is_position-own}
use Rattle.event_laws.proofs.MasterArrivals.{Told, IsReadyAt, finished_by-master, told-master}

module _ (origin : SiteName) where
  -- ---- one list behind another

  pub applied-append : (ps qs : List ℕ) (x : SiteState) → applied_in_turn origin (ps ++ qs) x ≡ applied_in_turn origin qs (applied_in_turn origin ps x)
  applied-append [] qs x = refl
  applied-append (p ∷ ps) qs x = applied-append ps qs (site_apply origin p x)

  pub ready-append : (ps qs : List ℕ) (x : SiteState) → AreReadyInTurn origin ps x → AreReadyInTurn origin qs (applied_in_turn origin ps x) → AreReadyInTurn origin (ps ++ qs) x
  ready-append [] qs x one other = other
  ready-append (p ∷ ps) qs x one other = (one.0, ready-append ps qs (site_apply origin p x) one.1 other)

  pub ready-behind : (ps qs : List ℕ) (x : SiteState) → AreReadyInTurn origin (ps ++ qs) x → AreReadyInTurn origin qs (applied_in_turn origin ps x)
  ready-behind [] qs x both = both
  ready-behind (p ∷ ps) qs x both = ready-behind ps qs (site_apply origin p x) both.1

  -- ---- arrivals that are applied where they are ready

  -- of these arrivals, the positions that are ready in their turn
  abbrev pub ready_among : List Arrival → SiteState → List ℕ
  ready_among [] x = []
  ready_among (a ∷ arrived) x = cond (is_ready origin a.position x) (a.position ∷ ready_among arrived (site_apply origin a.position x)) (ready_among arrived x)

  pub record AreApplied (arrived : List Arrival) (x : SiteState) (positions : List ℕ) : Type 0 where
    pub ready : AreReadyInTurn origin positions x
    pub each : apply_each origin arrived x ≡ applied_in_turn origin positions x

  -- what isn't ready changes nothing
  apply-not_ready : (p : ℕ) (x : SiteState) → is_ready origin p x ≡ false → site_apply origin p x ≡ x
  apply-not_ready p x not = go (stale_of origin p x) not
    where
      go : (stale : Option Why) → is_none stale ≡ false → applied_unless stale origin (arrived_at origin p x.senders) x ≡ x
      go (Some why) not = refl
      go None not = absurd (cc not)

  pub each_applied : (arrived : List Arrival) (x : SiteState) → AreApplied arrived x (ready_among arrived x)
  each_applied [] x = record { ready = tt; each = refl }
  each_applied (a ∷ arrived) x = go (is_ready origin a.position x) refl (each_applied arrived (site_apply origin a.position x)) (each_applied arrived x)
    where
      go : (b : Bool) → is_ready origin a.position x ≡ b → AreApplied arrived (site_apply origin a.position x) (ready_among arrived (site_apply origin a.position x)) → AreApplied arrived x (ready_among arrived x)
          → AreApplied (a ∷ arrived) x (cond b (a.position ∷ ready_among arrived (site_apply origin a.position x)) (ready_among arrived x))
      go true is behind same = record { ready = (is, behind.ready); each = behind.each }
      go false is behind same = record { ready = same.ready; each = ap (apply_each origin arrived) (apply-not_ready a.position x is) ∙ same.each }

  -- ---- what stays

  -- a site later: its schema and what arrived are the same, and what was finished is so
  pub record Stays (x y : SiteState) : Type 0 where
    pub schema : y.schema ≡ x.schema
    pub senders : y.senders ≡ x.senders
    pub finished_stay : (p : ℕ) → finished origin x.journal p ≡ true → finished origin y.journal p ≡ true

  pub stays_itself : (x : SiteState) → Stays x x
  stays_itself x = record { schema = refl; senders = refl; finished_stay = λ p is. is }

  pub stays_then : (x y z : SiteState) → Stays x y → Stays y z → Stays x z
  stays_then x y z one other = record {
    schema = other.schema ∙ one.schema;
    senders = other.senders ∙ one.senders;
    finished_stay = λ p is. other.finished_stay p (one.finished_stay p is);
  }

  finished_with : (e : Option Entry) (es : List Entry) (p : ℕ) → finished origin es p ≡ true → finished origin (with_entry e es) p ≡ true
  finished_with None es p is = is
  finished_with (Some e) es p is = finished-append origin (e ∷ []) es p is

  pub stays_one : (p : ℕ) (x : SiteState) → Stays x (site_apply origin p x)
  stays_one p x =
      let s = apply_steps origin p x in
      record {
        schema = s.schema;
        senders = s.senders;
        finished_stay = λ q is. rw s.journals.journal (finished_with s.journals.entry x.journal q is);
      }

  pub stays_in_turn : (ps : List ℕ) (x : SiteState) → Stays x (applied_in_turn origin ps x)
  stays_in_turn [] x = stays_itself x
  stays_in_turn (p ∷ ps) x = stays_then x (site_apply origin p x) (applied_in_turn origin ps (site_apply origin p x)) (stays_one p x) (stays_in_turn ps (site_apply origin p x))

  -- ---- what a ready position comes to

  or_left : (b c : Bool) → b ≡ true → (b || c) ≡ true
  or_left true c is = refl
  or_left false c is = cc

  pub applied_becomes : (p : ℕ) (x : SiteState) (at : IsReadyAt origin p x) → site_apply origin p x ≡ finished_by origin at.arrival (effect_here origin at.arrival x) x
  applied_becomes p x at = rw (at.unfinished, at.there, at.due) refl

  -- it is finished
  pub applied_finished : (p : ℕ) (x : SiteState) → IsReadyAt origin p x → finished origin (site_apply origin p x).journal p ≡ true
  applied_finished p x at = ap (λ (y : SiteState). finished origin y.journal p) (applied_becomes p x at) ∙ by (effect_here origin at.arrival x)
    where
      own : is_position origin p origin at.arrival.position ≡ true
      own = is_position-own origin p at.arrival.position (arrived_has origin p x at.arrival at.there)

      by : (r : Result Effect Failure) → finished origin (finished_by origin at.arrival r x).journal p ≡ true
      by (Ok effect) = or_left (is_position origin p origin at.arrival.position) _ own
      by (Err failure) = or_left (is_position origin p origin at.arrival.position) _ own

  -- and of a master, tables and counters are those after its transaction
  pub content_applied : (p : ℕ) (x : SiteState) → is_master_site x.schema origin ≡ true → (at : IsReadyAt origin p x)
      → content_of (site_apply origin p x) ≡ content_after x.schema origin at.arrival.txn (content_of x)
  content_applied p x master at =
      ap content_of (applied_becomes p x at ∙ finished_by-master origin at.arrival x master (effect_here origin at.arrival x))
      ∙ ap (λ (t : Told). t.content) (told-master origin at.arrival x (effect_here origin at.arrival x) refl)
