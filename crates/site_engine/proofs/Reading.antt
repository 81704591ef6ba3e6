-- What is read of a site's inboxes is what the site's state says of its senders.
use Rattle.std.proofs.Common.{◌≡◌, ℕ, List, Bool, true, false, Some, None, refl, sym, ◌∙◌, subst}
use Rattle.rep_lists.specs.Rising.{IsRising, find_at}
use Rattle.rep_values.specs.declared.name.SiteName.{SiteName}
use Rattle.rep_schema.specs.Tables.{Rows}
use Rattle.unique_resolve.specs.Numbers.{Numbers}
use Rattle.origin_marks.specs.Marks.{IsLowWater}
use Rattle.origin_marks.specs.Marks as marks
use Rattle.error_queue.specs.ErrorLists.{ErrorList}
use Rattle.site_state.specs.declared.arrival.Arrival.{Arrival}
use Rattle.site_state.specs.declared.answers.Why.TheVariants as why
use Rattle.site_state.specs.State.{SenderState, SiteState, sender_of, arrival_beside, arrived_at, arrivals, first_number}
use Rattle.site_state.specs.Arrivals.{CanPass}
use Rattle.site_state.specs.Journal.{finished, low_water}
use Rattle.site_state.specs.Pasts.{past_of}
use Rattle.site_state.specs.Ready.{covered_at, covered, is_due, stale_of}
use Rattle.sender_inbox.specs.Incoming.{Incoming, by_position}
use Rattle.site_outbox.specs.Outgoing.{Outgoing}
use Rattle.sender_inbox.specs.Inboxes.{senders_in, inbox_of, Follows}
use Rattle.site_engine.specs.SiteInvariant.{SiteHolds}
use Rattle.site_engine.specs.Seen.{past_from}
use Rattle.sender_inbox.proofs.SenderInboxes.{sender_of-inboxes, found_inbox, finished_found, mark_found, low_water-found, unfinished_none, low_water-none}
use Rattle.site_engine.proofs.SeenMasters.{past_from-follows}

module _ (x : SiteState) (rows : List Rows) (numbers : Numbers) (inboxes : List Incoming) (out : Outgoing) (lists : List ErrorList) (room : ℕ) (h : SiteHolds x rows numbers inboxes out lists room) (senders : x.senders ≡ senders_in inboxes) where
  -- what the site has seen of the masters
  pub past_is : past_from x.schema inboxes ≡ past_of x
  past_is = past_from-follows x.schema x.journal inboxes h.follow ∙ rw senders refl

  module _ (origin : SiteName) where
    -- ---- a site that is no sender

    module _ (none : inbox_of origin inboxes ≡ None) where
      pub no_sender : sender_of origin x.senders ≡ None
      no_sender = rw (senders, sender_of-inboxes origin inboxes, none) refl

      pub mark_none : 0 ≡ low_water origin x.journal
      mark_none = sym (low_water-none x.journal x.senders h.arrived origin no_sender)

      pub finished_none : (position : ℕ) → false ≡ finished origin x.journal position
      finished_none position = sym (unfinished_none x.journal x.senders h.arrived origin no_sender position)

      pub covered_none : 0 ≡ covered origin x
      covered_none = rw (no_sender, ← mark_none) refl

      pub stale_none : (position : ℕ) → Some why.NotArrived ≡ stale_of origin position x
      stale_none position = rw (unfinished_none x.journal x.senders h.arrived origin no_sender position, no_sender) refl

      pub first_none : 0 ≡ first_number origin x
      first_none = rw no_sender refl

      pub nothing_arrived : (position : ℕ) → arrived_at origin position x.senders ≡ None
      nothing_arrived position = rw no_sender refl

      pub rising_none : (s : SenderState) → sender_of origin x.senders ≡ Some s → IsRising by_position s.arrived
      rising_none s there = absurd (cc (there, no_sender))

      pub can_pass_none : CanPass origin (arrivals origin x)
      can_pass_none = rw no_sender (record { rising = tt; earlier = tt; others = tt })

    -- ---- a sender

    module _ (i : Incoming) (found : inbox_of origin inboxes ≡ Some i) where
      pub sender_is : sender_of origin x.senders ≡ Some i.sender
      sender_is = rw (senders, sender_of-inboxes origin inboxes, found) refl

      pub first_is : i.sender.first ≡ first_number origin x
      first_is = rw sender_is refl

      pub arrived_is : (position : ℕ) → find_at (arrival_beside position) i.sender.arrived ≡ arrived_at origin position x.senders
      arrived_is position = rw sender_is refl

      -- its arrivals rise where the inbox's do
      pub rising_found : IsRising by_position i.sender.arrived → (s : SenderState) → sender_of origin x.senders ≡ Some s → IsRising by_position s.arrived
      rising_found rising s there = let same : i.sender ≡ s = cc (there, sender_is) in rw (← same) rising

      pub can_pass_found : CanPass i.sender.origin i.sender.arrived → CanPass origin (arrivals origin x)
      can_pass_found can = rw sender_is (subst (λ (o : SiteName). CanPass o i.sender.arrived) (found_inbox (Follows x.journal) origin inboxes i h.follow found).0 can)

      pub arrivals_are : arrivals origin x ≡ i.sender.arrived
      arrivals_are = rw sender_is refl

      pub mark_is : (n : ℕ) → IsLowWater (marks.finished i.marked) n → n ≡ low_water origin x.journal
      mark_is n is = mark_found x.journal inboxes h.follow origin i found n is

      pub covered_is : (n : ℕ) → ((low : ℕ) → IsLowWater (marks.finished i.marked) low → n ≡ covered_at low (Some i.sender)) → n ≡ covered origin x
      covered_is n is = is (low_water origin x.journal) (low_water-found x.journal inboxes h.follow origin i found) ∙ rw sender_is refl

      pub finished_is : (position : ℕ) → marks.finished i.marked position ≡ finished origin x.journal position
      finished_is position = finished_found x.journal inboxes h.follow origin i found position

      module _ (position : ℕ) where
        pub stale_finished : marks.finished i.marked position ≡ true → Some why.Finished ≡ stale_of origin position x
        stale_finished is = let done = sym (finished_is position) ∙ is in rw done refl

        module _ (open' : marks.finished i.marked position ≡ false) where
          not_yet : finished origin x.journal position ≡ false
          not_yet = sym (finished_is position) ∙ open'

          pub stale_absent : find_at (arrival_beside position) i.sender.arrived ≡ None → Some why.NotArrived ≡ stale_of origin position x
          stale_absent none = rw (not_yet, sender_is, none) refl

          pub stale_early : (a : Arrival) → find_at (arrival_beside position) i.sender.arrived ≡ Some a → is_due origin x a ≡ false → Some why.NotReady ≡ stale_of origin position x
          stale_early a there due = rw (not_yet, sender_is, there, due) refl

          pub stale_ready : (a : Arrival) → find_at (arrival_beside position) i.sender.arrived ≡ Some a → is_due origin x a ≡ true → None ≡ stale_of origin position x
          stale_ready a there due = rw (not_yet, sender_is, there, due) refl

        -- what is ready arrived
        pub ready_arrives : find_at (arrival_beside position) i.sender.arrived ≡ None → stale_of origin position x ≡ None → ⊥
        ready_arrives none ready = go (marks.finished i.marked position) refl
          where
            go : (b : Bool) → marks.finished i.marked position ≡ b → ⊥
            go true is = let why_not = stale_finished is in absurd (cc (why_not, ready))
            go false is = let why_not = stale_absent is none in absurd (cc (why_not, ready))
