-- What is read of a site's inboxes is what the site's state says of the other masters.
use Rattle.std.proofs.Common.{◌≡◌, ℕ, ◌<◌, ◌≤◌, List, [], ◌∷◌, Bool, true, false, cond, Some, None, refl, sym, ◌∙◌, arith}
use Rattle.std.specs.Prelude.{◌&&◌, nat_le}
use Rattle.std.proofs.lemmas.Bool.Decides.{nat_tests}
use Rattle.rep_lists.specs.Rising.{IsRising, find_at}
use Rattle.rep_values.specs.declared.name.SiteName.{SiteName}
use Rattle.rep_schema.specs.Tables.{Rows}
use Rattle.rep_values.specs.SiteNames.{is_same_site}
use Rattle.origin_marks.specs.Marks.{IsLowWater}
use Rattle.origin_marks.specs.Marks as marks
use Rattle.error_queue.specs.ErrorLists.{ErrorList}
use Rattle.site_state.specs.declared.arrival.Arrival.{Arrival}
use Rattle.site_state.specs.declared.answers.Why.TheVariants as why
use Rattle.site_state.specs.State.{SenderState, sender_of, arrival_beside, arrived_in, arrived_at, arrivals}
use Rattle.site_state.specs.Journal.{finished, low_water}
use Rattle.site_state.specs.Ready.{is_due, stale_of}
use Rattle.site_state.proofs.FittingSites.{arrival_has}
use Rattle.sender_inbox.specs.Incoming.{Incoming, by_position}
use Rattle.sender_inbox.specs.Inboxes.{senders_in, inbox_of}
use Rattle.sender_inbox.proofs.SenderInboxes.{sender_of-inboxes, finished_found, mark_found, unfinished_none, low_water-none}
use Rattle.proc_state.specs.State.{ProcState, as_site}
use Rattle.proc_state.specs.Fits.{SendersPass}
use Rattle.proc_calls.specs.Outgoing.{CallsOut}
use Rattle.proc_calls.specs.ProcSiteInvariant.{ProcSiteHolds}

-- nothing that arrived at a position has a past
pub past_at : (origin : SiteName) (position : ℕ) (ss : List SenderState) (a : Arrival) → SendersPass ss → arrived_at origin position ss ≡ Some a → a.past ≡ []
past_at origin position [] a none found = absurd (cc found)
past_at origin position (s ∷ ss) a none found = go (is_same_site s.origin origin) (past_at origin position ss a none.1) found
  where
    go : (b : Bool) → (arrived_at origin position ss ≡ Some a → a.past ≡ []) → find_at (arrival_beside position) (arrived_in (cond b (Some s) (sender_of origin ss))) ≡ Some a → a.past ≡ []
    go true later found = arrival_has (λ (a : Arrival). a.past ≡ []) (arrival_beside position) s.arrived a none.0.pasts found
    go false later found = later found

module _ (x : ProcState) (rows : List Rows) (inboxes : List Incoming) (out : CallsOut) (lists : List ErrorList) (h : ProcSiteHolds x rows inboxes out lists) (senders : x.senders ≡ senders_in inboxes) (origin : SiteName) where
  -- ---- a site that is no other master

  module _ (none : inbox_of origin inboxes ≡ None) where
    pub no_sender : sender_of origin x.senders ≡ None
    no_sender = rw (senders, sender_of-inboxes origin inboxes, none) refl

    pub mark_none : 0 ≡ low_water origin x.journal
    mark_none = sym (low_water-none x.journal x.senders h.arrived origin no_sender)

    pub stale_none : (position : ℕ) → Some why.NotArrived ≡ stale_of origin position (as_site x)
    stale_none position = rw (unfinished_none x.journal x.senders h.arrived origin no_sender position, no_sender) refl

    pub rising_none : (s : SenderState) → sender_of origin x.senders ≡ Some s → IsRising by_position s.arrived
    rising_none s there = absurd (cc (there, no_sender))

    pub nothing_arrived : arrivals origin (as_site x) ≡ []
    nothing_arrived = rw no_sender refl

    pub nothing_at : (position : ℕ) → arrived_at origin position x.senders ≡ None
    nothing_at position = rw no_sender refl

  -- ---- another master

  module _ (i : Incoming) (found : inbox_of origin inboxes ≡ Some i) where
    pub sender_is : sender_of origin x.senders ≡ Some i.sender
    sender_is = rw (senders, sender_of-inboxes origin inboxes, found) refl

    -- its arrivals rise where the inbox's do
    pub rising_found : IsRising by_position i.sender.arrived → (s : SenderState) → sender_of origin x.senders ≡ Some s → IsRising by_position s.arrived
    rising_found rising s there = let same : i.sender ≡ s = cc (there, sender_is) in rw (← same) rising

    pub arrivals_are : arrivals origin (as_site x) ≡ i.sender.arrived
    arrivals_are = rw sender_is refl

    pub arrived_is : (position : ℕ) → find_at (arrival_beside position) i.sender.arrived ≡ arrived_at origin position x.senders
    arrived_is position = rw sender_is refl

    pub mark_is : (n : ℕ) → IsLowWater (marks.finished i.marked) n → n ≡ low_water origin x.journal
    mark_is n is = mark_found x.journal inboxes h.follow origin i found n is

    pub finished_is : (position : ℕ) → marks.finished i.marked position ≡ finished origin x.journal position
    finished_is position = finished_found x.journal inboxes h.follow origin i found position

    module _ (position : ℕ) where
      pub stale_finished : marks.finished i.marked position ≡ true → Some why.Finished ≡ stale_of origin position (as_site x)
      stale_finished is = let done = sym (finished_is position) ∙ is in rw done refl

      module _ (open' : marks.finished i.marked position ≡ false) where
        not_yet : finished origin x.journal position ≡ false
        not_yet = sym (finished_is position) ∙ open'

        pub stale_absent : find_at (arrival_beside position) i.sender.arrived ≡ None → Some why.NotArrived ≡ stale_of origin position (as_site x)
        stale_absent none = rw (not_yet, sender_is, none) refl

        module _ (a : Arrival) (there : find_at (arrival_beside position) i.sender.arrived ≡ Some a) where
          no_past : a.past ≡ []
          no_past = past_at origin position x.senders a h.fits.passable (rw sender_is there)

          -- without a past it is due where what it depends on is finished
          due : is_due origin (as_site x) a ≡ nat_le a.dep (low_water origin x.journal)
          due = rw no_past (go (nat_le a.dep (low_water origin x.journal)))
            where
              go : (b : Bool) → (b && true) ≡ b
              go true = refl
              go false = refl

          pub stale_early : low_water origin x.journal < a.dep → Some why.NotReady ≡ stale_of origin position (as_site x)
          stale_early early =
              let not_due : is_due origin (as_site x) a ≡ false = due ∙ grind (arith, nat_tests, early) in
              rw (not_yet, sender_is, there, not_due) refl

          pub stale_ready : a.dep ≤ low_water origin x.journal → None ≡ stale_of origin position (as_site x)
          stale_ready ready =
              let is : is_due origin (as_site x) a ≡ true = due ∙ grind (arith, nat_tests, ready) in
              rw (not_yet, sender_is, there, is) refl
