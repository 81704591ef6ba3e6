-- What a site finds to send in its queue is what the site's state says.
use Rattle.std.proofs.Common.{◌≡◌, ℕ, ◌+◌, ◌==◌, List, [], ◌∷◌, length, Bool, true, false, cond, Some, None, refl, sym, ap, ◌∙◌, arith, subst}
use Rattle.std.specs.Prelude.{Option, option_map}
use Rattle.std.specs.List.{AllByRecursion}
use Rattle.rep_values.specs.declared.name.SiteName.{SiteName}
use Rattle.rep_calls.specs.declared.call.Txn.{Txn}
use Rattle.rep_calls.specs.declared.past.PastEntry.{PastEntry}
use Rattle.deferred_queue.specs.declared.queued_txn.QueuedTxn.{QueuedTxn}
use Rattle.deferred_queue.specs.Streams.{Deferred, InStream, queue_stream_to, at_position, unpurged}
use Rattle.packet_code.specs.declared.packet.Packet.TheVariants.{Carry}
use Rattle.packet_code.specs.Limits.{IsCausalPast}
use Rattle.packet_code.specs.Texts.{PastHasForm}
use Rattle.site_state.specs.Fits.{EntryHas}
use Rattle.proc_state.specs.State.{ProcState, own_txns, stream_in, proc_queue}
use Rattle.proc_state.specs.Packets.{carry_found, proc_packet}
use Rattle.proc_state.proofs.Depending.{Numbers, Numbers-deferred_in}
use Rattle.proc_state.proofs.Sending.{sent_has}
use Rattle.proc_calls.specs.Carrying.{CanBeCarried}

unpurged_is : (found : Option InStream) (a : InStream) → unpurged found ≡ Some a → found ≡ Some a
unpurged_is None a is = absurd (cc is)
unpurged_is (Some b) a is = go b.cargo is
  where
    go : (cargo : Option QueuedTxn) → option_map (λ (c : QueuedTxn). b) cargo ≡ Some a → Some b ≡ Some a
    go None is = absurd (cc is)
    go (Some c) is = is

none_is : (me to : SiteName) (p : ℕ) (found : Option InStream) → unpurged found ≡ None → carry_found me to p found ≡ None
none_is me to p None is = refl
none_is me to p (Some b) is = go b.cargo refl is
  where
    go : (cargo : Option QueuedTxn) → b.cargo ≡ cargo → option_map (λ (c : QueuedTxn). b) cargo ≡ None → carry_found me to p (Some b) ≡ None
    go None carries is = rw carries refl
    go (Some c) carries is = absurd (cc is)

-- nothing in the queue has a past
pastless : (ss : List InStream) (txns : List Txn) (p : ℕ) (s : InStream) (cargo : QueuedTxn) → Numbers ss txns → at_position p ss ≡ Some s → s.cargo ≡ Some cargo → cargo.past ≡ []
pastless [] txns p s cargo numbers there carries = absurd (cc there)
pastless (x ∷ ss) [] p s cargo numbers there carries = absurd numbers
pastless (x ∷ ss) (t ∷ txns) p s cargo numbers there carries = go (p == length ss + 1) there (λ later. pastless ss txns p s cargo numbers.2 later carries)
  where
    go : (b : Bool) → cond b (Some x) (at_position p ss) ≡ Some s → (at_position p ss ≡ Some s → cargo.past ≡ []) → cargo.past ≡ []
    go true found later =
        let same : x ≡ s = cc found in
        let is : Some (record { txn = t; past = [] }) ≡ Some cargo = sym numbers.0 ∙ ap (λ (y : InStream). y.cargo) same ∙ carries in
        let one : record { txn = t; past = [] } ≡ cargo = cc is in
        subst (λ (c : QueuedTxn). c.past ≡ []) one refl
    go false found later = later found

module _ (x : ProcState) (deferred : List Deferred) (queue : deferred ≡ proc_queue x) (to : SiteName) (p : ℕ) where
  -- nothing is found: there is no packet
  pub no_packet : None ≡ unpurged (at_position p (queue_stream_to to deferred)) → None ≡ proc_packet to p x
  no_packet none = sym (none_is x.me to p (at_position p (queue_stream_to to (proc_queue x))) (rw queue at (sym none)))

  module _ (number dep : ℕ) (past : List PastEntry) (txn : Txn) (found : Some (record { number = number; dep = dep; cargo = Some (record { txn = txn; past = past }) }) ≡ unpurged (at_position p (queue_stream_to to deferred))) where
    here : at_position p (queue_stream_to to (proc_queue x)) ≡ Some (record { number = number; dep = dep; cargo = Some (record { txn = txn; past = past }) })
    here = unpurged_is (at_position p (queue_stream_to to (proc_queue x))) _ (rw queue at (sym found))

    -- what is found is the packet
    pub packet_is : Some (Carry x.me to number p dep past txn) ≡ proc_packet to p x
    packet_is = sym (ap (carry_found x.me to p) here)

    -- and can be carried
    pub can_be_carried : AllByRecursion (EntryHas CanBeCarried) x.journal → CanBeCarried txn
    can_be_carried all = sent_has CanBeCarried x to p _ (record { txn = txn; past = past }) all here refl

    pub is_past : PastHasForm past → IsCausalPast x.me past
    is_past form =
        let none : past ≡ [] = pastless (queue_stream_to to (proc_queue x)) (stream_in to x.lists (own_txns x.journal)) p _ (record { txn = txn; past = past }) (Numbers-deferred_in to x.lists (own_txns x.journal)) here refl in
        rw none (record { most = omega arith; each = tt; rise = tt })
