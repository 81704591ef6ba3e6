-- What a site of procedures sends: transactions of its own, each with an empty past and behind what it depends on.
use Rattle.std.proofs.Common.{◌≡◌, ℕ, ◌+◌, ◌==◌, List, [], ◌∷◌, length, Bool, true, false, cond, Some, None, refl, sym, ap, ◌∙◌, subst}
use Rattle.std.specs.Prelude.{Option}
use Rattle.std.specs.List.{AllByRecursion}
use Rattle.rep_values.specs.declared.name.SiteName.{SiteName}
use Rattle.rep_calls.specs.declared.call.Txn.{Txn}
use Rattle.deferred_queue.specs.declared.queued_txn.QueuedTxn.{QueuedTxn}
use Rattle.deferred_queue.specs.Streams.{InStream, queue_stream_to, at_position}
use Rattle.packet_code.specs.declared.packet.Packet.{Packet}
use Rattle.packet_code.specs.declared.packet.Packet.TheVariants.{Carry}
use Rattle.site_state.specs.declared.entry.Entry.{Entry}
use Rattle.site_state.specs.declared.entry.Entry.TheVariants.{Local, Done, Error, Executed, Dropped, Refreshed}
use Rattle.rep_schema.specs.Sites.{is_among}
use Rattle.site_state.specs.Streams.{with_one}
use Rattle.site_state.specs.Fits.{EntryHas}
use Rattle.proc_state.specs.State.{ProcState, own_txns, stream_in, proc_queue}
use Rattle.proc_state.specs.Packets.{carry_by, carry_found, proc_packet}
use Rattle.proc_state.specs.Fits.{IsProcTxn}
use Rattle.proc_state.specs.Events.{PacketFits}
use Rattle.proc_state.specs.Laws.{SentPacketsFit}
use Rattle.proc_state.proofs.Depending.{Numbers, Numbers-deferred_in, streams_depend_on_sharers}

-- ---- what holds of each transaction of a journal

module _ (P : Txn → Type 0) where
  -- holds of the site's own
  pub own_have : (journal : List Entry) → AllByRecursion (EntryHas P) journal → AllByRecursion P (own_txns journal)
  own_have [] all = tt
  own_have (Local number txn ∷ es) all = (all.0, own_have es all.1)
  own_have (Done origin position onward txn ∷ es) all = own_have es all.1
  own_have (Error origin position call error txn ∷ es) all = own_have es all.1
  own_have (Executed origin position onward txn ∷ es) all = own_have es all.1
  own_have (Dropped origin position ∷ es) all = own_have es all.1
  own_have (Refreshed moment ∷ es) all = own_have es all.1

  -- and of those in the stream to a site
  stream_has : (site : SiteName) (lists : List (List SiteName)) (txns : List Txn) → AllByRecursion P txns → AllByRecursion P (stream_in site lists txns)
  stream_has site [] txns all = tt
  stream_has site (to ∷ lists) [] all = tt
  stream_has site (to ∷ lists) (txn ∷ txns) all = go (is_among to site) (stream_has site lists txns all.1)
    where
      go : (b : Bool) → AllByRecursion P (stream_in site lists txns) → AllByRecursion P (with_one b txn (stream_in site lists txns))
      go true later = (all.0, later)
      go false later = later

  cargo_has : (ss : List InStream) (txns : List Txn) (position : ℕ) (s : InStream) (cargo : QueuedTxn) → Numbers ss txns → AllByRecursion P txns → at_position position ss ≡ Some s → s.cargo ≡ Some cargo → P cargo.txn
  cargo_has [] txns position s cargo numbers all there is = absurd (cc there)
  cargo_has (x ∷ ss) [] position s cargo numbers all there is = absurd numbers
  cargo_has (x ∷ ss) (t ∷ txns) position s cargo numbers all there is = go (position == length ss + 1) there (λ later. cargo_has ss txns position s cargo numbers.2 all.1 later is)
    where
      go : (b : Bool) → cond b (Some x) (at_position position ss) ≡ Some s → (at_position position ss ≡ Some s → P cargo.txn) → P cargo.txn
      go true found later =
          let same : x ≡ s = cc found in
          let carries : Some (record { txn = t; past = [] }) ≡ Some cargo = sym numbers.0 ∙ ap (λ (y : InStream). y.cargo) same ∙ is in
          let one : record { txn = t; past = [] } ≡ cargo = cc carries in
          subst (λ (y : QueuedTxn). P y.txn) one all.0
      go false found later = later found

  -- so of what is sent
  pub sent_has : (x : ProcState) (to : SiteName) (position : ℕ) (s : InStream) (cargo : QueuedTxn) → AllByRecursion (EntryHas P) x.journal → at_position position (queue_stream_to to (proc_queue x)) ≡ Some s
      → s.cargo ≡ Some cargo → P cargo.txn
  sent_has x to position s cargo all there is =
      cargo_has (queue_stream_to to (proc_queue x)) (stream_in to x.lists (own_txns x.journal)) position s cargo (Numbers-deferred_in to x.lists (own_txns x.journal))
      (stream_has to x.lists (own_txns x.journal) (own_have x.journal all)) there is

-- a packet is of a transaction in the stream
pub record IsSent (x : ProcState) (to : SiteName) (position : ℕ) (packet : Packet) : Type 0 where
  pub sent : InStream
  pub cargo : QueuedTxn
  pub there : at_position position (queue_stream_to to (proc_queue x)) ≡ Some sent
  pub carries : sent.cargo ≡ Some cargo
  pub is : packet ≡ Carry x.me to sent.number position sent.dep cargo.past cargo.txn

pub is_sent : (x : ProcState) (to : SiteName) (position : ℕ) (packet : Packet) → proc_packet to position x ≡ Some packet → IsSent x to position packet
is_sent x to position packet found = go (at_position position (queue_stream_to to (proc_queue x))) refl found
  where
    by : (s : InStream) → at_position position (queue_stream_to to (proc_queue x)) ≡ Some s → (o : Option QueuedTxn) → s.cargo ≡ o → carry_by x.me to position s o ≡ Some packet → IsSent x to position packet
    by s there None carries here = absurd (cc here)
    by s there (Some cargo) carries here =
        let same : Carry x.me to s.number position s.dep cargo.past cargo.txn ≡ packet = cc here in
        record { sent = s; cargo = cargo; there = there; carries = carries; is = sym same }

    go : (o : Option InStream) → at_position position (queue_stream_to to (proc_queue x)) ≡ o → carry_found x.me to position o ≡ Some packet → IsSent x to position packet
    go None there here = absurd (cc here)
    go (Some s) there here = by s there s.cargo refl here

pub sent_packets_fit : SentPacketsFit
sent_packets_fit x to position packet fits found =
    let sent = is_sent x to position packet found in
    let txn : IsProcTxn x.schema x.procedures sent.cargo.txn = sent_has (IsProcTxn x.schema x.procedures) x to position sent.sent sent.cargo fits.journal sent.there sent.carries in
    subst PacketFits (sym sent.is) ((streams_depend_on_sharers x to position sent.sent sent.cargo sent.there sent.carries).earlier, txn.some, txn.most)
