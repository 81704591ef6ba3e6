-- What a purge leaves of the transactions that are kept.
use Rattle.std.proofs.Common.{◌≡◌, ℕ, zero, suc, ◌+◌, ◌-◌, ◌≤◌, ◌&&◌, Bool, true, false, not, cond, List, [], ◌∷◌, length, Option, Some, None, refl, sym, ap, ◌∙◌, arith}
use Rattle.std.specs.Option.{option_map}
use Rattle.std.specs.Prelude.{nat_le}
use Rattle.std.specs.List.{AllByRecursion, filter, cons_option, list_all}
use Rattle.rep_values.specs.declared.name.SiteName.{SiteName}
use Rattle.deferred_queue.specs.declared.queued_txn.QueuedTxn.{QueuedTxn}
use Rattle.deferred_queue.specs.declared.destination.Destination.{Destination}
use Rattle.deferred_queue.specs.declared.entries.Entry.{Entry}
use Rattle.deferred_queue.specs.Streams.{destination_to, last_position, acked_by, is_acknowledged, purged}
use Rattle.deferred_queue.specs.QueueState.{Kept, FallsFrom, entry_of, queued_txn_of, queued_txns_to, sent_to, destinations_of, queued, stream_marks, entries_to, has_passed, is_unpassed, IsStream, AreStreams}
use Rattle.deferred_queue.proofs.Numbers.{entry_of-filter, up_to, FallsFrom-up_to, entry_of-up_to, position_of-up_to}
use Rattle.deferred_queue.proofs.QueueStreams.{stream_kept, entries_to-falls, destination_to-destinations_of}
use Rattle.deferred_queue.proofs.Extending.{IsOwn, each_own}
use Rattle.deferred_queue.proofs.QueuedTxns.{length-queued_txns_to}

-- how many of the first transactions go to a site
last_position-first : (site : SiteName) (count first : ℕ) (streams : List Kept) (kept : List (Entry QueuedTxn)) → AreStreams count streams
    → last_position site (queued streams (queued_txns_to first kept)) ≡ length (up_to first (entries_to site streams))
last_position-first site count first streams kept are = (stream_kept site streams (queued_txns_to first kept) (up_to first entries) fall known).same_length
  where
    entries : List (Entry ℕ)
    entries = entries_to site streams

    fall : FallsFrom (length (queued_txns_to first kept)) (up_to first entries)
    fall = rw (length-queued_txns_to first kept) (FallsFrom-up_to count first entries (entries_to-falls site count streams are.each))

    known : (number : ℕ) → number ≤ length (queued_txns_to first kept) → destination_to site (destinations_of number streams) ≡ sent_to site (entry_of number (up_to first entries))
    known number le =
        destination_to-destinations_of site number streams are.alike ∙ ap (sent_to site) (sym (entry_of-up_to number first entries (rw (length-queued_txns_to first kept) at le)))

-- a transaction's destinations have acknowledged it where each stream has passed its number
acknowledged-passed : (count first : ℕ) (streams : List Kept) (kept : List (Entry QueuedTxn)) → AreStreams count streams
    → is_acknowledged (stream_marks streams) (queued streams (queued_txns_to first kept)) (destinations_of (suc first) streams) ≡ list_all (has_passed (suc first)) streams
acknowledged-passed count first streams kept are = each streams are.each (each_own streams are.alike)
  where
    test : Destination → Bool
    test d = nat_le (last_position d.site (queued streams (queued_txns_to first kept)) + 1) (acked_by d.site (stream_marks streams))

    one : (k : Kept) → IsStream count k → IsOwn streams k → (found : Option (Entry ℕ)) → entry_of (suc first) k.entries ≡ found → (rest : List Destination)
        → list_all test (cons_option (sent_to k.site found) rest) ≡ (has_passed (suc first) k && list_all test rest)
    one k stream own None is rest = rw (position_of-up_to count (suc first) k.entries (omega arith) stream.falling, is) refl
    one k stream own (Some e) is rest =
        let before : suc first - 1 ≡ first = omega arith in
        rw (position_of-up_to count (suc first) k.entries (omega arith) stream.falling, is, before, last_position-first k.site count first streams kept are, own.entries, own.acked) refl

    each : (ks : List Kept) → AllByRecursion (IsStream count) ks → AllByRecursion (IsOwn streams) ks → list_all test (destinations_of (suc first) ks) ≡ list_all (has_passed (suc first)) ks
    each [] all own = refl
    each (k ∷ ks) all own = one k all.0 own.0 (entry_of (suc first) k.entries) refl (destinations_of (suc first) ks) ∙ ap (λ b. has_passed (suc first) k && b) (each ks all.1 own.1)

-- without what each stream has passed, the queue is purged
pub queued-purged : (count first : ℕ) (streams : List Kept) (kept : List (Entry QueuedTxn)) → AreStreams count streams
    → queued streams (queued_txns_to first (filter (λ e. is_unpassed streams e.number) kept)) ≡ purged (stream_marks streams) (queued streams (queued_txns_to first kept))
queued-purged count zero streams kept are = refl
queued-purged count (suc first) streams kept are =
    let next : first + 1 ≡ suc first = omega arith in
    rw (length-queued_txns_to first (filter (λ e. is_unpassed streams e.number) kept), length-queued_txns_to first kept, queued-purged count first streams kept are, cargo, next, acknowledged-passed count first streams kept are) refl
  where
    cargo : queued_txn_of (suc first) (filter (λ e. is_unpassed streams e.number) kept) ≡ cond (list_all (has_passed (suc first)) streams) None (queued_txn_of (suc first) kept)
    cargo = rw (entry_of-filter (is_unpassed streams) (suc first) kept) (go (list_all (has_passed (suc first)) streams))
      where
        go : (b : Bool) → option_map (λ (e : Entry QueuedTxn). e.value) (cond (not b) (entry_of (suc first) kept) None) ≡ cond b None (option_map (λ (e : Entry QueuedTxn). e.value) (entry_of (suc first) kept))
        go true = refl
        go false = refl
