-- The transactions that are kept, by their numbers and in order.
use Rattle.std.proofs.Common.{◌≡◌, ℕ, zero, suc, ◌+◌, ◌-◌, ◌<◌, ◌≤◌, ◌==◌, Bool, true, false, cond, List, [], ◌∷◌, length, reverse, map, Some, None, refl, ap, subst, ◌∙◌, arith}
use Rattle.std.specs.Option.{option_map}
use Rattle.std.specs.Prelude.{slice_get}
use Rattle.std.specs.List.{cons_option}
use Rattle.std.proofs.lemmas.Bool.Decides.{nat_tests}
use Rattle.rep_values.specs.declared.name.SiteName.{SiteName}
use Rattle.deferred_queue.specs.declared.queued_txn.QueuedTxn.{QueuedTxn}
use Rattle.deferred_queue.specs.declared.entries.Entry.{Entry}
use Rattle.deferred_queue.specs.Streams.{Numbered, queue_stream_to, at_position, numbered}
use Rattle.deferred_queue.specs.QueueState.{Kept, FallsFrom, entry_of, queued_txn_of, queued_txns_to, queued, entries_to, AreStreams}
use Rattle.deferred_queue.proofs.Sites.{eq_true}
use Rattle.deferred_queue.proofs.Positions.{at_position-reverse}
use Rattle.deferred_queue.proofs.Numbers.{entry_of-above, number_within}
use Rattle.deferred_queue.proofs.QueueStreams.{IsKeptAs, length-queued, entries_to-falls, stream_to-queued}

-- there are as many as the count
pub length-queued_txns_to : (count : ℕ) (kept : List (Entry QueuedTxn)) → length (queued_txns_to count kept) ≡ count
length-queued_txns_to zero kept = refl
length-queued_txns_to (suc count) kept = ap suc (length-queued_txns_to count kept)

-- each at its number
pub at_position-queued_txns_to : (count number : ℕ) (kept : List (Entry QueuedTxn)) → 1 ≤ number → number ≤ count → at_position number (queued_txns_to count kept) ≡ Some (queued_txn_of number kept)
at_position-queued_txns_to zero number kept from_one within = absurd (omega (arith, from_one, within))
at_position-queued_txns_to (suc count) number kept from_one within = rw (length-queued_txns_to count kept) (go (number == count + 1) refl (at_position-queued_txns_to count number kept from_one))
  where
    go : (b : Bool) → (number == count + 1) ≡ b → (number ≤ count → at_position number (queued_txns_to count kept) ≡ Some (queued_txn_of number kept))
        → cond b (Some (queued_txn_of (suc count) kept)) (at_position number (queued_txns_to count kept)) ≡ Some (queued_txn_of number kept)
    go true is later = let same : suc count ≡ number = grind (arith, nat_tests) in rw same refl
    go false is later = later (grind (arith, nat_tests))

-- a later one isn't among them
queued_txns_to-above : (count : ℕ) (e : Entry QueuedTxn) (es : List (Entry QueuedTxn)) → count < e.number → queued_txns_to count (e ∷ es) ≡ queued_txns_to count es
queued_txns_to-above zero e es above = refl
queued_txns_to-above (suc count) e es above =
    let differ : (e.number == suc count) ≡ false = grind (arith, nat_tests) in
    rw (differ, queued_txns_to-above count e es (omega (arith, above))) refl

-- a new transaction is the last of them
pub queued_txns_to-pushed : (count : ℕ) (cargo : QueuedTxn) (es : List (Entry QueuedTxn)) → queued_txns_to (count + 1) (record { number = count + 1; value = cargo } ∷ es) ≡ Some cargo ∷ queued_txns_to count es
queued_txns_to-pushed count cargo es =
    let next : count + 1 ≡ suc count = omega arith in
    rw (next, eq_true (suc count) (suc count) refl, queued_txns_to-above count (record { number = suc count; value = cargo }) es (omega arith)) refl

-- an entry as a contract sees it
abbrev pub as_numbered : Entry QueuedTxn → Numbered
as_numbered e = record { number = e.number; cargo = e.value }

-- those that aren't purged are those that are kept
pub numbered-queued : (streams : List Kept) (count : ℕ) (kept : List (Entry QueuedTxn)) → FallsFrom count kept → numbered (queued streams (queued_txns_to count kept)) ≡ map as_numbered kept
numbered-queued streams zero [] falls = refl
numbered-queued streams zero (e ∷ es) falls = absurd (omega (arith, falls.0, falls.1))
numbered-queued streams (suc count) [] falls = numbered-queued streams count [] tt
numbered-queued streams (suc count) (e ∷ es) falls = rw (length-queued streams (queued_txns_to count (e ∷ es)), length-queued_txns_to count (e ∷ es)) (go (e.number == suc count) refl (numbered-queued streams count es) (numbered-queued streams count (e ∷ es)))
  where
    go : (b : Bool) → (e.number == suc count) ≡ b → (FallsFrom count es → numbered (queued streams (queued_txns_to count es)) ≡ map as_numbered es)
        → (FallsFrom count (e ∷ es) → numbered (queued streams (queued_txns_to count (e ∷ es))) ≡ map as_numbered (e ∷ es))
        → cons_option (option_map (λ (cargo : QueuedTxn). record { number = count + 1; cargo = cargo }) (option_map (λ (x : Entry QueuedTxn). x.value) (cond b (Some e) (entry_of (suc count) es)))) (numbered (queued streams (queued_txns_to count (e ∷ es))))
        ≡ map as_numbered (e ∷ es)
    go true is rest all =
        let same : e.number ≡ count + 1 = grind (arith, nat_tests) in
        let below : FallsFrom count es = subst (λ (bound : ℕ). FallsFrom bound es) (omega (arith, same)) falls.2 in
        rw (queued_txns_to-above count e es (omega (arith, same)), rest below, same) refl
    go false is rest all =
        let lower : e.number ≤ count = grind (arith, nat_tests, falls.1) in
        rw (entry_of-above (e.number - 1) (suc count) es falls.2 (omega (arith, lower))) (all (falls.0, lower, falls.2))

at_position-map : {X Y : Type 0} (f : X → Y) (position : ℕ) (xs : List X) → at_position position (map f xs) ≡ option_map f (at_position position xs)
at_position-map f position [] = refl
at_position-map f position (x ∷ xs) = rw (same_length xs) (go (position == length xs + 1) (at_position-map f position xs))
  where
    same_length : (ys : List _) → length (map f ys) ≡ length ys
    same_length [] = refl
    same_length (y ∷ ys) = ap suc (same_length ys)

    go : (b : Bool) → at_position position (map f xs) ≡ option_map f (at_position position xs) → cond b (Some (f x)) (at_position position (map f xs)) ≡ option_map f (cond b (Some x) (at_position position xs))
    go true later = refl
    go false later = later

-- and at their places
pub at_position-in_order : (streams : List Kept) (count : ℕ) (items : List (Entry QueuedTxn)) (place : ℕ) → FallsFrom count (reverse items)
    → at_position (place + 1) (numbered (queued streams (queued_txns_to count (reverse items)))) ≡ option_map as_numbered (slice_get items place)
at_position-in_order streams count items place falls =
    let next : place + 1 ≡ suc place = omega arith in
    rw (numbered-queued streams count (reverse items) falls, next) (at_position-map as_numbered (suc place) (reverse items) ∙ ap (option_map as_numbered) (at_position-reverse items place))

-- the stream to a site holds what its entries tell
pub stream_to-kept : (site : SiteName) (count : ℕ) (streams : List Kept) (kept : List (Entry QueuedTxn)) → AreStreams count streams
    → IsKeptAs (entries_to site streams) (queued_txns_to count kept) (queue_stream_to site (queued streams (queued_txns_to count kept)))
stream_to-kept site count streams kept are = stream_to-queued site streams (queued_txns_to count kept) (rw (length-queued_txns_to count kept) are)

-- a position without an entry has no transaction
pub nothing_at : (site : SiteName) (count position : ℕ) (streams : List Kept) (kept : List (Entry QueuedTxn)) → AreStreams count streams
    → at_position position (entries_to site streams) ≡ None → at_position position (queue_stream_to site (queued streams (queued_txns_to count kept))) ≡ None
nothing_at site count position streams kept are none = (stream_to-kept site count streams kept are).same position ∙ rw none refl

-- one with an entry has the transaction of that number, where it is kept
pub something_at : (site : SiteName) (count position : ℕ) (streams : List Kept) (kept : List (Entry QueuedTxn)) (e : Entry ℕ) → AreStreams count streams
    → at_position position (entries_to site streams) ≡ Some e
    → at_position position (queue_stream_to site (queued streams (queued_txns_to count kept))) ≡ Some (record { number = e.number; dep = e.value; cargo = queued_txn_of e.number kept })
something_at site count position streams kept e are found =
    let within = number_within count position (entries_to site streams) e (entries_to-falls site count streams are.each) found in
    (stream_to-kept site count streams kept are).same position ∙ rw (found, at_position-queued_txns_to count e.number kept within.0 within.1) refl
