-- What it does to the streams that a transaction is queued.
use Rattle.std.proofs.Common.{◌≡◌, ℕ, ◌+◌, ◌-◌, ◌<◌, ◌≤◌, Bool, true, false, cond, List, [], ◌∷◌, length, map, Option, Some, None, refl, sym, ap, subst, arith}
use Rattle.std.specs.Option.{option_map}
use Rattle.std.specs.List.{AllByRecursion, cons_option}
use Rattle.rep_values.specs.declared.name.SiteName.{SiteName}
use Rattle.deferred_queue.specs.declared.queued_txn.QueuedTxn.{QueuedTxn}
use Rattle.deferred_queue.specs.declared.destination.Destination.{Destination}
use Rattle.deferred_queue.specs.declared.entries.Entry.{Entry}
use Rattle.deferred_queue.specs.Streams.{Mark, destination_to, acked_by, in_order}
use Rattle.rep_values.specs.SiteNames.{is_same_site}
use Rattle.deferred_queue.specs.QueueState.{Kept, QueueState, kept_of, entry_of, sent_to, destinations_of, queued, stream_marks, entries_to, with_entry, extended, held_extended, FallsFrom, AreAlike, IsStream, AreStreams}
use Rattle.deferred_queue.proofs.Sites.{is_same_site-true, is_same_site-refl, eq_true, eq_false_above}
use Rattle.deferred_queue.proofs.Numbers.{entry_of-above, FallsFrom-higher}

-- the room apart, a stream is extended
pub kept_of-held_extended : (to : List Destination) (number : ℕ) (hs : List QueueState) → kept_of (map (held_extended to number) hs) ≡ map (extended to number) (kept_of hs)
kept_of-held_extended to number [] = refl
kept_of-held_extended to number (h ∷ hs) = ap (λ ks. extended to number h.kept ∷ ks) (kept_of-held_extended to number hs)

-- the marks stay
pub marks_of-extended : (to : List Destination) (number : ℕ) (ks : List Kept) → stream_marks (map (extended to number) ks) ≡ stream_marks ks
marks_of-extended to number [] = refl
marks_of-extended to number (k ∷ ks) = ap (λ (ms : List Mark). record { site = k.site; acked = k.acked } ∷ ms) (marks_of-extended to number ks)

-- a new entry is of another number
entry_of-with_entry : (d : Option Destination) (earlier number : ℕ) (entries : List (Entry ℕ)) → earlier < number → entry_of earlier (with_entry d number entries) ≡ entry_of earlier entries
entry_of-with_entry None earlier number entries less = refl
entry_of-with_entry (Some d) earlier number entries less = rw (eq_false_above number earlier less) refl

-- earlier transactions keep their destinations
destinations_of-extended : (to : List Destination) (earlier number : ℕ) (ks : List Kept) → earlier < number → destinations_of earlier (map (extended to number) ks) ≡ destinations_of earlier ks
destinations_of-extended to earlier number [] less = refl
destinations_of-extended to earlier number (k ∷ ks) less =
    rw (entry_of-with_entry (destination_to k.site to) earlier number k.entries less, destinations_of-extended to earlier number ks less) refl

-- so they are queued as they were
pub queued-extended : (to : List Destination) (number : ℕ) (ks : List Kept) (cargoes : List (Option QueuedTxn)) → length cargoes < number → queued (map (extended to number) ks) cargoes ≡ queued ks cargoes
queued-extended to number ks [] less = refl
queued-extended to number ks (cargo ∷ older) less =
    rw (destinations_of-extended to (length older + 1) number ks (omega (arith, less)), queued-extended to number ks older (omega (arith, less))) refl

-- the new one has its own, in the order of the streams
pub destinations_of-new : (to : List Destination) (count number : ℕ) (ks : List Kept) → AllByRecursion (IsStream count) ks → count < number → destinations_of number (map (extended to number) ks) ≡ in_order (stream_marks ks) to
destinations_of-new to count number [] each less = refl
destinations_of-new to count number (k ∷ ks) each less =
    rw (sent (destination_to k.site to)) (ap (cons_option (option_map (λ (d : Destination). record { site = k.site; dep = d.dep }) (destination_to k.site to))) (destinations_of-new to count number ks each.1 less))
  where
    sent : (found : Option Destination) → sent_to k.site (entry_of number (with_entry found number k.entries)) ≡ option_map (λ (d : Destination). record { site = k.site; dep = d.dep }) found
    sent None = rw (entry_of-above count number k.entries each.0.falling less) refl
    sent (Some d) = rw (eq_true number number refl) refl

-- so it is queued before the others, and they are as they were
pub queued-pushed : (to : List Destination) (count number : ℕ) (ks : List Kept) (cargo : QueuedTxn) (cargoes : List (Option QueuedTxn)) → length cargoes ≡ count → number ≡ count + 1 → AllByRecursion (IsStream count) ks
    → queued (map (extended to number) ks) (Some cargo ∷ cargoes) ≡ record { cargo = Some cargo; to = in_order (stream_marks ks) to } ∷ queued ks cargoes
queued-pushed to count number ks cargo cargoes long is each =
    rw (long, ← is, destinations_of-new to count number ks each (omega (arith, is)), queued-extended to number ks cargoes (omega (arith, is, long))) refl

-- a number above the count is above the numbers in each stream
pub each_falls : (count number : ℕ) (hs : List QueueState) → number ≡ count + 1 → AllByRecursion (IsStream count) (kept_of hs) → AllByRecursion (λ (h : QueueState). FallsFrom (number - 1) h.kept.entries) hs
each_falls count number [] is each = tt
each_falls count number (h ∷ hs) is each = (FallsFrom-higher count (number - 1) h.kept.entries (omega (arith, is)) each.0.falling, each_falls count number hs is each.1)

-- a destination that was found is one of them, to that site
pub found_destination : (P : Destination → Type 0) (site : SiteName) (ds : List Destination) (d : Destination) → AllByRecursion P ds → destination_to site ds ≡ Some d → P d × (d.site ≡ site)
found_destination P site [] d all found = absurd (cc found)
found_destination P site (x ∷ xs) d all found = go (is_same_site x.site site) refl (found_destination P site xs d all.1) found
  where
    go : (b : Bool) → is_same_site x.site site ≡ b → (destination_to site xs ≡ Some d → P d × (d.site ≡ site)) → cond b (Some x) (destination_to site xs) ≡ Some d → P d × (d.site ≡ site)
    go true is later there = let same : x ≡ d = cc there in rw (← same) (all.0, is_same_site-true x.site site is)
    go false is later there = later there

-- what is read by a stream's site is what this stream has
pub record IsOwn (all : List Kept) (k : Kept) : Type 0 where
  pub entries : entries_to k.site all ≡ k.entries
  pub acked : acked_by k.site (stream_marks all) ≡ k.acked

-- so it is with each stream, where those to one site are the same
pub each_own : (ks : List Kept) → AreAlike ks → AllByRecursion (IsOwn ks) ks
each_own [] alike = tt
each_own (k ∷ ks) alike = (record { entries = rw (is_same_site-refl k.site) refl; acked = rw (is_same_site-refl k.site) refl }, later ks alike.0 (each_own ks alike.1))
  where
    later : (others : List Kept) → AllByRecursion (λ (other : Kept). other.site ≡ k.site → other ≡ k) others → AllByRecursion (IsOwn ks) others → AllByRecursion (IsOwn (k ∷ ks)) others
    later [] same own = tt
    later (other ∷ others) same own = (one (is_same_site k.site other.site) refl, later others same.1 own.1)
      where
        one : (b : Bool) → is_same_site k.site other.site ≡ b → IsOwn (k ∷ ks) other
        one true is =
            let equal : other ≡ k = same.0 (sym (is_same_site-true k.site other.site is)) in
            record { entries = rw is (ap (λ (x : Kept). x.entries) (sym equal)); acked = rw is (ap (λ (x : Kept). x.acked) (sym equal)) }
        one false is = record { entries = rw is own.0.entries; acked = rw is own.0.acked }

-- the streams are streams of one transaction more
pub AreStreams-extended : (to : List Destination) (count number : ℕ) (ks : List Kept) → number ≡ count + 1 → AllByRecursion (λ (d : Destination). d.dep ≤ length (entries_to d.site ks)) to → AreStreams count ks
    → AreStreams number (map (extended to number) ks)
AreStreams-extended to count number all is back are = record { each = each_extended all are.each (each_own all are.alike); alike = alike_extended all are.alike }
  where
    grown : (found : Option Destination) (k : Kept) → IsStream count k → ((d : Destination) → found ≡ Some d → d.dep ≤ length k.entries)
        → IsStream number (record { site = k.site; acked = k.acked; entries = with_entry found number k.entries })
    grown None k stream earlier = record { falling = FallsFrom-higher count number k.entries (omega (arith, is)) stream.falling; earlier = stream.earlier; within = stream.within }
    grown (Some d) k stream earlier = record {
      falling = (omega (arith, is), omega (arith, is), FallsFrom-higher count (number - 1) k.entries (omega (arith, is)) stream.falling);
      earlier = (earlier d refl, stream.earlier);
      within = omega (arith, stream.within);
    }

    own_back : (k : Kept) → IsOwn all k → (d : Destination) → destination_to k.site to ≡ Some d → d.dep ≤ length k.entries
    own_back k own d found =
        let known = found_destination (λ (x : Destination). x.dep ≤ length (entries_to x.site all)) k.site to d back found in
        let here : d.dep ≤ length (entries_to k.site all) = subst (λ (s : SiteName). d.dep ≤ length (entries_to s all)) known.1 known.0 in
        rw own.entries at here

    each_extended : (ks : List Kept) → AllByRecursion (IsStream count) ks → AllByRecursion (IsOwn all) ks → AllByRecursion (IsStream number) (map (extended to number) ks)
    each_extended [] each own = tt
    each_extended (k ∷ ks) each own = (grown (destination_to k.site to) k each.0 (own_back k own.0), each_extended ks each.1 own.1)

    alike_one : (k : Kept) (ks : List Kept) → AllByRecursion (λ (other : Kept). other.site ≡ k.site → other ≡ k) ks
        → AllByRecursion (λ (other : Kept). other.site ≡ k.site → other ≡ extended to number k) (map (extended to number) ks)
    alike_one k [] alike = tt
    alike_one k (other ∷ ks) alike = (λ same. ap (extended to number) (alike.0 same), alike_one k ks alike.1)

    alike_extended : (ks : List Kept) → AreAlike ks → AreAlike (map (extended to number) ks)
    alike_extended [] alike = tt
    alike_extended (k ∷ ks) alike = (alike_one k ks alike.0, alike_extended ks alike.1)
