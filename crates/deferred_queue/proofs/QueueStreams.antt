-- The stream that is computed from the queued transactions is the one that is kept.
use Rattle.std.proofs.Common.{◌≡◌, ℕ, suc, ◌+◌, ◌-◌, ◌<◌, ◌≤◌, ◌==◌, Bool, true, false, cond, List, [], ◌∷◌, length, Option, Some, None, refl, sym, ap, subst, ◌∙◌, arith}
use Rattle.std.specs.Option.{option_map}
use Rattle.std.specs.List.{AllByRecursion, cons_option}
use Rattle.std.proofs.lemmas.Bool.Decides.{nat_tests}
use Rattle.rep_values.specs.declared.name.SiteName.{SiteName}
use Rattle.deferred_queue.specs.declared.queued_txn.QueuedTxn.{QueuedTxn}
use Rattle.deferred_queue.specs.declared.entries.Entry.{Entry}
use Rattle.deferred_queue.specs.Streams.{InStream, destination_to, queue_stream_to, at_position, stream_place}
use Rattle.rep_values.specs.SiteNames.{is_same_site}
use Rattle.deferred_queue.specs.QueueState.{Kept, entry_of, sent_to, destinations_of, queued, entries_to, place_in, FallsFrom, DependBack, AreAlike, IsStream, AreStreams}
use Rattle.deferred_queue.proofs.Sites.{is_same_site-true, eq_true, eq_false, eq_false_above}
use Rattle.deferred_queue.proofs.Numbers.{entry_of-above, number_within}

-- as many are queued as there are transactions
pub length-queued : (streams : List Kept) (cargoes : List (Option QueuedTxn)) → length (queued streams cargoes) ≡ length cargoes
length-queued streams [] = refl
length-queued streams (cargo ∷ older) = ap suc (length-queued streams older)

-- where streams to one site are alike, and the first has no entry of a number, a later one has none
none_alike : (site : SiteName) (number : ℕ) (k : Kept) (ks : List Kept) → AllByRecursion (λ (other : Kept). other.site ≡ k.site → other ≡ k) ks → site ≡ k.site
    → entry_of number k.entries ≡ None → entry_of number (entries_to site ks) ≡ None
none_alike site number k [] alike same none = refl
none_alike site number k (other ∷ ks) alike same none = go (is_same_site other.site site) refl (none_alike site number k ks alike.1 same none)
  where
    go : (b : Bool) → is_same_site other.site site ≡ b → entry_of number (entries_to site ks) ≡ None → entry_of number (cond b other.entries (entries_to site ks)) ≡ None
    go true is later = rw (ap (λ (x : Kept). x.entries) (alike.0 (is_same_site-true other.site site is ∙ same))) none
    go false is later = later

-- a transaction's destination, looked up by its site, is what that site's stream has of it
pub destination_to-destinations_of : (site : SiteName) (number : ℕ) (ks : List Kept) → AreAlike ks → destination_to site (destinations_of number ks) ≡ sent_to site (entry_of number (entries_to site ks))
destination_to-destinations_of site number [] alike = refl
destination_to-destinations_of site number (k ∷ ks) alike = go (is_same_site k.site site) refl (entry_of number k.entries) refl (destination_to-destinations_of site number ks alike.1)
  where
    go : (b : Bool) → is_same_site k.site site ≡ b → (found : Option (Entry ℕ)) → entry_of number k.entries ≡ found
        → destination_to site (destinations_of number ks) ≡ sent_to site (entry_of number (entries_to site ks))
        → destination_to site (cons_option (sent_to k.site found) (destinations_of number ks)) ≡ sent_to site (entry_of number (cond b k.entries (entries_to site ks)))
    go true is (Some e) there later = rw (is, there, is_same_site-true k.site site is) refl
    go true is None there later = later ∙ rw (there, none_alike site number k ks alike.0 (sym (is_same_site-true k.site site is)) there) refl
    go false is (Some e) there later = rw is later
    go false is None there later = later

-- the entry of a transaction with its calls
abbrev pub in_stream : Entry ℕ → Option (Option QueuedTxn) → Option InStream
in_stream e cargo = option_map (λ (t : Option QueuedTxn). record { number = e.number; dep = e.value; cargo = t }) cargo

-- the same of an entry that was looked up, by its number
abbrev pub entry_in_stream : List (Option QueuedTxn) → Option (Entry ℕ) → Option InStream
entry_in_stream cargoes None = None
entry_in_stream cargoes (Some e) = in_stream e (at_position e.number cargoes)

-- a stream's positions have these entries, with the transactions of their numbers
pub record IsKeptAs (entries : List (Entry ℕ)) (cargoes : List (Option QueuedTxn)) (stream : List InStream) : Type 0 where
  pub same_length : length stream ≡ length entries
  pub places : (number : ℕ) → stream_place number stream ≡ place_in number entries
  pub same : (position : ℕ) → at_position position stream ≡ entry_in_stream cargoes (at_position position entries)

-- a transaction without an entry leaves them
kept_later : (t : Option QueuedTxn) (older : List (Option QueuedTxn)) (entries : List (Entry ℕ)) (stream : List InStream) → FallsFrom (length older) entries → IsKeptAs entries older stream → IsKeptAs entries (t ∷ older) stream
kept_later t older entries stream falls kept = record {
  same_length = kept.same_length;
  places = kept.places;
  same = λ position. kept.same position ∙ go position (at_position position entries) refl;
}
  where
    go : (position : ℕ) (found : Option (Entry ℕ)) → at_position position entries ≡ found → entry_in_stream older found ≡ entry_in_stream (t ∷ older) found
    go position None is = refl
    go position (Some e) is = rw (eq_false e.number (length older + 1) (omega (arith, (number_within (length older) position entries e falls is).1))) refl

-- one with an entry is added
kept_more : (t : Option QueuedTxn) (older : List (Option QueuedTxn)) (e : Entry ℕ) (es : List (Entry ℕ)) (stream : List InStream) → e.number ≡ length older + 1 → FallsFrom (length older) es → IsKeptAs es older stream
    → IsKeptAs (e ∷ es) (t ∷ older) (record { number = length older + 1; dep = e.value; cargo = t } ∷ stream)
kept_more t older e es stream is falls kept = record {
  same_length = ap suc kept.same_length;
  places = λ number. rw (kept.same_length, kept.places number, is) refl;
  same = λ position. rw kept.same_length (go position (position == length es + 1));
}
  where
    go : (position : ℕ) (b : Bool) → cond b (Some (record { number = length older + 1; dep = e.value; cargo = t })) (at_position position stream) ≡ entry_in_stream (t ∷ older) (cond b (Some e) (at_position position es))
    go position true = rw (eq_true e.number (length older + 1) is, is) refl
    go position false = (kept_later t older es stream falls kept).same position

-- where the entries of a stream are known by the transactions' destinations, they are its positions
pub stream_kept : (site : SiteName) (streams : List Kept) (cargoes : List (Option QueuedTxn)) (entries : List (Entry ℕ)) → FallsFrom (length cargoes) entries
    → ((number : ℕ) → number ≤ length cargoes → destination_to site (destinations_of number streams) ≡ sent_to site (entry_of number entries))
    → IsKeptAs entries cargoes (queue_stream_to site (queued streams cargoes))
stream_kept site streams [] [] falls known = record { same_length = refl; places = λ number. refl; same = λ position. refl }
stream_kept site streams [] (e ∷ es) falls known = absurd (omega (arith, falls.0, falls.1))
stream_kept site streams (t ∷ older) [] falls known =
    rw (known (length older + 1) (omega arith)) (kept_later t older [] _ tt (stream_kept site streams older [] tt (λ number le. known number (omega (arith, le)))))
stream_kept site streams (t ∷ older) (e ∷ es) falls known = go (e.number == length older + 1) refl (stream_kept site streams older es) (stream_kept site streams older (e ∷ es))
  where
    Later : List (Entry ℕ) → Type 0
    Later entries = FallsFrom (length older) entries → ((number : ℕ) → number ≤ length older → destination_to site (destinations_of number streams) ≡ sent_to site (entry_of number entries))
        → IsKeptAs entries older (queue_stream_to site (queued streams older))

    go : (b : Bool) → (e.number == length older + 1) ≡ b → Later es → Later (e ∷ es) → IsKeptAs (e ∷ es) (t ∷ older) (queue_stream_to site (queued streams (t ∷ older)))
    go true is rest all =
        let same : e.number ≡ length older + 1 = grind (arith, nat_tests) in
        let before : e.number - 1 ≡ length older = omega (arith, same) in
        let below : FallsFrom (length older) es = subst (λ bound. FallsFrom bound es) before falls.2 in
        let earlier = rest below (λ number le. known number (omega (arith, le)) ∙ rw (eq_false_above e.number number (omega (arith, le, same))) refl) in
        rw (known (length older + 1) (omega arith), is, length-queued streams older) (kept_more t older e es _ same below earlier)
    go false is rest all =
        let lower : e.number ≤ length older = grind (arith, nat_tests, falls.1) in
        let below : FallsFrom (length older) (e ∷ es) = (falls.0, lower, falls.2) in
        let none : entry_of (length older + 1) es ≡ None = entry_of-above (e.number - 1) (length older + 1) es falls.2 (omega (arith, lower)) in
        rw (known (length older + 1) (omega arith), is, none) (kept_later t older (e ∷ es) _ below (all below (λ number le. known number (omega (arith, le)))))

-- the entries of a stream of the queue fall
pub entries_to-falls : (site : SiteName) (count : ℕ) (ks : List Kept) → AllByRecursion (IsStream count) ks → FallsFrom count (entries_to site ks)
entries_to-falls site count [] each = tt
entries_to-falls site count (k ∷ ks) each = go (is_same_site k.site site) (entries_to-falls site count ks each.1)
  where
    go : (b : Bool) → FallsFrom count (entries_to site ks) → FallsFrom count (cond b k.entries (entries_to site ks))
    go true later = each.0.falling
    go false later = later

-- so the stream to a site is what its stream in the queue holds
pub stream_to-queued : (site : SiteName) (streams : List Kept) (cargoes : List (Option QueuedTxn)) → AreStreams (length cargoes) streams → IsKeptAs (entries_to site streams) cargoes (queue_stream_to site (queued streams cargoes))
stream_to-queued site streams cargoes are = stream_kept site streams cargoes (entries_to site streams) (entries_to-falls site (length cargoes) streams are.each) (λ number le. destination_to-destinations_of site number streams are.alike)

-- so a position without an entry has no transaction
pub at_position-none : (site : SiteName) (streams : List Kept) (cargoes : List (Option QueuedTxn)) (position : ℕ) → AreStreams (length cargoes) streams
    → at_position position (entries_to site streams) ≡ None → at_position position (queue_stream_to site (queued streams cargoes)) ≡ None
at_position-none site streams cargoes position are none = (stream_to-queued site streams cargoes are).same position ∙ rw none refl

-- and one with an entry has the transaction of that number
pub at_position-some : (site : SiteName) (streams : List Kept) (cargoes : List (Option QueuedTxn)) (position : ℕ) (e : Entry ℕ) (t : Option QueuedTxn) → AreStreams (length cargoes) streams
    → at_position position (entries_to site streams) ≡ Some e → at_position e.number cargoes ≡ Some t
    → at_position position (queue_stream_to site (queued streams cargoes)) ≡ Some (record { number = e.number; dep = e.value; cargo = t })
at_position-some site streams cargoes position e t are found there = (stream_to-queued site streams cargoes are).same position ∙ rw (found, there) refl

-- an entry of a stream of the queue depends on an earlier position
pub earlier_at : (site : SiteName) (count position : ℕ) (ks : List Kept) (e : Entry ℕ) → AllByRecursion (IsStream count) ks → at_position position (entries_to site ks) ≡ Some e → e.value < position
earlier_at site count position [] e each found = absurd (cc found)
earlier_at site count position (k ∷ ks) e each found = go (is_same_site k.site site) (earlier_at site count position ks e each.1) found
  where
    back : (es : List (Entry ℕ)) → DependBack es → at_position position es ≡ Some e → e.value < position
    back [] depend found = absurd (cc found)
    back (x ∷ xs) depend found = step (position == length xs + 1) refl (back xs depend.1) found
      where
        step : (b : Bool) → (position == length xs + 1) ≡ b → (at_position position xs ≡ Some e → e.value < position) → cond b (Some x) (at_position position xs) ≡ Some e → e.value < position
        step true is later there = let same : x ≡ e = cc there in let here : position ≡ length xs + 1 = grind (arith, nat_tests) in rw (← same) (omega (arith, here, depend.0))
        step false is later there = later there

    go : (b : Bool) → (at_position position (entries_to site ks) ≡ Some e → e.value < position) → at_position position (cond b k.entries (entries_to site ks)) ≡ Some e → e.value < position
    go true later there = back k.entries each.0.earlier there
    go false later there = later there
