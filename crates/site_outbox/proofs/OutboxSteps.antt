-- What an outbox keeps, after a transaction was queued, a mark came in, or the queue was purged.
use Rattle.std.proofs.Common.{◌≡◌, ℕ, suc, ◌+◌, ◌<◌, ◌≤◌, ◌^◌, ◌==◌, Bool, true, false, cond, max, List, [], ◌∷◌, length, map, Option, Some, None, refl, sym, ap, subst, ◌∙◌, arith}
use Rattle.std.specs.Prelude.{Contains, filter_map, option_map, nat_lt, nat_le, is_some, IfSome}
use Rattle.std.specs.List.{AllByRecursion, cons_option}
use Rattle.std.proofs.lemmas.Bool.Decides.{nat_tests}
use Rattle.rep_lists.proofs.Each.{each_then}
use Rattle.rep_values.specs.declared.name.SiteName.{SiteName}
use Rattle.rep_schema.specs.declared.schema.Schema.{Schema}
use Rattle.rep_calls.specs.declared.call.Txn.{Txn}
use Rattle.rep_calls.specs.declared.past.PastEntry.{PastEntry}
use Rattle.dependency_index.specs.declared.token.Token.{Token}
use Rattle.dependency_index.specs.Tokens.{txn_tokens}
use Rattle.dependency_index.specs.Dependencies.{NotedStream, IsNoted, IsIndexed, room_for}
use Rattle.dependency_index.proofs.FoundStreams.{sites_of}
use Rattle.dependency_index.proofs.Destinations.{IsIndexed-Contains, IsIndexed-same}
use Rattle.deferred_queue.specs.declared.queued_txn.QueuedTxn.{QueuedTxn}
use Rattle.deferred_queue.specs.declared.destination.Destination.{Destination}
use Rattle.deferred_queue.specs.Streams.{Deferred, InStream, Mark, destination_to, with_one, queue_stream_to, at_position, unpurged, in_order, last_position, raised_mark, purged}
use Rattle.rep_values.specs.SiteNames.{is_same_site}
use Rattle.deferred_queue.proofs.Sites.{eq_true, eq_false}
use Rattle.site_state.specs.State.{DestinationState, destination_of, at_destination, opened_in}
use Rattle.site_state.specs.Streams as streams
use Rattle.site_state.specs.Packets.{acknowledged}
use Rattle.site_state.specs.Purges.{acknowledged_by_all}
use Rattle.site_state.specs.Deferrals.{place_for, deferred_in, StandApart}
use Rattle.site_state.specs.Making.{new_destination}
use Rattle.rep_schema.specs.Sites.{is_late_master}
use Rattle.site_state.proofs.Destinations.{opened_in-acknowledged}
use Rattle.site_state.proofs.Deferring.{length-deferred_in, purged-deferred_in}
use Rattle.site_outbox.specs.declared.destination_entry.DestinationEntry.{DestinationEntry}
use Rattle.site_outbox.specs.Outgoing.{Keeps}
use Rattle.site_outbox.specs.DestinationEntries.{with_marks, destination_mark, new_destination_entry}
use Rattle.site_outbox.specs.Noting.{TokenStreams, AreNoted, Waits, place_at, after_each, Notes}
use Rattle.site_outbox.specs.OutboxInvariant.{IsWithin, IsOutbox}
use Rattle.site_outbox.proofs.Joined.{each-joined, marked_sites, entry_sites, new_mark, with_marks-new, marked_sites-new, entry_sites-new, within-new, marks-joined, entries_apart, with_marks-raised, marked_sites-raised, StandApart-acknowledged, each-at_destination}
use Rattle.site_outbox.proofs.Noting.{places-joined, after_each-joined}
use Rattle.site_outbox.proofs.Places.{sent_to, destination_to-sent_to, in_order-sent_to, token_streams, IsOpenedBy, sent_to-place_for}

-- ---- nothing

-- nothing is queued and noted
pub IsOutbox-new : (schema : Schema) (sites : List SiteName) (noted : List NotedStream) → StandApart (map (new_destination schema) sites) → sites_of noted ≡ sites → ((site : SiteName) → IsNoted noted site [])
    → IsOutbox (map (new_destination_entry schema) sites) (map new_mark sites) [] noted 0 0
IsOutbox-new schema sites noted apart same none = record {
  marked = marked_sites-new sites ∙ sym (entry_sites-new schema sites);
  indexed = same ∙ sym (entry_sites-new schema sites);
  apart = rw (with_marks-new schema sites) apart;
  streams = λ site. record { stream = []; is = none site; long = refl };
  each = rw (with_marks-new schema sites) (within-new schema sites);
  counted = refl;
  purged_within = omega arith;
}

pub Keeps-new : (schema : Schema) (sites : List SiteName) (noted : List NotedStream) → ((site : SiteName) → IsNoted noted site [])
    → Keeps schema [] [] (record { destinations = map (new_destination schema) sites; purged = 0; deferred = []; noted = noted })
Keeps-new schema sites noted none = record {
  seen = refl;
  queue = refl;
  tokens = λ site. rw (no_tokens (opened_in (destination_of site (map (new_destination schema) sites)))) (none site);
  purged_within = omega arith;
  opened_within = opened sites;
}
  where
    no_tokens : (o : Option ℕ) → map (txn_tokens schema) (streams.stream_in o []) ≡ []
    no_tokens None = refl
    no_tokens (Some opened) = refl

    opened : (sites : List SiteName) → AllByRecursion (IsOpenedBy 0) (map (new_destination schema) sites)
    opened [] = tt
    opened (site ∷ sites) = (go (is_late_master schema site), opened sites)
      where
        go : (b : Bool) → IfSome (cond b None (Some 0)) (λ opened. opened ≤ 0)
        go true = tt
        go false = omega arith

-- ---- room

-- what is noted of a stream stays so
abbrev pub StayNoted : List NotedStream → List NotedStream → Type 0
StayNoted old new = (site : SiteName) (stream : List (List Token)) → IsNoted old site stream → IsNoted new site stream

-- room changes nothing of what is kept
pub IsOutbox-reserved : (os : List DestinationEntry) (ms : List Mark) (deferred : List Deferred) (old new : List NotedStream) (count gone : ℕ) → StayNoted old new → sites_of new ≡ sites_of old
    → IsOutbox os ms deferred old count gone → IsOutbox os ms deferred new count gone
IsOutbox-reserved os ms deferred old new count gone noted sites is = record {
  marked = is.marked;
  indexed = sites ∙ is.indexed;
  apart = is.apart;
  streams = λ site. record { stream = (is.streams site).stream; is = noted site (is.streams site).stream (is.streams site).is; long = (is.streams site).long };
  each = is.each;
  counted = is.counted;
  purged_within = is.purged_within;
}

pub Keeps-reserved : (schema : Schema) (pasts : List (List PastEntry)) (txns : List Txn) (ds : List DestinationState) (gone : ℕ) (deferred : List Deferred) (old new : List NotedStream) → StayNoted old new
    → Keeps schema pasts txns (record { destinations = ds; purged = gone; deferred = deferred; noted = old }) → Keeps schema pasts txns (record { destinations = ds; purged = gone; deferred = deferred; noted = new })
Keeps-reserved schema pasts txns ds gone deferred old new noted keeps = record {
  seen = keeps.seen;
  queue = keeps.queue;
  tokens = λ site. noted site _ (keeps.tokens site);
  purged_within = keeps.purged_within;
  opened_within = keeps.opened_within;
}

-- each destination is indexed
indexed_sites : (os : List DestinationEntry) (noted : List NotedStream) → sites_of noted ≡ entry_sites os → AllByRecursion (λ (o : DestinationEntry). IsIndexed noted o.site) os
indexed_sites os noted same =
    each_then (λ (o : DestinationEntry). Contains (entry_sites os) o.site) (λ (o : DestinationEntry). IsIndexed noted o.site) (λ o there. IsIndexed-Contains noted o.site (subst (λ (sites : List SiteName). Contains sites o.site) (sym same) there)) os (contained os)
  where
    contained : (os : List DestinationEntry) → AllByRecursion (λ (o : DestinationEntry). Contains (entry_sites os) o.site) os
    contained [] = tt
    contained (o ∷ os) = ((0, omega arith, refl), each_then _ _ (λ p there. (suc there.0, omega (arith, there.1), there.2)) os (contained os))

-- with room for its tokens, a transaction can be noted of each destination
pub can_be_noted : (os : List DestinationEntry) (ms : List Mark) (deferred : List Deferred) (old new : List NotedStream) (count gone size : ℕ) → count + 1 < 2 ^ 64 → StayNoted old new → sites_of new ≡ sites_of old
    → ((site : SiteName) → IsIndexed old site → size ≤ room_for new site) → IsOutbox os ms deferred old count gone → AllByRecursion (Waits new size) os
can_be_noted os ms deferred old new count gone size below noted sites room is = each os (indexed_sites os old is.indexed) (each-joined _ _ os ms (λ o acked within. omega (arith, within.last)) is.each)
  where
    one : (o : DestinationEntry) → IsIndexed old o.site → last_position o.site deferred ≤ count → Waits new size o
    one o there last = record {
      indexed = IsIndexed-same old new o.site (sym sites) there;
      count = omega (arith, (noted o.site (is.streams o.site).stream (is.streams o.site).is).count, (is.streams o.site).long, last, below);
      room = room o.site there;
    }

    each : (ps : List DestinationEntry) → AllByRecursion (λ (o : DestinationEntry). IsIndexed old o.site) ps → AllByRecursion (λ (o : DestinationEntry). last_position o.site deferred ≤ count) ps → AllByRecursion (Waits new size) ps
    each [] there last = tt
    each (p ∷ ps) there last = (one p there.0 last.0, each ps there.1 last.1)

-- ---- a transaction

-- the streams that are noted
abbrev pub streams_in : {os : List DestinationEntry} {ms : List Mark} {deferred : List Deferred} {noted : List NotedStream} {count gone : ℕ} → IsOutbox os ms deferred noted count gone → TokenStreams
streams_in is site = (is.streams site).stream

-- the destinations of the new transaction are the open ones
pub notes_sent_to : (os : List DestinationEntry) (ms : List Mark) (tokens : List Token) (S : TokenStreams) (noted : List NotedStream) (to : List Destination) → StandApart (with_marks os ms) → Notes os tokens S noted to
    → to ≡ sent_to tokens S (with_marks os ms)
notes_sent_to os ms tokens S noted to apart notes = notes.list ∙ places-joined os ms tokens S (entries_apart os ms apart)

length-with_one : (d : Option Destination) (number : ℕ) (cargo : Option QueuedTxn) (stream : List InStream) → length stream ≤ length (with_one d number cargo stream)
length-with_one None number cargo stream = omega arith
length-with_one (Some d) number cargo stream = omega arith

length-with_one-most : (d : Option Destination) (number : ℕ) (cargo : Option QueuedTxn) (stream : List InStream) → length (with_one d number cargo stream) ≤ length stream + 1
length-with_one-most None number cargo stream = omega arith
length-with_one-most (Some d) number cargo stream = omega arith

within_next : (count : ℕ) (queued : Deferred) (deferred : List Deferred) (d : DestinationState) → IsWithin count deferred d → IsWithin (count + 1) (queued ∷ deferred) d
within_next count queued deferred d within = record {
  acked = omega (arith, within.acked, length-with_one (destination_to d.site queued.to) (length deferred + 1) queued.cargo (queue_stream_to d.site deferred));
  last = omega (arith, within.last, length-with_one-most (destination_to d.site queued.to) (length deferred + 1) queued.cargo (queue_stream_to d.site deferred));
}

-- the destinations of the new transaction are the open ones, in order
pub sent_in_order : (os : List DestinationEntry) (ms : List Mark) (tokens : List Token) (S : TokenStreams) (noted : List NotedStream) (to : List Destination) → marked_sites ms ≡ entry_sites os → StandApart (with_marks os ms) → Notes os tokens S noted to
    → in_order ms to ≡ sent_to tokens S (with_marks os ms)
sent_in_order os ms tokens S noted to same apart notes =
    ap (in_order ms) (notes_sent_to os ms tokens S noted to apart notes)
    ∙ subst (λ (marks : List Mark). in_order marks (sent_to tokens S (with_marks os ms)) ≡ sent_to tokens S (with_marks os ms)) (marks-joined os ms same) (in_order-sent_to tokens S (with_marks os ms) apart)

-- where the tokens of the new transaction are noted, each position still is
pub IsOutbox-pushed : (os : List DestinationEntry) (ms : List Mark) (deferred : List Deferred) (old new : List NotedStream) (count gone : ℕ) (tokens : List Token) (S : TokenStreams) (cargo : Option QueuedTxn) (to : List Destination)
    → sites_of new ≡ sites_of old → ((site : SiteName) → length (S site) ≡ last_position site deferred) → Notes os tokens S new to
    → IsOutbox os ms deferred old count gone → IsOutbox os ms (record { cargo = cargo; to = in_order ms to } ∷ deferred) new (count + 1) gone
IsOutbox-pushed os ms deferred old new count gone tokens S cargo to sites long notes is = record {
  marked = is.marked;
  indexed = sites ∙ is.indexed;
  apart = is.apart;
  streams = λ site. record { stream = after_each os tokens S site; is = notes.all site; long = one_more site };
  each = each_then _ _ (within_next count (record { cargo = cargo; to = in_order ms to }) deferred) (with_marks os ms) is.each;
  counted = omega (arith, is.counted);
  purged_within = omega (arith, is.purged_within);
}
  where
    ordered : in_order ms to ≡ sent_to tokens S (with_marks os ms)
    ordered = sent_in_order os ms tokens S new to is.marked is.apart notes

    one_more : (site : SiteName) → length (after_each os tokens S site) ≡ length (with_one (destination_to site (in_order ms to)) (length deferred + 1) cargo (queue_stream_to site deferred))
    one_more site = rw (ordered, destination_to-sent_to tokens S site (with_marks os ms) is.apart, after_each-joined os ms tokens S site is.apart) (go (opened_in (destination_of site (with_marks os ms))))
      where
        go : (o : Option ℕ) → length (streams.with_one (is_some o) tokens (S site)) ≡ length (with_one (place_at tokens S site o) (length deferred + 1) cargo (queue_stream_to site deferred))
        go None = long site
        go (Some opened) = ap suc (long site)

opened_bound : (count : ℕ) (site : SiteName) (ds : List DestinationState) → AllByRecursion (IsOpenedBy count) ds → IfSome (opened_in (destination_of site ds)) (λ opened. opened ≤ count)
opened_bound count site [] each = tt
opened_bound count site (d ∷ ds) each = go (is_same_site d.site site) (opened_bound count site ds each.1)
  where
    go : (b : Bool) → IfSome (opened_in (destination_of site ds)) (λ opened. opened ≤ count) → IfSome (opened_in (cond b (Some d) (destination_of site ds))) (λ opened. opened ≤ count)
    go true later = each.0
    go false later = later

opened_later : (count : ℕ) (d : DestinationState) → IsOpenedBy count d → IsOpenedBy (suc count) d
opened_later count d within = go d.opened within
  where
    go : (o : Option ℕ) → IfSome o (λ opened. opened ≤ count) → IfSome o (λ opened. opened ≤ suc count)
    go None within = tt
    go (Some opened) within = omega (arith, within)

-- what the queue has of older transactions stays where another one is queued
older_pasts : (schema : Schema) (ds : List DestinationState) (gone : ℕ) (past : List PastEntry) (pasts : List (List PastEntry)) (txns : List Txn) → length txns ≤ length pasts → deferred_in schema ds gone (past ∷ pasts) txns ≡ deferred_in schema ds gone pasts txns
older_pasts schema ds gone past pasts [] within = refl
older_pasts schema ds gone past pasts (txn ∷ older) within =
    rw (eq_false (length older + 1) (length pasts + 1) (omega (arith, within)), older_pasts schema ds gone past pasts older (omega (arith, within))) refl

-- where the tokens of the new transaction are noted, it is kept too
pub Keeps-pushed : (schema : Schema) (past : List PastEntry) (pasts : List (List PastEntry)) (txn : Txn) (txns : List Txn) (os : List DestinationEntry) (ms : List Mark) (gone : ℕ) (deferred : List Deferred) (old new : List NotedStream) (to : List Destination)
    → marked_sites ms ≡ entry_sites os → StandApart (with_marks os ms)
    → ((S : TokenStreams) → AreNoted old S → Notes os (txn_tokens schema txn) S new to)
    → Keeps schema pasts txns (record { destinations = with_marks os ms; purged = gone; deferred = deferred; noted = old })
    → Keeps schema (past ∷ pasts) (txn ∷ txns) (record { destinations = with_marks os ms; purged = gone; deferred = record { cargo = Some (record { txn = txn; past = past }); to = in_order ms to } ∷ deferred; noted = new })
Keeps-pushed schema past pasts txn txns os ms gone deferred old new to same apart notes keeps = record {
  seen = ap suc keeps.seen;
  queue = whole;
  tokens = λ site. subst (IsNoted new site) (after_each-joined os ms (txn_tokens schema txn) S site apart ∙ noted_as site (opened_in (destination_of site ds)) (opened_bound (length txns) site ds keeps.opened_within)) (noted.all site);
  purged_within = omega (arith, keeps.purged_within);
  opened_within = each_then _ _ (opened_later (length txns)) ds keeps.opened_within;
}
  where
    ds : List DestinationState
    ds = with_marks os ms

    S : TokenStreams
    S = token_streams schema (with_marks os ms) txns

    noted : Notes os (txn_tokens schema txn) S new to
    noted = notes S keeps.tokens

    noted_as : (site : SiteName) (o : Option ℕ) → IfSome o (λ opened. opened ≤ length txns)
        → streams.with_one (is_some o) (txn_tokens schema txn) (map (txn_tokens schema) (streams.stream_in o txns)) ≡ map (txn_tokens schema) (streams.stream_in o (txn ∷ txns))
    noted_as site None within = refl
    noted_as site (Some opened) within =
        let above : nat_lt opened (length txns + 1) ≡ true = grind (arith, nat_tests) in
        rw above refl

    ordered : in_order ms to ≡ filter_map (place_for schema txn txns) ds
    ordered = sent_in_order os ms (txn_tokens schema txn) S new to same apart noted ∙ sent_to-place_for schema txn txns ds apart keeps.opened_within

    whole : record { cargo = Some (record { txn = txn; past = past }); to = in_order ms to } ∷ deferred ≡ deferred_in schema ds gone (past ∷ pasts) (txn ∷ txns)
    whole =
        let there : (length txns + 1 == length pasts + 1) ≡ true = eq_true (length txns + 1) (length pasts + 1) (omega (arith, keeps.seen)) in
        let kept : nat_le (length txns + 1) gone ≡ false = grind (arith, nat_tests, keeps.purged_within) in
        rw (there, kept, ordered, keeps.queue, older_pasts schema ds gone past pasts txns (omega (arith, keeps.seen))) refl

-- ---- a mark

within_raised : (count : ℕ) (deferred : List Deferred) (site : SiteName) (mark : ℕ) → mark ≤ last_position site deferred → (d : DestinationState) → d.site ≡ site → IsWithin count deferred d → IsWithin count deferred (acknowledged mark d)
within_raised count deferred site mark bound d is within = record {
  acked = let own : mark ≤ last_position d.site deferred = rw is bound in omega (arith, own, within.acked);
  last = within.last;
}

-- a mark within the stream leaves each within its stream
pub IsOutbox-raised : (os : List DestinationEntry) (ms : List Mark) (deferred : List Deferred) (noted : List NotedStream) (count gone : ℕ) (site : SiteName) (mark : ℕ) → mark ≤ last_position site deferred
    → IsOutbox os ms deferred noted count gone → IsOutbox os (map (raised_mark site mark) ms) deferred noted count gone
IsOutbox-raised os ms deferred noted count gone site mark bound is = record {
  marked = marked_sites-raised site mark ms ∙ is.marked;
  indexed = is.indexed;
  apart = rw (with_marks-raised site mark os ms is.marked is.apart) (StandApart-acknowledged site mark (with_marks os ms) is.apart);
  streams = is.streams;
  each = rw (with_marks-raised site mark os ms is.marked is.apart) (each-at_destination (IsWithin count deferred) site (acknowledged mark) (with_marks os ms) (within_raised count deferred site mark bound) is.each);
  counted = is.counted;
  purged_within = is.purged_within;
}

-- a mark changes no transaction's destinations
deferred_in-acknowledged : (schema : Schema) (site : SiteName) (mark : ℕ) (ds : List DestinationState) (gone : ℕ) (pasts : List (List PastEntry)) (txns : List Txn)
    → deferred_in schema (at_destination site (acknowledged mark) ds) gone pasts txns ≡ deferred_in schema ds gone pasts txns
deferred_in-acknowledged schema site mark ds gone pasts [] = refl
deferred_in-acknowledged schema site mark ds gone pasts (txn ∷ older) = rw (same_places ds, deferred_in-acknowledged schema site mark ds gone pasts older) refl
  where
    same_places : (ds : List DestinationState) → filter_map (place_for schema txn older) (at_destination site (acknowledged mark) ds) ≡ filter_map (place_for schema txn older) ds
    same_places [] = refl
    same_places (d ∷ ds) = go (is_same_site d.site site) (same_places ds)
      where
        go : (b : Bool) → filter_map (place_for schema txn older) (at_destination site (acknowledged mark) ds) ≡ filter_map (place_for schema txn older) ds
            → filter_map (place_for schema txn older) (cond b (acknowledged mark d ∷ ds) (d ∷ at_destination site (acknowledged mark) ds)) ≡ filter_map (place_for schema txn older) (d ∷ ds)
        go true later = refl
        go false later = ap (cons_option (place_for schema txn older d)) later

pub Keeps-acknowledged : (schema : Schema) (pasts : List (List PastEntry)) (txns : List Txn) (site : SiteName) (mark : ℕ) (ds : List DestinationState) (gone : ℕ) (deferred : List Deferred) (noted : List NotedStream)
    → Keeps schema pasts txns (record { destinations = ds; purged = gone; deferred = deferred; noted = noted })
    → Keeps schema pasts txns (record { destinations = at_destination site (acknowledged mark) ds; purged = gone; deferred = deferred; noted = noted })
Keeps-acknowledged schema pasts txns site mark ds gone deferred noted keeps = record {
  seen = keeps.seen;
  queue = keeps.queue ∙ sym (deferred_in-acknowledged schema site mark ds gone pasts txns);
  tokens = λ to. rw (opened_in-acknowledged to site mark ds) (keeps.tokens to);
  purged_within = keeps.purged_within;
  opened_within = each-at_destination (IsOpenedBy (length txns)) site (acknowledged mark) ds (λ d is within. within) keeps.opened_within;
}

-- ---- a purge

length-purged : (ms : List Mark) (deferred : List Deferred) → length (purged ms deferred) ≡ length deferred
length-purged ms [] = refl
length-purged ms (last ∷ older) = ap suc (length-purged ms older)

length-with_one-same : (d : Option Destination) (m n : ℕ) (a b : Option QueuedTxn) (xs ys : List InStream) → length xs ≡ length ys → length (with_one d m a xs) ≡ length (with_one d n b ys)
length-with_one-same None m n a b xs ys same = same
length-with_one-same (Some d) m n a b xs ys same = ap suc same

-- the positions stay
last_position-purged : (site : SiteName) (ms : List Mark) (deferred : List Deferred) → last_position site (purged ms deferred) ≡ last_position site deferred
last_position-purged site ms [] = refl
last_position-purged site ms (last ∷ older) = length-with_one-same (destination_to site last.to) (length (purged ms older) + 1) (length older + 1) _ last.cargo _ _ (last_position-purged site ms older)

within_purged : (count : ℕ) (ms : List Mark) (deferred : List Deferred) (d : DestinationState) → IsWithin count deferred d → IsWithin count (purged ms deferred) d
within_purged count ms deferred d within = record { acked = rw (last_position-purged d.site ms deferred) within.acked; last = rw (last_position-purged d.site ms deferred) within.last }

-- no destination has acknowledged more than the count
pub acknowledged_by_all-most : (count : ℕ) (ds : List DestinationState) → acknowledged_by_all count ds ≤ count
acknowledged_by_all-most count [] = omega arith
acknowledged_by_all-most count (d ∷ ds) = omega (arith, acknowledged_by_all-most count ds)

pub IsOutbox-purged : (os : List DestinationEntry) (ms : List Mark) (deferred : List Deferred) (noted : List NotedStream) (count gone now : ℕ) → now ≤ count
    → IsOutbox os ms deferred noted count gone → IsOutbox os ms (purged ms deferred) noted count now
IsOutbox-purged os ms deferred noted count gone now bound is = record {
  marked = is.marked;
  indexed = is.indexed;
  apart = is.apart;
  streams = λ site. record { stream = (is.streams site).stream; is = (is.streams site).is; long = (is.streams site).long ∙ sym (last_position-purged site ms deferred) };
  each = each_then _ _ (within_purged count ms deferred) (with_marks os ms) is.each;
  counted = length-purged ms deferred ∙ is.counted;
  purged_within = bound;
}

pub Keeps-purged : (schema : Schema) (pasts : List (List PastEntry)) (txns : List Txn) (ds : List DestinationState) (gone count : ℕ) (deferred : List Deferred) (noted : List NotedStream) → StandApart ds → length deferred ≡ count
    → Keeps schema pasts txns (record { destinations = ds; purged = gone; deferred = deferred; noted = noted })
    → Keeps schema pasts txns (record { destinations = ds; purged = max gone (acknowledged_by_all count ds); deferred = purged (map destination_mark ds) deferred; noted = noted })
Keeps-purged schema pasts txns ds gone count deferred noted apart counted keeps = record {
  seen = keeps.seen;
  queue = ap (purged (map destination_mark ds)) keeps.queue ∙ purged-deferred_in schema ds gone pasts count txns apart (omega (arith, many));
  tokens = keeps.tokens;
  purged_within = omega (arith, many, keeps.purged_within, acknowledged_by_all-most count ds);
  opened_within = keeps.opened_within;
}
  where
    many : length txns ≡ count
    many = sym (length-deferred_in schema ds gone pasts txns) ∙ sym (ap length keeps.queue) ∙ counted

-- ---- a position

-- what stands in a stream has a number within the queue, from 1
numbered_within : (site : SiteName) (deferred : List Deferred) (p : ℕ) (a : InStream) → at_position p (queue_stream_to site deferred) ≡ Some a → (1 ≤ a.number) × (a.number ≤ length deferred)
numbered_within site [] p a found = absurd (cc found)
numbered_within site (last ∷ older) p a found = go (destination_to site last.to) found (numbered_within site older p a)
  where
    top : (d : Destination) (b : Bool) → cond b (Some (record { number = length older + 1; dep = d.dep; cargo = last.cargo })) (at_position p (queue_stream_to site older)) ≡ Some a
        → (at_position p (queue_stream_to site older) ≡ Some a → (1 ≤ a.number) × (a.number ≤ length older)) → (1 ≤ a.number) × (a.number ≤ suc (length older))
    top d true there later = let same : record { number = length older + 1; dep = d.dep; cargo = last.cargo } ≡ a = cc there in rw (← same) (omega arith, omega arith)
    top d false there later = let within = later there in (within.0, omega (arith, within.1))

    go : (d : Option Destination) → at_position p (with_one d (length older + 1) last.cargo (queue_stream_to site older)) ≡ Some a
        → (at_position p (queue_stream_to site older) ≡ Some a → (1 ≤ a.number) × (a.number ≤ length older)) → (1 ≤ a.number) × (a.number ≤ suc (length older))
    go None there later = let within = later there in (within.0, omega (arith, within.1))
    go (Some d) there later = top d (p == length (queue_stream_to site older) + 1) there later

-- so has what is found and isn't purged
pub found_within : (site : SiteName) (deferred : List Deferred) (p : ℕ) (a : InStream) → Some a ≡ unpurged (at_position p (queue_stream_to site deferred)) → (1 ≤ a.number) × (a.number ≤ length deferred)
found_within site deferred p a found = go (at_position p (queue_stream_to site deferred)) refl found
  where
    kept : (x : InStream) (cargo : Option QueuedTxn) → Some a ≡ option_map (λ (c : QueuedTxn). x) cargo → x ≡ a
    kept x None found = absurd (cc found)
    kept x (Some c) found = cc found

    go : (o : Option InStream) → at_position p (queue_stream_to site deferred) ≡ o → Some a ≡ unpurged o → (1 ≤ a.number) × (a.number ≤ length deferred)
    go None is found = absurd (cc found)
    go (Some x) is found = let same : x ≡ a = kept x x.cargo found in numbered_within site deferred p a (is ∙ ap Some same)

module _ {X : Type 0} (f : X → InStream) (site : SiteName) (deferred : List Deferred) (p : ℕ) where
  -- it is from 1
  pub number_from_one : (r : Option X) → option_map f r ≡ unpurged (at_position p (queue_stream_to site deferred)) → IfSome r (λ x. 1 ≤ (f x).number)
  number_from_one None is = tt
  number_from_one (Some x) is = (found_within site deferred p (f x) is).0

  -- and within the queue
  pub number_queued : (r : Option X) → option_map f r ≡ unpurged (at_position p (queue_stream_to site deferred)) → IfSome r (λ x. (f x).number ≤ length deferred)
  number_queued None is = tt
  number_queued (Some x) is = (found_within site deferred p (f x) is).1
