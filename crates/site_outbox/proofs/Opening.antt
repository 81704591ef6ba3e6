-- What opening a stream leaves of an outbox: the streams are as they were, and each later transaction goes to the destination.
use Rattle.std.proofs.Common.{◌≡◌, ℕ, ◌+◌, ◌≤◌, Bool, true, false, cond, List, [], ◌∷◌, length, map, Option, Some, None, inl, inr, refl, sym, ap, subst, ◌∙◌, arith}
use Rattle.std.specs.Prelude.{filter_map, nat_lt, IfSome}
use Rattle.std.specs.List.{AllByRecursion, cons_option}
use Rattle.std.proofs.lemmas.Bool.Decides.{nat_tests}
use Rattle.rep_values.specs.declared.name.SiteName.{SiteName}
use Rattle.rep_schema.specs.declared.schema.Schema.{Schema}
use Rattle.rep_calls.specs.declared.call.Txn.{Txn}
use Rattle.rep_calls.specs.declared.past.PastEntry.{PastEntry}
use Rattle.dependency_index.specs.Tokens.{txn_tokens}
use Rattle.dependency_index.specs.Dependencies.{NotedStream, IsNoted}
use Rattle.deferred_queue.specs.Streams.{Deferred, Mark, last_position}
use Rattle.rep_values.specs.SiteNames.{is_same_site}
use Rattle.deferred_queue.proofs.Sites.{is_same_site-true}
use Rattle.site_state.specs.State.{DestinationState, destination_of, at_destination, opened_in}
use Rattle.site_state.specs.Streams.{stream_in}
use Rattle.site_state.specs.Packets.{count_opened}
use Rattle.site_state.specs.Deferrals.{place_since, place_for, deferred_in, StandApart}
use Rattle.site_state.specs.Joining.{opened_from, opened_at}
use Rattle.site_state.proofs.Destinations.{destination_split, IsOpenedFrom, opened_in-opened}
use Rattle.site_state.proofs.Deferring.{AreFound, all_found, length-deferred_in}
use Rattle.site_state.proofs.Growing.{queued_behind-none}
use Rattle.site_outbox.specs.declared.destination_entry.DestinationEntry.{DestinationEntry}
use Rattle.site_outbox.specs.Outgoing.{Keeps}
use Rattle.site_outbox.specs.DestinationEntries.{first_acked, later_marks, with_marks, destination_entry_opened}
use Rattle.site_outbox.specs.OutboxInvariant.{IsWithin, IsOutbox}
use Rattle.site_outbox.proofs.Joined.{entry_sites, none_changes, each-at_destination}

-- ---- the destinations

-- they are those of which one is opened
pub with_marks-opened : (site : SiteName) (count : ℕ) (os : List DestinationEntry) (ms : List Mark) → StandApart (with_marks os ms)
    → with_marks (map (destination_entry_opened site count) os) ms ≡ at_destination site (opened_at count) (with_marks os ms)
with_marks-opened site count [] ms apart = refl
with_marks-opened site count (o ∷ os) ms apart = rw (with_marks-opened site count os (later_marks ms) apart.1) (go (is_same_site o.site site) refl)
  where
    go : (b : Bool) → is_same_site o.site site ≡ b
        → record { site = o.site; opened = cond b (opened_from o.opened count) o.opened; acked = first_acked ms } ∷ at_destination site (opened_at count) (with_marks os (later_marks ms))
        ≡ cond b (opened_at count (record { site = o.site; opened = o.opened; acked = first_acked ms }) ∷ with_marks os (later_marks ms)) (record { site = o.site; opened = o.opened; acked = first_acked ms } ∷ at_destination site (opened_at count) (with_marks os (later_marks ms)))
    go true is =
        let none : destination_of site (with_marks os (later_marks ms)) ≡ None = rw (is_same_site-true o.site site is) at apart.0 in
        rw (none_changes site (opened_at count) (with_marks os (later_marks ms)) none) refl
    go false is = refl

-- the sites stay
entry_sites-opened : (site : SiteName) (count : ℕ) (os : List DestinationEntry) → entry_sites (map (destination_entry_opened site count) os) ≡ entry_sites os
entry_sites-opened site count [] = refl
entry_sites-opened site count (o ∷ os) = ap (λ rest. o.site ∷ rest) (entry_sites-opened site count os)

-- they stay apart
StandApart-opened : (site : SiteName) (count : ℕ) (ds : List DestinationState) → StandApart ds → StandApart (at_destination site (opened_at count) ds)
StandApart-opened site count [] apart = tt
StandApart-opened site count (d ∷ ds) apart = go (is_same_site d.site site) (StandApart-opened site count ds apart.1)
  where
    none : destination_of d.site (at_destination site (opened_at count) ds) ≡ None
    none = destination_split (λ (o : Option DestinationState). o ≡ None) site d.site (opened_at count) ds (λ d. refl) (λ e names found. absurd (cc (found, apart.0))) apart.0

    go : (b : Bool) → StandApart (at_destination site (opened_at count) ds) → StandApart (cond b (opened_at count d ∷ ds) (d ∷ at_destination site (opened_at count) ds))
    go true later = apart
    go false later = (none, later)

-- ---- none has more than is queued

opens_within : (count last : ℕ) (opened : Option ℕ) → (opened ≡ None → last ≡ 0) → count_opened opened + last ≤ count → count_opened (opened_from opened count) + last ≤ count
opens_within count last None empty within = let nothing : last ≡ 0 = empty refl in rw nothing (omega arith)
opens_within count last (Some n) empty within = within

within_opened : (site : SiteName) (count : ℕ) (deferred : List Deferred) (all ds : List DestinationState) → (opened_in (destination_of site all) ≡ None → last_position site deferred ≡ 0)
    → AreFound all ds → AllByRecursion (IsWithin count deferred) ds → AllByRecursion (IsWithin count deferred) (at_destination site (opened_at count) ds)
within_opened site count deferred all [] empty found each = tt
within_opened site count deferred all (d ∷ ds) empty found each = go (is_same_site d.site site) refl (within_opened site count deferred all ds empty found.1 each.1)
  where
    closed : d.site ≡ site → d.opened ≡ None → last_position d.site deferred ≡ 0
    closed same is =
        let none : opened_in (destination_of site all) ≡ None = subst (λ (s : SiteName). opened_in (destination_of s all) ≡ None) same (ap opened_in found.0 ∙ is) in
        subst (λ (s : SiteName). last_position s deferred ≡ 0) (sym same) (empty none)

    go : (b : Bool) → is_same_site d.site site ≡ b → AllByRecursion (IsWithin count deferred) (at_destination site (opened_at count) ds)
        → AllByRecursion (IsWithin count deferred) (cond b (opened_at count d ∷ ds) (d ∷ at_destination site (opened_at count) ds))
    go true is later = (record { acked = each.0.acked; last = opens_within count (last_position d.site deferred) d.opened (closed (is_same_site-true d.site site is)) each.0.last }, each.1)
    go false is later = (each.0, later)

-- a stream that is opened where nothing was queued for it leaves each within the queue
pub IsOutbox-opened : (os : List DestinationEntry) (ms : List Mark) (deferred : List Deferred) (noted : List NotedStream) (count gone : ℕ) (site : SiteName)
    → (opened_in (destination_of site (with_marks os ms)) ≡ None → last_position site deferred ≡ 0)
    → IsOutbox os ms deferred noted count gone → IsOutbox (map (destination_entry_opened site count) os) ms deferred noted count gone
IsOutbox-opened os ms deferred noted count gone site empty is = record {
  marked = is.marked ∙ sym (entry_sites-opened site count os);
  indexed = is.indexed ∙ sym (entry_sites-opened site count os);
  apart = rw (with_marks-opened site count os ms is.apart) (StandApart-opened site count (with_marks os ms) is.apart);
  streams = is.streams;
  each = rw (with_marks-opened site count os ms is.apart) (within_opened site count deferred (with_marks os ms) (with_marks os ms) empty (all_found (with_marks os ms) is.apart) is.each);
  counted = is.counted;
  purged_within = is.purged_within;
}

-- ---- what is kept

-- a stream that is opened behind all that is queued has none of it
place_since-opened : (schema : Schema) (txn : Txn) (older : List Txn) (site : SiteName) (count : ℕ) (opened : Option ℕ) → length older + 1 ≤ count
    → place_since schema txn older site (opened_from opened count) ≡ place_since schema txn older site opened
place_since-opened schema txn older site count None within =
    let behind : nat_lt count (length older + 1) ≡ false = grind (arith, nat_tests, within) in rw behind refl
place_since-opened schema txn older site count (Some n) within = refl

deferred_in-opened : (schema : Schema) (site : SiteName) (count : ℕ) (ds : List DestinationState) (gone : ℕ) (pasts : List (List PastEntry)) (txns : List Txn) → length txns ≤ count
    → deferred_in schema (at_destination site (opened_at count) ds) gone pasts txns ≡ deferred_in schema ds gone pasts txns
deferred_in-opened schema site count ds gone pasts [] within = refl
deferred_in-opened schema site count ds gone pasts (txn ∷ older) within = rw (same_places ds, deferred_in-opened schema site count ds gone pasts older (omega (arith, within))) refl
  where
    same_places : (ds : List DestinationState) → filter_map (place_for schema txn older) (at_destination site (opened_at count) ds) ≡ filter_map (place_for schema txn older) ds
    same_places [] = refl
    same_places (d ∷ ds) = go (is_same_site d.site site) (same_places ds)
      where
        go : (b : Bool) → filter_map (place_for schema txn older) (at_destination site (opened_at count) ds) ≡ filter_map (place_for schema txn older) ds
            → filter_map (place_for schema txn older) (cond b (opened_at count d ∷ ds) (d ∷ at_destination site (opened_at count) ds)) ≡ filter_map (place_for schema txn older) (d ∷ ds)
        go true later = ap (λ place. cons_option place (filter_map (place_for schema txn older) ds)) (place_since-opened schema txn older d.site count d.opened (omega (arith, within)))
        go false later = ap (cons_option (place_for schema txn older d)) later

stream_in-opened : {X : Type 0} (count : ℕ) (before after : Option ℕ) (xs : List X) → length xs ≤ count → IsOpenedFrom count before after → stream_in after xs ≡ stream_in before xs
stream_in-opened count before after xs within is = elim is [
  | inl same ↦ rw same refl
  | inr now ↦ rw (now.0, now.1) (queued_behind-none count xs within)
]

opened_by : (count : ℕ) (opened : Option ℕ) → IfSome opened (λ n. n ≤ count) → IfSome (opened_from opened count) (λ n. n ≤ count)
opened_by count None within = omega arith
opened_by count (Some n) within = within

pub Keeps-opened : (schema : Schema) (pasts : List (List PastEntry)) (txns : List Txn) (site : SiteName) (count : ℕ) (ds : List DestinationState) (gone : ℕ) (deferred : List Deferred) (noted : List NotedStream) → length deferred ≡ count
    → Keeps schema pasts txns (record { destinations = ds; purged = gone; deferred = deferred; noted = noted })
    → Keeps schema pasts txns (record { destinations = at_destination site (opened_at count) ds; purged = gone; deferred = deferred; noted = noted })
Keeps-opened schema pasts txns site count ds gone deferred noted counted keeps = record {
  seen = keeps.seen;
  queue = keeps.queue ∙ sym (deferred_in-opened schema site count ds gone pasts txns (omega (arith, long)));
  tokens = λ to. subst (λ (queued : List Txn). IsNoted noted to (map (txn_tokens schema) queued)) (sym (stream_in-opened count _ _ txns (omega (arith, long)) (opened_in-opened to site count ds))) (keeps.tokens to);
  purged_within = keeps.purged_within;
  opened_within = each-at_destination (λ d. IfSome d.opened (λ n. n ≤ length txns)) site (opened_at count) ds (λ d is within. subst (λ n. IfSome (opened_from d.opened n) (λ o. o ≤ length txns)) long (opened_by (length txns) d.opened within)) keeps.opened_within;
}
  where
    long : length txns ≡ count
    long = sym (length-deferred_in schema ds gone pasts txns) ∙ ap length (sym keeps.queue) ∙ counted
