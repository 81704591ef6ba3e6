-- What the queue's crate says of a site's queue is what the site's own words say: its streams, its packets, and what a
-- purge takes.
use Rattle.std.proofs.Common.{◌≡◌, ℕ, suc, ◌+◌, ◌≤◌, ◌==◌, List, [], ◌∷◌, length, map, Bool, true, false, cond, max, min, Some, None, refl, sym, ap, ◌∙◌, arith}
use Rattle.std.specs.Prelude.{◌&&◌, Option, option_map, nat_lt, nat_le, filter_map}
use Rattle.std.specs.List.{cons_option, list_all, AllByRecursion}
use Rattle.std.proofs.lemmas.Bool.Decides.{nat_tests}
use Rattle.rep_values.specs.declared.name.SiteName.{SiteName}
use Rattle.rep_schema.specs.declared.schema.Schema.{Schema}
use Rattle.rep_calls.specs.declared.call.Txn.{Txn}
use Rattle.rep_calls.specs.declared.past.PastEntry.{PastEntry}
use Rattle.packet_code.specs.declared.packet.Packet.{Packet}
use Rattle.packet_code.specs.declared.packet.Packet.TheVariants.{Carry}
use Rattle.deferred_queue.specs.declared.queued_txn.QueuedTxn.{QueuedTxn}
use Rattle.deferred_queue.specs.declared.destination.Destination.{Destination}
use Rattle.deferred_queue.specs.Streams.{Deferred, InStream, destination_to, queue_stream_to, at_position, unpurged, acked_by, last_position, is_acknowledged, purged}
use Rattle.rep_values.specs.SiteNames.{is_same_site}
use Rattle.deferred_queue.specs.Streams as queue
use Rattle.deferred_queue.proofs.Sites.{is_same_site-true, is_same_site-refl}
use Rattle.site_state.specs.State.{DestinationState, SiteState, destination_of, opened_in, acked_in, opened_of}
use Rattle.site_state.specs.Streams.{with_one, queued_behind, stream_in, queue_of, count_of, dependency_of, dep_at}
use Rattle.site_state.specs.Pasts.{pasts_of}
use Rattle.site_state.specs.Packets.{count_opened, packet_found, past_in, site_packet}
use Rattle.site_state.specs.Purges.{acknowledged_by, acknowledged_by_all, site_purge}
use Rattle.site_state.specs.Deferrals.{place_since, place_for, queued_txn_kept, deferred_in, deferred_of, deferred_marks, StandApart}
use Rattle.site_state.proofs.Growing.{length-queued_behind}

-- ---- the destinations of one transaction

-- a destination of a transaction is the site's destination, where it has it
destination_to-places : (schema : Schema) (txn : Txn) (older : List Txn) (site : SiteName) (ds : List DestinationState) → StandApart ds
    → destination_to site (filter_map (place_for schema txn older) ds) ≡ place_since schema txn older site (opened_in (destination_of site ds))
destination_to-places schema txn older site [] apart = refl
destination_to-places schema txn older site (d ∷ ds) apart = go (is_same_site d.site site) refl (destination_to-places schema txn older site ds apart.1)
  where
    rest : List Destination
    rest = filter_map (place_for schema txn older) ds

    dep : ℕ → ℕ
    dep opened = dependency_of schema txn (queued_behind opened older)

    none_later : d.site ≡ site → destination_of site ds ≡ None
    none_later same = rw (← same) apart.0

    none : d.site ≡ site → destination_to site rest ≡ place_since schema txn older site (opened_in (destination_of site ds)) → destination_to site rest ≡ None
    none same later = later ∙ ap (λ o. place_since schema txn older site (opened_in o)) (none_later same)

    own : (o : Option ℕ) → is_same_site d.site site ≡ true → destination_to site rest ≡ None → destination_to site (cons_option (place_since schema txn older d.site o) rest) ≡ place_since schema txn older site o
    own None is nothing = nothing
    own (Some opened) is nothing = by (nat_lt opened (length older + 1))
      where
        by : (b : Bool) → destination_to site (cons_option (cond b (Some (record { site = d.site; dep = dep opened })) None) rest) ≡ cond b (Some (record { site = site; dep = dep opened })) None
        by true = rw is (ap (λ (s : SiteName). Some (record { site = s; dep = dep opened })) (is_same_site-true d.site site is))
        by false = nothing

    other : (o : Option ℕ) → is_same_site d.site site ≡ false → destination_to site (cons_option (place_since schema txn older d.site o) rest) ≡ destination_to site rest
    other None is = refl
    other (Some opened) is = by (nat_lt opened (length older + 1))
      where
        by : (b : Bool) → destination_to site (cons_option (cond b (Some (record { site = d.site; dep = dep opened })) None) rest) ≡ destination_to site rest
        by true = rw is refl
        by false = refl

    go : (b : Bool) → is_same_site d.site site ≡ b → destination_to site rest ≡ place_since schema txn older site (opened_in (destination_of site ds))
        → destination_to site (cons_option (place_since schema txn older d.site d.opened) rest) ≡ place_since schema txn older site (opened_in (cond b (Some d) (destination_of site ds)))
    go true is later = own d.opened is (none (is_same_site-true d.site site is) later)
    go false is later = other d.opened is ∙ later

-- ---- streams

-- as many transactions
pub length-deferred_in : (schema : Schema) (ds : List DestinationState) (gone : ℕ) (pasts : List (List PastEntry)) (txns : List Txn) → length (deferred_in schema ds gone pasts txns) ≡ length txns
length-deferred_in schema ds gone pasts [] = refl
length-deferred_in schema ds gone pasts (txn ∷ older) = ap suc (length-deferred_in schema ds gone pasts older)

-- a destination that isn't open has no stream
pub stream_to-closed : (schema : Schema) (site : SiteName) (ds : List DestinationState) (gone : ℕ) (pasts : List (List PastEntry)) (txns : List Txn) → StandApart ds → opened_in (destination_of site ds) ≡ None
    → queue_stream_to site (deferred_in schema ds gone pasts txns) ≡ []
stream_to-closed schema site ds gone pasts [] apart is = refl
stream_to-closed schema site ds gone pasts (txn ∷ older) apart is = rw (destination_to-places schema txn older site ds apart, is) (stream_to-closed schema site ds gone pasts older apart is)

-- a stream to an open destination is as long
pub length-stream_to : (schema : Schema) (site : SiteName) (opened : ℕ) (ds : List DestinationState) (gone : ℕ) (pasts : List (List PastEntry)) (txns : List Txn) → StandApart ds → opened_in (destination_of site ds) ≡ Some opened
    → length (queue_stream_to site (deferred_in schema ds gone pasts txns)) ≡ length (queued_behind opened txns)
length-stream_to schema site opened ds gone pasts [] apart is = refl
length-stream_to schema site opened ds gone pasts (txn ∷ older) apart is =
    rw (destination_to-places schema txn older site ds apart, is) (by (nat_lt opened (length older + 1)) (length-stream_to schema site opened ds gone pasts older apart is))
  where
    by : (b : Bool) → length (queue_stream_to site (deferred_in schema ds gone pasts older)) ≡ length (queued_behind opened older)
        → length (queue.with_one (cond b (Some (record { site = site; dep = dependency_of schema txn (queued_behind opened older) })) None) (length (deferred_in schema ds gone pasts older) + 1)
        (queued_txn_kept gone (length older + 1) txn (at_position (length older + 1) pasts)) (queue_stream_to site (deferred_in schema ds gone pasts older)))
        ≡ length (with_one b txn (queued_behind opened older))
    by true later = ap suc later
    by false later = later

-- what stands at a position of a stream that was opened at a count
abbrev pub in_stream : Schema → ℕ → ℕ → List (List PastEntry) → ℕ → List Txn → Txn → InStream
in_stream schema opened gone pasts position stream txn = record {
  number = opened + position;
  dep = dep_at schema position stream;
  cargo = queued_txn_kept gone (opened + position) txn (at_position (opened + position) pasts);
}

-- what the queue's crate finds at a position is what stands there in the site's stream
pub at_position-deferred_in : (schema : Schema) (site : SiteName) (opened : ℕ) (ds : List DestinationState) (gone : ℕ) (pasts : List (List PastEntry)) (txns : List Txn) (p : ℕ) → StandApart ds
    → opened_in (destination_of site ds) ≡ Some opened
    → at_position p (queue_stream_to site (deferred_in schema ds gone pasts txns)) ≡ option_map (in_stream schema opened gone pasts p (queued_behind opened txns)) (at_position p (queued_behind opened txns))
at_position-deferred_in schema site opened ds gone pasts [] p apart is = refl
at_position-deferred_in schema site opened ds gone pasts (txn ∷ older) p apart is =
    rw (destination_to-places schema txn older site ds apart, is) (by (nat_lt opened (length older + 1)) refl (at_position-deferred_in schema site opened ds gone pasts older p apart is))
  where
    stream : List InStream
    stream = queue_stream_to site (deferred_in schema ds gone pasts older)

    dep : ℕ
    dep = dependency_of schema txn (queued_behind opened older)

    cargo : Option QueuedTxn
    cargo = queued_txn_kept gone (length older + 1) txn (at_position (length older + 1) pasts)

    here : (b : Bool) → (p == length (queued_behind opened older) + 1) ≡ b → nat_lt opened (length older + 1) ≡ true
        → at_position p stream ≡ option_map (in_stream schema opened gone pasts p (queued_behind opened older)) (at_position p (queued_behind opened older))
        → cond b (Some (record { number = length (deferred_in schema ds gone pasts older) + 1; dep = dep; cargo = cargo })) (at_position p stream)
        ≡ option_map (in_stream schema opened gone pasts p (txn ∷ queued_behind opened older)) (cond b (Some txn) (at_position p (queued_behind opened older)))
    here true at above later =
        let under : opened ≤ length older = grind (arith, nat_tests) in
        let sum = length-queued_behind opened older under in
        let position : p ≡ length (queued_behind opened older) + 1 = grind (arith, nat_tests) in
        let number : length (deferred_in schema ds gone pasts older) + 1 ≡ opened + p = omega (arith, length-deferred_in schema ds gone pasts older, sum, position) in
        let place : length older + 1 ≡ opened + p = omega (arith, sum, position) in
        rw (at, number, place) refl
    here false at above later =
        let same : dep_at schema p (queued_behind opened older) ≡ dep_at schema p (txn ∷ queued_behind opened older) = rw at refl in
        later ∙ ap (λ (d : ℕ). option_map (λ (t : Txn). record { number = opened + p; dep = d; cargo = queued_txn_kept gone (opened + p) t (at_position (opened + p) pasts) }) (at_position p (queued_behind opened older))) same

    by : (b : Bool) → nat_lt opened (length older + 1) ≡ b
        → at_position p stream ≡ option_map (in_stream schema opened gone pasts p (queued_behind opened older)) (at_position p (queued_behind opened older))
        → at_position p (queue.with_one (cond b (Some (record { site = site; dep = dep })) None) (length (deferred_in schema ds gone pasts older) + 1) cargo stream)
        ≡ option_map (in_stream schema opened gone pasts p (with_one b txn (queued_behind opened older))) (at_position p (with_one b txn (queued_behind opened older)))
    by true above later = rw (length-stream_to schema site opened ds gone pasts older apart is) (here (p == length (queued_behind opened older) + 1) refl above later)
    by false above later = later

-- ---- packets

abbrev packet_with : SiteName → SiteName → ℕ → InStream → QueuedTxn → Packet
packet_with from to position found cargo = Carry from to found.number position found.dep cargo.past cargo.txn

-- the packet of what was found in a stream, where it isn't purged
abbrev pub packet_of : SiteName → SiteName → ℕ → Option InStream → Option Packet
packet_of from to position None = None
packet_of from to position (Some found) = option_map (packet_with from to position found) found.cargo

-- the packet that carries a transaction of the queue behind an opening count
abbrev packet_in : SiteName → ℕ → SiteState → Option ℕ → Option Txn → Option Packet
packet_in site p x opened None = None
packet_in site p x opened (Some txn) = cond (nat_le (count_opened opened + p) x.purged) None
    (Some (Carry x.here.site site (count_opened opened + p) p (dep_at x.schema p (stream_in opened (queue_of x))) (past_in (at_position (count_opened opened + p) (pasts_of x))) txn))

-- the packet of what the queue's crate finds at a position is the site's packet
pub packet_of-deferred_of : (site : SiteName) (p : ℕ) (x : SiteState) → StandApart x.destinations
    → packet_of x.here.site site p (at_position p (queue_stream_to site (deferred_of x))) ≡ site_packet site p x
packet_of-deferred_of site p x apart = go (opened_of site x) refl
  where
    kept : (opened : ℕ) (txn : Txn) → opened_of site x ≡ Some opened → (b : Bool)
        → option_map (packet_with x.here.site site p (in_stream x.schema opened x.purged (pasts_of x) p (queued_behind opened (queue_of x)) txn))
        (cond b None (Some (record { txn = txn; past = past_in (at_position (opened + p) (pasts_of x)) })))
        ≡ cond b None (Some (Carry x.here.site site (opened + p) p (dep_at x.schema p (queued_behind opened (queue_of x))) (past_in (at_position (opened + p) (pasts_of x))) txn))
    kept opened txn is true = refl
    kept opened txn is false = refl

    same : (t : Option Txn) → packet_found site p x t ≡ packet_in site p x (opened_of site x) t
    same None = refl
    same (Some txn) = refl

    sent : (opened : ℕ) → opened_of site x ≡ Some opened → (t : Option Txn) → at_position p (queued_behind opened (queue_of x)) ≡ t → packet_in site p x (Some opened) t ≡ site_packet site p x
    sent opened is t there =
        sym (ap (packet_in site p x (Some opened)) there)
        ∙ sym (ap (λ (o : Option ℕ). packet_in site p x o (at_position p (stream_in o (queue_of x)))) is)
        ∙ sym (same (at_position p (stream_in (opened_of site x) (queue_of x))))

    by : (opened : ℕ) → opened_of site x ≡ Some opened → (t : Option Txn) → at_position p (queued_behind opened (queue_of x)) ≡ t
        → packet_of x.here.site site p (option_map (in_stream x.schema opened x.purged (pasts_of x) p (queued_behind opened (queue_of x))) t) ≡ site_packet site p x
    by opened is None there = sent opened is None there
    by opened is (Some txn) there = kept opened txn is (nat_le (opened + p) x.purged) ∙ sent opened is (Some txn) there

    go : (o : Option ℕ) → opened_of site x ≡ o → packet_of x.here.site site p (at_position p (queue_stream_to site (deferred_of x))) ≡ site_packet site p x
    go None is = rw (stream_to-closed x.schema site x.destinations x.purged (pasts_of x) (queue_of x) apart is, is) refl
    go (Some opened) is =
        ap (packet_of x.here.site site p) (at_position-deferred_in x.schema site opened x.destinations x.purged (pasts_of x) (queue_of x) p apart is)
        ∙ by opened is (at_position p (queued_behind opened (queue_of x))) refl

-- ---- a purge

-- each of these is the site's destination of its name
abbrev pub AreFound : List DestinationState → List DestinationState → Type 0
AreFound all ds = AllByRecursion (λ (d : DestinationState). destination_of d.site all ≡ Some d) ds

found_behind : (d : DestinationState) (all ds : List DestinationState) → AreFound all ds → AllByRecursion (λ (e : DestinationState). is_same_site d.site e.site ≡ false) ds → AreFound (d ∷ all) ds
found_behind d all [] found off = tt
found_behind d all (e ∷ ds) found off = (rw off.0 found.0, found_behind d all ds found.1 off.1)

-- another destination than the first is another site
pub apart_names : (d : DestinationState) (ds : List DestinationState) → destination_of d.site ds ≡ None → AllByRecursion (λ (e : DestinationState). is_same_site d.site e.site ≡ false) ds
apart_names d [] none = tt
apart_names d (e ∷ ds) none = go (is_same_site e.site d.site) refl (is_same_site d.site e.site) refl none (apart_names d ds)
  where
    go : (b : Bool) → is_same_site e.site d.site ≡ b → (c : Bool) → is_same_site d.site e.site ≡ c → cond b (Some e) (destination_of d.site ds) ≡ None
        → (destination_of d.site ds ≡ None → AllByRecursion (λ (e : DestinationState). is_same_site d.site e.site ≡ false) ds)
        → AllByRecursion (λ (e : DestinationState). is_same_site d.site e.site ≡ false) (e ∷ ds)
    go true is c other none later = absurd (cc none)
    go false is true other none later =
        let names : d.site ≡ e.site = is_same_site-true d.site e.site other in
        let same : is_same_site e.site d.site ≡ true = rw names (is_same_site-refl e.site) in absurd (cc (same, is))
    go false is false other none later = (other, later none)

-- each of the destinations is the one of its name
pub all_found : (ds : List DestinationState) → StandApart ds → AreFound ds ds
all_found [] apart = tt
all_found (d ∷ ds) apart = (rw (is_same_site-refl d.site) refl, found_behind d ds ds (all_found ds apart.1) (apart_names d ds apart.0))

-- how far a site has acknowledged its stream is what its destination has
pub acked_by-marks : (site : SiteName) (ds : List DestinationState) → acked_by site (map (λ (d : DestinationState). record { site = d.site; acked = d.acked }) ds) ≡ acked_in (destination_of site ds)
acked_by-marks site [] = refl
acked_by-marks site (d ∷ ds) = go (is_same_site d.site site) (acked_by-marks site ds)
  where
    go : (b : Bool) → acked_by site (map (λ (d : DestinationState). record { site = d.site; acked = d.acked }) ds) ≡ acked_in (destination_of site ds)
        → cond b d.acked (acked_by site (map (λ (d : DestinationState). record { site = d.site; acked = d.acked }) ds)) ≡ acked_in (cond b (Some d) (destination_of site ds))
    go true later = refl
    go false later = later

module _ (schema : Schema) (all : List DestinationState) (apart : StandApart all) (gone : ℕ) (pasts : List (List PastEntry)) (count : ℕ) (txn : Txn) (older : List Txn) (within : length older + 1 ≤ count) where
  abbrev marks : List queue.Mark
  marks = map (λ (d : DestinationState). record { site = d.site; acked = d.acked }) all

  abbrev has_acked : Destination → Bool
  has_acked d = nat_le (last_position d.site (deferred_in schema all gone pasts older) + 1) (acked_by d.site marks)

  two_tests : (m n k : ℕ) → nat_le n (min m k) ≡ (nat_le n m && nat_le n k)
  two_tests m n k = grind (arith, nat_tests)

  -- one destination has acknowledged the number, or doesn't have it
  one_acked : (d : DestinationState) (o : Option ℕ) → d.opened ≡ o → destination_of d.site all ≡ Some d → (rest : List Destination)
      → list_all has_acked (cons_option (place_since schema txn older d.site o) rest) ≡ (nat_le (length older + 1) (acknowledged_by count d.acked o) && list_all has_acked rest)
  one_acked d None opened found rest = let all_of_it : nat_le (length older + 1) count ≡ true = grind (arith, nat_tests, within) in rw all_of_it refl
  one_acked d (Some opened) is found rest = by (nat_lt opened (length older + 1)) refl
    where
      opened_is : opened_in (destination_of d.site all) ≡ Some opened
      opened_is = rw found is

      acked : acked_by d.site marks ≡ d.acked
      acked = acked_by-marks d.site all ∙ ap acked_in found

      length_is : last_position d.site (deferred_in schema all gone pasts older) ≡ length (queued_behind opened older)
      length_is = length-stream_to schema d.site opened all gone pasts older apart opened_is

      test : opened ≤ length older → nat_le (last_position d.site (deferred_in schema all gone pasts older) + 1) (acked_by d.site marks) ≡ nat_le (length older + 1) (opened + d.acked)
      test under = rw (length_is, acked) (let sum = length-queued_behind opened older under in grind (arith, nat_tests, sum))

      by : (b : Bool) → nat_lt opened (length older + 1) ≡ b
          → list_all has_acked (cons_option (cond b (Some (record { site = d.site; dep = dependency_of schema txn (queued_behind opened older) })) None) rest)
          ≡ (nat_le (length older + 1) (opened + d.acked) && list_all has_acked rest)
      by true above = let under : opened ≤ length older = grind (arith, nat_tests) in ap (λ b. b && list_all has_acked rest) (test under)
      by false above = let below : nat_le (length older + 1) (opened + d.acked) ≡ true = grind (arith, nat_tests) in rw below refl

  all_acked : (ds : List DestinationState) → AreFound all ds → list_all has_acked (filter_map (place_for schema txn older) ds) ≡ nat_le (length older + 1) (acknowledged_by_all count ds)
  all_acked [] found = let all_of_it : nat_le (length older + 1) count ≡ true = grind (arith, nat_tests, within) in rw all_of_it refl
  all_acked (d ∷ ds) found =
      one_acked d d.opened refl found.0 (filter_map (place_for schema txn older) ds)
      ∙ ap (λ b. nat_le (length older + 1) (acknowledged_by count d.acked d.opened) && b) (all_acked ds found.1)
      ∙ sym (two_tests (acknowledged_by count d.acked d.opened) (length older + 1) (acknowledged_by_all count ds))

-- a purge of the queue's crate takes what each destination has acknowledged of what it has
pub purged-deferred_in : (schema : Schema) (ds : List DestinationState) (gone : ℕ) (pasts : List (List PastEntry)) (count : ℕ) (txns : List Txn) → StandApart ds → length txns ≤ count
    → purged (map (λ (d : DestinationState). record { site = d.site; acked = d.acked }) ds) (deferred_in schema ds gone pasts txns) ≡ deferred_in schema ds (max gone (acknowledged_by_all count ds)) pasts txns
purged-deferred_in schema ds gone pasts count [] apart within = refl
purged-deferred_in schema ds gone pasts count (txn ∷ older) apart within =
    rw (all_acked schema ds apart gone pasts count txn older (omega (arith, within)) ds (all_found ds apart), purged-deferred_in schema ds gone pasts count older apart (omega (arith, within)))
    (ap (λ (cargo : Option QueuedTxn). record { cargo = cargo; to = filter_map (place_for schema txn older) ds } ∷ deferred_in schema ds (max gone (acknowledged_by_all count ds)) pasts older)
    (kept (nat_le (length older + 1) (acknowledged_by_all count ds)) refl (nat_le (length older + 1) gone) refl (nat_le (length older + 1) (max gone (acknowledged_by_all count ds))) refl))
  where
    cargo : Option QueuedTxn
    cargo = Some (record { txn = txn; past = past_in (at_position (length older + 1) pasts) })

    kept : (a : Bool) → nat_le (length older + 1) (acknowledged_by_all count ds) ≡ a → (b : Bool) → nat_le (length older + 1) gone ≡ b → (c : Bool) → nat_le (length older + 1) (max gone (acknowledged_by_all count ds)) ≡ c
        → cond a None (cond b None cargo) ≡ cond c None cargo
    kept true all_have b before true both = refl
    kept true all_have b before false both = absurd (grind (arith, nat_tests))
    kept false all_have true before true both = refl
    kept false all_have true before false both = absurd (grind (arith, nat_tests))
    kept false all_have false before true both = absurd (grind (arith, nat_tests))
    kept false all_have false before false both = refl

-- what a purge of the queue's crate leaves is the site's queue after its purge
pub purged-deferred_of : (x : SiteState) → StandApart x.destinations → purged (deferred_marks x) (deferred_of x) ≡ deferred_of (site_purge x)
purged-deferred_of x apart = purged-deferred_in x.schema x.destinations x.purged (pasts_of x) (count_of x) (queue_of x) apart (omega arith)
