-- How long the streams of sites are at most, where these have journalled few transactions of their own: positions are numbers of 64 bits.
use Rattle.std.proofs.Common.{◌≡◌, ◌≢◌, ℕ, zero, suc, ◌+◌, ◌*◌, ◌<◌, ◌≤◌, ◌^◌, ◌==◌, List, [], ◌∷◌, length, map, filter, Bool, true, false, cond, Some, None, refl, sym, ap, ◌∙◌, subst, arith}
use Rattle.std.specs.Prelude.{not, ◌&&◌, ◌||◌, nat_lt, Option}
use Rattle.std.specs.List.{AllByRecursion}
use Rattle.std.proofs.lemmas.Bool.{or_right}
use Rattle.std.proofs.lemmas.Bool.Decides.{nat_tests}
use Rattle.std.proofs.lemmas.List.{length-map}
use Rattle.std.proofs.lemmas.List.Sums.{length-filter}
use Rattle.std.proofs.lemmas.List.Filters.{length-filter_both}
use Rattle.rep_lists.specs.Rising.{find_at}
use Rattle.rep_values.specs.declared.name.SiteName.{SiteName}
use Rattle.rep_schema.specs.declared.schema.Schema.{Schema}
use Rattle.rep_schema.specs.declared.schema.SiteEntry.{SiteEntry}
use Rattle.rep_schema.specs.Shape.{is_master, is_snapshot, HasShape}
use Rattle.rep_schema.specs.Named.{site_named}
use Rattle.rep_schema.specs.Sites.{sends_to, names_of, senders_to, senders_of, is_master_site, is_among}
use Rattle.rep_schema.specs.Tables.{Rows}
use Rattle.rep_calls.specs.declared.call.Txn.{Txn}
use Rattle.txn_effects.specs.declared.local.Here.{Here}
use Rattle.rep_values.specs.SiteNames.{is_same_site}
use Rattle.deferred_queue.proofs.Sites.{is_same_site-true, eq_true}
use Rattle.deferred_queue.proofs.Positions.{found_position}
use Rattle.site_state.specs.declared.arrival.Arrival.{Arrival}
use Rattle.site_state.specs.declared.entry.Entry.{Entry}
use Rattle.site_state.specs.declared.entry.Entry.TheVariants.{Local, Done, Error, Executed, Dropped, Refreshed}
use Rattle.site_state.specs.State.{SenderState, SiteState, sender_of, arrived_in, arrival_beside, arrived_at, opened_of, first_number}
use Rattle.rep_lists.specs.Counting.{count_where}
use Rattle.site_state.specs.Journal.{finishes, clears_error, finished}
use Rattle.site_state.specs.Streams.{with_one, queue_after, queue_of, count_of, queued_behind, stream_in, stream_to}
use Rattle.site_state.specs.DeclaredSites.{IsDeclared}
use Rattle.site_events.specs.Cluster.{site_of}
use Rattle.event_laws.specs.Marks.{journal_in}
use Rattle.event_laws.specs.Orders.{AreFinishedOnce, AreClearedOnce}
use Rattle.event_laws.proofs.Sites.{found_name, found_all}
use Rattle.event_laws.specs.Streams.{IsSentBy, ArrivalsAreOfStreams}
use Rattle.live_laws.specs.RisingNumbers.{HasRisingNumbers}
use Rattle.world_run.proofs.OwnCounts.{is_own, own_counts, own_count-found}
use Rattle.world_run.proofs.SentOnward.{AllSentOn, SendsOn, is_position-own}

-- ---- what a journal queues

-- the changed rows of an entry went onward, where the site is a master
abbrev is_onward : Entry → Bool
is_onward (Local number txn) = false
is_onward (Done origin position onward txn) = not (onward == 0)
is_onward (Error origin position call error txn) = false
is_onward (Executed origin position onward txn) = not (onward == 0)
is_onward (Dropped origin position) = false
is_onward (Refreshed moment) = false

-- one that may have gone onward is queued or isn't
with_one-within : (here sent : Bool) (txn : Txn) (txns : List Txn) (own onward : ℕ) → length txns ≤ own + onward → length (with_one (here && sent) txn txns) ≤ own + cond sent (onward + 1) onward
with_one-within true true txn txns own onward within = omega (arith, within)
with_one-within true false txn txns own onward within = within
with_one-within false true txn txns own onward within = omega (arith, within)
with_one-within false false txn txns own onward within = within

-- a site queues its own transactions, and what goes onward
queue-within : (schema : Schema) (here : Here) (base : List Rows) (es : List Entry) → length (queue_after schema here base es) ≤ count_where is_own es + count_where is_onward es
queue-within schema here base [] = omega arith
queue-within schema here base (Local number txn ∷ es) = omega (arith, queue-within schema here base es)
queue-within schema here base (Done origin position onward txn ∷ es) =
    with_one-within here.is_master (not (onward == 0)) _ (queue_after schema here base es) (count_where is_own es) (count_where is_onward es) (queue-within schema here base es)
queue-within schema here base (Error origin position call error txn ∷ es) = queue-within schema here base es
queue-within schema here base (Executed origin position onward txn ∷ es) =
    with_one-within here.is_master (not (onward == 0)) _ (queue_after schema here base es) (count_where is_own es) (count_where is_onward es) (queue-within schema here base es)
queue-within schema here base (Dropped origin position ∷ es) = queue-within schema here base es
queue-within schema here base (Refreshed moment ∷ es) = queue-within schema here base es

-- one that is no master queues its own transactions alone
queue-own : (schema : Schema) (here : Here) (base : List Rows) (es : List Entry) → here.is_master ≡ false → length (queue_after schema here base es) ≤ count_where is_own es
queue-own schema here base [] is = omega arith
queue-own schema here base (Local number txn ∷ es) is = omega (arith, queue-own schema here base es is)
queue-own schema here base (Done origin position onward txn ∷ es) is = rw is (queue-own schema here base es is)
queue-own schema here base (Error origin position call error txn ∷ es) is = queue-own schema here base es is
queue-own schema here base (Executed origin position onward txn ∷ es) is = rw is (queue-own schema here base es is)
queue-own schema here base (Dropped origin position ∷ es) is = queue-own schema here base es is
queue-own schema here base (Refreshed moment ∷ es) is = queue-own schema here base es is

-- a stream isn't longer than its queue
behind-within : {X : Type 0} (opened : ℕ) (xs : List X) → length (queued_behind opened xs) ≤ length xs
behind-within opened [] = omega arith
behind-within opened (x ∷ xs) = go (nat_lt opened (length xs + 1)) (behind-within opened xs)
  where
    go : (b : Bool) → length (queued_behind opened xs) ≤ length xs → length (with_one b x (queued_behind opened xs)) ≤ suc (length xs)
    go true later = omega (arith, later)
    go false later = omega (arith, later)

stream-within : (site : SiteName) (x : SiteState) → length (stream_to site x) ≤ count_of x
stream-within site x = go (opened_of site x)
  where
    go : (o : Option ℕ) → length (stream_in o (queue_of x)) ≤ count_of x
    go None = omega arith
    go (Some opened) = behind-within opened (queue_of x)

-- ---- sums over positions and names

-- the sum over the positions up to one, and the sum over names
abbrev to_position : ℕ → (ℕ → ℕ) → ℕ
to_position zero f = f 0
to_position (suc k) f = f (suc k) + to_position k f

abbrev of_names : List SiteName → (SiteName → ℕ) → ℕ
of_names [] f = 0
of_names (n ∷ ns) f = f n + of_names ns f

to_position-le : (k : ℕ) (f g : ℕ → ℕ) → ((p : ℕ) → f p ≤ g p) → to_position k f ≤ to_position k g
to_position-le zero f g less = less 0
to_position-le (suc k) f g less = omega (arith, less (suc k), to_position-le k f g less)

to_position-lt : (k : ℕ) (f g : ℕ → ℕ) (at : ℕ) → ((p : ℕ) → f p ≤ g p) → f at < g at → at ≤ k → to_position k f < to_position k g
to_position-lt zero f g at less here within =
    let same : at ≡ 0 = omega (arith, within) in
    subst (λ (p : ℕ). f p < g p) same here
to_position-lt (suc k) f g at less here within = go (at == suc k) refl (to_position-lt k f g at less here)
  where
    go : (b : Bool) → (at == suc k) ≡ b → (at ≤ k → to_position k f < to_position k g) → f (suc k) + to_position k f < g (suc k) + to_position k g
    go true is later =
        let same : at ≡ suc k = grind (arith, nat_tests) in
        omega (arith, subst (λ (p : ℕ). f p < g p) same here, to_position-le k f g less)
    go false is later =
        let below : at ≤ k = grind (arith, nat_tests) in
        omega (arith, less (suc k), later below)

of_names-le : (names : List SiteName) (f g : SiteName → ℕ) → ((n : SiteName) → f n ≤ g n) → of_names names f ≤ of_names names g
of_names-le [] f g less = omega arith
of_names-le (n ∷ ns) f g less = omega (arith, less n, of_names-le ns f g less)

of_names-lt : (names : List SiteName) (f g : SiteName → ℕ) (at : SiteName) → ((n : SiteName) → f n ≤ g n) → f at < g at → is_among names at ≡ true → of_names names f < of_names names g
of_names-lt [] f g at less here among = absurd (cc among)
of_names-lt (n ∷ ns) f g at less here among = go (is_same_site n at) refl among (of_names-lt ns f g at less here)
  where
    go : (b : Bool) → is_same_site n at ≡ b → (b || is_among ns at) ≡ true → (is_among ns at ≡ true → of_names ns f < of_names ns g) → f n + of_names ns f < g n + of_names ns g
    go true is among later =
        let own : f n < g n = subst (λ (m : SiteName). f m < g m) (sym (is_same_site-true n at is)) here in
        omega (arith, own, of_names-le ns f g less)
    go false is among later = omega (arith, less n, later among)

-- ---- entries that went onward

-- how many entries are of a position, and how many of those of names up to one
abbrev entries_at : List Entry → SiteName → ℕ → ℕ
entries_at es origin position = count_where (finishes origin position) es + count_where (clears_error origin position) es

abbrev entries_of : List SiteName → ℕ → List Entry → ℕ
entries_of names k es = of_names names (λ origin. to_position k (entries_at es origin))

count-more : (test : Entry → Bool) (e : Entry) (es : List Entry) → count_where test es ≤ count_where test (e ∷ es)
count-more test e es = go (test e)
  where
    go : (b : Bool) → count_where test es ≤ cond b (count_where test es + 1) (count_where test es)
    go true = omega arith
    go false = omega arith

count-here : (test : Entry → Bool) (e : Entry) (es : List Entry) → test e ≡ true → count_where test es < count_where test (e ∷ es)
count-here test e es is = subst (λ (b : Bool). count_where test es < cond b (count_where test es + 1) (count_where test es)) (sym is) (omega arith)

entries-more : (e : Entry) (es : List Entry) (origin : SiteName) (p : ℕ) → entries_at es origin p ≤ entries_at (e ∷ es) origin p
entries-more e es origin p = omega (arith, count-more (finishes origin p) e es, count-more (clears_error origin p) e es)

entries_of-more : (names : List SiteName) (k : ℕ) (e : Entry) (es : List Entry) → entries_of names k es ≤ entries_of names k (e ∷ es)
entries_of-more names k e es = of_names-le names (λ n. to_position k (entries_at es n)) (λ n. to_position k (entries_at (e ∷ es) n)) (λ n. to_position-le k (entries_at es n) (entries_at (e ∷ es) n) (entries-more e es n))

entries_of-here : (names : List SiteName) (k : ℕ) (e : Entry) (es : List Entry) (origin : SiteName) (p : ℕ) → entries_at es origin p < entries_at (e ∷ es) origin p → is_among names origin ≡ true → p ≤ k
    → entries_of names k es < entries_of names k (e ∷ es)
entries_of-here names k e es origin p here among within =
    of_names-lt names (λ n. to_position k (entries_at es n)) (λ n. to_position k (entries_at (e ∷ es) n)) origin
    (λ n. to_position-le k (entries_at es n) (entries_at (e ∷ es) n) (entries-more e es n))
    (to_position-lt k (entries_at es origin) (entries_at (e ∷ es) origin) p (entries-more e es origin) here within) among

-- what is finished of those that aren't masters is of these names, up to this position
abbrev AreWithin : Schema → List SiteName → ℕ → List Entry → Type 0
AreWithin schema names k journal = (origin : SiteName) (p : ℕ) → is_master_site schema origin ≡ false → finished origin journal p ≡ true → (is_among names origin ≡ true) × (p ≤ k)

-- entries that went onward aren't more than there are of these
module _ (schema : Schema) (names : List SiteName) (k : ℕ) (journal : List Entry) (are : AreWithin schema names k journal) where
  one_more : (e : Entry) (es : List Entry) (origin : SiteName) (p onward : ℕ) → finished origin journal p ≡ true → (is_master_site schema origin ≡ true → onward ≡ 0)
      → entries_at es origin p < entries_at (e ∷ es) origin p → count_where is_onward es ≤ entries_of names k es
      → cond (not (onward == 0)) (count_where is_onward es + 1) (count_where is_onward es) ≤ entries_of names k (e ∷ es)
  one_more e es origin p onward there stays here within = go (onward == 0) refl (is_master_site schema origin) refl
    where
      go : (z : Bool) → (onward == 0) ≡ z → (m : Bool) → is_master_site schema origin ≡ m → cond (not z) (count_where is_onward es + 1) (count_where is_onward es) ≤ entries_of names k (e ∷ es)
      go true none m master = omega (arith, within, entries_of-more names k e es)
      go false some true master = let same : (onward == 0) ≡ true = eq_true onward 0 (stays master) in absurd (cc (some, same))
      go false some false master =
          let is = are origin p master there in
          omega (arith, within, entries_of-here names k e es origin p here is.0 is.1)

  onward-within : (es : List Entry) → ((origin : SiteName) (p : ℕ) → finished origin es p ≡ true → finished origin journal p ≡ true) → AllSentOn schema es
      → count_where is_onward es ≤ entries_of names k es
  onward-within [] later sent = omega arith
  onward-within (Local number txn ∷ es) later sent = omega (arith, onward-within es later sent.1, entries_of-more names k (Local number txn) es)
  onward-within (Done origin p onward txn ∷ es) later sent =
      let e : Entry = Done origin p onward txn in
      let is : finishes origin p e ≡ true = is_position-own origin p in
      one_more e es origin p onward (later origin p (ap (λ (b : Bool). b || finished origin es p) is)) sent.0
      (omega (arith, count-here (finishes origin p) e es is, count-more (clears_error origin p) e es))
      (onward-within es (λ o q fin. later o q (or_right (finishes o q e) (finished o es q) fin)) sent.1)
  onward-within (Error origin p call error txn ∷ es) later sent =
      let e : Entry = Error origin p call error txn in
      let rest : count_where is_onward es ≤ entries_of names k es = onward-within es (λ o q fin. later o q (or_right (finishes o q e) (finished o es q) fin)) sent.1 in
      omega (arith, rest, entries_of-more names k e es)
  onward-within (Executed origin p onward txn ∷ es) later sent =
      let e : Entry = Executed origin p onward txn in
      one_more e es origin p onward (later origin p sent.0.1) sent.0.0
      (omega (arith, count-here (clears_error origin p) e es (is_position-own origin p), count-more (finishes origin p) e es))
      (onward-within es later sent.1)
  onward-within (Dropped origin p ∷ es) later sent = omega (arith, onward-within es later sent.1, entries_of-more names k (Dropped origin p) es)
  onward-within (Refreshed moment ∷ es) later sent = omega (arith, onward-within es later sent.1, entries_of-more names k (Refreshed moment) es)

-- ---- few entries

to_position-few : (k : ℕ) (f : ℕ → ℕ) → ((p : ℕ) → f p ≤ 2) → to_position k f ≤ 2 * k + 2
to_position-few zero f few = omega (arith, few 0)
to_position-few (suc k) f few = omega (arith, few (suc k), to_position-few k f few)

of_names-few : (names : List SiteName) (f : SiteName → ℕ) → ((n : SiteName) → f n ≤ 400002) → of_names names f ≤ 400002 * length names
of_names-few [] f few = omega arith
of_names-few (n ∷ ns) f few = omega (arith, few n, of_names-few ns f few)

-- a schema has 16 sites at most
few_sites : (schema : Schema) → HasShape schema → length schema.sites ≤ 16
few_sites schema shape =
    omega (arith, shape.masters, shape.snapshots, length-filter is_master schema.sites, length-filter is_snapshot schema.sites, length-filter_both is_snapshot is_master (λ e. refl) schema.sites)

length-filter-le : {X : Type 0} (p : X → Bool) (xs : List X) → length (filter p xs) ≤ length xs
length-filter-le p [] = omega arith
length-filter-le p (x ∷ xs) = go (p x) (length-filter-le p xs)
  where
    go : (b : Bool) → length (filter p xs) ≤ length xs → length (cond b (x ∷ filter p xs) (filter p xs)) ≤ suc (length xs)
    go true later = omega (arith, later)
    go false later = omega (arith, later)

few_senders : (schema : Schema) (site : SiteName) → HasShape schema → length (senders_of schema site) ≤ 16
few_senders schema site shape = go (site_named schema site)
  where
    go : (o : Option SiteEntry) → length (names_of (senders_to schema.sites o)) ≤ 16
    go None = omega arith
    go (Some to) = omega (arith, few_sites schema shape, length-map (senders_to schema.sites (Some to)) (λ (s : SiteEntry). s.name), length-filter-le (λ from. sends_to from to) schema.sites)

-- ---- positions

-- what arrived is of a sender
arrived_among : (origin : SiteName) (p : ℕ) (senders : List SenderState) → arrived_at origin p senders ≢ None → is_among (map (λ (s : SenderState). s.origin) senders) origin ≡ true
arrived_among origin p [] there = absurd (there refl)
arrived_among origin p (s ∷ ss) there = go (is_same_site s.origin origin) there (arrived_among origin p ss)
  where
    names : List SiteName
    names = map (λ (t : SenderState). t.origin) ss

    go : (b : Bool) → find_at (arrival_beside p) (arrived_in (cond b (Some s) (sender_of origin ss))) ≢ None → (arrived_at origin p ss ≢ None → is_among names origin ≡ true) → (b || is_among names origin) ≡ true
    go true there later = refl
    go false there later = later there

-- sites as events leave them
pub record AreRun (schema : Schema) (sites : List SiteState) : Type 0 where
  pub shape : HasShape schema
  pub declared : AllByRecursion (IsDeclared schema) sites
  pub of_schema : AllByRecursion (λ (x : SiteState). x.schema ≡ schema) sites
  pub sent : AllByRecursion SendsOn sites
  pub once : AreFinishedOnce sites
  pub cleared : AreClearedOnce sites
  pub streams : ArrivalsAreOfStreams sites
  pub rising : (site : SiteName) (x : SiteState) → site_of site sites ≡ Some x → HasRisingNumbers x

module _ (schema : Schema) (sites : List SiteState) (are : AreRun schema sites) (few : own_counts sites ≤ 200000) where
  -- a position that arrived is one of its sender's stream
  record Sent (origin : SiteName) (p : ℕ) : Type 0 where
    sender : SiteState
    there : site_of origin sites ≡ Some sender
    within : p ≤ count_of sender

  sent_of : (site origin : SiteName) (x : SiteState) (p : ℕ) → site_of site sites ≡ Some x → arrived_at origin p x.senders ≢ None → Sent origin p
  sent_of site origin x p found arrived = go (arrived_at origin p x.senders) refl
    where
      by : (a : Arrival) (o : Option SiteState) → site_of origin sites ≡ o → IsSentBy o site (first_number origin x) p a → Sent origin p
      by a None there is = absurd is
      by a (Some o) there is = record { sender = o; there = there; within = omega (arith, (found_position p (stream_to site o) a.txn is.txn).1, stream-within site o) }

      go : (o : Option Arrival) → arrived_at origin p x.senders ≡ o → Sent origin p
      go None none = absurd (arrived none)
      go (Some a) there = by a (site_of origin sites) refl (are.streams site origin x p a found there)

  -- one that is no master has a short queue
  few_of_snapshot : (name : SiteName) (x : SiteState) → site_of name sites ≡ Some x → x.here.is_master ≡ false → count_of x ≤ own_counts sites
  few_of_snapshot name x found is = omega (arith, queue-own x.schema x.here x.base x.journal is, own_count-found name sites x found)

  -- what was finished of one that is no master is of the senders, and isn't far
  are_within : (name : SiteName) (x : SiteState) → site_of name sites ≡ Some x → AreWithin schema (senders_of schema x.here.site) (own_counts sites) x.journal
  are_within name x found origin p other fin =
      let arrived : arrived_at origin p x.senders ≢ None = (are.rising name x found).arrived origin p fin in
      let sent : Sent origin p = sent_of name origin x p found arrived in
      let is : sent.sender.here.is_master ≡ false =
      (found_all (IsDeclared schema) origin sites sent.sender are.declared sent.there).is_master ∙ ap (is_master_site schema) (found_name origin sites sent.sender sent.there) ∙ other in (
        subst (λ (names : List SiteName). is_among names origin ≡ true) (found_all (IsDeclared schema) name sites x are.declared found).senders (arrived_among origin p x.senders arrived),
        omega (arith, sent.within, few_of_snapshot origin sent.sender sent.there is),
      )

  few_at : (name : SiteName) (x : SiteState) → site_of name sites ≡ Some x → (origin : SiteName) (p : ℕ) → entries_at x.journal origin p ≤ 2
  few_at name x found origin p =
      let once : count_where (finishes origin p) x.journal ≤ 1 = subst (λ (o : Option SiteState). count_where (finishes origin p) (journal_in o) ≤ 1) found (are.once name origin p) in
      let cleared : count_where (clears_error origin p) x.journal ≤ 1 = subst (λ (o : Option SiteState). count_where (clears_error origin p) (journal_in o) ≤ 1) found (are.cleared name origin p) in
      omega (arith, once, cleared)

  -- so no queue is long
  few_queued : (name : SiteName) (x : SiteState) → site_of name sites ≡ Some x → count_of x < 2 ^ 64
  few_queued name x found =
      let names : List SiteName = senders_of schema x.here.site in
      let same : x.schema ≡ schema = found_all (λ (y : SiteState). y.schema ≡ schema) name sites x are.of_schema found in
      let sent : AllSentOn schema x.journal = subst (λ (s : Schema). AllSentOn s x.journal) same (found_all SendsOn name sites x are.sent found) in
      let onward : count_where is_onward x.journal ≤ entries_of names (own_counts sites) x.journal =
      onward-within schema names (own_counts sites) x.journal (are_within name x found) x.journal (λ o p fin. fin) sent in
      let few_each : (n : SiteName) → to_position (own_counts sites) (entries_at x.journal n) ≤ 400002 =
      λ n. omega (arith, few, to_position-few (own_counts sites) (entries_at x.journal n) (few_at name x found n)) in
      omega (
        arith,
        few,
        queue-within x.schema x.here x.base x.journal,
        own_count-found name sites x found,
        onward,
        of_names-few names (λ origin. to_position (own_counts sites) (entries_at x.journal origin)) few_each,
        few_senders schema x.here.site are.shape,
      )

  -- and positions are numbers of 64 bits
  pub positions_fit : (site origin : SiteName) (x : SiteState) (p : ℕ) → site_of site sites ≡ Some x → arrived_at origin p x.senders ≢ None → p < 2 ^ 64
  positions_fit site origin x p found arrived = let sent : Sent origin p = sent_of site origin x p found arrived in omega (arith, sent.within, few_queued origin sent.sender sent.there)
