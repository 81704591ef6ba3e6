-- What is kept of transactions with masters of their own, after one more was queued or a mark came in.
use Rattle.std.proofs.Common.{◌≡◌, ◌≢◌, ℕ, suc, ◌+◌, ◌<◌, ◌≤◌, ◌^◌, Bool, true, false, cond, max, List, [], ◌∷◌, length, map, Option, Some, None, refl, sym, ap, subst, ◌∙◌, arith}
use Rattle.std.specs.Prelude.{Contains, ◌||◌, filter, option_map}
use Rattle.std.specs.List.{AllByRecursion, cons_option}
use Rattle.rep_lists.proofs.Each.{each_then}
use Rattle.rep_values.specs.declared.name.SiteName.{SiteName}
use Rattle.rep_calls.specs.declared.call.Txn.{Txn}
use Rattle.dependency_index.specs.declared.token.Token.{Token}
use Rattle.dependency_index.specs.Tokens.{share_token}
use Rattle.dependency_index.specs.Dependencies.{NotedStream, IsNoted, IsIndexed, room_for}
use Rattle.dependency_index.proofs.FoundStreams.{sites_of}
use Rattle.dependency_index.proofs.Destinations.{IsIndexed-Contains, IsIndexed-same}
use Rattle.dependency_index.proofs.NotedTokens.{last_where-bound}
use Rattle.deferred_queue.specs.declared.queued_txn.QueuedTxn.{QueuedTxn}
use Rattle.deferred_queue.specs.declared.destination.Destination.{Destination}
use Rattle.deferred_queue.specs.Streams.{Deferred, InStream, Mark, Deferrals, CanBeSent, IsDestination, DestinationsApart, destination_to, queue_stream_to, in_order, last_position, raised_mark}
use Rattle.rep_values.specs.SiteNames.{is_same_site}
use Rattle.deferred_queue.specs.Streams as queue
use Rattle.deferred_queue.proofs.Sites.{is_same_site-true, is_same_site-refl}
use Rattle.rep_schema.specs.Sites.{is_among}
use Rattle.site_state.specs.Streams.{with_one}
use Rattle.site_outbox.specs.Noting.{TokenStreams, AreNoted}
use Rattle.proc_state.specs.Carriers.{proc_tokens}
use Rattle.proc_state.specs.State.{no_mark, stream_in}
use Rattle.proc_calls.specs.Outgoing.{NamesApart, lists_in, Keeps, CanBeNoted, with_tokens, placed, IsOutbox}
use Rattle.proc_calls.proofs.Apart.{not_among_some, apart_some}

-- ---- nothing

marked_new : (sites : List SiteName) → map (λ (m : Mark). m.site) (map no_mark sites) ≡ sites
marked_new [] = refl
marked_new (s ∷ ss) = ap (λ (rest : List SiteName). s ∷ rest) (marked_new ss)

pub IsOutbox-new : (sites : List SiteName) (noted : List NotedStream) → NamesApart sites → sites_of noted ≡ sites → ((site : SiteName) → IsNoted noted site []) → IsOutbox sites (map no_mark sites) [] noted 0
IsOutbox-new sites noted apart same none = record {
  marked = marked_new sites;
  indexed = same;
  apart = apart;
  streams = λ site. record { stream = []; is = none site; long = refl };
  counted = refl;
}

pub Keeps-new : (marks : List Mark) (noted : List NotedStream) → ((site : SiteName) → IsNoted noted site []) → Keeps [] [] (record { deferred = []; marks = marks; noted = noted })
Keeps-new marks noted none = record { queue = refl; tokens = none }

-- ---- room

-- what is noted of a stream stays so
abbrev pub StayNoted : List NotedStream → List NotedStream → Type 0
StayNoted old new = (site : SiteName) (stream : List (List Token)) → IsNoted old site stream → IsNoted new site stream

-- room changes nothing of what is kept
pub IsOutbox-reserved : (masters : List SiteName) (marks : List Mark) (deferred : List Deferred) (old new : List NotedStream) (count : ℕ) → StayNoted old new → sites_of new ≡ sites_of old
    → IsOutbox masters marks deferred old count → IsOutbox masters marks deferred new count
IsOutbox-reserved masters marks deferred old new count noted sites is = record {
  marked = is.marked;
  indexed = sites ∙ is.indexed;
  apart = is.apart;
  streams = λ site. record { stream = (is.streams site).stream; is = noted site (is.streams site).stream (is.streams site).is; long = (is.streams site).long };
  counted = is.counted;
}

pub Keeps-reserved : (lists : List (List SiteName)) (txns : List Txn) (deferred : List Deferred) (marks : List Mark) (old new : List NotedStream) → StayNoted old new
    → Keeps lists txns (record { deferred = deferred; marks = marks; noted = old }) → Keeps lists txns (record { deferred = deferred; marks = marks; noted = new })
Keeps-reserved lists txns deferred marks old new noted keeps = record { queue = keeps.queue; tokens = λ site. noted site (map proc_tokens (stream_in site lists txns)) (keeps.tokens site) }

-- ---- streams and destinations

-- the streams that are noted
abbrev pub streams_in : {masters : List SiteName} {marks : List Mark} {deferred : List Deferred} {noted : List NotedStream} {count : ℕ} → IsOutbox masters marks deferred noted count → TokenStreams
streams_in is site = (is.streams site).stream

some_of : {X : Type 0} (P : X → Type 0) (test : X → Bool) (xs : List X) → AllByRecursion P xs → AllByRecursion P (filter test xs)
some_of P test [] all = tt
some_of P test (x ∷ xs) all = go (test x) (some_of P test xs all.1)
  where
    go : (b : Bool) → AllByRecursion P (filter test xs) → AllByRecursion P (cond b (x ∷ filter test xs) (filter test xs))
    go true later = (all.0, later)
    go false later = later

contained : (sites : List SiteName) → AllByRecursion (Contains sites) sites
contained [] = tt
contained (s ∷ ss) = ((0, omega arith, refl), each_then _ _ (λ p there. (suc there.0, omega (arith, there.1), there.2)) ss (contained ss))

-- the stream to a site isn't longer than the queue
stream_within : (site : SiteName) (deferred : List Deferred) → last_position site deferred ≤ length deferred
stream_within site [] = omega arith
stream_within site (d ∷ older) = go (destination_to site d.to) (stream_within site older)
  where
    go : (o : Option Destination) → length (queue_stream_to site older) ≤ length older → length (queue.with_one o (length older + 1) d.cargo (queue_stream_to site older)) ≤ suc (length older)
    go None within = omega (arith, within)
    go (Some to) within = omega (arith, within)

-- with room for its tokens, a transaction can be noted of each master
pub can_be_noted : (masters : List SiteName) (marks : List Mark) (deferred : List Deferred) (old new : List NotedStream) (count size : ℕ) → count + 1 < 2 ^ 64 → StayNoted old new → sites_of new ≡ sites_of old
    → ((site : SiteName) → IsIndexed old site → size ≤ room_for new site) → IsOutbox masters marks deferred old count → (test : SiteName → Bool) → AllByRecursion (CanBeNoted new size) (filter test masters)
can_be_noted masters marks deferred old new count size below noted sites room is test = some_of (CanBeNoted new size) test masters (each_then (Contains masters) (CanBeNoted new size) one masters (contained masters))
  where
    one : (site : SiteName) → Contains masters site → CanBeNoted new size site
    one site among =
        let there : IsIndexed old site = IsIndexed-Contains old site (subst (λ (names : List SiteName). Contains names site) (sym is.indexed) among) in
        record {
          indexed = IsIndexed-same old new site (sym sites) there;
          count = omega (arith, (noted site (is.streams site).stream (is.streams site).is).count, (is.streams site).long, stream_within site deferred, is.counted, below);
          room = room site there;
        }

module _ (tokens : List Token) (streams : TokenStreams) where
  -- a site among these is a destination
  found_placed : (site : SiteName) (sites : List SiteName) → destination_to site (map (placed tokens streams) sites) ≡ cond (is_among sites site) (Some (placed tokens streams site)) None
  found_placed site [] = refl
  found_placed site (s ∷ ss) = go (is_same_site s site) refl (found_placed site ss)
    where
      go : (b : Bool) → is_same_site s site ≡ b → destination_to site (map (placed tokens streams) ss) ≡ cond (is_among ss site) (Some (placed tokens streams site)) None
          → cond b (Some (placed tokens streams s)) (destination_to site (map (placed tokens streams) ss)) ≡ cond (b || is_among ss site) (Some (placed tokens streams site)) None
      go true is later = ap (λ (n : SiteName). Some (placed tokens streams n)) (is_same_site-true s site is)
      go false is later = later

  -- of names apart no two destinations are the same site
  pub apart_placed : (sites : List SiteName) → NamesApart sites → DestinationsApart (map (placed tokens streams) sites)
  apart_placed [] apart = tt
  apart_placed (s ∷ ss) apart = (found_placed s ss ∙ ap (λ (b : Bool). cond b (Some (placed tokens streams s)) None) apart.0, apart_placed ss apart.1)

  module _ (test : SiteName → Bool) where
    -- those of some sites that pass a test
    among_some : (sites : List SiteName) (site : SiteName) → is_among sites site ≡ true → is_among (filter test sites) site ≡ test site
    among_some [] site among = absurd (cc among)
    among_some (s ∷ ss) site among = go (is_same_site s site) refl (test s) refl among (among_some ss site)
      where
        own : (b : Bool) → is_among ss site ≡ b → (is_among ss site ≡ true → is_among (filter test ss) site ≡ test site) → test site ≡ false → is_among (filter test ss) site ≡ false
        own true is later off = later is ∙ off
        own false is later off = not_among_some test site ss is

        go : (b : Bool) → is_same_site s site ≡ b → (c : Bool) → test s ≡ c → (b || is_among ss site) ≡ true → (is_among ss site ≡ true → is_among (filter test ss) site ≡ test site)
            → is_among (cond c (s ∷ filter test ss) (filter test ss)) site ≡ test site
        go true same true passes is later =
            let here : s ≡ site = is_same_site-true s site same in
            rw same (sym (subst (λ (n : SiteName). test n ≡ true) here passes))
        go true same false fails is later =
            let here : s ≡ site = is_same_site-true s site same in
            let off : test site ≡ false = subst (λ (n : SiteName). test n ≡ false) here fails in
            own (is_among ss site) refl later off ∙ sym off
        go false same true passes is later = rw same (later is)
        go false same false fails is later = later is

    -- in the order of the marks they are what they are
    ordered_front : (sites : List SiteName) (marks : List Mark) → AllByRecursion (λ (m : Mark). is_among sites m.site ≡ true) marks
        → in_order marks (map (placed tokens streams) (filter test sites)) ≡ map (placed tokens streams) (filter test (map (λ (m : Mark). m.site) marks))
    ordered_front sites [] among = refl
    ordered_front sites (m ∷ ms) among =
        let here : destination_to m.site (map (placed tokens streams) (filter test sites)) ≡ cond (test m.site) (Some (placed tokens streams m.site)) None =
        found_placed m.site (filter test sites) ∙ ap (λ (b : Bool). cond b (Some (placed tokens streams m.site)) None) (among_some sites m.site among.0) in
        rw here (go (test m.site) (ordered_front sites ms among.1))
      where
        go : (b : Bool) → in_order ms (map (placed tokens streams) (filter test sites)) ≡ map (placed tokens streams) (filter test (map (λ (m : Mark). m.site) ms))
            → cons_option (option_map (λ (d : Destination). record { site = m.site; dep = d.dep }) (cond b (Some (placed tokens streams m.site)) None)) (in_order ms (map (placed tokens streams) (filter test sites)))
            ≡ map (placed tokens streams) (cond b (m.site ∷ filter test (map (λ (m : Mark). m.site) ms)) (filter test (map (λ (m : Mark). m.site) ms)))
        go true later = ap (λ (ds : List Destination). placed tokens streams m.site ∷ ds) later
        go false later = later

    pub in_order-placed : (marks : List Mark) → in_order marks (map (placed tokens streams) (filter test (map (λ (m : Mark). m.site) marks))) ≡ map (placed tokens streams) (filter test (map (λ (m : Mark). m.site) marks))
    in_order-placed marks = ordered_front (map (λ (m : Mark). m.site) marks) marks (all marks)
      where
        later : (name : SiteName) (names : List SiteName) (ms : List Mark) → AllByRecursion (λ (m : Mark). is_among names m.site ≡ true) ms → AllByRecursion (λ (m : Mark). is_among (name ∷ names) m.site ≡ true) ms
        later name names [] among = tt
        later name names (m ∷ ms) among = (by (is_same_site name m.site), later name names ms among.1)
          where
            by : (b : Bool) → (b || is_among names m.site) ≡ true
            by true = refl
            by false = among.0

        all : (ms : List Mark) → AllByRecursion (λ (m : Mark). is_among (map (λ (m : Mark). m.site) ms) m.site ≡ true) ms
        all [] = tt
        all (m ∷ ms) = (rw (is_same_site-refl m.site) refl, later m.site (map (λ (m : Mark). m.site) ms) ms (all ms))

    -- each is a destination of the queue, and depends on a position that its stream has
    pub can_be_sent : (state : Deferrals) → ((site : SiteName) → length (streams site) ≡ last_position site state.deferred)
        → AllByRecursion (CanBeSent state) (map (placed tokens streams) (filter test (map (λ (m : Mark). m.site) state.marks)))
    can_be_sent state long = each state.marks (marked state.marks)
      where
        marked : (ms : List Mark) → AllByRecursion (λ (m : Mark). IsDestination ms m.site) ms
        marked [] = tt
        marked (m ∷ ms) = (rw (is_same_site-refl m.site) (λ none. absurd (cc none)), each_then _ _ more ms (marked ms))
          where
            more : (n : Mark) → IsDestination ms n.site → IsDestination (m ∷ ms) n.site
            more n there = by (is_same_site m.site n.site)
              where
                by : (b : Bool) → cond b (Some (record { site = m.site; dep = 0 })) (destination_to n.site (map (λ (m : Mark). record { site = m.site; dep = 0 }) ms)) ≢ None
                by true = λ none. absurd (cc none)
                by false = there

        one : (site : SiteName) → IsDestination state.marks site → CanBeSent state (placed tokens streams site)
        one site there = record { destination = there; earlier = omega (arith, last_where-bound (share_token tokens) (streams site), long site) }

        each : (ms : List Mark) → AllByRecursion (λ (m : Mark). IsDestination state.marks m.site) ms → AllByRecursion (CanBeSent state) (map (placed tokens streams) (filter test (map (λ (m : Mark). m.site) ms)))
        each [] there = tt
        each (m ∷ ms) there = by (test m.site) (each ms there.1)
          where
            by : (b : Bool) → AllByRecursion (CanBeSent state) (map (placed tokens streams) (filter test (map (λ (m : Mark). m.site) ms)))
                → AllByRecursion (CanBeSent state) (map (placed tokens streams) (cond b (m.site ∷ filter test (map (λ (m : Mark). m.site) ms)) (filter test (map (λ (m : Mark). m.site) ms))))
            by true later = (one m.site there.0, later)
            by false later = later

-- ---- one more

module _ (masters : List SiteName) (marks : List Mark) (deferred : List Deferred) (old new : List NotedStream) (count : ℕ) (is : IsOutbox masters marks deferred old count) (to : List SiteName) where
  abbrev sites : List SiteName
  sites = filter (is_among to) masters

  -- these are apart
  pub sites_apart : NamesApart sites
  sites_apart = apart_some (is_among to) masters is.apart

  pub same_sites : filter (is_among to) (map (λ (m : Mark). m.site) marks) ≡ sites
  same_sites = ap (filter (is_among to)) is.marked

  pub ordered : (tokens : List Token) (streams : TokenStreams) → in_order marks (map (placed tokens streams) sites) ≡ map (placed tokens streams) sites
  ordered tokens streams = subst (λ (names : List SiteName). in_order marks (map (placed tokens streams) names) ≡ map (placed tokens streams) names) same_sites (in_order-placed tokens streams (is_among to) marks)

  pub sent : (state : Deferrals) → state.marks ≡ marks → state.deferred ≡ deferred → (tokens : List Token) → AllByRecursion (CanBeSent state) (map (placed tokens (streams_in is)) sites)
  sent state marks_are deferred_is tokens =
      subst (λ (names : List SiteName). AllByRecursion (CanBeSent state) (map (placed tokens (streams_in is)) names)) (ap (λ (ms : List Mark). filter (is_among to) (map (λ (m : Mark). m.site) ms)) marks_are ∙ same_sites)
      (can_be_sent tokens (streams_in is) (is_among to) state (λ site. (is.streams site).long ∙ ap (last_position site) (sym deferred_is)))

  module _ (tokens : List Token) (sites_same : sites_of new ≡ sites_of old) (noted : AreNoted new (with_tokens sites tokens (streams_in is))) (cargo : Option QueuedTxn) where
    abbrev queued : Deferred
    queued = record { cargo = cargo; to = map (placed tokens (streams_in is)) sites }

    pub IsOutbox-pushed : IsOutbox masters marks (queued ∷ deferred) new (count + 1)
    IsOutbox-pushed = record {
      marked = is.marked;
      indexed = sites_same ∙ is.indexed;
      apart = is.apart;
      streams = λ site. record { stream = with_tokens sites tokens (streams_in is) site; is = noted site; long = one_more site };
      counted = omega (arith, is.counted);
    }
      where
        one_more : (site : SiteName) → length (with_tokens sites tokens (streams_in is) site) ≡ last_position site (queued ∷ deferred)
        one_more site = rw (found_placed tokens (streams_in is) site sites) (go (is_among sites site))
          where
            go : (b : Bool) → length (with_one b tokens (streams_in is site)) ≡ length (queue.with_one (cond b (Some (placed tokens (streams_in is) site)) None) (length deferred + 1) cargo (queue_stream_to site deferred))
            go true = ap suc (is.streams site).long
            go false = (is.streams site).long

-- the sites of destinations
sites_placed : (tokens : List Token) (streams : TokenStreams) (sites : List SiteName) → map (λ (d : Destination). d.site) (map (placed tokens streams) sites) ≡ sites
sites_placed tokens streams [] = refl
sites_placed tokens streams (s ∷ ss) = ap (λ (names : List SiteName). s ∷ names) (sites_placed tokens streams ss)

pub lists_in-pushed : (cargo : Option QueuedTxn) (tokens : List Token) (streams : TokenStreams) (sites : List SiteName) (deferred : List Deferred)
    → lists_in (record { cargo = cargo; to = map (placed tokens streams) sites } ∷ deferred) ≡ sites ∷ lists_in deferred
lists_in-pushed cargo tokens streams sites deferred = ap (λ (names : List SiteName). names ∷ lists_in deferred) (sites_placed tokens streams sites)

-- where the tokens of the new transaction are noted, it is kept too
pub Keeps-pushed : (lists : List (List SiteName)) (txns : List Txn) (txn : Txn) (sites : List SiteName) (marks : List Mark) (deferred : List Deferred) (old new : List NotedStream) (to : List Destination)
    → ((streams : TokenStreams) → AreNoted old streams → to ≡ map (placed (proc_tokens txn) streams) sites)
    → ((streams : TokenStreams) → AreNoted old streams → AreNoted new (with_tokens sites (proc_tokens txn) streams))
    → Keeps lists txns (record { deferred = deferred; marks = marks; noted = old })
    → Keeps (sites ∷ lists) (txn ∷ txns) (record { deferred = record { cargo = Some (record { txn = txn; past = [] }); to = to } ∷ deferred; marks = marks; noted = new })
Keeps-pushed lists txns txn sites marks deferred old new to listed noted keeps = record {
  queue = rw (listed streams keeps.tokens, keeps.queue) refl;
  tokens = λ site. subst (IsNoted new site) (go (is_among sites site) (stream_in site lists txns)) (noted streams keeps.tokens site);
}
  where
    streams : TokenStreams
    streams site = map proc_tokens (stream_in site lists txns)

    go : (b : Bool) (stream : List Txn) → with_one b (proc_tokens txn) (map proc_tokens stream) ≡ map proc_tokens (with_one b txn stream)
    go true stream = refl
    go false stream = refl

-- ---- a mark

pub marked-raised : (site : SiteName) (mark : ℕ) (marks : List Mark) → map (λ (m : Mark). m.site) (map (raised_mark site mark) marks) ≡ map (λ (m : Mark). m.site) marks
marked-raised site mark [] = refl
marked-raised site mark (m ∷ ms) = go (is_same_site m.site site) (marked-raised site mark ms)
  where
    go : (b : Bool) → map (λ (m : Mark). m.site) (map (raised_mark site mark) ms) ≡ map (λ (m : Mark). m.site) ms
        → (cond b (record { site = m.site; acked = max m.acked mark }) m).site ∷ map (λ (m : Mark). m.site) (map (raised_mark site mark) ms) ≡ m.site ∷ map (λ (m : Mark). m.site) ms
    go true later = ap (λ (names : List SiteName). m.site ∷ names) later
    go false later = ap (λ (names : List SiteName). m.site ∷ names) later

pub IsOutbox-raised : (site : SiteName) (mark : ℕ) (masters : List SiteName) (marks : List Mark) (deferred : List Deferred) (noted : List NotedStream) (count : ℕ)
    → IsOutbox masters marks deferred noted count → IsOutbox masters (map (raised_mark site mark) marks) deferred noted count
IsOutbox-raised site mark masters marks deferred noted count is = record {
  marked = marked-raised site mark marks ∙ is.marked;
  indexed = is.indexed;
  apart = is.apart;
  streams = is.streams;
  counted = is.counted;
}

pub Keeps-raised : (lists : List (List SiteName)) (txns : List Txn) (deferred : List Deferred) (old new : List Mark) (noted : List NotedStream)
    → Keeps lists txns (record { deferred = deferred; marks = old; noted = noted }) → Keeps lists txns (record { deferred = deferred; marks = new; noted = noted })
Keeps-raised lists txns deferred old new noted keeps = record { queue = keeps.queue; tokens = keeps.tokens }
