-- What a master has of the queues of all masters, as a collection.
use Rattle.std.proofs.Common.{◌≡◌, ◌≢◌, ℕ, ◌+◌, ◌-◌, ◌<◌, ◌≤◌, ◌==◌, List, [], ◌∷◌, ◌++◌, length, map, Bool, true, false, cond, Some, None, refl, sym, ◌∙◌, subst, inl, inr, arith}
use Rattle.std.specs.Prelude.{◌||◌, ◌&&◌, Option, nat_le, nat_lt, filter}
use Rattle.std.specs.List.{AllByRecursion, list_any}
use Rattle.std.proofs.lemmas.Bool.Decides.{nat_tests}
use Rattle.rep_values.specs.declared.name.SiteName.{SiteName}
use Rattle.rep_schema.specs.declared.schema.Schema.{Schema}
use Rattle.rep_schema.specs.declared.schema.SiteEntry.{SiteEntry}
use Rattle.rep_schema.specs.Shape.{HasShape, is_master}
use Rattle.rep_schema.specs.Named.{is_site}
use Rattle.rep_schema.specs.Sites.{names_of, is_master_site, is_among}
use Rattle.rep_lists.specs.Rising.{find_at}
use Rattle.rep_calls.specs.declared.call.Txn.{Txn}
use Rattle.deferred_queue.specs.Streams.{at_position}
use Rattle.rep_values.specs.SiteNames.{is_same_site}
use Rattle.deferred_queue.proofs.Sites.{is_same_site-true, is_same_site-refl}
use Rattle.deferred_queue.proofs.Positions.{found_position}
use Rattle.site_state.specs.declared.entry.Entry.{Entry}
use Rattle.site_state.specs.declared.entry.Entry.TheVariants.{Local, Done, Error, Executed, Dropped, Refreshed}
use Rattle.site_state.specs.State.{SenderState, DestinationState, SiteState, sender_of, arrived_in, arrival_beside, arrived_at, destination_of, opened_in, opened_of}
use Rattle.site_state.specs.Journal.{is_position, finished}
use Rattle.site_state.specs.Streams.{with_one, queue_of, queued_behind, stream_in}
use Rattle.site_state.specs.Packets.{count_opened}
use Rattle.site_state.specs.Steps.{is_open}
use Rattle.site_state.proofs.Growing.{length-queued_behind, queued_behind-none}
use Rattle.site_state.proofs.Stepping.{is_position-true}
use Rattle.site_state.proofs.SchemaSites.{AreApart, are_apart}
use Rattle.site_events.specs.Cluster.{site_of}
use Rattle.event_laws.specs.Orders.{IsInOrder}
use Rattle.convergence_laws.specs.Collections.{IsReordered, Then, Among}
use Rattle.convergence_laws.proofs.SameRows.{reordered_behind, reordered_middle}
use Rattle.convergence_laws.proofs.Reordering.{reordered_before, chosen, chosen-none, above}
use Rattle.convergence_laws.proofs.Applied.{is_applied}
use Rattle.convergence_laws.proofs.Told.{IsSentBy, followed}

-- ---- the masters of a schema

abbrev pub masters_of : Schema → List SiteName
masters_of schema = names_of (filter is_master schema.sites)

-- no two names are the same
abbrev pub StandApart : List SiteName → Type 0
StandApart [] = Unit {0}
StandApart (n ∷ ns) = AllByRecursion (λ (m : SiteName). n ≢ m) ns × StandApart ns

others_apart : (name : SiteName) (es : List SiteEntry) → AllByRecursion (λ (u : SiteEntry). name ≢ u.name) es → AllByRecursion (λ (m : SiteName). name ≢ m) (names_of (filter is_master es))
others_apart name [] all = tt
others_apart name (e ∷ es) all = go (is_master e) (others_apart name es all.1)
  where
    go : (b : Bool) → AllByRecursion (λ (m : SiteName). name ≢ m) (names_of (filter is_master es)) → AllByRecursion (λ (m : SiteName). name ≢ m) (names_of (cond b (e ∷ filter is_master es) (filter is_master es)))
    go true rest = (all.0, rest)
    go false rest = rest

masters_apart : (es : List SiteEntry) → AreApart es → StandApart (names_of (filter is_master es))
masters_apart [] apart = tt
masters_apart (e ∷ es) apart = go (is_master e) (masters_apart es apart.1)
  where
    go : (b : Bool) → StandApart (names_of (filter is_master es)) → StandApart (names_of (cond b (e ∷ filter is_master es) (filter is_master es)))
    go true rest = (others_apart e.name es apart.0, rest)
    go false rest = rest

pub StandApart-masters : (schema : Schema) → HasShape schema → StandApart (masters_of schema)
StandApart-masters schema shape = masters_apart schema.sites (are_apart schema.sites shape.site_names)

master_among : (name : SiteName) (es : List SiteEntry) → list_any (λ site. is_site name site && is_master site) es ≡ true → Among name (names_of (filter is_master es))
master_among name [] any = cc
master_among name (e ∷ es) any = go (is_site name e) refl (is_master e) any (master_among name es)
  where
    go : (b : Bool) → is_site name e ≡ b → (c : Bool) → ((b && c) || list_any (λ site. is_site name site && is_master site) es) ≡ true
        → (list_any (λ site. is_site name site && is_master site) es ≡ true → Among name (names_of (filter is_master es))) → Among name (names_of (cond c (e ∷ filter is_master es) (filter is_master es)))
    go true is true any later = inl (is_same_site-true e.name name is)
    go true is false any later = later any
    go false is true any later = inr (later any)
    go false is false any later = later any

pub Among-masters : (schema : Schema) (name : SiteName) → is_master_site schema name ≡ true → Among name (masters_of schema)
Among-masters schema name is = master_among name schema.sites is

more_masters : (e : SiteEntry) (es : List SiteEntry) (names : List SiteName) → AllByRecursion (λ (n : SiteName). list_any (λ site. is_site n site && is_master site) es ≡ true) names
    → AllByRecursion (λ (n : SiteName). list_any (λ site. is_site n site && is_master site) (e ∷ es) ≡ true) names
more_masters e es [] all = tt
more_masters e es (n ∷ ns) all = (go (is_site n e && is_master e) all.0, more_masters e es ns all.1)
  where
    go : (b : Bool) → list_any (λ site. is_site n site && is_master site) es ≡ true → (b || list_any (λ site. is_site n site && is_master site) es) ≡ true
    go true any = refl
    go false any = any

each_master : (es : List SiteEntry) → AllByRecursion (λ (n : SiteName). list_any (λ site. is_site n site && is_master site) es ≡ true) (names_of (filter is_master es))
each_master [] = tt
each_master (e ∷ es) = go (is_master e) refl (more_masters e es (names_of (filter is_master es)) (each_master es))
  where
    go : (b : Bool) → is_master e ≡ b → AllByRecursion (λ (n : SiteName). list_any (λ site. is_site n site && is_master site) (e ∷ es) ≡ true) (names_of (filter is_master es))
        → AllByRecursion (λ (n : SiteName). list_any (λ site. is_site n site && is_master site) (e ∷ es) ≡ true) (names_of (cond b (e ∷ filter is_master es) (filter is_master es)))
    go true is rest = (rw (is_same_site-refl e.name, is) refl, rest)
    go false is rest = rest

pub Are-masters : (schema : Schema) → AllByRecursion (λ (n : SiteName). is_master_site schema n ≡ true) (masters_of schema)
Are-masters schema = each_master schema.sites

-- ---- pieces by name

abbrev pub joined_by : (SiteName → List Txn) → List SiteName → List Txn
joined_by piece [] = []
joined_by piece (n ∷ ns) = piece n ++ joined_by piece ns

module _ (P : SiteName → Type 0) (f g : SiteName → List Txn) where
  -- all pieces are the same
  pub joined_same : (ns : List SiteName) → AllByRecursion P ns → ((n : SiteName) → P n → f n ≡ g n) → joined_by f ns ≡ joined_by g ns
  joined_same [] all same = refl
  joined_same (n ∷ ns) all same = rw (same n all.0, joined_same ns all.1 same) refl

  joined_apart : (name : SiteName) (ns : List SiteName) → AllByRecursion P ns → AllByRecursion (λ (m : SiteName). name ≢ m) ns → ((n : SiteName) → P n → n ≢ name → f n ≡ g n) → joined_by f ns ≡ joined_by g ns
  joined_apart name [] all apart same = refl
  joined_apart name (n ∷ ns) all apart same = rw (same n all.0 (λ e. apart.0 (sym e)), joined_apart name ns all.1 apart.1 same) refl

  -- one piece has one more
  pub joined_more : (name : SiteName) (t : Txn) (ns : List SiteName) → Among name ns → StandApart ns → AllByRecursion P ns → IsReordered (t ∷ f name) (g name) → ((n : SiteName) → P n → n ≢ name → f n ≡ g n)
      → IsReordered (t ∷ joined_by f ns) (joined_by g ns)
  joined_more name t [] among apart all more same = absurd among
  joined_more name t (n ∷ ns) (inl is) apart all more same =
      rw (is, joined_apart name ns all.1 (subst (λ (m : SiteName). AllByRecursion (λ (k : SiteName). m ≢ k) ns) is apart.0) same) (reordered_before (joined_by g ns) more)
  joined_more name t (n ∷ ns) (inr among) apart all more same =
      let rest : IsReordered (t ∷ joined_by f ns) (joined_by g ns) = joined_more name t ns among apart.1 all.1 more same in
      rw (same n all.0 (λ e. all_differ ns apart.0 among e)) (Then (reordered_middle (g n) t (joined_by f ns)) (reordered_behind (g n) rest))
    where
      all_differ : (ms : List SiteName) → AllByRecursion (λ (m : SiteName). n ≢ m) ms → Among name ms → n ≡ name → ⊥
      all_differ [] apart among e = absurd among
      all_differ (m ∷ ms) apart (inl is) e = apart.0 (e ∙ sym is)
      all_differ (m ∷ ms) apart (inr among) e = all_differ ms apart.1 among e

-- ---- what a master has of a queue

abbrev pub queue_in : Option SiteState → List Txn
queue_in None = []
queue_in (Some y) = queue_of y

abbrev pub count_for : SiteName → Option SiteState → ℕ
count_for to None = 0
count_for to (Some y) = count_opened (opened_of to y)

-- how much a site has queued, 0 where it isn't there
abbrev pub count_in : Option SiteState → ℕ
count_in o = length (queue_in o)

-- a number of a queue is in the rows that the master began with, or it was applied, and it is above another number
abbrev pub has_number : List Entry → SiteName → ℕ → ℕ → ℕ → Bool
has_number journal origin least count number = (nat_le number count || is_applied origin journal (number - count)) && nat_lt least number

-- above a number, its own queue, or what it has of another one's
abbrev pub piece_of : ℕ → SiteState → SiteName → Option SiteState → List Txn
piece_of least x origin o = cond (is_same_site origin x.here.site) (above least (queue_in o)) (chosen (has_number x.journal origin least (count_for x.here.site o)) (queue_in o))

-- all that it has of what masters queued since they were as earlier
abbrev pub pieces_of : Schema → List SiteState → SiteState → List SiteState → List Txn
pieces_of schema earlier x sites = joined_by (λ (n : SiteName). piece_of (count_in (site_of n earlier)) x n (site_of n sites)) (masters_of schema)

pub piece_empty : (least : ℕ) (x : SiteState) (n : SiteName) (o : Option SiteState) → count_in o ≤ least → piece_of least x n o ≡ []
piece_empty least x n o le = go (is_same_site n x.here.site)
  where
    off : (m : ℕ) → 1 ≤ m → m ≤ count_in o → nat_lt least m ≡ false
    off m one within = grind (arith, nat_tests, within, le)

    and_off : (b : Bool) → (b && false) ≡ false
    and_off true = refl
    and_off false = refl

    go : (b : Bool) → cond b (above least (queue_in o)) (chosen (has_number x.journal n least (count_for x.here.site o)) (queue_in o)) ≡ []
    go true = chosen-none (nat_lt least) (queue_in o) off
    go false = chosen-none (has_number x.journal n least (count_for x.here.site o)) (queue_in o)
        (λ m one within. rw (off m one within) (and_off (nat_le m (count_for x.here.site o) || is_applied n x.journal (m - count_for x.here.site o))))

-- ---- numbers and positions

-- a position of a stream is a number of the queue
pub at_position-behind : {X : Type 0} (opened p : ℕ) (xs : List X) (x : X) → at_position p (queued_behind opened xs) ≡ Some x → at_position (opened + p) xs ≡ Some x
at_position-behind opened p [] x at = cc
at_position-behind {X} opened p (y ∷ ys) x at = go (nat_lt opened (length ys + 1)) refl at (at_position-behind opened p ys x)
  where
    some_same : (a b : X) → Some a ≡ Some b → a ≡ b
    some_same a b e = cc

    by : (b : Bool) → (p == length (queued_behind opened ys) + 1) ≡ b → opened < length ys + 1 → cond b (Some y) (at_position p (queued_behind opened ys)) ≡ Some x → (at_position p (queued_behind opened ys) ≡ Some x → at_position (opened + p) ys ≡ Some x)
        → cond (opened + p == length ys + 1) (Some y) (at_position (opened + p) ys) ≡ Some x
    by true is under at later =
        let long = length-queued_behind opened ys (omega (arith, under)) in
        let place : (opened + p == length ys + 1) ≡ true = grind (arith, nat_tests, long) in
        rw place at
    by false is under at later =
        let deep : at_position (opened + p) ys ≡ Some x = later at in
        let within : opened + p ≤ length ys = (found_position (opened + p) ys x deep).1 in
        let place : (opened + p == length ys + 1) ≡ false = grind (arith, nat_tests, within) in
        rw place deep

    go : (b : Bool) → nat_lt opened (length ys + 1) ≡ b → at_position p (with_one b y (queued_behind opened ys)) ≡ Some x → (at_position p (queued_behind opened ys) ≡ Some x → at_position (opened + p) ys ≡ Some x)
        → cond (opened + p == length ys + 1) (Some y) (at_position (opened + p) ys) ≡ Some x
    go true is at later = by (p == length (queued_behind opened ys) + 1) refl (grind (arith, nat_tests)) at later
    go false is at later =
        let over : length ys + 1 ≤ opened = grind (arith, nat_tests) in
        let none : queued_behind opened ys ≡ [] = queued_behind-none opened ys (omega (arith, over)) in
        let nothing : at_position p (queued_behind opened ys) ≡ None = rw none refl in
        absurd (cc (nothing, at))

-- so is one that was sent
pub sent_number : (sites : List SiteState) (to origin : SiteName) (position : ℕ) (txn : Txn) (sent : IsSentBy sites to origin position txn)
    → at_position (count_for to (Some sent.sender) + position) (queue_of sent.sender) ≡ Some txn
sent_number sites to origin position txn sent = go (opened_of to sent.sender) sent.at
  where
    go : (c : Option ℕ) → at_position position (stream_in c (queue_of sent.sender)) ≡ Some txn → at_position (count_opened c + position) (queue_of sent.sender) ≡ Some txn
    go None at = cc
    go (Some n) at = at_position-behind n position (queue_of sent.sender) txn at

-- a finished position of a sender was sent
pub finished_sent : (sites : List SiteState) (to origin : SiteName) (position : ℕ) (journal : List Entry) → IsInOrder sites to journal → finished origin journal position ≡ true → (txn : Txn) × IsSentBy sites to origin position txn
finished_sent sites to origin position [] order done = cc
finished_sent sites to origin position (Local number txn ∷ es) order done = finished_sent sites to origin position es order.1 done
finished_sent sites to origin position (Done o p onward txn ∷ es) order done = go (is_position origin position o p) refl done (finished_sent sites to origin position es order.1)
  where
    go : (b : Bool) → is_position origin position o p ≡ b → (b || finished origin es position) ≡ true → (finished origin es position ≡ true → (t : Txn) × IsSentBy sites to origin position t) → (t : Txn) × IsSentBy sites to origin position t
    go true is done later = let place = is_position-true origin o position p is in rw (← place.0, ← place.1) (txn, followed sites to o p txn es order.0)
    go false is done later = later done
finished_sent sites to origin position (Error o p call error txn ∷ es) order done = go (is_position origin position o p) refl done (finished_sent sites to origin position es order.1)
  where
    go : (b : Bool) → is_position origin position o p ≡ b → (b || finished origin es position) ≡ true → (finished origin es position ≡ true → (t : Txn) × IsSentBy sites to origin position t) → (t : Txn) × IsSentBy sites to origin position t
    go true is done later = let place = is_position-true origin o position p is in rw (← place.0, ← place.1) (txn, followed sites to o p txn es order.0)
    go false is done later = later done
finished_sent sites to origin position (Executed o p onward txn ∷ es) order done = finished_sent sites to origin position es order.1 done
finished_sent sites to origin position (Dropped o p ∷ es) order done = finished_sent sites to origin position es order.1 done
finished_sent sites to origin position (Refreshed moment ∷ es) order done = finished_sent sites to origin position es order.1 done

-- what arrived came from a sender
pub arrived_among : (origin : SiteName) (position : ℕ) (ss : List SenderState) → arrived_at origin position ss ≢ None → is_among (map (λ (s : SenderState). s.origin) ss) origin ≡ true
arrived_among origin position [] there = absurd (there refl)
arrived_among origin position (s ∷ ss) there = go (is_same_site s.origin origin) there (arrived_among origin position ss)
  where
    go : (b : Bool) → find_at (arrival_beside position) (arrived_in (cond b (Some s) (sender_of origin ss))) ≢ None → (arrived_at origin position ss ≢ None → is_among (map (λ (s : SenderState). s.origin) ss) origin ≡ true)
        → (b || is_among (map (λ (s : SenderState). s.origin) ss) origin) ≡ true
    go true there later = refl
    go false there later = later there

-- where a destination is open, some is
pub open_any : (site : SiteName) (count : ℕ) (ds : List DestinationState) → opened_in (destination_of site ds) ≡ Some count → list_any is_open ds ≡ true
open_any site count [] is = cc
open_any site count (d ∷ ds) is = go (is_same_site d.site site) is (open_any site count ds)
  where
    either : (b : Bool) → list_any is_open ds ≡ true → (b || list_any is_open ds) ≡ true
    either true any = refl
    either false any = any

    go : (b : Bool) → opened_in (cond b (Some d) (destination_of site ds)) ≡ Some count → (opened_in (destination_of site ds) ≡ Some count → list_any is_open ds ≡ true) → (is_open d || list_any is_open ds) ≡ true
    go true is later = rw is refl
    go false is later = either (is_open d) (later is)
