-- The numbers of an origin's queue that a site has seen, and the past of what it queues then.
use Rattle.std.proofs.Common.{◌≡◌, ◌≢◌, ℕ, ◌<◌, ◌≤◌, Bool, true, false, cond, max, List, [], ◌∷◌, map, Some, refl, sym, ap, ◌∙◌, subst, inl, inr, arith}
use mathlib.Core.Bool.{true≢false}
use Rattle.std.specs.Prelude.{◌||◌, ◌&&◌, nat_lt}
use Rattle.std.specs.List.{AllByRecursion}
use Rattle.std.proofs.lemmas.Bool.Decides.{nat_tests}
use Rattle.std.proofs.lemmas.Map.Lookups.{exact_bytes}
use Rattle.std.specs.declared.cmp.Ordering.{Ordering}
use Rattle.std.specs.declared.cmp.Ordering.TheVariants.{Less, Equal, Greater}
use Rattle.rep_lists.specs.Rising.{find_at, found_here, put_at, put_here}
use Rattle.rep_values.specs.declared.name.SiteName.{SiteName}
use Rattle.rep_schema.specs.declared.schema.Schema.{Schema}
use Rattle.rep_calls.specs.declared.past.PastEntry.{PastEntry}
use Rattle.rep_values.specs.SiteNames.{is_same_site}
use Rattle.deferred_queue.proofs.Sites.{is_same_site-true, is_same_site-refl}
use Rattle.site_state.specs.declared.arrival.Arrival.{Arrival}
use Rattle.site_state.specs.declared.entry.Entry.{Entry}
use Rattle.site_state.specs.State.{SenderState, SiteState, sender_of, arrival_beside}
use Rattle.rep_schema.specs.Sites.{is_master_site, is_among}
use Rattle.site_state.specs.Journal.{finished}
use Rattle.site_state.specs.Pasts.{greatest_finished, seen_of, beside_name, with_seen, past_at}
use Rattle.site_state.proofs.Stepping.{found_at}
use Rattle.site_events.specs.Cluster.{site_of}
use Rattle.event_laws.specs.Waiting.{IsFirstNumber}
use Rattle.convergence_laws.specs.Collections.{Among}

-- a number of an origin is seen in a past
abbrev pub Seen : SiteName → List PastEntry → ℕ → Type 0
Seen origin past number = (seen : PastEntry) × Among seen past × (seen.origin ≡ origin) × (number ≤ seen.number)

among_put : (site : SiteName) (y : PastEntry) (xs : List PastEntry) → Among y (put_at (beside_name site) y xs)
among_put site y [] = inl refl
among_put site y (x ∷ xs) = go (beside_name site x) (among_put site y xs)
  where
    go : (o : Ordering) → Among y (put_at (beside_name site) y xs) → Among y (put_here o y x xs (put_at (beside_name site) y xs))
    go Less later = inr later
    go Equal later = inl refl
    go Greater later = inl refl

among_put_other : (site : SiteName) (y z : PastEntry) (xs : List PastEntry) → z.origin ≢ site → Among z xs → Among z (put_at (beside_name site) y xs)
among_put_other site y z [] apart among = absurd among
among_put_other site y z (x ∷ xs) apart among = go (beside_name site x) refl among (among_put_other site y z xs apart)
  where
    names : (a b : SiteName) → a.0 ≡ b.0 → a ≡ b
    names a b same = ap (λ (n : List ℕ). record { 0 = n }) same

    go : (o : Ordering) → beside_name site x ≡ o → Among z (x ∷ xs) → (Among z xs → Among z (put_at (beside_name site) y xs)) → Among z (put_here o y x xs (put_at (beside_name site) y xs))
    go Less is (inl same) later = inl same
    go Less is (inr among) later = inr (later among)
    go Equal is (inl same) later = absurd (apart (ap (λ (p : PastEntry). p.origin) (sym same) ∙ names x.origin site (exact_bytes x.origin.0 site.0 is)))
    go Equal is (inr among) later = inr among
    go Greater is among later = inr among

-- what is seen of a master stands in the past
pub past_has : (schema : Schema) (journal : List Entry) (origin : SiteName) (ss : List SenderState) (s : SenderState) → sender_of origin ss ≡ Some s → is_master_site schema origin ≡ true → 0 < seen_of journal s
    → Seen origin (past_at schema journal ss) (seen_of journal s)
past_has schema journal origin [] s found master some = cc
past_has schema journal origin (y ∷ ys) s found master some = go (is_same_site y.origin origin) refl found (λ found. past_has schema journal origin ys s found master some)
  where
    Has : List PastEntry → Type 0
    Has past = Seen origin past (seen_of journal s)

    other : (b : Bool) (n : ℕ) → y.origin ≢ origin → Has (past_at schema journal ys) → Has (with_seen b y.origin n (past_at schema journal ys))
    other true n apart (seen, among, named, within) = (seen, among_put_other y.origin (record { origin = y.origin; number = n }) seen (past_at schema journal ys) (λ same. apart (sym same ∙ named)) among, named, within)
    other false n apart has = has

    go : (b : Bool) → is_same_site y.origin origin ≡ b → cond b (Some y) (sender_of origin ys) ≡ Some s → (sender_of origin ys ≡ Some s → Has (past_at schema journal ys)) → Has (past_at schema journal (y ∷ ys))
    go true own found later =
        let same : y ≡ s = cc in
        let named : y.origin ≡ origin = is_same_site-true y.origin origin own in
        let is : is_master_site schema y.origin ≡ true = ap (is_master_site schema) named ∙ master in
        let above : nat_lt 0 (seen_of journal y) ≡ true = grind (arith, nat_tests, ap (seen_of journal) same, some) in
        rw (is, above) (record { origin = y.origin; number = seen_of journal y }, among_put y.origin (record { origin = y.origin; number = seen_of journal y }) (past_at schema journal ys), named, omega (arith, ap (seen_of journal) same))
    go false own found later =
        other (is_master_site schema y.origin && nat_lt 0 (seen_of journal y)) (seen_of journal y) (λ same. true≢false (sym (is_same_site-refl origin) ∙ ap (λ (n : SiteName). is_same_site n origin) (sym same) ∙ own)) (later found)

-- a finished arrival's number is at most the greatest
pub finished_within : (origin : SiteName) (journal : List Entry) (p : ℕ) (arrived : List Arrival) (a : Arrival) → find_at (arrival_beside p) arrived ≡ Some a → finished origin journal p ≡ true → a.number ≤ greatest_finished origin journal arrived
finished_within origin journal p [] a found done = cc
finished_within origin journal p (b ∷ bs) a found done = go (arrival_beside p b) refl found (λ found. finished_within origin journal p bs a found done)
  where
    place : find_at (arrival_beside p) (b ∷ bs) ≡ Some a → a.position ≡ p
    place = found_at p (b ∷ bs) a

    go : (o : Ordering) → arrival_beside p b ≡ o → found_here o b (find_at (arrival_beside p) bs) ≡ Some a → (find_at (arrival_beside p) bs ≡ Some a → a.number ≤ greatest_finished origin journal bs)
        → a.number ≤ max (cond (finished origin journal b.position) b.number 0) (greatest_finished origin journal bs)
    go Less is found later = omega (arith, later found)
    go Equal is here later =
        let same : b ≡ a = cc in
        let at : a.position ≡ p = place found in
        let now : finished origin journal b.position ≡ true = rw (same, at) done in
        rw now (omega (arith, ap (λ (x : Arrival). x.number) same))
    go Greater is found later = cc

-- a sender that is found has the name
pub sender_named : (origin : SiteName) (ss : List SenderState) (s : SenderState) → sender_of origin ss ≡ Some s → s.origin ≡ origin
sender_named origin [] s found = cc
sender_named origin (y ∷ ys) s found = go (is_same_site y.origin origin) refl found (sender_named origin ys s)
  where
    go : (b : Bool) → is_same_site y.origin origin ≡ b → cond b (Some y) (sender_of origin ys) ≡ Some s → (sender_of origin ys ≡ Some s → s.origin ≡ origin) → s.origin ≡ origin
    go true own found later = let same : y ≡ s = cc in ap (λ (w : SenderState). w.origin) (sym same) ∙ is_same_site-true y.origin origin own
    go false own found later = later found

-- a master is a sender, with a first number
pub first_found : (sites : List SiteState) (site origin : SiteName) (ss : List SenderState) → is_among (map (λ (s : SenderState). s.origin) ss) origin ≡ true
    → AllByRecursion (λ (s : SenderState). IsFirstNumber (site_of s.origin sites) site s.first) ss → (s : SenderState) × (sender_of origin ss ≡ Some s) × IsFirstNumber (site_of origin sites) site s.first
first_found sites site origin [] among firsts = cc
first_found sites site origin (y ∷ ys) among firsts = go (is_same_site y.origin origin) refl among (λ among. first_found sites site origin ys among firsts.1)
  where
    go : (b : Bool) → is_same_site y.origin origin ≡ b → (b || is_among (map (λ (s : SenderState). s.origin) ys) origin) ≡ true
        → (is_among (map (λ (s : SenderState). s.origin) ys) origin ≡ true → (s : SenderState) × (sender_of origin ys ≡ Some s) × IsFirstNumber (site_of origin sites) site s.first)
        → (s : SenderState) × (cond b (Some y) (sender_of origin ys) ≡ Some s) × IsFirstNumber (site_of origin sites) site s.first
    go true own among later = (y, refl, subst (λ (o : SiteName). IsFirstNumber (site_of o sites) site y.first) (is_same_site-true y.origin origin own) firsts.0)
    go false own among later = later among
