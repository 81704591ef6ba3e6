-- What each position of a journal had waited for when it was finished.
use Rattle.std.proofs.Common.{◌≡◌, ◌≢◌, ℕ, ◌<◌, ◌≤◌, List, [], ◌∷◌, Bool, true, false, cond, Some, None, refl, sym, ap, ◌∙◌, subst, arith}
use Rattle.std.specs.Prelude.{◌&&◌, ◌||◌, nat_le, Option, IfSome}
use Rattle.std.specs.List.{list_all, AllByRecursion}
use Rattle.std.specs.Ordering.{nat_cmp}
use Rattle.std.specs.declared.cmp.Ordering.{Ordering}
use Rattle.std.specs.declared.cmp.Ordering.TheVariants.{Less, Equal, Greater}
use Rattle.std.proofs.lemmas.Bool.Decides.{nat_tests}
use Rattle.std.proofs.lemmas.Cmp.{nat_cmp_total}
use Rattle.std.proofs.lemmas.Map.Lookups.{exact_unsigned}
use Rattle.rep_lists.specs.Rising.{find_at, put_at, found_here}
use Rattle.rep_lists.proofs.FoundByKey.{find_put_other}
use Rattle.rep_values.specs.declared.name.SiteName.{SiteName}
use Rattle.rep_calls.specs.declared.call.Txn.{Txn}
use Rattle.rep_values.specs.SiteNames.{is_same_site}
use Rattle.site_state.specs.declared.entry.Entry.{Entry}
use Rattle.site_state.specs.declared.entry.Entry.TheVariants.{Local, Done, Error, Executed, Dropped, Refreshed}
use Rattle.site_state.specs.declared.arrival.Arrival.{Arrival}
use Rattle.site_state.specs.State.{SenderState, SiteState, sender_of, at_sender, arrival_beside, arrived_in, arrived_at}
use Rattle.site_state.specs.Journal.{finished, is_position, low_water}
use Rattle.site_state.specs.Packets.{with_arrival}
use Rattle.site_state.specs.Ready.{is_due, is_covered}
use Rattle.site_state.specs.Fits.{FinishedHaveArrived}
use Rattle.site_state.proofs.LowWater.{finished-append, low_water-below}
use Rattle.site_state.proofs.Stepping.{MayFollow, IsTaken, with_entry, is_position-true}
use Rattle.site_state.specs.Waited.{HasWaited, HaveWaited}
use Rattle.deferred_queue.proofs.Sites.{is_same_site-refl, eq_true}
use Rattle.rep_lists.specs.RisingLaws.{RisesBy}

and_left : (b c : Bool) → (b && c) ≡ true → b ≡ true
and_left true c is = refl
and_left false c is = cc

-- what is due depends on what is finished
pub due_dep : (origin : SiteName) (x : SiteState) (a : Arrival) → is_due origin x a ≡ true → a.dep ≤ low_water origin x.journal
due_dep origin x a due =
    let within : nat_le a.dep (low_water origin x.journal) ≡ true = and_left (nat_le a.dep (low_water origin x.journal)) (list_all (is_covered x) a.past) due in
    grind (arith, nat_tests)

taken_has_waited : (x : SiteState) (o : SiteName) (position : ℕ) (txn : Txn) → IsTaken x o position txn → (origin : SiteName) (p q : ℕ) (a : Arrival) → is_position origin q o position ≡ true
    → arrived_at origin q x.senders ≡ Some a → 0 < p → p ≤ a.dep → finished origin x.journal p ≡ true
taken_has_waited x o position txn taken origin p q a here there from_one up_to =
    let same = is_position-true origin o q position here in
    let at : arrived_at origin q x.senders ≡ Some taken.arrival = rw (← same.0, ← same.1) taken.there in
    let both : Some taken.arrival ≡ Some a = sym at ∙ there in
    let one : taken.arrival ≡ a = cc both in
    let dep : a.dep ≤ low_water o x.journal = omega (arith, ap (λ (b : Arrival). b.dep) one, due_dep o x taken.arrival taken.due) in
    rw (← same.0) (low_water-below o x.journal p from_one (omega (arith, up_to, dep)))

entry_has_waited : (x : SiteState) (e : Entry) → MayFollow x e → HasWaited x.senders e x.journal
entry_has_waited x (Local number txn) follows origin p q a here there from_one less up_to = absurd (cc here)
entry_has_waited x (Done o position onward txn) follows origin p q a here there from_one less up_to = taken_has_waited x o position txn follows origin p q a here there from_one up_to
entry_has_waited x (Error o position call error txn) follows origin p q a here there from_one less up_to = taken_has_waited x o position txn follows origin p q a here there from_one up_to
entry_has_waited x (Executed o position onward txn) follows origin p q a here there from_one less up_to = absurd (cc here)
entry_has_waited x (Dropped o position) follows origin p q a here there from_one less up_to = absurd (cc here)
entry_has_waited x (Refreshed moment) follows origin p q a here there from_one less up_to = absurd (cc here)

-- what an entry finishes that may follow has waited
pub have_waited : (x : SiteState) (e : Option Entry) → IfSome e (MayFollow x) → HaveWaited x.senders x.journal → HaveWaited x.senders (with_entry e x.journal)
have_waited x None follows waited = waited
have_waited x (Some e) follows waited = (entry_has_waited x e follows, waited)

kept_here : (q : ℕ) (b : Arrival) (xs : List Arrival) → find_at (arrival_beside b.position) xs ≡ None → find_at (arrival_beside q) xs ≢ None → find_at (arrival_beside q) (put_at (arrival_beside b.position) b xs) ≡ find_at (arrival_beside q) xs
kept_here q b xs new came = go (nat_cmp b.position q) refl
  where
    Goal : Type 0
    Goal = find_at (arrival_beside q) (put_at (arrival_beside b.position) b xs) ≡ find_at (arrival_beside q) xs

    other : nat_cmp b.position q ≢ Equal → Goal
    other off = find_put_other (λ (a : Arrival). a.position) nat_cmp nat_cmp_total b q xs off

    go : (o : Ordering) → nat_cmp b.position q ≡ o → Goal
    go Less is = other (λ e. absurd (cc (e, is)))
    go Equal is = absurd (came (subst (λ r. find_at (arrival_beside r) xs ≡ None) (exact_unsigned b.position q is) new))
    go Greater is = other (λ e. absurd (cc (e, is)))

-- what arrived at a position stays what it is when another one arrives
arrived_at-kept : (origin from : SiteName) (q : ℕ) (b : Arrival) (ss : List SenderState) → arrived_at from b.position ss ≡ None → arrived_at origin q ss ≢ None
    → arrived_at origin q (at_sender from (with_arrival b) ss) ≡ arrived_at origin q ss
arrived_at-kept origin from q b [] new came = refl
arrived_at-kept origin from q b (s ∷ ss) new came = go (is_same_site s.origin from) (is_same_site s.origin origin) refl (arrived_at-kept origin from q b ss) new came
  where
    go : (c d : Bool) → is_same_site s.origin origin ≡ d
        → (arrived_at from b.position ss ≡ None → arrived_at origin q ss ≢ None → arrived_at origin q (at_sender from (with_arrival b) ss) ≡ arrived_at origin q ss)
        → find_at (arrival_beside b.position) (arrived_in (cond c (Some s) (sender_of from ss))) ≡ None
        → find_at (arrival_beside q) (arrived_in (cond (is_same_site s.origin origin) (Some s) (sender_of origin ss))) ≢ None
        → find_at (arrival_beside q) (arrived_in (sender_of origin (cond c (with_arrival b s ∷ ss) (s ∷ at_sender from (with_arrival b) ss))))
        ≡ find_at (arrival_beside q) (arrived_in (cond (is_same_site s.origin origin) (Some s) (sender_of origin ss)))
    go true true is later new came = rw is (kept_here q b s.arrived new (rw is at came))
    go true false is later new came = rw is refl
    go false true is later new came = rw is refl
    go false false is later new came = rw is (later new (rw is at came))

-- what arrives changes nothing of what finished positions had waited for
pub HaveWaited-put : (from : SiteName) (b : Arrival) (ss : List SenderState) (journal : List Entry) → FinishedHaveArrived journal ss → arrived_at from b.position ss ≡ None → HaveWaited ss journal
    → HaveWaited (at_sender from (with_arrival b) ss) journal
HaveWaited-put from b ss [] come new waited = tt
HaveWaited-put from b ss (e ∷ es) come new waited = (own, HaveWaited-put from b ss es (λ origin q is. come origin q (finished-append origin (e ∷ []) es q is)) new waited.1)
  where
    own : HasWaited (at_sender from (with_arrival b) ss) e es
    own origin p q a here there from_one less up_to =
        let came : arrived_at origin q ss ≢ None = come origin q (ap (λ (b : Bool). b || finished origin es q) here) in
        waited.0 origin p q a here (sym (arrived_at-kept origin from q b ss new came) ∙ there) from_one less up_to

-- a position is itself
pub is_position-own : (origin : SiteName) (position p : ℕ) → p ≡ position → is_position origin position origin p ≡ true
is_position-own origin position p same = rw (is_same_site-refl origin, eq_true p position same) refl

pub and_both : (b c : Bool) → (b && c) ≡ true → (b ≡ true) × (c ≡ true)
and_both true c is = (refl, is)
and_both false c is = cc

own_order : (n : ℕ) → nat_cmp n n ≡ Equal
own_order n = go (nat_cmp n n) refl
  where
    go : (o : Ordering) → nat_cmp n n ≡ o → o ≡ Equal
    go Less is = let other = nat_cmp_total.antisymm n n in absurd (cc (is, other))
    go Equal is = refl
    go Greater is = let other = nat_cmp_total.antisymm n n in absurd (cc (is, other))

behind_head : (x : Arrival) (xs ys : List Arrival) → AllByRecursion (λ (b : Arrival). nat_cmp x.position b.position ≡ Less) ys → AllByRecursion (λ (b : Arrival). find_at (arrival_beside b.position) xs ≡ Some b) ys
    → AllByRecursion (λ (b : Arrival). find_at (arrival_beside b.position) (x ∷ xs) ≡ Some b) ys
behind_head x xs [] less found = tt
behind_head x xs (b ∷ bs) less found = (rw less.0 found.0, behind_head x xs bs less.1 found.1)

pub each_found : (xs : List Arrival) → RisesBy (λ (a : Arrival). a.position) nat_cmp xs → AllByRecursion (λ (a : Arrival). find_at (arrival_beside a.position) xs ≡ Some a) xs
each_found [] rising = tt
each_found (x ∷ xs) rising = (rw (own_order x.position) refl, behind_head x xs xs rising.0 (each_found xs rising.1))

pub found_holds : (P : Arrival → Type 0) (p : ℕ) (xs : List Arrival) (a : Arrival) → AllByRecursion P xs → find_at (arrival_beside p) xs ≡ Some a → P a
found_holds P p [] a all found = absurd (cc found)
found_holds P p (y ∷ ys) a all found = go (arrival_beside p y) (found_holds P p ys a all.1) found
  where
    go : (o : Ordering) → (find_at (arrival_beside p) ys ≡ Some a → P a) → found_here o y (find_at (arrival_beside p) ys) ≡ Some a → P a
    go Less later found = later found
    go Equal later found = let same : y ≡ a = cc found in rw (← same) all.0
    go Greater later found = absurd (cc found)
