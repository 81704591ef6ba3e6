-- What a site had seen when it queued a transaction stays what it was, whatever arrives later.
use Rattle.std.proofs.Common.{◌≡◌, ◌≢◌, ℕ, suc, List, [], ◌∷◌, length, Bool, true, false, max, cond, Some, None, refl, ap, arith, subst}
use Rattle.std.specs.Prelude.{◌&&◌, ◌||◌, nat_lt, Option, IfSome}
use Rattle.std.specs.Ordering.{nat_cmp}
use Rattle.std.proofs.lemmas.Cmp.{nat_cmp_total}
use Rattle.std.proofs.lemmas.Map.Lookups.{exact_unsigned}
use Rattle.std.specs.declared.cmp.Ordering.{Ordering}
use Rattle.std.specs.declared.cmp.Ordering.TheVariants.{Less, Equal, Greater}
use Rattle.rep_lists.specs.Rising.{find_at, put_at, put_here}
use Rattle.rep_lists.proofs.FoundByKey.{find_put_own, find_put_other}
use Rattle.rep_values.specs.declared.name.SiteName.{SiteName}
use Rattle.rep_schema.specs.declared.schema.Schema.{Schema}
use Rattle.rep_schema.specs.Tables.{Rows}
use Rattle.rep_calls.specs.declared.call.Txn.{Txn}
use Rattle.txn_effects.specs.declared.local.Here.{Here}
use Rattle.rep_values.specs.SiteNames.{is_same_site}
use Rattle.deferred_queue.proofs.Sites.{is_same_site-true}
use Rattle.site_state.specs.declared.entry.Entry.{Entry}
use Rattle.site_state.specs.declared.entry.Entry.TheVariants.{Local, Done, Error, Executed, Dropped, Refreshed}
use Rattle.site_state.specs.declared.arrival.Arrival.{Arrival}
use Rattle.site_state.specs.State.{SenderState, SiteState, sender_of, at_sender, arrived_in, arrived_at, arrival_beside}
use Rattle.rep_schema.specs.Sites.{is_master_site}
use Rattle.site_state.specs.Journal.{finished, is_position}
use Rattle.site_state.specs.Streams.{with_one, went_onward, onward_txn, queue_after}
use Rattle.site_state.specs.Pasts.{greatest_finished, seen_of, with_seen, past_at, pasts_after}
use Rattle.site_state.specs.Packets.{with_arrival}
use Rattle.site_state.specs.Fits.{FinishedHaveArrived}
use Rattle.site_state.proofs.Stepping.{MayFollow, IsTaken, with_entry, is_position-true}

-- ---- what is finished has arrived

find_put : (a : Arrival) (p : ℕ) (xs : List Arrival) → find_at (arrival_beside p) xs ≢ None → find_at (arrival_beside p) (put_at (arrival_beside a.position) a xs) ≢ None
find_put a p xs there = go (nat_cmp a.position p) refl
  where
    Goal : Type 0
    Goal = find_at (arrival_beside p) (put_at (arrival_beside a.position) a xs) ≢ None

    other : nat_cmp a.position p ≢ Equal → Goal
    other off = rw (find_put_other (λ (a : Arrival). a.position) nat_cmp nat_cmp_total a p xs off) there

    go : (o : Ordering) → nat_cmp a.position p ≡ o → Goal
    go Less is = other (λ e. absurd (cc (e, is)))
    go Equal is = λ none.
        let own : find_at (arrival_beside p) (put_at (arrival_beside a.position) a xs) ≡ Some a =
        subst (λ q. find_at (arrival_beside q) (put_at (arrival_beside a.position) a xs) ≡ Some a) (exact_unsigned a.position p is) (find_put_own (λ (a : Arrival). a.position) nat_cmp nat_cmp_total a xs) in
        absurd (cc (own, none))
    go Greater is = other (λ e. absurd (cc (e, is)))

-- what arrived is there after something else arrives
pub arrived_at-put : (origin from : SiteName) (p : ℕ) (a : Arrival) (ss : List SenderState) → arrived_at origin p ss ≢ None → arrived_at origin p (at_sender from (with_arrival a) ss) ≢ None
arrived_at-put origin from p a [] there = there
arrived_at-put origin from p a (s ∷ ss) there = go (is_same_site s.origin from) (is_same_site s.origin origin) refl (arrived_at-put origin from p a ss) there
  where
    go : (b c : Bool) → is_same_site s.origin origin ≡ c → (arrived_at origin p ss ≢ None → arrived_at origin p (at_sender from (with_arrival a) ss) ≢ None)
        → find_at (arrival_beside p) (arrived_in (cond (is_same_site s.origin origin) (Some s) (sender_of origin ss))) ≢ None
        → find_at (arrival_beside p) (arrived_in (sender_of origin (cond b (with_arrival a s ∷ ss) (s ∷ at_sender from (with_arrival a) ss)))) ≢ None
    go true true is later there = rw is (find_put a p s.arrived (rw is at there))
    go true false is later there = rw is (rw is at there)
    go false true is later there = rw is (rw is at there)
    go false false is later there = rw is (later (rw is at there))

taken_arrived : (x : SiteState) (o origin : SiteName) (q p : ℕ) (txn : Txn) → IsTaken x o q txn → FinishedHaveArrived x.journal x.senders
    → (is_position origin p o q || finished origin x.journal p) ≡ true → arrived_at origin p x.senders ≢ None
taken_arrived x o origin q p txn taken arrived is = go (is_position origin p o q) refl is
  where
    go : (b : Bool) → is_position origin p o q ≡ b → (b || finished origin x.journal p) ≡ true → arrived_at origin p x.senders ≢ None
    go true here is = let same = is_position-true origin o p q here in rw (← same.0, ← same.1) (λ none. absurd (cc (none, taken.there)))
    go false here is = arrived origin p is

-- an entry that may follow finishes what has arrived
pub finished_have_arrived : (x : SiteState) (e : Option Entry) → IfSome e (MayFollow x) → FinishedHaveArrived x.journal x.senders → FinishedHaveArrived (with_entry e x.journal) x.senders
finished_have_arrived x None follows arrived = arrived
finished_have_arrived x (Some (Local number txn)) follows arrived = arrived
finished_have_arrived x (Some (Done o q onward txn)) follows arrived = λ origin p is. taken_arrived x o origin q p txn follows arrived is
finished_have_arrived x (Some (Error o q call error txn)) follows arrived = λ origin p is. taken_arrived x o origin q p txn follows arrived is
finished_have_arrived x (Some (Executed o q onward txn)) follows arrived = arrived
finished_have_arrived x (Some (Dropped o q)) follows arrived = arrived
finished_have_arrived x (Some (Refreshed moment)) follows arrived = arrived

-- ---- what arrives wasn't seen before

greatest_finished-put : (origin : SiteName) (es : List Entry) (a : Arrival) (xs : List Arrival) → finished origin es a.position ≡ false
    → greatest_finished origin es (put_at (arrival_beside a.position) a xs) ≡ greatest_finished origin es xs
greatest_finished-put origin es a [] is = rw is refl
greatest_finished-put origin es a (x ∷ xs) is = go (arrival_beside a.position x) refl (greatest_finished-put origin es a xs is)
  where
    go : (o : Ordering) → arrival_beside a.position x ≡ o → greatest_finished origin es (put_at (arrival_beside a.position) a xs) ≡ greatest_finished origin es xs
        → greatest_finished origin es (put_here o a x xs (put_at (arrival_beside a.position) a xs)) ≡ greatest_finished origin es (x ∷ xs)
    go Less e later = ap (max (cond (finished origin es x.position) x.number 0)) later
    go Equal e later = let same : x.position ≡ a.position = exact_unsigned x.position a.position e in rw (same, is) refl
    go Greater e later = rw is (omega arith)

past_at-put : (schema : Schema) (es : List Entry) (from : SiteName) (a : Arrival) (ss : List SenderState) → finished from es a.position ≡ false
    → past_at schema es (at_sender from (with_arrival a) ss) ≡ past_at schema es ss
past_at-put schema es from a [] is = refl
past_at-put schema es from a (s ∷ ss) is = go (is_same_site s.origin from) refl (past_at-put schema es from a ss is)
  where
    go : (b : Bool) → is_same_site s.origin from ≡ b → past_at schema es (at_sender from (with_arrival a) ss) ≡ past_at schema es ss
        → past_at schema es (cond b (with_arrival a s ∷ ss) (s ∷ at_sender from (with_arrival a) ss)) ≡ past_at schema es (s ∷ ss)
    go true own later =
        let unseen : finished s.origin es a.position ≡ false = rw (is_same_site-true s.origin from own) is in
        let same : greatest_finished s.origin es (put_at (arrival_beside a.position) a s.arrived) ≡ greatest_finished s.origin es s.arrived = greatest_finished-put s.origin es a s.arrived unseen in
        rw same refl
    go false own later = ap (with_seen (is_master_site schema s.origin && nat_lt 0 (seen_of es s)) s.origin (seen_of es s)) later

or_false : (b c : Bool) → (b || c) ≡ false → c ≡ false
or_false true c h = cc
or_false false c h = h

-- an arrival changes no past
pub pasts_after-put : (schema : Schema) (here : Here) (from : SiteName) (a : Arrival) (ss : List SenderState) (journal : List Entry) → finished from journal a.position ≡ false
    → pasts_after schema here (at_sender from (with_arrival a) ss) journal ≡ pasts_after schema here ss journal
pasts_after-put schema here from a ss [] is = refl
pasts_after-put schema here from a ss (Local number txn ∷ es) is = rw (past_at-put schema es from a ss is, pasts_after-put schema here from a ss es is) refl
pasts_after-put schema here from a ss (Done o p onward txn ∷ es) is = let older = or_false _ _ is in rw (past_at-put schema es from a ss older, pasts_after-put schema here from a ss es older) refl
pasts_after-put schema here from a ss (Error o p call error txn ∷ es) is = pasts_after-put schema here from a ss es (or_false _ _ is)
pasts_after-put schema here from a ss (Executed o p onward txn ∷ es) is = rw (past_at-put schema es from a ss is, pasts_after-put schema here from a ss es is) refl
pasts_after-put schema here from a ss (Dropped o p ∷ es) is = pasts_after-put schema here from a ss es is
pasts_after-put schema here from a ss (Refreshed moment ∷ es) is = pasts_after-put schema here from a ss es is

-- ---- one past for each transaction

one_more : {X Y : Type 0} (b : Bool) (x : X) (y : Y) (xs : List X) (ys : List Y) → length xs ≡ length ys → length (with_one b x xs) ≡ length (with_one b y ys)
one_more true x y xs ys is = ap suc is
one_more false x y xs ys is = is

pub length-pasts_after : (schema : Schema) (here : Here) (base : List Rows) (ss : List SenderState) (journal : List Entry) → length (pasts_after schema here ss journal) ≡ length (queue_after schema here base journal)
length-pasts_after schema here base ss [] = refl
length-pasts_after schema here base ss (Local number txn ∷ es) = ap suc (length-pasts_after schema here base ss es)
length-pasts_after schema here base ss (Done o p onward txn ∷ es) = one_more (went_onward here onward) (past_at schema es ss) (onward_txn schema here base es o txn) _ _ (length-pasts_after schema here base ss es)
length-pasts_after schema here base ss (Error o p call error txn ∷ es) = length-pasts_after schema here base ss es
length-pasts_after schema here base ss (Executed o p onward txn ∷ es) = one_more (went_onward here onward) (past_at schema es ss) (onward_txn schema here base es o txn) _ _ (length-pasts_after schema here base ss es)
length-pasts_after schema here base ss (Dropped o p ∷ es) = length-pasts_after schema here base ss es
length-pasts_after schema here base ss (Refreshed moment ∷ es) = length-pasts_after schema here base ss es
