-- The error queue has the errors that stand by the journal.
use Rattle.std.proofs.Common.{◌≡◌, ◌≢◌, ℕ, ◌+◌, ◌<◌, ◌≤◌, ◌==◌, List, [], ◌∷◌, ◌++◌, length, map, Bool, true, false, cond, Some, None, refl, sym, ap, ◌∙◌, arith, subst}
use Rattle.std.specs.Prelude.{◌&&◌, ◌||◌, Option, filter_map, flat_map}
use Rattle.std.specs.List.{AllByRecursion, cons_option}
use Rattle.std.specs.Ordering.{nat_cmp}
use Rattle.std.specs.declared.cmp.Ordering.{Ordering}
use Rattle.std.specs.declared.cmp.Ordering.TheVariants.{Less, Equal, Greater}
use Rattle.std.proofs.lemmas.Bool.Decides.{nat_tests}
use Rattle.std.proofs.lemmas.List.{length-append}
use Rattle.std.proofs.lemmas.Map.Lookups.{exact_unsigned}
use Rattle.rep_lists.specs.Rising.{IsRising, find_at, put_at, take_at, found_here, put_here, taken_here}
use Rattle.rep_values.specs.declared.name.SiteName.{SiteName}
use Rattle.rep_values.specs.declared.refusal.ApplyError.{ApplyError}
use Rattle.rep_calls.specs.declared.call.Txn.{Txn}
use Rattle.rep_values.specs.SiteNames.{is_same_site}
use Rattle.deferred_queue.proofs.Sites.{is_same_site-true, is_same_site-refl}
use Rattle.error_queue.specs.declared.entry.ErrorEntry.{ErrorEntry}
use Rattle.error_queue.specs.ErrorLists.{ErrorList, list_of, entries_in, errors_from, error_in, in_order, at_origin, added, removed}
use Rattle.error_queue.specs.ErrorLists as queue
use Rattle.site_state.specs.declared.arrival.Arrival.{Arrival}
use Rattle.site_state.specs.declared.entry.Entry.{Entry}
use Rattle.site_state.specs.declared.entry.Entry.TheVariants.{Local, Done, Error, Executed, Dropped, Refreshed}
use Rattle.site_state.specs.State.{SenderState, sender_of, at_sender, arrival_beside, arrived_in, arrived_at}
use Rattle.site_state.specs.Journal.{is_position, finished, error_at}
use Rattle.site_state.specs.Packets.{with_arrival}
use Rattle.site_state.specs.Errors as state
use Rattle.site_state.specs.Fits.{FinishedHaveArrived}
use Rattle.sender_inbox.specs.Incoming.{by_position}
use Rattle.sender_inbox.specs.Inboxes.{error_list}

-- ---- what stands for a position

or_left : (a b : Bool) → a ≡ true → (a || b) ≡ true
or_left true b is = refl
or_left false b is = cc

or_right : (a b : Bool) → b ≡ true → (a || b) ≡ true
or_right true b is = refl
or_right false b is = is

unless_some : (b : Bool) (o : Option ErrorEntry) (e : ErrorEntry) → cond b None o ≡ Some e → o ≡ Some e
unless_some true o e is = absurd (cc is)
unless_some false o e is = is

-- an error that stands is at its position
pub error_at-position : (origin : SiteName) (p : ℕ) (es : List Entry) (e : ErrorEntry) → error_at origin p es ≡ Some e → e.position ≡ p
error_at-position origin p [] e is = absurd (cc is)
error_at-position origin p (Local number txn ∷ es) e is = error_at-position origin p es e is
error_at-position origin p (Done o q onward txn ∷ es) e is = error_at-position origin p es e is
error_at-position origin p (Error o q call error txn ∷ es) e is = go (is_same_site o origin) (q == p) refl (error_at-position origin p es e) is
  where
    go : (b c : Bool) → (q == p) ≡ c → (error_at origin p es ≡ Some e → e.position ≡ p)
        → cond (b && c) (Some (record { origin = o; position = q; call = call; error = error; txn = txn })) (error_at origin p es) ≡ Some e → e.position ≡ p
    go true true at later is =
        let same : record { origin = o; position = q; call = call; error = error; txn = txn } ≡ e = cc is in
        let q_is : q ≡ p = grind (arith, nat_tests) in
        subst (λ (e : ErrorEntry). e.position ≡ p) same q_is
    go true false at later is = later is
    go false c at later is = later is
error_at-position origin p (Executed o q onward txn ∷ es) e is = error_at-position origin p es e (unless_some (is_position origin p o q) (error_at origin p es) e is)
error_at-position origin p (Dropped o q ∷ es) e is = error_at-position origin p es e (unless_some (is_position origin p o q) (error_at origin p es) e is)
error_at-position origin p (Refreshed moment ∷ es) e is = error_at-position origin p es e is

-- and its position is finished
pub error_at-finished : (origin : SiteName) (p : ℕ) (es : List Entry) (e : ErrorEntry) → error_at origin p es ≡ Some e → finished origin es p ≡ true
error_at-finished origin p [] e is = absurd (cc is)
error_at-finished origin p (Local number txn ∷ es) e is = error_at-finished origin p es e is
error_at-finished origin p (Done o q onward txn ∷ es) e is = or_right (is_position origin p o q) (finished origin es p) (error_at-finished origin p es e is)
error_at-finished origin p (Error o q call error txn ∷ es) e is = go (is_position origin p o q) refl (error_at-finished origin p es e) is
  where
    go : (b : Bool) → is_position origin p o q ≡ b → (error_at origin p es ≡ Some e → finished origin es p ≡ true)
        → cond b (Some (record { origin = o; position = q; call = call; error = error; txn = txn })) (error_at origin p es) ≡ Some e → (is_position origin p o q || finished origin es p) ≡ true
    go true here later is = or_left (is_position origin p o q) (finished origin es p) here
    go false here later is = or_right (is_position origin p o q) (finished origin es p) (later is)
error_at-finished origin p (Executed o q onward txn ∷ es) e is = error_at-finished origin p es e (unless_some (is_position origin p o q) (error_at origin p es) e is)
error_at-finished origin p (Dropped o q ∷ es) e is = error_at-finished origin p es e (unless_some (is_position origin p o q) (error_at origin p es) e is)
error_at-finished origin p (Refreshed moment ∷ es) e is = error_at-finished origin p es e is

-- no error stands for a position that isn't finished
pub error_at-unfinished : (origin : SiteName) (p : ℕ) (es : List Entry) → finished origin es p ≡ false → error_at origin p es ≡ None
error_at-unfinished origin p es not_yet = go (error_at origin p es) refl
  where
    go : (o : Option ErrorEntry) → error_at origin p es ≡ o → o ≡ None
    go None is = refl
    go (Some e) is = absurd (cc (error_at-finished origin p es e is, not_yet))

-- ---- the errors of one sender

-- the errors of arrivals, by what stands for a position
abbrev picked_by : (ℕ → Option ErrorEntry) → List Arrival → List ErrorEntry
picked_by f arrived = filter_map (λ (a : Arrival). f a.position) arrived

-- what stands for a position is at it
abbrev IsAt : (ℕ → Option ErrorEntry) → Type 0
IsAt f = (p : ℕ) (e : ErrorEntry) → f p ≡ Some e → e.position ≡ p

abbrev AreBehind : ℕ → List Arrival → Type 0
AreBehind p arrived = AllByRecursion (λ (a : Arrival). p < a.position) arrived

less_is : (a b : ℕ) → nat_cmp a b ≡ Less → a < b
less_is a b is = grind (arith, nat_tests)

greater_is : (a b : ℕ) → b < a → nat_cmp a b ≡ Greater
greater_is a b above = grind (arith, nat_tests)

-- those behind an arrival are behind each position up to it
behind_all : (p : ℕ) (a : Arrival) (arrived : List Arrival) → p ≤ a.position → AllByRecursion (λ (b : Arrival). by_position a b ≡ Less) arrived → AreBehind p arrived
behind_all p a [] up_to rising = tt
behind_all p a (b ∷ arrived) up_to rising = (omega (arith, up_to, less_is a.position b.position rising.0), behind_all p a arrived up_to rising.1)

none_behind : (f : ℕ → Option ErrorEntry) (p : ℕ) (arrived : List Arrival) → AreBehind p arrived → IsAt f → find_at (queue.error_beside p) (picked_by f arrived) ≡ None
none_behind f p [] behind at = refl
none_behind f p (a ∷ arrived) behind at = go (f a.position) refl (none_behind f p arrived behind.1 at)
  where
    go : (o : Option ErrorEntry) → f a.position ≡ o → find_at (queue.error_beside p) (picked_by f arrived) ≡ None → find_at (queue.error_beside p) (cons_option o (picked_by f arrived)) ≡ None
    go None is later = later
    go (Some e) is later = let place : nat_cmp e.position p ≡ Greater = rw (at a.position e is) (greater_is a.position p behind.0) in rw place refl

-- what stands for a position that arrived, if any does
abbrev where_arrived : Option Arrival → Option ErrorEntry → Option ErrorEntry
where_arrived None error = None
where_arrived (Some a) error = error

find_picked : (f : ℕ → Option ErrorEntry) (p : ℕ) (arrived : List Arrival) → IsRising by_position arrived → IsAt f → find_at (queue.error_beside p) (picked_by f arrived) ≡ where_arrived (find_at (arrival_beside p) arrived) (f p)
find_picked f p [] rising at = refl
find_picked f p (a ∷ arrived) rising at = go (f a.position) refl (nat_cmp a.position p) refl (find_picked f p arrived rising.1 at)
  where
    go : (o : Option ErrorEntry) → f a.position ≡ o → (c : Ordering) → nat_cmp a.position p ≡ c → find_at (queue.error_beside p) (picked_by f arrived) ≡ where_arrived (find_at (arrival_beside p) arrived) (f p)
        → find_at (queue.error_beside p) (cons_option o (picked_by f arrived)) ≡ where_arrived (found_here c a (find_at (arrival_beside p) arrived)) (f p)
    go None is Less place later = later
    go None is Equal place later =
        let same : a.position ≡ p = exact_unsigned a.position p place in
        none_behind f p arrived (behind_all p a arrived (omega (arith, same)) rising.0) at ∙ sym is ∙ ap f same
    go None is Greater place later =
        let above : p < a.position = grind (arith, nat_tests) in
        none_behind f p arrived (behind_all p a arrived (omega (arith, above)) rising.0) at
    go (Some e) is Less place later = let here : nat_cmp e.position p ≡ Less = rw (at a.position e is) place in rw here later
    go (Some e) is Equal place later =
        let here : nat_cmp e.position p ≡ Equal = rw (at a.position e is) place in
        let same : a.position ≡ p = exact_unsigned a.position p place in
        rw here (sym is ∙ ap f same)
    go (Some e) is Greater place later = let here : nat_cmp e.position p ≡ Greater = rw (at a.position e is) place in rw here refl

-- the same errors where the same stands for each arrival
picked-same : (f g : ℕ → Option ErrorEntry) (arrived : List Arrival) → AllByRecursion (λ (a : Arrival). f a.position ≡ g a.position) arrived → picked_by f arrived ≡ picked_by g arrived
picked-same f g [] same = refl
picked-same f g (a ∷ arrived) same = rw (same.0, picked-same f g arrived same.1) refl

-- one changes, and the others stay
abbrev Others : (f g : ℕ → Option ErrorEntry) → ℕ → Type 0
Others f g p = (q : ℕ) → q ≢ p → g q ≡ f q

same_behind : (f g : ℕ → Option ErrorEntry) (p : ℕ) (arrived : List Arrival) → AreBehind p arrived → Others f g p → AllByRecursion (λ (a : Arrival). g a.position ≡ f a.position) arrived
same_behind f g p [] behind others = tt
same_behind f g p (a ∷ arrived) behind others = (others a.position (λ same. absurd (omega (arith, behind.0, same))), same_behind f g p arrived behind.1 others)

put_front : (f : ℕ → Option ErrorEntry) (p : ℕ) (e : ErrorEntry) (arrived : List Arrival) → AreBehind p arrived → IsAt f → put_at (queue.error_beside p) e (picked_by f arrived) ≡ e ∷ picked_by f arrived
put_front f p e [] behind at = refl
put_front f p e (a ∷ arrived) behind at = go (f a.position) refl (put_front f p e arrived behind.1 at)
  where
    go : (o : Option ErrorEntry) → f a.position ≡ o → put_at (queue.error_beside p) e (picked_by f arrived) ≡ e ∷ picked_by f arrived
        → put_at (queue.error_beside p) e (cons_option o (picked_by f arrived)) ≡ e ∷ cons_option o (picked_by f arrived)
    go None is later = later
    go (Some d) is later = let place : nat_cmp d.position p ≡ Greater = rw (at a.position d is) (greater_is a.position p behind.0) in rw place refl

-- a new error is put among the others
picked-put : (f g : ℕ → Option ErrorEntry) (p : ℕ) (e : ErrorEntry) (arrived : List Arrival) → IsRising by_position arrived → IsAt f → Others f g p → f p ≡ None → g p ≡ Some e → find_at (arrival_beside p) arrived ≢ None
    → picked_by g arrived ≡ put_at (queue.error_beside p) e (picked_by f arrived)
picked-put f g p e [] rising at others before after there = absurd (there refl)
picked-put f g p e (a ∷ arrived) rising at others before after there = go (nat_cmp a.position p) refl there (picked-put f g p e arrived rising.1 at others before after)
  where
    go : (c : Ordering) → nat_cmp a.position p ≡ c → found_here c a (find_at (arrival_beside p) arrived) ≢ None
        → (find_at (arrival_beside p) arrived ≢ None → picked_by g arrived ≡ put_at (queue.error_beside p) e (picked_by f arrived))
        → cons_option (g a.position) (picked_by g arrived) ≡ put_at (queue.error_beside p) e (cons_option (f a.position) (picked_by f arrived))
    go Less place there later = rw (others a.position (λ same. absurd (omega (arith, less_is a.position p place, same))), later there) (below (f a.position) refl)
      where
        below : (o : Option ErrorEntry) → f a.position ≡ o → cons_option o (put_at (queue.error_beside p) e (picked_by f arrived)) ≡ put_at (queue.error_beside p) e (cons_option o (picked_by f arrived))
        below None is = refl
        below (Some d) is = let here : nat_cmp d.position p ≡ Less = rw (at a.position d is) place in rw here refl
    go Equal place there later =
        let same : a.position ≡ p = exact_unsigned a.position p place in
        let behind = behind_all p a arrived (omega (arith, same)) rising.0 in
        let head : g a.position ≡ Some e = ap g same ∙ after in
        let none : f a.position ≡ None = ap f same ∙ before in
        rw (head, none, picked-same g f arrived (same_behind f g p arrived behind others)) (sym (put_front f p e arrived behind at))
    go Greater place there later = absurd (there refl)

take_front : (f : ℕ → Option ErrorEntry) (p : ℕ) (arrived : List Arrival) → AreBehind p arrived → IsAt f → take_at (queue.error_beside p) (picked_by f arrived) ≡ picked_by f arrived
take_front f p [] behind at = refl
take_front f p (a ∷ arrived) behind at = go (f a.position) refl (take_front f p arrived behind.1 at)
  where
    go : (o : Option ErrorEntry) → f a.position ≡ o → take_at (queue.error_beside p) (picked_by f arrived) ≡ picked_by f arrived
        → take_at (queue.error_beside p) (cons_option o (picked_by f arrived)) ≡ cons_option o (picked_by f arrived)
    go None is later = later
    go (Some d) is later = let place : nat_cmp d.position p ≡ Greater = rw (at a.position d is) (greater_is a.position p behind.0) in rw place refl

-- an error that no longer stands is taken out
picked-take : (f g : ℕ → Option ErrorEntry) (p : ℕ) (arrived : List Arrival) → IsRising by_position arrived → IsAt f → Others f g p → g p ≡ None
    → picked_by g arrived ≡ take_at (queue.error_beside p) (picked_by f arrived)
picked-take f g p [] rising at others after = refl
picked-take f g p (a ∷ arrived) rising at others after = go (nat_cmp a.position p) refl (picked-take f g p arrived rising.1 at others after)
  where
    go : (c : Ordering) → nat_cmp a.position p ≡ c → picked_by g arrived ≡ take_at (queue.error_beside p) (picked_by f arrived)
        → cons_option (g a.position) (picked_by g arrived) ≡ take_at (queue.error_beside p) (cons_option (f a.position) (picked_by f arrived))
    go Less place later = rw (others a.position (λ same. absurd (omega (arith, less_is a.position p place, same))), later) (below (f a.position) refl)
      where
        below : (o : Option ErrorEntry) → f a.position ≡ o → cons_option o (take_at (queue.error_beside p) (picked_by f arrived)) ≡ take_at (queue.error_beside p) (cons_option o (picked_by f arrived))
        below None is = refl
        below (Some d) is = let here : nat_cmp d.position p ≡ Less = rw (at a.position d is) place in rw here refl
    go Equal place later =
        let same : a.position ≡ p = exact_unsigned a.position p place in
        let behind = behind_all p a arrived (omega (arith, same)) rising.0 in
        let none : g a.position ≡ None = ap g same ∙ after in
        rw (none, picked-same g f arrived (same_behind f g p arrived behind others)) (here (f a.position) refl behind)
      where
        here : (o : Option ErrorEntry) → f a.position ≡ o → AreBehind p arrived → picked_by f arrived ≡ take_at (queue.error_beside p) (cons_option o (picked_by f arrived))
        here None is behind = sym (take_front f p arrived behind at)
        here (Some d) is behind = let head : nat_cmp d.position p ≡ Equal = rw (at a.position d is) place in rw head refl
    go Greater place later =
        let above : p < a.position = grind (arith, nat_tests) in
        let behind = behind_all p a arrived (omega (arith, above)) rising.0 in
        let head : g a.position ≡ f a.position = others a.position (λ same. absurd (omega (arith, above, same))) in
        rw (head, picked-same g f arrived (same_behind f g p arrived behind others)) (sym (front (f a.position) refl behind))
      where
        front : (o : Option ErrorEntry) → f a.position ≡ o → AreBehind p arrived → take_at (queue.error_beside p) (cons_option o (picked_by f arrived)) ≡ cons_option o (picked_by f arrived)
        front None is behind = take_front f p arrived behind at
        front (Some d) is behind = let above : p < a.position = grind (arith, nat_tests) in let head : nat_cmp d.position p ≡ Greater = rw (at a.position d is) (greater_is a.position p above) in rw head refl

-- an arrival without an error changes nothing
picked-arrival : (f : ℕ → Option ErrorEntry) (a : Arrival) (arrived : List Arrival) → f a.position ≡ None → find_at (arrival_beside a.position) arrived ≡ None → picked_by f (put_at (arrival_beside a.position) a arrived) ≡ picked_by f arrived
picked-arrival f a [] none absent = rw none refl
picked-arrival f a (b ∷ arrived) none absent = go (nat_cmp b.position a.position) absent (picked-arrival f a arrived none)
  where
    go : (c : Ordering) → found_here c b (find_at (arrival_beside a.position) arrived) ≡ None
        → (find_at (arrival_beside a.position) arrived ≡ None → picked_by f (put_at (arrival_beside a.position) a arrived) ≡ picked_by f arrived)
        → picked_by f (put_here c a b arrived (put_at (arrival_beside a.position) a arrived)) ≡ picked_by f (b ∷ arrived)
    go Less absent later = ap (cons_option (f b.position)) (later absent)
    go Equal absent later = absurd (cc absent)
    go Greater absent later = rw none refl

-- ---- the errors of all senders

-- no two senders are the same site
abbrev pub StandApart : List SenderState → Type 0
StandApart [] = Unit {0}
StandApart (s ∷ ss) = (sender_of s.origin ss ≡ None) × StandApart ss

abbrev pub lists_by : List Entry → List SenderState → List ErrorList
lists_by journal senders = map (error_list journal) senders

abbrev AreOthers : SiteName → List SenderState → Type 0
AreOthers origin ss = AllByRecursion (λ (s : SenderState). is_same_site s.origin origin ≡ false) ss

others_of : (origin : SiteName) (ss : List SenderState) → sender_of origin ss ≡ None → AreOthers origin ss
others_of origin [] none = tt
others_of origin (s ∷ ss) none = go (is_same_site s.origin origin) refl none (others_of origin ss)
  where
    go : (b : Bool) → is_same_site s.origin origin ≡ b → cond b (Some s) (sender_of origin ss) ≡ None → (sender_of origin ss ≡ None → AreOthers origin ss) → AreOthers origin (s ∷ ss)
    go true is none later = absurd (cc none)
    go false is none later = (is, later none)

off_both : (a b : SiteName) → is_same_site a b ≡ false → is_same_site b a ≡ false
off_both a b off = go (is_same_site b a) refl
  where
    go : (c : Bool) → is_same_site b a ≡ c → c ≡ false
    go false is = refl
    go true is =
        let same : b ≡ a = is_same_site-true b a is in
        let own : is_same_site a b ≡ true = rw same (is_same_site-refl a) in
        absurd (cc (own, off))

-- one sender's errors change, and the others' don't
module _ (journal later : List Entry) (origin : SiteName) (change : List ErrorEntry → List ErrorEntry) (other : (s : SenderState) → is_same_site s.origin origin ≡ false → state.errors_from later s ≡ state.errors_from journal s) where
  lists_others : (ss : List SenderState) → AreOthers origin ss → lists_by later ss ≡ lists_by journal ss
  lists_others [] others = refl
  lists_others (s ∷ ss) others = rw (other s others.0, lists_others ss others.1) refl

  lists_changed : (ss : List SenderState) → StandApart ss → ((s : SenderState) → sender_of origin ss ≡ Some s → state.errors_from later s ≡ change (state.errors_from journal s))
      → lists_by later ss ≡ at_origin origin change (lists_by journal ss)
  lists_changed [] apart own = refl
  lists_changed (s ∷ ss) apart own = go (is_same_site s.origin origin) refl own (lists_changed ss apart.1)
    where
      go : (b : Bool) → is_same_site s.origin origin ≡ b → ((t : SenderState) → cond b (Some s) (sender_of origin ss) ≡ Some t → state.errors_from later t ≡ change (state.errors_from journal t))
          → (((t : SenderState) → sender_of origin ss ≡ Some t → state.errors_from later t ≡ change (state.errors_from journal t)) → lists_by later ss ≡ at_origin origin change (lists_by journal ss))
          → lists_by later (s ∷ ss) ≡ cond b (record { origin = s.origin; entries = change (state.errors_from journal s) } ∷ lists_by journal ss) (error_list journal s ∷ at_origin origin change (lists_by journal ss))
      go true is own rest =
          let none : sender_of origin ss ≡ None = subst (λ (o : SiteName). sender_of o ss ≡ None) (is_same_site-true s.origin origin is) apart.0 in
          rw (own s refl, lists_others ss (others_of origin ss none)) refl
      go false is own rest = rw (other s is, rest own) refl

-- what is asked of a position's sender: its arrivals rise, and the position is one of them
pub record HasCome (origin : SiteName) (p : ℕ) (ss : List SenderState) : Type 0 where
  pub rising : (s : SenderState) → sender_of origin ss ≡ Some s → IsRising by_position s.arrived
  pub there : arrived_at origin p ss ≢ None

found_name : (origin : SiteName) (ss : List SenderState) (s : SenderState) → sender_of origin ss ≡ Some s → s.origin ≡ origin
found_name origin [] s found = absurd (cc found)
found_name origin (t ∷ ss) s found = go (is_same_site t.origin origin) refl found (found_name origin ss s)
  where
    go : (b : Bool) → is_same_site t.origin origin ≡ b → cond b (Some t) (sender_of origin ss) ≡ Some s → (sender_of origin ss ≡ Some s → s.origin ≡ origin) → s.origin ≡ origin
    go true is found later = let same : t ≡ s = cc found in subst (λ (u : SenderState). u.origin ≡ origin) same (is_same_site-true t.origin origin is)
    go false is found later = later found

is_at : (origin : SiteName) (es : List Entry) → IsAt (λ (q : ℕ). error_at origin q es)
is_at origin es = λ q e is. error_at-position origin q es e is

-- at another position nothing is the same position
elsewhere : (a b : SiteName) (p q : ℕ) → q ≢ p → is_position a q b p ≡ false
elsewhere a b p q off = go (is_same_site b a) (p == q) refl
  where
    go : (c d : Bool) → (p == q) ≡ d → (c && d) ≡ false
    go true true is = absurd (off (grind (arith, nat_tests)))
    go true false is = refl
    go false d is = refl

itself : (a : SiteName) (p : ℕ) → is_position a p a p ≡ true
itself a p = let same : (p == p) ≡ true = grind (arith, nat_tests) in rw (is_same_site-refl a, same) refl

-- at another site neither
another : (a b : SiteName) (p q : ℕ) → is_same_site a b ≡ false → is_position a q b p ≡ false
another a b p q off = rw (off_both a b off) refl

-- a new error
pub errors-added : (journal : List Entry) (origin : SiteName) (p call : ℕ) (error : ApplyError) (txn : Txn) (ss : List SenderState) → StandApart ss → HasCome origin p ss → error_at origin p journal ≡ None
    → lists_by (Error origin p call error txn ∷ journal) ss ≡ added (record { origin = origin; position = p; call = call; error = error; txn = txn }) (lists_by journal ss)
errors-added journal origin p call error txn ss apart come none = lists_changed journal (Error origin p call error txn ∷ journal) origin (put_at (queue.error_beside p) e) other ss apart own
  where
    e : ErrorEntry
    e = record { origin = origin; position = p; call = call; error = error; txn = txn }

    other : (s : SenderState) → is_same_site s.origin origin ≡ false → state.errors_from (Error origin p call error txn ∷ journal) s ≡ state.errors_from journal s
    other s off = picked-same (λ (q : ℕ). error_at s.origin q (Error origin p call error txn ∷ journal)) (λ (q : ℕ). error_at s.origin q journal) s.arrived (each s.arrived)
      where
        each : (arrived : List Arrival) → AllByRecursion (λ (a : Arrival). error_at s.origin a.position (Error origin p call error txn ∷ journal) ≡ error_at s.origin a.position journal) arrived
        each [] = tt
        each (a ∷ arrived) = (rw (another s.origin origin p a.position off) refl, each arrived)

    own : (s : SenderState) → sender_of origin ss ≡ Some s → state.errors_from (Error origin p call error txn ∷ journal) s ≡ put_at (queue.error_beside p) e (state.errors_from journal s)
    own s found =
        let name = found_name origin ss s found in
        subst (λ (o : SiteName). picked_by (λ (q : ℕ). error_at o q (Error origin p call error txn ∷ journal)) s.arrived ≡ put_at (queue.error_beside p) e (picked_by (λ (q : ℕ). error_at o q journal) s.arrived)) (sym name)
        (picked-put (λ (q : ℕ). error_at origin q journal) (λ (q : ℕ). error_at origin q (Error origin p call error txn ∷ journal)) p e s.arrived (come.rising s found) (is_at origin journal)
        (λ q off. rw (elsewhere origin origin p q off) refl) none (rw (itself origin p) refl) (rw found at come.there))

-- an error that no longer stands, by the entry that clears it
pub errors-removed : (journal : List Entry) (e : Entry) (origin : SiteName) (p : ℕ) (ss : List SenderState) → StandApart ss → HasCome origin p ss
    → ((o : SiteName) (q : ℕ) → error_at o q (e ∷ journal) ≡ cond (is_position o q origin p) None (error_at o q journal))
    → lists_by (e ∷ journal) ss ≡ removed origin p (lists_by journal ss)
errors-removed journal e origin p ss apart come settles = lists_changed journal (e ∷ journal) origin (take_at (queue.error_beside p)) other ss apart own
  where
    other : (s : SenderState) → is_same_site s.origin origin ≡ false → state.errors_from (e ∷ journal) s ≡ state.errors_from journal s
    other s off = picked-same (λ (q : ℕ). error_at s.origin q (e ∷ journal)) (λ (q : ℕ). error_at s.origin q journal) s.arrived (each s.arrived)
      where
        each : (arrived : List Arrival) → AllByRecursion (λ (a : Arrival). error_at s.origin a.position (e ∷ journal) ≡ error_at s.origin a.position journal) arrived
        each [] = tt
        each (a ∷ arrived) = (settles s.origin a.position ∙ rw (another s.origin origin p a.position off) refl, each arrived)

    own : (s : SenderState) → sender_of origin ss ≡ Some s → state.errors_from (e ∷ journal) s ≡ take_at (queue.error_beside p) (state.errors_from journal s)
    own s found =
        let name = found_name origin ss s found in
        subst (λ (o : SiteName). picked_by (λ (q : ℕ). error_at o q (e ∷ journal)) s.arrived ≡ take_at (queue.error_beside p) (picked_by (λ (q : ℕ). error_at o q journal) s.arrived)) (sym name)
        (picked-take (λ (q : ℕ). error_at origin q journal) (λ (q : ℕ). error_at origin q (e ∷ journal)) p s.arrived (come.rising s found) (is_at origin journal)
        (λ q off. settles origin q ∙ rw (elsewhere origin origin p q off) refl) (settles origin p ∙ rw (itself origin p) refl))

-- an arrival that isn't finished
pub errors-arrival : (journal : List Entry) (from : SiteName) (a : Arrival) (ss : List SenderState) → finished from journal a.position ≡ false → arrived_at from a.position ss ≡ None
    → lists_by journal (at_sender from (with_arrival a) ss) ≡ lists_by journal ss
errors-arrival journal from a [] not_yet absent = refl
errors-arrival journal from a (s ∷ ss) not_yet absent = go (is_same_site s.origin from) refl absent (errors-arrival journal from a ss not_yet)
  where
    go : (b : Bool) → is_same_site s.origin from ≡ b → find_at (arrival_beside a.position) (arrived_in (cond b (Some s) (sender_of from ss))) ≡ None
        → (arrived_at from a.position ss ≡ None → lists_by journal (at_sender from (with_arrival a) ss) ≡ lists_by journal ss)
        → lists_by journal (cond b (with_arrival a s ∷ ss) (s ∷ at_sender from (with_arrival a) ss)) ≡ lists_by journal (s ∷ ss)
    go true is absent later =
        let name : s.origin ≡ from = is_same_site-true s.origin from is in
        let none : error_at s.origin a.position journal ≡ None = rw name (error_at-unfinished from a.position journal not_yet) in
        ap (λ (entries : List ErrorEntry). record { origin = s.origin; entries = entries } ∷ lists_by journal ss) (picked-arrival (λ (q : ℕ). error_at s.origin q journal) a s.arrived none absent)
    go false is absent later = ap (λ (ls : List ErrorList). error_list journal s ∷ ls) (later absent)

-- ---- look-ups

errors_from-lists : (journal : List Entry) (origin : SiteName) (ss : List SenderState) (s : SenderState) → sender_of origin ss ≡ Some s → errors_from origin (lists_by journal ss) ≡ state.errors_from journal s
errors_from-lists journal origin [] s found = absurd (cc found)
errors_from-lists journal origin (t ∷ ss) s found = go (is_same_site t.origin origin) found (errors_from-lists journal origin ss s)
  where
    go : (b : Bool) → cond b (Some t) (sender_of origin ss) ≡ Some s → (sender_of origin ss ≡ Some s → errors_from origin (lists_by journal ss) ≡ state.errors_from journal s)
        → entries_in (cond b (Some (error_list journal t)) (list_of origin (lists_by journal ss))) ≡ state.errors_from journal s
    go true found later = let same : t ≡ s = cc found in ap (state.errors_from journal) same
    go false found later = later found

errors_from-none : (journal : List Entry) (origin : SiteName) (ss : List SenderState) → sender_of origin ss ≡ None → errors_from origin (lists_by journal ss) ≡ []
errors_from-none journal origin [] none = refl
errors_from-none journal origin (t ∷ ss) none = go (is_same_site t.origin origin) none (errors_from-none journal origin ss)
  where
    go : (b : Bool) → cond b (Some t) (sender_of origin ss) ≡ None → (sender_of origin ss ≡ None → errors_from origin (lists_by journal ss) ≡ [])
        → entries_in (cond b (Some (error_list journal t)) (list_of origin (lists_by journal ss))) ≡ []
    go true none later = absurd (cc none)
    go false none later = later none

-- the error that the queue has for a position is the one that stands
pub error_in-lists : (journal : List Entry) (origin : SiteName) (p : ℕ) (ss : List SenderState) → FinishedHaveArrived journal ss → ((s : SenderState) → sender_of origin ss ≡ Some s → IsRising by_position s.arrived)
    → error_in origin p (lists_by journal ss) ≡ error_at origin p journal
error_in-lists journal origin p ss come rising = go (sender_of origin ss) refl
  where
    stands : (found : Option Arrival) → arrived_at origin p ss ≡ found → where_arrived found (error_at origin p journal) ≡ error_at origin p journal
    stands None absent = by (error_at origin p journal) refl
      where
        by : (o : Option ErrorEntry) → error_at origin p journal ≡ o → None ≡ o
        by None is = refl
        by (Some e) is = absurd (come origin p (error_at-finished origin p journal e is) absent)
    stands (Some a) there = refl

    go : (found : Option SenderState) → sender_of origin ss ≡ found → error_in origin p (lists_by journal ss) ≡ error_at origin p journal
    go None none = rw (errors_from-none journal origin ss none) (stands None (rw none refl))
    go (Some s) found =
        let name = found_name origin ss s found in
        let entries : errors_from origin (lists_by journal ss) ≡ picked_by (λ (q : ℕ). error_at origin q journal) s.arrived =
        errors_from-lists journal origin ss s found ∙ ap (λ (o : SiteName). picked_by (λ (q : ℕ). error_at o q journal) s.arrived) name in
        let here : arrived_at origin p ss ≡ find_at (arrival_beside p) s.arrived = rw found refl in
        rw entries (find_picked (λ (q : ℕ). error_at origin q journal) p s.arrived (rising s found) (is_at origin journal)
        ∙ ap (λ (a : Option Arrival). where_arrived a (error_at origin p journal)) (sym here) ∙ stands (arrived_at origin p ss) refl)

-- ---- how many they are

length-put_at : (e : ErrorEntry) (entries : List ErrorEntry) → length (put_at (queue.error_beside e.position) e entries) ≤ length entries + 1
length-put_at e [] = omega arith
length-put_at e (d ∷ entries) = go (queue.error_beside e.position d) (length-put_at e entries)
  where
    go : (o : Ordering) → length (put_at (queue.error_beside e.position) e entries) ≤ length entries + 1 → length (put_here o e d entries (put_at (queue.error_beside e.position) e entries)) ≤ length (d ∷ entries) + 1
    go Less later = omega (arith, later)
    go Equal later = omega arith
    go Greater later = omega arith

length-take_at : (p : ℕ) (entries : List ErrorEntry) (e : ErrorEntry) → find_at (queue.error_beside p) entries ≡ Some e → length (take_at (queue.error_beside p) entries) + 1 ≡ length entries
length-take_at p [] e found = absurd (cc found)
length-take_at p (d ∷ entries) e found = go (queue.error_beside p d) found (length-take_at p entries e)
  where
    go : (o : Ordering) → found_here o d (find_at (queue.error_beside p) entries) ≡ Some e → (find_at (queue.error_beside p) entries ≡ Some e → length (take_at (queue.error_beside p) entries) + 1 ≡ length entries)
        → length (taken_here o d entries (take_at (queue.error_beside p) entries)) + 1 ≡ length (d ∷ entries)
    go Less found later = omega (arith, later found)
    go Equal found later = omega arith
    go Greater found later = absurd (cc found)

count_cons : (l : ErrorList) (ls : List ErrorList) → length (in_order (l ∷ ls)) ≡ length l.entries + length (in_order ls)
count_cons l ls = length-append l.entries (in_order ls)

-- one more, or as many where the origin is none of these
pub count-added : (e : ErrorEntry) (lists : List ErrorList) → length (in_order (added e lists)) ≤ length (in_order lists) + 1
count-added e [] = omega arith
count-added e (l ∷ ls) = go (is_same_site l.origin e.origin) (count-added e ls)
  where
    go : (b : Bool) → length (in_order (added e ls)) ≤ length (in_order ls) + 1
        → length (in_order (cond b (record { origin = l.origin; entries = put_at (queue.error_beside e.position) e l.entries } ∷ ls) (l ∷ added e ls))) ≤ length (in_order (l ∷ ls)) + 1
    go true later =
        let new = count_cons (record { origin = l.origin; entries = put_at (queue.error_beside e.position) e l.entries }) ls in
        omega (arith, new, count_cons l ls, length-put_at e l.entries)
    go false later = omega (arith, later, count_cons l ls, count_cons l (added e ls))

-- one less
pub count-removed : (origin : SiteName) (p : ℕ) (lists : List ErrorList) (e : ErrorEntry) → error_in origin p lists ≡ Some e → length (in_order (removed origin p lists)) + 1 ≡ length (in_order lists)
count-removed origin p [] e found = absurd (cc found)
count-removed origin p (l ∷ ls) e found = go (is_same_site l.origin origin) found (count-removed origin p ls e)
  where
    go : (b : Bool) → find_at (queue.error_beside p) (entries_in (cond b (Some l) (list_of origin ls))) ≡ Some e → (error_in origin p ls ≡ Some e → length (in_order (removed origin p ls)) + 1 ≡ length (in_order ls))
        → length (in_order (cond b (record { origin = l.origin; entries = take_at (queue.error_beside p) l.entries } ∷ ls) (l ∷ removed origin p ls))) + 1 ≡ length (in_order (l ∷ ls))
    go true found later =
        let new = count_cons (record { origin = l.origin; entries = take_at (queue.error_beside p) l.entries }) ls in
        omega (arith, new, count_cons l ls, length-take_at p l.entries e found)
    go false found later = omega (arith, later found, count_cons l ls, count_cons l (removed origin p ls))

-- in order they are the errors of the site
pub in_order-lists : (journal : List Entry) (ss : List SenderState) → in_order (lists_by journal ss) ≡ flat_map (state.errors_from journal) ss
in_order-lists journal [] = refl
in_order-lists journal (s ∷ ss) = ap (λ (es : List ErrorEntry). state.errors_from journal s ++ es) (in_order-lists journal ss)

-- a sender has a list
pub list_of-sender : (journal : List Entry) (origin : SiteName) (ss : List SenderState) (s : SenderState) → sender_of origin ss ≡ Some s → list_of origin (lists_by journal ss) ≢ None
list_of-sender journal origin [] s found = absurd (cc found)
list_of-sender journal origin (t ∷ ss) s found = go (is_same_site t.origin origin) found (list_of-sender journal origin ss s)
  where
    go : (b : Bool) → cond b (Some t) (sender_of origin ss) ≡ Some s → (sender_of origin ss ≡ Some s → list_of origin (lists_by journal ss) ≢ None) → cond b (Some (error_list journal t)) (list_of origin (lists_by journal ss)) ≢ None
    go true found later = λ none. absurd (cc none)
    go false found later = later found
