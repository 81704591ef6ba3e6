-- How many positions that arrived wait: where a journal finishes more there are no more of them, and fewer where one is newly
-- finished.
use Rattle.std.proofs.Common.{◌≡◌, ℕ, ◌+◌, ◌<◌, ◌≤◌, List, [], ◌∷◌, Bool, true, false, cond, Some, None, refl, arith}
use Rattle.std.specs.Prelude.{◌&&◌, ◌||◌, not, Option}
use Rattle.std.specs.List.{list_any}
use Rattle.std.specs.declared.cmp.Ordering.{Ordering}
use Rattle.std.specs.declared.cmp.Ordering.TheVariants.{Less, Equal, Greater}
use Rattle.std.proofs.lemmas.Bool.{or_left, or_right}
use Rattle.rep_lists.specs.Rising.{find_at, found_here}
use Rattle.rep_values.specs.declared.name.SiteName.{SiteName}
use Rattle.rep_values.specs.SiteNames.{is_same_site}
use Rattle.deferred_queue.proofs.Sites.{is_same_site-true}
use Rattle.site_state.specs.declared.entry.Entry.{Entry}
use Rattle.site_state.specs.declared.arrival.Arrival.{Arrival}
use Rattle.site_state.specs.State.{SenderState, SiteState, sender_of, arrived_in, arrival_beside}
use Rattle.site_state.specs.Journal.{finished}
use Rattle.rep_lists.specs.Counting.{count_where}
use Rattle.site_state.proofs.LowWater.{finished-append}
use Rattle.site_state.proofs.Stepping.{with_entry, Steps}

abbrev pub is_waiting : SiteName → List Entry → Arrival → Bool
is_waiting origin journal a = not (finished origin journal a.position)

-- how many positions arrived and aren't finished
abbrev pub waiting_count : List Entry → List SenderState → ℕ
waiting_count journal [] = 0
waiting_count journal (s ∷ ss) = count_where (is_waiting s.origin journal) s.arrived + waiting_count journal ss

-- the later journal finishes what the earlier one does
abbrev pub FinishesMore : List Entry → List Entry → Type 0
FinishesMore before after = (origin : SiteName) (p : ℕ) → finished origin before p ≡ true → finished origin after p ≡ true

-- so it is after a call that only journals
pub steps_finish_more : (x y : SiteState) → Steps x y → FinishesMore x.journal y.journal
steps_finish_more x y s o p is = rw s.journals.journal (go s.journals.entry)
  where
    go : (e : Option Entry) → finished o (with_entry e x.journal) p ≡ true
    go None = is
    go (Some e) = finished-append o (e ∷ []) x.journal p is

-- ---- counts of two journals

fewer : {A : Type 0} (f g : A → Bool) (xs : List A) → ((a : A) → g a ≡ true → f a ≡ true) → count_where g xs ≤ count_where f xs
fewer f g [] less = omega arith
fewer f g (x ∷ xs) less = go (g x) refl (f x) refl (fewer f g xs less)
  where
    go : (b : Bool) → g x ≡ b → (c : Bool) → f x ≡ c → count_where g xs ≤ count_where f xs → cond b (count_where g xs + 1) (count_where g xs) ≤ cond c (count_where f xs + 1) (count_where f xs)
    go true is true at later = omega (arith, later)
    go true is false at later = absurd (cc (less x is, at))
    go false is true at later = omega (arith, later)
    go false is false at later = later

-- one of them is no longer so
one_fewer : {A : Type 0} (f g : A → Bool) (xs : List A) → ((a : A) → g a ≡ true → f a ≡ true) → list_any (λ (a : A). f a && not (g a)) xs ≡ true → count_where g xs < count_where f xs
one_fewer f g [] less some = absurd (cc some)
one_fewer f g (x ∷ xs) less some = go (g x) refl (f x) refl some (fewer f g xs less) (one_fewer f g xs less)
  where
    go : (b : Bool) → g x ≡ b → (c : Bool) → f x ≡ c → ((c && not b) || list_any (λ a. f a && not (g a)) xs) ≡ true → count_where g xs ≤ count_where f xs
        → (list_any (λ a. f a && not (g a)) xs ≡ true → count_where g xs < count_where f xs)
        → cond b (count_where g xs + 1) (count_where g xs) < cond c (count_where f xs + 1) (count_where f xs)
    go true is true at some rest later = omega (arith, later some)
    go true is false at some rest later = absurd (cc (less x is, at))
    go false is true at some rest later = omega (arith, rest)
    go false is false at some rest later = later some

waits_less : (origin : SiteName) (before after : List Entry) → FinishesMore before after → (a : Arrival) → is_waiting origin after a ≡ true → is_waiting origin before a ≡ true
waits_less origin before after more a is = go (finished origin before a.position) refl (finished origin after a.position) refl is
  where
    go : (b : Bool) → finished origin before a.position ≡ b → (c : Bool) → finished origin after a.position ≡ c → not c ≡ true → not b ≡ true
    go true was c now is = absurd (cc (more origin a.position was, now, is))
    go false was c now is = refl

-- no more positions wait
pub waiting_falls : (before after : List Entry) (ss : List SenderState) → FinishesMore before after → waiting_count after ss ≤ waiting_count before ss
waiting_falls before after [] more = omega arith
waiting_falls before after (s ∷ ss) more = omega (arith, fewer (is_waiting s.origin before) (is_waiting s.origin after) s.arrived (waits_less s.origin before after more), waiting_falls before after ss more)

-- a position that waited and is finished
abbrev pub is_new : SiteName → List Entry → List Entry → Arrival → Bool
is_new origin before after a = is_waiting origin before a && not (is_waiting origin after a)

-- fewer wait where one of them is newly finished
pub waiting_less : (origin : SiteName) (before after : List Entry) (ss : List SenderState) → FinishesMore before after → list_any (is_new origin before after) (arrived_in (sender_of origin ss)) ≡ true
    → waiting_count after ss < waiting_count before ss
waiting_less origin before after [] more some = absurd (cc some)
waiting_less origin before after (s ∷ ss) more some = go (is_same_site s.origin origin) refl some (waiting_less origin before after ss more)
  where
    own : s.origin ≡ origin → list_any (is_new origin before after) s.arrived ≡ true → count_where (is_waiting s.origin after) s.arrived < count_where (is_waiting s.origin before) s.arrived
    own same some = rw same (one_fewer (is_waiting origin before) (is_waiting origin after) s.arrived (waits_less origin before after more) some)

    go : (b : Bool) → is_same_site s.origin origin ≡ b → list_any (is_new origin before after) (arrived_in (cond b (Some s) (sender_of origin ss))) ≡ true
        → (list_any (is_new origin before after) (arrived_in (sender_of origin ss)) ≡ true → waiting_count after ss < waiting_count before ss)
        → count_where (is_waiting s.origin after) s.arrived + waiting_count after ss < count_where (is_waiting s.origin before) s.arrived + waiting_count before ss
    go true is some later = omega (arith, own (is_same_site-true s.origin origin is) some, waiting_falls before after ss more)
    go false is some later = omega (arith, fewer (is_waiting s.origin before) (is_waiting s.origin after) s.arrived (waits_less s.origin before after more), later some)

-- ---- what is found is one of the arrivals

pub found_any : (f : Arrival → Bool) (position : ℕ) (arrived : List Arrival) (a : Arrival) → find_at (arrival_beside position) arrived ≡ Some a → f a ≡ true → list_any f arrived ≡ true
found_any f position [] a found is = absurd (cc found)
found_any f position (b ∷ bs) a found is = go (arrival_beside position b) found (found_any f position bs a)
  where
    go : (o : Ordering) → found_here o b (find_at (arrival_beside position) bs) ≡ Some a → (find_at (arrival_beside position) bs ≡ Some a → f a ≡ true → list_any f bs ≡ true) → (f b || list_any f bs) ≡ true
    go Less found later = or_right (f b) (list_any f bs) (later found is)
    go Equal found later = let same : b ≡ a = cc found in or_left (f b) (list_any f bs) (rw same is)
    go Greater found later = absurd (cc found)
