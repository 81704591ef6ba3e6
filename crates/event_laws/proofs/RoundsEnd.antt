-- The rounds end: each round in which something is ready finishes a position that arrived.
use Rattle.std.proofs.Common.{◌≡◌, ℕ, zero, suc, ◌+◌, ◌<◌, ◌≤◌, List, [], ◌∷◌, length, Bool, true, false, cond, Some, None, refl, sym, ap, ◌∙◌, arith, subst, ◌++◌}
use Rattle.std.specs.Prelude.{◌||◌, is_none, Option, Result, Ok, Err, ◌&&◌, nat_lt, is_some}
use Rattle.std.specs.List.{list_any, AllByRecursion}
use Rattle.std.proofs.lemmas.Bool.{or_left, or_right}
use Rattle.rep_lists.specs.Rising.{find_at}
use Rattle.rep_values.specs.declared.name.SiteName.{SiteName}
use Rattle.rep_values.specs.SiteNames.{is_same_site}
use Rattle.deferred_queue.proofs.Sites.{is_same_site-true}
use Rattle.txn_effects.specs.Calls.{Effect}
use Rattle.txn_effects.specs.Transactions.{Failure}
use Rattle.site_state.specs.declared.entry.Entry.{Entry}
use Rattle.site_state.specs.declared.answers.Why.{Why}
use Rattle.site_state.specs.declared.answers.Why.TheVariants as why
use Rattle.site_state.specs.declared.arrival.Arrival.{Arrival}
use Rattle.site_state.specs.State.{SenderState, SiteState, sender_of, arrived_in, arrived_at, arrivals, arrival_beside}
use Rattle.site_state.specs.Journal.{finished, is_position}
use Rattle.site_state.specs.Ready.{is_due, stale_found, stale_of, is_ready, first_ready_in}
use Rattle.site_state.specs.Steps.{begun}
use Rattle.rep_lists.specs.Counting.{count_where}
use Rattle.site_state.specs.Passes.{effect_here, finished_by, applied_unless, site_apply, apply_each, site_pass}
use Rattle.site_state.proofs.Stepping.{Steps, apply_steps, found_at}
use Rattle.site_state.proofs.Waited.{is_position-own}
use Rattle.event_laws.proofs.WaitingCounts.{is_waiting, waiting_count, FinishesMore, steps_finish_more, waiting_falls, is_new, waiting_less, found_any}
use Rattle.site_state.specs.Rounds.{is_ready_here, has_ready, passed_where_ready, round, rounds, sender_names, arrived_count, site_rounds, NothingReady}
use Rattle.std.proofs.lemmas.Bool.Decides.{nat_tests}

-- ---- a pass

-- the senders are as before, and what was finished is
pub record Goes (x y : SiteState) : Type 0 where
  pub senders : y.senders ≡ x.senders
  pub more : FinishesMore x.journal y.journal

goes_refl : (x : SiteState) → Goes x x
goes_refl x = record { senders = refl; more = λ o p is. is }

goes_then : (x y z : SiteState) → Goes x y → Goes y z → Goes x z
goes_then x y z a b = record { senders = b.senders ∙ a.senders; more = λ o p is. b.more o p (a.more o p is) }

steps_go : (x y : SiteState) → Steps x y → Goes x y
steps_go x y s = record { senders = s.senders; more = steps_finish_more x y s }

each_goes : (origin : SiteName) (arrived : List Arrival) (x : SiteState) → Goes x (apply_each origin arrived x)
each_goes origin [] x = goes_refl x
each_goes origin (a ∷ arrived) x = goes_then x (site_apply origin a.position x) (apply_each origin arrived (site_apply origin a.position x)) (steps_go x (site_apply origin a.position x) (apply_steps origin a.position x)) (each_goes origin arrived (site_apply origin a.position x))

pub pass_goes : (origin : SiteName) (x : SiteState) → Goes x (site_pass origin x)
pass_goes origin x = let g = each_goes origin (arrivals origin x) (begun x) in record { senders = g.senders; more = g.more }

-- what isn't ready doesn't change a site
stale_same : (origin : SiteName) (position : ℕ) (x : SiteState) → is_ready origin position x ≡ false → site_apply origin position x ≡ x
stale_same origin position x is = go (stale_of origin position x) is
  where
    go : (o : Option Why) → is_none o ≡ false → applied_unless o origin (arrived_at origin position x.senders) x ≡ x
    go None is = absurd (cc is)
    go (Some why) is = refl

-- what is ready wasn't finished, and then is
ready_waits : (origin : SiteName) (position : ℕ) (x : SiteState) → is_ready origin position x ≡ true → finished origin x.journal position ≡ false
ready_waits origin position x is = go (finished origin x.journal position) refl is
  where
    go : (b : Bool) → finished origin x.journal position ≡ b → is_none (cond b (Some why.Finished) (stale_found origin x (arrived_at origin position x.senders))) ≡ true → b ≡ false
    go true at is = absurd (cc is)
    go false at is = refl

by_finishes : (origin : SiteName) (a : Arrival) (x : SiteState) (r : Result Effect Failure) → finished origin (finished_by origin a r x).journal a.position ≡ true
by_finishes origin a x (Ok effect) = or_left (is_position origin a.position origin a.position) _ (is_position-own origin a.position a.position refl)
by_finishes origin a x (Err failure) = or_left (is_position origin a.position origin a.position) _ (is_position-own origin a.position a.position refl)

ready_finishes : (origin : SiteName) (position : ℕ) (x : SiteState) → is_ready origin position x ≡ true → finished origin (site_apply origin position x).journal position ≡ true
ready_finishes origin position x is = go (finished origin x.journal position) refl (arrived_at origin position x.senders) refl is
  where
    found : (a : Arrival) → a.position ≡ position → finished origin (finished_by origin a (effect_here origin a x) x).journal position ≡ true
    found a at = subst (λ (p : ℕ). finished origin (finished_by origin a (effect_here origin a x) x).journal p ≡ true) at (by_finishes origin a x (effect_here origin a x))

    due : (a : Arrival) → a.position ≡ position → (d : Bool) → is_none (cond d None (Some why.NotReady)) ≡ true → finished origin (applied_unless (cond d None (Some why.NotReady)) origin (Some a) x).journal position ≡ true
    due a at true is = found a at
    due a at false is = absurd (cc is)

    go : (b : Bool) → finished origin x.journal position ≡ b → (o : Option Arrival) → arrived_at origin position x.senders ≡ o → is_none (cond b (Some why.Finished) (stale_found origin x o)) ≡ true
        → finished origin (applied_unless (cond b (Some why.Finished) (stale_found origin x o)) origin o x).journal position ≡ true
    go true was o at is = absurd (cc is)
    go false was None at is = absurd (cc is)
    go false was (Some a) at is = due a (found_at position (arrived_in (sender_of origin x.senders)) a at) (is_due origin x a) is

-- where some of these are ready, some position of these is newly finished
each_finishes : (origin : SiteName) (arrived : List Arrival) (x : SiteState) → list_any (is_ready_here origin x) arrived ≡ true → list_any (is_new origin x.journal (apply_each origin arrived x).journal) arrived ≡ true
each_finishes origin [] x some = absurd (cc some)
each_finishes origin (a ∷ arrived) x some = go (each_finishes origin arrived x) (is_ready origin a.position x) refl some
  where
    y : SiteState
    y = apply_each origin (a ∷ arrived) x

    rest : List Arrival → Bool
    rest xs = list_any (is_new origin x.journal y.journal) xs

    ready : is_ready origin a.position x ≡ true → is_new origin x.journal y.journal a ≡ true
    ready is = rw (ready_waits origin a.position x is, (each_goes origin arrived (site_apply origin a.position x)).more origin a.position (ready_finishes origin a.position x is)) refl

    go : (list_any (is_ready_here origin x) arrived ≡ true → list_any (is_new origin x.journal (apply_each origin arrived x).journal) arrived ≡ true)
        → (b : Bool) → is_ready origin a.position x ≡ b → (b || list_any (is_ready_here origin x) arrived) ≡ true → (is_new origin x.journal y.journal a || rest arrived) ≡ true
    go later true is some = or_left (is_new origin x.journal y.journal a) (rest arrived) (ready is)
    go later false is some = or_right (is_new origin x.journal y.journal a) (rest arrived)
        (subst (λ (z : SiteState). list_any (is_new origin x.journal (apply_each origin arrived z).journal) arrived ≡ true) (sym (stale_same origin a.position x is)) (later some))

-- so a pass for which something is ready lowers the count
pass_lowers : (origin : SiteName) (x : SiteState) → has_ready origin x ≡ true → waiting_count (site_pass origin x).journal x.senders < waiting_count x.journal x.senders
pass_lowers origin x is = waiting_less origin x.journal (site_pass origin x).journal x.senders (pass_goes origin x).more (each_finishes origin (arrivals origin x) (begun x) is)

-- ---- rounds

pub where_goes : (o : SiteName) (x : SiteState) → Goes x (passed_where_ready o x)
where_goes o x = go (has_ready o x)
  where
    go : (b : Bool) → Goes x (cond b (site_pass o x) x)
    go true = pass_goes o x
    go false = goes_refl x

pub round_goes : (os : List SiteName) (x : SiteState) → Goes x (round os x)
round_goes [] x = goes_refl x
round_goes (o ∷ os) x = goes_then x (passed_where_ready o x) (round os (passed_where_ready o x)) (where_goes o x) (round_goes os (passed_where_ready o x))

rounds_go : (n : ℕ) (os : List SiteName) (x : SiteState) → Goes x (rounds n os x)
rounds_go zero os x = goes_refl x
rounds_go (suc n) os x = goes_then x (round os x) (rounds n os (round os x)) (round_goes os x) (rounds_go n os (round os x))

abbrev any_ready : List SiteName → SiteState → Bool
any_ready os x = list_any (λ o. has_ready o x) os

round_lowers : (os : List SiteName) (x : SiteState) → any_ready os x ≡ true → waiting_count (round os x).journal x.senders < waiting_count x.journal x.senders
round_lowers [] x some = absurd (cc some)
round_lowers (o ∷ os) x some = go (has_ready o x) refl some (round_lowers os x)
  where
    go : (b : Bool) → has_ready o x ≡ b → (b || any_ready os x) ≡ true → (any_ready os x ≡ true → waiting_count (round os x).journal x.senders < waiting_count x.journal x.senders)
        → waiting_count (round os (cond b (site_pass o x) x)).journal x.senders < waiting_count x.journal x.senders
    go true is some later = omega (arith, pass_lowers o x is, waiting_falls (site_pass o x).journal (round os (site_pass o x)).journal x.senders (round_goes os (site_pass o x)).more)
    go false is some later = later some

-- a round in which nothing is ready changes nothing
pub round_same : (os : List SiteName) (x : SiteState) → list_any (λ o. has_ready o x) os ≡ false → round os x ≡ x
round_same [] x none = refl
round_same (o ∷ os) x none = go (has_ready o x) none (round_same os x)
  where
    go : (b : Bool) → (b || any_ready os x) ≡ false → (any_ready os x ≡ false → round os x ≡ x) → round os (cond b (site_pass o x) x) ≡ x
    go true none later = absurd (cc none)
    go false none later = later none

pub rounds_same : (n : ℕ) (os : List SiteName) (x : SiteState) → list_any (λ o. has_ready o x) os ≡ false → rounds n os x ≡ x
rounds_same zero os x none = refl
rounds_same (suc n) os x none = ap (rounds n os) (round_same os x none) ∙ rounds_same n os x none

-- as many rounds as positions wait leave nothing ready
rounds_end : (n : ℕ) (os : List SiteName) (x : SiteState) → waiting_count x.journal x.senders ≤ n → any_ready os (rounds n os x) ≡ false
rounds_end zero os x le = go (any_ready os x) refl
  where
    go : (b : Bool) → any_ready os x ≡ b → b ≡ false
    go true is = absurd (omega (arith, le, round_lowers os x is))
    go false is = refl
rounds_end (suc n) os x le = go (any_ready os x) refl (rounds_end n os (round os x))
  where
    less : any_ready os x ≡ true → waiting_count (round os x).journal (round os x).senders ≤ n
    less is = rw (round_goes os x).senders (omega (arith, le, round_lowers os x is))

    go : (b : Bool) → any_ready os x ≡ b → (waiting_count (round os x).journal (round os x).senders ≤ n → any_ready os (rounds n os (round os x)) ≡ false) → any_ready os (rounds n os (round os x)) ≡ false
    go true is later = later (less is)
    go false is later = subst (λ (z : SiteState). any_ready os (rounds n os z) ≡ false) (sym (round_same os x is)) (ap (any_ready os) (rounds_same n os x is) ∙ is)

count_at_most : {A : Type 0} (f : A → Bool) (xs : List A) → count_where f xs ≤ length xs
count_at_most f [] = omega arith
count_at_most f (x ∷ xs) = go (f x) (count_at_most f xs)
  where
    go : (b : Bool) → count_where f xs ≤ length xs → cond b (count_where f xs + 1) (count_where f xs) ≤ suc (length xs)
    go true le = omega (arith, le)
    go false le = omega (arith, le)

waiting_at_most : (journal : List Entry) (ss : List SenderState) → waiting_count journal ss ≤ arrived_count ss
waiting_at_most journal [] = omega arith
waiting_at_most journal (s ∷ ss) = omega (arith, count_at_most (is_waiting s.origin journal) s.arrived, waiting_at_most journal ss)

-- ---- nothing is ready

origin_any : (f : SiteName → Bool) (origin : SiteName) (position : ℕ) (ss : List SenderState) (a : Arrival) → arrived_at origin position ss ≡ Some a → f origin ≡ true → list_any f (sender_names ss) ≡ true
origin_any f origin position [] a found is = absurd (cc found)
origin_any f origin position (s ∷ ss) a found is = go (is_same_site s.origin origin) refl found (origin_any f origin position ss a)
  where
    go : (b : Bool) → is_same_site s.origin origin ≡ b → find_at (arrival_beside position) (arrived_in (cond b (Some s) (sender_of origin ss))) ≡ Some a
        → (arrived_at origin position ss ≡ Some a → f origin ≡ true → list_any f (sender_names ss) ≡ true) → (f s.origin || list_any f (sender_names ss)) ≡ true
    go true same found later = or_left (f s.origin) (list_any f (sender_names ss)) (rw (is_same_site-true s.origin origin same) is)
    go false same found later = or_right (f s.origin) (list_any f (sender_names ss)) (later found is)

pub nothing_ready : (x : SiteState) → list_any (λ o. has_ready o x) (sender_names x.senders) ≡ false → NothingReady x
nothing_ready x none origin position = go (is_ready origin position x) refl
  where
    arrived : (a : Arrival) → arrived_at origin position x.senders ≡ Some a → is_ready origin position x ≡ true → ⊥
    arrived a at ready =
        let is : is_ready_here origin x a ≡ true = subst (λ (p : ℕ). is_ready origin p x ≡ true) (sym (found_at position (arrived_in (sender_of origin x.senders)) a at)) ready in
        let some : has_ready origin x ≡ true = found_any (is_ready_here origin x) position (arrivals origin x) a at is in
        let any : any_ready (sender_names x.senders) x ≡ true = origin_any (λ o. has_ready o x) origin position x.senders a at some in
        absurd (cc (any, none))

    missing : arrived_at origin position x.senders ≡ None → (b : Bool) → finished origin x.journal position ≡ b → is_ready origin position x ≡ true → ⊥
    missing at b is ready = by b (rw (is, at) at ready)
      where
        by : (b : Bool) → is_none (cond b (Some why.Finished) (stale_found origin x None)) ≡ true → ⊥
        by true ready = absurd (cc ready)
        by false ready = absurd (cc ready)

    at_all : (o : Option Arrival) → arrived_at origin position x.senders ≡ o → is_ready origin position x ≡ true → ⊥
    at_all (Some a) at ready = arrived a at ready
    at_all None at ready = missing at (finished origin x.journal position) refl ready

    go : (b : Bool) → is_ready origin position x ≡ b → b ≡ false
    go true ready = absurd (at_all (arrived_at origin position x.senders) refl ready)
    go false ready = refl

-- once the rounds are over nothing is ready
pub rounds_leave_nothing : (x : SiteState) → NothingReady (site_rounds x)
rounds_leave_nothing x =
    let none : any_ready (sender_names x.senders) (site_rounds x) ≡ false = rounds_end (arrived_count x.senders) (sender_names x.senders) x (waiting_at_most x.journal x.senders) in
    nothing_ready (site_rounds x) (subst (λ (ss : List SenderState). any_ready (sender_names ss) (site_rounds x) ≡ false) (sym (rounds_go (arrived_count x.senders) (sender_names x.senders) x).senders) none)

pub round_more : (origin : SiteName) (origins : List SiteName) (x : SiteState) → round (origins ++ origin ∷ []) x ≡ passed_where_ready origin (round origins x)
round_more origin [] x = refl
round_more origin (one ∷ more) x = round_more origin more (passed_where_ready one x)

pub rounds_more : (n : ℕ) (origins : List SiteName) (x : SiteState) → rounds (suc n) origins x ≡ round origins (rounds n origins x)
rounds_more zero origins x = refl
rounds_more (suc n) origins x = rounds_more n origins (round origins x)

-- a site's least ready position tells it, where positions are from 1
pub ready_first : (origin : SiteName) (x : SiteState) (arrived : List Arrival) → AllByRecursion (λ (a : Arrival). 0 < a.position) arrived → list_any (is_ready_here origin x) arrived ≡ is_some (first_ready_in origin 0 x arrived)
ready_first origin x [] all = refl
ready_first origin x (a ∷ arrived) all = go (nat_lt 0 a.position) (grind (arith, nat_tests, all.0)) (is_ready origin a.position x) (ready_first origin x arrived all.1)
  where
    go : (b : Bool) → b ≡ true → (c : Bool) → list_any (is_ready_here origin x) arrived ≡ is_some (first_ready_in origin 0 x arrived)
        → (c || list_any (is_ready_here origin x) arrived) ≡ is_some (cond (b && c) (Some a.position) (first_ready_in origin 0 x arrived))
    go true is true later = refl
    go true is false later = later
    go false is c later = absurd (cc is)
