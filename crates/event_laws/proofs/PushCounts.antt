-- What passes add to a journal: the counts of a push are the sums of the counts of its passes.
use Rattle.std.proofs.Common.{◌≡◌, ℕ, zero, suc, ◌+◌, ◌≤◌, List, [], ◌∷◌, Bool, true, false, cond, Some, None, refl, arith}
use Rattle.std.specs.Prelude.{Option}
use Rattle.rep_values.specs.declared.name.SiteName.{SiteName}
use Rattle.site_state.specs.declared.entry.Entry.{Entry}
use Rattle.site_state.specs.declared.arrival.Arrival.{Arrival}
use Rattle.site_state.specs.State.{SiteState, arrivals}
use Rattle.site_state.specs.Steps.{begun}
use Rattle.rep_lists.specs.Counting.{count_where}
use Rattle.site_state.specs.Passes.{site_apply, apply_each, site_pass, added_count}
use Rattle.site_state.proofs.Stepping.{with_entry, Steps, apply_steps}
use Rattle.site_state.specs.Rounds.{has_ready, passed_where_ready, round, rounds, sender_names, arrived_count, site_rounds, site_until_quiet}

-- a later journal has as many entries of a kind at least
abbrev pub Grows : (Entry → Bool) → SiteState → SiteState → Type 0
Grows test x y = count_where test x.journal ≤ count_where test y.journal

grows_then : (test : Entry → Bool) (x y z : SiteState) → Grows test x y → Grows test y z → Grows test x z
grows_then test x y z first second = omega (arith, first, second)

-- what is added in two parts is what both add
pub added_count-then : (test : Entry → Bool) (x y z : SiteState) → Grows test x y → Grows test y z → added_count test x z ≡ added_count test x y + added_count test y z
added_count-then test x y z first second = omega (arith, first, second)

steps_grow : (test : Entry → Bool) (x y : SiteState) → Steps x y → Grows test x y
steps_grow test x y s = go s.journals.entry s.journals.journal
  where
    one : (e : Entry) (b : Bool) → test e ≡ b → count_where test x.journal ≤ count_where test (e ∷ x.journal)
    one e true is = rw is (omega arith)
    one e false is = rw is (omega arith)

    go : (entry : Option Entry) → y.journal ≡ with_entry entry x.journal → Grows test x y
    go None is = rw is (omega arith)
    go (Some e) is = rw is (one e (test e) refl)

each_grows : (test : Entry → Bool) (origin : SiteName) (arrived : List Arrival) (x : SiteState) → Grows test x (apply_each origin arrived x)
each_grows test origin [] x = omega arith
each_grows test origin (a ∷ arrived) x = grows_then test x (site_apply origin a.position x) (apply_each origin arrived (site_apply origin a.position x))
    (steps_grow test x (site_apply origin a.position x) (apply_steps origin a.position x)) (each_grows test origin arrived (site_apply origin a.position x))

pub pass_grows : (test : Entry → Bool) (origin : SiteName) (x : SiteState) → Grows test x (site_pass origin x)
pass_grows test origin x = each_grows test origin (arrivals origin x) (begun x)

pub where_grows : (test : Entry → Bool) (origin : SiteName) (x : SiteState) → Grows test x (passed_where_ready origin x)
where_grows test origin x = go (has_ready origin x)
  where
    go : (b : Bool) → Grows test x (cond b (site_pass origin x) x)
    go true = pass_grows test origin x
    go false = omega arith

pub round_grows : (test : Entry → Bool) (origins : List SiteName) (x : SiteState) → Grows test x (round origins x)
round_grows test [] x = omega arith
round_grows test (origin ∷ origins) x = grows_then test x (passed_where_ready origin x) (round origins (passed_where_ready origin x)) (where_grows test origin x) (round_grows test origins (passed_where_ready origin x))

pub rounds_grow : (test : Entry → Bool) (n : ℕ) (origins : List SiteName) (x : SiteState) → Grows test x (rounds n origins x)
rounds_grow test zero origins x = omega arith
rounds_grow test (suc n) origins x = grows_then test x (round origins x) (rounds n origins (round origins x)) (round_grows test origins x) (rounds_grow test n origins (round origins x))

pub site_rounds_grow : (test : Entry → Bool) (x : SiteState) → Grows test x (site_rounds x)
site_rounds_grow test x = rounds_grow test (arrived_count x.senders) (sender_names x.senders) x

-- what a push adds at its receiver is what its pass adds, and then its rounds
pub added_count-until_quiet : (test : Entry → Bool) (origin : SiteName) (x : SiteState)
    → added_count test x (site_until_quiet origin x) ≡ added_count test x (site_pass origin x) + added_count test (site_pass origin x) (site_until_quiet origin x)
added_count-until_quiet test origin x = added_count-then test x (site_pass origin x) (site_until_quiet origin x) (pass_grows test origin x) (site_rounds_grow test (site_pass origin x))
