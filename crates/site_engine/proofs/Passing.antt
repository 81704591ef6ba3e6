-- A pass, position by position.
use Rattle.std.proofs.Common.{◌≡◌, ℕ, zero, suc, ◌+◌, ◌<◌, ◌≤◌, List, [], ◌∷◌, ◌++◌, take, drop, get_or, Bool, true, false, max, Some, None, Ok, Err, refl, sym, ap, ◌∙◌, arith, subst}
use Rattle.std.specs.Prelude.{◌&&◌, Option, Result, nat_lt, slice_get}
use Rattle.std.specs.List.{AllByRecursion, AllWithin}
use Rattle.std.proofs.lemmas.Bool.{and_right}
use Rattle.std.proofs.lemmas.Bool.Decides.{nat_tests}
use Rattle.std.proofs.lemmas.List.{take-append-drop}
use Rattle.std.proofs.lemmas.Option.{slice_get_within, get_or_from_slice_get}
use Rattle.rep_lists.proofs.Places.{drop_from_found}
use Rattle.rep_values.specs.declared.name.SiteName.{SiteName}
use Rattle.txn_effects.specs.Calls.{Effect}
use Rattle.txn_effects.specs.Transactions.{Failure}
use Rattle.site_state.specs.declared.arrival.Arrival.{Arrival}
use Rattle.site_state.specs.declared.entry.Entry.{Entry}
use Rattle.site_state.specs.declared.answers.Why.{Why}
use Rattle.site_state.specs.declared.answers.PassCount.{PassCount}
use Rattle.site_state.specs.declared.answers.Applied.{Applied}
use Rattle.site_state.specs.declared.answers.Applied.TheVariants as applied
use Rattle.site_state.specs.State.{SiteState, arrived_at, arrivals}
use Rattle.site_state.specs.Journal.{finished, low_water}
use Rattle.site_state.specs.Ready.{stale_of, is_ready, first_ready_in, first_ready}
use Rattle.rep_lists.specs.Counting.{count_where}
use Rattle.site_state.specs.Passes.{effect_here, finished_by, applied_unless, site_apply, apply_answer_by, apply_answer_unless, apply_answer, apply_each, site_pass, is_done, is_error, added_count, pass_answer}
use Rattle.site_state.proofs.LowWater.{low_water-below}
use Rattle.site_state.proofs.Stepping.{apply_steps}
use Rattle.sender_inbox.specs.Incoming.{IsFirstAbove}
use Rattle.sender_inbox.specs.Steps.{done_by, errors_by}
use Rattle.rep_schema.proofs.FoundRows.{take_found}

-- ---- one position

-- what is finished isn't applied again
pub apply-finished : (origin : SiteName) (p : ℕ) (x : SiteState) → finished origin x.journal p ≡ true → site_apply origin p x ≡ x
apply-finished origin p x done = rw done refl

-- and isn't ready
pub finished-not_ready : (origin : SiteName) (p : ℕ) (x : SiteState) → finished origin x.journal p ≡ true → is_ready origin p x ≡ false
finished-not_ready origin p x done = rw done refl

-- what is answered of a position is what its entry is
pub count_done : (origin : SiteName) (p : ℕ) (x : SiteState) → count_where is_done (site_apply origin p x).journal ≡ count_where is_done x.journal + done_by (apply_answer origin p x)
count_done origin p x = go (stale_of origin p x) (arrived_at origin p x.senders)
  where
    by : (a : Arrival) (r : Result Effect Failure) → count_where is_done (finished_by origin a r x).journal ≡ count_where is_done x.journal + done_by (apply_answer_by r)
    by a (Ok effect) = refl
    by a (Err failure) = omega arith

    go : (stale : Option Why) (found : Option Arrival) → count_where is_done (applied_unless stale origin found x).journal ≡ count_where is_done x.journal + done_by (apply_answer_unless stale origin found x)
    go (Some w) found = omega arith
    go None None = omega arith
    go None (Some a) = by a (effect_here origin a x)

pub count_errors : (origin : SiteName) (p : ℕ) (x : SiteState) → count_where is_error (site_apply origin p x).journal ≡ count_where is_error x.journal + errors_by (apply_answer origin p x)
count_errors origin p x = go (stale_of origin p x) (arrived_at origin p x.senders)
  where
    by : (a : Arrival) (r : Result Effect Failure) → count_where is_error (finished_by origin a r x).journal ≡ count_where is_error x.journal + errors_by (apply_answer_by r)
    by a (Ok effect) = omega arith
    by a (Err failure) = refl

    go : (stale : Option Why) (found : Option Arrival) → count_where is_error (applied_unless stale origin found x).journal ≡ count_where is_error x.journal + errors_by (apply_answer_unless stale origin found x)
    go (Some w) found = omega arith
    go None None = omega arith
    go None (Some a) = by a (effect_here origin a x)

-- ---- many

apply_each-append : (origin : SiteName) (xs ys : List Arrival) (x : SiteState) → apply_each origin (xs ++ ys) x ≡ apply_each origin ys (apply_each origin xs x)
apply_each-append origin [] ys x = refl
apply_each-append origin (a ∷ xs) ys x = apply_each-append origin xs ys (site_apply origin a.position x)

-- what arrived stays as it is
pub apply_each-arrivals : (origin o : SiteName) (xs : List Arrival) (x : SiteState) → arrivals o (apply_each origin xs x) ≡ arrivals o x
apply_each-arrivals origin o [] x = refl
apply_each-arrivals origin o (a ∷ xs) x = apply_each-arrivals origin o xs (site_apply origin a.position x) ∙ rw (apply_steps origin a.position x).senders refl

-- one more
pub each_more : (origin : SiteName) (arrived : List Arrival) (place : ℕ) (a : Arrival) (start : SiteState) → slice_get arrived place ≡ Some a
    → apply_each origin (take (place + 1) arrived) start ≡ site_apply origin a.position (apply_each origin (take place arrived) start)
each_more origin arrived place a start found = rw (take_found arrived place a found) (apply_each-append origin (take place arrived) (a ∷ []) start)

-- those up to the low-water mark change nothing
finished_each : (origin : SiteName) (xs : List Arrival) (x : SiteState) → AllByRecursion (λ (a : Arrival). finished origin x.journal a.position ≡ true) xs → apply_each origin xs x ≡ x
finished_each origin [] x all = refl
finished_each origin (a ∷ xs) x all = ap (apply_each origin xs) (apply-finished origin a.position x all.0) ∙ finished_each origin xs x all.1

-- positions from 1 before a place, none of them above a number
before_each : (P : Arrival → Type 0) (number : ℕ) (xs : List Arrival) (place : ℕ) → AllByRecursion (λ (a : Arrival). 1 ≤ a.position) xs → AllWithin (λ (a : Arrival). a.position ≤ number) xs 0 place
    → ((a : Arrival) → 1 ≤ a.position → a.position ≤ number → P a) → AllByRecursion P (take place xs)
before_each P number [] zero ones low holds = tt
before_each P number [] (suc place) ones low holds = tt
before_each P number (a ∷ xs) zero ones low holds = tt
before_each P number (a ∷ xs) (suc place) ones low holds =
    (holds a ones.0 (low 0 a (omega arith) (omega arith)), before_each P number xs place ones.1 (λ i d from below. low (suc i) d (omega arith) (omega (arith, below))) holds)

pub start_each : (origin : SiteName) (x : SiteState) (place : ℕ) → AllByRecursion (λ (a : Arrival). 1 ≤ a.position) (arrivals origin x) → IsFirstAbove (low_water origin x.journal) (arrivals origin x) place
    → apply_each origin (take place (arrivals origin x)) x ≡ x
start_each origin x place ones first = finished_each origin (take place (arrivals origin x)) x
    (before_each (λ (a : Arrival). finished origin x.journal a.position ≡ true) (low_water origin x.journal) (arrivals origin x) place ones first.before (λ a one low. low_water-below origin x.journal a.position one low))

-- ---- the counts of a pass

pub counts_are : (origin : SiteName) (x : SiteState) (count : PassCount) → count.done ≡ added_count is_done x (site_pass origin x) → count.errors ≡ added_count is_error x (site_pass origin x) → count ≡ pass_answer origin x
counts_are origin x count done errors = rw (← done, ← errors) refl

-- after one position more
module _ (test : Entry → Bool) (x now : SiteState) (origin : SiteName) (p by : ℕ) (counted : count_where test (site_apply origin p now).journal ≡ count_where test now.journal + by) (kept : count_where test x.journal ≤ count_where test now.journal) where
  pub count_more : (n m : ℕ) → n ≡ added_count test x now → m ≡ n + by → m ≡ added_count test x (site_apply origin p now)
  count_more n m so_far more = omega (arith, counted, kept, so_far, more)

  pub kept_more : count_where test x.journal ≤ count_where test (site_apply origin p now).journal
  kept_more = omega (arith, counted, kept)

-- ---- the least ready position

module _ (origin : SiteName) (above : ℕ) (x : SiteState) where
  abbrev Passes : Arrival → Type 0
  Passes a = (nat_lt above a.position && is_ready origin a.position x) ≡ false

  skip_each : (xs rest : List Arrival) → AllByRecursion Passes xs → first_ready_in origin above x (xs ++ rest) ≡ first_ready_in origin above x rest
  skip_each [] rest all = refl
  skip_each (a ∷ xs) rest all = rw all.0 (skip_each xs rest all.1)

  low_passes : (a : Arrival) → 1 ≤ a.position → a.position ≤ max above (low_water origin x.journal) → Passes a
  low_passes a one low = go (nat_lt above a.position) refl
    where
      go : (b : Bool) → nat_lt above a.position ≡ b → (b && is_ready origin a.position x) ≡ false
      go false is = refl
      go true is = finished-not_ready origin a.position x (low_water-below origin x.journal a.position one (grind (arith, nat_tests)))

  -- those up to the start don't count
  pub ready_from : (place : ℕ) → AllByRecursion (λ (a : Arrival). 1 ≤ a.position) (arrivals origin x) → IsFirstAbove (max above (low_water origin x.journal)) (arrivals origin x) place
      → first_ready origin above x ≡ first_ready_in origin above x (drop place (arrivals origin x))
  ready_from place ones first =
      ap (first_ready_in origin above x) (sym (take-append-drop place (arrivals origin x)))
      ∙ skip_each (take place (arrivals origin x)) (drop place (arrivals origin x)) (before_each Passes (max above (low_water origin x.journal)) (arrivals origin x) place ones first.before low_passes)

  module _ (arrived : List Arrival) (place : ℕ) (a : Arrival) (found : slice_get arrived place ≡ Some a) where
    -- one that isn't ready
    pub not_ready_more : is_ready origin a.position x ≡ false → first_ready_in origin above x (drop place arrived) ≡ first_ready_in origin above x (drop (place + 1) arrived)
    not_ready_more stays = rw (drop_from_found arrived place a found, and_right (nat_lt above a.position) (is_ready origin a.position x) stays) refl

    -- the first that is
    pub first_is : None ≡ stale_of origin a.position x → above < a.position → Some a.position ≡ first_ready_in origin above x (drop place arrived)
    first_is stale more =
        let ready : is_ready origin a.position x ≡ true = rw (← stale) refl in
        let higher : nat_lt above a.position ≡ true = grind (arith, nat_tests, more) in
        rw (drop_from_found arrived place a found, higher, ready) refl

-- where nothing arrived
pub first_of_none : (number : ℕ) → IsFirstAbove number [] 0
first_of_none number = record { within = omega arith; before = λ k d from below. absurd (omega (arith, below)); behind = λ k d from below. absurd (omega (arith, below)) }

-- what stands from there on is above the number
pub above_at : (number : ℕ) (xs : List Arrival) (start place : ℕ) (a : Arrival) → IsFirstAbove number xs start → start ≤ place → slice_get xs place ≡ Some a → number < a.position
above_at number xs start place a first from found =
    let within = slice_get_within xs place a found in
    let same : get_or xs place a ≡ a = get_or_from_slice_get xs place a a found in
    subst (λ (b : Arrival). number < b.position) same (first.behind place a from within)

-- ---- the loop of a pass

module _ (origin : SiteName) (start : SiteState) where
  pub pass_starts : (place : ℕ) → IsFirstAbove (low_water origin start.journal) (arrivals origin start) place → AllByRecursion (λ (a : Arrival). 1 ≤ a.position) (arrivals origin start)
      → start ≡ apply_each origin (take place (arrivals origin start)) start
  pass_starts place first ones = sym (start_each origin start place ones first)

  pub nothing_added : (test : Entry → Bool) → 0 ≡ added_count test start start
  nothing_added test = omega arith

  -- the same arrivals
  pub arrivals_stay : (now : SiteState) (place : ℕ) → now ≡ apply_each origin (take place (arrivals origin start)) start → arrivals origin now ≡ arrivals origin start
  arrivals_stay now place is = rw is (apply_each-arrivals origin origin (take place (arrivals origin start)) start)

  -- one position more
  pub pass_goes_on : (now new : SiteState) (place : ℕ) (a : Arrival) (p : ℕ) → now ≡ apply_each origin (take place (arrivals origin start)) start → slice_get (arrivals origin start) place ≡ Some a → p ≡ a.position → new ≡ site_apply origin p now
      → new ≡ apply_each origin (take (place + 1) (arrivals origin start)) start
  pass_goes_on now new place a p so_far found at more = more ∙ rw (at, so_far) (sym (each_more origin (arrivals origin start) place a start found))

-- a position is done, or in error, or neither
pub one_at_most : (a : Applied) → done_by a + errors_by a ≤ 1
one_at_most applied.Done = omega arith
one_at_most (applied.Error error) = omega arith
one_at_most (applied.Stale w) = omega arith
