-- A pass, position by position.
use Rattle.std.proofs.Common.{◌≡◌, ℕ, zero, suc, ◌+◌, ◌≤◌, List, [], ◌∷◌, ◌++◌, take, drop, Bool, true, false, Some, None, Ok, Err, refl, sym, ap, ◌∙◌, arith}
use Rattle.std.specs.Prelude.{Option, Result, slice_get}
use Rattle.std.specs.List.{AllByRecursion, AllWithin, list_any}
use Rattle.rep_lists.proofs.Places.{drop_from_found}
use Rattle.rep_values.specs.declared.name.SiteName.{SiteName}
use Rattle.rep_schema.specs.Tables.{Rows}
use Rattle.txn_effects.specs.Transactions.{Failure}
use Rattle.site_state.specs.declared.arrival.Arrival.{Arrival}
use Rattle.site_state.specs.declared.entry.Entry.{Entry}
use Rattle.site_state.specs.declared.answers.Why.{Why}
use Rattle.site_state.specs.declared.answers.PassCount.{PassCount}
use Rattle.site_state.specs.declared.answers.Applied.{Applied}
use Rattle.site_state.specs.declared.answers.Applied.TheVariants as applied
use Rattle.site_state.specs.State.{arrived_at, arrivals}
use Rattle.site_state.specs.Journal.{finished, low_water}
use Rattle.site_state.specs.Ready.{stale_of, is_ready}
use Rattle.rep_lists.specs.Counting.{count_where}
use Rattle.site_state.specs.Passes.{is_done, is_error, added_count}
use Rattle.site_state.proofs.LowWater.{low_water-below}
use Rattle.sender_inbox.specs.Incoming.{IsFirstAbove}
use Rattle.sender_inbox.specs.Steps.{done_by, errors_by}
use Rattle.rep_schema.proofs.FoundRows.{take_found}
use Rattle.proc_state.specs.State.{ProcState, as_site}
use Rattle.proc_state.specs.Passes.{txn_here, finished_by, applied_unless, proc_apply, apply_answer_by, apply_answer_unless, proc_apply_answer, apply_each, proc_pass, proc_pass_answer}

-- ---- one position

-- what is finished isn't applied again
apply-finished : (origin : SiteName) (p : ℕ) (x : ProcState) → finished origin x.journal p ≡ true → proc_apply origin p x ≡ x
apply-finished origin p x done = rw done refl

-- the senders stay
apply-senders : (origin : SiteName) (p : ℕ) (x : ProcState) → (proc_apply origin p x).senders ≡ x.senders
apply-senders origin p x = go (stale_of origin p (as_site x)) (arrived_at origin p x.senders)
  where
    by : (a : Arrival) (r : Result (List Rows) Failure) → (finished_by origin a r x).senders ≡ x.senders
    by a (Ok tables) = refl
    by a (Err failure) = refl

    go : (stale : Option Why) (found : Option Arrival) → (applied_unless stale origin found x).senders ≡ x.senders
    go (Some w) found = refl
    go None None = refl
    go None (Some a) = by a (txn_here a.txn x)

-- what is answered of a position is what its entry is
pub count_done : (origin : SiteName) (p : ℕ) (x : ProcState) → count_where is_done (proc_apply origin p x).journal ≡ count_where is_done x.journal + done_by (proc_apply_answer origin p x)
count_done origin p x = go (stale_of origin p (as_site x)) (arrived_at origin p x.senders)
  where
    by : (a : Arrival) (r : Result (List Rows) Failure) → count_where is_done (finished_by origin a r x).journal ≡ count_where is_done x.journal + done_by (apply_answer_by r)
    by a (Ok tables) = refl
    by a (Err failure) = omega arith

    go : (stale : Option Why) (found : Option Arrival) → count_where is_done (applied_unless stale origin found x).journal ≡ count_where is_done x.journal + done_by (apply_answer_unless stale found x)
    go (Some w) found = omega arith
    go None None = omega arith
    go None (Some a) = by a (txn_here a.txn x)

pub count_errors : (origin : SiteName) (p : ℕ) (x : ProcState) → count_where is_error (proc_apply origin p x).journal ≡ count_where is_error x.journal + errors_by (proc_apply_answer origin p x)
count_errors origin p x = go (stale_of origin p (as_site x)) (arrived_at origin p x.senders)
  where
    by : (a : Arrival) (r : Result (List Rows) Failure) → count_where is_error (finished_by origin a r x).journal ≡ count_where is_error x.journal + errors_by (apply_answer_by r)
    by a (Ok tables) = omega arith
    by a (Err failure) = refl

    go : (stale : Option Why) (found : Option Arrival) → count_where is_error (applied_unless stale origin found x).journal ≡ count_where is_error x.journal + errors_by (apply_answer_unless stale found x)
    go (Some w) found = omega arith
    go None None = omega arith
    go None (Some a) = by a (txn_here a.txn x)

-- ---- many

apply_each-append : (origin : SiteName) (xs ys : List Arrival) (x : ProcState) → apply_each origin (xs ++ ys) x ≡ apply_each origin ys (apply_each origin xs x)
apply_each-append origin [] ys x = refl
apply_each-append origin (a ∷ xs) ys x = apply_each-append origin xs ys (proc_apply origin a.position x)

-- what arrived stays as it is
apply_each-arrivals : (origin o : SiteName) (xs : List Arrival) (x : ProcState) → arrivals o (as_site (apply_each origin xs x)) ≡ arrivals o (as_site x)
apply_each-arrivals origin o [] x = refl
apply_each-arrivals origin o (a ∷ xs) x = apply_each-arrivals origin o xs (proc_apply origin a.position x) ∙ rw (apply-senders origin a.position x) refl

-- one more
each_more : (origin : SiteName) (arrived : List Arrival) (place : ℕ) (a : Arrival) (start : ProcState) → slice_get arrived place ≡ Some a
    → apply_each origin (take (place + 1) arrived) start ≡ proc_apply origin a.position (apply_each origin (take place arrived) start)
each_more origin arrived place a start found = rw (take_found arrived place a found) (apply_each-append origin (take place arrived) (a ∷ []) start)

-- those up to the low-water mark change nothing
finished_each : (origin : SiteName) (xs : List Arrival) (x : ProcState) → AllByRecursion (λ (a : Arrival). finished origin x.journal a.position ≡ true) xs → apply_each origin xs x ≡ x
finished_each origin [] x all = refl
finished_each origin (a ∷ xs) x all = ap (apply_each origin xs) (apply-finished origin a.position x all.0) ∙ finished_each origin xs x all.1

-- positions from 1 before a place, none of them above a number
before_each : (P : Arrival → Type 0) (number : ℕ) (xs : List Arrival) (place : ℕ) → AllByRecursion (λ (a : Arrival). 1 ≤ a.position) xs → AllWithin (λ (a : Arrival). a.position ≤ number) xs 0 place
    → ((a : Arrival) → 1 ≤ a.position → a.position ≤ number → P a) → AllByRecursion P (take place xs)
before_each P number [] zero ones low holds = tt
before_each P number [] (suc place) ones low holds = tt
before_each P number (a ∷ xs) zero ones low holds = tt
before_each P number (a ∷ xs) (suc place) ones low holds =
    (holds a ones.0 (low 0 a (omega arith) (omega arith)), before_each P number xs place ones.1 (λ i d from below. low (suc i) d (omega arith) (omega (arith, below))) holds)

-- where nothing arrived
pub first_of_none : (number : ℕ) → IsFirstAbove number [] 0
first_of_none number = record { within = omega arith; before = λ k d from below. absurd (omega (arith, below)); behind = λ k d from below. absurd (omega (arith, below)) }

-- ---- the loop of a pass

module _ (origin : SiteName) (start : ProcState) where
  pub pass_starts : (place : ℕ) → IsFirstAbove (low_water origin start.journal) (arrivals origin (as_site start)) place → AllByRecursion (λ (a : Arrival). 1 ≤ a.position) (arrivals origin (as_site start))
      → start ≡ apply_each origin (take place (arrivals origin (as_site start))) start
  pass_starts place first ones = sym (finished_each origin (take place (arrivals origin (as_site start))) start
      (before_each (λ (a : Arrival). finished origin start.journal a.position ≡ true) (low_water origin start.journal) (arrivals origin (as_site start)) place ones first.before
      (λ a one low. low_water-below origin start.journal a.position one low)))

  pub nothing_added : (test : Entry → Bool) → 0 ≡ added_count test (as_site start) (as_site start)
  nothing_added test = omega arith

  -- the same arrivals
  pub arrivals_stay : (now : ProcState) (place : ℕ) → now ≡ apply_each origin (take place (arrivals origin (as_site start))) start → arrivals origin (as_site now) ≡ arrivals origin (as_site start)
  arrivals_stay now place is = rw is (apply_each-arrivals origin origin (take place (arrivals origin (as_site start))) start)

  -- one position more
  pub pass_goes_on : (now new : ProcState) (place : ℕ) (a : Arrival) (p : ℕ) → now ≡ apply_each origin (take place (arrivals origin (as_site start))) start → slice_get (arrivals origin (as_site start)) place ≡ Some a → p ≡ a.position → new ≡ proc_apply origin p now
      → new ≡ apply_each origin (take (place + 1) (arrivals origin (as_site start))) start
  pass_goes_on now new place a p so_far found at more = more ∙ rw (at, so_far) (sym (each_more origin (arrivals origin (as_site start)) place a start found))

-- after one position more
module _ (test : Entry → Bool) (x now : ProcState) (origin : SiteName) (p by : ℕ) (counted : count_where test (proc_apply origin p now).journal ≡ count_where test now.journal + by) (kept : count_where test x.journal ≤ count_where test now.journal) where
  pub count_more : (n m : ℕ) → n ≡ added_count test (as_site x) (as_site now) → m ≡ n + by → m ≡ added_count test (as_site x) (as_site (proc_apply origin p now))
  count_more n m so_far more = omega (arith, counted, kept, so_far, more)

  pub kept_more : count_where test x.journal ≤ count_where test (proc_apply origin p now).journal
  kept_more = omega (arith, counted, kept)

-- the counts at the end
pub counts_are : (origin : SiteName) (x : ProcState) (count : PassCount) → count.done ≡ added_count is_done (as_site x) (as_site (proc_pass origin x)) → count.errors ≡ added_count is_error (as_site x) (as_site (proc_pass origin x))
    → count ≡ proc_pass_answer origin x
counts_are origin x count done errors = rw (← done, ← errors) refl

-- a position is done, or in error, or neither
pub one_at_most : (a : Applied) → done_by a + errors_by a ≤ 1
one_at_most applied.Done = omega arith
one_at_most (applied.Error error) = omega arith
one_at_most (applied.Stale w) = omega arith

-- ---- whether a position is ready

-- what is finished isn't ready
finished_waits : (origin : SiteName) (x : ProcState) (p : ℕ) → finished origin x.journal p ≡ true → is_ready origin p (as_site x) ≡ false
finished_waits origin x p done = rw done refl

-- none of those in front is
none_in_front : (test : Arrival → Bool) (xs : List Arrival) (place : ℕ) → AllByRecursion (λ (a : Arrival). test a ≡ false) (take place xs) → list_any test xs ≡ list_any test (drop place xs)
none_in_front test [] zero all = refl
none_in_front test [] (suc place) all = refl
none_in_front test (a ∷ xs) zero all = refl
none_in_front test (a ∷ xs) (suc place) all = rw all.0 (none_in_front test xs place all.1)

-- none is up to the low-water mark
pub ready_starts : (origin : SiteName) (x : ProcState) (place : ℕ) → IsFirstAbove (low_water origin x.journal) (arrivals origin (as_site x)) place → AllByRecursion (λ (a : Arrival). 1 ≤ a.position) (arrivals origin (as_site x))
    → list_any (λ (a : Arrival). is_ready origin a.position (as_site x)) (arrivals origin (as_site x)) ≡ list_any (λ (a : Arrival). is_ready origin a.position (as_site x)) (drop place (arrivals origin (as_site x)))
ready_starts origin x place first ones = none_in_front (λ (a : Arrival). is_ready origin a.position (as_site x)) (arrivals origin (as_site x)) place
    (before_each (λ (a : Arrival). is_ready origin a.position (as_site x) ≡ false) (low_water origin x.journal) (arrivals origin (as_site x)) place ones first.before
    (λ a one low. finished_waits origin x a.position (low_water-below origin x.journal a.position one low)))

module _ (origin : SiteName) (x : ProcState) (arrived : List Arrival) (place : ℕ) (a : Arrival) (found : slice_get arrived place ≡ Some a) where
  abbrev any_from : ℕ → Bool
  any_from n = list_any (λ (a : Arrival). is_ready origin a.position (as_site x)) (drop n arrived)

  -- one that isn't
  pub none_more : (w : Why) → Some w ≡ stale_of origin a.position (as_site x) → any_from place ≡ any_from (place + 1)
  none_more w stale =
      let stays : is_ready origin a.position (as_site x) ≡ false = rw (← stale) refl in
      rw (drop_from_found arrived place a found, stays) refl

  -- one that is
  pub one_is : None ≡ stale_of origin a.position (as_site x) → any_from place ≡ true
  one_is stale =
      let ready : is_ready origin a.position (as_site x) ≡ true = rw (← stale) refl in
      rw (drop_from_found arrived place a found, ready) refl
