-- Positions are finished once, and what came from a master stays here.
use Rattle.std.proofs.Common.{◌≡◌, ℕ, ◌+◌, ◌≤◌, ◌==◌, List, [], ◌∷◌, Bool, true, false, cond, not, refl, ap, ◌∙◌, arith}
use Rattle.std.specs.Prelude.{◌||◌, ◌&&◌, Option, Result, Ok, Err}
use Rattle.std.specs.List.{list_any}
use Rattle.std.proofs.lemmas.Bool.Decides.{nat_tests}
use Rattle.rep_values.specs.declared.name.SiteName.{SiteName}
use Rattle.rep_schema.specs.declared.change.Change.{Change}
use Rattle.rep_calls.specs.declared.past.PastEntry.{PastEntry}
use Rattle.txn_effects.specs.Calls.{Effect}
use Rattle.txn_effects.specs.Transactions.{Failure}
use Rattle.rep_values.specs.SiteNames.{is_same_site}
use Rattle.deferred_queue.proofs.Sites.{is_same_site-true}
use Rattle.site_state.specs.declared.entry.Entry.{Entry}
use Rattle.site_state.specs.declared.arrival.Arrival.{Arrival}
use Rattle.site_state.specs.State.{SiteState}
use Rattle.rep_schema.specs.Sites.{is_master_site}
use Rattle.site_state.specs.Journal.{finishes, finished}
use Rattle.site_state.specs.Streams.{count_of}
use Rattle.site_state.specs.Steps.{is_empty, is_open}
use Rattle.rep_lists.specs.Counting.{count_where}
use Rattle.journal_sort.specs.Sorting.{StaysWithMasters}
use Rattle.site_state.specs.Waited.{IsFinishedOnce}
use Rattle.site_engine.specs.Applying.{onward_of, entry_by, onward_past}
use Rattle.sender_inbox.proofs.ChangedInbox.{Finishes}
use Rattle.site_engine.proofs.Onward.{onward_is}

none_counted : (test : Entry → Bool) (es : List Entry) → list_any test es ≡ false → count_where test es ≡ 0
none_counted test [] none = refl
none_counted test (e ∷ es) none = go (test e) (none_counted test es) none
  where
    go : (b : Bool) → (list_any test es ≡ false → count_where test es ≡ 0) → (b || list_any test es) ≡ false → cond b (count_where test es + 1) (count_where test es) ≡ 0
    go true later none = absurd (cc none)
    go false later none = later none

-- an entry that finishes a position that wasn't
pub once_more : (e : Entry) (origin : SiteName) (position : ℕ) (journal : List Entry) → Finishes e origin position → finished origin journal position ≡ false → IsFinishedOnce journal → IsFinishedOnce (e ∷ journal)
once_more e origin position journal finishing unfinished once o q = rw (finishing o q) (go (is_same_site origin o) (position == q) refl refl)
  where
    go : (b c : Bool) → is_same_site origin o ≡ b → (position == q) ≡ c → cond (b && c) (count_where (finishes o q) journal + 1) (count_where (finishes o q) journal) ≤ 1
    go true true same at =
        let origin_is : origin ≡ o = is_same_site-true origin o same in
        let at_is : position ≡ q = grind (arith, nat_tests) in
        let none : count_where (finishes o q) journal ≡ 0 = none_counted (finishes o q) journal (rw (← origin_is, ← at_is) unfinished) in
        omega (arith, none)
    go true false same at = once o q
    go false c same at = once o q

-- what came from a master gets no number onward
pub no_onward : (origin : SiteName) (x : SiteState) (past : Option (List PastEntry)) → past ≡ onward_past origin x → (count : ℕ) → count ≡ count_of x → (changes : List Change)
    → is_master_site x.schema origin ≡ true → onward_of past changes count ≡ 0
no_onward origin x past past_is count count_is changes master =
    onward_is origin x past past_is count count_is changes
    ∙ ap (λ (m : Bool). cond (x.here.is_master && not m && not (is_empty changes) && list_any is_open x.destinations) (count_of x + 1) 0) master ∙ go x.here.is_master
  where
    go : (b : Bool) → cond (b && not true && not (is_empty changes) && list_any is_open x.destinations) (count_of x + 1) 0 ≡ 0
    go true = refl
    go false = refl

pub entry_stays : (origin : SiteName) (x : SiteState) (past : Option (List PastEntry)) → past ≡ onward_past origin x → (a : Arrival) (count : ℕ) → count ≡ count_of x → (r : Result Effect Failure)
    → StaysWithMasters x.schema (entry_by past origin a count r)
entry_stays origin x past past_is a count count_is (Ok done) = no_onward origin x past past_is count count_is done.changes
entry_stays origin x past past_is a count count_is (Err failure) = tt
