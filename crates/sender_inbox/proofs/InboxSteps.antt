-- What an inbox keeps, after each of its steps.
use Rattle.std.proofs.Common.{◌≡◌, ℕ, ◌<◌, ◌≤◌, ◌==◌, Bool, true, false, max, List, [], ◌∷◌, Some, None, refl, sym, ap, ◌∙◌, arith}
use Rattle.std.specs.Prelude.{◌≢◌, ◌||◌}
use Rattle.std.specs.List.{AllByRecursion}
use Rattle.std.specs.Ordering.{nat_cmp}
use Rattle.std.specs.declared.cmp.Ordering.{Ordering}
use Rattle.std.specs.declared.cmp.Ordering.TheVariants.{Less, Equal, Greater}
use Rattle.std.proofs.lemmas.Cmp.{nat_cmp_total}
use Rattle.std.proofs.lemmas.Bool.Decides.{nat_tests}
use Rattle.rep_lists.specs.Rising.{find_at, put_at, found_here}
use Rattle.rep_lists.proofs.Rising.{all_put, rising_put}
use Rattle.rep_lists.proofs.FoundByKey.{find_put_own, find_put_other}
use Rattle.rep_values.specs.declared.name.SiteName.{SiteName}
use Rattle.origin_marks.specs.Edges.{is_between}
use Rattle.origin_marks.specs.Marks.{Marked, finished}
use Rattle.origin_marks.proofs.Counts.{cmp_equal}
use Rattle.site_state.specs.declared.arrival.Arrival.{Arrival}
use Rattle.site_state.specs.State.{arrival_beside}
use Rattle.site_state.specs.Arrivals.{NamesOthers}
use Rattle.site_state.specs.Ready.{arrival_number}
use Rattle.sender_inbox.specs.Incoming.{greatest_where, IsInbox}
use Rattle.sender_inbox.specs.Reaching.{PastsRise}
use Rattle.sender_inbox.specs.InboxState.{KeepsGreatest}
use Rattle.sender_inbox.proofs.Greatest.{greatest_where-put, greatest_where-more}

-- what hasn't arrived isn't finished
unfinished : (origin : SiteName) (xs : List Arrival) (m : Marked) (p : ℕ) → IsInbox origin xs m → find_at (arrival_beside p) xs ≡ None → finished m p ≡ false
unfinished origin xs m p is absent = go (finished m p) refl
  where
    go : (b : Bool) → finished m p ≡ b → b ≡ false
    go true done = absurd (is.come p done absent)
    go false done = refl

-- what arrived stands at a position from 1
pub from_one-found : (xs : List Arrival) (p : ℕ) → AllByRecursion (λ (a : Arrival). 1 ≤ a.position) xs → find_at (arrival_beside p) xs ≢ None → 1 ≤ p
from_one-found [] p all there = absurd (there refl)
from_one-found (x ∷ xs) p all there = go (arrival_beside p x) refl there (from_one-found xs p all.1)
  where
    go : (o : Ordering) → arrival_beside p x ≡ o → found_here o x (find_at (arrival_beside p) xs) ≢ None → (find_at (arrival_beside p) xs ≢ None → 1 ≤ p) → 1 ≤ p
    go Less at is later = later is
    go Equal at is later = omega (arith, all.0, cmp_equal x.position p at)
    go Greater at is later = absurd (is refl)

-- what had arrived is found behind a later arrival
found-put : (a : Arrival) (xs : List Arrival) (p : ℕ) → find_at (arrival_beside p) xs ≢ None → find_at (arrival_beside p) (put_at (arrival_beside a.position) a xs) ≢ None
found-put a xs p there = λ none. go (nat_cmp a.position p) refl none
  where
    go : (o : Ordering) → nat_cmp a.position p ≡ o → find_at (arrival_beside p) (put_at (arrival_beside a.position) a xs) ≡ None → ⊥
    go Less at none = there (sym (find_put_other (λ (b : Arrival). b.position) nat_cmp nat_cmp_total a p xs (λ equal. cc)) ∙ none)
    go Equal at none =
        let same : a.position ≡ p = cmp_equal a.position p at in
        let own : find_at (arrival_beside a.position) (put_at (arrival_beside a.position) a xs) ≡ Some a = find_put_own (λ (b : Arrival). b.position) nat_cmp nat_cmp_total a xs in
        let gone : find_at (arrival_beside a.position) (put_at (arrival_beside a.position) a xs) ≡ None = ap (λ q. find_at (arrival_beside q) (put_at (arrival_beside a.position) a xs)) same ∙ none in
        cc
    go Greater at none = there (sym (find_put_other (λ (b : Arrival). b.position) nat_cmp nat_cmp_total a p xs (λ equal. cc)) ∙ none)

-- at first
pub IsKept-new : (origin : SiteName) (m : Marked) → ((p : ℕ) → finished m p ≡ false) → KeepsGreatest origin [] m 0 0
IsKept-new origin m none = record {
  inbox = record { rising = tt; from_one = tt; passes = record { rising = tt; earlier = tt; others = tt }; come = λ p done. absurd (let not_done = none p in cc) };
  pasts = tt;
  greatest_is = refl;
}

-- with one arrival more
pub IsKept-put : (origin : SiteName) (a : Arrival) (xs : List Arrival) (m : Marked) (greatest from from' : ℕ) → a.dep < a.position → NamesOthers origin a.past → find_at (arrival_beside a.position) xs ≡ None
    → PastsRise from' (put_at (arrival_beside a.position) a xs) → KeepsGreatest origin xs m greatest from → KeepsGreatest origin (put_at (arrival_beside a.position) a xs) m greatest from'
IsKept-put origin a xs m greatest from from' earlier others absent rise kept = record {
  inbox = record {
    rising = rising_put (λ (b : Arrival). b.position) nat_cmp nat_cmp_total a xs kept.inbox.rising;
    from_one = all_put (arrival_beside a.position) (λ (b : Arrival). 1 ≤ b.position) a xs (omega (arith, earlier)) kept.inbox.from_one;
    passes = record {
      rising = rising_put (λ (b : Arrival). b.position) nat_cmp nat_cmp_total a xs kept.inbox.passes.rising;
      earlier = all_put (arrival_beside a.position) (λ (b : Arrival). b.dep < b.position) a xs earlier kept.inbox.passes.earlier;
      others = all_put (arrival_beside a.position) (λ (b : Arrival). NamesOthers origin b.past) a xs others kept.inbox.passes.others;
    };
    come = λ p done. found-put a xs p (kept.inbox.come p done);
  };
  pasts = rise;
  greatest_is = kept.greatest_is ∙ sym (greatest_where-put (finished m) a xs (unfinished origin xs m a.position kept.inbox absent) absent);
}

-- with the same finished positions
pub IsKept-same : (origin : SiteName) (xs : List Arrival) (m n : Marked) (greatest from : ℕ) → n.edges ≡ m.edges → KeepsGreatest origin xs m greatest from → KeepsGreatest origin xs n greatest from
IsKept-same origin xs m n greatest from same kept = record {
  inbox = record {
    rising = kept.inbox.rising;
    from_one = kept.inbox.from_one;
    passes = kept.inbox.passes;
    come = λ p done. kept.inbox.come p (ap (λ edges. is_between edges p) (sym same) ∙ done);
  };
  pasts = kept.pasts;
  greatest_is = kept.greatest_is ∙ ap (λ edges. greatest_where (is_between edges) xs) (sym same);
}

-- with one finished position more
pub IsKept-more : (origin : SiteName) (xs : List Arrival) (m n : Marked) (greatest from number position : ℕ) → find_at (arrival_beside position) xs ≢ None → ((p : ℕ) → finished n p ≡ (p == position || finished m p))
    → number ≡ arrival_number (find_at (arrival_beside position) xs) → KeepsGreatest origin xs m greatest from → KeepsGreatest origin xs n (max greatest number) from
IsKept-more origin xs m n greatest from number position there is number_is kept = record {
  inbox = record {
    rising = kept.inbox.rising;
    from_one = kept.inbox.from_one;
    passes = kept.inbox.passes;
    come = λ p done. come p (p == position) refl (sym (is p) ∙ done);
  };
  pasts = kept.pasts;
  greatest_is = rw (number_is, kept.greatest_is) (sym (greatest_where-more (finished m) (finished n) position is xs kept.inbox.rising));
}
  where
    come : (p : ℕ) (b : Bool) → (p == position) ≡ b → (b || finished m p) ≡ true → find_at (arrival_beside p) xs ≢ None
    come p true at done = let same : p ≡ position = grind (arith, nat_tests) in rw same there
    come p false at done = kept.inbox.come p done
