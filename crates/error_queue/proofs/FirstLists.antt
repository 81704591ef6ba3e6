-- The first list of an origin: where it stands, and the lists after it changed.
use Rattle.std.proofs.Common.{◌≡◌, ℕ, zero, suc, ◌+◌, ◌<◌, Bool, true, false, cond, List, [], ◌∷◌, length, get_or, set, Some, None, refl, sym, ap, ◌∙◌, arith}
use Rattle.std.specs.List.{position, position_from}
use Rattle.std.proofs.lemmas.List.Quantifiers.{position-Some}
use Rattle.std.proofs.lemmas.Iterator.Adapters.{position_from-zero}
use Rattle.rep_values.specs.declared.name.SiteName.{SiteName}
use Rattle.rep_values.specs.Name.{same_bytes}
use Rattle.error_queue.specs.declared.entry.ErrorEntry.{ErrorEntry}
use Rattle.error_queue.specs.ErrorLists.{ErrorList, list_of, at_origin}
use Rattle.error_queue.specs.ErrorQueueState.{OriginErrorsState, lists_of, is_list_of}

list_of-from : (origin : SiteName) (n : ℕ) (hs : List OriginErrorsState) → position_from (is_list_of origin) n hs ≡ None → list_of origin (lists_of hs) ≡ None
list_of-from origin n [] none = refl
list_of-from origin n (h ∷ hs) none = go (is_list_of origin h) (list_of-from origin (n + 1) hs) none
  where
    go : (here : Bool) → (position_from (is_list_of origin) (n + 1) hs ≡ None → list_of origin (lists_of hs) ≡ None) → cond here (Some n) (position_from (is_list_of origin) (n + 1) hs) ≡ None
        → cond here (Some h.list) (list_of origin (lists_of hs)) ≡ None
    go true rest none = cc
    go false rest none = rest none

-- there is no list where none has a place
pub list_of-none : (origin : SiteName) (hs : List OriginErrorsState) → position (is_list_of origin) hs ≡ None → list_of origin (lists_of hs) ≡ None
list_of-none origin hs none = list_of-from origin 0 hs (sym (position_from-zero (is_list_of origin) hs) ∙ none)

-- and then no list changes
pub at_origin-none : (origin : SiteName) (change : List ErrorEntry → List ErrorEntry) (ls : List ErrorList) → list_of origin ls ≡ None → at_origin origin change ls ≡ ls
at_origin-none origin change [] none = refl
at_origin-none origin change (l ∷ ls) none = go (same_bytes l.origin.0 origin.0) none (at_origin-none origin change ls)
  where
    go : (here : Bool) → cond here (Some l) (list_of origin ls) ≡ None → (list_of origin ls ≡ None → at_origin origin change ls ≡ ls)
        → cond here (record { origin = l.origin; entries = change l.entries } ∷ ls) (l ∷ at_origin origin change ls) ≡ l ∷ ls
    go true none rest = cc
    go false none rest = ap (λ t. l ∷ t) (rest none)

list_of-at : (origin : SiteName) (hs : List OriginErrorsState) (i : ℕ) (d : OriginErrorsState) → i < length hs → is_list_of origin (get_or hs i d) ≡ true
    → ((k : ℕ) → k < i → is_list_of origin (get_or hs k d) ≡ false) → list_of origin (lists_of hs) ≡ Some (get_or hs i d).list
list_of-at origin [] i d within here before = absurd (omega arith)
list_of-at origin (h ∷ hs) zero d within here before = rw here refl
list_of-at origin (h ∷ hs) (suc i) d within here before = rw (before 0 (omega arith)) (list_of-at origin hs i d (omega arith) here (λ k lt. before (suc k) (omega arith)))

-- the list at the place of an origin is its list
pub list_of-place : (origin : SiteName) (hs : List OriginErrorsState) (i : ℕ) (h : OriginErrorsState) → Some i ≡ position (is_list_of origin) hs → h ≡ get_or hs i h → list_of origin (lists_of hs) ≡ Some h.list
list_of-place origin hs i h found is =
    let there = position-Some (is_list_of origin) hs i h (sym found) in
    list_of-at origin hs i h there.0 there.1 there.2 ∙ ap (λ (x : OriginErrorsState). Some x.list) (sym is)

-- the place is one of the lists
pub place_within : (origin : SiteName) (hs : List OriginErrorsState) (i : ℕ) (h : OriginErrorsState) → Some i ≡ position (is_list_of origin) hs → i < length hs
place_within origin hs i h found = (position-Some (is_list_of origin) hs i h (sym found)).0

-- and the list there is the origin's
pub place_own : (origin : SiteName) (hs : List OriginErrorsState) (i : ℕ) (h : OriginErrorsState) → Some i ≡ position (is_list_of origin) hs → h ≡ get_or hs i h → same_bytes h.list.origin.0 origin.0 ≡ true
place_own origin hs i h found is = ap (is_list_of origin) is ∙ (position-Some (is_list_of origin) hs i h (sym found)).1

changed_at : (origin : SiteName) (change : List ErrorEntry → List ErrorEntry) (hs : List OriginErrorsState) (i : ℕ) (new d : OriginErrorsState) → i < length hs → is_list_of origin (get_or hs i d) ≡ true
    → ((k : ℕ) → k < i → is_list_of origin (get_or hs k d) ≡ false) → new.list ≡ record { origin = (get_or hs i d).list.origin; entries = change (get_or hs i d).list.entries }
    → lists_of (set hs i new) ≡ at_origin origin change (lists_of hs)
changed_at origin change [] i new d within here before is = absurd (omega arith)
changed_at origin change (h ∷ hs) zero new d within here before is = rw here (ap (λ l. l ∷ lists_of hs) is)
changed_at origin change (h ∷ hs) (suc i) new d within here before is =
    rw (before 0 (omega arith)) (ap (λ t. h.list ∷ t) (changed_at origin change hs i new d (omega arith) here (λ k lt. before (suc k) (omega arith)) is))

list_with : (l : ErrorList) (origin : SiteName) (entries : List ErrorEntry) → l.origin ≡ origin → l.entries ≡ entries → l ≡ record { origin = origin; entries = entries }
list_with l origin entries same is = rw (← same, ← is) refl

-- where that list changes, the errors of the origin do
pub at_origin-place : (origin : SiteName) (change : List ErrorEntry → List ErrorEntry) (hs : List OriginErrorsState) (i : ℕ) (old new : OriginErrorsState) → Some i ≡ position (is_list_of origin) hs → old ≡ get_or hs i old
    → new.list.origin ≡ old.list.origin → new.list.entries ≡ change old.list.entries → lists_of (set hs i new) ≡ at_origin origin change (lists_of hs)
at_origin-place origin change hs i old new found is same entries =
    let there = position-Some (is_list_of origin) hs i old (sym found) in
    let list : new.list ≡ record { origin = (get_or hs i old).list.origin; entries = change (get_or hs i old).list.entries } = rw (← is) (list_with new.list old.list.origin (change old.list.entries) same entries) in
    changed_at origin change hs i new old there.0 there.1 there.2 list
