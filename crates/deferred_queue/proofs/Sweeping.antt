-- What a purge has to look at after an earlier one.
use Rattle.std.proofs.Common.{◌≡◌, ℕ, zero, suc, ◌+◌, ◌-◌, ◌<◌, ◌≤◌, ◌==◌, ◌&&◌, ◌⊎◌, inl, inr, Bool, true, false, not, cond, List, [], ◌∷◌, length, map, take, get_or, set, Option, Some, None, refl, sym, ap, ◌∙◌, arith, add-one}
use Rattle.std.specs.List.{AllByRecursion, filter, list_all}
use Rattle.std.proofs.lemmas.Bool.Decides.{nat_tests}
use Rattle.rep_values.specs.declared.name.SiteName.{SiteName}
use Rattle.deferred_queue.specs.declared.queued_txn.QueuedTxn.{QueuedTxn}
use Rattle.deferred_queue.specs.declared.destination.Destination.{Destination}
use Rattle.deferred_queue.specs.declared.entries.Entry.{Entry}
use Rattle.deferred_queue.specs.Streams.{destination_to, at_position}
use Rattle.deferred_queue.specs.QueueState.{Kept, QueueState, kept_of, swept_as, swept_of, rooms_of, entry_of, position_of, is_within, has_passed, is_unpassed, with_entry, held_extended, held_raised, held_swept, FallsFrom, IsSwept}
use Rattle.deferred_queue.specs.declared.span.Span.{Span}
use Rattle.deferred_queue.specs.Spans.{Covers, is_covered}
use Rattle.deferred_queue.proofs.Sites.{eq_false_above}
use Rattle.deferred_queue.proofs.Numbers.{le_true, entry_of-placed, position_of-absent}

-- an entry that is found by a number has that
entry_of-number : (number : ℕ) (entries : List (Entry ℕ)) (e : Entry ℕ) → entry_of number entries ≡ Some e → e.number ≡ number
entry_of-number number [] e found = absurd (cc found)
entry_of-number number (x ∷ xs) e found = go (x.number == number) refl (entry_of-number number xs e) found
  where
    go : (b : Bool) → (x.number == number) ≡ b → (entry_of number xs ≡ Some e → e.number ≡ number) → cond b (Some x) (entry_of number xs) ≡ Some e → e.number ≡ number
    go true is later there = let same : x ≡ e = cc there in rw (← same) (grind (arith, nat_tests))
    go false is later there = later there

-- what stands at a number's position has that number
pub number_at : (number position : ℕ) (entries : List (Entry ℕ)) (e : Entry ℕ) → position_of number entries ≡ Some position → Some e ≡ at_position position entries → e.number ≡ number
number_at number position entries e placed found = entry_of-number number entries e (entry_of-placed number position entries placed ∙ sym found)

-- and something stands there
pub nothing_placed : (number position : ℕ) (entries : List (Entry ℕ)) → position_of number entries ≡ Some position → ¬ (None ≡ at_position position entries)
nothing_placed number position entries placed = λ none.
    let absent : position_of number entries ≡ None = position_of-absent number entries (entry_of-placed number position entries placed ∙ sym none) in
    absurd (cc (placed, absent))

-- where a stream has passed a number since the last purge
pub record IsNewlyPassed (number : ℕ) (h : QueueState) : Type 0 where
  pub position : ℕ
  pub placed : position_of number h.kept.entries ≡ Some position
  pub behind : h.swept < position
  pub within : position ≤ h.kept.acked

pub newly_passed : (number : ℕ) (h : QueueState) → has_passed number (swept_as h) ≡ false → has_passed number h.kept ≡ true → IsNewlyPassed number h
newly_passed number h before now = go (position_of number h.kept.entries) refl before now
  where
    go : (found : Option ℕ) → position_of number h.kept.entries ≡ found → is_within found h.swept ≡ false → is_within found h.kept.acked ≡ true → IsNewlyPassed number h
    go None placed before now = absurd (cc before)
    go (Some position) placed before now = record { position = position; placed = placed; behind = grind (arith, nat_tests); within = grind (arith, nat_tests) }

-- a number that each stream has passed is passed by the one at a place
pub passed_at : (number : ℕ) (hs : List QueueState) (i : ℕ) (d : QueueState) → i < length hs → is_unpassed (kept_of hs) number ≡ false → has_passed number (get_or hs i d).kept ≡ true
passed_at number [] i d within passed = absurd (omega (arith, within))
passed_at number (h ∷ hs) zero d within passed = go (has_passed number h.kept) passed
  where
    go : (b : Bool) → not (b && list_all (has_passed number) (kept_of hs)) ≡ false → b ≡ true
    go true is = refl
    go false is = absurd (cc is)
passed_at number (h ∷ hs) (suc i) d within passed = passed_at number hs i d (omega (arith, within)) (go (has_passed number h.kept) passed)
  where
    go : (b : Bool) → not (b && list_all (has_passed number) (kept_of hs)) ≡ false → is_unpassed (kept_of hs) number ≡ false
    go true is = is
    go false is = absurd (cc is)

-- one that waited for the streams up to a place waited for those before it, or for the one there
waited_suc : (number : ℕ) (hs : List QueueState) (i : ℕ) (d : QueueState) → i < length hs → is_unpassed (swept_of (take (suc i) hs)) number ≡ true
    → (has_passed number (swept_as (get_or hs i d)) ≡ false) ⊎ (is_unpassed (swept_of (take i hs)) number ≡ true)
waited_suc number [] i d within waited = absurd (omega (arith, within))
waited_suc number (h ∷ hs) zero d within waited = go (has_passed number (swept_as h)) waited
  where
    go : (b : Bool) → not (b && true) ≡ true → (b ≡ false) ⊎ (false ≡ true)
    go true is = absurd (cc is)
    go false is = inl refl
waited_suc number (h ∷ hs) (suc i) d within waited = go (has_passed number (swept_as h)) waited (waited_suc number hs i d (omega (arith, within)))
  where
    go : (b : Bool) → not (b && list_all (has_passed number) (swept_of (take (suc i) hs))) ≡ true
        → (is_unpassed (swept_of (take (suc i) hs)) number ≡ true → (has_passed number (swept_as (get_or hs i d)) ≡ false) ⊎ (is_unpassed (swept_of (take i hs)) number ≡ true))
        → (has_passed number (swept_as (get_or hs i d)) ≡ false) ⊎ (not (b && list_all (has_passed number) (swept_of (take i hs))) ≡ true)
    go true is later = later is
    go false is later = inr refl

pub waited_for : (number : ℕ) (hs : List QueueState) (i : ℕ) (d : QueueState) → i < length hs → is_unpassed (swept_of (take (i + 1) hs)) number ≡ true
    → (has_passed number (swept_as (get_or hs i d)) ≡ false) ⊎ (is_unpassed (swept_of (take i hs)) number ≡ true)
waited_for number hs i d within waited = waited_suc number hs i d within (rw add-one at waited)

-- a new entry places no lower number anew
has_passed-with_entry : (d : Option Destination) (earlier number acked : ℕ) (entries : List (Entry ℕ)) → earlier < number
    → is_within (position_of earlier (with_entry d number entries)) acked ≡ is_within (position_of earlier entries) acked
has_passed-with_entry None earlier number acked entries less = refl
has_passed-with_entry (Some d) earlier number acked entries less = rw (eq_false_above number earlier less) refl

waiting-extended : (to : List Destination) (earlier number : ℕ) (hs : List QueueState) → earlier < number → list_all (has_passed earlier) (swept_of (map (held_extended to number) hs)) ≡ list_all (has_passed earlier) (swept_of hs)
waiting-extended to earlier number [] less = refl
waiting-extended to earlier number (h ∷ hs) less =
    rw (has_passed-with_entry (destination_to h.kept.site to) earlier number h.swept h.kept.entries less, waiting-extended to earlier number hs less) refl

-- so what waited at the last purge did so by the streams that were extended
pub IsSwept-extended : (to : List Destination) (count last : ℕ) (hs : List QueueState) (cargo : QueuedTxn) (kept : List (Entry QueuedTxn)) → IsSwept count last (swept_of hs) kept
    → IsSwept (count + 1) last (swept_of (map (held_extended to (count + 1)) hs)) (record { number = count + 1; value = cargo } ∷ kept)
IsSwept-extended to count last hs cargo kept swept = record {
  within = omega (arith, swept.within);
  waiting = (λ le. absurd (omega (arith, le, swept.within)), each kept swept.waiting);
}
  where
    each : (es : List (Entry QueuedTxn)) → AllByRecursion (λ (e : Entry QueuedTxn). e.number ≤ last → is_unpassed (swept_of hs) e.number ≡ true) es
        → AllByRecursion (λ (e : Entry QueuedTxn). e.number ≤ last → is_unpassed (swept_of (map (held_extended to (count + 1)) hs)) e.number ≡ true) es
    each [] all = tt
    each (e ∷ es) all = (λ le. rw (waiting-extended to e.number (count + 1) hs (omega (arith, le, swept.within))) (all.0 le), each es all.1)

-- a mark doesn't change what was acknowledged at the last purge
pub swept_of-held_raised : (site : SiteName) (mark : ℕ) (hs : List QueueState) → swept_of (map (held_raised site mark) hs) ≡ swept_of hs
swept_of-held_raised site mark [] = refl
swept_of-held_raised site mark (h ∷ hs) = ap (λ ks. swept_as h ∷ ks) (swept_of-held_raised site mark hs)

-- a purge leaves what the streams hold
pub kept_of-held_swept : (hs : List QueueState) → kept_of (map held_swept hs) ≡ kept_of hs
kept_of-held_swept [] = refl
kept_of-held_swept (h ∷ hs) = ap (λ ks. h.kept ∷ ks) (kept_of-held_swept hs)

-- and their room
pub rooms_of-held_swept : (hs : List QueueState) → rooms_of (map held_swept hs) ≡ rooms_of hs
rooms_of-held_swept [] = refl
rooms_of-held_swept (h ∷ hs) = ap (λ rs. h.room ∷ rs) (rooms_of-held_swept hs)

-- and remembers how they are acknowledged
pub swept_of-held_swept : (hs : List QueueState) → swept_of (map held_swept hs) ≡ kept_of hs
swept_of-held_swept [] = refl
swept_of-held_swept (h ∷ hs) = ap (λ ks. h.kept ∷ ks) (swept_of-held_swept hs)

-- where a stream got room, so do they
pub swept_of-set : (hs : List QueueState) (i : ℕ) (h d : QueueState) → h.kept ≡ (get_or hs i d).kept → h.swept ≡ (get_or hs i d).swept → swept_of (set hs i h) ≡ swept_of hs
swept_of-set [] i h d is swept = refl
swept_of-set (x ∷ xs) zero h d is swept = rw (is, swept) refl
swept_of-set (x ∷ xs) (suc i) h d is swept = ap (λ ks. swept_as x ∷ ks) (swept_of-set xs i h d is swept)

-- where what each stream has passed lies in a span, it is found by looking there alone
pub found_in_span : (streams : List Kept) (span : Span) (kept : List (Entry QueuedTxn)) → AllByRecursion (λ (e : Entry QueuedTxn). is_unpassed streams e.number ≡ false → Covers span e.number) kept
    → filter (λ e. not (is_covered span e.number && list_all (has_passed e.number) streams)) kept ≡ filter (λ e. is_unpassed streams e.number) kept
found_in_span streams span [] covers = refl
found_in_span streams span (e ∷ es) covers = rw (here (list_all (has_passed e.number) streams) covers.0, found_in_span streams span es covers.1) refl
  where
    no_more : (b : Bool) → not (b && false) ≡ true
    no_more true = refl
    no_more false = refl

    here : (passed : Bool) → (not passed ≡ false → Covers span e.number) → not (is_covered span e.number && passed) ≡ not passed
    here true covered = rw (le_true span.first e.number (covered refl).0, le_true e.number span.last (covered refl).1) refl
    here false covered = no_more (is_covered span e.number)

-- nothing is, where the span has no number
pub none_in_span : (streams : List Kept) (span : Span) (kept : List (Entry QueuedTxn)) → span.last < span.first → AllByRecursion (λ (e : Entry QueuedTxn). is_unpassed streams e.number ≡ false → Covers span e.number) kept
    → filter (λ e. is_unpassed streams e.number) kept ≡ kept
none_in_span streams span [] empty covers = refl
none_in_span streams span (e ∷ es) empty covers = rw (here (is_unpassed streams e.number) covers.0, none_in_span streams span es empty covers.1) refl
  where
    here : (b : Bool) → (b ≡ false → Covers span e.number) → b ≡ true
    here true covered = refl
    here false covered = let within = covered refl in absurd (omega (arith, empty, within.0, within.1))

-- what waits stays, and waits
pub IsSwept-filtered : (count : ℕ) (streams : List Kept) (kept : List (Entry QueuedTxn)) → IsSwept count count streams (filter (λ e. is_unpassed streams e.number) kept)
IsSwept-filtered count streams kept = record { within = omega arith; waiting = each kept }
  where
    each : (es : List (Entry QueuedTxn)) → AllByRecursion (λ (e : Entry QueuedTxn). e.number ≤ count → is_unpassed streams e.number ≡ true) (filter (λ e. is_unpassed streams e.number) es)
    each [] = tt
    each (e ∷ es) = go (is_unpassed streams e.number) refl (each es)
      where
        go : (b : Bool) → is_unpassed streams e.number ≡ b → AllByRecursion (λ (e : Entry QueuedTxn). e.number ≤ count → is_unpassed streams e.number ≡ true) (filter (λ e. is_unpassed streams e.number) es)
            → AllByRecursion (λ (e : Entry QueuedTxn). e.number ≤ count → is_unpassed streams e.number ≡ true) (cond b (e ∷ filter (λ e. is_unpassed streams e.number) es) (filter (λ e. is_unpassed streams e.number) es))
        go true is later = (λ le. is, later)
        go false is later = later

-- of the transactions that are kept, those that each stream has passed lie in a span of what was passed since the last purge
pub kept_in_span : (count last bound : ℕ) (hs : List QueueState) (kept : List (Entry QueuedTxn)) (span : Span) → bound ≤ count → FallsFrom bound kept → IsSwept count last (swept_of hs) kept
    → ((number : ℕ) → number ≤ count → (number ≤ last → is_unpassed (swept_of hs) number ≡ true) → is_unpassed (kept_of hs) number ≡ false → Covers span number)
    → AllByRecursion (λ (e : Entry QueuedTxn). is_unpassed (kept_of hs) e.number ≡ false → Covers span e.number) kept
kept_in_span count last bound hs kept span le falls swept covers = each bound kept le falls swept.waiting
  where
    each : (bound : ℕ) (es : List (Entry QueuedTxn)) → bound ≤ count → FallsFrom bound es → AllByRecursion (λ (e : Entry QueuedTxn). e.number ≤ last → is_unpassed (swept_of hs) e.number ≡ true) es
        → AllByRecursion (λ (e : Entry QueuedTxn). is_unpassed (kept_of hs) e.number ≡ false → Covers span e.number) es
    each bound [] le falls all = tt
    each bound (e ∷ es) le falls all = (covers e.number (omega (arith, le, falls.1)) all.0, each (e.number - 1) es (omega (arith, le, falls.1)) falls.2 all.1)
