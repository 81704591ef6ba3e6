-- The least free room, after steps on the lists.
use Rattle.std.proofs.Common.{◌≡◌, ℕ, zero, suc, ◌+◌, ◌<◌, ◌≤◌, List, [], ◌∷◌, length, get_or, set, take, refl, ap, arith, add-one}
use Rattle.error_queue.specs.ErrorQueueState.{OriginErrorsState, lists_of, rooms_of}
use Rattle.rep_lists.specs.Counting.{least}

-- more room in one place
pub least-set : (free : ℕ) (hs : List OriginErrorsState) (i : ℕ) (h d : OriginErrorsState) → (get_or hs i d).room ≤ h.room → least free (rooms_of hs) ≤ least free (rooms_of (set hs i h))
least-set free [] i h d le = omega arith
least-set free (x ∷ xs) zero h d le = omega (arith, le)
least-set free (x ∷ xs) (suc i) h d le = omega (arith, least-set free xs i h d le)

-- one place of the room used up, at most, in one list
pub least-set_used : (free less : ℕ) (hs : List OriginErrorsState) (i : ℕ) (h d : OriginErrorsState) → free ≤ less + 1 → (get_or hs i d).room ≤ h.room + 1 → least free (rooms_of hs) ≤ least less (rooms_of (set hs i h)) + 1
least-set_used free less [] i h d first le = first
least-set_used free less (x ∷ xs) zero h d first le = omega (arith, first, le, least-more_used xs)
  where
    least-more_used : (ys : List OriginErrorsState) → least free (rooms_of ys) ≤ least less (rooms_of ys) + 1
    least-more_used [] = first
    least-more_used (y ∷ ys) = omega (arith, least-more_used ys)
least-set_used free less (x ∷ xs) (suc i) h d first le = omega (arith, least-set_used free less xs i h d first le)

-- where the least isn't 0, each list has room
pub room_at : (free : ℕ) (hs : List OriginErrorsState) (i : ℕ) (d : OriginErrorsState) → i < length hs → 1 ≤ least free (rooms_of hs) → 1 ≤ (get_or hs i d).room
room_at free [] i d within all = absurd (omega (arith, within))
room_at free (h ∷ hs) zero d within all = omega (arith, all)
room_at free (h ∷ hs) (suc i) d within all = room_at free hs i d (omega (arith, within)) (omega (arith, all))

-- the same, of a list that was looked up
pub least-place : (free : ℕ) (hs : List OriginErrorsState) (i : ℕ) (old new : OriginErrorsState) → old ≡ get_or hs i old → old.room ≤ new.room → least free (rooms_of hs) ≤ least free (rooms_of (set hs i new))
least-place free hs i old new is le = least-set free hs i new old (omega (arith, le, ap (λ (h : OriginErrorsState). h.room) is))

pub least-place_used : (free less : ℕ) (hs : List OriginErrorsState) (i : ℕ) (old new : OriginErrorsState) → free ≤ less + 1 → old ≡ get_or hs i old → old.room ≤ new.room + 1
    → least free (rooms_of hs) ≤ least less (rooms_of (set hs i new)) + 1
least-place_used free less hs i old new first is le = least-set_used free less hs i new old first (omega (arith, le, ap (λ (h : OriginErrorsState). h.room) is))

pub room_in_place : (free : ℕ) (hs : List OriginErrorsState) (i : ℕ) (h : OriginErrorsState) → i < length hs → h ≡ get_or hs i h → 1 ≤ least free (rooms_of hs) → 1 ≤ h.room
room_in_place free hs i h within is all = omega (arith, room_at free hs i h within all, ap (λ (x : OriginErrorsState). x.room) is)

made_suc : (hs : List OriginErrorsState) (i : ℕ) (h : OriginErrorsState) → 1 ≤ h.room → 1 ≤ least 1 (take i (rooms_of hs)) → 1 ≤ least 1 (take (suc i) (rooms_of (set hs i h)))
made_suc [] i h made before = omega arith
made_suc (x ∷ xs) zero h made before = omega (arith, made)
made_suc (x ∷ xs) (suc i) h made before = omega (arith, before, made_suc xs i h made (omega (arith, before)))

-- the lists up to a place have room, after one got it
pub least-take_set : (hs : List OriginErrorsState) (i : ℕ) (h : OriginErrorsState) → 1 ≤ h.room → 1 ≤ least 1 (take i (rooms_of hs)) → 1 ≤ least 1 (take (i + 1) (rooms_of (set hs i h)))
least-take_set hs i h made before = rw add-one (made_suc hs i h made before)

-- with room everywhere, there is room
pub least-all : (free : ℕ) (rooms : List ℕ) → 1 ≤ free → 1 ≤ least 1 rooms → 1 ≤ least free rooms
least-all free [] one all = one
least-all free (x ∷ xs) one all = omega (arith, all, least-all free xs one (omega (arith, all)))

-- the least is at most the first
pub least-first : (free : ℕ) (rooms : List ℕ) → least free rooms ≤ free
least-first free [] = omega arith
least-first free (x ∷ xs) = omega (arith, least-first free xs)

-- more free room first
pub least-more : (free more : ℕ) (rooms : List ℕ) → free ≤ more → least free rooms ≤ least more rooms
least-more free more [] le = le
least-more free more (x ∷ xs) le = omega (arith, least-more free more xs le)

-- where a list got room, the errors are the same
pub lists_of-set : (hs : List OriginErrorsState) (i : ℕ) (h d : OriginErrorsState) → h.list ≡ (get_or hs i d).list → lists_of (set hs i h) ≡ lists_of hs
lists_of-set [] i h d is = refl
lists_of-set (x ∷ xs) zero h d is = rw is refl
lists_of-set (x ∷ xs) (suc i) h d is = ap (λ ls. x.list ∷ ls) (lists_of-set xs i h d is)
