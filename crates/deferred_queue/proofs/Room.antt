-- The least free room, after steps on the streams.
use Rattle.std.proofs.Common.{◌≡◌, ℕ, zero, suc, ◌+◌, ◌<◌, ◌≤◌, List, [], ◌∷◌, length, map, get_or, set, take, Option, Some, None, refl, ap, arith, add-one}
use Rattle.deferred_queue.specs.declared.destination.Destination.{Destination}
use Rattle.deferred_queue.specs.Streams.{destination_to}
use Rattle.deferred_queue.specs.QueueState.{QueueState, kept_of, rooms_of, room_left, held_extended}
use Rattle.rep_lists.specs.Counting.{least}

-- an entry in each stream takes one place of the room at most
pub least-held_extended : (to : List Destination) (number free less : ℕ) (hs : List QueueState) → free ≤ less + 1 → least free (rooms_of hs) ≤ least less (rooms_of (map (held_extended to number) hs)) + 1
least-held_extended to number free less [] le = le
least-held_extended to number free less (h ∷ hs) le = omega (arith, least-held_extended to number free less hs le, left (destination_to h.kept.site to))
  where
    left : (found : Option Destination) → h.room ≤ room_left found h.room + 1
    left None = omega arith
    left (Some d) = omega arith

-- more room in one place
pub least-set : (free : ℕ) (hs : List QueueState) (i : ℕ) (h d : QueueState) → (get_or hs i d).room ≤ h.room → least free (rooms_of hs) ≤ least free (rooms_of (set hs i h))
least-set free [] i h d le = omega arith
least-set free (x ∷ xs) zero h d le = omega (arith, le)
least-set free (x ∷ xs) (suc i) h d le = omega (arith, least-set free xs i h d le)

made_suc : (hs : List QueueState) (i : ℕ) (h : QueueState) → 1 ≤ h.room → 1 ≤ least 1 (take i (rooms_of hs)) → 1 ≤ least 1 (take (suc i) (rooms_of (set hs i h)))
made_suc [] i h made before = omega arith
made_suc (x ∷ xs) zero h made before = omega (arith, made)
made_suc (x ∷ xs) (suc i) h made before = omega (arith, before, made_suc xs i h made (omega (arith, before)))

-- the streams up to a place have room, after one got it
pub least-take_set : (hs : List QueueState) (i : ℕ) (h : QueueState) → 1 ≤ h.room → 1 ≤ least 1 (take i (rooms_of hs)) → 1 ≤ least 1 (take (i + 1) (rooms_of (set hs i h)))
least-take_set hs i h made before = rw add-one (made_suc hs i h made before)

-- with room everywhere, there is room
pub least-all : (free : ℕ) (rooms : List ℕ) → 1 ≤ free → 1 ≤ least 1 rooms → 1 ≤ least free rooms
least-all free [] one all = one
least-all free (x ∷ xs) one all = omega (arith, all, least-all free xs one (omega (arith, all)))

-- and in each stream
pub room_at : (free : ℕ) (hs : List QueueState) (i : ℕ) (d : QueueState) → i < length hs → 1 ≤ least free (rooms_of hs) → 1 ≤ (get_or hs i d).room
room_at free [] i d within all = absurd (omega (arith, within))
room_at free (h ∷ hs) zero d within all = omega (arith, all)
room_at free (h ∷ hs) (suc i) d within all = room_at free hs i d (omega (arith, within)) (omega (arith, all))

-- the least is at most the first
pub least-first : (free : ℕ) (rooms : List ℕ) → least free rooms ≤ free
least-first free [] = omega arith
least-first free (x ∷ xs) = omega (arith, least-first free xs)

-- more free room first
pub least-more : (free more : ℕ) (rooms : List ℕ) → free ≤ more → least free rooms ≤ least more rooms
least-more free more [] le = le
least-more free more (x ∷ xs) le = omega (arith, least-more free more xs le)

-- where there is some, each stream has room
pub least-one : (free : ℕ) (rooms : List ℕ) → 1 ≤ least free rooms → 1 ≤ least 1 rooms
least-one free [] all = omega arith
least-one free (x ∷ xs) all = omega (arith, all, least-one free xs (omega (arith, all)))

-- where a stream got room, the streams hold the same
pub kept_of-set : (hs : List QueueState) (i : ℕ) (h d : QueueState) → h.kept ≡ (get_or hs i d).kept → kept_of (set hs i h) ≡ kept_of hs
kept_of-set [] i h d is = refl
kept_of-set (x ∷ xs) zero h d is = rw is refl
kept_of-set (x ∷ xs) (suc i) h d is = ap (λ ks. x.kept ∷ ks) (kept_of-set xs i h d is)
