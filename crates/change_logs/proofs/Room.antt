-- The least room of some lists, after steps on one list after the other.
use Rattle.std.proofs.Common.{ℕ, zero, suc, ◌+◌, ◌<◌, ◌≤◌, List, [], ◌∷◌, length, get_or, set, map, take, arith, add-one}
use Rattle.std.proofs.lemmas.List.{map-set, length-map}
use Rattle.change_logs.proofs.Parts.{part_at}
use Rattle.rep_lists.specs.Counting.{least}

-- the numbers, of which the first so many are raised
abbrev pub raised : ℕ → ℕ → List ℕ → List ℕ
raised used zero ns = ns
raised used (suc i) [] = []
raised used (suc i) (n ∷ ns) = (n + used) ∷ raised used i ns

-- more room in one place
pub least-set : (free : ℕ) (ns : List ℕ) (i n d : ℕ) → get_or ns i d ≤ n → least free ns ≤ least free (set ns i n)
least-set free [] i n d le = omega arith
least-set free (x ∷ xs) zero n d le = omega (arith, le)
least-set free (x ∷ xs) (suc i) n d le = omega (arith, least-set free xs i n d le)

-- the least is at most each
pub least-at : (free : ℕ) (ns : List ℕ) (i d : ℕ) → i < length ns → least free ns ≤ get_or ns i d
least-at free [] i d within = absurd (omega (arith, within))
least-at free (x ∷ xs) zero d within = omega arith
least-at free (x ∷ xs) (suc i) d within = omega (arith, least-at free xs i d (omega (arith, within)))

raised-set_suc : (free used : ℕ) (ns : List ℕ) (i n d : ℕ) → get_or ns i d ≤ n + used → least free (raised used i ns) ≤ least free (raised used (suc i) (set ns i n))
raised-set_suc free used [] zero n d le = omega arith
raised-set_suc free used [] (suc i) n d le = omega arith
raised-set_suc free used (x ∷ xs) zero n d le = omega (arith, le)
raised-set_suc free used (x ∷ xs) (suc i) n d le = omega (arith, raised-set_suc free used xs i n d le)

-- room is used in the next place
pub raised-set : (free used : ℕ) (ns : List ℕ) (i n d : ℕ) → get_or ns i d ≤ n + used → least free (raised used i ns) ≤ least free (raised used (i + 1) (set ns i n))
raised-set free used ns i n d le = rw add-one (raised-set_suc free used ns i n d le)

-- in the next place no room is used yet
pub raised-at : (free used : ℕ) (ns : List ℕ) (i d : ℕ) → i < length ns → least free (raised used i ns) ≤ get_or ns i d
raised-at free used [] i d within = absurd (omega (arith, within))
raised-at free used (x ∷ xs) zero d within = omega arith
raised-at free used (x ∷ xs) (suc i) d within = omega (arith, raised-at free used xs i d (omega (arith, within)))

-- no more was used than by which the numbers are raised
pub raised-all : (free used : ℕ) (ns : List ℕ) (i : ℕ) → least free (raised used i ns) ≤ least free ns + used
raised-all free used ns zero = omega arith
raised-all free used [] (suc i) = omega arith
raised-all free used (x ∷ xs) (suc i) = omega (arith, raised-all free used xs i)

taken_suc : (keys : ℕ) (ns : List ℕ) (i n : ℕ) → keys ≤ n → keys ≤ least keys (take i ns) → keys ≤ least keys (take (suc i) (set ns i n))
taken_suc keys [] i n enough before = omega arith
taken_suc keys (x ∷ xs) zero n enough before = omega (arith, enough)
taken_suc keys (x ∷ xs) (suc i) n enough before = omega (arith, before, taken_suc keys xs i n enough (omega (arith, before)))

-- the places up to one have room, after it got it
pub least-take_set : (keys : ℕ) (ns : List ℕ) (i n : ℕ) → keys ≤ n → keys ≤ least keys (take i ns) → keys ≤ least keys (take (i + 1) (set ns i n))
least-take_set keys ns i n enough before = rw add-one (taken_suc keys ns i n enough before)

-- with room everywhere, there is room
pub least-all : (keys free : ℕ) (ns : List ℕ) → keys ≤ free → keys ≤ least keys ns → keys ≤ least free ns
least-all keys free [] le all = le
least-all keys free (x ∷ xs) le all = omega (arith, all, least-all keys free xs le (omega (arith, all)))

-- where there is room, there is room everywhere
pub least-each : (keys free : ℕ) (ns : List ℕ) → keys ≤ least free ns → keys ≤ least keys ns
least-each keys free [] le = omega arith
least-each keys free (x ∷ xs) le = omega (arith, le, least-each keys free xs (omega (arith, le)))

-- the least is at most the first
pub least-first : (free : ℕ) (ns : List ℕ) → least free ns ≤ free
least-first free [] = omega arith
least-first free (x ∷ xs) = omega (arith, least-first free xs)

-- more room first
pub least-more : (free more : ℕ) (ns : List ℕ) → free ≤ more → least free ns ≤ least more ns
least-more free more [] le = le
least-more free more (x ∷ xs) le = omega (arith, least-more free more xs le)

-- another number first
pub least-other : (room first other used : ℕ) (ns : List ℕ) → room ≤ other + used → room ≤ least first ns + used → room ≤ least other ns + used
least-other room first other used [] le all = le
least-other room first other used (x ∷ xs) le all = omega (arith, all, least-other room first other used xs le (omega (arith, all)))

-- the least room of two lists, where none of either is given up
pub room_stays : (free : ℕ) (ls ks ss ts : List ℕ) → ((n : ℕ) → least n ls ≤ least n ks) → ((n : ℕ) → least n ss ≤ least n ts) → least (least free ls) ss ≤ least (least free ks) ts
room_stays free ls ks ss ts first second = omega (arith, least-more (least free ls) (least free ks) ss (first free), second (least free ks))

-- the same, where so much of each is used
pub room_falls : (free used : ℕ) (ls ks ss ts : List ℕ) → ((n : ℕ) → least n ls ≤ least n ks + used) → ((n : ℕ) → least n ss ≤ least n ts + used) → least (least free ls) ss ≤ least (least free ks) ts + used
room_falls free used ls ks ss ts first second = least-other (least (least free ls) ss) (least free ls) (least free ks) used ts (omega (arith, least-first (least free ls) ss, first free)) (second (least free ls))

module _ {X : Type 0} (spare : X → ℕ) (now : List X) (i : ℕ) (d new : X) where
  -- one that has no less room takes the place of another
  pub room_kept : (free : ℕ) → spare (get_or now i d) ≤ spare new → least free (map spare now) ≤ least free (map spare (set now i new))
  room_kept free le = rw (map-set spare now i new) (least-set free (map spare now) i (spare new) (spare d) (omega (arith, part_at spare now i d, le)))

  -- so much of its room is used
  pub room_used : (free used : ℕ) → spare (get_or now i d) ≤ spare new + used → least free (raised used i (map spare now)) ≤ least free (raised used (i + 1) (map spare (set now i new)))
  room_used free used le = rw (map-set spare now i new) (raised-set free used (map spare now) i (spare new) (spare d) (omega (arith, part_at spare now i d, le)))

  -- it got room for so many keys
  pub room_taken : (keys : ℕ) → keys ≤ spare new → keys ≤ least keys (take i (map spare now)) → keys ≤ least keys (take (i + 1) (map spare (set now i new)))
  room_taken keys enough before = rw (map-set spare now i new) (least-take_set keys (map spare now) i (spare new) enough before)

module _ {X : Type 0} (spare : X → ℕ) (now : List X) (i : ℕ) (d : X) (within : i < length now) where
  -- the least room is at most each one's
  pub room_within : (free : ℕ) → least free (map spare now) ≤ spare (get_or now i d)
  room_within free = omega (arith, part_at spare now i d, least-at free (map spare now) i (spare d) (omega (arith, length-map now spare, within)))

  -- and so it is of those of which none is used yet
  pub room_yet : (free used : ℕ) → least free (raised used i (map spare now)) ≤ spare (get_or now i d)
  room_yet free used = omega (arith, part_at spare now i d, raised-at free used (map spare now) i (spare d) (omega (arith, length-map now spare, within)))
