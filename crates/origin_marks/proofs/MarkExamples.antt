-- Finished positions worked out by hand.
use Rattle.std.proofs.Common.{◌≡◌, ℕ, ◌^◌, ◌-◌, List, [], ◌∷◌, true, false, refl}
use Rattle.origin_marks.specs.Edges.{is_between, flipped}
use Rattle.origin_marks.specs.Marks.{IsLowWater}
use Rattle.origin_marks.proofs.Low.{low_at}

abbrev finish : ℕ → List ℕ → List ℕ
finish position edges = flipped position (flipped (position - 1) edges)

-- 1, 2 and 5 are finished
abbrev some_finished : List ℕ
some_finished = 5 ∷ 4 ∷ 2 ∷ 0 ∷ []

example_none : is_between [] 1 ≡ false
example_none = refl

example_position_0 : is_between some_finished 0 ≡ false
example_position_0 = refl

example_first : is_between some_finished 1 ≡ true
example_first = refl

example_mark : is_between some_finished 2 ≡ true
example_mark = refl

example_gap : is_between some_finished 3 ≡ false
example_gap = refl

example_before_interval : is_between some_finished 4 ≡ false
example_before_interval = refl

example_above_gap : is_between some_finished 5 ≡ true
example_above_gap = refl

example_behind_all : is_between some_finished 6 ≡ false
example_behind_all = refl

-- finished in two orders
example_order : finish 1 (finish 5 (finish 2 [])) ≡ some_finished
example_order = refl

example_other_order : finish 5 (finish 2 (finish 1 [])) ≡ some_finished
example_other_order = refl

-- 3 follows the mark, and 4 closes the gap
example_next : finish 3 some_finished ≡ 5 ∷ 4 ∷ 3 ∷ 0 ∷ []
example_next = refl

example_closed : finish 4 (finish 3 some_finished) ≡ 5 ∷ 0 ∷ []
example_closed = refl

-- the last position that there is
example_last : finish (2 ^ 64 - 1) some_finished ≡ (2 ^ 64 - 1) ∷ (2 ^ 64 - 2) ∷ some_finished
example_last = refl

-- all up to 2 are finished, and 3 isn't
example_low_water : IsLowWater (is_between some_finished) 2
example_low_water = low_at some_finished 2 ((refl, (refl, (refl, tt))), ((refl, (refl, tt)), ((refl, tt), (tt, tt)))) refl refl
