-- Turns that were seen, each with whether it is one's own.
use Rattle.std.specs.Prelude.{◌≡◌, ℕ, List, [], ◌∷◌, ◌++◌, Bool, true, false, ◌||◌, map, length, drop, slice_index_or, nat_lt, if◌then◌else◌}
use Rattle.std.specs.List.{filter}
use Rattle.site_gate.specs.declared.view.Meeting.{Meeting}

module _ {U : Type 0} where
  -- one history is the beginning of another
  abbrev pub Begins : List U → List U → Type 0
  Begins xs ys = (rest : List U) × (ys ≡ xs ++ rest)

  -- the longer of two histories
  abbrev pub longer : List U → List U → List U
  longer xs ys = if nat_lt (length xs) (length ys) then ys else xs

  -- the turns, whosever they are
  abbrev pub turns_in : List (U × Bool) → List U
  turns_in seen = map (λ e. e.0) seen

  -- for each turn, whether it is one's own
  abbrev pub marks_in : List (U × Bool) → List Bool
  marks_in seen = map (λ e. e.1) seen

  -- one's own turns, in their order
  abbrev pub own_turns : List (U × Bool) → List U
  own_turns seen = turns_in (filter (λ e. e.1) seen)

  -- whether the turn at the place is one's own
  abbrev pub is_own : List (U × Bool) → ℕ → Bool
  is_own seen place = slice_index_or (marks_in seen) place false

  -- turns of which all or none are one's own
  abbrev pub marked : Bool → List U → List (U × Bool)
  marked own turns = map (λ turn. (turn, own)) turns

  -- the turns of the history that weren't seen yet are seen too
  abbrev pub seen_to : Bool → List (U × Bool) → List U → List (U × Bool)
  seen_to own seen history = seen ++ marked own (drop (length seen) history)

  -- turns that are one's own, or were by these marks
  abbrev pub with_marks : List (U × Bool) → List Bool → List (U × Bool)
  with_marks [] marks = []
  with_marks (e ∷ seen) [] = e ∷ seen
  with_marks (e ∷ seen) (mark ∷ marks) = (e.0, e.1 || mark) ∷ with_marks seen marks

  -- what two have seen: the longer history, with the own turns of both
  abbrev pub joined : List (U × Bool) → List (U × Bool) → List (U × Bool)
  joined one other = if nat_lt (length one) (length other) then with_marks other (marks_in one) else with_marks one (marks_in other)

  -- two who join
  abbrev pub meeting : List (U × Bool) → List (U × Bool) → Meeting U
  meeting one other = record { one = one; other = other }

  -- what two had seen when they were joined begins the history, and no place is of both
  pub record Meets (history : List U) (m : Meeting U) : Type 0 where
    pub one : Begins (turns_in m.one) history
    pub other : Begins (turns_in m.other) history
    pub apart : (place : ℕ) → is_own m.one place ≡ true → is_own m.other place ≡ false
