-- A piece of a list, read from a place on.
use Rattle.std.proofs.Common.{◌≡◌, ℕ, zero, suc, ◌+◌, ◌-◌, ◌<◌, min, List, [], ◌∷◌, ◌++◌, length, map, take, drop, refl, sym, ap, ◌∙◌, arith, length-take, length-drop, append-nil}
use Rattle.std.specs.Prelude.{slice_get, ◌≤◌, Option, Some}
use Rattle.std.proofs.lemmas.Option.{slice_get_past}
use Rattle.rep_lists.proofs.Places.{drop_from_found}
use Rattle.run_story.specs.declared.happening.Span.{Span}
use Rattle.run_story.specs.declared.lane.Lane.{Lane}
use Rattle.run_story.specs.Telling.{StoryView}
use Rattle.lane_drawing.specs.Marks.{Mark}
use Rattle.run_picture.specs.Marks.{number_of, mark_of_entry, entries_at, span_marks}

get_behind : {X : Type 0} (xs : List X) (first place : ℕ) → slice_get (drop first xs) place ≡ slice_get xs (first + place)
get_behind xs zero place = let same : 0 + place ≡ place = omega arith in rw same refl
get_behind [] (suc first) place = refl
get_behind (x ∷ xs) (suc first) place = let same : suc first + place ≡ suc (first + place) = omega arith in rw same (get_behind xs first place)

get_front : {X : Type 0} (xs : List X) (count place : ℕ) → place < count → slice_get (take count xs) place ≡ slice_get xs place
get_front xs zero place less = absurd (omega (arith, less))
get_front [] (suc count) place less = refl
get_front (x ∷ xs) (suc count) zero less = refl
get_front (x ∷ xs) (suc count) (suc place) less = get_front xs count place (omega (arith, less))

-- what has a place in a piece has one in the list
pub piece_within : {X : Type 0} (xs : List X) (first count place : ℕ) → place < length (take count (drop first xs)) → first + place < length xs
piece_within xs first count place within = omega (arith, within, length-take count (drop first xs), length-drop first xs)

-- how long a piece is
pub piece_length : {X : Type 0} (xs : List X) (first count : ℕ) → length (take count (drop first xs)) ≡ min (length xs - first) count
piece_length xs first count = omega (arith, length-take count (drop first xs), length-drop first xs)

-- the piece from a place on, where the list was looked up there
pub piece_from : {X : Type 0} (xs : List X) (first count place : ℕ) (x : X) → place < length (take count (drop first xs)) → Some x ≡ slice_get xs (first + place)
    → drop place (take count (drop first xs)) ≡ x ∷ drop (place + 1) (take count (drop first xs))
piece_from xs first count place x within found = drop_from_found (take count (drop first xs)) place x (get_front (drop first xs) count place front ∙ (get_behind xs first place ∙ sym found))
  where
    front : place < count
    front = omega (arith, within, length-take count (drop first xs))

-- of no lane there are no marks
pub no_lane_marks : (story : StoryView) (s : Span) (marks : List Mark) → length story.lanes ≤ s.lane → marks ≡ marks ++ span_marks story s
no_lane_marks story s marks past =
    sym (append-nil marks) ∙ ap (λ (ms : List Mark). marks ++ ms) (sym none)
  where
    none : span_marks story s ≡ []
    none = ap (λ (o : Option Lane). map (mark_of_entry (number_of s.lane s.traffic)) (entries_at o story s)) (slice_get_past story.lanes s.lane past)
