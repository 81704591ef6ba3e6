-- What is shown of a line, and shapes behind others.
use Rattle.std.proofs.Common.{◌≡◌, List, [], ◌∷◌, ◌++◌, refl, sym, ap, ◌∙◌}
use Rattle.std.specs.Prelude.{◌↔◌, IsTrue, Bool, true, false, cond, not, ◌||◌, flat_map}
use Rattle.std.proofs.lemmas.Grind.{flat_map-append}
use Rattle.page_text.specs.declared.drawing.Shape.{Shape}
use Rattle.lane_drawing.specs.Marks.{Mark, marks_in, marks_of}
use Rattle.live_laws.specs.declared.turn.LiveTurn.{LiveTurn}
use Rattle.run_story.specs.declared.happening.Line.{Line}
use Rattle.run_story.specs.declared.happening.Span.{Span}
use Rattle.run_story.specs.Telling.{StoryView}
use Rattle.run_picture.specs.declared.folding.Showing.{Showing}
use Rattle.run_picture.specs.declared.folding.Showing.TheVariants as showing
use Rattle.run_picture.specs.Marks.{span_marks, line_marks}
use Rattle.run_picture.specs.Folding.{has_turns, is_to_see, marks_as, IsShowing}

-- of a line to whose journals nothing came there are no marks
no_marks : (story : StoryView) (line : Line) → line.entries ≡ [] → line_marks story line ≡ []
no_marks story line still = ap (λ (spans : List Span). flat_map (span_marks story) spans) still

none_either_way : (b : Bool) (marks : List Mark) → marks ≡ [] → cond b marks [] ≡ []
none_either_way true marks none = none
none_either_way false marks none = refl

-- so whatever becomes of it, the marks are right
pub still_shows : (story : StoryView) (folded : Bool) (line : Line) (how : Showing) → line.entries ≡ [] → IsShowing story folded line how
still_shows story folded line how still = none_either_way (not folded || is_to_see story line) (line_marks story line) none ∙ sym (nothing how)
  where
    none : line_marks story line ≡ []
    none = no_marks story line still

    nothing : (h : Showing) → marks_as h story line ≡ []
    nothing showing.Drawn = none
    nothing showing.Folded = refl
    nothing showing.Left = refl

-- turns were made, as far as it is known whether there are none
pub turns_there : (turns : List LiveTurn) (b : Bool) → (IsTrue b ↔ (turns ≡ [])) → not b ≡ has_turns turns
turns_there [] true is = refl
turns_there [] false is = sym (is.1 refl)
turns_there (turn ∷ turns) true is = absurd (let none : turn ∷ turns ≡ [] = is.0 refl in cc)
turns_there (turn ∷ turns) false is = refl

-- the marks among shapes behind others
pub marks_behind : (front back : List Shape) → marks_of (front ++ back) ≡ marks_of front ++ marks_of back
marks_behind front back = flat_map-append marks_in front back
