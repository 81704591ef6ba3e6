-- The parts of a page on which a run is drawn.
use Rattle.std.proofs.Common.{◌≡◌, ℕ, zero, suc, ◌≤◌, List, [], ◌∷◌, ◌++◌, length, refl, ap, ◌∙◌}
use Rattle.std.specs.Prelude.{Bool, false, slice_get, flat_map, Some}
use Rattle.page_text.specs.declared.drawing.Drawing.{Drawing}
use Rattle.page_text.specs.declared.page.Part.{Part}
use Rattle.page_text.specs.declared.page.Part.TheVariants as part
use Rattle.lane_drawing.specs.Marks.{marks_of}
use Rattle.run_story.specs.Telling.{StoryView, TellsJournals}
use Rattle.run_picture.specs.Folding.{shown_marks}
use Rattle.run_picture.specs.Drawn.{HasChart, IsDrawnIn}
use Rattle.run_picture.proofs.Journals.{whole_stories_are_drawn}

-- the drawing behind four parts
pub five_parts : (story : StoryView) (a b c d : Part) (drawing : Drawing) (folded : Bool) → marks_of drawing.shapes ≡ flat_map (shown_marks story folded) story.lines
    → (length story.lines ≤ 300 → folded ≡ false) → HasChart story (a ∷ b ∷ c ∷ d ∷ part.Drawing drawing ∷ [])
five_parts story a b c d drawing folded shown short = record { drawing = drawing; folded = folded; here = refl; shown = shown; short = short }

found_before : {X : Type 0} (xs ys : List X) (i : ℕ) (x : X) → slice_get xs i ≡ Some x → slice_get (xs ++ ys) i ≡ Some x
found_before [] ys i x found = absurd cc
found_before (y ∷ xs) ys zero x found = found
found_before (y ∷ xs) ys (suc i) x found = found_before xs ys i x found

-- more parts behind it, and a story that tells the journals
pub whole_page : (story : StoryView) (parts rest : List Part) → HasChart story parts → TellsJournals story → IsDrawnIn story (parts ++ rest)
whole_page story parts rest chart tells = record {
  chart = record { drawing = chart.drawing; folded = chart.folded; here = found_before parts rest 4 (part.Drawing chart.drawing) chart.here; shown = chart.shown; short = chart.short };
  whole = λ all. whole_stories_are_drawn story (marks_of chart.drawing.shapes) tells (chart.shown ∙ ap (λ (b : Bool). flat_map (shown_marks story b) story.lines) all);
}
