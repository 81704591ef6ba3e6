-- The page on which a run is drawn.
use Rattle.std.specs.Prelude.{◌≡◌, ◌≤◌, Bool, false, List, length, slice_get, flat_map, Some}
use Rattle.page_text.specs.declared.drawing.Drawing.{Drawing}
use Rattle.page_text.specs.declared.page.Part.{Part}
use Rattle.page_text.specs.declared.page.Part.TheVariants as part
use Rattle.lane_drawing.specs.Marks.{marks_of}
use Rattle.run_story.specs.Telling.{StoryView}
use Rattle.run_picture.specs.Marks.{DrawsJournals}
use Rattle.run_picture.specs.Folding.{shown_marks}

-- the fifth part is a drawing. Its marks are those of the lines that are shown, all of them in a run of at most 300 lines
pub record HasChart (story : StoryView) (parts : List Part) : Type 0 where
  pub drawing : Drawing
  pub folded : Bool
  pub here : slice_get parts 4 ≡ Some (part.Drawing drawing)
  pub shown : marks_of drawing.shapes ≡ flat_map (shown_marks story folded) story.lines
  pub short : length story.lines ≤ 300 → folded ≡ false

-- and where no line is left out, each entry of each journal is drawn once, in order, in the mark of its kind
pub record IsDrawnIn (story : StoryView) (parts : List Part) : Type 0 where
  pub chart : HasChart story parts
  pub whole : chart.folded ≡ false → DrawsJournals story (marks_of chart.drawing.shapes)
