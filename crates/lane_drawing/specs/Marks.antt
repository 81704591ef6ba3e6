-- The marks among the shapes of a drawing.
use Rattle.std.specs.Prelude.{ℕ, List, [], ◌∷◌, flat_map}
use Rattle.page_text.specs.declared.look.Look.{Look}
use Rattle.page_text.specs.declared.drawing.Badge.{Badge}
use Rattle.page_text.specs.declared.drawing.Shape.{Shape}
use Rattle.page_text.specs.declared.drawing.Shape.TheVariants as shape

-- a mark: a number, and how it looks
pub record Mark : Type 0 where
  pub number : ℕ
  pub look : Look

-- the mark that a badge is
abbrev pub mark_of_badge : Badge → Mark
mark_of_badge b = record { number = b.lane; look = b.look }

-- badges are marks, and no other shape is
abbrev pub marks_in : Shape → List Mark
marks_in (shape.Line look from to) = []
marks_in (shape.Area look corner width height) = []
marks_in (shape.Label label) = []
marks_in (shape.Badge badge) = mark_of_badge badge ∷ []

-- the marks among shapes, in their order
abbrev pub marks_of : List Shape → List Mark
marks_of shapes = flat_map marks_in shapes
