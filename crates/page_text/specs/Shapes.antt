-- Drawings and their shapes as bytes.
use Rattle.std.specs.Prelude.{ℕ, ◌+◌, ◌/◌, List, [], ◌∷◌, ◌++◌, flat_map}
use Rattle.page_text.specs.declared.look.Look.{Look}
use Rattle.page_text.specs.declared.drawing.Point.{Point}
use Rattle.page_text.specs.declared.drawing.Anchor.TheVariants as anchor
use Rattle.page_text.specs.declared.drawing.Label.{Label}
use Rattle.page_text.specs.declared.drawing.Badge.{Badge}
use Rattle.page_text.specs.declared.drawing.Shape.{Shape}
use Rattle.page_text.specs.declared.drawing.Shape.TheVariants as shape
use Rattle.page_text.specs.declared.drawing.Drawing.{Drawing}
use Rattle.page_text.specs.declared.tag.Tag.TheVariants as tag
use Rattle.page_text.specs.declared.attribute.Attribute.TheVariants as attribute
use Rattle.page_text.specs.Markup.{escaped, element}

-- a line
abbrev pub line_bytes : Look → Point → Point → List ℕ
line_bytes look from to =
    element tag.Line (attribute.Class look ∷ attribute.FromX from.x ∷ attribute.FromY from.y ∷ attribute.ToX to.x ∷ attribute.ToY to.y ∷ []) []

-- a rectangle
abbrev pub area_bytes : Look → Point → ℕ → ℕ → List ℕ
area_bytes look corner width height =
    element tag.Rectangle (attribute.Class look ∷ attribute.X corner.x ∷ attribute.Y corner.y ∷ attribute.Width width ∷ attribute.Height height ∷ []) []

-- a label
abbrev pub label_bytes : Label → List ℕ
label_bytes l = element tag.Text (attribute.Class l.look ∷ attribute.X l.at.x ∷ attribute.Y l.at.y ∷ attribute.Anchor l.anchor ∷ []) (escaped l.words)

-- the frame of a badge is 16 high
abbrev pub frame_bytes : Badge → List ℕ
frame_bytes b = element tag.Rectangle (attribute.X b.corner.x ∷ attribute.Y b.corner.y ∷ attribute.Width b.width ∷ attribute.Height 16 ∷ []) []

-- its words stand in the middle
abbrev pub inscription_bytes : Badge → List ℕ
inscription_bytes b = element tag.Text (attribute.X (b.corner.x + b.width / 2) ∷ attribute.Y (b.corner.y + 12) ∷ attribute.Anchor anchor.Middle ∷ []) (escaped b.words)

-- what a badge has in it: what is shown to who points at it, its frame, and its words
abbrev pub badge_inside : Badge → List ℕ
badge_inside b = element tag.Title [] (escaped b.tip) ++ (frame_bytes b ++ inscription_bytes b)

-- a badge
abbrev pub badge_bytes : Badge → List ℕ
badge_bytes b = element tag.Group (attribute.Class b.look ∷ attribute.Lane b.lane ∷ []) (badge_inside b)

-- a shape
abbrev pub shape_bytes : Shape → List ℕ
shape_bytes (shape.Line look from to) = line_bytes look from to
shape_bytes (shape.Area look corner width height) = area_bytes look corner width height
shape_bytes (shape.Label label) = label_bytes label
shape_bytes (shape.Badge badge) = badge_bytes badge

-- a drawing
abbrev pub drawing_bytes : Drawing → List ℕ
drawing_bytes d = element tag.Drawing (attribute.Width d.width ∷ attribute.ViewBox d.width d.height ∷ []) (flat_map shape_bytes d.shapes)
