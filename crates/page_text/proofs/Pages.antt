-- Pages are markup, part by part.
use Rattle.std.proofs.Common.{refl}
use Rattle.std.specs.Prelude.{ℕ, ◌+◌, ◌/◌, List, [], ◌∷◌, ◌++◌}
use Rattle.std.specs.List.{flat_map}
use Rattle.page_text.specs.declared.look.Look.{Look}
use Rattle.page_text.specs.declared.drawing.Point.{Point}
use Rattle.page_text.specs.declared.drawing.Label.{Label}
use Rattle.page_text.specs.declared.drawing.Badge.{Badge}
use Rattle.page_text.specs.declared.drawing.Shape.{Shape}
use Rattle.page_text.specs.declared.drawing.Shape.TheVariants as shape
use Rattle.page_text.specs.declared.drawing.Drawing.{Drawing}
use Rattle.page_text.specs.declared.table.Cell.{Cell}
use Rattle.page_text.specs.declared.table.Table.{Table}
use Rattle.page_text.specs.declared.page.Part.{Part}
use Rattle.page_text.specs.declared.page.Part.TheVariants as part
use Rattle.page_text.specs.declared.tag.Tag.{Tag}
use Rattle.page_text.specs.declared.tag.Tag.TheVariants as tag
use Rattle.page_text.specs.declared.attribute.Attribute.TheVariants as attribute
use Rattle.page_text.specs.declared.drawing.Anchor.TheVariants as anchor
use Rattle.page_text.specs.Markup.{escaped}
use Rattle.page_text.specs.Shapes.{line_bytes, area_bytes, label_bytes, frame_bytes, inscription_bytes, badge_inside, badge_bytes, shape_bytes, drawing_bytes}
use Rattle.page_text.specs.Pages.{words_in, cell_bytes, row_bytes, heads_bytes, table_inside, table_bytes, part_bytes, heading_tag, head_bytes, body_bytes}
use Rattle.page_text.specs.Laws.{IsMarkup, nothing, text, beside, around, PagesAreMarkup}

-- what is markup for each of a list is markup one after the other
each : {X : Type 0} (f : X → List ℕ) → ((x : X) → IsMarkup (f x)) → (xs : List X) → IsMarkup (flat_map f xs)
each f one [] = nothing
each f one (x ∷ xs) = beside (f x) (flat_map f xs) (one x) (each f one xs)

-- ---- shapes

line_is : (look : Look) (from to : Point) → IsMarkup (line_bytes look from to)
line_is look from to =
    around tag.Line (attribute.Class look ∷ attribute.FromX from.x ∷ attribute.FromY from.y ∷ attribute.ToX to.x ∷ attribute.ToY to.y ∷ []) [] refl nothing

area_is : (look : Look) (corner : Point) (width height : ℕ) → IsMarkup (area_bytes look corner width height)
area_is look corner width height =
    around tag.Rectangle (attribute.Class look ∷ attribute.X corner.x ∷ attribute.Y corner.y ∷ attribute.Width width ∷ attribute.Height height ∷ []) [] refl nothing

label_is : (l : Label) → IsMarkup (label_bytes l)
label_is l =
    around tag.Text (attribute.Class l.look ∷ attribute.X l.at.x ∷ attribute.Y l.at.y ∷ attribute.Anchor l.anchor ∷ []) (escaped l.words) refl (text l.words)

frame_is : (b : Badge) → IsMarkup (frame_bytes b)
frame_is b =
    around tag.Rectangle (attribute.X b.corner.x ∷ attribute.Y b.corner.y ∷ attribute.Width b.width ∷ attribute.Height 16 ∷ []) [] refl nothing

inscription_is : (b : Badge) → IsMarkup (inscription_bytes b)
inscription_is b =
    around tag.Text (attribute.X (b.corner.x + b.width / 2) ∷ attribute.Y (b.corner.y + 12) ∷ attribute.Anchor anchor.Middle ∷ []) (escaped b.words) refl (text b.words)

words_are : (t : Tag) (words : List ℕ) → IsMarkup (words_in t words)
words_are t words = around t [] (escaped words) refl (text words)

badge_is : (b : Badge) → IsMarkup (badge_bytes b)
badge_is b =
    around tag.Group (attribute.Class b.look ∷ attribute.Lane b.lane ∷ []) (badge_inside b) refl
    (beside (words_in tag.Title b.tip) (frame_bytes b ++ inscription_bytes b) (words_are tag.Title b.tip)
    (beside (frame_bytes b) (inscription_bytes b) (frame_is b) (inscription_is b)))

shape_is : (s : Shape) → IsMarkup (shape_bytes s)
shape_is (shape.Line look from to) = line_is look from to
shape_is (shape.Area look corner width height) = area_is look corner width height
shape_is (shape.Label label) = label_is label
shape_is (shape.Badge badge) = badge_is badge

drawing_is : (d : Drawing) → IsMarkup (drawing_bytes d)
drawing_is d =
    around tag.Drawing (attribute.Width d.width ∷ attribute.ViewBox d.width d.height ∷ []) (flat_map shape_bytes d.shapes) refl (each shape_bytes shape_is d.shapes)

-- ---- tables

cell_is : (c : Cell) → IsMarkup (cell_bytes c)
cell_is c = around tag.Cell (attribute.Class c.look ∷ []) (escaped c.words) refl (text c.words)

row_is : (cells : List Cell) → IsMarkup (row_bytes cells)
row_is cells = around tag.TableRow [] (flat_map cell_bytes cells) refl (each cell_bytes cell_is cells)

heads_are : (columns : List (List ℕ)) → IsMarkup (heads_bytes columns)
heads_are columns = around tag.TableRow [] (flat_map (words_in tag.HeadCell) columns) refl (each (words_in tag.HeadCell) (words_are tag.HeadCell) columns)

table_is : (t : Table) → IsMarkup (table_bytes t)
table_is t =
    around tag.Table [] (table_inside t) refl
    (beside (words_in tag.Caption t.caption) (heads_bytes t.columns ++ flat_map row_bytes t.rows) (words_are tag.Caption t.caption)
    (beside (heads_bytes t.columns) (flat_map row_bytes t.rows) (heads_are t.columns) (each row_bytes row_is t.rows)))

-- ---- the whole

part_is : (p : Part) → IsMarkup (part_bytes p)
part_is (part.Heading level words) = words_are (heading_tag level) words
part_is (part.Paragraph look words) = around tag.Paragraph (attribute.Class look ∷ []) (escaped words) refl (text words)
part_is (part.Listing lines) = around tag.List [] (flat_map (words_in tag.Item) lines) refl (each (words_in tag.Item) (words_are tag.Item) lines)
part_is (part.Drawing drawing) = drawing_is drawing
part_is (part.Tables tables) = around tag.Row [] (flat_map table_bytes tables) refl (each table_bytes table_is tables)

head_is : (style title : List ℕ) → IsMarkup (head_bytes style title)
head_is style title =
    around tag.Head [] (words_in tag.Title title ++ words_in tag.Style style) refl
    (beside (words_in tag.Title title) (words_in tag.Style style) (words_are tag.Title title) (words_are tag.Style style))

body_is : (parts : List Part) → IsMarkup (body_bytes parts)
body_is parts = around tag.Body [] (flat_map part_bytes parts) refl (each part_bytes part_is parts)

pub pages_are_markup_lem : PagesAreMarkup
pages_are_markup_lem style page =
    around tag.Html [] (head_bytes style page.title ++ body_bytes page.parts) refl
    (beside (head_bytes style page.title) (body_bytes page.parts) (head_is style page.title) (body_is page.parts))
