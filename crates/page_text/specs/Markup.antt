-- Texts and elements as bytes, and which bytes are markup.
use Rattle.std.specs.Prelude.{ℕ, ◌==◌, ◌&&◌, ◌||◌, nat_le, Bool, cond, List, [], ◌∷◌, ◌++◌, flat_map, decimal, codes}
use Rattle.page_text.specs.declared.tag.Tag.{Tag}
use Rattle.page_text.specs.declared.tag.Tag.TheVariants as tag
use Rattle.page_text.specs.declared.attribute.Attribute.{Attribute}
use Rattle.page_text.specs.declared.attribute.Attribute.TheVariants as attribute
use Rattle.page_text.specs.Looks.{look_name, anchor_name}

-- ---- texts

-- a byte that is shown as it is: printable, or the end of a line
abbrev pub is_plain : ℕ → Bool
is_plain b = (nat_le 32 b && nat_le b 126) || b == 10

-- what stands for a byte of a text: a reference for what would be read as markup, and a question mark for what can't be shown
abbrev pub unit_of : ℕ → List ℕ
unit_of b = cond (b == 38) (codes "&amp;") (cond (b == 60) (codes "&lt;") (cond (b == 62) (codes "&gt;")
    (cond (b == 34) (codes "&quot;") (cond (is_plain b) (b ∷ []) (codes "?")))))

-- a text as markup
abbrev pub escaped : List ℕ → List ℕ
escaped text = flat_map unit_of text

-- ---- elements

-- the name of an element
abbrev pub tag_name : Tag → List ℕ
tag_name tag.Html = codes "html"
tag_name tag.Head = codes "head"
tag_name tag.Title = codes "title"
tag_name tag.Style = codes "style"
tag_name tag.Body = codes "body"
tag_name tag.PageHeading = codes "h1"
tag_name tag.ChapterHeading = codes "h2"
tag_name tag.SectionHeading = codes "h3"
tag_name tag.Paragraph = codes "p"
tag_name tag.List = codes "ul"
tag_name tag.Item = codes "li"
tag_name tag.Row = codes "div"
tag_name tag.Table = codes "table"
tag_name tag.Caption = codes "caption"
tag_name tag.TableRow = codes "tr"
tag_name tag.HeadCell = codes "th"
tag_name tag.Cell = codes "td"
tag_name tag.Drawing = codes "svg"
tag_name tag.Group = codes "g"
tag_name tag.Line = codes "line"
tag_name tag.Rectangle = codes "rect"
tag_name tag.Text = codes "text"

-- the name of an attribute
abbrev pub attribute_name : Attribute → List ℕ
attribute_name (attribute.Class look) = codes "class"
attribute_name (attribute.X number) = codes "x"
attribute_name (attribute.Y number) = codes "y"
attribute_name (attribute.FromX number) = codes "x1"
attribute_name (attribute.FromY number) = codes "y1"
attribute_name (attribute.ToX number) = codes "x2"
attribute_name (attribute.ToY number) = codes "y2"
attribute_name (attribute.Width number) = codes "width"
attribute_name (attribute.Height number) = codes "height"
attribute_name (attribute.ViewBox width height) = codes "viewBox"
attribute_name (attribute.Anchor anchor) = codes "text-anchor"
attribute_name (attribute.Lane number) = codes "data-lane"

-- what a drawing shows: all from its upper left corner on
abbrev pub view_box : ℕ → ℕ → List ℕ
view_box width height = codes "0 0 " ++ (decimal width ++ 32 ∷ decimal height)

-- the value of an attribute
abbrev pub attribute_value : Attribute → List ℕ
attribute_value (attribute.Class look) = look_name look
attribute_value (attribute.X number) = decimal number
attribute_value (attribute.Y number) = decimal number
attribute_value (attribute.FromX number) = decimal number
attribute_value (attribute.FromY number) = decimal number
attribute_value (attribute.ToX number) = decimal number
attribute_value (attribute.ToY number) = decimal number
attribute_value (attribute.Width number) = decimal number
attribute_value (attribute.Height number) = decimal number
attribute_value (attribute.ViewBox width height) = view_box width height
attribute_value (attribute.Anchor anchor) = anchor_name anchor
attribute_value (attribute.Lane number) = decimal number

-- a space, NAME="VALUE"
abbrev pub attribute_text : Attribute → List ℕ
attribute_text a = 32 ∷ (attribute_name a ++ (codes "=\"" ++ (attribute_value a ++ 34 ∷ [])))

-- <NAME ATTRIBUTES>
abbrev pub opened : Tag → List Attribute → List ℕ
opened tag attributes = 60 ∷ (tag_name tag ++ (flat_map attribute_text attributes ++ 62 ∷ []))

-- </NAME>, and the end of a line
abbrev pub closed : Tag → List ℕ
closed tag = codes "</" ++ (tag_name tag ++ codes ">\n")

-- an element with these bytes inside
abbrev pub element : Tag → List Attribute → List ℕ → List ℕ
element tag attributes inside = opened tag attributes ++ (inside ++ closed tag)
