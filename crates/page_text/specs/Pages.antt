-- Pages, their parts and their tables as bytes.
use Rattle.std.specs.Prelude.{ℕ, List, [], ◌∷◌, ◌++◌, flat_map, codes}
use Rattle.page_text.specs.declared.table.Cell.{Cell}
use Rattle.page_text.specs.declared.table.Table.{Table}
use Rattle.page_text.specs.declared.page.Heading.{Heading}
use Rattle.page_text.specs.declared.page.Heading.TheVariants as heading
use Rattle.page_text.specs.declared.page.Part.{Part}
use Rattle.page_text.specs.declared.page.Part.TheVariants as part
use Rattle.page_text.specs.declared.page.Page.{Page}
use Rattle.page_text.specs.declared.tag.Tag.{Tag}
use Rattle.page_text.specs.declared.tag.Tag.TheVariants as tag
use Rattle.page_text.specs.declared.attribute.Attribute.TheVariants as attribute
use Rattle.page_text.specs.Markup.{escaped, element}
use Rattle.page_text.specs.Shapes.{drawing_bytes}

-- ---- tables

-- an element with a text and nothing else
abbrev pub words_in : Tag → List ℕ → List ℕ
words_in tag words = element tag [] (escaped words)

-- a cell
abbrev pub cell_bytes : Cell → List ℕ
cell_bytes c = element tag.Cell (attribute.Class c.look ∷ []) (escaped c.words)

-- a row of cells
abbrev pub row_bytes : List Cell → List ℕ
row_bytes cells = element tag.TableRow [] (flat_map cell_bytes cells)

-- the heads of columns
abbrev pub heads_bytes : List (List ℕ) → List ℕ
heads_bytes columns = element tag.TableRow [] (flat_map (words_in tag.HeadCell) columns)

-- what a table has in it: its caption, the heads of its columns, and its rows
abbrev pub table_inside : Table → List ℕ
table_inside t = words_in tag.Caption t.caption ++ (heads_bytes t.columns ++ flat_map row_bytes t.rows)

-- a table
abbrev pub table_bytes : Table → List ℕ
table_bytes t = element tag.Table [] (table_inside t)

-- ---- parts

-- the element of a heading
abbrev pub heading_tag : Heading → Tag
heading_tag heading.Page = tag.PageHeading
heading_tag heading.Chapter = tag.ChapterHeading
heading_tag heading.Section = tag.SectionHeading

-- a part
abbrev pub part_bytes : Part → List ℕ
part_bytes (part.Heading level words) = words_in (heading_tag level) words
part_bytes (part.Paragraph look words) = element tag.Paragraph (attribute.Class look ∷ []) (escaped words)
part_bytes (part.Listing lines) = element tag.List [] (flat_map (words_in tag.Item) lines)
part_bytes (part.Drawing drawing) = drawing_bytes drawing
part_bytes (part.Tables tables) = element tag.Row [] (flat_map table_bytes tables)

-- ---- pages

-- the head of a page: its title and its style sheet
abbrev pub head_bytes : List ℕ → List ℕ → List ℕ
head_bytes style title = element tag.Head [] (words_in tag.Title title ++ words_in tag.Style style)

-- the body of a page: its parts
abbrev pub body_bytes : List Part → List ℕ
body_bytes parts = element tag.Body [] (flat_map part_bytes parts)

-- the one element that a page is, with this style sheet
abbrev pub root_bytes : List ℕ → Page → List ℕ
root_bytes style page = element tag.Html [] (head_bytes style page.title ++ body_bytes page.parts)

-- a page: the line that says that it is HTML, and its element
abbrev pub page_bytes : List ℕ → Page → List ℕ
page_bytes style page = codes "<!DOCTYPE html>\n" ++ root_bytes style page
