-- How a storm begins: what is declared, the rows of the first site, and the end of Setup.
use Rattle.std.specs.Prelude.{ℕ, pos, true, false, List, [], ◌∷◌, ◌++◌, codes, map}
use Rattle.std.specs.List.{range_with_len}
use Rattle.rep_values.specs.declared.name.SiteName.{SiteName}
use Rattle.rep_values.specs.declared.name.TableName.{TableName}
use Rattle.rep_values.specs.declared.literal.Literal.TheVariants as literal
use Rattle.rep_schema.specs.declared.schema.Kind.TheVariants as kind
use Rattle.rep_schema.specs.declared.schema.Column.{Column}
use Rattle.rep_declare.specs.declared.declaration.Declare.TheVariants as declare
use Rattle.rep_declare.specs.declared.declaration.MethodWords.{MethodWords}
use Rattle.rep_declare.specs.declared.declaration.MethodWords.TheVariants as method_words
use Rattle.script_parse.specs.declared.command.Command.{Command}
use Rattle.script_parse.specs.declared.command.Command.TheVariants as command
use Rattle.script_parse.specs.Parts.{table_of}
use Rattle.script_parse.specs.Columns.{column_of}
use Rattle.storm_script.specs.Sites.{site_a, site_b, site_c}

-- the storm's table
abbrev pub stock : TableName
stock = table_of (codes "STOCK")

-- site A, site B, site C
abbrev pub site_lines : List Command
site_lines = command.Declare (declare.Site site_a) ∷ command.Declare (declare.Site site_b) ∷ command.Declare (declare.Site site_c) ∷ []

-- HOME:SITE:key ID:NUMBER:key QTY:NUMBER TOP:NUMBER NAME:TEXT CHG:STAMP BY:SITE
abbrev pub stock_columns : List Column
stock_columns =
    column_of (codes "HOME") kind.Site true ∷
    column_of (codes "ID") kind.Number true ∷
    column_of (codes "QTY") kind.Number false ∷
    column_of (codes "TOP") kind.Number false ∷
    column_of (codes "NAME") kind.Words false ∷
    column_of (codes "CHG") kind.Stamp false ∷
    column_of (codes "BY") kind.Site false ∷
    []

-- table STOCK and its columns
abbrev pub table_line : Command
table_line = command.Declare (declare.Table stock stock_columns)

-- group STOCK NAME NAME+
abbrev pub group_line : List ℕ → List (List ℕ) → Command
group_line group columns = command.Declare (declare.Group stock group columns)

-- method STOCK NAME M
abbrev pub method_line : List ℕ → MethodWords → Command
method_line group method = command.Declare (declare.Method stock group method)

-- the amounts of QTY are added
abbrev pub amount_lines : List Command
amount_lines = group_line (codes "q") (codes "QTY" ∷ []) ∷ method_line (codes "q") method_words.Additive ∷ []

-- the greatest TOP stays
abbrev pub greatest_lines : List Command
greatest_lines =
    group_line (codes "t") (codes "TOP" ∷ []) ∷
    method_line (codes "t") (method_words.Maximum (codes "TOP")) ∷
    method_line (codes "t") method_words.Discard ∷
    []

-- the latest NAME stays, and of two at one moment that of the site with the higher level
abbrev pub latest_lines : List Command
latest_lines =
    group_line (codes "n") (codes "NAME" ∷ codes "CHG" ∷ codes "BY" ∷ []) ∷
    method_line (codes "n") (method_words.Latest (codes "CHG")) ∷
    method_line (codes "n") (method_words.SitePriority (codes "BY")) ∷
    []

-- site-level NAME number
abbrev pub level_line : SiteName → ℕ → Command
level_line site level = command.Declare (declare.SiteLevel site (pos level))

-- site-level A 1, site-level B 2, site-level C 3
abbrev pub level_lines : List Command
level_lines = level_line site_a 1 ∷ level_line site_b 2 ∷ level_line site_c 3 ∷ []

-- convergent STOCK
abbrev pub convergent_line : Command
convergent_line = command.Declare (declare.Convergent stock)

-- all that is declared
abbrev pub declarations : List Command
declarations = site_lines ++ (table_line ∷ (amount_lines ++ (greatest_lines ++ (latest_lines ++ (level_lines ++ (convergent_line ∷ []))))))

-- row STOCK 'A' ID 1000 0 'base'
abbrev pub row_line : ℕ → Command
row_line id = command.Row stock
    (literal.Words (codes "A") ∷ literal.Num (pos id) ∷ literal.Num (pos 1000) ∷ literal.Num (pos 0) ∷ literal.Words (codes "base") ∷ [])

-- such a row for each ID below a number
abbrev pub row_lines : ℕ → List Command
row_lines number = map row_line (range_with_len 0 number)

-- the declarations, 100 rows, and resume
unfoldable pub opening : List Command
opening = declarations ++ (row_lines 100 ++ (command.Resume ∷ []))
