-- The parts that forms share.
use Rattle.std.specs.Prelude.{ℕ, ℤ, List, [], ◌∷◌, Option, codes}
use Rattle.rep_values.specs.declared.literal.Literal.{Literal}
use Rattle.rep_values.specs.declared.name.SiteName.{SiteName}
use Rattle.rep_values.specs.declared.name.TableName.{TableName}
use Rattle.rep_schema.specs.declared.check.Rel.{Rel}
use Rattle.rep_schema.specs.declared.check.Rel.TheVariants as rel
use Rattle.rep_calls.specs.declared.statement.Set.{Set}
use Rattle.rep_calls.specs.declared.statement.How.TheVariants as how
use Rattle.net_plan.specs.declared.fate.Fate.{Fate}
use Rattle.net_plan.specs.declared.fate.Fate.TheVariants as fate
use Rattle.script_words.specs.Reading.{Reading, ◌>>=◌, row, ◌⊛◌, ◌⊘◌, optional, either, separated}
use Rattle.script_words.specs.Parts.{name, number, value, choice}
use Rattle.script_parse.specs.declared.command.TestWords.{TestWords}
use Rattle.script_parse.specs.declared.command.Link.{Link}
use Rattle.script_parse.specs.declared.command.Link.TheVariants as link
use Rattle.script_parse.specs.declared.command.Refresh.{Refresh}
use Rattle.script_parse.specs.declared.command.Refresh.TheVariants as refresh
use Rattle.script_parse.specs.declared.command.Shown.{Shown}
use Rattle.script_parse.specs.declared.command.Shown.TheVariants as shown

-- the site's name that bytes are
abbrev pub site_of : List ℕ → SiteName
site_of n = record { 0 = n }

-- the table's name that bytes are
abbrev pub table_of : List ℕ → TableName
table_of n = record { 0 = n }

-- NAME, of a site
abbrev pub site : Reading SiteName
site = row site_of ⊛ name

-- NAME, of a table
abbrev pub table : Reading TableName
table = row table_of ⊛ name

-- OP
abbrev pub rels : List (List ℕ × Rel)
rels =
    (codes "=", rel.Eq) ∷
    (codes "!=", rel.Ne) ∷
    (codes "<", rel.Lt) ∷
    (codes "<=", rel.Le) ∷
    (codes ">", rel.Gt) ∷
    (codes ">=", rel.Ge) ∷
    []

-- a test by its parts
abbrev pub test_of : List ℕ → Rel → Literal → TestWords
test_of c r v = record { column = c; rel = r; value = v }

-- TEST: NAME OP VALUE
unfoldable pub row_test : Reading TestWords
row_test = row test_of ⊛ name ⊛ choice rels ⊛ value

-- [where TEST [and TEST]..]
abbrev pub where_tests : Reading (Option (List TestWords))
where_tests = optional (codes "where") (separated (codes "and") row_test)

-- a column that gets a value
abbrev pub to_value : List ℕ → Literal → Set
to_value c v = record { column = c; how = how.To v }

-- a column to which an amount is added
abbrev pub by_amount : List ℕ → ℤ → Set
by_amount c n = record { column = c; how = how.Add n }

-- = VALUE or + number, behind a column
abbrev pub setting : List ℕ → Reading Set
setting c = either (codes "=") (row (to_value c) ⊘ codes "=" ⊛ value) (row (by_amount c) ⊘ codes "+" ⊛ number)

-- SET: NAME = VALUE or NAME + number
unfoldable pub set_part : Reading Set
set_part ts = name ts >>= λ column. setting column.0 column.1

-- FATE
abbrev pub fates : List (List ℕ × Fate)
fates =
    (codes "pass", fate.Pass) ∷
    (codes "lose", fate.Lose) ∷
    (codes "twice", fate.Twice) ∷
    (codes "late", fate.Late) ∷
    []

-- up|down
abbrev pub links : List (List ℕ × Link)
links = (codes "up", link.Up) ∷ (codes "down", link.Down) ∷ []

-- fast|complete|force
abbrev pub refreshes : List (List ℕ × Refresh)
refreshes = (codes "fast", refresh.Fast) ∷ (codes "complete", refresh.Complete) ∷ (codes "force", refresh.Force) ∷ []

-- tables|queue|errors|marks|journal|log|calls
abbrev pub shown_words : List (List ℕ × Shown)
shown_words =
    (codes "tables", shown.Tables) ∷
    (codes "queue", shown.Queue) ∷
    (codes "errors", shown.Errors) ∷
    (codes "marks", shown.Marks) ∷
    (codes "journal", shown.Journal) ∷
    (codes "log", shown.Log) ∷
    (codes "calls", shown.Calls) ∷
    []
