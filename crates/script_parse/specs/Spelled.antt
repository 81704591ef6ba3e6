-- How commands are written.
use Rattle.std.specs.Prelude.{◌≡◌, ◌≢◌, ℕ, ℤ, true, false, if◌then◌else◌, List, [], ◌∷◌, ◌++◌, Option, Some, None, codes, flat_map}
use Rattle.std.specs.List.{AllByRecursion}
use Rattle.rep_values.specs.Name.{is_name}
use Rattle.rep_values.specs.declared.literal.Literal.{Literal}
use Rattle.rep_values.specs.declared.literal.Literal.TheVariants as literal
use Rattle.rep_values.specs.declared.name.SiteName.{SiteName}
use Rattle.rep_values.specs.declared.name.TableName.{TableName}
use Rattle.rep_schema.specs.declared.schema.Kind.{Kind}
use Rattle.rep_schema.specs.declared.schema.Kind.TheVariants as kind
use Rattle.rep_schema.specs.declared.schema.Column.{Column}
use Rattle.rep_schema.specs.Kinds.{is_plain}
use Rattle.rep_schema.specs.declared.check.Rel.{Rel}
use Rattle.rep_schema.specs.declared.check.Rel.TheVariants as rel
use Rattle.rep_declare.specs.declared.declaration.Declare.{Declare}
use Rattle.rep_declare.specs.declared.declaration.Declare.TheVariants as declare
use Rattle.rep_declare.specs.declared.declaration.MethodWords.{MethodWords}
use Rattle.rep_declare.specs.declared.declaration.MethodWords.TheVariants as method_words
use Rattle.rep_declare.specs.declared.declaration.UniqueWords.{UniqueWords}
use Rattle.rep_declare.specs.declared.declaration.UniqueWords.TheVariants as unique_words
use Rattle.rep_calls.specs.declared.statement.Set.{Set}
use Rattle.rep_calls.specs.declared.statement.How.{How}
use Rattle.rep_calls.specs.declared.statement.How.TheVariants as how
use Rattle.rep_calls.specs.declared.statement.Statement.{Statement}
use Rattle.rep_calls.specs.declared.statement.Statement.TheVariants as statement
use Rattle.net_plan.specs.declared.fate.Fate.{Fate}
use Rattle.net_plan.specs.declared.fate.Fate.TheVariants as fate
use Rattle.script_lex.specs.declared.token.Symbol.{Symbol}
use Rattle.script_lex.specs.declared.token.Symbol.TheVariants as symbol
use Rattle.script_lex.specs.declared.token.Token.{Token}
use Rattle.script_lex.specs.declared.token.Token.TheVariants as token
use Rattle.script_words.specs.Words.{is_mark}
use Rattle.script_words.specs.Spelled.{value_token, is_small}
use Rattle.script_parse.specs.declared.command.TestWords.{TestWords}
use Rattle.script_parse.specs.declared.command.ParentWords.{ParentWords}
use Rattle.script_parse.specs.declared.command.Link.{Link}
use Rattle.script_parse.specs.declared.command.Link.TheVariants as link
use Rattle.script_parse.specs.declared.command.Refresh.{Refresh}
use Rattle.script_parse.specs.declared.command.Refresh.TheVariants as refresh
use Rattle.script_parse.specs.declared.command.Shown.{Shown}
use Rattle.script_parse.specs.declared.command.Shown.TheVariants as shown
use Rattle.script_parse.specs.declared.command.Command.{Command}
use Rattle.script_parse.specs.declared.command.Command.TheVariants as command
use Rattle.script_parse.specs.declared.proc_line.ActionWords.{ActionWords}
use Rattle.script_parse.specs.declared.proc_line.ActionWords.TheVariants as action_words
use Rattle.script_parse.specs.declared.proc_line.ProcLine.{ProcLine}
use Rattle.script_parse.specs.declared.proc_line.ProcLine.TheVariants as proc_line

-- Words and symbols of choices.

-- the word of a type
abbrev pub kind_word : Kind → List ℕ
kind_word kind.Number = codes "NUMBER"
kind_word kind.Words = codes "TEXT"
kind_word kind.Date = codes "DATE"
kind_word kind.Stamp = codes "STAMP"
kind_word kind.Site = codes "SITE"

-- the symbol of a relation
abbrev pub rel_symbol : Rel → Symbol
rel_symbol rel.Eq = symbol.Eq
rel_symbol rel.Ne = symbol.Ne
rel_symbol rel.Lt = symbol.Lt
rel_symbol rel.Le = symbol.Le
rel_symbol rel.Gt = symbol.Gt
rel_symbol rel.Ge = symbol.Ge

-- the word of a fate
abbrev pub fate_word : Fate → List ℕ
fate_word fate.Pass = codes "pass"
fate_word fate.Lose = codes "lose"
fate_word fate.Twice = codes "twice"
fate_word fate.Late = codes "late"

-- the word of a link's state
abbrev pub link_word : Link → List ℕ
link_word link.Up = codes "up"
link_word link.Down = codes "down"

-- the word of a way to refresh
abbrev pub refresh_word : Refresh → List ℕ
refresh_word refresh.Fast = codes "fast"
refresh_word refresh.Complete = codes "complete"
refresh_word refresh.Force = codes "force"

-- the word of what is shown
abbrev pub shown_word : Shown → List ℕ
shown_word shown.Tables = codes "tables"
shown_word shown.Queue = codes "queue"
shown_word shown.Errors = codes "errors"
shown_word shown.Marks = codes "marks"
shown_word shown.Journal = codes "journal"
shown_word shown.Log = codes "log"
shown_word shown.Calls = codes "calls"

-- Parts.

-- the token of a number with its sign
abbrev pub number_token : ℤ → Token
number_token n = value_token (literal.Num n)

-- the tokens of a column
abbrev pub column_tokens : Column → List Token
column_tokens c =
    token.Word c.name ∷ token.Symbol symbol.Colon ∷ token.Word (kind_word c.kind) ∷
    (if c.key then token.Symbol symbol.Colon ∷ token.Word (codes "key") ∷ [] else [])

-- the tokens of names in a row
abbrev pub name_tokens : List (List ℕ) → List Token
name_tokens names = flat_map (λ n. token.Word n ∷ []) names

-- the tokens of values in a row
abbrev pub value_tokens : List Literal → List Token
value_tokens values = flat_map (λ v. value_token v ∷ []) values

-- the tokens of fates in a row
abbrev pub fate_tokens : List Fate → List Token
fate_tokens fates = flat_map (λ f. token.Word (fate_word f) ∷ []) fates

-- the tokens of a group's method
abbrev pub method_tokens : MethodWords → List Token
method_tokens (method_words.Latest column) = token.Word (codes "latest") ∷ token.Word column ∷ []
method_tokens (method_words.Earliest column) = token.Word (codes "earliest") ∷ token.Word column ∷ []
method_tokens method_words.Overwrite = token.Word (codes "overwrite") ∷ []
method_tokens method_words.Discard = token.Word (codes "discard") ∷ []
method_tokens method_words.Additive = token.Word (codes "additive") ∷ []
method_tokens method_words.Average = token.Word (codes "average") ∷ []
method_tokens (method_words.Maximum column) = token.Word (codes "maximum") ∷ token.Word column ∷ []
method_tokens (method_words.Minimum column) = token.Word (codes "minimum") ∷ token.Word column ∷ []
method_tokens (method_words.Priority column group) = token.Word (codes "priority") ∷ token.Word column ∷ token.Word group ∷ []
method_tokens (method_words.SitePriority column) = token.Word (codes "site-priority") ∷ token.Word column ∷ []

-- the tokens of a constraint's method
abbrev pub unique_tokens : UniqueWords → List Token
unique_tokens (unique_words.AppendSite column) = token.Word (codes "append-site") ∷ token.Word column ∷ []
unique_tokens (unique_words.AppendSequence column) = token.Word (codes "append-sequence") ∷ token.Word column ∷ []
unique_tokens unique_words.Discard = token.Word (codes "discard") ∷ []

-- the tokens of a test
abbrev pub test_tokens : TestWords → List Token
test_tokens t = token.Word t.column ∷ token.Symbol (rel_symbol t.rel) ∷ value_token t.value ∷ []

-- parts with a mark before each but the first
abbrev pub separated_tokens : {A : Type 0} → Token → (A → List Token) → List A → List Token
separated_tokens m spell [] = []
separated_tokens m spell (x ∷ xs) = spell x ++ flat_map (λ y. m ∷ spell y) xs

-- the tokens of the tests of a snapshot, if there are some
abbrev pub where_tokens : Option (List TestWords) → List Token
where_tokens None = []
where_tokens (Some tests) = token.Word (codes "where") ∷ separated_tokens (token.Word (codes "and")) test_tokens tests

-- the tokens of what becomes of a column
abbrev pub how_tokens : How → List Token
how_tokens (how.To v) = token.Symbol symbol.Eq ∷ value_token v ∷ []
how_tokens (how.Add n) = token.Symbol symbol.Plus ∷ number_token n ∷ []

-- the tokens of a set
abbrev pub set_tokens : Set → List Token
set_tokens s = token.Word s.column ∷ how_tokens s.how

-- the tokens of a count, if there is one
abbrev pub count_tokens : Option ℕ → List Token
count_tokens None = []
count_tokens (Some n) = token.Word (codes "count") ∷ token.Number false n ∷ []

-- Lines.

-- the tokens of a declaration
abbrev pub declared : Declare → List Token
declared (declare.Site name) = token.Word (codes "site") ∷ token.Word name.0 ∷ []
declared (declare.LateSite name) = token.Word (codes "latesite") ∷ token.Word name.0 ∷ []
declared (declare.SnapSite name master) = token.Word (codes "snapsite") ∷ token.Word name.0 ∷ token.Word master.0 ∷ []
declared (declare.Table name columns) = token.Word (codes "table") ∷ token.Word name.0 ∷ flat_map column_tokens columns
declared (declare.Group table group columns) = token.Word (codes "group") ∷ token.Word table.0 ∷ token.Word group ∷ name_tokens columns
declared (declare.Method table group method) = token.Word (codes "method") ∷ token.Word table.0 ∷ token.Word group ∷ method_tokens method
declared (declare.Priority group v level) = token.Word (codes "priority") ∷ token.Word group ∷ value_token v ∷ number_token level ∷ []
declared (declare.SiteLevel site level) = token.Word (codes "site-level") ∷ token.Word site.0 ∷ number_token level ∷ []
declared (declare.Unique table constraint columns) = token.Word (codes "unique") ∷ token.Word table.0 ∷ token.Word constraint ∷ name_tokens columns
declared (declare.UniqueMethod table constraint method) =
    token.Word (codes "unique-method") ∷ token.Word table.0 ∷ token.Word constraint ∷ unique_tokens method
declared (declare.Check table check column r v) =
    token.Word (codes "check") ∷ token.Word table.0 ∷ token.Word check ∷ token.Word column ∷ token.Symbol (rel_symbol r) ∷ value_token v ∷ []
declared (declare.Convergent table) = token.Word (codes "convergent") ∷ token.Word table.0 ∷ []

-- the tokens of a statement
abbrev pub stated : Statement → List Token
stated (statement.Insert table values) = token.Word (codes "insert") ∷ token.Word table.0 ∷ value_tokens values
stated (statement.Update table key sets) =
    token.Word (codes "update") ∷ token.Word table.0 ∷
    (value_tokens key ++ token.Symbol symbol.Colon ∷ separated_tokens (token.Symbol symbol.Comma) set_tokens sets)
stated (statement.Delete table key) = token.Word (codes "delete") ∷ token.Word table.0 ∷ value_tokens key

-- the tokens of sites in a row
abbrev pub site_tokens : List SiteName → List Token
site_tokens sites = flat_map (λ (s : SiteName). token.Word s.0 ∷ []) sites

-- the tokens of what a procedure does
abbrev pub action_tokens : ActionWords → List Token
action_tokens action_words.Put = token.Word (codes "put") ∷ []
action_tokens (action_words.Add column tests) = token.Word (codes "add") ∷ token.Word column ∷ where_tokens tests
action_tokens (action_words.Drop tests) = token.Word (codes "drop") ∷ where_tokens tests

-- the tokens of a line about procedures
abbrev pub proc_spelled : ProcLine → List Token
proc_spelled (proc_line.Table table columns) = token.Word (codes "proctable") ∷ token.Word table.0 ∷ flat_map column_tokens columns
proc_spelled (proc_line.Procedure p table does) = token.Word (codes "procedure") ∷ token.Word p ∷ token.Word table.0 ∷ action_tokens does
proc_spelled (proc_line.Calls site) = token.Word (codes "calls") ∷ token.Word site.0 ∷ []
proc_spelled (proc_line.Call call) = token.Word (codes "call") ∷ token.Word call.procedure ∷ value_tokens call.values
proc_spelled (proc_line.Send to) = token.Word (codes "send") ∷ site_tokens to
proc_spelled (proc_line.Push from to) = token.Word (codes "push-calls") ∷ token.Word from.0 ∷ token.Word to.0 ∷ []
proc_spelled (proc_line.Fates from to fates) = token.Word (codes "fate-calls") ∷ token.Word from.0 ∷ token.Word to.0 ∷ fate_tokens fates
proc_spelled (proc_line.Execute site origin position) =
    token.Word (codes "execute-calls") ∷ token.Word site.0 ∷ token.Word origin.0 ∷ token.Number false position ∷ []

-- the tokens of a snapshot
abbrev pub snapshot_tokens : SiteName → TableName → Option ParentWords → Option (List TestWords) → List Token
snapshot_tokens site table None tests = token.Word (codes "snapshot") ∷ token.Word site.0 ∷ token.Word table.0 ∷ where_tokens tests
snapshot_tokens site table (Some p) tests =
    token.Word (codes "subsnapshot") ∷ token.Word site.0 ∷ token.Word table.0 ∷ token.Word (codes "parent") ∷ token.Word p.table.0 ∷ token.Word (codes "by") ∷
    (name_tokens p.columns ++ where_tokens tests)

-- the tokens of a command
abbrev pub spelled : Command → List Token
spelled command.Nothing = []
spelled (command.Declare d) = declared d
spelled (command.Snapshot site table parent tests) = snapshot_tokens site table parent tests
spelled (command.Row table values) = token.Word (codes "row") ∷ token.Word table.0 ∷ value_tokens values
spelled command.Resume = token.Word (codes "resume") ∷ []
spelled (command.Statement s) = stated s
spelled (command.Txn site) = token.Word (codes "txn") ∷ token.Word site.0 ∷ []
spelled command.Commit = token.Word (codes "commit") ∷ []
spelled command.Abandon = token.Word (codes "abandon") ∷ []
spelled (command.Push from to count) = token.Word (codes "push") ∷ token.Word from.0 ∷ token.Word to.0 ∷ count_tokens count
spelled (command.Fates from to fates) = token.Word (codes "fate") ∷ token.Word from.0 ∷ token.Word to.0 ∷ fate_tokens fates
spelled (command.ClearFates from to) = token.Word (codes "fate") ∷ token.Word from.0 ∷ token.Word to.0 ∷ token.Word (codes "clear") ∷ []
spelled (command.Link from to l) = token.Word (codes "link") ∷ token.Word from.0 ∷ token.Word to.0 ∷ token.Word (link_word l) ∷ []
spelled (command.Clock site time) = token.Word (codes "clock") ∷ token.Word site.0 ∷ token.Number false time ∷ []
spelled (command.Purge site) = token.Word (codes "purge") ∷ token.Word site.0 ∷ []
spelled (command.Execute site origin position) =
    token.Word (codes "execute") ∷ token.Word site.0 ∷ token.Word origin.0 ∷ token.Number false position ∷ []
spelled (command.DropError site origin position) =
    token.Word (codes "drop-error") ∷ token.Word site.0 ∷ token.Word origin.0 ∷ token.Number false position ∷ []
spelled (command.Refresh site r) = token.Word (codes "refresh") ∷ token.Word site.0 ∷ token.Word (refresh_word r) ∷ []
spelled (command.PurgeLog master table) = token.Word (codes "purge-log") ∷ token.Word master.0 ∷ token.Word table.0 ∷ []
spelled command.Suspend = token.Word (codes "suspend") ∷ []
spelled (command.Join site source) = token.Word (codes "join") ∷ token.Word site.0 ∷ token.Word source.0 ∷ []
spelled (command.Show what site) = token.Word (codes "show") ∷ token.Word (shown_word what) ∷ token.Word site.0 ∷ []
spelled (command.Procedures line) = proc_spelled line

-- What a line can give: names have their form, numbers are small enough to be read, and no list of parts is empty.

-- bytes that have the form of a name
abbrev pub IsName : List ℕ → Type 0
IsName bytes = is_name bytes ≡ true

-- a value that is small enough to be read
abbrev pub IsSmall : Literal → Type 0
IsSmall v = is_small v ≡ true

-- one value or more, all of them small enough
abbrev pub AreValues : List Literal → Type 0
AreValues values = (values ≢ []) × AllByRecursion IsSmall values

-- one name or more
abbrev pub AreNames : List (List ℕ) → Type 0
AreNames names = (names ≢ []) × AllByRecursion IsName names

-- a method of a group whose column and priority group have names
abbrev pub IsMethod : MethodWords → Type 0
IsMethod (method_words.Latest column) = IsName column
IsMethod (method_words.Earliest column) = IsName column
IsMethod method_words.Overwrite = Unit {0}
IsMethod method_words.Discard = Unit {0}
IsMethod method_words.Additive = Unit {0}
IsMethod method_words.Average = Unit {0}
IsMethod (method_words.Maximum column) = IsName column
IsMethod (method_words.Minimum column) = IsName column
IsMethod (method_words.Priority column group) = IsName column × IsName group
IsMethod (method_words.SitePriority column) = IsName column

-- a method of a constraint whose column has a name
abbrev pub IsUniqueMethod : UniqueWords → Type 0
IsUniqueMethod (unique_words.AppendSite column) = IsName column
IsUniqueMethod (unique_words.AppendSequence column) = IsName column
IsUniqueMethod unique_words.Discard = Unit {0}

-- a test of a column that has a name
abbrev pub IsTest : TestWords → Type 0
IsTest t = IsName t.column × IsSmall t.value

-- no tests at all, or one or more
abbrev pub AreTests : Option (List TestWords) → Type 0
AreTests None = Unit {0}
AreTests (Some tests) = (tests ≢ []) × AllByRecursion IsTest tests

-- a value or an amount that is small enough to be read
abbrev pub IsHow : How → Type 0
IsHow (how.To v) = IsSmall v
IsHow (how.Add n) = IsSmall (literal.Num n)

-- a set of a column that has a name
abbrev pub IsSet : Set → Type 0
IsSet s = IsName s.column × IsHow s.how

-- a declaration that a line can give
abbrev pub IsDeclaration : Declare → Type 0
IsDeclaration (declare.Site name) = IsName name.0
IsDeclaration (declare.LateSite name) = IsName name.0
IsDeclaration (declare.SnapSite name master) = IsName name.0 × IsName master.0
IsDeclaration (declare.Table name columns) = IsName name.0 × (columns ≢ []) × AllByRecursion (λ c. IsName c.name) columns
IsDeclaration (declare.Group table group columns) = IsName table.0 × IsName group × AreNames columns
IsDeclaration (declare.Method table group method) = IsName table.0 × IsName group × IsMethod method
IsDeclaration (declare.Priority group v level) = IsName group × IsSmall v × IsSmall (literal.Num level)
IsDeclaration (declare.SiteLevel site level) = IsName site.0 × IsSmall (literal.Num level)
IsDeclaration (declare.Unique table constraint columns) = IsName table.0 × IsName constraint × AreNames columns
IsDeclaration (declare.UniqueMethod table constraint method) = IsName table.0 × IsName constraint × IsUniqueMethod method
IsDeclaration (declare.Check table check column r v) = IsName table.0 × IsName check × IsName column × IsSmall v
IsDeclaration (declare.Convergent table) = IsName table.0

-- a statement that a line can give
abbrev pub IsStatement : Statement → Type 0
IsStatement (statement.Insert table values) = IsName table.0 × AreValues values
IsStatement (statement.Update table key sets) = IsName table.0 × AreValues key × (sets ≢ []) × AllByRecursion IsSet sets
IsStatement (statement.Delete table key) = IsName table.0 × AreValues key

-- a column that has a name, and that no site fills
abbrev pub IsPlainColumn : Column → Type 0
IsPlainColumn c = IsName c.name × (is_plain c.kind ≡ true)

-- an action whose columns have names
abbrev pub IsAction : ActionWords → Type 0
IsAction action_words.Put = Unit {0}
IsAction (action_words.Add column tests) = IsName column × AreTests tests
IsAction (action_words.Drop tests) = AreTests tests

-- a line about procedures that a line can give; a call may have no values, and a send no sites
abbrev pub IsProcLine : ProcLine → Type 0
IsProcLine (proc_line.Table table columns) = IsName table.0 × (columns ≢ []) × AllByRecursion IsPlainColumn columns
IsProcLine (proc_line.Procedure p table does) = IsName p × IsName table.0 × IsAction does
IsProcLine (proc_line.Calls site) = IsName site.0
IsProcLine (proc_line.Call call) = IsName call.procedure × AllByRecursion IsSmall call.values
IsProcLine (proc_line.Send to) = AllByRecursion (λ (s : SiteName). IsName s.0) to
IsProcLine (proc_line.Push from to) = IsName from.0 × IsName to.0
IsProcLine (proc_line.Fates from to fates) = IsName from.0 × IsName to.0 × (fates ≢ [])
IsProcLine (proc_line.Execute site origin position) = IsName site.0 × IsName origin.0

-- a name that isn't the word where
abbrev pub IsColumnName : List ℕ → Type 0
IsColumnName bytes = (is_name bytes ≡ true) × (is_mark (codes "where") (token.Word bytes) ≡ false)

-- a table of parents that has a name, and columns whose names end at the word where
abbrev pub AreParents : Option ParentWords → Type 0
AreParents None = Unit {0}
AreParents (Some p) = IsName p.table.0 × (p.columns ≢ []) × AllByRecursion IsColumnName p.columns

-- a command that a line can give
abbrev pub IsWellFormed : Command → Type 0
IsWellFormed command.Nothing = Unit {0}
IsWellFormed (command.Declare d) = IsDeclaration d
IsWellFormed (command.Snapshot site table parent tests) = IsName site.0 × IsName table.0 × AreParents parent × AreTests tests
IsWellFormed (command.Row table values) = IsName table.0 × AreValues values
IsWellFormed command.Resume = Unit {0}
IsWellFormed (command.Statement s) = IsStatement s
IsWellFormed (command.Txn site) = IsName site.0
IsWellFormed command.Commit = Unit {0}
IsWellFormed command.Abandon = Unit {0}
IsWellFormed (command.Push from to count) = IsName from.0 × IsName to.0
IsWellFormed (command.Fates from to fates) = IsName from.0 × IsName to.0 × (fates ≢ [])
IsWellFormed (command.ClearFates from to) = IsName from.0 × IsName to.0
IsWellFormed (command.Link from to l) = IsName from.0 × IsName to.0
IsWellFormed (command.Clock site time) = IsName site.0
IsWellFormed (command.Purge site) = IsName site.0
IsWellFormed (command.Execute site origin position) = IsName site.0 × IsName origin.0
IsWellFormed (command.DropError site origin position) = IsName site.0 × IsName origin.0
IsWellFormed (command.Refresh site r) = IsName site.0
IsWellFormed (command.PurgeLog master table) = IsName master.0 × IsName table.0
IsWellFormed command.Suspend = Unit {0}
IsWellFormed (command.Join site source) = IsName site.0 × IsName source.0
IsWellFormed (command.Show what site) = IsName site.0
IsWellFormed (command.Procedures line) = IsProcLine line
