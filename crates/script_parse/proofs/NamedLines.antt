-- Whatever lines are read as: the groups and constraints that they declare name columns.
use Rattle.std.proofs.Common.{◌≡◌, ℕ, ◌≤◌, List, [], ◌∷◌, length, Bool, true, false, Some, None, refl, ap, subst, arith}
use Rattle.std.specs.Prelude.{if◌then◌else◌, Option, Result, Ok, Err, codes}
use Rattle.rep_values.specs.declared.literal.Literal.{Literal}
use Rattle.rep_values.specs.declared.name.SiteName.{SiteName}
use Rattle.rep_values.specs.declared.name.TableName.{TableName}
use Rattle.rep_schema.specs.declared.check.Rel.{Rel}
use Rattle.rep_calls.specs.declared.statement.Set.{Set}
use Rattle.rep_declare.specs.declared.declaration.Declare.{Declare}
use Rattle.rep_declare.specs.declared.declaration.Declare.TheVariants as declare
use Rattle.rep_declare.specs.Additions.{ColumnNamed}
use Rattle.script_lex.specs.declared.token.Token.{Token}
use Rattle.script_lex.specs.Lines.{lexed}
use Rattle.script_words.specs.Words.{is_named, is_valued, is_chosen, choice_of}
use Rattle.script_words.specs.Reading.{Reading, ◌>>=◌, at, mark, row, ◌⊛◌, ◌⊘◌, optional, separated, many, one_or_more, ended}
use Rattle.script_words.specs.Parts.{name, number, whole_number, value, choice}
use Rattle.script_parse.specs.declared.heads.Declaring.{Declaring}
use Rattle.script_parse.specs.declared.heads.Declaring.TheVariants as declaring
use Rattle.script_parse.specs.declared.heads.Head.{Head}
use Rattle.script_parse.specs.declared.heads.Head.TheVariants as head
use Rattle.script_parse.specs.declared.command.TestWords.{TestWords}
use Rattle.script_parse.specs.declared.command.Command.{Command}
use Rattle.script_parse.specs.declared.command.Command.TheVariants as command
use Rattle.script_parse.specs.Named.{NamesColumn}
use Rattle.script_parse.specs.Columns.{column}
use Rattle.script_parse.specs.Methods.{method, unique_method}
use Rattle.script_parse.specs.Parts.{site, table, rels, where_tests, set_part, fates, links, refreshes, shown_words}
use Rattle.script_parse.specs.Declarations.{declaration_of}
use Rattle.script_parse.specs.Rows.{snapshot_of, subsnapshot_of, is_column_name, insert_of, update_of, delete_of, fates_behind, fate_row}
use Rattle.script_parse.specs.ProcRows.{proc_row_of}
use Rattle.script_parse.specs.Heads.{heads, row_of}
use Rattle.script_parse.specs.Parsed.{formed, command_of, parsed}

-- something holds of all that a reading gives
abbrev Gives : {A : Type 0} → (A → Type 0) → Reading A → Type 0
Gives {A} P reading = (ts : List Token) (x : A) (rest : List Token) → reading ts ≡ Ok (x, rest) → P x

-- what was read in front
abbrev front_or : {A : Type 0} → A → Result (A × List Token) ℕ → A
front_or d (Err e) = d
front_or d (Ok x) = x.0

abbrev put_behind : {A B : Type 0} → (A → B) → (A × List Token) → Result (B × List Token) ℕ
put_behind f y = Ok (f y.0, y.1)

abbrev behind_made : {A B : Type 0} → Reading A → ((A → B) × List Token) → Result (B × List Token) ℕ
behind_made part x = part x.1 >>= put_behind x.0

abbrev left_behind : {A : Type 0} → A → List Token → Result (A × List Token) ℕ
left_behind x more = Ok (x, more)

abbrev behind_mark : {A : Type 0} → List ℕ → (A × List Token) → Result (A × List Token) ℕ
behind_mark word x = mark word x.1 >>= left_behind x.0

abbrev put_front : {A : Type 0} → A → (List A × List Token) → Result (List A × List Token) ℕ
put_front x ys = Ok (x ∷ ys.0, ys.1)

abbrev behind_first : {A : Type 0} → (Token → Bool) → Reading A → ℕ → (A × List Token) → Result (List A × List Token) ℕ
behind_first test part n x = many test part n x.1 >>= put_front x.0

abbrev none_read : {A : Type 0} → List Token → Result (List A × List Token) ℕ
none_read ts = Ok ([], ts)

abbrev no_form : {A : Type 0} → Result A ℕ
no_form = Err 6

gives-row : {A : Type 0} (P : A → Type 0) (x : A) → P x → Gives P (row x)
gives-row P x holds ts y rest is = let same : x ≡ y = ap (front_or x) is in subst P same holds

-- of all that is made with a part of which something holds
gives-both : {A B : Type 0} (Q : A → Type 0) (P : B → Type 0) (made : Reading (A → B)) (part : Reading A) → Gives (λ f. (y : A) → Q y → P (f y)) made → Gives Q part → Gives P (made ⊛ part)
gives-both {A} {B} Q P made part makes parts ts z rest is = go (made ts) refl is
  where
    inner : (f : A → B) (us : List Token) → ((y : A) → Q y → P (f y)) → (o : Result (A × List Token) ℕ) → part us ≡ o
        → (o >>= put_behind f) ≡ Ok (z, rest) → P z
    inner f us holds (Err e) found is = absurd (cc is)
    inner f us holds (Ok y) found is = let same : f y.0 ≡ z = ap (front_or z) is in subst P same (holds y.0 (parts us y.0 y.1 found))

    go : (o : Result ((A → B) × List Token) ℕ) → made ts ≡ o → (o >>= behind_made part) ≡ Ok (z, rest) → P z
    go (Err e) found is = absurd (cc is)
    go (Ok x) found is = inner x.0 x.1 (makes ts x.0 x.1 found) (part x.1) refl is

-- of all that is made with any part
gives-then : {A B : Type 0} (P : B → Type 0) (made : Reading (A → B)) (part : Reading A) → Gives (λ f. (y : A) → P (f y)) made → Gives P (made ⊛ part)
gives-then {A} {B} P made part makes = gives-both (λ (y : A). Unit {0}) P made part (λ ts f rest is y any. makes ts f rest is y) (λ ts y rest is. tt)

-- a mark behind it changes nothing
gives-mark : {A : Type 0} (P : A → Type 0) (made : Reading A) (word : List ℕ) → Gives P made → Gives P (made ⊘ word)
gives-mark {A} P made word makes ts z rest is = go (made ts) refl is
  where
    inner : (x : A) (us : List Token) → P x → (o : Result (List Token) ℕ) → (o >>= left_behind x) ≡ Ok (z, rest) → P z
    inner x us holds (Err e) is = absurd (cc is)
    inner x us holds (Ok more) is = let same : x ≡ z = ap (front_or z) is in subst P same holds

    go : (o : Result (A × List Token) ℕ) → made ts ≡ o → (o >>= behind_mark word) ≡ Ok (z, rest) → P z
    go (Err e) found is = absurd (cc is)
    go (Ok x) found is = inner x.0 x.1 (makes ts x.0 x.1 found) (mark word x.1) is

-- one or more are not none
some-given : {A : Type 0} (test : Token → Bool) (part : Reading A) → Gives (λ (xs : List A). 1 ≤ length xs) (one_or_more test part)
unfolding many
some-given {A} test part [] xs rest is = absurd (cc is)
some-given {A} test part (t ∷ ts) xs rest is = go (test t) refl is
  where
    inner : (o : Result (A × List Token) ℕ) → (o >>= behind_first test part (length ts)) ≡ Ok (xs, rest) → 1 ≤ length xs
    inner (Err e) is = absurd (cc is)
    inner (Ok x) is = last (many test part (length ts) x.1) is
      where
        last : (o : Result (List A × List Token) ℕ) → (o >>= put_front x.0) ≡ Ok (xs, rest) → 1 ≤ length xs
        last (Err e) is = absurd (cc is)
        last (Ok ys) is = let same : x.0 ∷ ys.0 ≡ xs = ap (front_or xs) is in subst (λ (zs : List A). 1 ≤ length zs) same (omega arith)

    go : (b : Bool) → test t ≡ b → (if b then (if test t then (part (t ∷ ts) >>= behind_first test part (length ts)) else none_read (t ∷ ts)) else no_form) ≡ Ok (xs, rest) → 1 ≤ length xs
    go false tests is = absurd (cc is)
    go true tests is = inner (part (t ∷ ts)) (rw tests at is)

-- of all that is made of one part, or of two, or of three
gives-1 : {A B : Type 0} (P : B → Type 0) (f : A → B) (p : Reading A) → ((a : A) → P (f a)) → Gives P (row f ⊛ p)
gives-1 {A} P f p holds = gives-then P (row f) p (gives-row (λ g. (y : A) → P (g y)) f holds)

gives-2 : {A B C : Type 0} (P : C → Type 0) (f : A → B → C) (p : Reading A) (q : Reading B) → ((a : A) (b : B) → P (f a b)) → Gives P (row f ⊛ p ⊛ q)
gives-2 {A} {B} P f p q holds = gives-then P (row f ⊛ p) q (gives-1 (λ g. (y : B) → P (g y)) f p holds)

gives-3 : {A B C D : Type 0} (P : D → Type 0) (f : A → B → C → D) (p : Reading A) (q : Reading B) (r : Reading C) → ((a : A) (b : B) (c : C) → P (f a b c)) → Gives P (row f ⊛ p ⊛ q ⊛ r)
gives-3 {A} {B} {C} P f p q r holds = gives-then P (row f ⊛ p ⊛ q) r (gives-2 (λ g. (y : C) → P (g y)) f p q holds)

declarations_name : (d : Declaring) → Gives ColumnNamed (declaration_of d)
declarations_name declaring.Site = gives-1 ColumnNamed declare.Site site (λ a. tt)
declarations_name declaring.LateSite = gives-1 ColumnNamed declare.LateSite site (λ a. tt)
declarations_name declaring.SnapSite = gives-2 ColumnNamed declare.SnapSite site site (λ a b. tt)
declarations_name declaring.Table = gives-2 ColumnNamed declare.Table table (one_or_more is_named column) (λ a b. tt)
declarations_name declaring.Group = gives-both (λ names. 1 ≤ length names) ColumnNamed (row declare.Group ⊛ table ⊛ name) (one_or_more is_named name)
    (gives-2 (λ f. (names : List (List ℕ)) → 1 ≤ length names → ColumnNamed (f names)) (λ t n names. declare.Group t n names) table name (λ a b names some. some)) (some-given is_named name)
declarations_name declaring.Method = gives-3 ColumnNamed declare.Method table name method (λ a b c. tt)
declarations_name declaring.Priority = gives-3 ColumnNamed declare.Priority name value number (λ a b c. tt)
declarations_name declaring.SiteLevel = gives-2 ColumnNamed declare.SiteLevel site number (λ a b. tt)
declarations_name declaring.Unique = gives-both (λ names. 1 ≤ length names) ColumnNamed (row declare.Unique ⊛ table ⊛ name) (one_or_more is_named name)
    (gives-2 (λ f. (names : List (List ℕ)) → 1 ≤ length names → ColumnNamed (f names)) (λ t n names. declare.Unique t n names) table name (λ a b names some. some)) (some-given is_named name)
declarations_name declaring.UniqueMethod = gives-3 ColumnNamed declare.UniqueMethod table name unique_method (λ a b c. tt)
declarations_name declaring.Check = gives-then ColumnNamed (row declare.Check ⊛ table ⊛ name ⊛ name ⊛ choice rels) value
    (gives-then (λ f. (v : Literal) → ColumnNamed (f v)) (row declare.Check ⊛ table ⊛ name ⊛ name) (choice rels)
    (gives-3 (λ f. (r : Rel) (v : Literal) → ColumnNamed (f r v)) (λ t n c r v. declare.Check t n c r v) table name name (λ a b c d e. tt)))
declarations_name declaring.Convergent = gives-1 ColumnNamed declare.Convergent table (λ a. tt)

fates_name : Gives NamesColumn fate_row
fates_name ts c rest is = first (site ts) is
  where
    behind : (from to : SiteName) → Gives NamesColumn (fates_behind from to)
    behind from to us = go (at (codes "clear") us)
      where
        cleared : Gives NamesColumn (row (command.ClearFates from to) ⊘ codes "clear")
        cleared vs y end is = last (mark (codes "clear") vs) is
          where
            last : (o : Result (List Token) ℕ) → (o >>= left_behind (command.ClearFates from to)) ≡ Ok (y, end) → NamesColumn y
            last (Err e) is = absurd (cc is)
            last (Ok more) is = let same : command.ClearFates from to ≡ y = ap (front_or y) is in subst NamesColumn same tt

        go : (b : Bool) → (y : Command) (end : List Token)
            → (if b then (row (command.ClearFates from to) ⊘ codes "clear") us else (row (command.Fates from to) ⊛ one_or_more (is_chosen fates) (choice fates)) us) ≡ Ok (y, end) → NamesColumn y
        go true y end is = cleared us y end is
        go false y end is = gives-1 NamesColumn (command.Fates from to) (one_or_more (is_chosen fates) (choice fates)) (λ a. tt) us y end is

    second : (from : SiteName) (o : Result (SiteName × List Token) ℕ) → (o >>= λ to. fates_behind from to.0 to.1) ≡ Ok (c, rest) → NamesColumn c
    second from (Err e) is = absurd (cc is)
    second from (Ok to) is = behind from to.0 to.1 c rest is

    first : (o : Result (SiteName × List Token) ℕ) → (o >>= λ from. site from.1 >>= λ to. fates_behind from.0 to.0 to.1) ≡ Ok (c, rest) → NamesColumn c
    first (Err e) is = absurd (cc is)
    first (Ok from) is = second from.0 (site from.1) is

-- what stands behind each command word
rows_name : (h : Head) → Gives NamesColumn (row_of h)
rows_name (head.Declare d) = gives-both ColumnNamed NamesColumn (row command.Declare) (declaration_of d) (gives-row (λ f. (d' : Declare) → ColumnNamed d' → NamesColumn (f d')) command.Declare (λ a named. named)) (declarations_name d)
rows_name head.Snapshot = gives-3 NamesColumn snapshot_of site table where_tests (λ a b c. tt)
rows_name head.Subsnapshot = gives-then NamesColumn (row subsnapshot_of ⊛ site ⊛ table ⊘ codes "parent" ⊛ table ⊘ codes "by" ⊛ one_or_more is_column_name name) where_tests
    (gives-then (λ f. (tests : Option (List TestWords)) → NamesColumn (f tests)) (row subsnapshot_of ⊛ site ⊛ table ⊘ codes "parent" ⊛ table ⊘ codes "by") (one_or_more is_column_name name)
    (gives-mark (λ f. (columns : List (List ℕ)) (tests : Option (List TestWords)) → NamesColumn (f columns tests)) (row subsnapshot_of ⊛ site ⊛ table ⊘ codes "parent" ⊛ table) (codes "by")
    (gives-then (λ f. (columns : List (List ℕ)) (tests : Option (List TestWords)) → NamesColumn (f columns tests)) (row subsnapshot_of ⊛ site ⊛ table ⊘ codes "parent") table
    (gives-mark (λ f. (parents : TableName) (columns : List (List ℕ)) (tests : Option (List TestWords)) → NamesColumn (f parents columns tests)) (row subsnapshot_of ⊛ site ⊛ table) (codes "parent")
    (gives-2 (λ f. (parents : TableName) (columns : List (List ℕ)) (tests : Option (List TestWords)) → NamesColumn (f parents columns tests)) subsnapshot_of site table (λ a b c d e. tt))))))
rows_name head.Row = gives-2 NamesColumn command.Row table (one_or_more is_valued value) (λ a b. tt)
rows_name head.Resume = gives-row NamesColumn command.Resume tt
rows_name head.Insert = gives-2 NamesColumn insert_of table (one_or_more is_valued value) (λ a b. tt)
rows_name head.Update = gives-then NamesColumn (row update_of ⊛ table ⊛ one_or_more is_valued value ⊘ codes ":") (separated (codes ",") set_part)
    (gives-mark (λ f. (sets : List Set) → NamesColumn (f sets)) (row update_of ⊛ table ⊛ one_or_more is_valued value) (codes ":")
    (gives-2 (λ f. (sets : List Set) → NamesColumn (f sets)) update_of table (one_or_more is_valued value) (λ a b c. tt)))
rows_name head.Delete = gives-2 NamesColumn delete_of table (one_or_more is_valued value) (λ a b. tt)
rows_name head.Txn = gives-1 NamesColumn command.Txn site (λ a. tt)
rows_name head.Commit = gives-row NamesColumn command.Commit tt
rows_name head.Abandon = gives-row NamesColumn command.Abandon tt
rows_name head.Push = gives-3 NamesColumn command.Push site site (optional (codes "count") whole_number) (λ a b c. tt)
rows_name head.Fate = fates_name
rows_name head.Link = gives-3 NamesColumn command.Link site site (choice links) (λ a b c. tt)
rows_name head.Clock = gives-2 NamesColumn command.Clock site whole_number (λ a b. tt)
rows_name head.Purge = gives-1 NamesColumn command.Purge site (λ a. tt)
rows_name head.Execute = gives-3 NamesColumn command.Execute site site whole_number (λ a b c. tt)
rows_name head.DropError = gives-3 NamesColumn command.DropError site site whole_number (λ a b c. tt)
rows_name head.Refresh = gives-2 NamesColumn command.Refresh site (choice refreshes) (λ a b. tt)
rows_name head.PurgeLog = gives-2 NamesColumn command.PurgeLog site table (λ a b. tt)
rows_name head.Suspend = gives-row NamesColumn command.Suspend tt
rows_name head.Join = gives-2 NamesColumn command.Join site site (λ a b. tt)
rows_name head.Show = gives-2 NamesColumn command.Show (choice shown_words) site (λ a b. tt)
rows_name (head.Procedures h) = gives-1 NamesColumn command.Procedures (proc_row_of h) (λ a. tt)

-- ---- a line

command_of-named : (ts : List Token) (c : Command) → command_of ts ≡ Ok c → NamesColumn c
unfolding command_of
command_of-named [] c is = let same : command.Nothing ≡ c = cc is in subst NamesColumn same tt
command_of-named (t ∷ ts) c is = go (choice_of heads t) is
  where
    last : (h : Head) (o : Result (Command × List Token) ℕ) → row_of h ts ≡ o → (o >>= λ x. ended x.0 x.1) ≡ Ok c → NamesColumn c
    last h (Err e) found is = absurd (cc is)
    last h (Ok x) found is = end x.1 found is
      where
        end : (rest : List Token) → row_of h ts ≡ Ok (x.0, x.1) → ended x.0 rest ≡ Ok c → NamesColumn c
        end [] found is = let same : x.0 ≡ c = cc is in subst NamesColumn same (rows_name h ts x.0 x.1 found)
        end (u ∷ us) found is = absurd (cc is)

    go : (o : Option Head) → formed o ts ≡ Ok c → NamesColumn c
    go None is = absurd (cc is)
    go (Some h) is = last h (row_of h ts) refl is

-- if a command that is read declares a group or a constraint, that names a column
pub parsed-Ok : (line : List ℕ) (c : Command) → parsed line ≡ Ok c → NamesColumn c
parsed-Ok line c is = go (lexed line) is
  where
    go : (o : Result (List Token) ℕ) → (o >>= command_of) ≡ Ok c → NamesColumn c
    go (Err rule) is = absurd (cc is)
    go (Ok ts) is = command_of-named ts c is
