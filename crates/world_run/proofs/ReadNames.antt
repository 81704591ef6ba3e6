-- Whatever lines are read as: the sites that they declare have names.
use Rattle.std.proofs.Common.{◌≡◌, ℕ, List, [], ◌∷◌, Bool, true, false, Some, None, refl, ap, subst}
use Rattle.std.specs.Prelude.{if◌then◌else◌, Option, Result, Ok, Err, codes}
use Rattle.rep_values.specs.Name.{is_name}
use Rattle.rep_values.specs.declared.literal.Literal.{Literal}
use Rattle.rep_values.specs.declared.name.SiteName.{SiteName}
use Rattle.rep_values.specs.declared.name.TableName.{TableName}
use Rattle.rep_schema.specs.declared.check.Rel.{Rel}
use Rattle.rep_calls.specs.declared.statement.Set.{Set}
use Rattle.rep_declare.specs.declared.declaration.Declare.{Declare}
use Rattle.rep_declare.specs.declared.declaration.Declare.TheVariants as declare
use Rattle.script_lex.specs.declared.token.Token.{Token}
use Rattle.script_lex.specs.declared.token.Token.TheVariants as token
use Rattle.script_lex.specs.Lines.{lexed}
use Rattle.script_words.specs.Words.{is_named, is_valued, is_chosen, choice_of}
use Rattle.script_words.specs.Reading.{Reading, ◌>>=◌, at, taken, one, mark, row, ◌⊛◌, ◌⊘◌, optional, separated, one_or_more, ended}
use Rattle.script_words.specs.Parts.{name, number, whole_number, value, choice}
use Rattle.script_parse.specs.declared.heads.Declaring.{Declaring}
use Rattle.script_parse.specs.declared.heads.Declaring.TheVariants as declaring
use Rattle.script_parse.specs.declared.heads.Head.{Head}
use Rattle.script_parse.specs.declared.heads.Head.TheVariants as head
use Rattle.script_parse.specs.declared.command.TestWords.{TestWords}
use Rattle.script_parse.specs.declared.command.Command.{Command}
use Rattle.script_parse.specs.declared.command.Command.TheVariants as command
use Rattle.script_parse.specs.Columns.{column}
use Rattle.script_parse.specs.Methods.{method, unique_method}
use Rattle.script_parse.specs.Parts.{site_of, site, table, rels, where_tests, set_part, fates, links, refreshes, shown_words}
use Rattle.script_parse.specs.Declarations.{declaration_of}
use Rattle.script_parse.specs.Rows.{snapshot_of, subsnapshot_of, is_column_name, insert_of, update_of, delete_of, fates_behind, fate_row}
use Rattle.script_parse.specs.ProcRows.{proc_row_of}
use Rattle.script_parse.specs.Heads.{heads, row_of}
use Rattle.script_parse.specs.Parsed.{formed, command_of, parsed}

-- ---- what is told

-- the name of a site is one
abbrev pub IsSiteName : SiteName → Type 0
IsSiteName site = is_name site.0 ≡ true

-- that of a site that is declared is
abbrev pub DeclaresName : Declare → Type 0
DeclaresName (declare.Site name) = IsSiteName name
DeclaresName (declare.LateSite name) = IsSiteName name
DeclaresName (declare.SnapSite name master) = IsSiteName name
DeclaresName other = Unit {0}

-- so it is where a command declares one
abbrev pub NamesSite : Command → Type 0
NamesSite (command.Declare declaration) = DeclaresName declaration
NamesSite other = Unit {0}

-- ---- readings

-- something holds of all that a reading gives
abbrev Gives : {A : Type 0} → (A → Type 0) → Reading A → Type 0
Gives {A} P reading = (ts : List Token) (x : A) (rest : List Token) → reading ts ≡ Ok (x, rest) → P x

-- what was read in front
abbrev front_or : {A : Type 0} → A → Result (A × List Token) ℕ → A
front_or d (Err e) = d
front_or d (Ok x) = x.0

abbrev put_behind : {A B : Type 0} → (A → B) → (A × List Token) → Result (B × List Token) ℕ
put_behind f y = Ok (f y.0, y.1)

abbrev behind_made : {A B : Type 0} → Reading A → ((A → B) × List Token) → Result (B × List Token) ℕ
behind_made part x = part x.1 >>= put_behind x.0

abbrev left_behind : {A : Type 0} → A → List Token → Result (A × List Token) ℕ
left_behind x more = Ok (x, more)

abbrev behind_mark : {A : Type 0} → List ℕ → (A × List Token) → Result (A × List Token) ℕ
behind_mark word x = mark word x.1 >>= left_behind x.0

gives-row : {A : Type 0} (P : A → Type 0) (x : A) → P x → Gives P (row x)
gives-row P x holds ts y rest is = let same : x ≡ y = ap (front_or x) is in subst P same holds

-- of all that is made with a part of which something holds
gives-both : {A B : Type 0} (Q : A → Type 0) (P : B → Type 0) (made : Reading (A → B)) (part : Reading A) → Gives (λ f. (y : A) → Q y → P (f y)) made → Gives Q part → Gives P (made ⊛ part)
gives-both {A} {B} Q P made part makes parts ts z rest is = go (made ts) refl is
  where
    inner : (f : A → B) (us : List Token) → ((y : A) → Q y → P (f y)) → (o : Result (A × List Token) ℕ) → part us ≡ o
        → (o >>= put_behind f) ≡ Ok (z, rest) → P z
    inner f us holds (Err e) found is = absurd (cc is)
    inner f us holds (Ok y) found is = let same : f y.0 ≡ z = ap (front_or z) is in subst P same (holds y.0 (parts us y.0 y.1 found))

    go : (o : Result ((A → B) × List Token) ℕ) → made ts ≡ o → (o >>= behind_made part) ≡ Ok (z, rest) → P z
    go (Err e) found is = absurd (cc is)
    go (Ok x) found is = inner x.0 x.1 (makes ts x.0 x.1 found) (part x.1) refl is

-- of all that is made with any part
gives-then : {A B : Type 0} (P : B → Type 0) (made : Reading (A → B)) (part : Reading A) → Gives (λ f. (y : A) → P (f y)) made → Gives P (made ⊛ part)
gives-then {A} {B} P made part makes = gives-both (λ (y : A). Unit {0}) P made part (λ ts f rest is y any. makes ts f rest is y) (λ ts y rest is. tt)

-- a mark behind it changes nothing
gives-mark : {A : Type 0} (P : A → Type 0) (made : Reading A) (word : List ℕ) → Gives P made → Gives P (made ⊘ word)
gives-mark {A} P made word makes ts z rest is = go (made ts) refl is
  where
    inner : (x : A) (us : List Token) → P x → (o : Result (List Token) ℕ) → (o >>= left_behind x) ≡ Ok (z, rest) → P z
    inner x us holds (Err e) is = absurd (cc is)
    inner x us holds (Ok more) is = let same : x ≡ z = ap (front_or z) is in subst P same holds

    go : (o : Result (A × List Token) ℕ) → made ts ≡ o → (o >>= behind_mark word) ≡ Ok (z, rest) → P z
    go (Err e) found is = absurd (cc is)
    go (Ok x) found is = inner x.0 x.1 (makes ts x.0 x.1 found) (mark word x.1) is

-- of all that is made of one part, or of two, or of three
gives-1 : {A B : Type 0} (P : B → Type 0) (f : A → B) (p : Reading A) → ((a : A) → P (f a)) → Gives P (row f ⊛ p)
gives-1 {A} P f p holds = gives-then P (row f) p (gives-row (λ g. (y : A) → P (g y)) f holds)

gives-2 : {A B C : Type 0} (P : C → Type 0) (f : A → B → C) (p : Reading A) (q : Reading B) → ((a : A) (b : B) → P (f a b)) → Gives P (row f ⊛ p ⊛ q)
gives-2 {A} {B} P f p q holds = gives-then P (row f ⊛ p) q (gives-1 (λ g. (y : B) → P (g y)) f p holds)

gives-3 : {A B C D : Type 0} (P : D → Type 0) (f : A → B → C → D) (p : Reading A) (q : Reading B) (r : Reading C) → ((a : A) (b : B) (c : C) → P (f a b c)) → Gives P (row f ⊛ p ⊛ q ⊛ r)
gives-3 {A} {B} {C} P f p q r holds = gives-then P (row f ⊛ p ⊛ q) r (gives-2 (λ g. (y : C) → P (g y)) f p q holds)

-- ---- names

name-given : Gives (λ bytes. is_name bytes ≡ true) name
unfolding one
name-given [] bytes rest is = absurd (cc is)
name-given (token.Word word ∷ ts) bytes rest is = go (is_name word) refl is
  where
    go : (b : Bool) → is_name word ≡ b → taken (if b then Some word else None) ts ≡ Ok (bytes, rest) → is_name bytes ≡ true
    go true named is = let same : word ≡ bytes = ap (front_or bytes) is in subst (λ (bs : List ℕ). is_name bs ≡ true) same named
    go false named is = absurd (cc is)
name-given (token.Number minus size ∷ ts) bytes rest is = absurd (cc is)
name-given (token.Words word ∷ ts) bytes rest is = absurd (cc is)
name-given (token.Symbol s ∷ ts) bytes rest is = absurd (cc is)

site-given : Gives IsSiteName site
site-given = gives-both (λ bytes. is_name bytes ≡ true) IsSiteName (row site_of) name (gives-row (λ f. (bytes : List ℕ) → is_name bytes ≡ true → IsSiteName (f bytes)) site_of (λ bytes is. is)) name-given

-- ---- forms

-- of all that is made with a site that has a name
gives-site : {B : Type 0} (P : B → Type 0) (f : SiteName → B) → ((name : SiteName) → IsSiteName name → P (f name)) → Gives P (row f ⊛ site)
gives-site P f holds = gives-both IsSiteName P (row f) site (gives-row (λ g. (name : SiteName) → IsSiteName name → P (g name)) f holds) site-given

declarations_name : (d : Declaring) → Gives DeclaresName (declaration_of d)
declarations_name declaring.Site = gives-site DeclaresName declare.Site (λ name is. is)
declarations_name declaring.LateSite = gives-site DeclaresName declare.LateSite (λ name is. is)
declarations_name declaring.SnapSite = gives-then DeclaresName (row declare.SnapSite ⊛ site) site (gives-site {B = SiteName → Declare} (λ f. (master : SiteName) → DeclaresName (f master)) declare.SnapSite (λ name is master. is))
declarations_name declaring.Table = gives-2 DeclaresName declare.Table table (one_or_more is_named column) (λ a b. tt)
declarations_name declaring.Group = gives-3 DeclaresName declare.Group table name (one_or_more is_named name) (λ a b c. tt)
declarations_name declaring.Method = gives-3 DeclaresName declare.Method table name method (λ a b c. tt)
declarations_name declaring.Priority = gives-3 DeclaresName declare.Priority name value number (λ a b c. tt)
declarations_name declaring.SiteLevel = gives-2 DeclaresName declare.SiteLevel site number (λ a b. tt)
declarations_name declaring.Unique = gives-3 DeclaresName declare.Unique table name (one_or_more is_named name) (λ a b c. tt)
declarations_name declaring.UniqueMethod = gives-3 DeclaresName declare.UniqueMethod table name unique_method (λ a b c. tt)
declarations_name declaring.Check = gives-then DeclaresName (row declare.Check ⊛ table ⊛ name ⊛ name ⊛ choice rels) value
    (gives-then (λ f. (v : Literal) → DeclaresName (f v)) (row declare.Check ⊛ table ⊛ name ⊛ name) (choice rels)
    (gives-3 (λ f. (r : Rel) (v : Literal) → DeclaresName (f r v)) (λ t n c r v. declare.Check t n c r v) table name name (λ a b c d e. tt)))
declarations_name declaring.Convergent = gives-1 DeclaresName declare.Convergent table (λ a. tt)

fates_name : Gives NamesSite fate_row
fates_name ts c rest is = first (site ts) is
  where
    behind : (from to : SiteName) → Gives NamesSite (fates_behind from to)
    behind from to us = go (at (codes "clear") us)
      where
        cleared : Gives NamesSite (row (command.ClearFates from to) ⊘ codes "clear")
        cleared = gives-mark NamesSite (row (command.ClearFates from to)) (codes "clear") (gives-row NamesSite (command.ClearFates from to) tt)

        go : (b : Bool) → (y : Command) (end : List Token)
            → (if b then (row (command.ClearFates from to) ⊘ codes "clear") us else (row (command.Fates from to) ⊛ one_or_more (is_chosen fates) (choice fates)) us) ≡ Ok (y, end) → NamesSite y
        go true y end is = cleared us y end is
        go false y end is = gives-1 NamesSite (command.Fates from to) (one_or_more (is_chosen fates) (choice fates)) (λ a. tt) us y end is

    second : (from : SiteName) (o : Result (SiteName × List Token) ℕ) → (o >>= λ to. fates_behind from to.0 to.1) ≡ Ok (c, rest) → NamesSite c
    second from (Err e) is = absurd (cc is)
    second from (Ok to) is = behind from to.0 to.1 c rest is

    first : (o : Result (SiteName × List Token) ℕ) → (o >>= λ from. site from.1 >>= λ to. fates_behind from.0 to.0 to.1) ≡ Ok (c, rest) → NamesSite c
    first (Err e) is = absurd (cc is)
    first (Ok from) is = second from.0 (site from.1) is

-- what stands behind each command word
rows_name : (h : Head) → Gives NamesSite (row_of h)
rows_name (head.Declare d) = gives-both DeclaresName NamesSite (row command.Declare) (declaration_of d) (gives-row (λ f. (d' : Declare) → DeclaresName d' → NamesSite (f d')) command.Declare (λ a named. named)) (declarations_name d)
rows_name head.Snapshot = gives-3 NamesSite snapshot_of site table where_tests (λ a b c. tt)
rows_name head.Subsnapshot = gives-then NamesSite (row subsnapshot_of ⊛ site ⊛ table ⊘ codes "parent" ⊛ table ⊘ codes "by" ⊛ one_or_more is_column_name name) where_tests
    (gives-then (λ f. (tests : Option (List TestWords)) → NamesSite (f tests)) (row subsnapshot_of ⊛ site ⊛ table ⊘ codes "parent" ⊛ table ⊘ codes "by") (one_or_more is_column_name name)
    (gives-mark (λ f. (columns : List (List ℕ)) (tests : Option (List TestWords)) → NamesSite (f columns tests)) (row subsnapshot_of ⊛ site ⊛ table ⊘ codes "parent" ⊛ table) (codes "by")
    (gives-then (λ f. (columns : List (List ℕ)) (tests : Option (List TestWords)) → NamesSite (f columns tests)) (row subsnapshot_of ⊛ site ⊛ table ⊘ codes "parent") table
    (gives-mark (λ f. (parents : TableName) (columns : List (List ℕ)) (tests : Option (List TestWords)) → NamesSite (f parents columns tests)) (row subsnapshot_of ⊛ site ⊛ table) (codes "parent")
    (gives-2 (λ f. (parents : TableName) (columns : List (List ℕ)) (tests : Option (List TestWords)) → NamesSite (f parents columns tests)) subsnapshot_of site table (λ a b c d e. tt))))))
rows_name head.Row = gives-2 NamesSite command.Row table (one_or_more is_valued value) (λ a b. tt)
rows_name head.Resume = gives-row NamesSite command.Resume tt
rows_name head.Insert = gives-2 NamesSite insert_of table (one_or_more is_valued value) (λ a b. tt)
rows_name head.Update = gives-then NamesSite (row update_of ⊛ table ⊛ one_or_more is_valued value ⊘ codes ":") (separated (codes ",") set_part)
    (gives-mark (λ f. (sets : List Set) → NamesSite (f sets)) (row update_of ⊛ table ⊛ one_or_more is_valued value) (codes ":")
    (gives-2 (λ f. (sets : List Set) → NamesSite (f sets)) update_of table (one_or_more is_valued value) (λ a b c. tt)))
rows_name head.Delete = gives-2 NamesSite delete_of table (one_or_more is_valued value) (λ a b. tt)
rows_name head.Txn = gives-1 NamesSite command.Txn site (λ a. tt)
rows_name head.Commit = gives-row NamesSite command.Commit tt
rows_name head.Abandon = gives-row NamesSite command.Abandon tt
rows_name head.Push = gives-3 NamesSite command.Push site site (optional (codes "count") whole_number) (λ a b c. tt)
rows_name head.Fate = fates_name
rows_name head.Link = gives-3 NamesSite command.Link site site (choice links) (λ a b c. tt)
rows_name head.Clock = gives-2 NamesSite command.Clock site whole_number (λ a b. tt)
rows_name head.Purge = gives-1 NamesSite command.Purge site (λ a. tt)
rows_name head.Execute = gives-3 NamesSite command.Execute site site whole_number (λ a b c. tt)
rows_name head.DropError = gives-3 NamesSite command.DropError site site whole_number (λ a b c. tt)
rows_name head.Refresh = gives-2 NamesSite command.Refresh site (choice refreshes) (λ a b. tt)
rows_name head.PurgeLog = gives-2 NamesSite command.PurgeLog site table (λ a b. tt)
rows_name head.Suspend = gives-row NamesSite command.Suspend tt
rows_name head.Join = gives-2 NamesSite command.Join site site (λ a b. tt)
rows_name head.Show = gives-2 NamesSite command.Show (choice shown_words) site (λ a b. tt)
rows_name (head.Procedures h) = gives-1 NamesSite command.Procedures (proc_row_of h) (λ a. tt)

-- ---- a line

command_of-named : (ts : List Token) (c : Command) → command_of ts ≡ Ok c → NamesSite c
unfolding command_of
command_of-named [] c is = let same : command.Nothing ≡ c = cc is in subst NamesSite same tt
command_of-named (t ∷ ts) c is = go (choice_of heads t) is
  where
    last : (h : Head) (o : Result (Command × List Token) ℕ) → row_of h ts ≡ o → (o >>= λ x. ended x.0 x.1) ≡ Ok c → NamesSite c
    last h (Err e) found is = absurd (cc is)
    last h (Ok x) found is = end x.1 found is
      where
        end : (rest : List Token) → row_of h ts ≡ Ok (x.0, x.1) → ended x.0 rest ≡ Ok c → NamesSite c
        end [] found is = let same : x.0 ≡ c = cc is in subst NamesSite same (rows_name h ts x.0 x.1 found)
        end (u ∷ us) found is = absurd (cc is)

    go : (o : Option Head) → formed o ts ≡ Ok c → NamesSite c
    go None is = absurd (cc is)
    go (Some h) is = last h (row_of h ts) refl is

-- if a command that is read declares a site, that has a name
pub parsed_names_site : (line : List ℕ) (c : Command) → parsed line ≡ Ok c → NamesSite c
parsed_names_site line c is = go (lexed line) is
  where
    go : (o : Result (List Token) ℕ) → (o >>= command_of) ≡ Ok c → NamesSite c
    go (Err rule) is = absurd (cc is)
    go (Ok ts) is = command_of-named ts c is
