-- Parts of forms are read as they are written.
use Rattle.std.proofs.Common.{◌≡◌, ℕ, Bool, true, false, not, List, [], ◌∷◌, ◌++◌, Ok, refl}
use Rattle.std.specs.Prelude.{codes, flat_map}
use Rattle.std.specs.List.{AllByRecursion}
use Rattle.rep_schema.specs.declared.schema.Kind.{Kind}
use Rattle.rep_schema.specs.declared.schema.Kind.TheVariants as kind
use Rattle.rep_schema.specs.declared.schema.Column.{Column}
use Rattle.rep_schema.specs.declared.check.Rel.{Rel}
use Rattle.rep_schema.specs.declared.check.Rel.TheVariants as rel
use Rattle.rep_declare.specs.declared.declaration.MethodWords.{MethodWords}
use Rattle.rep_declare.specs.declared.declaration.MethodWords.TheVariants as method_words
use Rattle.rep_declare.specs.declared.declaration.UniqueWords.{UniqueWords}
use Rattle.rep_declare.specs.declared.declaration.UniqueWords.TheVariants as unique_words
use Rattle.rep_calls.specs.declared.statement.Set.{Set}
use Rattle.rep_calls.specs.declared.statement.How.{How}
use Rattle.rep_calls.specs.declared.statement.How.TheVariants as how
use Rattle.net_plan.specs.declared.fate.Fate.{Fate}
use Rattle.net_plan.specs.declared.fate.Fate.TheVariants as fate
use Rattle.script_lex.specs.declared.token.Symbol.TheVariants as symbol
use Rattle.script_lex.specs.declared.token.Token.{Token}
use Rattle.script_lex.specs.declared.token.Token.TheVariants as token
use Rattle.script_words.specs.Words.{is_named, is_chosen}
use Rattle.script_words.specs.Reading.{one, mark, at, begins, one_or_more, separated}
use Rattle.script_words.specs.Spelled.{value_token}
use Rattle.script_words.specs.Parts.{name, choice}
use Rattle.script_words.proofs.ReadAgain.{some_again, all_again, all_separated_again}
use Rattle.script_words.proofs.Again.{name_again, name_is_no_mark, value_again, number_again}
use Rattle.script_parse.specs.declared.command.TestWords.{TestWords}
use Rattle.script_parse.specs.Columns.{column_of, column_among, column}
use Rattle.script_parse.specs.Methods.{method, unique_method}
use Rattle.script_parse.specs.Rows.{is_column_name}
use Rattle.script_parse.specs.Parts.{rels, row_test, setting, set_part, fates}
use Rattle.script_parse.specs.Spelled.{rel_symbol, fate_word, column_tokens, method_tokens, unique_tokens, fate_tokens, test_tokens, how_tokens, set_tokens, separated_tokens, IsName, IsColumnName, IsMethod, IsUniqueMethod, IsTest, IsHow, IsSet}

-- Columns, which end where no colon follows.

pub column_begins : (c : Column) (rest : List Token) → IsName c.name → begins is_named (column_tokens c ++ rest) ≡ true
column_begins c rest formed = rw formed refl

plain_again : (n : List ℕ) (k : Kind) (rest : List Token) → IsName n → at (codes ":") rest ≡ false
    → column (column_tokens (column_of n k false) ++ rest) ≡ Ok (column_of n k false, rest)
unfolding one mark column_among
plain_again n kind.Number rest formed none = rw (formed, none) refl
plain_again n kind.Words rest formed none = rw (formed, none) refl
plain_again n kind.Date rest formed none = rw (formed, none) refl
plain_again n kind.Stamp rest formed none = rw (formed, none) refl
plain_again n kind.Site rest formed none = rw (formed, none) refl

key_again : (n : List ℕ) (k : Kind) (rest : List Token) → IsName n
    → column (column_tokens (column_of n k true) ++ rest) ≡ Ok (column_of n k true, rest)
unfolding one mark column_among
key_again n kind.Number rest formed = rw formed refl
key_again n kind.Words rest formed = rw formed refl
key_again n kind.Date rest formed = rw formed refl
key_again n kind.Stamp rest formed = rw formed refl
key_again n kind.Site rest formed = rw formed refl

abbrev pub ends_column : List Token → Bool
ends_column rest = not (at (codes ":") rest)

pub ends_so : (v : Bool) → not v ≡ true → v ≡ false
ends_so true is = cc
ends_so false is = refl

column_again : (c : Column) (rest : List Token) → IsName c.name → ends_column rest ≡ true → column (column_tokens c ++ rest) ≡ Ok (c, rest)
column_again c rest formed ends = go c.name c.kind c.key formed
  where
    go : (n : List ℕ) (k : Kind) (b : Bool) → IsName n → column (column_tokens (column_of n k b) ++ rest) ≡ Ok (column_of n k b, rest)
    go n k true named = key_again n k rest named
    go n k false named = plain_again n k rest named (ends_so (at (codes ":") rest) ends)

pub next_ends_column : (c : Column) (rest : List Token) → IsName c.name → ends_column (column_tokens c ++ rest) ≡ true
next_ends_column c rest formed = rw (name_is_no_mark 58 [] c.name refl formed) refl

pub columns_again : (c : Column) (cs : List Column) → AllByRecursion (λ d. IsName d.name) (c ∷ cs)
    → one_or_more is_named column (flat_map column_tokens (c ∷ cs)) ≡ Ok (c ∷ cs, [])
columns_again c cs formed =
    all_again is_named column column_tokens (λ d. IsName d.name) ends_column column_begins column_again next_ends_column c cs formed refl

-- Methods.

pub method_again : (m : MethodWords) → IsMethod m → method (method_tokens m) ≡ Ok (m, [])
unfolding one
method_again (method_words.Latest column) formed = rw formed refl
method_again (method_words.Earliest column) formed = rw formed refl
method_again method_words.Overwrite formed = refl
method_again method_words.Discard formed = refl
method_again method_words.Additive formed = refl
method_again method_words.Average formed = refl
method_again (method_words.Maximum column) formed = rw formed refl
method_again (method_words.Minimum column) formed = rw formed refl
method_again (method_words.Priority column group) formed = rw (formed.0, formed.1) refl
method_again (method_words.SitePriority column) formed = rw formed refl

pub unique_method_again : (m : UniqueWords) → IsUniqueMethod m → unique_method (unique_tokens m) ≡ Ok (m, [])
unfolding one
unique_method_again (unique_words.AppendSite column) formed = rw formed refl
unique_method_again (unique_words.AppendSequence column) formed = rw formed refl
unique_method_again unique_words.Discard formed = refl

-- Names of columns, in front of the word where.

column_name_begins : (n : List ℕ) (rest : List Token) → IsColumnName n → begins is_column_name (token.Word n ∷ rest) ≡ true
column_name_begins n rest formed = rw (formed.0, formed.1) refl

pub column_names_again : (n : List ℕ) (ns : List (List ℕ)) (rest : List Token) → AllByRecursion IsColumnName (n ∷ ns) → begins is_column_name rest ≡ false
    → one_or_more is_column_name name (flat_map (λ m. token.Word m ∷ []) (n ∷ ns) ++ rest) ≡ Ok (n ∷ ns, rest)
column_names_again n ns rest formed none =
    some_again is_column_name name (λ m. token.Word m ∷ []) IsColumnName (λ ts. true)
    column_name_begins (λ m ts named stop. name_again m ts named.0) (λ m ts named. refl) n ns rest formed refl none

-- Relations, and tests of snapshots.

pub rel_again : (r : Rel) (rest : List Token) → choice rels (token.Symbol (rel_symbol r) ∷ rest) ≡ Ok (r, rest)
unfolding one
rel_again rel.Eq rest = refl
rel_again rel.Ne rest = refl
rel_again rel.Lt rest = refl
rel_again rel.Le rest = refl
rel_again rel.Gt rest = refl
rel_again rel.Ge rest = refl

test_again : (t : TestWords) (rest : List Token) → IsTest t → true ≡ true → row_test (test_tokens t ++ rest) ≡ Ok (t, rest)
unfolding row_test
test_again t rest formed any =
    rw (
      name_again t.column (token.Symbol (rel_symbol t.rel) ∷ value_token t.value ∷ rest) formed.0,
      rel_again t.rel (value_token t.value ∷ rest),
      value_again t.value rest formed.1,
    ) refl

pub tests_again : (t : TestWords) (ts : List TestWords) → AllByRecursion IsTest (t ∷ ts)
    → separated (codes "and") row_test (separated_tokens (token.Word (codes "and")) test_tokens (t ∷ ts)) ≡ Ok (t ∷ ts, [])
tests_again t ts formed =
    all_separated_again (codes "and") (token.Word (codes "and")) refl row_test test_tokens IsTest (λ rest. true) test_again (λ rest. refl) t ts formed refl

-- Sets.

how_again : (c : List ℕ) (h : How) (rest : List Token) → IsHow h → setting c (how_tokens h ++ rest) ≡ Ok (record { column = c; how = h }, rest)
unfolding mark
how_again c (how.To v) rest formed = rw (value_again v rest formed) refl
how_again c (how.Add n) rest formed = rw (number_again n rest formed) refl

set_again : (s : Set) (rest : List Token) → IsSet s → true ≡ true → set_part (set_tokens s ++ rest) ≡ Ok (s, rest)
unfolding set_part
set_again s rest formed any = rw (name_again s.column (how_tokens s.how ++ rest) formed.0) (how_again s.column s.how rest formed.1)

pub sets_again : (s : Set) (ss : List Set) → AllByRecursion IsSet (s ∷ ss)
    → separated (codes ",") set_part (separated_tokens (token.Symbol symbol.Comma) set_tokens (s ∷ ss)) ≡ Ok (s ∷ ss, [])
sets_again s ss formed =
    all_separated_again (codes ",") (token.Symbol symbol.Comma) refl set_part set_tokens IsSet (λ rest. true) set_again (λ rest. refl) s ss formed refl

-- Fates.

fate_begins : (f : Fate) (rest : List Token) → Unit {0} → begins (is_chosen fates) (token.Word (fate_word f) ∷ rest) ≡ true
fate_begins fate.Pass rest formed = refl
fate_begins fate.Lose rest formed = refl
fate_begins fate.Twice rest formed = refl
fate_begins fate.Late rest formed = refl

fate_again : (f : Fate) (rest : List Token) → Unit {0} → true ≡ true → choice fates (token.Word (fate_word f) ∷ rest) ≡ Ok (f, rest)
unfolding one
fate_again fate.Pass rest formed any = refl
fate_again fate.Lose rest formed any = refl
fate_again fate.Twice rest formed any = refl
fate_again fate.Late rest formed any = refl

all_units : (fs : List Fate) → AllByRecursion (λ f. Unit {0}) fs
all_units [] = tt
all_units (f ∷ fs) = (tt, all_units fs)

pub fates_again : (f : Fate) (fs : List Fate) → one_or_more (is_chosen fates) (choice fates) (fate_tokens (f ∷ fs)) ≡ Ok (f ∷ fs, [])
fates_again f fs =
    all_again (is_chosen fates) (choice fates) (λ g. token.Word (fate_word g) ∷ []) (λ g. Unit {0}) (λ ts. true)
    fate_begins fate_again (λ g ts formed. refl) f fs (all_units (f ∷ fs)) refl

-- a word of a fate isn't the word that clears them
pub fate_is_no_clear : (f : Fate) (rest : List Token) → at (codes "clear") (token.Word (fate_word f) ∷ rest) ≡ false
fate_is_no_clear fate.Pass rest = refl
fate_is_no_clear fate.Lose rest = refl
fate_is_no_clear fate.Twice rest = refl
fate_is_no_clear fate.Late rest = refl
