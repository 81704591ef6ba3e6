-- Parts of lines about procedures are read as they are written.
use Rattle.std.proofs.Common.{◌≡◌, ℕ, pos, negsuc, Bool, true, false, List, [], ◌∷◌, ◌++◌, Option, Some, None, Ok, refl, subst, append-nil}
use Rattle.std.specs.Prelude.{codes, flat_map}
use Rattle.std.specs.List.{AllByRecursion}
use Rattle.rep_values.specs.declared.literal.Literal.{Literal}
use Rattle.rep_values.specs.declared.literal.Literal.TheVariants as literal
use Rattle.rep_values.specs.declared.name.SiteName.{SiteName}
use Rattle.rep_schema.specs.declared.schema.Kind.{Kind}
use Rattle.rep_schema.specs.declared.schema.Kind.TheVariants as kind
use Rattle.rep_schema.specs.declared.schema.Column.{Column}
use Rattle.rep_schema.specs.Kinds.{is_plain}
use Rattle.script_lex.specs.declared.token.Token.{Token}
use Rattle.script_lex.specs.declared.token.Token.TheVariants as token
use Rattle.script_words.specs.Words.{is_named, is_valued}
use Rattle.script_words.specs.Reading.{one, mark, at, begins, several, one_or_more}
use Rattle.script_words.specs.Parts.{value}
use Rattle.script_words.specs.Spelled.{value_token}
use Rattle.script_words.proofs.ReadAgain.{several_again, all_again}
use Rattle.script_words.proofs.Again.{value_again}
use Rattle.script_parse.specs.declared.command.TestWords.{TestWords}
use Rattle.script_parse.specs.declared.proc_line.ActionWords.{ActionWords}
use Rattle.script_parse.specs.declared.proc_line.ActionWords.TheVariants as action_words
use Rattle.script_parse.specs.Columns.{column_of, column_among, plain_column}
use Rattle.script_parse.specs.Actions.{action}
use Rattle.script_parse.specs.Parts.{site, where_tests}
use Rattle.script_parse.specs.Spelled.{column_tokens, where_tokens, action_tokens, value_tokens, site_tokens, IsName, IsSmall, AreTests, IsPlainColumn, IsAction}
use Rattle.script_parse.proofs.PartsAgain.{column_begins, ends_column, ends_so, next_ends_column, tests_again}

-- Columns.

plain_again : (n : List ℕ) (k : Kind) (rest : List Token) → is_plain k ≡ true → IsName n → at (codes ":") rest ≡ false
    → plain_column (column_tokens (column_of n k false) ++ rest) ≡ Ok (column_of n k false, rest)
unfolding one mark column_among
plain_again n kind.Number rest plain formed none = rw (formed, none) refl
plain_again n kind.Words rest plain formed none = rw (formed, none) refl
plain_again n kind.Date rest plain formed none = rw (formed, none) refl
plain_again n kind.Stamp rest plain formed none = absurd (cc plain)
plain_again n kind.Site rest plain formed none = absurd (cc plain)

key_again : (n : List ℕ) (k : Kind) (rest : List Token) → is_plain k ≡ true → IsName n
    → plain_column (column_tokens (column_of n k true) ++ rest) ≡ Ok (column_of n k true, rest)
unfolding one mark column_among
key_again n kind.Number rest plain formed = rw formed refl
key_again n kind.Words rest plain formed = rw formed refl
key_again n kind.Date rest plain formed = rw formed refl
key_again n kind.Stamp rest plain formed = absurd (cc plain)
key_again n kind.Site rest plain formed = absurd (cc plain)

column_again : (c : Column) (rest : List Token) → IsPlainColumn c → ends_column rest ≡ true → plain_column (column_tokens c ++ rest) ≡ Ok (c, rest)
column_again c rest formed ends = go c.name c.kind c.key formed.1 formed.0
  where
    go : (n : List ℕ) (k : Kind) (b : Bool) → is_plain k ≡ true → IsName n → plain_column (column_tokens (column_of n k b) ++ rest) ≡ Ok (column_of n k b, rest)
    go n k true plain named = key_again n k rest plain named
    go n k false plain named = plain_again n k rest plain named (ends_so (at (codes ":") rest) ends)

pub plain_columns_again : (c : Column) (cs : List Column) → AllByRecursion IsPlainColumn (c ∷ cs)
    → one_or_more is_named plain_column (flat_map column_tokens (c ∷ cs)) ≡ Ok (c ∷ cs, [])
plain_columns_again c cs formed =
    all_again is_named plain_column column_tokens IsPlainColumn ends_column (λ d rest plain. column_begins d rest plain.0) column_again
    (λ d rest plain. next_ends_column d rest plain.0) c cs formed refl

-- Actions.

where_again : (tests : Option (List TestWords)) → AreTests tests → where_tests (where_tokens tests) ≡ Ok (tests, [])
unfolding mark
where_again None formed = refl
where_again (Some []) formed = absurd (formed.0 refl)
where_again (Some (t ∷ ts)) formed = rw (tests_again t ts formed.1) refl

pub action_again : (does : ActionWords) → IsAction does → action (action_tokens does) ≡ Ok (does, [])
unfolding one
action_again action_words.Put formed = refl
action_again (action_words.Add column tests) formed = rw (formed.0, where_again tests formed.1) refl
action_again (action_words.Drop tests) formed = rw (where_again tests formed) refl

-- Values and sites in a row, of which there may be none.

value_begins : (v : Literal) (rest : List Token) → IsSmall v → begins is_valued (value_token v ∷ rest) ≡ true
value_begins (literal.Num (pos n)) rest formed = rw formed refl
value_begins (literal.Num (negsuc n)) rest formed = rw formed refl
value_begins (literal.Words bytes) rest formed = refl

pub any_values_again : (values : List Literal) → AllByRecursion IsSmall values → several is_valued value (value_tokens values) ≡ Ok (values, [])
any_values_again values small =
    subst (λ ts. several is_valued value ts ≡ Ok (values, [])) (append-nil (value_tokens values))
    (several_again is_valued value (λ v. value_token v ∷ []) IsSmall (λ ts. true) value_begins (λ v ts small any. value_again v ts small) (λ v ts small. refl) values [] small refl refl)

site_begins : (s : SiteName) (rest : List Token) → IsName s.0 → begins is_named (token.Word s.0 ∷ rest) ≡ true
site_begins s rest formed = rw formed refl

site_again : (s : SiteName) (rest : List Token) → IsName s.0 → true ≡ true → site (token.Word s.0 ∷ rest) ≡ Ok (s, rest)
unfolding one
site_again s rest formed any = rw formed refl

pub any_sites_again : (to : List SiteName) → AllByRecursion (λ (s : SiteName). IsName s.0) to → several is_named site (site_tokens to) ≡ Ok (to, [])
any_sites_again to named =
    subst (λ ts. several is_named site ts ≡ Ok (to, [])) (append-nil (site_tokens to))
    (several_again is_named site (λ (s : SiteName). token.Word s.0 ∷ []) (λ (s : SiteName). IsName s.0) (λ ts. true) site_begins site_again (λ s ts named. refl) to [] named refl refl)
