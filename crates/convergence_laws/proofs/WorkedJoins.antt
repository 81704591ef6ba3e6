-- A worked convergent table: the forms of its groups, which values win, and what rows come to.
use Rattle.std.specs.Prelude.{◌≡◌, refl, ℕ, ℤ, codes, pos, true, false, List, [], ◌∷◌, Some, None}
use Rattle.std.specs.declared.cmp.Ordering.TheVariants.{Less, Greater}
use Rattle.rep_values.specs.declared.name.SiteName.{SiteName}
use Rattle.rep_values.specs.declared.value.Value.TheVariants.{Words}
use Rattle.rep_schema.specs.declared.schema.Schema.{Schema}
use Rattle.rep_schema.specs.declared.schema.SiteEntry.{SiteEntry}
use Rattle.rep_schema.specs.declared.schema.Kind.{Kind}
use Rattle.rep_schema.specs.declared.schema.Kind.TheVariants as kind
use Rattle.rep_schema.specs.declared.schema.Column.{Column}
use Rattle.rep_schema.specs.declared.schema.Method.TheVariants as method
use Rattle.rep_schema.specs.Tables.{Cells}
use Rattle.schema_rules.specs.declared.forms.Form.TheVariants as form
use Rattle.schema_rules.specs.Rules.{broken_rule}
use Rattle.rep_calls.specs.declared.call.Part.{Part}
use Rattle.rep_calls.specs.declared.call.Call.TheVariants.{Insert, Update}
use Rattle.resolve_methods.specs.SequenceLaws.{sum_of_moves}
use Rattle.site_state.specs.declared.entry.Entry.{Entry}
use Rattle.site_state.specs.declared.entry.Entry.TheVariants as entry
use Rattle.site_state.proofs.WorkedSites.{a, b, n, number_column, of_calls}
use Rattle.rep_laws.specs.GroupForms.{form_at, wins}
use Rattle.convergence_laws.specs.Joins.{applied_parts, applied_inserts, first_row, is_winner, candidates_of}

-- ---- a table of HOME and ID, with a number that is summed up, one that only grows, and a text with its stamp and site

abbrev master_at : SiteName → ℤ → SiteEntry
master_at site level = record { name = site; master = None; level = Some level; late = false }

abbrev column_of : List ℕ → Kind → Column
column_of name kind = record { name = name; kind = kind; key = false }

abbrev schema : Schema
schema = record {
  sites = master_at a (pos 1) ∷ master_at b (pos 2) ∷ [];
  tables = record {
    name = record { 0 = codes "T" };
    columns = record { name = codes "HOME"; kind = kind.Site; key = true } ∷ record { name = codes "ID"; kind = kind.Number; key = true } ∷ number_column (codes "Q") ∷ number_column (codes "M")
        ∷ column_of (codes "W") kind.Words ∷ column_of (codes "C") kind.Stamp ∷ column_of (codes "BY") kind.Site ∷ [];
    groups = record { name = codes "q"; columns = 2 ∷ []; methods = method.Additive ∷ [] } ∷ record { name = codes "m"; columns = 3 ∷ []; methods = method.Maximum 3 ∷ method.Discard ∷ [] }
        ∷ record { name = codes "w"; columns = 4 ∷ 5 ∷ 6 ∷ []; methods = method.Latest 5 ∷ method.SitePriority 6 ∷ [] } ∷ [];
    key_methods = [];
    constraints = [];
    checks = [];
    convergent = true;
  } ∷ [];
  priorities = [];
}

breaks_no_rule : broken_rule schema ≡ None
unfolding broken_rule
breaks_no_rule = refl

first_is_summed : form_at schema 0 0 ≡ Some form.Sum
first_is_summed = refl

second_grows : form_at schema 0 1 ≡ Some (form.Greatest 3)
second_grows = refl

third_is_the_latest : form_at schema 0 2 ≡ Some (form.Latest 5 6)
third_is_the_latest = refl

-- ---- which values win

abbrev latest : List ℕ → ℕ → SiteName → Cells
latest text stamp site = Words text ∷ n stamp ∷ Words site.0 ∷ []

greater_stamp_wins : wins schema (4 ∷ 5 ∷ 6 ∷ []) (form.Latest 5 6) (latest (codes "x") 8 a) (latest (codes "y") 7 b) ≡ Greater
greater_stamp_wins = refl

greater_level_wins_a_tie : wins schema (4 ∷ 5 ∷ 6 ∷ []) (form.Latest 5 6) (latest (codes "x") 7 a) (latest (codes "y") 7 b) ≡ Less
greater_level_wins_a_tie = refl

-- ---- what a row comes to

abbrev key : Cells
key = Words a.0 ∷ n 1 ∷ []

abbrev base_row : Cells
base_row = Words a.0 ∷ n 1 ∷ n 10 ∷ n 5 ∷ latest (codes "x") 0 a

abbrev part : ℕ → Cells → Cells → Part
part group old new = record { group = group; old = old; new = new }

-- two sites add to 10: one 3, the other 4
abbrev both_add : List Entry
both_add = entry.Done b 1 0 (of_calls (Update 0 key (part 0 (n 10 ∷ []) (n 14 ∷ []) ∷ []) ∷ [])) ∷ entry.Local 1 (of_calls (Update 0 key (part 0 (n 10 ∷ []) (n 13 ∷ []) ∷ []) ∷ [])) ∷ []

parts_of_both : applied_parts 0 key 0 both_add ≡ part 0 (n 10 ∷ []) (n 13 ∷ []) ∷ part 0 (n 10 ∷ []) (n 14 ∷ []) ∷ []
parts_of_both = refl

sum_of_both : sum_of_moves (applied_parts 0 key 0 both_add) ≡ pos 7
sum_of_both = refl

-- the row of another key has none of them
other_row_has_none : applied_parts 0 (Words a.0 ∷ n 2 ∷ []) 0 both_add ≡ []
other_row_has_none = refl

-- where a row was inserted, it is the first row
abbrev inserted : List Entry
inserted = entry.Local 1 (of_calls (Insert 0 base_row ∷ [])) ∷ []

first_is_inserted : first_row None (applied_inserts schema 0 key inserted) ≡ Some base_row
first_is_inserted = refl

-- a site sets 8, the other 6: the greatest of these and of 5 is 8
greatest_wins : is_winner schema (3 ∷ []) (form.Greatest 3) (candidates_of (n 5 ∷ []) (part 1 (n 5 ∷ []) (n 8 ∷ []) ∷ part 1 (n 5 ∷ []) (n 6 ∷ []) ∷ [])) (n 8 ∷ []) ≡ true
greatest_wins = refl

lesser_is_no_winner : is_winner schema (3 ∷ []) (form.Greatest 3) (candidates_of (n 5 ∷ []) (part 1 (n 5 ∷ []) (n 8 ∷ []) ∷ part 1 (n 5 ∷ []) (n 6 ∷ []) ∷ [])) (n 6 ∷ []) ≡ false
lesser_is_no_winner = refl
