-- Worked errors on a convergent table: one of a row that never was there, two of rows that were, and sums that leave the range.
use Rattle.std.specs.Prelude.{◌≡◌, ◌+ℤ◌, refl, ℕ, codes, pos, true, false, List, [], ◌∷◌, Some, None}
use Rattle.std.proofs.Common.{subst, inl}
use Rattle.rep_values.specs.declared.name.SiteName.{SiteName}
use Rattle.rep_values.specs.declared.value.Value.TheVariants.{Words}
use Rattle.rep_values.specs.declared.refusal.ApplyError.TheVariants as error
use Rattle.rep_schema.specs.declared.schema.Schema.{Schema}
use Rattle.rep_schema.specs.declared.schema.SiteEntry.{SiteEntry}
use Rattle.rep_schema.specs.declared.schema.Kind.TheVariants as kind
use Rattle.rep_schema.specs.declared.schema.Method.TheVariants as method
use Rattle.rep_schema.specs.Tables.{Cells, Rows}
use Rattle.rep_schema.specs.Fitting.{is_in_range}
use Rattle.rep_schema.specs.Groups.{group_columns_of}
use Rattle.schema_rules.specs.Rules.{broken_rule}
use Rattle.rep_calls.specs.declared.call.Part.{Part}
use Rattle.rep_calls.specs.declared.call.Call.{Call}
use Rattle.rep_calls.specs.declared.call.Call.TheVariants.{Insert, Update}
use Rattle.resolve_methods.specs.SequenceLaws.{group_number, move_of, sum_of_moves}
use Rattle.site_state.specs.declared.entry.Entry.{Entry}
use Rattle.site_state.specs.declared.entry.Entry.TheVariants as entry
use Rattle.site_state.proofs.WorkedSites.{a, b, n, number_column, of_calls}
use Rattle.convergence_laws.specs.Joins.{applied_parts}
use Rattle.error_cause_laws.specs.Excuses.{ErrorsAreSo, IsMissing, NoRowIsMissing, SumLeavesRange, is_on_convergent, is_row_or_range, is_row_tie_or_range}

-- ---- a table of HOME and ID, with a number that is summed up

abbrev master_at : SiteName → ℕ → SiteEntry
master_at site level = record { name = site; master = None; level = Some (pos level); late = false }

abbrev schema : Schema
schema = record {
  sites = master_at a 1 ∷ master_at b 2 ∷ [];
  tables = record {
    name = record { 0 = codes "T" };
    columns = record { name = codes "HOME"; kind = kind.Site; key = true } ∷ record { name = codes "ID"; kind = kind.Number; key = true } ∷ number_column (codes "Q") ∷ [];
    groups = record { name = codes "q"; columns = 2 ∷ []; methods = method.Additive ∷ [] } ∷ [];
    key_methods = [];
    constraints = [];
    checks = [];
    convergent = true;
  } ∷ [];
  priorities = [];
}

breaks_no_rule : broken_rule schema ≡ None
unfolding broken_rule
breaks_no_rule = refl

-- ---- B's update of A's row comes to A

abbrev key : Cells
key = Words a.0 ∷ n 1 ∷ []

abbrev row : Cells
row = Words a.0 ∷ n 1 ∷ n 10 ∷ []

abbrev adds : Call
adds = Update 0 key (record { group = 0; old = n 10 ∷ []; new = n 14 ∷ [] } ∷ [])

abbrev fails : Entry
fails = entry.Error b 1 1 error.NoRow (of_calls (adds ∷ []))

abbrev without_rows : List Rows
without_rows = [] ∷ []

it_is_on_convergent : is_on_convergent schema (of_calls (adds ∷ [])) ≡ true
it_is_on_convergent = refl

-- the row never was there: excused
missing : IsMissing schema without_rows [] adds
missing = record { base_row = refl; inserted = refl }

excused : ErrorsAreSo (NoRowIsMissing schema without_rows) (fails ∷ [])
excused = (λ no_row call found convergent. only call found, tt)
  where
    only : (call : Call) → Some adds ≡ Some call → IsMissing schema without_rows [] call
    only call found = let same : adds ≡ call = cc in subst (IsMissing schema without_rows []) same missing

-- it was inserted before: not excused
abbrev inserts : Entry
inserts = entry.Local 1 (of_calls (Insert 0 row ∷ []))

inserted_is_not_missing : IsMissing schema without_rows (inserts ∷ []) adds → ⊥
inserted_is_not_missing missing = absurd (cc missing.inserted)

not_excused : ErrorsAreSo (NoRowIsMissing schema without_rows) (fails ∷ inserts ∷ []) → ⊥
not_excused so = inserted_is_not_missing (so.0 refl adds refl refl)

-- it is a base row: not excused
base_row_is_not_missing : IsMissing schema ((row ∷ []) ∷ []) [] adds → ⊥
base_row_is_not_missing missing = absurd (cc missing.base_row)

-- ---- A's row has 999999999999990, and each site adds 9 to it

abbrev full_row : Cells
full_row = Words a.0 ∷ n 1 ∷ n 999999999999990 ∷ []

abbrev full : List Rows
full = (full_row ∷ []) ∷ []

abbrev nine : Part
nine = record { group = 0; old = n 999999999999990 ∷ []; new = n 999999999999999 ∷ [] }

abbrev adds_nine : Call
adds_nine = Update 0 key (nine ∷ [])

abbrev added_nine : List Entry
added_nine = entry.Local 1 (of_calls (adds_nine ∷ [])) ∷ []

-- A's own stays in range
first_stays : is_in_range ((group_number schema 0 0 full_row +ℤ sum_of_moves (applied_parts 0 key 0 [])) +ℤ move_of nine) ≡ true
unfolding group_columns_of
first_stays = refl

-- behind it B's leaves the range
second_leaves : SumLeavesRange schema full added_nine [] adds_nine
unfolding group_columns_of
second_leaves = record { part = nine; among = inl refl; sum = refl; first = full_row; begins = refl; leaves = refl }

-- so does the second of one transaction
later_leaves : SumLeavesRange schema full [] (adds_nine ∷ []) adds_nine
unfolding group_columns_of
later_leaves = record { part = nine; among = inl refl; sum = refl; first = full_row; begins = refl; leaves = refl }

-- ---- kinds of errors

taken_key_is_none_of_them : is_row_tie_or_range (error.UniqueConflict (codes "key")) ≡ false
taken_key_is_none_of_them = refl

tie_is_no_excuse : is_row_or_range (error.UpdateConflict (codes "w")) ≡ false
tie_is_no_excuse = refl
