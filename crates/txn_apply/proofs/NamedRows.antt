-- Tables that have some of the rows of others: one row more, or none.
use Rattle.std.proofs.Common.{◌≡◌, ◌≢◌, ℕ, zero, suc, ◌<◌, List, [], length, get_or, set, replicate, Some, None, refl, sym, ap, ◌∙◌, subst, inl, inr, arith}
use Rattle.std.specs.Prelude.{Option, Any, slice_set}
use Rattle.std.specs.List.{AllByRecursion}
use Rattle.std.proofs.lemmas.Bool.{cases_eq}
use Rattle.std.proofs.lemmas.List.{length-set, get_or-set_same, get_or-set_other, length-replicate, get_or_default}
use Rattle.std.proofs.lemmas.List.Elements.{recursion_from_All}
use Rattle.rep_lists.proofs.Rising.{all_put}
use Rattle.rep_lists.proofs.Each.{each_then}
use Rattle.rep_schema.specs.declared.schema.Schema.{Schema}
use Rattle.rep_schema.specs.declared.schema.Column.{Column}
use Rattle.rep_schema.specs.Tables.{Cells, Rows, columns_of, constraint_columns_of, key_of, row_beside, find_row, put_row, rows_of, picked, RowFits, IsUniqueRow, AreTables}
use Rattle.rep_schema.specs.Changes.{row_like}
use Rattle.rep_schema.proofs.TableSteps.{any_from_none}
use Rattle.rep_schema.proofs.FoundRows.{found_row, key_of-found, find_row-put_own, find_row-put_other}
use Rattle.rep_calls.specs.declared.call.Call.{Call}
use Rattle.conflict_detect.specs.Fits.{table_of}
use Rattle.conflict_detect.specs.KeysNamed.{key_named}
use Rattle.rep_laws.proofs.TokenTests.{place_cases}
use Rattle.txn_apply.specs.Naming.{AreSomeOf, HaveAlike, TakesNamed}

-- what isn't found among values is none of them
none_from_any : {X : Type 0} (P : X → Type 0) (xs : List X) → ¬ Any P xs → AllByRecursion (λ x. ¬ P x) xs
none_from_any P xs none = recursion_from_All (λ x. ¬ P x) xs (λ k d below p. none (k, get_or xs k d, below, get_or_default xs k (get_or xs k d) d below, p))

-- where there are no tables, no table has a row
rows_of-replicate : (number table : ℕ) → rows_of (replicate number []) table ≡ []
rows_of-replicate zero table = refl
rows_of-replicate (suc number) zero = refl
rows_of-replicate (suc number) (suc table) = rows_of-replicate number table

module _ (schema : Schema) (whole : List Rows) where
  -- the row stands in the whole table
  abbrev IsThere : ℕ → Cells → Type 0
  IsThere table row = row_like (columns_of schema table) row (rows_of whole table) ≡ Some row

  -- empty tables have no other rows
  pub AreSomeOf-empty : AreSomeOf schema whole (replicate (length schema.tables) [])
  AreSomeOf-empty = record {
    number = length-replicate (length schema.tables) [];
    rows = λ table. subst (AllByRecursion (IsThere table)) (sym (rows_of-replicate (length schema.tables) table)) tt;
  }

  module _ (some : List Rows) (is : AreSomeOf schema whole some) (call : Call) where
    abbrev named_columns : List Column
    named_columns = columns_of schema (table_of call)

    -- where the whole tables lack the row that a call names, so do these
    pub TakesNamed-none : find_row named_columns (key_named schema call) (rows_of whole (table_of call)) ≡ None → TakesNamed schema call whole some some
    TakesNamed-none none = record { some = is; named = none ∙ sym (go (find_row named_columns (key_named schema call) (rows_of some (table_of call))) refl); others = λ table key alike. alike }
      where
        go : (row : Option Cells) → find_row named_columns (key_named schema call) (rows_of some (table_of call)) ≡ row → row ≡ None
        go None found = refl
        go (Some row) found =
            let own : key_of named_columns row ≡ key_named schema call = key_of-found named_columns (key_named schema call) row (rows_of some (table_of call)) found in
            let there : IsThere (table_of call) row = found_row named_columns (key_named schema call) row (rows_of some (table_of call)) found (IsThere (table_of call)) (is.rows (table_of call)) in
            let both : find_row named_columns (key_named schema call) (rows_of whole (table_of call)) ≡ Some row = subst (λ k. find_row named_columns k (rows_of whole (table_of call)) ≡ Some row) own there in
            cc

  -- a row of the whole tables that is put
  module _ (some : List Rows) (are : AreTables schema whole) (is : AreSomeOf schema whole some) (table : ℕ) (below : table < length schema.tables) (key row : Cells)
      (found : find_row (columns_of schema table) key (rows_of whole table) ≡ Some row) where
    abbrev columns : List Column
    columns = columns_of schema table

    abbrev after : List Rows
    after = set some table (put_row columns row (rows_of some table))

    own_key : key_of columns row ≡ key
    own_key = key_of-found columns key row (rows_of whole table) found

    -- it fits
    pub RowFits-found : RowFits (columns_of schema table) row
    RowFits-found = found_row columns key row (rows_of whole table) found (RowFits columns) (are.each table below).fit

    unique_in_whole : IsUniqueRow schema table row (rows_of whole table)
    unique_in_whole = found_row columns key row (rows_of whole table) found (λ x. IsUniqueRow schema table x (rows_of whole table)) (are.each table below).apart

    abbrev Clashes : ℕ → Cells → Type 0
    Clashes constraint other = (key_of columns other ≢ key_of columns row) × (picked (constraint_columns_of schema table constraint) other ≡ picked (constraint_columns_of schema table constraint) row)

    -- and it is unique among these rows too
    pub IsUniqueRow-some : IsUniqueRow schema table row (rows_of some table)
    IsUniqueRow-some = record {
      unheld = λ constraint within. any_from_none (Clashes constraint) (rows_of some table)
          (each_then (IsThere table) (λ other. ¬ Clashes constraint other)
          (λ other there. found_row columns (key_of columns other) other (rows_of whole table) there (λ x. ¬ Clashes constraint x)
          (none_from_any (Clashes constraint) (rows_of whole table) (unique_in_whole.unheld constraint within)))
          (rows_of some table) (is.rows table));
    }

    in_range : table < length some
    in_range = omega (arith, is.number)

    rows_of-after : rows_of after table ≡ put_row columns row (rows_of some table)
    rows_of-after = get_or-set_same some table (put_row columns row (rows_of some table)) [] in_range

    rows_of-elsewhere : (t : ℕ) → t ≢ table → rows_of after t ≡ rows_of some t
    rows_of-elsewhere t other = get_or-set_other some table t (put_row columns row (rows_of some table)) [] other

    there_too : IsThere table row
    there_too = subst (λ k. find_row columns k (rows_of whole table) ≡ Some row) (sym own_key) found

    -- there are still no other rows than those of the whole tables
    AreSomeOf-put : AreSomeOf schema whole after
    AreSomeOf-put = record {
      number = length-set some table (put_row columns row (rows_of some table)) ∙ is.number;
      rows = λ t. elim (cases_eq t table) [
        | inl same ↦
            let here : AllByRecursion (IsThere table) (rows_of after table) =
            subst (AllByRecursion (IsThere table)) (sym rows_of-after) (all_put (row_beside columns (key_of columns row)) (IsThere table) row (rows_of some table) there_too (is.rows table)) in
            subst (λ j. AllByRecursion (IsThere j) (rows_of after j)) (sym same) here
        | inr other ↦ subst (AllByRecursion (IsThere t)) (sym (rows_of-elsewhere t other)) (is.rows t)
      ];
    }

    named_alike : HaveAlike schema whole after table key
    named_alike =
        let own : find_row columns key (put_row columns row (rows_of some table)) ≡ Some row =
        subst (λ k. find_row columns k (put_row columns row (rows_of some table)) ≡ Some row) own_key (find_row-put_own columns row (rows_of some table)) in
        found ∙ sym (ap (find_row columns key) rows_of-after ∙ own)

    HaveAlike-put : (t : ℕ) (k : Cells) → HaveAlike schema whole some t k → HaveAlike schema whole after t k
    HaveAlike-put t k alike = elim (place_cases table key t k) [
      | inl here ↦ subst (λ j. HaveAlike schema whole after j k) here.0 (subst (HaveAlike schema whole after table) here.1 named_alike)
      | inr elsewhere ↦ elim (cases_eq t table) [
        | inl same ↦
            let alike_here : HaveAlike schema whole some table k = subst (λ j. HaveAlike schema whole some j k) same alike in
            let kept : find_row columns k (put_row columns row (rows_of some table)) ≡ find_row columns k (rows_of some table) =
            find_row-put_other columns row k (rows_of some table) (λ e. elsewhere (sym same) (sym own_key ∙ e)) in
            let here : HaveAlike schema whole after table k = alike_here ∙ sym (ap (find_row columns k) rows_of-after ∙ kept) in
            subst (λ j. HaveAlike schema whole after j k) (sym same) here
        | inr other ↦ alike ∙ ap (find_row (columns_of schema t) k) (sym (rows_of-elsewhere t other))
      ]
    ]

    -- the row that a call names is taken
    pub TakesNamed-put : (call : Call) → table ≡ table_of call → key ≡ key_named schema call
        → TakesNamed schema call whole some (slice_set some table (put_row (columns_of schema table) row (rows_of some table)))
    TakesNamed-put call at names = record {
      some = AreSomeOf-put;
      named = subst (λ j. HaveAlike schema whole after j (key_named schema call)) at (subst (HaveAlike schema whole after table) names named_alike);
      others = HaveAlike-put;
    }
