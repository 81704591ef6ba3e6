-- Changes one after another: what they lead to, the room that taking them back wants, and what each of them is.
use Rattle.std.proofs.Common.{◌≡◌, ◌≢◌, ℕ, ◌+◌, ◌<◌, List, [], ◌∷◌, ◌++◌, length, set, Some, None, cond, sym, ap, subst}
use Rattle.std.specs.Prelude.{Option, IfSome}
use Rattle.std.proofs.lemmas.List.Sums.{sum_by-append}
use Rattle.rep_schema.specs.declared.schema.Schema.{Schema}
use Rattle.rep_schema.specs.declared.change.Change.{Change}
use Rattle.rep_schema.specs.Tables.{Cells, Rows, columns_of, key_of, find_row, take_row, rows_of, RowFits, IsUniqueRow, IsKeyed, AreTables}
use Rattle.rep_schema.specs.Changes.{after_change_in, after_change, row_like, IsChange, ChangeFits, LeadsTo, is_taken_from, room_for}
use Rattle.rep_schema.proofs.FoundRows.{found_row, key_of-found, take_row-absent}
use Rattle.rep_schema.proofs.TakingBack.{AreTables-made}

module _ (schema : Schema) where
  -- changes behind others
  pub LeadsTo-append : (changes others : List Change) (earlier middle later : List Rows) → LeadsTo schema changes earlier middle → LeadsTo schema others middle later → LeadsTo schema (changes ++ others) earlier later
  LeadsTo-append [] others earlier middle later lead then = subst (λ tables. LeadsTo schema others tables later) (sym lead) then
  LeadsTo-append (change ∷ changes) others earlier middle later lead then = (lead.0, LeadsTo-append changes others (after_change schema change earlier) middle later lead.1 then)

  -- tables from which changes lead to others make those tables too
  pub AreTables-led : (changes : List Change) (earlier later : List Rows) → AreTables schema earlier → LeadsTo schema changes earlier later → AreTables schema later
  AreTables-led [] earlier later are lead = subst (AreTables schema) lead are
  AreTables-led (change ∷ changes) earlier later are lead = AreTables-led changes (after_change schema change earlier) later (AreTables-made schema change earlier are lead.0) lead.1

  -- a change of tables whose rows differ is a change of one row of the schema
  pub ChangeFits-from_IsChange : (change : Change) (tables : List Rows) → AreTables schema tables → IsChange schema change tables → change.before ≢ change.after → ChangeFits schema change
  ChangeFits-from_IsChange change tables are is differ = record {
    table = is.table;
    keyed = is.keyed;
    before = before_fits change.before is.before;
    after = is.fits;
    differ = differ;
    same_key = one_key change.before change.after is.after;
  }
    where
      before_fits : (before : Option Cells) → IfSome before (λ row. find_row (columns_of schema change.table) (key_of (columns_of schema change.table) row) (rows_of tables change.table) ≡ Some row)
          → IfSome before (λ row. RowFits (columns_of schema change.table) row)
      before_fits None found = tt
      before_fits (Some row) found = found_row (columns_of schema change.table) (key_of (columns_of schema change.table) row) row (rows_of tables change.table) found (RowFits (columns_of schema change.table)) (are.each change.table is.table).fit

      one_key : (before after : Option Cells) → IfSome after (λ row. find_row (columns_of schema change.table) (key_of (columns_of schema change.table) row) (rows_of tables change.table) ≡ before)
          → IfSome before (λ a. IfSome after (λ b. key_of (columns_of schema change.table) a ≡ key_of (columns_of schema change.table) b))
      one_key None after found = tt
      one_key (Some a) None found = tt
      one_key (Some a) (Some b) found = key_of-found (columns_of schema change.table) (key_of (columns_of schema change.table) b) a (rows_of tables change.table) found

-- the room for changes and for others behind them
pub room_for-append : (table : ℕ) (changes others : List Change) → room_for table (changes ++ others) ≡ room_for table changes + room_for table others
room_for-append table changes others = sum_by-append (λ change. cond (is_taken_from table change) 1 0) changes others

-- what a store does to a row is a change of its tables
module _ (schema : Schema) (table : ℕ) (tables : List Rows) (below : table < length schema.tables) (keyed : IsKeyed (columns_of schema table)) where
  -- a row that fits and is unique was put
  pub IsChange-put : (row : Cells) (before : Option Cells) → RowFits (columns_of schema table) row → IsUniqueRow schema table row (rows_of tables table)
      → before ≡ row_like (columns_of schema table) row (rows_of tables table) → IsChange schema (record { table = table; before = before; after = Some row }) tables
  IsChange-put row before fits unique was = record {
    table = below;
    keyed = keyed;
    before = there before was;
    after = sym was;
    fits = fits;
    unique = unique;
  }
    where
      there : (old : Option Cells) → old ≡ row_like (columns_of schema table) row (rows_of tables table) → IfSome old (λ x. row_like (columns_of schema table) x (rows_of tables table) ≡ Some x)
      there None is = tt
      there (Some x) is =
          let own : key_of (columns_of schema table) x ≡ key_of (columns_of schema table) row = key_of-found (columns_of schema table) (key_of (columns_of schema table) row) x (rows_of tables table) (sym is) in
          rw own (sym is)

  -- the row with a key was taken away, where there was one
  module _ (key : Cells) (before : Option Cells) (was : before ≡ find_row (columns_of schema table) key (rows_of tables table)) where
    pub IsChange-take : IsChange schema (record { table = table; before = before; after = None }) tables
    IsChange-take = record { table = below; keyed = keyed; before = there before was; after = tt; fits = tt; unique = tt }
      where
        there : (old : Option Cells) → old ≡ find_row (columns_of schema table) key (rows_of tables table) → IfSome old (λ x. row_like (columns_of schema table) x (rows_of tables table) ≡ Some x)
        there None is = tt
        there (Some x) is =
            let own : key_of (columns_of schema table) x ≡ key = key_of-found (columns_of schema table) key x (rows_of tables table) (sym is) in
            rw own (sym is)

    pub made-take : after_change schema (record { table = table; before = before; after = None }) tables ≡ set tables table (take_row (columns_of schema table) key (rows_of tables table))
    made-take = ap (set tables table) (go before was)
      where
        go : (old : Option Cells) → old ≡ find_row (columns_of schema table) key (rows_of tables table) → after_change_in (columns_of schema table) old None (rows_of tables table) ≡ take_row (columns_of schema table) key (rows_of tables table)
        go None is = sym (take_row-absent (columns_of schema table) key (rows_of tables table) (sym is))
        go (Some x) is = ap (λ k. take_row (columns_of schema table) k (rows_of tables table)) (key_of-found (columns_of schema table) key x (rows_of tables table) (sym is))
