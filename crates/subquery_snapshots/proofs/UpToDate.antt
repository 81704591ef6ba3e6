-- Up-to-date rows, and keys that are distinct.
use Rattle.std.proofs.Common.{◌≡◌, ℕ, List, [], ◌∷◌, ◌++◌, map, get_or, Bool, true, false, cond, Option, Some, None, filter, refl, sym, ◌∙◌, subst}
use Rattle.std.specs.declared.cmp.Ordering.{Ordering}
use Rattle.std.specs.declared.cmp.Ordering.TheVariants.{Less, Equal, Greater}
use Rattle.std.proofs.lemmas.Bool.{or_parts}
use Rattle.std.proofs.lemmas.Cmp.{tied_itself}
use Rattle.std.proofs.lemmas.List.Folds.{list_any-append}
use Rattle.rep_lists.specs.Rising.{IsRising, found_here}
use Rattle.rep_lists.proofs.Rising.{rising_below}
use Rattle.rep_values.specs.Order.{key_cmp}
use Rattle.rep_values.specs.OrderLaws.{key_cmp_total}
use Rattle.rep_schema.specs.declared.schema.Schema.{Schema}
use Rattle.rep_schema.specs.declared.schema.Column.{Column}
use Rattle.rep_schema.specs.Shape.{AreDistinct}
use Rattle.rep_schema.specs.Shown.{shown_by}
use Rattle.rep_schema.specs.Tables.{Cells, Rows, columns_of, key_of, row_beside, find_row, rows_of}
use Rattle.rep_schema.specs.Groups.{are_same}
use Rattle.rep_schema.proofs.SameValues.{key_of-at}
use Rattle.rep_schema.proofs.ValuesAt.{are_same-Decides}
use Rattle.rep_schema.proofs.FoundRows.{key_of-found}
use Rattle.refreshes.specs.Showing.{has_key}
use Rattle.subquery_snapshots.specs.declared.rule.Rule.{Rule}
use Rattle.subquery_snapshots.specs.Rules.{rule_picks, waits, waiting_keys, ShowsUpToDate}
use Rattle.subquery_snapshots.specs.Laws.{AreUpToDate}

-- no key of rising ones comes twice
pub distinct_rising : (keys : List Cells) → IsRising key_cmp keys → AreDistinct keys
distinct_rising keys rising = λ i j d less within same.
    let below : key_cmp (get_or keys i d) (get_or keys j d) ≡ Less = rising_below (λ (k : Cells). k) key_cmp key_cmp_total keys d rising i j less within in
    let tied : key_cmp (get_or keys j d) (get_or keys j d) ≡ Equal = tied_itself key_cmp_total (get_or keys j d) in
    absurd (cc (below, tied, same))

-- a row that is found under a key which is none of those of the rows that pass a test doesn't pass it
module _ (columns : List Column) (test : Cells → Bool) (key row : Cells) where
  fails : (rows : Rows) → find_row columns key rows ≡ Some row → has_key key (map (key_of columns) (filter test rows)) ≡ false → test row ≡ false
  fails [] found none = absurd (cc found)
  fails (r ∷ rs) found none = go (row_beside columns key r) refl (test r) refl found none (fails rs)
    where
      go : (o : Ordering) → row_beside columns key r ≡ o → (b : Bool) → test r ≡ b → found_here o r (find_row columns key rs) ≡ Some row
          → has_key key (map (key_of columns) (cond b (r ∷ filter test rs) (filter test rs))) ≡ false
          → (find_row columns key rs ≡ Some row → has_key key (map (key_of columns) (filter test rs)) ≡ false → test row ≡ false) → test row ≡ false
      go Less place true is found none later = later found (or_parts (are_same key (key_of columns r)) (has_key key (map (key_of columns) (filter test rs))) none).1
      go Less place false is found none later = later found none
      go Equal place true is found none later =
          let other : are_same key (key_of columns r) ≡ false = (or_parts (are_same key (key_of columns r)) (has_key key (map (key_of columns) (filter test rs))) none).0 in
          let own : are_same key (key_of columns r) ≡ true = (are_same-Decides key (key_of columns r)).1 (sym (key_of-at columns key r place)) in
          absurd (cc (other, own))
      go Equal place false is found none later = let same : r ≡ row = cc found in subst (λ (z : Cells). test z ≡ false) same is
      go Greater place b is found none later = absurd (cc found)

module _ (schema : Schema) (tables : List Rows) (table : ℕ) (rule : Rule) (keys parents : List Cells) (rows : Rows) where
  abbrev columns : List Column
  columns = columns_of schema table

  abbrev master : Rows
  master = rows_of tables table

  abbrev waiting : List Cells
  waiting = waiting_keys columns rule parents master

  -- rows that have what is up to date show it under each key that isn't looked up
  pub up_to_date_shown : AreUpToDate schema tables table rule keys parents rows → ShowsUpToDate schema tables table rule keys parents rows
  up_to_date_shown up_to_date = record { shows = λ key none. go key (parts key none) (find_row columns key master) refl }
    where
      parts : (key : Cells) → has_key key (keys ++ waiting) ≡ false → (has_key key keys ≡ false) × (has_key key waiting ≡ false)
      parts key none = or_parts (has_key key keys) (has_key key waiting) (sym (list_any-append (are_same key) keys waiting) ∙ none)

      go : (key : Cells) → (has_key key keys ≡ false) × (has_key key waiting ≡ false) → (found : Option Cells) → find_row columns key master ≡ found → find_row columns key rows ≡ shown_by (rule_picks schema tables rule) found
      go key neither None there = up_to_date.absent key neither.0 there
      go key neither (Some row) there =
          let own : key_of columns row ≡ key = key_of-found columns key row master there in
          subst (λ (k : Cells). find_row columns k rows ≡ shown_by (rule_picks schema tables rule) (Some row)) own
          (up_to_date.picked row (subst (λ (k : Cells). find_row columns k master ≡ Some row) (sym own) there)
          (subst (λ (k : Cells). has_key k keys ≡ false) (sym own) neither.0)
          (fails columns (waits rule parents) key row master there neither.1))
