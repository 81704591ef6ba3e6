-- Snapshots one by one, and what each shows of a master's tables.
use Rattle.std.proofs.Common.{◌≡◌, ◌+◌, ℕ, List, [], ◌∷◌, ◌++◌, drop, Some, None, sym, ap, ◌∙◌, subst, append_assoc}
use Rattle.std.specs.Prelude.{slice_get}
use Rattle.rep_lists.proofs.Places.{drop_from_found}
use Rattle.rep_schema.specs.declared.schema.Schema.{Schema}
use Rattle.rep_schema.specs.Tables.{Rows}
use Rattle.snapshot_query.specs.declared.snapshot.Snapshot.{Snapshot}
use Rattle.snapshot_query.specs.Parents.{rule_rows}
use Rattle.site_state.specs.declared.rows.TableRows.{TableRows}
use Rattle.site_events.specs.Rules.{rows_ruled, HaveNoParents}

module _ (ss : List Snapshot) (place : ℕ) (s : Snapshot) (there : slice_get ss place ≡ Some s) where
  -- where it has no parent, and none behind it has one, none from here on has one
  pub no_parents_from : s.parent ≡ None → HaveNoParents (drop (place + 1) ss) → HaveNoParents (drop place ss)
  no_parents_from none rest = subst HaveNoParents (sym (drop_from_found ss place s there)) (none, rest)

  -- what it shows comes next
  pub shown_next : (schema : Schema) (tables : List Rows) (before after : List TableRows) (new : TableRows) → after ≡ before ++ new ∷ [] → new ≡ record { table = s.table; rows = rule_rows schema tables s }
      → before ++ rows_ruled schema tables (drop place ss) ≡ rows_ruled schema tables ss → after ++ rows_ruled schema tables (drop (place + 1) ss) ≡ rows_ruled schema tables ss
  shown_next schema tables before after new pushed is so_far =
      let rest = rows_ruled schema tables (drop (place + 1) ss) in
      ap (λ (xs : List TableRows). xs ++ rest) pushed ∙ append_assoc before (new ∷ []) rest ∙ ap (λ (t : TableRows). before ++ t ∷ rest) is
      ∙ ap (λ (more : List Snapshot). before ++ rows_ruled schema tables more) (sym (drop_from_found ss place s there)) ∙ so_far
