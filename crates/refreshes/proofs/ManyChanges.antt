-- The changes of several refreshes, taken apart and taken back.
use Rattle.std.proofs.Common.{◌≡◌, List, [], ◌∷◌, ◌++◌, refl, sym, ap, ◌∙◌}
use Rattle.std.proofs.lemmas.List.{append_assoc, append-nil}
use Rattle.rep_schema.specs.declared.schema.Schema.{Schema}
use Rattle.rep_schema.specs.declared.change.Change.{Change}
use Rattle.rep_schema.specs.declared.change.Changes.{Changes}
use Rattle.rep_schema.specs.Tables.{Rows, AreTables}
use Rattle.rep_schema.specs.Changes.{after_change, LeadsTo}
use Rattle.rep_schema.proofs.Leading.{AreTables-led}
use Rattle.refreshes.specs.Done.{all_changes}

-- those of one refresh more
pub all_changes-push : (done : List Changes) (changes : Changes) → all_changes (done ++ changes ∷ []) ≡ all_changes done ++ changes.rows
all_changes-push [] changes = append-nil changes.rows
all_changes-push (first ∷ done) changes = ap (λ more. first.rows ++ more) (all_changes-push done changes) ∙ sym (append_assoc first.rows (all_changes done) changes.rows)

module _ (schema : Schema) where
  -- changes that lead from tables to others go by tables in between
  lead_apart : (changes others : List Change) (earlier later : List Rows) → LeadsTo schema (changes ++ others) earlier later
      → (middle : List Rows) × LeadsTo schema changes earlier middle × LeadsTo schema others middle later
  lead_apart [] others earlier later lead = (earlier, refl, lead)
  lead_apart (change ∷ changes) others earlier later lead =
      let rest = lead_apart changes others (after_change schema change earlier) later lead.1 in
      (rest.0, (lead.0, rest.1), rest.2)

  -- those of the last refresh lead on from tables to which the others led
  pub last_apart : (done : List Changes) (changes : Changes) (earlier later : List Rows) → AreTables schema earlier → LeadsTo schema (all_changes (done ++ changes ∷ [])) earlier later
      → (middle : List Rows) × AreTables schema middle × LeadsTo schema (all_changes done) earlier middle × LeadsTo schema changes.rows middle later
  last_apart done changes earlier later are lead =
      let parts = lead_apart (all_changes done) changes.rows earlier later (rw all_changes-push at lead) in
      (parts.0, AreTables-led schema (all_changes done) earlier parts.0 are parts.1, parts.1, parts.2)
