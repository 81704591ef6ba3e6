-- A group's columns in a row that fits.
use Rattle.std.proofs.Common.{◌≡◌, ℕ, ◌<◌, Bool, true, false, cond, length, Ok, refl, ap, subst, sym, ◌∙◌}
use Rattle.std.specs.List.{AllByRecursion}
use Rattle.rep_schema.specs.declared.schema.Schema.{Schema}
use Rattle.rep_schema.specs.Shape.{HasShape}
use Rattle.rep_schema.specs.Tables.{Cells, columns_of, RowFits}
use Rattle.rep_schema.specs.Groups.{group_columns_of, group_values, with_group_values}
use Rattle.rep_schema.proofs.RowFit.{length-fits}
use Rattle.rep_schema.proofs.Coverage.{group_columns_of-below}
use Rattle.rep_calls.specs.declared.call.Part.{Part}
use Rattle.conflict_detect.specs.Differing.{is_matched}
use Rattle.resolve_methods.specs.declared.decision.Decision.{Decision}
use Rattle.resolve_methods.specs.declared.decision.Decision.TheVariants.{TakeNew, TakeNumber, Keep, Undecided, Range}
use Rattle.resolve_methods.specs.Decide.{decision_of}
use Rattle.rep_schema.specs.Named.{group_name}
use Rattle.txn_effects.specs.Parts.{result_then, values_by, settled_part}
use Rattle.txn_apply.proofs.Written.{with_values-own}

module _ (schema : Schema) (shape : HasShape schema) (table group : ℕ) (row : Cells) (fits : RowFits (columns_of schema table) row) where
  -- the row has a value in each
  pub group_columns_of-within : AllByRecursion (λ place. place < length row) (group_columns_of schema table group)
  group_columns_of-within = subst (λ (n : ℕ). AllByRecursion (λ place. place < n) (group_columns_of schema table group)) (length-fits (columns_of schema table) row fits) (group_columns_of-below schema shape table group)

  -- with its own values there it is the same
  pub with_group_values-own : with_group_values schema table group (group_values schema table group row) row ≡ row
  with_group_values-own = with_values-own (group_columns_of schema table group) row group_columns_of-within

  -- where the row is kept, it is settled as it is
  pub settled_part-keep : (part : Part) → part.group ≡ group → cond (is_matched schema table row part) TakeNew (decision_of schema table part row) ≡ Keep → settled_part schema table part row ≡ Ok row
  settled_part-keep part here keeps = go (is_matched schema table row part) (decision_of schema table part row) keeps ∙ ap Ok own
    where
      own : with_group_values schema table part.group (group_values schema table part.group row) row ≡ row
      own = subst (λ (g : ℕ). with_group_values schema table g (group_values schema table g row) row ≡ row) (sym here) with_group_values-own

      go : (b : Bool) (decision : Decision) → cond b TakeNew decision ≡ Keep
          → result_then (cond b (Ok part.new) (values_by decision (group_name schema table part.group) part.new (group_values schema table part.group row)))
          (λ values. Ok (with_group_values schema table part.group values row)) ≡ Ok (with_group_values schema table part.group (group_values schema table part.group row) row)
      go true decision keep = cc
      go false TakeNew keep = cc
      go false (TakeNumber n) keep = cc
      go false Keep keep = refl
      go false Undecided keep = cc
      go false Range keep = cc
