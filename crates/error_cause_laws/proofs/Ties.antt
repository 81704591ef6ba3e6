-- Latest values never tie: an update's values carry a stamp of a site that was never there before.
use Rattle.std.proofs.Common.{◌≡◌, ℕ, Bool, true, false, cond, List, [], ◌∷◌, ◌++◌, Some, Ok, Err, refl, sym, ap, ◌∙◌, subst}
use Rattle.std.specs.Prelude.{Result, ℤ, slice_get, int_lt, ◌+ℤ◌}
use Rattle.std.specs.List.{AllByRecursion}
use Rattle.rep_values.specs.declared.refusal.ApplyError.{ApplyError}
use Rattle.rep_values.specs.declared.refusal.ApplyError.TheVariants as error
use Rattle.rep_schema.specs.declared.schema.Schema.{Schema}
use Rattle.rep_schema.specs.Tables.{Cells, columns_of, RowFits}
use Rattle.rep_schema.specs.Fitting.{is_in_range}
use Rattle.rep_schema.specs.Groups.{group_columns_of, group_values, with_group_values}
use Rattle.rep_schema.specs.Kinds.{has_place}
use Rattle.rep_schema.specs.Named.{group_name}
use Rattle.rep_schema.proofs.Coverage.{group_columns_of-below}
use Rattle.rep_schema.proofs.PartFit.{RowFits-with_values}
use Rattle.schema_rules.specs.declared.forms.Form.{Form}
use Rattle.schema_rules.specs.declared.forms.Form.TheVariants as form
use Rattle.rep_calls.specs.declared.call.Part.{Part}
use Rattle.conflict_detect.specs.Fits.{PartFits}
use Rattle.conflict_detect.specs.Differing.{is_matched}
use Rattle.resolve_methods.specs.declared.decision.Decision.{Decision}
use Rattle.resolve_methods.specs.declared.decision.Decision.TheVariants.{TakeNew, TakeNumber, Keep, Undecided, Range}
use Rattle.resolve_methods.specs.Decide.{decision_of}
use Rattle.resolve_methods.specs.Ranks.{number_of, site_level_of}
use Rattle.resolve_methods.specs.SequenceLaws.{one_group_number, group_number, number_or_zero, move_of, IsSameLevel}
use Rattle.txn_effects.specs.Parts.{result_then, values_by, settled_values, settled_part, settled_parts}
use Rattle.txn_effects.proofs.PartEffects.{HasGroupValues-PartFits, RowFits-settled_part}
use Rattle.rep_laws.specs.Commuting.{IsSound}
use Rattle.rep_laws.specs.GroupForms.{form_at, value_of, PartKeepsForm}
use Rattle.convergence_laws.proofs.GroupColumns.{value_of-values_at}
use Rattle.rep_laws.proofs.FormShapes.{IsShaped-form_at}
use Rattle.convergence_laws.proofs.Moves.{DecisionLaws, within_row, group_values-with_own, long_values}

-- ---- the part that isn't settled

-- an update fails at one of its parts, behind those that are settled
pub record PartFails (schema : Schema) (table : ℕ) (parts : List Part) (row : Cells) (why : ApplyError) : Type 0 where
  pub before : List Part
  pub part : Part
  pub after : List Part
  pub whole : parts ≡ before ++ part ∷ after
  pub now : Cells
  pub settles : settled_parts schema table before row ≡ Ok now
  pub fails : settled_part schema table part now ≡ Err why
  pub before_fit : AllByRecursion (PartFits schema table) before
  pub before_keep : AllByRecursion (PartKeepsForm schema table) before
  pub part_fits : PartFits schema table part
  pub part_keeps : PartKeepsForm schema table part
  pub now_fits : RowFits (columns_of schema table) now

module _ (schema : Schema) (sound : IsSound schema) (table : ℕ) where
  pub part_fails : (parts : List Part) (row : Cells) (why : ApplyError) → AllByRecursion (PartFits schema table) parts → AllByRecursion (PartKeepsForm schema table) parts → RowFits (columns_of schema table) row
      → settled_parts schema table parts row ≡ Err why → PartFails schema table parts row why
  part_fails [] row why fit keep fits gives = cc
  part_fails (part ∷ parts) row why fit keep fits gives = go (settled_part schema table part row) refl gives (λ next next_fits later. part_fails parts next why fit.1 keep.1 next_fits later)
    where
      go : (r : Result Cells ApplyError) → settled_part schema table part row ≡ r → result_then r (settled_parts schema table parts) ≡ Err why
          → ((next : Cells) → RowFits (columns_of schema table) next → settled_parts schema table parts next ≡ Err why → PartFails schema table parts next why) → PartFails schema table (part ∷ parts) row why
      go (Err e) is gives more =
          let same : e ≡ why = cc in
          record {
            before = [];
            part = part;
            after = parts;
            whole = refl;
            now = row;
            settles = refl;
            fails = is ∙ ap (λ x. Err x) same;
            before_fit = tt;
            before_keep = tt;
            part_fits = fit.0;
            part_keeps = keep.0;
            now_fits = fits;
          }
      go (Ok next) is gives more =
          let rest = more next (RowFits-settled_part schema table sound.shape part row next fit.0 fits is) gives in
          record {
            before = part ∷ rest.before;
            part = rest.part;
            after = rest.after;
            whole = ap (λ ps. part ∷ ps) rest.whole;
            now = rest.now;
            settles = rw is rest.settles;
            fails = rest.fails;
            before_fit = (fit.0, rest.before_fit);
            before_keep = (keep.0, rest.before_keep);
            part_fits = rest.part_fits;
            part_keeps = rest.part_keeps;
            now_fits = rest.now_fits;
          }

  -- ---- what a tie says

  -- the same stamp, and the same level where both sites have one
  pub record Ties (part : Part) (row : Cells) : Type 0 where
    pub at : ℕ
    pub by : ℕ
    pub has : form_at schema table part.group ≡ Some (form.Latest at by)
    pub stamps : number_or_zero (number_of (value_of (group_columns_of schema table part.group) part.new at)) ≡ number_or_zero (number_of (value_of (group_columns_of schema table part.group) (group_values schema table part.group row) at))
    pub levels : IsSameLevel (site_level_of schema (value_of (group_columns_of schema table part.group) part.new by)) (site_level_of schema (value_of (group_columns_of schema table part.group) (group_values schema table part.group row) by))

  module _ (decides : DecisionLaws) (part : Part) (row : Cells) (group : List ℕ) (part_fits : PartFits schema table part) (fits : RowFits (columns_of schema table) row) where
    abbrev places : List ℕ
    places = group_columns_of schema table part.group

    abbrev left_by : Decision → Result Cells ApplyError
    left_by d = values_by d (group_name schema table part.group) part.new (group_values schema table part.group row)

    latest_ties : (at by : ℕ) → form_at schema table part.group ≡ Some (form.Latest at by) → decision_of schema table part row ≡ Undecided → Ties part row
    latest_ties at by has undecided =
        let is = IsShaped-form_at schema sound table part.group (form.Latest at by) has in
        let law = decides.latest schema table at by part row sound.shape is.numbers is.methods (HasGroupValues-PartFits schema table part part_fits) fits in
        let tie = law.undecided.0 undecided in
        record {
          at = at;
          by = by;
          has = has;
          stamps = ap (λ o. number_or_zero (number_of o)) (sym (value_new at is.has_stamp)) ∙ tie.0 ∙ ap (λ o. number_or_zero (number_of o)) (value_now at is.has_stamp);
          levels = subst (λ o. IsSameLevel (site_level_of schema o) (site_level_of schema (value_of places (group_values schema table part.group row) by))) (value_new by is.has_site)
              (subst (λ o. IsSameLevel (site_level_of schema (slice_get made by)) (site_level_of schema o)) (value_now by is.has_site) tie.1);
        }
      where
        made : Cells
        made = with_group_values schema table part.group part.new row

        value_now : (c : ℕ) → has_place places c ≡ true → slice_get row c ≡ value_of places (group_values schema table part.group row) c
        value_now c there = sym (value_of-values_at places row c (within_row schema sound table part.group (form.Latest at by) has row fits) there)

        made_fits : RowFits (columns_of schema table) (with_group_values schema table part.group part.new row)
        made_fits = RowFits-with_values (columns_of schema table) places part.new row (group_columns_of-below schema sound.shape table part.group) part_fits.new fits

        value_new : (c : ℕ) → has_place places c ≡ true → slice_get (with_group_values schema table part.group part.new row) c ≡ value_of places part.new c
        value_new c there = sym (value_of-values_at places (with_group_values schema table part.group part.new row) c (within_row schema sound table part.group (form.Latest at by) has (with_group_values schema table part.group part.new row) made_fits) there)
            ∙ ap (λ vs. value_of places vs c) (group_values-with_own schema sound table part.group (form.Latest at by) has part.new row fits (long_values schema sound table part.group (form.Latest at by) has part.new part_fits.new))

    undecided_ties : (f : Form) → form_at schema table part.group ≡ Some f → left_by (decision_of schema table part row) ≡ Err (error.UpdateConflict group) → Ties part row
    undecided_ties form.Sum has gives =
        let shape = IsShaped-form_at schema sound table part.group form.Sum has in
        let adds = decides.adds schema table shape.0 part row shape.1 (HasGroupValues-PartFits schema table part part_fits) fits in
        absurd (go (group_number schema table part.group row +ℤ move_of part) (is_in_range (group_number schema table part.group row +ℤ move_of part)) (rw adds at gives))
      where
        go : (z : ℤ) (b : Bool) → left_by (cond b (TakeNumber z) Range) ≡ Err (error.UpdateConflict group) → ⊥
        go z true e = cc
        go z false e = cc
    undecided_ties (form.Greatest c) has gives =
        absurd (go (int_lt (group_number schema table part.group row) (one_group_number part.new))
        (rw (decides.greatest schema table c part row (IsShaped-form_at schema sound table part.group (form.Greatest c) has) (HasGroupValues-PartFits schema table part part_fits) fits) at gives))
      where
        go : (b : Bool) → left_by (cond b TakeNew Keep) ≡ Err (error.UpdateConflict group) → ⊥
        go true e = cc
        go false e = cc
    undecided_ties (form.Least c) has gives =
        absurd (go (int_lt (one_group_number part.new) (group_number schema table part.group row))
        (rw (decides.least schema table c part row (IsShaped-form_at schema sound table part.group (form.Least c) has) (HasGroupValues-PartFits schema table part part_fits) fits) at gives))
      where
        go : (b : Bool) → left_by (cond b TakeNew Keep) ≡ Err (error.UpdateConflict group) → ⊥
        go true e = cc
        go false e = cc
    undecided_ties (form.Latest at by) has gives = go (decision_of schema table part row) refl gives
      where
        go : (d : Decision) → decision_of schema table part row ≡ d → left_by d ≡ Err (error.UpdateConflict group) → Ties part row
        go TakeNew is e = cc
        go (TakeNumber n) is e = cc
        go Keep is e = cc
        go Undecided is e = latest_ties at by has is
        go Range is e = cc

    -- a part fails so only where latest values tie
    pub conflict_ties : PartKeepsForm schema table part → settled_part schema table part row ≡ Err (error.UpdateConflict group) → Ties part row
    conflict_ties keeps gives = go (is_matched schema table row part) (values_fail (settled_values schema table part row) gives)
      where
        values_fail : (r : Result Cells ApplyError) → result_then r (λ values. Ok (with_group_values schema table part.group values row)) ≡ Err (error.UpdateConflict group) → r ≡ Err (error.UpdateConflict group)
        values_fail (Ok values) e = cc
        values_fail (Err x) e = let same : x ≡ error.UpdateConflict group = cc in ap (λ y. Err y) same

        go : (b : Bool) → cond b (Ok part.new) (left_by (decision_of schema table part row)) ≡ Err (error.UpdateConflict group) → Ties part row
        go true e = cc
        go false e = undecided_ties keeps.kind keeps.has e
