-- What the parts of an update leave of a row: it fits, and its key is the same.
use Rattle.std.proofs.Common.{◌≡◌, ℕ, zero, suc, ◌+◌, ◌<◌, List, [], ◌∷◌, length, drop, Bool, true, false, cond, Some, Ok, refl, sym, ap, ◌∙◌, subst, inl, inr, arith}
use Rattle.std.specs.Prelude.{slice_get, ◌||◌}
use Rattle.std.specs.List.{AllByRecursion}
use Rattle.std.proofs.lemmas.Bool.Decides.{eqb_tells}
use Rattle.rep_values.specs.declared.value.Value.TheVariants.{Num}
use Rattle.rep_schema.specs.declared.schema.Schema.{Schema}
use Rattle.rep_schema.specs.declared.schema.Column.{Column}
use Rattle.rep_schema.specs.declared.schema.Group.{Group}
use Rattle.rep_schema.specs.Tables.{Cells, columns_of, key_of, RowFits}
use Rattle.rep_schema.specs.Shape.{HasShape}
use Rattle.rep_schema.specs.Groups.{shadow_group, groups_of, is_grouped, shadow_from, group_columns_of, columns_in_group, group_values, with_group_values}
use Rattle.rep_schema.proofs.PartFit.{RowFits-values_at, RowFits-with_values, key_of-with_values}
use Rattle.rep_schema.proofs.GroupShapes.{group_columns_of-shadow, group_columns_of-named}
use Rattle.rep_schema.proofs.Coverage.{group_columns_of-below}
use Rattle.rep_calls.specs.declared.call.Part.{Part}
use Rattle.conflict_detect.specs.Fits.{PartFits}
use Rattle.conflict_detect.specs.Differing.{is_matched}
use Rattle.resolve_methods.specs.declared.decision.Decision.{Decision}
use Rattle.resolve_methods.specs.declared.decision.Decision.TheVariants.{TakeNew, TakeNumber, Keep, Undecided, Range}
use Rattle.resolve_methods.specs.Decide.{decision_of}
use Rattle.resolve_methods.specs.PartValues.{HasGroupValues}
use Rattle.resolve_methods.proofs.TakenNumber.{RowFits-taken_number}
use Rattle.rep_schema.specs.Named.{group_name}
use Rattle.txn_effects.specs.Parts.{values_by, settled_values, settled_part, settled_parts}
use Rattle.txn_effects.specs.Calls.{IsOffTheKey, KeysStandAlone}
use Rattle.txn_effects.proofs.Results.{result_then-Ok}

-- the first of the columns from a place on stands at the place
first_at : (n : ℕ) (columns : List Column) (c : Column) (cs : List Column) → drop n columns ≡ c ∷ cs → (slice_get columns n ≡ Some c) × (drop (suc n) columns ≡ cs)
first_at zero [] c cs from = cc
first_at zero (x ∷ xs) c cs from = (cc, cc)
first_at (suc n) [] c cs from = cc
first_at (suc n) (x ∷ xs) c cs from = first_at n xs c cs from

-- no column of the shadow group is a key column
shadow_off_the_key : (groups : List Group) (columns : List Column) (n : ℕ) (rest : List Column) → drop n columns ≡ rest → AllByRecursion (IsOffTheKey columns) (shadow_from groups n rest)
shadow_off_the_key groups columns n [] from = tt
shadow_off_the_key groups columns n (c ∷ cs) from =
    let first = first_at n columns c cs from in
    let next : n + 1 ≡ suc n = omega arith in
    go c.key (is_grouped groups n) refl first.0 (shadow_off_the_key groups columns (n + 1) cs (rw next first.1))
  where
    go : (is_key grouped : Bool) → c.key ≡ is_key → slice_get columns n ≡ Some c → AllByRecursion (IsOffTheKey columns) (shadow_from groups (n + 1) cs)
        → AllByRecursion (IsOffTheKey columns) (cond (is_key || grouped) (shadow_from groups (n + 1) cs) (n ∷ shadow_from groups (n + 1) cs))
    go true grouped plain there later = later
    go false true plain there later = later
    go false false plain there later = (rw there plain, later)

-- the values of a part that fits match its group
pub HasGroupValues-PartFits : (schema : Schema) (table : ℕ) (part : Part) → PartFits schema table part → HasGroupValues schema table part
HasGroupValues-PartFits schema table part fits = record { old = fits.old; new = fits.new }

module _ (schema : Schema) (table : ℕ) where
  module _ (apart : KeysStandAlone schema) (below : table < length schema.tables) where
    -- no column of a group is a key column
    pub IsOffTheKey-group : (group : ℕ) → AllByRecursion (IsOffTheKey (columns_of schema table)) (group_columns_of schema table group)
    IsOffTheKey-group group = elim (eqb_tells group shadow_group) [
      | inl same ↦ rw (same.1, group_columns_of-shadow schema table) (shadow_off_the_key (groups_of schema table) (columns_of schema table) 0 (columns_of schema table) refl)
      | inr other ↦ rw (group_columns_of-named schema table group other.1) (apart table below group)
    ]

    -- the row after a part has the row's key
    pub key_of-settled_part : (part : Part) (row after : Cells) → settled_part schema table part row ≡ Ok after → key_of (columns_of schema table) after ≡ key_of (columns_of schema table) row
    key_of-settled_part part row after gives =
        let settled = result_then-Ok (settled_values schema table part row) (λ values. Ok (with_group_values schema table part.group values row)) after gives in
        let is : with_group_values schema table part.group settled.0 row ≡ after = cc (settled.2) in
        subst (λ r. key_of (columns_of schema table) r ≡ key_of (columns_of schema table) row) is
        (key_of-with_values (columns_of schema table) (group_columns_of schema table part.group) settled.0 row (IsOffTheKey-group part.group))

    -- so has the row after all parts
    pub key_of-settled_parts : (parts : List Part) (row after : Cells) → settled_parts schema table parts row ≡ Ok after → key_of (columns_of schema table) after ≡ key_of (columns_of schema table) row
    key_of-settled_parts [] row after gives = let is : row ≡ after = cc in ap (key_of (columns_of schema table)) (sym is)
    key_of-settled_parts (part ∷ parts) row after gives =
        let settled = result_then-Ok (settled_part schema table part row) (settled_parts schema table parts) after gives in
        key_of-settled_parts parts settled.0 after settled.2 ∙ key_of-settled_part part row settled.0 settled.1

  module _ (part : Part) (row : Cells) (part_fits : PartFits schema table part) (fits : RowFits (columns_of schema table) row) where
    -- the values of a group after a part fit its columns
    RowFits-settled_values : (values : Cells) → settled_values schema table part row ≡ Ok values → RowFits (columns_in_group schema table part.group) values
    RowFits-settled_values values gives = matched (is_matched schema table row part) gives
      where
        decided : (d : Decision) → decision_of schema table part row ≡ d → values_by d (group_name schema table part.group) part.new (group_values schema table part.group row) ≡ Ok values
            → RowFits (columns_in_group schema table part.group) values
        decided TakeNew decides e = let is : part.new ≡ values = cc in subst (RowFits (columns_in_group schema table part.group)) is part_fits.new
        decided (TakeNumber n) decides e =
            let is : Num n ∷ [] ≡ values = cc in
            subst (RowFits (columns_in_group schema table part.group)) is (RowFits-taken_number schema table part row n (HasGroupValues-PartFits schema table part part_fits) fits decides)
        decided Keep decides e =
            let is : group_values schema table part.group row ≡ values = cc in
            subst (RowFits (columns_in_group schema table part.group)) is (RowFits-values_at (group_columns_of schema table part.group) (columns_of schema table) row fits)
        decided Undecided decides e = cc
        decided Range decides e = cc

        matched : (b : Bool) → cond b (Ok part.new) (values_by (decision_of schema table part row) (group_name schema table part.group) part.new (group_values schema table part.group row)) ≡ Ok values
            → RowFits (columns_in_group schema table part.group) values
        matched true e = let is : part.new ≡ values = cc in subst (RowFits (columns_in_group schema table part.group)) is part_fits.new
        matched false e = decided (decision_of schema table part row) refl e

  module _ (shape : HasShape schema) where
    -- the row after a part fits
    pub RowFits-settled_part : (part : Part) (row after : Cells) → PartFits schema table part → RowFits (columns_of schema table) row → settled_part schema table part row ≡ Ok after
        → RowFits (columns_of schema table) after
    RowFits-settled_part part row after part_fits fits gives =
        let settled = result_then-Ok (settled_values schema table part row) (λ values. Ok (with_group_values schema table part.group values row)) after gives in
        let is : with_group_values schema table part.group settled.0 row ≡ after = cc (settled.2) in
        subst (RowFits (columns_of schema table)) is
        (RowFits-with_values (columns_of schema table) (group_columns_of schema table part.group) settled.0 row (group_columns_of-below schema shape table part.group)
        (RowFits-settled_values part row part_fits fits settled.0 settled.1) fits)

    -- so does the row after all parts
    pub RowFits-settled_parts : (parts : List Part) (row after : Cells) → AllByRecursion (PartFits schema table) parts → RowFits (columns_of schema table) row → settled_parts schema table parts row ≡ Ok after
        → RowFits (columns_of schema table) after
    RowFits-settled_parts [] row after parts_fit fits gives = let is : row ≡ after = cc in subst (RowFits (columns_of schema table)) is fits
    RowFits-settled_parts (part ∷ parts) row after parts_fit fits gives =
        let settled = result_then-Ok (settled_part schema table part row) (settled_parts schema table parts) after gives in
        RowFits-settled_parts parts settled.0 after parts_fit.1 (RowFits-settled_part part row settled.0 parts_fit.0 fits settled.1) settled.2
