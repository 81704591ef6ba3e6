-- The call of a changed row fits the schema.
use Rattle.std.proofs.Common.{◌≡◌, ◌≢◌, ℕ, ◌+◌, ◌<◌, ◌≤◌, List, [], ◌∷◌, length, get_or, map, Bool, true, false, cond, length-append, refl, sym, ap, ◌∙◌, subst, inl, inr, arith}
use Rattle.std.specs.Prelude.{filter, Option, Some, None, IfSome}
use Rattle.std.specs.List.{AllByRecursion, range_with_len}
use Rattle.std.specs.List.Sorted.{IsStrictlyIncreasing}
use Rattle.std.proofs.lemmas.Bool.{cases_lt}
use Rattle.std.proofs.lemmas.List.{get_or_append_left, get_or_at}
use Rattle.std.proofs.lemmas.List.Elements.{All-contains_itself, recursion_from_All}
use Rattle.std.proofs.lemmas.List.FromFn.{length-range_with_len, get_or-range_with_len}
use Rattle.std.proofs.lemmas.List.Kept.{IsStrictlyIncreasing-filter}
use Rattle.rep_schema.specs.declared.schema.Schema.{Schema}
use Rattle.rep_schema.specs.declared.change.Change.{Change}
use Rattle.rep_schema.specs.Tables.{Cells, columns_of, key_of, RowFits}
use Rattle.rep_schema.specs.Shape.{HasShape}
use Rattle.rep_schema.specs.Groups.{shadow_group, groups_of, group_columns_of, group_numbers_of, group_values, differ_in, differing_groups}
use Rattle.rep_schema.specs.Changes.{ChangeFits}
use Rattle.rep_schema.proofs.GroupShapes.{length-groups_of}
use Rattle.rep_schema.proofs.ValuesAt.{are_same-Decides}
use Rattle.rep_schema.proofs.PartFit.{RowFits-key_of, RowFits-values_at}
use Rattle.rep_calls.specs.declared.call.Part.{Part}
use Rattle.conflict_detect.specs.Fits.{IsGroupOf, PartFits, UpdateFits, CallFits}
use Rattle.conflict_detect.specs.ChangeCalls.{part_between, parts_between, call_between, call_of}
use Rattle.conflict_detect.specs.Laws.{AreOneRow}
use Rattle.conflict_detect.proofs.RowAfter.{same_from_groups}

module _ (schema : Schema) (shape : HasShape schema) (table : ℕ) where
  -- the numbers of a table's groups rise
  numbers_rise : IsStrictlyIncreasing (group_numbers_of schema table)
  numbers_rise k within =
      let n = length (groups_of schema table) in
      let named = length-range_with_len 0 n in
      let below : k < n = omega (arith, within, named, length-append {A = ℕ}) in
      let here : get_or (group_numbers_of schema table) k 0 ≡ k = get_or_append_left (range_with_len 0 n) (shadow_group ∷ []) 0 k (omega (arith, named, below)) ∙ get_or-range_with_len 0 n k 0 below ∙ omega arith in
      elim (cases_lt (k + 1) n) [
        | inl inside ↦
            let next : get_or (group_numbers_of schema table) (k + 1) 0 ≡ k + 1 = get_or_append_left (range_with_len 0 n) (shadow_group ∷ []) 0 (k + 1) (omega (arith, named, inside)) ∙ get_or-range_with_len 0 n (k + 1) 0 inside ∙ omega arith in
            omega (arith, here, next)
        | inr past ↦
            let at_end : n ≡ k + 1 = omega (arith, below, past) in
            let last : get_or (group_numbers_of schema table) (k + 1) 0 ≡ shadow_group = get_or_at (range_with_len 0 n) shadow_group [] 0 (k + 1) (named ∙ at_end) in
            omega (arith, here, last, below, length-groups_of schema shape table)
      ]

  module _ (a b : Cells) (one : AreOneRow schema table a b) where
    -- the part of a group that differs fits
    part_fits : (group : ℕ) → IsGroupOf schema table group → differ_in schema table a b group ≡ true → PartFits schema table (part_between schema table a b group)
    part_fits group is differs = record {
      group = is;
      old = RowFits-values_at (group_columns_of schema table group) (columns_of schema table) a one.first;
      new = RowFits-values_at (group_columns_of schema table group) (columns_of schema table) b one.second;
      differ = λ same. let test = (are_same-Decides (group_values schema table group a) (group_values schema table group b)).1 same in cc;
    }

    parts_fit : (groups : List ℕ) → AllByRecursion (IsGroupOf schema table) groups → AllByRecursion (PartFits schema table) (map (part_between schema table a b) (filter (differ_in schema table a b) groups))
    parts_fit [] all = tt
    parts_fit (g ∷ gs) all = go (differ_in schema table a b g) refl (parts_fit gs all.1)
      where
        go : (t : Bool) → differ_in schema table a b g ≡ t → AllByRecursion (PartFits schema table) (map (part_between schema table a b) (filter (differ_in schema table a b) gs))
            → AllByRecursion (PartFits schema table) (map (part_between schema table a b) (cond t (g ∷ filter (differ_in schema table a b) gs) (filter (differ_in schema table a b) gs)))
        go true differs later = (part_fits g all.0 differs, later)
        go false same later = later

    groups_of_parts : (groups : List ℕ) → map (λ (part : Part). part.group) (map (part_between schema table a b) groups) ≡ groups
    groups_of_parts [] = refl
    groups_of_parts (g ∷ gs) = ap (λ xs. g ∷ xs) (groups_of_parts gs)

    some_part : (groups : List ℕ) → groups ≢ [] → 1 ≤ length (map (part_between schema table a b) groups)
    some_part [] some = absurd (some refl)
    some_part (g ∷ gs) some = omega arith

    -- the update of a row by another one with its key
    update_between_fits : a ≢ b → UpdateFits schema table (key_of (columns_of schema table) a) (parts_between schema table a b)
    update_between_fits differ = record {
      key_fits = RowFits-key_of (columns_of schema table) a one.first;
      some = some_part (differing_groups schema table a b) (λ none. differ (same_from_groups schema shape table a b one none));
      parts_fit = parts_fit (group_numbers_of schema table) (recursion_from_All (IsGroupOf schema table) (group_numbers_of schema table) (All-contains_itself (group_numbers_of schema table)));
      rise = subst IsStrictlyIncreasing (sym (groups_of_parts (differing_groups schema table a b))) (IsStrictlyIncreasing-filter (differ_in schema table a b) (group_numbers_of schema table) numbers_rise);
    }

-- the call of a changed row fits
pub CallFits-call_of : (schema : Schema) (change : Change) → HasShape schema → ChangeFits schema change → CallFits schema (call_of schema change)
CallFits-call_of schema change shape fits = go change.before change.after fits.before fits.after fits.differ fits.same_key
  where
    go : (before after : Option Cells) → IfSome before (λ row. RowFits (columns_of schema change.table) row) → IfSome after (λ row. RowFits (columns_of schema change.table) row) → before ≢ after
        → IfSome before (λ a. IfSome after (λ b. key_of (columns_of schema change.table) a ≡ key_of (columns_of schema change.table) b)) → CallFits schema (call_between schema change.table before after)
    go None None before_fits after_fits differ same_key = absurd (differ refl)
    go None (Some row) before_fits after_fits differ same_key = record { table = fits.table; content = after_fits }
    go (Some row) None before_fits after_fits differ same_key = record { table = fits.table; content = before_fits }
    go (Some a) (Some b) before_fits after_fits differ same_key = record {
      table = fits.table;
      content = update_between_fits schema shape change.table a b (record { first = before_fits; second = after_fits; same_key = same_key }) (λ same. differ (ap Some same));
    }
