-- A group's values after calls: those of the first row, moved by each part that was applied.
use Rattle.std.proofs.Common.{◌≡◌, ◌≢◌, ℕ, ◌<◌, ◌≤◌, ◌==◌, true, List, [], ◌∷◌, ◌++◌, length, Some, None, Ok, refl, sym, ap, ◌∙◌, subst, inl, inr, arith, append-nil}
use Rattle.std.specs.Prelude.{Option, ◌⊎◌, filter}
use Rattle.std.specs.Option.{option_map}
use Rattle.std.specs.List.{AllByRecursion}
use Rattle.std.proofs.lemmas.Bool.Decides.{eqb_tells}
use Rattle.std.proofs.lemmas.Option.{slice_get_within}
use Rattle.rep_schema.specs.declared.schema.Schema.{Schema}
use Rattle.rep_schema.specs.Tables.{Cells, columns_of, RowFits}
use Rattle.rep_schema.specs.Groups.{groups_of, group_columns_of, group_values, values_at}
use Rattle.rep_schema.specs.Shape.{ShareNone}
use Rattle.rep_schema.proofs.Coverage.{Contains-named}
use Rattle.schema_rules.specs.declared.forms.Form.{Form}
use Rattle.rep_calls.specs.declared.call.Part.{Part}
use Rattle.conflict_detect.specs.Fits.{IsGroupOf, PartFits}
use Rattle.txn_effects.specs.Parts.{settled_values, settled_part, settled_parts}
use Rattle.rep_schema.specs.Groups.{with_group_values}
use Rattle.txn_effects.proofs.Results.{result_then-Ok}
use Rattle.txn_effects.proofs.PartEffects.{RowFits-settled_part}
use Rattle.txn_effects.proofs.OwnParts.{groups_share_none}
use Rattle.txn_effects.specs.Convergent.{is_convergent}
use Rattle.rep_laws.specs.Commuting.{IsSound}
use Rattle.rep_laws.specs.GroupForms.{form_at, Allows, PartKeepsForm}
use Rattle.convergence_laws.specs.Joins.{first_row}
use Rattle.convergence_laws.proofs.GroupColumns.{values_at-with_other}
use Rattle.rep_laws.proofs.FormShapes.{form_at-named}
use Rattle.convergence_laws.proofs.Moves.{DecisionLaws, move, settled_moves}
use Rattle.convergence_laws.proofs.Winners.{moved_by, moved_by-append}

some_same : {X : Type 0} (x y : X) → Some x ≡ Some y → x ≡ y
some_same x y e = cc

turned : (xs ys : List ℕ) → ShareNone xs ys → ShareNone ys xs
turned xs ys apart x has also = apart x also has

module _ (schema : Schema) (sound : IsSound schema) (decides : DecisionLaws) (table group : ℕ) (convergent : is_convergent schema table ≡ true) where
  abbrev places : List ℕ
  places = group_columns_of schema table group

  abbrev mine : List Part → List Part
  mine parts = filter (λ part. part.group == group) parts

  -- ---- the parts of one update

  module _ (f : Form) (has : form_at schema table group ≡ Some f) where
    is_group : IsGroupOf schema table group
    is_group = let named = form_at-named schema sound table group f has in Contains-named schema table group (slice_get_within (groups_of schema table) group named.0 named.1)

    apart : (other : ℕ) → IsGroupOf schema table other → other ≢ group → ShareNone (group_columns_of schema table other) places
    apart other of differ = elim (order other group differ) [
      | inl below ↦ groups_share_none schema sound.shape table other group of is_group below
      | inr above ↦ turned places (group_columns_of schema table other) (groups_share_none schema sound.shape table group other is_group of above)
    ]
      where
        order : (a b : ℕ) → a ≢ b → (a < b) ⊎ (b < a)
        order a b differ = grind (arith, differ)

    -- a part of another group leaves the values
    pub part_apart : (part : Part) (row after : Cells) → PartFits schema table part → part.group ≢ group → settled_part schema table part row ≡ Ok after → values_at places after ≡ values_at places row
    part_apart part row after fits differ gives =
        let settled = result_then-Ok (settled_values schema table part row) (λ values. Ok (with_group_values schema table part.group values row)) after gives in
        let is : with_group_values schema table part.group settled.0 row ≡ after = cc (settled.2) in
        ap (values_at places) (sym is) ∙ values_at-with_other (group_columns_of schema table part.group) settled.0 row places (apart part.group fits.group differ)

    -- one of the group moves them
    part_own : (part : Part) (row after : Cells) → PartFits schema table part → PartKeepsForm schema table part → RowFits (columns_of schema table) row → part.group ≡ group → settled_part schema table part row ≡ Ok after
        → values_at places after ≡ move schema places f part (values_at places row)
    part_own part row after fits keeps row_fits same gives =
        let kinds : keeps.kind ≡ f = some_same keeps.kind f (sym keeps.has ∙ ap (form_at schema table) same ∙ has) in
        let its : form_at schema table part.group ≡ Some f = ap (form_at schema table) same ∙ has in
        subst (λ g. group_values schema table g after ≡ move schema (group_columns_of schema table g) f part (group_values schema table g row)) same
        (settled_moves schema sound decides table part row fits row_fits f its (subst (λ k. Allows schema (group_columns_of schema table part.group) k part) kinds keeps.allows) after gives)

    pub parts_move : (parts : List Part) (row after : Cells) → AllByRecursion (PartFits schema table) parts → AllByRecursion (PartKeepsForm schema table) parts → RowFits (columns_of schema table) row
        → settled_parts schema table parts row ≡ Ok after → values_at places after ≡ moved_by schema places f (values_at places row) (mine parts)
    parts_move [] row after fit keep row_fits gives = let is : row ≡ after = cc in ap (values_at places) (sym is)
    parts_move (part ∷ parts) row after fit keep row_fits gives =
        let step = result_then-Ok (settled_part schema table part row) (settled_parts schema table parts) after gives in
        let rest = parts_move parts step.0 after fit.1 keep.1 (RowFits-settled_part schema table sound.shape part row step.0 fit.0 row_fits step.1) step.2 in
        rest ∙ (elim (eqb_tells part.group group) [
          | inl same ↦ rw same.0 (ap (λ vs. moved_by schema places f vs (mine parts)) (part_own part row step.0 fit.0 keep.0 row_fits same.1 step.1))
          | inr other ↦ rw other.0 (ap (λ vs. moved_by schema places f vs (mine parts)) (part_apart part row step.0 fit.0 other.1 step.1))
        ])

  -- ---- a row before and after some calls

  pub record Came (before after : Option Cells) (inserted : List Cells) (parts : List Part) : Type 0 where
    pub value : (f : Form) → form_at schema table group ≡ Some f
        → option_map (values_at places) after ≡ option_map (λ row. moved_by schema places f (values_at places row) parts) (first_row before inserted)
    pub absent : first_row before inserted ≡ None → after ≡ None
    pub none : after ≡ None → (before ≡ None) × (inserted ≡ []) × (parts ≡ [])
    pub some : (row : Cells) → before ≡ Some row → inserted ≡ []
    pub one : length inserted ≤ 1

  pub came_not : (row : Option Cells) → Came row row [] []
  came_not None = record { value = λ f is. refl; absent = λ e. refl; none = λ e. (refl, refl, refl); some = λ r e. refl; one = omega arith }
  came_not (Some row) = record { value = λ f is. refl; absent = λ e. cc; none = λ e. cc; some = λ r e. refl; one = omega arith }

  pub came_on : (before mid after : Option Cells) (inserted later : List Cells) (parts others : List Part) → Came before mid inserted parts → Came mid after later others
      → Came before after (inserted ++ later) (parts ++ others)
  came_on before None after inserted later parts others a b =
      let n = a.none refl in
      rw (n.0, n.1, n.2) b
  came_on before (Some m) None inserted later parts others a b = let n = b.none refl in let wrong = n.0 in cc
  came_on before (Some m) (Some r) inserted later parts others a b = rw (b.some m refl, append-nil) (record {
    value = λ f is. go f is (first_row before inserted) (a.value f is);
    absent = λ e. let wrong = a.absent e in cc;
    none = λ e. cc;
    some = a.some;
    one = a.one;
  })
    where
      go : (f : Form) → form_at schema table group ≡ Some f → (o : Option Cells)
          → option_map (values_at places) (Some m) ≡ option_map (λ row. moved_by schema places f (values_at places row) parts) o
          → option_map (values_at places) (Some r) ≡ option_map (λ row. moved_by schema places f (values_at places row) (parts ++ others)) o
      go f is None e = cc
      go f is (Some x) e =
          let moved : values_at places m ≡ moved_by schema places f (values_at places x) parts = cc in
          b.value f is ∙ ap Some (ap (λ vs. moved_by schema places f vs others) moved ∙ sym (moved_by-append schema places f (values_at places x) parts others))
