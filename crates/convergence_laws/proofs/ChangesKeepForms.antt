-- The row changes of a transaction that keeps the forms of groups, as calls, keep them too.
use Rattle.std.proofs.Common.{◌≡◌, ◌≢◌, ℕ, ◌==◌, Bool, true, false, cond, List, [], ◌∷◌, length, map, Some, None, refl, sym, ap, ◌∙◌, inl, inr}
use mathlib.Core.Bool.{true≢false}
use Rattle.std.specs.Prelude.{Option, ◌⊎◌, ◌&&◌, ◌||◌, not, filter, slice_get, is_some}
use Rattle.std.specs.List.{AllByRecursion}
use Rattle.std.proofs.lemmas.Bool.{cases_eq}
use Rattle.rep_schema.specs.declared.schema.Schema.{Schema}
use Rattle.rep_schema.specs.declared.schema.TableEntry.{TableEntry}
use Rattle.rep_schema.specs.declared.schema.Group.{Group}
use Rattle.rep_schema.specs.Tables.{Cells, columns_in, columns_of}
use Rattle.rep_schema.specs.Groups.{shadow_group, groups_of, shadow_from, named_columns, group_columns_of, group_numbers_of, group_values, are_same, differ_in}
use Rattle.rep_schema.proofs.GroupShapes.{group_columns_of-shadow, group_columns_of-named}
use Rattle.rep_schema.proofs.ValuesAt.{are_same-Decides}
use Rattle.schema_rules.specs.declared.forms.Form.{Form}
use Rattle.schema_rules.specs.declared.forms.Form.TheVariants as form
use Rattle.schema_rules.specs.Forms.{form_of}
use Rattle.schema_rules.specs.ConvergentRules.{has_groups_alone, have_forms}
use Rattle.schema_rules.proofs.SoundRules.{KeepsAllRules-unbroken}
use Rattle.rep_calls.specs.declared.call.Part.{Part}
use Rattle.conflict_detect.specs.ChangeCalls.{part_between, parts_between}
use Rattle.txn_effects.specs.Convergent.{convergent_in, is_convergent}
use Rattle.rep_laws.specs.Commuting.{IsSound}
use Rattle.rep_laws.specs.GroupForms.{form_in, form_at, Allows, PartKeepsForm}
use Rattle.rep_laws.proofs.FormShapes.{passes}
use Rattle.convergence_laws.proofs.Winners.{moved_by, best_up, first_loses, moved_greatest, moved_least, moved_latest}
use Rattle.rep_laws.proofs.ConvergentRows.{no_length, both_hold}

-- ---- moved values

-- values that parts have moved, where they aren't the same, are a change that the form allows
moved_allows : (schema : Schema) (columns : List ℕ) (f : Form) (values : Cells) (parts : List Part) → are_same values (moved_by schema columns f values parts) ≡ false
    → (part : Part) → part.old ≡ values → part.new ≡ moved_by schema columns f values parts → Allows schema columns f part
moved_allows schema columns form.Sum values parts differ part old new = tt
moved_allows schema columns (form.Greatest c) values parts differ part old new = rw (old, new, moved_greatest schema columns c values parts) (first_loses schema columns (form.Greatest c) values parts)
moved_allows schema columns (form.Least c) values parts differ part old new = rw (old, new, moved_least schema columns c values parts) (first_loses schema columns (form.Least c) values parts)
moved_allows schema columns (form.Latest c d) values parts differ part old new =
    rw (old, new, moved_latest schema columns c d values parts) (elim (best_up schema columns (form.Latest c d) values parts) [
      | inl same ↦ absurd (true≢false (sym ((are_same-Decides values (moved_by schema columns (form.Latest c d) values parts)).1 (sym (moved_latest schema columns c d values parts ∙ same))) ∙ differ))
      | inr more ↦ more
    ])

-- ---- the groups of a convergent table

module _ (schema : Schema) (sound : IsSound schema) (table : ℕ) (convergent : is_convergent schema table ≡ true) where
  tested : (c test : Bool) → c ≡ true → (not c || test) ≡ true → test ≡ true
  tested true test is holds = holds
  tested false test is holds = cc

  -- each group has a form, or no column
  pub formed : (group : ℕ) → ((f : Form) × (form_at schema table group ≡ Some f)) ⊎ (group_columns_of schema table group ≡ [])
  formed group = go (slice_get schema.tables table) refl convergent
    where
      go : (entry : Option TableEntry) → slice_get schema.tables table ≡ entry → convergent_in entry ≡ true → ((f : Form) × (form_at schema table group ≡ Some f)) ⊎ (group_columns_of schema table group ≡ [])
      go None at is = cc
      go (Some entry) at is = elim (cases_eq group shadow_group) [
        | inl same ↦
            let outer = both_hold ((length entry.constraints == 0) && (length (shadow_from entry.groups 0 entry.columns) == 0)) (length entry.key_methods == 0)
            (tested entry.convergent (has_groups_alone entry) is (passes (λ (t : TableEntry). not t.convergent || has_groups_alone t) schema.tables table entry ((KeepsAllRules-unbroken schema).1 sound.unbroken).groups_alone at)) in
            let none = no_length (shadow_from entry.groups 0 entry.columns) (both_hold (length entry.constraints == 0) (length (shadow_from entry.groups 0 entry.columns) == 0) outer.0).1 in
            inr (ap (group_columns_of schema table) same ∙ group_columns_of-shadow schema table ∙ (rw at none))
        | inr other ↦ named (slice_get (groups_of schema table) group) refl other
      ]
        where
          forms : have_forms entry ≡ true
          forms = tested entry.convergent (have_forms entry) is (passes (λ (t : TableEntry). not t.convergent || have_forms t) schema.tables table entry ((KeepsAllRules-unbroken schema).1 sound.unbroken).formed at)

          some_form : (o : Option Form) → is_some o ≡ true → (f : Form) × (o ≡ Some f)
          some_form None e = cc
          some_form (Some f) e = (f, refl)

          named : (found : Option Group) → slice_get (groups_of schema table) group ≡ found → group ≢ shadow_group → ((f : Form) × (form_at schema table group ≡ Some f)) ⊎ (group_columns_of schema table group ≡ [])
          named None at_group other = inr (group_columns_of-named schema table group other ∙ ap named_columns at_group)
          named (Some g) at_group other =
              let here : slice_get entry.groups group ≡ Some g = rw at at at_group in
              let one = some_form (form_of entry.columns g) (passes (λ (x : Group). is_some (form_of entry.columns x)) entry.groups group g forms here) in
              inl (one.0, ap (form_in (columns_of schema table)) at_group ∙ ap (λ cs. form_of cs g) (ap columns_in at) ∙ one.1)

  -- the parts between two rows, where each group's form allows the change
  module _ (before after : Cells) (allowed : (group : ℕ) (f : Form) → form_at schema table group ≡ Some f → differ_in schema table before after group ≡ true
      → Allows schema (group_columns_of schema table group) f (part_between schema table before after group)) where
    part_keeps : (group : ℕ) → differ_in schema table before after group ≡ true → PartKeepsForm schema table (part_between schema table before after group)
    part_keeps group differ = elim (formed group) [
      | inl has ↦ record { kind = has.0; has = has.1; allows = allowed group has.0 has.1 differ }
      | inr none ↦ absurd (true≢false (sym (rw none at differ)))
    ]

    parts_keep : (groups : List ℕ) → AllByRecursion (PartKeepsForm schema table) (map (part_between schema table before after) (filter (differ_in schema table before after) groups))
    parts_keep [] = tt
    parts_keep (g ∷ gs) = go (differ_in schema table before after g) refl (parts_keep gs)
      where
        go : (b : Bool) → differ_in schema table before after g ≡ b → AllByRecursion (PartKeepsForm schema table) (map (part_between schema table before after) (filter (differ_in schema table before after) gs))
            → AllByRecursion (PartKeepsForm schema table) (map (part_between schema table before after) (cond b (g ∷ filter (differ_in schema table before after) gs) (filter (differ_in schema table before after) gs)))
        go true e rest = (part_keeps g e, rest)
        go false e rest = rest

    pub parts_between_allowed : AllByRecursion (PartKeepsForm schema table) (parts_between schema table before after)
    parts_between_allowed = parts_keep (group_numbers_of schema table)

  unlike : (b : Bool) → not b ≡ true → b ≡ false
  unlike true e = cc
  unlike false e = refl

  -- so where each group's values were moved by parts
  pub parts_between_keep : (before after : Cells) → ((group : ℕ) (f : Form) → form_at schema table group ≡ Some f
      → (parts : List Part) × (group_values schema table group after ≡ moved_by schema (group_columns_of schema table group) f (group_values schema table group before) parts))
      → AllByRecursion (PartKeepsForm schema table) (parts_between schema table before after)
  parts_between_keep before after moved = parts_between_allowed before after (λ group f has differ.
      let by = moved group f has in
      moved_allows schema (group_columns_of schema table group) f (group_values schema table group before) by.0 (rw (← by.1) (unlike (are_same (group_values schema table group before) (group_values schema table group after)) differ))
      (part_between schema table before after group) refl by.1)
