-- An update that fits has at most 33 parts.
use Rattle.std.proofs.Common.{◌≡◌, ℕ, ◌+◌, ◌<◌, ◌≤◌, ◌⊎◌, List, length, get_or, map, ◌∙◌, inl, inr, arith}
use Rattle.std.specs.List.Sorted.{IsStrictlyIncreasing}
use Rattle.std.proofs.lemmas.Bool.{cases_lt}
use Rattle.std.proofs.lemmas.List.{get_or-map, length-map}
use Rattle.rep_lists.proofs.Each.{each_found}
use Rattle.std.proofs.lemmas.Option.{get_or_from_slice_get}
use Rattle.rep_schema.specs.declared.schema.Schema.{Schema}
use Rattle.rep_schema.specs.Tables.{Cells}
use Rattle.rep_schema.specs.Shape.{HasShape}
use Rattle.rep_schema.specs.Groups.{shadow_group, groups_of}
use Rattle.rep_schema.proofs.GroupShapes.{place_below, length-groups_of}
use Rattle.rep_schema.proofs.Coverage.{group_number_cases}
use Rattle.rep_calls.specs.declared.call.Part.{Part}
use Rattle.conflict_detect.specs.Fits.{PartFits, UpdateFits}

-- rising numbers below n, and one more at the end, are at most n and one more
few_rising : (n : ℕ) (groups : List ℕ) → n ≤ shadow_group → IsStrictlyIncreasing groups
    → ((k : ℕ) → k < length groups → (get_or groups k 0 < n) ⊎ (get_or groups k 0 ≡ shadow_group)) → length groups ≤ n + 1
few_rising n groups few rising each = elim (cases_lt (n + 1) (length groups)) [
  | inl long ↦
      let at : n ≤ get_or groups n 0 = place_below groups rising n (omega arith) in
      let above : get_or groups n 0 < get_or groups (n + 1) 0 = rising n long in
      elim (each (n + 1) long) [
        | inl named ↦ absurd (omega (arith, at, above, named))
        | inr last ↦ elim (each n (omega arith)) [ inl named ↦ absurd (omega (arith, at, named)) | inr shadow ↦ absurd (omega (arith, above, last, shadow)) ]
      ]
  | inr short ↦ omega arith
]

pub length-UpdateFits : (schema : Schema) (table : ℕ) (key : Cells) (parts : List Part) → HasShape schema → UpdateFits schema table key parts → length parts ≤ 33
length-UpdateFits schema table key parts shape fits =
    let group : Part → ℕ = λ part. part.group in
    let named = length-groups_of schema shape table in
    let counted = length-map parts group in
    let few = few_rising (length (groups_of schema table)) (map group parts) (omega (arith, named)) fits.rise (λ k within.
    let found = each_found (PartFits schema table) parts k (omega (arith, within, counted)) fits.parts_fit in
    let is : get_or (map group parts) k 0 ≡ found.0.group = get_or-map group parts k found.0 0 (omega (arith, within, counted)) ∙ (let same = get_or_from_slice_get parts k found.0 found.0 found.1 in rw same) in
    rw is (group_number_cases schema table found.0.group found.2.group)) in
    omega (arith, few, named, counted)
