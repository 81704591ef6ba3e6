-- Calls that fit a schema are within the limits of a packet.
use Rattle.std.proofs.Common.{◌≡◌, ℕ, suc, ◌+◌, ◌<◌, ◌≤◌, Bool, true, false, cond, List, [], ◌∷◌, length, Option, Some, None, inl, inr, refl, arith}
use Rattle.std.specs.Prelude.{◌≢◌, ◌||◌, slice_get}
use Rattle.std.specs.List.{AllByRecursion, cons_option}
use Rattle.std.proofs.lemmas.Bool.{le-leb}
use Rattle.rep_values.specs.declared.value.Value.{Value}
use Rattle.rep_values.specs.declared.value.Value.TheVariants.{Num, Words}
use Rattle.rep_schema.specs.declared.schema.Schema.{Schema}
use Rattle.rep_schema.specs.declared.schema.Column.{Column}
use Rattle.rep_schema.specs.declared.schema.Group.{Group}
use Rattle.rep_schema.specs.declared.schema.Kind.{Kind}
use Rattle.rep_schema.specs.declared.schema.Kind.TheVariants as kind
use Rattle.rep_schema.specs.Shape.{HasShape}
use Rattle.rep_schema.specs.Tables.{Cells, columns_of, key_count, key_columns, FitsKind, RowFits}
use Rattle.rep_schema.specs.Groups.{shadow_group, groups_of, is_grouped, shadow_from, group_columns_of, values_at, columns_in_group}
use Rattle.rep_schema.proofs.RowFit.{length-fits}
use Rattle.rep_schema.proofs.Shapes.{length-columns_of}
use Rattle.rep_schema.proofs.GroupShapes.{group_columns_of-shadow, group_columns_of-named, length-named_columns, length-groups_of}
use Rattle.rep_schema.proofs.Coverage.{group_number_cases}
use Rattle.rep_calls.specs.declared.call.Call.{Call}
use Rattle.rep_calls.specs.declared.call.Call.TheVariants.{Insert, Update, Delete}
use Rattle.rep_calls.specs.declared.call.Part.{Part}
use Rattle.conflict_detect.specs.Fits.{IsGroupOf, PartFits, CallFits}
use Rattle.conflict_detect.proofs.FewParts.{length-UpdateFits}
use Rattle.conflict_detect.specs.KeysNamed.{HasKeys}
use Rattle.packet_code.specs.Limits.{IsPlainValue, IsPlainRow, IsPlainKey, is_group_number, IsPlainPart, IsPlainCall}
use Rattle.packet_code.specs.Texts.{HasTextForm, HaveTextForm, PartHasTextForm, CallHasTextForm}

plain_value : (kind : Kind) (value : Value) → FitsKind kind value → HasTextForm value → IsPlainValue value
plain_value kind.Number (Num n) fits form = fits
plain_value kind.Date (Num n) fits form = fits
plain_value kind.Stamp (Num n) fits form = fits
plain_value kind.Words (Num n) fits form = absurd fits
plain_value kind.Site (Num n) fits form = absurd fits
plain_value kind (Words text) fits form = form

plain_values : (columns : List Column) (row : Cells) → RowFits columns row → HaveTextForm row → AllByRecursion IsPlainValue row
plain_values [] [] fits form = tt
plain_values [] (v ∷ vs) fits form = absurd fits
plain_values (c ∷ cs) [] fits form = absurd fits
plain_values (c ∷ cs) (v ∷ vs) fits form = (plain_value c.kind v fits.0 form.0, plain_values cs vs fits.1 form.1)

-- columns with a key column are some columns
some_keyed : (columns : List Column) → 1 ≤ key_count columns → 1 ≤ length columns
some_keyed [] some = absurd (omega (arith, some))
some_keyed (c ∷ cs) some = omega arith

length-key_columns : (columns : List Column) → length (key_columns columns) ≡ key_count columns
length-key_columns [] = refl
length-key_columns (c ∷ cs) = go c.key (length-key_columns cs)
  where
    go : (key : Bool) → length (key_columns cs) ≡ key_count cs → length (cond key (c ∷ key_columns cs) (key_columns cs)) ≡ cond key (key_count cs + 1) (key_count cs)
    go true same = omega (arith, same)
    go false same = same

length-shadow_from : (groups : List Group) (n : ℕ) (columns : List Column) → length (shadow_from groups n columns) ≤ length columns
length-shadow_from groups n [] = omega arith
length-shadow_from groups n (c ∷ cs) = go (c.key || is_grouped groups n) (length-shadow_from groups (n + 1) cs)
  where
    go : (other : Bool) → length (shadow_from groups (n + 1) cs) ≤ length cs
        → length (cond other (shadow_from groups (n + 1) cs) (n ∷ shadow_from groups (n + 1) cs)) ≤ suc (length cs)
    go true few = omega (arith, few)
    go false few = omega (arith, few)

length-values_at : {X : Type 0} (places : List ℕ) (xs : List X) → length (values_at places xs) ≤ length places
length-values_at [] xs = omega arith
length-values_at {X = X} (p ∷ ps) xs = go (slice_get xs p) (length-values_at ps xs)
  where
    go : (found : Option X) → length (values_at ps xs) ≤ length ps → length (cons_option found (values_at ps xs)) ≤ suc (length ps)
    go None few = omega (arith, few)
    go (Some x) few = omega (arith, few)

-- values that differ are some values
some_differ : (columns : List Column) (old new : Cells) → RowFits columns old → RowFits columns new → old ≢ new → 1 ≤ length old
some_differ [] [] [] old_fits new_fits differ = absurd (differ refl)
some_differ [] [] (v ∷ vs) old_fits new_fits differ = absurd new_fits
some_differ [] (v ∷ vs) new old_fits new_fits differ = absurd old_fits
some_differ (c ∷ cs) [] new old_fits new_fits differ = absurd old_fits
some_differ (c ∷ cs) (v ∷ vs) new old_fits new_fits differ = omega arith

module _ (schema : Schema) (shape : HasShape schema) (keys : HasKeys schema) where
  plain_row : (table : ℕ) (row : Cells) → table < length schema.tables → RowFits (columns_of schema table) row → HaveTextForm row → IsPlainRow row
  plain_row table row there fits form =
      let long = length-fits (columns_of schema table) row fits in
      record {
        number = (omega (arith, long, some_keyed (columns_of schema table) (keys table there).0), omega (arith, long, length-columns_of schema shape table));
        values = plain_values (columns_of schema table) row fits form;
      }

  plain_key : (table : ℕ) (key : Cells) → table < length schema.tables → RowFits (key_columns (columns_of schema table)) key → HaveTextForm key → IsPlainKey key
  plain_key table key there fits form =
      let long = length-fits (key_columns (columns_of schema table)) key fits in
      let counted = length-key_columns (columns_of schema table) in
      record {
        number = (omega (arith, long, counted, (keys table there).0), omega (arith, long, counted, (keys table there).1));
        values = plain_values (key_columns (columns_of schema table)) key fits form;
      }

  -- a group has at most 32 columns
  length-group_columns_of : (table group : ℕ) → IsGroupOf schema table group → length (group_columns_of schema table group) ≤ 32
  length-group_columns_of table group is = elim (group_number_cases schema table group is) [
    | inl named ↦
        let few = length-groups_of schema shape table in
        let apart : group ≢ shadow_group = λ same. omega (arith, few, named, same) in
        rw (group_columns_of-named schema table group apart) (length-named_columns schema shape table group)
    | inr last ↦
        let few = length-shadow_from (groups_of schema table) 0 (columns_of schema table) in
        rw (last, group_columns_of-shadow schema table) (omega (arith, few, length-columns_of schema shape table))
  ]

  group_number : (table group : ℕ) → IsGroupOf schema table group → is_group_number group ≡ true
  group_number table group is = elim (group_number_cases schema table group is) [
    | inl named ↦ let few : group ≤ 31 = omega (arith, named, length-groups_of schema shape table) in rw (le-leb group 31 few) refl
    | inr last ↦ rw last refl
  ]

  plain_part : (table : ℕ) (part : Part) → PartFits schema table part → PartHasTextForm part → IsPlainPart part
  plain_part table part fits form =
      let columns = columns_in_group schema table part.group in
      let old_long = length-fits columns part.old fits.old in
      let new_long = length-fits columns part.new fits.new in
      let few = length-values_at (group_columns_of schema table part.group) (columns_of schema table) in
      let most = length-group_columns_of table part.group fits.group in
      let some = some_differ columns part.old part.new fits.old fits.new fits.differ in
      record {
        group = group_number table part.group fits.group;
        old = record { number = (some, omega (arith, old_long, few, most)); values = plain_values columns part.old fits.old form.old };
        new = record { number = (omega (arith, old_long, new_long, some), omega (arith, new_long, few, most)); values = plain_values columns part.new fits.new form.new };
        number = omega (arith, old_long, new_long);
        differ = fits.differ;
      }

  plain_parts : (table : ℕ) (parts : List Part) → AllByRecursion (PartFits schema table) parts → AllByRecursion PartHasTextForm parts → AllByRecursion IsPlainPart parts
  plain_parts table [] fits form = tt
  plain_parts table (part ∷ parts) fits form = (plain_part table part fits.0 form.0, plain_parts table parts fits.1 form.1)

  plain_call : (call : Call) → CallFits schema call → CallHasTextForm call → IsPlainCall call
  plain_call (Insert table row) fits form = (omega (arith, fits.table, shape.table_number), plain_row table row fits.table fits.content form)
  plain_call (Update table key parts) fits form = (
    omega (arith, fits.table, shape.table_number),
    plain_key table key fits.table fits.content.key_fits form.0,
    record {
      some = fits.content.some;
      most = length-UpdateFits schema table key parts shape fits.content;
      each = plain_parts table parts fits.content.parts_fit form.1;
      rise = fits.content.rise;
    },
  )
  plain_call (Delete table row) fits form = (omega (arith, fits.table, shape.table_number), plain_row table row fits.table fits.content form)

  -- each call that fits is within the limits of a packet
  pub plain_calls : (calls : List Call) → AllByRecursion (CallFits schema) calls → AllByRecursion CallHasTextForm calls → AllByRecursion IsPlainCall calls
  plain_calls [] fits form = tt
  plain_calls (call ∷ calls) fits form = (plain_call call fits.0 form.0, plain_calls calls fits.1 form.1)
