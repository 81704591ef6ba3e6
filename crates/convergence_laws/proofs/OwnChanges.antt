-- A change of a row by a site's own statement is one that the forms of the groups allow: numbers don't break their rule, and
-- stamps are above those before.
use Rattle.std.proofs.Common.{◌≡◌, ℕ, zero, suc, ◌+◌, ◌<◌, ◌≤◌, Bool, true, false, cond, List, [], ◌∷◌, length, get_or, Some, None, refl, ◌∙◌, arith, pos, is_lt, zero-add}
use Rattle.std.specs.Prelude.{Option, ℤ, negsuc, ◌<ℤ◌, int_lt, ◌&&◌, ◌||◌, slice_get, filter}
use Rattle.std.specs.Bool.{MatchBool}
use Rattle.std.specs.Option.{option_map}
use Rattle.std.specs.List.{AllByRecursion, list_any}
use Rattle.std.specs.Ordering.{is_gt, int_cmp}
use Rattle.std.specs.declared.cmp.Ordering.TheVariants.{Less, Equal, Greater}
use Rattle.std.proofs.lemmas.Int.{ints}
use Rattle.std.proofs.lemmas.Option.{slice_get_within}
use Rattle.rep_values.specs.declared.name.SiteName.{SiteName}
use Rattle.rep_values.specs.declared.value.Value.{Value}
use Rattle.rep_values.specs.declared.value.Value.TheVariants.{Num, Words}
use Rattle.rep_schema.specs.declared.schema.Schema.{Schema}
use Rattle.rep_schema.specs.declared.schema.Column.{Column}
use Rattle.rep_schema.specs.declared.change.Change.{Change}
use Rattle.rep_schema.specs.Tables.{Cells, columns_of, cell_cmp, RowFits}
use Rattle.rep_schema.specs.Groups.{groups_of, group_columns_of, group_numbers_of, group_values, differ_in}
use Rattle.rep_schema.specs.Kinds.{is_some_and, takes_numbers, is_stamp, has_kind, has_place}
use Rattle.rep_schema.proofs.Coverage.{Contains-named}
use Rattle.schema_rules.specs.declared.forms.Form.{Form}
use Rattle.schema_rules.specs.declared.forms.Form.TheVariants as form
use Rattle.conflict_detect.specs.ChangeCalls.{part_between, call_between, call_of}
use Rattle.resolve_methods.specs.Ranks.{site_level_of}
use Rattle.txn_effects.specs.Convergent.{is_convergent}
use Rattle.txn_effects.specs.Filled.{filling_value, is_modified, above_value, bound_by, bound_from}
use Rattle.local_txn.specs.Laws.{gives_stamp, CarriesStamp, StampsRise}
use Rattle.rep_laws.specs.Commuting.{IsSound}
use Rattle.rep_laws.specs.GroupForms.{form_at, value_of, level_alone, wins, Allows, KeepsForms}
use Rattle.convergence_laws.proofs.GroupColumns.{value_of-values_at}
use Rattle.rep_laws.proofs.FormShapes.{IsShaped-form_at, IsOfKind-form_at, form_at-named}
use Rattle.convergence_laws.proofs.Moves.{numbers_first, int_gt, no_text, within_row}
use Rattle.convergence_laws.proofs.ChangesKeepForms.{parts_between_allowed}
use Rattle.convergence_laws.proofs.OnwardKeepsForms.{plain_keeps}

-- a row after doesn't lose the number that the form keeps
abbrev pub DoesNotLose : Form → Cells → Cells → Type 0
DoesNotLose form.Sum before after = Unit {0}
DoesNotLose (form.Greatest column) before after = is_lt (cell_cmp (slice_get after column) (slice_get before column)) ≡ false
DoesNotLose (form.Least column) before after = is_lt (cell_cmp (slice_get before column) (slice_get after column)) ≡ false
DoesNotLose (form.Latest stamp site) before after = Unit {0}

-- a row of a convergent table that takes another one's place
pub record IsProperUpdate (schema : Schema) (table : ℕ) (before after : Cells) : Type 0 where
  pub before_fits : RowFits (columns_of schema table) before
  pub after_fits : RowFits (columns_of schema table) after
  pub keeps : (group : ℕ) (f : Form) → form_at schema table group ≡ Some f → DoesNotLose f before after

-- a change of a row of a convergent table: a new row, or such a one
abbrev pub IsProperIn : Schema → ℕ → Option Cells → Option Cells → Type 0
IsProperIn schema table None after = Unit {0}
IsProperIn schema table (Some before) None = ⊥
IsProperIn schema table (Some before) (Some after) = IsProperUpdate schema table before after

abbrev pub IsProper : Schema → Change → Type 0
IsProper schema change = is_convergent schema change.table ≡ true → IsProperIn schema change.table change.before change.after

-- a change fills in some stamp of the site's
abbrev pub FillsSome : Schema → SiteName → Change → Type 0
FillsSome schema site change = (stamp : ℕ) × CarriesStamp schema (record { stamp = stamp; site = site }) change

-- so does each change of a block whose stamps rise
pub each_fills : (schema : Schema) (site : SiteName) (low high : ℕ) (changes : List Change) → StampsRise schema site low high changes → AllByRecursion (FillsSome schema site) changes
each_fills schema site low high [] rise = tt
each_fills schema site low high (change ∷ changes) rise = ((rise.0, rise.1), go (gives_stamp schema change) rise.2 (λ n later. each_fills schema site n high changes later))
  where
    go : (b : Bool) → MatchBool b ((low < rise.0) × StampsRise schema site rise.0 high changes) (StampsRise schema site low high changes)
        → ((n : ℕ) → StampsRise schema site n high changes → AllByRecursion (FillsSome schema site) changes) → AllByRecursion (FillsSome schema site) changes
    go true here rest = rest rise.0 here.1
    go false here rest = rest low here

-- ---- numbers

number_at : (columns : List Column) (row : Cells) (p : ℕ) → has_kind takes_numbers columns p ≡ true → RowFits columns row → (n : ℤ) × (slice_get row p ≡ Some (Num n))
number_at [] row p numbers fits = cc
number_at (c ∷ cs) [] p numbers fits = absurd fits
number_at (c ∷ cs) (Num n ∷ vs) zero numbers fits = (n, refl)
number_at (c ∷ cs) (Words t ∷ vs) zero numbers fits = absurd (no_text c.kind t numbers fits.0)
number_at (c ∷ cs) (v ∷ vs) (suc p) numbers fits = number_at cs vs p numbers fits.1

not_less : (a b : ℤ) → is_lt (int_cmp a b) ≡ false → is_gt (int_cmp b a) ≡ false
not_less a b e = int_gt b a ∙ go (int_lt a b) (int_lt b a) e
  where
    go : (low high : Bool) → is_lt (cond low Less (cond high Greater Equal)) ≡ false → low ≡ false
    go true high e = cc
    go false high e = refl

int_above : (a b : ℤ) → b <ℤ a → int_cmp a b ≡ Greater
int_above a b above = go (int_lt a b) (int_lt b a) refl refl
  where
    go : (low high : Bool) → int_lt a b ≡ low → int_lt b a ≡ high → cond low Less (cond high Greater Equal) ≡ Greater
    go true high e f = absurd (omega (arith, ints))
    go false true e f = refl
    go false false e f = absurd (omega (arith, ints))

-- ---- stamps

-- the bound is above each stamp at a chosen place
bound_above : (chosen : ℕ → Bool) (n : ℕ) (columns : List Column) (row : Cells) (k : ℕ) (v : Value) → has_kind is_stamp columns k ≡ true → slice_get row k ≡ Some v → chosen (n + k) ≡ true
    → above_value v ≤ bound_from chosen n columns row
bound_above chosen n [] row k v stamp there gets = cc
bound_above chosen n (c ∷ cs) [] k v stamp there gets = cc
bound_above chosen n (c ∷ cs) (u ∷ us) zero v stamp there gets =
    let same : u ≡ v = cc in
    let here : n + 0 ≡ n = omega arith in
    let bound : bound_by (chosen n && is_stamp c.kind) u ≡ above_value v = rw (rw here at gets, stamp, same) refl in
    omega (arith, bound)
bound_above chosen n (c ∷ cs) (u ∷ us) (suc k) v stamp there gets =
    let next : n + suc k ≡ n + 1 + k = omega arith in
    let rest = bound_above chosen (n + 1) cs us k v stamp there (rw next at gets) in
    omega (arith, rest)

above_stamp : (n : ℤ) (s : ℕ) → above_value (Num n) ≤ s → n <ℤ pos s
above_stamp (pos a) s above = omega (arith, ints, above)
above_stamp (negsuc a) s above = omega (arith, ints)

-- what passes two tests is found among those that pass one
any_among : (test keeps : ℕ → Bool) (xs : List ℕ) (g i : ℕ) → i < length xs → get_or xs i g ≡ g → keeps g ≡ true → test g ≡ true → list_any test (filter keeps xs) ≡ true
any_among test keeps [] g i within is kept passes = absurd (omega (arith, within))
any_among test keeps (x ∷ xs) g zero within is kept passes = rw (is, kept, passes) refl
any_among test keeps (x ∷ xs) g (suc i) within is kept passes = go (keeps x) (any_among test keeps xs g i (omega (arith, within)) is kept passes)
  where
    go : (b : Bool) → list_any test (filter keeps xs) ≡ true → list_any test (cond b (x ∷ filter keeps xs) (filter keeps xs)) ≡ true
    go true later = either (test x) later
      where
        either : (a : Bool) → list_any test (filter keeps xs) ≡ true → (a || list_any test (filter keeps xs)) ≡ true
        either true later = refl
        either false later = later
    go false later = later

stamp_column : (columns : List Column) (k : ℕ) → has_kind is_stamp columns k ≡ true → (c : Column) × (slice_get columns k ≡ Some c) × (is_stamp c.kind ≡ true)
stamp_column columns k stamp = go (slice_get columns k) refl stamp
  where
    go : (o : Option Column) → slice_get columns k ≡ o → is_some_and is_stamp (option_map (λ c. c.kind) o) ≡ true → (c : Column) × (slice_get columns k ≡ Some c) × (is_stamp c.kind ≡ true)
    go None there e = cc
    go (Some c) there e = (c, there, e)

-- ---- one change

module _ (schema : Schema) (sound : IsSound schema) (site : SiteName) (table : ℕ) (before after : Cells) (proper : IsProperUpdate schema table before after)
    (stamp : ℕ) (carries : CarriesStamp schema (record { stamp = stamp; site = site }) (record { table = table; before = Some before; after = Some after })) where
  allowed : (group : ℕ) (f : Form) → form_at schema table group ≡ Some f → differ_in schema table before after group ≡ true → Allows schema (group_columns_of schema table group) f (part_between schema table before after group)
  allowed group form.Sum has differ = tt
  allowed group (form.Greatest c) has differ =
      let one = IsShaped-form_at schema sound table group (form.Greatest c) has in
      let old = number_at (columns_of schema table) before c one.numbers proper.before_fits in
      let new = number_at (columns_of schema table) after c one.numbers proper.after_fits in
      rw (one.columns, old.1, new.1) (not_less new.0 old.0 (rw (old.1, new.1) at (proper.keeps group (form.Greatest c) has)))
  allowed group (form.Least c) has differ =
      let one = IsShaped-form_at schema sound table group (form.Least c) has in
      let old = number_at (columns_of schema table) before c one.numbers proper.before_fits in
      let new = number_at (columns_of schema table) after c one.numbers proper.after_fits in
      rw (one.columns, old.1, new.1) (not_less old.0 new.0 (rw (old.1, new.1) at (proper.keeps group (form.Least c) has)))
  allowed group (form.Latest at own) has differ =
      let is = IsShaped-form_at schema sound table group (form.Latest at own) has in
      let stamps = IsOfKind-form_at schema sound table group (form.Latest at own) has in
      let old = number_at (columns_of schema table) before at is.numbers proper.before_fits in
      let named = form_at-named schema sound table group (form.Latest at own) has in
      let member = Contains-named schema table group (slice_get_within (groups_of schema table) group named.0 named.1) in
      let modified : is_modified schema table before after at ≡ true = any_among (λ g. has_place (group_columns_of schema table g) at) (differ_in schema table before after) (group_numbers_of schema table) group member.0 member.1 member.2 differ is.has_stamp in
      let column = stamp_column (columns_of schema table) at stamps in
      let filled : slice_get after at ≡ Some (filling_value (record { stamp = stamp; site = site }) column.0) = carries.0 at modified column.0 column.1 (rw column.2 refl) in
      let new : slice_get after at ≡ Some (Num (pos stamp)) = filled ∙ (rw column.2 refl) in
      let bound = bound_above (is_modified schema table before after) 0 (columns_of schema table) before at (Num old.0) stamps old.1 (rw zero-add modified) in
      let above : old.0 <ℤ pos stamp = above_stamp old.0 stamp (omega (arith, bound, carries.1)) in
      let new_value : value_of (group_columns_of schema table group) (group_values schema table group after) at ≡ Some (Num (pos stamp)) =
      value_of-values_at (group_columns_of schema table group) after at (within_row schema sound table group (form.Latest at own) has after proper.after_fits) is.has_stamp ∙ new in
      let old_value : value_of (group_columns_of schema table group) (group_values schema table group before) at ≡ Some (Num old.0) =
      value_of-values_at (group_columns_of schema table group) before at (within_row schema sound table group (form.Latest at own) has before proper.before_fits) is.has_stamp ∙ old.1 in
      higher (group_values schema table group after) (group_values schema table group before) (pos stamp) old.0 new_value old_value above
    where
      higher : (new old : Cells) (s n : ℤ) → value_of (group_columns_of schema table group) new at ≡ Some (Num s) → value_of (group_columns_of schema table group) old at ≡ Some (Num n) → n <ℤ s
          → wins schema (group_columns_of schema table group) (form.Latest at own) new old ≡ Greater
      higher new old s n new_value old_value above = rw (new_value, old_value)
          (numbers_first s n (level_alone (site_level_of schema (value_of (group_columns_of schema table group) new own))) (level_alone (site_level_of schema (value_of (group_columns_of schema table group) old own))) Greater (int_above s n above))

-- a site's own change, sent as a call, keeps the forms
pub own_change_keeps : (schema : Schema) → IsSound schema → (site : SiteName) (change : Change) → IsProper schema change → FillsSome schema site change → KeepsForms schema (call_of schema change)
own_change_keeps schema sound site change proper fills = go (is_convergent schema change.table) refl
  where
    by : is_convergent schema change.table ≡ true → (before after : Option Cells) → IsProperIn schema change.table before after
        → (stamp : ℕ) × CarriesStamp schema (record { stamp = stamp; site = site }) (record { table = change.table; before = before; after = after }) → KeepsForms schema (call_between schema change.table before after)
    by convergent None None proper fills = λ e. tt
    by convergent None (Some after) proper fills = tt
    by convergent (Some before) None proper fills = absurd proper
    by convergent (Some before) (Some after) proper fills = λ e. parts_between_allowed schema sound change.table convergent before after (allowed schema sound site change.table before after proper fills.0 fills.1)

    go : (b : Bool) → is_convergent schema change.table ≡ b → KeepsForms schema (call_of schema change)
    go true e = by e change.before change.after (proper e) fills
    go false e = plain_keeps schema change.table e change.before change.after
