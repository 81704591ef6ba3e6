-- A key with a stamp that no column may hold, and with another one in its place.
use Rattle.std.proofs.Common.{◌≡◌, ◌⊎◌, ℕ, ◌+◌, ◌≤◌, Bool, true, false, List, [], ◌∷◌, length, refl, sym, ap, ◌∙◌, inl, inr, arith, pos}
use Rattle.std.specs.Prelude.{Option, Some, None, ◌&&◌, cond, not, is_some}
use Rattle.std.proofs.lemmas.Bool.{and_parts, and_from, and_right, both_ways, cases_lt}
use Rattle.rep_values.specs.declared.name.SiteName.{SiteName}
use Rattle.rep_values.specs.declared.value.Value.{Value}
use Rattle.rep_values.specs.declared.value.Value.TheVariants.{Num, Words}
use Rattle.rep_values.specs.declared.refusal.Refusal.{Refusal}
use Rattle.rep_values.specs.declared.refusal.Refusal.TheVariants as refusal
use Rattle.rep_values.specs.RefusalSteps.{refused, or_then, first_refusal}
use Rattle.rep_schema.specs.declared.schema.Schema.{Schema}
use Rattle.rep_schema.specs.declared.schema.Column.{Column}
use Rattle.rep_schema.specs.Tables.{Cells, Rows, columns_of, key_of, rows_of, RowFits, IsTable}
use Rattle.rep_schema.specs.Kinds.{is_stamp, is_filled, value_in_range, row_in_range}
use Rattle.rep_schema.proofs.FoundRows.{found_row, key_of-found}
use Rattle.txn_effects.specs.declared.local.Here.{Here}
use Rattle.txn_effects.specs.Filled.{filled_from, everywhere, next_stamp, inserted}
use Rattle.txn_effects.specs.Stamps.{first_outside, capped}
use Rattle.txn_effects.specs.Convergent.{is_convergent, barred, begins_with}
use Rattle.txn_effects.specs.Statements.{BlockState, row_at, row_steps, new_row_steps}
use Rattle.local_txn.specs.Running.{inserted_capped}
use Rattle.txn_effects.proofs.KindRows.{are_of-RowFits}
use Rattle.local_txn.proofs.StampedRows.{outside, filling, row_in_range-capped, made_with-capped}
use Rattle.txn_effects.proofs.NewRows.{row_steps-out}

-- the numbers of a row's key are in range where the row's are
in_range-key_of : (columns : List Column) (row : Cells) → row_in_range row ≡ true → row_in_range (key_of columns row) ≡ true
in_range-key_of [] row range = refl
in_range-key_of (c ∷ cs) [] range = refl
in_range-key_of (c ∷ cs) (v ∷ vs) range =
    let parts = and_parts (value_in_range v) (row_in_range vs) range in
    go c.key (in_range-key_of cs vs parts.1) parts.0
  where
    go : (b : Bool) → row_in_range (key_of cs vs) ≡ true → value_in_range v ≡ true → row_in_range (cond b (v ∷ key_of cs vs) (key_of cs vs)) ≡ true
    go true rest here = and_from (value_in_range v) (row_in_range (key_of cs vs)) here rest
    go false rest here = rest

-- no row of a table has a key that is out of range
no_row_outside : (schema : Schema) (tables : List Rows) (table : ℕ) (key : Cells) → IsTable schema table (rows_of tables table) → row_in_range key ≡ false → is_some (row_at schema tables table key) ≡ false
no_row_outside schema tables table key is_table out = go (row_at schema tables table key) refl
  where
    go : (o : Option Cells) → row_at schema tables table key ≡ o → is_some o ≡ false
    go None gone = refl
    go (Some found) there =
        let columns = columns_of schema table in
        let fits = found_row columns key found (rows_of tables table) there (RowFits columns) is_table.fit in
        let range = in_range-key_of columns found (are_of-RowFits columns found fits).1 in
        let own : key_of columns found ≡ key = key_of-found columns key found (rows_of tables table) there in
        absurd (both_ways (row_in_range key) out (rw own at range))

-- two keys are the same or both out of range, and begin alike
record AreAlikeKeys (text : List ℕ) (a b : Cells) : Type 0 where
  either : (a ≡ b) ⊎ ((row_in_range a ≡ false) × (row_in_range b ≡ false))
  begin : begins_with (Words text) a ≡ begins_with (Words text) b

alike_keys : (text : List ℕ) (site : SiteName) (chosen : ℕ → Bool) (n : ℕ) (columns : List Column) (row : Cells) (a b : ℕ) → first_outside ≤ a → first_outside ≤ b
    → AreAlikeKeys text (key_of columns (filled_from (filling site a) chosen n columns row)) (key_of columns (filled_from (filling site b) chosen n columns row))
alike_keys text site chosen n [] row a b above beyond = record { either = inl refl; begin = refl }
alike_keys text site chosen n (c ∷ cs) [] a b above beyond = record { either = inl refl; begin = refl }
alike_keys text site chosen n (c ∷ cs) (v ∷ vs) a b above beyond = cells (chosen n && is_filled c) (is_stamp c.kind) (alike_keys text site chosen (n + 1) cs vs a b above beyond)
  where
    same_cell : (x : Value) (k : Bool) (p q : Cells) → AreAlikeKeys text p q → AreAlikeKeys text (cond k (x ∷ p) p) (cond k (x ∷ q) q)
    same_cell x false p q rest = rest
    same_cell x true p q rest = record { either = go rest.either; begin = refl }
      where
        go : (p ≡ q) ⊎ ((row_in_range p ≡ false) × (row_in_range q ≡ false)) → (x ∷ p ≡ x ∷ q) ⊎ ((row_in_range (x ∷ p) ≡ false) × (row_in_range (x ∷ q) ≡ false))
        go (inl same) = inl (ap (λ r. x ∷ r) same)
        go (inr out) = inr (and_right (value_in_range x) (row_in_range p) out.0, and_right (value_in_range x) (row_in_range q) out.1)

    stamps : (k : Bool) (p q : Cells) → AreAlikeKeys text p q → AreAlikeKeys text (cond k (Num (pos a) ∷ p) p) (cond k (Num (pos b) ∷ q) q)
    stamps false p q rest = rest
    stamps true p q rest = record { either = inr (rw (outside a above) refl, rw (outside b beyond) refl); begin = refl }

    cells : (x y : Bool) → AreAlikeKeys text (key_of cs (filled_from (filling site a) chosen (n + 1) cs vs)) (key_of cs (filled_from (filling site b) chosen (n + 1) cs vs))
        → AreAlikeKeys text (cond c.key (cond x (cond y (Num (pos a)) (Words site.0)) v ∷ key_of cs (filled_from (filling site a) chosen (n + 1) cs vs)) (key_of cs (filled_from (filling site a) chosen (n + 1) cs vs)))
        (cond c.key (cond x (cond y (Num (pos b)) (Words site.0)) v ∷ key_of cs (filled_from (filling site b) chosen (n + 1) cs vs)) (key_of cs (filled_from (filling site b) chosen (n + 1) cs vs)))
    cells true true rest = stamps c.key _ _ rest
    cells true false rest = same_cell (Words site.0) c.key _ _ rest
    cells false y rest = same_cell v c.key _ _ rest

-- a row whose stamps aren't in range is refused for the same reason with the capped one
module _ (schema : Schema) (here : Here) (standing : BlockState) (table : ℕ) (is_table : IsTable schema table (rows_of standing.tables table)) (row : Cells) (long : length (columns_of schema table) ≡ length row) where
  abbrev columns : List Column
  columns = columns_of schema table

  abbrev stamp : ℕ
  stamp = next_stamp standing.stamps 0

  abbrev one : Cells
  one = (inserted_capped columns here.site standing.stamps row).row

  abbrev other : Cells
  other = (inserted columns here.site standing.stamps row).row

  row_steps-inserted : first_refusal (row_steps schema standing.tables table one) ≡ first_refusal (row_steps schema standing.tables table other)
  row_steps-inserted = go (row_in_range one) refl
    where
      same_range : row_in_range one ≡ row_in_range other
      same_range = row_in_range-capped columns here.site standing.stamps.last everywhere stamp row

      go : (b : Bool) → row_in_range one ≡ b → first_refusal (row_steps schema standing.tables table one) ≡ first_refusal (row_steps schema standing.tables table other)
      go true range = ap (λ made. first_refusal (row_steps schema standing.tables table made.row)) (made_with-capped columns here.site standing.stamps.last everywhere stamp row long range)
      go false out =
          let beyond : row_in_range other ≡ false = sym same_range ∙ out in
          row_steps-out schema standing.tables table one out ∙ sym (row_steps-out schema standing.tables table other beyond)

  taken_alike : (a b : Cells) → AreAlikeKeys here.site.0 a b → is_some (row_at schema standing.tables table a) ≡ is_some (row_at schema standing.tables table b)
  taken_alike a b alike = go alike.either
    where
      go : (a ≡ b) ⊎ ((row_in_range a ≡ false) × (row_in_range b ≡ false)) → is_some (row_at schema standing.tables table a) ≡ is_some (row_at schema standing.tables table b)
      go (inl same) = ap (λ k. is_some (row_at schema standing.tables table k)) same
      go (inr out) = no_row_outside schema standing.tables table a is_table out.0 ∙ sym (no_row_outside schema standing.tables table b is_table out.1)

  keys : AreAlikeKeys here.site.0 (key_of columns one) (key_of columns other)
  keys = elim (cases_lt stamp first_outside) [
    | inl within ↦ let below : capped stamp ≡ stamp = omega (arith, within) in rw below (record { either = inl refl; begin = refl })
    | inr above ↦ alike_keys here.site.0 here.site everywhere 0 columns row (capped stamp) stamp (omega (arith, above)) above
  ]

  -- the steps of a new row, by what they find
  abbrev steps_by : Bool → Bool → Option Refusal → Option Refusal
  steps_by taken begins rest = or_then (refused taken refusal.KeyTaken) (or_then (barred schema standing.side table (not here.is_master))
      (or_then (refused (is_convergent schema table && not begins) refusal.KeyNotOwn) rest))

  pub new_row_steps-inserted : first_refusal (new_row_steps schema here standing table one) ≡ first_refusal (new_row_steps schema here standing table other)
  new_row_steps-inserted =
      let begins_one : Bool = begins_with (Words here.site.0) (key_of columns one) in
      let begins_other : Bool = begins_with (Words here.site.0) (key_of columns other) in
      let taken_other : Bool = is_some (row_at schema standing.tables table (key_of columns other)) in
      let rest_one : Option Refusal = first_refusal (row_steps schema standing.tables table one) in
      ap (λ t. steps_by t begins_one rest_one) (taken_alike (key_of columns one) (key_of columns other) keys)
      ∙ ap (λ b. steps_by taken_other b rest_one) keys.begin
      ∙ ap (steps_by taken_other begins_other) row_steps-inserted
