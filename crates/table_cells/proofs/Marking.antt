-- Which cells are marked, by what masters show.
use Rattle.std.proofs.Common.{◌≡◌, ℕ, ◌<◌, ◌≤◌, Bool, true, false, ◌&&◌, List, ◌∷◌, length, map, sym, ap, ◌∙◌, arith}
use Rattle.std.specs.Prelude.{nat_lt, nat_le}
use Rattle.std.specs.List.{list_all}
use Rattle.std.proofs.lemmas.Bool.{lt-ltb, le-ltb, le-leb, ltb-true, leb-true, and_from, and_left, and_right, and_parts, cond-true, cond-false, false_from_ne_true}
use Rattle.rep_values.specs.declared.value.Value.{Value}
use Rattle.rep_values.specs.Number.{IsKeyLen}
use Rattle.rep_schema.specs.Tables.{Cells}
use Rattle.rep_schema.specs.Putting.{StoreState}
use Rattle.page_text.specs.declared.look.Look.TheVariants.{Same, Differs}
use Rattle.table_cells.specs.Cells.{shows, is_key, look_of_cell}

-- one passes, and those behind it decide
pub passed_on : {X Y : Type 0} (v : X → Y) (p : Y → Bool) (left rest : List X) (x : X) (whole : Bool)
    → list_all p (map v left) ≡ whole → left ≡ x ∷ rest → p (v x) ≡ true → list_all p (map v rest) ≡ whole
passed_on v p left rest x whole kept next passes = sym (ap (λ b. b && list_all p (map v rest)) passes) ∙ (rw next at kept)

-- one fails, so not all pass
pub failed_at : {X Y : Type 0} (v : X → Y) (p : Y → Bool) (left rest : List X) (x : X) (whole : Bool)
    → list_all p (map v left) ≡ whole → left ≡ x ∷ rest → p (v x) ≡ false → false ≡ whole
failed_at v p left rest x whole kept next fails = sym (ap (λ b. b && list_all p (map v rest)) fails) ∙ (rw next at kept)

-- a table of the schema
pub table_within : (table n : ℕ) (b : Bool) → table < n → (nat_lt table n && b) ≡ b
table_within table n b within = ap (λ t. t && b) (lt-ltb table n within)

-- no table of the schema
pub table_beyond : (table n : ℕ) (b : Bool) → n ≤ table → (nat_lt table n && b) ≡ false
table_beyond table n b beyond = ap (λ t. t && b) (le-ltb table n beyond)

key_passes : (key : Cells) → IsKeyLen (length key) → is_key key ≡ true
key_passes key keyed = and_from (nat_lt 0 (length key)) (nat_le (length key) 4) (lt-ltb 0 (length key) (omega arith)) (le-leb (length key) 4 keyed.1)

key_fails : (key : Cells) → (IsKeyLen (length key) → ⊥) → is_key key ≡ false
key_fails key keyless = false_from_ne_true (is_key key) (λ passes.
    let parts = and_parts (nat_lt 0 (length key)) (nat_le (length key) 4) passes in
    let some : 0 < length key = ltb-true 0 (length key) parts.0 in
    let most : length key ≤ 4 = leb-true (length key) 4 parts.1 in
    keyless (omega arith, most))

module _ (masters : List StoreState) (table : ℕ) (key : Cells) (column : ℕ) (v : Value) where
  -- each master shows the value
  pub look_same : IsKeyLen (length key) → list_all (shows table key column v) masters ≡ true → Same ≡ look_of_cell masters table key column v
  look_same keyed all = sym (cond-true (is_key key && list_all (shows table key column v) masters) Same Differs
      (and_from (is_key key) (list_all (shows table key column v) masters) (key_passes key keyed) all))

  -- a master doesn't
  pub look_differs : list_all (shows table key column v) masters ≡ false → Differs ≡ look_of_cell masters table key column v
  look_differs one = sym (cond-false (is_key key && list_all (shows table key column v) masters) Same Differs
      (and_right (is_key key) (list_all (shows table key column v) masters) one))

  -- the row has no key that a store knows
  pub look_keyless : (IsKeyLen (length key) → ⊥) → Differs ≡ look_of_cell masters table key column v
  look_keyless keyless = sym (cond-false (is_key key && list_all (shows table key column v) masters) Same Differs
      (and_left (is_key key) (list_all (shows table key column v) masters) (key_fails key keyless)))
