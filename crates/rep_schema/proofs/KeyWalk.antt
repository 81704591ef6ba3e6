-- The key of a row, read column by column.
use Rattle.std.proofs.Common.{◌≡◌, ℕ, ◌+◌, ◌<◌, ◌≤◌, true, false, cond, List, [], ◌∷◌, ◌++◌, length, get_or, drop, min, pos, append_assoc, refl, ◌∙◌, inl, inr, arith, add-one, drop-cons}
use Rattle.std.proofs.lemmas.List.{drop_all}
use Rattle.std.proofs.lemmas.Bool.{cases_lt}
use Rattle.std.specs.declared.cmp.Ordering.TheVariants.{Less, Equal, Greater}
use Rattle.std.specs.Ordering.{ordering_then}
use Rattle.rep_values.specs.declared.value.Value.{Value}
use Rattle.rep_values.specs.declared.value.Value.TheVariants.{Num}
use Rattle.rep_values.specs.Order.{value_cmp, key_cmp}
use Rattle.rep_schema.specs.declared.schema.Column.{Column}
use Rattle.rep_schema.specs.Tables.{Cells, key_of}

-- a row without values has none in its key
pub key_of-nil : (columns : List Column) → key_of columns [] ≡ []
key_of-nil [] = refl
key_of-nil (c ∷ cs) = refl

-- the part of a row's key that column i and those behind it give
abbrev pub key_from : List Column → Cells → ℕ → Cells
key_from columns row i = key_of (drop i columns) (drop i row)

module _ (columns : List Column) (row : Cells) (i : ℕ) where
  -- behind the last column or value there is no more of the key
  pub key_from-end : min (length columns) (length row) ≤ i → key_from columns row i ≡ []
  key_from-end past = elim (cases_lt i (length columns)) [
    | inl more ↦ let ended : length row ≤ i = omega arith in rw (drop_all i row ended) (key_of-nil (drop i columns))
    | inr ended ↦ rw (drop_all i columns ended)
  ]

  -- the row's key and the other end together
  pub key_cmp-both_end : (key : Cells) (read : ℕ) → min (length columns) (length row) ≤ i → read ≡ length key → key_cmp (key_from columns row i) (drop read key) ≡ Equal
  key_cmp-both_end key read past ended = rw (key_from-end past, drop_all read key (omega arith))

  -- the row's key ends first
  pub key_cmp-row_ends : (key : Cells) (read : ℕ) → min (length columns) (length row) ≤ i → read < length key → key_cmp (key_from columns row i) (drop read key) ≡ Less
  key_cmp-row_ends key read past more = rw (key_from-end past, drop-cons key read (Num (pos 0)))

  module _ (c : Column) (v : Value) (in_columns : i < length columns) (in_row : i < length row) where
    key_from-step : key_from columns row i ≡ cond (get_or columns i c).key (get_or row i v ∷ key_from columns row (i + 1)) (key_from columns row (i + 1))
    key_from-step = rw (add-one, drop-cons columns i c, drop-cons row i v)

    -- a column outside the key adds nothing
    pub key_from-other : (get_or columns i c).key ≡ false → key_from columns row i ≡ key_from columns row (i + 1)
    key_from-other other = key_from-step ∙ rw other

    -- a key column adds its value
    pub key_from-key : (get_or columns i c).key ≡ true → key_from columns row i ≡ get_or row i v ∷ key_from columns row (i + 1)
    key_from-key is_key = key_from-step ∙ rw is_key

    -- the other key ends first
    pub key_cmp-key_ends : (key : Cells) (read : ℕ) → (get_or columns i c).key ≡ true → read ≡ length key → key_cmp (key_from columns row i) (drop read key) ≡ Greater
    key_cmp-key_ends key read is_key ended = rw (key_from-key is_key, drop_all read key (omega arith))

    -- both have one more value
    pub key_cmp-step : (key : Cells) (read : ℕ) (k : Value) → (get_or columns i c).key ≡ true → read < length key → v ≡ get_or row i v → k ≡ get_or key read k
        → key_cmp (key_from columns row i) (drop read key) ≡ ordering_then (value_cmp v k) (key_cmp (key_from columns row (i + 1)) (drop (read + 1) key))
    key_cmp-step key read k is_key in_key v_is k_is = rw (key_from-key is_key, add-one read, drop-cons key read k, ← v_is, ← k_is)

    -- a value of the key stands behind those that are gathered
    pub gathered-key_step : (gathered key : Cells) → (get_or columns i c).key ≡ true → v ≡ get_or row i v → gathered ++ key_from columns row i ≡ key → (gathered ++ v ∷ []) ++ key_from columns row (i + 1) ≡ key
    gathered-key_step gathered key is_key v_is so_far = rw append_assoc (rw (key_from-key is_key, ← v_is) at so_far)
