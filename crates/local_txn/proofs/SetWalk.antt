-- What is set of a table's columns, one after another.
use Rattle.std.proofs.Common.{◌≡◌, ℕ, zero, suc, ◌+◌, ◌<◌, ◌≤◌, Bool, true, false, List, [], ◌∷◌, ◌++◌, length, drop, take, get_or, set, refl, sym, ap, ◌∙◌, arith, add-one, append_assoc, append-nil, Bor, pos}
use Rattle.std.specs.Prelude.{Option, Some, None, ◌&&◌, ◌||◌, cond, is_some, ◌==◌, slice_get, option_copied}
use Rattle.std.specs.List.{find, list_all}
use Rattle.std.proofs.lemmas.Bool.{and_right, and_parts, and_from}
use Rattle.std.proofs.lemmas.List.{take_more_set, drop-set-lt, take_more, take_all, drop_all}
use Rattle.std.proofs.lemmas.List.Folds.{list_all-append}
use Rattle.rep_lists.proofs.Places.{drop_from_place}
use Rattle.std.specs.declared.cmp.Ordering.{Ordering}
use Rattle.std.specs.declared.cmp.Ordering.TheVariants.{Less, Equal, Greater}
use Rattle.std.specs.Ordering.{ordering_reverse, ordering_index, is_lt}
use Rattle.std.specs.Option.{option_map}
use Rattle.rep_values.specs.Order.{value_cmp}
use Rattle.rep_values.specs.OrderLaws.{value_cmp_total}
use Rattle.rep_values.specs.declared.value.Value.{Value}
use Rattle.rep_values.specs.declared.value.Value.TheVariants.{Num}
use Rattle.rep_schema.specs.declared.schema.Column.{Column}
use Rattle.rep_schema.specs.Tables.{Cells, cell_cmp}
use Rattle.rep_schema.specs.Kinds.{is_filled, value_in_range, row_in_range}
use Rattle.rep_schema.proofs.ValuesAt.{slice_get-drop}
use Rattle.rep_calls.specs.declared.statement.Set.{Set}
use Rattle.txn_effects.specs.Sets.{is_about, takes_set, value_by, row_with, sets_by_column}
use Rattle.txn_effects.specs.ByColumn.{set_in, set_at, takes_each, fills_some, row_by, where_in_range}

drop-one : {X : Type 0} (xs : List X) (i : ℕ) → drop 1 (drop i xs) ≡ drop (i + 1) xs
drop-one [] zero = refl
drop-one [] (suc i) = rw add-one refl
drop-one (x ∷ xs) zero = refl
drop-one (x ∷ xs) (suc i) = rw add-one (drop-one xs i ∙ rw add-one refl)

set_at-drop : (found : List (Option Set)) (i : ℕ) → set_at (drop i found) 0 ≡ set_at found i
set_at-drop found i = ap set_in (slice_get-drop found i)

takes_each-nil : (columns : List Column) → takes_each columns [] ≡ true
takes_each-nil [] = refl
takes_each-nil (c ∷ cs) = refl

takes_each-cons : (c : Column) (cs : List Column) (found : List (Option Set)) → takes_each (c ∷ cs) found ≡ (takes_set c (set_at found 0) && takes_each cs (drop 1 found))
takes_each-cons c cs [] = sym (takes_each-nil cs)
takes_each-cons c cs (s ∷ ss) = refl

fills_some-nil : (columns : List Column) → fills_some columns [] ≡ false
fills_some-nil [] = refl
fills_some-nil (c ∷ cs) = refl

fills_some-cons : (c : Column) (cs : List Column) (found : List (Option Set)) → fills_some (c ∷ cs) found ≡ ((is_filled c && is_some (set_at found 0)) || fills_some cs (drop 1 found))
fills_some-cons c cs [] = go (is_filled c)
  where
    go : (b : Bool) → false ≡ ((b && false) || fills_some cs [])
    go true = sym (fills_some-nil cs)
    go false = sym (fills_some-nil cs)
fills_some-cons c cs (s ∷ ss) = refl

module _ (columns : List Column) (found : List (Option Set)) (i : ℕ) (c : Column) (within : i < length columns) (is : c ≡ get_or columns i c) where
  -- one column more
  pub takes_each-more : takes_each (drop i columns) (drop i found) ≡ (takes_set c (set_at found i) && takes_each (drop (i + 1) columns) (drop (i + 1) found))
  takes_each-more = rw (drop_from_place columns i c within is)
      (takes_each-cons c (drop (i + 1) columns) (drop i found) ∙ rw (set_at-drop found i, drop-one found i) refl)

  pub fills_some-more : fills_some (drop i columns) (drop i found) ≡ ((is_filled c && is_some (set_at found i)) || fills_some (drop (i + 1) columns) (drop (i + 1) found))
  fills_some-more = rw (drop_from_place columns i c within is)
      (fills_some-cons c (drop (i + 1) columns) (drop i found) ∙ rw (set_at-drop found i, drop-one found i) refl)

-- what is there is there in a copy
pub is_some-copied : {X : Type 0} (found : Option (Bor X)) → is_some found ≡ is_some (option_copied found)
is_some-copied None = refl
is_some-copied (Some b) = refl

pub get_or_same : {X : Type 0} (xs : List X) (i : ℕ) (d e : X) → i < length xs → get_or xs i d ≡ get_or xs i e
get_or_same [] i d e within = absurd (omega (arith, within))
get_or_same (x ∷ xs) zero d e within = refl
get_or_same (x ∷ xs) (suc i) d e within = get_or_same xs i d e (omega (arith, within))

row_by-nil : (found : List (Option Set)) → row_by found [] ≡ []
row_by-nil [] = refl
row_by-nil (s ∷ ss) = refl

row_by-cons : (found : List (Option Set)) (v : Value) (vs : Cells) → row_by found (v ∷ vs) ≡ value_by (set_at found 0) v ∷ row_by (drop 1 found) vs
row_by-cons [] v vs = refl
row_by-cons (s ∷ ss) v vs = refl

pub length-row_by : (found : List (Option Set)) (row : Cells) → length (row_by found row) ≡ length row
length-row_by found [] = ap length (row_by-nil found)
length-row_by found (v ∷ vs) = ap length (row_by-cons found v vs) ∙ (let rest = length-row_by (drop 1 found) vs in omega (arith, rest))

-- one value more
pub row_by-more : (found : List (Option Set)) (row : Cells) (i : ℕ) (v : Value) → i < length row → v ≡ get_or row i v
    → row_by (drop i found) (drop i row) ≡ value_by (set_at found i) v ∷ row_by (drop (i + 1) found) (drop (i + 1) row)
row_by-more found row i v within is = rw (drop_from_place row i v within is)
    (row_by-cons (drop i found) v (drop (i + 1) row) ∙ rw (set_at-drop found i, drop-one found i) refl)

module _ (found : List (Option Set)) (initial row : Cells) (i : ℕ) (so_far : row_by found initial ≡ take i row ++ row_by (drop i found) (drop i row)) where
  -- nothing is set at one more place
  pub set-kept : i < length row → set_at found i ≡ None → row_by found initial ≡ take (i + 1) row ++ row_by (drop (i + 1) found) (drop (i + 1) row)
  set-kept within nothing =
      let v : Value = get_or row i (Num (pos 0)) in
      let is : v ≡ get_or row i v = get_or_same row i (Num (pos 0)) v within in
      so_far ∙ rw (row_by-more found row i v within is, nothing, take_more row i v within, append_assoc, ← is) refl

  -- no more values
  pub set-end : length row ≤ i → row_by found initial ≡ row
  set-end past = so_far ∙ rw (take_all i row past, drop_all i row past, row_by-nil (drop i found), append-nil) refl

-- a value is equal to itself
pub value_cmp-same : (v : Value) → value_cmp v v ≡ Equal
value_cmp-same v = go (value_cmp v v) (value_cmp_total.antisymm v v)
  where
    go : (o : Ordering) → o ≡ ordering_reverse o → o ≡ Equal
    go Less turned = cc
    go Equal turned = refl
    go Greater turned = cc

-- a value that isn't in range
pub where_in_range-None : (v : Value) → where_in_range v ≡ None → value_in_range v ≡ false
where_in_range-None v none = go (value_in_range v) refl none
  where
    go : (b : Bool) → value_in_range v ≡ b → cond b (Some v) None ≡ None → value_in_range v ≡ false
    go true is e = cc
    go false is e = is

-- one that is
pub where_in_range-Some : (v w : Value) → where_in_range v ≡ Some w → (w ≡ v) × (value_in_range w ≡ true)
where_in_range-Some v w some = go (value_in_range v) refl some
  where
    go : (b : Bool) → value_in_range v ≡ b → cond b (Some v) None ≡ Some w → (w ≡ v) × (value_in_range w ≡ true)
    go true is e = let same : w ≡ v = cc in (same, rw same is)
    go false is e = cc

-- a row of values in range is so with another one in range
pub row_in_range-set : (row : Cells) (i : ℕ) (w : Value) → row_in_range row ≡ true → value_in_range w ≡ true → row_in_range (set row i w) ≡ true
row_in_range-set [] i w all here = refl
row_in_range-set (v ∷ vs) zero w all here = let parts = and_parts (value_in_range v) (row_in_range vs) all in and_from (value_in_range w) (row_in_range vs) here parts.1
row_in_range-set (v ∷ vs) (suc i) w all here =
    let parts = and_parts (value_in_range v) (row_in_range vs) all in and_from (value_in_range v) (row_in_range (set vs i w)) parts.0 (row_in_range-set vs i w parts.1 here)

-- the row with what is set of its columns is the row after the update
pub row_by-sets : (sets : List Set) (columns : List Column) (row : Cells) → row_by (sets_by_column columns sets) row ≡ row_with sets columns row
row_by-sets sets [] row = refl
row_by-sets sets (c ∷ cs) [] = refl
row_by-sets sets (c ∷ cs) (v ∷ vs) = ap (λ rest. value_by (find (is_about c.name) sets) v ∷ rest) (row_by-sets sets cs vs)

-- each column takes what is set of it
pub takes_each-sets : (sets : List Set) (columns : List Column) → takes_each columns (sets_by_column columns sets) ≡ list_all (λ c. takes_set c (find (is_about c.name) sets)) columns
takes_each-sets sets [] = refl
takes_each-sets sets (c ∷ cs) = ap (λ rest. takes_set c (find (is_about c.name) sets) && rest) (takes_each-sets sets cs)

module _ (found : List (Option Set)) (initial row : Cells) (i : ℕ) (v w : Value) (within : i < length row) (is : v ≡ get_or row i v) (becomes : w ≡ value_by (set_at found i) v) where
  drop-set_before : drop (i + 1) (set row i w) ≡ drop (i + 1) row
  drop-set_before = drop-set-lt (i + 1) row i w (omega arith)

  -- the value at one more place is set
  pub set-more : row_by found initial ≡ take i row ++ row_by (drop i found) (drop i row)
      → row_by found initial ≡ take (i + 1) (set row i w) ++ row_by (drop (i + 1) found) (drop (i + 1) (set row i w))
  set-more so_far = so_far ∙ rw (row_by-more found row i v within is, take_more_set row i w within, drop-set_before, append_assoc, ← becomes) refl

  -- the value there is out of range
  pub out-here : row_by found initial ≡ take i row ++ row_by (drop i found) (drop i row) → value_in_range w ≡ false → row_in_range (row_by found initial) ≡ false
  out-here so_far out =
      let parts = list_all-append value_in_range (take i row) (row_by (drop i found) (drop i row)) in
      let fails : row_in_range (row_by (drop i found) (drop i row)) ≡ false = rw (row_by-more found row i v within is, ← becomes, out) refl in
      ap row_in_range so_far ∙ parts ∙ and_right (row_in_range (take i row)) _ fails

-- the value at a place, with what is set there
pub slice_get-row_by : (found : List (Option Set)) (row : Cells) (place : ℕ) → slice_get (row_by found row) place ≡ option_map (value_by (set_at found place)) (slice_get row place)
slice_get-row_by found [] place = ap (λ r. slice_get r place) (row_by-nil found)
slice_get-row_by found (v ∷ vs) zero = ap (λ r. slice_get r 0) (row_by-cons found v vs)
slice_get-row_by found (v ∷ vs) (suc place) =
    ap (λ r. slice_get r (suc place)) (row_by-cons found v vs) ∙ slice_get-row_by (drop 1 found) vs place
    ∙ ap (λ s. option_map (value_by s) (slice_get vs place)) (set_at-later found place)
  where
    set_at-later : (ss : List (Option Set)) (k : ℕ) → set_at (drop 1 ss) k ≡ set_at ss (suc k)
    set_at-later [] k = refl
    set_at-later (s ∷ ss) k = refl

-- two values stand to each other as turned round
pub cell_cmp-turned : (a b : Option Value) → cell_cmp a b ≡ ordering_reverse (cell_cmp b a)
cell_cmp-turned None None = refl
cell_cmp-turned None (Some v) = refl
cell_cmp-turned (Some u) None = refl
cell_cmp-turned (Some u) (Some v) = value_cmp_total.antisymm u v

pub is_lt-reversed : (o : Ordering) → is_lt (ordering_reverse o) ≡ (ordering_index o == 2)
is_lt-reversed Less = refl
is_lt-reversed Equal = refl
is_lt-reversed Greater = refl
