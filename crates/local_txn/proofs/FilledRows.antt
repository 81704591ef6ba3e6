-- Rows with columns filled in, column by column.
use Rattle.std.proofs.Common.{◌≡◌, ℕ, zero, suc, ◌+◌, ◌<◌, max, Bool, true, false, List, [], ◌∷◌, ◌++◌, length, drop, take, get_or, set, refl, sym, ap, ◌∙◌, arith, add-one, zero-add, add-zero, append_assoc, pos}
use Rattle.std.specs.Prelude.{◌&&◌, ◌||◌, cond, not, filter, replicate}
use Rattle.std.specs.List.{list_any, range_with_len}
use Rattle.std.proofs.lemmas.List.{take_more_set, drop-set-lt, take_more}
use Rattle.std.proofs.lemmas.Bool.{or_parts, and_right}
use Rattle.rep_values.specs.declared.name.SiteName.{SiteName}
use Rattle.std.proofs.lemmas.List.Folds.{list_any-append}
use Rattle.std.specs.Ordering.{nat_cmp, ord_max}
use Rattle.std.proofs.lemmas.Grind.{common_steps}
use Rattle.rep_lists.proofs.Places.{drop_from_place}
use Rattle.rep_values.specs.declared.value.Value.{Value}
use Rattle.rep_values.specs.declared.value.Value.TheVariants.{Num}
use Rattle.rep_schema.specs.declared.schema.Schema.{Schema}
use Rattle.rep_schema.specs.declared.schema.Column.{Column}
use Rattle.rep_schema.specs.Tables.{Cells}
use Rattle.rep_schema.specs.Kinds.{is_filled, is_stamp, is_site_kind, has_place}
use Rattle.rep_schema.specs.Groups.{groups_of, shadow_group, differ_in, group_numbers_of, group_columns_of}
use Rattle.txn_effects.specs.Filled.{Filling, filling_value, value_filled, filled_from, is_modified, above_value, bound_by, bound_from, has_stamp_from, made_with}
use Rattle.txn_effects.specs.Chosen.{chosen_at, is_modified_in}
use Rattle.local_txn.proofs.SetWalk.{get_or_same}

-- the greater of two numbers, as the order of numbers tells it
pub ord_max-max : (a b : ℕ) → ord_max nat_cmp a b ≡ max a b
ord_max-max a b = grind (arith, common_steps)

or_assoc : (a b c : Bool) → (a || (b || c)) ≡ (a || b || c)
or_assoc true b c = refl
or_assoc false b c = refl

pub or_false : (a : Bool) → (a || false) ≡ a
or_false true = refl
or_false false = refl

-- where nothing is marked no place is
pub chosen_at-none : (n place : ℕ) → chosen_at (replicate n false) place ≡ false
chosen_at-none zero place = refl
chosen_at-none (suc n) zero = refl
chosen_at-none (suc n) (suc place) = chosen_at-none n place

-- one number more
list_any-range : (test : ℕ → Bool) (a n : ℕ) → list_any test (range_with_len a (suc n)) ≡ (list_any test (range_with_len a n) || test (a + n))
list_any-range test a zero = or_false (test a) ∙ ap test (sym (add-zero a))
list_any-range test a (suc n) =
    let next : a + 1 + n ≡ a + suc n = omega arith in
    ap (λ b. test a || b) (list_any-range test (a + 1) n) ∙ or_assoc (test a) (list_any test (range_with_len (a + 1) n)) (test (a + 1 + n)) ∙ ap (λ k. test a || list_any test (range_with_len (a + 1) n) || test k) next

pub list_any-range_more : (test : ℕ → Bool) (n : ℕ) → list_any test (range_with_len 0 (n + 1)) ≡ (list_any test (range_with_len 0 n) || test n)
list_any-range_more test n = rw add-one (list_any-range test 0 n ∙ ap (λ k. list_any test (range_with_len 0 n) || test k) (zero-add n))

list_any-filter : {X : Type 0} (test keeps : X → Bool) (xs : List X) → list_any test (filter keeps xs) ≡ list_any (λ x. keeps x && test x) xs
list_any-filter test keeps [] = refl
list_any-filter {X = X} test keeps (x ∷ xs) = go (keeps x) (list_any-filter test keeps xs)
  where
    go : (b : Bool) → list_any test (filter keeps xs) ≡ list_any (λ y. keeps y && test y) xs
        → list_any test (cond b (x ∷ filter keeps xs) (filter keeps xs)) ≡ ((b && test x) || list_any (λ y. keeps y && test y) xs)
    go true rest = ap (λ b. test x || b) rest
    go false rest = rest

-- the columns that are modified stand in a named group that is, or in the shadow group where that is
pub is_modified-groups : (schema : Schema) (table : ℕ) (before after : Cells) (place : ℕ)
    → is_modified schema table before after place ≡ (list_any (λ group. is_modified_in schema table before after group place) (range_with_len 0 (length (groups_of schema table)))
    || is_modified_in schema table before after shadow_group place)
is_modified-groups schema table before after place =
    list_any-filter (λ group. has_place (group_columns_of schema table group) place) (differ_in schema table before after) (group_numbers_of schema table)
    ∙ list_any-append (λ group. is_modified_in schema table before after group place) (range_with_len 0 (length (groups_of schema table))) (shadow_group ∷ [])
    ∙ ap (λ b. list_any (λ group. is_modified_in schema table before after group place) (range_with_len 0 (length (groups_of schema table))) || b) (or_false (is_modified_in schema table before after shadow_group place))

module _ (chosen : ℕ → Bool) (columns : List Column) (i : ℕ) (c : Column) (within : i < length columns) (is : c ≡ get_or columns i c) where
  here : drop i columns ≡ c ∷ drop (i + 1) columns
  here = drop_from_place columns i c within is

  -- a STAMP more, or another column
  pub has_stamp-here : (chosen i && is_stamp c.kind) ≡ true → has_stamp_from chosen i (drop i columns) ≡ true
  has_stamp-here gets = rw (here, gets) refl

  pub has_stamp-more : (chosen i && is_stamp c.kind) ≡ false → has_stamp_from chosen i (drop i columns) ≡ has_stamp_from chosen (i + 1) (drop (i + 1) columns)
  has_stamp-more other = rw (here, other) refl

  module _ (row : Cells) (long : length columns ≡ length row) where
    pub bound-more : (v : Value) → v ≡ get_or row i v → (chosen i && is_stamp c.kind) ≡ true
        → bound_from chosen i (drop i columns) (drop i row) ≡ max (above_value v) (bound_from chosen (i + 1) (drop (i + 1) columns) (drop (i + 1) row))
    bound-more v at gets = rw (here, drop_from_place row i v (omega (arith, within, long)) at, gets) refl

    pub bound-other : (chosen i && is_stamp c.kind) ≡ false → bound_from chosen i (drop i columns) (drop i row) ≡ bound_from chosen (i + 1) (drop (i + 1) columns) (drop (i + 1) row)
    bound-other other =
        let v : Value = get_or row i (Num (pos 0)) in
        let there : i < length row = omega (arith, within, long) in
        rw (here, drop_from_place row i v there (get_or_same row i (Num (pos 0)) v there), other) (omega arith)

module _ (filling : Filling) (chosen : ℕ → Bool) (columns : List Column) (initial row : Cells) (i : ℕ) (c : Column) (within : i < length columns) (is : c ≡ get_or columns i c)
    (long : length columns ≡ length row) (so_far : filled_from filling chosen 0 columns initial ≡ take i row ++ filled_from filling chosen i (drop i columns) (drop i row)) where
  there : i < length row
  there = omega (arith, within, long)

  abbrev old : Value
  old = get_or row i (Num (pos 0))

  old_is : old ≡ get_or row i old
  old_is = get_or_same row i (Num (pos 0)) old there

  -- a column more, filled in or not
  pub filled-more : (chosen i && is_filled c) ≡ true
      → filled_from filling chosen 0 columns initial ≡ take (i + 1) (set row i (filling_value filling c)) ++ filled_from filling chosen (i + 1) (drop (i + 1) columns) (drop (i + 1) (set row i (filling_value filling c)))
  filled-more gets =
      so_far ∙ rw (
        drop_from_place columns i c within is,
        drop_from_place row i old there old_is,
        gets,
        take_more_set row i (filling_value filling c) there,
        drop-set-lt (i + 1) row i (filling_value filling c) (omega arith),
        append_assoc,
      ) refl

  pub filled-other : (chosen i && is_filled c) ≡ false
      → filled_from filling chosen 0 columns initial ≡ take (i + 1) row ++ filled_from filling chosen (i + 1) (drop (i + 1) columns) (drop (i + 1) row)
  filled-other other =
      so_far ∙ rw (drop_from_place columns i c within is, drop_from_place row i old there old_is, other, take_more row i old there, ← old_is, append_assoc) refl

-- marks that are the same from here on
here_same : (chosen other : ℕ → Bool) (n m : ℕ) → ((k : ℕ) → k < suc m → chosen (n + k) ≡ other (n + k)) → chosen n ≡ other n
here_same chosen other n m same = let first : chosen (n + 0) ≡ other (n + 0) = same 0 (omega arith) in rw add-zero at first

rest_same : (chosen other : ℕ → Bool) (n m : ℕ) → ((k : ℕ) → k < suc m → chosen (n + k) ≡ other (n + k)) → (k : ℕ) → k < m → chosen (n + 1 + k) ≡ other (n + 1 + k)
rest_same chosen other n m same k below = let next : n + 1 + k ≡ n + suc k = omega arith in rw next (same (suc k) (omega (arith, below)))

module _ (chosen other : ℕ → Bool) where
  -- only the marks at the columns' places count
  pub filled_from-same : (filling : Filling) (n : ℕ) (columns : List Column) (row : Cells) → ((k : ℕ) → k < length columns → chosen (n + k) ≡ other (n + k))
      → filled_from filling chosen n columns row ≡ filled_from filling other n columns row
  filled_from-same filling n [] row same = refl
  filled_from-same filling n (c ∷ cs) [] same = refl
  filled_from-same filling n (c ∷ cs) (v ∷ vs) same =
      rw (here_same chosen other n (length cs) same) (ap (λ rest. value_filled filling (other n) c v ∷ rest) (filled_from-same filling (n + 1) cs vs (rest_same chosen other n (length cs) same)))

  pub bound_from-same : (n : ℕ) (columns : List Column) (row : Cells) → ((k : ℕ) → k < length columns → chosen (n + k) ≡ other (n + k))
      → bound_from chosen n columns row ≡ bound_from other n columns row
  bound_from-same n [] row same = refl
  bound_from-same n (c ∷ cs) [] same = refl
  bound_from-same n (c ∷ cs) (v ∷ vs) same =
      rw (here_same chosen other n (length cs) same) (ap (λ rest. max (bound_by (other n && is_stamp c.kind) v) rest) (bound_from-same (n + 1) cs vs (rest_same chosen other n (length cs) same)))

  pub has_stamp_from-same : (n : ℕ) (columns : List Column) → ((k : ℕ) → k < length columns → chosen (n + k) ≡ other (n + k)) → has_stamp_from chosen n columns ≡ has_stamp_from other n columns
  has_stamp_from-same n [] same = refl
  has_stamp_from-same n (c ∷ cs) same =
      rw (here_same chosen other n (length cs) same) (ap (λ rest. (other n && is_stamp c.kind) || rest) (has_stamp_from-same (n + 1) cs (rest_same chosen other n (length cs) same)))

  pub made_with-same : (columns : List Column) (site : SiteName) (last stamp : ℕ) (row : Cells) → ((k : ℕ) → k < length columns → chosen k ≡ other k)
      → made_with columns site last chosen stamp row ≡ made_with columns site last other stamp row
  made_with-same columns site last stamp row same =
      let marks : (k : ℕ) → k < length columns → chosen (0 + k) ≡ other (0 + k) = λ k below. rw zero-add (same k below) in
      rw (filled_from-same (record { stamp = stamp; site = site }) 0 columns row marks, has_stamp_from-same 0 columns marks) refl

-- nothing is filled in where no column is filled
pub filled_from-none : (filling : Filling) (chosen : ℕ → Bool) (n : ℕ) (columns : List Column) (row : Cells) → list_any is_filled columns ≡ false → length columns ≡ length row
    → filled_from filling chosen n columns row ≡ row
filled_from-none filling chosen n [] row none long = refl
filled_from-none filling chosen n (c ∷ cs) [] none long = absurd (omega (arith, long))
filled_from-none filling chosen n (c ∷ cs) (v ∷ vs) none long =
    let parts = or_parts (is_filled c) (list_any is_filled cs) none in
    rw (parts.0, and_right (chosen n) false refl) (ap (λ rest. v ∷ rest) (filled_from-none filling chosen (n + 1) cs vs parts.1 (omega (arith, long))))

pub has_stamp_from-none : (chosen : ℕ → Bool) (n : ℕ) (columns : List Column) → list_any is_filled columns ≡ false → has_stamp_from chosen n columns ≡ false
has_stamp_from-none chosen n [] none = refl
has_stamp_from-none chosen n (c ∷ cs) none =
    let parts = or_parts (is_filled c) (list_any is_filled cs) none in
    let other = (or_parts (is_stamp c.kind) (is_site_kind c.kind && not c.key) parts.0).0 in
    rw (other, and_right (chosen n) false refl) (has_stamp_from-none chosen (n + 1) cs parts.1)

-- a row without filled columns is made as it is
pub made_with-none : (columns : List Column) (site : SiteName) (last : ℕ) (chosen : ℕ → Bool) (stamp : ℕ) (row : Cells) → list_any is_filled columns ≡ false → length columns ≡ length row
    → made_with columns site last chosen stamp row ≡ record { row = row; last = last }
made_with-none columns site last chosen stamp row none long =
    rw (filled_from-none (record { stamp = stamp; site = site }) chosen 0 columns row none long, has_stamp_from-none chosen 0 columns none) refl

-- where all are marked each place is
pub chosen_at-all : (n place : ℕ) → place < n → chosen_at (replicate n true) place ≡ true
chosen_at-all zero place below = absurd (omega (arith, below))
chosen_at-all (suc n) zero below = refl
chosen_at-all (suc n) (suc place) below = chosen_at-all n place (omega (arith, below))
