-- Rows that are named by their slots: what is found, put and taken among the slots, and that each index keeps its slots.
use Rattle.std.proofs.Common.{◌≡◌, ◌≢◌, ◌↔◌, inl, inr, ℕ, zero, suc, ◌<◌, ◌≤◌, List, [], ◌∷◌, length, get_or, map, Some, None, Bool, true, false, cond, refl, sym, ap, ◌∙◌, subst, arith}
use mathlib.Core.Bool.{false≢true}
use Rattle.std.specs.Prelude.{Any, Option, option_map, min, not, slice_get, IsSome}
use Rattle.std.specs.List.{AllByRecursion}
use Rattle.std.specs.declared.cmp.Ordering.{Ordering}
use Rattle.std.specs.declared.cmp.Ordering.TheVariants.{Less, Equal, Greater}
use Rattle.std.proofs.lemmas.Cmp.{tied_itself}
use Rattle.std.proofs.lemmas.Option.{slice_get-map}
use Rattle.rep_lists.specs.Rising.{IsRising, find_at, put_at, take_at, found_here, put_here, taken_here}
use Rattle.rep_lists.specs.RisingLaws.{at_key, RisesBy}
use Rattle.rep_values.specs.Order.{key_cmp}
use Rattle.rep_values.specs.OrderLaws.{key_cmp_total, exact_keys}
use Rattle.rep_schema.specs.declared.schema.Column.{Column}
use Rattle.rep_schema.specs.Tables.{Cells, key_of, row_cmp, find_row, put_row, take_row, picked, IsHeldElsewhere}
use Rattle.page_tables.specs.Pages.{IsParted}
use Rattle.page_tables.specs.Slots.{Slotted, slot_row, row_in, values_or_none, SlotHolds}
use Rattle.page_tables.specs.Index.{UniqueSlots, IsIn, IsUniqueIndex, picked_cmp, values_in, is_alike, with_slot, without_slot, listed, unlisted, IsFreeBeside}
use Rattle.page_tables.specs.Stored.{least_most}
use Rattle.page_tables.proofs.Parted.{parted_rising}
use Rattle.page_tables.proofs.InSlots.{held_row}
use Rattle.page_tables.proofs.InIndex.{found_in, in_found, in_taken, index_found, index_alone, index_free, picked_cmp_total, exact_picked}

-- rows that are named by their places: what is found, put and taken among the places
module _ {X Y : Type 0} (f : Y → X) (at : X → Ordering) where
  pub find_map : (ys : List Y) → find_at at (map f ys) ≡ option_map f (find_at (λ y. at (f y)) ys)
  find_map [] = refl
  find_map (y ∷ ys) = go (at (f y)) (find_map ys)
    where
      go : (o : Ordering) → find_at at (map f ys) ≡ option_map f (find_at (λ y. at (f y)) ys) → found_here o (f y) (find_at at (map f ys)) ≡ option_map f (found_here o y (find_at (λ y. at (f y)) ys))
      go Less rest = rest
      go Equal rest = refl
      go Greater rest = refl

  pub put_map : (z : Y) (ys : List Y) → put_at at (f z) (map f ys) ≡ map f (put_at (λ y. at (f y)) z ys)
  put_map z [] = refl
  put_map z (y ∷ ys) = go (at (f y)) (put_map z ys)
    where
      go : (o : Ordering) → put_at at (f z) (map f ys) ≡ map f (put_at (λ y. at (f y)) z ys) → put_here o (f z) (f y) (map f ys) (put_at at (f z) (map f ys)) ≡ map f (put_here o z y ys (put_at (λ y. at (f y)) z ys))
      go Less rest = ap (λ t. f y ∷ t) rest
      go Equal rest = refl
      go Greater rest = refl

  pub take_map : (ys : List Y) → take_at at (map f ys) ≡ map f (take_at (λ y. at (f y)) ys)
  take_map [] = refl
  take_map (y ∷ ys) = go (at (f y)) (take_map ys)
    where
      go : (o : Ordering) → take_at at (map f ys) ≡ map f (take_at (λ y. at (f y)) ys) → taken_here o (f y) (map f ys) (take_at at (map f ys)) ≡ map f (taken_here o y ys (take_at (λ y. at (f y)) ys))
      go Less rest = ap (λ t. f y ∷ t) rest
      go Equal rest = refl
      go Greater rest = refl

-- some row is such a one where some place's row is
any_cons : {X : Type 0} (P : X → Type 0) (x : X) (xs : List X) → Any P xs → Any P (x ∷ xs)
any_cons P x xs any = (suc any.0, any.1, omega (arith, any.2), any.3, any.4)

pub any_map_from : {X Y : Type 0} (P : X → Type 0) (f : Y → X) (ys : List Y) (y : Y) → IsIn y ys → P (f y) → Any P (map f ys)
any_map_from P f [] y there p = absurd there
any_map_from P f (z ∷ zs) y there p = elim there [
  | inl same ↦ (0, f z, omega arith, refl, subst (λ w. P (f w)) same p)
  | inr later ↦ any_cons P (f z) (map f zs) (any_map_from P f zs y later p)
]

pub any_map_to : {X Y : Type 0} (P : X → Type 0) (f : Y → X) (ys : List Y) (k : ℕ) (x : X) → k < length (map f ys) → get_or (map f ys) k x ≡ x → P x → (y : Y) × IsIn y ys × P (f y)
any_map_to P f [] k x below is p = absurd (omega (arith, below))
any_map_to P f (z ∷ zs) zero x below is p = (z, inl refl, subst P (sym is) p)
any_map_to P f (z ∷ zs) (suc k) x below is p = let rest = any_map_to P f zs k x (omega (arith, below)) is p in (rest.0, inr rest.1, rest.2)

-- a list in rising order by what its values name
module _ {X Y : Type 0} (f : Y → X) (cmp : X → X → Ordering) where
  all_unmapped : (y : Y) (ys : List Y) → AllByRecursion (λ x. cmp (f y) x ≡ Less) (map f ys) → AllByRecursion (λ z. cmp (f y) (f z) ≡ Less) ys
  all_unmapped y [] all = tt
  all_unmapped y (z ∷ zs) all = (all.0, all_unmapped y zs all.1)

  rising_unmapped : (ys : List Y) → IsRising cmp (map f ys) → IsRising (λ a b. cmp (f a) (f b)) ys
  rising_unmapped [] rising = tt
  rising_unmapped (y ∷ ys) rising = (all_unmapped y ys rising.0, rising_unmapped ys rising.1)

-- the same is named where the same stands at each value that is there
pub map_same : {X Y : Type 0} (f g : Y → X) (ys : List Y) → ((y : Y) → IsIn y ys → f y ≡ g y) → map f ys ≡ map g ys
map_same f g [] same = refl
map_same f g (y ∷ ys) same = rw (same y (inl refl)) (ap (λ t. g y ∷ t) (map_same f g ys (λ z there. same z (inr there))))

-- a value that is found is there once, and a put there renames it
pub map_put_found : {X Y : Type 0} (f g : Y → X) (at : X → Ordering) (x : X) (s : Y) (ys : List Y) → find_at (λ y. at (f y)) ys ≡ Some s → g s ≡ x → ((y : Y) → IsIn y ys → y ≢ s → g y ≡ f y)
    → IsParted (λ y. at (f y)) ys → map g ys ≡ put_at at x (map f ys)
map_put_found f g at x s [] found here others parted = cc
map_put_found f g at x s (y ∷ ys) found here others parted = go (at (f y)) refl found (λ later. map_put_found f g at x s ys later here (λ z there differ. others z (inr there) differ) parted.1)
  where
    differ : (z : _) → at (f z) ≡ Greater → at (f s) ≡ Equal → z ≢ s
    differ z above at_s same = let there : at (f s) ≡ Greater = subst (λ w. at (f w) ≡ Greater) same above in cc

    above_all : (zs : List _) (z : _) → AllByRecursion (λ w. at (f w) ≡ Greater) zs → IsIn z zs → at (f z) ≡ Greater
    above_all [] z all there = absurd there
    above_all (w ∷ ws) z all there = elim there [
      | inl same ↦ subst (λ v. at (f v) ≡ Greater) (sym same) all.0
      | inr more ↦ above_all ws z all.1 more
    ]

    go : (o : Ordering) → at (f y) ≡ o → found_here o y (find_at (λ w. at (f w)) ys) ≡ Some s → (find_at (λ w. at (f w)) ys ≡ Some s → map g ys ≡ put_at at x (map f ys)) → g y ∷ map g ys ≡ put_here o x (f y) (map f ys) (put_at at x (map f ys))
    go Less e found later =
        let at_s : at (f s) ≡ Equal = (found_in (λ w. at (f w)) ys s found).1 in
        let same : g y ≡ f y = others y (inl refl) (λ is. (let low : at (f s) ≡ Less = subst (λ w. at (f w) ≡ Less) is e in cc)) in
        rw same (ap (λ t. f y ∷ t) (later found))
    go Equal e found later =
        let is : y ≡ s = cc in
        let at_s : at (f s) ≡ Equal = subst (λ w. at (f w) ≡ Equal) is e in
        let rest = map_same g f ys (λ z there. others z (inr there) (differ z (above_all ys z (parted.0 (λ less. cc)) there) at_s)) in
        let first : g y ≡ x = ap g is ∙ here in
        rw first (ap (λ t. x ∷ t) rest)
    go Greater e found later = cc

-- a place in order and the value there
pub in_at : {X : Type 0} (xs : List X) (i : ℕ) (x : X) → slice_get xs i ≡ Some x → IsIn x xs
in_at [] i x found = cc
in_at (y ∷ ys) zero x found = let same : y ≡ x = cc in inl (sym same)
in_at (y ∷ ys) (suc i) x found = inr (in_at ys i x found)

pub in_some : {X : Type 0} (x : X) (xs : List X) → IsIn x xs → 1 ≤ length xs
in_some x [] there = absurd there
in_some x (y ∷ ys) there = omega arith

-- a put depends on where the values that are there stand
put_at_same : {X : Type 0} (at by : X → Ordering) (y : X) (xs : List X) → ((x : X) → IsIn x xs → at x ≡ by x) → put_at at y xs ≡ put_at by y xs
put_at_same at by y [] same = refl
put_at_same at by y (x ∷ xs) same = rw (same x (inl refl)) (ap (put_here (by x) y x xs) (put_at_same at by y xs (λ z there. same z (inr there))))

-- the row at a place is the row of the slot there
pub at_some : (rows : List (Option Cells)) (slots : List ℕ) → ((t : ℕ) → IsIn t slots → IsSome (slot_row rows t)) → (place s : ℕ) → slice_get slots place ≡ Some s → slice_get (map (row_in rows) slots) place ≡ slot_row rows s
at_some rows slots held place s found = slice_get-map (row_in rows) slots place ∙ (ap (option_map (row_in rows)) found ∙ sym (held_row rows s (held s (in_at slots place s found))))

pub at_none : (rows : List (Option Cells)) (slots : List ℕ) (place : ℕ) → slice_get slots place ≡ None → slice_get (map (row_in rows) slots) place ≡ None
at_none rows slots place none = slice_get-map (row_in rows) slots place ∙ ap (option_map (row_in rows)) none

-- the key of the row of a slot
abbrev pub key_at : List Column → List (Option Cells) → ℕ → Cells
key_at columns rows slot = key_of columns (row_in rows slot)

-- of the slots of a table's rows, by key
module _ (columns : List Column) (rows : List (Option Cells)) (slots : List ℕ) where
  module _ (rising : IsRising (row_cmp columns) (map (row_in rows) slots)) where
    -- the slots rise by the keys of their rows
    pub slots_rise : RisesBy (key_at columns rows) key_cmp slots
    slots_rise = rising_unmapped (row_in rows) (row_cmp columns) slots rising

    pub slots_parted : (key : Cells) → IsParted (at_key (key_at columns rows) key_cmp key) slots
    slots_parted key = parted_rising (key_at columns rows) key_cmp key_cmp_total key slots slots_rise

    -- another slot than the one that is found has a row with another key
    pub other_key : (key : Cells) (t : ℕ) → IsIn t slots → find_at (at_key (key_at columns rows) key_cmp key) slots ≢ Some t → key_at columns rows t ≢ key
    other_key key t there other same =
        other (in_found (key_at columns rows) key_cmp key_cmp_total key slots t slots_rise there (subst (λ k. key_cmp (key_at columns rows t) k ≡ Equal) same (tied_itself key_cmp_total (key_at columns rows t))))

    -- what is left of the slots where the one that is found is taken
    pub in_after : (key : Cells) (s t : ℕ) → find_at (at_key (key_at columns rows) key_cmp key) slots ≡ Some s → IsIn t (take_at (at_key (key_at columns rows) key_cmp key) slots) ↔ (IsIn t slots × (t ≢ s))
    in_after key s t found =
        let there = found_in (at_key (key_at columns rows) key_cmp key) slots s found in
        let same : key_at columns rows s ≡ key = exact_keys (key_at columns rows s) key there.1 in
        subst (λ k. IsIn t (take_at (at_key (key_at columns rows) key_cmp k) slots) ↔ (IsIn t slots × (t ≢ s))) same (in_taken (key_at columns rows) key_cmp key_cmp_total slots s t slots_rise there.0)

    -- a row in the place of the one with its key
    pub rows_replaced : (now : List (Option Cells)) (s : ℕ) (row : Cells) → find_at (at_key (key_at columns rows) key_cmp (key_of columns row)) slots ≡ Some s → row_in now s ≡ row
        → ((t : ℕ) → t ≢ s → row_in now t ≡ row_in rows t) → map (row_in now) slots ≡ put_row columns row (map (row_in rows) slots)
    rows_replaced now s row found here others =
        map_put_found (row_in rows) (row_in now) (λ r. key_cmp (key_of columns r) (key_of columns row)) row s slots found here (λ t there differ. others t differ) (slots_parted (key_of columns row))

    -- the rows without the one with a key
    pub rows_taken : (now : List (Option Cells)) (s : ℕ) (key : Cells) → find_at (at_key (key_at columns rows) key_cmp key) slots ≡ Some s → ((t : ℕ) → t ≢ s → row_in now t ≡ row_in rows t)
        → map (row_in now) (take_at (at_key (key_at columns rows) key_cmp key) slots) ≡ take_row columns key (map (row_in rows) slots)
    rows_taken now s key found others =
        map_same (row_in now) (row_in rows) (take_at (at_key (key_at columns rows) key_cmp key) slots) (λ t there. others t ((in_after key s t found).0 there).1)
        ∙ sym (take_map (row_in rows) (λ r. key_cmp (key_of columns r) key) slots)

    -- a row that isn't held elsewhere is free beside the slot of its key, or beside any where no row has its key
    pub free_beside : (row : Cells) (slot : ℕ) (index : UniqueSlots) → ((t : ℕ) → t ≢ slot → find_at (at_key (key_at columns rows) key_cmp (key_of columns row)) slots ≢ Some t)
        → ¬ IsHeldElsewhere columns index.columns row (map (row_in rows) slots) → IsFreeBeside rows slots slot row index
    free_beside row slot index alone unheld = record {
      free = λ t there differ same.
          unheld (any_map_from (λ r. (key_of columns r ≢ key_of columns row) × (picked index.columns r ≡ picked index.columns row)) (row_in rows) slots t there
          (other_key (key_of columns row) t there (alone t differ), same));
    }

    pub each_free_beside : (row : Cells) (slot : ℕ) (indexes : List UniqueSlots) → ((t : ℕ) → t ≢ slot → find_at (at_key (key_at columns rows) key_cmp (key_of columns row)) slots ≢ Some t)
        → AllByRecursion (λ index. ¬ IsHeldElsewhere columns index.columns row (map (row_in rows) slots)) indexes → AllByRecursion (IsFreeBeside rows slots slot row) indexes
    each_free_beside row slot [] alone unheld = tt
    each_free_beside row slot (index ∷ indexes) alone unheld = (free_beside row slot index alone unheld.0, each_free_beside row slot indexes alone unheld.1)

  -- the row with a key is the row of the slot that is found
  found_row : (key : Cells) → find_row columns key (map (row_in rows) slots) ≡ option_map (row_in rows) (find_at (at_key (key_at columns rows) key_cmp key) slots)
  found_row key = find_map (row_in rows) (λ row. key_cmp (key_of columns row) key) slots

  pub found_none : (key : Cells) → find_at (at_key (key_at columns rows) key_cmp key) slots ≡ None → find_row columns key (map (row_in rows) slots) ≡ None
  found_none key none = found_row key ∙ ap (option_map (row_in rows)) none

  module _ (held : (t : ℕ) → IsIn t slots → IsSome (slot_row rows t)) where
    pub found_some : (key : Cells) (s : ℕ) → find_at (at_key (key_at columns rows) key_cmp key) slots ≡ Some s → find_row columns key (map (row_in rows) slots) ≡ slot_row rows s
    found_some key s found =
        let there = (found_in (at_key (key_at columns rows) key_cmp key) slots s found).0 in
        found_row key ∙ (ap (option_map (row_in rows)) found ∙ sym (held_row rows s (held s there)))

  -- one more row
  pub rows_put : (now : List (Option Cells)) (slot : ℕ) (row : Cells) → row_in now slot ≡ row → ((t : ℕ) → IsIn t slots → row_in now t ≡ row_in rows t)
      → map (row_in now) (put_at (at_key (key_at columns rows) key_cmp (key_of columns row)) slot slots) ≡ put_row columns row (map (row_in rows) slots)
  rows_put now slot row here others =
      let place : Cells → Ordering = λ r. key_cmp (key_of columns r) (key_of columns row) in
      ap (map (row_in now)) (put_at_same (λ t. place (row_in rows t)) (λ t. place (row_in now t)) slot slots (λ t there. ap place (sym (others t there))))
      ∙ (sym (put_map (row_in now) place slot slots)
      ∙ (ap (λ r. put_at place r (map (row_in now) slots)) here ∙ ap (put_at place row) (map_same (row_in now) (row_in rows) slots others)))

  -- a look into an index tells whether another row has a row's values
  module _ (places : List ℕ) (number : ℕ) (index : List ℕ) (is : IsUniqueIndex (values_in rows places) picked_cmp (λ t. IsIn t slots) number index) (row : Cells) where
    pub none_held : find_at (at_key (values_in rows places) picked_cmp (picked places row)) index ≡ None → ¬ IsHeldElsewhere columns places row (map (row_in rows) slots)
    none_held none any =
        let one = any_map_to (λ r. (key_of columns r ≢ key_of columns row) × (picked places r ≡ picked places row)) (row_in rows) slots any.0 any.1 any.2 any.3 any.4 in
        index_free (values_in rows places) picked_cmp picked_cmp_total (λ t. IsIn t slots) number index is (picked places row) one.0 none one.1
        (subst (λ k. picked_cmp (values_in rows places one.0) k ≡ Equal) one.2.1 (tied_itself picked_cmp_total (values_in rows places one.0)))

    pub one_held : (s : ℕ) → find_at (at_key (values_in rows places) picked_cmp (picked places row)) index ≡ Some s → (key_of columns (row_in rows s) ≢ key_of columns row) ↔ IsHeldElsewhere columns places row (map (row_in rows) slots)
    one_held s found =
        let that = index_found (values_in rows places) picked_cmp picked_cmp_total (λ t. IsIn t slots) number index is (picked places row) s found in (
          λ other. any_map_from (λ r. (key_of columns r ≢ key_of columns row) × (picked places r ≡ picked places row)) (row_in rows) slots s that.0 (other, exact_picked _ _ that.1),
          λ any. let one = any_map_to (λ r. (key_of columns r ≢ key_of columns row) × (picked places r ≡ picked places row)) (row_in rows) slots any.0 any.1 any.2 any.3 any.4 in
              let same = index_alone (values_in rows places) picked_cmp picked_cmp_total (λ t. IsIn t slots) number index is (picked places row) s one.0 found one.1
              (subst (λ k. picked_cmp (values_in rows places one.0) k ≡ Equal) one.2.1 (tied_itself picked_cmp_total (values_in rows places one.0))) in
              subst (λ t. key_of columns (row_in rows t) ≢ key_of columns row) same one.2.0,
        )

-- what isn't so is so where the test fails
pub not_held : {P Q : Type 0} (test : Bool) → ((test ≡ true) ↔ P) → ((¬ P) ↔ Q) → ((not test ≡ true) ↔ Q)
not_held true same held = (λ e. absurd (false≢true e), λ q. absurd (held.1 q (same.0 refl)))
not_held false same held = (λ e. held.0 (λ p. false≢true (same.1 p)), λ q. refl)

-- the room in indexes
pub least_most-map : (f : UniqueSlots → UniqueSlots) → ((index : UniqueSlots) → (f index).most ≡ index.most) → (most : ℕ) (indexes : List UniqueSlots) → least_most most (map f indexes) ≡ least_most most indexes
least_most-map f same most [] = refl
least_most-map f same most (index ∷ indexes) = rw (same index) (ap (min index.most) (least_most-map f same most indexes))

pub least_each : (number most : ℕ) (indexes : List UniqueSlots) → number ≤ least_most most indexes → (number ≤ most) × AllByRecursion (λ index. number ≤ index.most) indexes
least_each number most [] fits = (fits, tt)
least_each number most (index ∷ indexes) fits =
    let rest = least_each number most indexes (omega (arith, fits)) in
    (rest.0, (omega (arith, fits), rest.1))

pub columns_map : (f : UniqueSlots → UniqueSlots) → ((index : UniqueSlots) → (f index).columns ≡ index.columns) → (indexes : List UniqueSlots) → map (λ index. index.columns) (map f indexes) ≡ map (λ index. index.columns) indexes
columns_map f same [] = refl
columns_map f same (index ∷ indexes) = rw (same index) (ap (λ t. index.columns ∷ t) (columns_map f same indexes))

-- an index in which a slot is put, and one from which it is taken
module _ (rows : List (Option Cells)) (slot : ℕ) (other : Option Cells) where
  chosen : {X : Type 0} (f : UniqueSlots → X) (test : Bool) (a b : UniqueSlots) → f b ≡ f a → f (cond test a b) ≡ f a
  chosen f true a b same = refl
  chosen f false a b same = same

  pub listed-columns : (index : UniqueSlots) → (listed rows slot other index).columns ≡ index.columns
  listed-columns index = chosen (λ i. i.columns) (is_alike index.columns other (slot_row rows slot)) index (with_slot rows slot index) refl

  pub listed-most : (index : UniqueSlots) → (listed rows slot other index).most ≡ index.most
  listed-most index = chosen (λ i. i.most) (is_alike index.columns other (slot_row rows slot)) index (with_slot rows slot index) refl

  pub unlisted-columns : (index : UniqueSlots) → (unlisted rows slot other index).columns ≡ index.columns
  unlisted-columns index = chosen (λ i. i.columns) (is_alike index.columns (slot_row rows slot) other) index (without_slot rows slot index) refl

  pub unlisted-most : (index : UniqueSlots) → (unlisted rows slot other index).most ≡ index.most
  unlisted-most index = chosen (λ i. i.most) (is_alike index.columns (slot_row rows slot) other) index (without_slot rows slot index) refl

pub is_alike-none : (columns : List ℕ) (row : Option Cells) → is_alike columns row None ≡ false
is_alike-none columns None = refl
is_alike-none columns (Some row) = refl

pub values_other : (slots now : Slotted) (slot : ℕ) (row : Option Cells) → SlotHolds slots now slot row → (places : List ℕ) (t : ℕ) → t ≢ slot → values_in slots.rows places t ≡ values_in now.rows places t
values_other slots now slot row holds places t differ = ap (λ r. picked places (values_or_none r)) (sym (holds.others t differ))
