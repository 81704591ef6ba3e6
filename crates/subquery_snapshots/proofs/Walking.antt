-- Going from child to child of a parent.
use Rattle.std.proofs.Common.{◌≡◌, ℕ, List, [], ◌∷◌, Bool, true, false, cond, drop, Option, Some, None, filter, find, refl, sym, ap, ◌∙◌, subst}
use Rattle.std.specs.Prelude.{slice_get}
use Rattle.std.specs.List.{AllByRecursion}
use Rattle.std.specs.Ordering.{is_gt, ordering_reverse}
use Rattle.std.specs.declared.cmp.Ordering.{Ordering}
use Rattle.std.specs.declared.cmp.Ordering.TheVariants.{Less, Equal, Greater}
use Rattle.rep_lists.specs.Rising.{IsRising}
use Rattle.rep_lists.proofs.Places.{drop_from_found}
use Rattle.rep_lists.proofs.Each.{each_then}
use Rattle.rep_values.specs.Order.{key_cmp}
use Rattle.rep_values.specs.OrderLaws.{key_cmp_total}
use Rattle.rep_schema.specs.declared.schema.Schema.{Schema}
use Rattle.rep_schema.specs.declared.schema.Column.{Column}
use Rattle.rep_schema.specs.Tables.{Cells, Rows, columns_of, key_of, row_beside, row_cmp, find_row, rows_of}
use Rattle.rep_schema.specs.Groups.{values_at}
use Rattle.rep_schema.proofs.SameValues.{row_beside-own}
use Rattle.rep_schema.proofs.ValuesAt.{are_same-Decides}
use Rattle.rep_schema.proofs.FilteredRows.{all_filter, rising_filter}
use Rattle.snapshot_query.specs.declared.parent.Parent.{Parent}
use Rattle.snapshot_query.specs.Parents.{found_matches, has_parent}
use Rattle.subquery_snapshots.specs.Children.{is_child, children, is_above, rows_above, child_above}

-- ---- what tests pick of a list

module _ {X : Type 0} where
  pub filter_all : (p : X → Bool) (xs : List X) → AllByRecursion (λ x. p x ≡ true) xs → filter p xs ≡ xs
  filter_all p [] all = refl
  filter_all p (x ∷ xs) all = rw all.0 (ap (λ ys. x ∷ ys) (filter_all p xs all.1))

  -- by two tests in either order
  filter-filter : (p q : X → Bool) (xs : List X) → filter p (filter q xs) ≡ filter q (filter p xs)
  filter-filter p q [] = refl
  filter-filter p q (x ∷ xs) = go (p x) refl (q x) refl (filter-filter p q xs)
    where
      go : (b : Bool) → p x ≡ b → (c : Bool) → q x ≡ c → filter p (filter q xs) ≡ filter q (filter p xs) → filter p (cond c (x ∷ filter q xs) (filter q xs)) ≡ filter q (cond b (x ∷ filter p xs) (filter p xs))
      go true first true second later = rw (first, second) (ap (λ ys. x ∷ ys) later)
      go true first false second later = rw second later
      go false first true second later = rw first later
      go false first false second later = later

  -- the first that a test picks
  find-filter : (p : X → Bool) (xs : List X) → find p xs ≡ slice_get (filter p xs) 0
  find-filter p [] = refl
  find-filter p (x ∷ xs) = go (p x) (find-filter p xs)
    where
      go : (b : Bool) → find p xs ≡ slice_get (filter p xs) 0 → cond b (Some x) (find p xs) ≡ slice_get (cond b (x ∷ filter p xs) (filter p xs)) 0
      go true later = refl
      go false later = later

  -- passes it, and has what each value has
  find-holds : (P : X → Type 0) (p : X → Bool) (xs : List X) (x : X) → AllByRecursion P xs → find p xs ≡ Some x → (p x ≡ true) × P x
  find-holds P p [] x all found = absurd (cc found)
  find-holds P p (y ∷ ys) x all found = go (p y) refl found (find-holds P p ys x all.1)
    where
      go : (b : Bool) → p y ≡ b → cond b (Some y) (find p ys) ≡ Some x → (find p ys ≡ Some x → (p x ≡ true) × P x) → (p x ≡ true) × P x
      go true here found later = let same : y ≡ x = cc found in (subst (λ z. p z ≡ true) same here, subst P same all.0)
      go false here found later = later found

  none_first : (xs : List X) → slice_get xs 0 ≡ None → xs ≡ []
  none_first [] none = refl
  none_first (x ∷ xs) none = absurd (cc none)

-- ---- above a key

turned : (a b : Cells) → key_cmp a b ≡ Less → key_cmp b a ≡ Greater
turned a b less = key_cmp_total.antisymm b a ∙ ap ordering_reverse less

module _ (columns : List Column) where
  -- what is behind a row that stands above a key stands above it too
  pub above_then : (above : Option Cells) (x y : Cells) → row_cmp columns x y ≡ Less → is_above columns above x ≡ true → is_above columns above y ≡ true
  above_then None x y less is = refl
  above_then (Some key) x y less is = go (row_beside columns key x) refl is
    where
      go : (o : Ordering) → row_beside columns key x ≡ o → is_gt o ≡ true → is_gt (row_beside columns key y) ≡ true
      go Less place is = absurd (cc is)
      go Equal place is = absurd (cc is)
      go Greater place is =
          let below : key_cmp key (key_of columns x) ≡ Less = key_cmp_total.antisymm key (key_of columns x) ∙ ap ordering_reverse place in
          ap is_gt (turned key (key_of columns y) (key_cmp_total.trans key (key_of columns x) (key_of columns y) below less))

  -- a row doesn't stand above its own key, and none before it does, but all behind it do
  not_above_own : (x : Cells) → is_above columns (Some (key_of columns x)) x ≡ false
  not_above_own x = ap is_gt (row_beside-own columns (key_of columns x) x refl)

  not_above_later : (w x : Cells) → row_cmp columns w x ≡ Less → is_above columns (Some (key_of columns x)) w ≡ false
  not_above_later w x less = ap is_gt less

  above_earlier : (x y : Cells) → row_cmp columns x y ≡ Less → is_above columns (Some (key_of columns x)) y ≡ true
  above_earlier x y less = ap is_gt (turned (key_of columns x) (key_of columns y) less)

  -- where there is no key, all rows stand above it
  pub rows_above-none : (rows : Rows) → rows_above columns None rows ≡ rows
  rows_above-none [] = refl
  rows_above-none (r ∷ rs) = ap (λ ys. r ∷ ys) (rows_above-none rs)

  -- above the key of the first row above a key are the others
  rows_above-first : (above : Option Cells) (rows : Rows) (x : Cells) (rest : Rows) → IsRising (row_cmp columns) rows → rows_above columns above rows ≡ x ∷ rest → rows_above columns (Some (key_of columns x)) rows ≡ rest
  rows_above-first above [] x rest rising is = absurd (cc is)
  rows_above-first above (r ∷ rs) x rest rising is = go (is_above columns above r) refl is (rows_above-first above rs x rest rising.1)
    where
      go : (b : Bool) → is_above columns above r ≡ b → cond b (r ∷ rows_above columns above rs) (rows_above columns above rs) ≡ x ∷ rest
          → (rows_above columns above rs ≡ x ∷ rest → rows_above columns (Some (key_of columns x)) rs ≡ rest) → rows_above columns (Some (key_of columns x)) (r ∷ rs) ≡ rest
      go true here is later =
          let same : r ≡ x = cc is in
          let others : rows_above columns above rs ≡ rest = cc is in
          let own : is_above columns (Some (key_of columns x)) r ≡ false = subst (λ (z : Cells). is_above columns (Some (key_of columns z)) r ≡ false) same (not_above_own r) in
          let behind = each_then (λ y. row_cmp columns r y ≡ Less) (λ y. is_above columns (Some (key_of columns x)) y ≡ true)
          (λ y less. subst (λ (z : Cells). is_above columns (Some (key_of columns z)) y ≡ true) same (above_earlier r y less)) rs rising.0 in
          let all = each_then (λ y. row_cmp columns r y ≡ Less) (λ y. is_above columns above y ≡ true) (λ y less. above_then above r y less here) rs rising.0 in
          rw own (filter_all (is_above columns (Some (key_of columns x))) rs behind ∙ sym (filter_all (is_above columns above) rs all) ∙ others)
      go false here is later =
          let below = subst (λ (ys : Rows). AllByRecursion (λ y. row_cmp columns r y ≡ Less) ys) is (all_filter (λ y. row_cmp columns r y ≡ Less) (is_above columns above) rs rising.0) in
          rw (not_above_later r x below.0) (later is)

  -- each row of rising ones is found under its key
  all_found : (rows : Rows) → IsRising (row_cmp columns) rows → AllByRecursion (λ row. find_row columns (key_of columns row) rows ≡ Some row) rows
  all_found [] rising = tt
  all_found (x ∷ xs) rising = (
    rw (row_beside-own columns (key_of columns x) x refl) refl,
    past xs rising.0 (all_found xs rising.1),
  )
    where
      past : (ys : Rows) → AllByRecursion (λ y. row_cmp columns x y ≡ Less) ys → AllByRecursion (λ y. find_row columns (key_of columns y) xs ≡ Some y) ys
          → AllByRecursion (λ y. find_row columns (key_of columns y) (x ∷ xs) ≡ Some y) ys
      past [] below found = tt
      past (y ∷ ys) below found = (rw below.0 found.0, past ys below.1 found.1)

-- ---- children

module _ (columns : List Column) (places : List ℕ) (parent : Cells) (above : Option Cells) (rows : Rows) where
  -- the first child above a key is the first of the children that stand above it
  first_child : child_above columns places parent above rows ≡ slice_get (rows_above columns above (children places parent rows)) 0
  first_child = find-filter (is_child places parent) (rows_above columns above rows) ∙ ap (λ (xs : Rows). slice_get xs 0) (filter-filter (is_child places parent) (is_above columns above) rows)

  pub no_child : child_above columns places parent above rows ≡ None → rows_above columns above (children places parent rows) ≡ []
  no_child none = none_first (rows_above columns above (children places parent rows)) (sym first_child ∙ none)

  module _ (rising : IsRising (row_cmp columns) rows) (child : Cells) (found : child_above columns places parent above rows ≡ Some child) where
    -- the others stand above the child's key
    pub children_left : rows_above columns above (children places parent rows) ≡ child ∷ rows_above columns (Some (key_of columns child)) (children places parent rows)
    children_left =
        let left = rows_above columns above (children places parent rows) in
        let split : left ≡ child ∷ drop 1 left = drop_from_found left 0 child (sym first_child ∙ found) in
        split ∙ ap (λ (ys : Rows). child ∷ ys) (sym (rows_above-first columns above (children places parent rows) child (drop 1 left) (rising_filter columns (is_child places parent) rows rising) split))

    -- what is so of each row is so of the child
    pub child_holds : (P : Cells → Type 0) → AllByRecursion P rows → P child
    child_holds P all = (find-holds P (is_child places parent) (rows_above columns above rows) child (all_filter P (is_above columns above) rows all) found).1

    -- it is found under its key
    pub child_found : find_row columns (key_of columns child) rows ≡ Some child
    child_found = child_holds (λ row. find_row columns (key_of columns row) rows ≡ Some row) (all_found columns rows rising)

    -- and has the parent's key
    pub child_is : values_at places child ≡ parent
    child_is = (are_same-Decides (values_at places child) parent).0
        (find-holds (λ row. find_row columns (key_of columns row) rows ≡ Some row) (is_child places parent) (rows_above columns above rows) child
        (all_filter (λ row. find_row columns (key_of columns row) rows ≡ Some row) (is_above columns above) rows (all_found columns rows rising)) found).0

-- so a child's parent passes the tests where the row with its key does
pub has_parent-child : (schema : Schema) (tables : List Rows) (parent : Parent) (key child : Cells) → values_at parent.columns child ≡ key
    → found_matches parent.tests (find_row (columns_of schema parent.table) key (rows_of tables parent.table)) ≡ has_parent schema tables parent child
has_parent-child schema tables parent key child is =
    ap (λ (k : Cells). found_matches parent.tests (find_row (columns_of schema parent.table) k (rows_of tables parent.table))) (sym is)
