-- The sets of an update column by column.
use Rattle.std.proofs.Common.{◌≡◌, ℕ, zero, suc, ◌+◌, ◌<◌, ◌≤◌, Bool, true, false, List, [], ◌∷◌, length, map, drop, take, get_or, set, refl, sym, ap, ◌∙◌, inl, inr, arith}
use Rattle.std.specs.Prelude.{Option, Some, None, ◌&&◌, ◌||◌, ◌≢◌, cond, not, is_some, slice_get, nat_lt, replicate}
use Rattle.std.specs.List.{find, list_any, position, position_or_len, AllByRecursion}
use Rattle.std.specs.Bool.{Decides}
use Rattle.std.specs.Cmp.{unsigned_Decides}
use Rattle.std.proofs.lemmas.Slice.Eq.{slice_eq-Decides}
use Rattle.std.proofs.lemmas.Bool.{and_right, both_ways, false_from_ne_true, ltb-true, lt-ltb, cases_order}
use Rattle.std.proofs.lemmas.List.Folds.{list_all-append, list_any_at}
use Rattle.std.proofs.lemmas.List.Sums.{position_or_len_is}
use Rattle.std.proofs.lemmas.List.{take-append-drop, get_or-map, length-map}
use Rattle.std.proofs.lemmas.Option.{slice_get-map, slice_get-get_or}
use Rattle.std.proofs.lemmas.List.Quantifiers.{position-Some}
use Rattle.rep_values.specs.Name.{same_bytes}
use Rattle.rep_schema.specs.declared.schema.Column.{Column}
use Rattle.rep_schema.specs.declared.schema.Kind.TheVariants as Kind
use Rattle.rep_schema.specs.Shape.{AreDistinct}
use Rattle.rep_schema.specs.Named.{is_column}
use Rattle.rep_schema.specs.Kinds.{is_filled}
use Rattle.rep_calls.specs.declared.statement.Set.{Set}
use Rattle.txn_effects.specs.Sets.{names_columns, is_about, names_one_twice, sets_filled, sets_by_column}
use Rattle.txn_effects.specs.ByColumn.{set_of, set_at, fills_some}

pub same_bytes-Decides : (a b : List ℕ) → Decides (same_bytes a b) (a ≡ b)
same_bytes-Decides a b = slice_eq-Decides unsigned_Decides a b (same_bytes a b) refl

-- two names are the same either way round
pub same_bytes-turned : (a b : List ℕ) → same_bytes a b ≡ same_bytes b a
same_bytes-turned a b = go (same_bytes a b) (same_bytes b a) refl refl
  where
    go : (x y : Bool) → same_bytes a b ≡ x → same_bytes b a ≡ y → x ≡ y
    go true true e f = refl
    go false false e f = refl
    go true false e f = absurd (both_ways (same_bytes b a) f ((same_bytes-Decides b a).1 (sym ((same_bytes-Decides a b).0 e))))
    go false true e f = absurd (both_ways (same_bytes a b) e ((same_bytes-Decides a b).1 (sym ((same_bytes-Decides b a).0 f))))

-- the values that a function gives differ from another's at one place alone
pub map-one : {X Y : Type 0} (f g : X → Y) (y : Y) (d : X) (xs : List X) (place : ℕ) → place < length xs → g (get_or xs place d) ≡ y
    → ((k : ℕ) → k < length xs → k ≢ place → g (get_or xs k d) ≡ f (get_or xs k d)) → map g xs ≡ set (map f xs) place y
map-one f g y d [] place within here others = absurd (omega (arith, within))
map-one {X = X} {Y = Y} f g y d (x ∷ xs) zero within here others =
    ap (λ z. z ∷ map g xs) here ∙ ap (λ ys. y ∷ ys) (all xs (λ k below. others (suc k) (omega (arith, below)) (λ e. absurd (omega (arith, e)))))
  where
    all : (zs : List X) → ((k : ℕ) → k < length zs → g (get_or zs k d) ≡ f (get_or zs k d)) → map g zs ≡ map f zs
    all [] same = refl
    all (z ∷ zs) same = ap (λ v. v ∷ map g zs) (same 0 (omega arith)) ∙ ap (λ vs. f z ∷ vs) (all zs (λ k below. same (suc k) (omega (arith, below))))
map-one f g y d (x ∷ xs) (suc place) within here others =
    ap (λ z. z ∷ map g xs) (others 0 (omega arith) (λ e. absurd (omega (arith, e))))
    ∙ ap (λ ys. f x ∷ ys) (map-one f g y d xs place (omega (arith, within)) here (λ k below ne. others (suc k) (omega (arith, below)) (λ e. ne (omega (arith, e)))))

and_true : (a : Bool) → (a && true) ≡ a
and_true true = refl
and_true false = refl

or_turned : (a b : Bool) → (a || b) ≡ (b || a)
or_turned true true = refl
or_turned true false = refl
or_turned false true = refl
or_turned false false = refl

-- what is found passes the test, and else none does
pub is_some-find : {X : Type 0} (test : X → Bool) (xs : List X) → is_some (find test xs) ≡ list_any test xs
is_some-find test [] = refl
is_some-find {X = X} test (x ∷ xs) = go (test x) (is_some-find test xs)
  where
    go : (b : Bool) → is_some (find test xs) ≡ list_any test xs → is_some (cond b (Some x) (find test xs)) ≡ (b || list_any test xs)
    go true rest = refl
    go false rest = rest

-- where no place is found, none passes the test
pub list_any-unplaced : {X : Type 0} (test : X → Bool) (xs : List X) → position test xs ≡ None → list_any test xs ≡ false
list_any-unplaced test [] none = refl
list_any-unplaced {X = X} test (x ∷ xs) none = go (test x) refl (λ unplaced. list_any-unplaced test xs unplaced) none
  where
    first : ℕ
    first = position_or_len test xs

    further : (b : Bool) → nat_lt first (length xs) ≡ b → cond (nat_lt (1 + first) (length (x ∷ xs))) (Some (1 + first)) None ≡ None → position test xs ≡ None
    further true below gone = let later : nat_lt (1 + first) (length (x ∷ xs)) ≡ true = let within = ltb-true first (length xs) below in lt-ltb (1 + first) (length (x ∷ xs)) (omega arith) in cc
    further false above gone = rw above refl

    go : (b : Bool) → test x ≡ b → (position test xs ≡ None → list_any test xs ≡ false)
        → cond (nat_lt (cond (not b) (1 + first) 0) (length (x ∷ xs))) (Some (cond (not b) (1 + first) 0)) None ≡ None → (test x || list_any test xs) ≡ false
    go true here rest gone = let later : nat_lt 0 (length (x ∷ xs)) ≡ true = lt-ltb 0 (length (x ∷ xs)) (omega arith) in cc
    go false here rest gone = rw here (rest (further (nat_lt first (length xs)) refl gone))

slice_get-take : {X : Type 0} (xs : List X) (n i : ℕ) (d : X) → i < n → i < length xs → slice_get (take n xs) i ≡ Some (get_or xs i d)
slice_get-take xs zero i d within there = absurd (omega (arith, within))
slice_get-take [] (suc n) i d within there = absurd (omega (arith, there))
slice_get-take (x ∷ xs) (suc n) zero d within there = refl
slice_get-take (x ∷ xs) (suc n) (suc i) d within there = slice_get-take xs n i d (omega (arith, within)) (omega (arith, there))

-- of no set nothing is set of the columns
pub nothing_set : (sets : List Set) (columns : List Column) (n : ℕ) → length columns ≤ n → map (set_of sets) (take (length columns) (replicate n None)) ≡ sets_by_column columns []
nothing_set sets [] n few = refl
nothing_set sets (c ∷ cs) zero few = absurd (omega (arith, few))
nothing_set sets (c ∷ cs) (suc n) few = ap (λ ss. None ∷ ss) (nothing_set sets cs n (omega (arith, few)))

-- cells without numbers have none that isn't a set's
pub numbered-none : (sets : List Set) (n : ℕ) → AllByRecursion (λ cell. is_some cell ≡ is_some (set_of sets cell)) (replicate n None)
numbered-none sets zero = tt
numbered-none sets (suc n) = (refl, numbered-none sets n)

-- what is set of a column, by the cells of so many columns
pub set_at-cells : (sets : List Set) (cells : List (Option ℕ)) (n place : ℕ) (d : Option ℕ) → place < n → place < length cells → set_at (map (set_of sets) (take n cells)) place ≡ set_of sets (get_or cells place d)
set_at-cells sets cells n place d within there =
    rw (slice_get-map (set_of sets) (take n cells) place, slice_get-take cells n place d within there) refl

-- a column that has a name, where no other has it, is at the name's place
pub position-column : (columns : List Column) (name : List ℕ) (place : ℕ) (c : Column) → AreDistinct (map (λ c. c.name) columns) → place < length columns
    → is_column name (get_or columns place c) ≡ true → position (is_column name) columns ≡ Some place
position-column columns name place c apart within has_name =
    let long = length-map columns (λ (o : Column). o.name) in
    let name_at : (k : ℕ) → k < length columns → get_or (map (λ (o : Column). o.name) columns) k name ≡ (get_or columns k c).name =
    λ k below. get_or-map (λ (o : Column). o.name) columns k c name below in
    let named : (get_or columns place c).name ≡ name = (same_bytes-Decides (get_or columns place c).name name).0 has_name in
    let before : (k : ℕ) → k < place → is_column name (get_or columns k c) ≡ false =
    λ k earlier. false_from_ne_true (is_column name (get_or columns k c)) (λ same.
    apart k place name earlier (omega (arith, long, within))
    (name_at k (omega (arith, earlier, within)) ∙ (same_bytes-Decides (get_or columns k c).name name).0 same ∙ sym named ∙ sym (name_at place within))) in
    let first : position_or_len (is_column name) columns ≡ place =
    position_or_len_is (is_column name) columns place c (omega (arith, within)) before (λ _. has_name) in
    rw (first, lt-ltb place (length columns) within) refl

module _ (columns : List Column) (sets : List Set) (i : ℕ) (s : Set) (here : drop i sets ≡ s ∷ drop (i + 1) sets) where
  -- a set that names no column
  pub unknown-set : position (is_column s.column) columns ≡ None → names_columns columns sets ≡ false
  unknown-set gone =
      let unnamed = list_any-unplaced (is_column s.column) columns gone in
      let from_here : names_columns columns (drop i sets) ≡ false = rw (here, unnamed) refl in
      let whole = list_all-append (λ (t : Set). list_any (is_column t.column) columns) (take i sets) (drop i sets) in
      let all = take-append-drop i sets in
      ap (names_columns columns) (sym all) ∙ whole ∙ rw from_here (and_right (names_columns columns (take i sets)) false refl)

  module _ (place : ℕ) (placed : position (is_column s.column) columns ≡ Some place) (apart : AreDistinct (map (λ c. c.name) columns)) where
    -- any column
    abbrev other_column : Column
    other_column = record { name = s.column; kind = Kind.Number; key = false }

    abbrev named : Column
    named = get_or columns place other_column

    found : (place < length columns) × (is_column s.column named ≡ true) × ((k : ℕ) → k < place → is_column s.column (get_or columns k other_column) ≡ false)
    found = position-Some (is_column s.column) columns place other_column placed

    pub named-within : place < length columns
    named-within = found.0

    same_name : named.name ≡ s.column
    same_name = (same_bytes-Decides named.name s.column).0 found.1

    pub known-more : names_columns columns (drop (i + 1) sets) ≡ true → names_columns columns (drop i sets) ≡ true
    known-more known = rw (here, list_any_at (is_column s.column) columns place other_column found.0 found.1) known

    pub twice-more : names_one_twice (drop i sets) ≡ (names_one_twice (drop (i + 1) sets) || is_some (set_at (sets_by_column columns (drop (i + 1) sets)) place))
    twice-more =
        let rest = drop (i + 1) sets in
        let there : set_at (sets_by_column columns rest) place ≡ find (is_about s.column) rest =
        rw (slice_get-map (λ (c : Column). find (is_about c.name) rest) columns place, slice_get-get_or columns place other_column found.0) (ap (λ n. find (is_about n) rest) same_name) in
        rw (here, there, is_some-find (is_about s.column) rest) (or_turned (list_any (is_about s.column) rest) (names_one_twice rest))

    name_at : (k : ℕ) → k < length columns → get_or (map (λ (c : Column). c.name) columns) k s.column ≡ (get_or columns k other_column).name
    name_at k below = get_or-map (λ (c : Column). c.name) columns k other_column s.column below

    -- the other columns have other names
    others_apart : (k : ℕ) → k < length columns → k ≢ place → is_about (get_or columns k other_column).name s ≡ false
    others_apart k below ne = false_from_ne_true (is_about (get_or columns k other_column).name s)
        (λ same. let is : get_or (map (λ (c : Column). c.name) columns) k s.column ≡ get_or (map (λ (c : Column). c.name) columns) place s.column =
        name_at k below ∙ sym ((same_bytes-Decides s.column (get_or columns k other_column).name).0 same) ∙ sym same_name ∙ sym (name_at place found.0) in
        let long = length-map columns (λ (c : Column). c.name) in
        elim (cases_order k place) [
          | inl e ↦ absurd (ne e)
          | inr (inl before) ↦ absurd (apart k place s.column before (omega (arith, long, found.0)) is)
          | inr (inr behind) ↦ absurd (apart place k s.column behind (omega (arith, long, below)) (sym is))
        ])

    pub each-more : sets_by_column columns (drop i sets) ≡ set (sets_by_column columns (drop (i + 1) sets)) place (Some s)
    each-more =
        let rest = drop (i + 1) sets in
        let about : is_about named.name s ≡ true = same_bytes-turned s.column named.name ∙ found.1 in
        rw here (map-one (λ (c : Column). find (is_about c.name) rest) (λ (c : Column). find (is_about c.name) (s ∷ rest)) (Some s) other_column columns place found.0
        (rw about refl) (λ k below ne. rw (others_apart k below ne) refl))

list_any-or : {X : Type 0} (p q : X → Bool) (xs : List X) → list_any (λ x. p x || q x) xs ≡ (list_any p xs || list_any q xs)
list_any-or p q [] = refl
list_any-or {X = X} p q (x ∷ xs) = go (p x) (q x) (list_any p xs) (list_any q xs) (list_any-or p q xs)
  where
    go : (a b c d : Bool) → list_any (λ y. p y || q y) xs ≡ (c || d) → ((a || b) || list_any (λ y. p y || q y) xs) ≡ ((a || c) || (b || d))
    go true b c d rest = refl
    go false true true d rest = refl
    go false true false d rest = refl
    go false false c d rest = rest

list_any-nothing : {X : Type 0} (xs : List X) → list_any (λ x. false) xs ≡ false
list_any-nothing [] = refl
list_any-nothing (x ∷ xs) = list_any-nothing xs

-- some pair of two lists passes, whichever list is gone through first
list_any-turned : {X Y : Type 0} (test : X → Y → Bool) (xs : List X) (ys : List Y) → list_any (λ x. list_any (test x) ys) xs ≡ list_any (λ y. list_any (λ x. test x y) xs) ys
list_any-turned test [] ys = sym (list_any-nothing ys)
list_any-turned test (x ∷ xs) ys = ap (λ b. list_any (test x) ys || b) (list_any-turned test xs ys) ∙ sym (list_any-or (test x) (λ y. list_any (λ z. test z y) xs) ys)

list_any-and : {X : Type 0} (p : X → Bool) (b : Bool) (xs : List X) → list_any (λ x. p x && b) xs ≡ (b && list_any p xs)
list_any-and {X = X} p true xs = all xs
  where
    all : (ys : List X) → list_any (λ x. p x && true) ys ≡ list_any p ys
    all [] = refl
    all (y ∷ ys) = rw (and_true (p y)) (ap (λ c. p y || c) (all ys))
list_any-and {X = X} p false xs = none xs
  where
    none : (ys : List X) → list_any (λ x. p x && false) ys ≡ false
    none [] = refl
    none (y ∷ ys) = rw (and_right (p y) false refl) (none ys)

-- whether a column that the site fills is set, read from the sets by column
pub fills_some-sets : (sets : List Set) (columns : List Column) → fills_some columns (sets_by_column columns sets) ≡ sets_filled columns sets
fills_some-sets sets columns = by_columns columns ∙ sym (list_any-turned (λ (s : Set) (c : Column). is_column s.column c && is_filled c) sets columns)
  where
    here : (c : Column) → (is_filled c && is_some (find (is_about c.name) sets)) ≡ list_any (λ s. is_column s.column c && is_filled c) sets
    here c = ap (λ b. is_filled c && b) (is_some-find (is_about c.name) sets ∙ turned sets) ∙ sym (list_any-and (λ (s : Set). is_column s.column c) (is_filled c) sets)
      where
        turned : (ss : List Set) → list_any (is_about c.name) ss ≡ list_any (λ s. is_column s.column c) ss
        turned [] = refl
        turned (s ∷ ss) = rw (same_bytes-turned s.column c.name) (ap (λ b. same_bytes c.name s.column || b) (turned ss))

    by_columns : (cs : List Column) → fills_some cs (sets_by_column cs sets) ≡ list_any (λ c. list_any (λ s. is_column s.column c && is_filled c) sets) cs
    by_columns [] = refl
    by_columns (c ∷ cs) = rw (here c) (ap (λ b. list_any (λ (s : Set). is_column s.column c && is_filled c) sets || b) (by_columns cs))
