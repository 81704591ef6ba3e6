-- Rows of two tables that have, key by key, the same values in some columns, and what tests can tell of them.
use Rattle.std.proofs.Common.{◌≡◌, ℕ, List, [], ◌∷◌, map, Bool, Some, None, refl, sym, ap, ◌∙◌}
use Rattle.std.specs.Prelude.{Option, option_map}
use Rattle.std.specs.List.{AllByRecursion, list_any}
use Rattle.std.specs.declared.cmp.Ordering.{Ordering}
use Rattle.std.specs.declared.cmp.Ordering.TheVariants.{Less, Equal, Greater}
use Rattle.rep_lists.specs.Rising.{IsRising, find_at, found_here}
use Rattle.rep_lists.proofs.FoundByKey.{same_from_finds}
use Rattle.rep_values.specs.declared.value.Value.{Value}
use Rattle.rep_values.specs.Order.{key_cmp}
use Rattle.rep_values.specs.OrderLaws.{key_cmp_total}
use Rattle.rep_schema.specs.declared.schema.Column.{Column}
use Rattle.rep_schema.specs.Tables.{Cells, Rows, key_of, row_cmp, find_row, picked}
use Rattle.rep_schema.proofs.FoundRows.{key_of-found}

-- the values of two lists are alike side by side
abbrev pub StandAlike : {X : Type 0} → (X → X → Type 0) → List X → List X → Type 0
StandAlike Alike [] [] = Unit {0}
StandAlike Alike [] (y ∷ ys) = ⊥
StandAlike Alike (x ∷ xs) [] = ⊥
StandAlike Alike (x ∷ xs) (y ∷ ys) = Alike x y × StandAlike Alike xs ys

-- a test that answers alike at both is passed in both lists or in none
pub list_any-StandAlike : {X : Type 0} (Alike : X → X → Type 0) (test : X → Bool) → ((x y : X) → Alike x y → test x ≡ test y) → (xs ys : List X) → StandAlike Alike xs ys → list_any test xs ≡ list_any test ys
list_any-StandAlike Alike test tells [] [] alike = refl
list_any-StandAlike Alike test tells [] (y ∷ ys) alike = absurd alike
list_any-StandAlike Alike test tells (x ∷ xs) [] alike = absurd alike
list_any-StandAlike Alike test tells (x ∷ xs) (y ∷ ys) alike = rw (tells x y alike.0, list_any-StandAlike Alike test tells xs ys alike.1) refl

module _ {X Y : Type 0} (f : X → Y) where
  -- what is found among images is the image of what is found
  find_at-map : (at : Y → Ordering) (xs : List X) → find_at at (map f xs) ≡ option_map f (find_at (λ x. at (f x)) xs)
  find_at-map at [] = refl
  find_at-map at (x ∷ xs) = go (at (f x)) (find_at-map at xs)
    where
      go : (o : Ordering) → find_at at (map f xs) ≡ option_map f (find_at (λ x. at (f x)) xs) → found_here o (f x) (find_at at (map f xs)) ≡ option_map f (found_here o x (find_at (λ x. at (f x)) xs))
      go Less later = later
      go Equal later = refl
      go Greater later = refl

  each_map : (P : Y → Type 0) (xs : List X) → AllByRecursion (λ x. P (f x)) xs → AllByRecursion P (map f xs)
  each_map P [] all = tt
  each_map P (x ∷ xs) all = (all.0, each_map P xs all.1)

  -- images rise as what they are of does
  IsRising-map : (cmp : Y → Y → Ordering) (xs : List X) → IsRising (λ x y. cmp (f x) (f y)) xs → IsRising cmp (map f xs)
  IsRising-map cmp [] rising = tt
  IsRising-map cmp (x ∷ xs) rising = (each_map (λ y. cmp (f x) y ≡ Less) xs rising.0, IsRising-map cmp xs rising.1)

module _ (columns : List Column) (places : List ℕ) where
  -- rows have one key, and the same values or none at the places
  abbrev pub AreAlike : Cells → Cells → Type 0
  AreAlike row other = (key_of columns row ≡ key_of columns other) × (picked places row ≡ picked places other)

  -- what is seen of a row
  abbrev seen : Cells → Cells × List (Option Value)
  seen row = (key_of columns row, picked places row)

  alike_from_images : (rows others : Rows) → map seen rows ≡ map seen others → StandAlike AreAlike rows others
  alike_from_images [] [] same = tt
  alike_from_images [] (y ∷ ys) same = cc
  alike_from_images (x ∷ xs) [] same = cc
  alike_from_images (x ∷ xs) (y ∷ ys) same =
      let first : seen x ≡ seen y = cc in
      let rest : map seen xs ≡ map seen ys = cc in
      ((ap (λ image. image.0) first, ap (λ image. image.1) first), alike_from_images xs ys rest)

  -- rows in rising order in which at every key the same is found of these values, or no row, stand alike
  pub alike_from_finds : (rows others : Rows) → IsRising (row_cmp columns) rows → IsRising (row_cmp columns) others
      → ((key : Cells) → option_map (picked places) (find_row columns key rows) ≡ option_map (picked places) (find_row columns key others)) → StandAlike AreAlike rows others
  alike_from_finds rows others rising rising_others finds =
      alike_from_images rows others
      (same_from_finds (λ image. image.0) key_cmp key_cmp_total (map seen rows) (map seen others)
      (IsRising-map seen (λ a b. key_cmp a.0 b.0) rows rising)
      (IsRising-map seen (λ a b. key_cmp a.0 b.0) others rising_others)
      (λ key. find_at-map seen (λ image. key_cmp image.0 key) rows
      ∙ found key (find_row columns key rows) (find_row columns key others) refl refl (finds key)
      ∙ sym (find_at-map seen (λ image. key_cmp image.0 key) others)))
    where
      found : (key : Cells) (one other : Option Cells) → find_row columns key rows ≡ one → find_row columns key others ≡ other → option_map (picked places) one ≡ option_map (picked places) other → option_map seen one ≡ option_map seen other
      found key None None here there same = refl
      found key None (Some y) here there same = cc
      found key (Some x) None here there same = cc
      found key (Some x) (Some y) here there same =
          let values : picked places x ≡ picked places y = cc in
          rw (key_of-found columns key x rows here, key_of-found columns key y others there, values) refl
