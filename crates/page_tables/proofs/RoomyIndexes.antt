-- Indexes with more room than before, and the room in all of them.
use Rattle.std.proofs.Common.{◌≡◌, ℕ, zero, suc, ◌+◌, ◌<◌, ◌≤◌, List, [], ◌∷◌, length, get_or, set, map, take, refl, ap, ◌∙◌, arith, add-one}
use Rattle.std.specs.Prelude.{min}
use Rattle.std.specs.List.{AllByRecursion}
use Rattle.page_tables.specs.Pages.{Paged}
use Rattle.page_tables.specs.Slots.{Slotted}
use Rattle.page_tables.specs.Index.{UniqueSlots, IsRoomier, AreRoomier}
use Rattle.page_tables.specs.Stored.{least_most, room_of, IsIndexOf, IsStored}

pub roomier_self : (indexes : List UniqueSlots) → AreRoomier indexes indexes
roomier_self [] = tt
roomier_self (index ∷ indexes) = (record { columns = refl; items = refl; most = omega arith }, roomier_self indexes)

-- one of them gets more room
pub roomier_set : (old now : List UniqueSlots) (place : ℕ) (d one : UniqueSlots) → place < length now → AreRoomier old now → IsRoomier (get_or now place d) one → AreRoomier old (set now place one)
roomier_set [] [] place d one within are is = absurd (omega (arith, within))
roomier_set [] (n ∷ ns) place d one within are is = absurd are
roomier_set (o ∷ os) [] place d one within are is = absurd are
roomier_set (o ∷ os) (n ∷ ns) zero d one within are is = (record { columns = is.columns ∙ are.0.columns; items = is.items ∙ are.0.items; most = omega (arith, is.most, are.0.most) }, are.1)
roomier_set (o ∷ os) (n ∷ ns) (suc place) d one within are is = (are.0, roomier_set os ns place d one (omega (arith, within)) are.1 is)

pub each_roomier : (most : ℕ) (old now : List UniqueSlots) → AreRoomier old now → AllByRecursion (λ index. most ≤ index.most) old → AllByRecursion (λ index. most ≤ index.most) now
each_roomier most [] [] are all = tt
each_roomier most [] (n ∷ ns) are all = absurd are
each_roomier most (o ∷ os) [] are all = absurd are
each_roomier most (o ∷ os) (n ∷ ns) are all = (omega (arith, all.0, are.0.most), each_roomier most os ns are.1 all.1)

-- what holds of the values up to a place, and of the one that is set there
pub each_taken : {X : Type 0} (P : X → Type 0) (xs : List X) (i : ℕ) (y : X) → i < length xs → P y → AllByRecursion P (take i xs) → AllByRecursion P (take (i + 1) (set xs i y))
each_taken P xs i y within here all = rw (add-one i) (go xs i within all)
  where
    go : (zs : List _) (k : ℕ) → k < length zs → AllByRecursion P (take k zs) → AllByRecursion P (take (suc k) (set zs k y))
    go [] k within all = absurd (omega (arith, within))
    go (z ∷ zs) zero within all = (here, tt)
    go (z ∷ zs) (suc k) within all = (all.0, go zs k (omega (arith, within)) all.1)

pub columns_roomier : (old now : List UniqueSlots) → AreRoomier old now → map (λ index. index.columns) now ≡ map (λ index. index.columns) old
columns_roomier [] [] are = refl
columns_roomier [] (n ∷ ns) are = absurd are
columns_roomier (o ∷ os) [] are = absurd are
columns_roomier (o ∷ os) (n ∷ ns) are = rw are.0.columns (ap (λ t. o.columns ∷ t) (columns_roomier os ns are.1))

pub length_roomier : (old now : List UniqueSlots) → AreRoomier old now → length now ≡ length old
length_roomier [] [] are = refl
length_roomier [] (n ∷ ns) are = absurd are
length_roomier (o ∷ os) [] are = absurd are
length_roomier (o ∷ os) (n ∷ ns) are = let rest = length_roomier os ns are.1 in omega (arith, rest)

pub least_roomier : (most more : ℕ) (old now : List UniqueSlots) → most ≤ more → AreRoomier old now → least_most most old ≤ least_most more now
least_roomier most more [] [] larger are = larger
least_roomier most more [] (n ∷ ns) larger are = absurd are
least_roomier most more (o ∷ os) [] larger are = absurd are
least_roomier most more (o ∷ os) (n ∷ ns) larger are = let rest = least_roomier most more os ns larger are.1 in omega (arith, rest, are.0.most)

pub least_from : (number most : ℕ) (indexes : List UniqueSlots) → number ≤ most → AllByRecursion (λ index. number ≤ index.most) indexes → number ≤ least_most most indexes
least_from number most [] fits all = fits
least_from number most (index ∷ indexes) fits all = let rest = least_from number most indexes fits all.1 in let first = all.0 in omega (arith, rest, first)

-- the same slots with more room
module _ (slots now : Slotted) (order after : Paged) (rows : now.rows ≡ slots.rows) (free : now.free ≡ slots.free) (most : slots.most ≤ now.most) (items : after.items ≡ order.items) (more : order.most ≤ after.most) where
  indexed_roomier : (old indexes : List UniqueSlots) → AreRoomier old indexes → AllByRecursion (IsIndexOf slots order) old → AllByRecursion (IsIndexOf now after) indexes
  indexed_roomier [] [] are is = tt
  indexed_roomier [] (n ∷ ns) are is = absurd are
  indexed_roomier (o ∷ os) [] are is = absurd are
  indexed_roomier (o ∷ os) (n ∷ ns) are is = (rw (rows, items, are.0.columns, are.0.items) is.0, indexed_roomier os ns are.1 is.1)

  pub room_roomier : (old indexes : List UniqueSlots) → AreRoomier old indexes → room_of slots order old ≤ room_of now after indexes
  room_roomier old indexes are = least_roomier (min slots.most order.most) (min now.most after.most) old indexes (omega (arith, most, more)) are

  pub stored_roomier : (old indexes : List UniqueSlots) → AreRoomier old indexes → now.most ≤ 4294967295 → IsStored slots order old → IsStored now after indexes
  stored_roomier old indexes are few is =
      let long = ap length items in
      let room = room_roomier old indexes are in
      record {
        held = λ slot there. rw rows (is.held slot (rw items at there));
        indexed = indexed_roomier old indexes are is.indexed;
        number = rw (rows, free, items) is.number;
        fits = omega (arith, long, room, is.fits);
        few = few;
      }
