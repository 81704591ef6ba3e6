-- Values that are changed one after another, each in its place, as a part of each tells.
use Rattle.std.proofs.Common.{◌≡◌, ℕ, zero, suc, ◌+◌, ◌<◌, List, [], ◌∷◌, ◌++◌, length, get_or, set, map, take, drop, refl, sym, ap, ◌∙◌, arith}
use Rattle.std.proofs.lemmas.List.{map-set, length-map}
use Rattle.std.proofs.Math.Seq.{map-set_same}
use Rattle.rep_lists.proofs.InPlace.{changed_more}

module _ {X Y : Type 0} (part : X → Y) where
  -- a part that stays
  pub part_stays : (now : List X) (i : ℕ) (d new : X) → part new ≡ part (get_or now i d) → map part (set now i new) ≡ map part now
  part_stays now i d new same = map-set_same part now i new d same

  -- the part at a place
  pub part_at : (xs : List X) (i : ℕ) (d : X) → get_or (map part xs) i (part d) ≡ part (get_or xs i d)
  part_at [] i d = refl
  part_at (x ∷ xs) zero d = refl
  part_at (x ∷ xs) (suc i) d = part_at xs i d

  -- the next part is changed
  pub part_changes : (f : Y → Y) (initial now : List X) (i : ℕ) (d new : X) → i < length initial → map part now ≡ map f (take i (map part initial)) ++ drop i (map part initial) → part new ≡ f (part (get_or now i d))
      → map part (set now i new) ≡ map f (take (i + 1) (map part initial)) ++ drop (i + 1) (map part initial)
  part_changes f initial now i d new within done changed = rw (map-set part now i new)
      (changed_more f (map part initial) (map part now) i (part d) (part new) (omega (arith, length-map initial part, within)) done (changed ∙ ap f (sym (part_at now i d))))

  -- as many values as have the same parts
  pub same_length : (xs ys : List X) → map part xs ≡ map part ys → length xs ≡ length ys
  same_length xs ys same = sym (length-map xs part) ∙ ap length same ∙ length-map ys part

  -- or changed ones
  pub changed_length : (f : Y → Y) (xs ys : List X) → map part xs ≡ map f (map part ys) → length xs ≡ length ys
  changed_length f xs ys changed = sym (length-map xs part) ∙ ap length changed ∙ length-map (map part ys) f ∙ length-map ys part
