-- The priority groups with one of a name among them.
use Rattle.std.proofs.Common.{◌≡◌, ◌+◌, ◌<◌, ◌≤◌, Bool, true, false, not, cond, Option, List, [], ◌∷◌, ◌++◌, length, take, Some, None, ℕ, refl, sym, ap, ◌∙◌, arith}
use Rattle.std.specs.Prelude.{IsSome, is_some, nat_lt, option_to_list}
use Rattle.std.specs.List.{find, position, position_or_len}
use Rattle.std.proofs.lemmas.Bool.{ltb-true, ltb-false, false≢true}
use Rattle.std.proofs.lemmas.List.{length-append}
use Rattle.std.proofs.Math.Seq.{take-append_seam}
use Rattle.rep_schema.specs.declared.schema.PriorityGroup.{PriorityGroup}
use Rattle.rep_schema.specs.Named.{is_priority}
use Rattle.rep_values.specs.Name.{same_bytes}
use Rattle.rep_declare.specs.Additions.{with_priority, with_changed}

module _ (name : List ℕ) where
  -- one is there: nothing is added
  pub with_priority-there : (groups : List PriorityGroup) (group : PriorityGroup) → find (is_priority name) groups ≡ Some group → with_priority name groups ≡ groups
  with_priority-there [] group found = absurd (false≢true (ap is_some found))
  with_priority-there (g ∷ gs) group found = at (is_priority name g) found (with_priority-there gs group) where
    at : (b : Bool) → cond b (Some g) (find (is_priority name) gs) ≡ Some group → (find (is_priority name) gs ≡ Some group → with_priority name gs ≡ gs)
        → cond b (g ∷ gs) (g ∷ with_priority name gs) ≡ g ∷ gs
    at true is later = refl
    at false is later = ap (λ xs. g ∷ xs) (later is)

  -- none is there: an empty one is added behind the others
  pub with_priority-new : (groups : List PriorityGroup) → find (is_priority name) groups ≡ None → with_priority name groups ≡ groups ++ record { name = name; levels = [] } ∷ []
  with_priority-new [] found = refl
  with_priority-new (g ∷ gs) found = at (is_priority name g) found (with_priority-new gs) where
    at : (b : Bool) → cond b (Some g) (find (is_priority name) gs) ≡ None
        → (find (is_priority name) gs ≡ None → with_priority name gs ≡ gs ++ record { name = name; levels = [] } ∷ [])
        → cond b (g ∷ gs) (g ∷ with_priority name gs) ≡ g ∷ gs ++ record { name = name; levels = [] } ∷ []
    at true is later = absurd (false≢true (sym (ap is_some is)))
    at false is later = ap (λ xs. g ∷ xs) (later is)

  -- where none is there, what is changed is the one that is added
  pub with_changed-new : (change : PriorityGroup → PriorityGroup) → same_bytes name name ≡ true → (groups : List PriorityGroup) → find (is_priority name) groups ≡ None
      → with_changed (is_priority name) change (with_priority name groups) ≡ groups ++ change (record { name = name; levels = [] }) ∷ []
  with_changed-new change same [] found = rw same refl
  with_changed-new change same (g ∷ gs) found = at (is_priority name g) refl found (with_changed-new change same gs) where
    at : (b : Bool) → is_priority name g ≡ b → cond b (Some g) (find (is_priority name) gs) ≡ None
        → (find (is_priority name) gs ≡ None → with_changed (is_priority name) change (with_priority name gs) ≡ gs ++ change (record { name = name; levels = [] }) ∷ [])
        → with_changed (is_priority name) change (cond b (g ∷ gs) (g ∷ with_priority name gs)) ≡ g ∷ gs ++ change (record { name = name; levels = [] }) ∷ []
    at true test is later = absurd (false≢true (sym (ap is_some is)))
    at false test is later = rw test (ap (λ xs. g ∷ xs) (later is))

  placed_at : (groups : List PriorityGroup) → position_or_len (is_priority name) groups < length groups → with_priority name groups ≡ groups
  placed_at [] within = absurd (omega (arith, within))
  placed_at (g ∷ gs) within = at (is_priority name g) within (placed_at gs) where
    at : (b : Bool) → cond (not b) (1 + position_or_len (is_priority name) gs) 0 < length (g ∷ gs)
        → (position_or_len (is_priority name) gs < length gs → with_priority name gs ≡ gs) → cond b (g ∷ gs) (g ∷ with_priority name gs) ≡ g ∷ gs
    at true within later = refl
    at false within later = let inside : position_or_len (is_priority name) gs < length gs = omega (arith, within) in ap (λ xs. g ∷ xs) (later inside)

  absent_past : (groups : List PriorityGroup) → length groups ≤ position_or_len (is_priority name) groups → find (is_priority name) groups ≡ None
  absent_past [] past = refl
  absent_past (g ∷ gs) past = at (is_priority name g) past (absent_past gs) where
    at : (b : Bool) → length (g ∷ gs) ≤ cond (not b) (1 + position_or_len (is_priority name) gs) 0
        → (length gs ≤ position_or_len (is_priority name) gs → find (is_priority name) gs ≡ None) → cond b (Some g) (find (is_priority name) gs) ≡ None
    at true past later = absurd (omega (arith, past))
    at false past later = let behind : length gs ≤ position_or_len (is_priority name) gs = omega (arith, past) in later behind

  -- the same by the place: one is there
  pub with_priority-placed : (groups : List PriorityGroup) (place : ℕ) → position (is_priority name) groups ≡ Some place → with_priority name groups ≡ groups
  with_priority-placed groups place found = at (nat_lt (position_or_len (is_priority name) groups) (length groups)) refl found where
    at : (b : Bool) → nat_lt (position_or_len (is_priority name) groups) (length groups) ≡ b → cond b (Some (position_or_len (is_priority name) groups)) None ≡ Some place → with_priority name groups ≡ groups
    at true is found = placed_at groups (ltb-true _ _ is)
    at false is found = absurd (false≢true (ap is_some found))

  -- none is there
  pub find-unplaced : (groups : List PriorityGroup) → position (is_priority name) groups ≡ None → find (is_priority name) groups ≡ None
  find-unplaced groups found = at (nat_lt (position_or_len (is_priority name) groups) (length groups)) refl found where
    at : (b : Bool) → nat_lt (position_or_len (is_priority name) groups) (length groups) ≡ b → cond b (Some (position_or_len (is_priority name) groups)) None ≡ None → find (is_priority name) groups ≡ None
    at true is found = absurd (false≢true (ap is_some (sym found)))
    at false is found = absent_past groups (ltb-false _ _ is)

-- what is left without the last value
pub without_last : {X : Type 0} (xs left : List X) (last : X) (taken : Option X) → xs ++ last ∷ [] ≡ left ++ option_to_list taken → (0 < length (xs ++ last ∷ []) → IsSome taken) → xs ≡ left
without_last xs left last (Some one) is some =
    let long = length-append xs (last ∷ []) in
    let left_long = length-append left (one ∷ []) in
    let same = ap length is in
    let count : length xs ≡ length left = omega (arith, long, left_long, same) in
    sym (take-append_seam xs (last ∷ [])) ∙ (ap (take (length xs)) is ∙ (rw count (take-append_seam left (one ∷ []))))
without_last xs left last None is some = absurd (false≢true (some (let long = length-append xs (last ∷ []) in omega (arith, long))))
