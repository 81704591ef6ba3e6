-- Where a number stands in the entries of a stream.
use Rattle.std.proofs.Common.{◌≡◌, ℕ, ◌+◌, ◌==◌, Bool, true, false, cond, List, [], ◌∷◌, length, Some, None, refl}
use Rattle.deferred_queue.specs.declared.entries.Entry.{Entry}
use Rattle.deferred_queue.specs.QueueState.{entry_of, position_of, place_in}

-- a number without a position has no place
pub place_in-none : (number : ℕ) (entries : List (Entry ℕ)) → position_of number entries ≡ None → place_in number entries ≡ None
place_in-none number [] none = refl
place_in-none number (e ∷ es) none = go (e.number == number) (place_in-none number es) none
  where
    go : (b : Bool) → (position_of number es ≡ None → place_in number es ≡ None) → cond b (Some (length es + 1)) (position_of number es) ≡ None
        → cond b (Some (record { position = length es + 1; dep = e.value })) (place_in number es) ≡ None
    go true later none = absurd (cc none)
    go false later none = later none

-- one with a position has it as its place, with the dependency of its entry
pub place_in-some : (number position : ℕ) (entries : List (Entry ℕ)) (e : Entry ℕ) → position_of number entries ≡ Some position → entry_of number entries ≡ Some e
    → place_in number entries ≡ Some (record { position = position; dep = e.value })
place_in-some number position [] e placed found = absurd (cc found)
place_in-some number position (x ∷ xs) e placed found = go (x.number == number) (place_in-some number position xs e) placed found
  where
    go : (b : Bool) → (position_of number xs ≡ Some position → entry_of number xs ≡ Some e → place_in number xs ≡ Some (record { position = position; dep = e.value }))
        → cond b (Some (length xs + 1)) (position_of number xs) ≡ Some position → cond b (Some x) (entry_of number xs) ≡ Some e
        → cond b (Some (record { position = length xs + 1; dep = x.value })) (place_in number xs) ≡ Some (record { position = position; dep = e.value })
    go true later placed found = let same : x ≡ e = cc found in let here : length xs + 1 ≡ position = cc placed in rw (← same, here) refl
    go false later placed found = later placed found
