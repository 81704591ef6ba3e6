-- Entries with falling numbers: which number has one, and where it stands.
use Rattle.std.proofs.Common.{◌≡◌, ◌≢◌, ℕ, zero, suc, ◌+◌, ◌-◌, ◌<◌, ◌≤◌, ◌==◌, Bool, true, false, cond, List, [], ◌∷◌, ◌++◌, length, reverse, get_or, Option, Some, None, Result, Ok, Err, IfOk, IfErr, IfSome, refl, sym, ap, ◌∙◌, inl, inr, arith}
use Rattle.std.specs.Option.{option_map}
use Rattle.std.specs.Prelude.{nat_le, slice_get}
use Rattle.std.specs.List.{filter, AllByRecursion}
use Rattle.std.specs.Result.{result_ok}
use Rattle.std.specs.Ordering.{nat_cmp}
use Rattle.std.specs.Cmp.{nat_cmp_is}
use Rattle.std.specs.declared.cmp.Ordering.TheVariants.{Less, Greater}
use Rattle.std.proofs.lemmas.Bool.{cases_lt}
use Rattle.std.proofs.lemmas.Bool.Decides.{nat_tests}
use Rattle.std.proofs.lemmas.Cmp.{ranked}
use Rattle.std.proofs.lemmas.List.{reverse-append, reverse-reverse}
use Rattle.std.proofs.lemmas.List.Elements.{filter-append}
use Rattle.std.proofs.lemmas.Option.{slice_get-get_or, slice_get_within, get_or_from_slice_get}
use Rattle.rep_lists.specs.Rising.{IsRising, IsThere, IsGap}
use Rattle.rep_lists.proofs.Each.{each_push}
use Rattle.deferred_queue.specs.declared.entries.Entry.{Entry}
use Rattle.deferred_queue.specs.Streams.{at_position}
use Rattle.deferred_queue.specs.QueueState.{FallsFrom, Falls, entry_of, position_of}
use Rattle.deferred_queue.proofs.Sites.{eq_true, eq_false, eq_false_above}
use Rattle.deferred_queue.proofs.Positions.{at_position-0, at_position-reverse, found_position}

-- a number is at most a greater one
pub le_true : (a b : ℕ) → a ≤ b → nat_le a b ≡ true
le_true a b le = grind (arith, nat_tests)

le_false : (a b : ℕ) → b < a → nat_le a b ≡ false
le_false a b less = grind (arith, nat_tests)

module _ {X : Type 0} where
  -- a number above all has no entry
  pub entry_of-above : (bound number : ℕ) (entries : List (Entry X)) → FallsFrom bound entries → bound < number → entry_of number entries ≡ None
  entry_of-above bound number [] falls above = refl
  entry_of-above bound number (e ∷ es) falls above = rw (eq_false e.number number (omega (arith, falls.1, above))) (entry_of-above (e.number - 1) number es falls.2 (omega (arith, falls.1, above)))

  -- so one with an entry is within the bound
  entry_of-within : (bound number : ℕ) (entries : List (Entry X)) (e : Entry X) → FallsFrom bound entries → entry_of number entries ≡ Some e → number ≤ bound
  entry_of-within bound number entries e falls found = elim (cases_lt bound number) [
    | inl above ↦ let none : entry_of number entries ≡ None = entry_of-above bound number entries falls above in absurd (cc)
    | inr within ↦ within
  ]

  -- an entry's number lies within the bound
  pub number_within : (bound position : ℕ) (entries : List (Entry X)) (entry : Entry X) → FallsFrom bound entries → at_position position entries ≡ Some entry → (1 ≤ entry.number) × (entry.number ≤ bound)
  number_within bound position [] entry falls found = absurd (cc found)
  number_within bound position (e ∷ es) entry falls found = go (position == length es + 1) (number_within (e.number - 1) position es entry falls.2) found
    where
      go : (b : Bool) → (at_position position es ≡ Some entry → (1 ≤ entry.number) × (entry.number ≤ e.number - 1)) → cond b (Some e) (at_position position es) ≡ Some entry → (1 ≤ entry.number) × (entry.number ≤ bound)
      go true later there = let same : e ≡ entry = cc there in rw (← same) (falls.0, falls.1)
      go false later there = ((later there).0, omega (arith, (later there).1, falls.1))

  -- the bound may be higher
  pub FallsFrom-higher : (bound higher : ℕ) (entries : List (Entry X)) → bound ≤ higher → FallsFrom bound entries → FallsFrom higher entries
  FallsFrom-higher bound higher [] le falls = tt
  FallsFrom-higher bound higher (e ∷ es) le falls = (falls.0, omega (arith, le, falls.1), falls.2)

  -- some of the entries fall too
  pub FallsFrom-filter : (test : Entry X → Bool) (bound : ℕ) (entries : List (Entry X)) → FallsFrom bound entries → FallsFrom bound (filter test entries)
  FallsFrom-filter test bound [] falls = tt
  FallsFrom-filter test bound (e ∷ es) falls = go (test e) (FallsFrom-filter test (e.number - 1) es falls.2)
    where
      go : (b : Bool) → FallsFrom (e.number - 1) (filter test es) → FallsFrom bound (cond b (e ∷ filter test es) (filter test es))
      go true later = (falls.0, falls.1, later)
      go false later = FallsFrom-higher (e.number - 1) bound (filter test es) (omega (arith, falls.1)) later

  -- of entries that were chosen by their numbers, one has the number where it was chosen
  pub entry_of-filter : (test : ℕ → Bool) (number : ℕ) (entries : List (Entry X)) → entry_of number (filter (λ e. test e.number) entries) ≡ cond (test number) (entry_of number entries) None
  entry_of-filter test number [] = go (test number)
    where
      go : (b : Bool) → None ≡ cond {A = Option (Entry X)} b None None
      go true = refl
      go false = refl
  entry_of-filter test number (e ∷ es) = go (test e.number) refl (e.number == number) refl (entry_of-filter test number es)
    where
      go : (chosen : Bool) → test e.number ≡ chosen → (here : Bool) → (e.number == number) ≡ here → entry_of number (filter (λ e. test e.number) es) ≡ cond (test number) (entry_of number es) None
          → entry_of number (cond chosen (e ∷ filter (λ e. test e.number) es) (filter (λ e. test e.number) es)) ≡ cond (test number) (cond here (Some e) (entry_of number es)) None
      go true is true at later = let same : e.number ≡ number = grind (arith, nat_tests) in let yes : test number ≡ true = rw (← same) is in rw (at, yes) refl
      go true is false at later = rw at later
      go false is true at later = let same : e.number ≡ number = grind (arith, nat_tests) in let no_more : test number ≡ false = rw (← same) is in rw no_more at later ∙ rw no_more refl
      go false is false at later = later

  -- the entries with numbers up to one
  abbrev pub up_to : ℕ → List (Entry X) → List (Entry X)
  up_to number [] = []
  up_to number (e ∷ es) = cond (nat_le e.number number) (e ∷ es) (up_to number es)

  up_to-all : (bound number : ℕ) (entries : List (Entry X)) → FallsFrom bound entries → bound ≤ number → up_to number entries ≡ entries
  up_to-all bound number [] falls le = refl
  up_to-all bound number (e ∷ es) falls le = rw (le_true e.number number (omega (arith, falls.1, le))) refl

  -- they fall from it
  pub FallsFrom-up_to : (bound number : ℕ) (entries : List (Entry X)) → FallsFrom bound entries → FallsFrom number (up_to number entries)
  FallsFrom-up_to bound number [] falls = tt
  FallsFrom-up_to bound number (e ∷ es) falls = go (nat_le e.number number) refl (FallsFrom-up_to (e.number - 1) number es falls.2)
    where
      go : (b : Bool) → nat_le e.number number ≡ b → FallsFrom number (up_to number es) → FallsFrom number (cond b (e ∷ es) (up_to number es))
      go true is later = (falls.0, grind (arith, nat_tests), falls.2)
      go false is later = later

  -- and have those of the lower numbers
  pub entry_of-up_to : (earlier number : ℕ) (entries : List (Entry X)) → earlier ≤ number → entry_of earlier (up_to number entries) ≡ entry_of earlier entries
  entry_of-up_to earlier number [] le = refl
  entry_of-up_to earlier number (e ∷ es) le = go (nat_le e.number number) refl (entry_of-up_to earlier number es le)
    where
      go : (b : Bool) → nat_le e.number number ≡ b → entry_of earlier (up_to number es) ≡ entry_of earlier es → entry_of earlier (cond b (e ∷ es) (up_to number es)) ≡ cond (e.number == earlier) (Some e) (entry_of earlier es)
      go true is later = refl
      go false is later =
          let above : number < e.number = grind (arith, nat_tests) in
          rw (eq_false_above e.number earlier (omega (arith, above, le))) later

  -- the position of a number is the one behind the lower numbers
  pub position_of-up_to : (bound number : ℕ) (entries : List (Entry X)) → 1 ≤ number → FallsFrom bound entries
      → position_of number entries ≡ option_map (λ (e : Entry X). length (up_to (number - 1) entries) + 1) (entry_of number entries)
  position_of-up_to bound number [] from_one falls = refl
  position_of-up_to bound number (e ∷ es) from_one falls = go (e.number == number) refl (position_of-up_to (e.number - 1) number es from_one falls.2)
    where
      later_is : (found : Option (Entry X)) → entry_of number es ≡ found
          → option_map (λ (x : Entry X). length (up_to (number - 1) es) + 1) found ≡ option_map (λ (x : Entry X). length (up_to (number - 1) (e ∷ es)) + 1) found
      later_is None is = refl
      later_is (Some x) is =
          let below : number ≤ e.number - 1 = entry_of-within (e.number - 1) number es x falls.2 is in
          rw (le_false e.number (number - 1) (omega (arith, below, from_one))) refl

      go : (b : Bool) → (e.number == number) ≡ b → position_of number es ≡ option_map (λ (x : Entry X). length (up_to (number - 1) es) + 1) (entry_of number es)
          → cond b (Some (length es + 1)) (position_of number es) ≡ option_map (λ (x : Entry X). length (up_to (number - 1) (e ∷ es)) + 1) (cond b (Some e) (entry_of number es))
      go true is later =
          let same : e.number ≡ number = grind (arith, nat_tests) in
          rw (le_false e.number (number - 1) (omega (arith, same, from_one)), up_to-all (e.number - 1) (number - 1) es falls.2 (omega (arith, same))) refl
      go false is later = later ∙ later_is (entry_of number es) refl

  -- an entry's number is found at the entry's position
  pub position_of-at : (bound position : ℕ) (entries : List (Entry X)) (e : Entry X) → FallsFrom bound entries → at_position position entries ≡ Some e
      → (position_of e.number entries ≡ Some position) × (entry_of e.number entries ≡ Some e)
  position_of-at bound position [] e falls found = absurd (cc found)
  position_of-at bound position (x ∷ xs) e falls found = go (position == length xs + 1) refl (position_of-at (x.number - 1) position xs e falls.2) found
    where
      Goal : Type 0
      Goal = (position_of e.number (x ∷ xs) ≡ Some position) × (entry_of e.number (x ∷ xs) ≡ Some e)

      go : (b : Bool) → (position == length xs + 1) ≡ b → (at_position position xs ≡ Some e → (position_of e.number xs ≡ Some position) × (entry_of e.number xs ≡ Some e))
          → cond b (Some x) (at_position position xs) ≡ Some e → Goal
      go true is later there =
          let same : x ≡ e = cc there in
          let here : position ≡ length xs + 1 = grind (arith, nat_tests) in
          rw (← same, here, eq_true x.number x.number refl) (refl, refl)
      go false is later there =
          let below = (number_within (x.number - 1) position xs e falls.2 there).1 in
          rw (eq_false_above x.number e.number (omega (arith, below, falls.0))) (later there)

  -- a number that no entry has is found nowhere
  position_of-none : (number : ℕ) (entries : List (Entry X)) → ((position : ℕ) (e : Entry X) → at_position position entries ≡ Some e → e.number ≢ number)
      → (position_of number entries ≡ None) × (entry_of number entries ≡ None)
  position_of-none number [] apart = (refl, refl)
  position_of-none number (x ∷ xs) apart = rw here (position_of-none number xs later)
    where
      at_end : at_position (length xs + 1) (x ∷ xs) ≡ Some x
      at_end = rw (eq_true (length xs + 1) (length xs + 1) refl) refl

      here : (x.number == number) ≡ false
      here = let other = apart (length xs + 1) x at_end in grind (arith, nat_tests)

      later : (position : ℕ) (e : Entry X) → at_position position xs ≡ Some e → e.number ≢ number
      later position e found =
          let before = (found_position position xs e found).1 in
          apart position e (rw (eq_false position (length xs + 1) (omega (arith, before))) found)

  -- where no position is found, there is no entry
  pub entry_of-unplaced : (number : ℕ) (entries : List (Entry X)) → position_of number entries ≡ None → entry_of number entries ≡ None
  entry_of-unplaced number [] none = refl
  entry_of-unplaced number (x ∷ xs) none = go (x.number == number) (entry_of-unplaced number xs) none
    where
      go : (b : Bool) → (position_of number xs ≡ None → entry_of number xs ≡ None) → cond b (Some (length xs + 1)) (position_of number xs) ≡ None → cond b (Some x) (entry_of number xs) ≡ None
      go true later none = absurd (cc none)
      go false later none = later none

  -- and the other way round
  pub position_of-absent : (number : ℕ) (entries : List (Entry X)) → entry_of number entries ≡ None → position_of number entries ≡ None
  position_of-absent number [] none = refl
  position_of-absent number (x ∷ xs) none = go (x.number == number) (position_of-absent number xs) none
    where
      go : (b : Bool) → (entry_of number xs ≡ None → position_of number xs ≡ None) → cond b (Some x) (entry_of number xs) ≡ None → cond b (Some (length xs + 1)) (position_of number xs) ≡ None
      go true later none = absurd (cc none)
      go false later none = later none

  -- where a position is found, the entry stands there
  pub entry_of-placed : (number position : ℕ) (entries : List (Entry X)) → position_of number entries ≡ Some position → entry_of number entries ≡ at_position position entries
  entry_of-placed number position [] found = absurd (cc found)
  entry_of-placed number position (x ∷ xs) found = go (x.number == number) (entry_of-placed number position xs) found
    where
      within : (p : ℕ) (ys : List (Entry X)) → position_of number ys ≡ Some p → p ≤ length ys
      within p [] found = absurd (cc found)
      within p (y ∷ ys) found = step (y.number == number) (within p ys) found
        where
          step : (b : Bool) → (position_of number ys ≡ Some p → p ≤ length ys) → cond b (Some (length ys + 1)) (position_of number ys) ≡ Some p → p ≤ suc (length ys)
          step true later there = let same : length ys + 1 ≡ p = cc there in omega (arith, same)
          step false later there = omega (arith, later there)

      go : (b : Bool) → (position_of number xs ≡ Some position → entry_of number xs ≡ at_position position xs) → cond b (Some (length xs + 1)) (position_of number xs) ≡ Some position
          → cond b (Some x) (entry_of number xs) ≡ at_position position (x ∷ xs)
      go true later there = let same : length xs + 1 ≡ position = cc there in rw (eq_true position (length xs + 1) (sym same)) refl
      go false later there = rw (eq_false position (length xs + 1) (omega (arith, within position xs there))) (later there)

  -- the chosen ones of a reversed list
  pub filter-reverse : (test : Entry X → Bool) (xs : List (Entry X)) → reverse (filter test xs) ≡ filter test (reverse xs)
  filter-reverse test [] = refl
  filter-reverse test (x ∷ xs) = rw (reverse-append (x ∷ []) xs, filter-append test (reverse xs) (x ∷ [])) (go (test x) (filter-reverse test xs))
    where
      go : (b : Bool) → reverse (filter test xs) ≡ filter test (reverse xs) → reverse (cond b (x ∷ filter test xs) (filter test xs)) ≡ filter test (reverse xs) ++ cond b (x ∷ []) []
      go true later = reverse-append (x ∷ []) (filter test xs) ∙ ap (λ t. t ++ x ∷ []) later
      go false later = later ∙ sym (nothing_behind (filter test (reverse xs)))
        where
          nothing_behind : (ys : List (Entry X)) → ys ++ [] ≡ ys
          nothing_behind [] = refl
          nothing_behind (y ∷ ys) = ap (λ t. y ∷ t) (nothing_behind ys)

  below_each : (bound number : ℕ) (entries : List (Entry X)) → FallsFrom bound entries → bound < number → AllByRecursion (λ e. nat_cmp e.number number ≡ Less) (reverse entries)
  below_each bound number [] falls less = tt
  below_each bound number (e ∷ es) falls less =
      rw (reverse-append (e ∷ []) es)
      (each_push (λ x. nat_cmp x.number number ≡ Less) (reverse es) e (below_each (e.number - 1) number es falls.2 (omega (arith, falls.1, less)))
      (sym (nat_cmp_is e.number number Less (omega (arith, falls.1, less)))))

  rising_push : (xs : List (Entry X)) (y : Entry X) → IsRising (λ a b. nat_cmp a.number b.number) xs → AllByRecursion (λ x. nat_cmp x.number y.number ≡ Less) xs
      → IsRising (λ a b. nat_cmp a.number b.number) (xs ++ y ∷ [])
  rising_push [] y rising below = (tt, tt)
  rising_push (x ∷ xs) y rising below = (each_push (λ z. nat_cmp x.number z.number ≡ Less) xs y rising.0 below.0, rising_push xs y rising.1 below.1)

  rising_reverse : (bound : ℕ) (entries : List (Entry X)) → FallsFrom bound entries → IsRising (λ a b. nat_cmp a.number b.number) (reverse entries)
  rising_reverse bound [] falls = tt
  rising_reverse bound (e ∷ es) falls =
      rw (reverse-append (e ∷ []) es) (rising_push (reverse es) e (rising_reverse (e.number - 1) es falls.2) (below_each (e.number - 1) e.number es falls.2 (omega (arith, falls.0))))

  -- with the oldest first, the numbers rise
  pub rising_from_falls : (xs : List (Entry X)) → Falls (reverse xs) → IsRising (λ a b. nat_cmp a.number b.number) xs
  rising_from_falls xs falls = rw (reverse-reverse xs) at (rising_reverse falls.0 (reverse xs) falls.1)

  -- so a search by number finds the position
  pub searched_position : (number : ℕ) (xs : List (Entry X)) (r : Result ℕ ℕ) → Falls (reverse xs) → IfOk r (IsThere (λ e. nat_cmp e.number number) xs) → IfErr r (IsGap (λ e. nat_cmp e.number number) xs)
      → option_map (λ (place : ℕ). place + 1) (result_ok r) ≡ position_of number (reverse xs)
  searched_position number [] (Ok place) falls there gap = absurd (omega (arith, there.in_range))
  searched_position number (x ∷ xs) (Ok place) falls there gap =
      let e = get_or (x ∷ xs) place x in
      let same : e.number ≡ number = rw (there.here x) at (ranked e.number number (nat_cmp e.number number) refl) in
      let next : place + 1 ≡ suc place = omega arith in
      let at_place : at_position (place + 1) (reverse (x ∷ xs)) ≡ Some e = rw next (at_position-reverse (x ∷ xs) place ∙ slice_get-get_or (x ∷ xs) place x there.in_range) in
      sym (rw same at (position_of-at falls.0 (place + 1) (reverse (x ∷ xs)) e falls.1 at_place).0)
  searched_position number xs (Err place) falls there gap = sym (position_of-none number (reverse xs) apart).0
    where
      cases : (k : ℕ) (e : Entry X) → slice_get xs k ≡ Some e → e.number ≢ number
      cases k e found = λ same.
          let within = slice_get_within xs k e found in
          let here : get_or xs k e ≡ e = get_or_from_slice_get xs k e e found in
          elim (cases_lt k place) [
            | inl before ↦ let less : nat_cmp e.number number ≡ Less = rw here at (gap.before k e (omega arith) before) in omega (arith, rw less at (ranked e.number number (nat_cmp e.number number) refl), same)
            | inr behind ↦ let more : nat_cmp e.number number ≡ Greater = rw here at (gap.behind k e behind within) in omega (arith, rw more at (ranked e.number number (nat_cmp e.number number) refl), same)
          ]

      apart : (position : ℕ) (e : Entry X) → at_position position (reverse xs) ≡ Some e → e.number ≢ number
      apart zero e found = absurd (let none = at_position-0 (reverse xs) in cc)
      apart (suc k) e found = cases k e (sym (at_position-reverse xs k) ∙ found)

  -- within the list
  pub searched_within : (number : ℕ) (xs : List (Entry X)) (r : Result ℕ ℕ) → IfOk r (IsThere (λ e. nat_cmp e.number number) xs) → IfSome (result_ok r) (λ (place : ℕ). place < length xs)
  searched_within number xs (Ok place) there = there.in_range
  searched_within number xs (Err place) there = tt

  -- and what stands there is the entry
  pub entry_of-found : (number place : ℕ) (xs : List (Entry X)) (e : Entry X) → Some (place + 1) ≡ position_of number (reverse xs) → place < length xs → e ≡ get_or xs place e → entry_of number (reverse xs) ≡ Some e
  entry_of-found number place xs e found within is =
      let next : place + 1 ≡ suc place = omega arith in
      entry_of-placed number (place + 1) (reverse xs) (sym found) ∙ rw next (at_position-reverse xs place ∙ slice_get-get_or xs place e within ∙ ap Some (sym is))
