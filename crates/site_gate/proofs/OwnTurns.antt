-- Where own turns stand, and how many a join has.
use Rattle.std.proofs.Common.{◌≡◌, ℕ, suc, ◌+◌, ◌≤◌, List, [], ◌∷◌, ◌++◌, Bool, true, false, cond, ◌||◌, map, length, get_or, Some, refl, ap, ◌∙◌, subst, append_assoc, arith, length-append}
use Rattle.std.specs.Prelude.{slice_get, nat_lt, if◌then◌else◌}
use Rattle.std.specs.List.{filter, range_with_len}
use Rattle.std.proofs.lemmas.List.{length-map}
use Rattle.std.proofs.lemmas.Bool.{ltb-true, ltb-false}
use Rattle.site_gate.specs.Seen.{turns_in, marks_in, own_turns, is_own, with_marks, joined}
use Rattle.site_gate.specs.Laws.{OwnTurnsStand, JoinsKeepOwnTurns}

not_both : (b : Bool) → b ≡ true → b ≡ false → ⊥
not_both b is not_so = cc

-- what is so of one isn't so of the other, either way round
other_way : (a b : Bool) → (a ≡ true → b ≡ false) → b ≡ true → a ≡ false
other_way true b apart e = absurd (not_both b e (apart refl))
other_way false b apart e = refl

abbrev one_of : Bool → ℕ
one_of b = cond b 1 0

abbrev count_true : List Bool → ℕ
count_true [] = 0
count_true (m ∷ marks) = one_of m + count_true marks

one_of_either : (a b : Bool) → (a ≡ true → b ≡ false) → one_of (a || b) ≡ one_of a + one_of b
one_of_either true b apart = let no = ap one_of (apart refl) in omega arith
one_of_either false b apart = omega arith

module _ {U : Type 0} where
  own_here : (before : List (U × Bool)) (x : U × Bool) (xs : List (U × Bool)) → is_own (before ++ x ∷ xs) (length before) ≡ x.1
  own_here [] x xs = refl
  own_here (b ∷ before) x xs = own_here before x xs

  turn_here : (before : List (U × Bool)) (x : U × Bool) (xs : List (U × Bool)) → slice_get (turns_in (before ++ x ∷ xs)) (length before) ≡ Some x.0
  turn_here [] x xs = refl
  turn_here (b ∷ before) x xs = turn_here before x xs

  abbrev StandFrom : List (U × Bool) → ℕ → List (U × Bool) → Type 0
  StandFrom seen place xs = map (slice_get (turns_in seen)) (filter (is_own seen) (range_with_len place (length xs))) ≡ map Some (own_turns xs)

  stand_from : (before xs : List (U × Bool)) → StandFrom (before ++ xs) (length before) xs
  stand_from before [] = refl
  stand_from before (x ∷ xs) =
      let seen : List (U × Bool) = before ++ x ∷ xs in
      let places : List ℕ = filter (is_own seen) (range_with_len (length before + 1) (length xs)) in
      let rest : StandFrom seen (length before + 1) xs =
      subst (λ n. StandFrom seen n xs) (length-append before (x ∷ [])) (subst (λ l. StandFrom l (length (before ++ x ∷ [])) xs) (append_assoc before (x ∷ []) xs) (stand_from (before ++ x ∷ []) xs)) in
      ap (λ b. map (slice_get (turns_in seen)) (cond b (length before ∷ places) places)) (own_here before x xs)
      ∙ elim x.1 as (λ b. map (slice_get (turns_in seen)) (cond b (length before ∷ places) places) ≡ map Some (turns_in (cond b (x ∷ filter (λ e. e.1) xs) (filter (λ e. e.1) xs)))) [
        | true ↦ λ i. turn_here before x xs i ∷ rest i
        | false ↦ rest
      ]

  pub own_turns_stand : OwnTurnsStand U
  own_turns_stand seen = stand_from [] seen

  length-own_turns : (xs : List (U × Bool)) → length (own_turns xs) ≡ count_true (marks_in xs)
  length-own_turns [] = refl
  length-own_turns (x ∷ xs) = elim x.1 as (λ b. length (turns_in (cond b (x ∷ filter (λ e. e.1) xs) (filter (λ e. e.1) xs))) ≡ one_of b + count_true (marks_in xs)) [
    | true ↦ let rest = length-own_turns xs in omega arith
    | false ↦ let rest = length-own_turns xs in omega arith
  ]

  count_true-with_marks : (xs : List (U × Bool)) (marks : List Bool) → length marks ≤ length xs → ((place : ℕ) → is_own xs place ≡ true → get_or marks place false ≡ false)
      → count_true (marks_in (with_marks xs marks)) ≡ count_true (marks_in xs) + count_true marks
  count_true-with_marks [] [] le apart = omega arith
  count_true-with_marks [] (m ∷ marks) le apart = absurd (omega arith)
  count_true-with_marks (x ∷ xs) [] le apart = omega arith
  count_true-with_marks (x ∷ xs) (m ∷ marks) le apart =
      let here = one_of_either x.1 m (apart 0) in
      let rest = count_true-with_marks xs marks (omega arith) (λ place. apart (suc place)) in
      omega arith

  count_by : (one other : List (U × Bool)) → ((place : ℕ) → is_own one place ≡ true → is_own other place ≡ false) → (b : Bool) → nat_lt (length one) (length other) ≡ b
      → count_true (marks_in (if b then with_marks other (marks_in one) else with_marks one (marks_in other))) ≡ count_true (marks_in one) + count_true (marks_in other)
  count_by one other apart true e =
      let lt = ltb-true (length one) (length other) e in
      let l = length-map one (λ e. e.1) in
      let sum = count_true-with_marks other (marks_in one) (omega arith) (λ place. other_way (is_own one place) (is_own other place) (apart place)) in
      omega arith
  count_by one other apart false e =
      let le = ltb-false (length one) (length other) e in
      let l = length-map other (λ e. e.1) in
      count_true-with_marks one (marks_in other) (omega arith) apart

  pub joins_keep_own_turns : JoinsKeepOwnTurns U
  joins_keep_own_turns history m meets =
      let all = length-own_turns (joined m.one m.other) in
      let one = length-own_turns m.one in
      let other = length-own_turns m.other in
      let sum = count_by m.one m.other meets.apart (nat_lt (length m.one) (length m.other)) refl in
      omega arith
