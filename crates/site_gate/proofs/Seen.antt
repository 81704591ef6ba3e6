-- What was seen, split, seen further and joined.
use Rattle.std.proofs.Common.{◌≡◌, ℕ, zero, suc, ◌<◌, ◌≤◌, List, [], ◌∷◌, ◌++◌, Bool, true, false, ◌||◌, ◌==◌, ◌⊎◌, inl, inr, length, drop, get_or, refl, sym, ap, ◌∙◌, subst, ne_eqb, append_assoc, append-nil, arith, length-append}
use Rattle.std.specs.Prelude.{nat_lt, if◌then◌else◌}
use Rattle.std.specs.List.{filter, AllByRecursion}
use Rattle.std.proofs.lemmas.List.{map-append, length-map}
use Rattle.std.proofs.lemmas.List.Elements.{filter-append}
use Rattle.std.proofs.Math.Bool.{or_comm, or-false}
use Rattle.std.proofs.Math.Dec.{eqb-zero-suc, eqb-suc-suc}
use Rattle.std.proofs.lemmas.Bool.{ltb-true, ltb-false, eqb-true}
use Rattle.site_gate.specs.Seen.{Begins, longer, turns_in, marks_in, own_turns, is_own, marked, seen_to, with_marks, joined, Meets}
use Rattle.site_gate.specs.declared.view.Meeting.{Meeting}

or_true : (a b : Bool) → (a || b) ≡ true → (a ≡ true) ⊎ (b ≡ true)
or_true true b e = inl refl
or_true false b e = inr e

module _ {U : Type 0} where
  -- beginnings of a history

  pub begins_all : {xs ys : List U} → xs ≡ ys → Begins xs ys
  begins_all {xs} e = ([], sym e ∙ sym (append-nil xs))

  pub begins_more : (xs ys zs : List U) → Begins xs ys → Begins xs (ys ++ zs)
  begins_more xs ys zs b = (b.0 ++ zs, ap (λ l. l ++ zs) b.1 ∙ append_assoc xs b.0 zs)

  pub begins_on : (xs ys zs : List U) → Begins xs ys → Begins ys zs → Begins xs zs
  begins_on xs ys zs b c = (b.0 ++ c.0, c.1 ∙ (ap (λ l. l ++ c.0) b.1 ∙ append_assoc xs b.0 c.0))

  pub length-Begins : (xs ys : List U) → Begins xs ys → length xs ≤ length ys
  length-Begins xs ys b = let l = ap length b.1 in let m = length-append xs b.0 in omega arith

  -- of two beginnings of one history, the shorter begins the longer
  pub begins_longer : (xs ys history : List U) → Begins xs history → Begins ys history → length xs ≤ length ys → Begins xs ys
  begins_longer [] ys history b c le = (ys, refl)
  begins_longer (x ∷ xs) [] history b c le = absurd (omega arith)
  begins_longer (x ∷ xs) (y ∷ ys) [] b c le = cc
  begins_longer (x ∷ xs) (y ∷ ys) (z ∷ history) b c le =
      let b' : history ≡ xs ++ b.0 = let e = b.1 in cc in
      let c' : history ≡ ys ++ c.0 = let e = c.1 in cc in
      let head : y ≡ x = let d = b.1 in let e = c.1 in cc in
      let r = begins_longer xs ys history (b.0, b') (c.0, c') (omega arith) in
      (r.0, λ i. head i ∷ r.1 i)

  -- seen further

  pub turns_in-append : (xs ys : List (U × Bool)) → turns_in (xs ++ ys) ≡ turns_in xs ++ turns_in ys
  turns_in-append xs ys = map-append (λ e. e.0) xs ys

  pub turns_in-marked : (own : Bool) (xs : List U) → turns_in (marked own xs) ≡ xs
  turns_in-marked own [] = refl
  turns_in-marked own (x ∷ xs) = ap (λ l. x ∷ l) (turns_in-marked own xs)

  pub length-turns_in : (xs : List (U × Bool)) → length (turns_in xs) ≡ length xs
  length-turns_in xs = length-map xs (λ e. e.0)

  drop_turns : (xs : List (U × Bool)) (rest : List U) → drop (length xs) (turns_in xs ++ rest) ≡ rest
  drop_turns [] rest = refl
  drop_turns (x ∷ xs) rest = drop_turns xs rest

  pub seen_to-rest : (own : Bool) (seen : List (U × Bool)) (history rest : List U) → history ≡ turns_in seen ++ rest → seen_to own seen history ≡ seen ++ marked own rest
  seen_to-rest own seen history rest is = ap (λ l. seen ++ marked own (drop (length seen) l)) is ∙ ap (λ l. seen ++ marked own l) (drop_turns seen rest)

  -- who sees a history to its end has seen it
  pub turns_in-seen_to : (own : Bool) (seen : List (U × Bool)) (history : List U) → Begins (turns_in seen) history → turns_in (seen_to own seen history) ≡ history
  turns_in-seen_to own seen history b =
      ap turns_in (seen_to-rest own seen history b.0 b.1) ∙ (turns_in-append seen (marked own b.0) ∙ (ap (λ l. turns_in seen ++ l) (turns_in-marked own b.0) ∙ sym b.1))

  -- whose turns they are

  pub is_own-marked_false : (xs : List U) (place : ℕ) → is_own (marked false xs) place ≡ false
  is_own-marked_false [] place = refl
  is_own-marked_false (x ∷ xs) zero = refl
  is_own-marked_false (x ∷ xs) (suc place) = is_own-marked_false xs place

  pub is_own-append_false : (xs : List (U × Bool)) (ys : List U) (place : ℕ) → is_own (xs ++ marked false ys) place ≡ is_own xs place
  is_own-append_false [] ys place = is_own-marked_false ys place
  is_own-append_false (x ∷ xs) ys zero = refl
  is_own-append_false (x ∷ xs) ys (suc place) = is_own-append_false xs ys place

  pub is_own-append_one : (xs : List (U × Bool)) (y : U) (place : ℕ) → is_own (xs ++ marked true (y ∷ [])) place ≡ (is_own xs place || place == length xs)
  is_own-append_one [] y zero = refl
  is_own-append_one [] y (suc place) = sym (ne_eqb (suc place) 0 (λ e. omega arith))
  is_own-append_one (x ∷ xs) y zero = sym (ap (λ b. x.1 || b) (eqb-zero-suc (length xs)) ∙ or-false x.1)
  is_own-append_one (x ∷ xs) y (suc place) = is_own-append_one xs y place ∙ ap (λ b. is_own xs place || b) (sym (eqb-suc-suc place (length xs)))

  pub own_within : (xs : List (U × Bool)) (place : ℕ) → is_own xs place ≡ true → place < length xs
  own_within [] place e = cc
  own_within (x ∷ xs) zero e = omega arith
  own_within (x ∷ xs) (suc place) e = let h = own_within xs place e in omega arith

  -- a look at a history gives no turns
  pub is_own-seen_to_false : (seen : List (U × Bool)) (history : List U) (place : ℕ) → Begins (turns_in seen) history → is_own (seen_to false seen history) place ≡ is_own seen place
  is_own-seen_to_false seen history place b = ap (λ l. is_own l place) (seen_to-rest false seen history b.0 b.1) ∙ is_own-append_false seen b.0 place

  -- a turn more is one's own
  pub is_own-seen_to_true : (seen : List (U × Bool)) (history : List U) (turn : U) (place : ℕ) → history ≡ turns_in seen ++ turn ∷ []
      → is_own (seen_to true seen history) place ≡ (is_own seen place || place == length seen)
  is_own-seen_to_true seen history turn place is = ap (λ l. is_own l place) (seen_to-rest true seen history (turn ∷ []) is) ∙ is_own-append_one seen turn place

  pub own_before_or_new : (seen : List (U × Bool)) (history : List U) (turn : U) (place : ℕ) → history ≡ turns_in seen ++ turn ∷ [] → is_own (seen_to true seen history) place ≡ true
      → (is_own seen place ≡ true) ⊎ (place ≡ length seen)
  own_before_or_new seen history turn place is own = elim (or_true (is_own seen place) (place == length seen) (sym (is_own-seen_to_true seen history turn place is) ∙ own)) [
    | inl before ↦ inl before
    | inr new ↦ inr (eqb-true place (length seen) new)
  ]

  own_turns-append : (xs ys : List (U × Bool)) → own_turns (xs ++ ys) ≡ own_turns xs ++ own_turns ys
  own_turns-append xs ys = ap turns_in (filter-append (λ e. e.1) xs ys) ∙ turns_in-append (filter (λ e. e.1) xs) (filter (λ e. e.1) ys)

  pub own_turns-marked_false : (xs : List U) → own_turns (marked false xs) ≡ []
  own_turns-marked_false [] = refl
  own_turns-marked_false (x ∷ xs) = own_turns-marked_false xs

  pub own_turns-seen_to_false : (seen : List (U × Bool)) (history : List U) → Begins (turns_in seen) history → own_turns (seen_to false seen history) ≡ own_turns seen
  own_turns-seen_to_false seen history b =
      ap own_turns (seen_to-rest false seen history b.0 b.1) ∙ (own_turns-append seen (marked false b.0) ∙ (ap (λ l. own_turns seen ++ l) (own_turns-marked_false b.0) ∙ append-nil (own_turns seen)))

  pub own_turns-seen_to_true : (seen : List (U × Bool)) (history : List U) (turn : U) → history ≡ turns_in seen ++ turn ∷ [] → own_turns (seen_to true seen history) ≡ own_turns seen ++ turn ∷ []
  own_turns-seen_to_true seen history turn is = ap own_turns (seen_to-rest true seen history (turn ∷ []) is) ∙ own_turns-append seen (marked true (turn ∷ []))

  -- joined

  turns_in-with_marks : (xs : List (U × Bool)) (marks : List Bool) → turns_in (with_marks xs marks) ≡ turns_in xs
  turns_in-with_marks [] marks = refl
  turns_in-with_marks (x ∷ xs) [] = refl
  turns_in-with_marks (x ∷ xs) (m ∷ marks) = ap (λ l. x.0 ∷ l) (turns_in-with_marks xs marks)

  is_own-with_marks : (xs : List (U × Bool)) (marks : List Bool) (place : ℕ) → length marks ≤ length xs → is_own (with_marks xs marks) place ≡ (is_own xs place || get_or marks place false)
  is_own-with_marks [] [] place le = refl
  is_own-with_marks [] (m ∷ marks) place le = absurd (omega arith)
  is_own-with_marks (x ∷ xs) [] place le = sym (or-false (is_own (x ∷ xs) place))
  is_own-with_marks (x ∷ xs) (m ∷ marks) zero le = refl
  is_own-with_marks (x ∷ xs) (m ∷ marks) (suc place) le = is_own-with_marks xs marks place (omega arith)

  -- who joins two has seen the longer history
  pub turns_in-joined : (one other : List (U × Bool)) → turns_in (joined one other) ≡ longer (turns_in one) (turns_in other)
  turns_in-joined one other = rw (length-turns_in one, length-turns_in other)
      (elim (nat_lt (length one) (length other)) as (λ b. turns_in (if b then with_marks other (marks_in one) else with_marks one (marks_in other)) ≡ (if b then turns_in other else turns_in one)) [
        | true ↦ turns_in-with_marks other (marks_in one)
        | false ↦ turns_in-with_marks one (marks_in other)
      ])

  is_own-joined_by : (one other : List (U × Bool)) (place : ℕ) (b : Bool) → nat_lt (length one) (length other) ≡ b
      → is_own (if b then with_marks other (marks_in one) else with_marks one (marks_in other)) place ≡ (is_own one place || is_own other place)
  is_own-joined_by one other place true e =
      let lt = ltb-true (length one) (length other) e in
      let l = length-map one (λ e. e.1) in
      is_own-with_marks other (marks_in one) place (omega arith) ∙ or_comm (is_own other place) (is_own one place)
  is_own-joined_by one other place false e =
      let le = ltb-false (length one) (length other) e in
      let l = length-map other (λ e. e.1) in
      is_own-with_marks one (marks_in other) place (omega arith)

  -- a join owns what either owned
  pub is_own-joined : (one other : List (U × Bool)) (place : ℕ) → is_own (joined one other) place ≡ (is_own one place || is_own other place)
  is_own-joined one other place = is_own-joined_by one other place (nat_lt (length one) (length other)) refl

  pub own_of_either : (one other : List (U × Bool)) (place : ℕ) → is_own (joined one other) place ≡ true → (is_own one place ≡ true) ⊎ (is_own other place ≡ true)
  own_of_either one other place e = or_true (is_own one place) (is_own other place) (sym (is_own-joined one other place) ∙ e)

  longer_begins : (xs ys history : List U) → Begins xs history → Begins ys history → Begins (longer xs ys) history
  longer_begins xs ys history b c = elim (nat_lt (length xs) (length ys)) as (λ t. Begins (if t then ys else xs) history) [
    | true ↦ c
    | false ↦ b
  ]

  one_begins_by : (xs ys history : List U) (b : Bool) → nat_lt (length xs) (length ys) ≡ b → Begins xs history → Begins ys history → Begins xs (if b then ys else xs)
  one_begins_by xs ys history true e b c = let lt = ltb-true (length xs) (length ys) e in begins_longer xs ys history b c (omega arith)
  one_begins_by xs ys history false e b c = begins_all refl

  other_begins_by : (xs ys history : List U) (b : Bool) → nat_lt (length xs) (length ys) ≡ b → Begins xs history → Begins ys history → Begins ys (if b then ys else xs)
  other_begins_by xs ys history true e b c = begins_all refl
  other_begins_by xs ys history false e b c = let le = ltb-false (length xs) (length ys) e in begins_longer ys xs history c b (omega arith)

  module _ (one other : List (U × Bool)) (history : List U) (b : Begins (turns_in one) history) (c : Begins (turns_in other) history) where
    -- two beginnings of one history make one, and begin it
    pub joined_begins : Begins (turns_in (joined one other)) history
    joined_begins = subst (λ l. Begins l history) (sym (turns_in-joined one other)) (longer_begins (turns_in one) (turns_in other) history b c)

    pub one_begins : Begins (turns_in one) (turns_in (joined one other))
    one_begins = subst (Begins (turns_in one)) (sym (turns_in-joined one other)) (one_begins_by (turns_in one) (turns_in other) history (nat_lt (length (turns_in one)) (length (turns_in other))) refl b c)

    pub other_begins : Begins (turns_in other) (turns_in (joined one other))
    other_begins = subst (Begins (turns_in other)) (sym (turns_in-joined one other)) (other_begins_by (turns_in one) (turns_in other) history (nat_lt (length (turns_in one)) (length (turns_in other))) refl b c)

  -- what was joined

  pub meets_more : (xs ys : List U) (joins : List (Meeting U)) → Begins xs ys → AllByRecursion (Meets xs) joins → AllByRecursion (Meets ys) joins
  meets_more xs ys [] b all = tt
  meets_more xs ys (m ∷ joins) b all =
      (record { one = begins_on (turns_in m.one) xs ys all.0.one b; other = begins_on (turns_in m.other) xs ys all.0.other b; apart = all.0.apart }, meets_more xs ys joins b all.1)

  pub meets_both : (xs : List U) (joins more : List (Meeting U)) → AllByRecursion (Meets xs) joins → AllByRecursion (Meets xs) more → AllByRecursion (Meets xs) (joins ++ more)
  meets_both xs [] more all rest = rest
  meets_both xs (m ∷ joins) more all rest = (all.0, meets_both xs joins more all.1 rest)
