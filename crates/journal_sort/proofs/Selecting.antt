-- Acts that are done in a given order lead where the same acts lead in rising order of number, if of two that can't change
-- places the lower one is done first.
use Rattle.std.proofs.Common.{◌≡◌, ◌≢◌, ℕ, ◌<◌, List, [], ◌∷◌, ◌++◌, Bool, true, false, cond, refl, ap, ◌∙◌, subst, arith, inl, inr}
use Rattle.std.specs.Prelude.{nat_le, sum_by}
use Rattle.std.specs.List.{AllByRecursion}
use mathlib.Core.Logic.{◌⊎◌}
use Rattle.std.proofs.lemmas.Bool.Decides.{nat_tests}
use Rattle.std.proofs.lemmas.List.Sums.{sum_by-cons, sum_by-append}

-- ---- lists

module _ {X : Type 0} where
  -- each has R to all later ones
  abbrev pub Ordered : (X → X → Type 0) → List X → Type 0
  Ordered R [] = Unit {0}
  Ordered R (x ∷ xs) = AllByRecursion (R x) xs × Ordered R xs

  abbrev pub Has : List X → X → Type 0
  Has [] y = ⊥
  Has (x ∷ xs) y = (x ≡ y) ⊎ Has xs y

  pub AllByRecursion-weaker : (P Q : X → Type 0) → ((x : X) → P x → Q x) → (xs : List X) → AllByRecursion P xs → AllByRecursion Q xs
  AllByRecursion-weaker P Q weaker [] all = tt
  AllByRecursion-weaker P Q weaker (x ∷ xs) all = (weaker x all.0, AllByRecursion-weaker P Q weaker xs all.1)

  pub AllByRecursion-both : (P Q : X → Type 0) (xs : List X) → AllByRecursion P xs → AllByRecursion Q xs → AllByRecursion (λ (x : X). P x × Q x) xs
  AllByRecursion-both P Q [] all others = tt
  AllByRecursion-both P Q (x ∷ xs) all others = ((all.0, others.0), AllByRecursion-both P Q xs all.1 others.1)

  -- a list has its own
  pub has_itself : (xs : List X) → AllByRecursion (Has xs) xs
  has_itself [] = tt
  has_itself (x ∷ xs) = (inl refl, AllByRecursion-weaker (Has xs) (Has (x ∷ xs)) (λ y there. inr there) xs (has_itself xs))

  -- a list around one of its elements
  pub record IsAround (xs : List X) (y : X) : Type 0 where
    pub before : List X
    pub behind : List X
    pub is : xs ≡ before ++ y ∷ behind

  around : (xs : List X) (y : X) → Has xs y → IsAround xs y
  around [] y there = absurd there
  around (x ∷ xs) y there = elim there [
    | inl same ↦ record { before = []; behind = xs; is = ap (λ z. z ∷ xs) same }
    | inr later ↦ let rest = around xs y later in record { before = x ∷ rest.before; behind = rest.behind; is = ap (λ zs. x ∷ zs) rest.is }
  ]

  has_other : (before : List X) (y : X) (behind : List X) (z : X) → y ≢ z → Has (before ++ y ∷ behind) z → Has (before ++ behind) z
  has_other [] y behind z differ there = elim there [
    | inl same ↦ absurd (differ same)
    | inr later ↦ later
  ]
  has_other (x ∷ before) y behind z differ there = elim there [
    | inl same ↦ inl same
    | inr later ↦ inr (has_other before y behind z differ later)
  ]

  all_middle : (P : X → Type 0) (before : List X) (y : X) (behind : List X) → AllByRecursion P (before ++ y ∷ behind) → P y
  all_middle P [] y behind all = all.0
  all_middle P (x ∷ before) y behind all = all_middle P before y behind all.1

  all_without : (P : X → Type 0) (before : List X) (y : X) (behind : List X) → AllByRecursion P (before ++ y ∷ behind) → AllByRecursion P (before ++ behind)
  all_without P [] y behind all = all.1
  all_without P (x ∷ before) y behind all = (all.0, all_without P before y behind all.1)

  ordered_without : (R : X → X → Type 0) (before : List X) (y : X) (behind : List X) → Ordered R (before ++ y ∷ behind) → Ordered R (before ++ behind)
  ordered_without R [] y behind ordered = ordered.1
  ordered_without R (x ∷ before) y behind ordered = (all_without (R x) before y behind ordered.0, ordered_without R before y behind ordered.1)

-- ---- numbers

module _ {X : Type 0} (number : X → ℕ) where
  -- the numbers rise strictly
  abbrev pub Rises : List X → Type 0
  Rises [] = Unit {0}
  Rises (x ∷ xs) = AllByRecursion (λ (y : X). number x < number y) xs × Rises xs

  abbrev one_if : Bool → ℕ
  one_if b = cond b 1 0

  abbrev at_most : ℕ → X → ℕ
  at_most n x = one_if (nat_le (number x) n)

  none_at_most : (n : ℕ) (xs : List X) → AllByRecursion (λ (x : X). n < number x) xs → sum_by (at_most n) xs ≡ 0
  none_at_most n [] all = refl
  none_at_most n (x ∷ xs) all =
      let off : nat_le (number x) n ≡ false = grind (arith, nat_tests, all.0) in
      omega (arith, sum_by-cons (at_most n) x xs, ap one_if off, none_at_most n xs all.1)

  all_above : (n : ℕ) (xs : List X) → sum_by (at_most n) xs ≡ 0 → AllByRecursion (λ (x : X). n < number x) xs
  all_above n [] none = tt
  all_above n (x ∷ xs) none = (go (nat_le (number x) n) refl, all_above n xs (omega (arith, sum_by-cons (at_most n) x xs, none)))
    where
      go : (b : Bool) → nat_le (number x) n ≡ b → n < number x
      go false off = grind (arith, nat_tests)
      go true on = absurd (omega (arith, sum_by-cons (at_most n) x xs, none, ap one_if on))

  -- as many of each
  abbrev pub SameSums : List X → List X → Type 0
  SameSums xs ys = (f : X → ℕ) → sum_by f xs ≡ sum_by f ys

  -- what stands before the least of a list is above it
  before_least : (before : List X) (y : X) (behind ys : List X) → AllByRecursion (λ (z : X). number y < number z) ys
      → SameSums (before ++ y ∷ behind) (y ∷ ys) → AllByRecursion (λ (x : X). number y < number x) before
  before_least before y behind ys above sums = all_above (number y) before
      (omega (arith, sums f, sum_by-append f before (y ∷ behind), sum_by-cons f y behind, sum_by-cons f y ys, none_at_most (number y) ys above))
    where
      f : X → ℕ
      f = at_most (number y)

  sums_without : (before : List X) (y : X) (behind ys : List X) → SameSums (before ++ y ∷ behind) (y ∷ ys) → SameSums (before ++ behind) ys
  sums_without before y behind ys sums f =
      omega (arith, sums f, sum_by-append f before (y ∷ behind), sum_by-cons f y behind, sum_by-cons f y ys, sum_by-append f before behind)

  none_left : (xs : List X) → SameSums xs [] → xs ≡ []
  none_left [] sums = refl
  none_left (x ∷ xs) sums = absurd (omega (arith, sums (λ y. 1), sum_by-cons (λ (y : X). 1) x xs))

-- ---- acts

-- what acts do to a state, where of two that stand out of order the later one may go first
pub record Acts (X State : Type 0) : Type 1 where
  pub number : X → ℕ
  pub act : X → State → State
  pub Fine : X → Type 0
  pub Good : State → Type 0
  pub Stands : X → X → Type 0
  pub keeps : (x : X) → Fine x → (s : State) → Good s → Good (act x s)
  pub either : (x y : X) → Fine x → Fine y → Stands x y → number y < number x → (s : State) → Good s → act y (act x s) ≡ act x (act y s)

module _ {X State : Type 0} (acts : Acts X State) where
  -- the state after acts, the first of them at the front
  abbrev pub after : List X → State → State
  after [] s = s
  after (x ∷ xs) s = after xs (acts.act x s)

  -- an act goes before those that are above it
  goes_first : (before : List X) (y : X) (behind : List X) (s : State) → acts.Good s → AllByRecursion acts.Fine (before ++ y ∷ behind) → Ordered acts.Stands (before ++ y ∷ behind)
      → AllByRecursion (λ (x : X). acts.number y < acts.number x) before → after (before ++ y ∷ behind) s ≡ after (y ∷ (before ++ behind)) s
  goes_first [] y behind s good fine ordered above = refl
  goes_first (x ∷ before) y behind s good fine ordered above =
      goes_first before y behind (acts.act x s) (acts.keeps x fine.0 s good) fine.1 ordered.1 above.1
      ∙ ap (after (before ++ behind)) (acts.either x y fine.0 (all_middle acts.Fine before y behind fine.1) (all_middle (acts.Stands x) before y behind ordered.0) above.0 s good)

  -- the rising list leads where the given one leads
  pub one_end : (ys xs : List X) (s : State) → acts.Good s → AllByRecursion acts.Fine xs → Ordered acts.Stands xs → Rises acts.number ys
      → AllByRecursion (Has xs) ys → SameSums acts.number xs ys → after xs s ≡ after ys s
  one_end [] xs s good fine ordered rises has sums = ap (λ zs. after zs s) (none_left acts.number xs sums)
  one_end (y ∷ ys) xs s good fine ordered rises has sums = go (around xs y has.0) (λ zs fine' ordered' has' sums'. one_end ys zs (acts.act y s) (keeps_good fine) fine' ordered' rises.1 has' sums')
    where
      keeps_good : AllByRecursion acts.Fine xs → acts.Good (acts.act y s)
      keeps_good all = let at = around xs y has.0 in acts.keeps y (all_middle acts.Fine at.before y at.behind (subst (AllByRecursion acts.Fine) at.is all)) s good

      differ : (z : X) → acts.number y < acts.number z → y ≢ z
      differ z less same = omega (arith, less, ap acts.number same)

      others : (at : IsAround xs y) → (zs : List X) → AllByRecursion (Has xs) zs → AllByRecursion (λ (z : X). acts.number y < acts.number z) zs → AllByRecursion (Has (at.before ++ at.behind)) zs
      others at [] all above = tt
      others at (z ∷ zs) all above = (has_other at.before y at.behind z (differ z above.0) (subst (λ l. Has l z) at.is all.0), others at zs all.1 above.1)

      go : IsAround xs y → ((zs : List X) → AllByRecursion acts.Fine zs → Ordered acts.Stands zs → AllByRecursion (Has zs) ys → SameSums acts.number zs ys → after zs (acts.act y s) ≡ after ys (acts.act y s))
          → after xs s ≡ after (y ∷ ys) s
      go at later =
          let fine' = subst (AllByRecursion acts.Fine) at.is fine in
          let ordered' = subst (Ordered acts.Stands) at.is ordered in
          let sums' = subst (λ l. SameSums acts.number l (y ∷ ys)) at.is sums in
          ap (λ zs. after zs s) at.is
          ∙ goes_first at.before y at.behind s good fine' ordered' (before_least acts.number at.before y at.behind ys rises.0 sums')
          ∙ later (at.before ++ at.behind) (all_without acts.Fine at.before y at.behind fine') (ordered_without acts.Stands at.before y at.behind ordered') (others at ys has.1 rises.0)
          (sums_without acts.number at.before y at.behind ys sums')
