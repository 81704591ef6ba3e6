-- Positions that are applied where they are ready: every order that leaves none ready comes to one state, by the same
-- entries.
use Rattle.std.proofs.Common.{◌≡◌, ◌≢◌, ℕ, ◌<◌, ◌≤◌, ◌==◌, List, [], ◌∷◌, ◌++◌, Bool, true, false, cond, refl, sym, ap, ◌∙◌, subst, arith, inl, inr, IsPermutation}
use Rattle.std.specs.Prelude.{◌||◌, nat_lt}
use mathlib.Core.Path.{fun_ext}
use mathlib.Core.Logic.{◌⊎◌}
use mathlib.Core.List.{append_assoc}
use Rattle.std.proofs.lemmas.Bool.{cases_lt, eq-eqb}
use Rattle.std.proofs.lemmas.Bool.Decides.{nat_tests}
use Rattle.std.proofs.lemmas.List.Sorted.{IsPermutation-refl, IsPermutation-sym, IsPermutation-trans, IsPermutation-append_left, IsPermutation-append_right, IsPermutation-middle}

-- a position is finished besides those that are
abbrev pub marked : (ℕ → Bool) → ℕ → ℕ → Bool
marked f p q = (p == q) || f q

true_not_false : (b : Bool) → b ≡ true → b ≡ false → ⊥
true_not_false true is off = absurd (cc off)
true_not_false false is off = absurd (cc is)

mark_off : (f : ℕ → Bool) (p q : ℕ) → marked f p q ≡ false → (q ≢ p) × (f q ≡ false)
mark_off f p q off = go (p == q) refl off
  where
    go : (b : Bool) → (p == q) ≡ b → (b || f q) ≡ false → (q ≢ p) × (f q ≡ false)
    go true is off = absurd (cc off)
    go false is off = ((λ e. grind (arith, nat_tests, e)), off)

mark_more : (f : ℕ → Bool) (p q : ℕ) → f q ≡ true → marked f p q ≡ true
mark_more f p q is = go (p == q)
  where
    go : (b : Bool) → (b || f q) ≡ true
    go true = refl
    go false = is

mark_other : (f : ℕ → Bool) (p q : ℕ) → q ≢ p → marked f p q ≡ f q
mark_other f p q ne = go (p == q) refl
  where
    go : (b : Bool) → (p == q) ≡ b → (b || f q) ≡ f q
    go true is = absurd (ne (grind (arith, nat_tests)))
    go false is = refl

mark_own : (f : ℕ → Bool) (p : ℕ) → marked f p p ≡ true
mark_own f p = rw (eq-eqb p p refl) refl

swap_marks : (f : ℕ → Bool) (p q : ℕ) → marked (marked f p) q ≡ marked (marked f q) p
swap_marks f p q = fun_ext (λ r. go (q == r) (p == r) (f r))
  where
    go : (a b c : Bool) → (a || (b || c)) ≡ (b || (a || c))
    go true true c = refl
    go true false c = refl
    go false true c = refl
    go false false c = refl

module _ {X : Type 0} where
  -- the last two of a list change places
  last_swapped : (xs : List X) (x y : X) → IsPermutation ((xs ++ x ∷ []) ++ y ∷ []) ((xs ++ y ∷ []) ++ x ∷ [])
  last_swapped xs x y =
      subst (λ zs. IsPermutation zs ((xs ++ y ∷ []) ++ x ∷ [])) (sym (append_assoc xs (x ∷ []) (y ∷ [])))
      (subst (λ zs. IsPermutation (xs ++ x ∷ y ∷ []) zs) (sym (append_assoc xs (y ∷ []) (x ∷ [])))
      (IsPermutation-append_right xs (x ∷ y ∷ []) (y ∷ x ∷ []) (IsPermutation-middle (x ∷ []) y [])))

module _ (came : ℕ → Bool) (dep : ℕ → ℕ) where
  -- a position may be applied: it came, isn't finished, and all up to what it depends on are finished
  pub record IsNext (f : ℕ → Bool) (p : ℕ) : Type 0 where
    pub positive : 0 < p
    pub comes : came p ≡ true
    pub unfinished : f p ≡ false
    pub depends : (r : ℕ) → 0 < r → r ≤ dep p → f r ≡ true

  -- each in its turn
  abbrev pub AreNext : (ℕ → Bool) → List ℕ → Type 0
  AreNext f [] = Unit {0}
  AreNext f (p ∷ ps) = IsNext f p × AreNext (marked f p) ps

  abbrev pub all_marked : (ℕ → Bool) → List ℕ → ℕ → Bool
  all_marked f [] = f
  all_marked f (p ∷ ps) = all_marked (marked f p) ps

  abbrev pub NoneNext : (ℕ → Bool) → Type 0
  NoneNext f = (p : ℕ) → IsNext f p → ⊥

  -- what a position depends on is below each unfinished one
  below_unfinished : (f : ℕ → Bool) (p q : ℕ) → 0 < q → f q ≡ false → ((r : ℕ) → 0 < r → r ≤ dep p → f r ≡ true) → dep p < q
  below_unfinished f p q from_one off depends = elim (cases_lt (dep p) q) [
    | inl less ↦ less
    | inr reached ↦ absurd (true_not_false (f q) (depends q from_one reached) off)
  ]

  -- of two positions applied one after the other, the lower one may go first
  pub record MayGoFirst (f : ℕ → Bool) (p q : ℕ) : Type 0 where
    pub first : IsNext f q
    pub second : IsNext (marked f q) p
    pub apart : dep p < q

  lower_first : (f : ℕ → Bool) (p q : ℕ) → q < p → IsNext f p → IsNext (marked f p) q → MayGoFirst f p q
  lower_first f p q less next_p next_q = record {
    first = record {
      positive = next_q.positive;
      comes = next_q.comes;
      unfinished = off.1;
      depends = λ r from_one up_to. sym (mark_other f p r (λ e. omega (arith, own, e, up_to, less))) ∙ next_q.depends r from_one up_to;
    };
    second = record {
      positive = next_p.positive;
      comes = next_p.comes;
      unfinished = mark_other f q p (λ e. omega (arith, e, less)) ∙ next_p.unfinished;
      depends = λ r from_one up_to. mark_more f q r (next_p.depends r from_one up_to);
    };
    apart = below_unfinished f p q next_q.positive off.1 next_p.depends;
  }
    where
      off : (q ≢ p) × (f q ≡ false)
      off = mark_off f p q next_q.unfinished

      own : dep q < q
      own = below_unfinished (marked f p) q q next_q.positive next_q.unfinished next_q.depends

  -- ---- in rising order

  abbrev pub put_in : ℕ → List ℕ → List ℕ
  put_in p [] = p ∷ []
  put_in p (q ∷ qs) = cond (nat_lt q p) (q ∷ put_in p qs) (p ∷ q ∷ qs)

  abbrev pub risen : List ℕ → List ℕ
  risen [] = []
  risen (p ∷ ps) = put_in p (risen ps)

  abbrev pub AllAbove : ℕ → List ℕ → Type 0
  AllAbove p [] = Unit {0}
  AllAbove p (q ∷ qs) = (p < q) × AllAbove p qs

  abbrev pub Rising : List ℕ → Type 0
  Rising [] = Unit {0}
  Rising (p ∷ ps) = AllAbove p ps × Rising ps

  abbrev IsAbsent : ℕ → List ℕ → Type 0
  IsAbsent p [] = Unit {0}
  IsAbsent p (q ∷ qs) = (q ≢ p) × IsAbsent p qs

  -- what is finished isn't applied again
  finished_absent : (f : ℕ → Bool) (p : ℕ) (ps : List ℕ) → f p ≡ true → AreNext f ps → IsAbsent p ps
  finished_absent f p [] on next = tt
  finished_absent f p (q ∷ qs) on next = (
    (λ e. true_not_false (f q) (subst (λ r. f r ≡ true) (sym e) on) next.0.unfinished),
    finished_absent (marked f q) p qs (mark_more f q p on) next.1,
  )

  above_put : (r p : ℕ) (ps : List ℕ) → r < p → AllAbove r ps → AllAbove r (put_in p ps)
  above_put r p [] less all = (less, tt)
  above_put r p (q ∷ qs) less all = go (nat_lt q p) (above_put r p qs less all.1)
    where
      go : (b : Bool) → AllAbove r (put_in p qs) → AllAbove r (cond b (q ∷ put_in p qs) (p ∷ q ∷ qs))
      go true later = (all.0, later)
      go false later = (less, all)

  above_lower : (p q : ℕ) (ps : List ℕ) → p < q → AllAbove q ps → AllAbove p ps
  above_lower p q [] less all = tt
  above_lower p q (r ∷ rs) less all = (omega (arith, less, all.0), above_lower p q rs less all.1)

  rising_put : (p : ℕ) (ps : List ℕ) → IsAbsent p ps → Rising ps → Rising (put_in p ps)
  rising_put p [] absent rising = (tt, tt)
  rising_put p (q ∷ qs) absent rising = go (nat_lt q p) refl (rising_put p qs absent.1 rising.1)
    where
      go : (b : Bool) → nat_lt q p ≡ b → Rising (put_in p qs) → Rising (cond b (q ∷ put_in p qs) (p ∷ q ∷ qs))
      go true is later = (above_put q p qs (grind (arith, nat_tests)) rising.0, later)
      go false is later = let less : p < q = grind (arith, nat_tests, absent.0) in ((less, above_lower p q qs less rising.0), rising)

  absent_put : (r p : ℕ) (ps : List ℕ) → p ≢ r → IsAbsent r ps → IsAbsent r (put_in p ps)
  absent_put r p [] ne absent = (ne, tt)
  absent_put r p (q ∷ qs) ne absent = go (nat_lt q p) (absent_put r p qs ne absent.1)
    where
      go : (b : Bool) → IsAbsent r (put_in p qs) → IsAbsent r (cond b (q ∷ put_in p qs) (p ∷ q ∷ qs))
      go true later = (absent.0, later)
      go false later = (ne, absent)

  absent_risen : (r : ℕ) (ps : List ℕ) → IsAbsent r ps → IsAbsent r (risen ps)
  absent_risen r [] absent = tt
  absent_risen r (p ∷ ps) absent = absent_put r p (risen ps) absent.0 (absent_risen r ps absent.1)

  rising_risen : (f : ℕ → Bool) (ps : List ℕ) → AreNext f ps → Rising (risen ps)
  rising_risen f [] next = tt
  rising_risen f (p ∷ ps) next =
      rising_put p (risen ps) (absent_risen p ps (finished_absent (marked f p) p ps (mark_own f p) next.1)) (rising_risen (marked f p) ps next.1)

  -- a position that a rising list passes over may still be applied
  still_next : (f : ℕ → Bool) (p : ℕ) (qs : List ℕ) → IsNext f p → AllAbove p qs → IsNext (all_marked f qs) p
  still_next f p [] next above = next
  still_next f p (q ∷ qs) next above = still_next (marked f q) p qs
      (record {
        positive = next.positive;
        comes = next.comes;
        unfinished = mark_other f q p (λ e. omega (arith, e, above.0)) ∙ next.unfinished;
        depends = λ r from_one up_to. mark_more f q r (next.depends r from_one up_to);
      })
      above.1

  three_ways : (a b : ℕ) → (a < b) ⊎ ((b < a) ⊎ (a ≡ b))
  three_ways a b = grind arith

  -- of rising lists only one leaves nothing
  one_rising : (f : ℕ → Bool) (ps qs : List ℕ) → AreNext f ps → AreNext f qs → Rising ps → Rising qs → NoneNext (all_marked f ps) → NoneNext (all_marked f qs) → ps ≡ qs
  one_rising f [] [] next other_next rising other_rising none other_none = refl
  one_rising f [] (q ∷ qs) next other_next rising other_rising none other_none = absurd (none q other_next.0)
  one_rising f (p ∷ ps) [] next other_next rising other_rising none other_none = absurd (other_none p next.0)
  one_rising f (p ∷ ps) (q ∷ qs) next other_next rising other_rising none other_none = elim (three_ways p q) [
    | inl less ↦ absurd (other_none p (still_next f p (q ∷ qs) next.0 (less, above_lower p q qs less other_rising.0)))
    | inr rest ↦ elim rest [
      | inl more ↦ absurd (none q (still_next f q (p ∷ ps) other_next.0 (more, above_lower q p ps more rising.0)))
      | inr same ↦ λ i. same i ∷ one_rising (marked f q) ps qs (subst (λ r. AreNext (marked f r) ps) same next.1) other_next.1 rising.1 other_rising.1
          (subst (λ r. NoneNext (all_marked (marked f r) ps)) same none) other_none i
    ]
  ]

-- what is applied: a state, and an entry for each position; of two positions of which one doesn't depend on the other, the
-- lower one may go first
pub record Applies (came : ℕ → Bool) (dep : ℕ → ℕ) (State Entry : Type 0) : Type 1 where
  pub act : ℕ → State → State
  pub entry : ℕ → State → Entry
  pub Good : State → Type 0
  pub keeps : (p : ℕ) → came p ≡ true → (x : State) → Good x → Good (act p x)
  pub free : (p q : ℕ) → q < p → dep p < q → came p ≡ true → came q ≡ true → (x : State) → Good x
      → (act q (act p x) ≡ act p (act q x)) × (entry p (act q x) ≡ entry p x) × (entry q (act p x) ≡ entry q x)

module _ (came : ℕ → Bool) (dep : ℕ → ℕ) (State Entry : Type 0) (how : Applies came dep State Entry) where
  abbrev pub state : State → List ℕ → State
  state x [] = x
  state x (p ∷ ps) = state (how.act p x) ps

  -- the entries, the newest first
  abbrev pub entries : State → List ℕ → List Entry
  entries x [] = []
  entries x (p ∷ ps) = entries (how.act p x) ps ++ how.entry p x ∷ []

  record Alike (f : ℕ → Bool) (x : State) (ps qs : List ℕ) : Type 0 where
    next : AreNext came dep f qs
    same : state x qs ≡ state x ps
    made : IsPermutation (entries x qs) (entries x ps)
    marks : all_marked came dep f qs ≡ all_marked came dep f ps

  put_alike : (f : ℕ → Bool) (x : State) (p : ℕ) (ps : List ℕ) → how.Good x → IsNext came dep f p → AreNext came dep (marked f p) ps → Alike f x (p ∷ ps) (put_in came dep p ps)
  put_alike f x p [] good next rest = record { next = (next, tt); same = refl; made = IsPermutation-refl (entries x (p ∷ [])); marks = refl }
  put_alike f x p (q ∷ qs) good next rest = go (nat_lt q p) refl (λ next' rest'. put_alike (marked f q) (how.act q x) p qs (how.keeps q rest.0.comes x good) next' rest')
    where
      go : (b : Bool) → nat_lt q p ≡ b → (IsNext came dep (marked f q) p → AreNext came dep (marked (marked f q) p) qs → Alike (marked f q) (how.act q x) (p ∷ qs) (put_in came dep p qs))
          → Alike f x (p ∷ q ∷ qs) (cond b (q ∷ put_in came dep p qs) (p ∷ q ∷ qs))
      go false is later = record { next = (next, rest); same = refl; made = IsPermutation-refl (entries x (p ∷ q ∷ qs)); marks = refl }
      go true is later =
          let less : q < p = grind (arith, nat_tests) in
          let lower = lower_first came dep f p q less next rest.0 in
          let free = how.free p q less lower.apart next.comes rest.0.comes x good in
          let alike = later lower.second (subst (λ g. AreNext came dep g qs) (swap_marks f p q) rest.1) in
          let behind : entries (how.act q x) (p ∷ qs) ≡ entries (how.act q (how.act p x)) qs ++ how.entry p x ∷ [] =
          ap (λ y. entries y qs ++ how.entry p (how.act q x) ∷ []) (sym free.0) ∙ ap (λ e. entries (how.act q (how.act p x)) qs ++ e ∷ []) free.1 in
          let ahead : (entries (how.act q (how.act p x)) qs ++ how.entry q x ∷ []) ++ how.entry p x ∷ [] ≡ entries x (p ∷ q ∷ qs) =
          ap (λ e. (entries (how.act q (how.act p x)) qs ++ e ∷ []) ++ how.entry p x ∷ []) (sym free.2) in
          let moved : IsPermutation (entries x (q ∷ put_in came dep p qs)) ((entries (how.act q (how.act p x)) qs ++ how.entry p x ∷ []) ++ how.entry q x ∷ []) =
          IsPermutation-append_left (how.entry q x ∷ []) _ _ (subst (λ es. IsPermutation (entries (how.act q x) (put_in came dep p qs)) es) behind alike.made) in
          record {
            next = (lower.first, alike.next);
            same = alike.same ∙ ap (λ y. state y qs) (sym free.0);
            made = subst (λ es. IsPermutation (entries x (q ∷ put_in came dep p qs)) es) ahead (IsPermutation-trans _ _ _ moved (last_swapped (entries (how.act q (how.act p x)) qs) (how.entry p x) (how.entry q x)));
            marks = alike.marks ∙ ap (λ g. all_marked came dep g qs) (sym (swap_marks f p q));
          }

  risen_alike : (f : ℕ → Bool) (x : State) (ps : List ℕ) → how.Good x → AreNext came dep f ps → Alike f x ps (risen came dep ps)
  risen_alike f x [] good next = record { next = tt; same = refl; made = IsPermutation-refl []; marks = refl }
  risen_alike f x (p ∷ ps) good next =
      let rest = risen_alike (marked f p) (how.act p x) ps (how.keeps p next.0.comes x good) next.1 in
      let put = put_alike f x p (risen came dep ps) good next.0 rest.next in
      record {
        next = put.next;
        same = put.same ∙ rest.same;
        made = IsPermutation-trans _ _ _ put.made (IsPermutation-append_left (how.entry p x ∷ []) _ _ rest.made);
        marks = put.marks ∙ rest.marks;
      }

  -- all orders that leave nothing come to one state, by the same entries
  pub record OneCome (x : State) (ps qs : List ℕ) : Type 0 where
    pub same : state x ps ≡ state x qs
    pub made : IsPermutation (entries x ps) (entries x qs)

  pub one_comes : (f : ℕ → Bool) (x : State) (ps qs : List ℕ) → how.Good x → AreNext came dep f ps → AreNext came dep f qs
      → NoneNext came dep (all_marked came dep f ps) → NoneNext came dep (all_marked came dep f qs) → OneCome x ps qs
  one_comes f x ps qs good next other_next none other_none =
      let alike = risen_alike f x ps good next in
      let other = risen_alike f x qs good other_next in
      let one : risen came dep ps ≡ risen came dep qs =
      one_rising came dep f _ _ alike.next other.next (rising_risen came dep f ps next) (rising_risen came dep f qs other_next)
      (subst (NoneNext came dep) (sym alike.marks) none) (subst (NoneNext came dep) (sym other.marks) other_none) in
      record {
        same = sym alike.same ∙ ap (state x) one ∙ other.same;
        made = IsPermutation-trans _ _ _ (IsPermutation-sym _ _ alike.made) (subst (λ rs. IsPermutation (entries x rs) (entries x qs)) (sym one) other.made);
      }
