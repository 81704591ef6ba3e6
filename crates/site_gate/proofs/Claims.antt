-- Numbers that are claimed by views, each by one at most: tickets, and the places of own turns.
use Rattle.std.proofs.Common.{◌≡◌, ◌≢◌, ℕ, List, [], ◌∷◌, ◌++◌, ◌⊎◌, inl, inr, set, sym, ◌∙◌, subst}
use mathlib.Core.Option.{some}
use lib.ListN.{get_elem?}
use Rattle.atomic_table.proofs.Lists.{at_set, at_snoc, set_else}
use Rattle.site_gate.specs.Rule.{Exclusive}

module _ {V : Type 0} (Claims : V → ℕ → Type 0) where
  -- no view claims the number
  abbrev pub IsFree : List V → ℕ → Type 0
  IsFree views n = (j : ℕ) (u : V) → get_elem? views j ≡ some u → Claims u n → ⊥

  -- where a claim comes from after one view has changed: from that view, or from another
  abbrev FromOne : List V → ℕ → V → ℕ → ℕ → V → Type 0
  FromOne views id v n i a = ((i ≡ id) × (Claims v n ⊎ IsFree views n)) ⊎ ((i ≢ id) × (get_elem? views i ≡ some a))

  from_one : (views : List V) (id : ℕ) (v w : V) → ((n : ℕ) → Claims w n → Claims v n ⊎ IsFree views n) → (i n : ℕ) (a : V)
      → get_elem? (set views id w) i ≡ some a → Claims a n → FromOne views id v n i a
  from_one views id v w from i n a at claims = elim (at_set views id i w a at) [
    | inl h ↦ inl (h.0, from n (subst (λ x. Claims x n) (sym h.1) claims))
    | inr h ↦ inr h
  ]

  one_claims : (views : List V) (id : ℕ) (v : V) → get_elem? views id ≡ some v → Exclusive Claims views → (i j n : ℕ) (a b : V) → Claims a n → Claims b n
      → FromOne views id v n i a → FromOne views id v n j b → i ≡ j
  one_claims views id v at only i j n a b ca cb (inl x) (inl y) = x.0 ∙ sym y.0
  one_claims views id v at only i j n a b ca cb (inl x) (inr y) = elim x.1 [
    | inl claimed ↦ absurd (y.0 (sym (only id j n v b at y.1 claimed cb)))
    | inr free ↦ absurd (free j b y.1 cb)
  ]
  one_claims views id v at only i j n a b ca cb (inr x) (inl y) = elim y.1 [
    | inl claimed ↦ absurd (x.0 (only i id n a v x.1 at ca claimed))
    | inr free ↦ absurd (free i a x.1 ca)
  ]
  one_claims views id v at only i j n a b ca cb (inr x) (inr y) = only i j n a b x.1 y.1 ca cb

  -- one view changes, and claims what it claimed before, or what was free
  pub exclusive_set : (views : List V) (id : ℕ) (v w : V) → get_elem? views id ≡ some v → ((n : ℕ) → Claims w n → Claims v n ⊎ IsFree views n)
      → Exclusive Claims views → Exclusive Claims (set views id w)
  exclusive_set views id v w at from only i j n a b ai bj ca cb =
      one_claims views id v at only i j n a b ca cb (from_one views id v w from i n a ai ca) (from_one views id v w from j n b bj cb)

  -- a view comes that claims nothing
  pub exclusive_more : (views : List V) (w : V) → ((n : ℕ) → Claims w n → ⊥) → Exclusive Claims views → Exclusive Claims (views ++ w ∷ [])
  exclusive_more views w none only i j n a b ai bj ca cb =
      elim (at_snoc views w a i ai) [
        | inr e ↦ absurd (none n (subst (λ x. Claims x n) (sym e) ca))
        | inl p ↦ elim (at_snoc views w b j bj) [
          | inr e ↦ absurd (none n (subst (λ x. Claims x n) (sym e) cb))
          | inl q ↦ only i j n a b p q ca cb
        ]
      ]

  -- where a claim comes from after one view took in another
  abbrev FromTwo : List V → ℕ → ℕ → V → V → ℕ → ℕ → V → Type 0
  FromTwo views id other v w n i a = ((i ≡ id) × (Claims v n ⊎ Claims w n)) ⊎ ((i ≢ id) × (i ≢ other) × (get_elem? views i ≡ some a))

  module _ (views : List V) (id other : ℕ) (v w both spent : V) (at : get_elem? views id ≡ some v) (apart : other ≢ id)
      (there : get_elem? (set views id both) other ≡ some w) (from : (n : ℕ) → Claims both n → Claims v n ⊎ Claims w n)
      (none : (n : ℕ) → Claims spent n → ⊥) (only : Exclusive Claims views) where
    there_before : get_elem? views other ≡ some w
    there_before = sym (set_else views id other both apart) ∙ there

    from_two : (i n : ℕ) (a : V) → get_elem? (set (set views id both) other spent) i ≡ some a → Claims a n → FromTwo views id other v w n i a
    from_two i n a p claims = elim (at_set (set views id both) other i spent a p) [
      | inl h ↦ absurd (none n (subst (λ x. Claims x n) (sym h.1) claims))
      | inr h ↦ elim (at_set views id i both a h.1) [
        | inl k ↦ inl (k.0, from n (subst (λ x. Claims x n) (sym k.1) claims))
        | inr k ↦ inr (k.0, h.0, k.1)
      ]
    ]

    no_third : (j n : ℕ) (b : V) → Claims b n → j ≢ id → j ≢ other → get_elem? views j ≡ some b → Claims v n ⊎ Claims w n → ⊥
    no_third j n b cb away far q (inl claimed) = away (only j id n b v q at cb claimed)
    no_third j n b cb away far q (inr claimed) = far (only j other n b w q there_before cb claimed)

    two_claim : (i j n : ℕ) (a b : V) → Claims a n → Claims b n → FromTwo views id other v w n i a → FromTwo views id other v w n j b → i ≡ j
    two_claim i j n a b ca cb (inl x) (inl y) = x.0 ∙ sym y.0
    two_claim i j n a b ca cb (inl x) (inr y) = absurd (no_third j n b cb y.0 y.1 y.2 x.1)
    two_claim i j n a b ca cb (inr x) (inl y) = absurd (no_third i n a ca x.0 x.1 x.2 y.1)
    two_claim i j n a b ca cb (inr x) (inr y) = only i j n a b x.2 y.2 ca cb

    -- one view takes over what another claimed
    pub exclusive_join : Exclusive Claims (set (set views id both) other spent)
    exclusive_join i j n a b ai bj ca cb = two_claim i j n a b ca cb (from_two i n a ai ca) (from_two j n b bj cb)
