-- Collections without order, and what is chosen from a queue by its numbers.
use Rattle.std.proofs.Common.{◌≡◌, ◌≢◌, ℕ, ◌+◌, ◌≤◌, List, [], ◌∷◌, ◌++◌, length, Bool, true, false, cond, Some, refl, sym, subst, inl, inr, arith, append_assoc, append-nil}
use Rattle.std.specs.Prelude.{nat_lt}
use Rattle.std.proofs.lemmas.Bool.Decides.{eqb_tells, nat_tests}
use Rattle.rep_calls.specs.declared.call.Txn.{Txn}
use Rattle.deferred_queue.specs.Streams.{at_position}
use Rattle.convergence_laws.specs.Collections.{IsReordered, Skip, Swap, Then}
use Rattle.convergence_laws.specs.Collections as collections
use Rattle.convergence_laws.proofs.SameRows.{reordered_same, reordered_behind, reordered_front}
use Rattle.convergence_laws.specs.Pairs.{calls_in}

-- ---- collections

pub reordered_before : {X : Type 0} (zs : List X) {xs ys : List X} → IsReordered xs ys → IsReordered (xs ++ zs) (ys ++ zs)
reordered_before zs collections.None = reordered_same zs
reordered_before zs (Skip x p) = Skip x (reordered_before zs p)
reordered_before zs (Swap x y xs) = Swap x y (xs ++ zs)
reordered_before zs (Then p q) = Then (reordered_before zs p) (reordered_before zs q)

pub reordered_as : {X : Type 0} {xs ys : List X} → xs ≡ ys → IsReordered xs ys
reordered_as {X} {xs} e = subst (IsReordered xs) e (reordered_same xs)

-- two pieces change places
reordered_turned : {X : Type 0} (xs ys : List X) → IsReordered (xs ++ ys) (ys ++ xs)
reordered_turned xs ys = subst (λ zs. IsReordered (xs ++ zs) (ys ++ xs)) (append-nil ys)
    (subst (λ zs. IsReordered (xs ++ (ys ++ [])) (ys ++ zs)) (append-nil xs) (reordered_front xs ys []))

-- the calls of transactions in another order
pub calls_reordered : {txns others : List Txn} → IsReordered txns others → IsReordered (calls_in txns) (calls_in others)
calls_reordered collections.None = collections.None
calls_reordered (Skip x p) = reordered_before x.calls (calls_reordered p)
calls_reordered (Swap x y xs) =
    subst (λ zs. IsReordered zs ((calls_in xs ++ x.calls) ++ y.calls)) (sym (append_assoc (calls_in xs) y.calls x.calls))
    (subst (λ zs. IsReordered (calls_in xs ++ (y.calls ++ x.calls)) zs) (sym (append_assoc (calls_in xs) x.calls y.calls))
    (reordered_behind (calls_in xs) (reordered_turned y.calls x.calls)))
calls_reordered (Then p q) = Then (calls_reordered p) (calls_reordered q)

-- ---- what is chosen from a queue

-- those whose numbers pass a test; the oldest has number 1
abbrev pub chosen : {X : Type 0} → (ℕ → Bool) → List X → List X
chosen test [] = []
chosen test (x ∷ xs) = cond (test (length xs + 1)) (x ∷ chosen test xs) (chosen test xs)

module _ {X : Type 0} where
  pub chosen-same : (f g : ℕ → Bool) (xs : List X) → ((n : ℕ) → 1 ≤ n → n ≤ length xs → f n ≡ g n) → chosen f xs ≡ chosen g xs
  chosen-same f g [] same = refl
  chosen-same f g (x ∷ xs) same = rw (same (length xs + 1) (omega arith) (omega arith), chosen-same f g xs (λ n one le. same n one (omega (arith, le)))) refl

  -- none of them
  pub chosen-none : (f : ℕ → Bool) (xs : List X) → ((n : ℕ) → 1 ≤ n → n ≤ length xs → f n ≡ false) → chosen f xs ≡ []
  chosen-none f [] none = refl
  chosen-none f (x ∷ xs) none = rw (none (length xs + 1) (omega arith) (omega arith)) (chosen-none f xs (λ n one le. none n one (omega (arith, le))))

  -- those whose numbers are above one
  abbrev pub above : ℕ → List X → List X
  above least xs = chosen (nat_lt least) xs

  pub above-more : (least : ℕ) (x : X) (xs : List X) → least ≤ length xs → above least (x ∷ xs) ≡ x ∷ above least xs
  above-more least x xs le = let on : nat_lt least (length xs + 1) ≡ true = grind (arith, nat_tests, le) in rw on refl

  -- one more is chosen
  pub chosen-more : (f g : ℕ → Bool) (xs : List X) (n : ℕ) (x : X) → at_position n xs ≡ Some x → f n ≡ false → g n ≡ true → ((m : ℕ) → m ≢ n → f m ≡ g m) → IsReordered (x ∷ chosen f xs) (chosen g xs)
  chosen-more f g [] n x at off on same = cc
  chosen-more f g (y ∷ ys) n x at off on same = elim (eqb_tells n (length ys + 1)) [
    | inl here ↦
        let is : y ≡ x = some_same (rw here.0 at at) in
        let later : chosen f ys ≡ chosen g ys = chosen-same f g ys (λ m one le. same m (λ e. absurd (omega (arith, e, here.1, le)))) in
        let f_off : f (length ys + 1) ≡ false = subst (λ m. f m ≡ false) here.1 off in
        let g_on : g (length ys + 1) ≡ true = subst (λ m. g m ≡ true) here.1 on in
        rw (f_off, g_on, is, later) (reordered_same (x ∷ chosen g ys))
    | inr there ↦
        let rest : IsReordered (x ∷ chosen f ys) (chosen g ys) = chosen-more f g ys n x (rw there.0 at at) off on same in
        rw (same (length ys + 1) (λ e. there.1 (sym e))) (go (g (length ys + 1)) rest)
  ]
    where
      some_same : {A : Type 0} {a b : A} → Some a ≡ Some b → a ≡ b
      some_same e = cc e

      go : (b : Bool) → IsReordered (x ∷ chosen f ys) (chosen g ys) → IsReordered (x ∷ cond b (y ∷ chosen f ys) (chosen f ys)) (cond b (y ∷ chosen g ys) (chosen g ys))
      go true rest = Then (Swap x y (chosen f ys)) (Skip y rest)
      go false rest = rest
