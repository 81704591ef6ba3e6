-- Laws of what lines print.
use Rattle.std.proofs.Common.{◌≡◌, ℕ, ◌+◌, List, [], ◌∷◌, ◌++◌, Bool, true, false, cond, ◌||◌, length, suc, refl, sym, ap, ◌∙◌, append_assoc, append-nil, add-zero, arith}
use Rattle.script_drive.specs.Fed.{Begins}
use Rattle.script_drive.specs.Runs.{Stepped, goes, halts, printed, is_stopped, state_after}

-- of an `or` that doesn't hold no side holds
pub or_false : (a b : Bool) → (a || b) ≡ false → (a ≡ false) × (b ≡ false)
or_false true b e = cc
or_false false b e = (refl, e)

-- a first line that stops, or one behind it that does
stop_here : (stops : Bool) (out more more' : List ℕ) (later later' : Bool) → (stops || later) ≡ true → (later ≡ true → (more' ≡ more) × (later' ≡ true))
    → (out ++ cond stops [] more' ≡ out ++ cond stops [] more) × ((stops || later') ≡ true)
stop_here true out more more' later later' stopped rest = (refl, refl)
stop_here false out more more' later later' stopped rest = let r = rest stopped in (ap (λ l. out ++ l) r.0, r.1)

front_here : (stops : Bool) (out more more' : List ℕ) → Begins more more' → Begins (out ++ cond stops [] more) (out ++ cond stops [] more')
front_here true out more more' begins = ([], sym (append-nil (out ++ [])))
front_here false out more more' begins = (begins.0, ap (λ l. out ++ l) begins.1 ∙ sym (append_assoc out more begins.0))

module _ {W : Type 0} (step : W → ℕ → List ℕ → Stepped W) where
  pub printed-append : (w : W) (n : ℕ) (xs ys : List (List ℕ)) → is_stopped step w n xs ≡ false
      → printed step w n (xs ++ ys) ≡ printed step w n xs ++ printed step (state_after step w n xs) (n + length xs) ys
  printed-append w n [] ys running = ap (λ k. printed step w k ys) (sym (add-zero n))
  printed-append w n (l ∷ ls) ys running =
      let s = or_false (step w n l).stops (is_stopped step (step w n l).state (n + 1) ls) running in
      let next : n + 1 + length ls ≡ n + suc (length ls) = omega arith in
      rw s.0 (ap (λ out. (step w n l).prints ++ out) (printed-append (step w n l).state (n + 1) ls ys s.1)
      ∙ (sym (append_assoc (step w n l).prints _ _)
      ∙ ap (λ k. ((step w n l).prints ++ printed step (step w n l).state (n + 1) ls) ++ printed step (state_after step (step w n l).state (n + 1) ls) k ys) next))

  pub is_stopped-append : (w : W) (n : ℕ) (xs ys : List (List ℕ)) → is_stopped step w n xs ≡ false
      → is_stopped step w n (xs ++ ys) ≡ is_stopped step (state_after step w n xs) (n + length xs) ys
  is_stopped-append w n [] ys running = ap (λ k. is_stopped step w k ys) (sym (add-zero n))
  is_stopped-append w n (l ∷ ls) ys running =
      let s = or_false (step w n l).stops (is_stopped step (step w n l).state (n + 1) ls) running in
      let next : n + 1 + length ls ≡ n + suc (length ls) = omega arith in
      rw s.0 (is_stopped-append (step w n l).state (n + 1) ls ys s.1 ∙ ap (λ k. is_stopped step (state_after step (step w n l).state (n + 1) ls) k ys) next)

  pub state_after-append : (w : W) (n : ℕ) (xs ys : List (List ℕ))
      → state_after step w n (xs ++ ys) ≡ state_after step (state_after step w n xs) (n + length xs) ys
  state_after-append w n [] ys = ap (λ k. state_after step w k ys) (sym (add-zero n))
  state_after-append w n (l ∷ ls) ys =
      let next : n + 1 + length ls ≡ n + suc (length ls) = omega arith in
      state_after-append (step w n l).state (n + 1) ls ys ∙ ap (λ k. state_after step (state_after step (step w n l).state (n + 1) ls) k ys) next

  -- behind a line that ends the run nothing is printed
  pub printed-stopped : (w : W) (n : ℕ) (xs ys : List (List ℕ)) → is_stopped step w n xs ≡ true
      → (printed step w n (xs ++ ys) ≡ printed step w n xs) × (is_stopped step w n (xs ++ ys) ≡ true)
  printed-stopped w n [] ys stopped = cc
  printed-stopped w n (l ∷ ls) ys stopped =
      stop_here (step w n l).stops (step w n l).prints (printed step (step w n l).state (n + 1) ls) (printed step (step w n l).state (n + 1) (ls ++ ys))
      (is_stopped step (step w n l).state (n + 1) ls) (is_stopped step (step w n l).state (n + 1) (ls ++ ys)) stopped
      (λ later. printed-stopped (step w n l).state (n + 1) ls ys later)

  -- what lines print is a front of what they and further ones print
  pub printed-front : (w : W) (n : ℕ) (xs ys : List (List ℕ)) → Begins (printed step w n xs) (printed step w n (xs ++ ys))
  printed-front w n [] ys = (printed step w n ys, refl)
  printed-front w n (l ∷ ls) ys =
      front_here (step w n l).stops (step w n l).prints (printed step (step w n l).state (n + 1) ls) (printed step (step w n l).state (n + 1) (ls ++ ys))
      (printed-front (step w n l).state (n + 1) ls ys)

  -- a first line that ends the run
  pub printed-halts : (w : W) (n : ℕ) (l : List ℕ) (more : List (List ℕ)) (w' : W) (out : List ℕ) → step w n l ≡ halts w' out
      → (printed step w n (l ∷ more) ≡ out) × (is_stopped step w n (l ∷ more) ≡ true)
  printed-halts w n l more w' out halted = (rw halted (append-nil out), rw halted refl)

  -- a first line that doesn't
  pub printed-goes : (w : W) (n : ℕ) (l : List ℕ) (more : List (List ℕ)) (w' : W) (out : List ℕ) → step w n l ≡ goes w' out
      → printed step w n (l ∷ more) ≡ out ++ printed step w' (n + 1) more
  printed-goes w n l more w' out went = rw went refl
