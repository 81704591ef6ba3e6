-- Runs of bytes that pass a test, from the front.
use Rattle.std.proofs.Common.{◌≡◌, ◌≢◌, ℕ, zero, suc, ◌+◌, ◌<◌, ◌≤◌, Bool, true, false, cond, not, ◌&&◌, List, [], ◌∷◌, length, take, length-take-le, refl, arith, eqb}
use Rattle.std.proofs.lemmas.Bool.Decides.{nat_tests}
use Rattle.std.specs.List.{list_all, prefix_len}
use Rattle.rep_values.specs.Bytes.{is_digit}
use Rattle.script_lex.specs.Bytes.{is_plain}
use Rattle.script_lex.specs.Forms.{is_digits, is_closed}

module _ (p : ℕ → Bool) where
  -- each byte of a run passes
  pub run_passes : (bytes : List ℕ) → list_all p (take (prefix_len p bytes) bytes) ≡ true
  run_passes [] = refl
  run_passes (b ∷ bs) = go (p b) refl (run_passes bs)
    where
      go : (v : Bool) → p b ≡ v → list_all p (take (prefix_len p bs) bs) ≡ true
          → list_all p (take (cond v (1 + prefix_len p bs) 0) (b ∷ bs)) ≡ true
      go true is rest =
          let e : 1 + prefix_len p bs ≡ suc (prefix_len p bs) = omega arith in
          rw e (rw is rest)
      go false is rest = refl

  -- a front that is longer than the run has a byte that fails
  pub run_ends : (bytes : List ℕ) (k : ℕ) → prefix_len p bytes < k → k ≤ length bytes → list_all p (take k bytes) ≡ false
  run_ends [] k past within = absurd (omega arith)
  run_ends (b ∷ bs) zero past within = absurd (omega arith)
  run_ends (b ∷ bs) (suc k) past within = go (p b) refl past (run_ends bs k)
    where
      go : (v : Bool) → p b ≡ v → cond v (1 + prefix_len p bs) 0 < suc k
          → (prefix_len p bs < k → k ≤ length bs → list_all p (take k bs) ≡ false)
          → (v && list_all p (take k bs)) ≡ false
      go true is over more = more (omega arith) (omega arith)
      go false is over more = refl

-- a run of digits, where there is one
pub digits_pass : (bytes : List ℕ) → 0 < prefix_len is_digit bytes → is_digits (take (prefix_len is_digit bytes) bytes) ≡ true
digits_pass [] some = absurd (omega arith)
digits_pass (b ∷ bs) some = go (is_digit b) refl some (run_passes is_digit bs)
  where
    go : (v : Bool) → is_digit b ≡ v → 0 < cond v (1 + prefix_len is_digit bs) 0 → list_all is_digit (take (prefix_len is_digit bs) bs) ≡ true
        → is_digits (take (cond v (1 + prefix_len is_digit bs) 0) (b ∷ bs)) ≡ true
    go true is one rest =
        let e : 1 + prefix_len is_digit bs ≡ suc (prefix_len is_digit bs) = omega arith in
        rw e (rw is rest)
    go false is one rest = absurd (omega arith)

pub digits_end : (bytes : List ℕ) (k : ℕ) → prefix_len is_digit bytes < k → k ≤ length bytes → is_digits (take k bytes) ≡ false
digits_end [] k past within = absurd (omega arith)
digits_end (b ∷ bs) zero past within = absurd (omega arith)
digits_end (b ∷ bs) (suc k) past within = run_ends is_digit (b ∷ bs) (suc k) past within

-- bytes are closed by their first quote
pub closed_at : (bytes : List ℕ) → prefix_len is_plain bytes < length bytes → is_closed (take (suc (prefix_len is_plain bytes)) bytes) ≡ true
closed_at [] within = absurd (omega arith)
closed_at (b ∷ bs) within = go (eqb b 39) refl within (closed_at bs)
  where
    go : (v : Bool) → eqb b 39 ≡ v → cond (not v) (1 + prefix_len is_plain bs) 0 < length (b ∷ bs)
        → (prefix_len is_plain bs < length bs → is_closed (take (suc (prefix_len is_plain bs)) bs) ≡ true)
        → is_closed (take (suc (cond (not v) (1 + prefix_len is_plain bs) 0)) (b ∷ bs)) ≡ true
    go true is under more = rw is refl
    go false is under more =
        let e : 1 + prefix_len is_plain bs ≡ suc (prefix_len is_plain bs) = omega arith in
        rw e (rw is (more (omega arith)))

-- and by nothing else
pub closed_only : (bytes : List ℕ) (k : ℕ) → k ≢ suc (prefix_len is_plain bytes) → k ≤ length bytes → is_closed (take k bytes) ≡ false
closed_only [] zero other within = refl
closed_only [] (suc k) other within = refl
closed_only (b ∷ bs) zero other within = refl
closed_only (b ∷ bs) (suc k) other within = go (eqb b 39) refl other (closed_only bs k)
  where
    go : (v : Bool) → eqb b 39 ≡ v → suc k ≢ suc (cond (not v) (1 + prefix_len is_plain bs) 0)
        → (k ≢ suc (prefix_len is_plain bs) → k ≤ length bs → is_closed (take k bs) ≡ false)
        → cond v (eqb (length (take k bs)) 0) (is_closed (take k bs)) ≡ false
    go true is apart more =
        let long : length (take k bs) ≡ k = length-take-le k bs (omega arith) in
        rw long (grind (arith, nat_tests))
    go false is apart more = more (λ e. apart (omega arith)) (omega arith)
