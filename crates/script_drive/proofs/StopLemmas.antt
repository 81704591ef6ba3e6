-- Behind a line that ends the run nothing is read but the rest of its piece.
use Rattle.std.proofs.Common.{arith, ◌≡◌, ◌≤◌, ◌<◌, ◌+◌, ◌⊎◌, inl, inr, ℕ, List, [], ◌∷◌, ◌++◌, length, true, refl, sym, ap, ◌∙◌, length-append}
use Rattle.std.proofs.lemmas.List.{append_cancel_right}
use Rattle.script_drive.specs.Lines.{whole_lines, pending}
use Rattle.script_drive.specs.Runs.{Stepped, is_stopped}
use Rattle.script_drive.specs.Told.{IsRunning, ReadsToStop, ReportsRead}
use Rattle.script_drive.specs.Laws.{StopEndsReading}
use Rattle.script_drive.proofs.LineLemmas.{whole_lines-append}
use Rattle.script_drive.proofs.RunLemmas.{printed-stopped}

-- of two fronts of the same bytes one is a front of the other, or it is longer
fronts : (xs ys zs ws : List ℕ) → xs ++ ys ≡ zs ++ ws → ((more : List ℕ) × (zs ≡ xs ++ more)) ⊎ (length zs < length xs)
fronts [] ys zs ws same = inl (zs, refl)
fronts (x ∷ xs) ys [] ws same = inr (omega arith)
fronts (x ∷ xs) ys (z ∷ zs) ws same = go (fronts xs ys zs ws (cc same))
  where
    go : ((more : List ℕ) × (zs ≡ xs ++ more)) ⊎ (length zs < length xs) → ((more : List ℕ) × (z ∷ zs ≡ x ∷ xs ++ more)) ⊎ (length (z ∷ zs) < length (x ∷ xs))
    go (inl front) = let first : z ≡ x = cc same in inl (front.0, λ i. first i ∷ front.1 i)
    go (inr shorter) = inr (omega arith)

module _ {W : Type 0} (step : W → ℕ → List ℕ → Stepped W) (start : W) where
  -- a run that was stopped stays so
  stopped_longer : (read more : List ℕ) → is_stopped step start 1 (whole_lines [] read) ≡ true → IsRunning step start (read ++ more) → ⊥
  stopped_longer read more stopped running =
      let later = (printed-stopped step start 1 (whole_lines [] read) (whole_lines (pending [] read) more) stopped).1 in
      let lines = ap (is_stopped step start 1) (whole_lines-append [] read more) in
      absurd (cc (lines, later, running))

  not_read : (read more left written : List ℕ) → is_stopped step start 1 (whole_lines [] read) ≡ true → ReportsRead step start ((read ++ more) ++ left) left written → ⊥
  not_read read more left written stopped told =
      let all : read ++ more ≡ told.1.0 = append_cancel_right (read ++ more) told.1.0 left told.1.1 in
      stopped_longer read more stopped (ap (λ (l : List ℕ). is_stopped step start 1 (whole_lines [] l)) all ∙ told.1.3)

  less_read : (most : ℕ) (read more left : List ℕ) → is_stopped step start 1 (whole_lines [] read) ≡ true → ReadsToStop step start most ((read ++ more) ++ left) left → length more < most
  less_read most read more left stopped told =
      let front = told.0 in
      let last = told.1 in
      let all : read ++ more ≡ front ++ last = append_cancel_right (read ++ more) (front ++ last) left told.2 in
      let sizes : length read + length more ≡ length front + length last = sym (length-append read more) ∙ (ap length all ∙ length-append front last) in
      go front last told.3 told.4 sizes (fronts read more front last all)
    where
      go : (front last : List ℕ) → length last ≤ most → IsRunning step start front → length read + length more ≡ length front + length last
          → ((rest : List ℕ) × (front ≡ read ++ rest)) ⊎ (length front < length read) → length more < most
      go front last few running sizes (inl longer) =
          absurd (stopped_longer read longer.0 stopped (ap (λ (l : List ℕ). is_stopped step start 1 (whole_lines [] l)) (sym longer.1) ∙ running))
      go front last few running sizes (inr shorter) = omega arith

  pub stop_ends_reading : (most : ℕ) (read more left written : List ℕ) → is_stopped step start 1 (whole_lines [] read) ≡ true → StopEndsReading step start most read more left written
  stop_ends_reading most read more left written stopped = record {
    fault = not_read read more left written stopped;
    stop = less_read most read more left stopped;
  }
