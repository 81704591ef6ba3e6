-- The states that a run comes to, and the one at its end.
use Rattle.std.proofs.Common.{◌≡◌, ℕ, ◌+◌, List, [], ◌∷◌, ◌++◌, Bool, true, false, cond, length, suc, refl, sym, ap, ◌∙◌, subst, append_assoc, add-zero, arith}
use Rattle.script_drive.specs.Lines.{newline, whole_lines, lines_after}
use Rattle.script_drive.specs.Runs.{Stepped, goes, is_stopped, state_after, last_state}
use Rattle.script_drive.specs.Fed.{RunState, Fed, Reaches, ReachesFrom}
use Rattle.script_drive.proofs.LineLemmas.{lines_after-append}
use Rattle.script_drive.proofs.RunLemmas.{or_false, is_stopped-append, state_after-append}

module _ {W : Type 0} (step : W → ℕ → List ℕ → Stepped W) where
  -- where it stands
  pub reaches_here : (at : RunState W) (xs : List ℕ) → ReachesFrom step at xs at.state
  reaches_here at xs rest = ([], lines_after at.line (xs ++ rest), refl, refl, refl)

  -- behind a line that goes on
  pub reaches_line : (at : RunState W) (w : W) (out : List ℕ) → step at.state at.number at.line ≡ goes w out → ReachesFrom step at (newline ∷ []) w
  reaches_line at w out went rest = (at.line ∷ [], lines_after [] rest, refl, rw went refl, rw (went, state_after) refl)

  -- behind what was fed before
  pub reaches_behind : (old : RunState W) (xs out : List ℕ) (mid : RunState W) (rest : List ℕ) (w : W) → Fed step old xs out mid
      → Reaches step mid.state mid.number (lines_after mid.line rest) w → Reaches step old.state old.number (lines_after old.line (xs ++ rest)) w
  reaches_behind old xs out mid rest w fed reach =
      let ls = whole_lines old.line xs in
      let r = subst (λ (at : RunState W). Reaches step at.state at.number (lines_after at.line rest) w) fed.after reach in (
        ls ++ r.0,
        r.1,
        lines_after-append old.line xs rest ∙ (ap (λ l. ls ++ l) r.2 ∙ sym (append_assoc ls r.0 r.1)),
        is_stopped-append step old.state old.number ls r.0 fed.running ∙ r.3,
        r.4 ∙ sym (state_after-append step old.state old.number ls r.0),
      )

  pub reaches_more : (old : RunState W) (xs out : List ℕ) (mid : RunState W) (ys : List ℕ) (w : W) → Fed step old xs out mid → ReachesFrom step mid ys w
      → ReachesFrom step old (xs ++ ys) w
  reaches_more old xs out mid ys w fed reach rest = rw (append_assoc xs ys rest) (reaches_behind old xs out mid (ys ++ rest) w fed (reach rest))

  -- where it was fed to
  pub reaches_fed : (old : RunState W) (xs out : List ℕ) (mid : RunState W) → Fed step old xs out mid → ReachesFrom step old xs mid.state
  reaches_fed old xs out mid fed rest = reaches_behind old xs out mid rest mid.state fed ([], lines_after mid.line rest, refl, refl, refl)

  -- where more bytes were at hand
  pub reaches_longer : (old : RunState W) (xs zs : List ℕ) (w : W) → ReachesFrom step old xs w → ReachesFrom step old (xs ++ zs) w
  reaches_longer old xs zs w reach rest = rw (append_assoc xs zs rest) (reach (zs ++ rest))

  -- behind lines none of which ends the run, that run is one of the others
  pub last_state-append : (w : W) (n : ℕ) (xs ys : List (List ℕ)) → is_stopped step w n xs ≡ false
      → last_state step w n (xs ++ ys) ≡ last_state step (state_after step w n xs) (n + length xs) ys
  last_state-append w n [] ys running = ap (λ k. last_state step w k ys) (sym (add-zero n))
  last_state-append w n (l ∷ ls) ys running =
      let s = or_false (step w n l).stops (is_stopped step (step w n l).state (n + 1) ls) running in
      let next : n + 1 + length ls ≡ n + suc (length ls) = omega arith in
      rw s.0 (last_state-append (step w n l).state (n + 1) ls ys s.1 ∙ ap (λ k. last_state step (state_after step (step w n l).state (n + 1) ls) k ys) next)

  module _ (holds : W → Type 0) (keep : (w : W) (n : ℕ) (line : List ℕ) → holds w → holds (step w n line).state) where
    holds_here : (stops : Bool) (w w' : W) → holds w → holds w' → holds (cond stops w w')
    holds_here true w w' here later = here
    holds_here false w w' here later = later

    pub holds_at_end : (w : W) (n : ℕ) (lines : List (List ℕ)) → holds w → holds (last_state step w n lines)
    holds_at_end w n [] holding = holding
    holds_at_end w n (line ∷ lines) holding =
        let next = keep w n line holding in
        holds_here (step w n line).stops (step w n line).state (last_state step (step w n line).state (n + 1) lines) next (holds_at_end (step w n line).state (n + 1) lines next)

    -- what every step keeps, and holds of a state that a run comes to, holds at its end
    pub holds_behind_reached : (w : W) (n : ℕ) (lines : List (List ℕ)) (w' : W) → Reaches step w n lines w' → holds w' → holds (last_state step w n lines)
    holds_behind_reached w n lines w' reach holding =
        let end = ap (last_state step w n) reach.2 ∙ last_state-append w n reach.0 reach.1 reach.3 in
        rw end (holds_at_end (state_after step w n reach.0) (n + length reach.0) reach.1 (subst holds reach.4 holding))
