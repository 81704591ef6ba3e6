-- Lines within the limits and beyond them.
use Rattle.std.proofs.Common.{◌≡◌, ◌≢◌, ◌≤◌, ◌<◌, ℕ, List, [], ◌∷◌, ◌++◌, length, refl, ◌∙◌, arith, length-append}
use Rattle.std.proofs.lemmas.Bool.{lt-ltb, le-ltb}
use Rattle.script_drive.specs.Lines.{newline, lines_after}
use Rattle.script_drive.specs.Runs.{Stepped, halts}
use Rattle.script_drive.specs.Limits.{limited}
use Rattle.script_drive.specs.Fed.{RunState}
use Rattle.script_drive.proofs.LineLemmas.{starts_line, some_line}
use Rattle.script_drive.proofs.EndLemmas.{HaltsFirst, halts_first}

module _ {W : Type 0} (most_lines most_bytes : ℕ) (refusal : ℕ → ℕ → List ℕ) (step : W → ℕ → List ℕ → Stepped W) where
  pub limited-many : (w : W) (n : ℕ) (line : List ℕ) → most_lines < n → limited most_lines most_bytes refusal step w n line ≡ halts w (refusal n 2)
  unfolding limited
  limited-many w n line many = rw (lt-ltb most_lines n many) refl

  pub limited-long : (w : W) (n : ℕ) (line : List ℕ) → n ≤ most_lines → most_bytes < length line → limited most_lines most_bytes refusal step w n line ≡ halts w (refusal n 1)
  unfolding limited
  limited-long w n line few long = rw (le-ltb most_lines n few, lt-ltb most_bytes (length line) long) refl

  pub limited-within : (w : W) (n : ℕ) (line : List ℕ) → n ≤ most_lines → length line ≤ most_bytes → limited most_lines most_bytes refusal step w n line ≡ step w n line
  unfolding limited
  limited-within w n line few short = rw (le-ltb most_lines n few, le-ltb most_bytes (length line) short) refl

  -- a byte behind the last line
  pub one_line_too_many : (at : RunState W) (b : ℕ) (rest : List ℕ) → most_lines < at.number → HaltsFirst (limited most_lines most_bytes refusal step) at (b ∷ rest) (refusal at.number 2)
  one_line_too_many at b rest many =
      let l = some_line at.line b rest in
      halts_first (limited most_lines most_bytes refusal step) at (b ∷ rest) l.0 l.1 at.state (refusal at.number 2) l.2 (limited-many at.state at.number l.0 many)

  -- a byte that makes a line too long
  pub line_too_long : (at : RunState W) (b : ℕ) (rest : List ℕ) → at.number ≤ most_lines → most_bytes ≤ length at.line → b ≢ newline
      → HaltsFirst (limited most_lines most_bytes refusal step) at (b ∷ rest) (refusal at.number 1)
  line_too_long at b rest few full other =
      let l = starts_line at.line b rest other in
      let long : most_bytes < length ((at.line ++ b ∷ []) ++ l.0) = omega (arith, length-append at.line (b ∷ []), length-append (at.line ++ b ∷ []) l.0) in
      halts_first (limited most_lines most_bytes refusal step) at (b ∷ rest) ((at.line ++ b ∷ []) ++ l.0) l.1 at.state (refusal at.number 1) l.2
      (limited-long at.state at.number ((at.line ++ b ∷ []) ++ l.0) few long)

  -- a line within the limits that ends the run
  pub line_halts : (at : RunState W) (rest : List ℕ) (w : W) (out : List ℕ) → at.number ≤ most_lines → length at.line ≤ most_bytes → step at.state at.number at.line ≡ halts w out
      → HaltsFirst (limited most_lines most_bytes refusal step) at (newline ∷ rest) out
  line_halts at rest w out few short halted =
      halts_first (limited most_lines most_bytes refusal step) at (newline ∷ rest) at.line (lines_after [] rest) w out refl
      (limited-within at.state at.number at.line few short ∙ halted)
