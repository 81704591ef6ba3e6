-- What a call that may stop at a line answers.
use Rattle.std.specs.Prelude.{◌≡◌, ℕ, Result, Ok, Err}
use Rattle.script_lex.specs.declared.stop.BrokenRule.{BrokenRule}
use Rattle.script_lex.specs.declared.stop.LineStop.{LineStop}
use Rattle.script_lex.specs.declared.stop.LineStop.TheVariants as stop

-- a rule is the one that reading breaks, and there is want of memory only where Wants holds
abbrev pub Fails : {Y : Type 0} → Type 0 → LineStop → Result Y ℕ → Type 0
Fails Wants stop.Memory read = Wants
Fails Wants (stop.Rule rule) read = read ≡ Err rule

-- a value, as view sees it, is what reading gives, and else it stops so
abbrev pub Gives : {X Y : Type 0} → Type 0 → (X → Y) → Result X LineStop → Result Y ℕ → Type 0
Gives Wants view (Ok x) read = read ≡ Ok (view x)
Gives Wants view (Err e) read = Fails Wants e read

-- the same of a call that wants no memory
abbrev pub GivesExactly : {X Y : Type 0} → (X → Y) → Result X BrokenRule → Result Y ℕ → Type 0
GivesExactly view (Ok x) read = read ≡ Ok (view x)
GivesExactly view (Err broken) read = read ≡ Err broken.0
