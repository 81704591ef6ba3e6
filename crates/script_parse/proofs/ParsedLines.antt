-- A line by the command that its tokens are.
use Rattle.std.proofs.Common.{◌≡◌, ℕ, List, [], ◌∷◌, Result, Ok, Err}
use Rattle.script_lex.specs.declared.stop.LineStop.{LineStop}
use Rattle.script_lex.specs.declared.stop.LineStop.TheVariants as stop
use Rattle.script_lex.specs.declared.token.Token.{Token}
use Rattle.script_lex.specs.Stop.{Gives}
use Rattle.script_lex.specs.Lines.{lexed, HasTokens}
use Rattle.script_lex.proofs.Steps.{has_tokens}
use Rattle.script_words.specs.Reading.{◌>>=◌}
use Rattle.script_parse.specs.Parsed.{HasForm}

pub line_gives : {A : Type 0} (f : List Token → Result A ℕ) (line : List ℕ) (tokens : List Token) (r : Result A LineStop) → lexed line ≡ Ok tokens
    → Gives (HasForm tokens) (λ command. command) r (f tokens) → Gives (HasTokens line) (λ command. command) r (lexed line >>= f)
line_gives f line tokens (Ok command) read gives = rw read gives
line_gives f line [] (Err stop.Memory) read gives = absurd gives
line_gives f line (t ∷ ts) (Err stop.Memory) read gives = has_tokens line t ts read
line_gives f line tokens (Err (stop.Rule rule)) read gives = rw read gives
