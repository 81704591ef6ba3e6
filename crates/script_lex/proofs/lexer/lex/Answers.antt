-- The tokens are those of the line as it stands.
use Rattle.std.proofs.Common.{◌≡◌, map, Ok}
use Rattle.script_lex.specs.Spans.{span_token}
use Rattle.script_lex.specs.Lines.{lexed}
use Rattle.script_lex.proofs.Steps.{line_tokens}
use Rattle.script_lex.proofs.lexer.lex.Goals as goal

pub returns : goal.returns
returns c =
    let line = c.args.line.now in
    let same : lexed line ≡ Ok (map (span_token line) c.deref.result.now) = rw c.deref.ensures.value c.in_ok-spans.ensures.read in
    line_tokens (λ tokens. tokens.items) (span_token line) line c.deref.result.now c.tokens_of.result same c.tokens_of.ensures
