-- Tokens copied one by one.
use Rattle.std.proofs.Common.{◌≡◌, map, take}
use Rattle.script_lex.specs.Spans.{span_token}
use Rattle.script_lex.proofs.lexer.tokens_of.Given as goal

abbrev pub invariant-loop-span : goal.invariant-loop-span
invariant-loop-span l = l.tokens.items ≡ map (span_token l.line) (take l.span-index l.found)
