-- A line read token by token.
use Rattle.std.proofs.Common.{◌≡◌, true, false, length, ◌++◌, List, map}
use Rattle.std.specs.List.{list_all}
use Rattle.std.specs.Option.{option_map}
use Rattle.rep_values.specs.Bytes.{is_printable}
use Rattle.script_lex.specs.declared.token.Token.{Token}
use Rattle.script_lex.specs.Tokens.{tokens_from}
use Rattle.script_lex.specs.Spans.{span_token, is_span}
use Rattle.script_lex.proofs.SpansAt.{IsLeft}
use Rattle.script_lex.proofs.lexer.spans_of.Given as goal

-- the tokens found so far and those of the rest are those of the line, and all found ones are kept unless memory lacks
abbrev pub invariant-loop-first : goal.invariant-loop-first
invariant-loop-first l = record {
  left : (tokens : List Token) × (option_map (λ ts. tokens ++ ts) (tokens_from 0 l.rest) ≡ tokens_from 0 l.line) × (l.lacks ≡ false → map (span_token l.line) l.found.items ≡ tokens);
  form : list_all (is_span l.line) l.found.items ≡ true;
  rest : IsLeft l.line l.rest;
  printable : list_all is_printable l.rest ≡ true;
}

abbrev pub decreases-loop-first : goal.decreases-loop-first
decreases-loop-first l = length l.rest
