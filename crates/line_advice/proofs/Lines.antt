-- Lines that break a rule behind those of tokens, and the empty front of a line.
use Rattle.std.proofs.Common.{◌≡◌, ◌≢◌, ℕ, Bool, true, false, cond, List, [], ◌∷◌, length, Option, Some, None, Result, Ok, Err, refl, arith}
use Rattle.std.proofs.lemmas.Bool.Decides.{nat_tests}
use Rattle.std.specs.Prelude.{nat_le}
use Rattle.std.specs.List.{list_all}
use Rattle.rep_values.specs.Bytes.{is_printable}
use Rattle.script_lex.specs.declared.token.Token.{Token}
use Rattle.script_lex.specs.Tokens.{tokens_from}
use Rattle.script_lex.specs.Lines.{is_passed_over, or_rule, lexed, HasTokens}
use Rattle.script_lex.proofs.Steps.{has_tokens}
use Rattle.script_words.specs.Reading.{◌>>=◌}
use Rattle.script_parse.specs.Parsed.{command_of, parsed}
use Rattle.line_advice.specs.Fronts.{is_read, has_at_most}

-- no byte breaks no rule
pub empty_read : is_read [] ≡ true
unfolding lexed
empty_read = refl

-- and has no token
pub empty_has : (most : ℕ) → has_at_most most [] ≡ true
unfolding lexed
empty_has most = let zero : nat_le 0 most ≡ true = grind (arith, nat_tests) in zero

-- the rules of tokens
pub lexed_rule : (line : List ℕ) (rule : ℕ) → lexed line ≡ Err rule → rule ≢ 1 → rule ≢ 3 → rule ≢ 4 → ⊥
unfolding lexed
lexed_rule line rule is off1 off3 off4 = clash (nat_le (length line) 1024) (list_all is_printable line) (is_passed_over line) (tokens_from 0 line) is
  where
    clash : (short prints passed : Bool) (ts : Option (List Token))
        → cond {A = Result (List Token) ℕ} short (cond prints (cond passed (Ok []) (or_rule 4 ts)) (Err 3)) (Err 1) ≡ Err rule → ⊥
    clash false prints passed ts is = off1 cc
    clash true false passed ts is = off3 cc
    clash true true true ts is = cc
    clash true true false None is = off4 cc
    clash true true false (Some xs) is = cc

-- a line that breaks another rule than those of tokens has some
pub formless_has_tokens : (line : List ℕ) (rule : ℕ) → parsed line ≡ Err rule → rule ≢ 1 → rule ≢ 3 → rule ≢ 4 → HasTokens line
unfolding command_of
formless_has_tokens line rule broken off1 off3 off4 = go (lexed line) refl broken
  where
    go : (read : Result (List Token) ℕ) → lexed line ≡ read → (read >>= command_of) ≡ Err rule → HasTokens line
    go (Ok []) is from = absurd cc
    go (Ok (t ∷ ts)) is from = has_tokens line t ts is
    go (Err r) is from = absurd (lexed_rule line r is (λ e. off1 cc) (λ e. off3 cc) (λ e. off4 cc))
