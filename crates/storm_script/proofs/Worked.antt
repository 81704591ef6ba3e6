-- Rounds that are worked out by hand.
use Rattle.std.proofs.Common.{◌≡◌, pos, negsuc, [], ◌∷◌, None, refl, length, arith}
use Rattle.std.specs.Prelude.{codes, decimal}
use Rattle.std.proofs.lemmas.Fmt.{decimal-digits_of, decimal_digit}
use Rattle.rep_values.specs.declared.literal.Literal.TheVariants as literal
use Rattle.rep_calls.specs.declared.statement.Statement.TheVariants as statement
use Rattle.net_plan.specs.declared.fate.Fate.TheVariants as fate
use Rattle.script_parse.specs.declared.command.Command.TheVariants as command
use Rattle.script_parse.specs.Parts.{site_of, table_of, to_value, by_amount}
use Rattle.storm_script.specs.Draws.{next_draw, drawn}
use Rattle.storm_script.specs.Opening.{opening}
use Rattle.storm_script.specs.Rounds.{storm_round, behind_round}
use Rattle.storm_script.specs.Closing.{closing}
use Rattle.storm_script.specs.Storm.{storm_commands}

decimal_1 : decimal 1 ≡ codes "1"
decimal_1 = decimal_digit 1 (omega arith)

decimal_10 : decimal 10 ≡ codes "10"
decimal_10 = decimal-digits_of 10 (omega arith) (omega arith)

first_round : storm_round 1 7 ≡
    command.Txn (site_of (codes "C")) ∷
    command.Statement (statement.Update (table_of (codes "STOCK")) (literal.Words (codes "A") ∷ literal.Num (pos 31) ∷ [])
    (by_amount (codes "QTY") (negsuc 2) ∷ to_value (codes "TOP") (literal.Num (pos 1)) ∷ to_value (codes "NAME") (literal.Words (codes "n1")) ∷ [])) ∷
    command.Commit ∷ []
unfolding next_draw drawn storm_round
first_round = rw decimal_1 refl

tenth_round : storm_round 10 7 ≡
    command.Txn (site_of (codes "C")) ∷
    command.Statement (statement.Update (table_of (codes "STOCK")) (literal.Words (codes "A") ∷ literal.Num (pos 31) ∷ [])
    (by_amount (codes "QTY") (negsuc 2) ∷ to_value (codes "TOP") (literal.Num (pos 10)) ∷ to_value (codes "NAME") (literal.Words (codes "n10")) ∷ [])) ∷
    command.Commit ∷
    command.Fates (site_of (codes "B")) (site_of (codes "C")) (fate.Lose ∷ fate.Lose ∷ fate.Late ∷ []) ∷
    command.Push (site_of (codes "B")) (site_of (codes "C")) None ∷ []
unfolding next_draw drawn storm_round
tenth_round = rw decimal_10 refl

two_draws : behind_round 1 7 ≡ 17628806926561717905
unfolding next_draw behind_round
two_draws = refl

six_draws : behind_round 10 7 ≡ 2553420073753464661
unfolding next_draw behind_round
six_draws = refl

opening_has_117_commands : length opening ≡ 117
unfolding opening
opening_has_117_commands = refl

closing_has_12_commands : length closing ≡ 12
unfolding closing
closing_has_12_commands = refl

storm_of_20_rounds : length (storm_commands 7 20) ≡ 193
unfolding next_draw drawn opening storm_round behind_round closing
storm_of_20_rounds = refl
