-- Commands that are run in parts, and how many there are.
use Rattle.std.proofs.Common.{◌≡◌, ℕ, zero, suc, ◌+◌, ◌*◌, ◌-◌, ◌≤◌, ◌<◌, ◌%◌, ◌==◌, Bool, true, false, List, [], ◌++◌, length, length-append, refl, sym, ap, ◌∙◌, arith, lit≤}
use Rattle.std.specs.Prelude.{All, if◌then◌else◌}
use Rattle.std.proofs.lemmas.List.Sums.{fold-append}
use Rattle.std.proofs.lemmas.List.Elements.{All-from_recursion}
use Rattle.script_parse.specs.declared.command.Command.{Command}
use Rattle.storm_script.specs.Draws.{state_behind}
use Rattle.storm_script.specs.Opening.{opening}
use Rattle.storm_script.specs.Rounds.{drawn_push, storm_round, behind_round, storm_rounds}
use Rattle.storm_script.specs.Closing.{closing}
use Rattle.storm_script.specs.Laws.{IsLine, most_rounds}
use Rattle.storm_script.proofs.Lines.{opening_is_lines, round_is_lines, closing_is_lines}
use Rattle.replication_cli.specs.Runs.{Running, with_command, with_commands}

-- commands run in two parts
pub with_commands-append : (r : Running) (xs ys : List Command) → with_commands r (xs ++ ys) ≡ with_commands (with_commands r xs) ys
with_commands-append r xs ys = fold-append with_command r xs ys

-- each command of the opening is a line's
pub opening_lines : All IsLine opening
opening_lines = All-from_recursion IsLine opening opening_is_lines

-- each command of a round is
pub round_lines : (i x : ℕ) → i ≤ most_rounds → All IsLine (storm_round i x)
round_lines i x within = All-from_recursion IsLine (storm_round i x) (round_is_lines i x within)

-- each command of the closing is
pub closing_lines : All IsLine closing
closing_lines = All-from_recursion IsLine closing closing_is_lines

-- a round has at most five commands
pub length-round-le : (i x : ℕ) → length (storm_round i x) ≤ 5
unfolding storm_round
length-round-le i x = go (i % 10 == 0)
  where
    go : (b : Bool) → suc (suc (suc (length (if b then drawn_push (state_behind 2 x) else [])))) ≤ 5
    go true = lit≤ tt
    go false = lit≤ tt

pub length-opening : length opening ≡ 117
unfolding opening
length-opening = refl

pub length-closing : length closing ≡ 12
unfolding closing
length-closing = refl

-- the rounds that are left are the next one, and those behind it
pub rounds-next : (left i x : ℕ) → 0 < left → storm_rounds left i x ≡ storm_round i x ++ storm_rounds (left - 1) (i + 1) (behind_round i x)
rounds-next zero i x some = absurd (omega arith)
rounds-next (suc left) i x some = let e : suc left - 1 ≡ left = omega arith in rw e refl

-- so many rounds have at most five commands each
pub length-rounds-le : (left i x : ℕ) → length (storm_rounds left i x) ≤ 5 * left
length-rounds-le zero i x = lit≤ tt
length-rounds-le (suc left) i x =
    omega (arith, length-append (storm_round i x) (storm_rounds left (i + 1) (behind_round i x)), length-round-le i x, length-rounds-le left (i + 1) (behind_round i x))

-- a run that made one round more, with those that are left, is that of all of them
pub round-done : (r new target : Running) (count before x x' : ℕ) (cs : List Command) → before < count → cs ≡ storm_round (before + 1) x → new ≡ with_commands r cs
    → x' ≡ behind_round (before + 1) x → with_commands r (storm_rounds (count - before) (before + 1) x) ≡ target
    → with_commands new (storm_rounds (count - (before + 1)) (before + 1 + 1) x') ≡ target
round-done r new target count before x x' cs below is ran drawn so_far =
    let here : ℕ = before + 1 in
    let left : count - (before + 1) ≡ (count - before) - 1 = omega arith in
    ap (λ (n : Running). with_commands n (storm_rounds (count - (before + 1)) (here + 1) x')) (ran ∙ ap (with_commands r) is)
    ∙ ap (λ y. with_commands (with_commands r (storm_round here x)) (storm_rounds (count - (before + 1)) (here + 1) y)) drawn
    ∙ ap (λ n. with_commands (with_commands r (storm_round here x)) (storm_rounds n (here + 1) (behind_round here x))) left
    ∙ sym (with_commands-append r (storm_round here x) (storm_rounds ((count - before) - 1) (here + 1) (behind_round here x)))
    ∙ ap (with_commands r) (sym (rounds-next (count - before) here x (omega arith)))
    ∙ so_far
