use Rattle.std.proofs.Common.{rules, ◌∙◌, ap, map}
use Rattle.std.proofs.lemmas.Result.{IfErr-weaker, IfOk-weaker}
use Rattle.clap.specs.Words.{found_of, is_simple, matches_of, takes}
use Rattle.command_line.proofs.AskedLemmas.{asked-read}
use Rattle.command_line.proofs.ReadLemmas.{asked_of_found-rows, asked_of_rows}
use Rattle.command_line.proofs.command.matches_of.Goals as goal

pub returns-clause-value : goal.returns-clause-value
returns-clause-value c =
    let words = map (λ word. word.now) c.args.words.now in
    let is = c.in_ok-command.ensures in
    let read = asked-read words (search rules) in
    IfOk-weaker c.try_get_matches_from.result _ _ (λ matches h. asked_of_found-rows (found_of matches) ∙ (ap asked_of_rows ((h (ap is_simple is)).0 ∙ ap (λ app. matches_of app words) is) ∙ read.asked)) c.try_get_matches_from.ensures.matches

pub returns-clause-memory : goal.returns-clause-memory
returns-clause-memory c =
    let words = map (λ word. word.now) c.args.words.now in
    let read = asked-read words (search rules) in
    IfErr-weaker c.try_get_matches_from.result _ _ (λ error h. h (ap (λ app. takes app words) c.in_ok-command.ensures ∙ read.taken)) c.try_get_matches_from.ensures.passes
