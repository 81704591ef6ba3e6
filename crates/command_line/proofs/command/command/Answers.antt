use Rattle.std.proofs.Common.{rules, ap, ap₂, ◌≡◌, ◌∙◌, true}
use Rattle.std.proofs.lemmas.Result.{IfOk-weaker}
use Rattle.clap.specs.Words.{app_of, rule_of, with_rule}
use Rattle.clap.specs.Simple.{app_of_fields, on_top}
use Rattle.command_line.specs.Command.{appliers_rule, count_rule, form_rule, json_rule, nameless, seed_rule}
use Rattle.command_line.proofs.command.command.Goals as goal

pub returns : goal.returns
returns c =
    let form : rule_of c.action.result ≡ form_rule = search rules in
    let seed : rule_of c.action-2.result ≡ seed_rule = search rules in
    let count : rule_of c.action-3.result ≡ count_rule = search rules in
    let appliers : rule_of c.action-4.result ≡ appliers_rule = search rules in
    let json : rule_of c.action-5.result ≡ json_rule = search rules in
    let empty : app_of c.no_binary_name-command.result ≡ nameless = ap app_of_fields c.no_binary_name-command.ensures ∙ ap (on_top (λ shape. record shape { no_binary_name = true })) c.new.ensures.app in
    let one = c.in_ok-command.ensures.shape (search rules) ∙ ap₂ with_rule empty form in
    let two = c.in_ok-command-2.ensures.shape (search rules) ∙ ap₂ with_rule one seed in
    let three = c.in_ok-command-3.ensures.shape (search rules) ∙ ap₂ with_rule two count in
    let four = c.in_ok-command-4.ensures.shape (search rules) ∙ ap₂ with_rule three appliers in
    IfOk-weaker c.arg-5.result _ _ (λ command added. added.shape (search rules) ∙ ap₂ with_rule four json) c.arg-5.ensures
