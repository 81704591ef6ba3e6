use Rattle.std.proofs.Common.{rules, ◌≡◌, ◌∙◌, nat_eq, codes, true, false}
use Rattle.std.specs.Cmp.Lexicographic.{pointwise}
use Rattle.command_line.proofs.FormLemmas.{asked-run, asked-storm}
use Rattle.command_line.proofs.forms.is_form.Goals as goal

pub returns-then-eq : goal.returns-then-eq
returns-then-eq c =
    let run : pointwise nat_eq c.in-Some.name.now.now (codes "run") ≡ true = search rules in
    c.is_run.ensures ∙ asked-run c.args.words.now c.in-Some.words.now c.in-Some.name.now c.in-Some.ensures.cases.0 run

pub returns-then-eq-2 : goal.returns-then-eq-2
returns-then-eq-2 c =
    let run : pointwise nat_eq c.in-Some.name.now.now (codes "run") ≡ false = search rules in
    let storm : pointwise nat_eq c.in-Some.name.now.now (codes "storm") ≡ true = search rules in
    c.is_storm.ensures ∙ asked-storm c.args.words.now c.in-Some.words.now c.in-Some.name.now c.in-Some.ensures.cases.0 run storm
