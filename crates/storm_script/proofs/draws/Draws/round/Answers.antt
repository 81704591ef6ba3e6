-- The draws of a round name its commands, and it is a tenth round or another.
use Rattle.std.proofs.Common.{◌≡◌, List, subst}
use Rattle.std.specs.Prelude.{IfOk}
use Rattle.script_parse.specs.declared.command.Command.{Command}
use Rattle.storm_script.specs.Rounds.{transaction, storm_round}
use Rattle.storm_script.proofs.RoundCases.{round-other, behind_round-tenth, behind_round-other, round-drawn}
use Rattle.storm_script.proofs.draws.Draws.round.Goals as goal

pub returns-then-number-ne0-clause-commands : goal.returns-then-number-ne0-clause-commands
returns-then-number-ne0-clause-commands c =
    let told = round-other c.args.number c.args.self.now.state c.if-number-ne0.true in
    let same : transaction c.args.number c.site_at-site.result c.draw-id.result ≡ storm_round c.args.number c.args.self.now.state =
    cc (told, c.site_at-site.ensures, c.draw.ensures.value, c.draw.ensures.state, c.draw-id.ensures.value, c.draw-id.ensures.state) in
    subst (λ (cs : List Command). IfOk c.transaction.result (λ commands. commands.items ≡ cs)) same c.transaction.ensures

pub returns-then-number-ne0-clause-state : goal.returns-then-number-ne0-clause-state
returns-then-number-ne0-clause-state c =
    let told = behind_round-other c.args.number c.args.self.now.state c.if-number-ne0.true in
    cc (told, c.draw.ensures.state, c.draw-id.ensures.state)

pub returns-in_err-commands-clause-state : goal.returns-in_err-commands-clause-state
returns-in_err-commands-clause-state c =
    let told = behind_round-tenth c.args.number c.args.self.now.state c.if-number-ne0.false in
    cc (told, c.draw.ensures.state, c.draw-id.ensures.state, c.draw-2.ensures.state, c.draw_fates-fates.ensures.state)

pub returns-in_err-add_fated_push-clause-state : goal.returns-in_err-add_fated_push-clause-state
returns-in_err-add_fated_push-clause-state c =
    let told = behind_round-tenth c.args.number c.args.self.now.state c.if-number-ne0.false in
    cc (told, c.draw.ensures.state, c.draw-id.ensures.state, c.draw-2.ensures.state, c.draw_fates-fates.ensures.state)

pub returns-clause-commands : goal.returns-clause-commands
returns-clause-commands c =
    round-drawn c.args.number c.args.self.now.state c.draw.new.self.state c.draw-id.new.self.state c.draw-2.new.self.state c.draw.result c.draw-2.result c.draw-id.result
    c.site_at-site.result c.way_at-way.result c.draw_fates-fates.result c.in_ok-commands.commands.items c.add_fated_push.new.commands.items c.if-number-ne0.false
    c.draw.ensures.state c.draw.ensures.value c.site_at-site.ensures c.draw-id.ensures.state c.draw-id.ensures.value
    c.draw-2.ensures.state c.draw-2.ensures.value c.way_at-way.ensures c.draw_fates-fates.ensures.value c.in_ok-commands.ensures c.in_ok-add_fated_push.ensures

pub returns-clause-state : goal.returns-clause-state
returns-clause-state c =
    let told = behind_round-tenth c.args.number c.args.self.now.state c.if-number-ne0.false in
    cc (told, c.draw.ensures.state, c.draw-id.ensures.state, c.draw-2.ensures.state, c.draw_fates-fates.ensures.state)
