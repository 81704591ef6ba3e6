-- What was run is kept.
use Rattle.std.proofs.Common.{List, ap, subst, ◌∙◌}
use Rattle.rep_values.specs.declared.name.SiteName.{SiteName}
use Rattle.live_laws.specs.declared.turn.Session.{Session}
use Rattle.world_run.specs.Lent.{LentWorld}
use Rattle.world_run.specs.LiveParts.{sessions_of}
use Rattle.world_run.specs.LiveAnswers.{RunsSessions}
use Rattle.run_story.proofs.PartEnds.{ended_is}
use Rattle.run_story.proofs.living.run_open.Goals as goal

pub returns : goal.returns
returns g c = record {
  turns = c.in_ok-turns.turns;
  runs = subst (λ (x : SiteName). RunsSessions x (sessions_of c.args.part) c.in_ok-turns.turns c.args.world.now.world c.run_sessions.new.world) c.site-name.ensures
      (subst (λ (s : List Session). RunsSessions c.site-name.result s c.in_ok-turns.turns c.args.world.now.world c.run_sessions.new.world) c.in_ok-sessions.ensures c.in_ok-turns.ensures);
  part = ended_is c.site-name.result c.args.part.site _ _ _ _ _ _ c.site-name.ensures (ap (λ (v : LentWorld). v.world) c.of-before.ensures) (c.of-kept.ensures ∙ c.in_ok-sessions.ensures) c.of.ensures;
}
