-- Where the names are right, what hinders quiet counts.
use Rattle.std.proofs.Common.{sym, ap, ◌∙◌}
use Rattle.rep_schema.specs.declared.schema.Schema.{Schema}
use Rattle.rep_schema.specs.Sites.{is_late_master}
use Rattle.world_state.specs.World.{WorldState}
use Rattle.world.proofs.Joining.{names_pass, quiet_seen}
use Rattle.world.proofs.parts.WorldParts.join_refusal.Goals as goal

pub returns : goal.returns
returns c =
    let w = c.args.self.now in
    let site = c.args.site.now in
    let schema_is = c.schema-schema.ensures.value ∙ ap (λ (v : WorldState). v.schema) c.self.view_is in
    let late = ap (λ (s : Schema). is_late_master s site) (sym schema_is) ∙ sym c.is_late_master.ensures ∙ c.if-not-is_late_master.false in
    c.quiet_step.ensures ∙ quiet_seen w _ _ _ _ c.self.view_is c.schema-schema.ensures.value c.deref.ensures.value c.as_slice-entries.ensures
    ∙ names_pass w site c.args.source.now late (sym c.is_there.ensures ∙ c.if-is_there.false) (sym c.has_master.ensures ∙ c.if-not-has_master.false)
