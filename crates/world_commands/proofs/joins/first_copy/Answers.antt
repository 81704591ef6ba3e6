use Rattle.std.proofs.Common.{◌≡◌, ap, ◌∙◌}
use Rattle.rep_schema.specs.declared.schema.Schema.{Schema}
use Rattle.txn_effects.specs.declared.local.Here.{Here}
use Rattle.site_state.specs.Making.{master_here}
use Rattle.site_state.specs.Joining.{site_copy}
use Rattle.world_commands.proofs.joins.first_copy.Goals as goal

pub returns : goal.returns
returns c =
    let source = c.args.source.now in
    let known : c.schema-schema.result.now ≡ source.schema = c.schema-schema.ensures.value ∙ c.store.ensures.schema in
    c.in_ok-first.ensures ∙ ap (λ (h : Here). site_copy source h c.args.firsts.now) (c.master_here-here.ensures ∙ ap (λ (s : Schema). master_here s c.args.site.now) known)
