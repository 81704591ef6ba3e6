-- There is a direction from each sender.
use Rattle.std.proofs.Common.{◌≡◌, List, true, ap, ◌∙◌, subst}
use Rattle.rep_values.specs.declared.name.SiteName.{SiteName}
use Rattle.rep_schema.specs.declared.schema.Schema.{Schema}
use Rattle.rep_schema.specs.Sites.{senders_of, is_among}
use Rattle.world_state.specs.World.{WorldState}
use Rattle.world_push.proofs.OneAfterAnother.{next_among, senders_linked}
use Rattle.world_push.proofs.lending.reaching.Goals as goal

pub reaches-requires : goal.reaches-requires
reaches-requires c =
    let name = c.args.name.now in
    let schema : c.schema.result.now ≡ c.args.parts.now.schema = c.schema.ensures.value ∙ ap (λ (w : WorldState). w.schema) c.parts.view_is in
    let items : c.as_slice-from-items.result.now ≡ senders_of c.args.parts.now.schema name =
    c.as_slice-from-items.ensures ∙ c.in_ok-senders.ensures ∙ ap (λ (s : Schema). senders_of s name) schema in
    (senders_linked name c.args.parts.now c.requires.built c.requires.behind c.from-item.result
    (subst (λ (names : List SiteName). is_among names c.from-item.result ≡ true) items
    (next_among c.as_slice-from-items.result.now name c.loop-from.from-index c.from-item.result c.loop-from-test.true c.from-item.is))).0
