-- The source stands at its place.
use Rattle.world_commands.proofs.JoinSteps.{source_is_there, joins_as_master, world_joined, rows_taken_over}
use Rattle.world_commands.proofs.joins.join_site.Goals as goal

pub unreachable-requires : goal.unreachable-requires
unreachable-requires c = source_is_there c.args.parts.now c.requires.built c.args.site.now c.args.source.now c.requires.passes _ _ c.parts.view_is c.deref.ensures.value c.in_default.ensures

pub copied-requires : goal.copied-requires
copied-requires c =
    joins_as_master c.args.parts.now c.requires.built c.args.site.now c.args.source.now c.requires.passes _ _ c.parts.view_is c.deref.ensures.value c.in-Some.place _ c.in-Some.ensures c.index-from.ensures

pub returns-clause-ok : goal.returns-clause-ok
returns-clause-ok c =
    world_joined c.args.parts.now c.requires.built c.args.site.now c.args.source.now c.requires.passes _ _ c.parts.view_is c.deref.ensures.value c.in-Some.place _ c.in-Some.ensures c.index-from.ensures
    c.deref-2.result.now c.add_site.new.sites.items c.in_ok-made.made c.deref-2.ensures.value c.in_ok-made.ensures c.in_ok-add_site.ensures.ok

pub returns-clause-rows : goal.returns-clause-rows
returns-clause-rows c =
    rows_taken_over c.args.parts.now c.requires.built c.args.site.now c.args.source.now c.requires.passes _ _ c.parts.view_is c.deref.ensures.value c.in-Some.place _ c.in-Some.ensures c.index-from.ensures
    c.in_ok-rows.rows c.store.result.now.tables c.in_ok-rows.ensures c.store.ensures.tables
