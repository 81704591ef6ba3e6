use Rattle.std.proofs.Common.{inr, refl, ◌∙◌}
use Rattle.site_state.specs.Errors.{site_drop}
use Rattle.world.proofs.Written.{site_of-world, with_site-written, world-kept}
use Rattle.world_commands.proofs.Outcomes.{is_refused, drop_tried}
use Rattle.world_commands.proofs.Printing.{printed_alone}
use Rattle.world_commands.proofs.sites.drop_error.Goals as goal
use Rattle.world_commands.proofs.sites.drop_error.Goals.{in-Ok-delete_error, in-Err}

pub returns : goal.returns
returns c number =
    let there = site_of-world _ _ _ _ _ _ c.parts.view_is c.deref.ensures.value c.in-Some.ensures c.index_mut.ensures.value in
    let refused = drop_tried c.args.parts.now c.args.site.now c.args.origin.now c.args.position _ there c.requires.passes in
    elim c.match-delete_error.branch [
      | in-Ok-delete_error w ↦ rw w.result-is (record {
        passes = refused ∙ w.in-Ok-delete_error.ensures.drops;
        world = with_site-written _ _ _ _ _ _ c.parts.view_is c.deref.ensures.value c.in-Some.ensures c.index_mut.ensures.value (site_drop c.args.origin.now c.args.position) c.delete_error.new.self w.in-Ok-delete_error.ensures.ok;
        text = printed_alone _ _ _ _ c.in-Ok.ensures.bytes w.drop_error_line.ensures.bytes refl;
        outcome = refl;
      })
      | in-Err w ↦
          let kept = world-kept _ _ _ _ _ _ c.parts.view_is c.deref.ensures.value c.in-Some.ensures c.index_mut.ensures.value c.delete_error.new.self w.in-Err.ensures.kept in
          rw w.result-is (inr (is_refused number _ _ _ _ refl refl (refused ∙ w.in-Err.ensures.err) kept))
    ]
