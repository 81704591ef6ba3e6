use Rattle.std.proofs.Common.{inl, inr, refl, ap, ◌∙◌}
use Rattle.site_state.specs.Errors.{site_execute}
use Rattle.world.proofs.Written.{site_of-world, with_site-written, world-kept}
use Rattle.world_commands.proofs.Outcomes.{is_short, is_refused, execute_tried}
use Rattle.world_commands.proofs.Printing.{printed_alone}
use Rattle.world_commands.proofs.sites.execute.Goals as goal
use Rattle.world_commands.proofs.sites.execute.Goals.{in-Ok-execute_error, in-Err}

pub returns : goal.returns
returns c number =
    let there = site_of-world _ _ _ _ _ _ c.parts.view_is c.deref.ensures.value c.in-Some.ensures c.index_mut.ensures.value in
    let refused = execute_tried c.args.parts.now c.args.site.now c.args.origin.now c.args.position _ there c.requires.passes in
    elim c.match-execute_error.branch [
      | in-Ok-execute_error w ↦ rw w.result-is (record {
        passes = refused ∙ w.in-Ok-execute_error.ensures.executes;
        world = with_site-written _ _ _ _ _ _ c.parts.view_is c.deref.ensures.value c.in-Some.ensures c.index_mut.ensures.value (site_execute c.args.origin.now c.args.position) c.execute_error.new.self w.in-Ok-execute_error.ensures.ok;
        text = printed_alone _ _ _ _ c.in-Ok.ensures.bytes w.execute_line.ensures.bytes refl;
        outcome = refl;
      })
      | in-Err w ↦
          let kept = world-kept _ _ _ _ _ _ c.parts.view_is c.deref.ensures.value c.in-Some.ensures c.index_mut.ensures.value c.execute_error.new.self w.in-Err.ensures.kept in
          rw w.result-is (elim w.in-Err.ensures.err [
            | inl memory ↦ inl (is_short number _ _ _ _ (ap (λ refusal. record { line = number; refusal = refusal }) memory) (λ tried. cc) kept)
            | inr why ↦ inr (is_refused number _ _ _ _ refl refl (refused ∙ why) kept)
          ])
    ]
