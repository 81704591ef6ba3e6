use Rattle.std.proofs.Common.{refl, sym, ap, ◌∙◌}
use Rattle.report_text.specs.Texts.{purge_text}
use Rattle.site_state.specs.Purges.{site_purge, purge_answer}
use Rattle.world_state.specs.Answers.{number_there}
use Rattle.world.proofs.Written.{site_of-world, with_site-written}
use Rattle.world_commands.proofs.Printing.{printed_alone}
use Rattle.world_commands.proofs.sites.purge.Goals as goal

pub returns : goal.returns
returns c number =
    let there = site_of-world _ _ _ _ _ _ c.parts.view_is c.deref.ensures.value c.in-Some.ensures c.index_mut.ensures.value in
    record {
      passes = c.requires.passes;
      world = with_site-written _ _ _ _ _ _ c.parts.view_is c.deref.ensures.value c.in-Some.ensures c.index_mut.ensures.value site_purge c.purge-count.new.self c.purge-count.ensures.site;
      text = printed_alone _ _ _ _ c.in-Ok.ensures.bytes c.purge_line.ensures.bytes (ap (purge_text c.args.site.now.0) (c.purge-count.ensures.count ∙ sym (ap (number_there purge_answer) there)));
      outcome = refl;
    }
