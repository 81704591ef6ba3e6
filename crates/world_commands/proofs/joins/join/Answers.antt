use Rattle.std.proofs.Common.{refl, ap}
use Rattle.report_text.specs.Texts.{join_text}
use Rattle.world_commands.proofs.Printing.{printed_alone}
use Rattle.world_commands.proofs.joins.join.Goals as goal

pub returns : goal.returns
returns c number = record {
  passes = c.requires.passes;
  world = c.in-Ok-join_site.ensures.ok;
  text = printed_alone _ _ _ _ c.in-Ok.ensures.bytes c.join_line.ensures.bytes (ap (join_text c.args.site.now.0 c.args.source.now.0) c.in-Ok-join_site.ensures.rows);
  outcome = refl;
}
