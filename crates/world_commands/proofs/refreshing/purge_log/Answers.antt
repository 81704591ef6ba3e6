-- The log of the table at its place is purged at its site.
use Rattle.std.proofs.Common.{◌≡◌, Some, refl, ap, sym, ◌∙◌}
use Rattle.report_text.specs.Texts.{purge_log_text}
use Rattle.rep_schema.specs.declared.schema.Schema.{Schema}
use Rattle.rep_schema.specs.Named.{table_place}
use Rattle.site_state.specs.Purges.{site_purge_log, purge_log_answer}
use Rattle.world_state.specs.World.{WorldState}
use Rattle.world_state.specs.Answers.{number_there}
use Rattle.world_state.specs.Steps.{log_purged_at}
use Rattle.world.specs.Texts.{log_purged_text}
use Rattle.world.proofs.Written.{site_of-world, with_site-written}
use Rattle.world_commands.proofs.Printing.{printed_alone}
use Rattle.world_commands.proofs.refreshing.purge_log.Goals as goal

pub returns : goal.returns
returns c number =
    let number = c.in-Some-table_place.number in
    let there = site_of-world _ _ _ _ _ _ c.parts.view_is c.deref.ensures.value c.in-Some.ensures c.index_mut.ensures.value in
    let schema : c.schema-schema.result.now ≡ c.args.parts.now.schema = c.schema-schema.ensures.value ∙ ap (λ (w : WorldState). w.schema) c.parts.view_is in
    let place : table_place c.args.parts.now.schema c.args.table.now ≡ Some number =
    ap (λ (s : Schema). table_place s c.args.table.now) (sym schema) ∙ sym (rw c.as_slice.ensures at c.in-Some-table_place.ensures) in
    record {
      passes = c.requires.passes;
      world = with_site-written _ _ _ _ _ _ c.parts.view_is c.deref.ensures.value c.in-Some.ensures c.index_mut.ensures.value (site_purge_log number) c.purge_log-count.new.self c.purge_log-count.ensures.site
          ∙ sym (ap (λ o. log_purged_at c.args.master.now o c.args.parts.now) place);
      text = printed_alone _ _ _ _ c.in-Ok.ensures.bytes c.purge_log_line.ensures.bytes
          (ap (purge_log_text c.args.master.now.0 c.args.table.now.0) (c.purge_log-count.ensures.count ∙ sym (ap (number_there (purge_log_answer number)) there))
          ∙ sym (ap (λ o. log_purged_text c.args.master.now c.args.table.now o c.args.parts.now) place));
      outcome = refl;
    }
