use Rattle.std.proofs.Common.{List, Bool, [], ap, ◌∙◌}
use Rattle.rep_schema.specs.declared.schema.Schema.{Schema}
use Rattle.rep_schema.specs.Tables.{Rows}
use Rattle.snapshot_query.specs.declared.snapshot.Snapshot.{Snapshot}
use Rattle.site_state.specs.Making.{new_site}
use Rattle.master_join.specs.Firsts.{with_firsts}
use Rattle.master_join.proofs.SetFirsts.{site_copy-made}
use Rattle.master_join.proofs.copy.copy_site.Goals as goal

pub returns : goal.returns
returns g c =
    let source = c.args.source.now in
    let here = c.args.here in
    let schema = c.copy_tables.ensures.schema ∙ c.requires.schema in
    let tables = c.in_ok-copy_tables.ensures.tables ∙ c.store.ensures.tables in
    let made =
    c.in_ok-site.ensures
    ∙ ap (λ (s : Schema). new_site s here c.below.result c.new.result (g.S.RowStore.tables c.copy_tables.new.store)) schema
    ∙ ap (λ (l : List Bool). new_site source.schema here l c.new.result (g.S.RowStore.tables c.copy_tables.new.store)) c.below.ensures
    ∙ ap (λ (ss : List Snapshot). new_site source.schema here [] ss (g.S.RowStore.tables c.copy_tables.new.store)) c.new.ensures
    ∙ ap (λ (rs : List Rows). new_site source.schema here [] [] rs) tables in
    c.set_firsts.ensures ∙ ap (with_firsts c.args.firsts.now) made ∙ site_copy-made source here c.args.firsts.now c.store.ensures.keyed.shape
