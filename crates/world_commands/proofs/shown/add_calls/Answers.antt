-- The site at the place that is found is the one of the name.
use Rattle.std.proofs.Common.{◌++◌, List, Option, append-nil, refl, sym, ap, ◌∙◌}
use Rattle.rep_schema.specs.declared.schema.Schema.{Schema}
use Rattle.rep_schema.specs.Tables.{Rows}
use Rattle.report_text.specs.Texts.{proc_tables_text}
use Rattle.proc_state.specs.State.{ProcState}
use Rattle.world.specs.Texts.{shown_calls}
use Rattle.world.proofs.ProcPlaces.{proc_of-read}
use Rattle.world_commands.proofs.shown.add_calls.Goals as goal

pub returns-in_default : goal.returns-in_default
returns-in_default c =
    let old = c.args.lines.now.bytes in
    sym (append-nil old) ∙ ap (λ (o : Option ProcState). old ++ shown_calls c.args.name.now o) (sym c.in_default.ensures)

pub returns : goal.returns
returns c =
    let old = c.args.lines.now.bytes in
    let name = c.args.name.now in
    let x = c.index-sites-place.result in
    let there = proc_of-read name c.args.sites.now c.args.sites.now _ _ refl c.in-Some.ensures c.index-sites-place.is in
    c.in_ok-add_proc_tables.ensures.ok
    ∙ ap (λ (s : Schema). old ++ proc_tables_text name.0 s c.store.result.now.tables) c.store.ensures.schema
    ∙ ap (λ (tables : List Rows). old ++ proc_tables_text name.0 x.schema tables) c.store.ensures.tables
    ∙ ap (λ (o : Option ProcState). old ++ shown_calls name o) (sym there)
