-- Every row passes no tests.
use Rattle.std.proofs.Common.{◌≡◌, List, ap, ◌∙◌, subst}
use Rattle.std.specs.Prelude.{filter, IfOk}
use Rattle.rep_schema.specs.Tables.{Rows, rows_of}
use Rattle.snapshot_query.specs.declared.query.Test.{Test}
use Rattle.snapshot_query.specs.Queries.{matches}
use Rattle.world_commands.proofs.RuledRows.{all_pass}
use Rattle.world_commands.proofs.ruled.all_rows.Goals as goal

pub returns : goal.returns
returns c =
    let rows = rows_of c.args.store.now.tables c.args.table in
    subst (λ (wanted : Rows). IfOk c.rows_shown.result (λ shown. shown ≡ wanted)) (ap (λ (tests : List Test). filter (matches (record { tests = tests })) rows) c.new.ensures ∙ all_pass rows) c.rows_shown.ensures.rows
