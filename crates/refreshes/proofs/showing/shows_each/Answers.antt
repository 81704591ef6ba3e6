use Rattle.std.proofs.Common.{◌≡◌, Some, inl, inr, sym, ap, ◌∙◌, subst, arith}
use Rattle.std.specs.Prelude.{slice_get}
use Rattle.std.proofs.lemmas.Bool.{cases_lt}
use Rattle.rep_schema.specs.Tables.{Cells, columns_of, key_of, rows_of}
use Rattle.snapshot_query.specs.Queries.{matches}
use Rattle.refreshes.specs.Showing.{ShowsKey}
use Rattle.refreshes.proofs.showing.shows_each.Goals as goal

pub loop-place-preserved : goal.loop-place-preserved
loop-place-preserved g c = λ p row before there.
    let columns = columns_of (g.R.RowStore.schema c.args.store.now) c.args.table in
    let walked = rows_of (g.W.RowStore.tables c.args.walked.now) c.args.table in
    elim (cases_lt p c.loop-place.place) [
      | inl earlier ↦ c.loop-place.invariant p row earlier there
      | inr later ↦
          let here : p ≡ c.loop-place.place = omega (arith, before, later) in
          let found : Some c.in-Some.row.now ≡ Some row = c.in-Some.ensures ∙ ap (slice_get walked) (sym here) ∙ there in
          let same : c.in-Some.row.now ≡ row = cc found in
          subst (λ (x : Cells). ShowsKey columns (matches c.args.query.now) c.args.keys.now (rows_of (g.S.RowStore.tables c.args.master.now) c.args.table) (rows_of (g.R.RowStore.tables c.args.store.now) c.args.table) (key_of columns x)) same
          (c.shows_row.ensures.0 c.if-not-shows_row.false)
    ]
