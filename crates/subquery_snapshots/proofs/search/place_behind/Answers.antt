use Rattle.std.proofs.Common.{◌≡◌, ◌+◌, ◌-◌, ◌/◌, ◌<◌, ◌≤◌, length, refl, sym, ◌∙◌, arith}
use Rattle.std.proofs.lemmas.List.{drop_all}
use Rattle.rep_lists.proofs.Places.{found_at}
use Rattle.rep_schema.specs.Tables.{columns_of, rows_of}
use Rattle.subquery_snapshots.proofs.Searching.{all_from, none_upto, parted_there}
use Rattle.subquery_snapshots.proofs.search.place_behind.Goals as goal

pub loop-low-init : goal.loop-low-init
loop-low-init g c =
    let rows = rows_of (g.S.PlacedRows.tables c.args.store.now) c.args.table in
    let past : length rows ≤ c.count-high.result = omega (arith, c.count-high.ensures) in
    record {
      part = omega arith;
      within = omega (arith, c.count-high.ensures);
      before = refl;
      behind = rw (drop_all c.count-high.result rows past) refl;
    }

pub loop-low-preserved-then-is_above : goal.loop-low-preserved-then-is_above
loop-low-preserved-then-is_above g c =
    let rows = rows_of (g.S.PlacedRows.tables c.args.store.now) c.args.table in
    let columns = columns_of (g.S.PlacedRows.schema c.args.store.now) c.args.table in
    let middle = c.loop-low.low + (c.loop-low.high - c.loop-low.low) / 2 in
    let below : middle < length rows = omega arith in
    let row = found_at rows middle below in
    let seen : c.columns_of-columns.result.now ≡ columns = rw c.schema.ensures.value at c.columns_of-columns.ensures in
    let is = rw seen at (c.is_above.ensures row.0 row.1) in
    record {
      part = omega arith;
      within = omega (arith, below);
      before = c.loop-low.invariant.before;
      behind = all_from columns c.args.key.now rows middle row.0 (c.schema.ensures.sound.each c.args.table c.requires).rising row.1 (sym is ∙ c.if-is_above.true);
    }

pub loop-low-preserved : goal.loop-low-preserved
loop-low-preserved g c =
    let rows = rows_of (g.S.PlacedRows.tables c.args.store.now) c.args.table in
    let columns = columns_of (g.S.PlacedRows.schema c.args.store.now) c.args.table in
    let middle = c.loop-low.low + (c.loop-low.high - c.loop-low.low) / 2 in
    let below : middle < length rows = omega arith in
    let row = found_at rows middle below in
    let seen : c.columns_of-columns.result.now ≡ columns = rw c.schema.ensures.value at c.columns_of-columns.ensures in
    let is = rw seen at (c.is_above.ensures row.0 row.1) in
    record {
      part = omega arith;
      within = c.loop-low.invariant.within;
      before = none_upto columns c.args.key.now rows middle row.0 (c.schema.ensures.sound.each c.args.table c.requires).rising row.1 (sym is ∙ c.if-is_above.false);
      behind = c.loop-low.invariant.behind;
    }

-- nothing is left
pub returns : goal.returns
returns g c =
    let rows = rows_of (g.S.PlacedRows.tables c.args.store.now) c.args.table in
    let columns = columns_of (g.S.PlacedRows.schema c.args.store.now) c.args.table in
    let same : c.loop-low.high ≡ c.loop-low.low = omega arith in
    parted_there columns c.args.key.now rows c.loop-low.low c.loop-low.invariant.before (rw same at c.loop-low.invariant.behind)
