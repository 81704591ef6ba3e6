-- Making rows anew key by key.
use Rattle.std.proofs.Common.{[], ◌∷◌, ◌+◌, ◌≤◌, length, drop, refl, ap, ◌∙◌, arith}
use Rattle.std.proofs.lemmas.List.{drop_all}
use Rattle.rep_lists.proofs.Places.{drop_from_place}
use Rattle.rep_schema.specs.Tables.{columns_of, rows_of}
use Rattle.subquery_snapshots.specs.Rules.{rule_picks}
use Rattle.subquery_snapshots.proofs.Renewing.{shown, one_more, goes_on, gone_on}
use Rattle.subquery_snapshots.proofs.fast.renew_keys.Goals as goal

pub loop-key-init : goal.loop-key-init
loop-key-init g c = record {
  schema = refl;
  tables = refl;
  rising = c.requires.rising;
  renewed = λ last renews. renews;
  rise = omega arith;
  lookups = omega arith;
}

pub renew_key-requires-clause-master : goal.renew_key-requires-clause-master
renew_key-requires-clause-master g c = rw c.loop-key.invariant.tables c.requires.master

pub loop-key-preserved : goal.loop-key-preserved
loop-key-preserved g c =
    let inv = c.loop-key.invariant in
    let schema = c.args.schema.now in
    let tables = g.M.MasterView.tables c.args.master.now in
    let columns = columns_of schema c.args.table in
    let key = c.key-item.result in
    let rest = drop (c.loop-key.key-index + 1) c.args.keys.now in
    let here = drop_from_place c.args.keys.now c.loop-key.key-index key c.loop-key-test.true c.key-item.is in
    let step = rw inv.tables at c.in_ok-renew_key.ensures.renewed in
    record {
      schema = c.renew_key.ensures.schema ∙ inv.schema;
      tables = c.renew_key.ensures.tables ∙ inv.tables;
      rising = step.rising;
      renewed = goes_on columns (shown columns (rule_picks schema tables c.args.rule.now) (rows_of tables c.args.table)) (key ∷ []) rest (key ∷ rest) c.args.keys.now
          c.args.rows.now.items c.loop-key.rows.items c.renew_key.new.rows.items (λ k. one_more k key rest) (rw here at inv.renewed) step;
      rise = omega (arith, c.renew_key.ensures.rise, inv.rise);
      lookups = omega (arith, c.renew_key.ensures.lookups, inv.lookups, ap length here);
    }

pub returns-in_err-renew_key-clause-lookups : goal.returns-in_err-renew_key-clause-lookups
returns-in_err-renew_key-clause-lookups g c =
    let here = drop_from_place c.args.keys.now c.loop-key.key-index c.key-item.result c.loop-key-test.true c.key-item.is in
    omega (arith, c.renew_key.ensures.lookups, c.loop-key.invariant.lookups, ap length here)

-- no key is left
pub returns-clause-renewed : goal.returns-clause-renewed
returns-clause-renewed g c =
    let inv = c.loop-key.invariant in
    let schema = c.args.schema.now in
    let tables = g.M.MasterView.tables c.args.master.now in
    let columns = columns_of schema c.args.table in
    let past : length c.args.keys.now ≤ c.loop-key.key-index = c.loop-key-test.false in
    gone_on columns (shown columns (rule_picks schema tables c.args.rule.now) (rows_of tables c.args.table)) c.args.keys.now
    c.args.rows.now.items c.loop-key.rows.items (rw (drop_all c.loop-key.key-index c.args.keys.now past) at inv.renewed) inv.rising
