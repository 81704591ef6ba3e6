-- Whether an update's key and sets are in order.
use Rattle.std.proofs.Common.{◌≡◌, true, false, sym, ◌∙◌}
use Rattle.std.specs.Prelude.{◌&&◌}
use Rattle.std.proofs.lemmas.Bool.{and_from, and_left, and_right}
use Rattle.rep_schema.specs.Tables.{columns_of}
use Rattle.txn_effects.specs.Literals.{key_literals_fit}
use Rattle.txn_effects.specs.ByColumn.{AreSets, takes_each, fills_some}
use Rattle.local_txn.proofs.StatementSteps.{order_RowShape, order_FilledBySite, AreInOrder-found}
use Rattle.local_txn.proofs.statement.sets_in_order.Goals.{then-not-key_literals_fit-via-then-not-key_literals_fit, then-not-key_literals_fit-via-else-not-key_literals_fit+then-not-takes_each}
use Rattle.local_txn.proofs.statement.sets_in_order.Goals as goal

pub returns-then-not-key_literals_fit-clause-err : goal.returns-then-not-key_literals_fit-clause-err
returns-then-not-key_literals_fit-clause-err c =
    let schema = c.args.schema.now in
    let columns = columns_of schema c.args.table in
    let are : AreSets columns c.args.sets.now c.in_ok-found.found = rw c.columns_of-columns.ensures at c.in_ok-found.ensures.ok in
    let fits : c.key_literals_fit.result ≡ key_literals_fit schema columns c.args.key.now = rw c.columns_of-columns.ensures at c.key_literals_fit.ensures in
    let unfit : (key_literals_fit schema columns c.args.key.now && takes_each columns c.in_ok-found.found) ≡ false = elim c.then-not-key_literals_fit.branch [
      | then-not-key_literals_fit-via-then-not-key_literals_fit w ↦ and_left (key_literals_fit schema columns c.args.key.now) (takes_each columns c.in_ok-found.found) (sym fits ∙ w.if-not-key_literals_fit.true)
      | then-not-key_literals_fit-via-else-not-key_literals_fit+then-not-takes_each w ↦
          let takes : w.takes_each.result ≡ takes_each columns c.in_ok-found.found = rw c.columns_of-columns.ensures at w.takes_each.ensures in
          and_right (key_literals_fit schema columns c.args.key.now) (takes_each columns c.in_ok-found.found) (sym takes ∙ w.if-not-takes_each.true)
    ] in
    order_RowShape schema c.args.table c.args.key.now c.args.sets.now c.in_ok-found.found are unfit

pub returns-then-fills_some-clause-err : goal.returns-then-fills_some-clause-err
returns-then-fills_some-clause-err c =
    let schema = c.args.schema.now in
    let columns = columns_of schema c.args.table in
    let are : AreSets columns c.args.sets.now c.in_ok-found.found = rw c.columns_of-columns.ensures at c.in_ok-found.ensures.ok in
    let fits : key_literals_fit schema columns c.args.key.now ≡ true = sym (rw c.columns_of-columns.ensures at c.key_literals_fit.ensures) ∙ c.if-not-key_literals_fit.false in
    let takes : takes_each columns c.in_ok-found.found ≡ true = sym (rw c.columns_of-columns.ensures at c.takes_each.ensures) ∙ c.if-not-takes_each.false in
    let fills : fills_some columns c.in_ok-found.found ≡ true = sym (rw c.columns_of-columns.ensures at c.fills_some.ensures) ∙ c.if-fills_some.true in
    order_FilledBySite schema c.args.table c.args.key.now c.args.sets.now c.in_ok-found.found are (and_from _ _ fits takes) fills

pub returns-clause-ok : goal.returns-clause-ok
returns-clause-ok c =
    let schema = c.args.schema.now in
    let columns = columns_of schema c.args.table in
    let are : AreSets columns c.args.sets.now c.in_ok-found.found = rw c.columns_of-columns.ensures at c.in_ok-found.ensures.ok in
    let fits : key_literals_fit schema columns c.args.key.now ≡ true = sym (rw c.columns_of-columns.ensures at c.key_literals_fit.ensures) ∙ c.if-not-key_literals_fit.false in
    let takes : takes_each columns c.in_ok-found.found ≡ true = sym (rw c.columns_of-columns.ensures at c.takes_each.ensures) ∙ c.if-not-takes_each.false in
    let plain : fills_some columns c.in_ok-found.found ≡ false = sym (rw c.columns_of-columns.ensures at c.fills_some.ensures) ∙ c.if-fills_some.false in
    AreInOrder-found schema c.args.table c.args.key.now c.args.sets.now c.in_ok-found.found are (and_from _ _ fits takes) plain
