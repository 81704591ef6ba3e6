use Rattle.std.proofs.Common.{◌≡◌, ◌+◌, drop, true, false, sym, ◌∙◌, arith}
use Rattle.std.specs.Prelude.{slice_get, filter}
use Rattle.std.proofs.lemmas.List.{drop_all}
use Rattle.txn_effects.specs.Literals.{literal_there, is_given}
use Rattle.local_txn.proofs.LiteralWalk.{fails-here, fits-here, counted, literals_fit-end, given-more, given-other}
use Rattle.local_txn.proofs.literals.literals_fit.Goals as goal
use Rattle.local_txn.proofs.literals.literals_fit.Goals.{then-is_given+else-not-fits_there, else-is_given}

pub returns-then-not-fits_there : goal.returns-then-not-fits_there
returns-then-not-fits_there c =
    let column = c.column-item.result in
    let i = c.loop-column.column-index in
    let more = given-more (is_given c.args.given) c.args.columns.now i column c.loop-column-test.true c.column-item.is (sym c.is_given.ensures ∙ c.if-is_given.true) in
    let fails : literal_there c.args.schema.now column (slice_get c.args.literals.now c.loop-column.read) ≡ false = sym c.fits_there.ensures ∙ c.if-not-fits_there.true in
    sym (c.loop-column.invariant.rest ∙ rw more (fails-here c.args.schema.now c.args.literals.now c.loop-column.read column (filter (is_given c.args.given) (drop (i + 1) c.args.columns.now)) fails))

pub loop-column-preserved : goal.loop-column-preserved
loop-column-preserved c =
    let column = c.column-item.result in
    let i = c.loop-column.column-index in
    elim c.if-is_given.branch [
      | then-is_given+else-not-fits_there w ↦
          let more = given-more (is_given c.args.given) c.args.columns.now i column c.loop-column-test.true c.column-item.is (sym c.is_given.ensures ∙ w.if-is_given.true) in
          let fits : literal_there c.args.schema.now column (slice_get c.args.literals.now c.loop-column.read) ≡ true = sym w.fits_there.ensures ∙ w.if-not-fits_there.false in
          rw w.read-is (record {
            within = omega (arith, counted c.args.schema.now c.args.literals.now c.loop-column.read column fits);
            rest = c.loop-column.invariant.rest ∙ rw more (fits-here c.args.schema.now c.args.literals.now c.loop-column.read column (filter (is_given c.args.given) (drop (i + 1) c.args.columns.now)) fits);
          })
      | else-is_given w ↦
          let other = given-other (is_given c.args.given) c.args.columns.now i column c.loop-column-test.true c.column-item.is (sym c.is_given.ensures ∙ w.if-is_given.false) in
          rw w.read-is (record {
            within = c.loop-column.invariant.within;
            rest = rw other at c.loop-column.invariant.rest;
          })
    ]

pub returns : goal.returns
returns c =
    let none = drop_all c.loop-column.column-index c.args.columns.now c.loop-column-test.false in
    sym (c.loop-column.invariant.rest ∙ rw none (literals_fit-end c.args.schema.now c.args.literals.now c.loop-column.read c.loop-column.invariant.within))
