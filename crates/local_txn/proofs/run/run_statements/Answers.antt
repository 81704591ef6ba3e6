-- Running the statements one after the other.
use Rattle.std.proofs.Common.{◌≡◌, ◌≤◌, ◌++◌, ◌∷◌, ◌+◌, length, drop, refl, ap, ◌∙◌, arith}
use Rattle.std.specs.Prelude.{None, slice_index}
use Rattle.rep_lists.proofs.Places.{drop_from_place}
use Rattle.rep_schema.specs.Putting.{after_changes, changes_of}
use Rattle.txn_effects.proofs.TransactionEffects.{IsApplied-none}
use Rattle.unique_resolve.specs.Numbers.{first_numbers}
use Rattle.unique_resolve.proofs.Settlements.{AreCounters-first}
use Rattle.txn_effects.specs.Statements.{BlockState, statement_refusal, statement_changes, block_state_after}
use Rattle.local_txn.specs.Running.{StatementGoesOn, StatementStopsAs, block_state_of}
use Rattle.local_txn.proofs.BlockSteps.{room_for-more, IsApplied-more, made_all-more, so_far-none, so_far-Ok, so_far-Err}
use Rattle.local_txn.proofs.run.run_statements.Goals as goal

pub loop-i-init : goal.loop-i-init
loop-i-init g c =
    let schema = g.R.RowStore.schema c.args.store.now in
    let before = g.R.RowStore.tables c.args.store.now in
    record {
      same = refl;
      stands = refl;
      number = omega (arith, c.in-Ok.ensures.len);
      capacity = c.in-Ok.ensures.capacity;
      made = rw c.in-Ok.ensures.items refl;
      applied = rw c.in-Ok.ensures.items (IsApplied-none schema before (first_numbers schema) c.holds_tables.ensures (AreCounters-first schema));
      room = λ t. rw c.in-Ok.ensures.items (omega arith);
      outcome = rw c.in-Ok.ensures.items (so_far-none schema c.args.footing.now.here c.args.statements.now (block_state_of c.args.footing.now before));
    }

pub returns-in-Err-clause-err : goal.returns-in-Err-clause-err
returns-in-Err-clause-err g c =
    let schema = g.R.RowStore.schema c.args.store.now in
    let before = g.R.RowStore.tables c.args.store.now in
    let now : BlockState = block_state_of c.loop-i.footing (g.R.RowStore.tables c.loop-i.store) in
    let here = c.args.footing.now.here in
    let statements = c.args.statements.now in
    let statement = c.index-statements-i.result in
    let at : drop c.loop-i.i statements ≡ statement ∷ drop (c.loop-i.i + 1) statements = drop_from_place statements c.loop-i.i statement c.loop-i-test.true c.index-statements-i.is in
    let stops : StatementStopsAs (statement_refusal schema here now statement) c.in-Err.refusal = rw (c.loop-i.invariant.same, c.loop-i.invariant.stands) at c.in-Err.ensures.err in
    so_far-Err schema here statements (block_state_of c.args.footing.now before) now c.loop-i.done.items c.loop-i.i c.loop-i.invariant.outcome statement at c.in-Err.refusal c.stop_at.result stops c.stop_at.ensures

pub loop-i-preserved : goal.loop-i-preserved
loop-i-preserved g c =
    let schema = g.R.RowStore.schema c.args.store.now in
    let before = g.R.RowStore.tables c.args.store.now in
    let rows = g.R.RowStore.tables c.loop-i.store in
    let now : BlockState = block_state_of c.loop-i.footing rows in
    let here = c.args.footing.now.here in
    let statements = c.args.statements.now in
    let statement = c.index-statements-i.result in
    let done = c.loop-i.done.items in
    let changes = changes_of c.in-Ok-run_in_room.change in
    let later = g.R.RowStore.tables c.run_in_room.new.store in
    let goes : StatementGoesOn schema statement rows later changes c.loop-i.footing c.run_in_room.new.footing = rw c.loop-i.invariant.same at c.in-Ok-run_in_room.ensures.ok in
    let accepted : statement_refusal schema here now statement ≡ None = rw c.loop-i.invariant.stands at goes.accepted in
    let are : changes ≡ statement_changes schema here now statement = rw c.loop-i.invariant.stands at goes.changes in
    let stands : block_state_of c.run_in_room.new.footing later ≡ block_state_after schema here now statement = rw c.loop-i.invariant.stands at goes.standing in
    let items : c.push_change.new.done.items ≡ done ++ statement_changes schema here now statement = c.push_change.ensures.items ∙ ap (λ cs. done ++ cs) are in
    let tables : later ≡ after_changes schema (statement_changes schema here now statement) rows =
    (rw c.loop-i.invariant.same at c.in-Ok-run_in_room.ensures.tables) ∙ ap (λ cs. after_changes schema cs rows) are in
    let few : length (done ++ changes) ≤ length statements =
    rw (← c.push_change.ensures.items) (omega (arith, c.push_change.new.done.ok, c.push_change.ensures.number, c.loop-i.invariant.number, c.loop-i-test.true)) in
    let at : drop c.loop-i.i statements ≡ statement ∷ drop (c.loop-i.i + 1) statements = drop_from_place statements c.loop-i.i statement c.loop-i-test.true c.index-statements-i.is in
    record {
      same = c.in-Ok-run_in_room.ensures.schema ∙ c.loop-i.invariant.same;
      stands = goes.here ∙ c.loop-i.invariant.stands;
      number = omega (arith, c.push_change.ensures.number, c.loop-i.invariant.number);
      capacity = omega (arith, c.push_change.ensures.capacity, c.loop-i.invariant.capacity);
      made = rw items (tables ∙ made_all-more schema here before rows done (statement_changes schema here now statement) c.loop-i.invariant.made);
      applied = rw items (IsApplied-more schema here c.requires.shape c.requires.keys c.requires.apart before now done statement c.loop-i.invariant.made c.loop-i.invariant.applied accepted);
      room = λ t. rw c.push_change.ensures.items
          (room_for-more t done changes (slice_index (g.R.RowStore.spare c.loop-i.store) t) (slice_index (g.R.RowStore.spare c.run_in_room.new.store) t) (length statements)
          (c.loop-i.invariant.room t) (c.in-Ok-run_in_room.ensures.room t) few);
      outcome = rw (items, stands)
          (so_far-Ok schema here statements (block_state_of c.args.footing.now before) now done c.loop-i.i c.loop-i.invariant.outcome statement at accepted);
    }
