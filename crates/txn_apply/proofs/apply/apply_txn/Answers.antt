-- Applying the calls one after the other.
use Rattle.std.proofs.Common.{◌≡◌, ◌≤◌, ◌++◌, ◌∷◌, ◌+◌, length, drop, Ok, ap, ◌∙◌, arith}
use Rattle.std.specs.List.{AllByRecursion}
use Rattle.std.specs.Prelude.{slice_index}
use Rattle.rep_lists.proofs.Places.{drop_from_place}
use Rattle.conflict_detect.specs.Fits.{CallFits}
use Rattle.unique_resolve.specs.Numbers.{has_sequences}
use Rattle.txn_effects.specs.Calls.{Effect, call_effect}
use Rattle.rep_schema.specs.Putting.{after_changes, changes_of}
use Rattle.txn_effects.proofs.TransactionEffects.{so_far-Ok}
use Rattle.txn_apply.proofs.Stepping.{room_for-more, IsApplied-more, made_all-more}
use Rattle.txn_apply.proofs.apply.apply_txn.Goals as goal

pub loop-i-preserved : goal.loop-i-preserved
loop-i-preserved g c =
    let schema = g.R.RowStore.schema c.args.store.now in
    let before = g.R.RowStore.tables c.args.store.now in
    let now = g.R.RowStore.tables c.loop-i.store in
    let calls = c.as_slice-calls.result.now in
    let call = c.index-calls-i.result in
    let done = c.loop-i.done.items in
    let changes = changes_of c.in-Ok-apply_in_room.change in
    let one : Effect = record { changes = changes; numbers = c.apply_in_room.new.counters } in
    let fit : AllByRecursion (CallFits schema) calls = rw c.as_slice-calls.ensures c.requires.fits.calls in
    let gives : call_effect schema now c.loop-i.counters c.args.origin.now call ≡ Ok one = rw c.loop-i.invariant.same at c.in-Ok-apply_in_room.ensures.ok in
    let tables : g.R.RowStore.tables c.apply_in_room.new.store ≡ after_changes schema changes now = rw c.loop-i.invariant.same at c.in-Ok-apply_in_room.ensures.tables in
    let few : length (done ++ changes) ≤ length calls =
    rw (← c.push_change.ensures.items) (omega (arith, c.push_change.new.done.ok, c.push_change.ensures.number, c.loop-i.invariant.number, c.loop-i-test.true)) in
    let here : drop c.loop-i.i calls ≡ call ∷ drop (c.loop-i.i + 1) calls = drop_from_place calls c.loop-i.i call c.loop-i-test.true c.index-calls-i.is in
    record {
      same = c.in-Ok-apply_in_room.ensures.schema ∙ c.loop-i.invariant.same;
      number = omega (arith, c.push_change.ensures.number, c.loop-i.invariant.number);
      capacity = omega (arith, c.push_change.ensures.capacity, c.loop-i.invariant.capacity);
      still = λ none. c.in-Ok-apply_in_room.ensures.still (ap has_sequences c.loop-i.invariant.same ∙ none) ∙ c.loop-i.invariant.still none;
      made = rw c.push_change.ensures.items (tables ∙ made_all-more schema c.args.origin.now c.requires.shape c.requires.keys c.requires.apart calls fit before now c.loop-i.counters done c.loop-i.i call c.loop-i-test.true c.index-calls-i.is c.loop-i.invariant.made c.loop-i.invariant.applied changes);
      applied = rw c.push_change.ensures.items (IsApplied-more schema c.args.origin.now c.requires.shape c.requires.keys c.requires.apart calls fit before now c.loop-i.counters done c.loop-i.i call c.loop-i-test.true c.index-calls-i.is c.loop-i.invariant.made c.loop-i.invariant.applied one gives);
      room = λ t. rw c.push_change.ensures.items
          (room_for-more schema now c.loop-i.counters c.args.origin.now call one t done (slice_index (g.R.RowStore.spare c.loop-i.store) t) (slice_index (g.R.RowStore.spare c.apply_in_room.new.store) t) (length calls)
          gives (c.loop-i.invariant.room t) (c.in-Ok-apply_in_room.ensures.others t) (λ at. rw at c.in-Ok-apply_in_room.ensures.room) few);
      outcome = rw (c.push_change.ensures.items, tables)
          (so_far-Ok schema c.args.origin.now calls before now c.args.counters.now c.loop-i.counters done c.loop-i.i c.loop-i.invariant.outcome call one here gives);
    }
