use Rattle.std.proofs.Common.{◌≡◌, ◌<◌, ◌==◌, ℕ, ◌+◌, Bool, false, List, map, ap, sym, ◌∙◌, subst}
use Rattle.std.specs.List.{AllByRecursion, list_any, range_with_len}
use Rattle.world_state.specs.Declaring.{has_snapshot}
use Rattle.site_making.proofs.TablesMarked.{AreThoseBelow, one_more, none_more, set_of_those}
use Rattle.site_making.proofs.table_sets.snapshot_here.Goals as goal
use Rattle.site_making.proofs.table_sets.snapshot_here.Goals.{then-has_snapshot+in_ok-push, else-has_snapshot}

pub loop-table-preserved : goal.loop-table-preserved
loop-table-preserved c =
    let holds : ℕ → Bool = has_snapshot c.args.snapshots.now c.args.site in
    let table = c.loop-table.table in
    let numbers = c.loop-table.numbers.items in
    let so_far : AreThoseBelow holds table numbers = c.loop-table.invariant in
    elim c.if-has_snapshot.branch [
      | then-has_snapshot+in_ok-push w ↦ subst (AreThoseBelow holds (table + 1)) (sym w.in_ok-push.ensures.items ∙ ap (λ v. v.items) (sym w.numbers-is))
          (one_more holds table numbers so_far c.loop-table-test.true (sym c.has_snapshot.ensures ∙ w.if-has_snapshot.true))
      | else-has_snapshot w ↦ subst (AreThoseBelow holds (table + 1)) (ap (λ v. v.items) (sym w.numbers-is)) (none_more holds table numbers so_far (sym c.has_snapshot.ensures ∙ w.if-has_snapshot.false))
    ]

pub set_of-requires : goal.set_of-requires
set_of-requires c = subst (λ (ns : List ℕ). AllByRecursion (λ n. n < 32) ns) (sym c.as_slice.ensures.value) c.loop-table.invariant.few

pub returns : goal.returns
returns c =
    let holds : ℕ → Bool = has_snapshot c.args.snapshots.now c.args.site in
    let are_held : c.set_of.result ≡ map holds (range_with_len 0 32) =
    set_of_those holds c.loop-table.table c.loop-table.numbers.items c.set_of.result c.loop-table.invariant c.loop-table-test.false c.set_of.ensures.whole
    (λ t. c.set_of.ensures.marks t ∙ ap (list_any (λ n. n == t)) c.as_slice.ensures.value) in
    ap (λ (tables : List Bool). record { site = c.args.site; is_master = false; tables = tables }) are_held
