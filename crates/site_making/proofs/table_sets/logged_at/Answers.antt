use Rattle.std.proofs.Common.{◌<◌, ◌==◌, ℕ, ◌+◌, Bool, List, ap, sym, ◌∙◌, subst}
use Rattle.std.specs.List.{AllByRecursion, list_any}
use Rattle.world_state.specs.Making.{is_logged}
use Rattle.site_making.proofs.TablesMarked.{AreThoseBelow, one_more, none_more, set_of_those}
use Rattle.site_making.proofs.table_sets.logged_at.Goals as goal
use Rattle.site_making.proofs.table_sets.logged_at.Goals.{then-is_logged+in_ok-push, else-is_logged}

pub loop-table-preserved : goal.loop-table-preserved
loop-table-preserved c =
    let logs : ℕ → Bool = is_logged c.as_slice-sites.result.now c.args.snapshots.now c.args.master.now in
    let table = c.loop-table.table in
    let numbers = c.loop-table.numbers.items in
    let so_far : AreThoseBelow logs table numbers = c.loop-table.invariant in
    elim c.if-is_logged.branch [
      | then-is_logged+in_ok-push w ↦ subst (AreThoseBelow logs (table + 1)) (sym w.in_ok-push.ensures.items ∙ ap (λ v. v.items) (sym w.numbers-is))
          (one_more logs table numbers so_far c.loop-table-test.true (sym c.is_logged.ensures ∙ w.if-is_logged.true))
      | else-is_logged w ↦ subst (AreThoseBelow logs (table + 1)) (ap (λ v. v.items) (sym w.numbers-is)) (none_more logs table numbers so_far (sym c.is_logged.ensures ∙ w.if-is_logged.false))
    ]

pub set_of-requires : goal.set_of-requires
set_of-requires c = subst (λ (ns : List ℕ). AllByRecursion (λ n. n < 32) ns) (sym c.as_slice.ensures.value) c.loop-table.invariant.few

pub returns : goal.returns
returns c =
    let logs : ℕ → Bool = is_logged c.args.schema.now.sites c.args.snapshots.now c.args.master.now in
    let so_far : AreThoseBelow logs c.loop-table.table c.loop-table.numbers.items =
    subst (λ sites. AreThoseBelow (is_logged sites c.args.snapshots.now c.args.master.now) c.loop-table.table c.loop-table.numbers.items) c.as_slice-sites.ensures c.loop-table.invariant in
    set_of_those logs c.loop-table.table c.loop-table.numbers.items c.set_of.result so_far c.loop-table-test.false c.set_of.ensures.whole
    (λ t. c.set_of.ensures.marks t ∙ ap (list_any (λ n. n == t)) c.as_slice.ensures.value)
