-- A value of the key is added, and any other one is passed over.
use Rattle.std.proofs.Common.{◌<◌, ◌≤◌, ◌+◌, ◌++◌, length, min, pos, sym, ap, ◌∙◌, arith}
use Rattle.std.proofs.lemmas.List.{append-nil}
use Rattle.rep_values.specs.declared.value.Value.TheVariants.{Num}
use Rattle.rep_schema.proofs.KeyWalk.{key_from, key_from-other, key_from-end, gathered-key_step}
use Rattle.table_cells.proofs.tables.key_values.Goals as goal
use Rattle.table_cells.proofs.tables.key_values.Goals.{then-columns-place+in_ok-push, else-columns-place}

pub loop-place-preserved : goal.loop-place-preserved
loop-place-preserved c =
    let columns = c.args.columns.now in
    let row = c.args.row.now in
    let place = c.loop-place.place in
    let in_columns : place < length columns = omega arith in
    let in_row : place < length row = omega arith in
    elim c.if-columns-place.branch [
      | then-columns-place+in_ok-push w ↦ ap (λ vs. vs ++ key_from columns row (place + 1)) (ap (λ v. v.items) w.values-is ∙ w.in_ok-push.ensures.items)
          ∙ gathered-key_step columns row place _ w.index-row-place.result in_columns in_row _ _ w.if-columns-place.true w.index-row-place.is c.loop-place.invariant
      | else-columns-place w ↦ ap (λ v. v.items ++ key_from columns row (place + 1)) w.values-is
          ∙ ap (λ k. c.loop-place.values.items ++ k) (sym (key_from-other columns row place _ (Num (pos 0)) in_columns in_row w.if-columns-place.false)) ∙ c.loop-place.invariant
    ]

pub returns : goal.returns
returns c =
    let past : min (length c.args.columns.now) (length c.args.row.now) ≤ c.loop-place.place = omega arith in
    sym (append-nil c.loop-place.values.items) ∙ (rw (key_from-end _ _ _ past) at c.loop-place.invariant)
