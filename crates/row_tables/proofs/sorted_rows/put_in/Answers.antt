use Rattle.std.proofs.Common.{sym, ap, ◌∙◌, Some, inl, inr, arith}
use mathlib.Core.Bool.{false≢true}
use Rattle.rep_lists.proofs.Rising.{find_there, find_gap, put_there, put_gap}
use Rattle.row_tables.proofs.sorted_rows.put_in.Goals as goal

pub returns-in-Ok-clause-replaced : goal.returns-in-Ok-clause-replaced
returns-in-Ok-clause-replaced c =
    let there = rw (c.as_slice.ensures, c.values.ensures.value) at c.in-Ok.ensures.found in
    ap Some c.replace.ensures.value ∙ sym (find_there _ _ _ _ there)

pub returns-in-Ok-clause-rows : goal.returns-in-Ok-clause-rows
returns-in-Ok-clause-rows c =
    let there = rw (c.as_slice.ensures, c.values.ensures.value) at c.in-Ok.ensures.found in
    c.replace.ensures.items ∙ sym (put_there _ _ _ _ there)

pub returns-in-Err-clause-replaced : goal.returns-in-Err-clause-replaced
returns-in-Err-clause-replaced c = let gap = rw (c.as_slice.ensures, c.values.ensures.value) at c.in-Err.ensures.absent in sym (find_gap _ _ _ gap)

pub returns-in-Err-clause-rows : goal.returns-in-Err-clause-rows
returns-in-Err-clause-rows c =
    let gap = rw (c.as_slice.ensures, c.values.ensures.value) at c.in-Err.ensures.absent in
    c.insert.ensures.items ∙ sym (put_gap _ _ _ _ gap)

-- no row has the key, so there is room
pub insert-requires-clause-room : goal.insert-requires-clause-room
insert-requires-clause-room c =
    let gap = rw (c.as_slice.ensures, c.values.ensures.value) at c.in-Err.ensures.absent in
    elim c.requires.room [
      | inl there ↦ absurd (false≢true (rw (find_gap _ _ _ gap) at there))
      | inr room ↦ omega arith
    ]
