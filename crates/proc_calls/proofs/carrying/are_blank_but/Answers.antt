use Rattle.std.proofs.Common.{◌+◌, ◌-◌, ◌∙◌, length, length-drop, drop, sym, arith}
use Rattle.std.proofs.lemmas.List.{take_all}
use Rattle.proc_calls.proofs.Carried.{other_length_set, blank_beside}
use Rattle.proc_calls.proofs.carrying.are_blank_but.Goals as goal

pub returns-then-columns-values : goal.returns-then-columns-values
returns-then-columns-values c = sym (other_length_set c.args.columns.now c.args.values.now c.args.column c.if-columns-values.true)

pub returns-then-are_blank : goal.returns-then-are_blank
returns-then-are_blank c =
    let columns = c.args.columns.now in
    let values = c.args.values.now in
    let n = c.args.column + 1 in
    let front = sym c.are_blank.ensures ∙ c.if-are_blank.true in
    let behind = rw (take_all (length values - n) (drop n values) (omega (arith, length-drop n values)), take_all (length columns - n) (drop n columns) (omega (arith, length-drop n columns))) at c.are_blank-then-are_blank.ensures in
    rw (blank_beside columns values c.args.column c.if-columns-values.false c.requires, front) behind

pub returns-else-are_blank : goal.returns-else-are_blank
returns-else-are_blank c =
    let front = sym c.are_blank.ensures ∙ c.if-are_blank.false in
    rw (blank_beside c.args.columns.now c.args.values.now c.args.column c.if-columns-values.false c.requires, front) c.if-are_blank.false
