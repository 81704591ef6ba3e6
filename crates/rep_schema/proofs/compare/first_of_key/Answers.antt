use Rattle.std.proofs.Common.{◌≡◌, ◌<◌, ◌≤◌, [], length, min, pos, sym, ap, ◌∙◌, arith}
use Rattle.rep_values.specs.declared.value.Value.TheVariants.{Num}
use Rattle.rep_schema.specs.Tables.{key_of}
use Rattle.rep_schema.proofs.KeyWalk.{key_from-key, key_from-other, key_from-end}
use Rattle.rep_schema.proofs.compare.first_of_key.Goals as goal

pub returns-then-columns-i-clause-key : goal.returns-then-columns-i-clause-key
returns-then-columns-i-clause-key c =
    λ value is.
    let in_columns : c.loop-i.i < length c.args.columns.now = omega arith in
    let in_row : c.loop-i.i < length c.args.row.now = omega arith in
    let here = key_from-key _ _ _ _ value in_columns in_row c.if-columns-i.true in
    sym c.loop-i.invariant ∙ (rw (← is) at here)

pub loop-i-preserved : goal.loop-i-preserved
loop-i-preserved c =
    let in_columns : c.loop-i.i < length c.args.columns.now = omega arith in
    let in_row : c.loop-i.i < length c.args.row.now = omega arith in
    sym (key_from-other _ _ _ _ (Num (pos 0)) in_columns in_row c.if-columns-i.false) ∙ c.loop-i.invariant

-- a key has a value
pub unreachable-requires : goal.unreachable-requires
unreachable-requires c =
    let past : min (length c.args.columns.now) (length c.args.row.now) ≤ c.loop-i.i = omega arith in
    let none : key_of c.args.columns.now c.args.row.now ≡ [] = sym c.loop-i.invariant ∙ key_from-end _ _ _ past in
    omega (arith, ap length none, c.requires.0)
