-- Where no parents' column is left, what is left of the names decides.
use Rattle.std.proofs.Common.{◌≡◌, ℕ, ◌<◌, List, [], ◌∷◌, length, refl, sym, ◌∙◌, arith}
use Rattle.std.specs.Bool.{◌==◌}
use Rattle.rep_schema.specs.declared.schema.Column.{Column}
use Rattle.rep_schema.specs.Tables.{key_columns}
use Rattle.deferred_queue.proofs.Sites.{eq_false_above}
use Rattle.world_state.specs.Refusals.{hold_keys}
use Rattle.world.proofs.snapshots.hold_keys.Goals as goal

none_left : (columns : List Column) (names : List (List ℕ)) (parents : List Column) → length parents < 1 → (length names == 0) ≡ hold_keys columns names (key_columns parents)
none_left columns [] [] short = refl
none_left columns (name ∷ names) [] short = eq_false_above (length (name ∷ names)) 0 (omega arith)
none_left columns names (parent ∷ parents) short = absurd (omega (arith, short))

pub returns : goal.returns
returns c =
    c.is_empty.ensures
    ∙ none_left c.args.columns.now c.loop-parents_left.names_left.now c.loop-parents_left.parents_left.now c.in_default.len_below
    ∙ sym c.loop-parents_left.invariant
