use Rattle.std.proofs.Common.{ℕ, ◌≡◌, length, sym, ap, ◌∙◌, arith}
use Rattle.std.specs.Prelude.{◌||◌}
use Rattle.std.specs.List.{list_any, range_with_len}
use Rattle.rep_schema.specs.Groups.{groups_of, shadow_group}
use Rattle.rep_schema.proofs.GroupShapes.{length-groups_of}
use Rattle.txn_effects.specs.Chosen.{is_modified_in}
use Rattle.local_txn.proofs.FilledRows.{list_any-range_more, is_modified-groups, chosen_at-none}
use Rattle.local_txn.proofs.filled.modified_places.Goals as goal

-- there are at most 32 named groups
pub overflow_cast-named : goal.overflow_cast-named
overflow_cast-named c = rw c.groups_of.ensures (omega (arith, length-groups_of c.args.schema.now c.requires.shape c.args.table))

pub loop-group-init : goal.loop-group-init
loop-group-init c = record { so_far = λ place. chosen_at-none 32 place }

pub loop-group-preserved : goal.loop-group-preserved
loop-group-preserved c = record {
  so_far = λ place.
      let modified = λ (group : ℕ). is_modified_in c.args.schema.now c.args.table c.args.before.now c.args.after.now group place in
      c.choose_modified.ensures place ∙ ap (λ b. b || modified c.loop-group.group) (c.loop-group.invariant.so_far place) ∙ sym (list_any-range_more modified c.loop-group.group);
}

pub returns : goal.returns
returns c = λ place.
    let schema = c.args.schema.now in
    let modified = λ (group : ℕ). is_modified_in schema c.args.table c.args.before.now c.args.after.now group place in
    let all : c.loop-group.group ≡ length (groups_of schema c.args.table) =
    omega (arith, rw c.groups_of.ensures at c.loop-group-test.false, rw c.groups_of.ensures at c.loop-group.auto.group-end) in
    c.choose_modified-2.ensures place ∙ ap (λ b. b || modified shadow_group) (c.loop-group.invariant.so_far place ∙ ap (λ n. list_any modified (range_with_len 0 n)) all)
    ∙ sym (is_modified-groups schema c.args.table c.args.before.now c.args.after.now place)
