-- A push, with the room for its line.
use Rattle.std.proofs.Common.{List, ℕ, ◌++◌, refl, ap, ◌∙◌}
use Rattle.world.specs.Texts.{calls_pushed_text}
use Rattle.world.proofs.CallsFollowing.{calls_part_none}
use Rattle.world_calls.proofs.pushing.push_linked.Goals as goal

pub returns-in_err-lines-clause-part : goal.returns-in_err-lines-clause-part
returns-in_err-lines-clause-part c = calls_part_none _ _ _ _ refl

pub returns-clause-text : goal.returns-clause-text
returns-clause-text c =
    c.in_ok-push_in_room.ensures.text ∙ ap (λ (old : List ℕ). old ++ calls_pushed_text c.args.from.now c.args.to.now c.args.procs.now) c.in_ok-lines.ensures.bytes
