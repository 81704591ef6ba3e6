-- A push, with the room for its line.
use Rattle.std.proofs.Common.{List, ℕ, ◌++◌, refl, ap, ◌∙◌}
use Rattle.world.specs.declared.answer.Outcome.TheVariants.{Pushed}
use Rattle.world.specs.Texts.{pushed_text}
use Rattle.world.proofs.Following.{in_part_none}
use Rattle.world_push.proofs.pushing.push_linked.Goals as goal

pub returns-in_err-reserve-clause-part : goal.returns-in_err-reserve-clause-part
returns-in_err-reserve-clause-part g c = in_part_none _ _ _ _ refl

pub returns-clause-text : goal.returns-clause-text
returns-clause-text g c =
    c.in_ok-told.ensures.text
    ∙ ap (λ (old : List ℕ). old ++ pushed_text c.args.from.now c.args.to.now c.args.count c.args.parts.now) (c.reserve.ensures.bytes ∙ c.make-lines.ensures)

pub returns-clause-outcome : goal.returns-clause-outcome
returns-clause-outcome g c = ap Pushed c.in_ok-told.ensures.told
