use Rattle.std.proofs.Common.{sym, ◌∙◌}
use Rattle.dependency_index.proofs.LastPositions.{last_at-within, put_at-within}
use Rattle.dependency_index.proofs.places.put_at.Goals as goal

pub returns-clause-before : goal.returns-clause-before
returns-clause-before c =
    c.replace.ensures.value ∙ c.index_mut.ensures.value ∙ sym (last_at-within c.args.place c.extend_to.new.last.items _ c.extend_to.ensures.within) ∙ c.extend_to.ensures.before

pub returns-clause-after : goal.returns-clause-after
returns-clause-after c =
    rw c.replace.ensures.after (sym (put_at-within c.args.place c.args.position c.extend_to.new.last.items c.extend_to.ensures.within) ∙ c.extend_to.ensures.same c.args.position)
