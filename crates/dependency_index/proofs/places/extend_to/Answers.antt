use Rattle.std.proofs.Common.{◌≤◌, [], ◌∷◌, length, ◌∙◌, arith}
use Rattle.std.proofs.lemmas.List.{length-append}
use Rattle.dependency_index.proofs.LastPositions.{last_at-padded, put_at-padded}
use Rattle.dependency_index.proofs.places.extend_to.Goals as goal

pub loop-preserved : goal.loop-preserved
loop-preserved c =
    let items = c.loop.last.items in
    let short : length items ≤ c.args.place = omega (arith, c.loop.invariant.long, c.loop-test.true) in
    rw c.push_reserved.ensures.items record {
      before = last_at-padded c.args.place items ∙ c.loop.invariant.before;
      same = λ position. put_at-padded c.args.place position items short ∙ c.loop.invariant.same position;
      long = omega (arith, length-append items (0 ∷ []), c.loop.invariant.long);
      capacity = c.push_reserved.ensures.capacity ∙ c.loop.invariant.capacity;
    }
