-- Noting one token more.
use Rattle.std.proofs.Common.{◌≡◌, ◌+◌, [], ◌∷◌, ◌++◌, length, take, refl, sym, ap, ◌∙◌, arith, add-one}
use Rattle.std.proofs.Math.Seq.{take-suc}
use Rattle.std.proofs.lemmas.List.{length-append, length-take-le}
use Rattle.dependency_index.specs.Columns.{last_of}
use Rattle.dependency_index.proofs.LastPositions.{Notes-none, Notes-then, greatest-next}
use Rattle.dependency_index.proofs.places.note_each.Goals as goal

pub loop-token-init : goal.loop-token-init
loop-token-init c = record {
  notes = Notes-none c.args.position c.args.tokens.now.keys c.args.last.now.items c.requires.within;
  greatest = λ below. refl;
  spare = omega arith;
  distinct = c.requires.distinct;
  capacity = refl;
}

pub note_one-before-requires-clause-spare : goal.note_one-before-requires-clause-spare
note_one-before-requires-clause-spare c = omega (arith, c.requires.spare, c.loop-token.invariant.spare, c.loop-token-test.true)

pub note_one-before-requires-clause-places : goal.note_one-before-requires-clause-places
note_one-before-requires-clause-places c =
    let so_far = c.loop-token.invariant in
    let place = c.loop-token.token-index in
    let taken : length (take place c.args.list.now) ≡ place = length-take-le place c.args.list.now (omega (arith, c.loop-token-test.true)) in
    omega (arith, ap length so_far.notes.grown, length-append c.args.tokens.now.keys so_far.notes.more, so_far.notes.few, taken, c.requires.places, so_far.capacity, c.loop-token-test.true)

pub loop-token-preserved : goal.loop-token-preserved
loop-token-preserved c =
    let list = c.args.list.now in
    let place = c.loop-token.token-index in
    let one = c.token-item.result in
    let so_far = c.loop-token.invariant in
    let next : take (place + 1) list ≡ take place list ++ one ∷ [] = rw add-one (take-suc list place one c.loop-token-test.true ∙ ap (λ x. take place list ++ x ∷ []) (sym c.token-item.is)) in
    record {
      notes = rw next (Notes-then (take place list) (one ∷ []) c.args.position c.args.tokens.now.keys c.loop-token.tokens.keys c.note_one-before.new.tokens.keys
          c.args.last.now.items c.loop-token.last.items c.note_one-before.new.last.items so_far.notes c.note_one-before.ensures.notes);
      greatest = λ below. rw (next, c.counted-greatest.ensures, c.note_one-before.ensures.before, so_far.notes.noted one)
          (greatest-next (take place list) one (last_of c.args.tokens.now.keys c.args.last.now.items) c.loop-token.greatest c.args.position (below one) (so_far.greatest below));
      spare = omega (arith, so_far.spare, c.note_one-before.ensures.spare);
      distinct = c.note_one-before.ensures.distinct;
      capacity = c.note_one-before.ensures.capacity ∙ so_far.capacity;
    }
