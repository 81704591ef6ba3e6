use Rattle.std.proofs.Common.{◌≡◌, ◌+◌, ◌-◌, [], ◌∷◌, ◌++◌, length, drop, sym, ap, ◌∙◌, arith}
use Rattle.std.specs.declared.cmp.Ordering.TheVariants.{Less, Equal, Greater}
use Rattle.std.proofs.lemmas.List.{append_assoc, take_all, length-drop}
use Rattle.rep_values.specs.Order.{key_cmp}
use Rattle.change_logs.specs.Noting.{with_keys}
use Rattle.change_logs.proofs.Merging.{left-less, left-equal, left-greater, left-no_more, left-no_keys}
use Rattle.change_logs.proofs.merge.with_keys.Goals as goal
use Rattle.change_logs.proofs.merge.with_keys.Goals.{then-loop-next-test+else-place-keys, else-loop-next-test}

pub loop-next-preserved-in-Less : goal.loop-next-preserved-in-Less
loop-next-preserved-in-Less c =
    let x = c.index-more-next.result in
    let y = c.index-keys-place.result in
    let order : key_cmp y x ≡ Less = sym c.compare_keys.ensures ∙ c.in-Less.is in
    let left = left-less c.args.more.now c.args.keys.now c.requires c.loop-next.next c.loop-next.place x y c.loop-next-test.true c.index-more-next.is c.if-place-keys.true c.index-keys-place.is order in
    record {
      next = c.loop-next.invariant.next;
      place = omega (arith, c.if-place-keys.true);
      all = rw c.in_ok-push-in-Less.ensures.ok (append_assoc c.loop-next.all (y ∷ []) (with_keys (drop c.loop-next.next c.args.more.now) (drop (c.loop-next.place + 1) c.args.keys.now)) ∙ ap (λ rest. c.loop-next.all ++ rest) (sym left) ∙ c.loop-next.invariant.all);
    }

pub loop-next-preserved-in-Equal : goal.loop-next-preserved-in-Equal
loop-next-preserved-in-Equal c =
    let x = c.index-more-next.result in
    let y = c.index-keys-place.result in
    let order : key_cmp y x ≡ Equal = sym c.compare_keys.ensures ∙ c.in-Equal.is in
    let left = left-equal c.args.more.now c.args.keys.now c.requires c.loop-next.next c.loop-next.place x y c.loop-next-test.true c.index-more-next.is c.if-place-keys.true c.index-keys-place.is order in
    record {
      next = omega (arith, c.loop-next-test.true);
      place = omega (arith, c.if-place-keys.true);
      all = rw c.in_ok-push-in-Equal.ensures.ok (append_assoc c.loop-next.all (x ∷ []) (with_keys (drop (c.loop-next.next + 1) c.args.more.now) (drop (c.loop-next.place + 1) c.args.keys.now)) ∙ ap (λ rest. c.loop-next.all ++ rest) (sym left) ∙ c.loop-next.invariant.all);
    }

pub loop-next-preserved : goal.loop-next-preserved
loop-next-preserved c =
    let x = c.index-more-next.result in
    let y = c.index-keys-place.result in
    let order : key_cmp y x ≡ Greater = sym c.compare_keys.ensures ∙ c.in-Greater.is in
    let left = left-greater c.args.more.now c.args.keys.now c.requires c.loop-next.next c.loop-next.place x y c.loop-next-test.true c.index-more-next.is c.if-place-keys.true c.index-keys-place.is order in
    record {
      next = omega (arith, c.loop-next-test.true);
      place = c.loop-next.invariant.place;
      all = rw c.in_ok-push-in-Greater.ensures.ok (append_assoc c.loop-next.all (x ∷ []) (with_keys (drop (c.loop-next.next + 1) c.args.more.now) (drop c.loop-next.place c.args.keys.now)) ∙ ap (λ rest. c.loop-next.all ++ rest) (sym left) ∙ c.loop-next.invariant.all);
    }

-- one of the lists has no key left
pub returns : goal.returns
returns c =
    let more = c.args.more.now in
    let keys = c.args.keys.now in
    let next = c.loop-next.next in
    let place = c.loop-next.place in
    let all = c.loop-next.all in
    let left : (all ++ drop next more) ++ drop place keys ≡ all ++ with_keys (drop next more) (drop place keys) =
    elim c.loop-next-test.branch [
      | then-loop-next-test+else-place-keys w ↦ left-no_keys more keys c.requires next place all (omega (arith, w.if-place-keys.false))
      | else-loop-next-test w ↦ left-no_more more keys c.requires next place all (omega (arith, w.loop-next-test.false))
    ] in
    let rest = take_all (length more - next) (drop next more) (omega (arith, length-drop next more)) in
    let last = take_all (length keys - place) (drop place keys) (omega (arith, length-drop place keys)) in
    rw (c.in_ok-push_each-2.ensures, c.in_ok-push_each.ensures, rest, last) (left ∙ c.loop-next.invariant.all)
