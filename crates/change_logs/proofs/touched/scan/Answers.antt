use Rattle.std.proofs.Common.{◌≡◌, ◌+◌, ◌<◌, ◌∷◌, ◌++◌, length, take, drop, sym, ap, ◌∙◌, arith}
use Rattle.std.specs.declared.cmp.Ordering.TheVariants.{Equal}
use Rattle.std.proofs.lemmas.List.{take-append-drop}
use Rattle.rep_lists.proofs.Places.{drop_from_place}
use Rattle.rep_values.specs.Order.{key_cmp}
use Rattle.rep_values.specs.OrderLaws.{exact_keys}
use Rattle.change_logs.proofs.touched.scan.Goals as goal

-- the key takes the place of an equal one
pub returns-in-Equal-clause-found : goal.returns-in-Equal-clause-found
returns-in-Equal-clause-found c =
    let keys = c.args.keys.now.items in
    let place = c.loop-place.place in
    let there = c.at.result.now in
    let within : place < length keys = omega (arith, c.loop-place-test.true, c.len-place-end.ensures) in
    let here = drop_from_place keys place there within c.at.ensures in
    let tied : key_cmp there c.args.key.now ≡ Equal = sym c.compare_keys.ensures ∙ c.in-Equal.is in
    (rw (here, tied) at c.loop-place.invariant) ∙ ap (λ z. take place keys ++ z ∷ drop (place + 1) keys) (sym (exact_keys there c.args.key.now tied)) ∙ ap (λ rest. take place keys ++ rest) (sym here) ∙ take-append-drop place keys
