-- One sender after the other.
use Rattle.std.proofs.Common.{◌≡◌, ◌+◌, List, ◌∷◌, drop, sym, subst, ◌∙◌, arith}
use Rattle.std.proofs.lemmas.Result.{err_from_is_err_and}
use Rattle.site_state.specs.State.{SenderState}
use Rattle.site_state.specs.Rounds.{sender_names}
use Rattle.site_rounds.proofs.Parts.{partly_then, passes_then}
use Rattle.site_rounds.proofs.Quiet.{round_goes_on, quiet_goes_on, none_at_end, first_false, second_false}
use Rattle.site_rounds.proofs.rounds.round.Goals as goal

pub returns-in_err-next-clause-err : goal.returns-in_err-next-clause-err
returns-in_err-next-clause-err g c =
    let p = err_from_is_err_and c.from_residual.result c.from_residual.ensures.1 in
    rw (p.1, p.2) (partly_then c.args.site c.loop-place.site c.in_err-next.field-0.0.0 c.loop-place.invariant.passes.partly c.in_err-next.ensures.err)

pub loop-place-preserved : goal.loop-place-preserved
loop-place-preserved g c =
    let start = c.args.site in
    let x = c.loop-place.site in
    let y = c.in_ok-next.next in
    let more = c.in_ok-next.more in
    let l = c.loop-place.invariant in
    let origin = c.sender_at.result.now in
    let names = sender_names start.senders in
    let place = c.loop-place.place in
    let next : drop place names ≡ origin ∷ drop (place + 1) names
    = subst (λ (ss : List SenderState). drop place (sender_names ss) ≡ origin ∷ drop (place + 1) (sender_names ss)) l.passes.senders c.sender_at.ensures in
    let ok = c.in_ok-next.ensures.ok in
    let some = c.joined-passed.ensures.some in
    record {
      left = round_goes_on start x y names place origin next ok l.left;
      none = λ none. quiet_goes_on start x y names place origin next ok
          (sym c.in_ok-next.ensures.some ∙ second_false c.loop-place.passed.some more.some (sym some ∙ none)) (l.none (first_false c.loop-place.passed.some more.some (sym some ∙ none)));
      passes = passes_then start x y c.loop-place.passed.count more.count l.passes c.in_ok-next.ensures.passes c.joined-passed.result.count c.joined-passed.ensures.done c.joined-passed.ensures.errors;
    }

pub returns-clause-none : goal.returns-clause-none
returns-clause-none g c = λ none.
    none_at_end c.args.site.senders c.loop-place.place c.args.site (omega (arith, c.sender_count-place-end.ensures, c.loop-place-test.false)) (c.loop-place.invariant.none none).1
