-- Rounds, until one does nothing.
use Rattle.std.proofs.Common.{sym, ap, ◌∙◌}
use Rattle.std.proofs.lemmas.Result.{err_from_is_err_and}
use Rattle.site_state.specs.Passes.{is_done, is_error, added_count}
use Rattle.site_state.specs.Rounds.{site_rounds, site_until_quiet}
use Rattle.site_rounds.proofs.Parts.{partly_then, passes_then}
use Rattle.site_rounds.proofs.Quiet.{untrue, site_rounds-round, last_round, last_same}
use Rattle.site_rounds.proofs.rounds.apply_until_quiet.Goals as goal

pub returns-in_err-next-clause-err : goal.returns-in_err-next-clause-err
returns-in_err-next-clause-err g c =
    let p = err_from_is_err_and c.from_residual-in_err-next.result c.from_residual-in_err-next.ensures.1 in
    rw (p.1, p.2) (partly_then c.args.site c.loop.site c.in_err-next.field-0.0.0 c.loop.invariant.passes.partly c.in_err-next.ensures.err)

pub returns-then-not-more-clause-ok : goal.returns-then-not-more-clause-ok
returns-then-not-more-clause-ok g c =
    last_round c.loop.site c.in_ok-next.next (site_until_quiet c.args.origin.now c.args.site) c.loop.invariant.left (c.in_ok-next.ensures.none (untrue c.in_ok-next.more.some c.if-not-more.true)) c.in_ok-next.ensures.ok

pub returns-then-not-more-clause-count : goal.returns-then-not-more-clause-count
returns-then-not-more-clause-count g c =
    let same = last_same c.loop.site c.in_ok-next.next (c.in_ok-next.ensures.none (untrue c.in_ok-next.more.some c.if-not-more.true)) c.in_ok-next.ensures.ok in
    let passes = c.loop.invariant.passes in
    (passes.done ∙ ap (added_count is_done c.args.site) (sym same), passes.errors ∙ ap (added_count is_error c.args.site) (sym same))

pub loop-preserved : goal.loop-preserved
loop-preserved g c = record {
  left = ap site_rounds c.in_ok-next.ensures.ok ∙ site_rounds-round c.loop.site ∙ c.loop.invariant.left;
  passes = passes_then c.args.site c.loop.site c.in_ok-next.next c.loop.count c.in_ok-next.more.count c.loop.invariant.passes c.in_ok-next.ensures.passes
      c.added-count.result c.added-count.ensures.done c.added-count.ensures.errors;
}
