-- Each step stops, reads a part, or breaks a rule.
use Rattle.std.proofs.Common.{◌≡◌, ◌-◌, ◌+◌, ◌++◌, ◌∷◌, [], Ok, refl, arith}
use Rattle.std.proofs.lemmas.Result.{err_from_is_err_and}
use Rattle.script_words.specs.Reading.{several}
use Rattle.script_words.proofs.Repeats.{found_stops, found_ends, found_more, found_fails, more_kept}
use Rattle.script_words.proofs.repeated.several.Goals.{else-loop-test, then-loop-test+then-not-is_next}
use Rattle.script_words.proofs.repeated.several.Goals as goal

pub returns-in_err-read : goal.returns-in_err-read
returns-in_err-read g c =
    let p = err_from_is_err_and c.from_residual.result c.from_residual.ensures.1 in
    rw (p.1, p.2) (found_fails g.P.Part.starts g.P.Part.reading c.loop.invariant.0 (c.len-most.result - (c.loop.counter + 1)) (c.len-most.result - c.loop.counter) c.loop.tokens
    c.in_err-read.field-0.0.0 (several g.P.Part.starts g.P.Part.reading c.args.tokens.now) c.loop.invariant.1 (omega (arith, c.loop-test.true)) c.if-not-is_next.ensures c.in_err-read.ensures)

pub loop-preserved : goal.loop-preserved
loop-preserved g c =
    let found = c.loop.invariant.0 in
    let x = c.in_ok-read.field-0 in (
      found ++ x ∷ [],
      found_more g.P.Part.starts g.P.Part.reading found (found ++ x ∷ []) (c.len-most.result - (c.loop.counter + 1)) (c.len-most.result - c.loop.counter) c.loop.tokens c.read.new.tokens
          x (several g.P.Part.starts g.P.Part.reading c.args.tokens.now) c.loop.invariant.1 (omega (arith, c.loop-test.true)) c.if-not-is_next.ensures c.in_ok-read.ensures refl,
      more_kept c.loop.found c.push.new.self found x c.loop.lacks c.is_err.result c.push.result c.loop.invariant.2 c.is_err.ensures.value c.push.ensures.ok,
    )

pub returns-then-lacks : goal.returns-then-lacks
returns-then-lacks g c =
    let all = several g.P.Part.starts g.P.Part.reading c.args.tokens.now in
    let read : all ≡ Ok (c.loop.invariant.0, c.loop.tokens) = elim c.loop-test.branch [
      | else-loop-test w ↦ found_ends g.P.Part.starts g.P.Part.reading c.loop.invariant.0 (c.len-most.result - c.loop.counter) c.loop.tokens all c.loop.invariant.1 (omega (arith, w.loop-test.false))
      | then-loop-test+then-not-is_next w ↦ found_stops g.P.Part.starts g.P.Part.reading c.loop.invariant.0 (c.len-most.result - c.loop.counter) c.loop.tokens all c.loop.invariant.1 w.if-not-is_next.ensures
    ] in
    (c.loop.invariant.0, read)

pub returns : goal.returns
returns g c =
    let all = several g.P.Part.starts g.P.Part.reading c.args.tokens.now in
    let read : all ≡ Ok (c.loop.invariant.0, c.loop.tokens) = elim c.loop-test.branch [
      | else-loop-test w ↦ found_ends g.P.Part.starts g.P.Part.reading c.loop.invariant.0 (c.len-most.result - c.loop.counter) c.loop.tokens all c.loop.invariant.1 (omega (arith, w.loop-test.false))
      | then-loop-test+then-not-is_next w ↦ found_stops g.P.Part.starts g.P.Part.reading c.loop.invariant.0 (c.len-most.result - c.loop.counter) c.loop.tokens all c.loop.invariant.1 w.if-not-is_next.ensures
    ] in
    rw (c.loop.invariant.2 c.if-lacks.false) read
