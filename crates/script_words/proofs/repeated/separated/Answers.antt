-- The first part is read, and then each step stops, reads a part behind its mark, or breaks a rule.
use Rattle.std.proofs.Common.{◌≡◌, ◌-◌, ◌+◌, ◌++◌, ◌∷◌, [], Ok, refl, sym, arith, false}
use Rattle.std.proofs.lemmas.Result.{err_from_is_err_and}
use Rattle.script_words.specs.Words.{is_mark}
use Rattle.script_words.specs.Reading.{separated, after}
use Rattle.script_words.proofs.Repeats.{passed_reads, found_stops, found_ends, found_more, found_fails, found_first, more_kept}
use Rattle.script_words.proofs.repeated.separated.Goals.{else-loop-test, then-loop-test+then-not-passes}
use Rattle.script_words.proofs.repeated.separated.Goals as goal

pub loop-init : goal.loop-init
loop-init g c =
    let none = c.new-found.result in
    let x = c.in_ok-read.field-0 in (
      none ++ x ∷ [],
      found_first (is_mark c.args.word.now) (after c.args.word.now g.P.Part.reading) g.P.Part.reading (none ++ x ∷ []) none x (c.len-end.result - 0)
          c.args.tokens.now c.read.new.tokens c.in_ok-read.ensures c.new-found.ensures refl (omega (arith, c.len-end.ensures)),
      more_kept none c.push.new.self none x false c.is_err-lacks.result c.push.result (λ kept. refl) c.is_err-lacks.ensures.value c.push.ensures.ok,
    )

pub returns-in_err-read-2 : goal.returns-in_err-read-2
returns-in_err-read-2 g c =
    let p = err_from_is_err_and c.from_residual-in_err-read-2.result c.from_residual-in_err-read-2.ensures.1 in
    let word = c.args.word.now in
    let passed = c.if-not-passes.ensures in
    rw (p.1, p.2) (found_fails (is_mark word) (after word g.P.Part.reading) c.loop.invariant.0 (c.len-end.result - (c.loop.counter + 1)) (c.len-end.result - c.loop.counter) c.loop.tokens
    c.in_err-read-2.field-0.0.0 (separated word g.P.Part.reading c.args.tokens.now) c.loop.invariant.1 (omega (arith, c.loop-test.true)) (sym passed.0)
    (passed_reads word g.P.Part.reading c.loop.tokens c.passes.new.self _ passed.1 c.in_err-read-2.ensures))

pub loop-preserved : goal.loop-preserved
loop-preserved g c =
    let found = c.loop.invariant.0 in
    let x = c.in_ok-read-2.field-0 in
    let word = c.args.word.now in
    let passed = c.if-not-passes.ensures in (
      found ++ x ∷ [],
      found_more (is_mark word) (after word g.P.Part.reading) found (found ++ x ∷ []) (c.len-end.result - (c.loop.counter + 1)) (c.len-end.result - c.loop.counter) c.loop.tokens c.read-in-loop.new.tokens
          x (separated word g.P.Part.reading c.args.tokens.now) c.loop.invariant.1 (omega (arith, c.loop-test.true)) (sym passed.0)
          (passed_reads word g.P.Part.reading c.loop.tokens c.passes.new.self _ passed.1 c.in_ok-read-2.ensures) refl,
      more_kept c.loop.found c.push-in-loop.new.self found x c.loop.lacks c.is_err.result c.push-in-loop.result c.loop.invariant.2 c.is_err.ensures.value c.push-in-loop.ensures.ok,
    )

pub returns-then-lacks : goal.returns-then-lacks
returns-then-lacks g c =
    let all = separated c.args.word.now g.P.Part.reading c.args.tokens.now in
    let read : all ≡ Ok (c.loop.invariant.0, c.loop-test.tokens) = elim c.loop-test.branch [
      | else-loop-test w ↦ rw w.tokens-is (found_ends (is_mark c.args.word.now) (after c.args.word.now g.P.Part.reading) c.loop.invariant.0 (c.len-end.result - c.loop.counter) c.loop.tokens all c.loop.invariant.1 (omega (arith, w.loop-test.false)))
      | then-loop-test+then-not-passes w ↦ rw (w.tokens-is, w.if-not-passes.ensures.1) (found_stops (is_mark c.args.word.now) (after c.args.word.now g.P.Part.reading) c.loop.invariant.0 (c.len-end.result - c.loop.counter) c.loop.tokens all c.loop.invariant.1 (sym w.if-not-passes.ensures.0))
    ] in
    (c.loop.invariant.0, read)

pub returns : goal.returns
returns g c =
    let all = separated c.args.word.now g.P.Part.reading c.args.tokens.now in
    let read : all ≡ Ok (c.loop.invariant.0, c.loop-test.tokens) = elim c.loop-test.branch [
      | else-loop-test w ↦ rw w.tokens-is (found_ends (is_mark c.args.word.now) (after c.args.word.now g.P.Part.reading) c.loop.invariant.0 (c.len-end.result - c.loop.counter) c.loop.tokens all c.loop.invariant.1 (omega (arith, w.loop-test.false)))
      | then-loop-test+then-not-passes w ↦ rw (w.tokens-is, w.if-not-passes.ensures.1) (found_stops (is_mark c.args.word.now) (after c.args.word.now g.P.Part.reading) c.loop.invariant.0 (c.len-end.result - c.loop.counter) c.loop.tokens all c.loop.invariant.1 (sym w.if-not-passes.ensures.0))
    ] in
    rw (c.loop.invariant.2 c.if-lacks.false) read
