use Rattle.std.proofs.Common.{arith, ◌≡◌, ◌≤◌, ◌<◌, ◌+◌, ℕ, List, length, take, drop, sym, subst, take-append-drop}
use Rattle.std.proofs.lemmas.List.{length-take-le}
use Rattle.std.proofs.lemmas.Result.{err_from_is_err_and}
use Rattle.script_drive.specs.Fed.{RunState}
use Rattle.report_text.specs.Texts.{malformed_text}
use Rattle.script_drive.specs.Halts.{HaltsBy}
use Rattle.script_drive.proofs.HaltLemmas.{refused_by, halts_by_longer}
use Rattle.script_drive.proofs.FrontLemmas.{feeds_unbroken, feeds_line, halts_line, bytes_behind_last, front_too_long}
use Rattle.script_drive.proofs.run.Run.take.Goals as goal

pub returns-then-self-gt-MOST_LINES-clause-halted :
    goal.returns-then-self-gt-MOST_LINES-clause-halted
returns-then-self-gt-MOST_LINES-clause-halted g c =
    let step = g.X.LineRunner.step in
    let allowed = g.X.LineRunner.allowed in
    let known = g.X.LineRunner.known in
    let before = g.K.Sink.taken c.args.sink.now in
    let after = g.K.Sink.taken c.refuse.new.sink in
    let bytes : List ℕ = c.args.bytes.now in
    let at : RunState g.row.X-State.Denot = record { state = g.X.LineRunner.state c.self.inside.runner; number = c.self.inside.number; line = c.self.inside.line.items } in
    subst (λ s. HaltsBy step allowed known before after c.refuse.result s bytes) c.self.view_is
    (refused_by step allowed known before after c.refuse.result at bytes (malformed_text at.number 2) (subst (λ s. known s.state) (sym c.self.view_is) c.requires.known) c.refuse.ensures.told
    (λ choices may rest. bytes_behind_last (step choices) at bytes rest c.requires.some (omega arith)))

pub returns-then-count-len-clause-halted : goal.returns-then-count-len-clause-halted
returns-then-count-len-clause-halted g c =
    let step = g.X.LineRunner.step in
    let allowed = g.X.LineRunner.allowed in
    let known = g.X.LineRunner.known in
    let refused = c.refuse-then-count-len in
    let before = g.K.Sink.taken c.args.sink.now in
    let after = g.K.Sink.taken refused.new.sink in
    let n : ℕ = c.unbroken_len-count.result in
    let bytes : List ℕ = c.args.bytes.now in
    let front : List ℕ = take n bytes in
    let at : RunState g.row.X-State.Denot = record { state = g.X.LineRunner.state c.self.inside.runner; number = c.self.inside.number; line = c.self.inside.line.items } in
    let size : length front ≡ n = length-take-le n bytes c.unbroken_len-count.ensures.bound in
    let few : at.number ≤ 200000 = omega arith in
    let long : 1024 < length at.line + length front = omega arith in
    subst (λ s. HaltsBy step allowed known before after refused.result s bytes) c.self.view_is
    (subst (HaltsBy step allowed known before after refused.result at) (take-append-drop n bytes)
    (halts_by_longer step allowed known before after refused.result at front (drop n bytes)
    (refused_by step allowed known before after refused.result at front (malformed_text at.number 1) (subst (λ s. known s.state) (sym c.self.view_is) c.requires.known) refused.ensures.told
    (λ choices may rest. front_too_long (step choices) at front rest c.unbroken_len-count.ensures.front few c.self.invariant.1 long))))

pub returns-then-count-bytes-clause-fed : goal.returns-then-count-bytes-clause-fed
returns-then-count-bytes-clause-fed g c =
    feeds_unbroken g.X.LineRunner.step g.X.LineRunner.allowed g.X.LineRunner.known (g.K.Sink.taken c.args.sink.now) c.args.self.now c.append.new.self (take c.unbroken_len-count.result c.args.bytes.now)
    c.unbroken_len-count.ensures.front c.append.ensures.line

pub returns-in_err-end_line-clause-halted : goal.returns-in_err-end_line-clause-halted
returns-in_err-end_line-clause-halted g c =
    let was = err_from_is_err_and c.from_residual.result c.from_residual.ensures.1 in
    let before = g.K.Sink.taken c.args.sink.now in
    let after = g.K.Sink.taken c.end_line.new.sink in
    let n : ℕ = c.unbroken_len-count.result in
    let bytes : List ℕ = c.args.bytes.now in
    let here : n < length bytes = omega arith in
    rw (was.1, was.2)
    (halts_line g.X.LineRunner.step g.X.LineRunner.allowed g.X.LineRunner.known before after c.in_err-end_line.field-0.0 c.args.self.now bytes n c.append.new.self here (c.unbroken_len-count.ensures.end here)
    c.unbroken_len-count.ensures.front c.append.ensures.line c.in_err-end_line.ensures.halted)

pub returns-clause-fed : goal.returns-clause-fed
returns-clause-fed g c =
    let before = g.K.Sink.taken c.args.sink.now in
    let after = g.K.Sink.taken c.end_line.new.sink in
    let n : ℕ = c.unbroken_len-count.result in
    let bytes : List ℕ = c.args.bytes.now in
    let here : n < length bytes = omega arith in
    feeds_line g.X.LineRunner.step g.X.LineRunner.allowed g.X.LineRunner.known before after c.args.self.now bytes n c.append.new.self c.end_line.new.self here (c.unbroken_len-count.ensures.end here)
    c.unbroken_len-count.ensures.front c.append.ensures.line c.in_ok-end_line.ensures.fed
