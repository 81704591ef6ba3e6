use Rattle.std.proofs.Common.{arith, ◌≡◌, ◌+◌, ◌∷◌, [], ℕ, List, take, sym, ap, ◌∙◌, subst}
use Rattle.std.specs.Io.KnownBytes.{Appends}
use Rattle.std.proofs.KnownBytes.{Appends-nil}
use Rattle.script_drive.specs.Lines.{newline}
use Rattle.script_drive.specs.Fed.{RunState}
use Rattle.script_drive.proofs.LimitLemmas.{line_halts}
use Rattle.report_text.specs.Texts.{malformed_text}
use Rattle.script_drive.specs.LineBytes.{StopsAnyway}
use Rattle.script_drive.specs.Halts.{FeedsBy, HaltsBy}
use Rattle.script_drive.proofs.HaltLemmas.{refused_by, silent_by, line_goes_by, line_breaks_by}
use Rattle.script_drive.proofs.run.Run.end_line.Goals as goal

pub returns-in_default-clause-halted : goal.returns-in_default-clause-halted
returns-in_default-clause-halted g c =
    let step = g.X.LineRunner.step in
    let allowed = g.X.LineRunner.allowed in
    let known = g.X.LineRunner.known in
    let before = g.K.Sink.taken c.args.sink.now in
    let after = g.K.Sink.taken c.offer.new.sink in
    let at : RunState g.row.X-State.Denot = record { state = g.X.LineRunner.state c.self.inside.runner; number = c.self.inside.number; line = c.self.inside.line.items } in
    let number : at.number ≡ c.args.self.now.number = ap (λ s. s.number) c.self.view_is in
    let front = c.in_default.ensures.front in
    let took = subst (λ (out : List ℕ). Appends before after (take front.0 out)) c.bytes.ensures front.2 in
    subst (λ s. HaltsBy step allowed known before after _ s (newline ∷ [])) c.self.view_is
    (line_breaks_by step allowed known before after at (g.X.LineRunner.state c.run_line.new.self) c.in-Ok.lines.bytes c.deref.result.now front.0 (omega arith) c.self.invariant.1 c.deref.ensures.value c.in-Ok.ensures.known c.in-Ok.ensures.ok took)

pub returns-in-Ok-offer-clause-fed : goal.returns-in-Ok-offer-clause-fed
returns-in-Ok-offer-clause-fed g c =
    let step = g.X.LineRunner.step in
    let allowed = g.X.LineRunner.allowed in
    let known = g.X.LineRunner.known in
    let before = g.K.Sink.taken c.args.sink.now in
    let after = g.K.Sink.taken c.offer.new.sink in
    let at : RunState g.row.X-State.Denot = record { state = g.X.LineRunner.state c.self.inside.runner; number = c.self.inside.number; line = c.self.inside.line.items } in
    let number : at.number ≡ c.args.self.now.number = ap (λ s. s.number) c.self.view_is in
    let took = subst (Appends before after) c.bytes.ensures c.in-Ok-offer.ensures.taken in
    let fed = subst (λ s. FeedsBy step allowed before after s (newline ∷ []) (record { state = g.X.LineRunner.state c.run_line.new.self; number = at.number + 1; line = [] })) c.self.view_is
    (line_goes_by step allowed known before after at (g.X.LineRunner.state c.run_line.new.self) c.in-Ok.lines.bytes c.deref.result.now (omega arith) c.self.invariant.1 c.deref.ensures.value c.in-Ok.ensures.ok took) in
    rw c.clear.ensures.items fed

pub returns-in-Err-Rule-clause-halted : goal.returns-in-Err-Rule-clause-halted
returns-in-Err-Rule-clause-halted g c =
    let step = g.X.LineRunner.step in
    let allowed = g.X.LineRunner.allowed in
    let known = g.X.LineRunner.known in
    let before = g.K.Sink.taken c.args.sink.now in
    let after = g.K.Sink.taken c.refuse.new.sink in
    let at : RunState g.row.X-State.Denot = record { state = g.X.LineRunner.state c.self.inside.runner; number = c.self.inside.number; line = c.self.inside.line.items } in
    let number : at.number ≡ c.args.self.now.number = ap (λ s. s.number) c.self.view_is in
    let stopped = subst (StopsAnyway step allowed at.state at.number c.deref.result.now) c.in-Err-Rule.field-0-is c.in-Err-Rule.ensures.stop in
    let text = malformed_text at.number c.in-Err-Rule.rule in
    subst (λ s. HaltsBy step allowed known before after c.refuse.result s (newline ∷ [])) c.self.view_is
    (refused_by step allowed known before after c.refuse.result at (newline ∷ []) text (subst (λ s. known s.state) (sym c.self.view_is) c.requires.known) c.refuse.ensures.told
    (λ choices may rest. line_halts 200000 1024 malformed_text (step choices) at rest at.state text (omega arith) c.self.invariant.1 (ap (step choices at.state at.number) (sym c.deref.ensures.value) ∙ stopped choices may)))

pub returns-in-Err-Memory-clause-halted : goal.returns-in-Err-Memory-clause-halted
returns-in-Err-Memory-clause-halted g c =
    let here = g.K.Sink.taken c.args.sink.now in
    silent_by g.X.LineRunner.step g.X.LineRunner.allowed g.X.LineRunner.known here here c.args.self.now (newline ∷ []) c.requires.known (Appends-nil here)
