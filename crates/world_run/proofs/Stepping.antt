-- What comes of a line that was tried, or that was refused before.
use Rattle.std.proofs.Common.{◌≡◌, ℕ, Some, None, sym, ap, subst, inr, ◌∙◌}
use Rattle.std.specs.Prelude.{Option, Result, Ok, Err}
use Rattle.rep_values.specs.declared.refusal.Refusal.{Refusal}
use Rattle.script_parse.specs.declared.command.Command.{Command}
use Rattle.script_parse.specs.declared.command.Command.TheVariants as command
use Rattle.script_parse.specs.declared.proc_line.ProcLine.TheVariants as proc_line
use Rattle.script_parse.specs.Named.{NamesColumn}
use Rattle.site_events.specs.Cluster.{site_of}
use Rattle.world_state.specs.declared.refused.Refused.{Refused}
use Rattle.world_state.specs.World.{WorldState}
use Rattle.world_state.specs.Procs.{proc_of}
use Rattle.world_state.specs.Refusals.{world_refusal}
use Rattle.world_state.specs.Steps.{world_done, world_refused, step_by, world_step}
use Rattle.world_laws.proofs.QuietPushes.{push_leaves_none_ready}
use Rattle.world_laws.proofs.Scripts.{reported_pushes_leave_nothing_ready}
use Rattle.world.specs.declared.answer.Answer.{Answer}
use Rattle.world.specs.Following.{IsBuilt}
use Rattle.world.specs.Precheck.{precheck_refusal}
use Rattle.world.specs.Doing.{IsRefused, Does, AnswersPrecheck}
use Rattle.world.proofs.BuiltWorlds.{lines_keep_built}
use Rattle.world.proofs.Prechecks.{precheck_refused}
use Rattle.world_laws.specs.Refreshes.{ShowsItsMaster}
use Rattle.world_laws.proofs.SnapshotScripts.{refreshes_show_of}
use Rattle.world_laws.proofs.AlikeWorlds.{of_snapshots}
use Rattle.world_commands.specs.Joining.{TakesOver}
use Rattle.world_commands.proofs.TakenOver.{takes_over}
use Rattle.world_run.specs.Reporting.{PushLeavesNothingReady, PushLeavesNoCallsReady, RefreshShowsTheQuery, JoinTakesOver}

-- no refusal is known
pub known-None : (number : ℕ) (c : Command) (w : WorldState) (result : Result Answer Refused) → precheck_refusal c w ≡ None → AnswersPrecheck number c w result
known-None number c w result none why is = absurd (cc (none, is))

-- one is known, and answered
pub known-Some : (number : ℕ) (c : Command) (w : WorldState) (told : Refusal) → precheck_refusal c w ≡ Some told → AnswersPrecheck number c w (Err (record { line = number; refusal = told }))
known-Some number c w told is why known =
    let same : told ≡ why = cc (is, known) in
    ap (λ (refusal : Refusal). Err (record { line = number; refusal = refusal })) same

-- it is left as a refused line leaves it
module _ (number : ℕ) (c : Command) (w y seen : WorldState) (why : Refusal) (same : seen ≡ w) (is : precheck_refusal c seen ≡ Some why) (left : y ≡ world_refused c seen) where
  pub refused_before : IsRefused number c w y (record { line = number; refusal = why })
  refused_before = subst (λ (v : WorldState). IsRefused number c v y (record { line = number; refusal = why })) same
      (subst (λ (z : WorldState). IsRefused number c seen z (record { line = number; refusal = why })) (sym left) (precheck_refused number c seen why is))

  -- and is built
  pub refused_built : NamesColumn c → IsBuilt seen → IsBuilt y
  refused_built named built = subst IsBuilt (sym left)
      (lines_keep_built number c seen (world_refused c seen) (Err (record { line = number; refusal = why })) named (inr (precheck_refused number c seen why is)) built)

-- a line that was tried
pub ready-done : (number : ℕ) (c : Command) (old new : WorldState) (result : Result Answer Refused) → IsBuilt old → Does number c old new result → PushLeavesNothingReady c new result
ready-done number c old new (Err r) built does from to count x is ok there = absurd (cc ok)
ready-done number c old new (Ok answer) built done from to count x is ok there =
    let passes : world_refusal (command.Push from to count) old ≡ None = subst (λ (k : Command). world_refusal k old ≡ None) is done.passes in
    let stepped : world_step number (command.Push from to count) old ≡ new =
    ap (λ (o : Option Refusal). step_by o number (command.Push from to count) old) passes ∙ sym (subst (λ (k : Command). new ≡ world_done number k old) is done.world) in
    reported_pushes_leave_nothing_ready number from to count old x built.shape passes (subst (λ (y : WorldState). site_of to y.sites ≡ Some x) (sym stepped) there)

-- a push of calls that was tried
pub called-done : (number : ℕ) (c : Command) (old new : WorldState) (result : Result Answer Refused) → IsBuilt old → Does number c old new result → PushLeavesNoCallsReady c new result
called-done number c old new (Err r) built does from to x is ok there = absurd (cc ok)
called-done number c old new (Ok answer) built done from to x is ok there =
    let passes : world_refusal (command.Procedures (proc_line.Push from to)) old ≡ None = subst (λ (k : Command). world_refusal k old ≡ None) is done.passes in
    let stepped : world_step number (command.Procedures (proc_line.Push from to)) old ≡ new =
    ap (λ (o : Option Refusal). step_by o number (command.Procedures (proc_line.Push from to)) old) passes ∙ sym (subst (λ (k : Command). new ≡ world_done number k old) is done.world) in
    push_leaves_none_ready old built.procs number from to x passes (subst (λ (y : WorldState). proc_of to y.procs.sites ≡ Some x) (sym stepped) there)

-- a refresh that was tried
pub refreshed-done : (number : ℕ) (c : Command) (old new : WorldState) (result : Result Answer Refused) → IsBuilt old → Does number c old new result → RefreshShowsTheQuery c old new result
refreshed-done number c old new (Err r) built does site how is ok = absurd (cc ok)
refreshed-done number c old new (Ok answer) built done site how is ok =
    let passes : world_refusal (command.Refresh site how) old ≡ None = subst (λ (k : Command). world_refusal k old ≡ None) is done.passes in
    let stepped : world_step number (command.Refresh site how) old ≡ new =
    ap (λ (o : Option Refusal). step_by o number (command.Refresh site how) old) passes ∙ sym (subst (λ (k : Command). new ≡ world_done number k old) is done.world) in
    subst (λ (y : WorldState). ShowsItsMaster site old y) stepped (refreshes_show_of old (of_snapshots old built.of_convergence) number site how passes)

-- a join that was tried
pub joined-done : (number : ℕ) (c : Command) (old new : WorldState) (result : Result Answer Refused) → IsBuilt old → Does number c old new result → JoinTakesOver c old new result
joined-done number c old new (Err r) built does site source is ok = absurd (cc ok)
joined-done number c old new (Ok answer) built done site source is ok =
    let passes : world_refusal (command.Join site source) old ≡ None = subst (λ (k : Command). world_refusal k old ≡ None) is done.passes in
    let made : new ≡ world_done number (command.Join site source) old = subst (λ (k : Command). new ≡ world_done number k old) is done.world in
    subst (TakesOver site source old) (sym made) (takes_over old built site source passes)
