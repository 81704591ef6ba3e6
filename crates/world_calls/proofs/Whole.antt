-- A push of calls that isn't refused: its masters are there, with directions each way, and what it does is the line's.
use Rattle.std.proofs.Common.{◌≡◌, ℕ, List, ◌++◌, length, Bool, true, false, None, refl, ap, ◌∙◌}
use Rattle.std.specs.Prelude.{◌||◌, not}
use Rattle.rep_values.specs.declared.name.SiteName.{SiteName}
use Rattle.rep_values.specs.declared.refusal.Refusal.TheVariants as refusal
use Rattle.rep_values.specs.RefusalSteps.{refused}
use Rattle.rep_values.proofs.RefusalSteps.{or_then-None, refused-None, refused_not-None}
use Rattle.script_parse.specs.declared.command.Command.TheVariants as command
use Rattle.script_parse.specs.declared.proc_line.ProcLine.TheVariants as proc_line
use Rattle.net_plan.specs.declared.fate.Fate.{Fate}
use Rattle.world_state.specs.World.{WorldState}
use Rattle.world_state.specs.Phases.{is_setup, has_block, behind_setup_step}
use Rattle.world_state.specs.Procs.{Procs, proc_of}
use Rattle.world_state.specs.ProcRefusals.{are_two_masters}
use Rattle.world_state.specs.CallPushes.{calls_positions, calls_pushed_in}
use Rattle.world.specs.Following.{IsBuilt}
use Rattle.world.specs.Precheck.{precheck_refusal}
use Rattle.world.specs.Texts.{calls_pushed_text}
use Rattle.world.proofs.TwoMasters.{AreLinked, two_masters_linked}
use Rattle.world_calls.specs.Applying.{told_calls_text}

first_false : (b c : Bool) → (b || c) ≡ false → b ≡ false
first_false true c is = absurd (cc is)
first_false false c is = refl

-- two masters, behind Setup
masters_linked : (from to : SiteName) (w : WorldState) → IsBuilt w → behind_setup_step w ≡ None → are_two_masters from to w.procs ≡ true → AreLinked w from to
masters_linked from to w built behind two =
    two_masters_linked w built (first_false (is_setup w.phase) (has_block w) (refused-None (is_setup w.phase || has_block w) refusal.WrongPhase behind)) from to two

module _ (from to : SiteName) (w : WorldState) where
  -- of fates for calls
  pub fates_linked : (fates : List Fate) → IsBuilt w → precheck_refusal (command.Procedures (proc_line.Fates from to fates)) w ≡ None → AreLinked w from to
  fates_linked fates built passes =
      let steps = or_then-None (behind_setup_step w) _ passes in
      masters_linked from to w built steps.0 (refused_not-None (are_two_masters from to w.procs) refusal.UnknownName (or_then-None (refused (not (are_two_masters from to w.procs)) refusal.UnknownName) None steps.1).0)

  module _ (passes : precheck_refusal (command.Procedures (proc_line.Push from to)) w ≡ None) where
    -- of a push of calls
    pub push_linked : IsBuilt w → AreLinked w from to
    push_linked built =
        let steps = or_then-None (behind_setup_step w) _ passes in
        masters_linked from to w built steps.0 (refused_not-None (are_two_masters from to w.procs) refusal.UnknownName (or_then-None (refused (not (are_two_masters from to w.procs)) refusal.UnknownName) _ steps.1).0)

-- what is told of a push of calls
pub told_pushed : (from to : SiteName) (p : Procs) (sent : ℕ) (old bytes : List ℕ) (q : Procs) → q ≡ calls_pushed_in from to p → sent ≡ length (calls_positions from to p)
    → bytes ≡ old ++ told_calls_text from to sent (proc_of to q.sites) → bytes ≡ old ++ calls_pushed_text from to p
told_pushed from to p sent old bytes q come is text =
    text ∙ ap (λ (r : Procs). old ++ told_calls_text from to sent (proc_of to r.sites)) come
    ∙ ap (λ (n : ℕ). old ++ told_calls_text from to n (proc_of to (calls_pushed_in from to p).sites)) is
