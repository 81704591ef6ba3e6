-- A push that isn't refused: its sites are there, with a direction each way, and what it does is the line's.
use Rattle.std.proofs.Common.{◌≡◌, ℕ, List, ◌++◌, length, Bool, true, false, None, refl, ap, ◌∙◌, subst}
use Rattle.std.specs.Prelude.{Option, ◌&&◌, ◌||◌}
use Rattle.rep_values.specs.declared.name.SiteName.{SiteName}
use Rattle.rep_values.specs.declared.refusal.Refusal.TheVariants as refusal
use Rattle.rep_values.specs.RefusalSteps.{refused, first_refusal}
use Rattle.rep_values.proofs.RefusalSteps.{or_then-None, refused-None, refused_not-None}
use Rattle.net_plan.specs.Directions.{HasDirection}
use Rattle.report_text.specs.declared.printed.PushCount.{PushCount}
use Rattle.script_parse.specs.declared.command.Command.TheVariants as command
use Rattle.site_events.specs.Cluster.{site_of}
use Rattle.world_state.specs.World.{WorldState, is_there, gets_from}
use Rattle.world_state.specs.Phases.{is_setup, has_block, behind_setup_step}
use Rattle.world_state.specs.Refusals.{are_there, has_sender, further_steps}
use Rattle.world_state.specs.Pushes.{positions_above, pushed_in, world_push}
use Rattle.world_state.specs.PushAnswers.{count_in, push_count}
use Rattle.world.specs.declared.answer.Answer.{Answer}
use Rattle.world.specs.declared.answer.Outcome.TheVariants.{Pushed}
use Rattle.world.specs.Following.{PushesInPart, IsBuilt}
use Rattle.world.specs.Precheck.{precheck_refusal}
use Rattle.world.specs.Texts.{pushed_text}
use Rattle.world.specs.Doing.{IsDone, IsOutOfMemory}
use Rattle.world_push.specs.Applying.{told_text}

both_true : (b c : Bool) → (b && c) ≡ true → (b ≡ true) × (c ≡ true)
both_true true c is = (refl, is)
both_true false c is = absurd (cc is)

first_false : (b c : Bool) → (b || c) ≡ false → b ≡ false
first_false true c is = absurd (cc is)
first_false false c is = refl

module _ (from to : SiteName) (count : Option ℕ) (w : WorldState) where
  module _ (passes : precheck_refusal (command.Push from to count) w ≡ None) where
    steps : (behind_setup_step w ≡ None) × (first_refusal (further_steps (command.Push from to count) w) ≡ None)
    steps = or_then-None (behind_setup_step w) (first_refusal (further_steps (command.Push from to count) w)) passes

    -- Setup is over
    pub behind : is_setup w.phase ≡ false
    behind = first_false (is_setup w.phase) (has_block w) (refused-None (is_setup w.phase || has_block w) refusal.WrongPhase steps.0)

    sender : (are_there w to from ≡ true) × (gets_from w to from ≡ true)
    sender = both_true (are_there w to from) (gets_from w to from) (refused_not-None (has_sender w to from) refusal.UnknownName (or_then-None (refused _ refusal.UnknownName) _ steps.1).0)

    -- the receiver is there
    pub receiver_there : is_there w to ≡ true
    receiver_there = (both_true (is_there w to) (is_there w from) sender.0).0

    directions : IsBuilt w → HasDirection w.net to from × HasDirection w.net from to
    directions built = built.linked behind to from sender.1

    -- there is a direction to the receiver
    pub linked : IsBuilt w → HasDirection w.net from to
    linked built = (directions built).1

    -- and one back
    pub linked_back : IsBuilt w → HasDirection w.net to from
    linked_back built = (directions built).0

    -- a push that was done
    pub push_done : (number : ℕ) (new : WorldState) (answer : Answer) → new ≡ world_push from to count w → answer.lines.bytes ≡ pushed_text from to count w
        → answer.outcome ≡ Pushed (push_count from to count w) → IsDone number (command.Push from to count) w new answer
    push_done number new answer world text outcome = record { passes = passes; world = world; text = text; outcome = outcome }

    -- what is pushed is what the line says
    pushed_so : (new : WorldState) → PushesInPart from to w new → (a b : SiteName) (n : Option ℕ) → command.Push from to count ≡ command.Push a b n → PushesInPart a b w new
    pushed_so new part a b n is =
        let one : from ≡ a = cc is in
        let other : to ≡ b = cc is in
        subst (λ (name : SiteName). PushesInPart a name w new) other (subst (λ (name : SiteName). PushesInPart name to w new) one part)

    -- a push for which there was no memory
    pub push_short : (number : ℕ) (new : WorldState) → PushesInPart from to w new → IsOutOfMemory number (command.Push from to count) w new (record { line = number; refusal = refusal.Memory })
    push_short number new part = record { memory = refl; line = refl; passes = λ untried. passes; kept = λ other. absurd (cc other); pushed = pushed_so new part; called = λ a b other. absurd (cc other) }

  -- what is told of a push
  pub told-pushed : (sent : ℕ) (old bytes : List ℕ) (y : WorldState) → y ≡ pushed_in from to count w → sent ≡ length (positions_above from to count w)
      → bytes ≡ old ++ told_text from to sent (site_of to y.sites) → bytes ≡ old ++ pushed_text from to count w
  told-pushed sent old bytes y come is text = text ∙ ap (λ (z : WorldState). old ++ told_text from to sent (site_of to z.sites)) come
      ∙ ap (λ (n : ℕ). old ++ told_text from to n (site_of to (pushed_in from to count w).sites)) is

  -- and what is counted
  pub told_count : (sent : ℕ) (told : PushCount) (y : WorldState) → y ≡ pushed_in from to count w → sent ≡ length (positions_above from to count w)
      → told ≡ count_in sent from (site_of to y.sites) → told ≡ push_count from to count w
  told_count sent told y come is counted = counted ∙ ap (λ (z : WorldState). count_in sent from (site_of to z.sites)) come
      ∙ ap (λ (n : ℕ). count_in n from (site_of to (pushed_in from to count w).sites)) is
