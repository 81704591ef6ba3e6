-- What comes of a command, by how far the part is.
use Rattle.std.proofs.Common.{◌≡◌, ◌≢◌, ℕ, ◌≤◌, ◌<◌, arith, List, length, length-append, Bool, true, false, cond, Some, None, refl, sym, ap, subst, ◌∙◌, nat_lt, inl, inr}
use Rattle.std.specs.Prelude.{◌⊎◌, Option, Result, Ok, Err}
use Rattle.std.proofs.lemmas.Bool.{ltb-true}
use Rattle.rep_values.specs.declared.name.SiteName.{SiteName}
use Rattle.rep_values.specs.declared.refusal.Limit.TheVariants as limit
use Rattle.rep_values.specs.declared.refusal.Refusal.{Refusal}
use Rattle.rep_values.specs.declared.refusal.Refusal.TheVariants as refusal
use Rattle.rep_calls.specs.declared.statement.Statement.{Statement}
use Rattle.report_text.specs.Refusals.{is_memory}
use Rattle.script_parse.specs.declared.command.Command.{Command}
use Rattle.script_parse.specs.declared.command.Command.TheVariants as command
use Rattle.script_parse.specs.declared.live_lines.LiveCommand.{LiveCommand}
use Rattle.script_parse.specs.declared.live_lines.LiveCommand.TheVariants as live_command
use Rattle.world_state.specs.declared.refused.Refused.{Refused}
use Rattle.world_state.specs.World.{WorldState}
use Rattle.world_state.specs.Refusals.{world_refusal}
use Rattle.world_state.specs.Steps.{world_step, world_refused, step_by, told_by, step_refused}
use Rattle.world.specs.declared.answer.Answer.{Answer}
use Rattle.world.specs.Doing.{IsDone, IsOutOfMemory, IsRefused}
use Rattle.world_push.specs.Lending.{live_refusal}
use Rattle.world_run.specs.Lent.{LentWorld}
use Rattle.world_run.specs.Ended.{RanPart}
use Rattle.world_run.specs.declared.live_part.OpenSession.{OpenSession}
use Rattle.world_run.specs.declared.live_part.OpenPart.{OpenPart}
use Rattle.world_run.specs.declared.live_part.LivePart.{LivePart}
use Rattle.world_run.specs.declared.live_part.LivePart.TheVariants as part
use Rattle.world_run.specs.LiveParts.{most_sessions, sessions_of, new_part, part_refusal, stated, block_ended, changed_by, taken, with_session, next_session}
use Rattle.world_run.specs.LiveScripts.{LiveState, known, known_by}
use Rattle.world_run.specs.LiveAnswers.{IsAnswered}
use Rattle.run_story.specs.declared.lane.Lane.{Lane}
use Rattle.run_story.specs.declared.part.Part.{Part}
use Rattle.run_story.specs.declared.part.Part.TheVariants as kept
use Rattle.run_story.specs.Telling.{Followed}
use Rattle.run_story.specs.Running.{engine_part, stand_in, stand_of, hindrance_of, plain_refused, GoesOn, PartRan}

-- ---- the world of a line

-- a line that was done
pub done_steps : (number : ℕ) (c : Command) (w w' : WorldState) (answer : Answer) → IsDone number c w w' answer → w' ≡ world_step number c w
done_steps number c w w' answer done = rw (done.passes, done.world) refl

-- a line that was refused, not for want of memory
pub refused_steps : (number : ℕ) (c : Command) (w w' : WorldState) (r : Refused) → is_memory r.refusal ≡ false → IsOutOfMemory number c w w' r ⊎ IsRefused number c w w' r → w' ≡ world_step number c w
refused_steps number c w w' r told (inl short) = let memory = rw short.memory at told in absurd (cc memory)
refused_steps number c w w' r told (inr is) = rw is.world (go (world_refusal c w) is.told)
  where
    go : (o : Option Refusal) → told_by o number c w ≡ Some r → world_refused c w ≡ step_by o number c w
    go None none = absurd (cc none)
    go (Some why) some = refl

-- an empty line leaves it
pub nothing_steps : (number : ℕ) (w : WorldState) → world_step number command.Nothing w ≡ w
nothing_steps number w = go (world_refusal command.Nothing w)
  where
    go : (o : Option Refusal) → step_by o number command.Nothing w ≡ w
    go None = refl
    go (Some why) = refl

-- ---- what is said of a line

-- a line that was done met no refusal
pub done_said : (number : ℕ) (c : Command) (w w' : WorldState) (answer : Answer) → IsDone number c w w' answer → step_refused number c w ≡ None
done_said number c w w' answer done = rw done.passes refl

pub refused_said : (number : ℕ) (c : Command) (w w' : WorldState) (r : Refused) → is_memory r.refusal ≡ false → IsOutOfMemory number c w w' r ⊎ IsRefused number c w w' r → step_refused number c w ≡ Some r
refused_said number c w w' r told (inl short) = let memory = rw short.memory at told in absurd (cc memory)
refused_said number c w w' r told (inr is) = is.told

-- a line that is taken into a part meets the refusal that it is told
pub taken_said : (told : Result OpenPart Refusal) (old new : OpenPart) (refused : Option Refusal) → IsAnswered told old new refused → hindrance_of told ≡ refused
taken_said told old new None is = rw is refl
taken_said told old new (Some why) is = rw is.0 refl

-- ---- where the script stands behind a command

-- a script stands so
abbrev at : WorldState → LivePart → LiveState
at w p = record { world = w; part = p; json = false }

module _ (w : WorldState) (n : ℕ) where
  -- a line that every script may have, in an open part
  pub goes_taken : (c : Command) (p q : OpenPart) (refused : Option Refusal) → IsAnswered (taken n c p) p q refused → GoesOn n (live_command.Plain c) (at w (part.Open p)) (at w (part.Open q))
  goes_taken c p q None told turns may = (tt, rw told refl)
  goes_taken c p q (Some why) told turns may = (tt, rw (told.0, told.1) refl)

  -- an empty line
  pub goes_nothing : (p : LivePart) → GoesOn n (live_command.Plain command.Nothing) (at w p) (at w p)
  goes_nothing part.NotYet turns may = (tt, ap (λ (v : WorldState). at v part.NotYet) (nothing_steps n w))
  goes_nothing (part.Open p) turns may = (tt, refl)
  goes_nothing (part.Ended e) turns may = (may, ap (λ (v : WorldState). at v (part.Ended e)) (nothing_steps n w))

  -- a part is opened
  pub goes_open : (site : SiteName) (p : LivePart) → part_refusal p site w ≡ None → GoesOn n (live_command.Open site) (at w p) (at w (part.Open (new_part site)))
  goes_open site part.NotYet passes turns may = (tt, rw passes refl)
  goes_open site (part.Open p) passes turns may = absurd (cc passes)
  goes_open site (part.Ended e) passes turns may = absurd (cc passes)

  -- or isn't
  pub goes_unopened : (site : SiteName) (p : LivePart) (why : Refusal) → part_refusal p site w ≡ Some why → GoesOn n (live_command.Open site) (at w p) (at w p)
  goes_unopened site p why is turns may = (may, rw is refl)

  -- a session begins, or doesn't
  pub goes_session : (p q : OpenPart) (refused : Option Refusal) → IsAnswered (next_session p) p q refused → GoesOn n live_command.Session (at w (part.Open p)) (at w (part.Open q))
  goes_session p q None told turns may = (tt, rw told refl)
  goes_session p q (Some why) told turns may = (tt, rw (told.0, told.1) refl)

  -- a part is run
  pub goes_end : (p : OpenPart) (v : LentWorld) (e : RanPart) → PartRan w p v e → GoesOn n live_command.End (at w (part.Open p)) (at v.world (part.Ended e))
  goes_end p v e ran turns may =
      let same : turns ≡ ran.turns = may ∙ ap (λ (e : RanPart). e.turns) ran.part in
      (tt, rw (same, ran.runs.behind, ran.part) refl)

  -- outside a part none is
  pub goes_no_end : (p : LivePart) → ((q : OpenPart) → p ≢ part.Open q) → GoesOn n live_command.End (at w p) (at w p)
  goes_no_end part.NotYet other turns may = (tt, refl)
  goes_no_end (part.Open p) other turns may = absurd (other p refl)
  goes_no_end (part.Ended e) other turns may = (may, refl)

-- ---- what is known of a part stays so

-- a line that is none of the three is refused
pub taken_other : (n : ℕ) (c : Command) (p : OpenPart) → (c ≡ command.Nothing → ⊥) → ((statement : Statement) → c ≡ command.Statement statement → ⊥) → (c ≡ command.Commit → ⊥) → taken n c p ≡ Err refusal.WrongPhase
taken_other n command.Nothing p nothing statement commit = absurd (nothing refl)
taken_other n (command.Statement s) p nothing statement commit = absurd (statement s refl)
taken_other n command.Commit p nothing statement commit = absurd (commit refl)
taken_other n other p nothing statement commit = refl

-- a line that goes into a part leaves its site, and as many sessions
record SameSessions (p q : OpenPart) : Type 0 where
  site : q.site ≡ p.site
  count : length (sessions_of q) ≡ length (sessions_of p)

changed_same : (change : OpenSession → OpenSession) (p q : OpenPart) (s : Option OpenSession) → p.session ≡ s → changed_by change p s ≡ Ok q → SameSessions p q
changed_same change p q None is changed = absurd (cc changed)
changed_same change p q (Some s) is changed =
    let same : q ≡ record { site = p.site; earlier = p.earlier; session = Some (change s) } = cc changed in
    rw (same, is) (record { site = refl; count = length-append p.earlier _ ∙ sym (length-append p.earlier _) })

taken_same : (n : ℕ) (c : Command) (p q : OpenPart) → taken n c p ≡ Ok q → SameSessions p q
taken_same n command.Nothing p q is = let same : q ≡ p = cc is in rw same (record { site = refl; count = refl })
taken_same n (command.Statement s) p q is = changed_same (stated n s) p q p.session refl is
taken_same n command.Commit p q is = changed_same block_ended p q p.session refl is
taken_same n other p q is = absurd (cc is)

pub known_taken : (w : WorldState) (n : ℕ) (c : Command) (p q : OpenPart) (refused : Option Refusal) → IsAnswered (taken n c p) p q refused → known_by (part.Open p) w → known_by (part.Open q) w
known_taken w n c p q None told known =
    let same = taken_same n c p q told in
    (rw same.site known.0, rw same.count known.1)
known_taken w n c p q (Some why) told known = rw told.1 known

next_is : (b : Bool) (p q : OpenPart) → cond b (Ok (with_session p)) (Err (refusal.LimitReached limit.Sessions)) ≡ Ok q → (b ≡ true) × (q ≡ with_session p)
next_is true p q is = (refl, cc is)
next_is false p q is = absurd (cc is)

pub known_session : (w : WorldState) (p q : OpenPart) (refused : Option Refusal) → IsAnswered (next_session p) p q refused → known_by (part.Open p) w → known_by (part.Open q) w
known_session w p q (Some why) told known = rw told.1 known
known_session w p q None told known =
    let next = next_is (nat_lt (length (sessions_of p)) most_sessions) p q told in
    let few : length (sessions_of p) < most_sessions = ltb-true (length (sessions_of p)) most_sessions next.0 in
    rw next.1 (known.0, subst (λ (n : ℕ). n ≤ most_sessions) (sym (length-append (sessions_of p) _)) (omega (arith, few)))

-- a part that was run
pub known_end : (w w' : WorldState) (p : OpenPart) (v : LentWorld) (e : RanPart) → PartRan w p v e → known_by (part.Ended e) w'
known_end w w' p v e ran = rw ran.part ran.runs.full

-- with no master lent out
pub free_end : (w : WorldState) (p : OpenPart) (v : LentWorld) (e : RanPart) → PartRan w p v e → v.lent ≡ None
free_end w p v e ran = ran.runs.free

-- ---- where no part is open

module _ (k : Part) (other : (p : OpenPart) → k ≡ kept.Open p → ⊥) where
  -- a line that every script may have goes to the world
  pub around_goes : (w w' : WorldState) (n : ℕ) (c : Command) → w' ≡ world_step n c w → GoesOn n (live_command.Plain c) (at w (engine_part k)) (at w' (engine_part k))
  around_goes w w' n c step = go k other
    where
      go : (k : Part) → ((p : OpenPart) → k ≡ kept.Open p → ⊥) → GoesOn n (live_command.Plain c) (at w (engine_part k)) (at w' (engine_part k))
      go kept.NotYet other turns may = (tt, rw step refl)
      go (kept.Open p) other turns may = absurd (other p refl)
      go (kept.Ended e) other turns may = (may, rw step refl)

  -- what is said of it
  pub around_said : (w : WorldState) (n : ℕ) (c : Command) → plain_refused (engine_part k) w n c ≡ step_refused n c w
  around_said w n c = go k other
    where
      go : (k : Part) → ((p : OpenPart) → k ≡ kept.Open p → ⊥) → plain_refused (engine_part k) w n c ≡ step_refused n c w
      go kept.NotYet other = refl
      go (kept.Open p) other = absurd (other p refl)
      go (kept.Ended e) other = refl

  -- what is known of the part stays so
  pub around_known : (w w' : WorldState) → known_by (engine_part k) w → known_by (engine_part k) w'
  around_known w w' = go k other
    where
      go : (k : Part) → ((p : OpenPart) → k ≡ kept.Open p → ⊥) → known_by (engine_part k) w → known_by (engine_part k) w'
      go kept.NotYet other known = tt
      go (kept.Open p) other known = absurd (other p refl)
      go (kept.Ended e) other known = known

-- ---- a script that is followed

-- its open part is one of a master that may be lent out
pub open_passes : (f : Followed) (p : OpenPart) → known (stand_of f) → f.part ≡ part.Open p → live_refusal p.site f.world.world ≡ None
open_passes f p knows is = (subst (λ (q : LivePart). known_by q f.world.world) is knows).0

-- and has not too many sessions
pub open_few : (f : Followed) (p : OpenPart) → known (stand_of f) → f.part ≡ part.Open p → length (sessions_of p) ≤ most_sessions
open_few f p knows is = (subst (λ (q : LivePart). known_by q f.world.world) is knows).1

-- it goes on behind the end of its part
pub followed_end : (f : Followed) (w : LentWorld) (k : Part) (lanes : List Lane) (n : ℕ) (p : OpenPart) (v : LentWorld) (e : RanPart) → f ≡ record { world = w; part = engine_part k; lanes = lanes }
    → k ≡ kept.Open p → PartRan w.world p v e → GoesOn n live_command.End (stand_of f) (stand_in v (part.Ended e))
followed_end f w k lanes n p v e stands is_open ran = rw (stands, is_open) (goes_end w.world n p v e ran)

-- where world and part are the same
stands_alike : (mid new : Followed) → new.world ≡ mid.world → new.part ≡ mid.part → stand_of new ≡ stand_of mid
stands_alike mid new world part = rw (world, part) refl

-- a look leaves where it stands
pub looked_goes : (n : ℕ) (c : LiveCommand) (s : LiveState) (mid new : Followed) → GoesOn n c s (stand_of mid) → new.world ≡ mid.world → new.part ≡ mid.part → GoesOn n c s (stand_of new)
looked_goes n c s mid new goes world part = subst (λ (x : LiveState). GoesOn n c s x) (sym (stands_alike mid new world part)) goes

pub looked_known : (mid new : Followed) → known (stand_of mid) → new.world ≡ mid.world → new.part ≡ mid.part → known (stand_of new)
looked_known mid new knows world part = subst (λ (x : LiveState). known x) (sym (stands_alike mid new world part)) knows
