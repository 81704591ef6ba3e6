-- What comes of a command, by how far the part is.
use Rattle.std.proofs.Common.{◌≡◌, ◌≢◌, ℕ, ◌≤◌, ◌<◌, arith, List, [], length, length-append, Bool, true, false, cond, Some, None, refl, sym, ap, subst, ◌∙◌, nat_lt}
use Rattle.std.proofs.lemmas.Bool.{ltb-true}
use Rattle.std.specs.Prelude.{Option, Ok, Err}
use Rattle.rep_values.specs.declared.name.SiteName.{SiteName}
use Rattle.rep_values.specs.declared.refusal.Limit.TheVariants as limit
use Rattle.rep_values.specs.declared.refusal.Refusal.{Refusal}
use Rattle.rep_values.specs.declared.refusal.Refusal.TheVariants as refusal
use Rattle.script_drive.specs.Runs.{goes}
use Rattle.rep_calls.specs.declared.statement.Statement.{Statement}
use Rattle.script_parse.specs.declared.command.Command.{Command}
use Rattle.script_parse.specs.declared.command.Command.TheVariants as command
use Rattle.script_parse.specs.declared.live_lines.LiveCommand.{LiveCommand}
use Rattle.script_parse.specs.declared.live_lines.LiveCommand.TheVariants as live_command
use Rattle.script_parse.specs.LiveLines.{live_parsed}
use Rattle.script_lex.specs.declared.stop.LineStop.{LineStop}
use Rattle.script_lex.specs.declared.stop.LineStop.TheVariants.{Rule, Memory}
use Rattle.script_lex.specs.Stop.{Fails}
use Rattle.script_drive.specs.LineBytes.{GoesBy, StopsBy}
use Rattle.live_laws.specs.declared.turn.LiveTurn.{LiveTurn}
use Rattle.world_state.specs.World.{WorldState}
use Rattle.world_run.specs.Scripts.{stepped_by}
use Rattle.world_run.specs.Lent.{LentWorld}
use Rattle.world_run.specs.Ended.{RanPart}
use Rattle.world_run.specs.declared.live_part.OpenPart.{OpenPart}
use Rattle.world_run.specs.declared.live_part.LivePart.{LivePart}
use Rattle.world_run.specs.declared.live_part.LivePart.TheVariants as part
use Rattle.world_run.specs.declared.live_part.OpenSession.{OpenSession}
use Rattle.world_run.specs.LiveParts.{most_sessions, sessions_of, new_part, part_refusal, stated, block_ended, changed_by, taken, with_session, next_session}
use Rattle.world_run.specs.LiveScripts.{LiveState, around, live_step, allowed, known_by}
use Rattle.world_run.specs.LiveAnswers.{IsAnswered, IsRan}
use Rattle.world_run.specs.LiveRunning.{world_in, answer_text, AnswersIn, IsRanIn, RunGoesOn}

-- a script stands so
abbrev at : WorldState → LivePart → Bool → LiveState
at w p json = record { world = w; part = p; json = json }

module _ (w : WorldState) (json : Bool) (n : ℕ) where
  -- a line that every script may have, in an open part
  pub goes_taken : (c : Command) (p q : OpenPart) (refused : Option Refusal) → IsAnswered (taken n c p) p q refused
      → RunGoesOn n (live_command.Plain c) (at w (part.Open p) json) (at w (part.Open q) json) (answer_text n refused)
  goes_taken c p q None told turns may = (tt, rw told refl)
  goes_taken c p q (Some why) told turns may = (tt, rw (told.0, told.1) refl)

  -- around one
  pub goes_around : (c : Command) (p : LivePart) (w' : WorldState) (out : List ℕ) → ((q : OpenPart) → p ≢ part.Open q) → stepped_by w n (Ok c) ≡ goes w' out
      → RunGoesOn n (live_command.Plain c) (at w p json) (at w' p json) out
  goes_around c part.NotYet w' out other step turns may = (tt, ap (around (at w part.NotYet json)) step)
  goes_around c (part.Open p) w' out other step turns may = absurd (other p refl)
  goes_around c (part.Ended e) w' out other step turns may = (may, ap (around (at w (part.Ended e) json)) step)

  -- a part is opened
  pub goes_open : (site : SiteName) (p : LivePart) → part_refusal p site w ≡ None → RunGoesOn n (live_command.Open site) (at w p json) (at w (part.Open (new_part site)) json) []
  goes_open site part.NotYet passes turns may = (tt, rw passes refl)
  goes_open site (part.Open p) passes turns may = absurd (cc passes)
  goes_open site (part.Ended e) passes turns may = absurd (cc passes)

  -- or isn't
  pub goes_unopened : (site : SiteName) (p : LivePart) (why : Refusal) → part_refusal p site w ≡ Some why → RunGoesOn n (live_command.Open site) (at w p json) (at w p json) (answer_text n (Some why))
  goes_unopened site p why is turns may = (may, rw is refl)

  -- a session begins, or doesn't
  pub goes_session : (p q : OpenPart) (refused : Option Refusal) → IsAnswered (next_session p) p q refused
      → RunGoesOn n live_command.Session (at w (part.Open p) json) (at w (part.Open q) json) (answer_text n refused)
  goes_session p q None told turns may = (tt, rw told refl)
  goes_session p q (Some why) told turns may = (tt, rw (told.0, told.1) refl)

  -- a part is run
  pub goes_end : (p : OpenPart) (v : LentWorld) (e : RanPart) (out : List ℕ) → IsRan json w p v e out → RunGoesOn n live_command.End (at w (part.Open p) json) (at v.world (part.Ended e) json) out
  goes_end p v e out ran turns may =
      let same : turns ≡ ran.turns = may ∙ ap (λ (e : RanPart). e.turns) ran.part in
      (tt, rw (same, ran.runs.behind, ran.part, ran.told) refl)

-- ---- what is known of a part stays so

-- a line that is none of the three is refused
pub taken_other : (n : ℕ) (c : Command) (p : OpenPart) → (c ≡ command.Nothing → ⊥) → ((statement : Statement) → c ≡ command.Statement statement → ⊥) → (c ≡ command.Commit → ⊥) → taken n c p ≡ Err refusal.WrongPhase
taken_other n command.Nothing p nothing statement commit = absurd (nothing refl)
taken_other n (command.Statement s) p nothing statement commit = absurd (statement s refl)
taken_other n command.Commit p nothing statement commit = absurd (commit refl)
taken_other n other p nothing statement commit = refl

-- a line that goes into a part leaves its site, and as many sessions
record SameSessions (p q : OpenPart) : Type 0 where
  site : q.site ≡ p.site
  count : length (sessions_of q) ≡ length (sessions_of p)

changed_same : (change : OpenSession → OpenSession) (p q : OpenPart) (s : Option OpenSession) → p.session ≡ s → changed_by change p s ≡ Ok q → SameSessions p q
changed_same change p q None is changed = absurd (cc changed)
changed_same change p q (Some s) is changed =
    let same : q ≡ record { site = p.site; earlier = p.earlier; session = Some (change s) } = cc changed in
    rw (same, is) (record { site = refl; count = length-append p.earlier _ ∙ sym (length-append p.earlier _) })

taken_same : (n : ℕ) (c : Command) (p q : OpenPart) → taken n c p ≡ Ok q → SameSessions p q
taken_same n command.Nothing p q is = let same : q ≡ p = cc is in rw same (record { site = refl; count = refl })
taken_same n (command.Statement s) p q is = changed_same (stated n s) p q p.session refl is
taken_same n command.Commit p q is = changed_same block_ended p q p.session refl is
taken_same n other p q is = absurd (cc is)

pub known_taken : (w : WorldState) (n : ℕ) (c : Command) (p q : OpenPart) (refused : Option Refusal) → IsAnswered (taken n c p) p q refused → known_by (part.Open p) w → known_by (part.Open q) w
known_taken w n c p q None told known =
    let same = taken_same n c p q told in
    (rw same.site known.0, rw same.count known.1)
known_taken w n c p q (Some why) told known = rw told.1 known

next_is : (b : Bool) (p q : OpenPart) → cond b (Ok (with_session p)) (Err (refusal.LimitReached limit.Sessions)) ≡ Ok q → (b ≡ true) × (q ≡ with_session p)
next_is true p q is = (refl, cc is)
next_is false p q is = absurd (cc is)

pub known_session : (w : WorldState) (p q : OpenPart) (refused : Option Refusal) → IsAnswered (next_session p) p q refused → known_by (part.Open p) w → known_by (part.Open q) w
known_session w p q (Some why) told known = rw told.1 known
known_session w p q None told known =
    let next = next_is (nat_lt (length (sessions_of p)) most_sessions) p q told in
    let few : length (sessions_of p) < most_sessions = ltb-true (length (sessions_of p)) most_sessions next.0 in
    rw next.1 (known.0, subst (λ (n : ℕ). n ≤ most_sessions) (sym (length-append (sessions_of p) _)) (omega (arith, few)))

-- ---- a script that stands so

-- a line in an open part
pub part_goes : (s : LiveState) (w : WorldState) (po : LivePart) (json : Bool) (n : ℕ) (c : Command) (p q : OpenPart) (out : List ℕ) → s ≡ at w po json → po ≡ part.Open p
    → AnswersIn n (taken n c p) p q out → RunGoesOn n (live_command.Plain c) s (at w (part.Open q) json) out
part_goes s w po json n c p q out stands is_open answers =
    rw (stands, is_open, answers.1.1) (goes_taken w json n c p q answers.0 answers.1.0)

-- the end of an open part
pub end_goes : (s : LiveState) (w : WorldState) (po : LivePart) (json : Bool) (n : ℕ) (p : OpenPart) (new : Option LentWorld) (e : RanPart) (out : List ℕ) → s ≡ at w po json → po ≡ part.Open p
    → IsRanIn json w p new e out → RunGoesOn n live_command.End s (at (world_in new) (part.Ended e) json) out
end_goes s w po json n p new e out stands is_open ran =
    rw (stands, is_open, ran.1.0) (goes_end w json n p ran.0 e out ran.1.1)

-- a line that gives a command
pub live_step-goes : (s s' : LiveState) (n : ℕ) (line out : List ℕ) (c : LiveCommand) → live_parsed line ≡ Ok c → RunGoesOn n c s s' out → GoesBy live_step allowed s n line s' out
unfolding live_step
live_step-goes s s' n line out c read goes turns may = let went = goes turns may in (went.0, rw read went.1)

-- a line that gives none
pub live_step-broken : (Wants : Type 0) (turns : List LiveTurn) (s : LiveState) (n : ℕ) (line : List ℕ) (stop : LineStop) → Fails Wants stop (live_parsed line) → StopsBy (live_step turns s n line) s n stop
unfolding live_step
live_step-broken Wants turns s n line (Rule rule) broken = rw broken refl
live_step-broken Wants turns s n line Memory broken = tt
