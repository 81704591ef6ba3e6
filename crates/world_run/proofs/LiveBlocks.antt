-- A script with a live part, as long as that has no end: what a line does is the same whatever turns the part will have, and little
-- comes together: few transactions of sites' own, and few blocks.
use Rattle.std.proofs.Common.{◌≡◌, ℕ, zero, suc, ◌+◌, ◌<◌, ◌≤◌, ◌⊎◌, List, [], ◌∷◌, ◌++◌, length, length-append, Bool, true, false, Some, None, refl, sym, ap, ◌∙◌, subst, arith, inl, inr}
use Rattle.std.specs.Prelude.{nat_lt, cond, slice_get, Option, Result, Ok, Err}
use Rattle.std.proofs.lemmas.Bool.{cases_lt}
use Rattle.rep_values.specs.declared.name.SiteName.{SiteName}
use Rattle.rep_values.specs.declared.refusal.Limit.TheVariants as limit
use Rattle.rep_values.specs.declared.refusal.Refusal.{Refusal}
use Rattle.rep_values.specs.declared.refusal.Refusal.TheVariants as refusal
use Rattle.script_drive.specs.Runs.{Stepped, goes, halts}
use Rattle.script_drive.proofs.LimitLemmas.{limited-many, limited-long, limited-within}
use Rattle.report_text.specs.Texts.{malformed_text}
use Rattle.report_text.specs.Refusals.{refused_text}
use Rattle.script_parse.specs.declared.command.Command.{Command}
use Rattle.script_parse.specs.declared.command.Command.TheVariants as command
use Rattle.script_parse.specs.declared.live_lines.LiveCommand.{LiveCommand}
use Rattle.script_parse.specs.declared.live_lines.LiveCommand.TheVariants as live_command
use Rattle.script_parse.specs.LiveLines.{live_parsed}
use Rattle.script_parse.proofs.LiveLinesAgain.{keeps_commands}
use Rattle.script_drive.specs.LineBytes.{most_lines, most_bytes, line_step}
use Rattle.live_laws.specs.declared.turn.LiveTurn.{LiveTurn}
use Rattle.live_laws.specs.declared.turn.Session.{Session}
use Rattle.live_laws.specs.Turns.{blocks_in, blocks_of}
use Rattle.world_state.specs.World.{WorldState}
use Rattle.world_state.specs.Steps.{world_step}
use Rattle.world.specs.Texts.{line_text}
use Rattle.world_push.specs.Lending.{live_refusal}
use Rattle.world_run.specs.declared.live_part.OpenSession.{OpenSession}
use Rattle.world_run.specs.declared.live_part.OpenPart.{OpenPart}
use Rattle.world_run.specs.declared.live_part.LivePart.{LivePart}
use Rattle.world_run.specs.declared.live_part.LivePart.TheVariants as part
use Rattle.world_run.specs.LiveParts.{most_sessions, sessions_with, sessions_of, stated, block_ended, changed_by, in_session, taken, with_session, new_part, opened_unless, part_opened, as_part, session_in}
use Rattle.world_run.specs.LiveScripts.{LiveState, live_start, answered, plain_in, end_in, command_step, read_step, live_step}
use Rattle.world_run.proofs.ReadNames.{NamesSite, parsed_names_site}
use Rattle.world_run.proofs.OwnCounts.{IsSmall, first_small, more_small, step_small}

-- ---- blocks

-- how many blocks sessions have
abbrev pub block_count : List Session → ℕ
block_count [] = 0
block_count (s ∷ ss) = length s.blocks + block_count ss

block_count-append : (ss ts : List Session) → block_count (ss ++ ts) ≡ block_count ss + block_count ts
block_count-append [] ts = omega arith
block_count-append (s ∷ ss) ts = omega (arith, block_count-append ss ts)

blocks_at : (place : ℕ) (ss : List Session) → length (blocks_in (slice_get ss place)) ≤ block_count ss
blocks_at place [] = omega arith
blocks_at zero (s ∷ ss) = omega arith
blocks_at (suc place) (s ∷ ss) = omega (arith, blocks_at place ss)

-- one session has no more than all
pub blocks_of-within : (session : ℕ) (ss : List Session) → length (blocks_of session ss) ≤ block_count ss
blocks_of-within zero ss = omega arith
blocks_of-within (suc place) ss = blocks_at place ss

-- ---- where a run stands

-- a part had no end yet
abbrev pub is_yet : LivePart → Bool
is_yet part.NotYet = true
is_yet (part.Open p) = true
is_yet (part.Ended e) = false

-- how many blocks a part without an end has
abbrev pub part_blocks : LivePart → ℕ
part_blocks part.NotYet = 0
part_blocks (part.Open p) = block_count (sessions_of p)
part_blocks (part.Ended e) = 0

-- so little came of so many lines, and the part had no end
pub record IsRunning (n : ℕ) (s : LiveState) : Type 0 where
  pub small : IsSmall n s.world
  pub blocks : part_blocks s.part ≤ n
  pub yet : is_yet s.part ≡ true

pub start_running : (json : Bool) → IsRunning 1 (live_start json)
start_running json = record { small = more_small 0 (live_start json).world first_small; blocks = omega arith; yet = refl }

more_running : (n : ℕ) (s : LiveState) → IsRunning n s → IsRunning (n + 1) s
more_running n s running = record { small = more_small n s.world running.small; blocks = omega (arith, running.blocks); yet = running.yet }

-- a part has one block more at most, and no end yet
record IsMore (n : ℕ) (q : LivePart) : Type 0 where
  blocks : part_blocks q ≤ n + 1
  yet : is_yet q ≡ true

-- ---- lines in a part

in_session_more : (change : OpenSession → OpenSession) → ((s : OpenSession) → length (change s).blocks ≤ length s.blocks + 1) → (n : ℕ) (p : OpenPart) → block_count (sessions_of p) ≤ n
    → (q : LivePart) → as_part (in_session change p) ≡ Ok q → IsMore n q
in_session_more change few n p within q is = go p.session refl is
  where
    go : (o : Option OpenSession) → p.session ≡ o → as_part (changed_by change p o) ≡ Ok q → IsMore n q
    go None stands is = absurd (cc is)
    go (Some session) stands is =
        let new : OpenPart = record { site = p.site; earlier = p.earlier; session = Some (change session) } in
        let same : part.Open new ≡ q = cc is in
        let old : block_count (sessions_with p.earlier (Some session)) ≤ n = subst (λ (o : Option OpenSession). block_count (sessions_with p.earlier o) ≤ n) stands within in
        subst (IsMore n) same (record {
          blocks = omega (arith, old, few session, block_count-append p.earlier (record { blocks = session.blocks } ∷ []), block_count-append p.earlier (record { blocks = (change session).blocks } ∷ []));
          yet = refl;
        })

taken_more : (n number : ℕ) (c : Command) (p : OpenPart) → block_count (sessions_of p) ≤ n → (q : LivePart) → as_part (taken number c p) ≡ Ok q → IsMore n q
taken_more n number command.Nothing p within q is = let same : part.Open p ≡ q = cc is in subst (IsMore n) same (record { blocks = omega (arith, within); yet = refl })
taken_more n number (command.Statement statement) p within q is = in_session_more (stated number statement) (λ s. omega arith) n p within q is
taken_more n number command.Commit p within q is = in_session_more block_ended (λ s. omega (arith, length-append s.blocks (s.block ∷ []))) n p within q is
taken_more n number other p within q is = absurd (cc is)

session_more : (n : ℕ) (old : LivePart) → part_blocks old ≤ n → (q : LivePart) → session_in old ≡ Ok q → IsMore n q
session_more n part.NotYet within q is = absurd (cc is)
session_more n (part.Open p) within q is = go (nat_lt (length (sessions_of p)) most_sessions) is
  where
    go : (b : Bool) → as_part (cond b (Ok (with_session p)) (Err (refusal.LimitReached limit.Sessions))) ≡ Ok q → IsMore n q
    go true is =
        let same : part.Open (with_session p) ≡ q = cc is in
        subst (IsMore n) same (record { blocks = omega (arith, within, block_count-append (sessions_of p) (record { blocks = [] } ∷ [])); yet = refl })
    go false is = absurd (cc is)
session_more n (part.Ended e) within q is = absurd (cc is)

opened_more : (n : ℕ) (old : LivePart) (site : SiteName) (w : WorldState) (q : LivePart) → part_opened old site w ≡ Ok q → IsMore n q
opened_more n part.NotYet site w q is = go (live_refusal site w) is
  where
    go : (o : Option Refusal) → opened_unless o site ≡ Ok q → IsMore n q
    go None is = let same : part.Open (new_part site) ≡ q = cc is in subst (IsMore n) same (record { blocks = omega arith; yet = refl })
    go (Some why) is = absurd (cc is)
opened_more n (part.Open p) site w q is = absurd (cc is)
opened_more n (part.Ended e) site w q is = absurd (cc is)

-- ---- a line

-- whatever turns the part will have: the line ends the run, or the run goes on, or the part ends
pub data Does (s : LiveState) (n : ℕ) (step : List LiveTurn → Stepped LiveState) : Type 0 where
  Halts : (out : List ℕ) → ((turns : List LiveTurn) → step turns ≡ halts s out) → Does s n step
  Goes : (s' : LiveState) → (out : List ℕ) → ((turns : List LiveTurn) → step turns ≡ goes s' out) → IsRunning (n + 1) s' → Does s n step
  Ends : (p : OpenPart) → s.part ≡ part.Open p → n ≤ most_lines → ((turns : List LiveTurn) → step turns ≡ end_in turns (part.Open p) s n) → Does s n step

does_as : (s : LiveState) (n : ℕ) (f g : List LiveTurn → Stepped LiveState) → ((turns : List LiveTurn) → f turns ≡ g turns) → Does s n g → Does s n f
does_as s n f g same (Halts out is) = Halts out (λ turns. same turns ∙ is turns)
does_as s n f g same (Goes s' out is running) = Goes s' out (λ turns. same turns ∙ is turns) running
does_as s n f g same (Ends p stands few is) = Ends p stands few (λ turns. same turns ∙ is turns)

module _ (s : LiveState) (n : ℕ) (running : IsRunning n s) where
  -- it goes into the part, or is refused
  answered_does : (r : Result LivePart Refusal) → ((q : LivePart) → r ≡ Ok q → IsMore n q) → Does s n (λ turns. answered s n r)
  answered_does (Ok q) more =
      Goes (record { world = s.world; part = q; json = s.json }) [] (λ turns. refl)
      (record { small = more_small n s.world running.small; blocks = (more q refl).blocks; yet = (more q refl).yet })
  answered_does (Err why) more = Goes s (refused_text n why) (λ turns. refl) (more_running n s running)

  plain_does : (c : Command) → NamesSite c → (old : LivePart) → s.part ≡ old → Does s n (λ turns. plain_in s.part s n c)
  plain_does c named part.NotYet is =
      Goes (record { world = world_step n c s.world; part = s.part; json = s.json }) (line_text n c s.world) (λ turns. ap (λ (old : LivePart). plain_in old s n c) is)
      (record { small = step_small n n s.world running.small c named; blocks = omega (arith, running.blocks); yet = running.yet })
  plain_does c named (part.Open p) is =
      does_as s n (λ turns. plain_in s.part s n c) (λ turns. answered s n (as_part (taken n c p))) (λ turns. ap (λ (old : LivePart). plain_in old s n c) is)
      (answered_does (as_part (taken n c p)) (taken_more n n c p (subst (λ (old : LivePart). part_blocks old ≤ n) is running.blocks)))
  plain_does c named (part.Ended e) is = let over : false ≡ true = sym (ap is_yet is) ∙ running.yet in absurd (cc over)

  end_does : n ≤ most_lines → (old : LivePart) → s.part ≡ old → Does s n (λ turns. end_in turns s.part s n)
  end_does few part.NotYet is = Goes s (refused_text n refusal.WrongPhase) (λ turns. ap (λ (old : LivePart). end_in turns old s n) is) (more_running n s running)
  end_does few (part.Open p) is = Ends p is few (λ turns. ap (λ (old : LivePart). end_in turns old s n) is)
  end_does few (part.Ended e) is = let over : false ≡ true = sym (ap is_yet is) ∙ running.yet in absurd (cc over)

  command_does : n ≤ most_lines → (line : List ℕ) (c : LiveCommand) → live_parsed line ≡ Ok c → Does s n (λ turns. command_step turns s n c)
  command_does few line (live_command.Plain c) read = plain_does c (parsed_names_site line c ((keeps_commands line c).0 read)) s.part refl
  command_does few line (live_command.Open site) read = answered_does (part_opened s.part site s.world) (opened_more n s.part site s.world)
  command_does few line live_command.Session read = answered_does (session_in s.part) (session_more n s.part running.blocks)
  command_does few line live_command.End read = end_does few s.part refl

  read_does : n ≤ most_lines → (line : List ℕ) → Does s n (λ turns. live_step turns s n line)
  unfolding live_step
  read_does few line = go (live_parsed line) refl
    where
      go : (o : Result LiveCommand ℕ) → live_parsed line ≡ o → Does s n (λ turns. read_step turns s n (live_parsed line))
      go (Err rule) read = Halts (malformed_text n rule) (λ turns. ap (read_step turns s n) read)
      go (Ok c) read = does_as s n (λ turns. read_step turns s n (live_parsed line)) (λ turns. command_step turns s n c) (λ turns. ap (read_step turns s n) read) (command_does few line c read)

  pub line_does : (line : List ℕ) → Does s n (λ turns. line_step (live_step turns) s n line)
  line_does line = go (cases_lt most_lines n) (cases_lt most_bytes (length line))
    where
      go : (most_lines < n) ⊎ (n ≤ most_lines) → (most_bytes < length line) ⊎ (length line ≤ most_bytes) → Does s n (λ turns. line_step (live_step turns) s n line)
      go (inl many) any = Halts (malformed_text n 2) (λ turns. limited-many most_lines most_bytes malformed_text (live_step turns) s n line many)
      go (inr few) (inl long) = Halts (malformed_text n 1) (λ turns. limited-long most_lines most_bytes malformed_text (live_step turns) s n line few long)
      go (inr few) (inr short) =
          does_as s n (λ turns. line_step (live_step turns) s n line) (λ turns. live_step turns s n line)
          (λ turns. limited-within most_lines most_bytes malformed_text (live_step turns) s n line few short) (read_does few line)
