-- The world of a script with a live part is one of a script's, whatever turns the part has.
use Rattle.std.proofs.Common.{◌≡◌, ℕ, ◌+◌, ◌≤◌, List, [], ◌∷◌, length, length-append, Bool, true, false, Some, None, refl, ap, ◌∙◌, subst, arith}
use Rattle.std.specs.Prelude.{nat_lt, cond, if◌then◌else◌, Option, Result, Ok, Err}
use Rattle.std.proofs.lemmas.Bool.{ltb-true}
use Rattle.rep_values.specs.declared.name.SiteName.{SiteName}
use Rattle.rep_values.specs.declared.refusal.Limit.TheVariants as limit
use Rattle.rep_values.specs.declared.refusal.Refusal.{Refusal}
use Rattle.rep_values.specs.declared.refusal.Refusal.TheVariants as refusal
use Rattle.rep_values.specs.RefusalSteps.{refused}
use Rattle.rep_values.proofs.RefusalSteps.{or_then-None, refused_not-None}
use Rattle.script_drive.specs.Lines.{lines_after}
use Rattle.script_drive.specs.Runs.{halts, state_after, last_state}
use Rattle.script_drive.specs.Limits.{limited}
use Rattle.report_text.specs.Texts.{malformed_text}
use Rattle.packet_code.specs.declared.packet.Packet.{Packet}
use Rattle.net_plan.specs.Directions.{on_way_between}
use Rattle.script_parse.specs.declared.command.Command.{Command}
use Rattle.script_parse.specs.declared.command.Command.TheVariants as command
use Rattle.script_parse.specs.declared.live_lines.LiveCommand.{LiveCommand}
use Rattle.script_parse.specs.declared.live_lines.LiveCommand.TheVariants as live_command
use Rattle.script_parse.specs.Named.{NamesColumn}
use Rattle.script_parse.specs.LiveLines.{live_parsed, LiveNamesColumn}
use Rattle.script_parse.proofs.NamedLines.{parsed-Ok}
use Rattle.script_parse.proofs.LiveLinesAgain.{keeps_commands}
use Rattle.script_drive.specs.LineBytes.{most_lines, most_bytes, line_step}
use Rattle.site_state.specs.State.{SiteState}
use Rattle.site_state.specs.Steps.{begun}
use Rattle.site_state.specs.Packets.{site_accept}
use Rattle.site_state.proofs.Changing.{accept_later}
use Rattle.site_events.specs.Cluster.{site_of, at_site}
use Rattle.site_events.specs.Events.{is_master_in, run}
use Rattle.live_laws.specs.declared.turn.LiveTurn.{LiveTurn}
use Rattle.live_laws.specs.declared.turn.Session.{Session}
use Rattle.live_laws.specs.Turns.{site_after}
use Rattle.world_state.specs.World.{WorldState, with_site}
use Rattle.world_state.specs.Phases.{is_setup}
use Rattle.world_state.specs.Pushes.{world_send, world_send_each, positions_above, world_release, world_send_above, taken_each, pushed_in}
use Rattle.world_laws.specs.Reached.{IsOfScript, InSetup, Behind}
use Rattle.world_laws.proofs.Finding.{at_found, of_at}
use Rattle.world.specs.Following.{IsBuilt}
use Rattle.world.proofs.BuiltWorlds.{first_built}
use Rattle.world_push.specs.Lending.{live_phase_step, live_refusal, reaching, brought_from, live_opened}
use Rattle.world_push.proofs.LiveParts.{lendings_are_events, lent_behind, part_built, closed_built}
use Rattle.world_run.specs.declared.live_part.OpenSession.{OpenSession}
use Rattle.world_run.specs.declared.live_part.OpenPart.{OpenPart}
use Rattle.world_run.specs.declared.live_part.LivePart.{LivePart}
use Rattle.world_run.specs.declared.live_part.LivePart.TheVariants as part
use Rattle.world_run.specs.LiveParts.{most_sessions, sessions_with, sessions_of, changed_by, in_session, taken, with_session, new_part, opened_unless, part_opened, as_part, session_in, world_behind_part}
use Rattle.world_run.specs.LiveScripts.{LiveState, live_start, answered, plain_in, end_in, command_step, read_step, live_step, end_of}
use Rattle.world_run.proofs.Worlds.{step_built}

-- ---- what stays

-- an open part is one of a master that may be lent out, and has not too many sessions; so was one that was run, in a world of a script
abbrev pub LivesOn : LivePart → WorldState → Type 0
LivesOn part.NotYet w = Unit {0}
LivesOn (part.Open p) w = (live_refusal p.site w ≡ None) × (length (sessions_of p) ≤ most_sessions)
LivesOn (part.Ended e) w = IsBuilt e.before × (live_refusal e.site e.before ≡ None) × (length e.sessions ≤ most_sessions)

-- a state of a script with a live part
pub record IsLive (s : LiveState) : Type 0 where
  pub built : IsBuilt s.world
  pub part : LivesOn s.part s.world

pub start_live : (json : Bool) → IsLive (live_start json)
start_live json = record { built = first_built; part = tt }

-- ---- a site that is lent out

-- packets that come to a site leave it there
taken_there : (name : SiteName) (packets : List Packet) (sites : List SiteState) (x : SiteState) → site_of name sites ≡ Some x → (y : SiteState) × (site_of name (taken_each name packets sites) ≡ Some y)
taken_there name [] sites x found = (x, found)
taken_there name (packet ∷ packets) sites x found =
    taken_there name packets (at_site name (site_accept packet) sites) (site_accept packet x) (of_at name (site_accept packet) sites x (λ y. (accept_later packet y).here) found)

sent_sites : (from to : SiteName) (positions : List ℕ) (w : WorldState) → (world_send_each from to positions w).sites ≡ w.sites
sent_sites from to [] w = refl
sent_sites from to (position ∷ more) w = sent_sites from to more (world_send from to position w)

pushed_there : (from name : SiteName) (w : WorldState) (x : SiteState) → site_of name w.sites ≡ Some x → (y : SiteState) × (site_of name (pushed_in from name None w).sites ≡ Some y)
pushed_there from name w x found =
    let sent : WorldState = world_send_above from name None (world_release from name w) in
    let same : sent.sites ≡ w.sites = sent_sites from name (positions_above from name None (world_release from name w)) (world_release from name w) in
    taken_there name (on_way_between from name sent.net) sent.sites x (ap (site_of name) same ∙ found)

brought_there : (names : List SiteName) (name : SiteName) (w : WorldState) (x : SiteState) → site_of name w.sites ≡ Some x → (y : SiteState) × (site_of name (brought_from names name w).sites ≡ Some y)
brought_there [] name w x found = (x, found)
brought_there (from ∷ more) name w x found =
    let came = pushed_there from name w x found in
    brought_there more name (pushed_in from name None w) came.0 came.1

master_there : (o : Option SiteState) → is_master_in o ≡ true → (x : SiteState) × (o ≡ Some x)
master_there None is = absurd (cc is)
master_there (Some x) is = (x, refl)

-- a site that may be lent out is there, and so it is as it is lent out
pub opened_is_there : (site : SiteName) (w : WorldState) → IsBuilt w → live_refusal site w ≡ None → (x : SiteState) × (site_of site (live_opened site w).sites ≡ Some x)
opened_is_there site w built passes =
    let second = (or_then-None (live_phase_step w) (refused _ refusal.UnknownName) passes).1 in
    let here = master_there (site_of site w.sites) (refused_not-None (is_master_in (site_of site w.sites)) refusal.UnknownName second) in
    let came = brought_there (reaching site w) site w here.0 here.1 in
    (begun came.0, of_at site begun (brought_from (reaching site w) site w).sites came.0 (λ y. refl) came.1)

-- Setup is over then
pub opened_behind : (site : SiteName) (w : WorldState) → IsOfScript w → is_setup w.phase ≡ false → is_setup (live_opened site w).phase ≡ false
opened_behind site w (InSetup in_setup) behind = absurd (cc (behind, in_setup.setup))
opened_behind site w (Behind r) behind = ((lendings_are_events site).0 w (run r.leads.events r.start) r.leads.simulates).simulates.behind

-- the world behind a part
pub behind_part_built : (site : SiteName) (sessions : List Session) (turns : List LiveTurn) (w : WorldState) → IsBuilt w → live_refusal site w ≡ None → IsBuilt (world_behind_part site sessions turns w)
behind_part_built site sessions turns w built passes = closed_built site (with_site site (site_after sessions turns) (live_opened site w)) back (opened_behind site w built.of_script behind)
  where
    behind : is_setup w.phase ≡ false
    behind = lent_behind site w passes

    back : IsBuilt (with_site site (site_after sessions turns) (live_opened site w))
    back =
        let there = opened_is_there site w built passes in
        subst IsBuilt
        (ap (λ (sites : List SiteState). record (live_opened site w) { sites = sites })
        (at_found site (λ old. site_after sessions turns there.0) (site_after sessions turns) (live_opened site w).sites there.0 there.1 refl))
        (part_built site w built behind there.0 sessions turns there.1)

-- ---- lines in a part

-- the session that stands changes, and there are as many
in_session_lives : (change : OpenSession → OpenSession) (p : OpenPart) (w : WorldState) → LivesOn (part.Open p) w → (q : LivePart) → as_part (in_session change p) ≡ Ok q → LivesOn q w
in_session_lives change p w lives q is = go p.session refl is
  where
    go : (o : Option OpenSession) → p.session ≡ o → as_part (changed_by change p o) ≡ Ok q → LivesOn q w
    go None stands is = absurd (cc is)
    go (Some session) stands is =
        let new : OpenPart = record { site = p.site; earlier = p.earlier; session = Some (change session) } in
        let same : part.Open new ≡ q = cc is in
        let old : length (sessions_with p.earlier (Some session)) ≤ most_sessions = subst (λ (o : Option OpenSession). length (sessions_with p.earlier o) ≤ most_sessions) stands lives.1 in
        subst (λ (l : LivePart). LivesOn l w) same
        (lives.0, omega (arith, old, length-append p.earlier (record { blocks = session.blocks } ∷ []), length-append p.earlier (record { blocks = (change session).blocks } ∷ [])))

-- a line that every script may have
taken_lives : (n : ℕ) (c : Command) (p : OpenPart) (w : WorldState) → LivesOn (part.Open p) w → (q : LivePart) → as_part (taken n c p) ≡ Ok q → LivesOn q w
taken_lives n command.Nothing p w lives q is = let same : part.Open p ≡ q = cc is in subst (λ (l : LivePart). LivesOn l w) same lives
taken_lives n (command.Statement statement) p w lives q is = in_session_lives _ p w lives q is
taken_lives n command.Commit p w lives q is = in_session_lives _ p w lives q is
taken_lives n other p w lives q is = absurd (cc is)

-- the next session begins
session_lives : (old : LivePart) (w : WorldState) → LivesOn old w → (q : LivePart) → session_in old ≡ Ok q → LivesOn q w
session_lives part.NotYet w lives q is = absurd (cc is)
session_lives (part.Open p) w lives q is = go (nat_lt (length (sessions_of p)) most_sessions) refl is
  where
    go : (b : Bool) → nat_lt (length (sessions_of p)) most_sessions ≡ b → as_part (cond b (Ok (with_session p)) (Err (refusal.LimitReached limit.Sessions))) ≡ Ok q → LivesOn q w
    go true less is =
        let same : part.Open (with_session p) ≡ q = cc is in
        subst (λ (l : LivePart). LivesOn l w) same
        (lives.0, omega (arith, ltb-true (length (sessions_of p)) most_sessions less, length-append (sessions_of p) (record { blocks = [] } ∷ [])))
    go false less is = absurd (cc is)
session_lives (part.Ended e) w lives q is = absurd (cc is)

-- a part is opened
opened_lives : (old : LivePart) (site : SiteName) (w : WorldState) (q : LivePart) → part_opened old site w ≡ Ok q → LivesOn q w
opened_lives part.NotYet site w q is = go (live_refusal site w) refl is
  where
    go : (o : Option Refusal) → live_refusal site w ≡ o → opened_unless o site ≡ Ok q → LivesOn q w
    go None passes is = let same : part.Open (new_part site) ≡ q = cc is in subst (λ (l : LivePart). LivesOn l w) same (passes, omega arith)
    go (Some why) passes is = absurd (cc is)
opened_lives (part.Open p) site w q is = absurd (cc is)
opened_lives (part.Ended e) site w q is = absurd (cc is)

-- ---- lines

-- a line that goes into the part, or is refused
answered_live : (s : LiveState) (n : ℕ) (r : Result LivePart Refusal) → IsLive s → ((q : LivePart) → r ≡ Ok q → LivesOn q s.world) → IsLive (answered s n r).state
answered_live s n (Ok q) live new = record { built = live.built; part = new q refl }
answered_live s n (Err why) live new = live

-- one that every script may have
plain_live : (s : LiveState) (n : ℕ) (c : Command) → NamesColumn c → IsLive s → (old : LivePart) → s.part ≡ old → IsLive (plain_in old s n c).state
plain_live s n c named live part.NotYet is = record { built = step_built n c s.world named live.built; part = rw is tt }
plain_live s n c named live (part.Open p) is = answered_live s n (as_part (taken n c p)) live (taken_lives n c p s.world (rw is at live.part))
plain_live s n c named live (part.Ended e) is = record { built = step_built n c s.world named live.built; part = rw is (rw is at live.part) }

-- the end of a part
ended_live : (turns : List LiveTurn) (s : LiveState) (n : ℕ) → IsLive s → (old : LivePart) → s.part ≡ old → IsLive (end_in turns old s n).state
ended_live turns s n live part.NotYet is = live
ended_live turns s n live (part.Open p) is =
    let lives : LivesOn (part.Open p) s.world = subst (λ (l : LivePart). LivesOn l s.world) is live.part in
    record { built = behind_part_built p.site (sessions_of p) turns s.world live.built lives.0; part = (live.built, lives.0, lives.1) }
ended_live turns s n live (part.Ended e) is = live

command_live : (turns : List LiveTurn) (s : LiveState) (n : ℕ) (c : LiveCommand) → LiveNamesColumn c → IsLive s → IsLive (command_step turns s n c).state
command_live turns s n (live_command.Plain c) named live = plain_live s n c named live s.part refl
command_live turns s n (live_command.Open site) named live = answered_live s n (part_opened s.part site s.world) live (opened_lives s.part site s.world)
command_live turns s n live_command.Session named live = answered_live s n (session_in s.part) live (session_lives s.part s.world live.part)
command_live turns s n live_command.End named live = ended_live turns s n live s.part refl

-- what a line that is read declares
live_named : (line : List ℕ) (c : LiveCommand) → live_parsed line ≡ Ok c → LiveNamesColumn c
live_named line (live_command.Plain c) read = parsed-Ok line c ((keeps_commands line c).0 read)
live_named line (live_command.Open site) read = tt
live_named line live_command.Session read = tt
live_named line live_command.End read = tt

stepped_live : (turns : List LiveTurn) (s : LiveState) (n : ℕ) (line : List ℕ) → IsLive s → IsLive (live_step turns s n line).state
unfolding live_step
stepped_live turns s n line live = go (live_parsed line) refl
  where
    go : (o : Result LiveCommand ℕ) → live_parsed line ≡ o → IsLive (read_step turns s n o).state
    go (Err rule) read = live
    go (Ok c) read = command_live turns s n c (live_named line c read) live

-- a line, whatever it is
pub live_kept : (turns : List LiveTurn) (s : LiveState) (n : ℕ) (line : List ℕ) → IsLive s → IsLive (line_step (live_step turns) s n line).state
unfolding limited
live_kept turns s n line live = go (nat_lt most_lines n) (nat_lt most_bytes (length line))
  where
    go : (a b : Bool) → IsLive (if a then halts s (malformed_text n 2) else if b then halts s (malformed_text n 1) else live_step turns s n line).state
    go true b = live
    go false true = live
    go false false = stepped_live turns s n line live

-- and lines, however far they are run
pub kept_behind : (turns : List LiveTurn) (s : LiveState) (n : ℕ) (lines : List (List ℕ)) → IsLive s → IsLive (state_after (line_step (live_step turns)) s n lines)
kept_behind turns s n [] live = live
kept_behind turns s n (line ∷ lines) live = kept_behind turns (line_step (live_step turns) s n line).state (n + 1) lines (live_kept turns s n line live)

kept_at_end : (turns : List LiveTurn) (s : LiveState) (n : ℕ) (lines : List (List ℕ)) → IsLive s → IsLive (last_state (line_step (live_step turns)) s n lines)
kept_at_end turns s n [] live = live
kept_at_end turns s n (line ∷ lines) live = go (line_step (live_step turns) s n line).stops (kept_at_end turns (line_step (live_step turns) s n line).state (n + 1) lines next)
  where
    next : IsLive (line_step (live_step turns) s n line).state
    next = live_kept turns s n line live

    go : (b : Bool) → IsLive (last_state (line_step (live_step turns)) (line_step (live_step turns) s n line).state (n + 1) lines)
        → IsLive (if b then (line_step (live_step turns) s n line).state else last_state (line_step (live_step turns)) (line_step (live_step turns) s n line).state (n + 1) lines)
    go true later = next
    go false later = later

pub live_behind : (json : Bool) (turns : List LiveTurn) (lines : List (List ℕ)) → IsLive (state_after (line_step (live_step turns)) (live_start json) 1 lines)
live_behind json turns lines = kept_behind turns (live_start json) 1 lines (start_live json)

pub live_at_end : (json : Bool) (turns : List LiveTurn) (script : List ℕ) → IsLive (end_of json turns script)
live_at_end json turns script = kept_at_end turns (live_start json) 1 (lines_after [] script) (start_live json)
