-- Turns that the state behind a run allows, and that are full for the whole script.
use Rattle.std.proofs.Common.{◌≡◌, ℕ, ◌+◌, List, [], ◌∷◌, length, Bool, true, false, cond, Some, None, inl, inr, ◌⊎◌, refl, sym, subst, ◌∙◌, nat_lt}
use Rattle.std.specs.Prelude.{Option, Result, Ok, Err, is_err, ⊤}
use Rattle.rep_values.specs.declared.name.SiteName.{SiteName}
use Rattle.rep_values.specs.declared.refusal.Refusal.{Refusal}
use Rattle.script_drive.specs.Lines.{lines_after}
use Rattle.script_drive.specs.Runs.{Stepped, halts, last_state}
use Rattle.script_drive.specs.Fed.{Reaches}
use Rattle.script_drive.specs.Limits.{limited}
use Rattle.script_drive.proofs.ReachLemmas.{holds_behind_reached}
use Rattle.report_text.specs.Texts.{malformed_text}
use Rattle.script_parse.specs.declared.command.Command.{Command}
use Rattle.script_parse.specs.declared.live_lines.LiveCommand.{LiveCommand}
use Rattle.script_parse.specs.declared.live_lines.LiveCommand.TheVariants as live_command
use Rattle.script_parse.specs.LiveLines.{live_parsed}
use Rattle.script_drive.specs.LineBytes.{line_step, most_lines, most_bytes}
use Rattle.script_drive.specs.Outcome.{RanBy}
use Rattle.script_drive.specs.Prompt.{Asked}
use Rattle.script_drive.specs.declared.status.Status.{Status}
use Rattle.live_laws.specs.declared.turn.LiveTurn.{LiveTurn}
use Rattle.live_laws.proofs.Completion.{full_runs_exist}
use Rattle.world_state.specs.World.{WorldState}
use Rattle.world_run.specs.Ended.{RanPart}
use Rattle.world_run.specs.declared.live_part.OpenPart.{OpenPart}
use Rattle.world_run.specs.declared.live_part.LivePart.{LivePart}
use Rattle.world_run.specs.declared.live_part.LivePart.TheVariants as part
use Rattle.world_run.specs.LiveParts.{sessions_of, taken, origins_of, part_opened, opened_unless, part_refusal, as_part, session_in, next_session, IsFullPart}
use Rattle.world_run.specs.LiveScripts.{LiveState, live_start, answered, plain_in, end_in, read_step, live_step, end_of, FullIn, IsFull, allowed, known, known_by, RunsFully, ReportsFully}
use Rattle.world_run.proofs.LiveWorldsStay.{LivesOn, live_at_end, opened_is_there}

-- ---- a part that was run stays

read_stays : (turns : List LiveTurn) (e : RanPart) (s : LiveState) (n : ℕ) (read : Result LiveCommand ℕ) → s.part ≡ part.Ended e → (read_step turns s n read).state.part ≡ part.Ended e
read_stays turns e s n (Err rule) was = was
read_stays turns e s n (Ok (live_command.Plain c)) was = rw was refl
read_stays turns e s n (Ok (live_command.Open site)) was = rw was refl
read_stays turns e s n (Ok live_command.Session) was = rw was refl
read_stays turns e s n (Ok live_command.End) was = rw was refl

-- what holds of the states of both holds of that of the one that is taken
either : (P : LiveState → Type 0) (t : Bool) (x y : Stepped LiveState) → P x.state → P y.state → P (cond t x y).state
either P true x y here there = here
either P false x y here there = there

pub part_stays : (turns : List LiveTurn) (e : RanPart) (s : LiveState) (n : ℕ) (line : List ℕ) → s.part ≡ part.Ended e → (line_step (live_step turns) s n line).state.part ≡ part.Ended e
unfolding limited live_step
part_stays turns e s n line was =
    either (λ t. t.part ≡ part.Ended e) (nat_lt most_lines n) (halts s (malformed_text n 2)) _ was
    (either (λ t. t.part ≡ part.Ended e) (nat_lt most_bytes (length line)) (halts s (malformed_text n 1)) _ was
    (read_stays turns e s n (live_parsed line) was))

-- ---- whether a line ends the run doesn't hang on turns

answered_goes : (s : LiveState) (n : ℕ) (answer : Result LivePart Refusal) → (answered s n answer).stops ≡ false
answered_goes s n (Ok p) = refl
answered_goes s n (Err why) = refl

plain_goes : (p : LivePart) (s : LiveState) (n : ℕ) (c : Command) → (plain_in p s n c).stops ≡ false
plain_goes part.NotYet s n c = refl
plain_goes (part.Open p) s n c = answered_goes s n (as_part (taken n c p))
plain_goes (part.Ended e) s n c = refl

end_goes : (turns : List LiveTurn) (p : LivePart) (s : LiveState) (n : ℕ) → (end_in turns p s n).stops ≡ false
end_goes turns part.NotYet s n = refl
end_goes turns (part.Open p) s n = refl
end_goes turns (part.Ended e) s n = refl

read_stops : (turns : List LiveTurn) (s : LiveState) (n : ℕ) (read : Result LiveCommand ℕ) → (read_step turns s n read).stops ≡ is_err read
read_stops turns s n (Err rule) = refl
read_stops turns s n (Ok (live_command.Plain c)) = plain_goes s.part s n c
read_stops turns s n (Ok (live_command.Open site)) = answered_goes s n (part_opened s.part site s.world)
read_stops turns s n (Ok live_command.Session) = answered_goes s n (session_in s.part)
read_stops turns s n (Ok live_command.End) = end_goes turns s.part s n

-- ---- two runs by different turns

-- the part wasn't run
abbrev IsBefore : LivePart → Type 0
IsBefore part.NotYet = ⊤
IsBefore (part.Open p) = ⊤
IsBefore (part.Ended e) = ⊥

-- a part was run with these turns
abbrev with_turns : List LiveTurn → RanPart → RanPart
with_turns turns e = record { site = e.site; before = e.before; sessions = e.sessions; turns = turns }

-- before the part is run the turns make no difference, and behind it none to what it was run on
module _ (turns others : List LiveTurn) where
  abbrev Alike : LiveState → LiveState → Type 0
  Alike s t = ((s ≡ t) × IsBefore s.part) ⊎ ((e : RanPart) × (s.part ≡ part.Ended (with_turns turns e)) × (t.part ≡ part.Ended (with_turns others e)))

  record StepAlike (x y : Stepped LiveState) : Type 0 where
    stops : x.stops ≡ y.stops
    state : Alike x.state y.state

  answered_before : (s : LiveState) (n : ℕ) (answer : Result LivePart Refusal) → ((p : LivePart) → answer ≡ Ok p → IsBefore p) → IsBefore s.part → IsBefore (answered s n answer).state.part
  answered_before s n (Ok p) ok here = ok p refl
  answered_before s n (Err why) ok here = here

  opened_before : (why : Option Refusal) (site : SiteName) (p : LivePart) → opened_unless why site ≡ Ok p → IsBefore p
  opened_before None site (part.Open p) is = tt
  opened_before None site part.NotYet is = tt
  opened_before None site (part.Ended e) is = absurd (cc is)
  opened_before (Some why) site p is = absurd (cc is)

  as_part_before : (answer : Result OpenPart Refusal) (p : LivePart) → as_part answer ≡ Ok p → IsBefore p
  as_part_before (Ok q) (part.Open p) is = tt
  as_part_before (Ok q) part.NotYet is = tt
  as_part_before (Ok q) (part.Ended e) is = absurd (cc is)
  as_part_before (Err why) p is = absurd (cc is)

  session_before : (old p : LivePart) → session_in old ≡ Ok p → IsBefore p
  session_before part.NotYet p is = absurd (cc is)
  session_before (part.Open q) p is = as_part_before (next_session q) p is
  session_before (part.Ended e) p is = absurd (cc is)

  plain_before : (s : LiveState) (old : LivePart) (n : ℕ) (c : Command) → IsBefore s.part → IsBefore (plain_in old s n c).state.part
  plain_before s part.NotYet n c here = here
  plain_before s (part.Open p) n c here = answered_before s n (as_part (taken n c p)) (as_part_before (taken n c p)) here
  plain_before s (part.Ended e) n c here = here

  end_alike : (s : LiveState) (old : LivePart) (n : ℕ) → IsBefore old → IsBefore s.part → Alike (end_in turns old s n).state (end_in others old s n).state
  end_alike s part.NotYet n here before = inl (refl, before)
  end_alike s (part.Open p) n here before = inr (record { site = p.site; before = s.world; sessions = sessions_of p; turns = [] }, refl, refl)
  end_alike s (part.Ended e) n here before = absurd here

  same_alike : (s : LiveState) (n : ℕ) (read : Result LiveCommand ℕ) → IsBefore s.part → Alike (read_step turns s n read).state (read_step others s n read).state
  same_alike s n (Err rule) here = inl (refl, here)
  same_alike s n (Ok (live_command.Plain c)) here = inl (refl, plain_before s s.part n c here)
  same_alike s n (Ok (live_command.Open site)) here = inl (refl, answered_before s n (part_opened s.part site s.world) (opened_before (part_refusal s.part site s.world) site) here)
  same_alike s n (Ok live_command.Session) here = inl (refl, answered_before s n (session_in s.part) (session_before s.part) here)
  same_alike s n (Ok live_command.End) here = end_alike s s.part n here here

  read_alike : (s t : LiveState) (n : ℕ) (read : Result LiveCommand ℕ) → Alike s t → StepAlike (read_step turns s n read) (read_step others t n read)
  read_alike s t n read alike = record { stops = read_stops turns s n read ∙ sym (read_stops others t n read); state = go alike }
    where
      go : Alike s t → Alike (read_step turns s n read).state (read_step others t n read).state
      go (inl same) = subst (λ (u : LiveState). Alike (read_step turns s n read).state (read_step others u n read).state) same.0 (same_alike s n read same.1)
      go (inr was) = inr (was.0, read_stays turns (with_turns turns was.0) s n read was.1, read_stays others (with_turns others was.0) t n read was.2)

  both : (c : Bool) (x y x' y' : Stepped LiveState) → StepAlike x x' → StepAlike y y' → StepAlike (cond c x y) (cond c x' y')
  both true x y x' y' here there = here
  both false x y x' y' here there = there

  halts_alike : (s t : LiveState) (out : List ℕ) → Alike s t → StepAlike (halts s out) (halts t out)
  halts_alike s t out alike = record { stops = refl; state = alike }

  step_alike : (s t : LiveState) (n : ℕ) (line : List ℕ) → Alike s t → StepAlike (line_step (live_step turns) s n line) (line_step (live_step others) t n line)
  unfolding limited live_step
  step_alike s t n line alike =
      both (nat_lt most_lines n) (halts s (malformed_text n 2)) _ (halts t (malformed_text n 2)) _ (halts_alike s t (malformed_text n 2) alike)
      (both (nat_lt most_bytes (length line)) (halts s (malformed_text n 1)) _ (halts t (malformed_text n 1)) _ (halts_alike s t (malformed_text n 1) alike)
      (read_alike s t n (live_parsed line) alike))

  choice_alike : (c d : Bool) (s t u v : LiveState) → c ≡ d → Alike s t → Alike u v → Alike (cond c s u) (cond d t v)
  choice_alike true true s t u v same here there = here
  choice_alike false false s t u v same here there = there
  choice_alike true false s t u v same here there = absurd (cc same)
  choice_alike false true s t u v same here there = absurd (cc same)

  lines_alike : (s t : LiveState) (n : ℕ) (lines : List (List ℕ)) → Alike s t → Alike (last_state (line_step (live_step turns)) s n lines) (last_state (line_step (live_step others)) t n lines)
  lines_alike s t n [] alike = alike
  lines_alike s t n (line ∷ lines) alike =
      let one = line_step (live_step turns) s n line in
      let two = line_step (live_step others) t n line in
      let same = step_alike s t n line alike in
      choice_alike one.stops two.stops one.state two.state (last_state (line_step (live_step turns)) one.state (n + 1) lines) (last_state (line_step (live_step others)) two.state (n + 1) lines)
      same.stops same.state (lines_alike one.state two.state (n + 1) lines same.state)

  pub ends_alike : (json : Bool) (script : List ℕ) → Alike (end_of json turns script) (end_of json others script)
  ends_alike json script = lines_alike (live_start json) (live_start json) 1 (lines_after [] script) (inl (refl, tt))

-- ---- each script has full turns

-- a part that may be run has a full run
full_part : (e : RanPart) (w : WorldState) → LivesOn (part.Ended e) w → (turns : List LiveTurn) × IsFullPart e.site e.sessions turns e.before
full_part e w lives =
    let opened = opened_is_there e.site e.before lives.0 lives.1 in
    let full = full_runs_exist (origins_of e.site opened.0) e.sessions opened.0 in
    (full.0, record { opened = opened.0; here = opened.1; full = full.1 })

full_of : (e : RanPart) (turns : List LiveTurn) (s t : LiveState) → s.part ≡ part.Ended e → IsFullPart e.site e.sessions turns e.before → Alike [] turns s t → FullIn turns t.part
full_of e turns s t is full (inl same) = absurd (ended_before s.part is same.1)
  where
    ended_before : (p : LivePart) → p ≡ part.Ended e → IsBefore p → ⊥
    ended_before part.NotYet is here = cc is
    ended_before (part.Open p) is here = cc is
    ended_before (part.Ended e') is here = here
full_of e turns s t is full (inr was) =
    let same : with_turns [] was.0 ≡ e = ended_same (with_turns [] was.0) e (sym was.1 ∙ is) in
    rw was.2 (subst (λ (e' : RanPart). IsFullPart e'.site e'.sessions turns e'.before) (sym same) full)
  where
    ended_same : (one two : RanPart) → part.Ended one ≡ part.Ended two → one ≡ two
    ended_same one two is = cc is

pub some_full : (json : Bool) (script : List ℕ) → (turns : List LiveTurn) × IsFull json script turns
some_full json script = go (end_of json [] script).part refl (live_at_end json [] script).part
  where
    go : (p : LivePart) → (end_of json [] script).part ≡ p → LivesOn (end_of json [] script).part (end_of json [] script).world → (turns : List LiveTurn) × IsFull json script turns
    go part.NotYet is lives = ([], rw is refl)
    go (part.Open p) is lives = ([], rw is refl)
    go (part.Ended e) is lives =
        let full = full_part e (end_of json [] script).world (subst (λ (p : LivePart). LivesOn p (end_of json [] script).world) is lives) in
        (full.0, full_of e full.0 (end_of json [] script) (end_of json full.0 script) is full.1 (ends_alike [] full.0 json script))

-- a state that the run came to allows turns that are full
allows : (json : Bool) (script : List ℕ) (s : LiveState) → known s
    → ((turns : List LiveTurn) → allowed s turns → Reaches (line_step (live_step turns)) (live_start json) 1 (lines_after [] script) s)
    → (turns : List LiveTurn) × IsFull json script turns × allowed s turns
allows json script s holds reached = go s.part refl
  where
    go : (p : LivePart) → s.part ≡ p → (turns : List LiveTurn) × IsFull json script turns × allowed s turns
    go part.NotYet is = let full = some_full json script in (full.0, full.1, rw is tt)
    go (part.Open p) is = let full = some_full json script in (full.0, full.1, rw is tt)
    go (part.Ended e) is =
        let may : allowed s e.turns = rw is refl in
        let stays : (end_of json e.turns script).part ≡ part.Ended e =
        holds_behind_reached (line_step (live_step e.turns)) (λ t. t.part ≡ part.Ended e) (part_stays e.turns e) (live_start json) 1 (lines_after [] script) s (reached e.turns may) is in
        (e.turns, rw stays (subst (λ (p : LivePart). known_by p s.world) is holds), may)

pub runs_fully : (json : Bool) (status : Status) (l l' k k' : Option (List ℕ)) (r r' : Option (List Asked)) → RanBy live_step allowed known (live_start json) status l l' k k' r r' → RunsFully json status l l' k k' r r'
runs_fully json status l l' k k' r r' ran script is =
    let full = allows json script ran.0 ran.1 (λ turns may. (ran.2 turns may).reached script is) in
    let by = ran.2 full.0 full.2 in
    (full.0, full.1, by.told, by.prompt)

pub reports_fully : (json : Bool) (status : Status) (l l' k k' : Option (List ℕ)) (r r' : Option (List Asked)) → RunsFully json status l l' k k' r r' → ReportsFully json status l l' k k'
reports_fully json status l l' k k' r r' runs script earlier is_left is_taken =
    let full = runs script is_left in
    let told = full.2 script earlier is_left is_taken in
    (told.0, told.1, told.2, told.3, (full.0, full.1, told.4))
