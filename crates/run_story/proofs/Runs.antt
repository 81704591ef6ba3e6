-- A script that is run line by line, and where the engine's own run of it ends.
use Rattle.std.proofs.Common.{◌≡◌, ℕ, suc, ◌+◌, ◌-◌, arith, List, [], ◌∷◌, ◌++◌, length, length-append, Bool, true, false, cond, Some, refl, sym, ap, subst, ◌∙◌, append_assoc}
use Rattle.std.specs.Prelude.{slice_get}
use Rattle.std.proofs.lemmas.List.{map-append, length-map}
use Rattle.script_drive.specs.Runs.{state_after, last_state}
use Rattle.script_drive.proofs.RunLemmas.{state_after-append}
use Rattle.script_drive.specs.Lines.{lines_after}
use Rattle.live_laws.specs.declared.turn.LiveTurn.{LiveTurn}
use Rattle.world_run.specs.declared.live_part.LivePart.{LivePart}
use Rattle.world_run.specs.declared.live_part.LivePart.TheVariants as part
use Rattle.world_run.specs.LiveScripts.{LiveState, live_start, end_of, FullIn, allowed, known, known_by}
use Rattle.run_story.specs.declared.happening.Line.{Line}
use Rattle.run_story.specs.Telling.{StoryView, words_of, ends_run, ends_run_in, AreLinesOf}
use Rattle.run_story.specs.Running.{story_stand, engine_step, said_in, line_said, LineGoes, Stands, SaysAll, IsRun, RunsAsEngine}

-- a line more
stands_on : (ends : Bool) (turns : List LiveTurn) (ws : List (List ℕ)) (w : List ℕ) (s s' : LiveState) → Stands false turns ws s → (engine_step turns s (length ws + 1) w).state ≡ s'
    → (engine_step turns s (length ws + 1) w).stops ≡ ends → Stands ends turns (ws ++ w ∷ []) s'
stands_on false turns ws w s s' before goes stops = λ rest.
    ap (λ (ls : List (List ℕ)). last_state (engine_step turns) (live_start false) 1 ls) (append_assoc ws (w ∷ []) rest)
    ∙ before (w ∷ rest)
    ∙ ap (λ (b : Bool). cond b (engine_step turns s (length ws + 1) w).state (last_state (engine_step turns) (engine_step turns s (length ws + 1) w).state (length ws + 1 + 1) rest)) stops
    ∙ ap (λ (x : LiveState). last_state (engine_step turns) x (length ws + 1 + 1) rest) goes
    ∙ ap (λ (n : ℕ). last_state (engine_step turns) s' (n + 1) rest) (sym (length-append ws (w ∷ [])))
stands_on true turns ws w s s' before goes stops = λ rest.
    ap (λ (ls : List (List ℕ)). last_state (engine_step turns) (live_start false) 1 ls) (append_assoc ws (w ∷ []) rest)
    ∙ before (w ∷ rest)
    ∙ ap (λ (b : Bool). cond b (engine_step turns s (length ws + 1) w).state (last_state (engine_step turns) (engine_step turns s (length ws + 1) w).state (length ws + 1 + 1) rest)) stops
    ∙ goes

-- the last of lines
behind_all : (lines : List Line) (line : Line) → slice_get (lines ++ line ∷ []) (length lines) ≡ Some line
behind_all [] line = refl
behind_all (l ∷ lines) line = behind_all lines line

last_is : (lines : List Line) (line : Line) → slice_get (lines ++ line ∷ []) (length (lines ++ line ∷ []) - 1) ≡ Some line
last_is lines line =
    let counted = length-append lines (line ∷ []) in
    let same : length (lines ++ line ∷ []) - 1 ≡ length lines = omega (arith, counted) in
    ap (slice_get (lines ++ line ∷ [])) same ∙ behind_all lines line

-- what the outcome of a line more says
says_more : (turns : List LiveTurn) (s : LiveState) (n : ℕ) (lines : List Line) (line : Line) → SaysAll turns s n lines
    → said_in line.outcome ≡ line_said (state_after (engine_step turns) s n (words_of lines)) (n + length lines) line.words → SaysAll turns s n (lines ++ line ∷ [])
says_more turns s n [] line says more =
    let same : n + 0 ≡ n = omega arith in
    (more ∙ ap (λ (k : ℕ). line_said s k line.words) same, tt)
says_more turns s n (l ∷ lines) line says more =
    let next : n + suc (length lines) ≡ n + 1 + length lines = omega arith in (
      says.0,
      says_more turns (engine_step turns s n l.words).state (n + 1) lines line says.1
          (more ∙ ap (λ (k : ℕ). line_said (state_after (engine_step turns) (engine_step turns s n l.words).state (n + 1) (words_of lines)) k line.words) next),
    )

-- no line was run
pub nothing_is_run : (story : StoryView) → story_stand story ≡ live_start false → story.lines ≡ [] → IsRun story
nothing_is_run story starts none = record {
  known = subst known (sym starts) tt;
  there = λ turns may. subst (λ (ls : List Line). state_after (engine_step turns) (live_start false) 1 (words_of ls) ≡ story_stand story) (sym none) (sym starts);
  said = λ turns may. subst (λ (ls : List Line). SaysAll turns (live_start false) 1 ls) (sym none) tt;
  stands = λ turns may. subst (λ (s : LiveState). Stands (ends_run_in (slice_get story.lines (length story.lines - 1))) turns (words_of story.lines) s) (sym starts)
      (subst (λ (ls : List Line). Stands (ends_run_in (slice_get ls (length ls - 1))) turns (words_of ls) (live_start false)) (sym none) (λ rest. refl));
}

-- a line more is run
pub run_on : (story new : StoryView) (line : Line) → IsRun story → ends_run_in (slice_get story.lines (length story.lines - 1)) ≡ false
    → LineGoes (length story.lines + 1) line.words line.outcome (story_stand story) (story_stand new) → known (story_stand new) → new.lines ≡ story.lines ++ line ∷ [] → IsRun new
run_on story new line is going goes knows more = record { known = knows; there = there; said = said; stands = stands }
  where
    counted : length (words_of story.lines) ≡ length story.lines
    counted = length-map story.lines (λ (l : Line). l.words)

    next : 1 + length (words_of story.lines) ≡ length story.lines + 1
    next = omega (arith, counted)

    there : (turns : List LiveTurn) → allowed (story_stand new) turns → state_after (engine_step turns) (live_start false) 1 (words_of new.lines) ≡ story_stand new
    there turns may =
        let went = goes.state turns may in
        let before = is.there turns went.0 in
        ap (λ (ls : List Line). state_after (engine_step turns) (live_start false) 1 (words_of ls)) more
        ∙ ap (λ (ws : List (List ℕ)). state_after (engine_step turns) (live_start false) 1 ws) (map-append (λ (l : Line). l.words) story.lines (line ∷ []))
        ∙ state_after-append (engine_step turns) (live_start false) 1 (words_of story.lines) (line.words ∷ [])
        ∙ ap (λ (x : LiveState). (engine_step turns x (1 + length (words_of story.lines)) line.words).state) before
        ∙ ap (λ (n : ℕ). (engine_step turns (story_stand story) n line.words).state) next
        ∙ went.1

    said : (turns : List LiveTurn) → allowed (story_stand new) turns → SaysAll turns (live_start false) 1 new.lines
    said turns may =
        let went = goes.state turns may in
        let behind : 1 + length story.lines ≡ length story.lines + 1 = omega arith in
        subst (λ (ls : List Line). SaysAll turns (live_start false) 1 ls) (sym more)
        (says_more turns (live_start false) 1 story.lines line (is.said turns went.0)
        (rw (is.there turns went.0, behind) goes.said))

    stands : (turns : List LiveTurn) → allowed (story_stand new) turns → Stands (ends_run_in (slice_get new.lines (length new.lines - 1))) turns (words_of new.lines) (story_stand new)
    stands turns may =
        let went = goes.state turns may in
        let before : Stands false turns (words_of story.lines) (story_stand story) = subst (λ (b : Bool). Stands b turns (words_of story.lines) (story_stand story)) going (is.stands turns went.0) in
        let state : (engine_step turns (story_stand story) (length (words_of story.lines) + 1) line.words).state ≡ story_stand new = rw counted went.1 in
        let stops : (engine_step turns (story_stand story) (length (words_of story.lines) + 1) line.words).stops ≡ ends_run line.outcome = rw counted (goes.ends turns) in
        let behind = stands_on (ends_run line.outcome) turns (words_of story.lines) line.words (story_stand story) (story_stand new) before state stops in
        subst (λ (ls : List Line). Stands (ends_run_in (slice_get ls (length ls - 1))) turns (words_of ls) (story_stand new)) (sym more)
        (rw (last_is story.lines line) (subst (λ (ws : List (List ℕ)). Stands (ends_run line.outcome) turns ws (story_stand new)) (sym (map-append (λ (l : Line). l.words) story.lines (line ∷ []))) behind))

-- ---- the end

-- turns that a state allows, and that are full in it
pub record FullTurns (s : LiveState) : Type 0 where
  pub turns : List LiveTurn
  pub allowed : allowed s turns
  pub full : FullIn turns s.part

full_turns : (s : LiveState) → known s → FullTurns s
full_turns s knows = go s.part refl
  where
    go : (p : LivePart) → s.part ≡ p → FullTurns s
    go part.NotYet is = record { turns = []; allowed = rw is tt; full = rw is refl }
    go (part.Open p) is = record { turns = []; allowed = rw is tt; full = rw is refl }
    go (part.Ended e) is = record { turns = e.turns; allowed = rw is refl; full = rw is (subst (λ (q : LivePart). known_by q s.world) is knows) }

-- a story of the lines of a script stands where the engine's run of it ends
ends_there : (script : List ℕ) (story : StoryView) (turns : List LiveTurn) → IsRun story → AreLinesOf script story.lines → allowed (story_stand story) turns → end_of false turns script ≡ story_stand story
ends_there script story turns is lines may = go (ends_run_in (slice_get story.lines (length story.lines - 1))) refl (is.stands turns may)
  where
    whole : last_state (engine_step turns) (live_start false) 1 (lines_after [] script) ≡ last_state (engine_step turns) (live_start false) 1 (words_of story.lines ++ lines.rest)
    whole = ap (λ (ls : List (List ℕ)). last_state (engine_step turns) (live_start false) 1 ls) (sym lines.all)

    go : (ended : Bool) → ends_run_in (slice_get story.lines (length story.lines - 1)) ≡ ended → Stands ended turns (words_of story.lines) (story_stand story) → end_of false turns script ≡ story_stand story
    go true ended stands = whole ∙ stands lines.rest
    go false ended stands =
        whole ∙ stands lines.rest
        ∙ ap (λ (ls : List (List ℕ)). last_state (engine_step turns) (story_stand story) (length (words_of story.lines) + 1) ls) (lines.whole ended)

pub runs_as_engine : (script : List ℕ) (story : StoryView) → IsRun story → AreLinesOf script story.lines → RunsAsEngine script story
runs_as_engine script story is lines =
    let full = full_turns (story_stand story) is.known in
    let ends = ends_there script story full.turns is lines full.allowed in
    record {
      turns = full.turns;
      full = subst (λ (s : LiveState). FullIn full.turns s.part) (sym ends) full.full;
      world = ap (λ (s : LiveState). s.world) (sym ends);
      said = is.said full.turns full.allowed;
    }
