-- What is so of each story.
use Rattle.std.proofs.Common.{◌≡◌, ℕ, ◌+◌, ◌-◌, List, [], ◌∷◌, ◌++◌, length, false, None, refl, subst, ap, sym, ◌∙◌}
use Rattle.std.specs.Prelude.{slice_get}
use Rattle.std.proofs.lemmas.List.{map-append}
use Rattle.world_run.specs.LiveScripts.{LiveState, live_start, known}
use Rattle.run_story.specs.declared.happening.Span.{Span}
use Rattle.run_story.specs.declared.happening.Line.{Line}
use Rattle.run_story.specs.declared.happening.Outcome.{Outcome}
use Rattle.run_story.specs.Lanes.{HasLanes}
use Rattle.run_story.specs.Telling.{StoryView, Followed, words_of, ends_run_in, KeepsTold, TellsJournals, AreLinesOf}
use Rattle.run_story.specs.Running.{stand_of, story_view, LineGoes, IsSound, RunsAsEngine}
use Rattle.run_story.proofs.Stories.{nothing_is_told, told_on, told_stories_tell}
use Rattle.run_story.proofs.Runs.{nothing_is_run, run_on, runs_as_engine}

-- of a script of which nothing was read
pub sound_at_start : (f : Followed) (lines : List Line) → f.lanes ≡ [] → f.world.lent ≡ None → stand_of f ≡ live_start false → lines ≡ [] → IsSound (story_view f lines)
sound_at_start f lines lanes free starts none = record {
  told = nothing_is_told (story_view f lines) (ap (λ (s : LiveState). s.world) starts) lanes none;
  run = nothing_is_run (story_view f lines) starts none;
  free = free;
}

-- behind a line more
pub sound_behind : (old new : Followed) (lines lines' : List Line) (line : Line) (words : List ℕ) (outcome : Outcome) (entries : List Span) → IsSound (story_view old lines)
    → ends_run_in (slice_get lines (length lines - 1)) ≡ false → LineGoes (length lines + 1) words outcome (stand_of old) (stand_of new) → known (stand_of new) → new.world.lent ≡ None
    → KeepsTold old new entries → line.words ≡ words → line.outcome ≡ outcome → line.entries ≡ entries → lines' ≡ lines ++ line ∷ [] → IsSound (story_view new lines')
sound_behind old new lines lines' line words outcome entries is going goes knows free keeps said came told more = record {
  told = told_on (story_view old lines) (story_view new lines') line old new entries is.told keeps refl refl refl refl told more;
  run = run_on (story_view old lines) (story_view new lines') line is.run going
      (subst (λ (ws : List ℕ). LineGoes (length lines + 1) ws line.outcome (stand_of old) (stand_of new)) (sym said)
      (subst (λ (o : Outcome). LineGoes (length lines + 1) words o (stand_of old) (stand_of new)) (sym came) goes))
      knows more;
  free = free;
}

-- its lanes, what it tells, and where it ends
pub sound_lanes : (story : StoryView) → IsSound story → HasLanes story.world.world story.lanes
sound_lanes story is = is.told.lanes

pub sound_tells : (story : StoryView) → IsSound story → TellsJournals story
sound_tells story is = told_stories_tell story is.told

pub sound_runs : (script : List ℕ) (story : StoryView) → IsSound story → AreLinesOf script story.lines → RunsAsEngine script story
sound_runs script story is lines = runs_as_engine script story is.run lines

-- the words of a line more
pub words_more : (lines lines' : List Line) (line : Line) (words : List ℕ) → line.words ≡ words → lines' ≡ lines ++ line ∷ [] → words_of lines' ≡ words_of lines ++ words ∷ []
words_more lines lines' line words said more = ap words_of more ∙ map-append (λ (l : Line). l.words) lines (line ∷ []) ∙ ap (λ (ws : List ℕ). words_of lines ++ ws ∷ []) said
