-- Each way in which a run ends, by all choices that are allowed where it came to.
use Rattle.std.proofs.Common.{◌≡◌, ◌≢◌, ◌≤◌, ℕ, List, [], ◌∷◌, ◌++◌, length, take, false, true, refl, sym, subst, append-nil}
use Rattle.std.specs.declared.option.Option.{Option}
use Rattle.std.specs.Io.KnownBytes.{Keeps, Consumes, IsAtEnd}
use Rattle.std.proofs.KnownBytes.{Appends-nil, Consumes-nil, Consumes-trans, Consumes-kept}
use Rattle.script_drive.specs.Lines.{newline, lines_after}
use Rattle.script_drive.specs.Runs.{Stepped}
use Rattle.script_drive.specs.Fed.{RunState, run_beginning, FedInto, Reaches}
use Rattle.script_drive.proofs.FedLemmas.{fed_into_more, fed_into_nothing}
use Rattle.script_drive.proofs.ToldLemmas.{last_line-some, tells_nothing, tells_read, tells_all}
use Rattle.script_drive.proofs.ReachLemmas.{reaches_behind, reaches_more, reaches_fed}
use Rattle.script_drive.specs.LineBytes.{line_step, most_piece}
use Rattle.script_drive.specs.Halts.{FeedsBy, FinishesBy, HaltsBy, status_of}
use Rattle.script_drive.specs.Outcome.{RanBy}
use Rattle.script_drive.specs.Prompt.{Asked, AsksNext, ReadsSoFar}
use Rattle.script_drive.specs.declared.run.Halt.{Halt}
use Rattle.script_drive.specs.declared.status.Status.TheVariants as status
use Rattle.script_drive.proofs.HaltLemmas.{halts_more}
use Rattle.script_drive.proofs.PromptLemmas.{prompt_first, prompt_answered, prompt_failed, prompt_halt}
use Rattle.script_drive.proofs.DriveTold.{told_halt, told_halt_last, reached_within, reached_at_end}

-- a read of nothing leaves what was read
pub read_nothing : (a b c : Option (List ℕ)) (read : List ℕ) (n : ℕ) (piece : List ℕ) → n ≡ 0 → Consumes a b read → Consumes b c (take n piece) → Consumes a c read
read_nothing a b c read n piece none before given =
    subst (Consumes a c) (append-nil read) (Consumes-trans a b c read [] before (subst (λ k. Consumes b c (take k piece)) none given))

module _ {W C : Type 0} (step : C → W → ℕ → List ℕ → Stepped W) (allowed : W → C → Type 0) (known : W → Type 0) (start : W) where
  -- by all choices allowed where it stands, the run was fed what was read, and each read by then was prompt
  abbrev pub RunsSoFar : Option (List ℕ) → Option (List ℕ) → Option (List ℕ) → Option (List Asked) → Option (List Asked) → List ℕ → RunState W → Type 0
  RunsSoFar l k k' r r' read at = (choices : C) → allowed at.state choices → FedInto (line_step (step choices)) k k' (run_beginning start) read at × ReadsSoFar (line_step (step choices)) start r r' l k

  -- nothing was read yet
  pub runs_first : (l k : Option (List ℕ)) (r : Option (List Asked)) → RunsSoFar l k k r r [] (run_beginning start)
  runs_first l k r choices may =
      let run_step = line_step (step choices) in
      (fed_into_nothing run_step k (run_beginning start) (Appends-nil k), prompt_first run_step start r l k)

  -- there was no memory to begin
  pub ran_nothing : (l k : Option (List ℕ)) (r : Option (List Asked)) → known start → RanBy step allowed known start status.Memory l l k k r r
  ran_nothing l k r holds = (
    start,
    holds,
    λ choices may.
        let run_step = line_step (step choices) in record {
          told = tells_nothing run_step start most_piece l k (Consumes-nil l) (Appends-nil k);
          reached = λ script is. ([], lines_after [] script, refl, refl, refl);
          prompt = prompt_first run_step start r l k;
        },
  )

  -- a read failed
  pub ran_read : (l l' l'' k k' : Option (List ℕ)) (r r' r'' : Option (List Asked)) (read : List ℕ) (at : RunState W) (asked : Asked) → known at.state → Consumes l l' read → Keeps l' l''
      → RunsSoFar l k k' r r' read at → asked.left ≡ l' → asked.written ≡ k' → asked.failed ≡ true → AsksNext r' r'' asked
      → RanBy step allowed known start status.ReadFault l l'' k k' r r''
  ran_read l l' l'' k k' r r' r'' read at asked holds took kept so_far is_left is_written failed next = (
    at.state,
    holds,
    λ choices may.
        let run_step = line_step (step choices) in
        let s = so_far choices may in
        let all = Consumes-kept l l' l'' read took kept in record {
          told = tells_read run_step start most_piece l l'' k k' read at all s.0;
          reached = reached_within run_step start l l'' read at.state all (reaches_fed run_step (run_beginning start) read s.0.0 at s.0.2);
          prompt = prompt_failed run_step start r r' r'' l l' k k' read at asked s.1 took s.0 is_left is_written failed next;
        },
  )

  -- all was read, and the last line was run
  pub ran_done : (l l' l'' k k' k'' : Option (List ℕ)) (r r' r'' : Option (List Asked)) (read : List ℕ) (at : RunState W) (asked : Asked) (w : W) → known w → Consumes l l' read → Consumes l l'' read → IsAtEnd l''
      → RunsSoFar l k k' r r' read at → asked.left ≡ l' → asked.written ≡ k' → asked.failed ≡ false → AsksNext r' r'' asked
      → FinishesBy step allowed k' k'' at w → RanBy step allowed known start status.Done l l'' k k'' r r''
  ran_done l l' l'' k k' k'' r r' r'' read at asked w holds took all end so_far is_left is_written answered next finishes = (
    w,
    holds,
    λ choices may.
        let run_step = line_step (step choices) in
        let f = finishes choices may in
        let s = so_far choices f.0 in
        let last : Reaches run_step at.state at.number (lines_after at.line []) w = (lines_after at.line [], [], sym (append-nil (lines_after at.line [])), f.1.3, f.1.4) in record {
          told = tells_all run_step start most_piece l l'' k k' k'' read at f.1.0 all end s.0 f.1.1 f.1.2 f.1.3;
          reached = reached_at_end run_step start l l'' read w all end (reaches_behind run_step (run_beginning start) read s.0.0 at [] w s.0.2 last);
          prompt = prompt_answered run_step start r r' r'' l l' k k' read at asked s.1 took s.0 is_left is_written answered next;
        },
  )

  -- all was read, and the run ended within the last line
  pub ran_last : (halt : Halt) (l l' l'' k k' k'' : Option (List ℕ)) (r r' r'' : Option (List Asked)) (read : List ℕ) (at : RunState W) (asked : Asked) → Consumes l l' read → Consumes l l'' read → IsAtEnd l''
      → RunsSoFar l k k' r r' read at → asked.left ≡ l' → asked.written ≡ k' → asked.failed ≡ false → AsksNext r' r'' asked
      → HaltsBy step allowed known k' k'' halt at (newline ∷ []) → at.line ≢ [] → RanBy step allowed known start (status_of halt) l l'' k k'' r r''
  ran_last halt l l' l'' k k' k'' r r' r'' read at asked took all end so_far is_left is_written answered next halts some = (
    halts.0,
    halts.1,
    λ choices may.
        let run_step = line_step (step choices) in
        let h = halts.2 choices may in
        let s = so_far choices h.0 in
        let last : Reaches run_step at.state at.number (lines_after at.line []) halts.0 = rw (last_line-some at.line some) (h.1.reached []) in record {
          told = told_halt_last run_step start halt l l'' k k' k'' read at all end s.0 h.1.into some;
          reached = reached_at_end run_step start l l'' read halts.0 all end (reaches_behind run_step (run_beginning start) read s.0.0 at [] halts.0 s.0.2 last);
          prompt = prompt_halt run_step start halt r r'' l k (prompt_answered run_step start r r' r'' l l' k k' read at asked s.1 took s.0 is_left is_written answered next);
        },
  )

  -- the run ended within a piece
  pub ran_halt : (halt : Halt) (l l' l'' k k' k'' : Option (List ℕ)) (r r' r'' : Option (List Asked)) (read piece : List ℕ) (at : RunState W) (asked : Asked) → Consumes l l' read → Consumes l' l'' piece
      → length piece ≤ most_piece → RunsSoFar l k k' r r' read at → asked.left ≡ l' → asked.written ≡ k' → asked.failed ≡ false → AsksNext r' r'' asked
      → HaltsBy step allowed known k' k'' halt at piece → RanBy step allowed known start (status_of halt) l l'' k k'' r r''
  ran_halt halt l l' l'' k k' k'' r r' r'' read piece at asked took given few so_far is_left is_written answered next halts = (
    halts.0,
    halts.1,
    λ choices may.
        let run_step = line_step (step choices) in
        let h = halts.2 choices may in
        let s = so_far choices h.0 in
        let all = Consumes-trans l l' l'' read piece took given in record {
          told = told_halt run_step start halt l l'' k k'' read piece all few s.0.2.running (halts_more run_step k k' k'' halt (run_beginning start) read at piece s.0 h.1.into);
          reached = reached_within run_step start l l'' (read ++ piece) halts.0 all (reaches_more run_step (run_beginning start) read s.0.0 at piece halts.0 s.0.2 h.1.reached);
          prompt = prompt_halt run_step start halt r r'' l k (prompt_answered run_step start r r' r'' l l' k k' read at asked s.1 took s.0 is_left is_written answered next);
        },
  )

  -- the run goes on behind a piece
  pub runs_on : (l l' k k' k'' : Option (List ℕ)) (r r' r'' : Option (List Asked)) (read piece : List ℕ) (at new : RunState W) (asked : Asked) → Consumes l l' read
      → RunsSoFar l k k' r r' read at → asked.left ≡ l' → asked.written ≡ k' → asked.failed ≡ false → AsksNext r' r'' asked
      → FeedsBy step allowed k' k'' at piece new → RunsSoFar l k k'' r r'' (read ++ piece) new
  runs_on l l' k k' k'' r r' r'' read piece at new asked took so_far is_left is_written answered next feeds choices may =
      let run_step = line_step (step choices) in
      let f = feeds choices may in
      let s = so_far choices f.0 in (
        fed_into_more run_step k k' k'' (run_beginning start) read at piece new s.0 f.1,
        prompt_answered run_step start r r' r'' l l' k k' read at asked s.1 took s.0 is_left is_written answered next,
      )
