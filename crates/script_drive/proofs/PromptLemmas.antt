-- Each read of a run is asked for behind the report of the lines read before it, and none behind one that failed.
use Rattle.std.proofs.Common.{◌≡◌, ℕ, List, [], ◌∷◌, ◌++◌, false, true, None, Some, All, refl, sym, ap, ◌∙◌, append-nil, append_assoc}
use Rattle.std.proofs.lemmas.List.Elements.{All-nil, All-push}
use Rattle.std.specs.declared.option.Option.{Option}
use Rattle.std.specs.Io.KnownBytes.{Consumes, Appends}
use Rattle.script_drive.specs.Runs.{Stepped}
use Rattle.script_drive.specs.Fed.{RunState, run_beginning, FedInto}
use Rattle.script_drive.specs.Halts.{status_of}
use Rattle.script_drive.specs.Prompt.{Asked, AsksNext, IsAnswered, IsPrompt, FaultIsLast, TellsReads, ReadsSoFar, ReadsPromptly}
use Rattle.script_drive.specs.declared.status.Status.TheVariants as status
use Rattle.script_drive.specs.declared.run.Halt.{Halt}
use Rattle.script_drive.specs.declared.run.Halt.TheVariants.{Malformed, WriteFault, Memory}

-- what is left of told bytes is told
pub left_is_told : (l l' : Option (List ℕ)) (script read : List ℕ) → l ≡ Some script → Consumes l l' read → (rest : List ℕ) × (script ≡ read ++ rest) × (l' ≡ Some rest)
left_is_told None l' script read is took = cc
left_is_told (Some xs) None script read is took = absurd took
left_is_told (Some xs) (Some ys) script read is took = let all : script ≡ read ++ ys = cc in (ys, all, refl)

-- what told bytes have grown to is told
taken_is_told : (k k' : Option (List ℕ)) (earlier out : List ℕ) → k ≡ Some earlier → Appends k k' out → k' ≡ Some (earlier ++ out)
taken_is_told None k' earlier out is gave = cc
taken_is_told (Some xs) None earlier out is gave = absurd gave
taken_is_told (Some xs) (Some ys) earlier out is gave = cc

-- one read more
more_reads : (told told' : List ℕ → List ℕ → List Asked → Type 0) (r r' r'' : Option (List Asked)) (l k : Option (List ℕ)) (asked : Asked)
    → ((script earlier : List ℕ) (further : List Asked) → l ≡ Some script → k ≡ Some earlier → told script earlier further → told' script earlier (further ++ asked ∷ []))
    → TellsReads told r r' l k → AsksNext r' r'' asked → TellsReads told' r r'' l k
more_reads told told' r r' r'' l k asked grows so_far next all script earlier is e f =
    let last = next all is in
    let before = so_far last.0 script earlier last.1 e f in
    (before.0, before.1 ++ asked ∷ [], before.2, last.2 ∙ (ap (λ rs. rs ++ asked ∷ []) before.3 ∙ append_assoc before.0 before.1 (asked ∷ [])), grows script earlier before.1 e f before.4)

module _ {W : Type 0} (step : W → ℕ → List ℕ → Stepped W) (start : W) where
  -- no read was asked for yet
  pub prompt_first : (r : Option (List Asked)) (l k : Option (List ℕ)) → ReadsSoFar step start r r l k
  prompt_first r l k all script earlier is e f = (all, [], is, sym (append-nil all), (All-nil (IsPrompt step start script earlier), All-nil IsAnswered))

  -- a read asked for where a run stands that was fed all bytes read so far is prompt
  prompt_here : (l l' k k' : Option (List ℕ)) (read : List ℕ) (at : RunState W) (asked : Asked) → Consumes l l' read → FedInto step k k' (run_beginning start) read at
      → asked.left ≡ l' → asked.written ≡ k' → (script earlier : List ℕ) → l ≡ Some script → k ≡ Some earlier → IsPrompt step start script earlier asked
  prompt_here l l' k k' read at asked took ran is_left is_written script earlier e f =
      let rest = left_is_told l l' script read e took in
      let written = taken_is_told k k' earlier ran.0 f ran.1 ∙ ap (λ (o : List ℕ). Some (earlier ++ o)) ran.2.prints in
      (read, rest.0, rest.1, is_left ∙ rest.2, is_written ∙ written, ran.2.running)

  -- one more was asked for there, and was answered
  pub prompt_answered : (r r' r'' : Option (List Asked)) (l l' k k' : Option (List ℕ)) (read : List ℕ) (at : RunState W) (asked : Asked)
      → ReadsSoFar step start r r' l k → Consumes l l' read → FedInto step k k' (run_beginning start) read at
      → asked.left ≡ l' → asked.written ≡ k' → asked.failed ≡ false → AsksNext r' r'' asked → ReadsSoFar step start r r'' l k
  prompt_answered r r' r'' l l' k k' read at asked so_far took ran is_left is_written answered next =
      more_reads (λ script earlier further. All (IsPrompt step start script earlier) further × All IsAnswered further) (λ script earlier further. All (IsPrompt step start script earlier) further × All IsAnswered further)
      r r' r'' l k asked
      (λ script earlier further e f told. (
        All-push (IsPrompt step start script earlier) further asked told.0 (prompt_here l l' k k' read at asked took ran is_left is_written script earlier e f),
        All-push IsAnswered further asked told.1 answered,
      )) so_far next

  -- it failed, and the run ended
  pub prompt_failed : (r r' r'' : Option (List Asked)) (l l' k k' : Option (List ℕ)) (read : List ℕ) (at : RunState W) (asked : Asked)
      → ReadsSoFar step start r r' l k → Consumes l l' read → FedInto step k k' (run_beginning start) read at
      → asked.left ≡ l' → asked.written ≡ k' → asked.failed ≡ true → AsksNext r' r'' asked → ReadsPromptly step start status.ReadFault r r'' l k
  prompt_failed r r' r'' l l' k k' read at asked so_far took ran is_left is_written failed next =
      more_reads (λ script earlier further. All (IsPrompt step start script earlier) further × All IsAnswered further) (λ script earlier further. All (IsPrompt step start script earlier) further × FaultIsLast status.ReadFault further)
      r r' r'' l k asked
      (λ script earlier further e f told. (
        All-push (IsPrompt step start script earlier) further asked told.0 (prompt_here l l' k k' read at asked took ran is_left is_written script earlier e f),
        (further, asked, refl, told.1, failed),
      )) so_far next

  -- the run ended though every read was answered
  pub prompt_halt : (halt : Halt) (r r' : Option (List Asked)) (l k : Option (List ℕ)) → ReadsSoFar step start r r' l k → ReadsPromptly step start (status_of halt) r r' l k
  prompt_halt Malformed r r' l k so_far = so_far
  prompt_halt WriteFault r r' l k so_far = so_far
  prompt_halt Memory r r' l k so_far = so_far
