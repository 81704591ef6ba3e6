-- How a run that ends early goes together with what was fed before.
use Rattle.std.proofs.Common.{◌≡◌, ◌≢◌, ◌≤◌, ◌+◌, ℕ, List, [], ◌∷◌, ◌++◌, length, take, refl, sym, ap, ◌∙◌}
use Rattle.std.specs.declared.option.Option.{Option}
use Rattle.std.specs.Io.KnownBytes.{Appends}
use Rattle.script_drive.specs.Lines.{newline}
use Rattle.script_drive.specs.Runs.{Stepped, goes}
use Rattle.script_drive.specs.Fed.{RunState, FedInto}
use Rattle.script_drive.proofs.FedLemmas.{fed_into_more, ends_stopped_into_more, ends_short_into_more, ends_stopped_into_longer, ends_short_into_longer}
use Rattle.script_drive.proofs.ToldLemmas.{last_line-some}
use Rattle.script_drive.proofs.ReachLemmas.{reaches_here, reaches_line, reaches_more, reaches_longer}
use Rattle.script_drive.proofs.EndLemmas.{HaltsFirst, ends_stopped_into, ends_short_into, ends_silent, fed_into_line, ends_short_into_line}
use Rattle.script_drive.proofs.LimitLemmas.{limited-within}
use Rattle.report_text.specs.Texts.{malformed_text}
use Rattle.script_drive.specs.LineBytes.{line_step, GoesBy}
use Rattle.script_drive.specs.Halts.{RefusesInto, HaltsInto, HaltsAt, FeedsBy, FinishesBy, HaltsBy}
use Rattle.script_drive.specs.declared.run.Halt.{Halt}
use Rattle.script_drive.specs.declared.run.Halt.TheVariants.{Malformed, WriteFault, Memory}

module _ {W : Type 0} (step : W → ℕ → List ℕ → Stepped W) where
  -- the line that tells of a broken rule was offered
  pub halts_refused : (a b : Option (List ℕ)) (halt : Halt) (at : RunState W) (xs text : List ℕ) → RefusesInto a b text halt → ((rest : List ℕ) → HaltsFirst step at (xs ++ rest) text)
      → HaltsInto step a b halt at xs
  halts_refused a b Malformed at xs text told first = ends_stopped_into step a b at xs text told first
  halts_refused a b WriteFault at xs text told first = ends_short_into step a b at xs text told.0 told.2 first
  halts_refused a b Memory at xs text told first = ends_silent step a b at xs told

  -- a run that ends in a later piece ends in both together
  pub halts_more : (a b c : Option (List ℕ)) (halt : Halt) (old : RunState W) (xs : List ℕ) (mid : RunState W) (ys : List ℕ)
      → FedInto step a b old xs mid → HaltsInto step b c halt mid ys → HaltsInto step a c halt old (xs ++ ys)
  halts_more a b c Malformed old xs mid ys fed halted = ends_stopped_into_more step a b c old xs mid ys fed halted
  halts_more a b c WriteFault old xs mid ys fed halted = ends_short_into_more step a b c old xs mid ys fed halted
  halts_more a b c Memory old xs mid ys fed halted = ends_short_into_more step a b c old xs mid ys fed halted

  -- and so does one of which more bytes were at hand
  pub halts_longer : (a b : Option (List ℕ)) (halt : Halt) (old : RunState W) (xs zs : List ℕ) → HaltsInto step a b halt old xs → HaltsInto step a b halt old (xs ++ zs)
  halts_longer a b Malformed old xs zs halted = ends_stopped_into_longer step a b old xs zs halted
  halts_longer a b WriteFault old xs zs halted = ends_short_into_longer step a b old xs zs halted
  halts_longer a b Memory old xs zs halted = ends_short_into_longer step a b old xs zs halted

  -- the same of a run that came to a state
  pub halts_at_more : (a b c : Option (List ℕ)) (halt : Halt) (old : RunState W) (xs : List ℕ) (mid : RunState W) (ys : List ℕ) (w : W)
      → FedInto step a b old xs mid → HaltsAt step b c halt mid ys w → HaltsAt step a c halt old (xs ++ ys) w
  halts_at_more a b c halt old xs mid ys w fed halted = record {
    into = halts_more a b c halt old xs mid ys fed halted.into;
    reached = reaches_more step old xs fed.0 mid ys w fed.2 halted.reached;
  }

  pub halts_at_longer : (a b : Option (List ℕ)) (halt : Halt) (old : RunState W) (xs zs : List ℕ) (w : W) → HaltsAt step a b halt old xs w → HaltsAt step a b halt old (xs ++ zs) w
  halts_at_longer a b halt old xs zs w halted = record {
    into = halts_longer a b halt old xs zs halted.into;
    reached = reaches_longer step old xs zs w halted.reached;
  }

  -- a run that halts where it stands
  pub halts_here : (a b : Option (List ℕ)) (halt : Halt) (at : RunState W) (xs : List ℕ) → HaltsInto step a b halt at xs → HaltsAt step a b halt at xs at.state
  halts_here a b halt at xs halted = record { into = halted; reached = reaches_here step at xs }

-- the same by all choices that are allowed
module _ {W C : Type 0} (step : C → W → ℕ → List ℕ → Stepped W) (allowed : W → C → Type 0) (known : W → Type 0) where
  pub halts_by_more : (a b c : Option (List ℕ)) (halt : Halt) (old : RunState W) (xs : List ℕ) (mid : RunState W) (ys : List ℕ)
      → FeedsBy step allowed a b old xs mid → HaltsBy step allowed known b c halt mid ys → HaltsBy step allowed known a c halt old (xs ++ ys)
  halts_by_more a b c halt old xs mid ys fed halted = (
    halted.0,
    halted.1,
    λ choices may. let h = halted.2 choices may in let f = fed choices h.0 in (f.0, halts_at_more (line_step (step choices)) a b c halt old xs mid ys halted.0 f.1 h.1),
  )

  pub halts_by_longer : (a b : Option (List ℕ)) (halt : Halt) (old : RunState W) (xs zs : List ℕ) → HaltsBy step allowed known a b halt old xs → HaltsBy step allowed known a b halt old (xs ++ zs)
  halts_by_longer a b halt old xs zs halted = (
    halted.0,
    halted.1,
    λ choices may. let h = halted.2 choices may in (h.0, halts_at_longer (line_step (step choices)) a b halt old xs zs halted.0 h.1),
  )

  pub feeds_by_more : (a b c : Option (List ℕ)) (old : RunState W) (xs : List ℕ) (mid : RunState W) (ys : List ℕ) (new : RunState W)
      → FeedsBy step allowed a b old xs mid → FeedsBy step allowed b c mid ys new → FeedsBy step allowed a c old (xs ++ ys) new
  feeds_by_more a b c old xs mid ys new first second choices may =
      let s = second choices may in
      let f = first choices s.0 in
      (f.0, fed_into_more (line_step (step choices)) a b c old xs mid ys new f.1 s.1)

  -- the first line that the bytes make was refused, whatever was chosen
  pub refused_by : (a b : Option (List ℕ)) (halt : Halt) (at : RunState W) (xs text : List ℕ) → known at.state → RefusesInto a b text halt
      → ((choices : C) → allowed at.state choices → (rest : List ℕ) → HaltsFirst (line_step (step choices)) at (xs ++ rest) text) → HaltsBy step allowed known a b halt at xs
  refused_by a b halt at xs text holds told first = (
    at.state,
    holds,
    λ choices may. (may, halts_here (line_step (step choices)) a b halt at xs (halts_refused (line_step (step choices)) a b halt at xs text told (first choices may))),
  )

  -- there was no memory for the line, and nothing was written
  pub silent_by : (a b : Option (List ℕ)) (at : RunState W) (xs : List ℕ) → known at.state → Appends a b [] → HaltsBy step allowed known a b Memory at xs
  silent_by a b at xs holds none = (at.state, holds, λ choices may. (may, halts_here (line_step (step choices)) a b Memory at xs (ends_silent (line_step (step choices)) a b at xs none)))

  -- a line within the limits goes on, and is the bytes that were run
  went_by : (at : RunState W) (w : W) (out bytes : List ℕ) → at.number ≤ 200000 → length at.line ≤ 1024 → bytes ≡ at.line → GoesBy step allowed at.state at.number bytes w out
      → (choices : C) → allowed w choices → allowed at.state choices × (line_step (step choices) at.state at.number at.line ≡ goes w out)
  went_by at w out bytes few short is went choices may =
      let g = went choices may in
      (g.0, limited-within 200000 1024 malformed_text (step choices) at.state at.number at.line few short ∙ (ap (step choices at.state at.number) (sym is) ∙ g.1))

  -- all that it prints was taken
  pub line_goes_by : (a b : Option (List ℕ)) (at : RunState W) (w : W) (out bytes : List ℕ) → at.number ≤ 200000 → length at.line ≤ 1024 → bytes ≡ at.line
      → GoesBy step allowed at.state at.number bytes w out → Appends a b out → FeedsBy step allowed a b at (newline ∷ []) (record { state = w; number = at.number + 1; line = [] })
  line_goes_by a b at w out bytes few short is went took choices may =
      let g = went_by at w out bytes few short is went choices may in
      (g.0, fed_into_line (line_step (step choices)) a b at w out g.1 took)

  -- the sink failed within it
  pub line_breaks_by : (a b : Option (List ℕ)) (at : RunState W) (w : W) (out bytes : List ℕ) (n : ℕ) → at.number ≤ 200000 → length at.line ≤ 1024 → bytes ≡ at.line
      → known w → GoesBy step allowed at.state at.number bytes w out → Appends a b (take n out) → HaltsBy step allowed known a b WriteFault at (newline ∷ [])
  line_breaks_by a b at w out bytes n few short is holds went took = (
    w,
    holds,
    λ choices may.
        let g = went_by at w out bytes few short is went choices may in (
          g.0,
          record {
            into = ends_short_into_line (line_step (step choices)) a b at w out n g.1 took;
            reached = reaches_line (line_step (step choices)) at w out g.1;
          },
        ),
  )

  -- no more bytes come, and there is no last line
  pub finishes_empty : (a : Option (List ℕ)) (at : RunState W) → Appends a a [] → at.line ≡ [] → FinishesBy step allowed a a at at.state
  finishes_empty a at none empty choices may = (may, ([], none, rw empty refl, rw empty refl, rw empty refl))

  -- no more bytes come, and the last line was run as if its end stood there
  pub finishes_line : (a b : Option (List ℕ)) (old new : RunState W) → old.line ≢ [] → FeedsBy step allowed a b old (newline ∷ []) new → FinishesBy step allowed a b old new.state
  finishes_line a b old new some fed choices may =
      let f = fed choices may in
      let ran = f.1.2 in (
        f.0,
        (
          f.1.0,
          f.1.1,
          rw (last_line-some old.line some) ran.prints,
          rw (last_line-some old.line some) ran.running,
          rw (last_line-some old.line some) (ap (λ s. s.state) ran.after),
        ),
      )
