-- What a line does to the run that it belongs to.
use Rattle.std.proofs.Common.{◌≡◌, ℕ, ◌+◌, List, [], ◌∷◌, ◌++◌, true, take, drop, refl, sym, ap, ◌∙◌, append_assoc, append-nil, take-append-drop}
use Rattle.std.specs.declared.option.Option.{Option}
use Rattle.std.specs.Io.KnownBytes.{Appends}
use Rattle.script_drive.specs.Lines.{newline, lines_after}
use Rattle.script_drive.specs.Runs.{Stepped, goes, halts, printed, is_stopped}
use Rattle.script_drive.specs.Fed.{RunState, prints_from, stops_from, FedInto, EndsStoppedInto, EndsShortInto}
use Rattle.script_drive.proofs.RunLemmas.{printed-halts, printed-goes}

module _ {W : Type 0} (step : W → ℕ → List ℕ → Stepped W) where
  -- from there the first line that these bytes make ends the run, and prints this
  pub record HaltsFirst (at : RunState W) (bytes out : List ℕ) : Type 0 where
    pub prints : prints_from step at bytes ≡ out
    pub stops : stops_from step at bytes ≡ true

  pub halts_first : (at : RunState W) (bytes l : List ℕ) (more : List (List ℕ)) (w : W) (out : List ℕ) → lines_after at.line bytes ≡ l ∷ more → step at.state at.number l ≡ halts w out
      → HaltsFirst at bytes out
  halts_first at bytes l more w out is halted =
      let first = printed-halts step at.state at.number l more w out halted in record {
        prints = ap (printed step at.state at.number) is ∙ first.0;
        stops = ap (is_stopped step at.state at.number) is ∙ first.1;
      }

  -- the line that ended the run was told of
  pub ends_stopped_into : (a b : Option (List ℕ)) (at : RunState W) (xs out : List ℕ) → Appends a b out → ((rest : List ℕ) → HaltsFirst at (xs ++ rest) out)
      → EndsStoppedInto step a b at xs
  ends_stopped_into a b at xs out took ends = (out, took, λ rest. (sym (ends rest).prints, (ends rest).stops))

  -- the sink failed within what a line prints that ended the run
  pub ends_short_into : (a b : Option (List ℕ)) (at : RunState W) (xs out : List ℕ) (n : ℕ) → Appends a b (take n out) → ((rest : List ℕ) → HaltsFirst at (xs ++ rest) out)
      → EndsShortInto step a b at xs
  ends_short_into a b at xs out n took ends = (take n out, took, λ rest. (drop n out, (ends rest).prints ∙ sym (take-append-drop n out)))

  -- nothing was written
  pub ends_silent : (a b : Option (List ℕ)) (at : RunState W) (xs : List ℕ) → Appends a b [] → EndsShortInto step a b at xs
  ends_silent a b at xs none = ([], none, λ rest. (prints_from step at (xs ++ rest), refl))

  -- a line was run, and all that it prints was taken
  pub fed_into_line : (a b : Option (List ℕ)) (at : RunState W) (w : W) (out : List ℕ) → step at.state at.number at.line ≡ goes w out → Appends a b out
      → FedInto step a b at (newline ∷ []) (record { state = w; number = at.number + 1; line = [] })
  fed_into_line a b at w out went took = (
    out,
    took,
    record {
      running = rw went refl;
      prints = rw went (sym (append-nil out));
      after = rw went refl;
    },
  )

  -- the sink failed within what a line prints
  pub ends_short_into_line : (a b : Option (List ℕ)) (at : RunState W) (w : W) (out : List ℕ) (n : ℕ) → step at.state at.number at.line ≡ goes w out → Appends a b (take n out)
      → EndsShortInto step a b at (newline ∷ [])
  ends_short_into_line a b at w out n went took = (
    take n out,
    took,
    λ rest.
        let more : List ℕ = printed step w (at.number + 1) (lines_after [] rest) in (
          drop n out ++ more,
          printed-goes step at.state at.number at.line (lines_after [] rest) w out went
              ∙ (ap (λ l. l ++ more) (sym (take-append-drop n out)) ∙ append_assoc (take n out) (drop n out) more),
        ),
  )
