-- A run that gets one piece after another.
use Rattle.std.proofs.Common.{◌≡◌, ℕ, ◌+◌, List, [], ◌++◌, length, refl, sym, ap, ◌∙◌, subst, append_assoc, add-zero, arith, length-append}
use Rattle.std.specs.declared.option.Option.{Option}
use Rattle.std.specs.Io.KnownBytes.{Appends}
use Rattle.std.proofs.KnownBytes.{Appends-trans}
use Rattle.script_drive.specs.Lines.{whole_lines, pending, lines_after}
use Rattle.script_drive.specs.Runs.{Stepped, state_after}
use Rattle.script_drive.specs.Fed.{Begins, RunState, prints_from, stops_from, standing_after, Fed, EndsStopped, EndsShort, FedInto, EndsStoppedInto, EndsShortInto}
use Rattle.script_drive.proofs.LineLemmas.{whole_lines-append, pending-append, lines_after-append}
use Rattle.script_drive.proofs.RunLemmas.{printed-append, is_stopped-append, state_after-append}

longer : (out out' more whole : List ℕ) → whole ≡ out ++ more → Begins out' more → Begins (out ++ out') whole
longer out out' more whole is begins = (begins.0, is ∙ (ap (λ l. out ++ l) begins.1 ∙ sym (append_assoc out out' begins.0)))

module _ {W : Type 0} (step : W → ℕ → List ℕ → Stepped W) where
  pub standing_after-append : (at : RunState W) (xs ys : List ℕ) → standing_after step at (xs ++ ys) ≡ standing_after step (standing_after step at xs) ys
  standing_after-append at xs ys =
      let ls = whole_lines at.line xs in
      let ms = whole_lines (pending at.line xs) ys in
      let both : whole_lines at.line (xs ++ ys) ≡ ls ++ ms = whole_lines-append at.line xs ys in
      let state : state_after step at.state at.number (whole_lines at.line (xs ++ ys)) ≡ state_after step (state_after step at.state at.number ls) (at.number + length ls) ms =
      ap (state_after step at.state at.number) both ∙ state_after-append step at.state at.number ls ms in
      let number : at.number + length (whole_lines at.line (xs ++ ys)) ≡ at.number + length ls + length ms =
      ap (λ l. at.number + length l) both ∙ omega (arith, length-append ls ms) in
      λ i. record { state = state i; number = number i; line = pending-append at.line xs ys i }

  -- nothing was read
  pub fed_nothing : (at : RunState W) → Fed step at [] [] at
  fed_nothing at = record {
    running = refl;
    prints = refl;
    after = λ i. record { state = at.state; number = sym (add-zero at.number) i; line = at.line };
  }

  -- one piece after another
  pub fed_more : (old : RunState W) (xs out : List ℕ) (mid : RunState W) (ys out' : List ℕ) (new : RunState W)
      → Fed step old xs out mid → Fed step mid ys out' new → Fed step old (xs ++ ys) (out ++ out') new
  fed_more old xs out mid ys out' new first second =
      let ls = whole_lines old.line xs in
      let ms = whole_lines (pending old.line xs) ys in
      let both : whole_lines old.line (xs ++ ys) ≡ ls ++ ms = whole_lines-append old.line xs ys in
      let next = subst (λ (at : RunState W). Fed step at ys out' new) first.after second in record {
        running = rw both (is_stopped-append step old.state old.number ls ms first.running ∙ next.running);
        prints = rw both ((λ i. first.prints i ++ next.prints i) ∙ sym (printed-append step old.state old.number ls ms first.running));
        after = next.after ∙ sym (standing_after-append old xs ys);
      }

  -- what comes after a piece is printed behind it
  pub fed_then : (old : RunState W) (xs out : List ℕ) (new : RunState W) (rest : List ℕ) → Fed step old xs out new
      → (prints_from step old (xs ++ rest) ≡ out ++ prints_from step new rest) × (stops_from step old (xs ++ rest) ≡ stops_from step new rest)
  fed_then old xs out new rest fed =
      let ls = whole_lines old.line xs in
      let more = lines_after (pending old.line xs) rest in
      let all : lines_after old.line (xs ++ rest) ≡ ls ++ more = lines_after-append old.line xs rest in (
        rw all (printed-append step old.state old.number ls more fed.running ∙ (λ i. sym fed.prints i ++ prints_from step (sym fed.after i) rest)),
        rw all (is_stopped-append step old.state old.number ls more fed.running ∙ (λ i. stops_from step (sym fed.after i) rest)),
      )

  -- a run that ends in a later piece ends in both together
  pub ends_stopped_more : (old : RunState W) (xs out : List ℕ) (mid : RunState W) (ys out' : List ℕ)
      → Fed step old xs out mid → EndsStopped step mid ys out' → EndsStopped step old (xs ++ ys) (out ++ out')
  ends_stopped_more old xs out mid ys out' fed ends = λ rest.
      let t = fed_then old xs out mid (ys ++ rest) fed in
      rw (append_assoc xs ys rest) (ap (λ l. out ++ l) (ends rest).0 ∙ sym t.0, t.1 ∙ (ends rest).1)

  pub ends_short_more : (old : RunState W) (xs out : List ℕ) (mid : RunState W) (ys out' : List ℕ)
      → Fed step old xs out mid → EndsShort step mid ys out' → EndsShort step old (xs ++ ys) (out ++ out')
  ends_short_more old xs out mid ys out' fed ends = λ rest.
      let t = fed_then old xs out mid (ys ++ rest) fed in
      rw (append_assoc xs ys rest) (longer out out' _ _ t.0 (ends rest))

  -- and so does one of which more bytes were at hand
  pub ends_stopped_longer : (old : RunState W) (xs zs out : List ℕ) → EndsStopped step old xs out → EndsStopped step old (xs ++ zs) out
  ends_stopped_longer old xs zs out ends = λ rest. rw (append_assoc xs zs rest) (ends (zs ++ rest))

  pub ends_short_longer : (old : RunState W) (xs zs out : List ℕ) → EndsShort step old xs out → EndsShort step old (xs ++ zs) out
  ends_short_longer old xs zs out ends = λ rest. rw (append_assoc xs zs rest) (ends (zs ++ rest))

  pub fed_into_nothing : (a : Option (List ℕ)) (at : RunState W) → Appends a a [] → FedInto step a a at [] at
  fed_into_nothing a at none = ([], none, fed_nothing at)

  pub fed_into_more : (a b c : Option (List ℕ)) (old : RunState W) (xs : List ℕ) (mid : RunState W) (ys : List ℕ) (new : RunState W)
      → FedInto step a b old xs mid → FedInto step b c mid ys new → FedInto step a c old (xs ++ ys) new
  fed_into_more a b c old xs mid ys new first second =
      (first.0 ++ second.0, Appends-trans a b c first.0 second.0 first.1 second.1, fed_more old xs first.0 mid ys second.0 new first.2 second.2)

  pub ends_stopped_into_more : (a b c : Option (List ℕ)) (old : RunState W) (xs : List ℕ) (mid : RunState W) (ys : List ℕ)
      → FedInto step a b old xs mid → EndsStoppedInto step b c mid ys → EndsStoppedInto step a c old (xs ++ ys)
  ends_stopped_into_more a b c old xs mid ys fed ends =
      (fed.0 ++ ends.0, Appends-trans a b c fed.0 ends.0 fed.1 ends.1, ends_stopped_more old xs fed.0 mid ys ends.0 fed.2 ends.2)

  pub ends_short_into_more : (a b c : Option (List ℕ)) (old : RunState W) (xs : List ℕ) (mid : RunState W) (ys : List ℕ)
      → FedInto step a b old xs mid → EndsShortInto step b c mid ys → EndsShortInto step a c old (xs ++ ys)
  ends_short_into_more a b c old xs mid ys fed ends =
      (fed.0 ++ ends.0, Appends-trans a b c fed.0 ends.0 fed.1 ends.1, ends_short_more old xs fed.0 mid ys ends.0 fed.2 ends.2)

  pub ends_stopped_into_longer : (a b : Option (List ℕ)) (old : RunState W) (xs zs : List ℕ) → EndsStoppedInto step a b old xs → EndsStoppedInto step a b old (xs ++ zs)
  ends_stopped_into_longer a b old xs zs ends = (ends.0, ends.1, ends_stopped_longer old xs zs ends.0 ends.2)

  pub ends_short_into_longer : (a b : Option (List ℕ)) (old : RunState W) (xs zs : List ℕ) → EndsShortInto step a b old xs → EndsShortInto step a b old (xs ++ zs)
  ends_short_into_longer a b old xs zs ends = (ends.0, ends.1, ends_short_longer old xs zs ends.0 ends.2)
