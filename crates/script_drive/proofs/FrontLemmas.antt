-- Bytes before the end of their line, and that end behind them.
use Rattle.std.proofs.Common.{◌≡◌, ◌≢◌, ◌≤◌, ◌<◌, ◌+◌, ℕ, List, [], ◌∷◌, ◌++◌, length, take, drop, get_or, refl, sym, ap, ◌∙◌, subst, append_assoc, add-zero, take-append-drop, ne_eqb, arith, length-append}
use Rattle.std.specs.declared.option.Option.{Option}
use Rattle.std.proofs.KnownBytes.{Appends-nil}
use Rattle.std.proofs.lemmas.List.{take_more}
use Rattle.std.proofs.lemmas.List.Elements.{All-head, All-tail}
use Rattle.script_drive.specs.Lines.{newline, whole_lines, lines_after, IsUnbroken}
use Rattle.script_drive.specs.Runs.{Stepped, state_after}
use Rattle.script_drive.specs.Fed.{RunState, Fed}
use Rattle.script_drive.proofs.LineLemmas.{StartsLine, starts_line, whole_lines-unbroken, pending-unbroken}
use Rattle.script_drive.proofs.EndLemmas.{HaltsFirst, halts_first}
use Rattle.script_drive.proofs.LimitLemmas.{limited-long, one_line_too_many}
use Rattle.report_text.specs.Texts.{malformed_text}
use Rattle.script_drive.specs.LineBytes.{line_step}
use Rattle.script_drive.specs.Halts.{FeedsBy, HaltsBy}
use Rattle.script_drive.specs.declared.run.Halt.{Halt}
use Rattle.script_drive.proofs.HaltLemmas.{feeds_by_more, halts_by_more, halts_by_longer}

-- bytes that don't end their line stand in it, whatever follows
starts_front : (front : List ℕ) (b : ℕ) (bs rest : List ℕ) → IsUnbroken (b ∷ bs) → StartsLine (front ++ b ∷ bs) (lines_after front (b ∷ bs ++ rest))
starts_front front b [] rest unbroken = starts_line front b rest (All-head (λ byte. byte ≢ newline) b [] unbroken)
starts_front front b (c ∷ cs) rest unbroken =
    let P : ℕ → Type 0 = λ byte. byte ≢ newline in
    rw (ne_eqb b newline (All-head P b (c ∷ cs) unbroken))
    (subst (λ l. StartsLine l (lines_after (front ++ b ∷ []) (c ∷ cs ++ rest))) (append_assoc front (b ∷ []) (c ∷ cs))
    (starts_front (front ++ b ∷ []) c cs rest (All-tail P b (c ∷ cs) unbroken)))

-- bytes up to the end of their line
take-end : (xs : List ℕ) (n : ℕ) → n < length xs → get_or xs n 0 ≡ newline → take (n + 1) xs ≡ take n xs ++ newline ∷ []
take-end xs n here ends = take_more xs n 0 here ∙ ap (λ b. take n xs ++ b ∷ []) ends

module _ {W : Type 0} (step : W → ℕ → List ℕ → Stepped W) where
  -- bytes that don't end their line are appended to it
  pub fed_unbroken : (at : RunState W) (xs : List ℕ) → IsUnbroken xs → Fed step at xs [] (record { state = at.state; number = at.number; line = at.line ++ xs })
  fed_unbroken at xs unbroken =
      let none : whole_lines at.line xs ≡ [] = whole_lines-unbroken at.line xs unbroken in
      let number : at.number + length (whole_lines at.line xs) ≡ at.number = ap (λ ls. at.number + length ls) none ∙ add-zero at.number in record {
        running = rw none refl;
        prints = rw none refl;
        after = λ i. record { state = state_after step at.state at.number (sym none i); number = sym number i; line = sym (pending-unbroken at.line xs unbroken) i };
      }

  -- bytes behind the last line
  pub bytes_behind_last : (at : RunState W) (xs rest : List ℕ) → 0 < length xs → 200000 < at.number → HaltsFirst (line_step step) at (xs ++ rest) (malformed_text at.number 2)
  bytes_behind_last at [] rest some many = absurd (omega (arith, some))
  bytes_behind_last at (b ∷ bs) rest some many = one_line_too_many 200000 1024 malformed_text step at b (bs ++ rest) many

  -- bytes that make their line too long
  pub front_too_long : (at : RunState W) (xs rest : List ℕ) → IsUnbroken xs → at.number ≤ 200000 → length at.line ≤ 1024 → 1024 < length at.line + length xs
      → HaltsFirst (line_step step) at (xs ++ rest) (malformed_text at.number 1)
  front_too_long at [] rest unbroken few short long = absurd (omega arith)
  front_too_long at (b ∷ bs) rest unbroken few short long =
      let l = starts_front at.line b bs rest unbroken in
      let longer : 1024 < length ((at.line ++ b ∷ bs) ++ l.0) = omega (arith, length-append at.line (b ∷ bs), length-append (at.line ++ b ∷ bs) l.0) in
      halts_first (line_step step) at (b ∷ bs ++ rest) ((at.line ++ b ∷ bs) ++ l.0) l.1 at.state (malformed_text at.number 1) l.2
      (limited-long 200000 1024 malformed_text step at.state at.number ((at.line ++ b ∷ bs) ++ l.0) few longer)

module _ {W C : Type 0} (step : C → W → ℕ → List ℕ → Stepped W) (allowed : W → C → Type 0) (known : W → Type 0) where
  -- bytes that don't end their line are appended to it
  pub feeds_unbroken : (a : Option (List ℕ)) (at mid : RunState W) (xs : List ℕ) → IsUnbroken xs → mid ≡ record { state = at.state; number = at.number; line = at.line ++ xs }
      → FeedsBy step allowed a a at xs mid
  feeds_unbroken a at mid xs unbroken is choices may = (
    subst (λ (s : RunState W). allowed s.state choices) is may,
    ([], Appends-nil a, subst (λ (s : RunState W). Fed (line_step (step choices)) at xs [] s) (sym is) (fed_unbroken (line_step (step choices)) at xs unbroken)),
  )

  -- a line was run that the bytes before its end belong to
  pub feeds_line : (a b : Option (List ℕ)) (old : RunState W) (xs : List ℕ) (n : ℕ) (mid new : RunState W) → n < length xs → get_or xs n 0 ≡ newline → IsUnbroken (take n xs)
      → mid ≡ record { state = old.state; number = old.number; line = old.line ++ take n xs }
      → FeedsBy step allowed a b mid (newline ∷ []) new → FeedsBy step allowed a b old (take (n + 1) xs) new
  feeds_line a b old xs n mid new here ends unbroken is line =
      subst (λ l. FeedsBy step allowed a b old l new) (sym (take-end xs n here ends))
      (feeds_by_more step allowed known a a b old (take n xs) mid (newline ∷ []) new (feeds_unbroken a old mid (take n xs) unbroken is) line)

  -- that line ended the run
  pub halts_line : (a b : Option (List ℕ)) (halt : Halt) (old : RunState W) (xs : List ℕ) (n : ℕ) (mid : RunState W) → n < length xs → get_or xs n 0 ≡ newline → IsUnbroken (take n xs)
      → mid ≡ record { state = old.state; number = old.number; line = old.line ++ take n xs }
      → HaltsBy step allowed known a b halt mid (newline ∷ []) → HaltsBy step allowed known a b halt old xs
  halts_line a b halt old xs n mid here ends unbroken is halted =
      let line : List ℕ = take n xs ++ newline ∷ [] in
      let whole : line ++ drop (n + 1) xs ≡ xs = ap (λ l. l ++ drop (n + 1) xs) (sym (take-end xs n here ends)) ∙ take-append-drop (n + 1) xs in
      subst (HaltsBy step allowed known a b halt old) whole
      (halts_by_longer step allowed known a b halt old line (drop (n + 1) xs)
      (halts_by_more step allowed known a a b halt old (take n xs) mid (newline ∷ []) (feeds_unbroken a old mid (take n xs) unbroken is) halted))
