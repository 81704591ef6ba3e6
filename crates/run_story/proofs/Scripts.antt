-- A script that is taken byte by byte, and its lines.
use Rattle.std.proofs.Common.{◌≡◌, ◌≢◌, ℕ, ◌-◌, List, [], ◌∷◌, ◌++◌, length, refl, sym, ap, ◌∙◌, append_assoc}
use Rattle.std.specs.Prelude.{◌==◌, true, false, slice_get}
use Rattle.std.proofs.lemmas.Bool.{ne_eqb, eq-eqb}
use Rattle.std.proofs.lemmas.List.{append-nil}
use Rattle.script_drive.specs.Lines.{lines_after}
use Rattle.run_story.specs.declared.happening.Line.{Line}
use Rattle.run_story.specs.Telling.{words_of, ends_run_in, AreLinesOf}

-- a byte that ends a line
pub lines_after-end : (front bytes : List ℕ) (b : ℕ) → b ≡ 10 → lines_after front (b ∷ bytes) ≡ front ∷ lines_after [] bytes
lines_after-end front bytes b is = let ends : (b == 10) ≡ true = eq-eqb b 10 is in rw ends refl

-- and one that ends none
pub lines_after-more : (front bytes : List ℕ) (b : ℕ) → b ≢ 10 → lines_after front (b ∷ bytes) ≡ lines_after (front ++ b ∷ []) bytes
lines_after-more front bytes b other = let goes_on : (b == 10) ≡ false = ne_eqb b 10 other in rw goes_on refl

-- what is left makes the lines whole
pub record IsAtByte (script : List ℕ) (words : List (List ℕ)) (front rest : List ℕ) : Type 0 where
  pub all : words ++ lines_after front rest ≡ lines_after [] script

-- nothing was read
pub at_start : (script : List ℕ) (lines : List Line) → lines ≡ [] → IsAtByte script (words_of lines) [] script
at_start script lines none = record { all = ap (λ (ls : List Line). words_of ls ++ lines_after [] script) none }

pub goes_at_start : (lines : List Line) → lines ≡ [] → ends_run_in (slice_get lines (length lines - 1)) ≡ false
goes_at_start lines none = ap (λ (ls : List Line). ends_run_in (slice_get ls (length ls - 1))) none

-- a byte more of a line
pub past_byte : (script : List ℕ) (words : List (List ℕ)) (front rest bytes : List ℕ) (b : ℕ) → IsAtByte script words front rest → rest ≡ b ∷ bytes → b ≢ 10
    → IsAtByte script words (front ++ b ∷ []) bytes
past_byte script words front rest bytes b at next other =
    record { all = ap (λ (ls : List (List ℕ)). words ++ ls) (sym (lines_after-more front bytes b other) ∙ ap (λ (bs : List ℕ). lines_after front bs) (sym next)) ∙ at.all }

-- the end of a line
pub past_end : (script : List ℕ) (words words' : List (List ℕ)) (front rest bytes : List ℕ) (b : ℕ) → IsAtByte script words front rest → rest ≡ b ∷ bytes → b ≡ 10
    → words' ≡ words ++ front ∷ [] → IsAtByte script words' [] bytes
past_end script words words' front rest bytes b at next ends more =
    record {
      all = ap (λ (ls : List (List ℕ)). ls ++ lines_after [] bytes) more
          ∙ append_assoc words (front ∷ []) (lines_after [] bytes)
          ∙ ap (λ (ls : List (List ℕ)). words ++ ls) (sym (lines_after-end front bytes b ends) ∙ ap (λ (bs : List ℕ). lines_after front bs) (sym next)) ∙ at.all;
    }

-- a run that ended early
pub stopped_early : (script : List ℕ) (lines : List Line) (words : List (List ℕ)) (front rest bytes : List ℕ) (b : ℕ) → IsAtByte script words front rest → rest ≡ b ∷ bytes → b ≡ 10
    → words_of lines ≡ words ++ front ∷ [] → ends_run_in (slice_get lines (length lines - 1)) ≡ true → AreLinesOf script lines
stopped_early script lines words front rest bytes b at next ends more ended =
    let behind = past_end script words (words_of lines) front rest bytes b at next ends more in
    record { rest = lines_after [] bytes; all = behind.all; whole = λ not. absurd (cc (ended, not)) }

-- a run to the end of a script that ends with the end of a line
pub read_whole : (script : List ℕ) (lines : List Line) (front rest : List ℕ) → IsAtByte script (words_of lines) front rest → rest ≡ [] → front ≡ [] → AreLinesOf script lines
read_whole script lines front rest at end none =
    record {
      rest = [];
      all = ap (λ (f : List ℕ). words_of lines ++ lines_after f []) (sym none) ∙ ap (λ (r : List ℕ). words_of lines ++ lines_after front r) (sym end) ∙ at.all;
      whole = λ going. refl;
    }

-- what follows a line that has no end
last_line_is : (front : List ℕ) → front ≢ [] → lines_after front [] ≡ front ∷ []
last_line_is [] some = absurd (some refl)
last_line_is (b ∷ front) some = refl

-- and to that of one whose last line has no end
pub read_last : (script : List ℕ) (lines : List Line) (words : List (List ℕ)) (front rest : List ℕ) → IsAtByte script words front rest → rest ≡ [] → front ≢ []
    → words_of lines ≡ words ++ front ∷ [] → AreLinesOf script lines
read_last script lines words front rest at end some taken =
    record {
      rest = [];
      all = append-nil (words_of lines) ∙ taken ∙ ap (λ (ls : List (List ℕ)). words ++ ls) (sym (last_line_is front some) ∙ ap (λ (r : List ℕ). lines_after front r) (sym end)) ∙ at.all;
      whole = λ going. refl;
    }
