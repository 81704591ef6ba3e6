-- A token that was cut off is the one that stands in the line.
use Rattle.std.proofs.Common.{◌≡◌, ℕ, ◌+◌, ◌-◌, ◌≤◌, true, List, ◌∷◌, length, take, drop, refl, sym, ◌∙◌, ap, arith, length-take, length-drop, drop-drop, nat_le}
use Rattle.std.proofs.lemmas.Bool.Decides.{nat_tests}
use Rattle.script_lex.specs.declared.lexeme.Lexeme.{Lexeme}
use Rattle.script_lex.specs.declared.lexeme.Lexeme.TheVariants as lexeme
use Rattle.script_lex.specs.declared.token.Token.TheVariants as token
use Rattle.script_lex.specs.Lexemes.{lexeme_token, is_lexeme, Stands}
use Rattle.script_lex.specs.Spans.{span_token, is_span, span_at}

-- what is left of a line stands at its end
pub record IsLeft (line rest : List ℕ) : Type 0 where
  pub ends : rest ≡ drop (length line - length rest) line
  pub within : length rest ≤ length line

pub left_whole : (line : List ℕ) → IsLeft line line
left_whole line =
    let none : length line - length line ≡ 0 = omega arith in
    record { ends = rw none refl; within = omega arith }

pub left_drop : (line rest behind : List ℕ) (n : ℕ) → IsLeft line rest → behind ≡ drop n rest → n ≤ length rest → IsLeft line behind
left_drop line rest behind n left cut short =
    let s : ℕ = length line - length rest in
    let long : length behind ≡ length rest - n = ap length cut ∙ length-drop n rest in
    let both : behind ≡ drop (s + n) line = cut ∙ ap (drop n) left.ends ∙ drop-drop n s line in
    let sum : length line - length behind ≡ s + n = omega (arith, left.within) in
    record { ends = rw sum both; within = omega (arith, left.within) }

pub left_space : (line rest behind : List ℕ) (b : ℕ) → IsLeft line rest → rest ≡ b ∷ behind → IsLeft line behind
left_space line rest behind b left parts =
    let cut : behind ≡ drop 1 rest = rw parts refl in
    let some : 1 ≤ length rest = omega (arith, ap length parts) in
    left_drop line rest behind 1 left cut some

taken_within : (bytes word : List ℕ) → word ≡ take (length word) bytes → length word ≤ length bytes
taken_within bytes word is =
    omega (arith, ap length is, length-take (length word) bytes)

module _ (line rest : List ℕ) (left : IsLeft line rest) where
  front_bytes : (word : List ℕ) → word ≡ take (length word) rest → take (length word) (drop (length line - length rest) line) ≡ word
  front_bytes word stands = sym (stands ∙ ap (take (length word)) left.ends)

  quoted_bytes : (text : List ℕ) → text ≡ take (length text) (drop 1 rest) → take (length text) (drop (length line - length rest + 1) line) ≡ text
  quoted_bytes text stands =
      sym (stands ∙ ap (λ bytes. take (length text) (drop 1 bytes)) left.ends ∙ ap (take (length text)) (drop-drop 1 (length line - length rest) line))

  -- the token at the place is the one that was cut off there
  pub span_token_at : (x : Lexeme) → Stands rest x → span_token line (span_at (length line - length rest) x) ≡ lexeme_token x
  span_token_at (lexeme.Word bytes) stands = ap token.Word (front_bytes bytes.now stands)
  span_token_at (lexeme.Number minus size) stands = refl
  span_token_at (lexeme.Words bytes) stands = ap token.Words (quoted_bytes bytes.now stands)
  span_token_at (lexeme.Symbol s) stands = refl

  -- and it stands within the line
  pub is_span_at : (x : Lexeme) → 1 ≤ length rest → Stands rest x → is_lexeme x ≡ true → is_span line (span_at (length line - length rest) x) ≡ true
  is_span_at (lexeme.Word bytes) some stands formed =
      let short : length bytes.now ≤ length rest = taken_within rest bytes.now stands in
      let within : length rest ≤ length line = left.within in
      let under : length line - length rest + length bytes.now ≤ length line = omega arith in
      let fits : nat_le (length line - length rest + length bytes.now) (length line) ≡ true = grind (arith, nat_tests) in
      rw (fits, front_bytes bytes.now stands) formed
  is_span_at (lexeme.Number minus size) some stands formed = refl
  is_span_at (lexeme.Words bytes) some stands formed =
      let short : length bytes.now ≤ length (drop 1 rest) = taken_within (drop 1 rest) bytes.now stands in
      let less : length (drop 1 rest) ≡ length rest - 1 = length-drop 1 rest in
      let within : length rest ≤ length line = left.within in
      let under : length line - length rest + 1 + length bytes.now ≤ length line = omega arith in
      let fits : nat_le (length line - length rest + 1 + length bytes.now) (length line) ≡ true = grind (arith, nat_tests) in
      rw (fits, quoted_bytes bytes.now stands) formed
  is_span_at (lexeme.Symbol s) some stands formed = refl
