-- What is cut off in front of a line is its first token.
use Rattle.std.proofs.Common.{◌≡◌, ◌≢◌, ℕ, zero, suc, ◌+◌, ◌-◌, ◌<◌, ◌≤◌, Bool, true, false, cond, eqb, List, [], ◌∷◌, length, take, drop, Option, Some, None, refl, sym, ◌∙◌, ap, arith, length-take-le, length-drop, nat_le, nat_lt, IfSome}
use Rattle.std.proofs.lemmas.Bool.Decides.{nat_tests}
use Rattle.std.proofs.lemmas.List.{take_all}
use Rattle.std.specs.Borrow.{Bor}
use Rattle.std.specs.List.{list_all, prefix_len}
use Rattle.rep_values.specs.Bytes.{is_digit, is_printable, is_letter}
use Rattle.rep_values.specs.Text.{is_text}
use Rattle.script_lex.specs.declared.bytes.Start.{Start}
use Rattle.script_lex.specs.declared.bytes.Start.TheVariants as start
use Rattle.script_lex.specs.declared.lexeme.Lexeme.{Lexeme}
use Rattle.script_lex.specs.declared.token.Token.{Token}
use Rattle.script_lex.specs.declared.token.Token.TheVariants as token
use Rattle.script_lex.specs.Bytes.{is_word_byte, is_plain, start_of}
use Rattle.script_lex.specs.Forms.{longest, longest_up_to, symbol_of}
use Rattle.script_lex.specs.Tokens.{word_token, number_token, text_token, symbol_token, token_by, token_of}
use Rattle.script_lex.specs.Lexemes.{IsCut, Stands, closed_token, negative_token, symbol_len}
use Rattle.script_lex.proofs.Longest.{front_word, front_number, front_minus, front_minus_alone, front_text, front_text_open, longest_symbol}
use Rattle.script_lex.proofs.Runs.{run_passes}
use Rattle.script_lex.proofs.TextBytes.{word_is_text, plain_is_text, all_take}

-- A token by its first byte.

pub token_behind : (bytes : List ℕ) (b : ℕ) (bs : List ℕ) (s : Start) → bytes ≡ b ∷ bs → s ≡ start_of b → token_by s b bs ≡ token_of bytes
unfolding token_of
token_behind bytes b bs s parts is = rw (parts, is) refl

abbrev Cut : Type 0
Cut = Option (Lexeme × Bor (List ℕ))

-- the same token is cut off, and the same is left
pub cut_as : (t u : Option Token) (behind left : List ℕ) (cut : Cut) → t ≡ u → behind ≡ left → IsCut t behind cut → IsCut u left cut
cut_as t u behind left cut same rest is = rw (← same, ← rest) is

-- where there is no token nothing is said of what is left
pub cut_none : (t u : Option Token) (behind left : List ℕ) (cut : Cut) → t ≡ None → u ≡ None → IsCut t behind cut → IsCut u left cut
cut_none t u behind left None lacking none is = none
cut_none t u behind left (Some c) lacking none is = absurd (let e = is.0 in cc)

-- the front as the token that its first byte begins
front_by : (bytes : List ℕ) (b : ℕ) (bs : List ℕ) (s : Start) (n : ℕ) → bytes ≡ b ∷ bs → s ≡ start_of b → suc n ≡ longest bytes
    → token_by s b (take n bs) ≡ token_of (take (longest bytes) bytes)
front_by bytes b bs s n parts is long =
    let cut : take (suc n) bytes ≡ b ∷ take n bs = rw parts refl in
    token_behind (take (suc n) bytes) b (take n bs) s cut is ∙ ap (λ m. token_of (take m bytes)) long

front_left : (bytes : List ℕ) (b : ℕ) (bs : List ℕ) (n : ℕ) → bytes ≡ b ∷ bs → suc n ≡ longest bytes → drop n bs ≡ drop (longest bytes) bytes
front_left bytes b bs n parts long =
    let cut : drop (suc n) bytes ≡ drop n bs = rw parts refl in
    sym cut ∙ ap (λ m. drop m bytes) long

front_empty : (bytes : List ℕ) → 0 ≡ longest bytes → token_of (take (longest bytes) bytes) ≡ None
unfolding token_of
front_empty bytes none = sym (ap (λ m. token_of (take m bytes)) none)

taken_front : (bytes : List ℕ) (b : ℕ) (bs : List ℕ) (n : ℕ) → bytes ≡ b ∷ bs → take (1 + n) bytes ≡ b ∷ take n bs
taken_front bytes b bs n parts =
    let one : 1 + n ≡ suc n = omega arith in
    rw (one, parts) refl

-- A word.

word_chosen : (l d m q : Bool) → start.Word ≡ cond l start.Word (cond d start.Number (cond m start.Minus (cond q start.Text start.Other))) → l ≡ true
word_chosen true d m q is = refl
word_chosen false true m q is = cc
word_chosen false false true q is = cc
word_chosen false false false true is = cc
word_chosen false false false false is = cc

word_begins : (b : ℕ) → start.Word ≡ start_of b → is_word_byte b ≡ true
word_begins b is = rw (word_chosen (is_letter b) (is_digit b) (eqb b 45) (eqb b 39) is) refl

-- all bytes of a word may stand in it, the first one too
pub word_passes : (bytes : List ℕ) (b : ℕ) (bs : List ℕ) (n : ℕ) → bytes ≡ b ∷ bs → start.Word ≡ start_of b → n ≡ prefix_len is_word_byte bs
    → list_all is_word_byte (take (1 + n) bytes) ≡ true
word_passes bytes b bs n parts is run = rw (taken_front bytes b bs n parts, word_begins b is, run) (run_passes is_word_byte bs)

pub word_ahead : (bytes : List ℕ) (b : ℕ) (bs : List ℕ) (n : ℕ) (cut : Cut) → bytes ≡ b ∷ bs → start.Word ≡ start_of b → n ≡ prefix_len is_word_byte bs
    → IsCut (word_token (take (1 + n) bytes)) (drop (1 + n) bytes) cut → IsCut (token_of (take (longest bytes) bytes)) (drop (longest bytes) bytes) cut
word_ahead bytes b bs n cut parts is run off =
    let long : 1 + n ≡ longest bytes = front_word bytes b bs n parts is run in
    cut_as _ _ _ _ cut (ap word_token (taken_front bytes b bs n parts) ∙ front_by bytes b bs start.Word n parts is (omega (arith, long))) (ap (λ m. drop m bytes) long) off

pub word_fits : (bytes word : List ℕ) (n : ℕ) → word ≡ take n bytes → n ≤ length bytes → n ≤ 30 → list_all is_word_byte (take n bytes) ≡ true
    → (word_token (take n bytes) ≡ Some (token.Word word)) × (is_text word ≡ true)
word_fits bytes word n cut within short passes =
    let long : length (take n bytes) ≡ n = length-take-le n bytes within in
    let fits : nat_le n 30 ≡ true = grind (arith, nat_tests) in
    (rw (cut, long, fits) refl, rw cut (word_is_text (take n bytes) passes (omega arith)))

-- A number.

pub number_ahead : (bytes : List ℕ) (b : ℕ) (bs : List ℕ) (n : ℕ) (cut : Cut) → bytes ≡ b ∷ bs → start.Number ≡ start_of b → n ≡ prefix_len is_digit bs
    → IsCut (number_token false (take (1 + n) bytes)) (drop (1 + n) bytes) cut → IsCut (token_of (take (longest bytes) bytes)) (drop (longest bytes) bytes) cut
number_ahead bytes b bs n cut parts is run off =
    let long : 1 + n ≡ longest bytes = front_number bytes b bs n parts is run in
    cut_as _ _ _ _ cut (ap (number_token false) (taken_front bytes b bs n parts) ∙ front_by bytes b bs start.Number n parts is (omega (arith, long))) (ap (λ m. drop m bytes) long) off

pub minus_ahead : (bytes : List ℕ) (b : ℕ) (bs : List ℕ) (cut : Cut) → bytes ≡ b ∷ bs → start.Minus ≡ start_of b
    → IsCut (negative_token bs) (drop (prefix_len is_digit bs) bs) cut → IsCut (token_of (take (longest bytes) bytes)) (drop (longest bytes) bytes) cut
minus_ahead bytes b bs cut parts is off = go (prefix_len is_digit bs) refl off
  where
    go : (n : ℕ) → prefix_len is_digit bs ≡ n → IsCut (cond (eqb n 0) None (number_token true (take n bs))) (drop n bs) cut
        → IsCut (token_of (take (longest bytes) bytes)) (drop (longest bytes) bytes) cut
    go zero run off = cut_none _ _ _ _ cut refl (front_empty bytes (front_minus_alone bytes b bs zero parts is (sym run) refl)) off
    go (suc n) run off =
        let some : eqb (suc n) 0 ≡ false = grind (arith, nat_tests) in
        let long : 1 + suc n ≡ longest bytes = front_minus bytes b bs (suc n) parts is (sym run) (omega arith) in
        cut_as _ _ _ _ cut (rw some (front_by bytes b bs start.Minus (suc n) parts is (omega (arith, long)))) (front_left bytes b bs (suc n) parts (omega (arith, long))) off

-- A text.

take_less : (n : ℕ) (xs : List ℕ) → take n (take (suc n) xs) ≡ take n xs
take_less zero xs = refl
take_less (suc n) [] = refl
take_less (suc n) (x ∷ xs) = ap (λ ys. x ∷ ys) (take_less n xs)

-- the text before the first quote, if there is one
pub closed_text : (bytes : List ℕ) (n : ℕ) → n ≡ prefix_len is_plain bytes → n ≢ length bytes → n ≤ length bytes → n ≤ 64
    → closed_token bytes ≡ Some (token.Words (take n bytes))
closed_text bytes n run more within short =
    let there : nat_lt n (length bytes) ≡ true = grind (arith, nat_tests) in
    let long : length (take (suc n) bytes) ≡ suc n = length-take-le (suc n) bytes (omega arith) in
    let fits : nat_le (suc n) 65 ≡ true = grind (arith, nat_tests) in
    let one : suc n - 1 ≡ n = omega arith in
    rw (← run, there, long, fits, one, take_less) refl

pub text_left : (bytes : List ℕ) (n : ℕ) → n ≡ prefix_len is_plain bytes → take (length bytes - (n + 1)) (drop (n + 1) bytes) ≡ drop (suc (prefix_len is_plain bytes)) bytes
text_left bytes n run =
    let one : n + 1 ≡ suc n = omega arith in
    let rest : length (drop (suc n) bytes) ≤ length bytes - suc n = omega (arith, length-drop (suc n) bytes) in
    rw (← run, one) (take_all (length bytes - suc n) (drop (suc n) bytes) rest)

pub text_passes : (bytes : List ℕ) (n : ℕ) → n ≡ prefix_len is_plain bytes → list_all is_printable bytes ≡ true → n ≤ length bytes → n ≤ 64 → is_text (take n bytes) ≡ true
text_passes bytes n run prints within short =
    plain_is_text (take n bytes) (rw run (run_passes is_plain bytes)) (all_take is_printable n bytes prints) (omega (arith, length-take-le n bytes within))

pub text_ahead : (bytes : List ℕ) (b : ℕ) (bs : List ℕ) (cut : Cut) → bytes ≡ b ∷ bs → start.Text ≡ start_of b
    → IsCut (closed_token bs) (drop (suc (prefix_len is_plain bs)) bs) cut → IsCut (token_of (take (longest bytes) bytes)) (drop (longest bytes) bytes) cut
text_ahead bytes b bs cut parts is off = go (nat_lt (prefix_len is_plain bs) (length bs)) refl off
  where
    go : (v : Bool) → nat_lt (prefix_len is_plain bs) (length bs) ≡ v → IsCut (cond v (text_token (take (suc (prefix_len is_plain bs)) bs)) None) (drop (suc (prefix_len is_plain bs)) bs) cut
        → IsCut (token_of (take (longest bytes) bytes)) (drop (longest bytes) bytes) cut
    go false none off =
        let over : length bs ≤ prefix_len is_plain bs = grind (arith, nat_tests) in
        cut_none _ _ _ _ cut refl (front_empty bytes (front_text_open bytes b bs (prefix_len is_plain bs) parts is refl over)) off
    go true closed off =
        let within : prefix_len is_plain bs < length bs = grind (arith, nat_tests) in
        let long : 2 + prefix_len is_plain bs ≡ longest bytes = front_text bytes b bs (prefix_len is_plain bs) parts is refl within in
        cut_as _ _ _ _ cut (front_by bytes b bs start.Text (suc (prefix_len is_plain bs)) parts is (omega (arith, long))) (front_left bytes b bs (suc (prefix_len is_plain bs)) parts (omega (arith, long))) off

-- A symbol.

symbol_by : (b : ℕ) (bs : List ℕ) (n : ℕ) → start.Other ≡ start_of b → symbol_token (symbol_of (take n (b ∷ bs))) ≡ token_of (take n (b ∷ bs))
unfolding token_of
symbol_by b bs zero is = refl
symbol_by b bs (suc n) is = rw (← is) refl

pub symbol_ahead : (bytes : List ℕ) (b : ℕ) (bs : List ℕ) (cut : Cut) → bytes ≡ b ∷ bs → start.Other ≡ start_of b
    → IsCut (symbol_token (symbol_of (take (symbol_len bytes) bytes))) (drop (symbol_len bytes) bytes) cut
    → IsCut (token_of (take (longest bytes) bytes)) (drop (longest bytes) bytes) cut
symbol_ahead bytes b bs cut parts is off =
    let long : symbol_len (b ∷ bs) ≡ longest (b ∷ bs) = sym (longest_symbol b bs (sym is)) in
    cut_as _ _ _ _ cut (rw parts (ap (λ m. symbol_token (symbol_of (take m (b ∷ bs)))) long ∙ symbol_by b bs (longest (b ∷ bs)) is)) (rw parts (ap (λ m. drop m (b ∷ bs)) long)) off

pub none_ahead : (bytes : List ℕ) → bytes ≡ [] → token_of (take (longest bytes) bytes) ≡ None
unfolding token_of longest_up_to
none_ahead bytes none = rw none refl

-- Where what is cut off stands.

pub stands_behind : (bytes : List ℕ) (b : ℕ) (bs : List ℕ) (cut : Cut) → bytes ≡ b ∷ bs → IfSome cut (λ c. (quote : ℕ) → Stands (quote ∷ bs) c.0)
    → IfSome cut (λ c. Stands bytes c.0)
stands_behind bytes b bs None parts stands = tt
stands_behind bytes b bs (Some c) parts stands = rw parts (stands b)

pub stands_anywhere : (bytes : List ℕ) (cut : Cut) → IfSome cut (λ c. (behind : List ℕ) → Stands behind c.0) → IfSome cut (λ c. Stands bytes c.0)
stands_anywhere bytes None stands = tt
stands_anywhere bytes (Some c) stands = stands bytes
