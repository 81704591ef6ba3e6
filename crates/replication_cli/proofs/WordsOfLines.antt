-- The words of a line that is made of words, and the numbers that some of them are.
use Rattle.std.proofs.Common.{◌≡◌, ℕ, zero, suc, ◌+◌, ◌*◌, ◌-◌, ◌^◌, ◌<◌, ◌≤◌, ◌==◌, Bool, true, false, List, [], ◌∷◌, ◌++◌, length, map, take, drop, refl, ap, subst, ◌∙◌, arith, add-one, append_assoc}
use Rattle.std.specs.Prelude.{◌&&◌, ◌||◌, not, codes, decimal, fold, nat_eq, nat_le}
use Rattle.std.specs.List.{AllByRecursion, list_all, position_or_len, before_first, after_first}
use Rattle.std.specs.Int.Digits.{digits_of, number_from_digits_after}
use Rattle.std.proofs.lemmas.Bool.{eqb-true}
use Rattle.std.proofs.lemmas.Bool.Decides.{nat_tests}
use Rattle.std.proofs.lemmas.Fmt.{decimal-digits_of, decimal_digit}
use Rattle.std.proofs.lemmas.Int.Digits.{all_below_base_digits_of, number_digits_of}
use Rattle.rep_values.specs.Bytes.{is_letter}
use Rattle.rep_values.specs.Name.{is_name_byte, is_name, same_bytes}
use Rattle.report_text.specs.Sheet.{line, spaced}
use Rattle.replication_cli.specs.Words.{ends_word, word_at, last_number, with_digit, digits_number}

-- ---- one word

-- no byte of a word ends it
abbrev pub is_word : List ℕ → Bool
is_word w = list_all (λ byte. not (ends_word byte)) w

both_true : (a b : Bool) → (a && b) ≡ true → (a ≡ true) × (b ≡ true)
both_true true b is = (refl, is)
both_true false b is = absurd (cc is)

together : (a b : Bool) → a ≡ true → b ≡ true → (a && b) ≡ true
together a b first second = rw first second

not_true : (a : Bool) → not a ≡ true → a ≡ false
not_true true is = absurd (cc is)
not_true false is = refl

take_front : (w more : List ℕ) → take (length w) (w ++ more) ≡ w
take_front [] more = refl
take_front (b ∷ w) more = ap (λ (bytes : List ℕ). b ∷ bytes) (take_front w more)

drop_front : (w : List ℕ) (e : ℕ) (more : List ℕ) → drop (suc (length w)) (w ++ e ∷ more) ≡ more
drop_front [] e more = refl
drop_front (b ∷ w) e more = drop_front w e more

module _ (e : ℕ) (more : List ℕ) (ends : ends_word e ≡ true) where
  place : (w : List ℕ) → is_word w ≡ true → position_or_len ends_word (w ++ e ∷ more) ≡ length w
  place [] is = rw ends refl
  place (b ∷ w) is =
      let both = both_true (not (ends_word b)) (is_word w) is in
      rw (not_true (ends_word b) both.0) (omega (arith, place w both.1))

  word_before : (w : List ℕ) → is_word w ≡ true → before_first ends_word (w ++ e ∷ more) ≡ w
  word_before w is = ap (λ (n : ℕ). take n (w ++ e ∷ more)) (place w is) ∙ take_front w (e ∷ more)

  word_behind : (w : List ℕ) → is_word w ≡ true → after_first ends_word (w ++ e ∷ more) ≡ more
  word_behind w is = ap (λ (n : ℕ). drop (n + 1) (w ++ e ∷ more)) (place w is) ∙ ap (λ (n : ℕ). drop n (w ++ e ∷ more)) (add-one (length w)) ∙ drop_front w e more

-- ---- the words of a line

-- what stands behind the first word of a line, and behind the line
abbrev rest : List (List ℕ) → List ℕ → List ℕ
rest words more = spaced words ++ 10 ∷ more

line-rest : (first : List ℕ) (words : List (List ℕ)) (more : List ℕ) → line first words ++ more ≡ first ++ rest words more
line-rest first words more =
    append_assoc first (spaced words ++ 10 ∷ []) more ∙ ap (λ (bytes : List ℕ). first ++ bytes) (append_assoc (spaced words) (10 ∷ []) more)

first_word : (w : List ℕ) (words : List (List ℕ)) (more : List ℕ) → is_word w ≡ true → word_at 0 (w ++ rest words more) ≡ w
first_word w [] more is = word_before 10 more refl w is
first_word w (v ∷ words) more is = word_before 32 ((v ++ spaced words) ++ 10 ∷ more) refl w is

next_word : (k : ℕ) (w v : List ℕ) (words : List (List ℕ)) (more : List ℕ) → is_word w ≡ true → word_at (suc k) (w ++ rest (v ∷ words) more) ≡ word_at k (v ++ rest words more)
next_word k w v words more is =
    ap (word_at k) (word_behind 32 ((v ++ spaced words) ++ 10 ∷ more) refl w is ∙ append_assoc v (spaced words) (10 ∷ more))

-- the word at a place of those that a line is made of
abbrev nth : ℕ → List ℕ → List (List ℕ) → List ℕ
nth zero w words = w
nth (suc k) w [] = []
nth (suc k) w (v ∷ words) = nth k v words

word_in : (k : ℕ) (w : List ℕ) (words : List (List ℕ)) (more : List ℕ) → k ≤ length words → AllByRecursion (λ (v : List ℕ). is_word v ≡ true) (w ∷ words)
    → word_at k (w ++ rest words more) ≡ nth k w words
word_in zero w words more within all = first_word w words more all.0
word_in (suc k) w [] more within all = absurd (omega (arith, within))
word_in (suc k) w (v ∷ words) more within all = next_word k w v words more all.0 ∙ word_in k v words more (omega (arith, within)) all.1

-- the word at a place of a line is the one that it is made of
pub word_of_line : (k : ℕ) (w : List ℕ) (words : List (List ℕ)) (more : List ℕ) → k ≤ length words → AllByRecursion (λ (v : List ℕ). is_word v ≡ true) (w ∷ words)
    → word_at k (line w words ++ more) ≡ nth k w words
word_of_line k w words more within all = ap (word_at k) (line-rest w words more) ∙ word_in k w words more within all

-- ---- names

name_byte : (b : ℕ) → is_name_byte b ≡ true → not (ends_word b) ≡ true
name_byte b is = go (b == 32) (b == 10) refl refl
  where
    space : is_name_byte 32 ≡ true → false ≡ true
    space same = same

    newline : is_name_byte 10 ≡ true → false ≡ true
    newline same = same

    go : (first second : Bool) → (b == 32) ≡ first → (b == 10) ≡ second → not (first || second) ≡ true
    go true second one other = absurd (cc (space (subst (λ (c : ℕ). is_name_byte c ≡ true) (eqb-true b 32 one) is)))
    go false true one other = absurd (cc (newline (subst (λ (c : ℕ). is_name_byte c ≡ true) (eqb-true b 10 other) is)))
    go false false one other = refl

name_bytes : (w : List ℕ) → list_all is_name_byte w ≡ true → is_word w ≡ true
name_bytes [] is = refl
name_bytes (b ∷ w) is =
    let both = both_true (is_name_byte b) (list_all is_name_byte w) is in
    together (not (ends_word b)) (is_word w) (name_byte b both.0) (name_bytes w both.1)

last_true : (a b c : Bool) → (a && b && c) ≡ true → c ≡ true
last_true true true c is = is
last_true true false c is = absurd (cc is)
last_true false b c is = absurd (cc is)

-- a name is a word
pub name_is_word : (w : List ℕ) → is_name w ≡ true → is_word w ≡ true
name_is_word [] is = absurd (cc is)
name_is_word (b ∷ w) is = name_bytes (b ∷ w) (last_true (nat_le (length (b ∷ w)) 30) (is_letter b) (list_all is_name_byte (b ∷ w)) is)

-- ---- numbers

digit_byte : (d : ℕ) → d < 10 → not (ends_word (48 + d)) ≡ true
digit_byte d below = grind (arith, nat_tests)

digit_bytes : (ds : List ℕ) → AllByRecursion (λ d. d < 10) ds → is_word (map (λ d. 48 + d) ds) ≡ true
digit_bytes [] below = refl
digit_bytes (d ∷ ds) below = together (not (ends_word (48 + d))) (is_word (map (λ d. 48 + d) ds)) (digit_byte d below.0) (digit_bytes ds below.1)

-- the digits of a number are a word
pub decimal_is_word : (n : ℕ) → n < 2 ^ 64 → is_word (decimal n) ≡ true
decimal_is_word zero fits = rw (decimal_digit 0 (omega arith)) refl
decimal_is_word (suc n) fits = rw (decimal-digits_of (suc n) (omega arith) fits) (digit_bytes (digits_of 10 (suc n)) (all_below_base_digits_of 10 (suc n) (omega arith)))

no_letter : (d : ℕ) → d < 10 → nat_eq (48 + d) 110 ≡ false
no_letter d below = grind (arith, nat_tests)

not_none_digits : (ds : List ℕ) → AllByRecursion (λ d. d < 10) ds → same_bytes (map (λ d. 48 + d) ds) (codes "none") ≡ false
not_none_digits [] below = refl
not_none_digits (d ∷ ds) below = rw (no_letter d below.0) refl

-- and not the word of a commit that changes nothing
pub decimal_is_not_none : (n : ℕ) → n < 2 ^ 64 → same_bytes (decimal n) (codes "none") ≡ false
decimal_is_not_none zero fits = rw (decimal_digit 0 (omega arith)) refl
decimal_is_not_none (suc n) fits = rw (decimal-digits_of (suc n) (omega arith) fits) (not_none_digits (digits_of 10 (suc n)) (all_below_base_digits_of 10 (suc n) (omega arith)))

grows : (a : ℕ) (ds : List ℕ) → a ≤ number_from_digits_after 10 a ds
grows a [] = omega arith
grows a (d ∷ ds) = omega (arith, grows (a * 10 + d) ds)

one_digit : (a d : ℕ) → a * 10 + d ≤ last_number → with_digit a (48 + d) ≡ a * 10 + d
one_digit a d within = omega (arith, within)

read_digits : (a : ℕ) (ds : List ℕ) → number_from_digits_after 10 a ds ≤ last_number → fold with_digit a (map (λ d. 48 + d) ds) ≡ number_from_digits_after 10 a ds
read_digits a [] within = refl
read_digits a (d ∷ ds) within =
    let small : a * 10 + d ≤ last_number = omega (arith, grows (a * 10 + d) ds, within) in
    ap (λ (b : ℕ). fold with_digit b (map (λ d. 48 + d) ds)) (one_digit a d small) ∙ read_digits (a * 10 + d) ds within

-- a number is read again from its digits
pub digits_number-decimal : (n : ℕ) → n < 2 ^ 64 → digits_number (decimal n) ≡ n
digits_number-decimal zero fits = rw (decimal_digit 0 (omega arith)) refl
digits_number-decimal (suc n) fits =
    let whole : number_from_digits_after 10 0 (digits_of 10 (suc n)) ≡ suc n = number_digits_of 10 (suc n) (omega arith) in
    rw (decimal-digits_of (suc n) (omega arith) fits) (read_digits 0 (digits_of 10 (suc n)) (omega (arith, whole, fits)) ∙ whole)
