-- The bytes of words, and those before a quote, are those of a text.
use Rattle.std.proofs.Common.{◌≡◌, ℕ, zero, suc, ◌≤◌, Bool, true, false, ◌&&◌, List, [], ◌∷◌, length, take, drop, refl, arith, nat_le}
use Rattle.std.specs.List.{list_all}
use Rattle.std.proofs.lemmas.Bool.Decides.{nat_tests}
use Rattle.rep_values.specs.Bytes.{is_printable}
use Rattle.rep_values.specs.Text.{is_text_byte, is_text}
use Rattle.script_lex.specs.Bytes.{is_word_byte, is_plain}

pub and_both : (a b : Bool) → (a && b) ≡ true → (a ≡ true) × (b ≡ true)
and_both true true is = (refl, refl)
and_both true false is = cc
and_both false b is = cc

pub all_drop : (p : ℕ → Bool) (n : ℕ) (xs : List ℕ) → list_all p xs ≡ true → list_all p (drop n xs) ≡ true
all_drop p zero xs all = all
all_drop p (suc n) [] all = refl
all_drop p (suc n) (x ∷ xs) all = all_drop p n xs ((and_both (p x) (list_all p xs) all).1)

pub all_take : (p : ℕ → Bool) (n : ℕ) (xs : List ℕ) → list_all p xs ≡ true → list_all p (take n xs) ≡ true
all_take p zero xs all = refl
all_take p (suc n) [] all = refl
all_take p (suc n) (x ∷ xs) all =
    let both = and_both (p x) (list_all p xs) all in
    rw both.0 (all_take p n xs both.1)

word_byte_is_text : (b : ℕ) → is_word_byte b ≡ true → is_text_byte b ≡ true
word_byte_is_text b is = grind (arith, nat_tests)

word_bytes : (bytes : List ℕ) → list_all is_word_byte bytes ≡ true → list_all is_text_byte bytes ≡ true
word_bytes [] is = refl
word_bytes (b ∷ bs) is =
    let both = and_both (is_word_byte b) (list_all is_word_byte bs) is in
    rw (word_byte_is_text b both.0) (word_bytes bs both.1)

plain_byte_is_text : (b : ℕ) → is_plain b ≡ true → is_printable b ≡ true → is_text_byte b ≡ true
plain_byte_is_text b plain prints = grind (arith, nat_tests)

plain_bytes : (bytes : List ℕ) → list_all is_plain bytes ≡ true → list_all is_printable bytes ≡ true → list_all is_text_byte bytes ≡ true
plain_bytes [] is prints = refl
plain_bytes (b ∷ bs) is prints =
    let plain = and_both (is_plain b) (list_all is_plain bs) is in
    let both = and_both (is_printable b) (list_all is_printable bs) prints in
    rw (plain_byte_is_text b plain.0 both.0) (plain_bytes bs plain.1 both.1)

short_is_text : (bytes : List ℕ) → length bytes ≤ 64 → list_all is_text_byte bytes ≡ true → is_text bytes ≡ true
short_is_text bytes short all =
    let under : nat_le (length bytes) 64 ≡ true = grind (arith, nat_tests) in
    rw (under, all) refl

-- a word that isn't too long is a text
pub word_is_text : (bytes : List ℕ) → list_all is_word_byte bytes ≡ true → length bytes ≤ 30 → is_text bytes ≡ true
word_is_text bytes is short = short_is_text bytes (omega arith) (word_bytes bytes is)

-- printable bytes without a quote are a text, if they aren't too many
pub plain_is_text : (bytes : List ℕ) → list_all is_plain bytes ≡ true → list_all is_printable bytes ≡ true → length bytes ≤ 64 → is_text bytes ≡ true
plain_is_text bytes is prints short = short_is_text bytes short (plain_bytes bytes is prints)
