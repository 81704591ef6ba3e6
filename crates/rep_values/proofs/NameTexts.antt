-- The bytes of a name are those of a text.
use Rattle.std.proofs.Common.{◌≡◌, ℕ, ◌≤◌, true, List, [], ◌∷◌, length, refl, inl, inr, arith}
use Rattle.std.specs.Prelude.{◌&&◌, ◌||◌, ◌==◌, not, nat_le}
use Rattle.std.specs.List.{list_all}
use Rattle.std.proofs.lemmas.Bool.{and_parts, and_from, leb-true, le-leb, eqb-true, or_cases, not_from_false, false_from_ne_true}
use Rattle.rep_values.specs.Bytes.{is_within, is_letter, is_digit, is_printable}
use Rattle.rep_values.specs.Name.{is_name, is_name_byte}
use Rattle.rep_values.specs.Text.{is_text, is_text_byte}

bounds : (lo hi byte : ℕ) → is_within lo hi byte ≡ true → (lo ≤ byte) × (byte ≤ hi)
bounds lo hi byte within = let both = and_parts (nat_le lo byte) (nat_le byte hi) within in (leb-true lo byte both.0, leb-true byte hi both.1)

printable : (byte : ℕ) → 40 ≤ byte → byte ≤ 126 → is_text_byte byte ≡ true
printable byte low high =
    and_from (is_printable byte) (not (byte == 39))
    (and_from (nat_le 32 byte) (nat_le byte 126) (le-leb 32 byte (omega (arith, low))) (le-leb byte 126 high))
    (not_from_false (byte == 39) (false_from_ne_true (byte == 39) (λ same. let is = eqb-true byte 39 same in absurd (omega (arith, is, low)))))

printable_within : (lo hi byte : ℕ) → 40 ≤ lo → hi ≤ 126 → is_within lo hi byte ≡ true → is_text_byte byte ≡ true
printable_within lo hi byte low high within = let both = bounds lo hi byte within in printable byte (omega (arith, low, both.0)) (omega (arith, high, both.1))

letter_prints : (byte : ℕ) → is_letter byte ≡ true → is_text_byte byte ≡ true
letter_prints byte is = elim (or_cases (is_within 65 90 byte) (is_within 97 122 byte) is) [
  | inl upper ↦ printable_within 65 90 byte (omega arith) (omega arith) upper
  | inr lower ↦ printable_within 97 122 byte (omega arith) (omega arith) lower
]

name_byte_prints : (byte : ℕ) → is_name_byte byte ≡ true → is_text_byte byte ≡ true
name_byte_prints byte is = elim (or_cases (is_letter byte || is_digit byte) (byte == 95) is) [
  | inl plain ↦ elim (or_cases (is_letter byte) (is_digit byte) plain) [
    | inl letter ↦ letter_prints byte letter
    | inr digit ↦ printable_within 48 57 byte (omega arith) (omega arith) digit
  ]
  | inr under ↦ let same = eqb-true byte 95 under in printable byte (omega (arith, same)) (omega (arith, same))
]

each_prints : (bytes : List ℕ) → list_all is_name_byte bytes ≡ true → list_all is_text_byte bytes ≡ true
each_prints [] all = refl
each_prints (byte ∷ bytes) all =
    let both = and_parts (is_name_byte byte) (list_all is_name_byte bytes) all in
    and_from (is_text_byte byte) (list_all is_text_byte bytes) (name_byte_prints byte both.0) (each_prints bytes both.1)

-- a name is a text
pub is_text-name : (bytes : List ℕ) → is_name bytes ≡ true → is_text bytes ≡ true
is_text-name [] is = cc
is_text-name (b ∷ bs) is =
    let parts = and_parts (nat_le (length (b ∷ bs)) 30 && is_letter b) (list_all is_name_byte (b ∷ bs)) is in
    let few : length (b ∷ bs) ≤ 30 = leb-true (length (b ∷ bs)) 30 (and_parts (nat_le (length (b ∷ bs)) 30) (is_letter b) parts.0).0 in
    and_from (nat_le (length (b ∷ bs)) 64) (list_all is_text_byte (b ∷ bs)) (le-leb (length (b ∷ bs)) 64 (omega (arith, few))) (each_prints (b ∷ bs) parts.1)
