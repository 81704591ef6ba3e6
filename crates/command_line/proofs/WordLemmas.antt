-- Words that are the option or the flag, and words that are numbers.
use Rattle.std.proofs.Common.{◌≡◌, ◌≤◌, true, false, Bool, ℕ, length, List, [], ◌∷◌, ◌++◌, nat_lt, nat_le, nat_eq, refl, arith, ◌∙◌, sym, ap, subst, codes, ne_eqb, is_some}
use Rattle.std.specs.Prelude.{◌&&◌, cond, Some, None}
use Rattle.std.specs.Str.Parse.{digits_value}
use Rattle.std.proofs.lemmas.Bool.{leb-true}
use Rattle.std.proofs.lemmas.Bool.Decides.{Decides-eqb}
use Rattle.std.proofs.lemmas.Slice.Eq.{slice_eq-Decides, starts_is}
use Rattle.std.specs.Cmp.Lexicographic.{pointwise}
use Rattle.rep_values.specs.Bytes.{is_digit}
use Rattle.command_line.specs.Numerals.{number_within}
use Rattle.command_line.proofs.NumeralLemmas.{both_true}
use Rattle.command_line.specs.Words.{is_flag, is_joined, is_option, joined_value}

-- a word that is equal to a text is that text
pub same_text : (word text : List ℕ) → pointwise nat_eq word text ≡ true → word ≡ text
same_text word text e = (slice_eq-Decides Decides-eqb word text _ refl).0 e

pub option_is : (word : List ℕ) → is_option word ≡ true → word ≡ codes "--appliers"
option_is word e = same_text word (codes "--appliers") e

pub joined_is : (word : List ℕ) → is_joined word ≡ true → word ≡ codes "--appliers=" ++ joined_value word
joined_is word e = (starts_is Decides-eqb word (codes "--appliers=") _ refl).0 e

-- a word that begins with a hyphen is no number
no_number : (least most : ℕ) (rest : List ℕ) → number_within least most (45 ∷ rest) ≡ None
no_number least most rest = go (nat_lt 0 (length (45 ∷ rest)))
  where
    go : (b : Bool) → cond ((b && false) && nat_le least (digits_value 10 (45 ∷ rest)) && nat_le (digits_value 10 (45 ∷ rest)) most) (Some (digits_value 10 (45 ∷ rest))) None ≡ None
    go true = refl
    go false = refl

pub number-option : (least most : ℕ) (word : List ℕ) → is_option word ≡ true → number_within least most word ≡ None
number-option least most word e = ap (number_within least most) (option_is word e) ∙ no_number least most (codes "-appliers")

pub number-joined : (least most : ℕ) (word : List ℕ) → is_joined word ≡ true → number_within least most word ≡ None
number-joined least most word e = ap (number_within least most) (joined_is word e) ∙ no_number least most (codes "-appliers=" ++ joined_value word)

-- the option's word isn't joined to a value
pub joined-option : (word : List ℕ) → is_option word ≡ true → is_joined word ≡ false
joined-option word e = ap is_joined (option_is word e)

-- a first byte that is no hyphen
pub record IsPlain (byte : ℕ) : Type 0 where
  pub left : nat_eq byte 45 ≡ false
  pub right : nat_eq 45 byte ≡ false

digit_plain : (byte : ℕ) → is_digit byte ≡ true → IsPlain byte
digit_plain byte e =
    let least : 48 ≤ byte = leb-true 48 byte (both_true (nat_le 48 byte) (nat_le byte 57) e).0 in
    record { left = ne_eqb byte 45 (λ is. omega arith); right = ne_eqb 45 byte (λ is. omega arith) }

-- a number has a first byte, which is no hyphen
pub at_number : (least most : ℕ) (P : List ℕ → Type 0) (word : List ℕ) → is_some (number_within least most word) ≡ true → ((byte : ℕ) (rest : List ℕ) → IsPlain byte → P (byte ∷ rest)) → P word
at_number least most P [] e p = absurd (cc e)
at_number least most P (byte ∷ rest) e p = p byte rest (digit_plain byte (go (is_digit byte) refl))
  where
    go : (b : Bool) → is_digit byte ≡ b → is_digit byte ≡ true
    go true is = is
    go false is = absurd (no (nat_lt 0 (length (byte ∷ rest))) refl)
      where
        no : (c : Bool) → nat_lt 0 (length (byte ∷ rest)) ≡ c → ⊥
        no true c = let bad : false ≡ true = rw (c, is) at e in cc
        no false c = let bad : false ≡ true = rw c at e in cc

pub at_option : (P : List ℕ → Type 0) (word : List ℕ) → is_option word ≡ true → P (codes "--appliers") → P word
at_option P word e p = subst P (sym (option_is word e)) p

pub at_joined : (P : List ℕ → Type 0) (word : List ℕ) → is_joined word ≡ true → ((value : List ℕ) → P (codes "--appliers=" ++ value)) → P word
at_joined P word e p = subst P (sym (joined_is word e)) (p (joined_value word))

pub at_flag : (P : List ℕ → Type 0) (word : List ℕ) → is_flag word ≡ true → P (codes "--json") → P word
at_flag P word e p = subst P (sym (same_text word (codes "--json") e)) p
