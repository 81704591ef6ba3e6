-- Names and values are read as they are written.
use Rattle.std.proofs.Common.{◌≡◌, ℕ, ℤ, pos, negsuc, Bool, true, false, ◌&&◌, eqb, List, [], ◌∷◌, ◌++◌, Ok, refl, arith, length, nat_le}
use Rattle.std.specs.Prelude.{flat_map}
use Rattle.std.specs.List.{list_all, AllByRecursion}
use Rattle.std.specs.Cmp.Lexicographic.{pointwise}
use Rattle.std.proofs.lemmas.Bool.Decides.{nat_tests}
use Rattle.rep_values.specs.Bytes.{is_letter}
use Rattle.rep_values.specs.Name.{is_name, is_name_byte}
use Rattle.rep_values.specs.declared.literal.Literal.{Literal}
use Rattle.rep_values.specs.declared.literal.Literal.TheVariants as literal
use Rattle.script_lex.specs.declared.token.Token.{Token}
use Rattle.script_lex.specs.declared.token.Token.TheVariants as token
use Rattle.script_words.specs.Words.{is_named, is_valued}
use Rattle.script_words.specs.Reading.{one, begins, one_or_more}
use Rattle.script_words.specs.Parts.{name, number, value}
use Rattle.script_words.specs.Spelled.{value_token, is_small}
use Rattle.script_words.proofs.ReadAgain.{some_again, all_again}

pub name_again : (bytes : List ℕ) (rest : List Token) → is_name bytes ≡ true → name (token.Word bytes ∷ rest) ≡ Ok (bytes, rest)
unfolding one
name_again bytes rest formed = rw formed refl

begins_with_letter : (b : ℕ) (bs : List ℕ) → is_name (b ∷ bs) ≡ true → is_letter b ≡ true
begins_with_letter b bs formed = go (nat_le (length (b ∷ bs)) 30) (is_letter b) (list_all is_name_byte (b ∷ bs)) formed
  where
    go : (short letter all : Bool) → (short && letter && all) ≡ true → letter ≡ true
    go true true all is = refl
    go true false all is = cc
    go false letter all is = cc

-- a name is no mark that begins with another byte than a letter
pub name_is_no_mark : (m : ℕ) (ms bytes : List ℕ) → is_letter m ≡ false → is_name bytes ≡ true → pointwise eqb (m ∷ ms) bytes ≡ false
name_is_no_mark m ms [] other formed = refl
name_is_no_mark m ms (b ∷ bs) other formed = go (eqb m b) refl
  where
    go : (v : Bool) → eqb m b ≡ v → (v && pointwise eqb ms bs) ≡ false
    go true is =
        let same : m ≡ b = grind (arith, nat_tests) in
        let letter : is_letter b ≡ true = begins_with_letter b bs formed in
        absurd (cc)
    go false is = refl

pub value_again : (v : Literal) (rest : List Token) → is_small v ≡ true → value (value_token v ∷ rest) ≡ Ok (v, rest)
unfolding one
value_again (literal.Num (pos n)) rest formed = rw formed refl
value_again (literal.Num (negsuc n)) rest formed = rw formed refl
value_again (literal.Words bytes) rest formed = refl

value_begins : (v : Literal) (rest : List Token) → is_small v ≡ true → begins is_valued (value_token v ∷ rest) ≡ true
value_begins (literal.Num (pos n)) rest formed = rw formed refl
value_begins (literal.Num (negsuc n)) rest formed = rw formed refl
value_begins (literal.Words bytes) rest formed = refl

-- values in a row, with other tokens behind them
pub values_again : (v : Literal) (vs : List Literal) (rest : List Token) → AllByRecursion (λ w. is_small w ≡ true) (v ∷ vs) → begins is_valued rest ≡ false
    → one_or_more is_valued value (flat_map (λ w. value_token w ∷ []) (v ∷ vs) ++ rest) ≡ Ok (v ∷ vs, rest)
values_again v vs rest formed none =
    some_again is_valued value (λ w. value_token w ∷ []) (λ w. is_small w ≡ true) (λ ts. true)
    value_begins (λ w ts small stop. value_again w ts small) (λ w ts small. refl) v vs rest formed refl none

-- the same with nothing behind them
pub all_values_again : (v : Literal) (vs : List Literal) → AllByRecursion (λ w. is_small w ≡ true) (v ∷ vs)
    → one_or_more is_valued value (flat_map (λ w. value_token w ∷ []) (v ∷ vs)) ≡ Ok (v ∷ vs, [])
all_values_again v vs formed =
    all_again is_valued value (λ w. value_token w ∷ []) (λ w. is_small w ≡ true) (λ ts. true)
    value_begins (λ w ts small stop. value_again w ts small) (λ w ts small. refl) v vs formed refl

-- a number with its sign
pub number_again : (n : ℤ) (rest : List Token) → is_small (literal.Num n) ≡ true → number (value_token (literal.Num n) ∷ rest) ≡ Ok (n, rest)
unfolding one
number_again (pos n) rest formed = rw formed refl
number_again (negsuc n) rest formed = rw formed refl

name_begins : (n : List ℕ) (rest : List Token) → is_name n ≡ true → begins is_named (token.Word n ∷ rest) ≡ true
name_begins n rest formed = rw formed refl

-- names in a row, with nothing behind them
pub all_names_again : (n : List ℕ) (ns : List (List ℕ)) → AllByRecursion (λ m. is_name m ≡ true) (n ∷ ns)
    → one_or_more is_named name (flat_map (λ m. token.Word m ∷ []) (n ∷ ns)) ≡ Ok (n ∷ ns, [])
all_names_again n ns formed =
    all_again is_named name (λ m. token.Word m ∷ []) (λ m. is_name m ≡ true) (λ ts. true)
    name_begins (λ m ts named stop. name_again m ts named) (λ m ts named. refl) n ns formed refl
