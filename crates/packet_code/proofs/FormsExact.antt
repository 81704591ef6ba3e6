-- The parts of a packet are read exactly.
use Rattle.std.proofs.Common.{◌≡◌, ℕ, ℤ, pos, negsuc, ◌<◌, ◌≤◌, ◌^◌, ◌==◌, ◌&&◌, Bool, true, false, T, nat_le, List, [], ◌∷◌, ◌++◌, length, refl, sym, ap, subst, arith}
use Rattle.std.specs.Prelude.{◌↔◌, int_le, FitsSigned}
use Rattle.std.specs.Int.{w64, to_be_bytes, cast_signed, cast_unsigned}
use Rattle.std.specs.List.{list_all}
use Rattle.std.proofs.lemmas.Bool.{leb-true, eqb-true}
use Rattle.std.proofs.Math.Facts.{sfits_to_z, Fits-of_lt}
use Rattle.std.proofs.lemmas.Int.{of_z-to_z, to_z-of_z}
use Rattle.rep_values.specs.declared.value.Value.{Value}
use Rattle.rep_values.specs.declared.value.Value.TheVariants.{Num, Words}
use Rattle.rep_values.specs.Name.{is_name, is_name_byte}
use Rattle.rep_values.specs.Bytes.{is_letter}
use Rattle.rep_values.specs.Text.{is_text}
use Rattle.rep_schema.specs.Tables.{IsInRange}
use Rattle.rep_schema.specs.Fitting.{is_in_range}
use Rattle.packet_code.specs.Limits.{IsPlainValue, IsPlainRow, IsPlainKey, IsSiteName}
use Rattle.packet_code.specs.Spelling.{name_bytes, value_bytes, values_bytes}
use Rattle.packet_code.specs.Reading.{sized, made, u64_number}
use Rattle.packet_code.specs.Forms.{site_of, site, number_value, text_value, value, row, key}
use Rattle.packet_code.proofs.Exact.{IsExact, both_true, said_so, tested-exact, made-exact, behind-exact, either-exact, nothing-exact, byte-exact, front-exact, counted-exact}
use Rattle.packet_code.proofs.Numbers.{u64-exact}

-- a length and bytes
pub sized-exact : IsExact (λ xs. length xs < 256) (λ xs. length xs ∷ xs) sized
sized-exact = behind-exact (λ xs. length xs < 256) (λ xs. length xs ∷ xs) length (λ xs. xs) byte-exact
    (λ n fits. said_so (front-exact n) (λ xs. (λ long. (rw long fits, long), λ is. is.1)))
    (λ xs fits. fits)
    (λ xs. refl)

pub name_fits : (name : List ℕ) → is_name name ≡ true → length name < 256
name_fits [] named = cc
name_fits (b ∷ bs) named =
    let front = both_true (nat_le (length (b ∷ bs)) 30 && is_letter b) (list_all is_name_byte (b ∷ bs)) named in
    let short = leb-true (length (b ∷ bs)) 30 (both_true (nat_le (length (b ∷ bs)) 30) (is_letter b) front.0).0 in
    omega (arith, short)

text_fits : (text : List ℕ) → is_text text ≡ true → length text < 256
text_fits text form =
    let short = leb-true (length text) 64 (both_true (nat_le (length text) 64) _ form).0 in
    omega (arith, short)

-- the name of a site
pub site-exact : IsExact IsSiteName name_bytes site
site-exact = made-exact IsSiteName name_bytes site_of (tested-exact sized-exact is_name (λ name. is_name name ≡ true) (λ name fits. (λ e. e, λ e. e)))
    (λ name is. (is.1, refl))
    (λ site named. (site.0, (name_fits site.0 named, named), refl))

passes : (b : Bool) → b ≡ true → T b
passes true e = tt
passes false e = cc

passed : (b : Bool) → T b → b ≡ true
passed true t = refl
passed false t = absurd t

-- the test of a range tells it
pub range_test : (n : ℤ) → (is_in_range n ≡ true) ↔ IsInRange n
range_test n = (
  λ e.
      let p = both_true (int_le (negsuc 999999999999999) n) (int_le n (pos 1000000000000000)) e in
      (record { le = passes _ p.0 }, record { le = passes _ p.1 }),
  λ h. rw (passed (int_le (negsuc 999999999999999) n) h.0.le, passed (int_le n (pos 1000000000000000)) h.1.le) refl,
)

range_fits : (n : ℤ) → IsInRange n → FitsSigned w64 n
range_fits (pos n) is = let small : n ≤ 1000000000000000 = leb-true n 1000000000000000 (passed (int_le (pos n) (pos 1000000000000000)) is.1.le) in omega (arith, small)
range_fits (negsuc n) is = let small : n ≤ 999999999999999 = leb-true n 999999999999999 (passed (int_le (negsuc 999999999999999) (negsuc n)) is.0.le) in omega (arith, small)

unsigned_fits : (n : ℤ) → FitsSigned w64 n → cast_unsigned w64 n < 2 ^ 64
unsigned_fits (pos n) fits = omega (arith, fits)
unsigned_fits (negsuc n) fits = omega (arith, fits)

signed_fits : (n : ℕ) → n < 2 ^ 64 → FitsSigned w64 (cast_signed w64 n)
signed_fits n fits = sfits_to_z {w = w64} (Fits-of_lt {w = w64} fits)

-- a number in two's complement
signed-exact : IsExact (FitsSigned w64) (λ n. to_be_bytes w64 (cast_unsigned w64 n)) (made (cast_signed w64) u64_number)
signed-exact = made-exact (FitsSigned w64) (λ n. to_be_bytes w64 (cast_unsigned w64 n)) (cast_signed w64) u64-exact
    (λ n fits. (signed_fits n fits, ap (to_be_bytes w64) (of_z-to_z w64 n fits)))
    (λ n fits. (cast_unsigned w64 n, unsigned_fits n fits, to_z-of_z w64 n fits))

-- which kind a value is
abbrev kind_of : Value → ℕ
kind_of (Num n) = 1
kind_of (Words text) = 2

-- the bytes of a value behind its kind
abbrev bytes_of : Value → List ℕ
bytes_of (Num n) = to_be_bytes w64 (cast_unsigned w64 n)
bytes_of (Words text) = length text ∷ text

number_value-exact : IsExact (λ v. IsPlainValue v × (kind_of v ≡ 1)) bytes_of number_value
number_value-exact = made-exact (λ v. IsPlainValue v × (kind_of v ≡ 1)) bytes_of Num (tested-exact signed-exact is_in_range IsInRange (λ n fits. range_test n))
    (λ n is. ((is.1, refl), refl))
    back
  where
    back : (v : Value) → IsPlainValue v × (kind_of v ≡ 1) → (n : ℤ) × (FitsSigned w64 n × IsInRange n) × (Num n ≡ v)
    back (Num n) is = (n, (range_fits n is.0, is.0), refl)
    back (Words text) is = cc

text_value-exact : IsExact (λ v. IsPlainValue v × (kind_of v ≡ 2)) bytes_of text_value
text_value-exact = made-exact (λ v. IsPlainValue v × (kind_of v ≡ 2)) bytes_of Words (tested-exact sized-exact is_text (λ text. is_text text ≡ true) (λ text fits. (λ e. e, λ e. e)))
    (λ text is. ((is.1, refl), refl))
    back
  where
    back : (v : Value) → IsPlainValue v × (kind_of v ≡ 2) → (text : List ℕ) × ((length text < 256) × (is_text text ≡ true)) × (Words text ≡ v)
    back (Num n) is = cc
    back (Words text) is = (text, (text_fits text is.0, is.0), refl)

-- no value is of another kind
no_value : (kind : ℕ) → (kind == 1) ≡ false → (kind == 2) ≡ false → (v : Value) → IsPlainValue v × (kind_of v ≡ kind) → ⊥
no_value kind one two (Num n) is = let e : (kind == 1) ≡ true = rw (← is.1) refl in cc
no_value kind one two (Words text) is = let e : (kind == 2) ≡ true = rw (← is.1) refl in cc

pub value-exact : IsExact IsPlainValue value_bytes value
unfolding value
value-exact = behind-exact IsPlainValue value_bytes kind_of bytes_of byte-exact
    (λ kind is. either-exact (kind == 1) _ _
    (λ one. subst (λ k. IsExact (λ v. IsPlainValue v × (kind_of v ≡ k)) bytes_of number_value) (sym (eqb-true kind 1 one)) number_value-exact)
    (λ one. either-exact (kind == 2) _ _
    (λ two. subst (λ k. IsExact (λ v. IsPlainValue v × (kind_of v ≡ k)) bytes_of text_value) (sym (eqb-true kind 2 two)) text_value-exact)
    (λ two. nothing-exact (no_value kind one two))))
    is_kind
    split
  where
    is_kind : (v : Value) → IsPlainValue v → kind_of v < 256
    is_kind (Num n) is = omega arith
    is_kind (Words text) is = omega arith

    split : (v : Value) → value_bytes v ≡ (kind_of v ∷ []) ++ bytes_of v
    split (Num n) = refl
    split (Words text) = refl

-- a row
pub row-exact : IsExact IsPlainRow values_bytes row
unfolding row
row-exact = said_so (counted-exact byte-exact 32 (λ n le. omega (arith, le)) value-exact)
    (λ row. (λ p. record { number = (p.0, p.1); values = p.2 }, λ r. (r.number.0, r.number.1, r.values)))

-- a key
pub key-exact : IsExact IsPlainKey values_bytes key
unfolding key
key-exact = said_so (counted-exact byte-exact 4 (λ n le. omega (arith, le)) value-exact)
    (λ key. (λ p. record { number = (p.0, p.1); values = p.2 }, λ r. (r.number.0, r.number.1, r.values)))
