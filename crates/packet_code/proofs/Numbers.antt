-- Numbers in bytes, the highest byte first, are read exactly.
use Rattle.std.proofs.Common.{◌≡◌, ℕ, zero, suc, ◌<◌, ◌^◌, List, [], ◌∷◌, ◌++◌, length, refl, sym, ◌∙◌, ap, subst, arith}
use Rattle.std.specs.Prelude.{get_or}
use Rattle.std.specs.Int.{w16, w32, w64, from_be_bytes, to_be_bytes}
use Rattle.std.proofs.lemmas.Nat.{be_bytes_2, be_bytes_4, be_bytes_8, from_be_bytes-to_be_bytes_2, from_be_bytes-to_be_bytes_4, from_be_bytes-to_be_bytes_8}
use Rattle.packet_code.specs.Reading.{front, made, u64_number, u32_number, u16_number}
use Rattle.packet_code.proofs.Exact.{IsExact, AreBytes, front-exact, bound, as_read}

-- the first of bytes are bytes
front_bytes : (front rest : List ℕ) → AreBytes (front ++ rest) → (i : ℕ) → get_or front i 0 < 256
front_bytes [] rest all i = omega arith
front_bytes (b ∷ bs) rest all zero = all.0
front_bytes (b ∷ bs) rest all (suc i) = front_bytes bs rest all.1 i

-- a number of so many bytes, where reading and writing are each other's inverse
number-exact : (count limit : ℕ) (of : List ℕ → ℕ) (to : ℕ → List ℕ)
    → ((bs : List ℕ) (n : ℕ) → length bs ≡ count → ((i : ℕ) → get_or bs i 0 < 256) → n ≡ of bs → to n ≡ bs)
    → ((n : ℕ) → n < limit → of (to n) ≡ n)
    → ((n : ℕ) → length (to n) ≡ count)
    → ((bs : List ℕ) → length bs ≡ count → ((i : ℕ) → get_or bs i 0 < 256) → of bs < limit)
    → IsExact (λ n. n < limit) to (made of (front count))
number-exact count limit of to written read long fits = record {
  sound = λ bytes rest n all e.
      let b = bound (front count bytes) _ (n, rest) e in
      let s = (front-exact count).sound bytes b.0.1 b.0.0 all b.1 in
      let small = front_bytes b.0.0 b.0.1 (subst AreBytes (sym s.1) all) in
      as_read (λ n. n < limit) to bytes (of b.0.0, b.0.1) (n, rest) b.2 (fits b.0.0 s.0 small, ap (λ xs. xs ++ b.0.1) (written b.0.0 (of b.0.0) s.0 small refl) ∙ s.1);
  complete = λ n rest is. rw ((front-exact count).complete (to n) rest (long n), read n is) refl;
}

fits_2 : (bs : List ℕ) → length bs ≡ 2 → ((i : ℕ) → get_or bs i 0 < 256) → from_be_bytes w16 bs < 2 ^ 16
fits_2 bs long small = omega (arith, small 0, small 1)

fits_4 : (bs : List ℕ) → length bs ≡ 4 → ((i : ℕ) → get_or bs i 0 < 256) → from_be_bytes w32 bs < 2 ^ 32
fits_4 bs long small = omega (arith, small 0, small 1, small 2, small 3)

fits_8 : (bs : List ℕ) → length bs ≡ 8 → ((i : ℕ) → get_or bs i 0 < 256) → from_be_bytes w64 bs < 2 ^ 64
fits_8 bs long small = omega (arith, small 0, small 1, small 2, small 3, small 4, small 5, small 6, small 7)

pub u64-exact : IsExact (λ n. n < 2 ^ 64) (to_be_bytes w64) u64_number
u64-exact = number-exact 8 (2 ^ 64) (from_be_bytes w64) (to_be_bytes w64) be_bytes_8 from_be_bytes-to_be_bytes_8 (λ n. refl) fits_8

pub u32-exact : IsExact (λ n. n < 2 ^ 32) (to_be_bytes w32) u32_number
u32-exact = number-exact 4 (2 ^ 32) (from_be_bytes w32) (to_be_bytes w32) be_bytes_4 from_be_bytes-to_be_bytes_4 (λ n. refl) fits_4

pub u16-exact : IsExact (λ n. n < 2 ^ 16) (to_be_bytes w16) u16_number
u16-exact = number-exact 2 (2 ^ 16) (from_be_bytes w16) (to_be_bytes w16) be_bytes_2 from_be_bytes-to_be_bytes_2 (λ n. refl) fits_2
