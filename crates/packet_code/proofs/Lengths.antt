-- How many values are read.
use Rattle.std.proofs.Common.{◌≡◌, ℕ, zero, suc, ◌≤◌, ◌&&◌, Bool, true, false, List, [], ◌∷◌, length, Some, nat_le, refl, sym, ◌∙◌, ap}
use Rattle.std.proofs.lemmas.Bool.{leb-true}
use Rattle.rep_schema.specs.Tables.{Cells}
use Rattle.packet_code.specs.Reading.{Reading, nothing, byte, either, times, limited}
use Rattle.packet_code.specs.Forms.{value, values, row}
use Rattle.packet_code.proofs.Exact.{bound, same_read, both_true}

-- as many as are counted
times_length : {A : Type 0} (reading : Reading A) (n : ℕ) (bytes rest : List ℕ) (xs : List A) → times n reading bytes ≡ Some (xs, rest) → length xs ≡ n
unfolding times
times_length reading zero bytes rest xs e = ap length (sym (same_read ([], bytes) (xs, rest) e).0)
times_length reading (suc n) bytes rest xs e =
    let b = bound (reading bytes) _ (xs, rest) e in
    let d = bound (times n reading b.0.1) _ (xs, rest) b.2 in
    ap length (sym (same_read (b.0.0 ∷ d.0.0, d.0.1) (xs, rest) d.2).0) ∙ ap suc (times_length reading n b.0.1 d.0.1 d.0.0 d.1)

limited_length : {A : Type 0} (reading : Reading A) (most n : ℕ) (bytes rest : List ℕ) (xs : List A) → limited most reading n bytes ≡ Some (xs, rest)
    → (1 ≤ length xs) × (length xs ≤ most)
limited_length {A = A} reading most n bytes rest xs e = go (nat_le 1 n && nat_le n most) refl e
  where
    go : (t : Bool) → (nat_le 1 n && nat_le n most) ≡ t → either t (times n reading) nothing bytes ≡ Some (xs, rest) → (1 ≤ length xs) × (length xs ≤ most)
    go true within e =
        let w = both_true (nat_le 1 n) (nat_le n most) within in
        rw (times_length reading n bytes rest xs e) (leb-true 1 n w.0, leb-true n most w.1)
    go false outside e = cc

values_length : (most : ℕ) (bytes rest : List ℕ) (xs : Cells) → values most bytes ≡ Some (xs, rest) → (1 ≤ length xs) × (length xs ≤ most)
values_length most bytes rest xs e =
    let b = bound (byte bytes) _ (xs, rest) e in
    limited_length value most b.0.0 b.0.1 rest xs b.2

-- a row has 1 to 32 values
pub row_length : (bytes rest : List ℕ) (xs : Cells) → row bytes ≡ Some (xs, rest) → (1 ≤ length xs) × (length xs ≤ 32)
unfolding row
row_length bytes rest xs e = values_length 32 bytes rest xs e
