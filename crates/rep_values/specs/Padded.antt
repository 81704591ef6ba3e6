-- Lists kept at the front of an array whose other cells hold a blank.
use Rattle.std.specs.Prelude.{◌≡◌, ℕ, ◌+◌, ◌-◌, ◌<◌, ◌≤◌, List, ◌++◌, length, take, drop, replicate}
use Rattle.std.proofs.Common.{arith, set, sym, ap, ◌∙◌, take-append-drop, length-take-le}
use Rattle.std.proofs.lemmas.List.{length-set, drop-set-lt, drop-drop, drop-replicate}

-- there are so many cells, and those from place len on hold the blank
pub record IsPadded {X : Type 0} (size : ℕ) (blank : X) (len : ℕ) (cells : List X) : Type 0 where
  pub within : len ≤ size
  pub whole : length cells ≡ size
  pub blanks : drop len cells ≡ replicate (size - len) blank

-- the front gives its length back
pub len-of_front : {X : Type 0} (size : ℕ) (blank : X) (len : ℕ) (cells : List X) → IsPadded size blank len cells
    → length (take len cells) ≡ len
len-of_front size blank len cells padded = length-take-le len cells (omega (arith, padded.within, padded.whole))

-- the front gives all cells back
pub cells-of_front : {X : Type 0} (size : ℕ) (blank : X) (len : ℕ) (cells : List X) → IsPadded size blank len cells
    → take len cells ++ replicate (size - length (take len cells)) blank ≡ cells
cells-of_front size blank len cells padded =
    rw (len-of_front size blank len cells padded, ← padded.blanks) (take-append-drop len cells)

-- of two such arrays with the same front the fronts are as long
pub len-same : {X : Type 0} (size : ℕ) (blank : X) (len : ℕ) (cells : List X) (other_len : ℕ) (other : List X) → IsPadded size blank len cells → IsPadded size blank other_len other
    → take len cells ≡ take other_len other → len ≡ other_len
len-same size blank len cells other_len other padded other_padded same =
    sym (len-of_front size blank len cells padded) ∙ ap length same ∙ len-of_front size blank other_len other other_padded

-- and so they have the same cells
pub cells-same : {X : Type 0} (size : ℕ) (blank : X) (len : ℕ) (cells : List X) (other_len : ℕ) (other : List X) → IsPadded size blank len cells → IsPadded size blank other_len other
    → take len cells ≡ take other_len other → cells ≡ other
cells-same size blank len cells other_len other padded other_padded same =
    sym (cells-of_front size blank len cells padded) ∙ ap (λ front. front ++ replicate (size - length front) blank) same ∙ cells-of_front size blank other_len other other_padded

-- one more cell in front, and the others hold the blank as before
pub one_more : {X : Type 0} (size : ℕ) (blank : X) (len : ℕ) (cells : List X) (x : X) → IsPadded size blank len cells → len < size
    → IsPadded size blank (len + 1) (set cells len x)
one_more size blank len cells x padded room = record {
  within = omega (arith, room);
  whole = length-set cells len x ∙ padded.whole;
  blanks = drop-set-lt (len + 1) cells len x (omega arith) ∙ sym (drop-drop 1 len cells) ∙ ap (drop 1) padded.blanks ∙ drop-replicate 1 (size - len) blank
      ∙ ap (λ n. replicate n blank) less;
}
  where
    less : (size - len) - 1 ≡ size - (len + 1)
    less = omega (arith, room)
