-- The value at one place of a row with other values at some places.
use Rattle.std.proofs.Common.{◌≡◌, ◌≢◌, ℕ, zero, suc, ◌+◌, ◌<◌, ◌≤◌, List, [], ◌∷◌, length, get_or, set, drop, true, false, Some, None, refl, sym, ap, ◌∙◌, inl, inr, arith}
use Rattle.std.specs.Prelude.{Option, slice_get, ◌==◌, min}
use Rattle.std.proofs.lemmas.Bool.{eq-eqb, ne_eqb}
use Rattle.std.proofs.lemmas.Bool.Decides.{eqb_tells}
use Rattle.rep_values.specs.declared.value.Value.{Value}
use Rattle.rep_schema.specs.Tables.{Cells}
use Rattle.rep_schema.specs.Groups.{with_values}
use Rattle.resolve_methods.specs.Written.{written}

-- the value at a place after these values were written at these places
abbrev pub written_over : ℕ → List ℕ → Cells → Option Value → Option Value
written_over k [] values before = before
written_over k (p ∷ ps) [] before = before
written_over k (p ∷ ps) (v ∷ vs) before = written_over k ps vs (written (p == k) before v)

-- a write elsewhere changes nothing
pub written-apart : (before : Option Value) (v : Value) → written false before v ≡ before
written-apart None v = refl
written-apart (Some x) v = refl

pub slice_get-set_same : (row : Cells) (k : ℕ) (v : Value) → slice_get (set row k v) k ≡ written true (slice_get row k) v
slice_get-set_same [] k v = refl
slice_get-set_same (x ∷ xs) zero v = refl
slice_get-set_same (x ∷ xs) (suc k) v = slice_get-set_same xs k v

slice_get-set_other : (row : Cells) (p k : ℕ) (v : Value) → p ≢ k → slice_get (set row p v) k ≡ slice_get row k
slice_get-set_other [] p k v apart = refl
slice_get-set_other (x ∷ xs) zero zero v apart = absurd (apart refl)
slice_get-set_other (x ∷ xs) zero (suc k) v apart = refl
slice_get-set_other (x ∷ xs) (suc p) zero v apart = refl
slice_get-set_other (x ∷ xs) (suc p) (suc k) v apart = slice_get-set_other xs p k v (λ same. apart (ap suc same))

-- after a write at one place
slice_get-set : (row : Cells) (p : ℕ) (v : Value) (k : ℕ) → slice_get (set row p v) k ≡ written (p == k) (slice_get row k) v
slice_get-set row p v k = elim (eqb_tells p k) [
  | inl same ↦ rw (same.1, eq-eqb k k refl) (slice_get-set_same row k v)
  | inr apart ↦ rw (ne_eqb p k apart.1) (slice_get-set_other row p k v apart.1 ∙ sym (written-apart (slice_get row k) v))
]

-- after writes at several
pub slice_get-with_values : (places : List ℕ) (values row : Cells) (k : ℕ) → slice_get (with_values places values row) k ≡ written_over k places values (slice_get row k)
slice_get-with_values [] values row k = refl
slice_get-with_values (p ∷ ps) [] row k = refl
slice_get-with_values (p ∷ ps) (v ∷ vs) row k = slice_get-with_values ps vs (set row p v) k ∙ ap (written_over k ps vs) (slice_get-set row p v k)

-- the writes from a place on begin with the one there
pub written_over-drop : (k : ℕ) (places : List ℕ) (values : Cells) (n : ℕ) (before : Option Value) (d : Value) → n < length places → n < length values
    → written_over k (drop n places) (drop n values) before ≡ written_over k (drop (n + 1) places) (drop (n + 1) values) (written (get_or places n 0 == k) before (get_or values n d))
written_over-drop k [] values n before d in_places in_values = absurd (omega (arith, in_places))
written_over-drop k (p ∷ ps) [] n before d in_places in_values = absurd (omega (arith, in_values))
written_over-drop k (p ∷ ps) (v ∷ vs) zero before d in_places in_values = refl
written_over-drop k (p ∷ ps) (v ∷ vs) (suc n) before d in_places in_values =
    let next : suc n + 1 ≡ suc (n + 1) = omega arith in
    rw next (written_over-drop k ps vs n before d (omega (arith, in_places)) (omega (arith, in_values)))

-- no writes are left where one of the lists is at its end
pub written_over-past : (k : ℕ) (places : List ℕ) (values : Cells) (n : ℕ) (before : Option Value) → min (length places) (length values) ≤ n
    → written_over k (drop n places) (drop n values) before ≡ before
written_over-past k [] values zero before past = refl
written_over-past k [] values (suc n) before past = refl
written_over-past k (p ∷ ps) [] zero before past = refl
written_over-past k (p ∷ ps) [] (suc n) before past = none (drop n ps)
  where
    none : (qs : List ℕ) → written_over k qs [] before ≡ before
    none [] = refl
    none (q ∷ qs) = refl
written_over-past k (p ∷ ps) (v ∷ vs) zero before past = absurd (omega (arith, past))
written_over-past k (p ∷ ps) (v ∷ vs) (suc n) before past = written_over-past k ps vs n before (omega (arith, past))
