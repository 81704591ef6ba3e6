-- Walking the keys of two rows beside one another.
use Rattle.std.proofs.Common.{◌≡◌, ℕ, zero, suc, ◌+◌, ◌<◌, ◌≤◌, true, false, List, [], ◌∷◌, length, get_or, drop, refl, ap, subst, add-one, ◌∙◌}
use Rattle.std.specs.Prelude.{slice_get}
use Rattle.std.proofs.lemmas.List.{drop_more, drop_all}
use Rattle.std.specs.Ordering.{ordering_then}
use Rattle.std.specs.declared.cmp.Ordering.{Ordering}
use Rattle.std.specs.declared.cmp.Ordering.TheVariants.{Equal}
use Rattle.rep_schema.specs.declared.schema.Column.{Column}
use Rattle.rep_schema.specs.Tables.{Cells, row_cmp, cell_cmp}
use Rattle.rep_schema.proofs.KeyWalk.{key_of-nil}
use Rattle.rep_schema.proofs.ValuesAt.{slice_get-drop}

drop_suc : {X : Type 0} (xs : List X) (i : ℕ) → drop 1 (drop i xs) ≡ drop (suc i) xs
drop_suc xs zero = refl
drop_suc [] (suc i) = refl
drop_suc (x ∷ xs) (suc i) = drop_suc xs i

-- one more is left out
drop_one-drop : {X : Type 0} (xs : List X) (i : ℕ) → drop 1 (drop i xs) ≡ drop (i + 1) xs
drop_one-drop xs i = rw (add-one i) (drop_suc xs i)

-- in a key column the two values decide, and where they are equal what follows does
row_cmp-key : (c : Column) (cs : List Column) (a b : Cells) → c.key ≡ true → row_cmp (c ∷ cs) a b ≡ ordering_then (cell_cmp (slice_get a 0) (slice_get b 0)) (row_cmp cs (drop 1 a) (drop 1 b))
row_cmp-key c cs [] [] key = rw (key_of-nil cs) refl
row_cmp-key c cs [] (v ∷ vs) key = rw key refl
row_cmp-key c cs (u ∷ us) [] key = rw key refl
row_cmp-key c cs (u ∷ us) (v ∷ vs) key = rw key refl

-- another column decides nothing
row_cmp-other : (c : Column) (cs : List Column) (a b : Cells) → c.key ≡ false → row_cmp (c ∷ cs) a b ≡ row_cmp cs (drop 1 a) (drop 1 b)
row_cmp-other c cs [] [] other = rw (key_of-nil cs) refl
row_cmp-other c cs [] (v ∷ vs) other = rw (other, key_of-nil cs) refl
row_cmp-other c cs (u ∷ us) [] other = rw (other, key_of-nil cs) refl
row_cmp-other c cs (u ∷ us) (v ∷ vs) other = rw other refl

-- two rows compared by the columns from the one at place i on
abbrev pub row_cmp_from : List Column → Cells → Cells → ℕ → Ordering
row_cmp_from columns a b i = row_cmp (drop i columns) (drop i a) (drop i b)

module _ (columns : List Column) (a b : Cells) (i : ℕ) where
  -- behind the last column nothing differs
  pub row_cmp_from-end : length columns ≤ i → row_cmp_from columns a b i ≡ Equal
  row_cmp_from-end past = rw (drop_all i columns past) refl

  module _ (c : Column) (within : i < length columns) where
    pub row_cmp_from-key : (get_or columns i c).key ≡ true
        → row_cmp_from columns a b i ≡ ordering_then (cell_cmp (slice_get a i) (slice_get b i)) (row_cmp_from columns a b (i + 1))
    row_cmp_from-key key =
        let cs = drop (i + 1) columns in
        let whole = row_cmp (get_or columns i c ∷ cs) (drop i a) (drop i b) in
        let step = row_cmp-key (get_or columns i c) cs (drop i a) (drop i b) key in
        let of_a = subst (λ o. whole ≡ ordering_then (cell_cmp o (slice_get (drop i b) 0)) (row_cmp cs (drop 1 (drop i a)) (drop 1 (drop i b)))) (slice_get-drop a i) step in
        let of_b = subst (λ o. whole ≡ ordering_then (cell_cmp (slice_get a i) o) (row_cmp cs (drop 1 (drop i a)) (drop 1 (drop i b)))) (slice_get-drop b i) of_a in
        let rest_a = subst (λ r. whole ≡ ordering_then (cell_cmp (slice_get a i) (slice_get b i)) (row_cmp cs r (drop 1 (drop i b)))) (drop_one-drop a i) of_b in
        let rest_b = subst (λ r. whole ≡ ordering_then (cell_cmp (slice_get a i) (slice_get b i)) (row_cmp cs (drop (i + 1) a) r)) (drop_one-drop b i) rest_a in
        ap (λ ds. row_cmp ds (drop i a) (drop i b)) (drop_more columns i c within) ∙ rest_b

    pub row_cmp_from-other : (get_or columns i c).key ≡ false → row_cmp_from columns a b i ≡ row_cmp_from columns a b (i + 1)
    row_cmp_from-other other =
        let cs = drop (i + 1) columns in
        ap (λ ds. row_cmp ds (drop i a) (drop i b)) (drop_more columns i c within)
        ∙ row_cmp-other (get_or columns i c) cs (drop i a) (drop i b) other
        ∙ ap (λ r. row_cmp cs r (drop 1 (drop i b))) (drop_one-drop a i)
        ∙ ap (λ r. row_cmp cs (drop (i + 1) a) r) (drop_one-drop b i)
