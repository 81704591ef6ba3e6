-- Steps of a loop over parts, with the parts that were found so far.
use Rattle.std.proofs.Common.{◌≡◌, ℕ, suc, ◌+◌, List, [], ◌∷◌, ◌++◌, Option, Some, None, refl, sym, ◌∙◌, ap, subst, arith, append_assoc, append-nil}
use Rattle.packet_code.specs.declared.stop.Stop.{Stop}
use Rattle.packet_code.specs.declared.stop.Stop.TheVariants as stop
use Rattle.packet_code.specs.Reading.{Reading, ◌>>=◌, made, times, with_found}
use Rattle.packet_code.specs.Readers.{Fails}
use Rattle.packet_code.proofs.Exact.{bound, same_read}

module _ {A : Type 0} (reading : Reading A) where
  with_more : (found : List A) (x : A) (read : Option (List A × List ℕ)) → with_found found (read >>= λ xs. Some (x ∷ xs.0, xs.1)) ≡ with_found (found ++ x ∷ []) read
  with_more found x (Some xs) = ap (λ ys. Some (ys, xs.1)) (sym (append_assoc found (x ∷ []) xs.0))
  with_more found x None = refl

  -- where none was found yet
  pub with_found-none : (read : Option (List A × List ℕ)) → with_found [] read ≡ read
  with_found-none (Some xs) = refl
  with_found-none None = refl

  -- all are read
  pub found_ends : (found : List A) (n : ℕ) (bytes : List ℕ) (all : Option (List A × List ℕ)) → with_found found (times n reading bytes) ≡ all
      → n ≡ 0 → all ≡ Some (found, bytes)
  unfolding times
  found_ends found n bytes all kept none = sym kept ∙ rw (none, append-nil) refl

  -- one more is read
  pub found_more : (found more : List A) (m n : ℕ) (bytes rest : List ℕ) (x : A) (all : Option (List A × List ℕ))
      → with_found found (times n reading bytes) ≡ all → n ≡ m + 1 → reading bytes ≡ Some (x, rest)
      → more ≡ found ++ x ∷ [] → with_found more (times m reading rest) ≡ all
  unfolding times
  found_more found more m n bytes rest x all kept count read pushed =
      let e : n ≡ suc m = omega arith in
      let step : times n reading bytes ≡ (times m reading rest >>= λ xs. Some (x ∷ xs.0, xs.1)) = rw (e, read) refl in
      rw pushed (sym (with_more found x (times m reading rest)) ∙ ap (with_found found) (sym step) ∙ kept)

  -- one more is put behind the others
  pub found_added : (found more : List A) (m n : ℕ) (bytes rest : List ℕ) (all : Option (List A × List ℕ))
      → with_found found (times n reading bytes) ≡ all → n ≡ m + 1 → made (λ one. found ++ one ∷ []) reading bytes ≡ Some (more, rest)
      → with_found more (times m reading rest) ≡ all
  found_added found more m n bytes rest all kept count added =
      let b = bound (reading bytes) _ (more, rest) added in
      let same = same_read (found ++ b.0.0 ∷ [], b.0.1) (more, rest) b.2 in
      subst (λ (left : List ℕ). with_found more (times m reading left) ≡ all) same.1 (found_more found more m n bytes b.0.1 b.0.0 all kept count b.1 (sym same.0))

  -- one isn't there
  pub found_fails : (found : List A) (m n : ℕ) (bytes : List ℕ) (e : Stop) (all : Option (List A × List ℕ))
      → with_found found (times n reading bytes) ≡ all → n ≡ m + 1 → Fails e (reading bytes) → Fails e all
  unfolding times
  found_fails found m n bytes stop.Memory all kept count read = tt
  found_fails found m n bytes stop.Form all kept count read =
      let e : n ≡ suc m = omega arith in
      let step : times n reading bytes ≡ None = rw (e, read) refl in
      sym kept ∙ ap (with_found found) step
