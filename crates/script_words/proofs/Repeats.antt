-- Steps of a loop over parts, with the parts that were found so far.
use Rattle.std.proofs.Common.{◌≡◌, ℕ, zero, suc, ◌+◌, ◌≤◌, Bool, true, false, List, [], ◌∷◌, ◌++◌, length, Result, Ok, Err, IfOk, OnOk, is_err, ◌||◌, refl, sym, ◌∙◌, ap, arith, append_assoc, append-nil}
use Rattle.script_lex.specs.declared.stop.LineStop.{LineStop}
use Rattle.script_lex.specs.declared.token.Token.{Token}
use Rattle.script_words.specs.Reading.{Reading, ◌>>=◌, begins, mark, after, many, several, with_found}
use Rattle.script_words.specs.Readers.{Reads}

-- a part is kept behind those that were found, or finds no memory
pub more_kept : {A E : Type 0} (kept more found : List A) (x : A) (lacks failed : Bool) (pushed : Result Unit E) → (lacks ≡ false → kept ≡ found)
    → failed ≡ is_err pushed → OnOk pushed (more ≡ kept ++ x ∷ []) → (lacks || failed) ≡ false → more ≡ found ++ x ∷ []
more_kept kept more found x false failed (Ok u) kept_so fails more_so none = more_so ∙ ap (λ xs. xs ++ x ∷ []) (kept_so refl)
more_kept kept more found x false failed (Err e) kept_so fails more_so none = cc
more_kept kept more found x true failed pushed kept_so fails more_so none = cc

-- what is read behind a mark that was passed
pub passed_reads : {A : Type 0} (word : List ℕ) (reading : Reading A) (ts passed : List Token) (read : Result (A × List Token) ℕ) → mark word ts ≡ Ok passed
    → reading passed ≡ read → after word reading ts ≡ read
passed_reads word reading ts passed read is behind = rw is behind

module _ {A : Type 0} (starts : Token → Bool) (reading : Reading A) where
  many_stops : (n : ℕ) (ts : List Token) → begins starts ts ≡ false → many starts reading n ts ≡ Ok ([], ts)
  unfolding many
  many_stops zero ts none = refl
  many_stops (suc n) ts none = rw none refl

  -- no part begins here
  pub found_stops : (found : List A) (n : ℕ) (ts : List Token) (all : Result (List A × List Token) ℕ) → with_found found (many starts reading n ts) ≡ all
      → false ≡ begins starts ts → all ≡ Ok (found, ts)
  found_stops found n ts all kept none = sym kept ∙ rw (many_stops n ts (sym none), append-nil) refl

  -- no token is left
  pub found_ends : (found : List A) (n : ℕ) (ts : List Token) (all : Result (List A × List Token) ℕ) → with_found found (many starts reading n ts) ≡ all
      → n ≡ 0 → all ≡ Ok (found, ts)
  unfolding many
  found_ends found n ts all kept none = sym kept ∙ rw (none, append-nil) refl

  with_more : (found : List A) (x : A) (read : Result (List A × List Token) ℕ) → with_found found (read >>= λ xs. Ok (x ∷ xs.0, xs.1)) ≡ with_found (found ++ x ∷ []) read
  with_more found x (Ok xs) = ap (λ ys. Ok (ys, xs.1)) (sym (append_assoc found (x ∷ []) xs.0))
  with_more found x (Err e) = refl

  -- one more part is read
  pub found_more : (found more : List A) (m n : ℕ) (ts rest : List Token) (x : A) (all : Result (List A × List Token) ℕ)
      → with_found found (many starts reading n ts) ≡ all → n ≡ m + 1 → true ≡ begins starts ts → reading ts ≡ Ok (x, rest)
      → more ≡ found ++ x ∷ [] → with_found more (many starts reading m rest) ≡ all
  unfolding many
  found_more found more m n ts rest x all kept count there read pushed =
      let e : n ≡ suc m = omega arith in
      let step : many starts reading n ts ≡ (many starts reading m rest >>= λ xs. Ok (x ∷ xs.0, xs.1)) = rw (e, sym there, read) refl in
      rw pushed (sym (with_more found x (many starts reading m rest)) ∙ ap (with_found found) (sym step) ∙ kept)

  -- a part breaks a rule
  pub found_fails : (found : List A) (m n : ℕ) (ts : List Token) (rule : ℕ) (all : Result (List A × List Token) ℕ)
      → with_found found (many starts reading n ts) ≡ all → n ≡ m + 1 → true ≡ begins starts ts → reading ts ≡ Err rule → all ≡ Err rule
  unfolding many
  found_fails found m n ts rule all kept count there read =
      let e : n ≡ suc m = omega arith in
      let step : many starts reading n ts ≡ Err rule = rw (e, sym there, read) refl in
      sym kept ∙ ap (with_found found) step

  -- the first part is read, and others follow
  pub found_first : (part : Reading A) (found empty : List A) (x : A) (n : ℕ) (ts rest : List Token) → part ts ≡ Ok (x, rest) → empty ≡ [] → found ≡ empty ++ x ∷ []
      → n ≡ length rest
      → with_found found (many starts reading n rest) ≡ (part ts >>= λ y. many starts reading (length y.1) y.1 >>= λ xs. Ok (y.0 ∷ xs.0, xs.1))
  found_first part found empty x n ts rest read none pushed count = rw (read, pushed, none, count) (same (many starts reading (length rest) rest))
    where
      same : (r : Result (List A × List Token) ℕ) → with_found (x ∷ []) r ≡ (r >>= λ xs. Ok (x ∷ xs.0, xs.1))
      same (Ok xs) = refl
      same (Err e) = refl

  -- where a part begins, one at least is read
  found_some : (ts rest : List Token) (found : List A) → true ≡ begins starts ts → several starts reading ts ≡ Ok (found, rest) → 1 ≤ length found
  unfolding many
  found_some [] rest found there read = cc
  found_some (t ∷ ts) rest found there read = go (reading (t ∷ ts)) (rw (sym there) at read)
    where
      one_more : (y : A) (ys : List A) → 1 ≤ length (y ∷ ys)
      one_more y ys = omega arith

      first_of : List A × List Token → List A
      first_of p = p.0

      kept : (x : A) (more : Result (List A × List Token) ℕ) → ◌>>=◌ {B = List A × List Token} more (λ xs. Ok (x ∷ xs.0, xs.1)) ≡ Ok (found, rest) → 1 ≤ length found
      kept x (Ok xs) read =
          let same : (x ∷ xs.0, xs.1) ≡ (found, rest) = cc in
          let e : x ∷ xs.0 ≡ found = ap first_of same in
          rw (sym e) (one_more x xs.0)
      kept x (Err e) read = cc

      go : (first : Result (A × List Token) ℕ)
          → ◌>>=◌ {B = List A × List Token} first (λ x. ◌>>=◌ {B = List A × List Token} (many starts reading (length ts) x.1) (λ xs. Ok (x.0 ∷ xs.0, xs.1))) ≡ Ok (found, rest)
          → 1 ≤ length found
      go (Ok x) read = kept x.0 (many starts reading (length ts) x.1) read
      go (Err e) read = cc

  -- the same of a call that reads them
  pub some_found : (r : Result (List A) LineStop) (old new : List Token) → true ≡ begins starts old → Reads (several starts reading) r old new
      → IfOk r (λ found. 1 ≤ length found)
  some_found (Ok found) old new there read = found_some old new found there read
  some_found (Err e) old new there read = tt
