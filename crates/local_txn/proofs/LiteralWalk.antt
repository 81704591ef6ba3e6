-- Literals beside columns, one after another.
use Rattle.std.proofs.Common.{◌≡◌, ℕ, ◌+◌, ◌<◌, ◌≤◌, ◌==◌, Bool, true, false, List, [], ◌∷◌, length, drop, get_or, length-drop, refl, sym, ap, ◌∙◌, arith}
use Rattle.std.specs.Prelude.{Option, Some, None, ◌&&◌, cond, not, filter, slice_get}
use Rattle.std.proofs.lemmas.Option.{slice_get_within}
use Rattle.std.proofs.lemmas.Bool.{eq-eqb, eqb-true}
use Rattle.rep_lists.proofs.Places.{drop_from_found, drop_from_place}
use Rattle.rep_values.specs.declared.literal.Literal.{Literal}
use Rattle.rep_schema.specs.declared.schema.Schema.{Schema}
use Rattle.rep_schema.specs.declared.schema.Column.{Column}
use Rattle.rep_schema.specs.Kinds.{is_filled}
use Rattle.rep_schema.proofs.ValuesAt.{slice_get-drop}
use Rattle.txn_effects.specs.Filled.{written_columns, with_written, row_written}
use Rattle.txn_effects.specs.Literals.{literal_there, literals_fit, values_of}

-- behind its end a list has nothing
nothing_left : (literals : List Literal) (read : ℕ) → slice_get literals read ≡ None → drop read literals ≡ []
nothing_left literals read gone = go (drop read literals) (slice_get-drop literals read ∙ gone)
  where
    go : (rest : List Literal) → slice_get rest 0 ≡ None → rest ≡ []
    go [] none = refl
    go (l ∷ rest) none = cc

-- at a length, none is left there
none_is_left : {X : Type 0} (xs : List X) (n : ℕ) → length (drop n xs) ≡ 0 → n ≤ length xs → n ≡ length xs
none_is_left xs n none within = let long = length-drop n xs in omega (arith, none, within, long)

module _ (schema : Schema) (literals : List Literal) (read : ℕ) where
  -- a column more: its literal, and what is left
  pub literals_fit-more : (c : Column) (cs : List Column)
      → literals_fit schema (c ∷ cs) (drop read literals) ≡ (literal_there schema c (slice_get literals read) && literals_fit schema cs (drop (read + 1) literals))
  literals_fit-more c cs = go (slice_get literals read) refl
    where
      go : (l : Option Literal) → slice_get literals read ≡ l → literals_fit schema (c ∷ cs) (drop read literals) ≡ (literal_there schema c l && literals_fit schema cs (drop (read + 1) literals))
      go None gone = rw (nothing_left literals read gone) refl
      go (Some l) there = rw (drop_from_found literals read l there) refl

  -- the literal for a column doesn't fit
  pub fails-here : (c : Column) (cs : List Column) → literal_there schema c (slice_get literals read) ≡ false → literals_fit schema (c ∷ cs) (drop read literals) ≡ false
  fails-here c cs fails = literals_fit-more c cs ∙ rw fails refl

  -- it fits
  pub fits-here : (c : Column) (cs : List Column) → literal_there schema c (slice_get literals read) ≡ true → literals_fit schema (c ∷ cs) (drop read literals) ≡ literals_fit schema cs (drop (read + 1) literals)
  fits-here c cs fits = literals_fit-more c cs ∙ rw fits refl

  -- where a literal is there, it counts
  pub counted : (c : Column) → literal_there schema c (slice_get literals read) ≡ true → read < length literals
  counted c fits = go (slice_get literals read) refl fits
    where
      go : (l : Option Literal) → slice_get literals read ≡ l → literal_there schema c l ≡ true → read < length literals
      go None gone fits = cc
      go (Some l) there fits = slice_get_within literals read l there

  -- no column more: no literal is left
  pub literals_fit-end : read ≤ length literals → literals_fit schema [] (drop read literals) ≡ (read == length literals)
  literals_fit-end within = go (drop read literals) refl
    where
      other : (b : Bool) → (read == length literals) ≡ b → ¬ (read ≡ length literals) → false ≡ (read == length literals)
      other true same ne = absurd (ne (eqb-true read (length literals) same))
      other false is ne = sym is

      go : (rest : List Literal) → drop read literals ≡ rest → literals_fit schema [] rest ≡ (read == length literals)
      go [] none = sym (eq-eqb read (length literals) (none_is_left literals read (ap length none) within))
      go (l ∷ rest) some = other (read == length literals) refl
          (λ same. let long = length-drop read literals in let more : length (drop read literals) ≡ length (l ∷ rest) = ap length some in omega (arith, same, long, more))

-- the given columns from a column on
module _ (given : Column → Bool) (columns : List Column) (i : ℕ) (c : Column) (within : i < length columns) (is : c ≡ get_or columns i c) where
  pub given-more : given c ≡ true → filter given (drop i columns) ≡ c ∷ filter given (drop (i + 1) columns)
  given-more is_given = rw (drop_from_place columns i c within is, is_given) refl

  pub given-other : given c ≡ false → filter given (drop i columns) ≡ filter given (drop (i + 1) columns)
  given-other other = rw (drop_from_place columns i c within is, other) refl

-- a row has a value for each column where there is a literal for each one that is written
pub length-row_written : (columns : List Column) (literals : List Literal) → length (written_columns columns) ≡ length literals → length (row_written columns (values_of literals)) ≡ length columns
length-row_written [] [] long = refl
length-row_written [] (l ∷ ls) long = absurd (omega (arith, long))
length-row_written (c ∷ cs) literals long = go (is_filled c) literals long (λ ls few. length-row_written cs ls few)
  where
    go : (b : Bool) (ls : List Literal) → length (cond (not b) (c ∷ written_columns cs) (written_columns cs)) ≡ length ls
        → ((rest : List Literal) → length (written_columns cs) ≡ length rest → length (row_written cs (values_of rest)) ≡ length cs) → length (with_written b c (row_written cs) (values_of ls)) ≡ length (c ∷ cs)
    go true ls long rest = let all = rest ls long in omega (arith, all)
    go false [] long rest = absurd (omega (arith, long))
    go false (l ∷ ls) long rest = let all = rest ls (omega (arith, long)) in omega (arith, all)
