-- What words ask for.
use Rattle.std.specs.Prelude.{ℕ, cond, nat_eq, List, [], ◌∷◌, Option, Some, None, codes}
use Rattle.std.specs.Cmp.Lexicographic.{pointwise}
use Rattle.script_desk.specs.declared.words.Asked.{Asked}
use Rattle.script_desk.specs.declared.words.Asked.TheVariants as asked

-- what one word asks for
abbrev pub asked_of : List ℕ → Option Asked
asked_of word = cond (pointwise nat_eq word (codes "lint")) (Some asked.Lint) (cond (pointwise nat_eq word (codes "picture")) (Some asked.Picture) (cond (pointwise nat_eq word (codes "explain")) (Some asked.Explain) None))

-- what words ask for: one of the words that the program knows, and nothing behind it
abbrev pub asked_by : List (List ℕ) → Option Asked
asked_by [] = None
asked_by (word ∷ []) = asked_of word
asked_by (word ∷ other ∷ more) = None
