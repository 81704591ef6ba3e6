-- Literals beside columns, where there are not as many.
use Rattle.std.proofs.Common.{◌≡◌, ◌≢◌, List, [], ◌∷◌, length, true, false, refl, arith}
use Rattle.std.specs.Prelude.{◌&&◌}
use Rattle.rep_values.specs.declared.literal.Literal.{Literal}
use Rattle.rep_schema.specs.declared.schema.Schema.{Schema}
use Rattle.rep_schema.specs.declared.schema.Column.{Column}
use Rattle.txn_effects.specs.Literals.{literal_fits, literals_fit}

-- where there aren't as many as columns they don't fit
pub others_dont_fit : (schema : Schema) (columns : List Column) (literals : List Literal) → length columns ≢ length literals → literals_fit schema columns literals ≡ false
others_dont_fit schema [] [] differ = absurd (differ refl)
others_dont_fit schema [] (l ∷ ls) differ = refl
others_dont_fit schema (c ∷ cs) [] differ = refl
others_dont_fit schema (c ∷ cs) (l ∷ ls) differ = either (literal_fits schema c l) (others_dont_fit schema cs ls (λ same. differ (omega (arith, same))))
  where
    either : (b : _) → literals_fit schema cs ls ≡ false → (b && literals_fit schema cs ls) ≡ false
    either true none = none
    either false none = refl
