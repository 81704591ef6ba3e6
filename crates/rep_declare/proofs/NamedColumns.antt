-- The columns that a line names, one after the other.
use Rattle.std.proofs.Common.{◌≡◌, ℕ, ◌+◌, ◌<◌, Bool, ◌≤◌, List, [], ◌∷◌, ◌++◌, length, Option, Some, None, take, drop, get_or, drop_of_length-le, ap, sym, ◌∙◌}
use Rattle.std.specs.List.{list_any}
use Rattle.std.proofs.lemmas.List.{drop_more, take_more}
use Rattle.rep_values.specs.declared.refusal.Refusal.{Refusal}
use Rattle.rep_values.specs.Name.{same_bytes}
use Rattle.rep_schema.specs.declared.schema.Column.{Column}
use Rattle.rep_schema.specs.Named.{column_place}
use Rattle.rep_values.specs.RefusalSteps.{or_then}
use Rattle.rep_declare.specs.Refusals.{column_step, columns_step}

module _ (columns : List Column) (is_taken : ℕ → Bool) (names : List (List ℕ)) (i : ℕ) (within : i < length names) (name : List ℕ) (is : name ≡ get_or names i name) where
  abbrev pub step_of : Option Refusal
  step_of = column_step is_taken (list_any (same_bytes name) (take i names)) (column_place columns name)

  one_more : columns_step columns is_taken (take i names) (drop i names)
      ≡ or_then step_of (columns_step columns is_taken (take (i + 1) names) (drop (i + 1) names))
  unfolding columns_step
  one_more = ap (columns_step columns is_taken (take i names)) (drop_more names i name within ∙ ap (λ n. n ∷ drop (i + 1) names) (sym is))
      ∙ ap (λ before. or_then step_of (columns_step columns is_taken before (drop (i + 1) names))) (ap (λ n. take i names ++ n ∷ []) is ∙ sym (take_more names i name within))

  -- the column is refused, and so is the line
  pub refused_at : (why : Refusal) → step_of ≡ Some why → columns_step columns is_taken (take i names) (drop i names) ≡ Some why
  refused_at why refused = one_more ∙ ap (λ step. or_then step (columns_step columns is_taken (take (i + 1) names) (drop (i + 1) names))) refused

  -- the column isn't refused, and what follows is
  pub passed_at : step_of ≡ None → columns_step columns is_taken (take i names) (drop i names) ≡ columns_step columns is_taken (take (i + 1) names) (drop (i + 1) names)
  passed_at passed = one_more ∙ ap (λ step. or_then step (columns_step columns is_taken (take (i + 1) names) (drop (i + 1) names))) passed

-- behind the last column nothing is refused
pub none_behind : (columns : List Column) (is_taken : ℕ → Bool) (names : List (List ℕ)) (i : ℕ) → length names ≤ i
    → columns_step columns is_taken (take i names) (drop i names) ≡ None
unfolding columns_step
none_behind columns is_taken names i past = ap (columns_step columns is_taken (take i names)) (drop_of_length-le names past)
