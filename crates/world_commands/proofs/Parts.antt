-- A list that is cut in two, and what stands in its parts.
use Rattle.std.proofs.Common.{◌≡◌, ℕ, ◌<◌, ◌-◌, List, ◌++◌, length, get_or, set, Some, sym, ap, ◌∙◌, arith}
use Rattle.std.specs.Prelude.{slice_get, unwrap_or}
use Rattle.std.proofs.lemmas.List.{get_or_append_left, get_or-append_right, set-append_left, set-append_right}
use Rattle.std.proofs.lemmas.Option.{unwrap_or-slice_get}

module _ {X : Type 0} (all front back : List X) (cut : ℕ) (is : all ≡ front ++ back) (long : length front ≡ cut) where
  read_there : (k : ℕ) (x d : X) → slice_get all k ≡ Some x → get_or (front ++ back) k d ≡ x
  read_there k x d there = ap (λ (xs : List X). get_or xs k d) (sym is) ∙ sym (unwrap_or-slice_get all k d) ∙ ap (λ o. unwrap_or o d) there

  -- what stands in the front part
  pub front_read : (k : ℕ) (x d : X) → k < cut → slice_get all k ≡ Some x → get_or front k d ≡ x
  front_read k x d before there = sym (get_or_append_left front back d k (omega (arith, before, long))) ∙ read_there k x d there

  -- and what begins the back part
  pub back_read : (x d : X) → slice_get all cut ≡ Some x → get_or back 0 d ≡ x
  back_read x d there =
      let first : cut - cut ≡ 0 = omega arith in
      sym (get_or-append_right front back cut cut d long (omega arith) ∙ ap (λ (k : ℕ). get_or back k d) first) ∙ read_there cut x d there

  -- what is written in the front part
  pub front_written : (k : ℕ) (y : X) → k < cut → set front k y ++ back ≡ set all k y
  front_written k y before = sym (set-append_left front back k y (omega (arith, before, long))) ∙ ap (λ (xs : List X). set xs k y) (sym is)

  -- and at the beginning of the back part
  pub back_written : (y : X) → front ++ set back 0 y ≡ set all cut y
  back_written y =
      let first : cut - cut ≡ 0 = omega arith in
      sym (set-append_right front back cut cut y long (omega arith) ∙ ap (λ (k : ℕ). front ++ set back k y) first) ∙ ap (λ (xs : List X). set xs cut y) (sym is)
