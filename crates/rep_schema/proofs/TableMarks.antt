-- Tables that are marked by number.
use Rattle.std.proofs.Common.{◌≡◌, ℕ, ◌+◌, ◌<◌, ◌≤◌, ◌==◌, Bool, true, false, List, [], ◌∷◌, length, map, get_or, set, refl, sym, ◌∙◌, zero-add, inl, inr, arith}
use Rattle.std.specs.List.{list_any, range_with_len, AllByRecursion}
use Rattle.std.proofs.lemmas.Bool.{cases_eq, cases_lt, eqb-true}
use Rattle.std.proofs.lemmas.Grind.{get_or-set_at}
use Rattle.std.proofs.lemmas.List.{ext_get_or, get_or-set_other, get_or_past}
use Rattle.std.proofs.lemmas.List.FromFn.{length-map-range_with_len, get_or-map-range_with_len}

not_that : (n t : ℕ) → n < 32 → 32 ≤ t → (n == t) ≡ false
not_that n t below past = go (n == t) refl
  where
    go : (b : Bool) → (n == t) ≡ b → (n == t) ≡ false
    go true same = let e = eqb-true n t same in absurd (omega (arith, e, below, past))
    go false other = other

-- a number that no table has is not among them
pub none_past : (tables : List ℕ) (t : ℕ) → AllByRecursion (λ n. n < 32) tables → 32 ≤ t → list_any (λ n. n == t) tables ≡ false
none_past [] t below past = refl
none_past (n ∷ tables) t below past = rw (not_that n t below.0 past) (none_past tables t below.1 past)

module _ (test : ℕ → Bool) (held : List Bool) (i : ℕ) (whole : length held ≡ 32) (marked : (t : ℕ) → t < i → get_or held t false ≡ test t) where
  -- one more table is marked
  pub marked-more : (b : Bool) → b ≡ test i → i < 32 → (t : ℕ) → t < i + 1 → get_or (set held i b) t false ≡ test t
  marked-more b is below t within = elim (cases_eq t i) [
    | inl e ↦ get_or-set_at held i t b false e (omega (arith, whole, below)) ∙ rw e is
    | inr ne ↦ get_or-set_other held i t b false ne ∙ marked t (below_of ne within)
  ]
    where
      below_of : {t : ℕ} → ¬ (t ≡ i) → t < i + 1 → t < i
      below_of ne within = omega (arith, ne, within)

  -- all tables are, where none past the last one is to be marked
  pub marked-all : 32 ≤ i → ((t : ℕ) → 32 ≤ t → test t ≡ false) → (t : ℕ) → get_or held t false ≡ test t
  marked-all ended past_none t = elim (cases_lt t 32) [
    | inl within ↦ marked t (omega (arith, within, ended))
    | inr past ↦ get_or_past held t false (omega (arith, whole, past)) ∙ sym (past_none t past)
  ]

  -- the marks are those of each table in turn
  pub marked-each : 32 ≤ i → held ≡ map test (range_with_len 0 32)
  marked-each ended = ext_get_or false held (map test (range_with_len 0 32)) (whole ∙ sym (length-map-range_with_len test 0 32))
      (λ t within. marked t (omega (arith, whole, within, ended)) ∙ sym (get_or-map-range_with_len test 0 32 t t false (omega (arith, whole, within)) (zero-add t)))
