-- The groups that are found for an update are those of the parts whose old values the row hasn't.
use Rattle.std.proofs.Common.{◌≡◌, ◌≢◌, ℕ, zero, suc, ◌<◌, List, [], ◌∷◌, map, Bool, true, false, cond, refl, sym, arith}
use Rattle.std.specs.Prelude.{not, ◌==◌, filter}
use Rattle.std.specs.List.{AllByRecursion, AllPairs, list_any}
use Rattle.std.proofs.lemmas.Bool.{eq-eqb, ne_eqb}
use Rattle.std.proofs.lemmas.List.Elements.{recursion_from_All}
use Rattle.std.proofs.lemmas.List.Kept.{AllPairs-from_increasing}
use Rattle.rep_schema.specs.declared.schema.Schema.{Schema}
use Rattle.rep_schema.specs.Tables.{Cells}
use Rattle.rep_calls.specs.declared.call.Part.{Part}
use Rattle.conflict_detect.specs.Fits.{UpdateFits}
use Rattle.conflict_detect.specs.Differing.{is_matched, unmatched_groups}

-- no two parts have one group
abbrev AreApart : List Part → Type 0
AreApart [] = Unit {0}
AreApart (p ∷ ps) = AllByRecursion (λ q. p.group ≢ q.group) ps × AreApart ps

-- where groups rise, no two are the same
apart_from_rising : (parts : List Part) → AllPairs (λ x y. x < y) (map (λ (part : Part). part.group) parts) → AreApart parts
apart_from_rising [] rise = tt
apart_from_rising (p ∷ ps) rise = (
  others ps (recursion_from_All (λ x. p.group < x) (map (λ (part : Part). part.group) ps) (λ k d within. rise zero (suc k) d (omega arith) (omega (arith, within)))),
  apart_from_rising ps (λ i j d below within. rise (suc i) (suc j) d (omega (arith, below)) (omega (arith, within))),
)
  where
    others : (qs : List Part) → AllByRecursion (λ x. p.group < x) (map (λ (part : Part). part.group) qs) → AllByRecursion (λ q. p.group ≢ q.group) qs
    others [] all = tt
    others (q ∷ qs) all = (omega (arith, all.0), others qs all.1)

module _ (schema : Schema) (table : ℕ) (row : Cells) where
  -- a group of no part isn't found
  not_found : (group : ℕ) (parts : List Part) → AllByRecursion (λ q. group ≢ q.group) parts → list_any (λ g. g == group) (unmatched_groups schema table row parts) ≡ false
  not_found group [] apart = refl
  not_found group (p ∷ ps) apart = go (not (is_matched schema table row p)) (not_found group ps apart.1)
    where
      go : (t : Bool) → list_any (λ g. g == group) (unmatched_groups schema table row ps) ≡ false
          → list_any (λ g. g == group) (map (λ (part : Part). part.group) (cond t (p ∷ filter (λ q. not (is_matched schema table row q)) ps) (filter (λ q. not (is_matched schema table row q)) ps))) ≡ false
      go true later = rw (ne_eqb p.group group (λ same. apart.0 (sym same))) later
      go false later = later

  -- one part more makes no difference to another one's group
  with_other : (p : Part) (ps : List Part) (q : Part) → p.group ≢ q.group
      → list_any (λ g. g == q.group) (unmatched_groups schema table row (p ∷ ps)) ≡ list_any (λ g. g == q.group) (unmatched_groups schema table row ps)
  with_other p ps q apart = go (not (is_matched schema table row p))
    where
      go : (t : Bool) → list_any (λ g. g == q.group) (map (λ (part : Part). part.group) (cond t (p ∷ filter (λ q. not (is_matched schema table row q)) ps) (filter (λ q. not (is_matched schema table row q)) ps)))
          ≡ list_any (λ g. g == q.group) (unmatched_groups schema table row ps)
      go true = rw (ne_eqb p.group q.group apart)
      go false = refl

  -- each part's group is found where the row hasn't its old values
  found_each : (parts : List Part) → AreApart parts → AllByRecursion (λ part. list_any (λ g. g == part.group) (unmatched_groups schema table row parts) ≡ not (is_matched schema table row part)) parts
  found_each [] apart = tt
  found_each (p ∷ ps) apart = (first (not (is_matched schema table row p)) (not_found p.group ps apart.0), others ps apart.0 (found_each ps apart.1))
    where
      first : (t : Bool) → list_any (λ g. g == p.group) (unmatched_groups schema table row ps) ≡ false
          → list_any (λ g. g == p.group) (map (λ (part : Part). part.group) (cond t (p ∷ filter (λ q. not (is_matched schema table row q)) ps) (filter (λ q. not (is_matched schema table row q)) ps))) ≡ t
      first true later = rw (eq-eqb p.group p.group refl)
      first false later = later

      others : (qs : List Part) → AllByRecursion (λ q. p.group ≢ q.group) qs
          → AllByRecursion (λ q. list_any (λ g. g == q.group) (unmatched_groups schema table row ps) ≡ not (is_matched schema table row q)) qs
          → AllByRecursion (λ q. list_any (λ g. g == q.group) (unmatched_groups schema table row (p ∷ ps)) ≡ not (is_matched schema table row q)) qs
      others [] far each = tt
      others (q ∷ qs) far each = (rw (with_other p ps q far.0) each.0, others qs far.1 each.1)

pub found_each_fit : (schema : Schema) (table : ℕ) (key row : Cells) (parts : List Part) → UpdateFits schema table key parts
    → AllByRecursion (λ part. list_any (λ g. g == part.group) (unmatched_groups schema table row parts) ≡ not (is_matched schema table row part)) parts
found_each_fit schema table key row parts fits = found_each schema table row parts (apart_from_rising parts (AllPairs-from_increasing (map (λ (part : Part). part.group) parts) fits.rise))
