-- Groups gathered one after another.
use Rattle.std.proofs.Common.{◌≡◌, ℕ, zero, suc, ◌+◌, ◌<◌, List, [], ◌∷◌, ◌++◌, length, take, get_or, Bool, true, false, sym, ap, ◌∙◌, arith}
use Rattle.std.specs.Prelude.{not, filter}
use Rattle.std.specs.List.{range_with_len}
use Rattle.std.proofs.lemmas.List.{append-nil, map-append}
use Rattle.std.proofs.lemmas.List.Elements.{filter-append, filter_more}
use Rattle.rep_schema.specs.declared.schema.Schema.{Schema}
use Rattle.rep_schema.specs.Tables.{Cells}
use Rattle.rep_calls.specs.declared.call.Part.{Part}
use Rattle.conflict_detect.specs.Differing.{is_matched, unmatched_groups}

-- one number more
range_more : (a n : ℕ) → range_with_len a (suc n) ≡ range_with_len a n ++ (a + n) ∷ []
range_more a zero = let same : a ≡ a + 0 = omega arith in ap (λ x. x ∷ []) same
range_more a (suc n) =
    let next : a + 1 + n ≡ a + suc n = omega arith in
    ap (λ xs. a ∷ xs) (rw (← next) (range_more (a + 1) n))

range_next : (n : ℕ) → range_with_len 0 (n + 1) ≡ range_with_len 0 n ++ n ∷ []
range_next n =
    let next : n + 1 ≡ suc n = omega arith in
    let zeroed : 0 + n ≡ n = omega arith in
    ap (range_with_len 0) next ∙ range_more 0 n ∙ ap (λ x. range_with_len 0 n ++ x ∷ []) zeroed

-- the numbers that pass, of those so far and of one more
module _ (p : ℕ → Bool) (xs groups : List ℕ) (n : ℕ) (so_far : groups ≡ filter p xs) where
  pub filter-pass : p n ≡ true → groups ++ n ∷ [] ≡ filter p (xs ++ n ∷ [])
  filter-pass passes = rw (filter-append p xs (n ∷ []), passes, so_far)

  pub filter-fail : p n ≡ false → groups ≡ filter p (xs ++ n ∷ [])
  filter-fail fails = so_far ∙ sym (append-nil (filter p xs)) ∙ rw (filter-append p xs (n ∷ []), fails)

module _ (p : ℕ → Bool) (groups : List ℕ) (n : ℕ) (so_far : groups ≡ filter p (range_with_len 0 n)) where
  pub range-pass : p n ≡ true → groups ++ n ∷ [] ≡ filter p (range_with_len 0 (n + 1))
  range-pass passes = filter-pass p (range_with_len 0 n) groups n so_far passes ∙ ap (filter p) (sym (range_next n))

  pub range-fail : p n ≡ false → groups ≡ filter p (range_with_len 0 (n + 1))
  range-fail fails = filter-fail p (range_with_len 0 n) groups n so_far fails ∙ ap (filter p) (sym (range_next n))

-- the groups of the parts so far and of one more, where the row hasn't its old values
module _ (schema : Schema) (table : ℕ) (row : Cells) (parts : List Part) (i : ℕ) (part : Part) (within : i < length parts) (is : part ≡ get_or parts i part) (groups : List ℕ)
    (so_far : groups ≡ unmatched_groups schema table row (take i parts)) where
  split : unmatched_groups schema table row (take (i + 1) parts) ≡ groups ++ unmatched_groups schema table row (part ∷ [])
  split =
      rw (so_far, filter_more (λ p. not (is_matched schema table row p)) parts i part within, ← is)
      (map-append (λ (p : Part). p.group) (filter (λ p. not (is_matched schema table row p)) (take i parts)) (filter (λ p. not (is_matched schema table row p)) (part ∷ [])))

  pub unmatched-more : is_matched schema table row part ≡ false → groups ++ part.group ∷ [] ≡ unmatched_groups schema table row (take (i + 1) parts)
  unmatched-more unmatched = sym (split ∙ rw unmatched)

  pub unmatched-same : is_matched schema table row part ≡ true → groups ≡ unmatched_groups schema table row (take (i + 1) parts)
  unmatched-same matched = sym (append-nil groups) ∙ sym (split ∙ rw matched)
