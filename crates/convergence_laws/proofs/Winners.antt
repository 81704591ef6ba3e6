-- Moving a group's values by parts gives their join, in whatever order.
use Rattle.std.proofs.Common.{◌≡◌, ℕ, Bool, true, false, cond, List, [], ◌∷◌, ◌++◌, map, refl, sym, ap, ◌∙◌, inl, inr, arith}
use Rattle.std.specs.Prelude.{ℤ, ◌+ℤ◌, ◌⊎◌, ◌&&◌, ◌||◌, not}
use Rattle.std.specs.List.{list_any, list_all}
use Rattle.std.specs.Ordering.{is_gt, ordering_reverse}
use Rattle.std.specs.Cmp.{IsTotalOrder, first_so, second_so}
use Rattle.std.specs.declared.cmp.Ordering.{Ordering}
use Rattle.std.specs.declared.cmp.Ordering.TheVariants.{Less, Equal, Greater}
use Rattle.std.proofs.lemmas.Cmp.{tied_itself}
use Rattle.std.proofs.lemmas.Int.{ints}
use Rattle.rep_schema.specs.declared.schema.Schema.{Schema}
use Rattle.rep_schema.specs.Tables.{Cells}
use Rattle.rep_schema.specs.Groups.{are_same}
use Rattle.rep_schema.proofs.ValuesAt.{are_same-Decides}
use Rattle.schema_rules.specs.declared.forms.Form.{Form}
use Rattle.schema_rules.specs.declared.forms.Form.TheVariants as form
use Rattle.rep_calls.specs.declared.call.Part.{Part}
use Rattle.resolve_methods.specs.SequenceLaws.{one_group_number, move_of, sum_of_moves}
use Rattle.rep_laws.specs.GroupForms.{wins}
use Rattle.convergence_laws.specs.Joins.{is_winner, candidates_of, IsJoin}
use Rattle.convergence_laws.proofs.Moves.{wins_total, greater, move}

-- what a group's values become, part by part
abbrev pub moved_by : Schema → List ℕ → Form → Cells → List Part → Cells
moved_by schema columns f values [] = values
moved_by schema columns f values (part ∷ parts) = moved_by schema columns f (move schema columns f part values) parts

pub moved_by-append : (schema : Schema) (columns : List ℕ) (f : Form) (values : Cells) (parts later : List Part)
    → moved_by schema columns f values (parts ++ later) ≡ moved_by schema columns f (moved_by schema columns f values parts) later
moved_by-append schema columns f values [] later = refl
moved_by-append schema columns f values (part ∷ parts) later = moved_by-append schema columns f (move schema columns f part values) parts later

same_self : (values : Cells) → are_same values values ≡ true
same_self values = (are_same-Decides values values).1 refl

adds_up : (schema : Schema) (columns : List ℕ) (values : Cells) (parts : List Part) → one_group_number (moved_by schema columns form.Sum values parts) ≡ one_group_number values +ℤ sum_of_moves parts
adds_up schema columns values [] = omega (arith, ints)
adds_up schema columns values (part ∷ parts) = by _ (one_group_number values) (move_of part) (sum_of_moves parts) (adds_up schema columns (move schema columns form.Sum part values) parts)
  where
    by : (r v m s : ℤ) → r ≡ (v +ℤ m) +ℤ s → r ≡ v +ℤ (m +ℤ s)
    by r v m s e = omega (arith, ints)

module _ (schema : Schema) (columns : List ℕ) (f : Form) where
  abbrev beats : Cells → Cells → Ordering
  beats = wins schema columns f

  -- not to win goes on
  pub no_win : (x y z : Cells) → is_gt (beats x y) ≡ false → is_gt (beats y z) ≡ false → is_gt (beats x z) ≡ false
  no_win x y z a b = go (beats x y) (beats y z) refl refl a b
    where
      o : IsTotalOrder beats
      o = wins_total schema columns f

      go : (p q : Ordering) → beats x y ≡ p → beats y z ≡ q → is_gt p ≡ false → is_gt q ≡ false → is_gt (beats x z) ≡ false
      go Less Less ep eq a b = rw (o.trans x y z ep eq) refl
      go Equal q ep eq a b = rw (o.congr x y z ep, eq) b
      go Less Equal ep eq a b = rw xz refl
        where
          xz : beats x z ≡ Less
          xz = o.antisymm x z ∙ ap ordering_reverse (sym (o.congr y z x eq) ∙ o.antisymm y x ∙ ap ordering_reverse ep)
      go Less Greater ep eq a b = grind arith
      go Greater q ep eq a b = grind arith

  -- the winner of values and of the new ones of parts, one after the other
  abbrev pub best : Cells → List Part → Cells
  best values [] = values
  best values (part ∷ parts) = best (greater schema columns f part.new values) parts

  or_mid : (a b c : Bool) → (a || (b || c)) ≡ (b || (a || c))
  or_mid true true c = refl
  or_mid true false c = refl
  or_mid false true c = refl
  or_mid false false c = refl

  or_true : (b : Bool) → (b || true) ≡ true
  or_true true = refl
  or_true false = refl

  best_among : (values : Cells) (parts : List Part) → list_any (λ v. are_same v (best values parts)) (candidates_of values parts) ≡ true
  best_among values [] = rw (same_self values) refl
  best_among values (part ∷ parts) = go (is_gt (beats part.new values)) (λ x. best_among x parts)
    where
      go : (b : Bool) → ((x : Cells) → list_any (λ v. are_same v (best x parts)) (candidates_of x parts) ≡ true)
          → list_any (λ v. are_same v (best (cond b part.new values) parts)) (candidates_of values (part ∷ parts)) ≡ true
      go true h = rw (h part.new) (or_true (are_same values (best part.new parts)))
      go false h = or_mid (are_same values (best values parts)) (are_same part.new (best values parts)) _ ∙ (rw (h values) (or_true (are_same part.new (best values parts))))

  loses : (x y : Cells) → is_gt (beats x y) ≡ false → not (is_gt (beats x y)) ≡ true
  loses x y e = rw e refl

  lost : (b : Bool) → not b ≡ true → b ≡ false
  lost true e = grind arith
  lost false e = refl

  best_wins : (values : Cells) (parts : List Part) → list_all (λ v. not (is_gt (beats v (best values parts)))) (candidates_of values parts) ≡ true
  best_wins values [] = rw (tied_itself (wins_total schema columns f) values) refl
  best_wins values (part ∷ parts) = go (beats part.new values) refl (λ x. best_wins x parts)
    where
      both : (a b c : Bool) → a ≡ true → b ≡ true → c ≡ true → (a && (b && c)) ≡ true
      both a b c p q r = rw (p, q, r) refl

      rest : Cells → Bool
      rest r = list_all (λ v. not (is_gt (beats v r))) (map (λ (p : Part). p.new) parts)

      go : (o : Ordering) → beats part.new values ≡ o → ((x : Cells) → list_all (λ v. not (is_gt (beats v (best x parts)))) (candidates_of x parts) ≡ true)
          → list_all (λ v. not (is_gt (beats v (best (cond (is_gt o) part.new values) parts)))) (candidates_of values (part ∷ parts)) ≡ true
      go Greater e h =
          let r = best part.new parts in
          let new_ok : is_gt (beats part.new r) ≡ false = lost _ (first_so _ _ (h part.new)) in
          let old_ok : is_gt (beats values part.new) ≡ false = rw ((wins_total schema columns f).antisymm values part.new, e) refl in
          both _ _ _ (loses values r (no_win values part.new r old_ok new_ok)) (loses part.new r new_ok)
          (second_so (not (is_gt (beats part.new r))) (list_all (λ v. not (is_gt (beats v r))) (map (λ (p : Part). p.new) parts)) (h part.new))
      go Equal e h =
          let r = best values parts in
          let old_ok : is_gt (beats values r) ≡ false = lost _ (first_so _ _ (h values)) in
          both _ _ _ (loses values r old_ok) (loses part.new r (no_win part.new values r (rw e refl) old_ok))
          (second_so (not (is_gt (beats values r))) (list_all (λ v. not (is_gt (beats v r))) (map (λ (p : Part). p.new) parts)) (h values))
      go Less e h =
          let r = best values parts in
          let old_ok : is_gt (beats values r) ≡ false = lost _ (first_so _ _ (h values)) in
          both _ _ _ (loses values r old_ok) (loses part.new r (no_win part.new values r (rw e refl) old_ok))
          (second_so (not (is_gt (beats values r))) (list_all (λ v. not (is_gt (beats v r))) (map (λ (p : Part). p.new) parts)) (h values))

  -- either nothing won, or what won wins over the first
  pub best_up : (values : Cells) (parts : List Part) → (best values parts ≡ values) ⊎ (beats (best values parts) values ≡ Greater)
  best_up values [] = inl refl
  best_up values (part ∷ parts) = go (beats part.new values) refl (λ x. best_up x parts)
    where
      go : (o : Ordering) → beats part.new values ≡ o → ((x : Cells) → (best x parts ≡ x) ⊎ (beats (best x parts) x ≡ Greater))
          → (best (cond (is_gt o) part.new values) parts ≡ values) ⊎ (beats (best (cond (is_gt o) part.new values) parts) values ≡ Greater)
      go Equal e h = h values
      go Less e h = h values
      go Greater e h = elim (h part.new) [
        | inl same ↦ inr (rw same e)
        | inr more ↦ inr ((wins_total schema columns f).antisymm (best part.new parts) values ∙ ap ordering_reverse ((wins_total schema columns f).trans values part.new (best part.new parts)
            ((wins_total schema columns f).antisymm values part.new ∙ ap ordering_reverse e) ((wins_total schema columns f).antisymm part.new (best part.new parts) ∙ ap ordering_reverse more)))
      ]

  -- the first values don't win against what won
  pub first_loses : (values : Cells) (parts : List Part) → is_gt (beats values (best values parts)) ≡ false
  first_loses values parts = lost _ (first_so (not (is_gt (beats values (best values parts)))) (list_all (λ v. not (is_gt (beats v (best values parts)))) (map (λ (p : Part). p.new) parts)) (best_wins values parts))

  winner : (values : Cells) (parts : List Part) → is_winner schema columns f (candidates_of values parts) (best values parts) ≡ true
  winner values parts = rw (best_among values parts, best_wins values parts) refl

pub moved_greatest : (schema : Schema) (columns : List ℕ) (c : ℕ) (values : Cells) (parts : List Part) → moved_by schema columns (form.Greatest c) values parts ≡ best schema columns (form.Greatest c) values parts
moved_greatest schema columns c values [] = refl
moved_greatest schema columns c values (part ∷ parts) = moved_greatest schema columns c (move schema columns (form.Greatest c) part values) parts

pub moved_least : (schema : Schema) (columns : List ℕ) (c : ℕ) (values : Cells) (parts : List Part) → moved_by schema columns (form.Least c) values parts ≡ best schema columns (form.Least c) values parts
moved_least schema columns c values [] = refl
moved_least schema columns c values (part ∷ parts) = moved_least schema columns c (move schema columns (form.Least c) part values) parts

pub moved_latest : (schema : Schema) (columns : List ℕ) (c d : ℕ) (values : Cells) (parts : List Part) → moved_by schema columns (form.Latest c d) values parts ≡ best schema columns (form.Latest c d) values parts
moved_latest schema columns c d values [] = refl
moved_latest schema columns c d values (part ∷ parts) = moved_latest schema columns c d (move schema columns (form.Latest c d) part values) parts

-- the values moved by all parts are their join
pub IsJoin-moved_by : (schema : Schema) (columns : List ℕ) (f : Form) (values : Cells) (parts : List Part) → IsJoin schema columns f values parts (moved_by schema columns f values parts)
IsJoin-moved_by schema columns form.Sum values parts = adds_up schema columns values parts
IsJoin-moved_by schema columns (form.Greatest c) values parts = rw (moved_greatest schema columns c values parts) (winner schema columns (form.Greatest c) values parts)
IsJoin-moved_by schema columns (form.Least c) values parts = rw (moved_least schema columns c values parts) (winner schema columns (form.Least c) values parts)
IsJoin-moved_by schema columns (form.Latest c d) values parts = rw (moved_latest schema columns c d values parts) (winner schema columns (form.Latest c d) values parts)
