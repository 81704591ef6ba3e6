-- A stamp that no column may hold, and another one in its place.
use Rattle.std.proofs.Common.{◌≡◌, ◌⊎◌, ℕ, ◌+◌, ◌<◌, ◌≤◌, Bool, true, false, List, [], ◌∷◌, length, refl, ap, inl, inr, arith, pos, negsuc}
use Rattle.std.specs.Prelude.{◌&&◌, not, int_le}
use Rattle.std.proofs.lemmas.Bool.{and_parts, and_left, and_right, and_cases, or_parts, lt-leb, cases_lt, false≢true}
use Rattle.rep_values.specs.declared.name.SiteName.{SiteName}
use Rattle.rep_values.specs.declared.value.Value.TheVariants.{Num, Words}
use Rattle.rep_schema.specs.declared.schema.Column.{Column}
use Rattle.rep_schema.specs.Tables.{Cells}
use Rattle.rep_schema.specs.Kinds.{is_stamp, is_site_kind, is_filled, value_in_range, row_in_range}
use Rattle.txn_effects.specs.Filled.{Filling, filled_from, has_stamp_from, made_with}
use Rattle.txn_effects.specs.Stamps.{first_outside, capped}

-- a number above the greatest one
pub outside : (n : ℕ) → first_outside ≤ n → value_in_range (Num (pos n)) ≡ false
outside n above = and_right (int_le (negsuc 999999999999999) (pos n)) (int_le (pos n) (pos 1000000000000000)) (lt-leb n 1000000000000000 (omega (arith, above)))

abbrev pub filling : SiteName → ℕ → Filling
filling site stamp = record { stamp = stamp; site = site }

-- in range with one stamp, with another one that is outside too, and then without any
record AreAlike (site : SiteName) (chosen : ℕ → Bool) (n : ℕ) (columns : List Column) (row : Cells) (a b : ℕ) : Type 0 where
  range : row_in_range (filled_from (filling site a) chosen n columns row) ≡ row_in_range (filled_from (filling site b) chosen n columns row)
  same : row_in_range (filled_from (filling site a) chosen n columns row) ≡ true → filled_from (filling site a) chosen n columns row ≡ filled_from (filling site b) chosen n columns row
  none : row_in_range (filled_from (filling site a) chosen n columns row) ≡ true → length columns ≡ length row → has_stamp_from chosen n columns ≡ false

are_alike : (site : SiteName) (chosen : ℕ → Bool) (n : ℕ) (columns : List Column) (row : Cells) (a b : ℕ) → first_outside ≤ a → first_outside ≤ b → AreAlike site chosen n columns row a b
are_alike site chosen n [] row a b above beyond = record { range = refl; same = λ range. refl; none = λ range long. refl }
are_alike site chosen n (c ∷ cs) [] a b above beyond = record { range = refl; same = λ range. refl; none = λ range long. absurd (omega (arith, long)) }
are_alike site chosen n (c ∷ cs) (v ∷ vs) a b above beyond = go (chosen n && is_filled c) refl (is_stamp c.kind) refl (are_alike site chosen (n + 1) cs vs a b above beyond)
  where
    unstamped : (chosen n && is_filled c) ≡ false → (chosen n && is_stamp c.kind) ≡ false
    unstamped other = either (and_cases (chosen n) (is_filled c) other)
      where
        either : (chosen n ≡ false) ⊎ (is_filled c ≡ false) → (chosen n && is_stamp c.kind) ≡ false
        either (inl unchosen) = and_left (chosen n) (is_stamp c.kind) unchosen
        either (inr plain) = and_right (chosen n) (is_stamp c.kind) (or_parts (is_stamp c.kind) (is_site_kind c.kind && not c.key) plain).0

    go : (x : Bool) → (chosen n && is_filled c) ≡ x → (y : Bool) → is_stamp c.kind ≡ y → AreAlike site chosen (n + 1) cs vs a b → AreAlike site chosen n (c ∷ cs) (v ∷ vs) a b
    go true gets true stamped rest = record {
      range = rw (gets, stamped, outside a above, outside b beyond) refl;
      same = λ range. absurd (false≢true (rw (gets, stamped, outside a above) at range));
      none = λ range long. absurd (false≢true (rw (gets, stamped, outside a above) at range));
    }
    go true gets false other rest = record {
      range = rw (gets, other) rest.range;
      same = λ range. rw (gets, other) (ap (λ r. Words site.0 ∷ r) (rest.same (rw (gets, other) at range)));
      none = λ range long. rw (other, and_right (chosen n) false refl) (rest.none (rw (gets, other) at range) (omega (arith, long)));
    }
    go false gets y kind rest = record {
      range = rw gets (ap (λ r. value_in_range v && r) rest.range);
      same = λ range. rw gets (ap (λ r. v ∷ r) (rest.same (and_parts (value_in_range v) _ (rw gets at range)).1));
      none = λ range long. rw (unstamped gets) (rest.none (and_parts (value_in_range v) _ (rw gets at range)).1 (omega (arith, long)));
    }

module _ (columns : List Column) (site : SiteName) (last : ℕ) (chosen : ℕ → Bool) (stamp : ℕ) (row : Cells) where
  below : stamp < first_outside → capped stamp ≡ stamp
  below within = omega (arith, within)

  alike : first_outside ≤ stamp → AreAlike site chosen 0 columns row (capped stamp) stamp
  alike above = are_alike site chosen 0 columns row (capped stamp) stamp (omega (arith, above)) above

  -- a row is in range with a stamp where it is with the capped one
  pub row_in_range-capped : row_in_range (made_with columns site last chosen (capped stamp) row).row ≡ row_in_range (made_with columns site last chosen stamp row).row
  row_in_range-capped = elim (cases_lt stamp first_outside) [
    | inl within ↦ rw (below within) refl
    | inr above ↦ (alike above).range
  ]

  -- and then it is the same
  pub made_with-capped : length columns ≡ length row → row_in_range (made_with columns site last chosen (capped stamp) row).row ≡ true
      → made_with columns site last chosen (capped stamp) row ≡ made_with columns site last chosen stamp row
  made_with-capped long range = elim (cases_lt stamp first_outside) [
    | inl within ↦ rw (below within) refl
    | inr above ↦ rw ((alike above).same range, (alike above).none range long) refl
  ]
