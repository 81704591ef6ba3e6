-- Rows that came of the same calls are the same, whatever the order of the calls.
use Rattle.std.proofs.Common.{◌≡◌, ℕ, ◌<◌, true, false, List, [], ◌∷◌, map, length, Some, None, refl, sym, ap, ◌∙◌, subst, inl, inr}
use Rattle.std.specs.Prelude.{ℤ, Option, ◌+ℤ◌, ◌⊎◌, not}
use Rattle.std.specs.Cmp.{IsTotalOrder}
use Rattle.std.specs.Ordering.{ordering_reverse}
use Rattle.std.specs.declared.cmp.Ordering.TheVariants.{Equal, Greater}
use Rattle.std.proofs.lemmas.Cmp.{tied_itself}
use Rattle.rep_values.specs.declared.value.Value.TheVariants.{Num}
use Rattle.rep_schema.specs.declared.schema.Schema.{Schema}
use Rattle.rep_schema.specs.Tables.{Cells, Rows, columns_of, find_row, rows_of, RowFits, AreTables}
use Rattle.rep_schema.specs.Groups.{group_columns_of, group_numbers_of, group_values, values_at, differ_in}
use Rattle.rep_schema.proofs.FoundRows.{rows_from_finds, found_row, key_of-found}
use Rattle.rep_schema.proofs.PartFit.{RowFits-values_at}
use Rattle.rep_schema.proofs.ValuesAt.{are_same-Decides}
use Rattle.schema_rules.specs.declared.forms.Form.{Form}
use Rattle.schema_rules.specs.declared.forms.Form.TheVariants as form
use Rattle.rep_calls.specs.declared.call.Call.{Call}
use Rattle.rep_calls.specs.declared.call.Part.{Part}
use Rattle.conflict_detect.proofs.RowAfter.{same_from_groups}
use Rattle.resolve_methods.specs.SequenceLaws.{one_group_number, sum_methods, greatest_methods, least_methods}
use Rattle.txn_effects.specs.Convergent.{is_convergent}
use Rattle.rep_laws.specs.Commuting.{IsSound}
use Rattle.rep_laws.specs.GroupForms.{form_at, wins}
use Rattle.convergence_laws.specs.Joins.{parts_in, inserts_in, first_row, candidates_of, is_winner, IsJoin}
use Rattle.convergence_laws.specs.Collections.{IsReordered, Among, TellApart}
use Rattle.rep_laws.proofs.FormShapes.{IsShaped-form_at}
use Rattle.convergence_laws.proofs.Moves.{DecisionLaws, wins_total, one_of_group, same_numbers, int_tie}
use Rattle.rep_laws.proofs.ConvergentRows.{StandsAlone-convergent}
use Rattle.convergence_laws.proofs.ChangesKeepForms.{formed}
use Rattle.convergence_laws.proofs.RowsCome.{Came}
use Rattle.convergence_laws.proofs.CallsCome.{row_in}
use Rattle.convergence_laws.proofs.Winners.{moved_by, best_up, moved_latest, IsJoin-moved_by}
use Rattle.convergence_laws.proofs.AnyOrder.{sum_of_moves-reordered, AreWinners, two_winners, candidates_reordered}
use Rattle.convergence_laws.proofs.SameRows.{parts_reordered, inserts_reordered, one_element, filter_none}

-- ---- latest values

abbrev pub new_values : List Part → List Cells
new_values parts = map (λ (part : Part). part.new) parts

-- where the new values of parts tell apart, the same of them wins over the first values, whatever the order
module _ (schema : Schema) (columns : List ℕ) (stamp site : ℕ) where
  abbrev latest : Form
  latest = form.Latest stamp site

  abbrev latest_of : Cells → List Part → Cells
  latest_of first parts = moved_by schema columns latest first parts

  latest_up : (first : Cells) (parts : List Part) → (latest_of first parts ≡ first) ⊎ (wins schema columns latest (latest_of first parts) first ≡ Greater)
  latest_up first parts = rw (moved_latest schema columns stamp site first parts) (best_up schema columns latest first parts)

  o : IsTotalOrder (wins schema columns latest)
  o = wins_total schema columns latest

  not_first : (first now : Cells) (parts : List Part) → wins schema columns latest now first ≡ Greater → Among now (candidates_of first parts) → Among now (new_values parts)
  not_first first now parts more (inl same) = none (sym (ap (wins schema columns latest now) same) ∙ more)
    where
      none : wins schema columns latest now now ≡ Greater → Among now (new_values parts)
      none e = let tie = tied_itself o now in cc
  not_first first now parts more (inr among) = among

  pub latest_of-reordered : (first : Cells) (parts others : List Part) → IsReordered parts others → TellApart schema columns latest (new_values parts) → latest_of first parts ≡ latest_of first others
  latest_of-reordered first parts others same tell = go (latest_up first parts) (latest_up first others)
    where
      now : Cells
      now = latest_of first parts

      other : Cells
      other = latest_of first others

      two : AreWinners schema columns latest (candidates_of first parts) now other
      two = two_winners schema columns latest now other (candidates_of first parts) (candidates_of first others) (candidates_reordered schema columns latest first same)
          (IsJoin-moved_by schema columns latest first parts) (IsJoin-moved_by schema columns latest first others)

      back : wins schema columns latest other now ≡ Equal
      back = o.antisymm other now ∙ ap ordering_reverse two.tie

      unequal : Equal ≡ Greater → ⊥
      unequal e = cc

      go : (now ≡ first) ⊎ (wins schema columns latest now first ≡ Greater) → (other ≡ first) ⊎ (wins schema columns latest other first ≡ Greater) → now ≡ other
      go (inl here) (inl there) = here ∙ sym there
      go (inl here) (inr more) = absurd (unequal (sym back ∙ ap (wins schema columns latest other) here ∙ more))
      go (inr more) (inl there) = absurd (unequal (sym two.tie ∙ ap (wins schema columns latest now) there ∙ more))
      go (inr more) (inr further) = tell now other (not_first first now parts more two.first) (not_first first other parts further two.second) two.tie

-- ---- two rows

module _ (schema : Schema) (sound : IsSound schema) (decides : DecisionLaws) (table : ℕ) (convergent : is_convergent schema table ≡ true) (before : Cells → Option Cells) (tables others : List Rows)
    (are : AreTables schema tables) (are_too : AreTables schema others) (calls recalls : List Call) (same : IsReordered calls recalls)
    (came : (group : ℕ) (key : Cells) → Came schema sound decides table group convergent (before key) (row_in schema sound decides table group convergent tables key) (inserts_in schema table key calls) (parts_in table key group calls))
    (came_too : (group : ℕ) (key : Cells) → Came schema sound decides table group convergent (before key) (row_in schema sound decides table group convergent others key) (inserts_in schema table key recalls) (parts_in table key group recalls))
    (tell : (group stamp own : ℕ) (key : Cells) → form_at schema table group ≡ Some (form.Latest stamp own) → TellApart schema (group_columns_of schema table group) (form.Latest stamp own) (new_values (parts_in table key group calls))) where
  abbrev columns : ℕ → List ℕ
  columns group = group_columns_of schema table group

  abbrev found_in : List Rows → Cells → Option Cells
  found_in rows key = find_row (columns_of schema table) key (rows_of rows table)

  inserts_same : (key : Cells) → inserts_in schema table key calls ≡ inserts_in schema table key recalls
  inserts_same key = one_element (inserts_in schema table key calls) (inserts_in schema table key recalls)
      (inserts_reordered schema table key same) (came 0 key).one

  parts_same : (key : Cells) (group : ℕ) → IsReordered (parts_in table key group calls) (parts_in table key group recalls)
  parts_same key group = parts_reordered table key group same

  -- the values of a group, which both rows have by the moves of the parts
  values_same : (key : Cells) (group : ℕ) (f : Form) → form_at schema table group ≡ Some f → (first a b : Cells) → RowFits (columns_of schema table) a → RowFits (columns_of schema table) b
      → values_at (columns group) a ≡ moved_by schema (columns group) f (values_at (columns group) first) (parts_in table key group calls)
      → values_at (columns group) b ≡ moved_by schema (columns group) f (values_at (columns group) first) (parts_in table key group recalls)
      → values_at (columns group) a ≡ values_at (columns group) b
  values_same key group f has first a b a_fits b_fits moved removed = go f has moved removed
      (subst (IsJoin schema (columns group) f (values_at (columns group) first) (parts_in table key group calls)) (sym moved) (IsJoin-moved_by schema (columns group) f (values_at (columns group) first) (parts_in table key group calls)))
      (subst (IsJoin schema (columns group) f (values_at (columns group) first) (parts_in table key group recalls)) (sym removed) (IsJoin-moved_by schema (columns group) f (values_at (columns group) first) (parts_in table key group recalls)))
    where
      by_number : (numbered : (row : Cells) → RowFits (columns_of schema table) row → (n : ℤ) × (values_at (columns group) row ≡ Num n ∷ [])) → one_group_number (values_at (columns group) a) ≡ one_group_number (values_at (columns group) b)
          → values_at (columns group) a ≡ values_at (columns group) b
      by_number numbered same = same_numbers (values_at (columns group) a) (values_at (columns group) b) (numbered a a_fits) (numbered b b_fits) same

      winners : (g : Form) → is_winner schema (columns group) g (candidates_of (values_at (columns group) first) (parts_in table key group calls)) (values_at (columns group) a) ≡ true
          → is_winner schema (columns group) g (candidates_of (values_at (columns group) first) (parts_in table key group recalls)) (values_at (columns group) b) ≡ true
          → AreWinners schema (columns group) g (candidates_of (values_at (columns group) first) (parts_in table key group calls)) (values_at (columns group) a) (values_at (columns group) b)
      winners g join rejoin = two_winners schema (columns group) g (values_at (columns group) a) (values_at (columns group) b) (candidates_of (values_at (columns group) first) (parts_in table key group calls))
          (candidates_of (values_at (columns group) first) (parts_in table key group recalls)) (candidates_reordered schema (columns group) g (values_at (columns group) first) (parts_same key group)) join rejoin

      go : (g : Form) → form_at schema table group ≡ Some g
          → values_at (columns group) a ≡ moved_by schema (columns group) g (values_at (columns group) first) (parts_in table key group calls)
          → values_at (columns group) b ≡ moved_by schema (columns group) g (values_at (columns group) first) (parts_in table key group recalls)
          → IsJoin schema (columns group) g (values_at (columns group) first) (parts_in table key group calls) (values_at (columns group) a)
          → IsJoin schema (columns group) g (values_at (columns group) first) (parts_in table key group recalls) (values_at (columns group) b)
          → values_at (columns group) a ≡ values_at (columns group) b
      go form.Sum has moved removed join rejoin =
          let shape = IsShaped-form_at schema sound table group form.Sum has in
          by_number (λ row fits. one_of_group schema table group shape.0 sum_methods shape.1 (values_at (columns group) row) (RowFits-values_at (columns group) (columns_of schema table) row fits))
          (join ∙ ap (λ s. one_group_number (values_at (columns group) first) +ℤ s) (sum_of_moves-reordered (parts_same key group)) ∙ sym rejoin)
      go (form.Greatest c) has moved removed join rejoin =
          let one_number = IsShaped-form_at schema sound table group (form.Greatest c) has in
          by_number (λ row fits. one_of_group schema table group c (greatest_methods c) one_number (values_at (columns group) row) (RowFits-values_at (columns group) (columns_of schema table) row fits))
          (int_tie (one_group_number (values_at (columns group) a)) (one_group_number (values_at (columns group) b)) (winners (form.Greatest c) join rejoin).tie)
      go (form.Least c) has moved removed join rejoin =
          let one_number = IsShaped-form_at schema sound table group (form.Least c) has in
          by_number (λ row fits. one_of_group schema table group c (least_methods c) one_number (values_at (columns group) row) (RowFits-values_at (columns group) (columns_of schema table) row fits))
          (sym (int_tie (one_group_number (values_at (columns group) b)) (one_group_number (values_at (columns group) a)) (winners (form.Least c) join rejoin).tie))
      go (form.Latest stamp site) has moved removed join rejoin =
          moved ∙ latest_of-reordered schema (columns group) stamp site (values_at (columns group) first) (parts_in table key group calls) (parts_in table key group recalls) (parts_same key group) (tell group stamp site key has) ∙ sym removed

  -- both rows there
  both_there : (key a b first : Cells) → found_in tables key ≡ Some a → found_in others key ≡ Some b → first_row (before key) (inserts_in schema table key calls) ≡ Some first → a ≡ b
  both_there key a b first at at_too begins =
      same_from_groups schema sound.shape table a b (record {
        first = a_fits;
        second = b_fits;
        same_key = key_of-found (columns_of schema table) key a (rows_of tables table) at ∙ sym (key_of-found (columns_of schema table) key b (rows_of others table) at_too);
      }) (filter_none (differ_in schema table a b) (group_numbers_of schema table) alike)
    where
      below : table < length schema.tables
      below = (StandsAlone-convergent schema sound table convergent).below

      a_fits : RowFits (columns_of schema table) a
      a_fits = found_row (columns_of schema table) key a (rows_of tables table) at (RowFits (columns_of schema table)) (are.each table below).fit

      b_fits : RowFits (columns_of schema table) b
      b_fits = found_row (columns_of schema table) key b (rows_of others table) at_too (RowFits (columns_of schema table)) (are_too.each table below).fit

      begins_too : first_row (before key) (inserts_in schema table key recalls) ≡ Some first
      begins_too = ap (first_row (before key)) (sym (inserts_same key)) ∙ begins

      some_values : (u v : Cells) → Some u ≡ Some v → u ≡ v
      some_values u v e = cc

      moved : (group : ℕ) (f : Form) → form_at schema table group ≡ Some f → values_at (columns group) a ≡ moved_by schema (columns group) f (values_at (columns group) first) (parts_in table key group calls)
      moved group f has = some_values _ _ (rw (begins, at) at ((came group key).value f has))

      removed : (group : ℕ) (f : Form) → form_at schema table group ≡ Some f → values_at (columns group) b ≡ moved_by schema (columns group) f (values_at (columns group) first) (parts_in table key group recalls)
      removed group f has = some_values _ _ (rw (begins_too, at_too) at ((came_too group key).value f has))

      alike : (group : ℕ) → differ_in schema table a b group ≡ false
      alike group = elim (formed schema sound table convergent group) [
        | inl has ↦ ap not ((are_same-Decides (group_values schema table group a) (group_values schema table group b)).1
            (values_same key group has.0 has.1 first a b a_fits b_fits (moved group has.0 has.1) (removed group has.0 has.1)))
        | inr none ↦ rw none refl
      ]

  some_first : (key : Cells) (o : Option Cells) → first_row (before key) (inserts_in schema table key calls) ≡ o → (a : Cells) → found_in tables key ≡ Some a → (first : Cells) × (o ≡ Some first)
  some_first key None begins a at = let none = (came 0 key).absent begins in cc
  some_first key (Some first) begins a at = (first, refl)

  row_same : (key : Cells) → found_in tables key ≡ found_in others key
  row_same key = go (found_in tables key) refl (found_in others key) refl
    where
      go : (x : Option Cells) → found_in tables key ≡ x → (y : Option Cells) → found_in others key ≡ y → x ≡ y
      go None at None at_too = refl
      go None at (Some b) at_too =
          let n = (came 0 key).none at in
          let none = (came_too 0 key).absent (rw (n.0, ← inserts_same key, n.1) refl) in
          cc
      go (Some a) at None at_too =
          let n = (came_too 0 key).none at_too in
          let none = (came 0 key).absent (rw (n.0, inserts_same key, n.1) refl) in
          cc
      go (Some a) at (Some b) at_too =
          let begins = some_first key (first_row (before key) (inserts_in schema table key calls)) refl a at in
          ap Some (both_there key a b begins.0 at at_too begins.1)

  pub rows_same : rows_of tables table ≡ rows_of others table
  rows_same =
      let below = (StandsAlone-convergent schema sound table convergent).below in
      rows_from_finds (columns_of schema table) (rows_of tables table) (rows_of others table) (are.each table below).rising (are_too.each table below).rising row_same
