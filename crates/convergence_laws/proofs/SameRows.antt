-- Journals that applied the same calls lead to the same rows of convergent tables.
use Rattle.std.proofs.Common.{◌≡◌, ℕ, suc, ◌<◌, ◌≤◌, Bool, true, false, List, [], ◌∷◌, ◌++◌, length, Some, None, refl, sym, ap, ◌∙◌, inl, inr, arith, append_assoc}
use Rattle.std.specs.Prelude.{Option, ◌+ℤ◌, not, filter}
use Rattle.rep_values.specs.declared.name.SiteName.{SiteName}
use Rattle.rep_schema.specs.declared.schema.Schema.{Schema}
use Rattle.rep_schema.specs.Tables.{Cells, Rows, columns_of, find_row, rows_of, RowFits, AreTables}
use Rattle.rep_schema.specs.Groups.{group_columns_of, group_numbers_of, group_values, values_at, differ_in}
use Rattle.rep_schema.proofs.FoundRows.{rows_from_finds, found_row, key_of-found}
use Rattle.rep_schema.proofs.PartFit.{RowFits-values_at}
use Rattle.rep_schema.proofs.ValuesAt.{are_same-Decides}
use Rattle.schema_rules.specs.declared.forms.Form.{Form}
use Rattle.schema_rules.specs.declared.forms.Form.TheVariants as form
use Rattle.rep_calls.specs.declared.call.Call.{Call}
use Rattle.conflict_detect.proofs.RowAfter.{same_from_groups}
use Rattle.resolve_methods.specs.SequenceLaws.{one_group_number, sum_methods, greatest_methods, least_methods}
use Rattle.txn_effects.specs.Convergent.{is_convergent}
use Rattle.rep_laws.specs.Commuting.{IsSound}
use Rattle.site_state.specs.declared.entry.Entry.{Entry}
use Rattle.site_state.specs.Contents.{journal_content}
use Rattle.rep_laws.specs.GroupForms.{form_at}
use Rattle.convergence_laws.specs.Joins.{parts_for, parts_in, inserts_for, inserts_in, calls_applied, applied_parts, applied_inserts, first_row, candidates_of, IsJoin, IsJoined}
use Rattle.convergence_laws.specs.Collections.{IsReordered, Skip, Swap, Then}
use Rattle.convergence_laws.specs.Collections as collections
use Rattle.convergence_laws.specs.Journals.{AreMade}
use Rattle.convergence_laws.specs.Agreement.{all_applied, LatestTellApart, SameCallsGiveSameRows}
use Rattle.rep_laws.proofs.FormShapes.{IsShaped-form_at}
use Rattle.convergence_laws.proofs.Moves.{DecisionLaws, one_of_group, same_numbers, int_tie}
use Rattle.rep_laws.proofs.ConvergentRows.{StandsAlone-convergent}
use Rattle.convergence_laws.proofs.ChangesKeepForms.{formed}
use Rattle.convergence_laws.proofs.RowsCome.{Came}
use Rattle.convergence_laws.proofs.JournalsJoin.{journal_keeps, journal_comes, IsJoined-Came}
use Rattle.convergence_laws.proofs.AnyOrder.{sum_of_moves-reordered, two_winners, candidates_reordered}

-- ---- pieces of collections

pub reordered_same : {X : Type 0} (xs : List X) → IsReordered xs xs
reordered_same [] = collections.None
reordered_same (x ∷ xs) = Skip x (reordered_same xs)

pub reordered_behind : {X : Type 0} (zs : List X) {xs ys : List X} → IsReordered xs ys → IsReordered (zs ++ xs) (zs ++ ys)
reordered_behind [] p = p
reordered_behind (z ∷ zs) p = Skip z (reordered_behind zs p)

pub reordered_middle : {X : Type 0} (xs : List X) (x : X) (ys : List X) → IsReordered (x ∷ (xs ++ ys)) (xs ++ x ∷ ys)
reordered_middle [] x ys = reordered_same (x ∷ ys)
reordered_middle (z ∷ xs) x ys = Then (Swap x z (xs ++ ys)) (Skip z (reordered_middle xs x ys))

pub reordered_front : {X : Type 0} (xs ys zs : List X) → IsReordered (xs ++ (ys ++ zs)) (ys ++ (xs ++ zs))
reordered_front [] ys zs = reordered_same (ys ++ zs)
reordered_front (x ∷ xs) ys zs = Then (Skip x (reordered_front xs ys zs)) (reordered_middle ys x (xs ++ zs))

pub parts_reordered : (table : ℕ) (key : Cells) (group : ℕ) {calls others : List Call} → IsReordered calls others → IsReordered (parts_in table key group calls) (parts_in table key group others)
parts_reordered table key group collections.None = collections.None
parts_reordered table key group (Skip x p) = reordered_behind (parts_for table key group x) (parts_reordered table key group p)
parts_reordered table key group (Swap x y xs) = reordered_front (parts_for table key group x) (parts_for table key group y) (parts_in table key group xs)
parts_reordered table key group (Then p q) = Then (parts_reordered table key group p) (parts_reordered table key group q)

pub inserts_reordered : (schema : Schema) (table : ℕ) (key : Cells) {calls others : List Call} → IsReordered calls others → IsReordered (inserts_in schema table key calls) (inserts_in schema table key others)
inserts_reordered schema table key collections.None = collections.None
inserts_reordered schema table key (Skip x p) = reordered_behind (inserts_for schema table key x) (inserts_reordered schema table key p)
inserts_reordered schema table key (Swap x y xs) = reordered_front (inserts_for schema table key x) (inserts_for schema table key y) (inserts_in schema table key xs)
inserts_reordered schema table key (Then p q) = Then (inserts_reordered schema table key p) (inserts_reordered schema table key q)

pub parts_in-append : (table : ℕ) (key : Cells) (group : ℕ) (calls others : List Call) → parts_in table key group (calls ++ others) ≡ parts_in table key group calls ++ parts_in table key group others
parts_in-append table key group [] others = refl
parts_in-append table key group (c ∷ cs) others = ap (λ ps. parts_for table key group c ++ ps) (parts_in-append table key group cs others)
    ∙ sym (append_assoc (parts_for table key group c) (parts_in table key group cs) (parts_in table key group others))

pub inserts_in-append : (schema : Schema) (table : ℕ) (key : Cells) (calls others : List Call) → inserts_in schema table key (calls ++ others) ≡ inserts_in schema table key calls ++ inserts_in schema table key others
inserts_in-append schema table key [] others = refl
inserts_in-append schema table key (c ∷ cs) others = ap (λ rs. inserts_for schema table key c ++ rs) (inserts_in-append schema table key cs others)
    ∙ sym (append_assoc (inserts_for schema table key c) (inserts_in schema table key cs) (inserts_in schema table key others))

pub applied_parts-all : (table : ℕ) (key : Cells) (group : ℕ) (journal : List Entry) → applied_parts table key group journal ≡ parts_in table key group (all_applied journal)
applied_parts-all table key group [] = refl
applied_parts-all table key group (e ∷ es) = ap (λ ps. ps ++ parts_in table key group (calls_applied e)) (applied_parts-all table key group es) ∙ sym (parts_in-append table key group (all_applied es) (calls_applied e))

pub applied_inserts-all : (schema : Schema) (table : ℕ) (key : Cells) (journal : List Entry) → applied_inserts schema table key journal ≡ inserts_in schema table key (all_applied journal)
applied_inserts-all schema table key [] = refl
applied_inserts-all schema table key (e ∷ es) = ap (λ rs. rs ++ inserts_in schema table key (calls_applied e)) (applied_inserts-all schema table key es) ∙ sym (inserts_in-append schema table key (all_applied es) (calls_applied e))

length-reordered : {X : Type 0} {xs ys : List X} → IsReordered xs ys → length xs ≡ length ys
length-reordered collections.None = refl
length-reordered (Skip x p) = ap suc (length-reordered p)
length-reordered (Swap x y xs) = refl
length-reordered (Then p q) = length-reordered p ∙ length-reordered q

-- where there is at most one element, the lists are the same
pub one_element : {X : Type 0} (xs ys : List X) → IsReordered xs ys → length xs ≤ 1 → xs ≡ ys
one_element _ _ collections.None few = refl
one_element _ _ (Skip x {xs} {ys} p) few = ap (λ zs. x ∷ zs) (none xs ys (omega (arith, few)) (length-reordered p))
  where
    none : {X : Type 0} (us vs : List X) → length us ≤ 0 → length us ≡ length vs → us ≡ vs
    none [] [] few same = refl
    none [] (v ∷ vs) few same = absurd (omega (arith, same))
    none (u ∷ us) vs few same = absurd (omega (arith, few))
one_element _ _ (Swap x y zs) few = absurd (omega (arith, few))
one_element _ _ (Then {xs} {ys} {zs} p q) few = one_element xs ys p few ∙ one_element ys zs q (let long = length-reordered p in omega (arith, few, long))

pub filter_none : (test : ℕ → Bool) (xs : List ℕ) → ((x : ℕ) → test x ≡ false) → filter test xs ≡ []
filter_none test [] none = refl
filter_none test (x ∷ xs) none = rw (none x) (filter_none test xs none)

-- ---- two rows

module _ (schema : Schema) (sound : IsSound schema) (decides : DecisionLaws) (one other : SiteName) (base : List Rows) (journal reordered : List Entry) (are : AreTables schema base)
    (made : AreMade schema one base journal) (remade : AreMade schema other base reordered) (same : IsReordered (all_applied journal) (all_applied reordered)) (tell : LatestTellApart schema base journal)
    (table : ℕ) (convergent : is_convergent schema table ≡ true) where
  abbrev tables : List Rows
  tables = (journal_content schema one base journal).tables

  abbrev others : List Rows
  others = (journal_content schema other base reordered).tables

  abbrev columns : ℕ → List ℕ
  columns group = group_columns_of schema table group

  abbrev found_in : List Rows → Cells → Option Cells
  found_in rows key = find_row (columns_of schema table) key (rows_of rows table)

  inserts_same : (key : Cells) → applied_inserts schema table key journal ≡ applied_inserts schema table key reordered
  inserts_same key = one_element (applied_inserts schema table key journal) (applied_inserts schema table key reordered)
      (rw (applied_inserts-all schema table key journal, applied_inserts-all schema table key reordered) (inserts_reordered schema table key same))
      (journal_comes schema sound decides table 0 convergent key one base journal are made).one

  parts_same : (key : Cells) (group : ℕ) → IsReordered (applied_parts table key group journal) (applied_parts table key group reordered)
  parts_same key group = rw (applied_parts-all table key group journal, applied_parts-all table key group reordered) (parts_reordered table key group same)

  -- the values of a group, of which both rows have the join
  values_same : (key : Cells) (group : ℕ) (f : Form) → form_at schema table group ≡ Some f → (first a b : Cells) → first_row (found_in base key) (applied_inserts schema table key journal) ≡ Some first
      → RowFits (columns_of schema table) a → RowFits (columns_of schema table) b
      → IsJoin schema (columns group) f (values_at (columns group) first) (applied_parts table key group journal) (values_at (columns group) a)
      → IsJoin schema (columns group) f (values_at (columns group) first) (applied_parts table key group reordered) (values_at (columns group) b)
      → values_at (columns group) a ≡ values_at (columns group) b
  values_same key group form.Sum has first a b begins a_fits b_fits join rejoin =
      let shape = IsShaped-form_at schema sound table group form.Sum has in
      same_numbers (values_at (columns group) a) (values_at (columns group) b)
      (one_of_group schema table group shape.0 sum_methods shape.1 (values_at (columns group) a) (RowFits-values_at (columns group) (columns_of schema table) a a_fits))
      (one_of_group schema table group shape.0 sum_methods shape.1 (values_at (columns group) b) (RowFits-values_at (columns group) (columns_of schema table) b b_fits))
      (join ∙ ap (λ s. one_group_number (values_at (columns group) first) +ℤ s) (sum_of_moves-reordered (parts_same key group)) ∙ sym rejoin)
  values_same key group (form.Greatest c) has first a b begins a_fits b_fits join rejoin =
      let one_number = IsShaped-form_at schema sound table group (form.Greatest c) has in
      let two = two_winners schema (columns group) (form.Greatest c) (values_at (columns group) a) (values_at (columns group) b) (candidates_of (values_at (columns group) first) (applied_parts table key group journal))
      (candidates_of (values_at (columns group) first) (applied_parts table key group reordered)) (candidates_reordered schema (columns group) (form.Greatest c) (values_at (columns group) first) (parts_same key group)) join rejoin in
      same_numbers (values_at (columns group) a) (values_at (columns group) b)
      (one_of_group schema table group c (greatest_methods c) one_number (values_at (columns group) a) (RowFits-values_at (columns group) (columns_of schema table) a a_fits))
      (one_of_group schema table group c (greatest_methods c) one_number (values_at (columns group) b) (RowFits-values_at (columns group) (columns_of schema table) b b_fits))
      (int_tie (one_group_number (values_at (columns group) a)) (one_group_number (values_at (columns group) b)) two.tie)
  values_same key group (form.Least c) has first a b begins a_fits b_fits join rejoin =
      let one_number = IsShaped-form_at schema sound table group (form.Least c) has in
      let two = two_winners schema (columns group) (form.Least c) (values_at (columns group) a) (values_at (columns group) b) (candidates_of (values_at (columns group) first) (applied_parts table key group journal))
      (candidates_of (values_at (columns group) first) (applied_parts table key group reordered)) (candidates_reordered schema (columns group) (form.Least c) (values_at (columns group) first) (parts_same key group)) join rejoin in
      same_numbers (values_at (columns group) a) (values_at (columns group) b)
      (one_of_group schema table group c (least_methods c) one_number (values_at (columns group) a) (RowFits-values_at (columns group) (columns_of schema table) a a_fits))
      (one_of_group schema table group c (least_methods c) one_number (values_at (columns group) b) (RowFits-values_at (columns group) (columns_of schema table) b b_fits))
      (sym (int_tie (one_group_number (values_at (columns group) b)) (one_group_number (values_at (columns group) a)) two.tie))
  values_same key group (form.Latest stamp site) has first a b begins a_fits b_fits join rejoin =
      let two = two_winners schema (columns group) (form.Latest stamp site) (values_at (columns group) a) (values_at (columns group) b) (candidates_of (values_at (columns group) first) (applied_parts table key group journal))
      (candidates_of (values_at (columns group) first) (applied_parts table key group reordered)) (candidates_reordered schema (columns group) (form.Latest stamp site) (values_at (columns group) first) (parts_same key group)) join rejoin in
      tell table group stamp site key first convergent has begins (values_at (columns group) a) (values_at (columns group) b) two.first two.second two.tie

  is_content : AreTables schema tables
  is_content = (journal_keeps schema sound one base journal are made).tables

  is_content_too : AreTables schema others
  is_content_too = (journal_keeps schema sound other base reordered are remade).tables

  abbrev CameTo : ℕ → Cells → Type 0
  CameTo group key = Came schema sound decides table group convergent (found_in base key) (found_in tables key) (applied_inserts schema table key journal) (applied_parts table key group journal)

  came : (group : ℕ) (key : Cells) → CameTo group key
  came group key = journal_comes schema sound decides table group convergent key one base journal are made

  came_too : (group : ℕ) (key : Cells) → Came schema sound decides table group convergent (found_in base key) (found_in others key) (applied_inserts schema table key reordered) (applied_parts table key group reordered)
  came_too group key = journal_comes schema sound decides table group convergent key other base reordered are remade

  -- both rows there
  both_there : (key a b first : Cells) → found_in tables key ≡ Some a → found_in others key ≡ Some b → first_row (found_in base key) (applied_inserts schema table key journal) ≡ Some first → a ≡ b
  both_there key a b first at at_too begins =
      same_from_groups schema sound.shape table a b (record {
        first = a_fits;
        second = b_fits;
        same_key = key_of-found (columns_of schema table) key a (rows_of tables table) at ∙ sym (key_of-found (columns_of schema table) key b (rows_of others table) at_too);
      }) (filter_none (differ_in schema table a b) (group_numbers_of schema table) alike)
    where
      below : table < length schema.tables
      below = (StandsAlone-convergent schema sound table convergent).below

      a_fits : RowFits (columns_of schema table) a
      a_fits = found_row (columns_of schema table) key a (rows_of tables table) at (RowFits (columns_of schema table)) (is_content.each table below).fit

      b_fits : RowFits (columns_of schema table) b
      b_fits = found_row (columns_of schema table) key b (rows_of others table) at_too (RowFits (columns_of schema table)) (is_content_too.each table below).fit

      begins_too : first_row (found_in base key) (applied_inserts schema table key reordered) ≡ Some first
      begins_too = ap (first_row (found_in base key)) (sym (inserts_same key)) ∙ begins

      join_of : (group : ℕ) (f : Form) → form_at schema table group ≡ Some f → IsJoined schema (columns group) f (Some first) (applied_parts table key group journal) (Some a)
      join_of group f has = rw (begins, at) at (IsJoined-Came schema sound decides table group convergent f has (found_in base key) (found_in tables key) (applied_inserts schema table key journal) (applied_parts table key group journal) (came group key))

      join_too : (group : ℕ) (f : Form) → form_at schema table group ≡ Some f → IsJoined schema (columns group) f (Some first) (applied_parts table key group reordered) (Some b)
      join_too group f has = rw (begins_too, at_too) at (IsJoined-Came schema sound decides table group convergent f has (found_in base key) (found_in others key) (applied_inserts schema table key reordered) (applied_parts table key group reordered) (came_too group key))

      alike : (group : ℕ) → differ_in schema table a b group ≡ false
      alike group = elim (formed schema sound table convergent group) [
        | inl has ↦ ap not ((are_same-Decides (group_values schema table group a) (group_values schema table group b)).1
            (values_same key group has.0 has.1 first a b begins a_fits b_fits (join_of group has.0 has.1) (join_too group has.0 has.1)))
        | inr none ↦ rw none refl
      ]

  some_first : (key : Cells) (o : Option Cells) → first_row (found_in base key) (applied_inserts schema table key journal) ≡ o → (a : Cells) → found_in tables key ≡ Some a → (first : Cells) × (o ≡ Some first)
  some_first key None begins a at = let none = (came 0 key).absent begins in cc
  some_first key (Some first) begins a at = (first, refl)

  row_same : (key : Cells) → found_in tables key ≡ found_in others key
  row_same key = go (found_in tables key) refl (found_in others key) refl
    where
      go : (x : Option Cells) → found_in tables key ≡ x → (y : Option Cells) → found_in others key ≡ y → x ≡ y
      go None at None at_too = refl
      go None at (Some b) at_too =
          let n = (came 0 key).none at in
          let none = (came_too 0 key).absent (rw (n.0, ← inserts_same key, n.1) refl) in
          cc
      go (Some a) at None at_too =
          let n = (came_too 0 key).none at_too in
          let none = (came 0 key).absent (rw (n.0, inserts_same key, n.1) refl) in
          cc
      go (Some a) at (Some b) at_too =
          let begins = some_first key (first_row (found_in base key) (applied_inserts schema table key journal)) refl a at in
          ap Some (both_there key a b begins.0 at at_too begins.1)

  pub rows_same : rows_of tables table ≡ rows_of others table
  rows_same =
      let below = (StandsAlone-convergent schema sound table convergent).below in
      rows_from_finds (columns_of schema table) (rows_of tables table) (rows_of others table) (is_content.each table below).rising (is_content_too.each table below).rising row_same

pub same_calls_give_same_rows : DecisionLaws → SameCallsGiveSameRows
same_calls_give_same_rows decides schema one other base journal reordered sound are made remade same tell table convergent =
    rows_same schema sound decides one other base journal reordered are made remade same tell table convergent
