-- The values that calls make of a group whose latest values stay: how many of them pass a test, and where a row's values come from.
use Rattle.std.proofs.Common.{◌≡◌, ℕ, zero, suc, ◌+◌, ◌<◌, ◌≤◌, ◌==◌, Bool, true, false, cond, List, [], ◌∷◌, ◌++◌, length, map, Some, None, Ok, refl, sym, ap, ◌∙◌, subst, inl, inr, arith}
use mathlib.Core.Bool.{true≢false}
use Rattle.std.specs.Prelude.{Option, IfSome, ◌⊎◌, ◌&&◌, ◌||◌, not, filter}
use Rattle.std.specs.Option.{option_map}
use Rattle.std.specs.List.{AllByRecursion, list_any, range_with_len}
use Rattle.std.proofs.lemmas.Bool.{eq-eqb, ne_eqb}
use Rattle.std.proofs.lemmas.Bool.Decides.{eqb_tells}
use Rattle.rep_values.specs.declared.name.SiteName.{SiteName}
use Rattle.rep_schema.specs.declared.schema.Schema.{Schema}
use Rattle.rep_schema.specs.Tables.{Cells, Rows, columns_of, key_of, find_row, rows_of, RowFits, AreTables}
use Rattle.rep_schema.specs.Groups.{shadow_group, groups_of, group_columns_of, group_numbers_of, group_values, values_at, are_same, differ_in}
use Rattle.rep_schema.specs.Putting.{is_unchanged, changes_between, after_changes}
use Rattle.rep_schema.proofs.FoundRows.{found_row, key_of-found}
use Rattle.rep_schema.proofs.ValuesAt.{are_same-Decides}
use Rattle.schema_rules.specs.declared.forms.Form.TheVariants as form
use Rattle.rep_calls.specs.declared.call.Part.{Part}
use Rattle.rep_calls.specs.declared.call.Call.{Call}
use Rattle.rep_calls.specs.declared.call.Txn.{Txn}
use Rattle.rep_calls.specs.declared.call.Call.TheVariants.{Insert, Update, Delete}
use Rattle.conflict_detect.specs.Fits.{CallFits, table_of}
use Rattle.unique_resolve.specs.Numbers.{Numbers, AreCounters}
use Rattle.txn_effects.specs.Calls.{Effect, RowEffect, row_named, row_effect, call_effect}
use Rattle.conflict_detect.specs.KeysNamed.{key_named}
use Rattle.txn_effects.specs.Transactions.{failing_at, effect_behind, calls_effect}
use Rattle.txn_effects.specs.Contents.{Content, IsContent, effect_on}
use Rattle.txn_effects.proofs.Results.{result_then-Ok}
use Rattle.txn_effects.proofs.TransactionEffects.{IsApplied-call_effect}
use Rattle.conflict_detect.specs.ChangeCalls.{part_between, call_between, call_of}
use Rattle.txn_effects.specs.Convergent.{is_convergent}
use Rattle.rep_laws.specs.Commuting.{IsSound}
use Rattle.rep_laws.proofs.SoundSchemas.{HasKeys-sound, KeysStandAlone-sound}
use Rattle.rep_laws.proofs.TokenTests.{AreElsewhere, place_cases}
use Rattle.rep_laws.proofs.RowEffects.{key_of-row_effect}
use Rattle.rep_lists.specs.Counting.{count_where}
use Rattle.rep_laws.specs.GroupForms.{form_at, KeepsForms}
use Rattle.convergence_laws.specs.Journals.{IsSoundTxn}
use Rattle.convergence_laws.specs.Joins.{is_row, parts_for, parts_in, inserts_for, inserts_in, first_row, is_winner, candidates_of}
use Rattle.rep_laws.proofs.FormShapes.{form_at-named}
use Rattle.convergence_laws.proofs.Moves.{DecisionLaws}
use Rattle.convergence_laws.proofs.Winners.{moved_by, IsJoin-moved_by}
use Rattle.rep_laws.proofs.ConvergentRows.{StandsAlone, StandsAlone-convergent, Leaves-insert, Leaves-update}
use Rattle.convergence_laws.proofs.RowsCome.{parts_move, Came}
use Rattle.convergence_laws.proofs.CallsCome.{is_row-same, is_row-elsewhere, failing_at-Ok, behind-Ok}
use Rattle.error_cause_laws.proofs.OneTimeWrites.{writes_in, writes_in-append}

-- ---- counts

module _ {X : Type 0} (test : X → Bool) where
  pub count_where-append : (xs ys : List X) → count_where test (xs ++ ys) ≡ count_where test xs + count_where test ys
  count_where-append [] ys = omega arith
  count_where-append (x ∷ xs) ys = go (test x) (count_where-append xs ys)
    where
      go : (b : Bool) → count_where test (xs ++ ys) ≡ count_where test xs + count_where test ys
          → cond b (count_where test (xs ++ ys) + 1) (count_where test (xs ++ ys)) ≡ cond b (count_where test xs + 1) (count_where test xs) + count_where test ys
      go true e = omega (arith, e)
      go false e = e

  -- where one is the same as one that passes, one counts
  pub any_counts : (same : X → X → Bool) → ((a b : X) → same a b ≡ true → a ≡ b) → (now : X) (xs : List X) → list_any (λ x. same x now) xs ≡ true → test now ≡ true → 1 ≤ count_where test xs
  any_counts same tells now [] any passes = cc
  any_counts same tells now (x ∷ xs) any passes = go (same x now) refl any (test x) refl (λ later. any_counts same tells now xs later passes)
    where
      go : (b : Bool) → same x now ≡ b → (b || list_any (λ x. same x now) xs) ≡ true → (c : Bool) → test x ≡ c → (list_any (λ x. same x now) xs ≡ true → 1 ≤ count_where test xs)
          → 1 ≤ cond c (count_where test xs + 1) (count_where test xs)
      go b is any true e later = omega arith
      go true is any false e later = absurd (true≢false (sym passes ∙ ap test (sym (tells x now is)) ∙ e))
      go false is any false e later = later any

pub map-append : {X Y : Type 0} (f : X → Y) (xs ys : List X) → map f (xs ++ ys) ≡ map f xs ++ map f ys
map-append f [] ys = refl
map-append f (x ∷ xs) ys = ap (λ zs. f x ∷ zs) (map-append f xs ys)

pub count_where-map : {X Y : Type 0} (test : Y → Bool) (f : X → Y) (xs ys : List X) → count_where test (map f (xs ++ ys)) ≡ count_where test (map f xs) + count_where test (map f ys)
count_where-map test f xs ys = ap (count_where test) (map-append f xs ys) ∙ count_where-append test (map f xs) (map f ys)

-- a number stands once among those of a table's groups
below_none : (group start n : ℕ) → group < start → count_where (λ g. g == group) (range_with_len start n) ≡ 0
below_none group start zero below = refl
below_none group start (suc n) below = elim (eqb_tells start group) [
  | inl same ↦ absurd (omega (arith, below, same.1))
  | inr apart ↦ rw apart.0 (below_none group (start + 1) n (omega (arith, below)))
]

range_once : (group start n : ℕ) → count_where (λ g. g == group) (range_with_len start n) ≤ 1
range_once group start zero = omega arith
range_once group start (suc n) = elim (eqb_tells start group) [
  | inl same ↦ rw same.0 (let none = below_none group (start + 1) n (omega (arith, same.1)) in omega (arith, none))
  | inr apart ↦ rw apart.0 (range_once group (start + 1) n)
]

module _ (schema : Schema) (sound : IsSound schema) (decides : DecisionLaws) (table : ℕ) (convergent : is_convergent schema table ≡ true) (key : Cells) (group at by : ℕ)
    (has : form_at schema table group ≡ Some (form.Latest at by)) (test : Cells → Bool) where
  abbrev pub places : List ℕ
  places = group_columns_of schema table group

  abbrev pub new_of : Part → Cells
  new_of part = part.new

  -- how many of the values that a call makes of the group of the row pass
  abbrev pub passing : Call → ℕ
  passing call = count_where test (map (values_at places) (inserts_for schema table key call)) + count_where test (map new_of (parts_for table key group call))

  pub passing_counted : (calls : List Call) → writes_in passing calls ≡ count_where test (map (values_at places) (inserts_in schema table key calls)) + count_where test (map new_of (parts_in table key group calls))
  passing_counted [] = refl
  passing_counted (c ∷ cs) =
      let inserts = count_where-map test (values_at places) (inserts_for schema table key c) (inserts_in schema table key cs) in
      let parts = count_where-map test new_of (parts_for table key group c) (parts_in table key group cs) in
      let later = passing_counted cs in
      omega (arith, inserts, parts, later)

  abbrev pub row_of : List Rows → Option Cells
  row_of tables = find_row (columns_of schema table) key (rows_of tables table)

  -- a row whose values pass
  pub record Passes (found : Option Cells) : Type 0 where
    pub row : Cells
    pub is : found ≡ Some row
    pub passes : test (values_at places row) ≡ true

  abbrev CameBy : Option Cells → Option Cells → List Call → Type 0
  CameBy before after calls = Came schema sound decides table group convergent before after (inserts_in schema table key calls) (parts_in table key group calls)

  -- values that moved are the first ones or a part's
  pub moved_from : (first now : Cells) (parts : List Part) → now ≡ moved_by schema places (form.Latest at by) first parts → list_any (λ v. are_same v now) (first ∷ map new_of parts) ≡ true
  moved_from first now parts moved = left (list_any (λ v. are_same v now) (candidates_of first parts)) _
      (subst (λ v. is_winner schema places (form.Latest at by) (candidates_of first parts) v ≡ true) (sym moved) (IsJoin-moved_by schema places (form.Latest at by) first parts))
    where
      left : (a b : Bool) → (a && b) ≡ true → a ≡ true
      left true b e = refl
      left false b e = cc

  -- values that pass were a row's, or are made
  pub passing_comes : (before after : Option Cells) (calls : List Call) → CameBy before after calls → Passes after → Passes before ⊎ (1 ≤ writes_in passing calls)
  passing_comes before after calls came now = go before refl (inserts_in schema table key calls) refl (came.value (form.Latest at by) has)
    where
      counted : (1 ≤ count_where test (map (values_at places) (inserts_in schema table key calls))) ⊎ (1 ≤ count_where test (map new_of (parts_in table key group calls))) → 1 ≤ writes_in passing calls
      counted (inl some) = let all = passing_counted calls in omega (arith, some, all)
      counted (inr some) = let all = passing_counted calls in omega (arith, some, all)

      by_first : (first : Cells) → option_map (values_at places) after ≡ Some (moved_by schema places (form.Latest at by) (values_at places first) (parts_in table key group calls))
          → (test (values_at places first) ≡ true) ⊎ (1 ≤ count_where test (map new_of (parts_in table key group calls)))
      by_first first value = either (are_same (values_at places first) (values_at places now.row)) refl (moved_from (values_at places first) (values_at places now.row) (parts_in table key group calls) moved)
        where
          moved : values_at places now.row ≡ moved_by schema places (form.Latest at by) (values_at places first) (parts_in table key group calls)
          moved = let both = sym (ap (option_map (values_at places)) now.is) ∙ value in cc

          either : (b : Bool) → are_same (values_at places first) (values_at places now.row) ≡ b → (b || list_any (λ v. are_same v (values_at places now.row)) (map new_of (parts_in table key group calls))) ≡ true
              → (test (values_at places first) ≡ true) ⊎ (1 ≤ count_where test (map new_of (parts_in table key group calls)))
          either true same any = inl (ap test ((are_same-Decides (values_at places first) (values_at places now.row)).0 same) ∙ now.passes)
          either false other any = inr (any_counts test are_same (λ a b is. (are_same-Decides a b).0 is) (values_at places now.row) (map new_of (parts_in table key group calls)) any now.passes)

      go : (b : Option Cells) → before ≡ b → (rows : List Cells) → inserts_in schema table key calls ≡ rows
          → option_map (values_at places) after ≡ option_map (λ row. moved_by schema places (form.Latest at by) (values_at places row) (parts_in table key group calls)) (first_row before (inserts_in schema table key calls))
          → Passes before ⊎ (1 ≤ writes_in passing calls)
      go (Some row) was rows is value = elim (by_first row (value ∙ ap (λ o. option_map (λ r. moved_by schema places (form.Latest at by) (values_at places r) (parts_in table key group calls)) (first_row o (inserts_in schema table key calls))) was)) [
        | inl passes ↦ inl (record { row = row; is = was; passes = passes })
        | inr made ↦ inr (counted (inr made))
      ]
      go None was [] is value =
          let none = value ∙ ap (λ o. option_map (λ r. moved_by schema places (form.Latest at by) (values_at places r) (parts_in table key group calls)) (first_row o (inserts_in schema table key calls))) was
          ∙ ap (λ rs. option_map (λ r. moved_by schema places (form.Latest at by) (values_at places r) (parts_in table key group calls)) (first_row None rs)) is in
          let some = sym (ap (option_map (values_at places)) now.is) in
          absurd (cc (some, none))
      go None was (r ∷ rs) is value = elim (by_first r (value ∙ ap (λ o. option_map (λ r. moved_by schema places (form.Latest at by) (values_at places r) (parts_in table key group calls)) (first_row o (inserts_in schema table key calls))) was
          ∙ ap (λ rs. option_map (λ r. moved_by schema places (form.Latest at by) (values_at places r) (parts_in table key group calls)) (first_row None rs)) is)) [
            | inl passes ↦ inr (counted (inl (rw is (one (test (values_at places r)) passes (count_where test (map (values_at places) rs))))))
            | inr made ↦ inr (counted (inr made))
          ]
        where
          one : (b : Bool) → b ≡ true → (n : ℕ) → 1 ≤ cond b (n + 1) n
          one true e n = omega arith
          one false e n = cc

  -- ---- what is sent on

  -- an update's parts between two rows: one of the group at most, and only where its values differ
  pub record OfGroup (found row : Cells) (groups : List ℕ) (n : ℕ) : Type 0 where
    pub few : n ≤ count_where (λ g. g == group) groups
    pub makes : 1 ≤ n → (test (values_at places row) ≡ true) × (differ_in schema table found row group ≡ true)

  abbrev pub sent_parts : Cells → Cells → List ℕ → List Part
  sent_parts found row groups = filter (λ (part : Part). part.group == group) (map (part_between schema table found row) (filter (differ_in schema table found row) groups))

  pub parts_of_group : (found row : Cells) (groups : List ℕ) → OfGroup found row groups (count_where test (map new_of (sent_parts found row groups)))
  parts_of_group found row [] = record { few = omega arith; makes = λ some. absurd (omega (arith, some)) }
  parts_of_group found row (g ∷ gs) = go (differ_in schema table found row g) refl (parts_of_group found row gs)
    where
      more : (n m : ℕ) (b : Bool) → n ≤ m → n ≤ cond b (m + 1) m
      more n m true less = omega (arith, less)
      more n m false less = less

      here : g ≡ group → (differ_in schema table found row g ≡ true) → (b : Bool) → test (group_values schema table g row) ≡ b → OfGroup found row gs (count_where test (map new_of (sent_parts found row gs)))
          → OfGroup found row (g ∷ gs) (cond b (count_where test (map new_of (sent_parts found row gs)) + 1) (count_where test (map new_of (sent_parts found row gs))))
      here same differ true passes later = record {
        few = rw (eq-eqb g group same) (let less = later.few in omega (arith, less));
        makes = λ some. (ap (λ h. test (group_values schema table h row)) (sym same) ∙ passes, ap (differ_in schema table found row) (sym same) ∙ differ);
      }
      here same differ false passes later = record { few = more _ _ (g == group) later.few; makes = later.makes }

      go : (d : Bool) → differ_in schema table found row g ≡ d → OfGroup found row gs (count_where test (map new_of (sent_parts found row gs)))
          → OfGroup found row (g ∷ gs) (count_where test (map new_of (filter (λ (part : Part). part.group == group) (map (part_between schema table found row) (cond d (g ∷ filter (differ_in schema table found row) gs) (filter (differ_in schema table found row) gs))))))
      go false differ later = record { few = more _ _ (g == group) later.few; makes = later.makes }
      go true differ later = elim (eqb_tells g group) [
        | inl same ↦ rw same.0 (here same.1 differ (test (group_values schema table g row)) refl later)
        | inr apart ↦ rw apart.0 (record { few = rw apart.0 later.few; makes = later.makes })
      ]

  pub group_once : count_where (λ g. g == group) (group_numbers_of schema table) ≤ 1
  group_once =
      let named = form_at-named schema sound table group (form.Latest at by) has in
      let split = count_where-append (λ g. g == group) (range_with_len 0 (length (groups_of schema table))) (shadow_group ∷ []) in
      let once = range_once group 0 (length (groups_of schema table)) in
      let none : count_where (λ g. g == group) (shadow_group ∷ []) ≡ 0 = rw (ne_eqb shadow_group group (λ same. named.2 (sym same))) refl in
      omega (arith, split, once, none)

  unlike : (b : Bool) → not b ≡ true → b ≡ false
  unlike true e = cc
  unlike false e = refl

  -- the changed row of an update makes no more than its parts did
  pub update_sends_less : (found row : Cells) (parts : List Part) → values_at places row ≡ moved_by schema places (form.Latest at by) (values_at places found) (filter (λ (part : Part). part.group == group) parts)
      → count_where test (map new_of (sent_parts found row (group_numbers_of schema table))) ≤ count_where test (map new_of (filter (λ (part : Part). part.group == group) parts))
  update_sends_less found row parts moved = go (count_where test (map new_of (sent_parts found row (group_numbers_of schema table)))) refl
    where
      mine : List Part
      mine = filter (λ (part : Part). part.group == group) parts

      sent : OfGroup found row (group_numbers_of schema table) (count_where test (map new_of (sent_parts found row (group_numbers_of schema table))))
      sent = parts_of_group found row (group_numbers_of schema table)

      by_part : are_same (values_at places found) (values_at places row) ≡ false → test (values_at places row) ≡ true → 1 ≤ count_where test (map new_of (filter (λ (part : Part). part.group == group) parts))
      by_part differ passes = any_counts test are_same (λ a b is. (are_same-Decides a b).0 is) (values_at places row) (map new_of (filter (λ (part : Part). part.group == group) parts))
          (rw differ at (moved_from (values_at places found) (values_at places row) (filter (λ (part : Part). part.group == group) parts) moved)) passes

      go : (n : ℕ) → count_where test (map new_of (sent_parts found row (group_numbers_of schema table))) ≡ n
          → count_where test (map new_of (sent_parts found row (group_numbers_of schema table))) ≤ count_where test (map new_of (filter (λ (part : Part). part.group == group) parts))
      go zero none = omega (arith, none)
      go (suc n) some =
          let makes = sent.makes (omega (arith, some)) in
          let one = by_part (unlike (are_same (values_at places found) (values_at places row)) makes.1) makes.0 in
          let few = sent.few in
          omega (arith, few, group_once, one)

  -- a call that names another row makes nothing of this one, nor does the changed row
  between_elsewhere : (t : ℕ) (k : Cells) → AreElsewhere table key t k → (before after : Option Cells) → IfSome before (λ r. key_of (columns_of schema t) r ≡ k) → IfSome after (λ r. key_of (columns_of schema t) r ≡ k)
      → passing (call_between schema t before after) ≡ 0
  between_elsewhere t k away None None b a = go (is_row table key t [])
    where
      go : (c : Bool) → 0 + count_where test (map new_of (cond c (filter (λ (part : Part). part.group == group) []) [])) ≡ 0
      go true = refl
      go false = refl
  between_elsewhere t k away None (Some r) b a = rw (is_row-elsewhere table key t (key_of (columns_of schema t) r) (subst (AreElsewhere table key t) (sym a) away)) refl
  between_elsewhere t k away (Some r) None b a = refl
  between_elsewhere t k away (Some r) (Some other) b a = rw (is_row-elsewhere table key t (key_of (columns_of schema t) r) (subst (AreElsewhere table key t) (sym b) away)) refl

  abbrev sent_by : ℕ → Option Cells → Option Cells → ℕ
  sent_by t before after = writes_in passing (map (call_of schema) (changes_between t before after))

  one_sent : (t : ℕ) (before after : Option Cells) (n : ℕ) → passing (call_between schema t before after) ≤ n → sent_by t before after ≤ n
  one_sent t before after n few = go (is_unchanged before after)
    where
      go : (b : Bool) → writes_in passing (map (call_of schema) (cond b [] (record { table = t; before = before; after = after } ∷ []))) ≤ n
      go true = omega arith
      go false = omega (arith, few)

  module _ (tables : List Rows) (numbers : Numbers) (origin : SiteName) (are : AreTables schema tables) (counters : AreCounters schema numbers) where
    named_before : (call : Call) → IfSome (row_named schema tables call) (λ r. key_of (columns_of schema (table_of call)) r ≡ key_named schema call)
    named_before call = go (row_named schema tables call) refl
      where
        go : (o : Option Cells) → row_named schema tables call ≡ o → IfSome o (λ r. key_of (columns_of schema (table_of call)) r ≡ key_named schema call)
        go None there = tt
        go (Some r) there = key_of-found (columns_of schema (table_of call)) (key_named schema call) r (rows_of tables (table_of call)) there

    alone : StandsAlone schema table
    alone = StandsAlone-convergent schema sound table convergent

    update_sends : (parts : List Part) (effect : RowEffect) → CallFits schema (Update table key parts) → KeepsForms schema (Update table key parts)
        → row_effect schema tables numbers origin (Update table key parts) (row_of tables) ≡ Ok effect → sent_by table (row_of tables) effect.after ≤ passing (Update table key parts)
    update_sends parts effect fits keeps gives =
        let left = Leaves-update schema tables numbers origin table alone key parts (row_of tables) effect gives in
        let row_fits : RowFits (columns_of schema table) left.0 = found_row (columns_of schema table) key left.0 (rows_of tables table) left.1 (RowFits (columns_of schema table)) (are.each table fits.table).fit in
        let moved = parts_move schema sound decides table group convergent (form.Latest at by) has parts left.0 left.2 fits.content.parts_fit (keeps convergent) row_fits left.3 in
        let less = update_sends_less left.0 left.2 parts moved in
        let own : is_row table key table (key_of (columns_of schema table) left.0) ≡ true =
        is_row-same table key table (key_of (columns_of schema table) left.0) refl (sym (key_of-found (columns_of schema table) key left.0 (rows_of tables table) left.1)) in
        let here : passing (call_between schema table (Some left.0) (Some left.2)) ≤ passing (Update table key parts) = rw (own, is_row-same table key table key refl refl) (omega (arith, less)) in
        subst (λ b. sent_by table b effect.after ≤ passing (Update table key parts)) (sym left.1)
        (subst (λ a. sent_by table (Some left.0) a ≤ passing (Update table key parts)) (sym left.4) (one_sent table (Some left.0) (Some left.2) (passing (Update table key parts)) here))

    insert_sends : (row : Cells) (effect : RowEffect) → row_effect schema tables numbers origin (Insert table row) (row_named schema tables (Insert table row)) ≡ Ok effect
        → sent_by table (row_named schema tables (Insert table row)) effect.after ≤ passing (Insert table row)
    insert_sends row effect gives =
        let left = Leaves-insert schema tables numbers origin table alone row (row_named schema tables (Insert table row)) effect refl gives in
        subst (λ b. sent_by table b effect.after ≤ passing (Insert table row)) (sym left.0)
        (subst (λ a. sent_by table None a ≤ passing (Insert table row)) (sym left.1) (one_sent table None (Some row) (passing (Insert table row)) (omega arith)))

    row_sends : (call : Call) (effect : RowEffect) → CallFits schema call → KeepsForms schema call → row_effect schema tables numbers origin call (row_named schema tables call) ≡ Ok effect
        → sent_by (table_of call) (row_named schema tables call) effect.after ≤ passing call
    row_sends call effect fits keeps gives = elim (place_cases table key (table_of call) (key_named schema call)) [
      | inl same ↦ here call effect fits keeps gives same.0 same.1
      | inr away ↦
          let after = key_of-row_effect schema tables numbers origin sound.shape counters (KeysStandAlone-sound schema sound.unbroken) are call (row_named schema tables call) effect fits refl gives in
          let none = between_elsewhere (table_of call) (key_named schema call) away (row_named schema tables call) effect.after (named_before call) after in
          one_sent (table_of call) (row_named schema tables call) effect.after (passing call) (omega (arith, none))
    ]
      where
        here : (call : Call) (effect : RowEffect) → CallFits schema call → KeepsForms schema call → row_effect schema tables numbers origin call (row_named schema tables call) ≡ Ok effect
            → table ≡ table_of call → key ≡ key_named schema call → sent_by (table_of call) (row_named schema tables call) effect.after ≤ passing call
        here (Insert t row) effect fits keeps gives same keys =
            subst (λ u. (effect : RowEffect) → row_effect schema tables numbers origin (Insert u row) (row_named schema tables (Insert u row)) ≡ Ok effect → sent_by u (row_named schema tables (Insert u row)) effect.after ≤ passing (Insert u row)) same
            (insert_sends row) effect gives
        here (Update t k parts) effect fits keeps gives same keys =
            subst (λ u. (effect : RowEffect) → CallFits schema (Update u k parts) → KeepsForms schema (Update u k parts) → row_effect schema tables numbers origin (Update u k parts) (row_named schema tables (Update u k parts)) ≡ Ok effect
            → sent_by u (row_named schema tables (Update u k parts)) effect.after ≤ passing (Update u k parts)) same
            (subst (λ q. (effect : RowEffect) → CallFits schema (Update table q parts) → KeepsForms schema (Update table q parts) → row_effect schema tables numbers origin (Update table q parts) (row_named schema tables (Update table q parts)) ≡ Ok effect
            → sent_by table (row_named schema tables (Update table q parts)) effect.after ≤ passing (Update table q parts)) keys (update_sends parts))
            effect fits keeps gives
        here (Delete t row) effect fits keeps gives same keys = absurd (true≢false (sym convergent ∙ ap (is_convergent schema) same ∙ keeps))

  -- what goes onward makes no more than what came
  calls_send : (number : ℕ) (calls : List Call) (tables : List Rows) (numbers : Numbers) (origin : SiteName) (effect : Effect) → AreTables schema tables → AreCounters schema numbers
      → AllByRecursion (CallFits schema) calls → AllByRecursion (KeepsForms schema) calls → calls_effect schema origin number calls tables numbers ≡ Ok effect
      → writes_in passing (map (call_of schema) effect.changes) ≤ writes_in passing calls
  calls_send number [] tables numbers origin effect are counters fit keep gives =
      let is : record { changes = []; numbers = numbers } ≡ effect = cc in
      subst (λ (x : Effect). writes_in passing (map (call_of schema) x.changes) ≤ 0) is (omega arith)
  calls_send number (call ∷ calls) tables numbers origin effect are counters fit keep gives =
      let some = result_then-Ok (failing_at number (call_effect schema tables numbers origin call))
      (λ (x : Effect). effect_behind x.changes (calls_effect schema origin (number + 1) calls (after_changes schema x.changes tables) x.numbers)) effect gives in
      let one : Effect = some.0 in
      let first = failing_at-Ok number (call_effect schema tables numbers origin call) one some.1 in
      let applied = IsApplied-call_effect schema origin sound.shape (HasKeys-sound schema sound.unbroken sound.shape) (KeysStandAlone-sound schema sound.unbroken) call tables numbers one are counters fit.0 first in
      let row = result_then-Ok (row_effect schema tables numbers origin call (row_named schema tables call))
      (λ (x : RowEffect). Ok (record { changes = changes_between (table_of call) (row_named schema tables call) x.after; numbers = x.numbers })) one first in
      let made : record { changes = changes_between (table_of call) (row_named schema tables call) row.0.after; numbers = row.0.numbers } ≡ one = cc (row.2) in
      let here : writes_in passing (map (call_of schema) one.changes) ≤ passing call =
      subst (λ (x : Effect). writes_in passing (map (call_of schema) x.changes) ≤ passing call) made (row_sends tables numbers origin are counters call row.0 fit.0 keep.0 row.1) in
      let rest = behind-Ok one.changes (calls_effect schema origin (number + 1) calls (after_changes schema one.changes tables) one.numbers) effect some.2 in
      let later = calls_send (number + 1) calls (after_changes schema one.changes tables) one.numbers origin rest.0 applied.are applied.counters fit.1 keep.1 rest.1 in
      let split = ap (writes_in passing) (map-append (call_of schema) one.changes rest.0.changes) ∙ writes_in-append passing (map (call_of schema) one.changes) (map (call_of schema) rest.0.changes) in
      subst (λ (x : Effect). writes_in passing (map (call_of schema) x.changes) ≤ passing call + writes_in passing calls) rest.2 (omega (arith, here, later, split))

  pub passing_onward : (origin : SiteName) (txn : Txn) (content : Content) (effect : Effect) → IsContent schema content → IsSoundTxn schema txn → effect_on schema origin txn content ≡ Ok effect
      → writes_in passing (map (call_of schema) effect.changes) ≤ writes_in passing txn.calls
  passing_onward origin txn content effect is txn_sound gives = calls_send 1 txn.calls content.tables content.numbers origin effect is.tables is.counters txn_sound.fits.calls txn_sound.keeps gives
