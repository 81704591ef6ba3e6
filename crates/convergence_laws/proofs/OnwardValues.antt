-- What the row changes of a transaction make of a group with latest values, the transaction made.
use Rattle.std.proofs.Common.{◌≡◌, ◌≢◌, ℕ, ◌+◌, ◌==◌, Bool, true, false, cond, List, [], ◌∷◌, ◌++◌, map, Some, None, Ok, refl, sym, ap, ◌∙◌, subst, inl, inr}
use mathlib.Core.Bool.{true≢false}
use Rattle.std.specs.Prelude.{Option, not, filter}
use Rattle.std.specs.List.{AllByRecursion, list_any, list_all}
use Rattle.std.specs.Cmp.{first_so}
use Rattle.std.specs.Ordering.{is_gt}
use Rattle.std.proofs.lemmas.Bool.{ne_eqb, eqb-true}
use Rattle.std.proofs.lemmas.List.{map-append}
use Rattle.std.proofs.lemmas.Bool.Decides.{eqb_tells}
use Rattle.rep_values.specs.declared.name.SiteName.{SiteName}
use Rattle.rep_schema.specs.declared.schema.Schema.{Schema}
use Rattle.rep_schema.specs.Tables.{Cells, Rows, columns_of, key_of, rows_of, RowFits, AreTables}
use Rattle.rep_schema.specs.Groups.{group_columns_of, group_numbers_of, are_same, group_values, differ_in}
use Rattle.rep_schema.specs.Putting.{is_unchanged, changes_between, after_changes}
use Rattle.rep_schema.proofs.FoundRows.{found_row, key_of-found}
use Rattle.rep_schema.proofs.ValuesAt.{are_same-Decides}
use Rattle.schema_rules.specs.declared.forms.Form.TheVariants as form
use Rattle.rep_calls.specs.declared.call.Part.{Part}
use Rattle.rep_calls.specs.declared.call.Call.{Call}
use Rattle.rep_calls.specs.declared.call.Call.TheVariants.{Insert, Update, Delete}
use Rattle.rep_calls.specs.declared.call.Txn.{Txn}
use Rattle.conflict_detect.specs.Fits.{CallFits, table_of}
use Rattle.conflict_detect.specs.ChangeCalls.{part_between, parts_between, call_between, call_of}
use Rattle.unique_resolve.specs.Numbers.{Numbers, AreCounters}
use Rattle.txn_effects.specs.Calls.{Effect, RowEffect, row_named, row_effect, call_effect}
use Rattle.txn_effects.specs.Transactions.{failing_at, effect_behind, calls_effect}
use Rattle.txn_effects.specs.Contents.{Content, IsContent, effect_on}
use Rattle.txn_effects.proofs.Results.{result_then-Ok}
use Rattle.txn_effects.proofs.TransactionEffects.{IsApplied-call_effect}
use Rattle.txn_effects.specs.Convergent.{is_convergent}
use Rattle.rep_laws.specs.Commuting.{IsSound}
use Rattle.rep_laws.proofs.SoundSchemas.{HasKeys-sound, KeysStandAlone-sound}
use Rattle.rep_laws.specs.GroupForms.{form_at, wins, KeepsForms}
use Rattle.convergence_laws.specs.Joins.{is_row, candidates_of, is_winner}
use Rattle.convergence_laws.specs.Journals.{IsSoundTxn}
use Rattle.convergence_laws.specs.Collections.{Among}
use Rattle.convergence_laws.proofs.Moves.{DecisionLaws}
use Rattle.convergence_laws.proofs.AnyOrder.{among_any}
use Rattle.convergence_laws.proofs.Winners.{moved_by, IsJoin-moved_by}
use Rattle.rep_laws.proofs.ConvergentRows.{StandsAlone-convergent, Leaves-insert, Leaves-update}
use Rattle.convergence_laws.proofs.RowsCome.{parts_move}
use Rattle.convergence_laws.proofs.CallsCome.{failing_at-Ok, behind-Ok}
use Rattle.convergence_laws.specs.Pairs.{made_by, made_in}
use Rattle.convergence_laws.proofs.Counting.{among_left, among_right, among_either}
use Rattle.convergence_laws.proofs.OwnPairs.{made_in-append}

no_element : {X : Type 0} (x : X) (xs : List X) → xs ≡ [] → Among x xs → ⊥
no_element x xs none among = subst (Among x) none among

module _ (schema : Schema) (sound : IsSound schema) (decides : DecisionLaws) (table group stamp own : ℕ) (key : Cells) (convergent : is_convergent schema table ≡ true) (has : form_at schema table group ≡ Some (form.Latest stamp own)) where
  abbrev places : List ℕ
  places = group_columns_of schema table group

  abbrev made : Call → List Cells
  made call = made_by schema table key group call

  other_row : (t : ℕ) (k : Cells) → t ≢ table → is_row table key t k ≡ false
  other_row t k differ = rw (ne_eqb t table differ) refl

  -- a call on another table makes nothing here
  made_elsewhere : (t : ℕ) (before after : Option Cells) → t ≢ table → made (call_between schema t before after) ≡ []
  made_elsewhere t None None differ = rw (other_row t [] differ) refl
  made_elsewhere t None (Some row) differ = rw (other_row t (key_of (columns_of schema t) row) differ) refl
  made_elsewhere t (Some row) None differ = refl
  made_elsewhere t (Some before) (Some after) differ = rw (other_row t (key_of (columns_of schema t) before) differ) refl

  -- ---- an update

  module _ (before after : Cells) where
    abbrev mine : List Part → List Part
    mine parts = filter (λ (part : Part). part.group == group) parts

    among_between : (gs : List ℕ) (v : Cells) → Among v (map (λ (part : Part). part.new) (mine (map (part_between schema table before after) (filter (differ_in schema table before after) gs))))
        → (v ≡ group_values schema table group after) × (differ_in schema table before after group ≡ true)
    among_between [] v among = absurd among
    among_between (g ∷ gs) v among = go (differ_in schema table before after g) refl among (among_between gs v)
      where
        rest : List Part
        rest = map (part_between schema table before after) (filter (differ_in schema table before after) gs)

        by : (b : Bool) → (g == group) ≡ b → (b ≡ true → g ≡ group) → differ_in schema table before after g ≡ true → Among v (map (λ (part : Part). part.new) (cond b (part_between schema table before after g ∷ mine rest) (mine rest)))
            → (Among v (map (λ (part : Part). part.new) (mine rest)) → (v ≡ group_values schema table group after) × (differ_in schema table before after group ≡ true))
            → (v ≡ group_values schema table group after) × (differ_in schema table before after group ≡ true)
        by true is same differs (inl here) later = (sym here ∙ ap (λ h. group_values schema table h after) (same refl), subst (λ h. differ_in schema table before after h ≡ true) (same refl) differs)
        by true is same differs (inr among) later = later among
        by false is same differs among later = later among

        go : (b : Bool) → differ_in schema table before after g ≡ b → Among v (map (λ (part : Part). part.new) (mine (map (part_between schema table before after) (cond b (g ∷ filter (differ_in schema table before after) gs) (filter (differ_in schema table before after) gs)))))
            → (Among v (map (λ (part : Part). part.new) (mine rest)) → (v ≡ group_values schema table group after) × (differ_in schema table before after group ≡ true))
            → (v ≡ group_values schema table group after) × (differ_in schema table before after group ≡ true)
        go true differs among later = by (g == group) refl (λ e. eqb-true g group e) differs among later
        go false differs among later = later among

    -- values that parts moved elsewhere are those of a part
    moved_among : (parts : List Part) → group_values schema table group after ≡ moved_by schema places (form.Latest stamp own) (group_values schema table group before) (mine parts)
        → differ_in schema table before after group ≡ true → Among (group_values schema table group after) (map (λ (part : Part). part.new) (mine parts))
    moved_among parts moved differs = go (among_any (group_values schema table group after) (candidates_of (group_values schema table group before) (mine parts))
        (first_so (list_any (λ values. are_same values (group_values schema table group after)) (candidates_of (group_values schema table group before) (mine parts)))
        (list_all (λ values. not (is_gt (wins schema places (form.Latest stamp own) values (group_values schema table group after)))) (candidates_of (group_values schema table group before) (mine parts)))
        (subst (λ now. is_winner schema places (form.Latest stamp own) (candidates_of (group_values schema table group before) (mine parts)) now ≡ true) (sym moved)
        (IsJoin-moved_by schema places (form.Latest stamp own) (group_values schema table group before) (mine parts)))))
      where
        go : Among (group_values schema table group after) (candidates_of (group_values schema table group before) (mine parts)) → Among (group_values schema table group after) (map (λ (part : Part). part.new) (mine parts))
        go (inl same) = let alike = (are_same-Decides (group_values schema table group before) (group_values schema table group after)).1 same in absurd (true≢false (sym differs ∙ (rw alike refl)))
        go (inr among) = among

  -- ---- one call

  module _ (tables : List Rows) (numbers : Numbers) (origin : SiteName) (are : AreTables schema tables) where
    here_among : (call : Call) (effect : RowEffect) → table_of call ≡ table → CallFits schema call → KeepsForms schema call
        → row_effect schema tables numbers origin call (row_named schema tables call) ≡ Ok effect
        → (v : Cells) → Among v (made (call_between schema (table_of call) (row_named schema tables call) effect.after)) → Among v (made call)
    here_among (Insert t row) effect same fits keeps gives v among =
        let left = Leaves-insert schema tables numbers origin t (StandsAlone-convergent schema sound t (subst (λ u. is_convergent schema u ≡ true) (sym same) convergent)) row (row_named schema tables (Insert t row)) effect refl gives in
        subst (λ a. Among v (made (call_between schema t None a))) left.1 (subst (λ b. Among v (made (call_between schema t b effect.after))) left.0 among)
    here_among (Update t k parts) effect same fits keeps gives v among =
        let on : is_convergent schema t ≡ true = subst (λ u. is_convergent schema u ≡ true) (sym same) convergent in
        let left = Leaves-update schema tables numbers origin t (StandsAlone-convergent schema sound t on) k parts (row_named schema tables (Update t k parts)) effect gives in
        let row_fits : RowFits (columns_of schema t) left.0 = found_row (columns_of schema t) k left.0 (rows_of tables t) left.1 (RowFits (columns_of schema t)) (are.each t fits.table).fit in
        let its : form_at schema t group ≡ Some (form.Latest stamp own) = subst (λ u. form_at schema u group ≡ Some (form.Latest stamp own)) (sym same) has in
        let moved = parts_move schema sound decides t group on (form.Latest stamp own) its parts left.0 left.2 fits.content.parts_fit (keeps on) row_fits left.3 in
        update_among t k parts left.0 left.2 same (key_of-found (columns_of schema t) k left.0 (rows_of tables t) left.1) (subst (λ u. group_values schema u group left.2 ≡ moved_by schema (group_columns_of schema u group) (form.Latest stamp own) (group_values schema u group left.0) (filter (λ (part : Part). part.group == group) parts)) same moved) v
        (subst (λ a. Among v (made (call_between schema t (Some left.0) a))) left.4 (subst (λ b. Among v (made (call_between schema t b effect.after))) left.1 among))
      where
        update_among : (t : ℕ) (k : Cells) (parts : List Part) (found row : Cells) → t ≡ table → key_of (columns_of schema t) found ≡ k
            → group_values schema table group row ≡ moved_by schema places (form.Latest stamp own) (group_values schema table group found) (filter (λ (part : Part). part.group == group) parts)
            → (v : Cells) → Among v (made (call_between schema t (Some found) (Some row))) → Among v (made (Update t k parts))
        update_among t k parts found row same named moved v among = go (is_row table key t k) refl (rw named at among)
          where
            go : (b : Bool) → is_row table key t k ≡ b → Among v (map (λ (part : Part). part.new) (cond b (filter (λ (part : Part). part.group == group) (parts_between schema t found row)) []))
                → Among v (map (λ (part : Part). part.new) (cond b (filter (λ (part : Part). part.group == group) parts) []))
            go false is among = absurd among
            go true is among =
                let between = among_between found row (group_numbers_of schema table) v (subst (λ u. Among v (map (λ (part : Part). part.new) (filter (λ (part : Part). part.group == group) (parts_between schema u found row)))) same among) in
                subst (λ w. Among w (map (λ (part : Part). part.new) (filter (λ (part : Part). part.group == group) parts))) (sym between.0) (moved_among found row parts moved between.1)
    here_among (Delete t row) effect same fits keeps gives v among = absurd (true≢false (sym convergent ∙ ap (is_convergent schema) (sym same) ∙ keeps))

    change_among : (call : Call) (effect : RowEffect) → CallFits schema call → KeepsForms schema call → row_effect schema tables numbers origin call (row_named schema tables call) ≡ Ok effect
        → (v : Cells) → Among v (made (call_between schema (table_of call) (row_named schema tables call) effect.after)) → Among v (made call)
    change_among call effect fits keeps gives v among = elim (eqb_tells (table_of call) table) [
      | inl same ↦ here_among call effect same.1 fits keeps gives v among
      | inr other ↦ absurd (no_element v _ (made_elsewhere (table_of call) (row_named schema tables call) effect.after other.1) among)
    ]

  -- where a row changed
  changes_among : (t : ℕ) (before after : Option Cells) (v : Cells) → Among v (made_in schema table key group (map (call_of schema) (changes_between t before after))) → Among v (made (call_between schema t before after))
  changes_among t before after v among = go (is_unchanged before after) among
    where
      go : (b : Bool) → Among v (made_in schema table key group (map (call_of schema) (cond b [] (record { table = t; before = before; after = after } ∷ [])))) → Among v (made (call_between schema t before after))
      go true among = absurd among
      go false among = elim (among_either v (made (call_between schema t before after)) [] among) [ inl one ↦ one | inr none ↦ absurd none ]

  call_changes_among : (call : Call) (tables : List Rows) (numbers : Numbers) (origin : SiteName) (one : Effect) → AreTables schema tables → CallFits schema call → KeepsForms schema call
      → call_effect schema tables numbers origin call ≡ Ok one → (v : Cells) → Among v (made_in schema table key group (map (call_of schema) one.changes)) → Among v (made call)
  call_changes_among call tables numbers origin one are fits keeps gives v among =
      let some = result_then-Ok (row_effect schema tables numbers origin call (row_named schema tables call))
      (λ (x : RowEffect). Ok (record { changes = changes_between (table_of call) (row_named schema tables call) x.after; numbers = x.numbers })) one gives in
      let is : record { changes = changes_between (table_of call) (row_named schema tables call) some.0.after; numbers = some.0.numbers } ≡ one = cc (some.2) in
      change_among tables numbers origin are call some.0 fits keeps some.1 v
      (changes_among (table_of call) (row_named schema tables call) some.0.after v (subst (λ (x : Effect). Among v (made_in schema table key group (map (call_of schema) x.changes))) (sym is) among))

  calls_changes_among : (number : ℕ) (calls : List Call) (tables : List Rows) (numbers : Numbers) (origin : SiteName) (effect : Effect) → AreTables schema tables → AreCounters schema numbers
      → AllByRecursion (CallFits schema) calls → AllByRecursion (KeepsForms schema) calls → calls_effect schema origin number calls tables numbers ≡ Ok effect
      → (v : Cells) → Among v (made_in schema table key group (map (call_of schema) effect.changes)) → Among v (made_in schema table key group calls)
  calls_changes_among number [] tables numbers origin effect are counters fit keep gives v among =
      let is : record { changes = []; numbers = numbers } ≡ effect = cc in
      subst (λ (x : Effect). Among v (made_in schema table key group (map (call_of schema) x.changes))) (sym is) among
  calls_changes_among number (call ∷ calls) tables numbers origin effect are counters fit keep gives v among =
      let some = result_then-Ok (failing_at number (call_effect schema tables numbers origin call))
      (λ (x : Effect). effect_behind x.changes (calls_effect schema origin (number + 1) calls (after_changes schema x.changes tables) x.numbers)) effect gives in
      let one : Effect = some.0 in
      let first = failing_at-Ok number (call_effect schema tables numbers origin call) one some.1 in
      let applied = IsApplied-call_effect schema origin sound.shape (HasKeys-sound schema sound.unbroken sound.shape) (KeysStandAlone-sound schema sound.unbroken) call tables numbers one are counters fit.0 first in
      let rest = behind-Ok one.changes (calls_effect schema origin (number + 1) calls (after_changes schema one.changes tables) one.numbers) effect some.2 in
      let here : Among v (made_in schema table key group (map (call_of schema) (one.changes ++ rest.0.changes))) = subst (λ (x : Effect). Among v (made_in schema table key group (map (call_of schema) x.changes))) (sym rest.2) among in
      elim (among_either v (made_in schema table key group (map (call_of schema) one.changes)) (made_in schema table key group (map (call_of schema) rest.0.changes))
      (subst (Among v) (ap (made_in schema table key group) (map-append (call_of schema) one.changes rest.0.changes) ∙ made_in-append schema table key group (map (call_of schema) one.changes) (map (call_of schema) rest.0.changes)) here)) [
        | inl now ↦ among_left v (made call) (made_in schema table key group calls) (call_changes_among call tables numbers origin one are fit.0 keep.0 first v now)
        | inr later ↦ among_right v (made call) (made_in schema table key group calls)
            (calls_changes_among (number + 1) calls (after_changes schema one.changes tables) one.numbers origin rest.0 applied.are applied.counters fit.1 keep.1 rest.1 v later)
      ]

  -- what goes onward makes nothing new
  pub onward_among : (origin : SiteName) (txn : Txn) (content : Content) (effect : Effect) → IsContent schema content → IsSoundTxn schema txn → effect_on schema origin txn content ≡ Ok effect
      → (v : Cells) → Among v (made_in schema table key group (map (call_of schema) effect.changes)) → Among v (made_in schema table key group txn.calls)
  onward_among origin txn content effect is txn_sound gives v among =
      calls_changes_among 1 txn.calls content.tables content.numbers origin effect is.tables is.counters txn_sound.fits.calls txn_sound.keeps gives v among
