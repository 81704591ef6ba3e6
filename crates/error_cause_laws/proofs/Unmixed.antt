-- A transaction that is on a convergent table is on convergent tables alone, also where it is sent on.
use Rattle.std.proofs.Common.{◌≡◌, ℕ, ◌+◌, Bool, true, false, cond, List, [], ◌∷◌, ◌++◌, map, Some, None, Ok, refl, sym, ap, ◌∙◌, subst}
use Rattle.std.specs.Prelude.{Option, ◌||◌}
use Rattle.std.specs.List.{AllByRecursion, list_any}
use Rattle.rep_values.specs.declared.name.SiteName.{SiteName}
use Rattle.rep_schema.specs.declared.schema.Schema.{Schema}
use Rattle.rep_schema.specs.declared.change.Change.{Change}
use Rattle.rep_schema.specs.Tables.{Cells, Rows}
use Rattle.rep_schema.specs.Putting.{is_unchanged, changes_between, after_changes}
use Rattle.rep_calls.specs.declared.call.Call.{Call}
use Rattle.rep_calls.specs.declared.call.Txn.{Txn}
use Rattle.conflict_detect.specs.Fits.{table_of}
use Rattle.conflict_detect.specs.ChangeCalls.{call_between, call_of}
use Rattle.unique_resolve.specs.Numbers.{Numbers}
use Rattle.txn_effects.specs.Calls.{Effect, RowEffect, row_named, row_effect, call_effect}
use Rattle.txn_effects.specs.Transactions.{failing_at, effect_behind, calls_effect}
use Rattle.txn_effects.specs.Contents.{Content, effect_on}
use Rattle.txn_effects.proofs.Results.{result_then-Ok}
use Rattle.txn_effects.specs.declared.local.Here.{Here}
use Rattle.txn_effects.specs.declared.side.Side.{Side}
use Rattle.txn_effects.specs.declared.side.Side.TheVariants as which
use Rattle.txn_effects.specs.Convergent.{is_convergent, side_of}
use Rattle.site_state.specs.Contents.{txn_of}
use Rattle.convergence_laws.proofs.CallsCome.{failing_at-Ok, behind-Ok}
use Rattle.error_cause_laws.proofs.OwnChanges.{AreOwn}

-- all calls are on one side of the tables
pub record IsUnmixed (schema : Schema) (txn : Txn) : Type 0 where
  pub side : Side
  pub all : AllByRecursion (λ (call : Call). side_of schema (table_of call) ≡ side) txn.calls

module _ (schema : Schema) where
  abbrev Of : Side → List Change → Type 0
  Of side changes = AllByRecursion (λ (call : Call). side_of schema (table_of call) ≡ side) (map (call_of schema) changes)

  -- the call of a change is on its table
  table_of-between : (table : ℕ) (before after : Option Cells) → table_of (call_between schema table before after) ≡ table
  table_of-between table None None = refl
  table_of-between table None (Some row) = refl
  table_of-between table (Some row) None = refl
  table_of-between table (Some row) (Some other) = refl

  pub own_unmixed : (here : Here) (side : Side) (changes : List Change) → AreOwn schema here side changes → IsUnmixed schema (txn_of schema changes)
  own_unmixed here side changes own = record { side = side; all = go changes own }
    where
      go : (changes : List Change) → AreOwn schema here side changes → Of side changes
      go [] own = tt
      go (c ∷ cs) own = (ap (side_of schema) (table_of-between c.table c.before c.after) ∙ own.0.on_side, go cs own.1)

  of_append : (side : Side) (changes others : List Change) → Of side changes → Of side others → Of side (changes ++ others)
  of_append side [] others first rest = rest
  of_append side (c ∷ cs) others first rest = (first.0, of_append side cs others first.1 rest)

  between_of : (side : Side) (table : ℕ) (before after : Option Cells) → side_of schema table ≡ side → Of side (changes_between table before after)
  between_of side table before after on = go (is_unchanged before after)
    where
      go : (b : Bool) → Of side (cond b [] (record { table = table; before = before; after = after } ∷ []))
      go true = tt
      go false = (ap (side_of schema) (table_of-between table before after) ∙ on, tt)

  -- so are the changes that they make
  calls_of : (side : Side) (origin : SiteName) (number : ℕ) (calls : List Call) (tables : List Rows) (numbers : Numbers) (effect : Effect) → AllByRecursion (λ (call : Call). side_of schema (table_of call) ≡ side) calls
      → calls_effect schema origin number calls tables numbers ≡ Ok effect → Of side effect.changes
  calls_of side origin number [] tables numbers effect all gives =
      let is : record { changes = []; numbers = numbers } ≡ effect = cc in
      subst (λ (x : Effect). Of side x.changes) is tt
  calls_of side origin number (call ∷ calls) tables numbers effect all gives =
      let some = result_then-Ok (failing_at number (call_effect schema tables numbers origin call))
      (λ (x : Effect). effect_behind x.changes (calls_effect schema origin (number + 1) calls (after_changes schema x.changes tables) x.numbers)) effect gives in
      let one : Effect = some.0 in
      let first = failing_at-Ok number (call_effect schema tables numbers origin call) one some.1 in
      let row = result_then-Ok (row_effect schema tables numbers origin call (row_named schema tables call))
      (λ (x : RowEffect). Ok (record { changes = changes_between (table_of call) (row_named schema tables call) x.after; numbers = x.numbers })) one first in
      let made : record { changes = changes_between (table_of call) (row_named schema tables call) row.0.after; numbers = row.0.numbers } ≡ one = cc (row.2) in
      let rest = behind-Ok one.changes (calls_effect schema origin (number + 1) calls (after_changes schema one.changes tables) one.numbers) effect some.2 in
      subst (λ (x : Effect). Of side x.changes) rest.2
      (of_append side one.changes rest.0.changes
      (subst (λ (x : Effect). Of side x.changes) made (between_of side (table_of call) (row_named schema tables call) row.0.after all.0))
      (calls_of side origin (number + 1) calls (after_changes schema one.changes tables) one.numbers rest.0 all.1 rest.1))

  pub onward_unmixed : (origin : SiteName) (txn : Txn) (content : Content) (effect : Effect) → IsUnmixed schema txn → effect_on schema origin txn content ≡ Ok effect → IsUnmixed schema (txn_of schema effect.changes)
  onward_unmixed origin txn content effect unmixed gives = record { side = unmixed.side; all = calls_of unmixed.side origin 1 txn.calls content.tables content.numbers effect unmixed.all gives }

  -- where one call is on a convergent table, each is
  pub all_convergent : (txn : Txn) → IsUnmixed schema txn → list_any (λ (call : Call). is_convergent schema (table_of call)) txn.calls ≡ true → AllByRecursion (λ (call : Call). is_convergent schema (table_of call) ≡ true) txn.calls
  all_convergent txn unmixed some = each txn.calls (convergent_side txn.calls unmixed.all some) unmixed.all
    where
      side_on : (b : Bool) → b ≡ true → cond b which.Convergent which.Ordinary ≡ which.Convergent
      side_on true e = refl
      side_on false e = cc

      on_side : (b : Bool) → cond b which.Convergent which.Ordinary ≡ which.Convergent → b ≡ true
      on_side true e = refl
      on_side false e = cc

      convergent_side : (calls : List Call) → AllByRecursion (λ (call : Call). side_of schema (table_of call) ≡ unmixed.side) calls → list_any (λ (call : Call). is_convergent schema (table_of call)) calls ≡ true → unmixed.side ≡ which.Convergent
      convergent_side [] all any = cc
      convergent_side (c ∷ cs) all any = go (is_convergent schema (table_of c)) refl any (convergent_side cs all.1)
        where
          go : (b : Bool) → is_convergent schema (table_of c) ≡ b → (b || list_any (λ (call : Call). is_convergent schema (table_of call)) cs) ≡ true
              → (list_any (λ (call : Call). is_convergent schema (table_of call)) cs ≡ true → unmixed.side ≡ which.Convergent) → unmixed.side ≡ which.Convergent
          go true on any later = sym all.0 ∙ side_on (is_convergent schema (table_of c)) on
          go false on any later = later any

      each : (calls : List Call) → unmixed.side ≡ which.Convergent → AllByRecursion (λ (call : Call). side_of schema (table_of call) ≡ unmixed.side) calls → AllByRecursion (λ (call : Call). is_convergent schema (table_of call) ≡ true) calls
      each [] is all = tt
      each (c ∷ cs) is all = (on_side (is_convergent schema (table_of c)) (all.0 ∙ is), each cs is all.1)
