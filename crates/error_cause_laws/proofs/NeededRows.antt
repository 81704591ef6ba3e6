-- The rows that a transaction needs: those that its calls name and that it doesn't insert itself. It succeeds only where they
-- are there.
use Rattle.std.proofs.Common.{◌≡◌, ◌≢◌, ℕ, ◌+◌, Bool, true, false, cond, List, [], ◌∷◌, ◌++◌, Some, None, Ok, refl, sym, ap, ◌∙◌, subst, append-nil}
use mathlib.Core.Bool.{true≢false}
use Rattle.std.specs.Prelude.{Option, ◌==◌}
use Rattle.std.specs.List.{AllByRecursion}
use Rattle.std.proofs.lemmas.Bool.{and_parts, eqb-true}
use Rattle.rep_values.specs.declared.name.SiteName.{SiteName}
use Rattle.rep_schema.specs.declared.schema.Schema.{Schema}
use Rattle.rep_schema.specs.declared.change.Change.{Change}
use Rattle.rep_schema.specs.Tables.{Cells, Rows, columns_of, key_of, find_row, rows_of, AreTables}
use Rattle.rep_schema.specs.Groups.{are_same}
use Rattle.rep_schema.specs.Putting.{changes_between, after_changes}
use Rattle.rep_schema.proofs.ValuesAt.{are_same-Decides}
use Rattle.rep_calls.specs.declared.call.Call.{Call}
use Rattle.rep_calls.specs.declared.call.Call.TheVariants.{Insert, Update, Delete}
use Rattle.rep_calls.specs.declared.call.Txn.{Txn}
use Rattle.conflict_detect.specs.Fits.{CallFits, table_of}
use Rattle.unique_resolve.specs.Numbers.{Numbers, AreCounters}
use Rattle.txn_effects.specs.Calls.{Effect, RowEffect, row_named, row_effect, call_effect}
use Rattle.conflict_detect.specs.KeysNamed.{key_named}
use Rattle.txn_effects.specs.Transactions.{failing_at, effect_behind, calls_effect}
use Rattle.txn_effects.specs.Contents.{Content, IsContent, effect_on}
use Rattle.txn_effects.proofs.Results.{result_then-Ok}
use Rattle.txn_effects.proofs.TransactionEffects.{IsApplied-call_effect, IsApplied-txn_effect}
use Rattle.txn_effects.proofs.OwnCalls.{calls_effect-own}
use Rattle.txn_effects.specs.Convergent.{is_convergent}
use Rattle.rep_laws.specs.Commuting.{IsSound}
use Rattle.rep_laws.proofs.SoundSchemas.{HasKeys-sound, KeysStandAlone-sound}
use Rattle.rep_laws.proofs.ContentAfter.{CanApply-IsContent}
use Rattle.dependency_index.specs.declared.token.Token.{Token}
use Rattle.dependency_index.specs.declared.token.Token.TheVariants as token
use Rattle.dependency_index.specs.Tokens.{txn_tokens, has_token}
use Rattle.rep_laws.proofs.SharedTokens.{has_token-share_token}
use Rattle.rep_laws.proofs.TokenTests.{Covers, each_covered}
use Rattle.site_state.specs.Contents.{txn_of}
use Rattle.site_state.specs.Streams.{shares}
use Rattle.convergence_laws.specs.Faults.{is_insert}
use Rattle.rep_laws.specs.GroupForms.{KeepsForms}
use Rattle.convergence_laws.specs.Joins.{is_row, inserts_for, inserts_in}
use Rattle.convergence_laws.specs.Journals.{IsSoundTxn}
use Rattle.convergence_laws.proofs.Moves.{DecisionLaws}
use Rattle.convergence_laws.proofs.CallsCome.{failing_at-Ok, behind-Ok, calls_come}

-- ---- what a transaction needs

-- a transaction needs a row: one of its calls, which is no insert, names the row, and no call before it inserts the row
pub record Needs (schema : Schema) (table : ℕ) (key : Cells) (txn : Txn) : Type 0 where
  pub done : List Call
  pub call : Call
  pub rest : List Call
  pub whole : txn.calls ≡ done ++ call ∷ rest
  pub on : table_of call ≡ table
  pub names : key_named schema call ≡ key
  pub plain : is_insert call ≡ false
  pub none : inserts_in schema table key done ≡ []

front_none : {X : Type 0} (xs ys : List X) → xs ++ ys ≡ [] → (xs ≡ []) × (ys ≡ [])
front_none [] ys e = (refl, e)
front_none (x ∷ xs) ys e = cc

no_row : (schema : Schema) (tables : List Rows) (numbers : Numbers) (origin : SiteName) (call : Call) (before : Option Cells) (effect : RowEffect) → is_insert call ≡ false → before ≡ None
    → row_effect schema tables numbers origin call before ≡ Ok effect → ⊥
no_row schema tables numbers origin (Insert table row) before effect plain none gives = cc
no_row schema tables numbers origin (Update table key parts) None effect plain none gives = cc
no_row schema tables numbers origin (Update table key parts) (Some row) effect plain none gives = cc
no_row schema tables numbers origin (Delete table row) None effect plain none gives = cc
no_row schema tables numbers origin (Delete table row) (Some found) effect plain none gives = cc

module _ (schema : Schema) (sound : IsSound schema) (decides : DecisionLaws) (table : ℕ) (convergent : is_convergent schema table ≡ true) (key : Cells) (origin : SiteName) where
  abbrev row_of : List Rows → Option Cells
  row_of tables = find_row (columns_of schema table) key (rows_of tables table)

  -- a call that names the row succeeds only where it is there
  call_needs : (call : Call) (tables : List Rows) (numbers : Numbers) (one : Effect) → call_effect schema tables numbers origin call ≡ Ok one → table_of call ≡ table → key_named schema call ≡ key → is_insert call ≡ false
      → row_of tables ≡ None → ⊥
  call_needs call tables numbers one gives on names plain none =
      let some = result_then-Ok (row_effect schema tables numbers origin call (row_named schema tables call))
      (λ (x : RowEffect). Ok (record { changes = changes_between (table_of call) (row_named schema tables call) x.after; numbers = x.numbers })) one gives in
      let named : row_named schema tables call ≡ row_of tables =
      ap (λ (t : ℕ). find_row (columns_of schema t) (key_named schema call) (rows_of tables t)) on ∙ ap (λ (k : Cells). find_row (columns_of schema table) k (rows_of tables table)) names in
      no_row schema tables numbers origin call (row_named schema tables call) some.0 plain (named ∙ none) some.1

  needs_on : (number : ℕ) (done : List Call) (call : Call) (rest : List Call) (tables : List Rows) (numbers : Numbers) (effect : Effect) → AreTables schema tables → AreCounters schema numbers
      → AllByRecursion (CallFits schema) (done ++ call ∷ rest) → AllByRecursion (KeepsForms schema) (done ++ call ∷ rest) → calls_effect schema origin number (done ++ call ∷ rest) tables numbers ≡ Ok effect
      → table_of call ≡ table → key_named schema call ≡ key → is_insert call ≡ false → inserts_in schema table key done ≡ [] → row_of tables ≡ None → ⊥
  needs_on number [] call rest tables numbers effect are counters fit keep gives on names plain inserts none =
      let some = result_then-Ok (failing_at number (call_effect schema tables numbers origin call))
      (λ (x : Effect). effect_behind x.changes (calls_effect schema origin (number + 1) rest (after_changes schema x.changes tables) x.numbers)) effect gives in
      call_needs call tables numbers some.0 (failing_at-Ok number (call_effect schema tables numbers origin call) some.0 some.1) on names plain none
  needs_on number (d ∷ ds) call rest tables numbers effect are counters fit keep gives on names plain inserts none =
      let some = result_then-Ok (failing_at number (call_effect schema tables numbers origin d))
      (λ (x : Effect). effect_behind x.changes (calls_effect schema origin (number + 1) (ds ++ call ∷ rest) (after_changes schema x.changes tables) x.numbers)) effect gives in
      let one : Effect = some.0 in
      let first = failing_at-Ok number (call_effect schema tables numbers origin d) one some.1 in
      let applied = IsApplied-call_effect schema origin sound.shape (HasKeys-sound schema sound.unbroken sound.shape) (KeysStandAlone-sound schema sound.unbroken) d tables numbers one are counters fit.0 first in
      let later = behind-Ok one.changes (calls_effect schema origin (number + 1) (ds ++ call ∷ rest) (after_changes schema one.changes tables) one.numbers) effect some.2 in
      let parts = front_none (inserts_for schema table key d) (inserts_in schema table key ds) inserts in
      needs_on (number + 1) ds call rest (after_changes schema one.changes tables) one.numbers later.0 applied.are applied.counters fit.1 keep.1 later.1 on names plain parts.1
      (still_none one first parts.0)
    where
      still_none : (one : Effect) → call_effect schema tables numbers origin d ≡ Ok one → inserts_for schema table key d ≡ [] → row_of (after_changes schema one.changes tables) ≡ None
      still_none one first none_inserted =
          let came = calls_come schema sound decides table 0 convergent key number (d ∷ []) tables numbers origin (record { changes = one.changes ++ []; numbers = one.numbers }) are counters (fit.0, tt) (keep.0, tt)
          (rw first refl) in
          subst (λ (cs : List Change). row_of (after_changes schema cs tables) ≡ None) (append-nil one.changes) (came.absent (rw (none, none_inserted) refl))

  -- a transaction that succeeds finds there what it needs
  pub needs_row : (txn : Txn) (content : Content) (effect : Effect) → IsContent schema content → IsSoundTxn schema txn → effect_on schema origin txn content ≡ Ok effect → Needs schema table key txn
      → row_of content.tables ≢ None
  needs_row txn content effect is txn_sound gives needs none =
      needs_on 1 needs.done needs.call needs.rest content.tables content.numbers effect is.tables is.counters
      (subst (AllByRecursion (CallFits schema)) needs.whole txn_sound.fits.calls) (subst (AllByRecursion (KeepsForms schema)) needs.whole txn_sound.keeps)
      (subst (λ (cs : List Call). calls_effect schema origin 1 cs content.tables content.numbers ≡ Ok effect) needs.whole gives) needs.on needs.names needs.plain needs.none none

  -- so does what is sent on of it
  pub onward_gives : (txn : Txn) (content : Content) (effect : Effect) → IsContent schema content → IsSoundTxn schema txn → effect_on schema origin txn content ≡ Ok effect
      → effect_on schema origin (txn_of schema effect.changes) content ≡ Ok (record { changes = effect.changes; numbers = content.numbers })
  onward_gives txn content effect is txn_sound gives =
      let applied = IsApplied-txn_effect schema origin txn content.tables content.numbers effect (CanApply-IsContent schema sound origin txn txn_sound.fits content is) gives in
      calls_effect-own schema origin content.numbers 1 effect.changes content.tables (after_changes schema effect.changes content.tables) sound.shape is.tables applied.leads applied.differ applied.checked

-- ---- tokens

middle : {X : Type 0} (P : X → Type 0) (done : List X) (x : X) (rest : List X) → AllByRecursion P (done ++ x ∷ rest) → P x
middle P [] x rest all = all.0
middle P (y ∷ done) x rest all = middle P done x rest all.1

module _ (schema : Schema) (table : ℕ) (key : Cells) where
  inserted_covered : (tokens : List Token) (calls : List Call) → AllByRecursion (Covers schema tokens) calls → inserts_in schema table key calls ≢ [] → has_token tokens (token.Key table key) ≡ true
  inserted_covered tokens [] covers some = absurd (some refl)
  inserted_covered tokens (Insert t row ∷ calls) covers some = go (is_row table key t (key_of (columns_of schema t) row)) refl some (inserted_covered tokens calls covers.1)
    where
      go : (b : Bool) → is_row table key t (key_of (columns_of schema t) row) ≡ b → cond b (row ∷ []) [] ++ inserts_in schema table key calls ≢ []
          → (inserts_in schema table key calls ≢ [] → has_token tokens (token.Key table key) ≡ true) → has_token tokens (token.Key table key) ≡ true
      go false is some later = later some
      go true is some later =
          let both = and_parts (t == table) (are_same (key_of (columns_of schema t) row) key) is in
          let tables : t ≡ table = eqb-true t table both.0 in
          let keys : key_of (columns_of schema t) row ≡ key = (are_same-Decides (key_of (columns_of schema t) row) key).0 both.1 in
          subst (λ (k : Cells). has_token tokens (token.Key table k) ≡ true) keys (subst (λ (n : ℕ). has_token tokens (token.Key n (key_of (columns_of schema t) row)) ≡ true) tables covers.0.row)
  inserted_covered tokens (Update t k parts ∷ calls) covers some = inserted_covered tokens calls covers.1 some
  inserted_covered tokens (Delete t row ∷ calls) covers some = inserted_covered tokens calls covers.1 some

  -- what needs a row shares a token with what inserts it
  pub needs_shares : (txn other : Txn) → Needs schema table key txn → inserts_in schema table key other.calls ≢ [] → shares schema txn other ≡ true
  needs_shares txn other needs inserts = go (shares schema txn other) refl
    where
      named : has_token (txn_tokens schema txn) (token.Key (table_of needs.call) (key_named schema needs.call)) ≡ true
      named = (middle (Covers schema (txn_tokens schema txn)) needs.done needs.call needs.rest
          (subst (AllByRecursion (Covers schema (txn_tokens schema txn))) needs.whole (each_covered schema (txn_tokens schema txn) txn.calls (λ one there. there)))).row

      own : has_token (txn_tokens schema txn) (token.Key table key) ≡ true
      own = subst (λ (k : Cells). has_token (txn_tokens schema txn) (token.Key table k) ≡ true) needs.names
          (subst (λ (n : ℕ). has_token (txn_tokens schema txn) (token.Key n (key_named schema needs.call)) ≡ true) needs.on named)

      also : has_token (txn_tokens schema other) (token.Key table key) ≡ true
      also = inserted_covered (txn_tokens schema other) other.calls (each_covered schema (txn_tokens schema other) other.calls (λ one there. there)) inserts

      go : (b : Bool) → shares schema txn other ≡ b → b ≡ true
      go true is = refl
      go false is = absurd (true≢false (sym also ∙ has_token-share_token (txn_tokens schema txn) (txn_tokens schema other) is (token.Key table key) own))
