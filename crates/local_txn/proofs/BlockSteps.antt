-- One statement after another.
use Rattle.std.proofs.Common.{◌≡◌, ◌⊎◌, ℕ, ◌+◌, ◌≤◌, List, [], ◌∷◌, ◌++◌, length, drop, Ok, Err, refl, sym, ap, ◌∙◌, subst, inl, inr, arith, append_assoc, append-nil}
use Rattle.std.specs.Prelude.{None, Result}
use Rattle.rep_values.specs.declared.refusal.Refusal.{Refusal}
use Rattle.rep_schema.specs.declared.schema.Schema.{Schema}
use Rattle.rep_schema.specs.declared.change.Change.{Change}
use Rattle.rep_schema.specs.Shape.{HasShape}
use Rattle.rep_schema.specs.Tables.{Rows, AreTables}
use Rattle.rep_schema.specs.Changes.{room_for}
use Rattle.rep_schema.specs.Putting.{after_changes}
use Rattle.rep_schema.proofs.Leading.{room_for-append}
use Rattle.rep_schema.proofs.Making.{after_changes-append, room_for-length}
use Rattle.rep_calls.specs.declared.statement.Statement.{Statement}
use Rattle.txn_effects.specs.Calls.{KeysStandAlone}
use Rattle.conflict_detect.specs.KeysNamed.{HasKeys}
use Rattle.txn_effects.specs.Laws.{IsApplied}
use Rattle.txn_effects.proofs.TransactionEffects.{IsApplied-then}
use Rattle.txn_effects.specs.declared.local.Here.{Here}
use Rattle.txn_effects.specs.declared.local.LocalStop.{LocalStop}
use Rattle.txn_effects.specs.Statements.{BlockState, statement_refusal, statement_changes, block_state_after}
use Rattle.txn_effects.specs.Locals.{BlockEffect, block_effect_behind, statements_effect}
use Rattle.local_txn.specs.Running.{StatementStopsAs, StopsAt, EndsAs}
use Rattle.txn_effects.proofs.StatementEffects.{effect_with}
use Rattle.txn_effects.proofs.StatementsApplied.{IsApplied-one}

behind-none : (result : Result BlockEffect LocalStop) → block_effect_behind [] result ≡ result
behind-none (Ok later) = refl
behind-none (Err stop) = refl

behind-behind : (changes others : List Change) (result : Result BlockEffect LocalStop) → block_effect_behind changes (block_effect_behind others result) ≡ block_effect_behind (changes ++ others) result
behind-behind changes others (Ok later) = ap (λ cs. Ok (record { changes = cs; stamps = later.stamps })) (sym (append_assoc changes others later.changes))
behind-behind changes others (Err stop) = refl

-- there is room for the changes so far and those of one more statement
pub room_for-more : (t : ℕ) (done changes : List Change) (spare spare' rows : ℕ) → room_for t done ≤ spare → (rows ≤ spare') ⊎ ((spare ≤ spare') × (room_for t changes ≡ 0))
    → length (done ++ changes) ≤ rows → room_for t (done ++ changes) ≤ spare'
room_for-more t done changes spare spare' rows so_far either few = elim either [
  | inl enough ↦ omega (arith, enough, few, room_for-length t (done ++ changes))
  | inr both ↦ let sum = room_for-append t done changes in omega (arith, both.0, both.1, so_far, sum)
]

module _ (schema : Schema) (here : Here) where
  module _ (shape : HasShape schema) (keys : HasKeys schema) (apart : KeysStandAlone schema) where
    -- and behind others
    pub IsApplied-more : (before : List Rows) (now : BlockState) (done : List Change) (statement : Statement) → now.tables ≡ after_changes schema done before → IsApplied schema before (effect_with schema done)
        → statement_refusal schema here now statement ≡ None → IsApplied schema before (effect_with schema (done ++ statement_changes schema here now statement))
    IsApplied-more before now done statement made applied none =
        let are : AreTables schema now.tables = subst (AreTables schema) (sym made) applied.are in
        let changes = statement_changes schema here now statement in
        let one : IsApplied schema now.tables (effect_with schema changes) = IsApplied-one schema here shape keys apart now statement are none in
        IsApplied-then schema before (effect_with schema done) (effect_with schema changes) applied (subst (λ (ts : List Rows). IsApplied schema ts (effect_with schema changes)) made one)

  pub made_all-more : (before now : List Rows) (done changes : List Change) → now ≡ after_changes schema done before → after_changes schema changes now ≡ after_changes schema (done ++ changes) before
  made_all-more before now done changes made = ap (after_changes schema changes) made ∙ sym (after_changes-append schema done changes before)

  -- none has run yet
  pub so_far-none : (statements : List Statement) (standing : BlockState) → statements_effect schema here 1 statements standing ≡ block_effect_behind [] (statements_effect schema here 1 statements standing)
  so_far-none statements standing = sym (behind-none (statements_effect schema here 1 statements standing))

  -- what the statements so far have done, by where the block stands now: what the statements behind them do from there decides
  module _ (statements : List Statement) (first now : BlockState) (done : List Change) (i : ℕ)
      (so_far : statements_effect schema here 1 statements first ≡ block_effect_behind done (statements_effect schema here (i + 1) (drop i statements) now)) where
    module _ (statement : Statement) (at : drop i statements ≡ statement ∷ drop (i + 1) statements) where
      -- one more that isn't refused
      pub so_far-Ok : statement_refusal schema here now statement ≡ None
          → statements_effect schema here 1 statements first
          ≡ block_effect_behind (done ++ statement_changes schema here now statement) (statements_effect schema here (i + 1 + 1) (drop (i + 1) statements) (block_state_after schema here now statement))
      so_far-Ok none =
          so_far ∙ rw (at, none) (behind-behind done (statement_changes schema here now statement) (statements_effect schema here (i + 1 + 1) (drop (i + 1) statements) (block_state_after schema here now statement)))

      -- one that is
      pub so_far-Err : (why : Refusal) (stop : LocalStop) → StatementStopsAs (statement_refusal schema here now statement) why → StopsAt (i + 1) why stop
          → EndsAs (statements_effect schema here 1 statements first) stop
      so_far-Err why stop stops (inl memory) = inl memory
      so_far-Err why stop (inl free) (inr refused) = absurd (refused.0 free)
      so_far-Err why stop (inr refuses) (inr refused) = inr (so_far ∙ rw (at, refuses, refused.1) refl)

    -- no more
    pub so_far-all : drop i statements ≡ [] → statements_effect schema here 1 statements first ≡ Ok (record { changes = done; stamps = now.stamps })
    so_far-all none = so_far ∙ rw (none, append-nil done) refl
