-- A transaction at two contents that agree on its tokens: it ends alike, they agree on them afterwards, and all else is as it was.
use Rattle.std.proofs.Common.{◌≡◌, ℕ, ◌+◌, List, [], ◌∷◌, ◌++◌, Ok, Err, refl, ap, ◌∙◌}
use Rattle.std.specs.Prelude.{Result}
use Rattle.std.specs.List.{AllByRecursion}
use Rattle.rep_values.specs.declared.name.SiteName.{SiteName}
use Rattle.rep_values.specs.declared.refusal.ApplyError.{ApplyError}
use Rattle.rep_schema.specs.declared.schema.Schema.{Schema}
use Rattle.rep_schema.specs.Tables.{Rows}
use Rattle.rep_schema.specs.Shape.{HasShape}
use Rattle.rep_calls.specs.declared.call.Call.{Call}
use Rattle.rep_calls.specs.declared.call.Txn.{Txn}
use Rattle.conflict_detect.specs.Fits.{CallFits}
use Rattle.txn_effects.specs.Parts.{result_then}
use Rattle.txn_effects.specs.Calls.{KeysStandAlone, Effect, call_effect}
use Rattle.conflict_detect.specs.KeysNamed.{HasKeys}
use Rattle.rep_schema.specs.Putting.{after_changes}
use Rattle.txn_effects.specs.Transactions.{Failure, failing_at, effect_behind, calls_effect, tables_by, numbers_by}
use Rattle.rep_schema.proofs.Making.{after_changes-append}
use Rattle.txn_effects.proofs.TransactionEffects.{IsApplied-call_effect}
use Rattle.rep_laws.proofs.SoundSchemas.{HasKeys-sound, KeysStandAlone-sound}
use Rattle.dependency_index.specs.declared.token.Token.{Token}
use Rattle.dependency_index.specs.Tokens.{txn_tokens}
use Rattle.txn_effects.specs.Contents.{Content, effect_on, IsContent}
use Rattle.rep_laws.specs.Commuting.{AgreeOn, AgreeOff, EndAlike, TouchesItsTokens, TransactionsTouchTheirTokens}
use Rattle.rep_laws.proofs.TokenTests.{Covers, each_covered}
use Rattle.rep_laws.proofs.CallTouches.{content_by, AgreeAfter, EndsAlikeOn, call_touches}

-- a content agrees with itself off tokens
AgreeOff-same : (schema : Schema) (tokens : List Token) (content : Content) → AgreeOff schema tokens content content
AgreeOff-same schema tokens content = record { rows = λ table key off. refl; constraints = λ table off. (λ key. refl, refl) }

-- and what agrees with it in two steps agrees with it
AgreeOff-then : (schema : Schema) (tokens : List Token) (last middle first : Content) → AgreeOff schema tokens last middle → AgreeOff schema tokens middle first → AgreeOff schema tokens last first
AgreeOff-then schema tokens last middle first later earlier = record {
  rows = λ table key off. later.rows table key off ∙ earlier.rows table key off;
  constraints = λ table off.
      let after = later.constraints table off in
      let before = earlier.constraints table off in
      (λ key. after.0 key ∙ before.0 key, after.1 ∙ before.1);
}

module _ (schema : Schema) (origin : SiteName) (tokens : List Token) (shape : HasShape schema) (keys : HasKeys schema) (apart : KeysStandAlone schema) where
  -- the effects of a call and of those behind it, as one
  abbrev joined : Effect → Effect → Effect
  joined one later = record { changes = one.changes ++ later.changes; numbers = later.numbers }

  content_by-joined : (one later : Effect) (content : Content) → content_by schema (joined one later) content ≡ content_by schema later (content_by schema one content)
  content_by-joined one later content = ap (λ (tables : List Rows). record { tables = tables; numbers = later.numbers }) (after_changes-append schema one.changes later.changes content.tables)

  -- what holds after a call, and then after those behind it, holds after all
  AgreeAfter-then : (one other : Content) (effect last : Effect) → AgreeAfter schema tokens one other effect last → (later later_last : Effect)
      → AgreeAfter schema tokens (content_by schema effect one) (content_by schema last other) later later_last → AgreeAfter schema tokens one other (joined effect later) (joined last later_last)
  AgreeAfter-then one other effect last first later later_last rest = record {
    changes = rw (first.changes, rest.changes) refl;
    own = rw (content_by-joined effect later one, content_by-joined last later_last other) rest.own;
    others = rw (content_by-joined effect later one)
        (AgreeOff-then schema tokens (content_by schema later (content_by schema effect one)) (content_by schema effect one) one rest.others first.others);
  }

  ends_behind : (one other : Content) (effect last : Effect) → AgreeAfter schema tokens one other effect last → (later later_last : Result Effect Failure)
      → EndsAlikeOn schema tokens (content_by schema effect one) (content_by schema last other) later later_last → EndsAlikeOn schema tokens one other (effect_behind effect.changes later) (effect_behind last.changes later_last)
  ends_behind one other effect last first (Ok later) (Ok later_last) rest = AgreeAfter-then one other effect last first later later_last rest
  ends_behind one other effect last first (Ok later) (Err failure) rest = absurd rest
  ends_behind one other effect last first (Err failure) (Ok later) rest = absurd rest
  ends_behind one other effect last first (Err failure) (Err later) rest = rest

  -- a content stays one of the schema
  IsContent-call_effect : (call : Call) (content : Content) (effect : Effect) → IsContent schema content → CallFits schema call → call_effect schema content.tables content.numbers origin call ≡ Ok effect → IsContent schema (content_by schema effect content)
  IsContent-call_effect call content effect is fits gives =
      let applied = IsApplied-call_effect schema origin shape keys apart call content.tables content.numbers effect is.tables is.counters fits gives in
      record { tables = applied.are; counters = applied.counters }

  -- calls that the tokens cover end alike, one after the other
  calls_touch : (number : ℕ) (calls : List Call) (one other : Content) → IsContent schema one → IsContent schema other → AllByRecursion (CallFits schema) calls → AllByRecursion (Covers schema tokens) calls
      → AgreeOn schema tokens one other → EndsAlikeOn schema tokens one other (calls_effect schema origin number calls one.tables one.numbers) (calls_effect schema origin number calls other.tables other.numbers)
  calls_touch number [] one other is_one is_other fit cover agree = record { changes = refl; own = agree; others = AgreeOff-same schema tokens one }
  calls_touch number (call ∷ calls) one other is_one is_other fit cover agree =
      go (call_effect schema one.tables one.numbers origin call) (call_effect schema other.tables other.numbers origin call) refl refl
      (call_touches schema origin tokens shape apart call fit.0 cover.0 one other is_one is_other agree)
      (λ effect last gives last_gives first. calls_touch (number + 1) calls (content_by schema effect one) (content_by schema last other)
      (IsContent-call_effect call one effect is_one fit.0 gives) (IsContent-call_effect call other last is_other fit.0 last_gives) fit.1 cover.1 first.own)
    where
      go : (result last : Result Effect ApplyError) → call_effect schema one.tables one.numbers origin call ≡ result → call_effect schema other.tables other.numbers origin call ≡ last → EndsAlikeOn schema tokens one other result last
          → ((effect later : Effect) → call_effect schema one.tables one.numbers origin call ≡ Ok effect → call_effect schema other.tables other.numbers origin call ≡ Ok later → AgreeAfter schema tokens one other effect later
          → EndsAlikeOn schema tokens (content_by schema effect one) (content_by schema later other)
          (calls_effect schema origin (number + 1) calls (after_changes schema effect.changes one.tables) effect.numbers)
          (calls_effect schema origin (number + 1) calls (after_changes schema later.changes other.tables) later.numbers))
          → EndsAlikeOn schema tokens one other
          (result_then (failing_at number result) (λ effect. effect_behind effect.changes (calls_effect schema origin (number + 1) calls (after_changes schema effect.changes one.tables) effect.numbers)))
          (result_then (failing_at number last) (λ effect. effect_behind effect.changes (calls_effect schema origin (number + 1) calls (after_changes schema effect.changes other.tables) effect.numbers)))
      go (Ok effect) (Ok last) gives last_gives ends rest =
          ends_behind one other effect last ends (calls_effect schema origin (number + 1) calls (after_changes schema effect.changes one.tables) effect.numbers)
          (calls_effect schema origin (number + 1) calls (after_changes schema last.changes other.tables) last.numbers)
          (rest effect last gives last_gives ends)
      go (Ok effect) (Err error) gives last_gives ends rest = absurd ends
      go (Err error) (Ok effect) gives last_gives ends rest = absurd ends
      go (Err error) (Err last) gives last_gives ends rest = ap (λ (why : ApplyError). record { call = number; error = why }) ends

-- what calls that end alike have done, said of whole transactions
touches_from_ends : (schema : Schema) (origin : SiteName) (txn : Txn) (one other : Content) → AgreeOn schema (txn_tokens schema txn) one other
    → EndsAlikeOn schema (txn_tokens schema txn) one other (effect_on schema origin txn one) (effect_on schema origin txn other) → TouchesItsTokens schema origin txn one other
touches_from_ends schema origin txn one other agree ends =
    let all = go (effect_on schema origin txn one) (effect_on schema origin txn other) ends in
    record { end = all.0; own = all.1; others = all.2 }
  where
    go : (result last : Result Effect Failure) → EndsAlikeOn schema (txn_tokens schema txn) one other result last
        → EndAlike result last × AgreeOn schema (txn_tokens schema txn) (record { tables = tables_by schema result one.tables; numbers = numbers_by result one.numbers }) (record { tables = tables_by schema last other.tables; numbers = numbers_by last other.numbers })
        × AgreeOff schema (txn_tokens schema txn) (record { tables = tables_by schema result one.tables; numbers = numbers_by result one.numbers }) one
    go (Ok effect) (Ok last) after = (after.changes, after.own, after.others)
    go (Ok effect) (Err failure) after = absurd after
    go (Err failure) (Ok effect) after = absurd after
    go (Err failure) (Err last) same = (same, agree, AgreeOff-same schema (txn_tokens schema txn) one)

-- transactions touch their tokens
pub transactions_touch : TransactionsTouchTheirTokens
transactions_touch schema origin txn one other sound fits is_one is_other agree =
    touches_from_ends schema origin txn one other agree
    (calls_touch schema origin (txn_tokens schema txn) sound.shape (HasKeys-sound schema sound.unbroken sound.shape) (KeysStandAlone-sound schema sound.unbroken) 1 txn.calls one other is_one is_other fits.calls
    (each_covered schema (txn_tokens schema txn) txn.calls (λ one there. there)) agree)
