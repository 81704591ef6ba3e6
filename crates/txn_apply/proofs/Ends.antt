-- A transaction ends alike wherever its work's tables are agreed with.
use Rattle.std.proofs.Common.{◌≡◌, List, Ok, Err, ap, ◌∙◌}
use Rattle.std.specs.Prelude.{Result}
use Rattle.rep_schema.specs.declared.change.Change.{Change}
use Rattle.unique_resolve.specs.Numbers.{Numbers}
use Rattle.txn_effects.specs.Calls.{Effect}
use Rattle.txn_effects.specs.Transactions.{Failure, numbers_by}
use Rattle.txn_effects.specs.Laws.{IsApplied}
use Rattle.txn_effects.specs.Contents.{Content, IsContent, effect_on, content_after}
use Rattle.txn_effects.proofs.TransactionEffects.{IsApplied-txn_effect}
use Rattle.dependency_index.specs.Tokens.{txn_tokens}
use Rattle.rep_laws.specs.Commuting.{EndAlike, TouchesItsTokens}
use Rattle.rep_laws.proofs.ContentAfter.{CanApply-IsContent, IsContent-content_after}
use Rattle.rep_laws.proofs.TransactionTouches.{transactions_touch}
use Rattle.txn_apply.specs.declared.outcome.Ending.{Ending}
use Rattle.txn_apply.specs.declared.outcome.Ending.TheVariants.{Changed, Failed}
use Rattle.txn_apply.specs.Works.{WorkState, CanStandAlone, Supports}
use Rattle.txn_apply.specs.Endings.{ending_of, effect_of, IfChanged, EndsSo}
use Rattle.txn_apply.proofs.PlainTokens.{numbers-AgreeOff}

-- of two that end alike, the one that moves no counter does what the other's ending says
effect_of-EndAlike : (one other : Result Effect Failure) (numbers : Numbers) → EndAlike one other → numbers_by one numbers ≡ numbers → one ≡ effect_of (ending_of other) numbers
effect_of-EndAlike (Ok effect) (Ok other) numbers alike still =
    ap (λ (changes : List Change). Ok (record { changes = changes; numbers = effect.numbers })) alike ∙ ap (λ (moved : Numbers). Ok (record { changes = other.changes; numbers = moved })) still
effect_of-EndAlike (Ok effect) (Err failure) numbers alike still = absurd alike
effect_of-EndAlike (Err failure) (Ok effect) numbers alike still = absurd alike
effect_of-EndAlike (Err failure) (Err other) numbers alike still = ap Err alike

module _ (work : WorkState) (alone : CanStandAlone work.schema work.txn) (here : IsContent work.schema work.content) (content : Content) (supports : Supports work content) where
  touches : TouchesItsTokens work.schema work.origin work.txn content work.content
  touches = transactions_touch work.schema work.origin work.txn content work.content alone.sound alone.fits supports.is here supports.agree

  -- it moves no counter
  still : numbers_by (effect_on work.schema work.origin work.txn content) content.numbers ≡ content.numbers
  still = numbers-AgreeOff work.schema (txn_tokens work.schema work.txn) (content_after work.schema work.origin work.txn content) content alone.plain
      (IsContent-content_after work.schema alone.sound work.origin work.txn alone.fits content supports.is).counters supports.is.counters touches.others

  effect_there : effect_on work.schema work.origin work.txn content ≡ effect_of (ending_of (effect_on work.schema work.origin work.txn work.content)) content.numbers
  effect_there = effect_of-EndAlike (effect_on work.schema work.origin work.txn content) (effect_on work.schema work.origin work.txn work.content) content.numbers touches.end still

  applied_there : (ending : Ending) → effect_on work.schema work.origin work.txn content ≡ effect_of ending content.numbers
      → IfChanged ending (λ changes. IsApplied work.schema content.tables (record { changes = changes.rows; numbers = content.numbers }))
  applied_there (Changed changes) gives = IsApplied-txn_effect work.schema work.origin work.txn content.tables content.numbers (record { changes = changes.rows; numbers = content.numbers })
      (CanApply-IsContent work.schema alone.sound work.origin work.txn alone.fits content supports.is) gives
  applied_there (Failed call error) gives = tt

  pub EndsSo-Supports : EndsSo work (ending_of (effect_on work.schema work.origin work.txn work.content)) content
  EndsSo-Supports = record { effect = effect_there; applied = applied_there (ending_of (effect_on work.schema work.origin work.txn work.content)) effect_there }
