-- Tables and counters of a schema stay such after a transaction.
use Rattle.std.proofs.Common.{◌≡◌, Ok, Err, refl}
use Rattle.std.specs.Prelude.{Result}
use Rattle.rep_values.specs.declared.name.SiteName.{SiteName}
use Rattle.rep_schema.specs.declared.schema.Schema.{Schema}
use Rattle.rep_calls.specs.declared.call.Txn.{Txn}
use Rattle.conflict_detect.specs.Fits.{TxnFits}
use Rattle.txn_effects.specs.Calls.{Effect}
use Rattle.txn_effects.specs.Transactions.{Failure, tables_by, numbers_by}
use Rattle.txn_effects.specs.Laws.{CanApply}
use Rattle.txn_effects.proofs.TransactionEffects.{IsApplied-txn_effect}
use Rattle.rep_laws.proofs.SoundSchemas.{HasKeys-sound, KeysStandAlone-sound}
use Rattle.txn_effects.specs.Contents.{Content, IsContent, effect_on, content_after}
use Rattle.rep_laws.specs.Commuting.{IsSound}

module _ (schema : Schema) (sound : IsSound schema) (origin : SiteName) (txn : Txn) (fits : TxnFits schema txn) where
  -- a transaction that fits can be applied to tables and counters of a sound schema
  pub CanApply-IsContent : (content : Content) → IsContent schema content → CanApply schema content.tables content.numbers txn
  CanApply-IsContent content is = record {
    shape = sound.shape;
    keys = HasKeys-sound schema sound.unbroken sound.shape;
    apart = KeysStandAlone-sound schema sound.unbroken;
    are = is.tables;
    counters = is.counters;
    fits = fits;
  }

  -- and leaves such tables and counters, whether it succeeds or fails
  pub IsContent-content_after : (content : Content) → IsContent schema content → IsContent schema (content_after schema origin txn content)
  IsContent-content_after content is = go (effect_on schema origin txn content) refl
    where
      go : (result : Result Effect Failure) → effect_on schema origin txn content ≡ result
          → IsContent schema (record { tables = tables_by schema result content.tables; numbers = numbers_by result content.numbers })
      go (Ok effect) gives =
          let applied = IsApplied-txn_effect schema origin txn content.tables content.numbers effect (CanApply-IsContent content is) gives in
          record { tables = applied.are; counters = applied.counters }
      go (Err failure) gives = record { tables = is.tables; counters = is.counters }
