-- What a transaction applied to a row, as those see it to whom its row changes are sent on.
use Rattle.std.proofs.Common.{◌≡◌, ℕ, map, true, Ok}
use Rattle.rep_values.specs.declared.name.SiteName.{SiteName}
use Rattle.rep_schema.specs.declared.schema.Schema.{Schema}
use Rattle.rep_schema.specs.Tables.{Cells}
use Rattle.rep_schema.specs.Putting.{after_changes}
use Rattle.rep_calls.specs.declared.call.Txn.{Txn}
use Rattle.conflict_detect.specs.ChangeCalls.{call_of}
use Rattle.txn_effects.specs.Calls.{Effect}
use Rattle.txn_effects.specs.Contents.{Content, IsContent, effect_on, content_after}
use Rattle.txn_effects.proofs.TransactionEffects.{IsApplied-txn_effect}
use Rattle.txn_effects.proofs.OwnCalls.{calls_effect-own}
use Rattle.txn_effects.specs.Convergent.{is_convergent}
use Rattle.rep_laws.specs.Commuting.{IsSound}
use Rattle.rep_laws.proofs.SoundSchemas.{HasKeys-sound, KeysStandAlone-sound}
use Rattle.rep_laws.proofs.ContentAfter.{CanApply-IsContent}
use Rattle.site_state.proofs.FittingBlocks.{TxnFits-led}
use Rattle.convergence_laws.specs.Joins.{parts_in, inserts_in}
use Rattle.convergence_laws.specs.Journals.{IsSoundTxn}
use Rattle.convergence_laws.proofs.Moves.{DecisionLaws}
use Rattle.convergence_laws.proofs.RowsCome.{Came}
use Rattle.convergence_laws.proofs.CallsCome.{row_in, calls_come}
use Rattle.convergence_laws.proofs.OnwardKeepsForms.{row_changes_keep_forms}

-- the row comes of the calls of its row changes, too
pub onward_comes : (schema : Schema) (sound : IsSound schema) (decides : DecisionLaws) (table group : ℕ) (convergent : is_convergent schema table ≡ true) (key : Cells) (txn : Txn) (content : Content) (origin : SiteName) (effect : Effect)
    → IsContent schema content → IsSoundTxn schema txn → effect_on schema origin txn content ≡ Ok effect
    → Came schema sound decides table group convergent (row_in schema sound decides table group convergent content.tables key)
    (row_in schema sound decides table group convergent (content_after schema origin txn content).tables key) (inserts_in schema table key (map (call_of schema) effect.changes)) (parts_in table key group (map (call_of schema) effect.changes))
onward_comes schema sound decides table group convergent key txn content origin effect is txn_sound gives =
    let applied = IsApplied-txn_effect schema origin txn content.tables content.numbers effect (CanApply-IsContent schema sound origin txn txn_sound.fits content is) gives in
    let fits = TxnFits-led schema (record { shape = sound.shape; keys = HasKeys-sound schema sound.unbroken sound.shape; apart = KeysStandAlone-sound schema sound.unbroken }) content.tables effect is.tables applied in
    let keeps = row_changes_keep_forms decides schema origin txn content effect sound is txn_sound gives in
    let own = calls_effect-own schema origin content.numbers 1 effect.changes content.tables (after_changes schema effect.changes content.tables) sound.shape is.tables applied.leads applied.differ applied.checked in
    rw gives
    (calls_come schema sound decides table group convergent key 1 (map (call_of schema) effect.changes) content.tables content.numbers origin (record { changes = effect.changes; numbers = content.numbers }) is.tables is.counters
    fits.calls keeps own)
