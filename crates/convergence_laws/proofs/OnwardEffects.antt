-- What a master sends on makes the changes that it made itself.
use Rattle.std.proofs.Common.{List, [], ◌∷◌, sym, subst}
use Rattle.rep_values.specs.declared.name.SiteName.{SiteName}
use Rattle.rep_schema.specs.declared.schema.Schema.{Schema}
use Rattle.rep_schema.specs.Tables.{Rows, AreTables}
use Rattle.rep_schema.specs.Putting.{after_changes}
use Rattle.rep_calls.specs.declared.call.Txn.{Txn}
use Rattle.txn_effects.specs.Contents.{Content, IsContent}
use Rattle.txn_effects.proofs.TransactionEffects.{IsApplied-txn_effect}
use Rattle.txn_effects.proofs.OwnCalls.{calls_effect-own}
use Rattle.txn_effects.specs.declared.local.Here.{Here}
use Rattle.rep_laws.specs.Commuting.{IsSound}
use Rattle.rep_laws.proofs.ContentAfter.{CanApply-IsContent}
use Rattle.site_state.specs.declared.entry.Entry.{Entry}
use Rattle.site_state.specs.declared.entry.Entry.TheVariants.{Local, Done, Error, Executed, Dropped, Refreshed}
use Rattle.site_state.specs.Contents.{journal_content}
use Rattle.convergence_laws.specs.Journals.{Succeeds, AreMade}
use Rattle.convergence_laws.specs.Laws.{BlocksKeepForms}
use Rattle.convergence_laws.specs.Onward.{HasItsEffect, SendTheirEffects, OnwardHasItsEffect}
use Rattle.convergence_laws.proofs.Moves.{DecisionLaws}
use Rattle.convergence_laws.proofs.JournalsJoin.{journal_keeps}
use Rattle.convergence_laws.proofs.EventsKeepForms.{run_holds}

module _ (schema : Schema) (sound : IsSound schema) (here : Here) (base : List Rows) where
  -- a transaction that succeeds
  has_its_effect : (es : List Entry) (origin : SiteName) (txn : Txn) → IsContent schema (journal_content schema here.site base es) → Succeeds schema origin txn (journal_content schema here.site base es)
      → HasItsEffect schema here base es origin txn
  has_its_effect es origin txn is done from numbers =
      let content : Content = journal_content schema here.site base es in
      let applied = IsApplied-txn_effect schema origin txn content.tables content.numbers done.effect (CanApply-IsContent schema sound origin txn done.sound.fits content is) done.gives in
      rw done.gives
      (calls_effect-own schema from numbers 1 done.effect.changes content.tables (after_changes schema done.effect.changes content.tables) sound.shape is.tables applied.leads applied.differ applied.checked)

  journal_sends : (journal : List Entry) → AreTables schema base → AreMade schema here.site base journal → SendTheirEffects schema here base journal
  journal_sends [] are made = tt
  journal_sends (Local number txn ∷ es) are made = (tt, journal_sends es are made.1)
  journal_sends (Done origin position onward txn ∷ es) are made = (has_its_effect es origin txn (journal_keeps schema sound here.site base es are made.1) made.0, journal_sends es are made.1)
  journal_sends (Error origin position call error txn ∷ es) are made = (tt, journal_sends es are made.1)
  journal_sends (Executed origin position onward txn ∷ es) are made = (has_its_effect es origin txn (journal_keeps schema sound here.site base es are made.1) made.0, journal_sends es are made.1)
  journal_sends (Dropped origin position ∷ es) are made = (tt, journal_sends es are made.1)
  journal_sends (Refreshed moment ∷ es) are made = absurd made.0

pub onward_has_its_effect : DecisionLaws → BlocksKeepForms → OnwardHasItsEffect
onward_has_its_effect decides blocks schema start events is site x found master =
    let k = (run_holds schema decides blocks events start is).sites site x found in
    subst (λ (s : Schema). SendTheirEffects s x.here x.base x.journal) k.same
    (journal_sends x.schema (subst IsSound (sym k.same) is.sound) x.here x.base x.journal (k.keeps.base master) (k.keeps.made master))
