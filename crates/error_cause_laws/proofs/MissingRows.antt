-- A row that isn't there for a call on a convergent table was never there.
use Rattle.std.proofs.Common.{◌≡◌, ◌++◌, ℕ, true, List, [], ◌∷◌, None, Err, refl, sym, subst}
use Rattle.std.specs.Prelude.{Option}
use Rattle.rep_values.specs.declared.name.SiteName.{SiteName}
use Rattle.rep_values.specs.declared.refusal.ApplyError.{ApplyError}
use Rattle.rep_values.specs.declared.refusal.ApplyError.TheVariants as error
use Rattle.rep_schema.specs.declared.schema.Schema.{Schema}
use Rattle.rep_schema.specs.Tables.{Cells, Rows, columns_of, find_row, rows_of, AreTables}
use Rattle.rep_schema.specs.Putting.{after_changes}
use Rattle.rep_calls.specs.declared.call.Call.{Call}
use Rattle.rep_calls.specs.declared.call.Txn.{Txn}
use Rattle.conflict_detect.specs.Fits.{table_of, TxnFits}
use Rattle.txn_effects.specs.Calls.{row_named}
use Rattle.conflict_detect.specs.KeysNamed.{key_named}
use Rattle.txn_effects.specs.Transactions.{Failure}
use Rattle.txn_effects.specs.Contents.{Content, IsContent, effect_on}
use Rattle.txn_effects.specs.Convergent.{is_convergent}
use Rattle.rep_laws.specs.Commuting.{IsSound}
use Rattle.site_state.specs.declared.entry.Entry.{Entry}
use Rattle.site_state.specs.declared.entry.Entry.TheVariants.{Local, Done, Error, Executed, Dropped, Refreshed}
use Rattle.site_state.specs.Contents.{journal_content}
use Rattle.site_state.proofs.FittingSites.{error_has}
use Rattle.event_laws.proofs.FittingSites.{every_site_fits}
use Rattle.rep_laws.specs.GroupForms.{TxnKeepsForms}
use Rattle.convergence_laws.specs.Faults.{Tells}
use Rattle.convergence_laws.specs.Joins.{parts_in, inserts_in, applied_parts, applied_inserts}
use Rattle.convergence_laws.specs.Journals.{IsSoundTxn, AreMade}
use Rattle.convergence_laws.specs.Laws.{BlocksKeepForms}
use Rattle.convergence_laws.proofs.Moves.{DecisionLaws}
use Rattle.convergence_laws.proofs.RowsCome.{Came, came_on}
use Rattle.convergence_laws.proofs.CallsCome.{calls_come}
use Rattle.convergence_laws.proofs.JournalsJoin.{journal_keeps, journal_comes}
use Rattle.convergence_laws.proofs.Faults.{convergent_calls_fail_so}
use Rattle.convergence_laws.proofs.EventsKeepForms.{run_holds}
use Rattle.error_cause_laws.specs.Excuses.{OfFailures, ErrorsAreSo, RefusalsAreSo, IsMissing, NoRowIsMissing}
use Rattle.error_cause_laws.specs.Laws.{MissingRowsWereNeverThere}
use Rattle.error_cause_laws.proofs.Failing.{FailsBehind, fails_behind, call_found}

front_none : {X : Type 0} (xs ys : List X) → xs ++ ys ≡ [] → xs ≡ []
front_none [] ys e = refl
front_none (x ∷ xs) ys e = cc

-- an error tells that there is no row
no_row_told : (schema : Schema) (call : Call) (before : Option Cells) (why : ApplyError) → why ≡ error.NoRow → Tells schema call before why → before ≡ None
no_row_told schema call before why is told = subst (Tells schema call before) is told

-- ---- a transaction that fails behind a journal

module _ (schema : Schema) (sound : IsSound schema) (decides : DecisionLaws) (site : SiteName) (base : List Rows) (journal : List Entry) (are : AreTables schema base) (made : AreMade schema site base journal)
    (origin : SiteName) (txn : Txn) (txn_sound : IsSoundTxn schema txn) (failure : Failure) where
  abbrev content : Content
  content = journal_content schema site base journal

  is_content : IsContent schema content
  is_content = journal_keeps schema sound site base journal are made

  abbrev pub Fails : Type 0
  Fails = FailsBehind schema origin 1 txn.calls content.tables content.numbers failure

  pub fails_here : effect_on schema origin txn content ≡ Err failure → Fails
  fails_here gives = fails_behind schema sound origin 1 txn.calls content.tables content.numbers failure is_content.tables is_content.counters txn_sound.fits.calls txn_sound.keeps gives

  -- the row after the calls before the one that fails, beside the journal and these calls
  pub comes_so_far : (f : Fails) (table group : ℕ) (convergent : is_convergent schema table ≡ true) (key : Cells)
      → Came schema sound decides table group convergent (find_row (columns_of schema table) key (rows_of base table)) (find_row (columns_of schema table) key (rows_of (after_changes schema f.effect.changes content.tables) table))
      (applied_inserts schema table key journal ++ inserts_in schema table key f.done) (applied_parts table key group journal ++ parts_in table key group f.done)
  comes_so_far f table group convergent key =
      came_on schema sound decides table group convergent (find_row (columns_of schema table) key (rows_of base table)) (find_row (columns_of schema table) key (rows_of content.tables table))
      (find_row (columns_of schema table) key (rows_of (after_changes schema f.effect.changes content.tables) table)) (applied_inserts schema table key journal) (inserts_in schema table key f.done)
      (applied_parts table key group journal) (parts_in table key group f.done)
      (journal_comes schema sound decides table group convergent key site base journal are made)
      (calls_come schema sound decides table group convergent key 1 f.done content.tables content.numbers origin f.effect is_content.tables is_content.counters f.done_fit f.done_keep f.succeeds)

  pub missing_here : effect_on schema origin txn content ≡ Err failure → NoRowIsMissing schema base journal failure.call failure.error txn
  missing_here gives no_row call found convergent =
      let f = fails_here gives in
      let same : f.call ≡ call = call_found schema origin txn.calls content.tables content.numbers failure call f found in
      let here : is_convergent schema (table_of f.call) ≡ true = subst (λ (c : Call). is_convergent schema (table_of c) ≡ true) (sym same) convergent in
      let none = no_row_told schema f.call (row_named schema (after_changes schema f.effect.changes content.tables) f.call) failure.error no_row
      (convergent_calls_fail_so decides schema (after_changes schema f.effect.changes content.tables) f.effect.numbers origin f.call failure.error sound f.are f.fits f.keeps here f.fails) in
      let gone = (comes_so_far f (table_of f.call) 0 here (key_named schema f.call)).none none in
      subst (IsMissing schema base journal) same (record {
        base_row = gone.0;
        inserted = front_none (applied_inserts schema (table_of f.call) (key_named schema f.call) journal) (inserts_in schema (table_of f.call) (key_named schema f.call) f.done) gone.1;
      })

-- ---- each error of a journal

module _ (schema : Schema) (sound : IsSound schema) (decides : DecisionLaws) (site : SiteName) (base : List Rows) (are : AreTables schema base) where
  abbrev Says : OfFailures
  Says = NoRowIsMissing schema base

  journal_missing : (journal : List Entry) → AreMade schema site base journal → ErrorsAreSo Says journal
  journal_missing [] made = tt
  journal_missing (Local number txn ∷ es) made = (tt, journal_missing es made.1)
  journal_missing (Done origin position onward txn ∷ es) made = (tt, journal_missing es made.1)
  journal_missing (Error origin position call why txn ∷ es) made =
      (missing_here schema sound decides site base es are made.1 origin txn made.0.sound (record { call = call; error = why }) made.0.gives, journal_missing es made.1)
  journal_missing (Executed origin position onward txn ∷ es) made = (tt, journal_missing es made.1)
  journal_missing (Dropped origin position ∷ es) made = (tt, journal_missing es made.1)
  journal_missing (Refreshed moment ∷ es) made = (tt, journal_missing es made.1)

pub missing_rows_were_never_there : DecisionLaws → BlocksKeepForms → MissingRowsWereNeverThere
missing_rows_were_never_there decides blocks schema start events is site x found master =
    let k = (run_holds schema decides blocks events start is).sites site x found in
    let sound : IsSound x.schema = subst IsSound (sym k.same) is.sound in
    let fits = every_site_fits schema start events is site x found in
    subst (λ (s : Schema). ErrorsAreSo (NoRowIsMissing s x.base) x.journal × RefusalsAreSo (NoRowIsMissing s x.base) x) k.same (
      journal_missing x.schema sound decides x.here.site x.base (k.keeps.base master) x.journal (k.keeps.made master),
      λ origin position e failure stands gives.
          missing_here x.schema sound decides x.here.site x.base x.journal (k.keeps.base master) (k.keeps.made master) e.origin e.txn
          (record {
            fits = error_has (TxnFits x.schema) origin position x.journal e fits.journal stands;
            keeps = error_has (TxnKeepsForms x.schema) origin position x.journal e k.keeps.journal stands;
          }) failure gives,
    )
