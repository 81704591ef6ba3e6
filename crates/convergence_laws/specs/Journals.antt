-- Journals as sites make them: each entry's transaction succeeded, or failed, on the content of its moment.
use Rattle.std.specs.Prelude.{◌≡◌, ℕ, List, [], ◌∷◌, Ok, Err}
use Rattle.rep_values.specs.declared.name.SiteName.{SiteName}
use Rattle.rep_values.specs.declared.refusal.ApplyError.{ApplyError}
use Rattle.rep_schema.specs.declared.schema.Schema.{Schema}
use Rattle.rep_schema.specs.Tables.{Rows}
use Rattle.rep_calls.specs.declared.call.Txn.{Txn}
use Rattle.conflict_detect.specs.Fits.{TxnFits}
use Rattle.txn_effects.specs.Calls.{Effect}
use Rattle.txn_effects.specs.Contents.{Content, effect_on}
use Rattle.site_state.specs.declared.entry.Entry.{Entry}
use Rattle.site_state.specs.declared.entry.Entry.TheVariants.{Local, Done, Error, Executed, Dropped, Refreshed}
use Rattle.site_state.specs.Contents.{journal_content}
use Rattle.rep_laws.specs.GroupForms.{TxnKeepsForms}

-- a transaction that fits and keeps the forms of groups
pub record IsSoundTxn (schema : Schema) (txn : Txn) : Type 0 where
  pub fits : TxnFits schema txn
  pub keeps : TxnKeepsForms schema txn

-- such a transaction succeeds
pub record Succeeds (schema : Schema) (origin : SiteName) (txn : Txn) (content : Content) : Type 0 where
  pub sound : IsSoundTxn schema txn
  pub effect : Effect
  pub gives : effect_on schema origin txn content ≡ Ok effect

-- such a transaction fails at a call
pub record Fails (schema : Schema) (origin : SiteName) (txn : Txn) (call : ℕ) (error : ApplyError) (content : Content) : Type 0 where
  pub sound : IsSoundTxn schema txn
  pub gives : effect_on schema origin txn content ≡ Err (record { call = call; error = error })

-- what an entry says happened to the content of a site that is never refreshed
abbrev pub IsMade : Schema → SiteName → Content → Entry → Type 0
IsMade schema site content (Local number txn) = Succeeds schema site txn content
IsMade schema site content (Done origin position onward txn) = Succeeds schema origin txn content
IsMade schema site content (Error origin position call error txn) = Fails schema origin txn call error content
IsMade schema site content (Executed origin position onward txn) = Succeeds schema origin txn content
IsMade schema site content (Dropped origin position) = Unit {0}
IsMade schema site content (Refreshed moment) = ⊥

-- so it was with each entry, on the content behind it
abbrev pub AreMade : Schema → SiteName → List Rows → List Entry → Type 0
AreMade schema site base [] = Unit {0}
AreMade schema site base (e ∷ es) = IsMade schema site (journal_content schema site base es) e × AreMade schema site base es
