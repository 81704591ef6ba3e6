-- What a site sends on of the transactions that it applied.
use Rattle.std.specs.Prelude.{◌≡◌, List, [], ◌∷◌, true, Some, Ok}
use Rattle.rep_values.specs.declared.name.SiteName.{SiteName}
use Rattle.rep_schema.specs.declared.schema.Schema.{Schema}
use Rattle.rep_schema.specs.declared.change.Change.{Change}
use Rattle.rep_schema.specs.Tables.{Rows}
use Rattle.rep_calls.specs.declared.call.Txn.{Txn}
use Rattle.unique_resolve.specs.Numbers.{Numbers}
use Rattle.txn_effects.specs.Transactions.{txn_effect}
use Rattle.txn_effects.specs.Contents.{effect_on}
use Rattle.txn_effects.specs.declared.local.Here.{Here}
use Rattle.site_state.specs.declared.entry.Entry.{Entry}
use Rattle.site_state.specs.declared.entry.Entry.TheVariants.{Local, Done, Error, Executed, Dropped, Refreshed}
use Rattle.site_state.specs.State.{SiteState}
use Rattle.site_state.specs.Contents.{journal_content, changes_by}
use Rattle.site_state.specs.Streams.{onward_txn}
use Rattle.site_events.specs.Cluster.{Cluster, site_of}
use Rattle.site_events.specs.Events.{Event, run}
use Rattle.event_laws.specs.Fitting.{IsFitStart}

-- on these tables, from whatever site and with whatever counters, a transaction makes these changes and moves no counter
abbrev pub Makes : Schema → List Rows → Txn → List Change → Type 0
Makes schema tables txn changes = (origin : SiteName) (numbers : Numbers) → txn_effect schema origin txn tables numbers ≡ Ok (record { changes = changes; numbers = numbers })

-- what is queued for the other masters of a transaction makes the changes that the transaction made
abbrev pub HasItsEffect : Schema → Here → List Rows → List Entry → SiteName → Txn → Type 0
HasItsEffect schema here base before origin txn =
    Makes schema (journal_content schema here.site base before).tables (onward_txn schema here base before origin txn)
    (changes_by (effect_on schema origin txn (journal_content schema here.site base before)))

abbrev pub SendsItsEffect : Schema → Here → List Rows → List Entry → Entry → Type 0
SendsItsEffect schema here base before (Local number txn) = Unit {0}
SendsItsEffect schema here base before (Done origin position onward txn) = HasItsEffect schema here base before origin txn
SendsItsEffect schema here base before (Error origin position call error txn) = Unit {0}
SendsItsEffect schema here base before (Executed origin position onward txn) = HasItsEffect schema here base before origin txn
SendsItsEffect schema here base before (Dropped origin position) = Unit {0}
SendsItsEffect schema here base before (Refreshed moment) = Unit {0}

-- so it is with each entry of a journal
abbrev pub SendTheirEffects : Schema → Here → List Rows → List Entry → Type 0
SendTheirEffects schema here base [] = Unit {0}
SendTheirEffects schema here base (e ∷ es) = SendsItsEffect schema here base es e × SendTheirEffects schema here base es

-- after every list of events so it is at each master
abbrev pub OnwardHasItsEffect : Type 0
OnwardHasItsEffect = (schema : Schema) (start : Cluster) (events : List Event) → IsFitStart schema start
    → (site : SiteName) (x : SiteState) → site_of site (run events start).sites ≡ Some x → x.here.is_master ≡ true
    → SendTheirEffects schema x.here x.base x.journal
