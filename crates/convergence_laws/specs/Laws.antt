-- The laws of convergent tables.
use Rattle.std.specs.Prelude.{◌≡◌, ℕ, true, List, ◌++◌, Some, Ok}
use Rattle.rep_values.specs.declared.name.SiteName.{SiteName}
use Rattle.rep_schema.specs.declared.schema.Schema.{Schema}
use Rattle.rep_schema.specs.Tables.{Cells, Rows, columns_of, find_row, rows_of, AreTables}
use Rattle.rep_schema.specs.Groups.{group_columns_of}
use Rattle.schema_rules.specs.declared.forms.Form.{Form}
use Rattle.rep_calls.specs.declared.call.Txn.{Txn}
use Rattle.txn_effects.specs.Calls.{Effect}
use Rattle.txn_effects.specs.Contents.{Content, IsContent, effect_on}
use Rattle.txn_effects.specs.Convergent.{is_convergent}
use Rattle.rep_laws.specs.Commuting.{IsSound}
use Rattle.txn_effects.specs.declared.local.Here.{Here}
use Rattle.txn_effects.specs.declared.local.Stamps.{Stamps}
use Rattle.txn_effects.specs.Locals.{BlockEffect, local_effect}
use Rattle.rep_calls.specs.declared.statement.Statement.{Statement}
use Rattle.site_state.specs.declared.entry.Entry.{Entry}
use Rattle.site_state.specs.State.{SiteState}
use Rattle.site_events.specs.Cluster.{Cluster, site_of}
use Rattle.site_events.specs.Events.{Event, run}
use Rattle.event_laws.specs.Fitting.{IsFitStart}
use Rattle.site_state.specs.Contents.{journal_content, tables_of, txn_of}
use Rattle.rep_laws.specs.GroupForms.{form_at, TxnKeepsForms}
use Rattle.convergence_laws.specs.Joins.{applied_parts, applied_inserts, first_row, IsJoined}
use Rattle.convergence_laws.specs.Journals.{IsSoundTxn, AreMade}

-- each group of each row of a convergent table is the join of its first values and the parts applied, where a journal
-- leads from base rows to rows now
abbrev pub AreJoined : Schema → List Rows → List Entry → List Rows → Type 0
AreJoined schema base journal now = (table group : ℕ) (key : Cells) (f : Form) → is_convergent schema table ≡ true → form_at schema table group ≡ Some f
    → IsJoined schema (group_columns_of schema table group) f
    (first_row (find_row (columns_of schema table) key (rows_of base table)) (applied_inserts schema table key journal))
    (applied_parts table key group journal)
    (find_row (columns_of schema table) key (rows_of now table))

-- so it is after every journal that is made as a site makes it
abbrev pub JournalsJoin : Type 0
JournalsJoin = (schema : Schema) (site : SiteName) (base : List Rows) (journal : List Entry) → IsSound schema → AreTables schema base
    → AreMade schema site base journal → AreJoined schema base journal (journal_content schema site base journal).tables

-- so it is from any entry of a journal on: the values of that moment are the first ones, and the parts applied since are the
-- parts
abbrev pub AreJoinedSince : Schema → SiteName → List Rows → List Entry → Type 0
AreJoinedSince schema site base journal = (since older : List Entry) → journal ≡ since ++ older
    → AreJoined schema (journal_content schema site base older).tables since (journal_content schema site base journal).tables

-- the row changes of a transaction that fits and keeps the forms of groups, as calls, keep them too
abbrev pub RowChangesKeepForms : Type 0
RowChangesKeepForms = (schema : Schema) (origin : SiteName) (txn : Txn) (content : Content) (effect : Effect) → IsSound schema → IsContent schema content → IsSoundTxn schema txn
    → effect_on schema origin txn content ≡ Ok effect → TxnKeepsForms schema (txn_of schema effect.changes)

-- the transaction that a block makes keeps them
abbrev pub BlocksKeepForms : Type 0
BlocksKeepForms = (schema : Schema) (here : Here) (stamps : Stamps) (statements : List Statement) (tables : List Rows) (block : BlockEffect) → IsSound schema → AreTables schema tables
    → local_effect schema here stamps statements tables ≡ Ok block → TxnKeepsForms schema (txn_of schema block.changes)

-- after every list of events each group of each row of a convergent table at a master is the join of its first values and of
-- the parts applied there
abbrev pub GroupsAreJoined : Type 0
GroupsAreJoined = (schema : Schema) (start : Cluster) (events : List Event) → IsFitStart schema start
    → (site : SiteName) (x : SiteState) → site_of site (run events start).sites ≡ Some x → x.here.is_master ≡ true
    → AreJoined schema x.base x.journal (tables_of x)

-- and so it is at a master from any moment of its journal on
abbrev pub GroupsAreJoinedSince : Type 0
GroupsAreJoinedSince = (schema : Schema) (start : Cluster) (events : List Event) → IsFitStart schema start
    → (site : SiteName) (x : SiteState) → site_of site (run events start).sites ≡ Some x → x.here.is_master ≡ true
    → AreJoinedSince schema x.here.site x.base x.journal
