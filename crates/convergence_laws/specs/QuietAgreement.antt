-- Which masters agree: those that are quiet.
use Rattle.std.specs.Prelude.{◌≡◌, ℕ, Bool, true, false, List, ◌++◌, Some}
use Rattle.std.specs.List.{list_any}
use Rattle.rep_values.specs.declared.name.SiteName.{SiteName}
use Rattle.rep_schema.specs.declared.schema.Schema.{Schema}
use Rattle.rep_schema.specs.Tables.{rows_of}
use Rattle.txn_effects.specs.Convergent.{is_convergent}
use Rattle.site_state.specs.declared.entry.Entry.{Entry}
use Rattle.site_state.specs.declared.entry.Entry.TheVariants.{Local, Done, Error, Executed, Dropped, Refreshed}
use Rattle.site_state.specs.State.{SiteState}
use Rattle.rep_schema.specs.Sites.{is_master_site}
use Rattle.site_state.specs.Contents.{tables_of}
use Rattle.site_events.specs.Cluster.{Cluster, site_of}
use Rattle.site_events.specs.Events.{Event, run}
use Rattle.event_laws.specs.Fitting.{IsFitStart}
use Rattle.event_laws.specs.Marks.{journal_in}
use Rattle.site_events.specs.Quiet.{are_quiet}
use Rattle.event_laws.specs.Waiting.{SitesLinkAsDeclared}
use Rattle.event_laws.specs.Beginning.{RowsBeginAlike}

-- an entry drops the error of a master's transaction
abbrev pub drops_of_master : Schema → Entry → Bool
drops_of_master schema (Local number txn) = false
drops_of_master schema (Done origin position onward txn) = false
drops_of_master schema (Error origin position call error txn) = false
drops_of_master schema (Executed origin position onward txn) = false
drops_of_master schema (Dropped origin position) = is_master_site schema origin
drops_of_master schema (Refreshed moment) = false

-- no error of a master's transaction was ever dropped at a master
abbrev pub NothingWasDropped : Schema → List SiteState → Type 0
NothingWasDropped schema sites = (site : SiteName) (x : SiteState) → site_of site sites ≡ Some x → x.here.is_master ≡ true → list_any (drops_of_master schema) x.journal ≡ false

-- none was dropped since the sites were as earlier
abbrev pub NothingWasDroppedSince : Schema → List SiteState → List SiteState → Type 0
NothingWasDroppedSince schema earlier sites = (site : SiteName) (x : SiteState) (newer : List Entry) → site_of site sites ≡ Some x → x.here.is_master ≡ true
    → x.journal ≡ newer ++ journal_in (site_of site earlier) → list_any (drops_of_master schema) newer ≡ false

-- all masters have the same rows of every convergent table
abbrev pub MastersAgree : Schema → List SiteState → Type 0
MastersAgree schema sites = (one other : SiteName) (x y : SiteState) (table : ℕ) → site_of one sites ≡ Some x → site_of other sites ≡ Some y
    → x.here.is_master ≡ true → y.here.is_master ≡ true
    → is_convergent schema table ≡ true → rows_of (tables_of x) table ≡ rows_of (tables_of y) table

-- whatever happened, where all masters are quiet and nothing was dropped, they agree
abbrev pub QuietMastersAgree : Type 0
QuietMastersAgree = (schema : Schema) (start : Cluster) (events : List Event) → IsFitStart schema start → SitesLinkAsDeclared schema start.sites
    → RowsBeginAlike schema start → are_quiet (run events start).sites ≡ true → NothingWasDropped schema (run events start).sites
    → MastersAgree schema (run events start).sites

-- whatever had happened, where all masters were quiet and agreed, they agree again where they are quiet and nothing was
-- dropped since
abbrev pub QuietMastersAgreeAgain : Type 0
QuietMastersAgreeAgain = (schema : Schema) (start : Cluster) (events more : List Event) → IsFitStart schema start → SitesLinkAsDeclared schema start.sites
    → are_quiet (run events start).sites ≡ true → MastersAgree schema (run events start).sites
    → are_quiet (run more (run events start)).sites ≡ true → NothingWasDroppedSince schema (run events start).sites (run more (run events start)).sites
    → MastersAgree schema (run more (run events start)).sites
