-- What acknowledged marks, purges and dependency numbers rest on.
use Rattle.std.specs.Prelude.{◌≡◌, ℕ, ◌<◌, ◌≤◌, ◌-◌, true, List, [], Option, Some, None}
use Rattle.rep_values.specs.declared.name.SiteName.{SiteName}
use Rattle.site_state.specs.declared.entry.Entry.{Entry}
use Rattle.site_state.specs.State.{SiteState, arrivals, opened_of, acked_of}
use Rattle.site_state.specs.Journal.{finished, low_water}
use Rattle.site_state.specs.Waited.{IsWellNumbered}
use Rattle.site_events.specs.Cluster.{site_of}

abbrev pub journal_in : Option SiteState → List Entry
journal_in None = []
journal_in (Some x) = x.journal

abbrev pub acked_at : SiteName → Option SiteState → ℕ
acked_at site None = 0
acked_at site (Some x) = acked_of site x

-- the low-water mark of an origin at a site
abbrev pub low_at : SiteName → Option SiteState → ℕ
low_at origin x = low_water origin (journal_in x)

-- what a destination has acknowledged is at most its low-water mark
abbrev pub MarksAreLow : List SiteState → Type 0
MarksAreLow sites = (origin site : SiteName) → acked_at site (site_of origin sites) ≤ low_at origin (site_of site sites)

-- what is purged is finished at each destination that has it, at the position that it has there
abbrev pub PurgedIsFinished : List SiteState → Type 0
PurgedIsFinished sites = (origin site : SiteName) (x : SiteState) (opened number : ℕ) → site_of origin sites ≡ Some x → opened_of site x ≡ Some opened
    → opened < number → number ≤ x.purged → finished origin (journal_in (site_of site sites)) (number - opened) ≡ true

-- what arrived from every sender at every site is well numbered
abbrev pub AreWellNumbered : List SiteState → Type 0
AreWellNumbered sites = (site origin : SiteName) (x : SiteState) → site_of site sites ≡ Some x → IsWellNumbered x.schema (arrivals origin x)
