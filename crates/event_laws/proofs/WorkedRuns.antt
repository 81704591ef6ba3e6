-- What worked runs have in common: masters at which nothing has happened, events in the order in which they happen, and what
-- is shown of a site.
use Rattle.std.specs.Prelude.{ℕ, ◌++◌, List, [], ◌∷◌, map, Option, Some, None}
use Rattle.rep_values.specs.declared.name.SiteName.{SiteName}
use Rattle.rep_schema.specs.declared.schema.Schema.{Schema}
use Rattle.rep_schema.specs.Tables.{Rows}
use Rattle.site_state.specs.declared.entry.Entry.{Entry}
use Rattle.site_state.specs.State.{SiteState}
use Rattle.site_state.specs.Contents.{tables_of}
use Rattle.site_state.proofs.WorkedSites.{at_first}
use Rattle.site_events.specs.Cluster.{Cluster, site_of}
use Rattle.site_events.specs.Events.{Event, Send, SendMark, Deliver, Begin, Apply, run}

-- these masters, at which nothing has happened
abbrev pub masters : Schema → Rows → List SiteName → Cluster
masters schema rows sites = record { sites = map (at_first schema rows) sites; sent = []; begun = [] }

-- ---- runs, with the events in the order in which they happen

abbrev pub then_run : List Event → Cluster → Cluster
then_run [] w = w
then_run (e ∷ es) w = then_run es (run (e ∷ []) w)

-- packets that come as soon as they are sent
abbrev pub carried : SiteName → SiteName → List ℕ → List Event
carried from to [] = []
carried from to (p ∷ ps) = Send from to p ∷ Deliver 0 ∷ carried from to ps

-- a pass over these positions
abbrev pub passed : SiteName → SiteName → List ℕ → List Event
passed site origin positions = Begin site ∷ map (Apply site origin) positions

-- a mark that comes as soon as it is sent
abbrev pub marked : SiteName → SiteName → List Event
marked from to = SendMark from to ∷ Deliver 0 ∷ []

-- positions are sent and come, are applied, and the mark comes back
abbrev pub pushed : SiteName → SiteName → List ℕ → List Event
pushed from to positions = carried from to positions ++ passed to from positions ++ marked to from

-- ---- what is shown of a site

abbrev pub of_site : {X : Type 0} → X → (SiteState → X) → Option SiteState → X
of_site other f None = other
of_site other f (Some x) = f x

-- something of the site of a name, where it is there
abbrev pub shown : {X : Type 0} → X → (SiteState → X) → SiteName → Cluster → X
shown other f site w = of_site other f (site_of site w.sites)

abbrev pub journal_at : SiteName → Cluster → List Entry
journal_at site w = shown [] (λ x. x.journal) site w

abbrev pub rows_at : SiteName → Cluster → List Rows
rows_at site w = shown [] tables_of site w
