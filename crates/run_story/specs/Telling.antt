-- What was told of the journals of a run's sites.
use Rattle.std.specs.Prelude.{◌≡◌, ℕ, ◌+◌, ◌==◌, ◌&&◌, ◌≤◌, ◌-◌, nat_lt, max, is_some, Bool, true, false, cond, List, [], ◌∷◌, ◌++◌, length, map, reverse, slice_get, flat_map, Option, Some, None}
use Rattle.std.specs.List.{filter_map, range_with_len, AllByRecursion}
use Rattle.script_drive.specs.Lines.{lines_after}
use Rattle.rep_values.specs.declared.name.SiteName.{SiteName}
use Rattle.site_state.specs.declared.entry.Entry.{Entry}
use Rattle.site_state.specs.State.{SiteState}
use Rattle.proc_state.specs.State.{ProcState}
use Rattle.world_state.specs.Procs.{proc_of}
use Rattle.world_run.specs.Lent.{LentWorld, site_here}
use Rattle.world_run.specs.declared.live_part.LivePart.{LivePart}
use Rattle.packet_fates.specs.declared.packet.Traffic.{Traffic}
use Rattle.packet_fates.specs.declared.packet.Traffic.TheVariants.{Rows, Calls}
use Rattle.run_story.specs.declared.happening.Span.{Span}
use Rattle.run_story.specs.declared.happening.Outcome.{Outcome}
use Rattle.run_story.specs.declared.happening.Outcome.TheVariants.{PassedOver, Declared, Shown, Done, Refused, Malformed}
use Rattle.run_story.specs.declared.happening.Line.{Line}
use Rattle.run_story.specs.declared.lane.Lane.{Lane}
use Rattle.run_story.specs.Lanes.{HasLanes}

-- what a contract sees of a story: its world, its live part, its sites, and its lines
pub record StoryView : Type 0 where
  pub world : LentWorld
  pub part : LivePart
  pub lanes : List Lane
  pub lines : List Line

-- what a contract sees of a world that is followed: the world, its live part, and its sites
pub record Followed : Type 0 where
  pub world : LentWorld
  pub part : LivePart
  pub lanes : List Lane

-- ---- journals

abbrev pub rows_of_site : Option SiteState → List Entry
rows_of_site None = []
rows_of_site (Some x) = reverse x.journal

abbrev pub calls_of_site : Option ProcState → List Entry
calls_of_site None = []
calls_of_site (Some x) = reverse x.journal

-- the entries of a site's journal, the oldest first: that of its rows, or that of its calls
abbrev pub journal_of : Traffic → SiteName → LentWorld → List Entry
journal_of Rows site v = rows_of_site (site_here site v)
journal_of Calls site v = calls_of_site (proc_of site v.world.procs.sites)

-- ---- what is told

-- the same kind of traffic
abbrev pub is_kind : Traffic → Traffic → Bool
is_kind Rows Rows = true
is_kind Rows Calls = false
is_kind Calls Rows = false
is_kind Calls Calls = true

-- the places of a lane's journal that a span tells
abbrev pub places_in : ℕ → Traffic → Span → List ℕ
places_in place traffic s = cond (s.lane == place && is_kind s.traffic traffic) (range_with_len s.first s.count) []

-- those that spans tell, in their order
abbrev pub told_places : ℕ → Traffic → List Span → List ℕ
told_places place traffic spans = flat_map (places_in place traffic) spans

-- what lines tell of journals
abbrev pub spans_of : List Line → List Span
spans_of lines = flat_map (λ line. line.entries) lines

-- how many entries of a lane's journal were told, 0 where there is no lane
abbrev pub count_in : Traffic → Option Lane → ℕ
count_in traffic None = 0
count_in Rows (Some lane) = lane.told
count_in Calls (Some lane) = lane.told_calls

-- of each lane the places from 0 on were told, in their order, each once, as many as it counts
pub record Counts (lanes : List Lane) (spans : List Span) : Type 0 where
  pub each : (place : ℕ) (traffic : Traffic) → told_places place traffic spans ≡ range_with_len 0 (count_in traffic (slice_get lanes place))

-- a lane counts at least the entries of its site's journals
pub record Reaches (v : LentWorld) (lane : Lane) : Type 0 where
  pub each : (traffic : Traffic) → length (journal_of traffic lane.site v) ≤ count_in traffic (Some lane)

-- so does each lane
pub record AllReach (v : LentWorld) (lanes : List Lane) : Type 0 where
  pub each : (place : ℕ) (lane : Lane) → slice_get lanes place ≡ Some lane → Reaches v lane

-- ---- what a look tells

-- the entries of a journal that weren't told yet, where so many were and it has so many
abbrev pub new_span : ℕ → Traffic → ℕ → ℕ → List Span
new_span place traffic told number = cond (nat_lt told number) (record { lane = place; traffic = traffic; first = told; count = number - told } ∷ []) []

-- the line from which on a site is there
abbrev pub since_at : ℕ → Bool → Option ℕ → Option ℕ
since_at number there (Some since) = Some since
since_at number true None = Some number
since_at number false None = None

-- the lane behind the line of a number, with what is told there
abbrev pub lane_at : LentWorld → ℕ → Lane → Lane
lane_at v number lane = record {
  site = lane.site;
  kind = lane.kind;
  since = since_at number (is_some (site_here lane.site v)) lane.since;
  told = max lane.told (length (journal_of Rows lane.site v));
  told_calls = max lane.told_calls (length (journal_of Calls lane.site v));
}

-- what came to the journals of a lane's site since they were looked at
abbrev pub spans_at : LentWorld → ℕ → Lane → List Span
spans_at v place lane = new_span place Rows lane.told (length (journal_of Rows lane.site v)) ++ new_span place Calls lane.told_calls (length (journal_of Calls lane.site v))

-- and of all lanes, the first of which has a place
abbrev pub spans_from : LentWorld → ℕ → List Lane → List Span
spans_from v place [] = []
spans_from v place (lane ∷ lanes) = spans_at v place lane ++ spans_from v (place + 1) lanes

-- lanes were added of whose sites nothing was told, and if each declared site had a lane, each has one
pub record AddsLanes (old new : Followed) : Type 0 where
  pub more : List Lane
  pub all : new.lanes ≡ old.lanes ++ more
  pub fresh : AllByRecursion (λ (lane : Lane). (lane.told ≡ 0) × (lane.told_calls ≡ 0)) more
  pub keeps : HasLanes old.world.world old.lanes → HasLanes new.world.world new.lanes

-- ---- the promise

-- the entries of a lane's journal at the places that a story tells, in the order of its lines
abbrev pub told_entries : ℕ → Traffic → Lane → StoryView → List Entry
told_entries place traffic lane story = filter_map (slice_get (journal_of traffic lane.site story.world)) (told_places place traffic (spans_of story.lines))

-- what a story tells of a site is the journal as it stands: each entry once, in its order, and of each site
pub record TellsJournals (story : StoryView) : Type 0 where
  pub each : (place : ℕ) (lane : Lane) (traffic : Traffic) → slice_get story.lanes place ≡ Some lane
      → told_entries place traffic lane story ≡ journal_of traffic lane.site story.world

-- what lines keep of a story
pub record IsTold (story : StoryView) : Type 0 where
  pub counts : Counts story.lanes (spans_of story.lines)
  pub reach : AllReach story.world story.lanes
  pub lanes : HasLanes story.world.world story.lanes

-- the entries that a line tells keep this, whatever was told before
pub record KeepsTold (old new : Followed) (entries : List Span) : Type 0 where
  pub counts : (spans : List Span) → Counts old.lanes spans → Counts new.lanes (spans ++ entries)
  pub reach : AllReach old.world old.lanes → AllReach new.world new.lanes
  pub lanes : HasLanes old.world.world old.lanes → HasLanes new.world.world new.lanes

-- ---- lines

-- a line that breaks a rule ends the run
abbrev pub ends_run : Outcome → Bool
ends_run PassedOver = false
ends_run Declared = false
ends_run Shown = false
ends_run Done = false
ends_run (Refused refused) = false
ends_run (Malformed rule) = true

abbrev pub ends_run_in : Option Line → Bool
ends_run_in None = false
ends_run_in (Some line) = ends_run line.outcome

-- the words of lines
abbrev pub words_of : List Line → List (List ℕ)
words_of lines = map (λ line. line.words) lines

-- they are the lines of a script, up to one that ends the run, or all
pub record AreLinesOf (script : List ℕ) (lines : List Line) : Type 0 where
  pub rest : List (List ℕ)
  pub all : words_of lines ++ rest ≡ lines_after [] script
  pub whole : ends_run_in (slice_get lines (length lines - 1)) ≡ false → rest ≡ []
