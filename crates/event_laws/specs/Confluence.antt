-- Ready positions of a sender that are applied in any order.
use Rattle.std.specs.Prelude.{◌≡◌, ℕ, true, false, List, [], ◌∷◌, ◌++◌, Some}
use Rattle.std.specs.List.{AllByRecursion}
use Rattle.std.specs.List.Sorted.{IsPermutation}
use Rattle.rep_values.specs.declared.name.SiteName.{SiteName}
use Rattle.rep_schema.specs.declared.schema.Schema.{Schema}
use Rattle.conflict_detect.specs.Fits.{TxnFits}
use Rattle.txn_effects.specs.Contents.{IsContent}
use Rattle.rep_laws.specs.Commuting.{IsSound}
use Rattle.site_state.specs.declared.entry.Entry.{Entry}
use Rattle.site_state.specs.declared.arrival.Arrival.{Arrival}
use Rattle.site_state.specs.State.{SiteState, arrivals}
use Rattle.rep_schema.specs.Sites.{is_master_site}
use Rattle.site_state.specs.Arrivals.{CanPass}
use Rattle.site_state.specs.Journal.{finished, low_water, error_at}
use Rattle.site_state.specs.Contents.{content_of}
use Rattle.site_state.specs.Streams.{queue_of}
use Rattle.site_state.specs.Pasts.{past_of, pasts_of}
use Rattle.site_state.specs.Ready.{is_ready}
use Rattle.site_state.specs.Steps.{begun}
use Rattle.site_state.specs.Passes.{site_apply, site_pass}
use Rattle.site_state.specs.Errors.{errors_of}
use Rattle.site_state.specs.Waited.{IsWellNumbered}
use Rattle.site_events.specs.Cluster.{Cluster, site_of}
use Rattle.site_events.specs.Events.{Event, run}
use Rattle.event_laws.specs.Declared.{AreDeclared}
use Rattle.event_laws.specs.Fitting.{IsFitStart}

-- positions of a sender are applied, one after the other
abbrev pub applied_in_turn : SiteName → List ℕ → SiteState → SiteState
applied_in_turn origin [] x = x
applied_in_turn origin (position ∷ later) x = applied_in_turn origin later (site_apply origin position x)

-- each of them is ready in its turn
abbrev pub AreReadyInTurn : SiteName → List ℕ → SiteState → Type 0
AreReadyInTurn origin [] x = Unit {0}
AreReadyInTurn origin (position ∷ later) x = (is_ready origin position x ≡ true) × AreReadyInTurn origin later (site_apply origin position x)

-- and after the last of them no position of the sender is ready
pub record AreAllThatIsReady (origin : SiteName) (positions : List ℕ) (x : SiteState) : Type 0 where
  pub ready : AreReadyInTurn origin positions x
  pub none : (position : ℕ) → is_ready origin position (applied_in_turn origin positions x) ≡ false

-- two sites that a site may become are the same, but for the order of the entries that their journals have more: they keep
-- the same, and have the same tables and counters, queue and pasts, finished positions, marks and errors
pub record SameButForOrder (before one other : SiteState) : Type 0 where
  pub new : List Entry
  pub other_new : List Entry
  pub journal : one.journal ≡ new ++ before.journal
  pub other_journal : other.journal ≡ other_new ++ before.journal
  pub entries : IsPermutation new other_new
  pub rest : record one { journal = before.journal } ≡ record other { journal = before.journal }
  pub content : content_of one ≡ content_of other
  pub queue : queue_of one ≡ queue_of other
  pub pasts : pasts_of one ≡ pasts_of other
  pub seen : past_of one ≡ past_of other
  pub finished_alike : (sender : SiteName) (position : ℕ) → finished sender one.journal position ≡ finished sender other.journal position
  pub low : (sender : SiteName) → low_water sender one.journal ≡ low_water sender other.journal
  pub standing : (sender : SiteName) (position : ℕ) → error_at sender position one.journal ≡ error_at sender position other.journal
  pub errors : errors_of one ≡ errors_of other

-- what a site of a sound schema needs so that the order doesn't count: the sender is a master, tables are tables, and what
-- arrived from the sender fits, can be passed, and is well numbered
pub record CanPassInAnyOrder (origin : SiteName) (x : SiteState) : Type 0 where
  pub sound : IsSound x.schema
  pub master : is_master_site x.schema origin ≡ true
  pub content : IsContent x.schema (content_of x)
  pub fits : AllByRecursion (λ (a : Arrival). TxnFits x.schema a.txn) (arrivals origin x)
  pub passes : CanPass origin (arrivals origin x)
  pub numbered : IsWellNumbered x.schema (arrivals origin x)

-- whatever the order in which all that is ready of a sender is applied, one site comes of it, but for the order of the new
-- entries
abbrev pub OneSiteComesOfAnyOrder : Type 0
OneSiteComesOfAnyOrder = (origin : SiteName) (x : SiteState) (positions others : List ℕ) → CanPassInAnyOrder origin x
    → AreAllThatIsReady origin positions x → AreAllThatIsReady origin others x
    → SameButForOrder x (applied_in_turn origin positions x) (applied_in_turn origin others x)

-- a pass takes such an order
pub record TakesSuchAnOrder (origin : SiteName) (x : SiteState) : Type 0 where
  pub positions : List ℕ
  pub all : AreAllThatIsReady origin positions (begun x)
  pub passed : site_pass origin x ≡ applied_in_turn origin positions (begun x)

-- so it is where what arrived can be passed
abbrev pub PassesTakeSuchAnOrder : Type 0
PassesTakeSuchAnOrder = (origin : SiteName) (x : SiteState) → CanPass origin (arrivals origin x) → TakesSuchAnOrder origin x

-- every site can pass in any order for every sender that is a master, after every list of events, where sites are as the
-- schema declares them
abbrev pub EverySiteCanPassInAnyOrder : Type 0
EverySiteCanPassInAnyOrder = (schema : Schema) (start : Cluster) (events : List Event) → IsFitStart schema start → AreDeclared schema start.sites
    → (site origin : SiteName) (x : SiteState) → site_of site (run events start).sites ≡ Some x → is_master_site schema origin ≡ true → CanPassInAnyOrder origin x
