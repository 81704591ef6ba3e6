-- What holds of the sites of every world: which masters agree, what excuses an error, which rows are missing, and what the
-- groups of rows are.
use Rattle.std.specs.Prelude.{◌≡◌, true, false, Some}
use Rattle.rep_values.specs.declared.name.SiteName.{SiteName}
use Rattle.site_state.specs.State.{SiteState}
use Rattle.site_state.specs.Contents.{tables_of}
use Rattle.rep_schema.specs.Sites.{is_late_master}
use Rattle.site_events.specs.Cluster.{site_of}
use Rattle.site_events.specs.Quiet.{are_quiet}
use Rattle.convergence_laws.specs.Laws.{AreJoined, AreJoinedSince}
use Rattle.convergence_laws.specs.Agreement.{LatestTellApart}
use Rattle.convergence_laws.specs.QuietAgreement.{NothingWasDropped, MastersAgree}
use Rattle.error_cause_laws.specs.Excuses.{ErrorsAreSo, RefusalsAreSo, IsExcusedOn}
use Rattle.world_state.specs.World.{WorldState}
use Rattle.world_state.specs.Phases.{is_setup}
use Rattle.convergent_worlds.specs.Histories.{MastersAgreeAgain, MissesLostRows, HasHistory}
use Rattle.world_laws.specs.AlikeWorlds.{IsOfConvergence}

-- where all masters of a world are quiet and no error of a master's transaction was dropped, they agree
abbrev pub MastersAgreeWhenQuiet : WorldState → Type 0
MastersAgreeWhenQuiet w = are_quiet w.sites ≡ true → NothingWasDropped w.schema w.sites → MastersAgree w.schema w.sites

-- it is so with each site of a world that is a master
abbrev pub AtEachMaster : (WorldState → SiteState → Type 0) → WorldState → Type 0
AtEachMaster Holds w = (site : SiteName) (x : SiteState) → site_of site w.sites ≡ Some x → x.here.is_master ≡ true → Holds w x

-- each error of a transaction on convergent tables is excused, and so is an execution that is refused
abbrev pub HasExcuses : WorldState → SiteState → Type 0
HasExcuses w x = ErrorsAreSo (IsExcusedOn w.schema x.base) x.journal × RefusalsAreSo (IsExcusedOn w.schema x.base) x

abbrev pub EachErrorIsExcused : WorldState → Type 0
EachErrorIsExcused w = AtEachMaster HasExcuses w

-- each group of each row of a convergent table is the join of its first values and of the parts applied there
abbrev pub HasJoins : WorldState → SiteState → Type 0
HasJoins w x = AreJoined w.schema x.base x.journal (tables_of x)

abbrev pub EachGroupIsJoined : WorldState → Type 0
EachGroupIsJoined w = AtEachMaster HasJoins w

-- and so it is from any moment of the journal on
abbrev pub HasJoinsSince : WorldState → SiteState → Type 0
HasJoinsSince w x = AreJoinedSince w.schema x.here.site x.base x.journal

abbrev pub EachGroupIsJoinedSince : WorldState → Type 0
EachGroupIsJoinedSince w = AtEachMaster HasJoinsSince w

-- at a master that was there from the start the insert of a missing row of a convergent table is in error there or was dropped
-- there
abbrev pub LosesInserts : WorldState → SiteState → Type 0
LosesInserts w x = is_late_master w.schema x.here.site ≡ false → MissesLostRows w.schema (λ table key. false) x

abbrev pub EachMissingRowIsLost : WorldState → Type 0
EachMissingRowIsLost w = AtEachMaster LosesInserts w

-- the latest values of a row, its first ones and those of all parts applied there, tell apart: one of them is the greatest
abbrev pub HasGreatest : WorldState → SiteState → Type 0
HasGreatest w x = LatestTellApart w.schema x.base x.journal

abbrev pub EachHasGreatest : WorldState → Type 0
EachHasGreatest w = AtEachMaster HasGreatest w

-- all of it
pub record ConvergenceHolds (w : WorldState) : Type 0 where
  pub agree : MastersAgreeWhenQuiet w
  pub excused : EachErrorIsExcused w
  pub lost : EachMissingRowIsLost w
  pub again : MastersAgreeAgain w
  pub history : is_setup w.phase ≡ false → HasHistory w
  pub joined : EachGroupIsJoined w
  pub since : EachGroupIsJoinedSince w
  pub greatest : EachHasGreatest w

-- the laws of convergence hold of each such world
abbrev pub HoldsOfConvergence : Type 0
HoldsOfConvergence = (w : WorldState) → IsOfConvergence w → ConvergenceHolds w
