-- What a line does to lanes and declared sites.
use Rattle.std.proofs.Common.{◌≡◌, ℕ, List, [], ◌∷◌, ◌++◌, map, Bool, true, false, cond, Some, None, refl, sym, ap, ◌∙◌, append-nil, inl, inr}
use Rattle.std.specs.Prelude.{◌⊎◌, Option, Result, Ok, Err, OnOk}
use Rattle.std.specs.List.{AllByRecursion}
use Rattle.std.proofs.lemmas.List.{map-append}
use Rattle.rep_values.specs.declared.name.SiteName.{SiteName}
use Rattle.rep_schema.specs.declared.schema.Schema.{Schema}
use Rattle.rep_schema.specs.declared.schema.SiteEntry.{SiteEntry}
use Rattle.rep_schema.specs.Named.{is_site, table_place}
use Rattle.rep_declare.specs.declared.declaration.Declare.{Declare}
use Rattle.rep_declare.specs.declared.declaration.Declare.TheVariants as declare
use Rattle.rep_declare.specs.Additions.{with_changed, with_site_level, declared}
use Rattle.report_text.specs.Refusals.{is_memory}
use Rattle.script_parse.specs.declared.command.Command.{Command}
use Rattle.script_parse.specs.declared.command.Command.TheVariants as command
use Rattle.script_parse.specs.declared.command.ParentWords.{ParentWords}
use Rattle.script_parse.specs.declared.command.TestWords.{TestWords}
use Rattle.live_laws.specs.declared.turn.LiveTurn.{LiveTurn}
use Rattle.live_laws.specs.declared.turn.Session.{Session}
use Rattle.live_laws.specs.Turns.{site_after}
use Rattle.world_state.specs.declared.phase.Phase.{Phase}
use Rattle.world_state.specs.declared.phase.Phase.TheVariants as phase
use Rattle.world_state.specs.declared.refused.Refused.{Refused}
use Rattle.world_state.specs.World.{WorldState, with_site}
use Rattle.world_state.specs.Declaring.{with_snapshot_at, tests_in}
use Rattle.world_state.specs.Pushes.{world_release, world_send, world_send_each, positions_above, world_deliver_mark, world_return_mark, pushed_in}
use Rattle.world_state.specs.Steps.{resumed, world_done}
use Rattle.world_laws.proofs.DeclaredStays.{IsPlain, plain_stays, refused_stays}
use Rattle.world.specs.declared.answer.Answer.{Answer}
use Rattle.world.specs.Doing.{IsDone, IsOutOfMemory, IsRefused}
use Rattle.world_push.specs.Lending.{reaching, brought_from, answered_to, live_opened}
use Rattle.world_run.specs.Lent.{LentWorld}
use Rattle.world_run.specs.Ended.{RanPart}
use Rattle.world_run.specs.declared.live_part.OpenPart.{OpenPart}
use Rattle.world_run.specs.LiveParts.{sessions_of, world_behind_part}
use Rattle.run_story.specs.declared.lane.Lane.{Lane}
use Rattle.run_story.specs.Lanes.{lane_of, bare, lanes_in, lanes_declared}
use Rattle.run_story.specs.Telling.{Followed, lane_at, AddsLanes}
use Rattle.run_story.specs.Running.{PartRan}

-- a look changes nothing that is declared of lanes
pub looks_bare : (v : LentWorld) (number : ℕ) (lanes : List Lane) → map bare (map (lane_at v number) lanes) ≡ map bare lanes
looks_bare v number [] = refl
looks_bare v number (lane ∷ lanes) = ap (λ (ls : List Lane). bare lane ∷ ls) (looks_bare v number lanes)

-- ---- lanes that are added

-- of their sites nothing was told
abbrev pub AreFresh : List Lane → Type 0
AreFresh lanes = AllByRecursion (λ (lane : Lane). (lane.told ≡ 0) × (lane.told_calls ≡ 0)) lanes

fresh_in : (d : Declare) → AreFresh (lanes_in d)
fresh_in (declare.Site name) = ((refl, refl), tt)
fresh_in (declare.LateSite name) = ((refl, refl), tt)
fresh_in (declare.SnapSite name master) = ((refl, refl), tt)
fresh_in other = tt

fresh_declared : (c : Command) → AreFresh (lanes_declared c)
fresh_declared (command.Declare d) = fresh_in d
fresh_declared other = tt

-- and nothing is known of them but what is declared
bare_in : (d : Declare) → map bare (lanes_in d) ≡ lanes_in d
bare_in (declare.Site name) = refl
bare_in (declare.LateSite name) = refl
bare_in (declare.SnapSite name master) = refl
bare_in other = refl

bare_declared : (c : Command) → map bare (lanes_declared c) ≡ lanes_declared c
bare_declared (command.Declare d) = bare_in d
bare_declared other = refl

-- a command that is no declaration adds none
pub declares_none : (c : Command) (lanes : List Lane) → ((d : Declare) → c ≡ command.Declare d → ⊥) → lanes ≡ lanes ++ lanes_declared c
declares_none (command.Declare d) lanes other = absurd (other d refl)
declares_none c lanes other = sym (append-nil lanes)

-- ---- declared sites

-- a change of a site that leaves its name and its kind
changed_same : (test : SiteEntry → Bool) (change : SiteEntry → SiteEntry) → ((entry : SiteEntry) → lane_of (change entry) ≡ lane_of entry) → (sites : List SiteEntry)
    → map lane_of (with_changed test change sites) ≡ map lane_of sites
changed_same test change same [] = refl
changed_same test change same (entry ∷ sites) = go (test entry) (changed_same test change same sites)
  where
    go : (b : Bool) → map lane_of (with_changed test change sites) ≡ map lane_of sites
        → map lane_of (cond b (change entry ∷ sites) (entry ∷ with_changed test change sites)) ≡ lane_of entry ∷ map lane_of sites
    go true later = ap (λ (lane : Lane). lane ∷ map lane_of sites) (same entry)
    go false later = ap (λ (lanes : List Lane). lane_of entry ∷ lanes) later

-- a declaration adds the lanes of its sites
declared_adds : (d : Declare) (s : Schema) → map lane_of (declared d s).sites ≡ map lane_of s.sites ++ lanes_in d
declared_adds (declare.Site name) s = map-append lane_of s.sites _
declared_adds (declare.LateSite name) s = map-append lane_of s.sites _
declared_adds (declare.SnapSite name master) s = map-append lane_of s.sites _
declared_adds (declare.SiteLevel site level) s =
    changed_same (is_site site) (with_site_level level) (λ entry. refl) s.sites ∙ sym (append-nil (map lane_of s.sites))
declared_adds (declare.Table name columns) s = sym (append-nil (map lane_of s.sites))
declared_adds (declare.Group table group columns) s = sym (append-nil (map lane_of s.sites))
declared_adds (declare.Method table group method) s = sym (append-nil (map lane_of s.sites))
declared_adds (declare.Priority group value level) s = sym (append-nil (map lane_of s.sites))
declared_adds (declare.Unique table constraint columns) s = sym (append-nil (map lane_of s.sites))
declared_adds (declare.UniqueMethod table constraint method) s = sym (append-nil (map lane_of s.sites))
declared_adds (declare.Check table check column rel value) s = sym (append-nil (map lane_of s.sites))
declared_adds (declare.Convergent table) s = sym (append-nil (map lane_of s.sites))

-- so does a command that is done
module _ (number : ℕ) (w : WorldState) where
  abbrev Adds : Command → Type 0
  Adds c = map lane_of (world_done number c w).schema.sites ≡ map lane_of w.schema.sites ++ lanes_declared c

  -- one that leaves the schema
  none : (y : WorldState) → y.schema ≡ w.schema → map lane_of y.schema.sites ≡ map lane_of w.schema.sites ++ []
  none y same = ap (λ (s : Schema). map lane_of s.sites) same ∙ sym (append-nil (map lane_of w.schema.sites))

  plain : (c : Command) → IsPlain c → (world_done number c w).schema ≡ w.schema
  plain c is = (plain_stays number c w is).schema

  snapshot : (site : SiteName) (table : Option ℕ) (parent : Option ParentWords) (tests : Option (List TestWords)) → (with_snapshot_at site table parent (tests_in tests) w).schema ≡ w.schema
  snapshot site None parent tests = refl
  snapshot site (Some table) parent tests = refl

  resume : (now : Phase) → (resumed now w).schema ≡ w.schema
  resume phase.Setup = refl
  resume phase.Running = refl
  resume phase.Suspended = refl

  done_adds : (c : Command) → Adds c
  done_adds (command.Declare d) = declared_adds d w.schema
  done_adds (command.Snapshot site table parent tests) = none (world_done number (command.Snapshot site table parent tests) w) (snapshot site (table_place w.schema table) parent tests)
  done_adds (command.Row table values) = none (world_done number (command.Row table values) w) refl
  done_adds command.Resume = none (world_done number command.Resume w) (resume w.phase)
  done_adds command.Suspend = none (world_done number command.Suspend w) refl
  done_adds command.Nothing = none w refl
  done_adds (command.Statement statement) = none (world_done number (command.Statement statement) w) (plain (command.Statement statement) tt)
  done_adds (command.Txn site) = none (world_done number (command.Txn site) w) (plain (command.Txn site) tt)
  done_adds command.Commit = none (world_done number command.Commit w) (plain command.Commit tt)
  done_adds command.Abandon = none (world_done number command.Abandon w) (plain command.Abandon tt)
  done_adds (command.Push from to count) = none (world_done number (command.Push from to count) w) (plain (command.Push from to count) tt)
  done_adds (command.Fates from to fates) = none (world_done number (command.Fates from to fates) w) (plain (command.Fates from to fates) tt)
  done_adds (command.ClearFates from to) = none (world_done number (command.ClearFates from to) w) (plain (command.ClearFates from to) tt)
  done_adds (command.Link from to word) = none (world_done number (command.Link from to word) w) (plain (command.Link from to word) tt)
  done_adds (command.Clock site time) = none (world_done number (command.Clock site time) w) (plain (command.Clock site time) tt)
  done_adds (command.Purge site) = none (world_done number (command.Purge site) w) (plain (command.Purge site) tt)
  done_adds (command.Execute site origin position) = none (world_done number (command.Execute site origin position) w) (plain (command.Execute site origin position) tt)
  done_adds (command.DropError site origin position) = none (world_done number (command.DropError site origin position) w) (plain (command.DropError site origin position) tt)
  done_adds (command.Refresh site how) = none (world_done number (command.Refresh site how) w) (plain (command.Refresh site how) tt)
  done_adds (command.PurgeLog master table) = none (world_done number (command.PurgeLog master table) w) (plain (command.PurgeLog master table) tt)
  done_adds (command.Join site source) = none (world_done number (command.Join site source) w) (plain (command.Join site source) tt)
  done_adds (command.Show what site) = none w refl
  done_adds (command.Procedures line) = none (world_done number (command.Procedures line) w) (plain (command.Procedures line) tt)

-- ---- lanes and sites

-- where lanes and world are as before
pub adds_none : (old new : Followed) → new.world ≡ old.world → new.lanes ≡ old.lanes → AddsLanes old new
adds_none old new world lanes = record {
  more = [];
  all = lanes ∙ sym (append-nil old.lanes);
  fresh = tt;
  keeps = λ has. rw (world, lanes) has;
}

-- where the lanes are, and the schema
adds_same : (old new : Followed) → new.world.world.schema ≡ old.world.world.schema → new.lanes ≡ old.lanes → AddsLanes old new
adds_same old new schema lanes = record {
  more = [];
  all = lanes ∙ sym (append-nil old.lanes);
  fresh = tt;
  keeps = λ has. ap (λ (ls : List Lane). map bare ls) lanes ∙ has ∙ ap (λ (s : Schema). map lane_of s.sites) (sym schema);
}

-- behind a command that was done
pub adds_done : (number : ℕ) (c : Command) (old new : Followed) (w : WorldState) (answer : Answer) → IsDone number c old.world.world w answer → new.world.world ≡ w → new.lanes ≡ old.lanes ++ lanes_declared c
    → AddsLanes old new
adds_done number c old new w answer done world lanes = record {
  more = lanes_declared c;
  all = lanes;
  fresh = fresh_declared c;
  keeps = λ has.
      ap (λ (ls : List Lane). map bare ls) lanes
      ∙ map-append bare old.lanes (lanes_declared c)
      ∙ ap (λ (ls : List Lane). map bare old.lanes ++ ls) (bare_declared c)
      ∙ ap (λ (ls : List Lane). ls ++ lanes_declared c) has
      ∙ sym (done_adds number old.world.world c)
      ∙ ap (λ (y : WorldState). map lane_of y.schema.sites) (sym done.world ∙ sym world);
}

-- so it is where there was memory to follow it
pub adds_followed : {A E : Type 0} (result : Result A E) (number : ℕ) (c : Command) (old new : Followed) (w : WorldState) (answer : Answer) → IsDone number c old.world.world w answer → new.world.world ≡ w
    → OnOk result (new.lanes ≡ old.lanes ++ lanes_declared c) → OnOk result (AddsLanes old new)
adds_followed (Ok a) number c old new w answer done world lanes = adds_done number c old new w answer done world lanes
adds_followed (Err e) number c old new w answer done world lanes = tt

-- behind one that was refused, not for want of memory
pub adds_refused : (number : ℕ) (c : Command) (old new : Followed) (w : WorldState) (r : Refused) → is_memory r.refusal ≡ false → IsOutOfMemory number c old.world.world w r ⊎ IsRefused number c old.world.world w r
    → new.world.world ≡ w → new.lanes ≡ old.lanes → AddsLanes old new
adds_refused number c old new w r told (inl short) world lanes = let memory = rw short.memory at told in absurd (cc memory)
adds_refused number c old new w r told (inr is) world lanes =
    adds_same old new (ap (λ (y : WorldState). y.schema) (world ∙ is.world) ∙ (refused_stays c old.world.world).schema) lanes

-- ---- the end of a part

sent_schema : (from to : SiteName) (positions : List ℕ) (w : WorldState) → (world_send_each from to positions w).schema ≡ w.schema
sent_schema from to [] w = refl
sent_schema from to (position ∷ more) w = sent_schema from to more (world_send from to position w)

brought_schema : (names : List SiteName) (name : SiteName) (w : WorldState) → (brought_from names name w).schema ≡ w.schema
brought_schema [] name w = refl
brought_schema (from ∷ more) name w =
    brought_schema more name (pushed_in from name None w)
    ∙ sent_schema from name (positions_above from name None (world_release from name w)) (world_release from name w)

either_schema : (b : Bool) (x y w : WorldState) → x.schema ≡ w.schema → y.schema ≡ w.schema → (cond b x y).schema ≡ w.schema
either_schema true x y w one other = one
either_schema false x y w one other = other

returned_schema : (from to : SiteName) (w : WorldState) → (world_return_mark from to w).schema ≡ w.schema
returned_schema from to w = either_schema _ (world_deliver_mark from to w) w w refl refl

answered_schema : (names : List SiteName) (name : SiteName) (w : WorldState) → (answered_to names name w).schema ≡ w.schema
answered_schema [] name w = refl
answered_schema (to ∷ more) name w = answered_schema more name (world_return_mark name to w) ∙ returned_schema name to w

behind_schema : (site : SiteName) (sessions : List Session) (turns : List LiveTurn) (w : WorldState) → (world_behind_part site sessions turns w).schema ≡ w.schema
behind_schema site sessions turns w =
    let run = with_site site (site_after sessions turns) (live_opened site w) in
    answered_schema (reaching site run) site run ∙ brought_schema (reaching site w) site w

-- behind a part that was run
pub adds_ran : (old new : Followed) (p : OpenPart) (e : RanPart) → PartRan old.world.world p new.world e → new.lanes ≡ old.lanes → AddsLanes old new
adds_ran old new p e ran lanes =
    adds_same old new (ap (λ (y : WorldState). y.schema) ran.runs.behind ∙ behind_schema p.site (sessions_of p) ran.turns old.world.world) lanes
