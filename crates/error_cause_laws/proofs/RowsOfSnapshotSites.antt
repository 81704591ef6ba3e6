-- A row of a convergent table at a snapshot site is one of its master's, and so is each row that its transactions need.
use Rattle.std.proofs.Common.{◌≡◌, ◌≢◌, ℕ, ◌+◌, ◌≤◌, Bool, true, false, cond, List, [], ◌∷◌, length, Some, None, Ok, Err, refl, sym, ap, ◌∙◌, subst, inl, inr, arith}
use mathlib.Core.Bool.{true≢false}
use Rattle.std.specs.Prelude.{Option, Result, option_map, slice_get}
use Rattle.rep_values.specs.declared.name.SiteName.{SiteName}
use Rattle.rep_schema.specs.declared.schema.Schema.{Schema}
use Rattle.rep_lists.specs.Rising.{IsRising}
use Rattle.rep_schema.specs.Tables.{Rows, columns_of, rows_of, row_cmp}
use Rattle.rep_calls.specs.declared.call.Txn.{Txn}
use Rattle.rep_calls.specs.declared.statement.Statement.{Statement}
use Rattle.txn_effects.specs.Contents.{Content}
use Rattle.txn_effects.specs.declared.local.Here.{Here}
use Rattle.txn_effects.specs.declared.local.LocalStop.{LocalStop}
use Rattle.txn_effects.specs.Locals.{BlockEffect, local_effect}
use Rattle.deferred_queue.specs.Streams.{at_position}
use Rattle.packet_code.specs.declared.packet.Packet.{Packet}
use Rattle.packet_code.specs.declared.packet.Packet.TheVariants.{Carry, Mark}
use Rattle.error_queue.specs.declared.entry.ErrorEntry.{ErrorEntry}
use Rattle.site_state.specs.declared.arrival.Arrival.{Arrival}
use Rattle.site_state.specs.declared.answers.Why.TheVariants as why
use Rattle.site_state.specs.State.{SiteState, arrived_at, opened_of}
use Rattle.site_state.specs.Journal.{finished, error_at}
use Rattle.site_state.specs.Contents.{tables_of, txn_of}
use Rattle.site_state.specs.Streams.{queue_of, stream_in, stream_to}
use Rattle.site_state.specs.Ready.{stale_found}
use Rattle.site_state.specs.Steps.{is_empty, begun}
use Rattle.site_state.specs.Commits.{block_at, committed, committed_by, site_commit, site_clock}
use Rattle.site_state.specs.Packets.{is_foreign, arrived_by, taken_unless, count_opened, site_accept}
use Rattle.site_state.specs.Passes.{applied_unless, site_apply}
use Rattle.site_state.specs.Errors.{dropped_found, executed_found, site_execute, site_drop}
use Rattle.site_state.specs.Purges.{site_purge, site_purge_log}
use Rattle.rep_schema.specs.Sites.{is_late_master}
use Rattle.site_state.proofs.Stepping.{commit_steps, apply_steps, execute_steps, drop_steps}
use Rattle.site_state.proofs.Changing.{accept_later}
use Rattle.site_events.specs.Cluster.{Cluster, site_of, at_site}
use Rattle.site_events.specs.Joins.{joined}
use Rattle.site_events.specs.Events.{Event, Commit, SetClock, Send, SendMark, Deliver, Begin, Apply, Execute, Drop, Purge, PurgeLog, Refresh, Join, run, happens, delivered, receiver, may_apply, applied_where, master_of, found_site, refreshed}
use Rattle.event_laws.specs.Starts.{IsNewSite}
use Rattle.event_laws.proofs.Sites.{KeepsHere, at_split, found_all, found_again}
use Rattle.event_laws.proofs.Happening.{IsRefreshed, refreshed_is, here-IsRefreshed}
use Rattle.event_laws.proofs.Happening as happening
use Rattle.event_laws.proofs.NewSites.{copied_here}
use Rattle.event_laws.proofs.DeclaredSites.{IsSiteOf, joins_late}
use Rattle.event_laws.proofs.Waiting.{AreMet, run_met}
use Rattle.convergence_laws.proofs.Applied.{error_finished}
use Rattle.convergence_laws.proofs.SitesAt.{WasJoined, was_joined}
use Rattle.convergence_laws.proofs.SitesAt as sites_at
use Rattle.rep_laws.proofs.ConvergentRows.{StandsAlone-convergent}
use Rattle.error_cause_laws.proofs.Moving.{Moves, Happened, Stayed, Erred, Committed, Applied, Commits}
use Rattle.error_cause_laws.proofs.Turning.{Turns}
use Rattle.error_cause_laws.proofs.Turning as turning
use Rattle.error_cause_laws.proofs.NeededRows.{Needs}
use Rattle.error_cause_laws.proofs.FinishedPasts.{meets_at}
use Rattle.error_cause_laws.proofs.OneRow.{Setting, Was, was, Changed, Other, commit_puts, Sites, sign, Has, makes_of, well, turned, has_first, put_comes, keeps_row}
use Rattle.error_cause_laws.proofs.QueuedNeeds.{Placed, Before, New, placed, new_needs}
use Rattle.error_cause_laws.proofs.JoinEvents.{JoinLeaves, Nothing, OneMore, join_leaves}
use Rattle.error_cause_laws.proofs.LostInserts.{number_of}
use Rattle.error_cause_laws.proofs.SnapshotSites.{home_is_early, no_senders, sends_home}
use Rattle.event_laws.proofs.RefreshedRows.{shown_there}

-- ---- the tables of a site that has no senders and no error

pub record IsSilent (x : SiteState) : Type 0 where
  pub senders : x.senders ≡ []
  pub errors : (origin : SiteName) (position : ℕ) → error_at origin position x.journal ≡ None

-- what becomes of them in an event: they are the same; the queue is longer; or they are refreshed
data Becomes (sites : List SiteState) (x y : SiteState) : Type 0 where
  Same : tables_of y ≡ tables_of x → Becomes sites x y
  Longer : (txn : Txn) → queue_of y ≡ txn ∷ queue_of x → Becomes sites x y
  Renewed : IsRefreshed sites x y → Becomes sites x y

module _ (sites : List SiteState) (x : SiteState) where
  commit_becomes : (statements : List Statement) → Becomes sites x (site_commit statements x)
  commit_becomes statements = go (block_at statements x)
    where
      by : (block : BlockEffect) (b : Bool) → Becomes sites x (cond b x (committed block x))
      by block true = Same refl
      by block false = Longer (txn_of x.schema block.changes) refl

      go : (r : Result BlockEffect LocalStop) → Becomes sites x (committed_by r x)
      go (Ok block) = by block (is_empty block.changes)
      go (Err stop) = Same refl

  accept_becomes : (packet : Packet) → Becomes sites x (site_accept packet x)
  accept_becomes packet = go packet (is_foreign packet x)
    where
      by : (found : Option Arrival) (from : SiteName) (a : Arrival) → Becomes sites x (arrived_by found from a x)
      by None from a = Same refl
      by (Some before) from a = Same refl

      go : (packet : Packet) (b : Bool) → Becomes sites x (taken_unless b packet x)
      go packet true = Same refl
      go (Carry from to number position dep past txn) false = by (arrived_at from position x.senders) from _
      go (Mark from to mark) false = Same refl

  drop_becomes : (origin : SiteName) (position : ℕ) → Becomes sites x (site_drop origin position x)
  drop_becomes origin position = go (error_at origin position x.journal)
    where
      go : (found : Option ErrorEntry) → Becomes sites x (dropped_found found x)
      go None = Same refl
      go (Some e) = Same refl

  execute_becomes : IsSilent x → (origin : SiteName) (position : ℕ) → Becomes sites x (site_execute origin position x)
  execute_becomes silent origin position = Same (ap (λ (found : Option ErrorEntry). tables_of (executed_found found x)) (silent.errors origin position))

  apply_becomes : IsSilent x → (origin : SiteName) (position : ℕ) → Becomes sites x (site_apply origin position x)
  apply_becomes silent origin position = by (arrived_at origin position x.senders) (ap (arrived_at origin position) silent.senders) (finished origin x.journal position)
    where
      by : (found : Option Arrival) → found ≡ None → (b : Bool) → Becomes sites x (applied_unless (cond b (Some why.Finished) (stale_found origin x found)) origin found x)
      by None none true = Same refl
      by None none false = Same refl
      by (Some a) none b = cc

  -- one site of several changes
  at_becomes : (site name : SiteName) (change : SiteState → SiteState) → KeepsHere change → site_of site sites ≡ Some x → Becomes sites x (change x) → (y : SiteState) → site_of site (at_site name change sites) ≡ Some y → Becomes sites x y
  at_becomes site name change here found becomes y after =
      at_split (λ (o : Option SiteState). o ≡ Some y → Becomes sites x y) name site change sites here
      (λ same e. own (ap (option_map change) (sym found) ∙ e)) (λ e. other (sym found ∙ e)) after
    where
      own : Some (change x) ≡ Some y → Becomes sites x y
      own e = let same : change x ≡ y = cc in subst (Becomes sites x) same becomes

      other : Some x ≡ Some y → Becomes sites x y
      other e = let same : x ≡ y = cc in Same (ap tables_of (sym same))

  still : (y : SiteState) (site : SiteName) → site_of site sites ≡ Some x → site_of site sites ≡ Some y → Becomes sites x y
  still y site found after = let same : x ≡ y = cc (found, after) in Same (ap tables_of (sym same))

happens_so : (e : Event) (w : Cluster) (site : SiteName) (x y : SiteState) → site_of site w.sites ≡ Some x → site_of site (happens e w).sites ≡ Some y → IsSilent x → Becomes w.sites x y
happens_so (Commit name statements) w site x y found after silent = at_becomes w.sites x site name (site_commit statements) (λ x. (commit_steps statements x).here) found (commit_becomes w.sites x statements) y after
happens_so (SetClock name clock) w site x y found after silent = at_becomes w.sites x site name (site_clock clock) (λ x. refl) found (Same refl) y after
happens_so (Send from to position) w site x y found after silent = still w.sites x y site found after
happens_so (SendMark from to) w site x y found after silent = still w.sites x y site found after
happens_so (Deliver which) w site x y found after silent = go (slice_get w.sent which) after
  where
    go : (packet : Option Packet) → site_of site (delivered packet w.sites) ≡ Some y → Becomes w.sites x y
    go None after = still w.sites x y site found after
    go (Some packet) after = at_becomes w.sites x site (receiver packet) (site_accept packet) (λ x. (accept_later packet x).here) found (accept_becomes w.sites x packet) y after
happens_so (Begin name) w site x y found after silent = at_becomes w.sites x site name begun (λ x. refl) found (Same refl) y after
happens_so (Apply name origin position) w site x y found after silent = go (may_apply name w) after
  where
    go : (b : Bool) → site_of site (applied_where b name origin position w.sites) ≡ Some y → Becomes w.sites x y
    go true after = at_becomes w.sites x site name (site_apply origin position) (λ x. (apply_steps origin position x).here) found (apply_becomes w.sites x silent origin position) y after
    go false after = still w.sites x y site found after
happens_so (Execute name origin position) w site x y found after silent =
    at_becomes w.sites x site name (site_execute origin position) (λ x. (execute_steps origin position x).here) found (execute_becomes w.sites x silent origin position) y after
happens_so (Drop name origin position) w site x y found after silent = at_becomes w.sites x site name (site_drop origin position) (λ x. (drop_steps origin position x).here) found (drop_becomes w.sites x origin position) y after
happens_so (Purge name) w site x y found after silent = at_becomes w.sites x site name site_purge (λ x. refl) found (Same refl) y after
happens_so (PurgeLog name table) w site x y found after silent = at_becomes w.sites x site name (site_purge_log table) (λ x. refl) found (Same refl) y after
happens_so (Refresh name) w site x y found after silent = at_becomes w.sites x site name (refreshed w.sites) (λ x. here-IsRefreshed w.sites x (refreshed w.sites x) (refreshed_is w.sites x)) found (Renewed (refreshed_is w.sites x)) y after
happens_so (Join name source) w site x y found after silent = go (joined name source w.sites) (join_leaves w.sites name source) after
  where
    go : (ys : List SiteState) → JoinLeaves w.sites name source ys → site_of site ys ≡ Some y → Becomes w.sites x y
    go _ Nothing after = still w.sites x y site found after
    go _ (OneMore s absent there may) after = by y (was_joined w.sites s name site y after)
      where
        by : (v : SiteState) → WasJoined w.sites s name site v → Becomes w.sites x v
        by _ (sites_at.Old z at) = let same : x ≡ z = cc (found, at) in Same (ap tables_of (sym same))
        by _ (sites_at.New named) = let none : site_of site w.sites ≡ None = ap (λ (n : SiteName). site_of n w.sites) named ∙ absent in absurd (cc (none, found))

-- ---- the row

module _ (g : Setting) where
  abbrev After : List Event → List SiteState
  After events = Sites g events

  met : (events : List Event) → AreMet g.schema (After events) (run events g.start).sent
  met events = run_met g.schema g.start events g.fit.start g.meshed

  of : (events : List Event) (site : SiteName) (x : SiteState) → site_of site (After events) ≡ Some x → IsSiteOf g.schema x
  of events site x found = found_all (IsSiteOf g.schema) site (After events) x (met events).sites_of found

  silent : (events : List Event) (site : SiteName) (x : SiteState) → site_of site (After events) ≡ Some x → x.here.is_master ≡ false → IsSilent x
  silent events site x found off = record { senders = none; errors = λ origin position. go origin position (error_at origin position x.journal) refl }
    where
      none : x.senders ≡ []
      none = no_senders g.schema g.meshed.declared.shape x (of events site x found).declared off

      go : (origin : SiteName) (position : ℕ) (e : Option ErrorEntry) → error_at origin position x.journal ≡ e → e ≡ None
      go origin position None is = refl
      go origin position (Some e) is =
          let done = error_finished origin position x.journal (λ n. absurd (cc (n, is))) in
          absurd ((meets_at g.schema (After events) (run events g.start).sent (met events) site x found).arrived origin position done (ap (arrived_at origin position) none))

  -- its master has the row, where it is there
  abbrev pub HomeHas : List SiteState → SiteState → Type 0
  HomeHas sites s = (home : SiteName) (z : SiteState) → master_of g.schema s.here.site ≡ Some home → site_of home sites ≡ Some z → z.here.is_master ≡ true → Has g z

  pub record IsShown (sites : List SiteState) (s : SiteState) : Type 0 where
    pub rows : Has g s → HomeHas sites s
    pub needs : (n : ℕ) (txn : Txn) → at_position n (queue_of s) ≡ Some txn → Needs g.schema g.table g.key txn → HomeHas sites s

  abbrev AreShown : List SiteState → Type 0
  AreShown sites = (site : SiteName) (s : SiteState) → site_of site sites ≡ Some s → s.here.is_master ≡ false → IsShown sites s

  -- ---- the master keeps it

  home_later : (e : Event) (events : List Event) (s : SiteState) → HomeHas (After events) s → HomeHas (After (e ∷ events)) s
  home_later e events s has home z is found on = go (turned g e events)
    where
      go : Turns (After events) (After (e ∷ events)) → Has g z
      go (turning.Same same) = has home z is (ap (site_of home) (sym same) ∙ found) on
      go (turning.One x y x_found y_found rest moves) = by (was (After events) (After (e ∷ events)) x y x_found y_found rest home z found)
        where
          by : Was (After events) (After (e ∷ events)) x y x_found y_found rest home z → Has g z
          by (Other apart there) = has home z is there on
          by (Changed own same) =
              let master : x.here.is_master ≡ true = ap (λ (h : Here). h.is_master) (sym moves.here) ∙ ap (λ (v : SiteState). v.here.is_master) (sym same) ∙ on in
              subst (Has g) (sym same) (keeps_row g e events x y x_found y_found moves master (has home x is (ap (λ (n : SiteName). site_of n (After events)) own ∙ x_found) master))
      go (turning.Joins joins source absent source_found may same) = by z on (was_joined (After events) source joins home z (ap (site_of home) (sym same) ∙ found))
        where
          by : (w : SiteState) → w.here.is_master ≡ true → WasJoined (After events) source joins home w → Has g w
          by _ on (sites_at.Old v there) = has home v is there on
          by _ on (sites_at.New named) =
              let late = joins_late (After events) source joins may in
              absurd (home_is_early g.schema g.meshed.declared.shape s.here.site home is
              (subst (λ (n : SiteName). is_late_master g.schema n ≡ true) (sym named)
              (subst (λ (c : Schema). is_late_master c joins ≡ true) (well g events source.here.site source source_found).of_schema late)))

  same_home : (sites : List SiteState) (s t : SiteState) → t.here ≡ s.here → HomeHas sites s → HomeHas sites t
  same_home sites s t here has home z is found on = has home z (ap (λ (h : Here). master_of g.schema h.site) (sym here) ∙ is) found on

  -- ---- one site changes

  module _ (e : Event) (events : List Event) (x y : SiteState) (x_found : site_of x.here.site (After events) ≡ Some x) (y_found : site_of x.here.site (After (e ∷ events)) ≡ Some y) (moves : Moves (After events) x y)
      (off : x.here.is_master ≡ false) (before : IsShown (After events) x) where
    later : HomeHas (After events) x → HomeHas (After (e ∷ events)) y
    later has = same_home (After (e ∷ events)) x y moves.here (home_later e events x has)

    longer : (txn : Txn) → txn ∷ queue_of x ≡ queue_of x → ⊥
    longer txn same = omega (arith, ap length same)

    -- a refresh brings its master's rows
    renewed : (v : SiteState) → IsRefreshed (After events) x v → Has g v → HomeHas (After events) x
    renewed _ happening.Not has = before.rows has
    renewed _ (happening.From master there is) has = elim (shown_there x.schema (columns_of g.schema g.table) g.table g.key (tables_of master) rising x.snapshots (tables_of x) has) [
      | inl own ↦ before.rows own
      | inr theirs ↦ λ home z is_home found on.
          let at : site_of home (After events) ≡ Some master = by (master_of x.schema x.here.site) (ap (λ (s : Schema). master_of s x.here.site) (of events x.here.site x x_found).of_schema ∙ is_home) there in
          let same : master ≡ z = cc (at, found) in
          subst (Has g) same theirs
    ]
      where
        by : {home : SiteName} (m : Option SiteName) → m ≡ Some home → found_site (After events) m ≡ Some master → site_of home (After events) ≡ Some master
        by None is there = cc
        by {home} (Some n) is there = let same : n ≡ home = cc in subst (λ (k : SiteName). site_of k (After events) ≡ Some master) same there

        found_there : (m : Option SiteName) → found_site (After events) m ≡ Some master → site_of master.here.site (After events) ≡ Some master
        found_there None is = cc
        found_there (Some n) is = found_again n (After events) master is

        rising : IsRising (row_cmp (columns_of g.schema g.table)) (rows_of (tables_of master) g.table)
        rising =
            let z_well = well g events master.here.site master (found_there (master_of x.schema x.here.site) there) in
            (z_well.content.tables.each g.table (StandsAlone-convergent g.schema g.fit.sound g.table g.convergent).below).rising

    rows_then : Has g y → HomeHas (After events) x
    rows_then has = go moves.what
      where
        quiet : queue_of y ≡ queue_of x → Becomes (After events) x y → HomeHas (After events) x
        quiet queue (Same tables) = before.rows (subst (λ (ts : List Rows). (sign g).Present ts) tables has)
        quiet queue (Longer txn more) = absurd (longer txn (sym more ∙ queue))
        quiet queue (Renewed is) = renewed y is has

        own : (c : Commits x y moves.entry) → HomeHas (After events) x
        own c = elim (put_comes g x y x.here.site (txn_of g.schema c.block.changes) (commit_puts g.schema (After events) x y moves.entry (well g events x.here.site x x_found) (well g (e ∷ events) x.here.site y y_found) c) has) [
          | inl was ↦ before.rows was
          | inr makes ↦ absurd (makes_none c makes)
        ]
          where
            -- it inserts no row itself
            makes_none : (c : Commits x y moves.entry) → 1 ≤ makes_of g (txn_of g.schema c.block.changes) → ⊥
            makes_none c makes =
                ((sign g).makes x.here x.stamps c.statements (tables_of x) c.block (well g events x.here.site x x_found).content.tables
                (subst (λ (s : Schema). local_effect s x.here x.stamps c.statements (tables_of x) ≡ Ok c.block) (well g events x.here.site x x_found).of_schema c.makes)).fresh makes (λ on. absurd (true≢false (sym on ∙ off)))

        go : Happened (After events) x y moves.entry → HomeHas (After events) x
        go (Stayed s) = quiet s.queue (happens_so e (run events g.start) x.here.site x y x_found y_found (silent events x.here.site x x_found off))
        go (Erred f) = before.rows (subst (λ (c : Content). (sign g).Present c.tables) f.content has)
        go (Committed c) = own c
        go (Applied a) = absurd (true≢false (sym a.master ∙ off))

    changed_shown : IsShown (After (e ∷ events)) y
    changed_shown = record {
      rows = λ has. later (rows_then has);
      needs = λ n txn at needs. go needs (placed g e events x y x_found y_found moves n txn at);
    }
      where
        go : {n : ℕ} {txn : Txn} → Needs g.schema g.table g.key txn → Placed g e events x y x_found y_found moves n txn → HomeHas (After (e ∷ events)) y
        go {n} {txn} needs (Before at) = later (before.needs n txn at needs)
        go {n} {txn} needs (New place new) = later (before.rows (new_needs g e events x y x_found y_found moves txn new needs))

  pub are_shown : (events : List Event) → AreShown (After events)
  are_shown [] = λ site s found off. record {
    rows = λ has home z is z_found on. has_first g site home s z found z_found on has;
    needs = λ n txn at needs. nothing site s found n txn at;
  }
    where
      nothing : (site : SiteName) (s : SiteState) → site_of site g.start.sites ≡ Some s → (n : ℕ) (txn : Txn) → at_position n (queue_of s) ≡ Some txn → {A : Type 0} → A
      nothing site s found n txn at =
          let none : queue_of s ≡ [] = rw (found_all (IsNewSite g.schema) site g.start.sites s g.fit.start.sites found).journal refl in
          let nothing : at_position n (queue_of s) ≡ None = ap (at_position n) none in
          absurd (cc (nothing, at))
  are_shown (e ∷ es) = go (turned g e es) (are_shown es)
    where
      still_shown : (s : SiteState) → IsShown (After es) s → IsShown (After (e ∷ es)) s
      still_shown s shown = record { rows = λ has. home_later e es s (shown.rows has); needs = λ n txn at needs. home_later e es s (shown.needs n txn at needs) }

      go : Turns (After es) (After (e ∷ es)) → AreShown (After es) → AreShown (After (e ∷ es))
      go (turning.Same same) before site s found off = still_shown s (before site s (ap (site_of site) (sym same) ∙ found) off)
      go (turning.One x y x_found y_found rest moves) before site s found off = by (was (After es) (After (e ∷ es)) x y x_found y_found rest site s found)
        where
          by : Was (After es) (After (e ∷ es)) x y x_found y_found rest site s → IsShown (After (e ∷ es)) s
          by (Other apart there) = still_shown s (before site s there off)
          by (Changed own same) =
              let plain : x.here.is_master ≡ false = ap (λ (h : Here). h.is_master) (sym moves.here) ∙ ap (λ (v : SiteState). v.here.is_master) (sym same) ∙ off in
              subst (IsShown (After (e ∷ es))) (sym same) (changed_shown e es x y x_found y_found moves plain (before x.here.site x x_found plain))
      go (turning.Joins joins source absent source_found may same) before site s found off = by s off (was_joined (After es) source joins site s (ap (site_of site) (sym same) ∙ found))
        where
          by : (w : SiteState) → w.here.is_master ≡ false → WasJoined (After es) source joins site w → IsShown (After (e ∷ es)) w
          by _ off (sites_at.Old v there) = let shown = still_shown v (before site v there off) in record { rows = shown.rows; needs = shown.needs }
          by _ off (sites_at.New named) = absurd (true≢false (sym (ap (λ (h : Here). h.is_master) (copied_here (After es) source joins)) ∙ off))

  -- what a snapshot site sends needs rows that its master has
  pub sent_needs : (events : List Event) (site : SiteName) (x o : SiteState) (position : ℕ) (txn : Txn) → site_of site (After events) ≡ Some x → x.here.is_master ≡ true → site_of o.here.site (After events) ≡ Some o
      → o.here.is_master ≡ false → at_position position (stream_to site o) ≡ Some txn → Needs g.schema g.table g.key txn → Has g x
  sent_needs events site x o position txn found on there off sent needs =
      (are_shown events o.here.site o there off).needs (count_opened (opened_of site o) + position) txn (number_of g (opened_of site o) (queue_of o) position txn sent) needs
      site x (sends_home g.schema g.meshed.declared.shape o (of events o.here.site o there).declared off site (is_open (opened_of site o) refl)) found on
    where
      is_open : (c : Option ℕ) → opened_of site o ≡ c → opened_of site o ≢ None
      is_open None is = λ none. let nothing : at_position position (stream_in None (queue_of o)) ≡ Some txn = subst (λ (k : Option ℕ). at_position position (stream_in k (queue_of o)) ≡ Some txn) is sent in cc
      is_open (Some c) is = λ none. cc (sym is ∙ none)
