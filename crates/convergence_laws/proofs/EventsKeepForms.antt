-- After every list of events each master's journal is as it was made, and so its groups are joined.
use Rattle.std.proofs.Common.{◌≡◌, ℕ, List, [], ◌∷◌, map, Bool, true, false, cond, Some, None, refl, sym, ap, ◌∙◌, subst}
use mathlib.Core.Bool.{true≢false}
use Rattle.std.specs.Prelude.{Option, slice_get}
use Rattle.std.specs.Option.{option_map}
use Rattle.std.specs.List.{AllByRecursion}
use Rattle.rep_values.specs.declared.name.SiteName.{SiteName}
use Rattle.rep_schema.specs.declared.schema.Schema.{Schema}
use Rattle.rep_schema.specs.Tables.{AreTables}
use Rattle.rep_schema.specs.Sites.{senders_of}
use Rattle.rep_calls.specs.declared.past.PastEntry.{PastEntry}
use Rattle.packet_code.specs.declared.packet.Packet.{Packet}
use Rattle.rep_laws.specs.Commuting.{IsSound}
use Rattle.site_state.specs.State.{SenderState, SiteState}
use Rattle.site_state.specs.Contents.{tables_of}
use Rattle.site_state.specs.Steps.{begun}
use Rattle.site_state.specs.Commits.{site_commit, site_clock}
use Rattle.site_state.specs.Packets.{site_packet, site_accept}
use Rattle.site_state.specs.Passes.{site_apply}
use Rattle.site_state.specs.Errors.{site_execute, site_drop}
use Rattle.site_state.specs.Purges.{site_purge, site_purge_log}
use Rattle.site_state.specs.Refreshes.{with_tables}
use Rattle.site_state.specs.Making.{master_here}
use Rattle.site_state.specs.Joining.{sender_from, site_open, site_copy}
use Rattle.site_state.specs.Fits.{SendersHave}
use Rattle.site_state.proofs.Growing.{queue_after-rebased}
use Rattle.site_state.proofs.Stepping.{commit_steps, apply_steps, execute_steps, drop_steps}
use Rattle.site_state.proofs.Changing.{accept_later}
use Rattle.site_events.specs.Cluster.{Cluster, site_of, at_site}
use Rattle.site_events.specs.Joins.{queue_counts, copied, may_join, with_joined, joined_by, joined}
use Rattle.site_events.specs.Rules.{rows_ruled}
use Rattle.site_events.specs.Events.{Event, Commit, SetClock, Send, SendMark, Deliver, Begin, Apply, Execute, Drop, Purge, PurgeLog, Refresh, Join, with_packet, packet_from, mark_from, receiver, delivered, may_apply, applied_where, refreshed, happens, run}
use Rattle.event_laws.specs.Starts.{IsNewSite}
use Rattle.event_laws.specs.Fitting.{IsFitStart, FitsHere, StartsFit}
use Rattle.event_laws.proofs.Sites.{KeepsHere, at_split, found_or, site_of-joined, found_all, all_at_place}
use Rattle.event_laws.proofs.Happening.{IsRefreshed, refreshed_is}
use Rattle.event_laws.proofs.Happening as happening
use Rattle.event_laws.proofs.NewSites.{open_to_each_keeps}
use Rattle.event_laws.proofs.FittingSites.{every_site_fits}
use Rattle.rep_laws.specs.GroupForms.{TxnKeepsForms}
use Rattle.convergence_laws.specs.Laws.{AreJoined, BlocksKeepForms, GroupsAreJoined, AreJoinedSince, GroupsAreJoinedSince}
use Rattle.convergence_laws.proofs.Moves.{DecisionLaws}
use Rattle.convergence_laws.proofs.JournalsJoin.{journals_join, journals_join_since}
use Rattle.convergence_laws.proofs.SitesKeepForms.{Keeps, PacketKeeps, packet_keeps, commit_keeps, apply_keeps, execute_keeps, drop_keeps, accept_keeps}

-- a site of the schema that keeps the forms
pub record KeepsIn (schema : Schema) (x : SiteState) : Type 0 where
  pub same : x.schema ≡ schema
  pub keeps : Keeps x

module _ (schema : Schema) where
  -- so does each site that is there
  abbrev pub AllKeep : List SiteState → Type 0
  AllKeep sites = (site : SiteName) (x : SiteState) → site_of site sites ≡ Some x → KeepsIn schema x

  -- where one site changes
  at_keeps : (name : SiteName) (change : SiteState → SiteState) (sites : List SiteState) → KeepsHere change
      → ((x : SiteState) → site_of name sites ≡ Some x → KeepsIn schema x → KeepsIn schema (change x)) → AllKeep sites → AllKeep (at_site name change sites)
  at_keeps name change sites here keeps all site x found =
      at_split (λ (o : Option SiteState). (y : SiteState) → o ≡ Some y → KeepsIn schema y) name site change sites here
      (λ same. own (site_of site sites) (ap (λ n. site_of n sites) same)) (λ y is. all site y is) x found
    where
      own : (o : Option SiteState) → site_of name sites ≡ o → (y : SiteState) → option_map change o ≡ Some y → KeepsIn schema y
      own None is y e = cc
      own (Some z) is y e = let same : change z ≡ y = cc in subst (KeepsIn schema) same (keeps z is (all name z is))

  plain_keeps : (x y : SiteState) → y.schema ≡ x.schema → y.here ≡ x.here → y.base ≡ x.base → y.journal ≡ x.journal → y.senders ≡ x.senders → KeepsIn schema x → KeepsIn schema y
  plain_keeps x y same here base journal senders h = record {
    same = same ∙ h.same;
    keeps = record {
      queued = rw (same, here, base, journal) h.keeps.queued;
      senders = rw (same, senders) h.keeps.senders;
      journal = rw (same, journal) h.keeps.journal;
      base = rw (same, here, base) h.keeps.base;
      made = rw (same, here, base, journal) h.keeps.made;
    };
  }

  refresh_keeps : (sites : List SiteState) (x y : SiteState) → IsRefreshed sites x y → KeepsIn schema x → KeepsIn schema y
  refresh_keeps sites x _ happening.Not h = h
  refresh_keeps sites x _ (happening.From master there is) h = record {
    same = h.same;
    keeps = record {
      queued = rw (queue_after-rebased x.schema x.here (with_tables (rows_ruled x.schema (tables_of master) x.snapshots) (tables_of x)) x.base x.journal is) h.keeps.queued;
      senders = h.keeps.senders;
      journal = (tt, h.keeps.journal);
      base = λ master. absurd (true≢false (sym master ∙ is));
      made = λ master. absurd (true≢false (sym master ∙ is));
    };
  }

  none_arrived : (firsts : List PastEntry) (names : List SiteName) → SendersHave (TxnKeepsForms schema) (map (sender_from firsts) names)
  none_arrived firsts [] = tt
  none_arrived firsts (n ∷ ns) = (tt, none_arrived firsts ns)

  copied_keeps : (sites : List SiteState) (source : SiteState) (site : SiteName) → source.schema ≡ schema → AreTables source.schema (tables_of source) → KeepsIn schema (copied sites source site)
  copied_keeps sites source site same are = open_to_each_keeps (KeepsIn schema) (λ s x h. plain_keeps x (site_open s x) refl refl refl refl refl h) sites (site_copy source (master_here source.schema site) (queue_counts sites)) (record {
    same = same;
    keeps = record {
      queued = tt;
      senders = subst (λ (s : Schema). SendersHave (TxnKeepsForms s) (map (sender_from (queue_counts sites)) (senders_of source.schema site))) (sym same) (none_arrived (queue_counts sites) (senders_of source.schema site));
      journal = tt;
      base = λ master. are;
      made = λ master. tt;
    };
  })

  joined_keeps : (sites : List SiteState) (site from : SiteName) → ((name : SiteName) (x : SiteState) → site_of name sites ≡ Some x → AreTables x.schema (tables_of x)) → AllKeep sites → AllKeep (joined site from sites)
  joined_keeps sites site from tables all = go (site_of site sites) (site_of from sites) refl
    where
      either : (source : SiteState) → KeepsIn schema source → AreTables source.schema (tables_of source) → (name : SiteName) (o : Option SiteState) → site_of name sites ≡ o → (y : SiteState) → found_or (site_of name (copied sites source site ∷ [])) (option_map (site_open site) o) ≡ Some y → KeepsIn schema y
      either source h are name (Some z) is y e = let same : site_open site z ≡ y = cc in subst (KeepsIn schema) same (plain_keeps z (site_open site z) refl refl refl refl refl (all name z is))
      either source h are name None is y e = found_all (KeepsIn schema) name (copied sites source site ∷ []) y (copied_keeps sites source site h.same are, tt) e

      by : (source : SiteState) → KeepsIn schema source → AreTables source.schema (tables_of source) → (b : Bool) → AllKeep (cond b (with_joined sites source site) sites)
      by source h are true name y found = either source h are name (site_of name sites) refl y (sym (site_of-joined name (site_open site) sites (copied sites source site) (λ x. refl)) ∙ found)
      by source h are false name y found = all name y found

      go : (there source : Option SiteState) → site_of from sites ≡ source → AllKeep (joined_by sites site there source)
      go (Some x) source is = all
      go None None is = all
      go None (Some source) is = by source (all from source is) (tables from source is) (may_join sites source site)

  -- ---- what is sent

  sends_keep : (from to : SiteName) (position : ℕ) (sites : List SiteState) (sent : List Packet) → AllKeep sites → AllByRecursion (PacketKeeps schema) sent
      → AllByRecursion (PacketKeeps schema) (with_packet (packet_from to position (site_of from sites)) sent)
  sends_keep from to position sites sent all carried = go (site_of from sites) refl
    where
      by : (x : SiteState) → KeepsIn schema x → (p : Option Packet) → site_packet to position x ≡ p → AllByRecursion (PacketKeeps schema) (with_packet p sent)
      by x h None is = carried
      by x h (Some packet) is = (subst (λ (s : Schema). PacketKeeps s packet) h.same (packet_keeps to position x packet h.keeps is), carried)

      go : (o : Option SiteState) → site_of from sites ≡ o → AllByRecursion (PacketKeeps schema) (with_packet (packet_from to position o) sent)
      go None is = carried
      go (Some x) is = by x (all from x is) (site_packet to position x) refl

  marks_keep : (to : SiteName) (o : Option SiteState) (sent : List Packet) → AllByRecursion (PacketKeeps schema) sent → AllByRecursion (PacketKeeps schema) (with_packet (mark_from to o) sent)
  marks_keep to None sent carried = carried
  marks_keep to (Some x) sent carried = (tt, carried)

  -- ---- every event

  -- the sites and what was sent
  pub record Holds (w : Cluster) : Type 0 where
    pub sites : AllKeep w.sites
    pub sent : AllByRecursion (PacketKeeps schema) w.sent

  module _ (decides : DecisionLaws) (blocks : BlocksKeepForms) (sound : IsSound schema) (w : Cluster) (fit : (site : SiteName) (x : SiteState) → site_of site w.sites ≡ Some x → FitsHere x) (h : Holds w) where
    sound_at : (x : SiteState) → KeepsIn schema x → IsSound x.schema
    sound_at x k = subst IsSound (sym k.same) sound

    happens_holds : (e : Event) → Holds (happens e w)
    happens_holds (Commit site statements) = record {
      sites = at_keeps site (site_commit statements) w.sites (λ x. (commit_steps statements x).here)
          (λ x is k. record { same = (commit_steps statements x).schema ∙ k.same; keeps = commit_keeps decides blocks x (sound_at x k) (fit site x is) k.keeps statements }) h.sites;
      sent = h.sent;
    }
    happens_holds (SetClock site clock) = record { sites = at_keeps site (site_clock clock) w.sites (λ x. refl) (λ x is k. plain_keeps x (site_clock clock x) refl refl refl refl refl k) h.sites; sent = h.sent }
    happens_holds (Send from to position) = record { sites = h.sites; sent = sends_keep from to position w.sites w.sent h.sites h.sent }
    happens_holds (SendMark from to) = record { sites = h.sites; sent = marks_keep to (site_of from w.sites) w.sent h.sent }
    happens_holds (Deliver which) = record { sites = go (slice_get w.sent which) refl; sent = h.sent }
      where
        go : (packet : Option Packet) → slice_get w.sent which ≡ packet → AllKeep (delivered packet w.sites)
        go None is = h.sites
        go (Some packet) is = at_keeps (receiver packet) (site_accept packet) w.sites (λ x. (accept_later packet x).here)
            (λ x found k. record {
              same = (accept_later packet x).schema ∙ k.same;
              keeps = accept_keeps packet x (subst (λ (s : Schema). PacketKeeps s packet) (sym k.same) (all_at_place (PacketKeeps schema) w.sent which packet h.sent is)) k.keeps;
            }) h.sites
    happens_holds (Begin site) = record { sites = at_keeps site begun w.sites (λ x. refl) (λ x is k. plain_keeps x (begun x) refl refl refl refl refl k) h.sites; sent = h.sent }
    happens_holds (Apply site origin position) = record { sites = go (may_apply site w); sent = h.sent }
      where
        go : (b : Bool) → AllKeep (applied_where b site origin position w.sites)
        go true = at_keeps site (site_apply origin position) w.sites (λ x. (apply_steps origin position x).here)
            (λ x is k. record { same = (apply_steps origin position x).schema ∙ k.same; keeps = apply_keeps decides blocks x (sound_at x k) (fit site x is) k.keeps origin position }) h.sites
        go false = h.sites
    happens_holds (Execute site origin position) = record {
      sites = at_keeps site (site_execute origin position) w.sites (λ x. (execute_steps origin position x).here)
          (λ x is k. record { same = (execute_steps origin position x).schema ∙ k.same; keeps = execute_keeps decides blocks x (sound_at x k) (fit site x is) k.keeps origin position }) h.sites;
      sent = h.sent;
    }
    happens_holds (Drop site origin position) = record {
      sites = at_keeps site (site_drop origin position) w.sites (λ x. (drop_steps origin position x).here)
          (λ x is k. record { same = (drop_steps origin position x).schema ∙ k.same; keeps = drop_keeps origin position x k.keeps }) h.sites;
      sent = h.sent;
    }
    happens_holds (Purge site) = record { sites = at_keeps site site_purge w.sites (λ x. refl) (λ x is k. plain_keeps x (site_purge x) refl refl refl refl refl k) h.sites; sent = h.sent }
    happens_holds (PurgeLog site table) = record { sites = at_keeps site (site_purge_log table) w.sites (λ x. refl) (λ x is k. plain_keeps x (site_purge_log table x) refl refl refl refl refl k) h.sites; sent = h.sent }
    happens_holds (Refresh site) = record { sites = at_keeps site (refreshed w.sites) w.sites same_here (λ x is k. refresh_keeps w.sites x (refreshed w.sites x) (refreshed_is w.sites x) k) h.sites; sent = h.sent }
      where
        by : (x y : SiteState) → IsRefreshed w.sites x y → y.here ≡ x.here
        by x _ happening.Not = refl
        by x _ (happening.From master there is) = refl

        same_here : KeepsHere (refreshed w.sites)
        same_here x = by x (refreshed w.sites x) (refreshed_is w.sites x)
    happens_holds (Join site from) = record { sites = joined_keeps w.sites site from (λ name x is. (fit name x is).content.tables) h.sites; sent = h.sent }

  -- ---- from the start on

  nothing_arrived : (ss : List SenderState) → AllByRecursion (λ (s : SenderState). s.arrived ≡ []) ss → SendersHave (TxnKeepsForms schema) ss
  nothing_arrived [] none = tt
  nothing_arrived (s ∷ ss) none = (rw none.0 tt, nothing_arrived ss none.1)

  new_keeps : (x : SiteState) → IsNewSite schema x → StartsFit schema x → KeepsIn schema x
  new_keeps x new starts = record {
    same = new.schema_is;
    keeps = record {
      queued = rw new.journal tt;
      senders = rw new.schema_is (nothing_arrived x.senders new.arrived);
      journal = rw new.journal tt;
      base = λ master. rw new.schema_is starts.base;
      made = λ master. rw new.journal tt;
    };
  }

  start_holds : (w : Cluster) → IsFitStart schema w → Holds w
  start_holds w is = record { sites = λ site x found. new_keeps x (found_all (IsNewSite schema) site w.sites x is.start.sites found) (found_all (StartsFit schema) site w.sites x is.sites found); sent = rw is.start.sent tt }

  pub run_holds : DecisionLaws → BlocksKeepForms → (events : List Event) (start : Cluster) → IsFitStart schema start → Holds (run events start)
  run_holds decides blocks [] start is = start_holds start is
  run_holds decides blocks (e ∷ es) start is =
      happens_holds decides blocks is.sound (run es start) (λ site x found. every_site_fits schema start es is site x found) (run_holds decides blocks es start is) e

-- so the groups of each master's rows are joined
pub groups_are_joined : DecisionLaws → BlocksKeepForms → GroupsAreJoined
groups_are_joined decides blocks schema start events is site x found master =
    let k = (run_holds schema decides blocks events start is).sites site x found in
    subst (λ (s : Schema). AreJoined s x.base x.journal (tables_of x)) k.same
    (journals_join decides x.schema x.here.site x.base x.journal (subst IsSound (sym k.same) is.sound) (k.keeps.base master) (k.keeps.made master))

-- from any moment of its journal on
pub groups_are_joined_since : DecisionLaws → BlocksKeepForms → GroupsAreJoinedSince
groups_are_joined_since decides blocks schema start events is site x found master =
    let k = (run_holds schema decides blocks events start is).sites site x found in
    subst (λ (s : Schema). AreJoinedSince s x.here.site x.base x.journal) k.same
    (journals_join_since decides x.schema x.here.site x.base x.journal (subst IsSound (sym k.same) is.sound) (k.keeps.base master) (k.keeps.made master))
