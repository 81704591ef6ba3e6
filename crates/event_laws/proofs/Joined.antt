-- What is there behind a join: the copy, with first numbers and streams that meet those of the masters, and the sites that were there.
use Rattle.std.proofs.Common.{◌≡◌, ◌≢◌, ℕ, ◌≤◌, List, [], ◌∷◌, ◌++◌, length, map, Bool, true, false, cond, Some, None, refl, sym, ap, ◌∙◌, arith, subst, inl, inr}
use Rattle.std.specs.Prelude.{◌&&◌, Option, option_map, is_some, is_none}
use mathlib.Core.Bool.{true≢false}
use Rattle.rep_values.specs.declared.name.SiteName.{SiteName}
use Rattle.rep_schema.specs.declared.schema.Schema.{Schema}
use Rattle.rep_schema.specs.Shape.{HasShape}
use Rattle.rep_schema.specs.Sites.{senders_of, is_master_site, is_among, is_late_master}
use Rattle.rep_values.specs.SiteNames.{is_same_site}
use Rattle.deferred_queue.proofs.Sites.{is_same_site-true, is_same_site-refl}
use Rattle.packet_code.specs.declared.packet.Packet.{Packet}
use Rattle.site_state.specs.State.{SenderState, DestinationState, SiteState, sender_of, first_in, first_number, destination_of, opened_of, acked_of}
use Rattle.site_state.specs.Streams.{queue_of, count_of, stream_in}
use Rattle.site_state.specs.Joining.{opened_at, site_open}
use Rattle.site_state.specs.DeclaredSites.{IsDeclared}
use Rattle.site_state.proofs.Growing.{queued_behind-none}
use Rattle.site_state.proofs.Destinations.{acked_in-opened, opened_in-opened, opened_in-own}
use Rattle.site_state.proofs.SchemaSites.{own_is_no_sender, late_has_masters}
use Rattle.site_state.proofs.DeclaredSites.{open_names}
use Rattle.site_events.specs.Cluster.{Cluster, site_of}
use Rattle.site_events.specs.Joins.{copied, with_joined, may_join, joined_by, joined}
use Rattle.site_events.specs.Events.{Join, run}
use Rattle.event_laws.specs.Marks.{acked_at, low_at}
use Rattle.event_laws.specs.Waiting.{IsFirstNumber}
use Rattle.event_laws.proofs.Sites.{found_or, site_of-joined, found_name, found_all}
use Rattle.event_laws.proofs.NewSites.{copied_is_new, copied_here}
use Rattle.event_laws.proofs.DeclaredSites.{IsSiteOf, late_is_master, joins_late}
use Rattle.event_laws.proofs.Meeting.{SiteMeets, MeetsAt}
use Rattle.event_laws.proofs.Waiting.{AreMet, first_of_sender, run_met}
use Rattle.event_laws.proofs.OpenMasters.{masters_send, masters_open}
use Rattle.event_laws.proofs.JoinedSites.{found_opened, found_joined, copied_base, copied_queue, copied_tables}
use Rattle.event_laws.proofs.LinkedSites.{linked_declared}
use Rattle.event_laws.specs.Joined.{master_count, IsCopyOf, HasOpened, HasJoined, JoinsCopy, may_copy, OtherJoinsChangeNothing}
use Rattle.event_laws.proofs.Openings.{destination_of-opened, at_destination-none, opened_from_some}
use Rattle.event_laws.proofs.LateMasters.{open_to_late}
use Rattle.event_laws.proofs.Copies.{is_among-origins, copied_clock, copied_last, copied_moment, copied_logs, copied_snapshots, copied_counters, copied_streams, copied_master, copied_name}

some_none : {X : Type 0} (x : X) → Some x ≡ None → ⊥
some_none x is = cc

-- the names of the sites, in their order
names-joined : (site : SiteName) (xs : List SiteState) (new : SiteState) → map (λ (x : SiteState). x.here.site) (map (site_open site) xs ++ new ∷ []) ≡ map (λ (x : SiteState). x.here.site) xs ++ new.here.site ∷ []
names-joined site [] new = refl
names-joined site (x ∷ xs) new = ap (λ (names : List SiteName). x.here.site ∷ names) (names-joined site xs new)

module _ (schema : Schema) (shape : HasShape schema) (sites : List SiteState) (sent : List Packet) (site from : SiteName) (source : SiteState) (absent : site_of site sites ≡ None)
    (source_found : site_of from sites ≡ Some source) (may : may_join sites source site ≡ true) (before : AreMet schema sites sent) (after : AreMet schema (with_joined sites source site) sent) where
  abbrev new : SiteState
  new = copied sites source site

  abbrev others : List SiteState
  others = with_joined sites source site

  of_source : source.schema ≡ schema
  of_source = (found_all (IsSiteOf schema) from sites source before.sites_of source_found).of_schema

  late : is_late_master schema site ≡ true
  late = subst (λ (s : Schema). is_late_master s site ≡ true) of_source (joins_late sites source site may)

  new_there : site_of site others ≡ Some new
  new_there = found_joined sites source site absent

  new_of : IsSiteOf schema new
  new_of = found_all (IsSiteOf schema) site others new after.sites_of new_there

  new_meets : SiteMeets others site new
  new_meets = subst (MeetsAt others site) new_there (after.meets.each site)

  -- ---- those that were there

  other_name : (name : SiteName) (x : SiteState) → site_of name sites ≡ Some x → name ≢ site
  other_name name x there same = some_none x (sym there ∙ ap (λ (n : SiteName). site_of n sites) same ∙ absent)

  opened_there : (name : SiteName) (x : SiteState) → site_of name sites ≡ Some x → site_of name others ≡ Some (site_open site x)
  opened_there name x there = found_opened sites source site name x absent there

  of_site : (name : SiteName) (x : SiteState) → site_of name sites ≡ Some x → IsSiteOf schema x
  of_site name x there = found_all (IsSiteOf schema) name sites x before.sites_of there

  closed_before : (name : SiteName) (x : SiteState) → site_of name sites ≡ Some x → opened_of site x ≡ None
  closed_before name x there = before.closed name site x there late absent

  -- each master opens its stream behind all that it has queued
  opens : (name : SiteName) (x : SiteState) → site_of name sites ≡ Some x → x.here.is_master ≡ true → opened_of site (site_open site x) ≡ Some (count_of x)
  opens name x there master =
      let open_to = masters_open schema shape others sent after site name new (site_open site x) new_there (opened_there name x there) (copied_master sites source site) master (other_name name x there) in
      elim (opened_in-opened site site (count_of x) x.destinations) [
        | inl same ↦ absurd (some_none open_to.0 (sym open_to.1 ∙ same ∙ closed_before name x there))
        | inr now ↦ now.1
      ]

  none_acked : (name : SiteName) (x : SiteState) → site_of name sites ≡ Some x → acked_of site (site_open site x) ≡ 0
  none_acked name x there =
      let low : acked_of site x ≤ 0 = subst (λ (o : Option SiteState). acked_of site x ≤ low_at name o) absent (subst (λ (o : Option SiteState). acked_at site o ≤ low_at name (site_of site sites)) there (before.holds.low name site)) in
      let none : acked_of site x ≡ 0 = omega (arith, low) in
      acked_in-opened site site (count_of x) x.destinations ∙ none

  has_opened : (name : SiteName) (x : SiteState) → site_of name sites ≡ Some x → x.here.is_master ≡ true → HasOpened site x (site_open site x)
  has_opened name x there master = record {
    closed = closed_before name x there;
    opened = opens name x there master;
    stream = ap (λ (o : Option ℕ). stream_in o (queue_of x)) (opens name x there master) ∙ queued_behind-none (count_of x) (queue_of x) (omega arith);
    acked = none_acked name x there;
    names = (open_names site x).destinations;
    others = λ other off. destination_of-opened site other (count_of x) x.destinations off;
    rest = refl;
  }

  -- a snapshot site has no such stream
  stays : (name : SiteName) (x : SiteState) → site_of name sites ≡ Some x → x.here.is_master ≡ false → site_open site x ≡ x
  stays name x there off = go (destination_of site x.destinations) refl
    where
      go : (o : Option DestinationState) → destination_of site x.destinations ≡ o → site_open site x ≡ x
      go None none = ap (λ (ds : List DestinationState). record x { destinations = ds }) (at_destination-none site (opened_at (count_of x)) x.destinations none)
      go (Some d) is =
          let declared = (found_all (IsSiteOf schema) name others (site_open site x) after.sites_of (opened_there name x there)).declared in
          let on : x.here.is_master ≡ true = open_to_late schema shape site late (site_open site x) declared (λ none. opened_from_some d.opened (count_of x) (sym (opened_in-own site (count_of x) x.destinations d is) ∙ none)) in
          absurd (true≢false (sym on ∙ off))

  -- ---- first numbers

  -- a name is that of a sender where the schema says so
  sender_there : (name : SiteName) → is_among (senders_of schema site) name ≡ is_some (sender_of name new.senders)
  sender_there name = ap (λ (names : List SiteName). is_among names name) (sym (new_of.declared.senders ∙ ap (senders_of schema) (copied_name sites source site))) ∙ is_among-origins name new.senders

  still_absent : (name : SiteName) → name ≢ site → site_of name sites ≡ None → site_of name others ≡ None
  still_absent name differ none =
      site_of-joined name (site_open site) sites new (λ x. refl) ∙ ap (λ (o : Option SiteState). found_or (site_of name (new ∷ [])) (option_map (site_open site) o)) none ∙ go (is_same_site new.here.site name) refl
    where
      go : (b : Bool) → is_same_site new.here.site name ≡ b → found_or (cond b (Some new) None) None ≡ None
      go true same = absurd (differ (sym (is_same_site-true new.here.site name same) ∙ copied_name sites source site))
      go false same = refl

  firsts : (name : SiteName) → first_number name new ≡ master_count (site_of name sites)
  firsts name = go (sender_of name new.senders) refl (site_of name sites) refl
    where
      among : (s : SenderState) → sender_of name new.senders ≡ Some s → is_among (senders_of schema site) name ≡ true
      among s is = sender_there name ∙ ap is_some is

      other : (s : SenderState) → sender_of name new.senders ≡ Some s → name ≢ site
      other s is same = true≢false (sym (among s is) ∙ ap (is_among (senders_of schema site)) same ∙ own_is_no_sender schema shape site)

      named : (m : SiteState) → site_of name sites ≡ Some m → m.here.is_master ≡ is_master_site schema name
      named m there = (of_site name m there).declared.is_master ∙ ap (is_master_site schema) (found_name name sites m there)

      begins : (s : SenderState) → sender_of name new.senders ≡ Some s → IsFirstNumber (site_of name others) site s.first
      begins s is = first_of_sender others site name new.senders s new_meets.firsts is

      -- a master that is there is a sender
      silent : (m : SiteState) → sender_of name new.senders ≡ None → site_of name sites ≡ Some m → (b : Bool) → m.here.is_master ≡ b → 0 ≡ cond b (count_of m) 0
      silent m is there false off = refl
      silent m is there true on =
          let sends = masters_send schema shape site name (late_is_master schema site late) (sym (named m there) ∙ on) (other_name name m there) in
          absurd (true≢false (sym sends ∙ sender_there name ∙ ap is_some is))

      go : (s : Option SenderState) → sender_of name new.senders ≡ s → (o : Option SiteState) → site_of name sites ≡ o → first_in s ≡ master_count o
      go None is None none = refl
      go None is (Some m) there = silent m is there m.here.is_master refl
      go (Some s) is None none = subst (λ (o : Option SiteState). IsFirstNumber o site s.first) (still_absent name (other s is) none) (begins s is)
      go (Some s) is (Some m) there =
          let on : m.here.is_master ≡ true = named m there ∙ late_has_masters schema shape site name late (among s is) in
          let first : IsFirstNumber (Some (site_open site m)) site s.first = subst (λ (o : Option SiteState). IsFirstNumber o site s.first) (opened_there name m there) (begins s is) in
          let same : s.first ≡ count_of m = cc (first.0, opens name m there on) in
          same ∙ ap (λ (b : Bool). cond b (count_of m) 0) (sym on)

  -- ---- its streams

  new_opened : (name : SiteName) (m : SiteState) → site_of name sites ≡ Some m → m.here.is_master ≡ true → opened_of name new ≡ Some 0
  new_opened name m there master =
      let open_to = masters_open schema shape others sent after name site (site_open site m) new (opened_there name m there) new_there master (copied_master sites source site) (λ same. other_name name m there (sym same)) in
      let none : count_of new ≡ 0 = ap length (copied_queue sites source site) in
      let zero : open_to.0 ≡ 0 = omega (arith, open_to.2, none) in
      open_to.1 ∙ ap Some zero

  new_closed : (name : SiteName) → site_of name sites ≡ None → is_late_master schema name ≡ true → opened_of name new ≡ None
  new_closed name none late_name = go (is_same_site site name) refl
    where
      go : (b : Bool) → is_same_site site name ≡ b → opened_of name new ≡ None
      go true same = subst (λ (n : SiteName). opened_of n new ≡ None) (copied_name sites source site ∙ is_same_site-true site name same) ((linked_declared schema shape new new_of.declared).own (copied_master sites source site))
      go false other =
          let differ : name ≢ site = λ same. true≢false (sym (is_same_site-refl site) ∙ ap (is_same_site site) (sym same) ∙ other) in
          after.closed site name new new_there late_name (still_absent name differ none)

  -- ---- the whole

  is_copy : IsCopyOf sites source site new
  is_copy = record {
    schema = (copied_is_new sites source site).schema_is;
    here = copied_here sites source site;
    declared = subst (λ (s : Schema). IsDeclared s new) (sym of_source) new_of.declared;
    base = copied_base sites source site;
    tables = copied_tables sites source site;
    counters = copied_counters sites source site;
    journal = (copied_is_new sites source site).journal;
    clock = copied_clock sites source site;
    last = copied_last sites source site;
    moment = copied_moment sites source site;
    logs = copied_logs sites source site;
    snapshots = copied_snapshots sites source site;
    arrived = (copied_is_new sites source site).arrived;
    firsts = firsts;
    queue = copied_queue sites source site;
    purged = (copied_is_new sites source site).purged;
    acked = (copied_is_new sites source site).acked;
    streams = copied_streams sites source site;
    opened = new_opened;
    closed = λ name none late_name. new_closed name none (subst (λ (s : Schema). is_late_master s name ≡ true) of_source late_name);
  }

  pub has_joined : (begun : List SiteName) → HasJoined (record { sites = sites; sent = sent; begun = begun }) source site (record { sites = others; sent = sent; begun = begun })
  has_joined begun = record {
    it = new;
    there = new_there;
    names = names-joined site sites new ∙ ap (λ (n : SiteName). map (λ (x : SiteState). x.here.site) sites ++ n ∷ []) (copied_name sites source site);
    copy = is_copy;
    masters = λ name x there master. (site_open site x, opened_there name x there, has_opened name x there master);
    others = λ name x there off. opened_there name x there ∙ ap Some (stays name x there off);
    sent = refl;
    begun = refl;
  }

-- ---- the laws

joined_is : (sites : List SiteState) (site from : SiteName) (source : SiteState) → site_of site sites ≡ None → site_of from sites ≡ Some source → may_join sites source site ≡ true
    → joined site from sites ≡ with_joined sites source site
joined_is sites site from source absent found may =
    ap (λ (o : Option SiteState). joined_by sites site o (site_of from sites)) absent ∙ ap (joined_by sites site None) found ∙ ap (λ (b : Bool). cond b (with_joined sites source site) sites) may

pub joins_copy : JoinsCopy
joins_copy schema start events is meshed site from source absent found may =
    let w : Cluster = run events start in
    let same : joined site from w.sites ≡ with_joined w.sites source site = joined_is w.sites site from source absent found may in
    let after : AreMet schema (with_joined w.sites source site) w.sent = subst (λ (xs : List SiteState). AreMet schema xs w.sent) same (run_met schema start (Join site from ∷ events) is meshed) in
    subst (λ (xs : List SiteState). HasJoined w source site (record { sites = xs; sent = w.sent; begun = w.begun })) (sym same)
    (has_joined schema meshed.declared.shape w.sites w.sent site from source absent found may (run_met schema start events is meshed) after w.begun)

pub other_joins_change_nothing : OtherJoinsChangeNothing
other_joins_change_nothing w site from cannot = ap (λ (xs : List SiteState). record w { sites = xs }) (go (site_of site w.sites) (site_of from w.sites) cannot)
  where
    go : (there source : Option SiteState) → (is_none there && may_copy w.sites site source) ≡ false → joined_by w.sites site there source ≡ w.sites
    go (Some x) source cannot = refl
    go None None cannot = refl
    go None (Some source) cannot = ap (λ (b : Bool). cond b (with_joined w.sites source site) w.sites) cannot
