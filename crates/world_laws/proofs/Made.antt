-- Procedures stay made, piece by piece of what lines about them do.
use Rattle.std.proofs.Common.{◌≡◌, ℕ, ◌≤◌, List, [], ◌∷◌, ◌++◌, Bool, true, false, Some, None, refl, sym, ap, ◌∙◌, arith, subst}
use Rattle.std.specs.Prelude.{Option}
use Rattle.std.specs.List.{AllByRecursion}
use Rattle.rep_lists.proofs.Each.{each_then, all-append}
use Rattle.rep_values.specs.declared.name.SiteName.{SiteName}
use Rattle.rep_schema.specs.declared.schema.Schema.{Schema}
use Rattle.packet_code.specs.declared.packet.Packet.{Packet}
use Rattle.net_plan.specs.declared.fate.Fate.{Fate}
use Rattle.net_plan.specs.Directions.{Direction, at_direction, first_between, on_way_between, released, delivered, with_fates}
use Rattle.site_state.specs.Journal.{low_water}
use Rattle.proc_state.specs.declared.procedure.Procedure.{Procedure}
use Rattle.proc_state.specs.State.{ProcState}
use Rattle.proc_state.specs.Packets.{proc_mark, proc_accept}
use Rattle.proc_state.specs.Passes.{proc_apply, proc_pass}
use Rattle.proc_state.specs.Errors.{proc_execute}
use Rattle.proc_state.specs.Fits.{ProcFits}
use Rattle.proc_state.specs.Events.{ProcEvent, Accept, Apply, Pass, Execute, after_event, after_events, EventFits, PacketFits}
use Rattle.proc_state.proofs.Names.{IsProcSite, reached_names}
use Rattle.proc_state.proofs.Fitting.{every_site_fits}
use Rattle.proc_state.proofs.Sending.{is_sent, sent_packets_fit}
use Rattle.site_events.specs.Events.{without}
use Rattle.world_state.specs.Procs.{Procs, proc_schema, early_masters, proc_made, proc_of, at_proc}
use Rattle.world_state.specs.Pushes.{sent_on, emptied}
use Rattle.site_state.specs.Rounds.{sender_names}
use Rattle.world_state.specs.CallPushes.{calls_release, calls_from, calls_send, calls_send_each, calls_positions, calls_send_above, calls_taken_each, calls_deliver, calls_taken_one, calls_deliver_one, proc_passes, proc_until_quiet, calls_until_quiet, calls_mark_from, calls_send_mark, calls_return_mark, calls_pushed_in, calls_push}
use Rattle.world_laws.specs.Streams.{low_at, IsOfStreams, NetCarries, ArrivedOfStreams, MarksAreLow, JournalOfStreams}
use Rattle.world_laws.specs.Built.{ComesFromCalls, AreMade}
use Rattle.world_laws.proofs.Growing.{Grows, events_grow}
use Rattle.world_laws.proofs.Sites.{AllGrow, name-proc_of, all-proc_of, all-at_proc, names-at_proc, grow-at_proc, of_streams-grow}
use Rattle.world_laws.proofs.SiteStreams.{KeepsStreams, keeps_same, keeps_then, arrived-grow, marks-grow, journal-grow, apply_keeps, pass_keeps, execute_keeps, accept_keeps}
use Rattle.world_laws.proofs.Nets.{carries_then, at_keeps, way_has, first_has, released_has, emptied_has, delivered_has, sent_on_has}

-- ---- events at one site

-- events that fit lead from a site to what becomes of it
pub record Happens (schema : Schema) (procedures : List Procedure) (x y : ProcState) : Type 0 where
  pub events : List ProcEvent
  pub fit : AllByRecursion (EventFits schema procedures) events
  pub is : y ≡ after_events events x

pub none_happens : (schema : Schema) (procedures : List Procedure) (x : ProcState) → Happens schema procedures x x
none_happens schema procedures x = record { events = []; fit = tt; is = refl }

pub one_happens : (schema : Schema) (procedures : List Procedure) (e : ProcEvent) (x : ProcState) → EventFits schema procedures e → Happens schema procedures x (after_event e x)
one_happens schema procedures e x fits = record { events = e ∷ []; fit = (fits, tt); is = refl }

after_events-append : (es fs : List ProcEvent) (x : ProcState) → after_events (es ++ fs) x ≡ after_events es (after_events fs x)
after_events-append [] fs x = refl
after_events-append (e ∷ es) fs x = ap (after_event e) (after_events-append es fs x)

pub then_happens : (schema : Schema) (procedures : List Procedure) (x y z : ProcState) → Happens schema procedures x y → Happens schema procedures y z → Happens schema procedures x z
then_happens schema procedures x y z first second = record {
  events = second.events ++ first.events;
  fit = all-append (EventFits schema procedures) second.events first.events second.fit first.fit;
  is = second.is ∙ ap (after_events second.events) first.is ∙ sym (after_events-append second.events first.events x);
}

grown : (schema : Schema) (procedures : List Procedure) (x y : ProcState) → Happens schema procedures x y → Grows x y
grown schema procedures x y h = subst (Grows x) (sym h.is) (events_grow h.events x)

-- so it comes from calls as it did
comes_on : (schema : Schema) (procedures : List Procedure) (masters : List SiteName) (x y : ProcState) → Happens schema procedures x y → ComesFromCalls schema procedures masters x → ComesFromCalls schema procedures masters y
comes_on schema procedures masters x y h c = record {
  events = h.events ++ c.events;
  fit = all-append (EventFits schema procedures) h.events c.events h.fit c.fit;
  is = h.is ∙ ap (after_events h.events) c.is ∙ sym (after_events-append h.events c.events (proc_made schema procedures masters x.me))
      ∙ ap (λ (n : SiteName). after_events (h.events ++ c.events) (proc_made schema procedures masters n)) (sym (grown schema procedures x y h).me);
}

module _ (schema : Schema) where
  -- ---- what is known of a site

  pub site_comes : (p : Procs) → AreMade schema p → (name : SiteName) (x : ProcState) → proc_of name p.sites ≡ Some x → ComesFromCalls (proc_schema schema p.tables) p.procedures (early_masters schema) x
  site_comes p m name x found = all-proc_of (ComesFromCalls (proc_schema schema p.tables) p.procedures (early_masters schema)) name p.sites x m.sites found

  -- its schema, its procedures, its name and the other masters
  pub site_is : (p : Procs) → AreMade schema p → (name : SiteName) (x : ProcState) → proc_of name p.sites ≡ Some x → IsProcSite (proc_schema schema p.tables) p.procedures x.me (without x.me (early_masters schema)) x
  site_is p m name x found =
      let c = site_comes p m name x found in
      subst (IsProcSite (proc_schema schema p.tables) p.procedures x.me (without x.me (early_masters schema))) (sym c.is)
      (reached_names (proc_schema schema p.tables) p.procedures x.me (without x.me (early_masters schema)) c.events)

  -- its tables and transactions fit
  pub site_fits : (p : Procs) → AreMade schema p → (name : SiteName) (x : ProcState) → proc_of name p.sites ≡ Some x → ProcFits x
  site_fits p m name x found =
      let c = site_comes p m name x found in
      subst ProcFits (sym c.is) (every_site_fits (proc_schema schema p.tables) p.procedures x.me (without x.me (early_masters schema)) c.events m.keyed m.procedures c.fit)

  -- ---- one site changes

  -- where what happens there fits, and what had arrived stays of the streams
  pub site_changes : (p : Procs) (name : SiteName) (change : ProcState → ProcState) → ((x : ProcState) → proc_of name p.sites ≡ Some x → Happens (proc_schema schema p.tables) p.procedures x (change x))
      → ((x : ProcState) → proc_of name p.sites ≡ Some x → KeepsStreams (at_proc name change p.sites) x (change x)) → AreMade schema p → AreMade schema (record p { sites = at_proc name change p.sites })
  site_changes p name change happens keeps m = record {
    keyed = m.keyed;
    procedures = m.procedures;
    names = names-at_proc name change p.sites (λ x found. (grown _ _ x (change x) (happens x found)).me) ∙ m.names;
    sites = all-at_proc (ComesFromCalls (proc_schema schema p.tables) p.procedures (early_masters schema)) name change p.sites (λ x found c. comes_on _ _ _ x (change x) (happens x found) c) m.sites;
    packets = m.packets;
    streams = record {
      carried = carries_then (IsOfStreams p.sites) (IsOfStreams (at_proc name change p.sites)) (of_streams-grow p.sites (at_proc name change p.sites) grow) p.net m.streams.carried;
      arrived = all-at_proc (ArrivedOfStreams (at_proc name change p.sites)) name change p.sites (λ x found. (keeps x found).arrived)
          (each_then (ArrivedOfStreams p.sites) (ArrivedOfStreams (at_proc name change p.sites)) (arrived-grow p.sites (at_proc name change p.sites) grow) p.sites m.streams.arrived);
      marks = all-at_proc (MarksAreLow (at_proc name change p.sites)) name change p.sites (λ x found. (keeps x found).marks)
          (each_then (MarksAreLow p.sites) (MarksAreLow (at_proc name change p.sites)) (marks-grow p.sites (at_proc name change p.sites) grow) p.sites m.streams.marks);
      journals = all-at_proc (JournalOfStreams (at_proc name change p.sites)) name change p.sites (λ x found. (keeps x found).journal (arrived x found))
          (each_then (JournalOfStreams p.sites) (JournalOfStreams (at_proc name change p.sites)) (journal-grow p.sites (at_proc name change p.sites) grow) p.sites m.streams.journals);
    };
  }
    where
      grow : AllGrow p.sites (at_proc name change p.sites)
      grow = grow-at_proc name change p.sites (λ x found. grown _ _ x (change x) (happens x found))

      arrived : (x : ProcState) → proc_of name p.sites ≡ Some x → ArrivedOfStreams (at_proc name change p.sites) x
      arrived x found = arrived-grow p.sites (at_proc name change p.sites) grow x (all-proc_of (ArrivedOfStreams p.sites) name p.sites x m.streams.arrived found)

  -- where it works, and no packet comes
  pub site_works : (p : Procs) (name : SiteName) (change : ProcState → ProcState) → ((x : ProcState) → proc_of name p.sites ≡ Some x → Happens (proc_schema schema p.tables) p.procedures x (change x))
      → ((sites : List ProcState) (x : ProcState) → KeepsStreams sites x (change x)) → AreMade schema p → AreMade schema (record p { sites = at_proc name change p.sites })
  site_works p name change happens keeps m = site_changes p name change happens (λ x found. keeps (at_proc name change p.sites) x) m

  -- ---- the net changes

  net_changes : (p : Procs) (net : List Direction) → AllByRecursion (NetCarries PacketFits) net → AllByRecursion (NetCarries (IsOfStreams p.sites)) net → AreMade schema p → AreMade schema (record p { net = net })
  net_changes p net fit of_streams m = record {
    keyed = m.keyed;
    procedures = m.procedures;
    names = m.names;
    sites = m.sites;
    packets = fit;
    streams = record { carried = of_streams; arrived = m.streams.arrived; marks = m.streams.marks; journals = m.streams.journals };
  }

  -- one direction does, and gets no packet more
  direction_changes : (p : Procs) (from to : SiteName) (change : Direction → Direction) → ((P : Packet → Type 0) (d : Direction) → NetCarries P d → NetCarries P (change d)) → AreMade schema p
      → AreMade schema (record p { net = at_direction from to change p.net })
  direction_changes p from to change keeps m =
      net_changes p (at_direction from to change p.net) (at_keeps PacketFits from to change p.net (keeps PacketFits) m.packets)
      (at_keeps (IsOfStreams p.sites) from to change p.net (keeps (IsOfStreams p.sites)) m.streams.carried) m

  pub release_made : (from to : SiteName) (p : Procs) → AreMade schema p → AreMade schema (calls_release from to p)
  release_made from to p m = direction_changes p from to released released_has m

  pub lose_made : (from to : SiteName) (p : Procs) → AreMade schema p → AreMade schema (record p { net = at_direction from to delivered p.net })
  lose_made from to p m = direction_changes p from to delivered delivered_has m

  pub fates_made : (from to : SiteName) (fates : List Fate) (p : Procs) → AreMade schema p → AreMade schema (record p { net = at_direction from to (with_fates fates) p.net })
  fates_made from to fates p m = direction_changes p from to (with_fates fates) (λ P d carries. record { held = carries.held; on_way = carries.on_way }) m

  empty_made : (from to : SiteName) (p : Procs) → AreMade schema p → AreMade schema (record p { net = at_direction from to emptied p.net })
  empty_made from to p m = direction_changes p from to emptied emptied_has m

  -- one packet is sent at most
  packet_made : (found : Option Packet) (from to : SiteName) (p : Procs) → ((packet : Packet) → found ≡ Some packet → PacketFits packet) → ((packet : Packet) → found ≡ Some packet → IsOfStreams p.sites packet)
      → AreMade schema p → AreMade schema (record p { net = sent_on found from to p.net })
  packet_made found from to p fits of_streams m =
      net_changes p (sent_on found from to p.net) (sent_on_has PacketFits found from to p.net fits m.packets) (sent_on_has (IsOfStreams p.sites) found from to p.net of_streams m.streams.carried) m

  pub send_made : (from to : SiteName) (position : ℕ) (p : Procs) → AreMade schema p → AreMade schema (calls_send from to position p)
  send_made from to position p m = packet_made (calls_from to position (proc_of from p.sites)) from to p (λ packet is. fits (proc_of from p.sites) refl packet is) (λ packet is. streams (proc_of from p.sites) refl packet is) m
    where
      fits : (o : Option ProcState) → proc_of from p.sites ≡ o → (packet : Packet) → calls_from to position o ≡ Some packet → PacketFits packet
      fits None found packet is = absurd (cc is)
      fits (Some x) found packet is = sent_packets_fit x to position packet (site_fits p m from x found) is

      streams : (o : Option ProcState) → proc_of from p.sites ≡ o → (packet : Packet) → calls_from to position o ≡ Some packet → IsOfStreams p.sites packet
      streams None found packet is = absurd (cc is)
      streams (Some x) found packet is =
          let sent = is_sent x to position packet is in
          let there : proc_of x.me p.sites ≡ Some x = subst (λ (n : SiteName). proc_of n p.sites ≡ Some x) (sym (name-proc_of from p.sites x found)) found in
          subst (IsOfStreams p.sites) (sym sent.is) (ap (calls_from to position) there ∙ is ∙ ap (λ (one : Packet). Some one) sent.is)

  pub mark_made : (from to : SiteName) (p : Procs) → AreMade schema p → AreMade schema (calls_send_mark from to p)
  mark_made from to p m = packet_made (calls_mark_from to (proc_of from p.sites)) from to p (λ packet is. fits (proc_of from p.sites) packet is) (λ packet is. streams (proc_of from p.sites) refl packet is) m
    where
      fits : (o : Option ProcState) (packet : Packet) → calls_mark_from to o ≡ Some packet → PacketFits packet
      fits None packet is = absurd (cc is)
      fits (Some x) packet is = let same : proc_mark to x ≡ packet = cc is in subst PacketFits same tt

      streams : (o : Option ProcState) → proc_of from p.sites ≡ o → (packet : Packet) → calls_mark_from to o ≡ Some packet → IsOfStreams p.sites packet
      streams None found packet is = absurd (cc is)
      streams (Some x) found packet is =
          let same : proc_mark to x ≡ packet = cc is in
          let there : proc_of x.me p.sites ≡ Some x = subst (λ (n : SiteName). proc_of n p.sites ≡ Some x) (sym (name-proc_of from p.sites x found)) found in
          let low : low_at to (proc_of x.me p.sites) ≡ low_water to x.journal = ap (low_at to) there in
          let below : low_water to x.journal ≤ low_at to (proc_of x.me p.sites) = omega (arith, low) in
          subst (IsOfStreams p.sites) same below

  -- ---- packets come

  accept_made : (to : SiteName) (packet : Packet) (p : Procs) → PacketFits packet → IsOfStreams p.sites packet → AreMade schema p → AreMade schema (record p { sites = at_proc to (proc_accept packet) p.sites })
  accept_made to packet p fits is m =
      site_changes p to (proc_accept packet) (λ x found. one_happens _ _ (Accept packet) x fits)
      (λ x found. accept_keeps (at_proc to (proc_accept packet) p.sites) packet x (of_streams-grow p.sites (at_proc to (proc_accept packet) p.sites) grow packet is)) m
    where
      grow : AllGrow p.sites (at_proc to (proc_accept packet) p.sites)
      grow = grow-at_proc to (proc_accept packet) p.sites (λ x found. events_grow (Accept packet ∷ []) x)

  taken_each_made : (to : SiteName) (packets : List Packet) (p : Procs) → AllByRecursion PacketFits packets → AllByRecursion (IsOfStreams p.sites) packets → AreMade schema p
      → AreMade schema (record p { sites = calls_taken_each to packets p.sites })
  taken_each_made to [] p fit of_streams m = m
  taken_each_made to (packet ∷ more) p fit of_streams m =
      taken_each_made to more (record p { sites = at_proc to (proc_accept packet) p.sites }) fit.1
      (each_then (IsOfStreams p.sites) (IsOfStreams (at_proc to (proc_accept packet) p.sites)) (of_streams-grow p.sites (at_proc to (proc_accept packet) p.sites) grow) more of_streams.1)
      (accept_made to packet p fit.0 of_streams.0 m)
    where
      grow : AllGrow p.sites (at_proc to (proc_accept packet) p.sites)
      grow = grow-at_proc to (proc_accept packet) p.sites (λ x found. events_grow (Accept packet ∷ []) x)

  pub deliver_made : (from to : SiteName) (p : Procs) → AreMade schema p → AreMade schema (calls_deliver from to p)
  deliver_made from to p m =
      empty_made from to (record p { sites = calls_taken_each to (on_way_between from to p.net) p.sites })
      (taken_each_made to (on_way_between from to p.net) p (way_has PacketFits from to p.net m.packets) (way_has (IsOfStreams p.sites) from to p.net m.streams.carried) m)

  pub take_made : (from to : SiteName) (p : Procs) → AreMade schema p → AreMade schema (calls_deliver_one from to p)
  take_made from to p m = lose_made from to (record p { sites = calls_taken_one to (first_between from to p.net) p.sites }) (go (first_between from to p.net) refl)
    where
      go : (o : Option Packet) → first_between from to p.net ≡ o → AreMade schema (record p { sites = calls_taken_one to o p.sites })
      go None is = m
      go (Some packet) is = accept_made to packet p (first_has PacketFits from to p.net packet m.packets is) (first_has (IsOfStreams p.sites) from to p.net packet m.streams.carried is) m

  -- ---- a site works

  pub apply_made : (site origin : SiteName) (position : ℕ) (p : Procs) → AreMade schema p → AreMade schema (record p { sites = at_proc site (proc_apply origin position) p.sites })
  apply_made site origin position p m = site_works p site (proc_apply origin position) (λ x found. one_happens _ _ (Apply origin position) x tt) (λ sites x. apply_keeps sites origin position x) m

  pub execute_made : (site origin : SiteName) (position : ℕ) (p : Procs) → AreMade schema p → AreMade schema (record p { sites = at_proc site (proc_execute origin position) p.sites })
  execute_made site origin position p m = site_works p site (proc_execute origin position) (λ x found. one_happens _ _ (Execute origin position) x tt) (λ sites x. execute_keeps sites origin position x) m

  passes_happen : (procedures : List Procedure) (s : Schema) (origins : List SiteName) (x : ProcState) → Happens s procedures x (proc_passes origins x)
  passes_happen procedures s [] x = none_happens s procedures x
  passes_happen procedures s (origin ∷ origins) x =
      then_happens s procedures x (proc_pass origin x) (proc_passes origins (proc_pass origin x)) (one_happens s procedures (Pass origin) x tt) (passes_happen procedures s origins (proc_pass origin x))

  passes_keep : (sites : List ProcState) (origins : List SiteName) (x : ProcState) → KeepsStreams sites x (proc_passes origins x)
  passes_keep sites [] x = keeps_same sites x
  passes_keep sites (origin ∷ origins) x =
      keeps_then sites x (proc_pass origin x) (proc_passes origins (proc_pass origin x)) (pass_keeps sites origin x) (passes_keep sites origins (proc_pass origin x))

  pub settle_made : (from to : SiteName) (p : Procs) → AreMade schema p → AreMade schema (calls_until_quiet from to p)
  settle_made from to p m =
      site_works p to (proc_until_quiet from) (λ x found. passes_happen p.procedures (proc_schema schema p.tables) (from ∷ sender_names x.senders) x) (λ sites x. passes_keep sites (from ∷ sender_names x.senders) x) m

  -- ---- a push

  send_each_made : (from to : SiteName) (positions : List ℕ) (p : Procs) → AreMade schema p → AreMade schema (calls_send_each from to positions p)
  send_each_made from to [] p m = m
  send_each_made from to (position ∷ more) p m = send_each_made from to more (calls_send from to position p) (send_made from to position p m)

  pub pushed_in_made : (from to : SiteName) (p : Procs) → AreMade schema p → AreMade schema (calls_pushed_in from to p)
  pushed_in_made from to p m =
      deliver_made from to (calls_send_above from to (calls_release from to p))
      (send_each_made from to (calls_positions from to (calls_release from to p)) (calls_release from to p) (release_made from to p m))

  answer_made : (up : Bool) (from to : SiteName) (p : Procs) → AreMade schema p → AreMade schema (calls_return_mark up from to p)
  answer_made true from to p m = deliver_made from to (calls_send_mark from to (calls_release from to p)) (mark_made from to (calls_release from to p) (release_made from to p m))
  answer_made false from to p m = m

  pub push_made : (up : Bool) (from to : SiteName) (p : Procs) → AreMade schema p → AreMade schema (calls_push up from to p)
  push_made up from to p m =
      answer_made up to from (calls_until_quiet from to (calls_pushed_in from to p)) (settle_made from to (calls_pushed_in from to p) (pushed_in_made from to p m))
