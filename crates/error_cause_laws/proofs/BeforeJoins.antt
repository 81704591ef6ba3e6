-- Where a row's insert was queued before its owner was open to a master: the master has the row, or the insert was dropped
-- before the master joined.
use Rattle.std.proofs.Common.{◌≡◌, ◌≢◌, ℕ, ◌+◌, ◌-◌, ◌<◌, ◌≤◌, Bool, true, false, List, [], ◌∷◌, length, Some, None, refl, sym, ap, ◌∙◌, subst, inl, inr, arith}
use mathlib.Core.Bool.{true≢false}
use Rattle.std.specs.Prelude.{◌⊎◌, ◌||◌, Option, nat_lt, is_some}
use Rattle.std.proofs.lemmas.Bool.{and_parts, or_cases, or_left, or_right}
use Rattle.std.proofs.lemmas.Bool.Decides.{nat_tests}
use Rattle.rep_values.specs.declared.name.SiteName.{SiteName}
use Rattle.rep_schema.specs.declared.schema.Schema.{Schema}
use Rattle.rep_schema.specs.Tables.{Rows, AreTables}
use Rattle.rep_calls.specs.declared.call.Txn.{Txn}
use Rattle.txn_effects.specs.declared.local.Here.{Here}
use Rattle.deferred_queue.specs.Streams.{at_position}
use Rattle.rep_values.specs.SiteNames.{is_same_site}
use Rattle.deferred_queue.proofs.Sites.{is_same_site-true, is_same_site-refl}
use Rattle.deferred_queue.proofs.Positions.{found_position}
use Rattle.site_state.specs.State.{SiteState, opened_of}
use Rattle.site_state.specs.Journal.{error_at}
use Rattle.site_state.specs.Contents.{journal_content}
use Rattle.site_state.specs.Streams.{queue_of, count_of, stream_in, stream_to}
use Rattle.site_state.specs.Packets.{count_opened}
use Rattle.site_state.specs.Joining.{site_open}
use Rattle.rep_schema.specs.Sites.{is_late_master}
use Rattle.site_state.proofs.Destinations.{opened_in-opened}
use Rattle.site_events.specs.Cluster.{site_of}
use Rattle.site_events.specs.Joins.{with_joined, may_join, joined}
use Rattle.site_events.specs.Events.{Event, Join, run, happens}
use Rattle.event_laws.specs.Marks.{journal_in}
use Rattle.event_laws.specs.Orders.{IsInOrder}
use Rattle.site_events.specs.Quiet.{are_quiet}
use Rattle.event_laws.specs.Starts.{IsNewSite}
use Rattle.event_laws.proofs.Sites.{found_all, found_again}
use Rattle.event_laws.proofs.DeclaredSites.{joins_from_master, joins_late}
use Rattle.event_laws.proofs.OrderLaws.{earlier_comes_first}
use Rattle.event_laws.proofs.Waiting.{AreMet, run_met}
use Rattle.convergence_laws.specs.Joins.{inserts_in, applied_inserts}
use Rattle.convergence_laws.specs.Journals.{AreMade}
use Rattle.convergence_laws.proofs.EventsKeepForms.{KeepsIn}
use Rattle.convergence_laws.proofs.JournalsJoin.{journal_comes}
use Rattle.event_laws.proofs.OpenMasters.{IsOpenTo, masters_open}
use Rattle.convergence_laws.proofs.SitesAt.{WasJoined, was_joined}
use Rattle.event_laws.proofs.JoinedSites.{found_joined, copied_tables}
use Rattle.convergence_laws.proofs.SitesAt as joined_sites
use Rattle.convergence_laws.proofs.Since.{AreTwo}
use Rattle.convergence_laws.proofs.QuietPieces.{all_settled}
use Rattle.convergence_laws.proofs.Agreeing.{facts_after}
use Rattle.convergence_laws.proofs.Applied.{FinishedWithoutError}
use Rattle.error_cause_laws.proofs.Moving.{Moves}
use Rattle.error_cause_laws.proofs.Turning.{Turns}
use Rattle.error_cause_laws.proofs.Turning as turning
use Rattle.error_cause_laws.proofs.Running.{keeps}
use Rattle.error_cause_laws.proofs.InsertWrites.{inserts_counted}
use Rattle.error_cause_laws.specs.LostInserts.{was_dropped, stands_or_was_dropped, insert_was_dropped, of_source, dropped_before}
use Rattle.error_cause_laws.proofs.JoinEvents.{is_no_join, Kind, Plain, Joining, kind, JoinLeaves, Nothing, OneMore, join_leaves, still_absent, no_source}
use Rattle.error_cause_laws.proofs.Outcomes.{ExecuteTheirOwn, executions_are_own, became, dropped_there}
use Rattle.error_cause_laws.proofs.QueueNumbers.{position_behind}
use Rattle.error_cause_laws.proofs.OneRow.{Setting, Was, was, Changed, Other, Sites, sign, row_of, Has, makes_of, well, turned, IsOwner, keeps_row}
use Rattle.error_cause_laws.proofs.QueuedNeeds.{Made, made_owner, Placed, Before, New, placed, none_made}

module _ (g : Setting) where
  abbrev After : List Event → List SiteState
  After events = Sites g events

  abbrev owner : SiteName
  owner = (sign g).owner

  abbrev dropped : List Event → SiteName → Bool
  dropped events site = dropped_before g.schema g.table g.key events g.start site

  met : (events : List Event) → AreMet g.schema (After events) (run events g.start).sent
  met events = run_met g.schema g.start events g.fit.start g.meshed

  -- a transaction that makes the row inserts it
  pub makes_inserts : (u : Txn) → 1 ≤ makes_of g u → inserts_in g.schema g.table g.key u.calls ≢ []
  makes_inserts u some none =
      let counted = inserts_counted g.schema g.fit.sound g.decides g.blocks g.table g.convergent g.key u.calls in
      let nothing : length (inserts_in g.schema g.table g.key u.calls) ≡ 0 = ap length none in
      omega (arith, some, counted, nothing)

  -- where an insert was applied, the row is there
  pub applied_has : (events : List Event) (site : SiteName) (x : SiteState) → site_of site (After events) ≡ Some x → x.here.is_master ≡ true → applied_inserts g.schema g.table g.key x.journal ≢ [] → Has g x
  applied_has events site x found on applied = by x.schema k.same (k.keeps.base on) (k.keeps.made on)
    where
      k : KeepsIn g.schema x
      k = keeps g.schema g.decides g.rises g.blocks g.start g.fit g.meshed events site x found

      by : (s : Schema) → s ≡ g.schema → AreTables s x.base → AreMade s x.here.site x.base x.journal → Has g x
      by s same are made none =
          let came = journal_comes g.schema g.fit.sound g.decides g.table 0 g.convergent g.key x.here.site x.base x.journal
          (subst (λ (t : Schema). AreTables t x.base) same are) (subst (λ (t : Schema). AreMade t x.here.site x.base x.journal) same made) in
          applied (came.none (subst (λ (t : Schema). row_of g (journal_content t x.here.site x.base x.journal).tables ≡ None) k.same none)).1

  -- the owner is open to each other master
  pub open_to : (events : List Event) (site : SiteName) (x o : SiteState) → site_of site (After events) ≡ Some x → x.here.is_master ≡ true → site ≢ owner → IsOwner g (After events) o → IsOpenTo site o
  open_to events site x o found on apart is =
      masters_open g.schema g.meshed.declared.shape (After events) (run events g.start).sent (met events) site owner x o found is.there on is.master (λ same. apart (sym same))

  -- what the owner queued of the row before it was open to a master: the master has the row, or the insert was dropped before
  abbrev pub HasOrWasDropped : List Event → Type 0
  HasOrWasDropped events = (site : SiteName) (x : SiteState) → site_of site (After events) ≡ Some x → x.here.is_master ≡ true → site ≢ owner → (o : SiteState) (m : ℕ) (u : Txn) → Made g (After events) o m u
      → (c : ℕ) → opened_of site o ≡ Some c → m ≤ c → Has g x ⊎ (dropped events site ≡ true)

  -- where the site was there before, so much was dropped before it joined
  dropped_later : (e : Event) (events : List Event) (site : SiteName) (z : SiteState) → site_of site (After events) ≡ Some z → dropped events site ≡ true → dropped (e ∷ events) site ≡ true
  dropped_later e events site z found was = rw found was

  -- ---- one site changes

  module _ (e : Event) (events : List Event) (x y : SiteState) (x_found : site_of x.here.site (After events) ≡ Some x) (y_found : site_of x.here.site (After (e ∷ events)) ≡ Some y)
      (rest : (site : SiteName) → site ≢ x.here.site → site_of site (After (e ∷ events)) ≡ site_of site (After events)) (moves : Moves (After events) x y) where
    x_on : y.here.is_master ≡ true → x.here.is_master ≡ true
    x_on on = ap (λ (h : Here). h.is_master) (sym moves.here) ∙ on

    -- what was queued before a site was open was queued before
    old_made : (site : SiteName) (z : SiteState) → site_of site (After events) ≡ Some z → z.here.is_master ≡ true → site ≢ owner → (o : SiteState) (m : ℕ) (u : Txn) → Made g (After (e ∷ events)) o m u
        → (c : ℕ) → opened_of site o ≡ Some c → m ≤ c → (v : SiteState) × Made g (After events) v m u × (opened_of site v ≡ Some c)
    old_made site z found on apart o m u made c opened within = go (was (After events) (After (e ∷ events)) x y x_found y_found rest owner o made.there)
      where
        changed : owner ≡ x.here.site → o ≡ y → Placed g e events x y x_found y_found moves m u → (v : SiteState) × Made g (After events) v m u × (opened_of site v ≡ Some c)
        changed own same (Before at) = (
          x,
          record { there = ap (λ (n : SiteName). site_of n (After events)) own ∙ x_found; at = at; makes_it = made.makes_it },
          sym (moves.opened site) ∙ ap (opened_of site) (sym same) ∙ opened,
        )
        changed own same (New place new) =
            let is = made_owner g (e ∷ events) o m u made in
            let master : x.here.is_master ≡ true = x_on (subst (λ (v : SiteState). v.here.is_master ≡ true) same is.master) in
            let wide = masters_open g.schema g.meshed.declared.shape (After events) (run events g.start).sent (met events) site owner z x found (ap (λ (n : SiteName). site_of n (After events)) own ∙ x_found) on master (λ same. apart (sym same)) in
            let now : opened_of site x ≡ Some c = sym (moves.opened site) ∙ ap (opened_of site) (sym same) ∙ opened in
            let counts : wide.0 ≡ c = cc (wide.1, now) in
            absurd (omega (arith, place, within, counts, wide.2))

        go : Was (After events) (After (e ∷ events)) x y x_found y_found rest owner o → (v : SiteState) × Made g (After events) v m u × (opened_of site v ≡ Some c)
        go (Other apart there) = (o, record { there = there; at = made.at; makes_it = made.makes_it }, opened)
        go (Changed own same) = changed own same (placed g e events x y x_found y_found moves m u (subst (λ (v : SiteState). at_position m (queue_of v) ≡ Some u) same made.at))

    turned_has : HasOrWasDropped events → HasOrWasDropped (e ∷ events)
    turned_has before site z found on apart o m u made c opened within = go (was (After events) (After (e ∷ events)) x y x_found y_found rest site z found)
      where
        go : Was (After events) (After (e ∷ events)) x y x_found y_found rest site z → Has g z ⊎ (dropped (e ∷ events) site ≡ true)
        go (Changed own same) =
            let there : site_of site (After events) ≡ Some x = ap (λ (n : SiteName). site_of n (After events)) own ∙ x_found in
            let master : x.here.is_master ≡ true = x_on (subst (λ (v : SiteState). v.here.is_master ≡ true) same on) in
            let old = old_made site x there master apart o m u made c opened within in
            elim (before site x there master apart old.0 m u old.1 c old.2 within) [
              | inl has ↦ inl (subst (Has g) (sym same) (keeps_row g e events x y x_found y_found moves master has))
              | inr was ↦ inr (dropped_later e events site x there was)
            ]
        go (Other differ there) =
            let old = old_made site z there on apart o m u made c opened within in
            elim (before site z there on apart old.0 m u old.1 c old.2 within) [
              | inl has ↦ inl has
              | inr was ↦ inr (dropped_later e events site z there was)
            ]

  -- the sites are as they were
  same_has : (e : Event) (events : List Event) → After (e ∷ events) ≡ After events → HasOrWasDropped events → HasOrWasDropped (e ∷ events)
  same_has e events same before site z found on apart o m u made c opened within =
      let there : site_of site (After events) ≡ Some z = ap (site_of site) (sym same) ∙ found in
      let old : Made g (After events) o m u = subst (λ (s : List SiteState). Made g s o m u) same made in
      elim (before site z there on apart o m u old c opened within) [
        | inl has ↦ inl has
        | inr was ↦ inr (dropped_later e events site z there was)
      ]

  -- ---- a master joins

  module _ (events : List Event) (joins from : SiteName) (source : SiteState) (absent : site_of joins (After events) ≡ None) (source_found : site_of from (After events) ≡ Some source)
      (may : may_join (After events) source joins ≡ true) (before : HasOrWasDropped events) where
    source_on : source.here.is_master ≡ true
    source_on = joins_from_master (After events) source joins may

    -- the one that is copied has the row, or the insert was dropped there or before
    source_knows : (o : SiteState) (m : ℕ) (u : Txn) → Made g (After events) o m u → Has g source ⊎ (dropped (Join joins from ∷ events) joins ≡ true)
    source_knows o m u made = go (is_same_site from owner) refl
      where
        is : IsOwner g (After events) o
        is = made_owner g events o m u made

        joined_as : (insert_was_dropped g.schema g.table g.key (journal_in (site_of from (After events))) || dropped events from) ≡ true → dropped (Join joins from ∷ events) joins ≡ true
        joined_as was = rw (absent, is_same_site-refl joins) was

        by : from ≢ owner → (wide : IsOpenTo from o) → (b : Bool) → nat_lt wide.0 m ≡ b → Has g source ⊎ (dropped (Join joins from ∷ events) joins ≡ true)
        by apart wide false le = elim (before from source source_found source_on apart o m u made wide.0 wide.1 (grind (arith, nat_tests))) [
          | inl has ↦ inl has
          | inr was ↦ inr (joined_as (or_right (insert_was_dropped g.schema g.table g.key (journal_in (site_of from (After events)))) (dropped events from) was))
        ]
        by apart wide true lt = elim (became g.schema g.table g.key (After events) from owner q u (makes_inserts u made.makes_it) o made.there sent source.journal order own settled.done) [
          | inl applied ↦ inl (applied_has events from source source_found source_on applied)
          | inr left ↦ inr (joined_as (or_left (insert_was_dropped g.schema g.table g.key (journal_in (site_of from (After events)))) (dropped events from)
              (rw source_found (dropped_there g.schema g.table g.key (After events) from owner q u (makes_inserts u made.makes_it) o made.there sent source.journal left.0 (was left.1)))))
        ]
          where
            q : ℕ
            q = m - wide.0

            less : wide.0 < m
            less = grind (arith, nat_tests)

            sent : at_position q (stream_to from o) ≡ Some u
            sent = subst (λ (k : Option ℕ). at_position q (stream_in k (queue_of o)) ≡ Some u) (sym wide.1) (position_behind wide.0 m (queue_of o) u made.at less)

            order : IsInOrder (After events) from source.journal
            order = subst (λ (v : Option SiteState). IsInOrder (After events) from (journal_in v)) source_found (earlier_comes_first g.schema g.start events g.fit.start from)

            own : ExecuteTheirOwn source.journal
            own = executions_are_own g.schema g.start g.fit.start events from source source_found

            two : AreTwo g.schema (After events) from owner source o
            two = record { found = source_found; master = source_on; there = made.there; named = is.declared; differ = λ same. apart (sym same) }

            settled : FinishedWithoutError owner q source.journal
            settled = all_settled g.schema g.fit.sound g.decides (After events) (run events g.start).sent
                (facts_after (record { decides = g.decides; blocks = g.blocks; rising = g.rises }) g.schema g.start g.fit g.meshed events)
                (quiet_now may) from source source_found (well g events from source source_found).of_schema source_on owner o q two (omega (arith, less))
                (le (count_opened (opened_of from o)) wide.0 (ap count_opened wide.1) less (found_position m (queue_of o) u made.at).1)
              where
                quiet_now : may_join (After events) source joins ≡ true → are_quiet (After events) ≡ true
                quiet_now may = (and_parts _ (are_quiet (After events)) may).1

                le : (a b : ℕ) → a ≡ b → b < m → m ≤ length (queue_of o) → a + (m - b) ≤ count_of o
                le a b same less within = omega (arith, same, within, less)

            was : stands_or_was_dropped owner q source.journal ≡ true → was_dropped owner q source.journal ≡ true
            was left = elim (or_cases (is_some (error_at owner q source.journal)) (was_dropped owner q source.journal) left) [
              | inl stands ↦ absurd (true≢false (sym stands ∙ ap is_some settled.none))
              | inr so ↦ so
            ]

        go : (b : Bool) → is_same_site from owner ≡ b → Has g source ⊎ (dropped (Join joins from ∷ events) joins ≡ true)
        go true same =
            let one : Some source ≡ Some o = sym source_found ∙ ap (λ (n : SiteName). site_of n (After events)) (is_same_site-true from owner same) ∙ made.there in
            let alike : source ≡ o = cc in
            inl (subst (Has g) (sym alike) is.has)
        go false other =
            let apart : from ≢ owner = λ same. true≢false (sym (is_same_site-refl owner) ∙ ap (λ (n : SiteName). is_same_site n owner) (sym same) ∙ other) in
            let wide = open_to events from source o source_found source_on apart is in
            by apart wide (nat_lt wide.0 m) refl

    joined_has : After (Join joins from ∷ events) ≡ with_joined (After events) source joins → HasOrWasDropped (Join joins from ∷ events)
    joined_has same site z found on apart o m u made c opened within =
        go z on (was_joined (After events) source joins site z (ap (site_of site) (sym same) ∙ found)) (none_made g (After events) joins source o m u (subst (λ (s : List SiteState). Made g s o m u) same made))
      where
        go : (w : SiteState) → w.here.is_master ≡ true → WasJoined (After events) source joins site w → (v : SiteState) × (o ≡ site_open joins v) × Made g (After events) v m u → Has g w ⊎ (dropped (Join joins from ∷ events) site ≡ true)
        go _ on (joined_sites.New named) (v, is, old) = elim (source_knows v m u old) [
          | inl has ↦ inl (subst (λ (ts : List Rows). (sign g).Present ts) (sym (copied_tables (After events) source joins)) has)
          | inr was ↦ inr (ap (dropped (Join joins from ∷ events)) named ∙ was)
        ]
        go _ on (joined_sites.Old w there) (v, is, old) =
            let wide = open_to events site w v there on apart (made_owner g events v m u old) in
            let now : opened_of site (site_open joins v) ≡ Some c = ap (opened_of site) (sym is) ∙ opened in
            elim (opened_in-opened site joins (count_of v) v.destinations) [
              | inl stays ↦ elim (before site w there on apart v m u old c (sym stays ∙ now) within) [
                | inl has ↦ inl has
                | inr was ↦ inr (dropped_later (Join joins from) events site w there was)
              ]
              | inr opens ↦ absurd (cc (opens.0, wide.1))
            ]

  -- ---- every event

  -- a master that isn't late was there from the start
  pub not_dropped : (events : List Event) (site : SiteName) (x : SiteState) → site_of site (After events) ≡ Some x → is_late_master g.schema site ≡ false → dropped events site ≡ false
  not_dropped [] site x found early = refl
  not_dropped (e ∷ es) site x found early = go (site_of site (After es)) refl (not_dropped es site)
    where
      late : (source : SiteState) → site_of source.here.site (After es) ≡ Some source → may_join (After es) source site ≡ true → ⊥
      late source there may =
          true≢false (sym (subst (λ (s : Schema). is_late_master s site ≡ true) (well g es source.here.site source there).of_schema (joins_late (After es) source site may)) ∙ early)

      -- where it wasn't there, no join brought it
      none : site_of site (After es) ≡ None → (f : Event) → f ≡ e → Kind f → of_source site f (λ source. insert_was_dropped g.schema g.table g.key (journal_in (site_of source (After es))) || dropped es source) ≡ false
      none absent f is (Plain plain) = no_source site f _ plain
      none absent f is (Joining joins from same) = by joins from same (is_same_site joins site) refl
        where
          by : (joins from : SiteName) → f ≡ Join joins from → (b : Bool) → is_same_site joins site ≡ b
              → of_source site f (λ source. insert_was_dropped g.schema g.table g.key (journal_in (site_of source (After es))) || dropped es source) ≡ false
          by joins from same false other = rw (same, other) refl
          by joins from same true own = absurd (left (joined joins from (After es)) (join_leaves (After es) joins from) after)
            where
              named : joins ≡ site
              named = is_same_site-true joins site own

              after : site_of site (joined joins from (After es)) ≡ Some x
              after = subst (λ (h : Event). site_of site (happens h (run es g.start)).sites ≡ Some x) (sym is ∙ same) found

              left : (ys : List SiteState) → JoinLeaves (After es) joins from ys → site_of site ys ≡ Some x → ⊥
              left _ Nothing there = cc (absent, there)
              left _ (OneMore source gone at may) there = late source (found_again from (After es) source at) (subst (λ (n : SiteName). may_join (After es) source n ≡ true) named may)

      go : (o : Option SiteState) → site_of site (After es) ≡ o → ((z : SiteState) → site_of site (After es) ≡ Some z → is_late_master g.schema site ≡ false → dropped es site ≡ false) → dropped (e ∷ es) site ≡ false
      go (Some z) there later = rw there (later z there early)
      go None absent later = rw absent (none absent e refl (kind e))

  pub has_or_was_dropped : (events : List Event) → HasOrWasDropped events
  has_or_was_dropped [] = λ site x found on apart o m u made c opened within. nothing o m u made
    where
      nothing : (o : SiteState) (m : ℕ) (u : Txn) → Made g g.start.sites o m u → {A : Type 0} → A
      nothing o m u made =
          let none : queue_of o ≡ [] = rw (found_all (IsNewSite g.schema) owner g.start.sites o g.fit.start.sites made.there).journal refl in
          let nothing : at_position m (queue_of o) ≡ None = ap (at_position m) none in
          absurd (cc (nothing, made.at))
  has_or_was_dropped (e ∷ es) = by (kind e) (has_or_was_dropped es)
    where
      plain : is_no_join e ≡ true → Turns (After es) (After (e ∷ es)) → HasOrWasDropped es → HasOrWasDropped (e ∷ es)
      plain no_join (turning.Same same) before = same_has e es same before
      plain no_join (turning.One x y x_found y_found rest moves) before = turned_has e es x y x_found y_found rest moves before
      plain no_join (turning.Joins joins source absent source_found may same) before =
          let none = still_absent e (run es g.start) joins no_join absent in
          let there = ap (site_of joins) same ∙ found_joined (After es) source joins absent in
          absurd (cc (none, there))

      joining : (joins from : SiteName) (sites : List SiteState) → After (Join joins from ∷ es) ≡ sites → JoinLeaves (After es) joins from sites → HasOrWasDropped es → HasOrWasDropped (Join joins from ∷ es)
      joining joins from _ same Nothing before = same_has (Join joins from) es same before
      joining joins from _ same (OneMore source absent found may) before = joined_has es joins from source absent found may before same

      by : Kind e → HasOrWasDropped es → HasOrWasDropped (e ∷ es)
      by (Plain no_join) before = plain no_join (turned g e es) before
      by (Joining joins from is) before = subst (λ (f : Event). HasOrWasDropped (f ∷ es)) (sym is) (joining joins from (joined joins from (After es)) refl (join_leaves (After es) joins from) before)
