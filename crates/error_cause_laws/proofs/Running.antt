-- What holds of the sites after every list of events, and of every sign there.
use Rattle.std.proofs.Common.{◌≡◌, ◌≢◌, ℕ, ◌≤◌, Bool, true, false, cond, List, [], ◌∷◌, Some, None, Ok, Err, refl, sym, ap, ◌∙◌, subst, arith}
use mathlib.Core.Bool.{true≢false}
use Rattle.std.specs.Prelude.{Option}
use Rattle.std.specs.List.{AllByRecursion}
use Rattle.std.specs.Option.{option_map}
use Rattle.rep_values.specs.declared.name.SiteName.{SiteName}
use Rattle.rep_schema.specs.declared.schema.Schema.{Schema}
use Rattle.rep_schema.specs.Tables.{Rows}
use Rattle.rep_calls.specs.declared.call.Txn.{Txn}
use Rattle.conflict_detect.specs.Fits.{TxnFits}
use Rattle.txn_effects.specs.Calls.{Effect}
use Rattle.txn_effects.specs.Transactions.{Failure}
use Rattle.txn_effects.specs.Contents.{Content, IsContent, effect_on, content_after}
use Rattle.txn_effects.specs.declared.local.Here.{Here}
use Rattle.local_txn.specs.Laws.{StampsOfABlockRise}
use Rattle.txn_effects.specs.Locals.{BlockEffect, local_effect}
use Rattle.rep_calls.specs.declared.statement.Statement.{Statement}
use Rattle.rep_values.specs.SiteNames.{is_same_site}
use Rattle.deferred_queue.proofs.Sites.{is_same_site-true, is_same_site-refl}
use Rattle.rep_laws.specs.Commuting.{IsSound}
use Rattle.site_state.specs.declared.entry.Entry.{Entry}
use Rattle.site_state.specs.declared.entry.Entry.TheVariants.{Local, Done, Error, Executed, Dropped, Refreshed}
use Rattle.site_state.specs.State.{SiteState, opened_of}
use Rattle.site_state.specs.Contents.{content_of, tables_of, txn_of, journal_content}
use Rattle.site_state.specs.Streams.{queue_of, with_one}
use Rattle.rep_schema.specs.Sites.{is_late_master}
use Rattle.site_state.specs.Joining.{site_open}
use Rattle.site_state.proofs.Stepping.{with_entry}
use Rattle.site_events.specs.Cluster.{Cluster, site_of}
use Rattle.site_events.specs.Joins.{copied, with_joined}
use Rattle.site_events.specs.Events.{Event, run}
use Rattle.event_laws.specs.Starts.{IsNewSite}
use Rattle.event_laws.specs.Fitting.{IsFitStart}
use Rattle.event_laws.specs.Marks.{journal_in}
use Rattle.event_laws.specs.Orders.{IsInOrder}
use Rattle.event_laws.specs.Waiting.{AbsentAreClosed, SitesLinkAsDeclared}
use Rattle.event_laws.proofs.Sites.{found_all, found_again, found_or, site_of-joined}
use Rattle.event_laws.proofs.NewSites.{copied_is_new}
use Rattle.event_laws.proofs.Happening.{run_keeps}
use Rattle.event_laws.proofs.RunInvariants.{HoldsAt}
use Rattle.event_laws.proofs.MarkLaws as marks
use Rattle.event_laws.proofs.OrderLaws.{earlier_comes_first}
use Rattle.event_laws.proofs.DeclaredSites.{IsSiteOf, becomes_sites_of, start_sites_of, joins_late, joins_from_master}
use Rattle.event_laws.proofs.JoinedMeets.{joined_closed}
use Rattle.event_laws.proofs.FittingSites.{every_site_fits}
use Rattle.rep_laws.specs.GroupForms.{TxnKeepsForms}
use Rattle.convergence_laws.specs.Journals.{IsSoundTxn}
use Rattle.convergence_laws.specs.Laws.{BlocksKeepForms}
use Rattle.convergence_laws.proofs.Moves.{DecisionLaws}
use Rattle.convergence_laws.proofs.EventsKeepForms.{KeepsIn, run_holds}
use Rattle.error_cause_laws.specs.Excuses.{OfFailures, ErrorsAreSo, RefusalsAreSo}
use Rattle.error_cause_laws.proofs.OneTimeWrites.{OneTimeWrite}
use Rattle.error_cause_laws.proofs.WritingOnce.{IsSigned, IsDecided, step_signed}
use Rattle.event_laws.proofs.LinkedSites.{IsLinked}
use Rattle.error_cause_laws.proofs.Moving.{ComesFrom, NoError, Moves, Happened, Stayed, Erred, Committed, Applied, Errs, error_comes}
use Rattle.error_cause_laws.proofs.Turning.{Turns, AreHeld, happens_turns}
use Rattle.error_cause_laws.proofs.Turning as turning
use Rattle.error_cause_laws.proofs.Linking.{all_linked}
use Rattle.error_cause_laws.proofs.Joining.{empty_sends_none, joined_signed}
use Rattle.event_laws.proofs.JoinedSites.{copied_queue, copied_tables}
use Rattle.error_cause_laws.proofs.WritesStep.{IsWell, step_of, sent_holds}

both_sound : (schema : Schema) (txns : List Txn) → AllByRecursion (TxnFits schema) txns → AllByRecursion (TxnKeepsForms schema) txns → AllByRecursion (IsSoundTxn schema) txns
both_sound schema [] fit keep = tt
both_sound schema (t ∷ ts) fit keep = (record { fits = fit.0; keeps = keep.0 }, both_sound schema ts fit.1 keep.1)

-- ---- errors of a journal

-- with an entry that is no error
pub plain_so : (Says : OfFailures) (entry : Option Entry) (journal : List Entry) → NoError entry → ErrorsAreSo Says journal → ErrorsAreSo Says (with_entry entry journal)
plain_so Says None journal plain so = so
plain_so Says (Some (Local number txn)) journal plain so = (tt, so)
plain_so Says (Some (Done origin position onward txn)) journal plain so = (tt, so)
plain_so Says (Some (Error origin position call error txn)) journal plain so = absurd plain
plain_so Says (Some (Executed origin position onward txn)) journal plain so = (tt, so)
plain_so Says (Some (Dropped origin position)) journal plain so = (tt, so)
plain_so Says (Some (Refreshed moment)) journal plain so = (tt, so)

module _ (schema : Schema) (decides : DecisionLaws) (rises : StampsOfABlockRise) (blocks : BlocksKeepForms) (start : Cluster) (is : IsFitStart schema start) (meshed : SitesLinkAsDeclared schema start.sites) where
  abbrev pub sites_after : List Event → List SiteState
  sites_after events = (run events start).sites

  pub all_of : (events : List Event) → AllByRecursion (IsSiteOf schema) (sites_after events)
  all_of events = run_keeps (λ xs sent. AllByRecursion (IsSiteOf schema) xs) (becomes_sites_of schema) events start (start_sites_of schema start.sites is.start.sites meshed.declared.each)

  pub keeps : (events : List Event) (site : SiteName) (x : SiteState) → site_of site (sites_after events) ≡ Some x → KeepsIn schema x
  keeps events site x found = (run_holds schema decides blocks events start is).sites site x found

  pub well_after : (events : List Event) (site : SiteName) (x : SiteState) → site_of site (sites_after events) ≡ Some x → IsWell schema x
  well_after events site x found =
      let of = found_all (IsSiteOf schema) site (sites_after events) x (all_of events) found in
      let fit = every_site_fits schema start events is site x found in
      let keep = keeps events site x found in
      record {
        of_schema = of.of_schema;
        content = subst (λ (s : Schema). IsContent s (content_of x)) of.of_schema fit.content;
        queued = subst (λ (s : Schema). AllByRecursion (IsSoundTxn s) (queue_of x)) of.of_schema (both_sound x.schema (queue_of x) fit.queued keep.keeps.queued);
        master = of.declared.is_master;
        fit = fit;
      }

  pub links_after : (events : List Event) (site : SiteName) (x : SiteState) → site_of site (sites_after events) ≡ Some x → IsLinked x
  links_after events = all_linked schema meshed.declared.shape (sites_after events) (all_of events)

  pub order_after : (events : List Event) (site : SiteName) (x : SiteState) → site_of site (sites_after events) ≡ Some x → IsInOrder (sites_after events) x.here.site x.journal
  order_after events site x found =
      let again = found_again site (sites_after events) x found in
      subst (IsInOrder (sites_after events) x.here.site) (ap journal_in again) (earlier_comes_first schema start events is.start x.here.site)

  held_after : (events : List Event) → AreHeld (sites_after events)
  held_after events = record {
    sound = λ site x found. subst IsSound (sym (well_after events site x found).of_schema) is.sound;
    fit = λ site x found. every_site_fits schema start events is site x found;
    senders = λ site x found.
        let again = found_again site (sites_after events) x found in
        (subst (HoldsAt (sites_after events) x.here.site) again ((marks.run_holds schema start events is.start).each x.here.site)).senders;
    order = order_after events;
  }

  -- what an event does to the sites
  pub turns : (e : Event) (events : List Event) → Turns (sites_after events) (sites_after (e ∷ events))
  turns e events = happens_turns rises e (run events start) (held_after events)

  -- ---- nobody is open to a late master that isn't there

  -- where one site moves
  one_closed : (xs ys : List SiteState) (x y : SiteState) → site_of x.here.site xs ≡ Some x → site_of x.here.site ys ≡ Some y → ((site : SiteName) → site ≢ x.here.site → site_of site ys ≡ site_of site xs) → Moves xs x y
      → AbsentAreClosed schema xs → AbsentAreClosed schema ys
  one_closed xs ys x y x_found y_found rest moves closed site absent z found late none = by (is_same_site x.here.site site) refl
    where
      apart : (b : Bool) (u : SiteState) → site_of absent xs ≡ Some u → is_same_site absent x.here.site ≡ b → ⊥
      apart true u at same =
          let names : absent ≡ x.here.site = is_same_site-true absent x.here.site same in
          let wrong : None ≡ Some y = sym none ∙ ap (λ (n : SiteName). site_of n ys) names ∙ y_found in
          cc
      apart false u at other =
          let wrong : None ≡ Some u = sym none ∙ rest absent (λ names. true≢false (sym (is_same_site-refl x.here.site) ∙ ap (λ (n : SiteName). is_same_site n x.here.site) (sym names) ∙ other)) ∙ at in
          cc

      there : (o : Option SiteState) → site_of absent xs ≡ o → o ≡ None
      there None at = refl
      there (Some u) at = absurd (apart (is_same_site absent x.here.site) u at refl)

      none_before : site_of absent xs ≡ None
      none_before = there (site_of absent xs) refl

      by : (b : Bool) → is_same_site x.here.site site ≡ b → opened_of absent z ≡ None
      by true same =
          let names : x.here.site ≡ site = is_same_site-true x.here.site site same in
          let both : Some z ≡ Some y = sym found ∙ ap (λ (n : SiteName). site_of n ys) (sym names) ∙ y_found in
          let one : z ≡ y = cc in
          ap (opened_of absent) one ∙ moves.opened absent ∙ closed x.here.site absent x x_found late (none_before)
      by false other =
          let unlike : site ≢ x.here.site = λ names. true≢false (sym (is_same_site-refl site) ∙ ap (λ (n : SiteName). is_same_site n site) names ∙ other) in
          closed site absent z (sym (rest site unlike) ∙ found) late none_before

  closed_after : (events : List Event) → AbsentAreClosed schema (sites_after events)
  closed_after [] = meshed.closed
  closed_after (e ∷ es) = go (turns e es) (closed_after es)
    where
      go : Turns (sites_after es) (sites_after (e ∷ es)) → AbsentAreClosed schema (sites_after es) → AbsentAreClosed schema (sites_after (e ∷ es))
      go (turning.Same same) closed = subst (AbsentAreClosed schema) (sym same) closed
      go (turning.One x y x_found y_found rest moves) closed = one_closed (sites_after es) (sites_after (e ∷ es)) x y x_found y_found rest moves closed
      go (turning.Joins site source absent found may same) closed =
          subst (AbsentAreClosed schema) (sym same) (joined_closed schema meshed.declared.shape (sites_after es) source site source.here.site absent found may (all_of es) closed)

  -- ---- signs

  module _ (sign : OneTimeWrite schema) (begins : (site : SiteName) (x : SiteState) → site_of site start.sites ≡ Some x → x.here.is_master ≡ true → sign.Present x.base → IsDecided schema sign start.sites) where
    new_at : (site : SiteName) (x : SiteState) → site_of site start.sites ≡ Some x → IsNewSite schema x
    new_at site x found = found_all (IsNewSite schema) site start.sites x is.start.sites found

    queue_none : (x : SiteState) → IsNewSite schema x → queue_of x ≡ []
    queue_none x new = rw new.journal refl

    tables_base : (x : SiteState) → IsNewSite schema x → tables_of x ≡ x.base
    tables_base x new = rw new.journal refl

    start_signed : IsSigned schema sign start.sites
    start_signed = record {
      once = λ site x found. rw (queue_none x (new_at site x found)) (omega arith);
      comes = λ site x found has. let none : 1 ≤ 0 = rw (queue_none x (new_at site x found)) at has in absurd (omega (arith, none));
      settled = λ site x found master has. begins site x found master (subst sign.Present (tables_base x (new_at site x found)) has);
      known = λ site other x o found o_found master also has position txn at makes. absurd (empty_sends_none (opened_of x.here.site o) (queue_of o) position txn (queue_none o (new_at other o o_found)) at);
      taken = λ site x s found master has there off counts. let none : 1 ≤ 0 = rw (queue_none s (new_at sign.owner s there)) at counts in absurd (omega (arith, none));
    }

    pub signed_after : (events : List Event) → IsSigned schema sign (sites_after events)
    signed_after [] = start_signed
    signed_after (e ∷ es) = go (turns e es) (signed_after es)
      where
        go : Turns (sites_after es) (sites_after (e ∷ es)) → IsSigned schema sign (sites_after es) → IsSigned schema sign (sites_after (e ∷ es))
        go (turning.Same same) h = subst (IsSigned schema sign) (sym same) h
        go (turning.One x y x_found y_found rest moves) h =
            step_signed schema sign (sites_after es) (links_after es) h (sites_after (e ∷ es)) x y x_found y_found rest
            (step_of schema sign (sites_after es) (well_after es) x y x_found (well_after (e ∷ es) x.here.site y y_found) moves)
        go (turning.Joins site source absent found may same) h =
            subst (IsSigned schema sign) (sym same)
            (joined_signed schema sign (sites_after es) h site source absent found (joins_from_master (sites_after es) source site may)
            (λ name z z_found. closed_after es name site z z_found
            (ap (λ (s : Schema). is_late_master s site) (sym (well_after es source.here.site source found).of_schema) ∙ joins_late (sites_after es) source site may) absent))

  -- ---- what is queued

  -- what holds of what a block of each of these sites makes, and goes on to hold onward, holds of all that they queue
  module _ (Of : SiteState → Type 0) (P : Txn → Type 0) (of_here : (x y : SiteState) → y.here ≡ x.here → Of y → Of x)
      (own : (x : SiteState) (statements : List Statement) (block : BlockEffect) → IsWell schema x → Of x → local_effect schema x.here x.stamps statements (tables_of x) ≡ Ok block → P (txn_of schema block.changes))
      (onward : (events : List Event) (x o : SiteState) (position : ℕ) (txn : Txn) (effect : Effect) → ComesFrom (sites_after events) x o position txn
      → (Of o → P txn) → IsContent schema (content_of x) → IsSoundTxn schema txn → effect_on schema o.here.site txn (content_of x) ≡ Ok effect → P (txn_of schema effect.changes)) where
    abbrev pub Queued : List SiteState → Type 0
    Queued sites = (site : SiteName) (x : SiteState) → site_of site sites ≡ Some x → Of x → AllByRecursion P (queue_of x)

    with_one_holds : (b : Bool) (txn : Txn) (txns : List Txn) → P txn → AllByRecursion P txns → AllByRecursion P (with_one b txn txns)
    with_one_holds true txn txns holds all = (holds, all)
    with_one_holds false txn txns holds all = all

    moved_queue : (events : List Event) → Queued (sites_after events) → (x y : SiteState) → site_of x.here.site (sites_after events) ≡ Some x → Moves (sites_after events) x y → Of x → AllByRecursion P (queue_of y)
    moved_queue events queued x y x_found moves of_x = go moves.what
      where
        well : IsWell schema x
        well = well_after events x.here.site x x_found

        before : AllByRecursion P (queue_of x)
        before = queued x.here.site x x_found of_x

        go : Happened (sites_after events) x y moves.entry → AllByRecursion P (queue_of y)
        go (Stayed s) = rw s.queue before
        go (Erred f) = rw f.queue before
        go (Committed c) = rw (c.queue ∙ ap (λ (s : Schema). txn_of s c.block.changes ∷ queue_of x) well.of_schema) (
          own x c.statements c.block well of_x (subst (λ (s : Schema). local_effect s x.here x.stamps c.statements (tables_of x) ≡ Ok c.block) well.of_schema c.makes),
          before,
        )
        go (Applied a) =
            let o_well = well_after events a.origin.here.site a.origin a.comes.there in
            let is : x.schema ≡ schema = well.of_schema in
            rw (a.queue ∙ ap (λ (s : Schema). with_one a.queues (txn_of s a.effect.changes) (queue_of x)) is)
            (with_one_holds a.queues (txn_of schema a.effect.changes) (queue_of x)
            (onward events x a.origin a.position a.txn a.effect a.comes
            (λ of_o. sent_holds P x.here.site a.origin a.position a.txn (queued a.origin.here.site a.origin a.comes.there of_o) a.comes.sent) well.content
            (sent_holds (IsSoundTxn schema) x.here.site a.origin a.position a.txn o_well.queued a.comes.sent)
            (subst (λ (s : Schema). effect_on s a.origin.here.site a.txn (content_of x) ≡ Ok a.effect) is a.gives)) before)

    pub queued_after : (events : List Event) → Queued (sites_after events)
    queued_after [] site x found of_x = rw (found_all (IsNewSite schema) site start.sites x is.start.sites found).journal tt
    queued_after (e ∷ es) site w found of_w = go (turns e es) (queued_after es) found
      where
        joined_queue : (joins : SiteName) (source : SiteState) → Queued (sites_after es) → site_of site (with_joined (sites_after es) source joins) ≡ Some w → AllByRecursion P (queue_of w)
        joined_queue joins source before there =
            by_old (site_of site (sites_after es)) refl (sym (site_of-joined site (site_open joins) (sites_after es) (copied (sites_after es) source joins) (λ z. refl)) ∙ there)
          where
            new_one : (b : Bool) → cond b (Some (copied (sites_after es) source joins)) None ≡ Some w → AllByRecursion P (queue_of w)
            new_one true at = let same : copied (sites_after es) source joins ≡ w = cc in rw (sym (ap queue_of same) ∙ copied_queue (sites_after es) source joins) tt
            new_one false at = cc

            by_old : (o : Option SiteState) → site_of site (sites_after es) ≡ o → found_or (site_of site (copied (sites_after es) source joins ∷ [])) (option_map (site_open joins) o) ≡ Some w → AllByRecursion P (queue_of w)
            by_old None none at = new_one (is_same_site (copied (sites_after es) source joins).here.site site) at
            by_old (Some z) is_there at =
                let same : site_open joins z ≡ w = cc in
                subst (λ (v : SiteState). AllByRecursion P (queue_of v)) same (before site z is_there (of_here z w (ap (λ (v : SiteState). v.here) (sym same)) of_w))

        go : Turns (sites_after es) (sites_after (e ∷ es)) → Queued (sites_after es) → site_of site (sites_after (e ∷ es)) ≡ Some w → AllByRecursion P (queue_of w)
        go (turning.Same same) before there = before site w (subst (λ (xs : List SiteState). site_of site xs ≡ Some w) same there) of_w
        go (turning.One x y x_found y_found rest moves) before there = by (is_same_site x.here.site site) refl
          where
            by : (b : Bool) → is_same_site x.here.site site ≡ b → AllByRecursion P (queue_of w)
            by true same =
                let names : x.here.site ≡ site = is_same_site-true x.here.site site same in
                let both : Some w ≡ Some y = sym there ∙ ap (λ (n : SiteName). site_of n (sites_after (e ∷ es))) (sym names) ∙ y_found in
                let one : w ≡ y = cc in
                subst (λ (v : SiteState). AllByRecursion P (queue_of v)) (sym one) (moved_queue es before x y x_found moves (of_here x w (ap (λ (v : SiteState). v.here) one ∙ moves.here) of_w))
            by false other =
                let apart : site ≢ x.here.site = λ names. true≢false (sym (is_same_site-refl site) ∙ ap (λ (n : SiteName). is_same_site n site) names ∙ other) in
                before site w (sym (rest site apart) ∙ there) of_w
        go (turning.Joins joins source absent source_found may same) before there = joined_queue joins source before (subst (λ (xs : List SiteState). site_of site xs ≡ Some w) same there)

  -- ---- what rows never have

  -- what no base row has, and no transaction brings where it wasn't, no master's rows have
  module _ (Bad : List Rows → Type 0) (begins : (site : SiteName) (x : SiteState) → site_of site start.sites ≡ Some x → x.here.is_master ≡ true → Bad x.base → ⊥)
      (commits : (x : SiteState) (statements : List Statement) (block : BlockEffect) (effect : Effect) → IsWell schema x → x.here.is_master ≡ true → local_effect schema x.here x.stamps statements (tables_of x) ≡ Ok block
      → IsSoundTxn schema (txn_of schema block.changes) → effect_on schema x.here.site (txn_of schema block.changes) (content_of x) ≡ Ok effect
      → Bad (content_after schema x.here.site (txn_of schema block.changes) (content_of x)).tables → Bad (tables_of x))
      (applies : (events : List Event) (x o : SiteState) (position : ℕ) (txn : Txn) (effect : Effect) → ComesFrom (sites_after events) x o position txn → IsContent schema (content_of x) → IsSoundTxn schema txn
      → effect_on schema o.here.site txn (content_of x) ≡ Ok effect → Bad (content_after schema o.here.site txn (content_of x)).tables → Bad (tables_of x)) where
    moved_tables : (e : Event) (events : List Event) (x y : SiteState) → site_of x.here.site (sites_after events) ≡ Some x → site_of x.here.site (sites_after (e ∷ events)) ≡ Some y → Moves (sites_after events) x y → x.here.is_master ≡ true
        → Bad (tables_of y) → Bad (tables_of x)
    moved_tables e events x y x_found y_found moves master bad = go moves.what
      where
        well : IsWell schema x
        well = well_after events x.here.site x x_found

        y_well : IsWell schema y
        y_well = well_after (e ∷ events) x.here.site y y_found

        go : Happened (sites_after events) x y moves.entry → Bad (tables_of x)
        go (Stayed s) = subst (λ (c : Content). Bad c.tables) (s.content master) bad
        go (Erred f) = subst (λ (c : Content). Bad c.tables) f.content bad
        go (Committed c) =
            let is : x.schema ≡ schema = well.of_schema in
            let queue : queue_of y ≡ txn_of schema c.block.changes ∷ queue_of x = c.queue ∙ ap (λ (s : Schema). txn_of s c.block.changes ∷ queue_of x) is in
            commits x c.statements c.block (record { changes = c.block.changes; numbers = (content_of x).numbers }) well master
            (subst (λ (s : Schema). local_effect s x.here x.stamps c.statements (tables_of x) ≡ Ok c.block) is c.makes)
            (subst (AllByRecursion (IsSoundTxn schema)) queue y_well.queued).0
            (subst (λ (s : Schema). effect_on s x.here.site (txn_of s c.block.changes) (content_of x) ≡ Ok (record { changes = c.block.changes; numbers = (content_of x).numbers })) is (well.fit.blocks c.statements c.block c.makes))
            (subst (λ (d : Content). Bad d.tables) (c.content ∙ ap (λ (s : Schema). content_after s x.here.site (txn_of s c.block.changes) (content_of x)) is) bad)
        go (Applied a) =
            let is : x.schema ≡ schema = well.of_schema in
            let o_well = well_after events a.origin.here.site a.origin a.comes.there in
            applies events x a.origin a.position a.txn a.effect a.comes well.content (sent_holds (IsSoundTxn schema) x.here.site a.origin a.position a.txn o_well.queued a.comes.sent)
            (subst (λ (s : Schema). effect_on s a.origin.here.site a.txn (content_of x) ≡ Ok a.effect) is a.gives)
            (subst (λ (d : Content). Bad d.tables) (a.content ∙ ap (λ (s : Schema). content_after s a.origin.here.site a.txn (content_of x)) is) bad)

    pub never_bad : (events : List Event) (site : SiteName) (x : SiteState) → site_of site (sites_after events) ≡ Some x → x.here.is_master ≡ true → Bad (tables_of x) → ⊥
    never_bad [] site x found master bad =
        begins site x found master (subst Bad (ap (λ es. (journal_content x.schema x.here.site x.base es).tables) (found_all (IsNewSite schema) site start.sites x is.start.sites found).journal) bad)
    never_bad (e ∷ es) site w found master bad = go (turns e es) (never_bad es) found
      where
        joined_tables : (joins : SiteName) (source : SiteState) → source.here.is_master ≡ true → site_of source.here.site (sites_after es) ≡ Some source
            → ((site : SiteName) (x : SiteState) → site_of site (sites_after es) ≡ Some x → x.here.is_master ≡ true → Bad (tables_of x) → ⊥) → site_of site (with_joined (sites_after es) source joins) ≡ Some w → ⊥
        joined_tables joins source on source_found before there =
            by_old (site_of site (sites_after es)) refl (sym (site_of-joined site (site_open joins) (sites_after es) (copied (sites_after es) source joins) (λ z. refl)) ∙ there)
          where
            new_one : (b : Bool) → cond b (Some (copied (sites_after es) source joins)) None ≡ Some w → ⊥
            new_one true at =
                let same : copied (sites_after es) source joins ≡ w = cc in
                before source.here.site source source_found on (subst Bad (sym (ap tables_of same) ∙ copied_tables (sites_after es) source joins) bad)
            new_one false at = cc

            by_old : (o : Option SiteState) → site_of site (sites_after es) ≡ o → found_or (site_of site (copied (sites_after es) source joins ∷ [])) (option_map (site_open joins) o) ≡ Some w → ⊥
            by_old None none at = new_one (is_same_site (copied (sites_after es) source joins).here.site site) at
            by_old (Some z) is_there at =
                let same : site_open joins z ≡ w = cc in
                before site z is_there (ap (λ (v : SiteState). v.here.is_master) same ∙ master) (subst Bad (sym (ap tables_of same)) bad)

        go : Turns (sites_after es) (sites_after (e ∷ es)) → ((site : SiteName) (x : SiteState) → site_of site (sites_after es) ≡ Some x → x.here.is_master ≡ true → Bad (tables_of x) → ⊥)
            → site_of site (sites_after (e ∷ es)) ≡ Some w → ⊥
        go (turning.Same same) before there = before site w (subst (λ (xs : List SiteState). site_of site xs ≡ Some w) same there) master bad
        go (turning.One x y x_found y_found rest moves) before there = by (is_same_site x.here.site site) refl
          where
            by : (b : Bool) → is_same_site x.here.site site ≡ b → ⊥
            by true same =
                let names : x.here.site ≡ site = is_same_site-true x.here.site site same in
                let both : Some w ≡ Some y = sym there ∙ ap (λ (n : SiteName). site_of n (sites_after (e ∷ es))) (sym names) ∙ y_found in
                let one : w ≡ y = cc in
                let on : x.here.is_master ≡ true = sym (ap (λ (here : Here). here.is_master) moves.here) ∙ ap (λ (v : SiteState). v.here.is_master) (sym one) ∙ master in
                before x.here.site x x_found on (moved_tables e es x y x_found y_found moves on (subst Bad (ap tables_of one) bad))
            by false other =
                let apart : site ≢ x.here.site = λ names. true≢false (sym (is_same_site-refl site) ∙ ap (λ (n : SiteName). is_same_site n site) names ∙ other) in
                before site w (sym (rest site apart) ∙ there) master bad
        go (turning.Joins joins source absent source_found may same) before there =
            joined_tables joins source (joins_from_master (sites_after es) source joins may) source_found before (subst (λ (xs : List SiteState). site_of site xs ≡ Some w) same there)

  -- ---- errors

  -- so is each transaction that fails at a master
  abbrev pub FailuresAreSo : (List Rows → OfFailures) → Type 0
  FailuresAreSo Says = (events : List Event) (x o : SiteState) (position : ℕ) (txn : Txn) (failure : Failure) → site_of x.here.site (sites_after events) ≡ Some x → x.here.is_master ≡ true
      → ComesFrom (sites_after events) x o position txn → effect_on schema o.here.site txn (content_of x) ≡ Err failure → Says x.base x.journal failure.call failure.error txn

  module _ (Says : List Rows → OfFailures) (fails : FailuresAreSo Says) where
    errors_after : (events : List Event) (site : SiteName) (x : SiteState) → site_of site (sites_after events) ≡ Some x → x.here.is_master ≡ true → ErrorsAreSo (Says x.base) x.journal
    errors_after [] site x found master = rw (found_all (IsNewSite schema) site start.sites x is.start.sites found).journal tt
    errors_after (e ∷ es) site w found master = go (turns e es) (errors_after es) found
      where
        moved : (x y : SiteState) → site_of x.here.site (sites_after es) ≡ Some x → Moves (sites_after es) x y → x.here.is_master ≡ true → ErrorsAreSo (Says x.base) x.journal → ErrorsAreSo (Says y.base) y.journal
        moved x y x_found moves on so = rw (moves.base on, moves.journal) (by moves.what)
          where
            erred : (entry : Option Entry) → Errs (sites_after es) x y entry → ErrorsAreSo (Says x.base) (with_entry entry x.journal)
            erred entry f = rw f.is (
              fails es x f.origin f.position f.txn f.failure x_found on f.comes
                  (subst (λ (s : Schema). effect_on s f.origin.here.site f.txn (content_of x) ≡ Err f.failure) (well_after es x.here.site x x_found).of_schema f.fails),
              so,
            )

            by : Happened (sites_after es) x y moves.entry → ErrorsAreSo (Says x.base) (with_entry moves.entry x.journal)
            by (Stayed s) = plain_so (Says x.base) moves.entry x.journal (s.plain on) so
            by (Erred f) = erred moves.entry f
            by (Committed c) = plain_so (Says x.base) moves.entry x.journal c.plain so
            by (Applied a) = plain_so (Says x.base) moves.entry x.journal a.plain so

        joined_errors : (joins : SiteName) (source : SiteState) → ((site : SiteName) (x : SiteState) → site_of site (sites_after es) ≡ Some x → x.here.is_master ≡ true → ErrorsAreSo (Says x.base) x.journal) → site_of site (with_joined (sites_after es) source joins) ≡ Some w → ErrorsAreSo (Says w.base) w.journal
        joined_errors joins source before there =
            by_old (site_of site (sites_after es)) refl (sym (site_of-joined site (site_open joins) (sites_after es) (copied (sites_after es) source joins) (λ z. refl)) ∙ there)
          where
            new_one : (b : Bool) → cond b (Some (copied (sites_after es) source joins)) None ≡ Some w → ErrorsAreSo (Says w.base) w.journal
            new_one true at = let same : copied (sites_after es) source joins ≡ w = cc in rw (sym (ap (λ (z : SiteState). z.journal) same) ∙ (copied_is_new (sites_after es) source joins).journal) tt
            new_one false at = cc

            by_old : (o : Option SiteState) → site_of site (sites_after es) ≡ o → found_or (site_of site (copied (sites_after es) source joins ∷ [])) (option_map (site_open joins) o) ≡ Some w → ErrorsAreSo (Says w.base) w.journal
            by_old None none at = new_one (is_same_site (copied (sites_after es) source joins).here.site site) at
            by_old (Some z) is_there at =
                let same : site_open joins z ≡ w = cc in
                subst (λ (v : SiteState). ErrorsAreSo (Says v.base) v.journal) same (before site z is_there (ap (λ (v : SiteState). v.here.is_master) same ∙ master))

        go : Turns (sites_after es) (sites_after (e ∷ es)) → ((site : SiteName) (x : SiteState) → site_of site (sites_after es) ≡ Some x → x.here.is_master ≡ true → ErrorsAreSo (Says x.base) x.journal)
            → site_of site (sites_after (e ∷ es)) ≡ Some w → ErrorsAreSo (Says w.base) w.journal
        go (turning.Same same) before there = before site w (subst (λ (xs : List SiteState). site_of site xs ≡ Some w) same there) master
        go (turning.One x y x_found y_found rest moves) before there = by (is_same_site x.here.site site) refl
          where
            by : (b : Bool) → is_same_site x.here.site site ≡ b → ErrorsAreSo (Says w.base) w.journal
            by true same =
                let names : x.here.site ≡ site = is_same_site-true x.here.site site same in
                let both : Some w ≡ Some y = sym there ∙ ap (λ (n : SiteName). site_of n (sites_after (e ∷ es))) (sym names) ∙ y_found in
                let one : w ≡ y = cc in
                let on : x.here.is_master ≡ true = sym (ap (λ (here : Here). here.is_master) moves.here) ∙ ap (λ (v : SiteState). v.here.is_master) (sym one) ∙ master in
                subst (λ (v : SiteState). ErrorsAreSo (Says v.base) v.journal) (sym one) (moved x y x_found moves on (before x.here.site x x_found on))
            by false other =
                let apart : site ≢ x.here.site = λ names. true≢false (sym (is_same_site-refl site) ∙ ap (λ (n : SiteName). is_same_site n site) names ∙ other) in
                before site w (sym (rest site apart) ∙ there) master
        go (turning.Joins joins source absent source_found may same) before there = joined_errors joins source before (subst (λ (xs : List SiteState). site_of site xs ≡ Some w) same there)

    pub failures_after : (events : List Event) (site : SiteName) (x : SiteState) → site_of site (sites_after events) ≡ Some x → x.here.is_master ≡ true
        → ErrorsAreSo (Says x.base) x.journal × RefusalsAreSo (Says x.base) x
    failures_after events site x found master = (
      errors_after events site x found master,
      λ origin position e failure stands gives.
          let comes = error_comes (sites_after events) x (order_after events site x found) origin position e stands in
          fails events x comes.0 e.position e.txn failure (found_again site (sites_after events) x found) master comes.2
          (subst (λ (s : Schema). effect_on s comes.0.here.site e.txn (content_of x) ≡ Err failure) (well_after events site x found).of_schema
          (ap (λ (n : SiteName). effect_on x.schema n e.txn (content_of x)) comes.1 ∙ gives)),
    )
