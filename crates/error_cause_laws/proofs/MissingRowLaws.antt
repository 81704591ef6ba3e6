-- After every list of events the insert of each missing row is lost: of each that an error, or a refused execution, says isn't
-- there.
use Rattle.std.proofs.Common.{◌≡◌, ℕ, Bool, true, false, List, [], ◌∷◌, Some, Err, refl, sym, ap, ◌∙◌, subst}
use mathlib.Core.Bool.{true≢false}
use Rattle.std.specs.Prelude.{◌||◌, Option}
use Rattle.rep_values.specs.declared.name.SiteName.{SiteName}
use Rattle.rep_values.specs.declared.refusal.ApplyError.{ApplyError}
use Rattle.rep_schema.specs.declared.schema.Schema.{Schema}
use Rattle.rep_calls.specs.declared.call.Txn.{Txn}
use Rattle.conflict_detect.specs.Fits.{table_of}
use Rattle.conflict_detect.specs.KeysNamed.{key_named}
use Rattle.txn_effects.specs.Contents.{effect_on}
use Rattle.local_txn.specs.Laws.{StampsOfABlockRise}
use Rattle.txn_effects.specs.declared.local.Here.{Here}
use Rattle.deferred_queue.specs.Streams.{at_position}
use Rattle.site_state.specs.declared.entry.Entry.{Entry}
use Rattle.site_state.specs.declared.entry.Entry.TheVariants.{Local, Done, Error, Executed, Dropped, Refreshed}
use Rattle.site_state.specs.State.{SiteState}
use Rattle.site_state.specs.Journal.{error_at}
use Rattle.site_state.specs.Contents.{content_of}
use Rattle.site_state.specs.Streams.{stream_to}
use Rattle.site_state.proofs.Stepping.{IsTaken, with_entry, error_found}
use Rattle.site_events.specs.Cluster.{site_of}
use Rattle.site_events.specs.Events.{Event, run}
use Rattle.event_laws.specs.Orders.{IsInOrder}
use Rattle.event_laws.specs.Starts.{IsNewSite}
use Rattle.event_laws.proofs.Sites.{found_all, found_name}
use Rattle.event_laws.proofs.NewSites.{copied_is_new}
use Rattle.convergence_laws.specs.Laws.{BlocksKeepForms}
use Rattle.convergence_laws.proofs.Moves.{DecisionLaws}
use Rattle.convergence_laws.proofs.SitesAt.{WasJoined, was_joined}
use Rattle.convergence_laws.proofs.SitesAt as sites_at
use Rattle.error_cause_laws.specs.Excuses.{OfFailures, ErrorsAreSo, RefusalsAreSo}
use Rattle.error_cause_laws.proofs.Moving.{ComesFrom, Moves, Happened, Stayed, Erred, Committed, Applied, Errs, error_comes}
use Rattle.error_cause_laws.proofs.Turning.{Turns}
use Rattle.error_cause_laws.proofs.Turning as turning
use Rattle.error_cause_laws.proofs.Running.{turns, well_after, plain_so, order_after}
use Rattle.error_cause_laws.specs.LostInserts.{insert_is_lost, dropped_before, NoRowIsOfALostInsert}
use Rattle.error_cause_laws.specs.LostInsertLaws.{MissingRowsAreOfLostInserts, MissingRowsAreOfInsertsInError}
use Rattle.error_cause_laws.proofs.OneRow.{Was, was, Changed, Other}
use Rattle.error_cause_laws.proofs.BeforeJoins.{not_dropped}
use Rattle.error_cause_laws.proofs.TriedPositions.{follows_now, taken_tried, error_tried}
use Rattle.error_cause_laws.proofs.RowsOfSnapshotSites.{sent_needs}
use Rattle.error_cause_laws.proofs.LostRows.{Beginning, setting, Sites, Says, SnapshotsNeed, fails_so}

-- what is said of each error goes on to be said
errors_map : (Said Then : OfFailures) → ((behind : List Entry) (number : ℕ) (why : ApplyError) (txn : Txn) → Said behind number why txn → Then behind number why txn) → (journal : List Entry) → ErrorsAreSo Said journal → ErrorsAreSo Then journal
errors_map Said Then implies [] so = tt
errors_map Said Then implies (Local number txn ∷ es) so = (tt, errors_map Said Then implies es so.1)
errors_map Said Then implies (Done origin position onward txn ∷ es) so = (tt, errors_map Said Then implies es so.1)
errors_map Said Then implies (Error origin position call why txn ∷ es) so = (implies es call why txn so.0, errors_map Said Then implies es so.1)
errors_map Said Then implies (Executed origin position onward txn ∷ es) so = (tt, errors_map Said Then implies es so.1)
errors_map Said Then implies (Dropped origin position ∷ es) so = (tt, errors_map Said Then implies es so.1)
errors_map Said Then implies (Refreshed moment ∷ es) so = (tt, errors_map Said Then implies es so.1)

or_more : (a b c : Bool) → (b ≡ true → c ≡ true) → (a || b) ≡ true → (a || c) ≡ true
or_more true b c implies is = refl
or_more false b c implies is = implies is

module _ (r : Beginning) (snapshots : SnapshotsNeed r) where
  abbrev After : List Event → List SiteState
  After events = Sites r events

  says_later : (e : Event) (events : List Event) (site : SiteName) (x : SiteState) → site_of site (After events) ≡ Some x → (behind : List Entry) (number : ℕ) (why : ApplyError) (txn : Txn)
      → Says r events site behind number why txn → Says r (e ∷ events) site behind number why txn
  says_later e events site x found behind number why txn says no_row call at convergent =
      or_more (insert_is_lost r.schema (table_of call) (key_named r.schema call) behind) (dropped_before r.schema (table_of call) (key_named r.schema call) events r.start site)
      (dropped_before r.schema (table_of call) (key_named r.schema call) (e ∷ events) r.start site) (λ was. rw found was) (says no_row call at convergent)

  abbrev AllSaid : List Event → Type 0
  AllSaid events = (site : SiteName) (x : SiteState) → site_of site (After events) ≡ Some x → x.here.is_master ≡ true → ErrorsAreSo (Says r events site) x.journal

  -- ---- one site changes

  module _ (e : Event) (events : List Event) (x y : SiteState) (x_found : site_of x.here.site (After events) ≡ Some x) (y_found : site_of x.here.site (After (e ∷ events)) ≡ Some y) (moves : Moves (After events) x y)
      (on : x.here.is_master ≡ true) where
    -- a transaction that fails now
    failed : (f : Errs (After events) x y moves.entry) → Says r events x.here.site x.journal f.failure.call f.failure.error f.txn
    failed f =
        fails_so r snapshots events x.here.site x f.origin f.position f.txn f.failure x_found on f.comes.there f.comes.sent
        (λ table convergent key. taken_tried (setting r table convergent key) events x.here.site x f.origin f.position f.txn x_found on f.comes.there taken)
        (subst (λ (s : Schema). effect_on s f.origin.here.site f.txn (content_of x) ≡ Err f.failure) (well_after r.schema r.decides r.rises r.blocks r.start r.fit r.meshed events x.here.site x x_found).of_schema f.fails)
      where
        taken : IsTaken x f.origin.here.site f.position f.txn
        taken = follows_now e (run events r.start) x.here.site x y x_found (Error f.origin.here.site f.position f.failure.call f.failure.error f.txn) (moves.journal ∙ ap (λ (n : Option Entry). with_entry n x.journal) f.is) y_found

    erred : (entry : Option Entry) → (f : Errs (After events) x y moves.entry) → entry ≡ Some (Error f.origin.here.site f.position f.failure.call f.failure.error f.txn) → ErrorsAreSo (Says r (e ∷ events) x.here.site) x.journal
        → ErrorsAreSo (Says r (e ∷ events) x.here.site) (with_entry entry x.journal)
    erred entry f is so =
        subst (λ (n : Option Entry). ErrorsAreSo (Says r (e ∷ events) x.here.site) (with_entry n x.journal)) (sym is)
        (says_later e events x.here.site x x_found x.journal f.failure.call f.failure.error f.txn (failed f), so)

    changed_said : ErrorsAreSo (Says r events x.here.site) x.journal → ErrorsAreSo (Says r (e ∷ events) x.here.site) y.journal
    changed_said before = subst (ErrorsAreSo (Says r (e ∷ events) x.here.site)) (sym moves.journal) (go moves.what)
      where
        so : ErrorsAreSo (Says r (e ∷ events) x.here.site) x.journal
        so = errors_map (Says r events x.here.site) (Says r (e ∷ events) x.here.site) (says_later e events x.here.site x x_found) x.journal before

        go : Happened (After events) x y moves.entry → ErrorsAreSo (Says r (e ∷ events) x.here.site) (with_entry moves.entry x.journal)
        go (Stayed s) = plain_so (Says r (e ∷ events) x.here.site) moves.entry x.journal (s.plain on) so
        go (Erred f) = erred moves.entry f f.is so
        go (Committed c) = plain_so (Says r (e ∷ events) x.here.site) moves.entry x.journal c.plain so
        go (Applied a) = plain_so (Says r (e ∷ events) x.here.site) moves.entry x.journal a.plain so

  errors_after : (events : List Event) → AllSaid events
  errors_after [] = λ site x found on. rw (found_all (IsNewSite r.schema) site r.start.sites x r.fit.start.sites found).journal tt
  errors_after (e ∷ es) = go (turns r.schema r.decides r.rises r.blocks r.start r.fit r.meshed e es) (errors_after es)
    where
      still : (site : SiteName) (z : SiteState) → site_of site (After es) ≡ Some z → ErrorsAreSo (Says r es site) z.journal → ErrorsAreSo (Says r (e ∷ es) site) z.journal
      still site z found so = errors_map (Says r es site) (Says r (e ∷ es) site) (says_later e es site z found) z.journal so

      go : Turns (After es) (After (e ∷ es)) → AllSaid es → AllSaid (e ∷ es)
      go (turning.Same same) before site z found on =
          let there : site_of site (After es) ≡ Some z = ap (site_of site) (sym same) ∙ found in
          still site z there (before site z there on)
      go (turning.One x y x_found y_found rest moves) before site z found on = by (was (After es) (After (e ∷ es)) x y x_found y_found rest site z found)
        where
          by : Was (After es) (After (e ∷ es)) x y x_found y_found rest site z → ErrorsAreSo (Says r (e ∷ es) site) z.journal
          by (Other apart there) = still site z there (before site z there on)
          by (Changed own same) =
              let master : x.here.is_master ≡ true = ap (λ (h : Here). h.is_master) (sym moves.here) ∙ ap (λ (v : SiteState). v.here.is_master) (sym same) ∙ on in
              subst (λ (n : SiteName). ErrorsAreSo (Says r (e ∷ es) n) z.journal) (sym own)
              (subst (λ (v : SiteState). ErrorsAreSo (Says r (e ∷ es) x.here.site) v.journal) (sym same) (changed_said e es x y x_found y_found moves master (before x.here.site x x_found master)))
      go (turning.Joins joins source absent source_found may same) before site z found on = by z on (was_joined (After es) source joins site z (ap (site_of site) (sym same) ∙ found))
        where
          by : (w : SiteState) → w.here.is_master ≡ true → WasJoined (After es) source joins site w → ErrorsAreSo (Says r (e ∷ es) site) w.journal
          by _ on (sites_at.Old v there) = still site v there (before site v there on)
          by _ on (sites_at.New named) = rw (copied_is_new (After es) source joins).journal tt

  refusals_after : (events : List Event) (site : SiteName) (x : SiteState) → site_of site (After events) ≡ Some x → x.here.is_master ≡ true → RefusalsAreSo (Says r events site) x
  refusals_after events site x found on origin position e failure stands gives = go comes.0 comes.1 comes.2
    where
      order : IsInOrder (After events) x.here.site x.journal
      order = order_after r.schema r.decides r.rises r.blocks r.start r.fit r.meshed events site x found

      comes : (o : SiteState) × (o.here.site ≡ e.origin) × ComesFrom (After events) x o e.position e.txn
      comes = error_comes (After events) x order origin position e stands

      named : x.here.site ≡ site
      named = found_name site (After events) x found

      place : (e.origin ≡ origin) × (e.position ≡ position)
      place = error_found origin position x.journal e stands

      go : (o : SiteState) → o.here.site ≡ e.origin → ComesFrom (After events) x o e.position e.txn → Says r events site x.journal failure.call failure.error e.txn
      go o own from =
          fails_so r snapshots events site x o e.position e.txn failure found on from.there sent
          (λ table convergent key. error_tried (setting r table convergent key) events site x o e.position e.txn found on from.there (subst (λ (n : SiteName). IsInOrder (After events) n x.journal) named order) e here refl sent)
          (subst (λ (s : Schema). effect_on s o.here.site e.txn (content_of x) ≡ Err failure) (well_after r.schema r.decides r.rises r.blocks r.start r.fit r.meshed events site x found).of_schema
          (ap (λ (n : SiteName). effect_on x.schema n e.txn (content_of x)) own ∙ gives))
        where
          sent : at_position e.position (stream_to site o) ≡ Some e.txn
          sent = subst (λ (n : SiteName). at_position e.position (stream_to n o) ≡ Some e.txn) named from.sent

          here : error_at o.here.site e.position x.journal ≡ Some e
          here = ap (λ (n : SiteName). error_at n e.position x.journal) (own ∙ place.0) ∙ ap (λ p. error_at origin p x.journal) place.1 ∙ stands

-- ---- the laws

beginning_snapshots : (r : Beginning) → SnapshotsNeed r
beginning_snapshots r events site x o position txn found on there off sent table convergent key needs = sent_needs (setting r table convergent key) events site x o position txn found on there off sent needs

pub missing_rows_are_of_lost_inserts : DecisionLaws → StampsOfABlockRise → BlocksKeepForms → MissingRowsAreOfLostInserts
missing_rows_are_of_lost_inserts decides rises blocks schema start events fit meshed shared site x found on =
    let r : Beginning = record { schema = schema; decides = decides; rises = rises; blocks = blocks; start = start; fit = fit; meshed = meshed; shared = shared } in
    (errors_after r (beginning_snapshots r) events site x found on, refusals_after r (beginning_snapshots r) events site x found on)

-- ---- at a master that was there from the start

pub missing_rows_are_of_inserts_in_error : DecisionLaws → StampsOfABlockRise → BlocksKeepForms → MissingRowsAreOfInsertsInError
missing_rows_are_of_inserts_in_error decides rises blocks schema start events fit meshed shared site x found on early =
    let so = missing_rows_are_of_lost_inserts decides rises blocks schema start events fit meshed shared site x found on in (
      errors_map (NoRowIsOfALostInsert schema (λ table key. dropped_before schema table key events start site)) (NoRowIsOfALostInsert schema (λ table key. false)) weaker x.journal so.0,
      λ origin position e failure stands gives. weaker x.journal failure.call failure.error e.txn (so.1 origin position e failure stands gives),
    )
  where
    r : Beginning
    r = record { schema = schema; decides = decides; rises = rises; blocks = blocks; start = start; fit = fit; meshed = meshed; shared = shared }

    weaker : (behind : List Entry) (number : ℕ) (why : ApplyError) (txn : Txn) → NoRowIsOfALostInsert schema (λ table key. dropped_before schema table key events start site) behind number why txn
        → NoRowIsOfALostInsert schema (λ table key. false) behind number why txn
    weaker behind number why txn says no_row call at convergent =
        or_more (insert_is_lost schema (table_of call) (key_named schema call) behind) (dropped_before schema (table_of call) (key_named schema call) events start site) false
        (λ was. absurd (true≢false (sym was ∙ not_dropped (setting r (table_of call) convergent (key_named schema call)) events site x found early))) (says no_row call at convergent)
