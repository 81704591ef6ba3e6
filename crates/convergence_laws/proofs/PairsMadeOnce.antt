-- A site makes each pair of a stamp and its name once, whatever happens.
use Rattle.std.proofs.Common.{◌≡◌, ℕ, List, [], ◌∷◌, refl, sym, ◌∙◌, ap, subst, arith}
use Rattle.std.specs.List.{AllByRecursion}
use Rattle.rep_values.specs.declared.name.SiteName.{SiteName}
use Rattle.rep_schema.specs.declared.schema.Schema.{Schema}
use Rattle.rep_calls.specs.declared.call.Txn.{Txn}
use Rattle.local_txn.specs.Laws.{StampsOfABlockRise}
use Rattle.rep_laws.specs.Commuting.{IsSound}
use Rattle.site_state.specs.declared.entry.Entry.{Entry}
use Rattle.site_state.specs.declared.entry.Entry.TheVariants.{Local, Done, Error, Executed, Dropped, Refreshed}
use Rattle.site_state.specs.State.{SiteState}
use Rattle.site_state.specs.Contents.{tables_of, txn_of}
use Rattle.site_state.specs.Fits.{EntryFits}
use Rattle.site_events.specs.Cluster.{Cluster}
use Rattle.site_events.specs.Joins.{copied}
use Rattle.site_events.specs.Events.{Event, run, happens}
use Rattle.event_laws.specs.Starts.{IsNewSite}
use Rattle.event_laws.specs.Fitting.{IsFitStart, FitsHere}
use Rattle.event_laws.proofs.Sites.{found_all, found_changed}
use Rattle.event_laws.proofs.MarkLaws.{IsOfSchema, run_schema}
use Rattle.event_laws.proofs.NewSites.{copied_is_new}
use Rattle.event_laws.proofs.FittingSites.{every_site_fits}
use Rattle.convergence_laws.specs.Pairs.{own_calls, AreMadeOnce, PairsAreMadeOnce}
use Rattle.convergence_laws.proofs.OwnPairs.{block_makes}
use Rattle.convergence_laws.proofs.Turns.{Turn, Same, Own, Did, Left, Renewed, Cause, Now, Late, IsLeft, Becomes, Stays, Turns, Joins, happens_becomes}
use Rattle.convergence_laws.proofs.SitesAt.{Each, turns_here, at_each, joined_each}

-- what another transaction than the site's own adds
pub own_calls-did : (x : SiteState) (origin : SiteName) (position number : ℕ) (txn : Txn) (e : Entry) (es : List Entry) → Cause x origin position number txn e → own_calls (e ∷ es) ≡ own_calls es
own_calls-did x origin position number txn _ es (Now is) = refl
own_calls-did x origin position number txn _ es (Late e at is) = refl

pub own_calls-left : (e : Entry) (es : List Entry) → IsLeft e → own_calls (e ∷ es) ≡ own_calls es
own_calls-left (Local number txn) es left = absurd left
own_calls-left (Done origin position onward txn) es left = absurd left
own_calls-left (Error origin position call error txn) es left = refl
own_calls-left (Executed origin position onward txn) es left = absurd left
own_calls-left (Dropped origin position) es left = refl
own_calls-left (Refreshed moment) es left = absurd left

nothing_made_yet : (schema : Schema) (site : SiteName) (high : ℕ) → AreMadeOnce schema site 0 high []
nothing_made_yet schema site high table group stamp own key pair convergent has = record { once = omega arith; maker = λ le. absurd (omega (arith, le)) }

module _ (schema : Schema) (sound : IsSound schema) (rising : StampsOfABlockRise) where
  abbrev IsOnce : SiteState → Type 0
  IsOnce x = AreMadeOnce schema x.here.site 0 x.stamps.last (own_calls x.journal)

  same_once : (x y : SiteState) → y.here ≡ x.here → y.stamps.last ≡ x.stamps.last → own_calls y.journal ≡ own_calls x.journal → IsOnce x → IsOnce y
  same_once x y here last own once = rw (here, last, own) once

  turn_once : (x y : SiteState) → x.schema ≡ schema → FitsHere x → FitsHere y → Turn x y → IsOnce x → IsOnce y
  turn_once x y same fit fit_after (Same f base journal last) once = same_once x y f.here last (ap own_calls journal) once
  turn_once x y same fit fit_after (Own f base number statements block is journal last) once =
      let rises = rising x.schema x.here x.stamps statements (tables_of x) block (subst IsSound (sym same) sound).shape fit.content.tables is in
      let fits : AllByRecursion (EntryFits schema) (Local number (txn_of x.schema block.changes) ∷ x.journal) = subst (λ (s : Schema). AllByRecursion (EntryFits s) (Local number (txn_of x.schema block.changes) ∷ x.journal)) (f.schema ∙ same) (rw journal at fit_after.journal) in
      rw (f.here, last, journal, same)
      (block_makes schema sound x.here.site x.stamps.last block.stamps.last (own_calls x.journal) block.changes once (rw same at rises.rise) (rw same at fits.0.calls))
  turn_once x y same fit fit_after (Did f base e origin position txn effect cause gives journal last) once =
      same_once x y f.here last (ap own_calls journal ∙ own_calls-did x origin position _ txn e x.journal cause) once
  turn_once x y same fit fit_after (Left f base e left follows journal last) once = same_once x y f.here last (ap own_calls journal ∙ own_calls-left e x.journal left) once
  turn_once x y same fit fit_after (Renewed f plain moment journal last) once = same_once x y f.here last (ap own_calls journal) once

  new_once : (s : Schema) (x : SiteState) → IsNewSite s x → IsOnce x
  new_once s x new = rw new.journal (nothing_made_yet schema x.here.site x.stamps.last)

  becomes_once : (sites others : List SiteState) → Becomes sites others → Each (λ x. x.schema ≡ schema) sites → Each FitsHere sites → Each FitsHere others → Each IsOnce sites → Each IsOnce others
  becomes_once sites _ Stays same fit fit_after once = once
  becomes_once sites _ (Turns name change turns) same fit fit_after once =
      at_each IsOnce name change sites (turns_here change turns)
      (λ x found. turn_once x (change x) (same name x found) (fit name x found) (fit_after name (change x) (found_changed name change sites x (turns_here change turns) found)) (turns x)) once
  becomes_once sites _ (Joins site from source absent found may) same fit fit_after once =
      joined_each IsOnce sites source site (λ x h. h) (new_once source.schema (copied sites source site) (copied_is_new sites source site)) once

  pub run_once : (start : Cluster) → IsFitStart schema start → (events : List Event) → Each IsOnce (run events start).sites
  run_once start is [] = λ name x found. new_once schema x (found_all (IsNewSite schema) name start.sites x is.start.sites found)
  run_once start is (e ∷ es) =
      becomes_once (run es start).sites (happens e (run es start)).sites (happens_becomes e (run es start)) (λ name x found. found_all (IsOfSchema schema) name (run es start).sites x (run_schema schema start es is.start) found)
      (λ name x found. every_site_fits schema start es is name x found) (λ name x found. every_site_fits schema start (e ∷ es) is name x found) (run_once start is es)

pub pairs_are_made_once : StampsOfABlockRise → PairsAreMadeOnce
pairs_are_made_once rising schema start events is site x found = run_once schema is.sound rising start is events site x found
