-- In all that sites queue one pair of a stamp and a site stands for one list of values.
use Rattle.std.proofs.Common.{◌≡◌, ℕ, ◌<◌, Bool, List, [], ◌∷◌, true, Some, refl, sym, ap, ◌∙◌, subst, pos}
use Rattle.rep_values.specs.declared.name.SiteName.{SiteName}
use Rattle.rep_values.specs.declared.value.Value.TheVariants.{Num, Words}
use Rattle.rep_schema.specs.declared.schema.Schema.{Schema}
use Rattle.rep_schema.specs.Tables.{Cells}
use Rattle.rep_schema.specs.Groups.{group_columns_of}
use Rattle.rep_schema.proofs.ValuesAt.{are_same-Decides}
use Rattle.schema_rules.specs.declared.forms.Form.TheVariants as form
use Rattle.rep_calls.specs.declared.call.Txn.{Txn}
use Rattle.txn_effects.specs.declared.local.Here.{Here}
use Rattle.txn_effects.specs.Convergent.{is_convergent}
use Rattle.site_state.specs.declared.entry.Entry.{Entry}
use Rattle.local_txn.specs.Laws.{StampsOfABlockRise}
use Rattle.site_state.specs.State.{SiteState}
use Rattle.rep_lists.specs.Counting.{count_where}
use Rattle.site_state.specs.Streams.{queue_of}
use Rattle.site_state.proofs.FittingSites.{one_has}
use Rattle.site_events.specs.Cluster.{Cluster, site_of}
use Rattle.site_events.specs.Events.{Event, run}
use Rattle.event_laws.specs.Marks.{journal_in}
use Rattle.event_laws.specs.Orders.{IsInOrder}
use Rattle.event_laws.specs.Fitting.{IsFitStart}
use Rattle.event_laws.specs.Starts.{IsNewSite}
use Rattle.event_laws.proofs.Sites.{found_all, found_again, found_name, found_changed}
use Rattle.event_laws.proofs.NewSites.{copied_is_new}
use Rattle.event_laws.proofs.RunInvariants.{HoldsAt}
use Rattle.event_laws.proofs.MarkLaws.{IsOfSchema, run_schema}
use Rattle.event_laws.proofs.MarkLaws as marks
use Rattle.event_laws.proofs.OrderLaws.{earlier_comes_first}
use Rattle.event_laws.proofs.FittingSites.{every_site_fits}
use Rattle.rep_laws.specs.GroupForms.{form_at}
use Rattle.convergence_laws.specs.Laws.{BlocksKeepForms}
use Rattle.convergence_laws.specs.Collections.{Among}
use Rattle.convergence_laws.proofs.Moves.{DecisionLaws}
use Rattle.convergence_laws.proofs.EventsKeepForms as keeping
use Rattle.convergence_laws.specs.Pairs.{made_in, own_calls, pair_in, has_pair, IsMadeOnce, PairsTellValues}
use Rattle.convergence_laws.proofs.Counting.{count_where-among, same_by_count}
use Rattle.convergence_laws.proofs.Turns.{Cause, Becomes, Stays, Turns, Joins, happens_becomes}
use Rattle.convergence_laws.proofs.SitesAt.{Each, turns_here, at_each, joined_each}
use Rattle.convergence_laws.proofs.PairsMadeOnce.{run_once}
use Rattle.convergence_laws.proofs.Told.{IsOwnValue, TxnIsTold, told_calls, all_told_later, becomes_more, QueueIsTold, Known, turn_queues}

-- the laws of lower crates that stand behind a run
pub record Lower : Type 0 where
  pub decides : DecisionLaws
  pub blocks : BlocksKeepForms
  pub rising : StampsOfABlockRise

module _ (test : SiteName → Bool) (lower : Lower) (schema : Schema) (start : Cluster) (is : IsFitStart schema start)
    (senders : (events : List Event) (name : SiteName) (x : SiteState) → site_of name (run events start).sites ≡ Some x → (origin : SiteName) (position number : ℕ) (txn : Txn) (e : Entry) → Cause x origin position number txn e → test origin ≡ true) where
  abbrev sites_after : List Event → List SiteState
  sites_after events = (run events start).sites

  pub of_schema : (events : List Event) (name : SiteName) (x : SiteState) → site_of name (sites_after events) ≡ Some x → x.schema ≡ schema
  of_schema events name x found = found_all (IsOfSchema schema) name (sites_after events) x (run_schema schema start events is.start) found

  -- what is known of a site and of what an event makes of it
  pub known : (e : Event) (es : List Event) (name : SiteName) (x y : SiteState) → site_of name (sites_after es) ≡ Some x → site_of name (sites_after (e ∷ es)) ≡ Some y
      → Known test schema is.sound lower.decides (sites_after es) (sites_after (e ∷ es)) name x y
  known e es name x y found found_later = record {
    found = found;
    found_later = found_later;
    of_schema = of_schema es name x found;
    fits = every_site_fits schema start es is name x found;
    fits_later = every_site_fits schema start (e ∷ es) is name y found_later;
    keeps_later = (keeping.run_holds schema lower.decides lower.blocks (e ∷ es) start is).sites name y found_later;
    keeps = (keeping.run_holds schema lower.decides lower.blocks es start is).sites name x found;
    holds = subst (HoldsAt (sites_after es) name) found ((marks.run_holds schema start es is.start).each name);
    order = subst (λ o. IsInOrder (sites_after es) name (journal_in o)) found (earlier_comes_first schema start es is.start name);
    later = becomes_more (sites_after es) (sites_after (e ∷ es)) (happens_becomes e (run es start));
    senders = senders es name x found;
  }

  abbrev IsTold : List SiteState → SiteState → Type 0
  IsTold sites x = test x.here.site ≡ true → QueueIsTold test schema is.sound lower.decides sites x

  becomes_told : (sites others : List SiteState) → Becomes sites others
      → ((name : SiteName) (x y : SiteState) → site_of name sites ≡ Some x → site_of name others ≡ Some y → Known test schema is.sound lower.decides sites others name x y)
      → Each (IsTold sites) sites → Each (IsTold others) others
  becomes_told sites _ Stays knows all = all
  becomes_told sites others (Turns name change turns) knows all =
      at_each (IsTold others) name change sites (turns_here change turns)
      (λ x found told passes.
      let k = knows name x (change x) found (found_changed name change sites x (turns_here change turns) found) in
      let passed : test x.here.site ≡ true = subst (λ (h : Here). test h.site ≡ true) (turns_here change turns x) passes in
      let q = turn_queues test schema is.sound lower.decides sites others name x (change x) k (subst (λ (n : SiteName). test n ≡ true) (found_name name sites x found) passed) all (turns x) in
      rw q.queue (one_has (TxnIsTold test schema others) q.queues q.txn (queue_of x) q.told (told passed)))
      (λ n x found passes. all_told_later test schema sites others (queue_of x) (becomes_more sites others (Turns name change turns)) (all n x found passes))
  becomes_told sites others (Joins site from source absent found may) knows all =
      joined_each (IsTold others) sites source site (λ x told. told) (λ passes. rw (copied_is_new sites source site).journal tt)
      (λ n x found_x passes. all_told_later test schema sites others (queue_of x) (becomes_more sites others (Joins site from source absent found may)) (all n x found_x passes))

  pub run_told : (events : List Event) → Each (IsTold (sites_after events)) (sites_after events)
  run_told [] = λ name x found passes. rw (found_all (IsNewSite schema) name start.sites x is.start.sites found).journal tt
  run_told (e ∷ es) = becomes_told (sites_after es) (sites_after (e ∷ es)) (happens_becomes e (run es start)) (known e es) (run_told es)

  -- ---- own values

  module _ (events : List Event) (table group stamp own : ℕ) (key : Cells) (convergent : is_convergent schema table ≡ true) (has : form_at schema table group ≡ Some (form.Latest stamp own)) where
    abbrev places : List ℕ
    places = group_columns_of schema table group

    own_pair : (v : Cells) → has_pair places stamp own (pair_in places stamp own v) v ≡ true
    own_pair v = (are_same-Decides (pair_in places stamp own v) (pair_in places stamp own v)).1 refl

    once : (pair : Cells) (name : SiteName) (x : SiteState) → site_of name (sites_after events) ≡ Some x
        → IsMadeOnce x.here.site 0 x.stamps.last pair (count_where (has_pair places stamp own pair) (made_in schema table key group (own_calls x.journal)))
    once pair name x found = run_once schema is.sound lower.rising start is events name x found table group stamp own key pair convergent has

    -- an own value has the site's name and a stamp above 0
    pub made_own : (v : Cells) (o : IsOwnValue test schema (sites_after events) table key group v) → (n : ℕ) × (pair_in places stamp own v ≡ Num (pos n) ∷ Words o.site.here.site.0 ∷ []) × (0 < n)
    made_own v o =
        let m = (once (pair_in places stamp own v) o.name o.site o.found).maker (count_where-among (has_pair places stamp own (pair_in places stamp own v)) (made_in schema table key group (own_calls o.site.journal)) v o.among (own_pair v)) in
        (m.0, m.1, m.2)

    same_site : (a b : SiteName) (n m : ℕ) → (Num (pos n) ∷ Words a.0 ∷ []) ≡ (Num (pos m) ∷ Words b.0 ∷ []) → a ≡ b
    same_site a b n m e = let names : a.0 ≡ b.0 = cc in ap (λ (t : List ℕ). record { 0 = t }) names

    -- two own values with one pair are the same
    pub own_same : (v w : Cells) → IsOwnValue test schema (sites_after events) table key group v → IsOwnValue test schema (sites_after events) table key group w
        → pair_in places stamp own v ≡ pair_in places stamp own w → v ≡ w
    own_same v w a b pair =
        let m = made_own v a in
        let n = made_own w b in
        let names : a.site.here.site ≡ b.site.here.site = same_site a.site.here.site b.site.here.site m.0 n.0 (sym m.1 ∙ pair ∙ n.1) in
        let sites : Some a.site ≡ Some b.site = sym (found_again a.name (sites_after events) a.site a.found) ∙ ap (λ s. site_of s (sites_after events)) names ∙ found_again b.name (sites_after events) b.site b.found in
        let is_site : b.site ≡ a.site = some_same b.site a.site (sym sites) in
        same_by_count (has_pair places stamp own (pair_in places stamp own v)) (made_in schema table key group (own_calls a.site.journal)) v w (once (pair_in places stamp own v) a.name a.site a.found).once
        a.among (subst (λ (s : SiteState). Among w (made_in schema table key group (own_calls s.journal))) is_site b.among) (own_pair v)
        (subst (λ p. has_pair places stamp own p w ≡ true) (sym pair) (own_pair w))
      where
        some_same : (x y : SiteState) → Some x ≡ Some y → x ≡ y
        some_same x y e = cc

-- any name
abbrev any_site : SiteName → Bool
any_site name = true

pub pairs_tell_values : Lower → PairsTellValues
pairs_tell_values lower schema start events is one other x y found there master other_master table group stamp own key v w convergent has in_x in_y pair =
    own_same any_site lower schema start is any_sender events table group stamp own key convergent has v w
    (told_calls any_site schema (run events start).sites (queue_of x) (run_told any_site lower schema start is any_sender events one x found refl) table group stamp own key v convergent has in_x)
    (told_calls any_site schema (run events start).sites (queue_of y) (run_told any_site lower schema start is any_sender events other y there refl) table group stamp own key w convergent has in_y) pair
  where
    any_sender : (events : List Event) (name : SiteName) (x : SiteState) → site_of name (run events start).sites ≡ Some x → (origin : SiteName) (position number : ℕ) (txn : Txn) (e : Entry) → Cause x origin position number txn e → true ≡ true
    any_sender events name x found origin position number txn e cause = refl
