-- At each master the latest values of a row tell apart: a declared site made each of them once, or they were there before any event.
use Rattle.std.proofs.Common.{◌≡◌, ℕ, ◌<◌, true, List, [], ◌∷◌, map, Some, pos, sym, ap, ◌∙◌, subst, inl, inr, arith}
use Rattle.std.specs.declared.cmp.Ordering.TheVariants.{Equal}
use Rattle.rep_values.specs.declared.name.SiteName.{SiteName}
use Rattle.rep_values.specs.declared.value.Value.TheVariants.{Num, Words}
use Rattle.rep_schema.specs.declared.schema.Schema.{Schema}
use Rattle.rep_schema.specs.Tables.{Cells, columns_of, rows_of, RowFits}
use Rattle.rep_schema.specs.Groups.{group_columns_of, values_at}
use Rattle.rep_schema.proofs.FoundRows.{found_row}
use Rattle.schema_rules.specs.declared.forms.Form.TheVariants as form
use Rattle.rep_calls.specs.declared.call.Part.{Part}
use Rattle.txn_effects.specs.Convergent.{is_convergent}
use Rattle.site_state.specs.declared.entry.Entry.{Entry}
use Rattle.site_state.specs.State.{SiteState}
use Rattle.site_events.specs.Cluster.{Cluster, site_of}
use Rattle.site_events.specs.Events.{Event, run}
use Rattle.event_laws.specs.Starts.{IsNewSite}
use Rattle.event_laws.specs.Fitting.{StartsFit, IsFitStart}
use Rattle.event_laws.specs.Waiting.{SitesLinkAsDeclared}
use Rattle.event_laws.proofs.Sites.{found_all, found_name}
use Rattle.event_laws.specs.Beginning.{BaseRowsAreFilled}
use Rattle.rep_laws.specs.GroupForms.{form_at, value_of, wins}
use Rattle.convergence_laws.specs.Joins.{applied_parts, candidates_of}
use Rattle.convergence_laws.specs.Collections.{Among, TellApart}
use Rattle.convergence_laws.specs.Agreement.{all_applied}
use Rattle.convergence_laws.proofs.GroupColumns.{value_of-values_at}
use Rattle.rep_laws.proofs.FormShapes.{IsShaped-form_at}
use Rattle.convergence_laws.proofs.Moves.{within_row}
use Rattle.rep_laws.proofs.ConvergentRows.{StandsAlone-convergent}
use Rattle.convergence_laws.proofs.EventsKeepForms.{groups_are_joined}
use Rattle.convergence_laws.specs.Latest.{LatestValuesTellApart}
use Rattle.convergence_laws.proofs.Turns.{happens_becomes}
use Rattle.convergence_laws.proofs.SitesAt.{Each}
use Rattle.convergence_laws.proofs.Told.{IsOwnValue, AreTold}
use Rattle.convergence_laws.proofs.PairsTell.{Lower, known}
use Rattle.convergence_laws.proofs.Facts.{is_named, declared_master}
use Rattle.convergence_laws.proofs.Ties.{master_named, pair_split}
use Rattle.convergence_laws.proofs.Rooted.{IsZeroOrOwn, RowsAreZeroOrOwn, IsRooted, becomes_rooted, first_is_known, part_is_own}
use Rattle.convergence_laws.proofs.Agreeing.{senders_named, facts_after, stamped, tied_numbers, own_tie}

module _ (lower : Lower) (schema : Schema) (start : Cluster) (is : IsFitStart schema start) (meshed : SitesLinkAsDeclared schema start.sites) (filled : BaseRowsAreFilled schema start.sites) where
  abbrev sites_after : List Event → List SiteState
  sites_after events = (run events start).sites

  -- ---- every run

  -- the stamp of a base row's latest values is filled in with 0
  begins_with_zero : (name : SiteName) (x : SiteState) → site_of name start.sites ≡ Some x → x.here.is_master ≡ true → RowsAreZeroOrOwn schema start.sites x.base
  begins_with_zero name x found master table group stamp own key row convergent has at =
      let shape = IsShaped-form_at schema is.sound table group (form.Latest stamp own) has in
      let fits = (found_all (StartsFit schema) name start.sites x is.sites found).base in
      let row_fits : RowFits (columns_of schema table) row = found_row (columns_of schema table) key row (rows_of x.base table) at (RowFits (columns_of schema table))
      (fits.each table (StandsAlone-convergent schema is.sound table convergent).below).fit in
      inl (value_of-values_at (group_columns_of schema table group) row stamp (within_row schema is.sound table group (form.Latest stamp own) has row row_fits) shape.has_stamp
      ∙ (filled name x table key row group stamp own found master convergent at has).stamp)

  run_rooted : (events : List Event) → Each (IsRooted schema (sites_after events)) (sites_after events)
  run_rooted [] = λ name x found. record {
    applied = λ passes. subst (λ (es : List Entry). AreTold (is_named schema) schema start.sites (all_applied es)) (sym (found_all (IsNewSite schema) name start.sites x is.start.sites found).journal)
        (λ table group stamp own key v convergent has among. absurd among);
    base = begins_with_zero name x found;
  }
  run_rooted (e ∷ es) = becomes_rooted schema is.sound lower.decides (sites_after es) (sites_after (e ∷ es)) (run es start).sent (happens_becomes e (run es start)) (facts_after lower schema start is meshed es)
      (known (is_named schema) lower schema start is (senders_named lower schema start is meshed) e es) (groups_are_joined lower.decides lower.blocks schema start es is) (run_rooted es)

  -- ---- at a master

  module _ (events : List Event) (table group stamp own : ℕ) (key : Cells) (convergent : is_convergent schema table ≡ true) (has : form_at schema table group ≡ Some (form.Latest stamp own)) where
    abbrev places : List ℕ
    places = group_columns_of schema table group

    abbrev IsOwn : Cells → Type 0
    IsOwn v = IsOwnValue (is_named schema) schema (sites_after events) table key group v

    abbrev Ties : Cells → Cells → Type 0
    Ties v w = wins schema places (form.Latest stamp own) v w ≡ Equal

    tie_own : (v w : Cells) → IsOwn v → IsOwn w → Ties v w → v ≡ w
    tie_own v w a b tie = own_tie lower schema start is meshed events table group stamp own key convergent has v w a b tie

    -- the number of own values, which is above 0
    record HasNumber (v : Cells) : Type 0 where
      number : ℕ
      above : 0 < number
      there : value_of places v stamp ≡ Some (Num (pos number))

    numbered : (v : Cells) → IsOwn v → HasNumber v
    numbered v o =
        let s = stamped lower schema start is meshed events table group stamp own key convergent has v o in
        record { number = s.number; above = s.above; there = (pair_split (value_of places v stamp) (value_of places v own) (Num (pos s.number)) (Words s.site.0) s.pair).0 }

    not_zero : (n : ℕ) → 0 < n → pos n ≡ pos 0 → ⊥
    not_zero n above e = let none : n ≡ 0 = cc in omega (arith, above, none)

    -- values with stamp 0 don't tie with own ones
    zero_before : (v w : Cells) → value_of places v stamp ≡ Some (Num (pos 0)) → IsOwn w → Ties v w → ⊥
    zero_before v w zero b tie =
        let n = numbered w b in
        not_zero n.number n.above (sym (tied_numbers lower schema start is meshed events table group stamp own key convergent has v w (pos 0) (pos n.number) zero n.there tie).0)

    zero_behind : (v w : Cells) → IsOwn v → value_of places w stamp ≡ Some (Num (pos 0)) → Ties v w → ⊥
    zero_behind v w a zero tie =
        let n = numbered v a in
        not_zero n.number n.above (tied_numbers lower schema start is meshed events table group stamp own key convergent has v w (pos n.number) (pos 0) n.there zero tie).0

    -- the first values, of which that isn't known, and others, all of which are own
    tell_apart : (first : Cells) (parts : List Part) → IsZeroOrOwn schema (sites_after events) table key group stamp first → ((v : Cells) → Among v (map (λ (part : Part). part.new) parts) → IsOwn v)
        → TellApart schema places (form.Latest stamp own) (candidates_of first parts)
    tell_apart first parts either all v w (inl here) (inl there) tie = sym here ∙ there
    tell_apart first parts either all v w (inr one) (inr other) tie = tie_own v w (all v one) (all w other) tie
    tell_apart first parts either all v w (inl here) (inr other) tie = go either (subst (λ u. Ties u w) (sym here) tie)
      where
        go : IsZeroOrOwn schema (sites_after events) table key group stamp first → Ties first w → v ≡ w
        go (inl zero) tie = absurd (zero_before first w zero (all w other) tie)
        go (inr o) tie = sym here ∙ tie_own first w o (all w other) tie
    tell_apart first parts either all v w (inr one) (inl there) tie = go either (subst (λ u. Ties v u) (sym there) tie)
      where
        go : IsZeroOrOwn schema (sites_after events) table key group stamp first → Ties v first → v ≡ w
        go (inl zero) tie = absurd (zero_behind v first (all v one) zero tie)
        go (inr o) tie = tie_own v first (all v one) o tie ∙ there

  -- a master's name is declared
  named : (events : List Event) (site : SiteName) (x : SiteState) → site_of site (sites_after events) ≡ Some x → x.here.is_master ≡ true → is_named schema x.here.site ≡ true
  named events site x found master = ap (is_named schema) (found_name site (sites_after events) x found)
      ∙ master_named site schema.sites (sym (declared_master schema is.sound lower.decides (sites_after events) (run events start).sent (facts_after lower schema start is meshed events) site x found) ∙ master)

pub latest_values_tell_apart : Lower → LatestValuesTellApart
latest_values_tell_apart lower schema start events is meshed filled site x found master table group stamp own key first convergent has begins =
    tell_apart lower schema start is meshed filled events table group stamp own key convergent has (values_at (group_columns_of schema table group) first) (applied_parts table key group x.journal)
    (first_is_known schema sites x passes master rooted table group stamp own key convergent has first begins)
    (part_is_own schema sites x passes master rooted table group stamp own key convergent has)
  where
    sites : List SiteState
    sites = (run events start).sites

    rooted : IsRooted schema sites x
    rooted = run_rooted lower schema start is meshed filled events site x found

    passes : is_named schema x.here.site ≡ true
    passes = named lower schema start is meshed filled events site x found master
