-- Where a sign stands, as a late master joins with the rows of another: its rows have passed all that they passed there.
use Rattle.std.proofs.Common.{◌≡◌, ℕ, ◌≤◌, Bool, true, false, cond, List, [], ◌∷◌, length, Some, None, refl, sym, ap, ◌∙◌, subst, inl, inr, arith}
use mathlib.Core.Bool.{true≢false}
use Rattle.std.specs.Prelude.{Option}
use Rattle.std.specs.Option.{option_map}
use Rattle.rep_values.specs.declared.name.SiteName.{SiteName}
use Rattle.rep_schema.specs.declared.schema.Schema.{Schema}
use Rattle.rep_schema.specs.Tables.{Rows}
use Rattle.rep_calls.specs.declared.call.Txn.{Txn}
use Rattle.txn_effects.specs.declared.local.Here.{Here}
use Rattle.deferred_queue.specs.Streams.{at_position}
use Rattle.rep_values.specs.SiteNames.{is_same_site}
use Rattle.site_state.specs.State.{SiteState, opened_of}
use Rattle.site_state.specs.Contents.{tables_of}
use Rattle.site_state.specs.Streams.{queue_of, stream_in, stream_to}
use Rattle.site_state.specs.Joining.{site_open, site_copy}
use Rattle.site_state.specs.Making.{master_here}
use Rattle.site_state.proofs.Growing.{queued_behind-none}
use Rattle.site_state.proofs.Destinations.{opened_in-opened, opened_from_stays}
use Rattle.site_events.specs.Cluster.{site_of}
use Rattle.site_events.specs.Joins.{queue_counts, copied, with_joined}
use Rattle.event_laws.proofs.Sites.{found_or, site_of-joined}
use Rattle.event_laws.proofs.NewSites.{open_to_each_keeps, copied_here}
use Rattle.error_cause_laws.proofs.OneTimeWrites.{OneTimeWrite}
use Rattle.error_cause_laws.proofs.WritingOnce.{IsSigned, made_in, Has, IsAlready, DecidedBy, IsDecided, AllPassed, Took, Comes, IsTaken, none_found}
use Rattle.event_laws.proofs.JoinedSites.{copied_queue, copied_tables}

-- ---- the one that joins

copied_last : (sites : List SiteState) (source : SiteState) (site : SiteName) → (copied sites source site).stamps.last ≡ 0
copied_last sites source site = open_to_each_keeps (λ (x : SiteState). x.stamps.last ≡ 0) (λ s x is. is) sites (site_copy source (master_here source.schema site) (queue_counts sites)) refl

-- an empty queue sends nothing
pub empty_sends_none : (opened : Option ℕ) (queue : List Txn) (position : ℕ) (txn : Txn) → queue ≡ [] → at_position position (stream_in opened queue) ≡ Some txn → ⊥
empty_sends_none opened [] position txn is found = go opened found
  where
    go : (o : Option ℕ) → at_position position (stream_in o []) ≡ Some txn → ⊥
    go None at = absurd (cc at)
    go (Some n) at = absurd (cc at)
empty_sends_none opened (t ∷ ts) position txn is found = absurd (cc is)

-- what a site sends that is open to one more it sent
pub open_sends : (site : SiteName) (z : SiteState) (to : SiteName) (position : ℕ) (txn : Txn) → at_position position (stream_to to (site_open site z)) ≡ Some txn → at_position position (stream_to to z) ≡ Some txn
open_sends site z to position txn found = elim (opened_in-opened to site (length (queue_of z)) z.destinations) [
  | inl same ↦ ap (λ o. at_position position (stream_in o (queue_of z))) (sym same) ∙ found
  | inr now ↦
      let none : at_position position (stream_to to (site_open site z)) ≡ None =
      ap (λ o. at_position position (stream_in o (queue_of z))) now.1 ∙ ap (at_position position) (queued_behind-none (length (queue_of z)) (queue_of z) (omega arith)) in
      let wrong : None ≡ Some txn = sym none ∙ found in
      absurd (cc wrong)
]

module _ (schema : Schema) (sign : OneTimeWrite schema) (sites : List SiteState) (h : IsSigned schema sign sites) (site : SiteName) (source : SiteState) (absent : site_of site sites ≡ None)
    (source_found : site_of source.here.site sites ≡ Some source) (master : source.here.is_master ≡ true) (closed : (name : SiteName) (z : SiteState) → site_of name sites ≡ Some z → opened_of site z ≡ None) where
  abbrev new : SiteState
  new = copied sites source site

  abbrev others : List SiteState
  others = with_joined sites source site

  -- a site then is one that was there and opened, or the one that joined
  data Was (name : SiteName) (w : SiteState) : Type 0 where
    Old : (z : SiteState) → site_of name sites ≡ Some z → w ≡ site_open site z → Was name w
    New : w ≡ new → Was name w

  was : (name : SiteName) (w : SiteState) → site_of name others ≡ Some w → Was name w
  was name w found = go (site_of name sites) refl (sym (site_of-joined name (site_open site) sites new (λ x. refl)) ∙ found)
    where
      by : (b : Bool) → cond b (Some new) None ≡ Some w → Was name w
      by true is = let same : new ≡ w = cc in New (sym same)
      by false is = cc

      go : (o : Option SiteState) → site_of name sites ≡ o → found_or (site_of name (new ∷ [])) (option_map (site_open site) o) ≡ Some w → Was name w
      go None none is = by (is_same_site new.here.site name) is
      go (Some z) there is = let same : site_open site z ≡ w = cc in Old z there (sym same)

  still : (name : SiteName) (z : SiteState) → site_of name sites ≡ Some z → site_of name others ≡ Some (site_open site z)
  still name z found = site_of-joined name (site_open site) sites new (λ x. refl) ∙ ap (λ o. found_or (site_of name (new ∷ [])) (option_map (site_open site) o)) found

  settled_later : IsDecided schema sign sites → IsDecided schema sign others
  settled_later settled = go (site_of sign.owner sites) refl settled
    where
      already : sign.Given (tables_of source) → IsAlready schema sign new
      already given = subst (λ (n : ℕ). sign.Already new.here.is_master (tables_of new) n) (sym (copied_last sites source site))
          (subst (λ (ts : List Rows). sign.Already new.here.is_master ts 0) (sym (copied_tables sites source site)) (sign.given new.here.is_master (tables_of source) 0 given))

      by : (b : Bool) → is_same_site new.here.site sign.owner ≡ b → ((name : SiteName) (x : SiteState) → site_of name sites ≡ Some x → x.here.is_master ≡ true → sign.Given (tables_of x))
          → DecidedBy schema sign others (cond b (Some new) None)
      by true is all = already (all source.here.site source source_found master)
      by false is all = λ name w found on. each (was name w found) on
        where
          each : {name : SiteName} {w : SiteState} → Was name w → w.here.is_master ≡ true → sign.Given (tables_of w)
          each {name} {w} (Old z there same) on = rw same (all name z there (rw same at on))
          each {name} {w} (New same) on = rw (same, copied_tables sites source site) (all source.here.site source source_found master)

      go : (o : Option SiteState) → site_of sign.owner sites ≡ o → DecidedBy schema sign sites o → IsDecided schema sign others
      go (Some o) there already_o = rw (still sign.owner o there) already_o
      go None none all = rw (site_of-joined sign.owner (site_open site) sites new (λ x. refl), none) (by (is_same_site new.here.site sign.owner) refl all)

  passed_later : (o z : SiteState) → AllPassed schema sign o z → AllPassed schema sign (site_open site o) (site_open site z)
  passed_later o z passed position txn at makes =
      let now = passed position txn (open_sends site o z.here.site position txn at) makes in
      record { finished_there = now.finished_there; no_error = now.no_error }

  took_later : (z s : SiteState) → Took schema sign sites z s → Took schema sign others (site_open site z) (site_open site s)
  took_later z s took = record {
    there = still sign.owner s took.there;
    off = took.off;
    master = took.master;
    linked = λ none. go (opened_of z.here.site s) refl none;
    passed = passed_later s z took.passed;
  }
    where
      go : (o : Option ℕ) → opened_of z.here.site s ≡ o → opened_of z.here.site (site_open site s) ≡ None → ⊥
      go None is none = took.linked is
      go (Some n) is none =
          let stays = opened_from_stays (length (queue_of s)) (opened_of z.here.site s) (opened_of z.here.site (site_open site s)) n (opened_in-opened z.here.site site (length (queue_of s)) s.destinations) is in
          let wrong : Some n ≡ None = sym stays ∙ none in
          cc

  comes_later : (z : SiteState) → Comes schema sign sites z → Comes schema sign others (site_open site z)
  comes_later z (inl own) = inl own
  comes_later z (inr took) = inr (site_open site took.0, took_later z took.0 took.1)

  taken_later : (s : SiteState) → IsTaken schema sign sites s → IsTaken schema sign others (site_open site s)
  taken_later s taken = (site_open site taken.0, still taken.0.here.site taken.0 taken.1, took_later taken.0 s taken.2)

  new_off : (w : SiteState) → w ≡ new → w.here.is_master ≡ false → ⊥
  new_off w same off = true≢false (sym (ap (λ (here : Here). here.is_master) (copied_here sites source site)) ∙ ap (λ (v : SiteState). v.here.is_master) (sym same) ∙ off)

  source_has : (w : SiteState) → w ≡ new → Has schema sign w → Has schema sign source
  source_has w same has = subst sign.Present (ap tables_of same ∙ copied_tables sites source site) has

  pub joined_signed : IsSigned schema sign others
  joined_signed = record {
    once = λ name w found. once (was name w found);
    comes = λ name w found has. comes (was name w found) has;
    settled = λ name w found on has. settled (was name w found) on has;
    known = λ name other w v found v_found on also has. known (was name w found) (was other v v_found) on also has;
    taken = λ name w s found on has there off counts. taken (was name w found) on has (was sign.owner s there) off counts;
  }
    where
      once : {name : SiteName} {w : SiteState} → Was name w → made_in schema sign (queue_of w) ≤ 1
      once {name} {w} (Old z there same) = rw same (h.once name z there)
      once {name} {w} (New same) = rw (same, copied_queue sites source site) (omega arith)

      comes : {name : SiteName} {w : SiteState} → Was name w → 1 ≤ made_in schema sign (queue_of w) → Comes schema sign others w × IsDecided schema sign others
      comes {name} {w} (Old z there same) has = let before = h.comes name z there (rw same at has) in rw same (comes_later z before.0, settled_later before.1)
      comes {name} {w} (New same) has = let none : 1 ≤ 0 = rw (same, copied_queue sites source site) at has in absurd (omega (arith, none))

      settled : {name : SiteName} {w : SiteState} → Was name w → w.here.is_master ≡ true → Has schema sign w → IsDecided schema sign others
      settled {name} {w} (Old z there same) on has = settled_later (h.settled name z there (rw same at on) (rw same at has))
      settled {name} {w} (New same) on has = settled_later (h.settled source.here.site source source_found master (source_has w same has))

      known : {name other : SiteName} {w v : SiteState} → Was name w → Was other v → w.here.is_master ≡ true → v.here.is_master ≡ true → Has schema sign w → AllPassed schema sign v w
      known {name} {other} {w} {v} (Old z there same) (Old o also_there also_same) on also has =
          rw (same, also_same) (passed_later o z (h.known name other z o there also_there (rw same at on) (rw also_same at also) (rw same at has)))
      known {name} {other} {w} {v} is (New same) on also has =
          λ position txn at makes. absurd (empty_sends_none (opened_of w.here.site v) (queue_of v) position txn (ap queue_of same ∙ copied_queue sites source site) at)
      known {name} {other} {w} {v} (New same) (Old o there is) on also has = λ position txn at makes.
          let to : w.here.site ≡ site = ap (λ (x : SiteState). x.here.site) same ∙ ap (λ (here : Here). here.site) (copied_here sites source site) in
          let sent : at_position position (stream_to site (site_open site o)) ≡ Some txn = ap (λ (n : SiteName). at_position position (stream_to n (site_open site o))) (sym to) ∙ ap (λ (x : SiteState). at_position position (stream_to w.here.site x)) (sym is) ∙ at in
          absurd (none_found site o position txn (closed other o there) (open_sends site o site position txn sent))

      taken : {name : SiteName} {w s : SiteState} → Was name w → w.here.is_master ≡ true → Has schema sign w → Was sign.owner s → s.here.is_master ≡ false → 1 ≤ made_in schema sign (queue_of s) → IsTaken schema sign others s
      taken {name} {w} {s} (Old z there same) on has (Old o o_there is) off counts =
          rw is (taken_later o (h.taken name z o there (rw same at on) (rw same at has) o_there (rw is at off) (rw is at counts)))
      taken {name} {w} {s} (New same) on has (Old o o_there is) off counts =
          rw is (taken_later o (h.taken source.here.site source o source_found master (source_has w same has) o_there (rw is at off) (rw is at counts)))
      taken {name} {w} {s} was_w on has (New same) off counts = absurd (new_off s same off)
