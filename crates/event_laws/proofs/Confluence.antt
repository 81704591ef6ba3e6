-- Whatever the order in which all that is ready of a master is applied, one site comes of it.
use Rattle.std.proofs.Common.{◌≡◌, ◌≢◌, ℕ, ◌<◌, ◌≤◌, List, [], ◌∷◌, ◌++◌, Bool, true, false, cond, max, Some, None, refl, sym, ap, ◌∙◌, subst, arith}
use Rattle.std.specs.Prelude.{◌||◌, ◌&&◌, not, nat_lt, nat_le, is_none, flat_map, filter_map, Option}
use Rattle.std.specs.List.{list_all, AllByRecursion}
use mathlib.Core.Path.{fun_ext}
use mathlib.Core.List.{append_assoc}
use Rattle.std.proofs.lemmas.Bool.Decides.{nat_tests}
use Rattle.rep_values.specs.declared.name.SiteName.{SiteName}
use Rattle.rep_schema.specs.declared.schema.Schema.{Schema}
use Rattle.rep_calls.specs.declared.past.PastEntry.{PastEntry}
use Rattle.conflict_detect.specs.Fits.{TxnFits}
use Rattle.txn_effects.specs.Contents.{IsContent}
use Rattle.rep_values.specs.SiteNames.{is_same_site}
use Rattle.rep_laws.specs.Commuting.{IsSound}
use Rattle.rep_laws.proofs.ContentAfter.{IsContent-content_after}
use Rattle.rep_laws.proofs.TransactionTouches.{transactions_touch}
use Rattle.rep_laws.proofs.EitherOrder.{commute_by_tokens}
use Rattle.site_state.specs.declared.entry.Entry.{Entry}
use Rattle.site_state.specs.declared.entry.Entry.TheVariants.{Refreshed}
use Rattle.site_state.specs.declared.answers.Why.{Why}
use Rattle.site_state.specs.declared.arrival.Arrival.{Arrival}
use Rattle.site_state.specs.State.{SenderState, SiteState, sender_of, arrived_in, arrived_at, arrivals}
use Rattle.rep_schema.specs.Sites.{is_master_site}
use Rattle.site_state.specs.Arrivals.{NamesOthers}
use Rattle.site_state.specs.Journal.{finished, low_water, error_at}
use Rattle.site_state.specs.Contents.{changes_by}
use Rattle.site_state.specs.Streams.{queue_of, shares}
use Rattle.site_state.specs.Pasts.{greatest_finished, seen_of, with_seen, past_at, pasts_of}
use Rattle.site_state.specs.Ready.{is_covered, stale_of, is_ready}
use Rattle.site_state.specs.Notes.{noted}
use Rattle.site_state.specs.Steps.{begun, journalled}
use Rattle.site_state.specs.Passes.{effect_here, applied_unless, site_apply, apply_each}
use Rattle.site_state.proofs.LowWater.{low_water-below, low_water-greatest}
use Rattle.site_state.proofs.Stepping.{arrived_has}
use Rattle.site_events.specs.Events.{run}
use Rattle.site_state.specs.Fits.{SendersFit}
use Rattle.event_laws.specs.Confluence.{applied_in_turn, AreReadyInTurn, CanPassInAnyOrder, OneSiteComesOfAnyOrder, PassesTakeSuchAnOrder, EverySiteCanPassInAnyOrder}
use Rattle.event_laws.proofs.Sites.{found_all}
use Rattle.event_laws.proofs.MarkLaws.{IsOfSchema, run_schema, arrivals_are_well_numbered}
use Rattle.event_laws.proofs.FittingSites.{every_site_fits}
use Rattle.event_laws.proofs.Passing.{every_site_can_pass}
use Rattle.event_laws.proofs.PassLaws.{apply_finishes, after_one, past_same, passes_leave_nothing_ready}
use Rattle.site_state.proofs.Waited.{and_both, found_holds}
use Rattle.event_laws.proofs.AnyOrder.{marked, IsNext, AreNext, all_marked, NoneNext, Applies, state, entries, OneCome, one_comes}
use Rattle.event_laws.proofs.MasterArrivals.{Told, told, entry_by, entry_here, told_with, IsReadyAt, ready_at, at_ready, site_apply-ready, finished_by-master, queue_of-master, pasts_of-master, told-master, finishes-entry, Either, either_first}

-- ---- any list of ready positions

module _ (origin : SiteName) (start : SiteState) (is : CanPassInAnyOrder origin start) where
  abbrev came_by : Option Arrival → Bool
  came_by None = false
  came_by (Some a) = list_all (is_covered start) a.past

  abbrev came : ℕ → Bool
  came p = came_by (arrived_at origin p start.senders)

  abbrev dep_by : Option Arrival → ℕ
  dep_by None = 0
  dep_by (Some a) = a.dep

  abbrev dep : ℕ → ℕ
  dep p = dep_by (arrived_at origin p start.senders)

  abbrev act_by : Option Arrival → Told → Told
  act_by None before = before
  act_by (Some a) before = told_with start.schema start.moment origin a before

  abbrev made_by : Option Arrival → Told → Entry
  made_by None before = Refreshed 0
  made_by (Some a) before = entry_here start.schema origin a before

  fits : (p : ℕ) (a : Arrival) → arrived_at origin p start.senders ≡ Some a → TxnFits start.schema a.txn
  fits p a there = found_holds (λ (a : Arrival). TxnFits start.schema a.txn) p (arrivals origin start) a is.fits there

  keeps_content : (p : ℕ) → came p ≡ true → (before : Told) → IsContent start.schema before.content → IsContent start.schema (act_by (arrived_at origin p start.senders) before).content
  keeps_content p comes before good = go (arrived_at origin p start.senders) refl
    where
      go : (found : Option Arrival) → arrived_at origin p start.senders ≡ found → IsContent start.schema (act_by found before).content
      go None there = good
      go (Some a) there = IsContent-content_after start.schema is.sound origin a.txn (fits p a there) before.content good

  free : (p q : ℕ) → q < p → dep p < q → came p ≡ true → came q ≡ true → (before : Told) → IsContent start.schema before.content
      → (act_by (arrived_at origin q start.senders) (act_by (arrived_at origin p start.senders) before) ≡ act_by (arrived_at origin p start.senders) (act_by (arrived_at origin q start.senders) before))
      × (made_by (arrived_at origin p start.senders) (act_by (arrived_at origin q start.senders) before) ≡ made_by (arrived_at origin p start.senders) before)
      × (made_by (arrived_at origin q start.senders) (act_by (arrived_at origin p start.senders) before) ≡ made_by (arrived_at origin q start.senders) before)
  free p q less apart comes_p comes_q before good = go (arrived_at origin p start.senders) refl (arrived_at origin q start.senders) refl comes_p comes_q apart
    where
      share_none : (a b : Arrival) → arrived_at origin p start.senders ≡ Some a → arrived_at origin q start.senders ≡ Some b → a.dep < q → (s : Bool) → shares start.schema a.txn b.txn ≡ s → s ≡ false
      share_none a b there_p there_q under false shared = refl
      share_none a b there_p there_q under true shared = absurd (omega (arith, is.numbered q p b a there_q there_p less shared, under))

      differ : (a b : Arrival) → arrived_at origin p start.senders ≡ Some a → arrived_at origin q start.senders ≡ Some b → a.position ≢ b.position
      differ a b there_p there_q = λ same. omega (arith, same, arrived_has origin p start a there_p, arrived_has origin q start b there_q, less)

      by : (a b : Arrival) → (there_p : arrived_at origin p start.senders ≡ Some a) → (there_q : arrived_at origin q start.senders ≡ Some b) → a.dep < q
          → Either origin a b (differ a b there_p there_q) start.schema start.moment before
      by a b there_p there_q under = either_first origin a b (differ a b there_p there_q) start.schema start.moment before
          (commute_by_tokens transactions_touch start.schema origin origin a.txn b.txn before.content is.sound (fits p a there_p) (fits q b there_q) good (share_none a b there_p there_q under _ refl))

      go : (found_p : Option Arrival) → arrived_at origin p start.senders ≡ found_p → (found_q : Option Arrival) → arrived_at origin q start.senders ≡ found_q
          → came_by found_p ≡ true → came_by found_q ≡ true → dep_by found_p < q
          → (act_by found_q (act_by found_p before) ≡ act_by found_p (act_by found_q before))
          × (made_by found_p (act_by found_q before) ≡ made_by found_p before)
          × (made_by found_q (act_by found_p before) ≡ made_by found_q before)
      go None there_p found_q there_q comes_p comes_q under = absurd (cc comes_p)
      go (Some a) there_p None there_q comes_p comes_q under = absurd (cc comes_q)
      go (Some a) there_p (Some b) there_q comes_p comes_q under = let both = by a b there_p there_q under in (both.same, both.entry, both.other_entry)

  abbrev how : Applies came dep Told Entry
  how = record {
    act = λ p before. act_by (arrived_at origin p start.senders) before;
    entry = λ p before. made_by (arrived_at origin p start.senders) before;
    Good = λ before. IsContent start.schema before.content;
    keeps = keeps_content;
    free = free;
  }

  -- ---- what holds on the way

  abbrev bare : SiteState → SiteState
  bare x = record x { journal = []; logs = []; snapshots = [] }

  record Within (x : SiteState) : Type 0 where
    frame : bare x ≡ bare start
    queue : queue_of x ≡ queue_of start
    pasts : pasts_of x ≡ pasts_of start
    covers : (past : List PastEntry) → NamesOthers origin past → list_all (is_covered x) past ≡ list_all (is_covered start) past

  at_start : Within start
  at_start = record { frame = refl; queue = refl; pasts = refl; covers = λ past off. refl }

  schema_same : (x : SiteState) → Within x → x.schema ≡ start.schema
  schema_same x within = ap (λ (y : SiteState). y.schema) within.frame

  moment_same : (x : SiteState) → Within x → x.moment ≡ start.moment
  moment_same x within = ap (λ (y : SiteState). y.moment) within.frame

  senders_same : (x : SiteState) → Within x → x.senders ≡ start.senders
  senders_same x within = ap (λ (y : SiteState). y.senders) within.frame

  arrived_same : (p : ℕ) (x : SiteState) (a : Arrival) → Within x → arrived_at origin p x.senders ≡ Some a → arrived_at origin p start.senders ≡ Some a
  arrived_same p x a within there = ap (arrived_at origin p) (sym (senders_same x within)) ∙ there

  names_others : (p : ℕ) (a : Arrival) → arrived_at origin p start.senders ≡ Some a → NamesOthers origin a.past
  names_others p a there = found_holds (λ (a : Arrival). NamesOthers origin a.past) p (arrivals origin start) a is.passes.others there

  -- what becomes of a site where a position is applied
  abbrev becomes : Arrival → SiteState → SiteState
  becomes a x = noted (changes_by (effect_here origin a x)) (journalled (entry_by origin a (effect_here origin a x)) x)

  applied_becomes : (p : ℕ) (x : SiteState) → Within x → (at : IsReadyAt origin p x) → site_apply origin p x ≡ becomes at.arrival x
  applied_becomes p x within at = site_apply-ready origin p x at ∙ finished_by-master origin at.arrival x master (effect_here origin at.arrival x)
    where
      master : is_master_site x.schema origin ≡ true
      master = ap (λ (s : Schema). is_master_site s origin) (schema_same x within) ∙ is.master

  within_applied : (p : ℕ) (x : SiteState) → Within x → IsReadyAt origin p x → Within (site_apply origin p x)
  within_applied p x within at = record {
    frame = ap bare becoming ∙ within.frame;
    queue = ap queue_of becoming ∙ queue_of-master origin at.arrival x (effect_here origin at.arrival x) ∙ within.queue;
    pasts = ap pasts_of becoming ∙ pasts_of-master origin at.arrival x (effect_here origin at.arrival x) ∙ within.pasts;
    covers = λ past off. past_same origin 0 x (site_apply origin p x) (after_one origin 0 p x (site_apply origin p x) (omega arith) (apply_finishes origin p x)) past off ∙ within.covers past off;
  }
    where
      becoming : site_apply origin p x ≡ becomes at.arrival x
      becoming = applied_becomes p x within at

  made_there : (p : ℕ) (x : SiteState) (a : Arrival) → Within x → arrived_at origin p start.senders ≡ Some a
      → entry_by origin a (effect_here origin a x) ≡ made_by (arrived_at origin p start.senders) (told x)
  made_there p x a within there =
      ap (λ (s : Schema). entry_here s origin a (told x)) (schema_same x within) ∙ ap (λ (found : Option Arrival). made_by found (told x)) (sym there)

  journal_applied : (p : ℕ) (x : SiteState) → Within x → IsReadyAt origin p x → (site_apply origin p x).journal ≡ made_by (arrived_at origin p start.senders) (told x) ∷ x.journal
  journal_applied p x within at =
      ap (λ (y : SiteState). y.journal) (applied_becomes p x within at)
      ∙ ap (λ (e : Entry). e ∷ x.journal) (made_there p x at.arrival within (arrived_same p x at.arrival within at.there))

  told_applied : (p : ℕ) (x : SiteState) → Within x → IsReadyAt origin p x → told (site_apply origin p x) ≡ act_by (arrived_at origin p start.senders) (told x)
  told_applied p x within at =
      ap told (applied_becomes p x within at)
      ∙ told-master origin at.arrival x (effect_here origin at.arrival x) refl
      ∙ ap (λ (s : Schema). told_with s x.moment origin at.arrival (told x)) (schema_same x within)
      ∙ ap (λ (m : ℕ). told_with start.schema m origin at.arrival (told x)) (moment_same x within)
      ∙ ap (λ (found : Option Arrival). act_by found (told x)) (sym (arrived_same p x at.arrival within at.there))

  marked_applied : (p : ℕ) (x : SiteState) → Within x → IsReadyAt origin p x → finished origin (site_apply origin p x).journal ≡ marked (finished origin x.journal) p
  marked_applied p x within at =
      ap (λ (y : SiteState). finished origin y.journal) (applied_becomes p x within at)
      ∙ fun_ext (λ q. ap (λ (b : Bool). b || finished origin x.journal q) (finishes-entry origin at.arrival (effect_here origin at.arrival x) p q (arrived_has origin p x at.arrival at.there)))

  next_ready : (p : ℕ) (x : SiteState) → Within x → IsReadyAt origin p x → IsNext came dep (finished origin x.journal) p
  next_ready p x within at = record {
    positive = omega (arith, found_holds (λ (a : Arrival). a.dep < a.position) p (arrivals origin start) at.arrival is.passes.earlier there, arrived_has origin p x at.arrival at.there);
    comes = ap came_by there ∙ sym (within.covers at.arrival.past (names_others p at.arrival there)) ∙ both.1;
    unfinished = at.unfinished;
    depends = λ r from_one up_to. low_water-below origin x.journal r from_one (omega (arith, subst (λ (d : ℕ). r ≤ d) (ap dep_by there) up_to, low));
  }
    where
      there : arrived_at origin p start.senders ≡ Some at.arrival
      there = arrived_same p x at.arrival within at.there

      both : (nat_le at.arrival.dep (low_water origin x.journal) ≡ true) × (list_all (is_covered x) at.arrival.past ≡ true)
      both = and_both (nat_le at.arrival.dep (low_water origin x.journal)) (list_all (is_covered x) at.arrival.past) at.due

      low : at.arrival.dep ≤ low_water origin x.journal
      low = grind (arith, nat_tests, both.0)

  ready_next : (p : ℕ) (x : SiteState) → Within x → IsNext came dep (finished origin x.journal) p → IsReadyAt origin p x
  ready_next p x within next = go (arrived_at origin p start.senders) refl next.comes next.depends
    where
      go : (found : Option Arrival) → arrived_at origin p start.senders ≡ found → came_by found ≡ true → ((r : ℕ) → 0 < r → r ≤ dep_by found → finished origin x.journal r ≡ true) → IsReadyAt origin p x
      go None there comes depends = absurd (cc comes)
      go (Some a) there comes depends =
          let low : a.dep ≤ low_water origin x.journal = low_water-greatest origin x.journal a.dep depends in
          let test : nat_le a.dep (low_water origin x.journal) ≡ true = grind (arith, nat_tests, low) in
          let past : list_all (is_covered x) a.past ≡ true = within.covers a.past (names_others p a there) ∙ comes in
          record {
            arrival = a;
            there = ap (arrived_at origin p) (senders_same x within) ∙ there;
            unfinished = next.unfinished;
            due = rw (test, past) refl;
          }

  -- what applying a list of positions comes to
  record Follows (x : SiteState) (ps : List ℕ) : Type 0 where
    within : Within (applied_in_turn origin ps x)
    view : told (applied_in_turn origin ps x) ≡ state came dep Told Entry how (told x) ps
    next : AreNext came dep (finished origin x.journal) ps
    marks : finished origin (applied_in_turn origin ps x).journal ≡ all_marked came dep (finished origin x.journal) ps
    journal : (applied_in_turn origin ps x).journal ≡ entries came dep Told Entry how (told x) ps ++ x.journal

  follows_behind : (p : ℕ) (ps : List ℕ) (x : SiteState) → Within x → IsReadyAt origin p x → Follows (site_apply origin p x) ps → Follows x (p ∷ ps)
  follows_behind p ps x within at rest = record {
    within = rest.within;
    view = rest.view ∙ ap (λ before. state came dep Told Entry how before ps) telling;
    next = (next_ready p x within at, subst (λ f. AreNext came dep f ps) marking rest.next);
    marks = rest.marks ∙ ap (λ f. all_marked came dep f ps) marking;
    journal = rest.journal
        ∙ ap (λ before. entries came dep Told Entry how before ps ++ (site_apply origin p x).journal) telling
        ∙ ap (λ es. entries came dep Told Entry how (how.act p (told x)) ps ++ es) (journal_applied p x within at)
        ∙ sym (append_assoc (entries came dep Told Entry how (how.act p (told x)) ps) (how.entry p (told x) ∷ []) x.journal);
  }
    where
      telling : told (site_apply origin p x) ≡ how.act p (told x)
      telling = told_applied p x within at

      marking : finished origin (site_apply origin p x).journal ≡ marked (finished origin x.journal) p
      marking = marked_applied p x within at

  follows : (ps : List ℕ) (x : SiteState) → Within x → AreReadyInTurn origin ps x → Follows x ps
  follows [] x within ready = record { within = within; view = refl; next = tt; marks = refl; journal = refl }
  follows (p ∷ ps) x within ready =
      let at = ready_at origin p x ready.0 in
      follows_behind p ps x within at (follows ps (site_apply origin p x) (within_applied p x within at) ready.1)

  none_next : (ps : List ℕ) → Follows start ps → ((p : ℕ) → is_ready origin p (applied_in_turn origin ps start) ≡ false) → NoneNext came dep (all_marked came dep (finished origin start.journal) ps)
  none_next ps follow none p next = true_false _ (at_ready origin p _ (ready_next p (applied_in_turn origin ps start) follow.within (subst (λ f. IsNext came dep f p) (sym follow.marks) next))) (none p)
    where
      true_false : (b : Bool) → b ≡ true → b ≡ false → ⊥
      true_false true is off = absurd (cc off)
      true_false false is off = absurd (cc is)

-- ---- what is computed from journals with the same finished positions and errors

greatest_finished-alike : (origin : SiteName) (es ds : List Entry) (arrived : List Arrival) → ((p : ℕ) → finished origin es p ≡ finished origin ds p)
    → greatest_finished origin es arrived ≡ greatest_finished origin ds arrived
greatest_finished-alike origin es ds [] alike = refl
greatest_finished-alike origin es ds (a ∷ arrived) alike = rw (alike a.position, greatest_finished-alike origin es ds arrived alike) refl

past_at-alike : (schema : Schema) (es ds : List Entry) (ss : List SenderState) → ((o : SiteName) (p : ℕ) → finished o es p ≡ finished o ds p) → past_at schema es ss ≡ past_at schema ds ss
past_at-alike schema es ds [] alike = refl
past_at-alike schema es ds (s ∷ ss) alike =
    ap (λ n. with_seen (is_master_site schema s.origin && nat_lt 0 n) s.origin n (past_at schema es ss)) seen
    ∙ ap (λ past. with_seen (is_master_site schema s.origin && nat_lt 0 (seen_of ds s)) s.origin (seen_of ds s) past) (past_at-alike schema es ds ss alike)
  where
    seen : seen_of es s ≡ seen_of ds s
    seen = ap (max s.first) (greatest_finished-alike s.origin es ds s.arrived (alike s.origin))

low_at_most : (origin : SiteName) (es ds : List Entry) → ((p : ℕ) → finished origin es p ≡ finished origin ds p) → low_water origin es ≤ low_water origin ds
low_at_most origin es ds alike = low_water-greatest origin ds (low_water origin es) (λ p from_one up_to. sym (alike p) ∙ low_water-below origin es p from_one up_to)

low_alike : (origin : SiteName) (es ds : List Entry) → ((p : ℕ) → finished origin es p ≡ finished origin ds p) → low_water origin es ≡ low_water origin ds
low_alike origin es ds alike = omega (arith, low_at_most origin es ds alike, low_at_most origin ds es (λ p. sym (alike p)))

-- ---- the law

pub one_site_comes_of_any_order : OneSiteComesOfAnyOrder
one_site_comes_of_any_order origin x ps qs is whole other_whole = record {
  new = entries (came origin x is) (dep origin x is) Told Entry (how origin x is) (told x) ps;
  other_new = entries (came origin x is) (dep origin x is) Told Entry (how origin x is) (told x) qs;
  journal = one_follows.journal;
  other_journal = other_follows.journal;
  entries = come.made;
  rest = λ i. record (frames i) { journal = x.journal; logs = (view i).logs; snapshots = (view i).snapshots };
  content = ap (λ (t : Told). t.content) view;
  queue = one_follows.within.queue ∙ sym other_follows.within.queue;
  pasts = one_follows.within.pasts ∙ sym other_follows.within.pasts;
  seen = past_at-alike one.schema one.journal other.journal one.senders alike
      ∙ ap (λ (y : SiteState). past_at y.schema other.journal y.senders) frames;
  finished_alike = alike;
  low = λ sender. low_alike sender one.journal other.journal (alike sender);
  standing = λ sender position. ap (λ (t : Told). t.errors sender position) view;
  errors = ap (λ (t : Told). flat_map (λ (s : SenderState). filter_map (λ (a : Arrival). t.errors s.origin a.position) s.arrived) one.senders) view
      ∙ ap (λ (y : SiteState). flat_map (λ (s : SenderState). filter_map (λ (a : Arrival). error_at s.origin a.position other.journal) s.arrived) y.senders) frames;
}
  where
    one : SiteState
    one = applied_in_turn origin ps x

    other : SiteState
    other = applied_in_turn origin qs x

    one_follows : Follows origin x is x ps
    one_follows = follows origin x is ps x (at_start origin x is) whole.ready

    other_follows : Follows origin x is x qs
    other_follows = follows origin x is qs x (at_start origin x is) other_whole.ready

    come : OneCome (came origin x is) (dep origin x is) Told Entry (how origin x is) (told x) ps qs
    come = one_comes (came origin x is) (dep origin x is) Told Entry (how origin x is) (finished origin x.journal) (told x) ps qs is.content one_follows.next other_follows.next
        (none_next origin x is ps one_follows whole.none) (none_next origin x is qs other_follows other_whole.none)

    view : told (applied_in_turn origin ps x) ≡ told (applied_in_turn origin qs x)
    view = one_follows.view ∙ come.same ∙ sym other_follows.view

    frames : bare origin x is (applied_in_turn origin ps x) ≡ bare origin x is (applied_in_turn origin qs x)
    frames = one_follows.within.frame ∙ sym other_follows.within.frame

    alike : (o : SiteName) (p : ℕ) → finished o (applied_in_turn origin ps x).journal p ≡ finished o (applied_in_turn origin qs x).journal p
    alike o p = ap (λ (t : Told). t.finished_at o p) view

-- ---- a pass takes such an order

-- of these arrivals, the positions that are ready in their turn
abbrev ready_of : SiteName → List Arrival → SiteState → List ℕ
ready_of origin [] x = []
ready_of origin (a ∷ arrived) x = cond (is_ready origin a.position x) (a.position ∷ ready_of origin arrived (site_apply origin a.position x)) (ready_of origin arrived x)

record IsApplied (origin : SiteName) (arrived : List Arrival) (x : SiteState) (positions : List ℕ) : Type 0 where
  ready : AreReadyInTurn origin positions x
  each : apply_each origin arrived x ≡ applied_in_turn origin positions x

-- what isn't ready changes nothing
apply-not_ready : (origin : SiteName) (p : ℕ) (x : SiteState) → is_ready origin p x ≡ false → site_apply origin p x ≡ x
apply-not_ready origin p x not = go (stale_of origin p x) not
  where
    go : (stale : Option Why) → is_none stale ≡ false → applied_unless stale origin (arrived_at origin p x.senders) x ≡ x
    go (Some why) not = refl
    go None not = absurd (cc not)

each_applied : (origin : SiteName) (arrived : List Arrival) (x : SiteState) → IsApplied origin arrived x (ready_of origin arrived x)
each_applied origin [] x = record { ready = tt; each = refl }
each_applied origin (a ∷ arrived) x = go (is_ready origin a.position x) refl (each_applied origin arrived (site_apply origin a.position x)) (each_applied origin arrived x)
  where
    go : (b : Bool) → is_ready origin a.position x ≡ b → IsApplied origin arrived (site_apply origin a.position x) (ready_of origin arrived (site_apply origin a.position x)) → IsApplied origin arrived x (ready_of origin arrived x)
        → IsApplied origin (a ∷ arrived) x (cond b (a.position ∷ ready_of origin arrived (site_apply origin a.position x)) (ready_of origin arrived x))
    go true is behind same = record { ready = (is, behind.ready); each = behind.each }
    go false is behind same = record { ready = same.ready; each = ap (apply_each origin arrived) (apply-not_ready origin a.position x is) ∙ same.each }

pub passes_take_such_an_order : PassesTakeSuchAnOrder
passes_take_such_an_order origin x can =
    let applied = each_applied origin (arrivals origin x) (begun x) in
    record {
      positions = ready_of origin (arrivals origin x) (begun x);
      all = record {
        ready = applied.ready;
        none = λ p. ap (is_ready origin p) (sym applied.each) ∙ passes_leave_nothing_ready origin x can p;
      };
      passed = applied.each;
    }

-- ---- every site can pass in any order

-- each transaction that arrived from a sender fits
pub arrivals_fit : (schema : Schema) (origin : SiteName) (ss : List SenderState) → SendersFit schema ss → AllByRecursion (λ (a : Arrival). TxnFits schema a.txn) (arrived_in (sender_of origin ss))
arrivals_fit schema origin [] fit = tt
arrivals_fit schema origin (s ∷ ss) fit = go (is_same_site s.origin origin) (arrivals_fit schema origin ss fit.1)
  where
    go : (b : Bool) → AllByRecursion (λ (a : Arrival). TxnFits schema a.txn) (arrived_in (sender_of origin ss)) → AllByRecursion (λ (a : Arrival). TxnFits schema a.txn) (arrived_in (cond b (Some s) (sender_of origin ss)))
    go true later = fit.0
    go false later = later

pub every_site_can_pass_in_any_order : EverySiteCanPassInAnyOrder
every_site_can_pass_in_any_order schema start events is declared site origin x found master =
    let fits = every_site_fits schema start events is site x found in
    let same : x.schema ≡ schema = found_all (IsOfSchema schema) site (run events start).sites x (run_schema schema start events is.start) found in
    record {
      sound = subst IsSound (sym same) is.sound;
      master = ap (λ (s : Schema). is_master_site s origin) same ∙ master;
      content = fits.content;
      fits = arrivals_fit x.schema origin x.senders fits.arrived;
      passes = every_site_can_pass schema start events is.start declared site origin x found;
      numbered = arrivals_are_well_numbered schema start events is.start site origin x found;
    }
