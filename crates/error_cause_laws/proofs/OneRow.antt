-- One row of a convergent table: which site may insert it, which sites have it, and what an event makes of it.
use Rattle.std.proofs.Common.{◌≡◌, ◌≢◌, ℕ, ◌≤◌, Bool, true, false, List, ◌∷◌, map, Some, None, Ok, refl, sym, ap, ◌∙◌, subst, inl, inr, arith}
use mathlib.Core.Bool.{true≢false}
use Rattle.std.specs.Prelude.{◌⊎◌, Option}
use Rattle.std.specs.List.{AllByRecursion}
use Rattle.rep_values.specs.declared.name.SiteName.{SiteName}
use Rattle.rep_schema.specs.declared.schema.Schema.{Schema}
use Rattle.rep_schema.specs.Tables.{Cells, Rows, columns_of, find_row, rows_of}
use Rattle.rep_calls.specs.declared.call.Txn.{Txn}
use Rattle.conflict_detect.specs.ChangeCalls.{call_of}
use Rattle.rep_calls.specs.declared.statement.Statement.{Statement}
use Rattle.txn_effects.specs.Calls.{Effect}
use Rattle.txn_effects.specs.Contents.{Content, IsContent, effect_on, content_after}
use Rattle.txn_effects.specs.Convergent.{is_convergent}
use Rattle.local_txn.specs.Laws.{StampsOfABlockRise}
use Rattle.txn_effects.specs.Locals.{BlockEffect, local_effect}
use Rattle.deferred_queue.specs.Streams.{at_position}
use Rattle.rep_values.specs.SiteNames.{is_same_site}
use Rattle.deferred_queue.proofs.Sites.{is_same_site-true, is_same_site-refl}
use Rattle.site_state.specs.declared.entry.Entry.{Entry}
use Rattle.site_state.specs.State.{SiteState}
use Rattle.rep_schema.specs.Sites.{is_master_site}
use Rattle.site_state.specs.Contents.{content_of, tables_of, txn_of, journal_content}
use Rattle.site_state.specs.Streams.{with_one, queue_of}
use Rattle.site_events.specs.Cluster.{Cluster, site_of}
use Rattle.site_events.specs.Events.{Event}
use Rattle.event_laws.specs.Starts.{IsNewSite}
use Rattle.event_laws.specs.Fitting.{IsFitStart}
use Rattle.event_laws.specs.Waiting.{SitesLinkAsDeclared}
use Rattle.event_laws.proofs.Sites.{found_all, found_name, found_again}
use Rattle.convergence_laws.specs.Journals.{IsSoundTxn}
use Rattle.convergence_laws.specs.Laws.{BlocksKeepForms}
use Rattle.convergence_laws.proofs.Moves.{DecisionLaws}
use Rattle.convergence_laws.proofs.SitesKeepForms.{position_has}
use Rattle.error_cause_laws.proofs.OneTimeWrites.{OneTimeWrite, writes_in, signs_of, signs_queued}
use Rattle.error_cause_laws.proofs.WritingOnce.{Comes, IsDecided, DecidedBy, IsSigned}
use Rattle.error_cause_laws.proofs.InsertWrites.{insert_sign}
use Rattle.error_cause_laws.proofs.Moving.{Moves, Commits, Applies}
use Rattle.error_cause_laws.proofs.Turning.{Turns}
use Rattle.error_cause_laws.proofs.WritesStep.{IsWell, step_of, sent_holds}
use Rattle.error_cause_laws.proofs.Running.{sites_after, well_after, signed_after, queued_after, turns}
use Rattle.event_laws.specs.Beginning.{KeysAreShared}
use Rattle.error_cause_laws.proofs.QueueNumbers.{sign_stands, still_stands}

-- ---- one site of several changes

module _ (sites others : List SiteState) (x y : SiteState) (x_found : site_of x.here.site sites ≡ Some x) (y_found : site_of x.here.site others ≡ Some y)
    (rest : (site : SiteName) → site ≢ x.here.site → site_of site others ≡ site_of site sites) where
  -- what a site was: the one that changed, or another one as it is
  pub data Was (site : SiteName) (w : SiteState) : Type 0 where
    Changed : site ≡ x.here.site → w ≡ y → Was site w
    Other : site ≢ x.here.site → site_of site sites ≡ Some w → Was site w

  pub was : (site : SiteName) (w : SiteState) → site_of site others ≡ Some w → Was site w
  was site w found = go (is_same_site site x.here.site) refl
    where
      go : (b : Bool) → is_same_site site x.here.site ≡ b → Was site w
      go true is =
          let same : site ≡ x.here.site = is_same_site-true site x.here.site is in
          let both : Some w ≡ Some y = sym found ∙ ap (λ (n : SiteName). site_of n others) same ∙ y_found in
          Changed same cc
      go false is =
          let apart : site ≢ x.here.site = λ same. true≢false (sym (is_same_site-refl x.here.site) ∙ ap (λ (n : SiteName). is_same_site n x.here.site) (sym same) ∙ is) in
          Other apart (sym (rest site apart) ∙ found)

-- ---- a transaction is applied

-- to a site's content
pub record Puts (schema : Schema) (x y : SiteState) (origin : SiteName) (txn : Txn) : Type 0 where
  pub effect : Effect
  pub content : IsContent schema (content_of x)
  pub sound : IsSoundTxn schema txn
  pub gives : effect_on schema origin txn (content_of x) ≡ Ok effect
  pub after : content_of y ≡ content_after schema origin txn (content_of x)

module _ (schema : Schema) (sites : List SiteState) (x y : SiteState) (entry : Option Entry) (x_well : IsWell schema x) (y_well : IsWell schema y) where
  is : x.schema ≡ schema
  is = x_well.of_schema

  pub commit_queue : (c : Commits x y entry) → queue_of y ≡ txn_of schema c.block.changes ∷ queue_of x
  commit_queue c = c.queue ∙ ap (λ (s : Schema). txn_of s c.block.changes ∷ queue_of x) is

  pub commit_puts : (c : Commits x y entry) → Puts schema x y x.here.site (txn_of schema c.block.changes)
  commit_puts c = record {
    effect = record { changes = c.block.changes; numbers = (content_of x).numbers };
    content = x_well.content;
    sound = (subst (AllByRecursion (IsSoundTxn schema)) (commit_queue c) y_well.queued).0;
    gives = subst (λ (s : Schema). effect_on s x.here.site (txn_of s c.block.changes) (content_of x) ≡ Ok (record { changes = c.block.changes; numbers = (content_of x).numbers })) is
        (x_well.fit.blocks c.statements c.block c.makes);
    after = c.content ∙ ap (λ (s : Schema). content_after s x.here.site (txn_of s c.block.changes) (content_of x)) is;
  }

  pub apply_queue : (a : Applies sites x y entry) → queue_of y ≡ with_one a.queues (txn_of schema a.effect.changes) (queue_of x)
  apply_queue a = a.queue ∙ ap (λ (s : Schema). with_one a.queues (txn_of s a.effect.changes) (queue_of x)) is

  pub apply_puts : (a : Applies sites x y entry) → IsWell schema a.origin → Puts schema x y a.origin.here.site a.txn
  apply_puts a o_well = record {
    effect = a.effect;
    content = x_well.content;
    sound = sent_holds (IsSoundTxn schema) x.here.site a.origin a.position a.txn o_well.queued a.comes.sent;
    gives = subst (λ (s : Schema). effect_on s a.origin.here.site a.txn (content_of x) ≡ Ok a.effect) is a.gives;
    after = a.content ∙ ap (λ (s : Schema). content_after s a.origin.here.site a.txn (content_of x)) is;
  }

-- ---- the row

-- where a run begins, and the row that is looked at
pub record Setting : Type 0 where
  pub schema : Schema
  pub decides : DecisionLaws
  pub rises : StampsOfABlockRise
  pub blocks : BlocksKeepForms
  pub start : Cluster
  pub fit : IsFitStart schema start
  pub meshed : SitesLinkAsDeclared schema start.sites
  pub shared : KeysAreShared schema start.sites
  pub table : ℕ
  pub convergent : is_convergent schema table ≡ true
  pub key : Cells

module _ (g : Setting) where
  abbrev pub Sites : List Event → List SiteState
  Sites events = sites_after g.schema g.decides g.rises g.blocks g.start g.fit g.meshed events

  abbrev pub sign : OneTimeWrite g.schema
  sign = insert_sign g.schema g.fit.sound g.decides g.blocks g.table g.convergent g.key

  abbrev pub row_of : List Rows → Option Cells
  row_of tables = find_row (columns_of g.schema g.table) g.key (rows_of tables g.table)

  abbrev pub Has : SiteState → Type 0
  Has x = row_of (tables_of x) ≢ None

  abbrev pub makes_of : Txn → ℕ
  makes_of = signs_of sign.count

  abbrev pub made_in : List Txn → ℕ
  made_in = signs_queued sign.count

  pub well : (events : List Event) (site : SiteName) (x : SiteState) → site_of site (Sites events) ≡ Some x → IsWell g.schema x
  well events site x found = well_after g.schema g.decides g.rises g.blocks g.start g.fit g.meshed events site x found

  new_base : (site : SiteName) (y : SiteState) → site_of site g.start.sites ≡ Some y → tables_of y ≡ y.base
  new_base site y found = ap (λ es. (journal_content y.schema y.here.site y.base es).tables) (found_all (IsNewSite g.schema) site g.start.sites y g.fit.start.sites found).journal

  -- at first each master has what some site has
  pub has_first : (site other : SiteName) (y z : SiteState) → site_of site g.start.sites ≡ Some y → site_of other g.start.sites ≡ Some z → z.here.is_master ≡ true → Has y → Has z
  has_first site other y z found z_found on there none =
      there (ap row_of (new_base site y found) ∙ g.shared site other y z g.table g.key found z_found on g.convergent (ap row_of (sym (new_base other z z_found)) ∙ none))

  begins : (site : SiteName) (y : SiteState) → site_of site g.start.sites ≡ Some y → y.here.is_master ≡ true → sign.Present y.base → IsDecided g.schema sign g.start.sites
  begins site y found on there = go (site_of sign.owner g.start.sites) refl
    where
      has : (other : SiteName) (z : SiteState) → site_of other g.start.sites ≡ Some z → z.here.is_master ≡ true → sign.Present (tables_of z)
      has other z z_found z_on = has_first site other y z found z_found z_on (λ none. there (ap row_of (sym (new_base site y found)) ∙ none))

      go : (owner : Option SiteState) → site_of sign.owner g.start.sites ≡ owner → DecidedBy g.schema sign g.start.sites owner
      go None absent = has
      go (Some z) at = has sign.owner z at

  pub signed : (events : List Event) → IsSigned g.schema sign (Sites events)
  signed events = signed_after g.schema g.decides g.rises g.blocks g.start g.fit g.meshed sign begins events

  pub turned : (e : Event) (events : List Event) → Turns (Sites events) (Sites (e ∷ events))
  turned e events = turns g.schema g.decides g.rises g.blocks g.start g.fit g.meshed e events

  -- ---- who makes it

  abbrev OfAMaster : Txn → Type 0
  OfAMaster txn = 1 ≤ makes_of txn → is_master_site g.schema sign.owner ≡ true

  all_of_masters : (events : List Event) (site : SiteName) (x : SiteState) → site_of site (Sites events) ≡ Some x → AllByRecursion OfAMaster (queue_of x)
  all_of_masters events site x found =
      queued_after g.schema g.decides g.rises g.blocks g.start g.fit g.meshed (λ x. Unit {0}) OfAMaster (λ x y same of. tt)
      (λ x statements block well of makes some.
      let made = sign.makes x.here x.stamps statements (tables_of x) block well.content.tables makes in
      ap (is_master_site g.schema) (made.own some) ∙ sym well.master ∙ master (tables_of x) x.stamps.last x.here.is_master x.here.is_master refl (made.fresh some))
      (λ events x o position txn effect comes of content sound gives some.
      of tt (let fewer = sign.onward o.here.site txn (content_of x) effect content sound gives in omega (arith, some, fewer)))
      events site x found tt
    where
      master : (tables : List Rows) (last : ℕ) (b m : Bool) → m ≡ b → (sign.Already m tables last → ⊥) → m ≡ true
      master tables last true m on fresh = on
      master tables last false m off fresh = absurd (fresh (λ on. absurd (true≢false (sym on ∙ off))))

  -- a site in whose queue it stands is its owner, a master, and has it
  pub record IsOwner (sites : List SiteState) (o : SiteState) : Type 0 where
    pub there : site_of sign.owner sites ≡ Some o
    pub named : o.here.site ≡ sign.owner
    pub master : o.here.is_master ≡ true
    pub declared : is_master_site g.schema sign.owner ≡ true
    pub has : Has o

  pub owner_of : (events : List Event) (site : SiteName) (o : SiteState) → site_of site (Sites events) ≡ Some o → 1 ≤ made_in (queue_of o) → IsOwner (Sites events) o
  owner_of events site o found some =
      record { there = there; named = named; master = on; declared = declared; has = already on }
    where
      stands : (m : ℕ) × (u : Txn) × (at_position m (queue_of o) ≡ Some u) × (1 ≤ makes_of u)
      stands = sign_stands sign.count (queue_of o) some

      declared : is_master_site g.schema sign.owner ≡ true
      declared = position_has OfAMaster stands.0 (queue_of o) stands.1 (all_of_masters events site o found) stands.2 stands.3

      comes : Comes g.schema sign (Sites events) o × IsDecided g.schema sign (Sites events)
      comes = (signed events).comes site o found some

      named : o.here.site ≡ sign.owner
      named = elim comes.0 [
        | inl own ↦ own
        | inr took ↦
            let s_well = well events sign.owner took.0 took.1.there in
            absurd (true≢false (sym declared ∙ ap (is_master_site g.schema) (sym (found_name sign.owner (Sites events) took.0 took.1.there)) ∙ sym s_well.master ∙ took.1.off))
      ]

      there : site_of sign.owner (Sites events) ≡ Some o
      there = subst (λ (n : SiteName). site_of n (Sites events) ≡ Some o) named (found_again site (Sites events) o found)

      on : o.here.is_master ≡ true
      on = (well events site o found).master ∙ ap (is_master_site g.schema) named ∙ declared

      already : o.here.is_master ≡ true → Has o
      already = subst (DecidedBy g.schema sign (Sites events)) there comes.1

  -- ---- what becomes of it

  -- what a transaction puts there was there, or the transaction makes it
  pub put_comes : (x y : SiteState) (origin : SiteName) (txn : Txn) → Puts g.schema x y origin txn → Has y → Has x ⊎ (1 ≤ makes_of txn)
  put_comes x y origin txn puts has =
      sign.comes origin txn (content_of x) puts.effect puts.content puts.sound puts.gives (subst (λ (c : Content). sign.Present c.tables) puts.after has)

  -- a site that has it makes nothing more of it
  pub makes_no_more : (events : List Event) (site : SiteName) (x : SiteState) (statements : List Statement) (block : BlockEffect) → site_of site (Sites events) ≡ Some x → Has x
      → local_effect g.schema x.here x.stamps statements (tables_of x) ≡ Ok block → 1 ≤ writes_in sign.count (map (call_of g.schema) block.changes) → ⊥
  makes_no_more events site x statements block found has makes some =
      (sign.makes x.here x.stamps statements (tables_of x) block (well events site x found).content.tables makes).fresh some (λ on. has)

  module _ (e : Event) (events : List Event) (x y : SiteState) (x_found : site_of x.here.site (Sites events) ≡ Some x) (y_found : site_of x.here.site (Sites (e ∷ events)) ≡ Some y) (moves : Moves (Sites events) x y) where
    -- what a master has it keeps
    pub keeps_row : x.here.is_master ≡ true → Has x → Has y
    keeps_row on has = (step_of g.schema sign (Sites events) (well events) x y x_found (well (e ∷ events) x.here.site y y_found) moves).given on has

    -- what a queue has it keeps
    pub keeps_made : (m : ℕ) (u : Txn) → at_position m (queue_of x) ≡ Some u → at_position m (queue_of y) ≡ Some u
    keeps_made m u at =
        let step = step_of g.schema sign (Sites events) (well events) x y x_found (well (e ∷ events) x.here.site y y_found) moves in
        subst (λ (q : List Txn). at_position m q ≡ Some u) (sym step.queue) (still_stands step.queues step.txn (queue_of x) m u at)
