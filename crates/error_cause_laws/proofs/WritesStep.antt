-- What happens at a site is a step for each sign.
use Rattle.std.proofs.Common.{◌≡◌, ℕ, ◌+◌, ◌≤◌, Bool, true, false, cond, List, [], ◌∷◌, Some, None, Ok, refl, sym, ap, ◌∙◌, subst}
use Rattle.std.specs.Prelude.{Option, ◌⊎◌, ◌==◌, nat_lt, length}
use Rattle.std.specs.List.{AllByRecursion}
use Rattle.rep_values.specs.declared.name.SiteName.{SiteName}
use Rattle.rep_schema.specs.declared.schema.Schema.{Schema}
use Rattle.rep_schema.specs.Tables.{Rows}
use Rattle.rep_schema.specs.Putting.{after_changes}
use Rattle.rep_calls.specs.declared.call.Txn.{Txn}
use Rattle.txn_effects.specs.Calls.{Effect}
use Rattle.txn_effects.specs.Contents.{Content, IsContent, effect_on, content_after}
use Rattle.txn_effects.specs.declared.local.Here.{Here}
use Rattle.txn_effects.specs.Locals.{local_effect}
use Rattle.deferred_queue.specs.Streams.{at_position}
use Rattle.site_state.specs.State.{SiteState, opened_of}
use Rattle.rep_schema.specs.Sites.{is_master_site}
use Rattle.site_state.specs.Contents.{content_of, tables_of, txn_of}
use Rattle.site_state.specs.Streams.{with_one, queued_behind, stream_in, queue_of, stream_to}
use Rattle.site_events.specs.Cluster.{site_of}
use Rattle.event_laws.specs.Fitting.{FitsHere}
use Rattle.convergence_laws.specs.Journals.{IsSoundTxn}
use Rattle.error_cause_laws.proofs.OneTimeWrites.{OneTimeWrite}
use Rattle.error_cause_laws.proofs.WritingOnce.{Step, Nothing, Own, From, Has, IsAlready, made_by}
use Rattle.error_cause_laws.proofs.Moving.{Moves, Happened, Stayed, Erred, Committed, Applied, Commits, Applies}

-- a site as the schema declares it, with tables, and with transactions queued that fit and keep the forms
pub record IsWell (schema : Schema) (x : SiteState) : Type 0 where
  pub of_schema : x.schema ≡ schema
  pub content : IsContent schema (content_of x)
  pub queued : AllByRecursion (IsSoundTxn schema) (queue_of x)
  pub master : x.here.is_master ≡ is_master_site schema x.here.site
  pub fit : FitsHere x

-- what holds of each transaction in a queue holds of one that is sent
module _ (P : Txn → Type 0) where
  one_holds : (b : Bool) (txn : Txn) (txns : List Txn) → P txn → AllByRecursion P txns → AllByRecursion P (with_one b txn txns)
  one_holds true txn txns is all = (is, all)
  one_holds false txn txns is all = all

  behind_holds : (opened : ℕ) (queue : List Txn) → AllByRecursion P queue → AllByRecursion P (queued_behind opened queue)
  behind_holds opened [] all = tt
  behind_holds opened (t ∷ ts) all = one_holds (nat_lt opened (length ts + 1)) t (queued_behind opened ts) all.0 (behind_holds opened ts all.1)

  stream_holds : (opened : Option ℕ) (queue : List Txn) → AllByRecursion P queue → AllByRecursion P (stream_in opened queue)
  stream_holds None queue all = tt
  stream_holds (Some n) queue all = behind_holds n queue all

  position_holds : (position : ℕ) (txns : List Txn) (txn : Txn) → AllByRecursion P txns → at_position position txns ≡ Some txn → P txn
  position_holds position [] txn all found = absurd (cc found)
  position_holds position (t ∷ ts) txn all found = go (position == length ts + 1) found (position_holds position ts txn all.1)
    where
      go : (b : Bool) → cond b (Some t) (at_position position ts) ≡ Some txn → (at_position position ts ≡ Some txn → P txn) → P txn
      go true found older = let same : t ≡ txn = cc in subst P same all.0
      go false found older = older found

  pub sent_holds : (to : SiteName) (o : SiteState) (position : ℕ) (txn : Txn) → AllByRecursion P (queue_of o) → at_position position (stream_to to o) ≡ Some txn → P txn
  sent_holds to o position txn all found = position_holds position (stream_to to o) txn (stream_holds (opened_of to o) (queue_of o) all) found

no_txn : Txn
no_txn = record { calls = [] }

module _ (schema : Schema) (sign : OneTimeWrite schema) (sites : List SiteState) (well : (site : SiteName) (x : SiteState) → site_of site sites ≡ Some x → IsWell schema x) (x y : SiteState)
    (x_found : site_of x.here.site sites ≡ Some x) (y_well : IsWell schema y) (moves : Moves sites x y) where
  x_well : IsWell schema x
  x_well = well x.here.site x x_found

  -- with the same rows, or none that count
  same_already : (x.here.is_master ≡ true → content_of y ≡ content_of x) → IsAlready schema sign x → IsAlready schema sign y
  same_already content already = subst (λ (here : Here). sign.Already here.is_master (tables_of y) y.stamps.last) (sym moves.here) (go x.here.is_master refl already)
    where
      go : (b : Bool) → x.here.is_master ≡ b → sign.Already b (tables_of x) x.stamps.last → sign.Already b (tables_of y) y.stamps.last
      go true on is = sign.later true (tables_of y) x.stamps.last y.stamps.last moves.last (subst (λ (c : Content). sign.Already true c.tables x.stamps.last) (sym (content on)) is)
      go false off is = sign.later false (tables_of y) x.stamps.last y.stamps.last moves.last (sign.elsewhere (tables_of x) (tables_of y) x.stamps.last is)

  -- where nothing is queued and no row comes
  quiet_step : queue_of y ≡ queue_of x → (x.here.is_master ≡ true → content_of y ≡ content_of x) → Step schema sign sites x y
  quiet_step queue content = record {
    here = moves.here;
    opened = moves.opened;
    passed = λ master. moves.passed;
    already = same_already content;
    given = λ master given. subst (λ (c : Content). sign.Given c.tables) (sym (content master)) given;
    queues = false;
    txn = no_txn;
    queue = queue;
    reason = Nothing refl (λ master has. subst (λ (c : Content). sign.Present c.tables) (content master) has);
  }

  -- a transaction that is applied
  module _ (origin : SiteName) (txn : Txn) (effect : Effect) (sound : IsSoundTxn schema txn) (gives : effect_on schema origin txn (content_of x) ≡ Ok effect) (content : content_of y ≡ content_after schema origin txn (content_of x)) where
    applied_already : IsAlready schema sign x → IsAlready schema sign y
    applied_already already = subst (λ (here : Here). sign.Already here.is_master (tables_of y) y.stamps.last) (sym moves.here)
        (sign.later x.here.is_master (tables_of y) x.stamps.last y.stamps.last moves.last
        (subst (λ (c : Content). sign.Already x.here.is_master c.tables x.stamps.last) (sym content) (sign.stays origin txn (content_of x) effect x_well.content sound gives x.here.is_master x.stamps.last already)))

    applied_given : sign.Given (tables_of x) → sign.Given (tables_of y)
    applied_given given = subst (λ (c : Content). sign.Given c.tables) (sym content) (sign.still origin txn (content_of x) effect x_well.content sound gives given)

    applied_comes : Has schema sign y → Has schema sign x ⊎ (1 ≤ made_by schema sign txn)
    applied_comes has = sign.comes origin txn (content_of x) effect x_well.content sound gives (subst (λ (c : Content). sign.Present c.tables) content has)

  committed_step : Commits x y moves.entry → Step schema sign sites x y
  committed_step c =
      let is : x.schema ≡ schema = x_well.of_schema in
      let queue : queue_of y ≡ txn_of schema c.block.changes ∷ queue_of x = c.queue ∙ ap (λ (s : Schema). txn_of s c.block.changes ∷ queue_of x) is in
      let sound : IsSoundTxn schema (txn_of schema c.block.changes) = (subst (AllByRecursion (IsSoundTxn schema)) queue y_well.queued).0 in
      let effect : Effect = record { changes = c.block.changes; numbers = (content_of x).numbers } in
      let gives : effect_on schema x.here.site (txn_of schema c.block.changes) (content_of x) ≡ Ok effect =
      subst (λ (s : Schema). effect_on s x.here.site (txn_of s c.block.changes) (content_of x) ≡ Ok effect) is (x_well.fit.blocks c.statements c.block c.makes) in
      let content : content_of y ≡ content_after schema x.here.site (txn_of schema c.block.changes) (content_of x) =
      c.content ∙ ap (λ (s : Schema). content_after s x.here.site (txn_of s c.block.changes) (content_of x)) is in
      let tables : tables_of y ≡ after_changes schema c.block.changes (tables_of x) = ap (λ (d : Content). d.tables) content ∙ (rw gives refl) in
      let makes = sign.makes x.here x.stamps c.statements (tables_of x) c.block x_well.content.tables
      (subst (λ (s : Schema). local_effect s x.here x.stamps c.statements (tables_of x) ≡ Ok c.block) is c.makes) in
      record {
        here = moves.here;
        opened = moves.opened;
        passed = λ master. moves.passed;
        already = applied_already x.here.site (txn_of schema c.block.changes) effect sound gives content;
        given = λ master. applied_given x.here.site (txn_of schema c.block.changes) effect sound gives content;
        queues = true;
        txn = txn_of schema c.block.changes;
        queue = queue;
        reason = Own makes.once
            (λ one. (
              sym (makes.own one),
              makes.fresh one,
              subst (λ (here : Here). sign.Already here.is_master (tables_of y) y.stamps.last) (sym moves.here)
                  (subst (λ (n : ℕ). sign.Already x.here.is_master (tables_of y) n) (sym c.last) (subst (λ (ts : List Rows). sign.Already x.here.is_master ts c.block.stamps.last) (sym tables) (makes.made one))),
            ))
            (λ master. applied_comes x.here.site (txn_of schema c.block.changes) effect sound gives content);
      }

  applied_step : Applies sites x y moves.entry → Step schema sign sites x y
  applied_step a =
      let is : x.schema ≡ schema = x_well.of_schema in
      let o_well = well a.origin.here.site a.origin a.comes.there in
      let sound : IsSoundTxn schema a.txn = sent_holds (IsSoundTxn schema) x.here.site a.origin a.position a.txn o_well.queued a.comes.sent in
      let gives : effect_on schema a.origin.here.site a.txn (content_of x) ≡ Ok a.effect = subst (λ (s : Schema). effect_on s a.origin.here.site a.txn (content_of x) ≡ Ok a.effect) is a.gives in
      let content : content_of y ≡ content_after schema a.origin.here.site a.txn (content_of x) = a.content ∙ ap (λ (s : Schema). content_after s a.origin.here.site a.txn (content_of x)) is in
      record {
        here = moves.here;
        opened = moves.opened;
        passed = λ master. moves.passed;
        already = applied_already a.origin.here.site a.txn a.effect sound gives content;
        given = λ master. applied_given a.origin.here.site a.txn a.effect sound gives content;
        queues = a.queues;
        txn = txn_of schema a.effect.changes;
        queue = a.queue ∙ ap (λ (s : Schema). with_one a.queues (txn_of s a.effect.changes) (queue_of x)) is;
        reason = From a.origin a.position a.txn a.comes.there a.comes.sent a.master (sign.onward a.origin.here.site a.txn (content_of x) a.effect x_well.content sound gives)
            (λ master. a.onward (ap (λ (s : Schema). is_master_site s a.origin.here.site) is ∙ sym o_well.master ∙ master)) a.comes.before a.after
            (applied_comes a.origin.here.site a.txn a.effect sound gives content);
      }

  pub step_of : Step schema sign sites x y
  step_of = go moves.what
    where
      go : Happened sites x y moves.entry → Step schema sign sites x y
      go (Stayed s) = quiet_step s.queue s.content
      go (Erred e) = quiet_step e.queue (λ master. e.content)
      go (Committed c) = committed_step c
      go (Applied a) = applied_step a
