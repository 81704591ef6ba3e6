-- Where a sign stands, over one change of one site: what has it has passed every transaction that makes it.
use Rattle.std.proofs.Common.{◌≡◌, ◌≢◌, ℕ, zero, suc, ◌+◌, ◌≤◌, Bool, true, false, List, Some, None, refl, sym, ap, ◌∙◌, subst, inl, inr, arith}
use mathlib.Core.Bool.{true≢false}
use Rattle.std.specs.Prelude.{Option, ◌⊎◌}
use Rattle.std.proofs.lemmas.Bool.Decides.{eqb_tells}
use Rattle.rep_values.specs.declared.name.SiteName.{SiteName}
use Rattle.rep_schema.specs.declared.schema.Schema.{Schema}
use Rattle.rep_calls.specs.declared.call.Txn.{Txn}
use Rattle.deferred_queue.specs.Streams.{at_position}
use Rattle.rep_values.specs.SiteNames.{is_same_site}
use Rattle.deferred_queue.proofs.Sites.{is_same_site-true, is_same_site-refl}
use Rattle.site_state.specs.State.{SiteState, opened_of}
use Rattle.site_state.specs.Journal.{finished, error_at}
use Rattle.site_state.specs.Contents.{tables_of}
use Rattle.site_state.specs.Streams.{queue_of, stream_in, stream_to, with_one}
use Rattle.txn_effects.specs.declared.local.Here.{Here}
use Rattle.site_events.specs.Cluster.{site_of}
use Rattle.event_laws.proofs.Sites.{found_name, found_again}
use Rattle.error_cause_laws.proofs.OneTimeWrites.{OneTimeWrite, signs_of, signs_queued, queued_one, stream_few, position_few, two_positions_few, stream_one}
use Rattle.event_laws.proofs.LinkedSites.{IsLinked}

-- a position is finished, and no error of it stands
pub record HasPassed (origin : SiteName) (position : ℕ) (x : SiteState) : Type 0 where
  pub finished_there : finished origin x.journal position ≡ true
  pub no_error : error_at origin position x.journal ≡ None

-- what isn't open sends nothing
pub none_found : (to : SiteName) (o : SiteState) (position : ℕ) (txn : Txn) → opened_of to o ≡ None → at_position position (stream_to to o) ≡ Some txn → ⊥
none_found to o position txn closed found = go (opened_of to o) closed found
  where
    go : (opened : Option ℕ) → opened ≡ None → at_position position (stream_in opened (queue_of o)) ≡ Some txn → ⊥
    go None e at = absurd (cc at)
    go (Some n) e at = absurd (cc e)

module _ (schema : Schema) (sign : OneTimeWrite schema) where
  abbrev pub made_by : Txn → ℕ
  made_by = signs_of sign.count

  abbrev pub made_in : List Txn → ℕ
  made_in = signs_queued sign.count

  abbrev pub Has : SiteState → Type 0
  Has x = sign.Present (tables_of x)

  abbrev pub IsAlready : SiteState → Type 0
  IsAlready x = sign.Already x.here.is_master (tables_of x) x.stamps.last

  -- the owner has made it or won't make it; where the owner isn't there, every master had it before any event
  abbrev pub DecidedBy : List SiteState → Option SiteState → Type 0
  DecidedBy sites None = (site : SiteName) (x : SiteState) → site_of site sites ≡ Some x → x.here.is_master ≡ true → sign.Given (tables_of x)
  DecidedBy sites (Some o) = IsAlready o

  abbrev pub IsDecided : List SiteState → Type 0
  IsDecided sites = DecidedBy sites (site_of sign.owner sites)

  -- each position of a site at which it sends the sign to another has passed there
  abbrev pub AllPassed : SiteState → SiteState → Type 0
  AllPassed o x = (position : ℕ) (txn : Txn) → at_position position (stream_to x.here.site o) ≡ Some txn → 1 ≤ made_by txn → HasPassed o.here.site position x

  -- a master took it from its owner, a snapshot site
  pub record Took (sites : List SiteState) (x s : SiteState) : Type 0 where
    pub there : site_of sign.owner sites ≡ Some s
    pub off : s.here.is_master ≡ false
    pub master : x.here.is_master ≡ true
    pub linked : opened_of x.here.site s ≢ None
    pub passed : AllPassed s x

  -- what a queue that has it comes from
  abbrev pub Comes : List SiteState → SiteState → Type 0
  Comes sites x = (x.here.site ≡ sign.owner) ⊎ ((s : SiteState) × Took sites x s)

  -- some master took it
  abbrev pub IsTaken : List SiteState → SiteState → Type 0
  IsTaken sites s = (z : SiteState) × (site_of z.here.site sites ≡ Some z) × Took sites z s

  pub record IsSigned (sites : List SiteState) : Type 0 where
    pub once : (site : SiteName) (x : SiteState) → site_of site sites ≡ Some x → made_in (queue_of x) ≤ 1
    pub comes : (site : SiteName) (x : SiteState) → site_of site sites ≡ Some x → 1 ≤ made_in (queue_of x) → Comes sites x × IsDecided sites
    pub settled : (site : SiteName) (x : SiteState) → site_of site sites ≡ Some x → x.here.is_master ≡ true → Has x → IsDecided sites
    pub known : (site other : SiteName) (x o : SiteState) → site_of site sites ≡ Some x → site_of other sites ≡ Some o → x.here.is_master ≡ true → o.here.is_master ≡ true → Has x → AllPassed o x
    pub taken : (site : SiteName) (x s : SiteState) → site_of site sites ≡ Some x → x.here.is_master ≡ true → Has x → site_of sign.owner sites ≡ Some s → s.here.is_master ≡ false
        → 1 ≤ made_in (queue_of s) → IsTaken sites s

  -- ---- one site becomes another

  -- why it has what it has then: nothing came; it made a transaction; or it applied one of another site
  pub data Reason (sites : List SiteState) (x y : SiteState) (queues : Bool) (txn : Txn) : Type 0 where
    Nothing : queues ≡ false → (x.here.is_master ≡ true → Has y → Has x) → Reason sites x y queues txn
    Own : made_by txn ≤ 1 → (1 ≤ made_by txn → (x.here.site ≡ sign.owner) × (IsAlready x → ⊥) × IsAlready y) → (x.here.is_master ≡ true → Has y → Has x ⊎ (1 ≤ made_by txn))
        → Reason sites x y queues txn
    From : (o : SiteState) (position : ℕ) (u : Txn) → site_of o.here.site sites ≡ Some o → at_position position (stream_to x.here.site o) ≡ Some u → x.here.is_master ≡ true → made_by txn ≤ made_by u
        → (o.here.is_master ≡ true → queues ≡ false) → (HasPassed o.here.site position x → ⊥) → HasPassed o.here.site position y → (Has y → Has x ⊎ (1 ≤ made_by u)) → Reason sites x y queues txn

  pub record Step (sites : List SiteState) (x y : SiteState) : Type 0 where
    pub here : y.here ≡ x.here
    pub opened : (site : SiteName) → opened_of site y ≡ opened_of site x
    pub passed : x.here.is_master ≡ true → (origin : SiteName) (position : ℕ) → HasPassed origin position x → HasPassed origin position y
    pub already : IsAlready x → IsAlready y
    pub given : x.here.is_master ≡ true → sign.Given (tables_of x) → sign.Given (tables_of y)
    pub queues : Bool
    pub txn : Txn
    pub queue : queue_of y ≡ with_one queues txn (queue_of x)
    pub reason : Reason sites x y queues txn

  module _ (sites : List SiteState) (links : (site : SiteName) (x : SiteState) → site_of site sites ≡ Some x → IsLinked x) (h : IsSigned sites) where
    -- what a stream has, the queue has
    sent_counts : (to : SiteName) (o : SiteState) (position : ℕ) (u : Txn) → at_position position (stream_to to o) ≡ Some u → 1 ≤ made_by u → 1 ≤ made_in (queue_of o)
    sent_counts to o position u at makes =
        omega (arith, makes, position_few sign.count position (stream_to to o) u at, stream_few sign.count (opened_of to o) (queue_of o))

    sent_open : (to : SiteName) (o : SiteState) (position : ℕ) (u : Txn) → at_position position (stream_to to o) ≡ Some u → opened_of to o ≢ None
    sent_open to o position u at closed = none_found to o position u closed at

    -- two positions of a stream that make it are one
    one_position : (to site : SiteName) (o : SiteState) (p q : ℕ) (t u : Txn) → site_of site sites ≡ Some o → at_position p (stream_to to o) ≡ Some t → at_position q (stream_to to o) ≡ Some u → 1 ≤ made_by t → 1 ≤ made_by u → p ≡ q
    one_position to site o p q t u found at also first second = elim (eqb_tells p q) [
      | inl same ↦ same.1
      | inr apart ↦ absurd (omega (arith, first, second, two_positions_few sign.count p q (stream_to to o) t u at also apart.1, stream_few sign.count (opened_of to o) (queue_of o), h.once site o found))
    ]

    found_same : (x o : SiteState) → site_of x.here.site sites ≡ Some x → site_of o.here.site sites ≡ Some o → x.here.site ≡ o.here.site → x ≡ o
    found_same x o at also same =
        let both : Some x ≡ Some o = sym at ∙ ap (λ (n : SiteName). site_of n sites) same ∙ also in
        cc

    masters_apart : (x o : SiteState) → x ≡ o → x.here.is_master ≡ true → o.here.is_master ≡ false → ⊥
    masters_apart x o same on off = true≢false (sym on ∙ ap (λ (z : SiteState). z.here.is_master) same ∙ off)

    owner_is : (o : SiteState) → site_of o.here.site sites ≡ Some o → o.here.site ≡ sign.owner → site_of sign.owner sites ≡ Some o
    owner_is o found same = subst (λ (n : SiteName). site_of n sites ≡ Some o) same found

    some_same : (x o : SiteState) → site_of sign.owner sites ≡ Some x → site_of sign.owner sites ≡ Some o → x ≡ o
    some_same x o at also = let both : Some x ≡ Some o = sym at ∙ also in cc

    -- a snapshot site that makes it owns it
    snapshot_owns : (o : SiteState) → site_of o.here.site sites ≡ Some o → o.here.is_master ≡ false → 1 ≤ made_in (queue_of o) → o.here.site ≡ sign.owner
    snapshot_owns o found off makes = elim (h.comes o.here.site o found makes).0 [
      | inl own ↦ own
      | inr took ↦ absurd (true≢false (sym took.1.master ∙ off))
    ]

    -- a master that has the sign has passed every position that makes it
    pub sent_has_passed : (x o : SiteState) (position : ℕ) (u : Txn) → site_of x.here.site sites ≡ Some x → site_of o.here.site sites ≡ Some o → x.here.is_master ≡ true
        → at_position position (stream_to x.here.site o) ≡ Some u → 1 ≤ made_by u → Has x → HasPassed o.here.site position x
    sent_has_passed x o position u x_found o_found master at makes has = go o.here.is_master refl
      where
        go : (b : Bool) → o.here.is_master ≡ b → HasPassed o.here.site position x
        go true on = h.known x.here.site o.here.site x o x_found o_found master on has position u at makes
        go false off =
            let counts = sent_counts x.here.site o position u at makes in
            let there = owner_is o o_found (snapshot_owns o o_found off counts) in
            let took = h.taken x.here.site x o x_found master has there off counts in
            let home : took.0.here.site ≡ x.here.site = (links o.here.site o o_found).one off took.0.here.site x.here.site took.2.linked (sent_open x.here.site o position u at) in
            subst (λ (z : SiteState). HasPassed o.here.site position z) (found_same took.0 x took.1 x_found home)
            (took.2.passed position u (subst (λ (n : SiteName). at_position position (stream_to n o) ≡ Some u) (sym home) at) makes)

    -- ---- one change

    same_name : (a b : SiteName) → (a ≡ b) ⊎ (a ≢ b)
    same_name a b = go (is_same_site a b) refl
      where
        go : (c : Bool) → is_same_site a b ≡ c → (a ≡ b) ⊎ (a ≢ b)
        go true is = inl (is_same_site-true a b is)
        go false is = inr (λ same. true≢false (sym (is_same_site-refl b) ∙ ap (λ (n : SiteName). is_same_site n b) (sym same) ∙ is))

    module _ (others : List SiteState) (x y : SiteState) (x_found : site_of x.here.site sites ≡ Some x) (y_found : site_of x.here.site others ≡ Some y)
        (rest : (site : SiteName) → site ≢ x.here.site → site_of site others ≡ site_of site sites) (step : Step sites x y) where
      -- what becomes of a site
      abbrev Follows : SiteState → SiteState → Type 0
      Follows z w = ((z ≡ x) × (w ≡ y)) ⊎ ((w ≡ z) × (z.here.site ≢ x.here.site))

      record Earlier (site : SiteName) (w : SiteState) : Type 0 where
        old : SiteState
        found : site_of site sites ≡ Some old
        again : site_of old.here.site sites ≡ Some old
        follows : Follows old w

      earlier : (site : SiteName) (w : SiteState) → site_of site others ≡ Some w → Earlier site w
      earlier site w found = elim (same_name site x.here.site) [
        | inl same ↦
            let both : Some w ≡ Some y = sym found ∙ ap (λ (n : SiteName). site_of n others) same ∙ y_found in
            record { old = x; found = ap (λ (n : SiteName). site_of n sites) same ∙ x_found; again = x_found; follows = inl (refl, cc) }
        | inr apart ↦
            let there : site_of site sites ≡ Some w = sym (rest site apart) ∙ found in
            let named : w.here.site ≡ site = found_name site sites w there in
            record { old = w; found = there; again = found_again site sites w there; follows = inr (refl, λ same. apart (sym named ∙ same)) }
      ]

      later : (site : SiteName) (z : SiteState) → site_of site sites ≡ Some z → (w : SiteState) × (site_of site others ≡ Some w) × Follows z w
      later site z found = elim (same_name site x.here.site) [
        | inl same ↦
            let both : Some z ≡ Some x = sym found ∙ ap (λ (n : SiteName). site_of n sites) same ∙ x_found in
            (y, ap (λ (n : SiteName). site_of n others) same ∙ y_found, inl (cc, refl))
        | inr apart ↦ (z, rest site apart ∙ found, inr (refl, λ same. apart (sym (found_name site sites z found) ∙ same)))
      ]

      -- ---- what follows is as it was, or more

      here_same : (z w : SiteState) → Follows z w → w.here ≡ z.here
      here_same z w (inl is) = rw (is.0, is.1) step.here
      here_same z w (inr is) = rw is.0 refl

      opened_same : (z w : SiteState) → Follows z w → (site : SiteName) → opened_of site w ≡ opened_of site z
      opened_same z w (inl is) site = rw (is.0, is.1) (step.opened site)
      opened_same z w (inr is) site = rw is.0 refl

      passed_later : (z w : SiteState) → Follows z w → z.here.is_master ≡ true → (origin : SiteName) (position : ℕ) → HasPassed origin position z → HasPassed origin position w
      passed_later z w (inl is) master origin position passed = rw is.1 (step.passed (rw (← is.0) master) origin position (rw (← is.0) passed))
      passed_later z w (inr is) master origin position passed = rw is.0 passed

      master_before : (z w : SiteState) → Follows z w → w.here.is_master ≡ true → z.here.is_master ≡ true
      master_before z w follows master = sym (ap (λ (here : Here). here.is_master) (here_same z w follows)) ∙ master

      -- what a stream has then it had, or it is the new transaction
      sent_before : (z w : SiteState) → Follows z w → (to : SiteName) (position : ℕ) (u : Txn) → at_position position (stream_to to w) ≡ Some u
          → (at_position position (stream_to to z) ≡ Some u) ⊎ ((z ≡ x) × (step.queues ≡ true) × (u ≡ step.txn))
      sent_before z w (inr is) to position u at = inl (rw is.0 at at)
      sent_before z w (inl is) to position u at =
          let queued : at_position position (stream_in (opened_of to x) (with_one step.queues step.txn (queue_of x))) ≡ Some u =
          ap (at_position position) (sym (ap (λ o. stream_in o (with_one step.queues step.txn (queue_of x))) (step.opened to)) ∙ ap (stream_in (opened_of to y)) (sym step.queue)
          ∙ ap (stream_to to) (sym is.1)) ∙ at in
          elim (stream_one (opened_of to x) step.queues step.txn (queue_of x) position u queued) [
            | inl old ↦ inl (ap (λ (v : SiteState). at_position position (stream_to to v)) is.0 ∙ old)
            | inr new ↦ inr (is.0, new.0, new.1)
          ]

      decided_later : IsDecided sites → IsDecided others
      decided_later settled = go (site_of sign.owner sites) refl settled
        where
          by : (o w : SiteState) → Follows o w → IsAlready o → IsAlready w
          by o w (inl is) already = rw is.1 (step.already (rw (← is.0) already))
          by o w (inr is) already = rw is.0 already

          given_later : (z w : SiteState) → Follows z w → w.here.is_master ≡ true → (z.here.is_master ≡ true → sign.Given (tables_of z)) → sign.Given (tables_of w)
          given_later z w (inl is) master all = rw is.1 (step.given (sym (ap (λ (here : Here). here.is_master) step.here) ∙ rw is.1 at master)
              (rw (← is.0) (all (rw is.0 (sym (ap (λ (here : Here). here.is_master) step.here) ∙ rw is.1 at master)))))
          given_later z w (inr is) master all = rw is.0 (all (rw is.0 at master))

          go : (o : Option SiteState) → site_of sign.owner sites ≡ o → DecidedBy sites o → IsDecided others
          go (Some o) there already = let now = later sign.owner o there in rw now.1 (by o now.0 now.2 already)
          go None absent all = rw absent_later (λ site w found master. let e = earlier site w found in given_later e.old w e.follows master (all site e.old e.found))
            where
              absent_later : site_of sign.owner others ≡ None
              absent_later = elim (same_name sign.owner x.here.site) [
                | inl same ↦ let both : None ≡ Some x = sym absent ∙ ap (λ (n : SiteName). site_of n sites) same ∙ x_found in absurd (cc both)
                | inr apart ↦ rest sign.owner apart ∙ absent
              ]

      -- ---- the new transaction

      -- a site that is settled makes nothing new of its own
      decided_makes_none : IsDecided sites → 1 ≤ made_by step.txn → x.here.site ≡ sign.owner → (IsAlready x → ⊥) → ⊥
      decided_makes_none settled makes own fresh = fresh (subst (DecidedBy sites) (owner_is x x_found own) settled)

      -- one that applies what makes it, of a snapshot site, hadn't it in its queue
      module _ (o : SiteState) (position : ℕ) (u : Txn) (o_found : site_of o.here.site sites ≡ Some o) (sent : at_position position (stream_to x.here.site o) ≡ Some u) (master : x.here.is_master ≡ true)
          (before : HasPassed o.here.site position x → ⊥) (makes : 1 ≤ made_by u) where
        counts : 1 ≤ made_in (queue_of o)
        counts = sent_counts x.here.site o position u sent makes

        owner_sends : o.here.is_master ≡ false → site_of sign.owner sites ≡ Some o
        owner_sends off = owner_is o o_found (snapshot_owns o o_found off counts)

        not_queued : o.here.is_master ≡ false → 1 ≤ made_in (queue_of x) → ⊥
        not_queued off queued = elim (h.comes x.here.site x x_found queued).0 [
          | inl own ↦ masters_apart x o (some_same x o (owner_is x x_found own) (owner_sends off)) master off
          | inr took ↦
              let same : took.0 ≡ o = some_same took.0 o took.1.there (owner_sends off) in
              before (rw same at took.1.passed position u sent makes)
        ]

      -- what is queued newly and makes it is the first
      first_queued : step.queues ≡ true → 1 ≤ made_by step.txn → 1 ≤ made_in (queue_of x) → ⊥
      first_queued queued makes had = go step.reason
        where
          go : Reason sites x y step.queues step.txn → ⊥
          go (Nothing none less) = true≢false (sym queued ∙ none)
          go (Own once own has) = decided_makes_none (h.comes x.here.site x x_found had).1 makes (own makes).0 (own makes).1
          go (From o position u o_found sent master few plain before after has) = by o.here.is_master refl
            where
              by : (b : Bool) → o.here.is_master ≡ b → ⊥
              by true on = true≢false (sym queued ∙ plain on)
              by false off = not_queued o position u o_found sent master before (omega (arith, makes, few)) off had

      -- and no master has the sign then
      nobody_has : (w : SiteState) → site_of w.here.site sites ≡ Some w → w.here.is_master ≡ true → Has w → step.queues ≡ true → 1 ≤ made_by step.txn → ⊥
      nobody_has w found on has queued makes = go step.reason
        where
          go : Reason sites x y step.queues step.txn → ⊥
          go (Nothing none less) = true≢false (sym queued ∙ none)
          go (Own once own more) = decided_makes_none (h.settled w.here.site w found on has) makes (own makes).0 (own makes).1
          go (From o position u o_found sent master few plain before after more) = by o.here.is_master refl
            where
              u_makes : 1 ≤ made_by u
              u_makes = omega (arith, makes, few)

              by : (b : Bool) → o.here.is_master ≡ b → ⊥
              by true is = true≢false (sym queued ∙ plain is)
              by false is =
                  let there = owner_sends o position u o_found sent master before u_makes is in
                  let took = h.taken w.here.site w o found on has there is (counts o position u o_found sent master before u_makes) in
                  let home : took.0.here.site ≡ x.here.site = (links o.here.site o o_found).one is took.0.here.site x.here.site took.2.linked (sent_open x.here.site o position u sent) in
                  let same : took.0 ≡ x = found_same took.0 x took.1 x_found home in
                  before (rw same at (took.2.passed position u (subst (λ (n : SiteName). at_position position (stream_to n o) ≡ Some u) (sym home) sent) u_makes))

      -- ---- what was taken stays so

      all_passed_later : (z w s v : SiteState) → Follows z w → Follows s v → z.here.is_master ≡ true → (s ≡ x → step.queues ≡ true → 1 ≤ made_by step.txn → ⊥) → AllPassed s z → AllPassed v w
      all_passed_later z w s v follows sends master none passed position u at makes =
          let to : w.here.site ≡ z.here.site = ap (λ (here : Here). here.site) (here_same z w follows) in
          let from : v.here.site ≡ s.here.site = ap (λ (here : Here). here.site) (here_same s v sends) in
          elim (sent_before s v sends w.here.site position u at) [
            | inl old ↦ rw from (passed_later z w follows master s.here.site position (passed position u (rw to at old) makes))
            | inr new ↦ absurd (none new.0 new.1 (rw (← new.2) makes))
          ]

      took_later : (z w s v : SiteState) → Follows z w → Follows s v → site_of sign.owner others ≡ Some v → IsDecided sites → Took sites z s → Took others w v
      took_later z w s v follows sends there settled took = record {
        there = there;
        off = ap (λ (here : Here). here.is_master) (here_same s v sends) ∙ took.off;
        master = ap (λ (here : Here). here.is_master) (here_same z w follows) ∙ took.master;
        linked = λ closed. took.linked (sym (opened_same s v sends z.here.site) ∙ ap (λ (here : Here). opened_of here.site v) (sym (here_same z w follows)) ∙ closed);
        passed = all_passed_later z w s v follows sends took.master (λ same queued makes. go (rw same at took.there) (rw same at took.off) queued makes step.reason) took.passed;
      }
        where
          go : site_of sign.owner sites ≡ Some x → x.here.is_master ≡ false → step.queues ≡ true → 1 ≤ made_by step.txn → Reason sites x y step.queues step.txn → ⊥
          go owns off queued makes (Nothing none less) = true≢false (sym queued ∙ none)
          go owns off queued makes (Own once own has) = decided_makes_none settled makes (own makes).0 (own makes).1
          go owns off queued makes (From o position u o_found sent master few plain before after has) = true≢false (sym master ∙ off)

      comes_later : (z w : SiteState) → Follows z w → IsDecided sites → Comes sites z → Comes others w
      comes_later z w follows settled (inl own) = inl (ap (λ (here : Here). here.site) (here_same z w follows) ∙ own)
      comes_later z w follows settled (inr took) =
          let now = later sign.owner took.0 took.1.there in
          inr (now.0, took_later z w took.0 now.0 follows now.2 now.1 settled took.1)

      taken_later : (s v : SiteState) → Follows s v → site_of sign.owner others ≡ Some v → IsDecided sites → IsTaken sites s → IsTaken others v
      taken_later s v sends there settled taken =
          let now = later taken.0.here.site taken.0 taken.1 in
          let named : now.0.here.site ≡ taken.0.here.site = ap (λ (here : Here). here.site) (here_same taken.0 now.0 now.2) in
          (now.0, ap (λ (n : SiteName). site_of n others) named ∙ now.1, took_later taken.0 now.0 s v now.2 sends there settled taken.2)

      -- ---- all of it

      y_again : site_of y.here.site others ≡ Some y
      y_again = ap (λ (here : Here). site_of here.site others) step.here ∙ y_found

      queued_more : made_in (queue_of y) ≤ made_by step.txn + made_in (queue_of x)
      queued_more = rw step.queue (queued_one sign.count step.queues step.txn (queue_of x))

      queued_same : step.queues ≡ false → queue_of y ≡ queue_of x
      queued_same none = step.queue ∙ ap (λ b. with_one b step.txn (queue_of x)) none

      some_or_none : (n : ℕ) → (1 ≤ n) ⊎ (n ≡ 0)
      some_or_none zero = inr refl
      some_or_none (suc n) = inl (omega arith)

      once_later : made_in (queue_of y) ≤ 1
      once_later = go step.reason (some_or_none (made_in (queue_of x))) (some_or_none (made_by step.txn))
        where
          before_once : made_in (queue_of x) ≤ 1
          before_once = h.once x.here.site x x_found

          -- with this much new
          by : (b : Bool) → step.queues ≡ b → made_by step.txn ≤ 1 → (1 ≤ made_in (queue_of x)) ⊎ (made_in (queue_of x) ≡ 0) → (1 ≤ made_by step.txn) ⊎ (made_by step.txn ≡ 0) → made_in (queue_of y) ≤ 1
          by false none few had makes = rw (queued_same none) before_once
          by true queued few had (inr none) = omega (arith, queued_more, before_once, none)
          by true queued few (inr none) (inl makes) = omega (arith, queued_more, none, few)
          by true queued few (inl had) (inl makes) = absurd (first_queued queued makes had)

          go : Reason sites x y step.queues step.txn → (1 ≤ made_in (queue_of x)) ⊎ (made_in (queue_of x) ≡ 0) → (1 ≤ made_by step.txn) ⊎ (made_by step.txn ≡ 0) → made_in (queue_of y) ≤ 1
          go (Nothing none less) had makes = rw (queued_same none) before_once
          go (Own once own has) had makes = by step.queues refl once had makes
          go (From o position u o_found sent master few plain before after has) had makes = by step.queues refl
              (omega (arith, few, position_few sign.count position (stream_to x.here.site o) u sent, stream_few sign.count (opened_of x.here.site o) (queue_of o), h.once o.here.site o o_found)) had makes

      own_decides : (x.here.site ≡ sign.owner) → IsAlready y → IsDecided others
      own_decides own already = subst (DecidedBy others) (sym (ap (λ (n : SiteName). site_of n others) (sym own) ∙ y_found)) already

      -- a snapshot site's transaction that a master has passed now
      takes_now : (o : SiteState) (position : ℕ) (u : Txn) → site_of o.here.site sites ≡ Some o → at_position position (stream_to x.here.site o) ≡ Some u → x.here.is_master ≡ true
          → (HasPassed o.here.site position x → ⊥) → HasPassed o.here.site position y → 1 ≤ made_by u → o.here.is_master ≡ false → Took others y o
      takes_now o position u o_found sent master before after makes off = record {
        there = rest sign.owner (λ same. masters_apart x o (some_same x o (ap (λ (n : SiteName). site_of n sites) same ∙ x_found) there) master off) ∙ there;
        off = off;
        master = ap (λ (here : Here). here.is_master) step.here ∙ master;
        linked = λ closed. sent_open x.here.site o position u sent (ap (λ (here : Here). opened_of here.site o) (sym step.here) ∙ closed);
        passed = λ other v at also.
            let to : at_position other (stream_to x.here.site o) ≡ Some v = ap (λ (here : Here). at_position other (stream_to here.site o)) (sym step.here) ∙ at in
            subst (λ p. HasPassed o.here.site p y) (one_position x.here.site o.here.site o position other u v o_found sent to makes also) after;
      }
        where
          there : site_of sign.owner sites ≡ Some o
          there = owner_sends o position u o_found sent master before makes off

      comes_now : 1 ≤ made_in (queue_of y) → Comes others y × IsDecided others
      comes_now has = go (some_or_none (made_in (queue_of x)))
        where
          by : made_in (queue_of x) ≡ 0 → (b : Bool) → step.queues ≡ b → Reason sites x y step.queues step.txn → Comes others y × IsDecided others
          by none false same reason = let empty : 1 ≤ made_in (queue_of x) = rw (queued_same same) at has in absurd (omega (arith, none, empty))
          by none true queued (Nothing off less) = absurd (true≢false (sym queued ∙ off))
          by none true queued (Own once own more) =
              let is = own (omega (arith, queued_more, none, has)) in
              (inl (ap (λ (here : Here). here.site) step.here ∙ is.0), own_decides is.0 is.2)
          by none true queued (From o position u o_found sent master few plain before after more) = of_master o.here.is_master refl
            where
              makes : 1 ≤ made_by u
              makes = omega (arith, queued_more, none, has, few)

              of_master : (b : Bool) → o.here.is_master ≡ b → Comes others y × IsDecided others
              of_master true on = absurd (true≢false (sym queued ∙ plain on))
              of_master false off = (
                inr (o, takes_now o position u o_found sent master before after makes off),
                decided_later (h.comes o.here.site o o_found (counts o position u o_found sent master before makes)).1,
              )

          go : (1 ≤ made_in (queue_of x)) ⊎ (made_in (queue_of x) ≡ 0) → Comes others y × IsDecided others
          go (inl had) = let was = h.comes x.here.site x x_found had in (comes_later x y (inl (refl, refl)) was.1 was.0, decided_later was.1)
          go (inr none) = by none step.queues refl step.reason

      -- ---- a master that has it now

      -- it had it, or made it, or applied what makes it
      data Gains : Type 0 where
        Had : Has x → Gains
        Made : 1 ≤ made_by step.txn → (x.here.site ≡ sign.owner) → IsAlready y → Gains
        Applied : (o : SiteState) (position : ℕ) (u : Txn) → site_of o.here.site sites ≡ Some o → at_position position (stream_to x.here.site o) ≡ Some u
            → (HasPassed o.here.site position x → ⊥) → HasPassed o.here.site position y → 1 ≤ made_by u → Gains

      gains : x.here.is_master ≡ true → Has y → Gains
      gains master has = go step.reason
        where
          go : Reason sites x y step.queues step.txn → Gains
          go (Nothing none less) = Had (less master has)
          go (Own once own more) = elim (more master has) [
            | inl had ↦ Had had
            | inr makes ↦ Made makes (own makes).0 (own makes).2
          ]
          go (From o position u o_found sent on few plain before after more) = elim (more has) [
            | inl had ↦ Had had
            | inr makes ↦ Applied o position u o_found sent before after makes
          ]

      decided_now : (site : SiteName) (w : SiteState) → site_of site others ≡ Some w → w.here.is_master ≡ true → Has w → IsDecided others
      decided_now site w found on has = go (earlier site w found)
        where
          by : x.here.is_master ≡ true → Gains → IsDecided others
          by master (Had had) = decided_later (h.settled x.here.site x x_found master had)
          by master (Made makes own already) = own_decides own already
          by master (Applied o position u o_found sent before after makes) = decided_later (h.comes o.here.site o o_found (counts o position u o_found sent master before makes)).1

          go : Earlier site w → IsDecided others
          go e = either e.follows
            where
              either : Follows e.old w → IsDecided others
              either (inr same) = decided_later (h.settled site e.old e.found (rw same.0 at on) (rw same.0 at has))
              either (inl now) =
                  let master : x.here.is_master ≡ true = sym (ap (λ (here : Here). here.is_master) step.here) ∙ ap (λ (v : SiteState). v.here.is_master) (sym now.1) ∙ on in
                  by master (gains master (subst Has now.1 has))

      -- two masters that send it are one
      one_sender : (z o : SiteState) → site_of z.here.site sites ≡ Some z → site_of o.here.site sites ≡ Some o → z.here.is_master ≡ true → o.here.is_master ≡ true
          → 1 ≤ made_in (queue_of z) → 1 ≤ made_in (queue_of o) → z ≡ o
      one_sender z o z_found o_found on also first second = go (h.comes z.here.site z z_found first).0 (h.comes o.here.site o o_found second).0
        where
          go : Comes sites z → Comes sites o → z ≡ o
          go (inl own) (inl other) = found_same z o z_found o_found (own ∙ sym other)
          go (inl own) (inr took) = absurd (masters_apart z took.0 (some_same z took.0 (owner_is z z_found own) took.1.there) on took.1.off)
          go (inr took) (inl other) = absurd (masters_apart o took.0 (some_same o took.0 (owner_is o o_found other) took.1.there) also took.1.off)
          go (inr took) (inr other) =
              let same : other.0 ≡ took.0 = some_same other.0 took.0 other.1.there took.1.there in
              let here : opened_of o.here.site took.0 ≢ None = subst (λ (s : SiteState). opened_of o.here.site s ≢ None) same other.1.linked in
              found_same z o z_found o_found ((links took.0.here.site took.0 (ap (λ (n : SiteName). site_of n sites) (found_name sign.owner sites took.0 took.1.there) ∙ took.1.there)).one took.1.off z.here.site o.here.site took.1.linked here)

      -- a master that sends it to the one that has it newly is the one that it came from
      sent_now : (master : x.here.is_master ≡ true) (z : SiteState) → site_of z.here.site sites ≡ Some z → z.here.site ≢ x.here.site → z.here.is_master ≡ true → Gains
          → (position : ℕ) (u : Txn) → at_position position (stream_to x.here.site z) ≡ Some u → 1 ≤ made_by u → HasPassed z.here.site position y
      sent_now master z found apart on (Had had) position u at makes = passed_later x y (inl (refl, refl)) master z.here.site position (h.known x.here.site z.here.site x z x_found found master on had position u at makes)
      sent_now master z found apart on (Made made own already) position u at makes = elim (h.comes z.here.site z found (sent_counts x.here.site z position u at makes)).0 [
        | inl other ↦ absurd (apart (other ∙ sym own))
        | inr took ↦ absurd (masters_apart x took.0 (some_same x took.0 (owner_is x x_found own) took.1.there) master took.1.off)
      ]
      sent_now master z found apart on (Applied o other v o_found sent before after makes_v) position u at makes = go o.here.is_master refl
        where
          of_z : 1 ≤ made_in (queue_of z)
          of_z = sent_counts x.here.site z position u at makes

          go : (b : Bool) → o.here.is_master ≡ b → HasPassed z.here.site position y
          go true also =
              let same : z ≡ o = one_sender z o found o_found on also of_z (counts o other v o_found sent master before makes_v) in
              let there : at_position position (stream_to x.here.site o) ≡ Some u = ap (λ (s : SiteState). at_position position (stream_to x.here.site s)) (sym same) ∙ at in
              rw (same, one_position x.here.site o.here.site o position other u v o_found there sent makes makes_v) after
          go false off = elim (h.comes z.here.site z found of_z).0 [
            | inl own ↦ absurd (masters_apart z o (some_same z o (owner_is z found own) (owner_sends o other v o_found sent master before makes_v off)) on off)
            | inr took ↦
                let same : took.0 ≡ o = some_same took.0 o took.1.there (owner_sends o other v o_found sent master before makes_v off) in
                let here : opened_of z.here.site o ≢ None = subst (λ (s : SiteState). opened_of z.here.site s ≢ None) same took.1.linked in
                absurd (apart ((links o.here.site o o_found).one off z.here.site x.here.site here (sent_open x.here.site o other v sent)))
          ]

      some_has : (site : SiteName) (w : SiteState) → site_of site others ≡ Some w → w.here.is_master ≡ true → Has w
          → ((old : SiteState) × (site_of site sites ≡ Some old) × Follows old w × (old.here.is_master ≡ true) × Has old) ⊎ ((w ≡ y) × (x.here.is_master ≡ true) × Gains)
      some_has site w found on has = go (earlier site w found)
        where
          go : Earlier site w → ((old : SiteState) × (site_of site sites ≡ Some old) × Follows old w × (old.here.is_master ≡ true) × Has old) ⊎ ((w ≡ y) × (x.here.is_master ≡ true) × Gains)
          go e = either e.follows
            where
              either : Follows e.old w → ((old : SiteState) × (site_of site sites ≡ Some old) × Follows old w × (old.here.is_master ≡ true) × Has old) ⊎ ((w ≡ y) × (x.here.is_master ≡ true) × Gains)
              either (inr same) = inl (e.old, e.found, e.follows, rw same.0 at on, rw same.0 at has)
              either (inl now) =
                  let master : x.here.is_master ≡ true = sym (ap (λ (here : Here). here.is_master) step.here) ∙ ap (λ (v : SiteState). v.here.is_master) (sym now.1) ∙ on in
                  inr (now.1, master, gains master (subst Has now.1 has))

      known_old : (site other : SiteName) (old w z v : SiteState) → site_of site sites ≡ Some old → Follows old w → old.here.is_master ≡ true → Has old → site_of other sites ≡ Some z → Follows z v → z.here.is_master ≡ true → AllPassed v w
      known_old site other old w z v found follows on has z_found sends also =
          all_passed_later old w z v follows sends on
          (λ same queued makes. nobody_has old (found_again site sites old found) on has queued makes)
          (h.known site other old z found z_found on also has)

      known_now : (site other : SiteName) (w v : SiteState) → site_of site others ≡ Some w → site_of other others ≡ Some v → w.here.is_master ≡ true → v.here.is_master ≡ true → Has w → AllPassed v w
      known_now site other w v found v_found on also has position u at makes = elim (some_has site w found on has) [
        | inl old ↦
            let e = earlier other v v_found in
            known_old site other old.0 w e.old v old.1 old.2 old.3 old.4 e.found e.follows (master_before e.old v e.follows also) position u at makes
        | inr new ↦ fresh new.0 new.1 new.2 (earlier other v v_found)
      ]
        where
          fresh : w ≡ y → x.here.is_master ≡ true → Gains → Earlier other v → HasPassed v.here.site position w
          fresh same master gained e = either e.follows
            where
              to_x : at_position position (stream_to x.here.site v) ≡ Some u
              to_x = ap (λ (here : Here). at_position position (stream_to here.site v)) (sym step.here) ∙ ap (λ (z : SiteState). at_position position (stream_to z.here.site v)) (sym same) ∙ at

              either : Follows e.old v → HasPassed v.here.site position w
              either (inl now) = absurd (none_found x.here.site v position u (ap (opened_of x.here.site) now.1 ∙ step.opened x.here.site ∙ (links x.here.site x x_found).own master) to_x)
              either (inr stays) = rw (same, stays.0) (sent_now master e.old e.again stays.1 (rw stays.0 at also) gained position u (rw stays.0 at to_x) makes)

      -- ---- what a snapshot site made

      taken_now : (site : SiteName) (w v : SiteState) → site_of site others ≡ Some w → w.here.is_master ≡ true → Has w → site_of sign.owner others ≡ Some v → v.here.is_master ≡ false
          → 1 ≤ made_in (queue_of v) → IsTaken others v
      taken_now site w v found on has there off counts_v = elim (some_has site w found on has) [
        | inl old ↦ of_old old.0 (found_again site sites old.0 old.1) old.3 old.4 (earlier sign.owner v there)
        | inr new ↦ of_new new.1 new.2 (earlier sign.owner v there)
      ]
        where
          off_before : (e : Earlier sign.owner v) → e.old.here.is_master ≡ false
          off_before e = sym (ap (λ (here : Here). here.is_master) (here_same e.old v e.follows)) ∙ off

          -- where a master had it, what makes it was in the queue already
          counted : (e : Earlier sign.owner v) → (old : SiteState) → site_of old.here.site sites ≡ Some old → old.here.is_master ≡ true → Has old → 1 ≤ made_in (queue_of e.old)
          counted e old found on had = go e.follows
            where
              go : Follows e.old v → 1 ≤ made_in (queue_of e.old)
              go (inr stays) = rw stays.0 at counts_v
              go (inl now) = subst (λ (s : SiteState). 1 ≤ made_in (queue_of s)) (sym now.0) (elim (some_or_none (made_in (queue_of x))) [
                | inl had_x ↦ had_x
                | inr none ↦ absurd (by none step.queues refl)
              ])
                where
                  by : made_in (queue_of x) ≡ 0 → (b : Bool) → step.queues ≡ b → ⊥
                  by none false same = let empty : 1 ≤ made_in (queue_of x) = rw (now.1, queued_same same) at counts_v in omega (arith, none, empty)
                  by none true queued = nobody_has old found on had queued (let more : 1 ≤ made_in (queue_of y) = rw now.1 at counts_v in omega (arith, queued_more, none, more))

          of_old : (old : SiteState) → site_of old.here.site sites ≡ Some old → old.here.is_master ≡ true → Has old → Earlier sign.owner v → IsTaken others v
          of_old old found on had e =
              taken_later e.old v e.follows there (h.settled old.here.site old found on had)
              (h.taken old.here.site old e.old found on had e.found (off_before e) (counted e old found on had))

          of_new : x.here.is_master ≡ true → Gains → Earlier sign.owner v → IsTaken others v
          of_new master (Had had) e = of_old x x_found master had e
          of_new master (Made makes own already) e = absurd (masters_apart x e.old (some_same x e.old (owner_is x x_found own) e.found) master (off_before e))
          of_new master (Applied o position u o_found sent before after makes) e = by o.here.is_master refl
            where
              counts_o : 1 ≤ made_in (queue_of o)
              counts_o = counts o position u o_found sent master before makes

              by : (b : Bool) → o.here.is_master ≡ b → IsTaken others v
              by true is = elim (h.comes o.here.site o o_found counts_o).0 [
                | inl own ↦ absurd (masters_apart o e.old (some_same o e.old (owner_is o o_found own) e.found) is (off_before e))
                | inr took ↦
                    let same : took.0 ≡ e.old = some_same took.0 e.old took.1.there e.found in
                    taken_later e.old v e.follows there (h.comes o.here.site o o_found counts_o).1 (o, o_found, subst (Took sites o) same took.1)
              ]
              by false is =
                  let same : o ≡ e.old = some_same o e.old (owner_sends o position u o_found sent master before makes is) e.found in
                  let took = takes_now o position u o_found sent master before after makes is in
                  let one : o ≡ v = (let both : Some o ≡ Some v = sym took.there ∙ there in cc) in
                  (y, y_again, subst (Took others y) one took)

      pub step_signed : IsSigned others
      step_signed = record {
        once = λ site w found. once_at site w (earlier site w found);
        comes = λ site w found has. comes_at site w (earlier site w found) has;
        settled = decided_now;
        known = known_now;
        taken = taken_now;
      }
        where
          once_at : (site : SiteName) (w : SiteState) → Earlier site w → made_in (queue_of w) ≤ 1
          once_at site w e = go e.follows
            where
              go : Follows e.old w → made_in (queue_of w) ≤ 1
              go (inl now) = rw now.1 once_later
              go (inr same) = rw same.0 (h.once site e.old e.found)

          comes_at : (site : SiteName) (w : SiteState) → Earlier site w → 1 ≤ made_in (queue_of w) → Comes others w × IsDecided others
          comes_at site w e has = go e.follows
            where
              go : Follows e.old w → Comes others w × IsDecided others
              go (inl now) = rw now.1 (comes_now (rw now.1 at has))
              go (inr same) =
                  let was = h.comes site e.old e.found (rw same.0 at has) in
                  (comes_later e.old w (inr same) was.1 was.0, decided_later was.1)
