-- Where some master has a row: its insert stands in its owner's queue, or every master has it.
use Rattle.std.proofs.Common.{◌≡◌, ◌≢◌, ℕ, ◌+◌, ◌≤◌, Bool, true, false, List, [], ◌∷◌, Some, None, refl, sym, ap, ◌∙◌, subst, inl, inr, arith}
use mathlib.Core.Bool.{true≢false}
use Rattle.std.specs.Prelude.{◌⊎◌}
use Rattle.rep_values.specs.declared.name.SiteName.{SiteName}
use Rattle.rep_schema.specs.Tables.{Rows}
use Rattle.rep_calls.specs.declared.call.Txn.{Txn}
use Rattle.txn_effects.specs.Contents.{Content}
use Rattle.txn_effects.specs.declared.local.Here.{Here}
use Rattle.deferred_queue.specs.Streams.{at_position}
use Rattle.rep_values.specs.SiteNames.{is_same_site}
use Rattle.deferred_queue.proofs.Sites.{is_same_site-true, is_same_site-refl}
use Rattle.site_state.specs.State.{SiteState, opened_of}
use Rattle.site_state.specs.Contents.{tables_of, txn_of}
use Rattle.site_state.specs.Streams.{queue_of, stream_to}
use Rattle.site_state.specs.Joining.{site_open}
use Rattle.site_events.specs.Cluster.{site_of}
use Rattle.site_events.specs.Joins.{with_joined}
use Rattle.site_events.specs.Events.{Event}
use Rattle.event_laws.proofs.DeclaredSites.{joins_from_master}
use Rattle.convergence_laws.proofs.SitesAt.{WasJoined, was_joined}
use Rattle.event_laws.proofs.JoinedSites.{found_opened, copied_tables}
use Rattle.convergence_laws.proofs.SitesAt as joining
use Rattle.error_cause_laws.proofs.OneTimeWrites.{position_few, stream_few}
use Rattle.error_cause_laws.proofs.Moving.{Moves, Happened, Stayed, Erred, Committed, Applied}
use Rattle.error_cause_laws.proofs.Turning.{Turns}
use Rattle.error_cause_laws.proofs.Turning as turning
use Rattle.error_cause_laws.proofs.QueueNumbers.{sign_stands}
use Rattle.error_cause_laws.proofs.OneRow.{Setting, Was, was, Changed, Other, commit_queue, commit_puts, Sites, sign, Has, makes_of, made_in, well, turned, has_first, owner_of, put_comes, keeps_row, keeps_made}
use Rattle.error_cause_laws.proofs.QueuedNeeds.{Made, applied_puts}

module _ (g : Setting) where
  abbrev After : List Event → List SiteState
  After events = Sites g events

  abbrev owner : SiteName
  owner = (sign g).owner

  -- the row's insert is queued
  abbrev pub IsMade : List SiteState → Type 0
  IsMade sites = (o : SiteState) × (m : ℕ) × (u : Txn) × Made g sites o m u

  -- where a master has the row, its insert is queued, or each master has it
  abbrev pub IsMadeOrShared : List SiteState → Type 0
  IsMadeOrShared sites = (a b : SiteName) (s x : SiteState) → site_of a sites ≡ Some s → site_of b sites ≡ Some x → s.here.is_master ≡ true → x.here.is_master ≡ true → Has g s → IsMade sites ⊎ Has g x

  -- a queue that has it is its owner's
  made_by : (events : List Event) (site : SiteName) (o : SiteState) → site_of site (After events) ≡ Some o → 1 ≤ made_in g (queue_of o) → IsMade (After events)
  made_by events site o found some =
      let is = owner_of g events site o found some in
      let stands = sign_stands (sign g).count (queue_of o) some in
      (o, stands.0, stands.1, record { there = is.there; at = stands.2; makes_it = stands.3 })

  module _ (e : Event) (events : List Event) (x y : SiteState) (x_found : site_of x.here.site (After events) ≡ Some x) (y_found : site_of x.here.site (After (e ∷ events)) ≡ Some y)
      (rest : (site : SiteName) → site ≢ x.here.site → site_of site (After (e ∷ events)) ≡ site_of site (After events)) (moves : Moves (After events) x y) where
    made_later : IsMade (After events) → IsMade (After (e ∷ events))
    made_later (o, m, u, made) = go (is_same_site owner x.here.site) refl
      where
        go : (b : Bool) → is_same_site owner x.here.site ≡ b → IsMade (After (e ∷ events))
        go true is =
            let own : owner ≡ x.here.site = is_same_site-true owner x.here.site is in
            let both : Some o ≡ Some x = sym made.there ∙ ap (λ (n : SiteName). site_of n (After events)) own ∙ x_found in
            let one : o ≡ x = cc in (
              y,
              m,
              u,
              record {
                there = ap (λ (n : SiteName). site_of n (After (e ∷ events))) own ∙ y_found;
                at = keeps_made g e events x y x_found y_found moves m u (subst (λ (v : SiteState). at_position m (queue_of v) ≡ Some u) one made.at);
                makes_it = made.makes_it;
              },
            )
        go false is =
            let apart : owner ≢ x.here.site = λ same. true≢false (sym (is_same_site-refl owner) ∙ ap (λ (n : SiteName). is_same_site owner n) same ∙ is) in
            (o, m, u, record { there = rest owner apart ∙ made.there; at = made.at; makes_it = made.makes_it })

    x_on : y.here.is_master ≡ true → x.here.is_master ≡ true
    x_on on = ap (λ (h : Here). h.is_master) (sym moves.here) ∙ on

    -- what has it then had it, or its insert is queued
    came : y.here.is_master ≡ true → Has g y → IsMade (After (e ∷ events)) ⊎ Has g x
    came on has = go moves.what
      where
        go : Happened (After events) x y moves.entry → IsMade (After (e ∷ events)) ⊎ Has g x
        go (Stayed s) = inr (subst (λ (c : Content). (sign g).Present c.tables) (s.content (x_on on)) has)
        go (Erred f) = inr (subst (λ (c : Content). (sign g).Present c.tables) f.content has)
        go (Committed c) =
            let x_well = well g events x.here.site x x_found in
            let y_well = well g (e ∷ events) x.here.site y y_found in
            let queue : queue_of y ≡ txn_of g.schema c.block.changes ∷ queue_of x = commit_queue g.schema (After events) x y moves.entry x_well y_well c in
            elim (put_comes g x y x.here.site (txn_of g.schema c.block.changes) (commit_puts g.schema (After events) x y moves.entry x_well y_well c) has) [
              | inl was ↦ inr was
              | inr makes ↦ inl (made_by (e ∷ events) x.here.site y y_found (subst (λ (q : List Txn). 1 ≤ made_in g q) (sym queue) (more (makes_of g (txn_of g.schema c.block.changes)) (made_in g (queue_of x)) makes)))
            ]
          where
            more : (n k : ℕ) → 1 ≤ n → 1 ≤ n + k
            more n k some = omega (arith, some)
        go (Applied a) = elim (put_comes g x y a.origin.here.site a.txn (applied_puts g e events x y x_found y_found moves a) has) [
          | inl was ↦ inr was
          | inr makes ↦ inl (made_later (made_by events a.origin.here.site a.origin a.comes.there
              (omega (arith, makes, position_few (sign g).count a.position (stream_to x.here.site a.origin) a.txn a.comes.sent, stream_few (sign g).count (opened_of x.here.site a.origin) (queue_of a.origin)))))
        ]

    turned_shared : IsMadeOrShared (After events) → IsMadeOrShared (After (e ∷ events))
    turned_shared before a b s z s_found z_found s_on z_on has = from (was (After events) (After (e ∷ events)) x y x_found y_found rest a s s_found)
      where
        -- the other one has it
        to : (c : SiteName) (r : SiteState) → site_of c (After events) ≡ Some r → r.here.is_master ≡ true → Has g r → Was (After events) (After (e ∷ events)) x y x_found y_found rest b z → IsMade (After (e ∷ events)) ⊎ Has g z
        to c r r_found r_on r_has (Changed own same) =
            let on : y.here.is_master ≡ true = subst (λ (v : SiteState). v.here.is_master ≡ true) same z_on in
            elim (before c x.here.site r x r_found x_found r_on (x_on on) r_has) [
              | inl made ↦ inl (made_later made)
              | inr x_has ↦ inr (subst (Has g) (sym same) (keeps_row g e events x y x_found y_found moves (x_on on) x_has))
            ]
        to c r r_found r_on r_has (Other apart there) = elim (before c b r z r_found there r_on z_on r_has) [
          | inl made ↦ inl (made_later made)
          | inr z_has ↦ inr z_has
        ]

        z_was : Was (After events) (After (e ∷ events)) x y x_found y_found rest b z
        z_was = was (After events) (After (e ∷ events)) x y x_found y_found rest b z z_found

        from : Was (After events) (After (e ∷ events)) x y x_found y_found rest a s → IsMade (After (e ∷ events)) ⊎ Has g z
        from (Changed own same) =
            let on : y.here.is_master ≡ true = subst (λ (v : SiteState). v.here.is_master ≡ true) same s_on in
            elim (came on (subst (Has g) same has)) [
              | inl made ↦ inl made
              | inr x_has ↦ to x.here.site x x_found (x_on on) x_has z_was
            ]
        from (Other apart there) = to a s there s_on has z_was

  -- ---- a master joins

  module _ (sites : List SiteState) (joins : SiteName) (source : SiteState) (absent : site_of joins sites ≡ None) (source_found : site_of source.here.site sites ≡ Some source) (source_on : source.here.is_master ≡ true) where
    -- a master then has the rows of one that was there
    record WasMaster (w : SiteState) : Type 0 where
      name : SiteName
      old : SiteState
      found : site_of name sites ≡ Some old
      on : old.here.is_master ≡ true
      rows : tables_of w ≡ tables_of old

    was_master : (name : SiteName) (w : SiteState) → w.here.is_master ≡ true → WasJoined sites source joins name w → WasMaster w
    was_master name _ on (joining.Old z there) = record { name = name; old = z; found = there; on = on; rows = refl }
    was_master name _ on (joining.New named) = record { name = source.here.site; old = source; found = source_found; on = source_on; rows = copied_tables sites source joins }

    joined_shared : IsMadeOrShared sites → IsMadeOrShared (with_joined sites source joins)
    joined_shared before a b s z s_found z_found s_on z_on has =
        let s_was = was_master a s s_on (was_joined sites source joins a s s_found) in
        let z_was = was_master b z z_on (was_joined sites source joins b z z_found) in
        elim (before s_was.name z_was.name s_was.old z_was.old s_was.found z_was.found s_was.on z_was.on (subst (λ (ts : List Rows). (sign g).Present ts) s_was.rows has)) [
          | inl made ↦ inl (site_open joins made.0, made.1, made.2, record { there = found_opened sites source joins owner made.0 absent made.3.there; at = made.3.at; makes_it = made.3.makes_it })
          | inr z_has ↦ inr (subst (λ (ts : List Rows). (sign g).Present ts) (sym z_was.rows) z_has)
        ]

  pub is_made_or_shared : (events : List Event) → IsMadeOrShared (After events)
  is_made_or_shared [] = λ a b s x s_found x_found s_on x_on has. inr (has_first g a b s x s_found x_found x_on has)
  is_made_or_shared (e ∷ es) = go (turned g e es) (is_made_or_shared es)
    where
      go : Turns (After es) (After (e ∷ es)) → IsMadeOrShared (After es) → IsMadeOrShared (After (e ∷ es))
      go (turning.Same same) before = subst IsMadeOrShared (sym same) before
      go (turning.One x y x_found y_found rest moves) before = turned_shared e es x y x_found y_found rest moves before
      go (turning.Joins joins source absent source_found may same) before =
          subst IsMadeOrShared (sym same) (joined_shared (After es) joins source absent source_found (joins_from_master (After es) source joins may) before)
