-- What an event at one site owes the snapshots of all, and that they go on to keep up with their masters.
use Rattle.std.proofs.Common.{◌≡◌, List, [], ◌∷◌, Bool, true, false, cond, Some, None, refl, sym, ap, ◌∙◌, inl, inr, subst}
use Rattle.std.specs.Prelude.{◌⊎◌, Option, option_map}
use Rattle.rep_values.specs.declared.name.SiteName.{SiteName}
use Rattle.rep_schema.specs.declared.schema.Schema.{Schema}
use Rattle.rep_schema.specs.Tables.{AreTables}
use Rattle.rep_values.specs.SiteNames.{is_same_site}
use Rattle.deferred_queue.proofs.Sites.{is_same_site-true}
use Rattle.txn_effects.specs.declared.local.Here.{Here}
use Rattle.snapshot_query.specs.declared.snapshot.Snapshot.{Snapshot}
use Rattle.site_state.specs.State.{SiteState}
use Rattle.rep_schema.specs.Sites.{is_among}
use Rattle.site_state.specs.Contents.{tables_of}
use Rattle.site_events.specs.Cluster.{site_of, at_site}
use Rattle.site_events.specs.Events.{master_of, found_site}
use Rattle.event_laws.proofs.Sites.{KeepsHere, found_name}
use Rattle.site_state.specs.Fits.{SnapshotsApart}
use Rattle.event_laws.proofs.Moves.{all_weaker, Moves, apart_moves, none_moves}
use Rattle.event_laws.proofs.SnapshotsKeepUp.{KeepsUp, AllKeepUp, master_moves, own_moves}

-- ---- the site of a name, where one site changed

same_name : (change : SiteState → SiteState) → KeepsHere change → (x : SiteState) (name : SiteName) → is_same_site (change x).here.site name ≡ is_same_site x.here.site name
same_name change keeps x name = ap (λ (h : Here). is_same_site h.site name) (keeps x)

pub site_of-at_site : (name other : SiteName) (change : SiteState → SiteState) (xs : List SiteState) → KeepsHere change
    → site_of other (at_site name change xs) ≡ cond (is_same_site name other) (option_map change (site_of other xs)) (site_of other xs)
site_of-at_site name other change [] keeps = go (is_same_site name other)
  where
    go : (b : Bool) → None ≡ cond b (option_map change None) None
    go true = refl
    go false = refl
site_of-at_site name other change (x ∷ xs) keeps = go (is_same_site x.here.site name) refl (is_same_site x.here.site other) refl (site_of-at_site name other change xs keeps)
  where
    changed : (d : Bool) → cond d (Some (change x)) (site_of other xs) ≡ cond d (option_map change (cond d (Some x) (site_of other xs))) (cond d (Some x) (site_of other xs))
    changed true = refl
    changed false = refl

    kept : (c : Bool) → is_same_site name other ≡ c → is_same_site x.here.site name ≡ false → is_same_site x.here.site other ≡ true → Some x ≡ cond c (Some (change x)) (Some x)
    kept true is isnt here = absurd (let same : name ≡ other = is_same_site-true name other is in cc (isnt, here, same))
    kept false is isnt here = refl

    go : (b : Bool) → is_same_site x.here.site name ≡ b → (d : Bool) → is_same_site x.here.site other ≡ d
        → site_of other (at_site name change xs) ≡ cond (is_same_site name other) (option_map change (site_of other xs)) (site_of other xs)
        → site_of other (cond b (change x ∷ xs) (x ∷ at_site name change xs))
        ≡ cond (is_same_site name other) (option_map change (cond (is_same_site x.here.site other) (Some x) (site_of other xs))) (cond (is_same_site x.here.site other) (Some x) (site_of other xs))
    go true is d is_d later =
        let same : is_same_site x.here.site other ≡ is_same_site name other = ap (λ (n : SiteName). is_same_site n other) (is_same_site-true x.here.site name is) in
        rw (same_name change keeps x other, same) (changed (is_same_site name other))
    go false is true is_d later = rw is_d (kept (is_same_site name other) refl is is_d)
    go false is false is_d later = rw is_d later

-- ---- what holds

-- each site that is there has tables of the schema
abbrev pub HaveTables : Schema → List SiteState → Type 0
HaveTables schema sites = (name : SiteName) (x : SiteState) → site_of name sites ≡ Some x → AreTables schema (tables_of x)

module _ (schema : Schema) where
  -- the master of a site, where it is there
  abbrev pub master_in : List SiteState → SiteState → Option SiteState
  master_in sites x = found_site sites (master_of schema x.here.site)

  -- the snapshots of a site keep up with their master; where it isn't there, there are none
  abbrev pub KeepUpWith : List SiteName → Option SiteState → SiteState → Type 0
  KeepUpWith begun None x = x.snapshots ≡ []
  KeepUpWith begun (Some m) x = AllKeepUp schema begun m x x.snapshots

  pub record SiteKeepsUp (sites : List SiteState) (begun : List SiteName) (x : SiteState) : Type 0 where
    pub apart : SnapshotsApart x.snapshots
    pub snapshots : KeepUpWith begun (master_in sites x) x

  abbrev pub KeepsUpAt : List SiteState → List SiteName → Option SiteState → Type 0
  KeepsUpAt sites begun None = Unit {0}
  KeepsUpAt sites begun (Some x) = SiteKeepsUp sites begun x

  abbrev pub SitesKeepUp : List SiteState → List SiteName → Type 0
  SitesKeepUp sites begun = (site : SiteName) → KeepsUpAt sites begun (site_of site sites)

  pub found_keeps_up : (sites : List SiteState) (begun : List SiteName) (site : SiteName) (x : SiteState) → SitesKeepUp sites begun → site_of site sites ≡ Some x → SiteKeepsUp sites begun x
  found_keeps_up sites begun site x all at_x = subst (KeepsUpAt sites begun) at_x (all site)

  -- ---- what an event at one site owes

  pub record Keeps (sites : List SiteState) (begun later : List SiteName) (name : SiteName) (change : SiteState → SiteState) : Type 0 where
    pub here : KeepsHere change
    pub apart : (x : SiteState) → site_of name sites ≡ Some x → SnapshotsApart x.snapshots → SnapshotsApart (change x).snapshots
    pub none : (x : SiteState) → site_of name sites ≡ Some x → x.snapshots ≡ [] → (change x).snapshots ≡ []
    pub master : (m x : SiteState) (s : Snapshot) → site_of name sites ≡ Some m → KeepsUp schema begun m x s → KeepsUp schema later (change m) x s
    pub other : (m x : SiteState) (s : Snapshot) → is_same_site name m.here.site ≡ false → KeepsUp schema begun m x s → KeepsUp schema later m x s
    pub own : (x m n : SiteState) → site_of name sites ≡ Some x → master_in sites x ≡ Some m → SnapshotsApart x.snapshots → AllKeepUp schema begun m x x.snapshots → (n ≡ m) ⊎ (n ≡ change m)
        → AllKeepUp schema later n x x.snapshots → AllKeepUp schema later n (change x) (change x).snapshots

  pub master_in-here : (sites : List SiteState) (x y : SiteState) → y.here ≡ x.here → master_in sites y ≡ master_in sites x
  master_in-here sites x y here = ap (λ (h : Here). found_site sites (master_of schema h.site)) here

  module _ (sites : List SiteState) (begun later : List SiteName) (name : SiteName) (change : SiteState → SiteState) (k : Keeps sites begun later name change) (all : SitesKeepUp sites begun) where
    abbrev changed : List SiteState
    changed = at_site name change sites

    -- the master changed or another site
    with_changed : (x : SiteState) → KeepUpWith begun (master_in sites x) x → KeepUpWith later (master_in changed x) x
    with_changed x up = go (master_of schema x.here.site) up
      where
        by : (master : SiteName) (b : Bool) → is_same_site name master ≡ b → (o : Option SiteState) → site_of master sites ≡ o → KeepUpWith begun o x → KeepUpWith later (cond b (option_map change o) o) x
        by master true is None there up = up
        by master false is None there up = up
        by master true is (Some m) there up = all_weaker (KeepsUp schema begun m x) (KeepsUp schema later (change m) x) x.snapshots
            (λ s. k.master m x s (ap (λ (n : SiteName). site_of n sites) (is_same_site-true name master is) ∙ there)) up
        by master false is (Some m) there up = all_weaker (KeepsUp schema begun m x) (KeepsUp schema later m x) x.snapshots
            (λ s. k.other m x s (ap (is_same_site name) (found_name master sites m there) ∙ is)) up

        go : (master : Option SiteName) → KeepUpWith begun (found_site sites master) x → KeepUpWith later (found_site changed master) x
        go None up = up
        go (Some master) up = rw (site_of-at_site name master change sites k.here) (by master (is_same_site name master) refl (site_of master sites) refl up)

    -- and so did the site itself
    own_changed : (x : SiteState) → site_of name sites ≡ Some x → SnapshotsApart x.snapshots → KeepUpWith begun (master_in sites x) x → KeepUpWith later (master_in changed x) x → KeepUpWith later (master_in changed x) (change x)
    own_changed x at_x apart up new = go (master_of schema x.here.site) refl up new
      where
        by : (b : Bool) (o : Option SiteState) → master_in sites x ≡ o → KeepUpWith begun o x → KeepUpWith later (cond b (option_map change o) o) x → KeepUpWith later (cond b (option_map change o) o) (change x)
        by true None there up new = k.none x at_x new
        by false None there up new = k.none x at_x new
        by true (Some m) there up new = k.own x m (change m) at_x there apart up (inr refl) new
        by false (Some m) there up new = k.own x m m at_x there apart up (inl refl) new

        go : (master : Option SiteName) → master_of schema x.here.site ≡ master → KeepUpWith begun (found_site sites master) x → KeepUpWith later (found_site changed master) x → KeepUpWith later (found_site changed master) (change x)
        go None is up new = k.none x at_x new
        go (Some master) is up new = rw (site_of-at_site name master change sites k.here)
            (by (is_same_site name master) (site_of master sites) (ap (found_site sites) is) up (rw (← site_of-at_site name master change sites k.here) new))

    pub keep_up_changed : SitesKeepUp changed later
    keep_up_changed site = rw (site_of-at_site name site change sites k.here) (go (is_same_site name site) refl (site_of site sites) refl (all site))
      where
        go : (b : Bool) → is_same_site name site ≡ b → (o : Option SiteState) → site_of site sites ≡ o → KeepsUpAt sites begun o → KeepsUpAt changed later (cond b (option_map change o) o)
        go true is None at_x held = tt
        go false is None at_x held = tt
        go true is (Some x) at_x held =
            let there : site_of name sites ≡ Some x = ap (λ (n : SiteName). site_of n sites) (is_same_site-true name site is) ∙ at_x in
            record {
              apart = k.apart x there held.apart;
              snapshots = subst (λ (o : Option SiteState). KeepUpWith later o (change x)) (sym (master_in-here changed x (change x) (k.here x))) (own_changed x there held.apart held.snapshots (with_changed x held.snapshots));
            }
        go false is (Some x) at_x held = record { apart = held.apart; snapshots = with_changed x held.snapshots }

  -- ---- a call that moves as it should

  pub moves_keep : (sites : List SiteState) (begun : List SiteName) (name : SiteName) (change : SiteState → SiteState) → HaveTables schema sites → KeepsHere change
      → ((x : SiteState) → site_of name sites ≡ Some x → Moves schema (is_among begun name) x (change x)) → Keeps sites begun begun name change
  moves_keep sites begun name change have here moves = record {
    here = here;
    apart = λ x at_x. apart_moves schema (is_among begun name) x (change x) (moves x at_x);
    none = λ x at_x. none_moves schema (is_among begun name) x (change x) (moves x at_x);
    master = λ m x s at_m. master_moves schema begun m (change m) x s
        (subst (λ (n : SiteName). Moves schema (is_among begun n) m (change m)) (sym (found_name name sites m at_m)) (moves m at_m)) (have name m at_m);
    other = λ m x s isnt up. up;
    own = λ x m n at_x there apart up was new. own_moves schema begun (is_among begun name) n x (change x) (moves x at_x) (have name x at_x) new;
  }
