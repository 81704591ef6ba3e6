-- Sites that were there are there, and have journalled what they had journalled, and maybe more.
use Rattle.std.proofs.Common.{◌≡◌, List, [], ◌∷◌, ◌++◌, true, Some, None, refl, sym, ap, ◌∙◌}
use Rattle.std.specs.Prelude.{Option}
use Rattle.std.specs.Option.{option_map}
use mathlib.Core.Bool.{true≢false}
use Rattle.rep_values.specs.declared.name.SiteName.{SiteName}
use Rattle.site_state.specs.declared.entry.Entry.{Entry}
use Rattle.site_state.specs.State.{SiteState}
use Rattle.site_state.specs.Joining.{site_open}
use Rattle.site_events.specs.Cluster.{Cluster, site_of}
use Rattle.site_events.specs.Events.{Event, run}
use Rattle.site_events.specs.Joins.{copied}
use Rattle.event_laws.specs.Marks.{journal_in}
use Rattle.event_laws.proofs.Sites.{at_split, found_or, site_of-joined}
use Rattle.event_laws.proofs.NewSites.{copied_is_new}
use Rattle.convergence_laws.proofs.Turns.{Turn, Same, Own, Did, Left, Renewed, Becomes, Stays, Turns, Joins, happens_becomes}
use Rattle.convergence_laws.proofs.SitesAt.{was_there, turn_frame, turns_here, Entered, Nothing, One, turn_enters, WasJoined, Old, New, was_joined}

-- a site has all that the site of its name had journalled, on the same base rows where it is a master
pub record HasAll (before : Option SiteState) (y : SiteState) : Type 0 where
  pub newer : List Entry
  pub journal : y.journal ≡ newer ++ journal_in before
  pub base : (x : SiteState) → before ≡ Some x → y.here.is_master ≡ true → y.base ≡ x.base

-- and no site is gone
pub record HaveAll (earlier sites : List SiteState) : Type 0 where
  pub absent : (name : SiteName) → site_of name sites ≡ None → site_of name earlier ≡ None
  pub each : (name : SiteName) (y : SiteState) → site_of name sites ≡ Some y → HasAll (site_of name earlier) y

turn_base : (x y : SiteState) → Turn x y → y.here.is_master ≡ true → y.base ≡ x.base
turn_base x y (Same f base journal last) master = base
turn_base x y (Own f base number statements block is journal last) master = base
turn_base x y (Did f base e origin position txn effect cause gives journal last) master = base
turn_base x y (Left f base e left follows journal last) master = base
turn_base x y (Renewed f plain moment journal last) master = absurd (true≢false (sym master ∙ ap (λ h. h.is_master) f.here ∙ plain))

turn_has : (before : Option SiteState) (x y : SiteState) → Turn x y → HasAll before x → HasAll before y
turn_has before x y turn has = by (turn_enters x y turn) refl
  where
    still : (z : SiteState) → before ≡ Some z → y.here.is_master ≡ true → y.base ≡ z.base
    still z is master = turn_base x y turn master ∙ has.base z is (ap (λ h. h.is_master) (sym (turn_frame x y turn).here) ∙ master)

    by : {journal : List Entry} → Entered x journal → y.journal ≡ journal → HasAll before y
    by Nothing is = record { newer = has.newer; journal = is ∙ has.journal; base = still }
    by (One e follows) is = record { newer = e ∷ has.newer; journal = is ∙ ap (λ es. e ∷ es) has.journal; base = still }

pub becomes_all : (earlier sites others : List SiteState) → Becomes sites others → HaveAll earlier sites → HaveAll earlier others
becomes_all earlier sites _ Stays have = have
becomes_all earlier sites _ (Turns at change turns) have = record {
  absent = λ name none. have.absent name (at_split (λ (o : Option SiteState). o ≡ None → site_of name sites ≡ None) at name change sites (turns_here change turns) (λ same e. unmapped (site_of name sites) e) (λ e. e) none);
  each = λ name y found. let was = was_there at change turns sites name y found in turn_has (site_of name earlier) was.site y was.turn (have.each name was.site was.found);
}
  where
    unmapped : (o : Option SiteState) → option_map change o ≡ None → o ≡ None
    unmapped None e = refl
    unmapped (Some x) e = cc
becomes_all earlier sites _ (Joins site from source absent there may) have = record {
  absent = λ name none. have.absent name (unmapped name (site_of name sites) (sym (site_of-joined name (site_open site) sites (copied sites source site) (λ x. refl)) ∙ none));
  each = λ name y found. by name y (was_joined sites source site name y found);
}
  where
    unmapped : (name : SiteName) (o : Option SiteState) → found_or (site_of name (copied sites source site ∷ [])) (option_map (site_open site) o) ≡ None → o ≡ None
    unmapped name None e = refl
    unmapped name (Some x) e = cc

    none_there : (name : SiteName) → name ≡ site → site_of name earlier ≡ None
    none_there name is = ap (λ n. site_of n earlier) is ∙ have.absent site absent

    by : (name : SiteName) (y : SiteState) → WasJoined sites source site name y → HasAll (site_of name earlier) y
    by name _ (Old x found) = let has = have.each name x found in record { newer = has.newer; journal = has.journal; base = has.base }
    by name _ (New is) = record {
      newer = [];
      journal = (copied_is_new sites source site).journal ∙ sym (ap journal_in (none_there name is));
      base = λ x at master. absurd (nothing x (sym (none_there name is) ∙ at));
    }
      where
        nothing : (x : SiteState) → None ≡ Some x → ⊥
        nothing x e = cc

pub now_all : (sites : List SiteState) → HaveAll sites sites
now_all sites = record {
  absent = λ name none. none;
  each = λ name y found. record { newer = []; journal = sym (ap journal_in found); base = λ x is master. ap (λ (s : SiteState). s.base) (some_same y x (sym found ∙ is)) };
}
  where
    some_same : (y x : SiteState) → Some y ≡ Some x → y ≡ x
    some_same y x e = cc

-- so it is after every list of events
pub run_all : (more : List Event) (w : Cluster) → HaveAll w.sites (run more w).sites
run_all [] w = now_all w.sites
run_all (e ∷ more) w = becomes_all w.sites (run more w).sites (run (e ∷ more) w).sites (happens_becomes e (run more w)) (run_all more w)
