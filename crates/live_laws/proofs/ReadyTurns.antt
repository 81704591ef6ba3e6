-- From every site, what is ready of origins is applied until nothing is.
use Rattle.std.proofs.Common.{◌≡◌, ℕ, zero, suc, ◌<◌, ◌≤◌, List, [], ◌∷◌, Bool, true, false, refl, sym, ◌∙◌, arith, subst, inl, inr}
use Rattle.std.specs.Prelude.{◌||◌, ◌&&◌, ◌⊎◌, not}
use Rattle.std.specs.List.{list_any}
use Rattle.std.proofs.lemmas.Bool.{or_left, true≢false}
use Rattle.rep_values.specs.declared.name.SiteName.{SiteName}
use Rattle.rep_values.specs.SiteNames.{is_same_site}
use Rattle.deferred_queue.proofs.Sites.{is_same_site-true, is_same_site-refl}
use Rattle.site_state.specs.declared.arrival.Arrival.{Arrival}
use Rattle.site_state.specs.State.{SenderState, SiteState, arrivals}
use Rattle.rep_schema.specs.Sites.{is_among}
use Rattle.site_state.specs.Journal.{finished, is_position}
use Rattle.site_state.specs.Ready.{is_ready}
use Rattle.site_state.specs.Passes.{site_apply}
use Rattle.site_state.proofs.Stepping.{apply_steps, arrived_has}
use Rattle.site_state.proofs.Waited.{is_position-own}
use Rattle.event_laws.proofs.MasterArrivals.{IsReadyAt, ready_at}
use Rattle.event_laws.proofs.WaitingCounts.{waiting_count, steps_finish_more, is_new, waiting_less, found_any}
use Rattle.live_laws.specs.declared.turn.LiveTurn.{LiveTurn}
use Rattle.live_laws.specs.declared.turn.LiveTurn.TheVariants.{Applied}
use Rattle.live_laws.specs.declared.turn.Session.{Session}
use Rattle.live_laws.specs.Turns.{site_after, IsRun, blocks_committed, NothingReadyOf}
use Rattle.live_laws.proofs.TurnSteps.{finished-site_apply}
use Rattle.live_laws.proofs.MadeTurns.{applied_turn_is}

-- ---- something is ready, or nothing

-- what arrived is ready
abbrev is_ready_here : SiteName → SiteState → Arrival → Bool
is_ready_here origin x a = is_ready origin a.position x

-- something of an origin is ready
abbrev pub has_ready : SiteName → SiteState → Bool
has_ready origin x = list_any (is_ready_here origin x) (arrivals origin x)

-- something of one of these is ready
abbrev pub any_ready : List SiteName → SiteState → Bool
any_ready origins x = list_any (λ (origin : SiteName). has_ready origin x) origins

none_ready : (origin : SiteName) (x : SiteState) → has_ready origin x ≡ false → (position : ℕ) → is_ready origin position x ≡ false
none_ready origin x none position = go (is_ready origin position x) refl
  where
    some : is_ready origin position x ≡ true → has_ready origin x ≡ true
    some ready =
        let at = ready_at origin position x ready in
        found_any (is_ready_here origin x) position (arrivals origin x) at.arrival at.there (subst (λ (p : ℕ). is_ready origin p x ≡ true) (sym (arrived_has origin position x at.arrival at.there)) ready)

    go : (b : Bool) → is_ready origin position x ≡ b → b ≡ false
    go true ready = absurd (true≢false (sym (some ready) ∙ none))
    go false ready = refl

-- so it can be tested that nothing is
pub nothing_ready_of : (origins : List SiteName) (x : SiteState) → any_ready origins x ≡ false → NothingReadyOf origins x
nothing_ready_of [] x none origin position among = absurd (cc among)
nothing_ready_of (name ∷ names) x none origin position among = go (has_ready name x) refl none (is_same_site name origin) refl among (λ rest among. nothing_ready_of names x rest origin position among)
  where
    go : (a : Bool) → has_ready name x ≡ a → (a || any_ready names x) ≡ false → (b : Bool) → is_same_site name origin ≡ b → (b || is_among names origin) ≡ true
        → (any_ready names x ≡ false → is_among names origin ≡ true → is_ready origin position x ≡ false) → is_ready origin position x ≡ false
    go true some none b same among later = absurd (cc none)
    go false some none true same among later = subst (λ (n : SiteName). is_ready n position x ≡ false) (is_same_site-true name origin same) (none_ready name x some position)
    go false some none false other among later = later none among

-- a ready position of one of these origins
record FoundReady (origins : List SiteName) (x : SiteState) : Type 0 where
  origin : SiteName
  position : ℕ
  among : is_among origins origin ≡ true
  ready : is_ready origin position x ≡ true

record FoundAt (origin : SiteName) (x : SiteState) : Type 0 where
  position : ℕ
  ready : is_ready origin position x ≡ true

found_at_origin : (origin : SiteName) (x : SiteState) (arrived : List Arrival) → list_any (is_ready_here origin x) arrived ≡ true → FoundAt origin x
found_at_origin origin x [] some = absurd (cc some)
found_at_origin origin x (a ∷ arrived) some = go (is_ready origin a.position x) refl some (found_at_origin origin x arrived)
  where
    go : (b : Bool) → is_ready origin a.position x ≡ b → (b || list_any (is_ready_here origin x) arrived) ≡ true → (list_any (is_ready_here origin x) arrived ≡ true → FoundAt origin x) → FoundAt origin x
    go true is some later = record { position = a.position; ready = is }
    go false is some later = later some

found_ready : (origins : List SiteName) (x : SiteState) → any_ready origins x ≡ true → FoundReady origins x
found_ready [] x some = absurd (cc some)
found_ready (name ∷ names) x some = go (has_ready name x) refl some (found_ready names x)
  where
    own : FoundAt name x → FoundReady (name ∷ names) x
    own found = record { origin = name; position = found.position; among = rw (is_same_site-refl name) refl; ready = found.ready }

    among_more : (b : Bool) (origin : SiteName) → is_among names origin ≡ true → (b || is_among names origin) ≡ true
    among_more true origin among = refl
    among_more false origin among = among

    other : FoundReady names x → FoundReady (name ∷ names) x
    other found = record { origin = found.origin; position = found.position; among = among_more (is_same_site name found.origin) found.origin found.among; ready = found.ready }

    go : (b : Bool) → has_ready name x ≡ b → (b || any_ready names x) ≡ true → (any_ready names x ≡ true → FoundReady names x) → FoundReady (name ∷ names) x
    go true here some later = own (found_at_origin name x (arrivals name x) here)
    go false here some later = other (later some)

find_ready : (origins : List SiteName) (x : SiteState) → FoundReady origins x ⊎ NothingReadyOf origins x
find_ready origins x = go (any_ready origins x) refl
  where
    go : (b : Bool) → any_ready origins x ≡ b → FoundReady origins x ⊎ NothingReadyOf origins x
    go true some = inl (found_ready origins x some)
    go false none = inr (nothing_ready_of origins x none)

-- ---- fewer positions wait after each

newly_by : (was now : Bool) → was ≡ false → now ≡ true → (not was && not (not now)) ≡ true
newly_by was now before after = rw (before, after) refl

apply_lowers : (origin : SiteName) (position : ℕ) (x : SiteState) → is_ready origin position x ≡ true → waiting_count (site_apply origin position x).journal x.senders < waiting_count x.journal x.senders
apply_lowers origin position x ready = waiting_less origin x.journal y.journal x.senders (steps_finish_more x y (apply_steps origin position x))
    (found_any (is_new origin x.journal y.journal) position (arrivals origin x) at.arrival at.there newly)
  where
    y : SiteState
    y = site_apply origin position x

    at : IsReadyAt origin position x
    at = ready_at origin position x ready

    now : finished origin y.journal position ≡ true
    now = finished-site_apply origin position x ready origin position ∙ or_left (is_position origin position origin position) (finished origin x.journal position) (is_position-own origin position position refl)

    newly : is_new origin x.journal y.journal at.arrival ≡ true
    newly = subst (λ (p : ℕ). (not (finished origin x.journal p) && not (not (finished origin y.journal p))) ≡ true) (sym (arrived_has origin position x at.arrival at.there))
        (newly_by (finished origin x.journal position) (finished origin y.journal position) at.unfinished now)

fewer_wait : (x : SiteState) (origin : SiteName) (position n : ℕ) → is_ready origin position x ≡ true → waiting_count x.journal x.senders ≤ suc n
    → waiting_count (site_apply origin position x).journal (site_apply origin position x).senders ≤ n
fewer_wait x origin position n ready within =
    subst (λ (ss : List SenderState). waiting_count (site_apply origin position x).journal ss ≤ n) (sym (apply_steps origin position x).senders) (omega (arith, within, apply_lowers origin position x ready))

-- ---- until nothing is ready

-- a run that commits no block, and after which nothing of the origins is ready
pub record LeavesNothingReady (origins : List SiteName) (sessions : List Session) (x : SiteState) : Type 0 where
  pub turns : List LiveTurn
  pub run : IsRun origins sessions turns x
  pub none : NothingReadyOf origins (site_after sessions turns x)
  pub blocks : (session : ℕ) → blocks_committed session turns ≡ []

one_more : (origins : List SiteName) (sessions : List Session) (x : SiteState) (found : FoundReady origins x) → LeavesNothingReady origins sessions (site_apply found.origin found.position x) → LeavesNothingReady origins sessions x
one_more origins sessions x found rest =
    let made = applied_turn_is found.origin found.position x in
    record {
      turns = Applied found.origin found.position made.call made.error ∷ rest.turns;
      run = (record { may = rw (found.among, found.ready) refl; told = made.is }, rest.run);
      none = rest.none;
      blocks = rest.blocks;
    }

leaves_by : (n : ℕ) (origins : List SiteName) (sessions : List Session) (x : SiteState) → waiting_count x.journal x.senders ≤ n → LeavesNothingReady origins sessions x
leaves_by zero origins sessions x within = elim (find_ready origins x) [
  | inr none ↦ record { turns = []; run = tt; none = none; blocks = λ session. refl }
  | inl found ↦ absurd (omega (arith, within, apply_lowers found.origin found.position x found.ready))
]
leaves_by (suc n) origins sessions x within = elim (find_ready origins x) [
  | inr none ↦ record { turns = []; run = tt; none = none; blocks = λ session. refl }
  | inl found ↦ one_more origins sessions x found
      (leaves_by n origins sessions (site_apply found.origin found.position x) (fewer_wait x found.origin found.position n found.ready within))
]

pub leaves_nothing_ready : (origins : List SiteName) (sessions : List Session) (x : SiteState) → LeavesNothingReady origins sessions x
leaves_nothing_ready origins sessions x = leaves_by (waiting_count x.journal x.senders) origins sessions x (omega arith)
