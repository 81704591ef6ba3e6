-- Runs in two parts.
use Rattle.std.proofs.Common.{◌≡◌, ℕ, ◌==◌, List, [], ◌∷◌, ◌++◌, Bool, true, false, cond, refl, ap}
use Rattle.rep_values.specs.declared.name.SiteName.{SiteName}
use Rattle.site_state.specs.State.{SiteState}
use Rattle.live_laws.specs.declared.turn.LiveTurn.{LiveTurn}
use Rattle.live_laws.specs.declared.turn.LiveTurn.TheVariants.{Applied, Committed}
use Rattle.live_laws.specs.declared.turn.Session.{Session}
use Rattle.live_laws.specs.Turns.{site_after, site_after_turn, IsRun, blocks_committed}

-- the first part of a run is one
pub run_front : (origins : List SiteName) (sessions : List Session) (front back : List LiveTurn) (x : SiteState) → IsRun origins sessions (front ++ back) x → IsRun origins sessions front x
run_front origins sessions [] back x run = tt
run_front origins sessions (turn ∷ front) back x run = (run.0, run_front origins sessions front back (site_after_turn sessions turn x) run.1)

-- so is the rest, from where the first part ends
pub run_back : (origins : List SiteName) (sessions : List Session) (front back : List LiveTurn) (x : SiteState) → IsRun origins sessions (front ++ back) x → IsRun origins sessions back (site_after sessions front x)
run_back origins sessions [] back x run = run
run_back origins sessions (turn ∷ front) back x run = run_back origins sessions front back (site_after_turn sessions turn x) run.1

-- and two such parts are one run
pub run_join : (origins : List SiteName) (sessions : List Session) (front back : List LiveTurn) (x : SiteState) → IsRun origins sessions front x → IsRun origins sessions back (site_after sessions front x)
    → IsRun origins sessions (front ++ back) x
run_join origins sessions [] back x run later = later
run_join origins sessions (turn ∷ front) back x run later = (run.0, run_join origins sessions front back (site_after_turn sessions turn x) run.1 later)

pub site_after-append : (sessions : List Session) (front back : List LiveTurn) (x : SiteState) → site_after sessions (front ++ back) x ≡ site_after sessions back (site_after sessions front x)
site_after-append sessions [] back x = refl
site_after-append sessions (turn ∷ front) back x = site_after-append sessions front back (site_after_turn sessions turn x)

pub blocks_committed-append : (session : ℕ) (front back : List LiveTurn) → blocks_committed session (front ++ back) ≡ blocks_committed session front ++ blocks_committed session back
blocks_committed-append session [] back = refl
blocks_committed-append session (Applied origin position call error ∷ front) back = blocks_committed-append session front back
blocks_committed-append session (Committed s block reply ∷ front) back = go (s == session) (blocks_committed-append session front back)
  where
    go : (b : Bool) → blocks_committed session (front ++ back) ≡ blocks_committed session front ++ blocks_committed session back
        → cond b (block ∷ blocks_committed session (front ++ back)) (blocks_committed session (front ++ back)) ≡ cond b (block ∷ blocks_committed session front) (blocks_committed session front) ++ blocks_committed session back
    go true later = ap (λ (ns : List ℕ). block ∷ ns) later
    go false later = later
