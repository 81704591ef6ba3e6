-- Which turns were printed is known: of two full runs from one site each turn of one is of the position or block of the
-- other's, and so tells the same.
use Rattle.std.proofs.Common.{◌≡◌, ℕ, List, [], ◌∷◌, ◌++◌, length, map, refl, sym, ap, ◌∙◌, arith, subst}
use mathlib.Core.List.{append_assoc}
use Rattle.std.specs.Prelude.{flat_map}
use Rattle.std.proofs.lemmas.Bool.{and_parts}
use Rattle.std.proofs.lemmas.List.{append_cancel_left, length-map}
use Rattle.rep_values.specs.declared.name.SiteName.{SiteName}
use Rattle.site_state.specs.State.{SenderState, SiteState, arrived_at}
use Rattle.rep_schema.specs.Sites.{is_among}
use Rattle.site_state.specs.Ready.{is_ready}
use Rattle.event_laws.proofs.MasterArrivals.{ready_at}
use Rattle.live_laws.specs.declared.turn.LiveTurn.{LiveTurn}
use Rattle.live_laws.specs.declared.turn.LiveTurn.TheVariants.{Applied, Committed}
use Rattle.live_laws.specs.declared.turn.Session.{Session}
use Rattle.live_laws.specs.Turns.{committed_turn, applied_turn, site_after_turn, IsTurn, IsRun}
use Rattle.live_laws.specs.Printed.{SameSubject, SubjectIsThere, TellsSubjects, PrintedTurnsAreKnown, ListedTurnsAreKnown}
use Rattle.live_laws.proofs.TurnSteps.{turn_steps}
use Rattle.live_laws.proofs.RunCounts.{full_runs_are_equally_long}

-- at one site two turns of one position or block are the same
turn_known : (origins : List SiteName) (sessions : List Session) (turn other : LiveTurn) (y : SiteState) → IsTurn origins sessions turn y → IsTurn origins sessions other y → SameSubject turn other → turn ≡ other
turn_known origins sessions (Applied origin position call error) (Applied o p c e) y is other same = sym is.told ∙ (λ i. applied_turn (same.0 i) (same.1 i) y) ∙ other.told
turn_known origins sessions (Applied origin position call error) (Committed session block reply) y is other same = absurd same
turn_known origins sessions (Committed session block reply) (Applied origin position call error) y is other same = absurd same
turn_known origins sessions (Committed session block reply) (Committed s b r) y is other same = sym is.told ∙ (λ i. committed_turn sessions (same.0 i) (same.1 i) y) ∙ other.told

subject_is_there : (origins : List SiteName) (sessions : List Session) (turn : LiveTurn) (x y : SiteState) → y.senders ≡ x.senders → IsTurn origins sessions turn y → SubjectIsThere origins sessions x turn
subject_is_there origins sessions (Applied origin position call error) x y same is =
    let may = and_parts (is_among origins origin) (is_ready origin position y) is.may in
    let at = ready_at origin position y may.1 in
    (may.0, λ none. absurd (cc (none, at.there, ap (λ (ss : List SenderState). arrived_at origin position ss) same)))
subject_is_there origins sessions (Committed session block reply) x y same is = is.may

known_from : (origins : List SiteName) (sessions : List Session) (x : SiteState) (text : LiveTurn → List ℕ) → TellsSubjects (SubjectIsThere origins sessions x) text
    → (turns others : List LiveTurn) (y : SiteState) (rest more : List ℕ) → y.senders ≡ x.senders → IsRun origins sessions turns y → IsRun origins sessions others y → length turns ≡ length others
    → flat_map text turns ++ rest ≡ flat_map text others ++ more → turns ≡ others
known_from origins sessions x text tells [] [] y rest more same run other long bytes = refl
known_from origins sessions x text tells [] (u ∷ us) y rest more same run other long bytes = absurd (omega (arith, long))
known_from origins sessions x text tells (t ∷ ts) [] y rest more same run other long bytes = absurd (omega (arith, long))
known_from origins sessions x text tells (t ∷ ts) (u ∷ us) y rest more same run other long bytes =
    let whole : text t ++ (flat_map text ts ++ rest) ≡ text u ++ (flat_map text us ++ more) =
    sym (append_assoc (text t) (flat_map text ts) rest) ∙ bytes ∙ append_assoc (text u) (flat_map text us) more in
    let one : t ≡ u = turn_known origins sessions t u y run.0 other.0
    (tells t u (flat_map text ts ++ rest) (flat_map text us ++ more) (subject_is_there origins sessions t x y same run.0) (subject_is_there origins sessions u x y same other.0) whole) in
    let behind : flat_map text ts ++ rest ≡ flat_map text us ++ more =
    append_cancel_left (text t) (flat_map text ts ++ rest) (flat_map text us ++ more) (whole ∙ ap (λ (v : LiveTurn). text v ++ (flat_map text us ++ more)) (sym one)) in
    let later : ts ≡ us = known_from origins sessions x text tells ts us (site_after_turn sessions t y) rest more ((turn_steps sessions t y).senders ∙ same) run.1
    (subst (λ (v : LiveTurn). IsRun origins sessions us (site_after_turn sessions v y)) (sym one) other.1) (omega (arith, long)) behind in
    λ i. one i ∷ later i

pub printed_turns_are_known : PrintedTurnsAreKnown
printed_turns_are_known origins sessions x text turns others rest more tells numbers full other bytes =
    known_from origins sessions x text tells turns others x rest more refl full.run other.run (full_runs_are_equally_long origins sessions x turns others numbers full other) bytes

-- ---- as a list of texts

-- the texts of turns, each ended by a newline
as_lines : (text : LiveTurn → List ℕ) (ts : List LiveTurn) → flat_map (λ (line : List ℕ). line ++ 10 ∷ []) (map text ts) ≡ flat_map (λ t. text t ++ 10 ∷ []) ts
as_lines text [] = refl
as_lines text (t ∷ ts) = ap (λ (bs : List ℕ). (text t ++ 10 ∷ []) ++ bs) (as_lines text ts)

pub listed_turns_are_known : ListedTurnsAreKnown
listed_turns_are_known origins sessions x text turns others tells run other same =
    known_from origins sessions x (λ turn. text turn ++ 10 ∷ []) tells turns others x [] [] refl run other long (ap (λ (bs : List ℕ). bs ++ []) bytes)
  where
    long : length turns ≡ length others
    long = sym (length-map turns text) ∙ ap length same ∙ length-map others text

    bytes : flat_map (λ t. text t ++ 10 ∷ []) turns ≡ flat_map (λ t. text t ++ 10 ∷ []) others
    bytes = sym (as_lines text turns) ∙ ap (flat_map (λ (line : List ℕ). line ++ 10 ∷ [])) same ∙ as_lines text others
