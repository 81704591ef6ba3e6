-- How often a run applies each position and commits each block.
use Rattle.std.proofs.Common.{◌≡◌, ℕ, ◌+◌, ◌<◌, ◌≤◌, ◌==◌, List, [], ◌∷◌, map, Bool, true, false, cond, refl, sym, ap, ◌∙◌, arith, subst}
use Rattle.std.specs.Prelude.{◌&&◌, ◌||◌}
use Rattle.std.specs.List.{list_any}
use Rattle.std.proofs.lemmas.Bool.{and_parts}
use Rattle.std.proofs.lemmas.Bool.Decides.{nat_tests}
use Rattle.std.proofs.lemmas.List.{length-map}
use Rattle.rep_values.specs.declared.name.SiteName.{SiteName}
use Rattle.deferred_queue.proofs.Sites.{eq_true}
use Rattle.site_state.specs.State.{SiteState}
use Rattle.rep_schema.specs.Sites.{is_among}
use Rattle.site_state.specs.Journal.{finished, is_position}
use Rattle.site_state.specs.Ready.{is_ready}
use Rattle.rep_lists.specs.Counting.{count_where}
use Rattle.site_state.specs.Passes.{site_apply}
use Rattle.site_state.proofs.Stepping.{is_position-true}
use Rattle.site_state.proofs.Waited.{is_position-own}
use Rattle.event_laws.proofs.MasterArrivals.{ready_at}
use Rattle.live_laws.specs.declared.turn.LiveTurn.{LiveTurn}
use Rattle.live_laws.specs.declared.turn.LiveTurn.TheVariants.{Applied, Committed}
use Rattle.live_laws.specs.declared.turn.Session.{Session}
use Rattle.live_laws.specs.Turns.{block_of, site_after_turn, site_after, IsRun, blocks_committed}
use Rattle.live_laws.specs.RunLaws.{applies, PositionsAreAppliedOnce}
use Rattle.live_laws.specs.FullRuns.{FullRunsAreEquallyLong}
use Rattle.live_laws.proofs.TurnSteps.{finished-site_apply, finished-committed_block}
use Rattle.live_laws.proofs.EqualCounts.{equally_long}
use Rattle.live_laws.proofs.FullRuns.{full_runs_finish_the_same}

-- ---- positions

-- 1 for what holds, 0 for what doesn't
abbrev one_if : Bool → ℕ
one_if true = 1
one_if false = 0

one_if_most : (b : Bool) → one_if b ≤ 1
one_if_most true = omega arith
one_if_most false = omega arith

-- a run applies a position once where it is finished at the end and wasn't at the start, and else not at all
times_applied : (origins : List SiteName) (sessions : List Session) (turns : List LiveTurn) (x : SiteState) → IsRun origins sessions turns x
    → (o : SiteName) (p : ℕ) → count_where (applies o p) turns + one_if (finished o x.journal p) ≡ one_if (finished o (site_after sessions turns x).journal p)
times_applied origins sessions [] x run o p = omega arith
times_applied origins sessions (Applied origin position call error ∷ turns) x run o p =
    go (is_position o p origin position) refl (finished-site_apply origin position x may.1 o p) (times_applied origins sessions turns (site_apply origin position x) run.1 o p)
  where
    may : (is_among origins origin ≡ true) × (is_ready origin position x ≡ true)
    may = and_parts (is_among origins origin) (is_ready origin position x) run.0.may

    end : ℕ
    end = one_if (finished o (site_after sessions turns (site_apply origin position x)).journal p)

    unfinished : is_position o p origin position ≡ true → finished o x.journal p ≡ false
    unfinished at =
        let same = is_position-true o origin p position at in
        subst (λ (q : ℕ). finished o x.journal q ≡ false) same.1 (subst (λ (n : SiteName). finished n x.journal position ≡ false) same.0 (ready_at origin position x may.1).unfinished)

    go : (b : Bool) → is_position o p origin position ≡ b → finished o (site_apply origin position x).journal p ≡ (b || finished o x.journal p)
        → count_where (applies o p) turns + one_if (finished o (site_apply origin position x).journal p) ≡ end
        → cond b (count_where (applies o p) turns + 1) (count_where (applies o p) turns) + one_if (finished o x.journal p) ≡ end
    go true at after later = omega (arith, later, ap one_if after, ap one_if (unfinished at))
    go false at after later = omega (arith, later, ap one_if after)
times_applied origins sessions (Committed session block reply ∷ turns) x run o p =
    omega (arith, times_applied origins sessions turns (site_after_turn sessions (Committed session block reply) x) run.1 o p, ap one_if (finished-committed_block (block_of session block sessions) x o p))

pub positions_are_applied_once : PositionsAreAppliedOnce
positions_are_applied_once origins sessions turns x run origin position =
    omega (arith, times_applied origins sessions turns x run origin position, one_if_most (finished origin (site_after sessions turns x).journal position))

-- what is counted at all is there
any_counted : {A : Type 0} (test : A → Bool) (xs : List A) → 0 < count_where test xs → list_any test xs ≡ true
any_counted test [] some = absurd (omega (arith, some))
any_counted test (x ∷ xs) some = go (test x) some (any_counted test xs)
  where
    go : (b : Bool) → 0 < cond b (count_where test xs + 1) (count_where test xs) → (0 < count_where test xs → list_any test xs ≡ true) → (b || list_any test xs) ≡ true
    go true some later = refl
    go false some later = later some

-- a run applies what is finished at the end and wasn't at the start
pub newly_finished_applied : (origins : List SiteName) (sessions : List Session) (turns : List LiveTurn) (x : SiteState) → IsRun origins sessions turns x
    → (o : SiteName) (p : ℕ) → finished o x.journal p ≡ false → finished o (site_after sessions turns x).journal p ≡ true → list_any (applies o p) turns ≡ true
newly_finished_applied origins sessions turns x run o p was now =
    any_counted (applies o p) turns (omega (arith, times_applied origins sessions turns x run o p, ap one_if was, ap one_if now))

-- ---- what a turn is of

-- a position of an origin, or a block of a session
data Subject : Type 0 where
  Position : (origin : SiteName) → (position : ℕ) → Subject
  BlockOf : (session block : ℕ) → Subject

abbrev subject_of : LiveTurn → Subject
subject_of (Applied origin position call error) = Position origin position
subject_of (Committed session block reply) = BlockOf session block

-- the same position, or the same block
abbrev is_same_subject : Subject → Subject → Bool
is_same_subject (Position o p) (Position q r) = is_position o p q r
is_same_subject (Position o p) (BlockOf k j) = false
is_same_subject (BlockOf k j) (Position o p) = false
is_same_subject (BlockOf k j) (BlockOf l m) = l == k && m == j

is_same_subject-own : (s : Subject) → is_same_subject s s ≡ true
is_same_subject-own (Position o p) = is_position-own o p p refl
is_same_subject-own (BlockOf k j) = rw (eq_true k k refl, eq_true j j refl) refl

is_same_subject-true : (s t : Subject) → is_same_subject s t ≡ true → s ≡ t
is_same_subject-true (Position o p) (Position q r) is = let same = is_position-true o q p r is in rw (same.0, same.1) refl
is_same_subject-true (Position o p) (BlockOf k j) is = absurd (cc is)
is_same_subject-true (BlockOf k j) (Position o p) is = absurd (cc is)
is_same_subject-true (BlockOf k j) (BlockOf l m) is =
    let both = and_parts (l == k) (m == j) is in
    let first : k ≡ l = grind (arith, nat_tests, both.0) in
    let second : j ≡ m = grind (arith, nat_tests, both.1) in
    rw (first, second) refl

-- how many of the turns are of it
abbrev times : Subject → List LiveTurn → ℕ
times s turns = count_where (is_same_subject s) (map subject_of turns)

times-Position : (o : SiteName) (p : ℕ) (turns : List LiveTurn) → times (Position o p) turns ≡ count_where (applies o p) turns
times-Position o p [] = refl
times-Position o p (Applied origin position call error ∷ turns) = ap (λ n. cond (is_position o p origin position) (n + 1) n) (times-Position o p turns)
times-Position o p (Committed session block reply ∷ turns) = times-Position o p turns

times-BlockOf : (k j : ℕ) (turns : List LiveTurn) → times (BlockOf k j) turns ≡ count_where (λ m. m == j) (blocks_committed k turns)
times-BlockOf k j [] = refl
times-BlockOf k j (Applied origin position call error ∷ turns) = times-BlockOf k j turns
times-BlockOf k j (Committed session block reply ∷ turns) = go (session == k) (times-BlockOf k j turns)
  where
    go : (b : Bool) → times (BlockOf k j) turns ≡ count_where (λ m. m == j) (blocks_committed k turns)
        → cond (b && (block == j)) (times (BlockOf k j) turns + 1) (times (BlockOf k j) turns) ≡ count_where (λ m. m == j) (cond b (block ∷ blocks_committed k turns) (blocks_committed k turns))
    go true later = ap (λ n. cond (block == j) (n + 1) n) later
    go false later = later

-- ---- full runs have as many turns

pub full_runs_are_equally_long : FullRunsAreEquallyLong
full_runs_are_equally_long origins sessions x turns others numbers full other =
    sym (length-map turns subject_of) ∙ equally_long is_same_subject is_same_subject-own is_same_subject-true (map subject_of turns) (map subject_of others) each ∙ length-map others subject_of
  where
    applied : (o : SiteName) (p : ℕ) → count_where (applies o p) turns ≡ count_where (applies o p) others
    applied o p = omega (
      arith,
      times_applied origins sessions turns x full.run o p,
      times_applied origins sessions others x other.run o p,
      ap one_if (full_runs_finish_the_same origins sessions x turns others numbers full other o p),
    )

    each : (s : Subject) → times s turns ≡ times s others
    each (Position o p) = times-Position o p turns ∙ applied o p ∙ sym (times-Position o p others)
    each (BlockOf k j) = times-BlockOf k j turns ∙ ap (count_where (λ m. m == j)) (full.blocks k ∙ sym (other.blocks k)) ∙ sym (times-BlockOf k j others)
