-- Each partial run goes on to a full one: the blocks that are left, one session after the other, and then what is ready until
-- nothing is.
use Rattle.std.proofs.Common.{◌≡◌, ℕ, zero, suc, ◌+◌, ◌-◌, ◌<◌, ◌≤◌, ◌==◌, List, [], ◌∷◌, ◌++◌, length, Bool, true, false, cond, None, refl, sym, ap, ◌∙◌, arith, subst, append-nil}
use Rattle.std.specs.Prelude.{◌&&◌, nat_lt, nat_le, slice_get}
use Rattle.std.specs.List.{range_with_len}
use Rattle.std.proofs.lemmas.Bool.Decides.{nat_tests}
use Rattle.std.proofs.lemmas.Option.{slice_get_past}
use Rattle.rep_values.specs.declared.name.SiteName.{SiteName}
use Rattle.site_state.specs.State.{SiteState}
use Rattle.live_laws.specs.declared.turn.LiveTurn.{LiveTurn}
use Rattle.live_laws.specs.declared.turn.Session.{Session}
use Rattle.live_laws.specs.Turns.{blocks_of, block_of, committed_turn, committed_block, site_after, IsRun, blocks_committed, NothingReadyOf}
use Rattle.live_laws.specs.FullRuns.{FullRunsExist, PartialRunsGoOn}
use Rattle.live_laws.proofs.BlockNumbers.{at_number-within, range_with_len-append}
use Rattle.live_laws.proofs.RunParts.{run_join, site_after-append, blocks_committed-append}
use Rattle.live_laws.proofs.ReadyTurns.{LeavesNothingReady, leaves_nothing_ready}

-- ---- the blocks of one session

-- the turns of so many blocks of a session, from one of them on
abbrev turns_of_session : List Session → ℕ → ℕ → ℕ → SiteState → List LiveTurn
turns_of_session sessions session block zero x = []
turns_of_session sessions session block (suc n) x = committed_turn sessions session block x ∷ turns_of_session sessions session (block + 1) n (committed_block (block_of session block sessions) x)

run_of_session : (origins : List SiteName) (sessions : List Session) (session n block : ℕ) (x : SiteState) → 0 < block → block + n ≤ length (blocks_of session sessions) + 1
    → IsRun origins sessions (turns_of_session sessions session block n x) x
run_of_session origins sessions session zero block x from_one within = tt
run_of_session origins sessions session (suc n) block x from_one within = (
  record { may = at_number-within block (blocks_of session sessions) from_one (omega (arith, within)); told = refl },
  run_of_session origins sessions session n (block + 1) (committed_block (block_of session block sessions) x) (omega arith) (omega (arith, within)),
)

blocks_of_session : (sessions : List Session) (session n block : ℕ) (x : SiteState) (s : ℕ) → blocks_committed s (turns_of_session sessions session block n x) ≡ cond (session == s) (range_with_len block n) []
blocks_of_session sessions session zero block x s = go (session == s) []
  where
    go : (b : Bool) (ns : List ℕ) → ns ≡ cond b ns ns
    go true ns = refl
    go false ns = refl
blocks_of_session sessions session (suc n) block x s = go (session == s) (blocks_of_session sessions session n (block + 1) (committed_block (block_of session block sessions) x) s)
  where
    rest : List ℕ
    rest = blocks_committed s (turns_of_session sessions session (block + 1) n (committed_block (block_of session block sessions) x))

    go : (b : Bool) → rest ≡ cond b (range_with_len (block + 1) n) [] → cond b (block ∷ rest) rest ≡ cond b (block ∷ range_with_len (block + 1) n) []
    go true later = ap (λ (ns : List ℕ). block ∷ ns) later
    go false later = later

-- ---- one session after the other, of each of which so many blocks are committed

-- how many blocks of a session are left
abbrev left_count : List Session → (ℕ → ℕ) → ℕ → ℕ
left_count sessions count session = length (blocks_of session sessions) - count session

-- the turns of what is left of a session
abbrev left_turns : List Session → (ℕ → ℕ) → ℕ → SiteState → List LiveTurn
left_turns sessions count session x = turns_of_session sessions session (count session + 1) (left_count sessions count session) x

-- so they are of so many sessions, from one of them on
abbrev serial_turns : List Session → (ℕ → ℕ) → ℕ → ℕ → SiteState → List LiveTurn
serial_turns sessions count session zero x = []
serial_turns sessions count session (suc m) x = left_turns sessions count session x ++ serial_turns sessions count (session + 1) m (site_after sessions (left_turns sessions count session x) x)

serial_run : (origins : List SiteName) (sessions : List Session) (count : ℕ → ℕ) → ((session : ℕ) → count session ≤ length (blocks_of session sessions)) → (m session : ℕ) (x : SiteState)
    → IsRun origins sessions (serial_turns sessions count session m x) x
serial_run origins sessions count within zero session x = tt
serial_run origins sessions count within (suc m) session x =
    let y = site_after sessions (left_turns sessions count session x) x in
    run_join origins sessions (left_turns sessions count session x) (serial_turns sessions count (session + 1) m y) x
    (run_of_session origins sessions session (left_count sessions count session) (count session + 1) x (omega arith) (omega (arith, within session)))
    (serial_run origins sessions count within m (session + 1) y)

-- the blocks of a session that are left
abbrev left_blocks : List Session → (ℕ → ℕ) → ℕ → List ℕ
left_blocks sessions count session = range_with_len (count session + 1) (left_count sessions count session)

-- one of so many sessions, from the first on
abbrev is_between : ℕ → ℕ → ℕ → Bool
is_between first m s = nat_le first s && nat_lt s (first + m)

serial_blocks : (sessions : List Session) (count : ℕ → ℕ) (m session : ℕ) (x : SiteState) (s : ℕ) → blocks_committed s (serial_turns sessions count session m x) ≡ cond (is_between session m s) (left_blocks sessions count s) []
serial_blocks sessions count zero session x s = let off : is_between session 0 s ≡ false = grind (arith, nat_tests) in rw off refl
serial_blocks sessions count (suc m) session x s =
    blocks_committed-append s (left_turns sessions count session x) (serial_turns sessions count (session + 1) m y)
    ∙ ap (λ (ns : List ℕ). ns ++ blocks_committed s (serial_turns sessions count (session + 1) m y)) (blocks_of_session sessions session (left_count sessions count session) (count session + 1) x s)
    ∙ ap (λ (ns : List ℕ). cond (session == s) (left_blocks sessions count session) [] ++ ns) (serial_blocks sessions count m (session + 1) y s)
    ∙ go (session == s) refl (is_between (session + 1) m s) refl (is_between session (suc m) s) refl
  where
    y : SiteState
    y = site_after sessions (left_turns sessions count session x) x

    go : (b : Bool) → (session == s) ≡ b → (c : Bool) → is_between (session + 1) m s ≡ c → (d : Bool) → is_between session (suc m) s ≡ d
        → cond b (left_blocks sessions count session) [] ++ cond c (left_blocks sessions count s) [] ≡ cond d (left_blocks sessions count s) []
    go true own true later d whole = let off : is_between (session + 1) m s ≡ false = grind (arith, nat_tests, own) in absurd (cc (later, off))
    go true own false later false whole = let on : is_between session (suc m) s ≡ true = grind (arith, nat_tests, own) in absurd (cc (whole, on))
    go true own false later true whole =
        let at : session ≡ s = grind (arith, nat_tests, own) in
        append-nil (left_blocks sessions count session) ∙ ap (left_blocks sessions count) at
    go false other true later true whole = refl
    go false other true later false whole = let on : is_between session (suc m) s ≡ true = grind (arith, nat_tests, later) in absurd (cc (on, whole))
    go false other false later true whole = let on : is_between (session + 1) m s ≡ true = grind (arith, nat_tests, other, whole) in absurd (cc (on, later))
    go false other false later false whole = refl

-- behind the last session there is no block
no_blocks : (sessions : List Session) (s : ℕ) → is_between 1 (length sessions) s ≡ false → length (blocks_of s sessions) ≡ 0
no_blocks sessions zero off = refl
no_blocks sessions (suc i) off =
    let past : length sessions ≤ i = grind (arith, nat_tests, off) in
    let none : slice_get sessions i ≡ None = slice_get_past sessions i past in
    rw none refl

-- the blocks that are left of all sessions
all_left_blocks : (sessions : List Session) (count : ℕ → ℕ) (x : SiteState) (s : ℕ) → blocks_committed s (serial_turns sessions count 1 (length sessions) x) ≡ left_blocks sessions count s
all_left_blocks sessions count x s = serial_blocks sessions count (length sessions) 1 x s ∙ go (is_between 1 (length sessions) s) refl
  where
    go : (b : Bool) → is_between 1 (length sessions) s ≡ b → cond b (left_blocks sessions count s) [] ≡ left_blocks sessions count s
    go true within = refl
    go false off = let none : left_count sessions count s ≡ 0 = omega (arith, no_blocks sessions s off) in rw none refl

-- ---- and what is ready

pub partial_runs_go_on : PartialRunsGoOn
partial_runs_go_on origins sessions turns x partial = (
  blocks ++ end.turns,
  record {
    run = run_join origins sessions turns (blocks ++ end.turns) x partial.run (run_join origins sessions blocks end.turns y (serial_run origins sessions partial.count partial.within (length sessions) 1 y) end.run);
    blocks = λ s. blocks_committed-append s turns (blocks ++ end.turns)
        ∙ (λ i. partial.blocks s i ++ (blocks_committed-append s blocks end.turns ∙ ap (λ (ns : List ℕ). blocks_committed s blocks ++ ns) (end.blocks s) ∙ append-nil (blocks_committed s blocks) ∙ all_left_blocks sessions partial.count y s) i)
        ∙ joined s;
    none = subst (NothingReadyOf origins) (sym (site_after-append sessions turns (blocks ++ end.turns) x ∙ site_after-append sessions blocks end.turns y)) end.none;
  },
)
  where
    y : SiteState
    y = site_after sessions turns x

    blocks : List LiveTurn
    blocks = serial_turns sessions partial.count 1 (length sessions) y

    end : LeavesNothingReady origins sessions (site_after sessions blocks y)
    end = leaves_nothing_ready origins sessions (site_after sessions blocks y)

    joined : (s : ℕ) → range_with_len 1 (partial.count s) ++ left_blocks sessions partial.count s ≡ range_with_len 1 (length (blocks_of s sessions))
    joined s =
        let next : partial.count s + 1 ≡ 1 + partial.count s = omega arith in
        let sum : partial.count s + left_count sessions partial.count s ≡ length (blocks_of s sessions) = omega (arith, partial.within s) in
        ap (λ (n : ℕ). range_with_len 1 (partial.count s) ++ range_with_len n (left_count sessions partial.count s)) next
        ∙ range_with_len-append (partial.count s) (left_count sessions partial.count s) 1 ∙ ap (range_with_len 1) sum

pub full_runs_exist : FullRunsExist
full_runs_exist origins sessions x =
    partial_runs_go_on origins sessions [] x (record { run = tt; count = λ session. 0; blocks = λ session. refl; within = λ session. omega arith })
