-- One turn more of a partial run, for one who makes its turns one by one.
use Rattle.std.proofs.Common.{◌≡◌, ℕ, ◌+◌, ◌≤◌, ◌==◌, List, [], ◌∷◌, ◌++◌, length, Bool, true, false, cond, refl, ap, ◌∙◌, arith, append-nil}
use Rattle.std.specs.Prelude.{is_some}
use Rattle.std.specs.List.{range_with_len}
use Rattle.std.proofs.lemmas.Bool.Decides.{nat_tests}
use Rattle.rep_values.specs.declared.name.SiteName.{SiteName}
use Rattle.site_state.specs.State.{SiteState}
use Rattle.rep_schema.specs.Sites.{is_among}
use Rattle.site_state.specs.Ready.{is_ready}
use Rattle.live_laws.specs.declared.turn.LiveTurn.{LiveTurn}
use Rattle.live_laws.specs.declared.turn.Session.{Session}
use Rattle.live_laws.specs.Turns.{blocks_of, block_of, applied_turn, committed_turn, site_after, blocks_committed, IsPartialRun, IsFullRun, NothingReadyOf}
use Rattle.live_laws.proofs.BlockNumbers.{number_within, range_with_len-append}
use Rattle.live_laws.proofs.RunParts.{run_join, blocks_committed-append}
use Rattle.live_laws.proofs.MadeTurns.{applied_turn_is, applied_is_turn, committed_is_turn}

-- a ready position of an origin is applied
pub applied_more : (origins : List SiteName) (sessions : List Session) (turns : List LiveTurn) (x : SiteState) (origin : SiteName) (position : ℕ) → IsPartialRun origins sessions turns x
    → is_among origins origin ≡ true → is_ready origin position (site_after sessions turns x) ≡ true → IsPartialRun origins sessions (turns ++ applied_turn origin position (site_after sessions turns x) ∷ []) x
applied_more origins sessions turns x origin position partial among ready = record {
  run = run_join origins sessions turns _ x partial.run (applied_is_turn origins sessions origin position y among ready, tt);
  count = partial.count;
  blocks = λ s. blocks_committed-append s turns (applied_turn origin position y ∷ []) ∙ ap (λ (ns : List ℕ). blocks_committed s turns ++ ns) (none s) ∙ append-nil (blocks_committed s turns) ∙ partial.blocks s;
  within = partial.within;
}
  where
    y : SiteState
    y = site_after sessions turns x

    none : (s : ℕ) → blocks_committed s (applied_turn origin position y ∷ []) ≡ []
    none s = ap (λ (t : LiveTurn). blocks_committed s (t ∷ [])) (applied_turn_is origin position y).is

-- how many blocks of each session are committed, with one of this session more
abbrev pub one_block_more : ℕ → (ℕ → ℕ) → ℕ → ℕ
one_block_more session count s = cond (session == s) (count s + 1) (count s)

-- the next block of a session is committed
pub committed_more : (origins : List SiteName) (sessions : List Session) (turns : List LiveTurn) (x : SiteState) (session : ℕ) (partial : IsPartialRun origins sessions turns x)
    → is_some (block_of session (partial.count session + 1) sessions) ≡ true → IsPartialRun origins sessions (turns ++ committed_turn sessions session (partial.count session + 1) (site_after sessions turns x) ∷ []) x
committed_more origins sessions turns x session partial some = record {
  run = run_join origins sessions turns _ x partial.run (committed_is_turn origins sessions session (partial.count session + 1) y some, tt);
  count = one_block_more session partial.count;
  blocks = λ s. blocks_committed-append s turns (committed_turn sessions session (partial.count session + 1) y ∷ []) ∙ more s (session == s) refl;
  within = λ s. within s (session == s) refl;
}
  where
    y : SiteState
    y = site_after sessions turns x

    more : (s : ℕ) (b : Bool) → (session == s) ≡ b → blocks_committed s turns ++ cond b ((partial.count session + 1) ∷ []) [] ≡ range_with_len 1 (cond b (partial.count s + 1) (partial.count s))
    more s true own =
        let same : session ≡ s = grind (arith, nat_tests, own) in
        let sum : partial.count session + 1 ≡ 1 + partial.count s = ap (λ (k : ℕ). partial.count k + 1) same ∙ omega arith in
        (λ i. partial.blocks s i ++ sum i ∷ []) ∙ range_with_len-append (partial.count s) 1 1
    more s false other = append-nil (blocks_committed s turns) ∙ partial.blocks s

    within : (s : ℕ) (b : Bool) → (session == s) ≡ b → cond b (partial.count s + 1) (partial.count s) ≤ length (blocks_of s sessions)
    within s true own =
        let same : session ≡ s = grind (arith, nat_tests, own) in
        omega (arith, number_within (partial.count session + 1) (blocks_of session sessions) some, ap partial.count same, ap (λ (k : ℕ). length (blocks_of k sessions)) same)
    within s false other = partial.within s

-- a partial run that has committed each session's last block, after which nothing is ready, is full
pub partial_run_is_full : (origins : List SiteName) (sessions : List Session) (turns : List LiveTurn) (x : SiteState) (partial : IsPartialRun origins sessions turns x)
    → ((session : ℕ) → partial.count session ≡ length (blocks_of session sessions)) → NothingReadyOf origins (site_after sessions turns x) → IsFullRun origins sessions turns x
partial_run_is_full origins sessions turns x partial all none = record { run = partial.run; blocks = λ s. partial.blocks s ∙ ap (range_with_len 1) (all s); none = none }
