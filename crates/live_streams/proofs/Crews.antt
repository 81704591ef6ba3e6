-- What each turn of a live part keeps, and what it comes to at its end.
use Rattle.std.proofs.Common.{◌≡◌, ◌≢◌, ℕ, zero, suc, ◌+◌, ◌<◌, ◌≤◌, ◌==◌, List, [], ◌∷◌, ◌++◌, length, replicate, get_or, set, Bool, true, false, cond, Some, refl, sym, ap, ◌∙◌, subst, arith, length-append, get_or-set_same, get_or-set_other}
use Rattle.std.specs.Prelude.{Option, slice_get, is_some, nat_lt}
use Rattle.std.proofs.lemmas.Bool.Decides.{nat_tests}
use Rattle.std.proofs.lemmas.List.FromFn.{length-range_with_len}
use lib.ListN.{length-set}
use Rattle.rep_values.specs.declared.name.SiteName.{SiteName}
use Rattle.site_state.specs.State.{SiteState}
use Rattle.rep_schema.specs.Sites.{is_among}
use Rattle.site_state.specs.Ready.{is_ready}
use Rattle.site_state.specs.Passes.{site_apply}
use Rattle.site_state.specs.Commits.{site_commit, commit_answer}
use Rattle.live_laws.specs.declared.turn.Reply.{Reply}
use Rattle.live_laws.specs.declared.turn.LiveTurn.{LiveTurn}
use Rattle.live_laws.specs.declared.turn.LiveTurn.TheVariants.{Committed}
use Rattle.live_laws.specs.declared.turn.Block.{Block}
use Rattle.live_laws.specs.declared.turn.Session.{Session}
use Rattle.live_laws.specs.Turns.{blocks_in, blocks_of, block_of, reply_by, reply_to, applied_turn, committed_turn, committed_block, site_after, site_after_turn, blocks_committed, IsPartialRun, IsFullRun, NothingReadyOf}
use Rattle.live_laws.proofs.MadeTurns.{applied_turn_is, site_after_turn-applied_turn}
use Rattle.live_laws.proofs.RunParts.{site_after-append, blocks_committed-append}
use Rattle.live_laws.proofs.OneTurnMore.{applied_more, committed_more, partial_run_is_full}
use Rattle.live_streams.specs.Crews.{CrewState, IsCrew, HadEachBlock, IsPartlyRun}
use Rattle.live_streams.proofs.Quiet.{none_beyond}

-- ---- at the opening

zeros : (n place : ℕ) → ◌≡◌ {A = ℕ} (get_or (replicate n 0) place 0) 0
zeros zero place = refl
zeros (suc n) zero = refl
zeros (suc n) (suc place) = zeros n place

no_turns : (origins : List SiteName) (sessions : List Session) (x : SiteState) → IsPartialRun origins sessions [] x
no_turns origins sessions x = record { run = tt; count = λ session. 0; blocks = λ session. refl; within = λ session. omega arith }

-- no turn is made yet
pub new_crew : (origins : List SiteName) (sessions : List Session) (x : SiteState) → length sessions ≤ 8
    → IsCrew (record { opened = x; origins = origins; sessions = sessions; turns = []; next = replicate 8 0; site = x })
new_crew origins sessions x few = record { run = no_turns origins sessions x; counts = λ place. sym (zeros 8 place); room = refl; few = few; led = refl }

pub nothing_was_run : (origins : List SiteName) (sessions : List Session) (x y : SiteState) → y ≡ x → IsPartlyRun origins sessions x y
nothing_was_run origins sessions x y same = ([], (no_turns origins sessions x, same))

-- ---- how many blocks turns commit

-- as many as a partial run says
count_is : (origins : List SiteName) (sessions : List Session) (turns : List LiveTurn) (x : SiteState) (run : IsPartialRun origins sessions turns x) (session : ℕ) → run.count session ≡ length (blocks_committed session turns)
count_is origins sessions turns x run session = sym (ap (λ (ns : List ℕ). length ns) (run.blocks session) ∙ length-range_with_len 1 (run.count session))

with_turn : (session : ℕ) (turns : List LiveTurn) (turn : LiveTurn) → length (blocks_committed session (turns ++ turn ∷ [])) ≡ length (blocks_committed session turns) + length (blocks_committed session (turn ∷ []))
with_turn session turns turn = ap (λ (ns : List ℕ). length ns) (blocks_committed-append session turns (turn ∷ [])) ∙ length-append (blocks_committed session turns) (blocks_committed session (turn ∷ []))

of_applied : (session : ℕ) (origin : SiteName) (position : ℕ) (x : SiteState) → blocks_committed session (applied_turn origin position x ∷ []) ≡ []
of_applied session origin position x = ap (λ (t : LiveTurn). blocks_committed session (t ∷ [])) (applied_turn_is origin position x).is

eq_own : (a b : ℕ) → b ≡ a → (a == b) ≡ true
eq_own a b same = grind (arith, nat_tests)

-- ---- a turn more

module _ (opened : SiteState) (origins : List SiteName) (sessions : List Session) (turns : List LiveTurn) (next : List ℕ) (site : SiteState)
    (is : IsCrew (record { opened = opened; origins = origins; sessions = sessions; turns = turns; next = next; site = site })) where
  led_by : (turn : LiveTurn) (here : SiteState) → here ≡ site_after_turn sessions turn site → here ≡ site_after sessions (turns ++ turn ∷ []) opened
  led_by turn here after = after ∙ ap (site_after_turn sessions turn) is.led ∙ sym (site_after-append sessions turns (turn ∷ []) opened)

  -- a position that is ready is applied
  pub with_applied : (origin : SiteName) (position : ℕ) (before here : SiteState) (so_far more : List LiveTurn) (turn : LiveTurn) → is_among origins origin ≡ true → is_ready origin position site ≡ true
      → before ≡ site → so_far ≡ turns → turn ≡ applied_turn origin position before → more ≡ so_far ++ turn ∷ [] → here ≡ site_apply origin position before
      → IsCrew (record { opened = opened; origins = origins; sessions = sessions; turns = more; next = next; site = here })
  with_applied origin position before here so_far more turn among ready is_site are_turns is_turn one applied =
      let made : LiveTurn = applied_turn origin position site in
      let run : IsPartialRun origins sessions (turns ++ made ∷ []) opened
      = subst (λ (y : SiteState). IsPartialRun origins sessions (turns ++ applied_turn origin position y ∷ []) opened) (sym is.led)
      (applied_more origins sessions turns opened origin position is.run among (subst (λ (y : SiteState). is_ready origin position y ≡ true) is.led ready)) in
      let is_made : turn ≡ made = is_turn ∙ ap (applied_turn origin position) is_site in
      let all : more ≡ turns ++ made ∷ [] = one ∙ (λ i. are_turns i ++ is_made i ∷ []) in
      rw all (record {
        run = run;
        counts = λ place. with_turn (suc place) turns made ∙ ap (λ (ns : List ℕ). length (blocks_committed (suc place) turns) + length ns) (of_applied (suc place) origin position site)
            ∙ none_more (length (blocks_committed (suc place) turns)) ∙ is.counts place;
        room = is.room;
        few = is.few;
        led = led_by made here (applied ∙ ap (site_apply origin position) is_site ∙ sym (site_after_turn-applied_turn sessions origin position site site));
      })
    where
      none_more : (n : ℕ) → n + 0 ≡ n
      none_more n = omega arith

  -- the next block of a session is committed
  module _ (place n : ℕ) (block : Block) (within : place < 8) (had : n ≡ get_or next place 0) (found : block_of (suc place) (suc n) sessions ≡ Some block) where
    told : committed_turn sessions (suc place) (suc n) site ≡ Committed (suc place) (suc n) (reply_by block.lines (commit_answer block.statements site))
    told = ap (λ (b : Option Block). Committed (suc place) (suc n) (reply_to b site)) found

    count_here : is.run.count (suc place) + 1 ≡ suc n
    count_here = omega (arith, count_is origins sessions turns opened is.run (suc place), is.counts place, had)

    one_more : IsPartialRun origins sessions (turns ++ Committed (suc place) (suc n) (reply_by block.lines (commit_answer block.statements site)) ∷ []) opened
    one_more =
        let there : is_some (block_of (suc place) (is.run.count (suc place) + 1) sessions) ≡ true = rw (count_here, found) refl in
        let made = committed_more origins sessions turns opened (suc place) is.run there in
        let at : IsPartialRun origins sessions (turns ++ committed_turn sessions (suc place) (suc n) site ∷ []) opened
        = subst (λ (y : SiteState). IsPartialRun origins sessions (turns ++ committed_turn sessions (suc place) (suc n) y ∷ []) opened) (sym is.led)
        (subst (λ (k : ℕ). IsPartialRun origins sessions (turns ++ committed_turn sessions (suc place) k (site_after sessions turns opened) ∷ []) opened) count_here made) in
        subst (λ (t : LiveTurn). IsPartialRun origins sessions (turns ++ t ∷ []) opened) told at

    own : (other : ℕ) (b : Bool) → (suc place == suc other) ≡ b → length (blocks_committed (suc other) turns) + length (cond b (suc n ∷ []) []) ≡ get_or (set next place (suc n)) other 0
    own other true same =
        let here : place ≡ other = grind (arith, nat_tests) in
        subst (λ (k : ℕ). length (blocks_committed (suc k) turns) + 1 ≡ get_or (set next place (suc n)) k 0) here
        (omega (arith, is.counts place, had) ∙ sym (get_or-set_same next place (suc n) 0 (omega (arith, is.room, within))))
    own other false differs =
        let apart : other ≢ place = λ same. absurd (cc (differs, eq_own (suc place) (suc other) (ap suc same))) in
        omega (arith, is.counts other, get_or-set_other next place other (suc n) 0 apart)

    pub with_block : (before here : SiteState) (so_far more : List LiveTurn) (later : List ℕ) (session number : ℕ) (reply : Reply) → before ≡ site → so_far ≡ turns → session ≡ suc place → number ≡ suc n
        → reply ≡ reply_by block.lines (commit_answer block.statements before) → more ≡ so_far ++ Committed session number reply ∷ [] → later ≡ set next place number → here ≡ site_commit block.statements before
        → IsCrew (record { opened = opened; origins = origins; sessions = sessions; turns = more; next = later; site = here })
    with_block before here so_far more later session number reply is_site are_turns is_session is_number is_reply is_more is_later committed =
        let told_here : reply ≡ reply_by block.lines (commit_answer block.statements site) = is_reply ∙ ap (λ (y : SiteState). reply_by block.lines (commit_answer block.statements y)) is_site in
        let turns_are : more ≡ turns ++ Committed (suc place) (suc n) (reply_by block.lines (commit_answer block.statements site)) ∷ [] = is_more ∙ (λ i. are_turns i ++ Committed (is_session i) (is_number i) (told_here i) ∷ []) in
        let later_is : later ≡ set next place (suc n) = is_later ∙ ap (set next place) is_number in
        rw (turns_are, later_is) (record {
          run = one_more;
          counts = λ other. with_turn (suc other) turns (Committed (suc place) (suc n) (reply_by block.lines (commit_answer block.statements site))) ∙ own other (suc place == suc other) refl;
          room = length-set next place (suc n) ∙ is.room;
          few = is.few;
          led = led_by (Committed (suc place) (suc n) (reply_by block.lines (commit_answer block.statements site))) here (committed ∙ ap (site_commit block.statements) is_site ∙ ap (λ (b : Option Block). committed_block b site) (sym found));
        })

-- ---- at the end

no_blocks : (sessions : List Session) (place : ℕ) → length sessions ≤ place → length (blocks_of (suc place) sessions) ≡ 0
no_blocks sessions place beyond = ap (λ (s : Option Session). length (blocks_in s)) (none_beyond sessions place beyond)

module _ (c : CrewState) (is : IsCrew c) where
  all_had : HadEachBlock c → (session : ℕ) → is.run.count session ≡ length (blocks_of session c.sessions)
  all_had had zero = omega (arith, is.run.within 0)
  all_had had (suc place) = go (nat_lt place 8) refl
    where
      go : (b : Bool) → nat_lt place 8 ≡ b → is.run.count (suc place) ≡ length (blocks_of (suc place) c.sessions)
      go true less = count_is c.origins c.sessions c.turns c.opened is.run (suc place) ∙ is.counts place ∙ had place (grind (arith, nat_tests))
      go false beyond =
          let past : 8 ≤ place = grind (arith, nat_tests) in
          omega (arith, is.run.within (suc place), no_blocks c.sessions place (omega (arith, past, is.few)))

  -- where each block had its turn and nothing is ready, the run is full
  pub crew_is_full : HadEachBlock c → NothingReadyOf c.origins c.site → IsFullRun c.origins c.sessions c.turns c.opened
  crew_is_full had none = partial_run_is_full c.origins c.sessions c.turns c.opened is.run (all_had had) (subst (NothingReadyOf c.origins) is.led none)

  -- in any case it is a partial one
  pub crew_is_partly_run : IsPartlyRun c.origins c.sessions c.opened c.site
  crew_is_partly_run = (c.turns, (is.run, is.led))

-- what an option has is one value
pub told_alike : {X : Type 0} (x y : X) → Some x ≡ Some y → x ≡ y
told_alike x y same = cc

-- a block by the places of its session and its own
pub block_at_places : (sessions : List Session) (place n : ℕ) (session : Session) (block : Block) → slice_get sessions place ≡ Some session → slice_get session.blocks n ≡ Some block
    → block_of (suc place) (suc n) sessions ≡ Some block
block_at_places sessions place n session block one other = ap (λ (s : Option Session). slice_get (blocks_in s) n) one ∙ other
