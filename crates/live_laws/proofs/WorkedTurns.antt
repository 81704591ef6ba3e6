-- Worked live parts at one site.
use Rattle.std.proofs.Common.{arith}
use Rattle.std.specs.Prelude.{◌≡◌, ◌==◌, refl, true, false, ℕ, zero, suc, List, [], ◌∷◌, None}
use Rattle.rep_values.specs.declared.refusal.Refusal.TheVariants as refusal
use Rattle.rep_schema.specs.declared.schema.Schema.{Schema}
use Rattle.rep_schema.specs.Groups.{group_columns_of}
use Rattle.rep_calls.specs.declared.statement.Statement.{Statement}
use Rattle.deferred_queue.proofs.Sites.{eq_false}
use Rattle.packet_code.specs.declared.packet.Packet.TheVariants.{Carry}
use Rattle.site_state.specs.declared.entry.Entry.TheVariants as entry
use Rattle.site_state.specs.State.{SiteState}
use Rattle.site_state.specs.Contents.{tables_of}
use Rattle.site_state.specs.Ready.{is_ready}
use Rattle.site_state.specs.Steps.{begun}
use Rattle.site_state.specs.Packets.{site_accept}
use Rattle.site_state.proofs.WorkedSites.{a, b, master, additive, row, at_first, add, insert, moved, of_calls}
use Rattle.live_laws.specs.declared.turn.Reply.TheVariants as reply
use Rattle.live_laws.specs.declared.turn.LiveTurn.{LiveTurn}
use Rattle.live_laws.specs.declared.turn.LiveTurn.TheVariants.{Applied, Committed}
use Rattle.live_laws.specs.declared.turn.Block.{Block}
use Rattle.live_laws.specs.declared.turn.Session.{Session}
use Rattle.live_laws.specs.Turns.{IsRun, site_after, CommitEachBlock, IsFullRun}
use Rattle.live_laws.proofs.ReadyTurns.{nothing_ready_of}

abbrev two : Schema
two = additive (master a ∷ master b ∷ [])

abbrev block : ℕ → Statement → Block
block line statement = record { lines = line ∷ []; statements = statement ∷ [] }

abbrev session : List Block → Session
session blocks = record { blocks = blocks }

-- ---- the two blocks of one session, where nothing arrived

abbrev opening : SiteState
opening = begun (at_first two (row 1 10 ∷ []) a)

abbrev one_session : List Session
one_session = session (block 10 (add 1 5) ∷ block 12 (add 1 1) ∷ []) ∷ []

abbrev both_blocks : List LiveTurn
both_blocks = Committed 1 1 (reply.Commit 1) ∷ Committed 1 2 (reply.Commit 2) ∷ []

both_blocks_run : IsRun (b ∷ []) one_session both_blocks opening
unfolding group_columns_of
both_blocks_run = (record { may = refl; told = refl }, (record { may = refl; told = refl }, tt))

both_blocks_rows : tables_of (site_after one_session both_blocks opening) ≡ (row 1 16 ∷ []) ∷ []
unfolding group_columns_of
both_blocks_rows = refl

both_blocks_each : CommitEachBlock one_session both_blocks
both_blocks_each zero = refl
both_blocks_each (suc zero) = refl
both_blocks_each (suc (suc n)) = let off : (1 == suc (suc n)) ≡ false = eq_false 1 (suc (suc n)) (omega arith) in rw off refl

-- ---- a block and a position, in either order

abbrev with_one_from_b : SiteState
with_one_from_b = begun (site_accept (Carry b a 1 1 0 [] (of_calls (moved 0 1 10 12 ∷ []))) (at_first two (row 1 10 ∷ []) a))

abbrev one_block : List Session
one_block = session (block 13 (add 1 5) ∷ []) ∷ []

abbrev origin_first : List LiveTurn
origin_first = Applied b 1 0 None ∷ Committed 1 1 (reply.Commit 1) ∷ []

abbrev session_first : List LiveTurn
session_first = Committed 1 1 (reply.Commit 1) ∷ Applied b 1 0 None ∷ []

origin_first_run : IsRun (b ∷ []) one_block origin_first with_one_from_b
unfolding group_columns_of
origin_first_run = (record { may = refl; told = refl }, (record { may = refl; told = refl }, tt))

session_first_run : IsRun (b ∷ []) one_block session_first with_one_from_b
unfolding group_columns_of
session_first_run = (record { may = refl; told = refl }, (record { may = refl; told = refl }, tt))

origin_first_rows : tables_of (site_after one_block origin_first with_one_from_b) ≡ (row 1 17 ∷ []) ∷ []
unfolding group_columns_of
origin_first_rows = refl

session_first_rows : tables_of (site_after one_block session_first with_one_from_b) ≡ (row 1 17 ∷ []) ∷ []
unfolding group_columns_of
session_first_rows = refl

session_first_journal : (site_after one_block session_first with_one_from_b).journal
    ≡ entry.Done b 1 0 (of_calls (moved 0 1 10 12 ∷ [])) ∷ entry.Local 1 (of_calls (moved 0 1 10 15 ∷ [])) ∷ []
unfolding group_columns_of
session_first_journal = refl

one_block_each : CommitEachBlock one_block (Committed 1 1 (reply.Commit 1) ∷ [])
one_block_each zero = refl
one_block_each (suc zero) = refl
one_block_each (suc (suc n)) = let off : (1 == suc (suc n)) ≡ false = eq_false 1 (suc (suc n)) (omega arith) in rw off refl

-- ---- all three are full

both_blocks_full : IsFullRun (b ∷ []) one_session both_blocks opening
unfolding group_columns_of
both_blocks_full = record { run = both_blocks_run; blocks = both_blocks_each; none = nothing_ready_of (b ∷ []) (site_after one_session both_blocks opening) refl }

origin_first_full : IsFullRun (b ∷ []) one_block origin_first with_one_from_b
unfolding group_columns_of
origin_first_full = record { run = origin_first_run; blocks = one_block_each; none = nothing_ready_of (b ∷ []) (site_after one_block origin_first with_one_from_b) refl }

session_first_full : IsFullRun (b ∷ []) one_block session_first with_one_from_b
unfolding group_columns_of
session_first_full = record { run = session_first_run; blocks = one_block_each; none = nothing_ready_of (b ∷ []) (site_after one_block session_first with_one_from_b) refl }

-- the session's turn alone isn't: B's position is ready then
session_alone : is_ready b 1 (site_after one_block (Committed 1 1 (reply.Commit 1) ∷ []) with_one_from_b) ≡ true
unfolding group_columns_of
session_alone = refl

-- where there is no origin, no turns are a full run, though B's position is ready. Were its turn a turn all the same, a run
-- with it would be full too: so a run's positions have to be of origins
no_origin_full : IsFullRun [] [] [] with_one_from_b
no_origin_full = record { run = tt; blocks = each; none = λ origin position among. absurd (cc among) }
  where
    each : CommitEachBlock [] []
    each zero = refl
    each (suc n) = refl

no_origin_ready : is_ready b 1 with_one_from_b ≡ true
unfolding group_columns_of
no_origin_ready = refl

-- ---- a refused block tells the line of its statement, and one that changes nothing tells so

abbrev refused_then_nothing : List Session
refused_then_nothing = session (record { lines = 10 ∷ 11 ∷ []; statements = add 1 1 ∷ insert 1 5 ∷ [] } ∷ record { lines = []; statements = [] } ∷ []) ∷ []

refused_then_nothing_run : IsRun (b ∷ []) refused_then_nothing (Committed 1 1 (reply.Refused 11 refusal.KeyTaken) ∷ Committed 1 2 reply.Nothing ∷ []) opening
unfolding group_columns_of
refused_then_nothing_run = (record { may = refl; told = refl }, (record { may = refl; told = refl }, tt))
