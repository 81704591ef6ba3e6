-- Worked live parts in worlds: what comes in before, and what goes back behind.
use Rattle.std.specs.Prelude.{◌≡◌, refl, ◌++◌, List, [], ◌∷◌, map, Some, None}
use Rattle.rep_values.specs.declared.name.SiteName.{SiteName}
use Rattle.rep_values.specs.declared.refusal.Refusal.TheVariants as refusal
use Rattle.rep_schema.specs.Groups.{group_columns_of}
use Rattle.rep_declare.specs.Refusals.{columns_step}
use Rattle.rep_calls.specs.declared.statement.Statement.{Statement}
use Rattle.schema_rules.specs.Rules.{broken_rule}
use Rattle.site_state.specs.State.{SiteState, acked_of}
use Rattle.site_state.proofs.WorkedSites.{a, b, c, d, row, add}
use Rattle.live_laws.specs.declared.turn.Reply.TheVariants as reply
use Rattle.live_laws.specs.declared.turn.LiveTurn.{LiveTurn}
use Rattle.live_laws.specs.declared.turn.LiveTurn.TheVariants.{Applied, Committed}
use Rattle.live_laws.specs.declared.turn.Session.{Session}
use Rattle.live_laws.specs.Turns.{turn_here, site_after_turn, site_after}
use Rattle.script_parse.specs.declared.command.Command.{Command}
use Rattle.world_state.specs.World.{WorldState, with_site}
use Rattle.world_state.proofs.WorkedScripts.{master_line, late_line, snapshot_site_line, id_and_q, added_up, row_line, resume, suspend, txn, block, link_down, after, then_lines, shown, rows_at}
use Rattle.world_push.specs.Lending.{live_refusal, reaching, live_opened, live_closed}

abbrev two_masters : List Command
two_masters = master_line a ∷ master_line b ∷ id_and_q ∷ added_up ++ row_line 1 10 ∷ []

abbrev going : WorldState
going = after (two_masters ++ resume ∷ [])

-- ---- when

in_setup : live_refusal a (after two_masters) ≡ Some refusal.WrongPhase
unfolding group_columns_of columns_step broken_rule
in_setup = refl

while_suspended : live_refusal a (then_lines (suspend ∷ []) going) ≡ Some refusal.WrongPhase
unfolding group_columns_of columns_step broken_rule
while_suspended = refl

-- the phase comes before the name
in_a_block : live_refusal c (then_lines (txn b ∷ []) going) ≡ Some refusal.WrongPhase
unfolding group_columns_of columns_step broken_rule
in_a_block = refl

at_no_site : live_refusal c going ≡ Some refusal.UnknownName
unfolding group_columns_of columns_step broken_rule
at_no_site = refl

at_a_master : live_refusal a going ≡ None
unfolding group_columns_of columns_step broken_rule
at_a_master = refl

-- a late master isn't one before it joins
at_a_late_master : live_refusal d (after (master_line a ∷ late_line d ∷ id_and_q ∷ resume ∷ [])) ≡ Some refusal.UnknownName
unfolding group_columns_of columns_step broken_rule
at_a_late_master = refl

-- nor is a snapshot site one
at_a_snapshot_site : live_refusal c (after (master_line a ∷ snapshot_site_line c a ∷ id_and_q ∷ resume ∷ [])) ≡ Some refusal.UnknownName
unfolding group_columns_of columns_step broken_rule
at_a_snapshot_site = refl

-- ---- live parts

abbrev session : List (List Statement) → Session
session blocks = record { blocks = map (λ (statements : List Statement). record { lines = []; statements = statements }) blocks }

-- what the turns of a list tell, each at the site that those before it leave
abbrev told_in_turn : List Session → List LiveTurn → SiteState → List LiveTurn
told_in_turn sessions [] x = []
told_in_turn sessions (turn ∷ turns) x = turn_here sessions turn x ∷ told_in_turn sessions turns (site_after_turn sessions turn x)

-- at a site of a world that is lent out
abbrev told_at : SiteName → List Session → List LiveTurn → WorldState → List LiveTurn
told_at site sessions turns w = shown [] (told_in_turn sessions turns) site (live_opened site w)

-- the world behind such a part
abbrev behind_part : SiteName → List Session → List LiveTurn → WorldState → WorldState
behind_part site sessions turns w = live_closed site (with_site site (site_after sessions turns) (live_opened site w))

-- ---- one session, where nothing comes in

abbrev one_session : List Session
one_session = session ((add 1 5 ∷ []) ∷ (add 1 1 ∷ []) ∷ []) ∷ []

abbrev both_blocks : List LiveTurn
both_blocks = Committed 1 1 (reply.Commit 1) ∷ Committed 1 2 (reply.Commit 2) ∷ []

blocks_tell : told_at a one_session both_blocks going ≡ both_blocks
unfolding group_columns_of columns_step broken_rule
blocks_tell = refl

blocks_leave : rows_at a (behind_part a one_session both_blocks going) ≡ (row 1 16 ∷ []) ∷ []
unfolding group_columns_of columns_step broken_rule
blocks_leave = refl

-- a pass begins though nothing came
pass_is_a_moment : shown 9 (λ x. x.moment) a (live_opened a going) ≡ 1
unfolding group_columns_of columns_step broken_rule
pass_is_a_moment = refl

-- ---- a block and what another master queued, in either order

abbrev one_block : List Session
one_block = session ((add 1 5 ∷ []) ∷ []) ∷ []

abbrev queued : WorldState
queued = then_lines (block b (add 1 2 ∷ [])) going

abbrev origin_first : List LiveTurn
origin_first = Applied b 1 0 None ∷ Committed 1 1 (reply.Commit 1) ∷ []

abbrev session_first : List LiveTurn
session_first = Committed 1 1 (reply.Commit 1) ∷ Applied b 1 0 None ∷ []

origin_first_tells : told_at a one_block origin_first queued ≡ origin_first
unfolding group_columns_of columns_step broken_rule
origin_first_tells = refl

session_first_tells : told_at a one_block session_first queued ≡ session_first
unfolding group_columns_of columns_step broken_rule
session_first_tells = refl

origin_first_leaves : rows_at a (behind_part a one_block origin_first queued) ≡ (row 1 17 ∷ []) ∷ []
unfolding group_columns_of columns_step broken_rule
origin_first_leaves = refl

session_first_leaves : rows_at a (behind_part a one_block session_first queued) ≡ (row 1 17 ∷ []) ∷ []
unfolding group_columns_of columns_step broken_rule
session_first_leaves = refl

-- the mark goes back to the master that queued it
mark_goes_back : shown 9 (acked_of a) b (behind_part a one_block session_first queued) ≡ 1
unfolding group_columns_of columns_step broken_rule
mark_goes_back = refl

-- ---- where the way there is down, nothing comes in and no mark goes back

abbrev cut_off : WorldState
cut_off = then_lines (link_down b a ∷ []) queued

none_reaches : reaching a cut_off ≡ []
unfolding group_columns_of columns_step broken_rule
none_reaches = refl

nothing_comes : rows_at a (behind_part a one_block (Committed 1 1 (reply.Commit 1) ∷ []) cut_off) ≡ (row 1 15 ∷ []) ∷ []
unfolding group_columns_of columns_step broken_rule
nothing_comes = refl

-- ---- where the way back is down, all comes in and no mark goes back

no_mark : shown 9 (acked_of a) b (behind_part a one_block session_first (then_lines (link_down a b ∷ []) queued)) ≡ 0
unfolding group_columns_of columns_step broken_rule
no_mark = refl
