-- From the opening on the site's journal is that of the turns.
use Rattle.std.proofs.Common.{◌≡◌, ℕ, ◌+◌, ◌==◌, List, [], ◌∷◌, ◌++◌, Bool, true, false, cond, Some, None, refl, sym, ap, ◌∙◌, arith}
use Rattle.std.specs.Prelude.{Option, is_some, Result, Ok, Err}
use Rattle.std.proofs.lemmas.Bool.{and_parts}
use Rattle.std.proofs.lemmas.Bool.Decides.{nat_tests}
use mathlib.Core.List.{append_assoc}
use Rattle.rep_values.specs.declared.name.SiteName.{SiteName}
use Rattle.rep_values.specs.declared.refusal.ApplyError.{ApplyError}
use Rattle.rep_schema.specs.declared.schema.Schema.{Schema}
use Rattle.txn_effects.specs.Calls.{Effect}
use Rattle.txn_effects.specs.Transactions.{Failure}
use Rattle.txn_effects.specs.declared.local.LocalStop.{LocalStop}
use Rattle.txn_effects.specs.Locals.{BlockEffect}
use Rattle.site_state.specs.declared.entry.Entry.{Entry}
use Rattle.site_state.specs.declared.entry.Entry.TheVariants.{Local, Done, Error}
use Rattle.site_state.specs.declared.arrival.Arrival.{Arrival}
use Rattle.site_state.specs.State.{SiteState}
use Rattle.rep_schema.specs.Sites.{is_among, is_master_site}
use Rattle.site_state.specs.Contents.{txn_of}
use Rattle.site_state.specs.Streams.{count_of}
use Rattle.site_state.specs.Ready.{is_ready}
use Rattle.site_state.specs.Steps.{is_empty}
use Rattle.site_state.specs.Passes.{effect_here, site_apply}
use Rattle.site_state.specs.Commits.{block_at, committed, committed_by, commit_answer_by}
use Rattle.site_state.proofs.Stepping.{arrived_has}
use Rattle.event_laws.proofs.MasterArrivals.{IsReadyAt, ready_at, site_apply-ready, entry_by, finished_by-master}
use Rattle.live_laws.specs.declared.turn.Reply.{Reply}
use Rattle.live_laws.specs.declared.turn.Reply.TheVariants as reply
use Rattle.live_laws.specs.declared.turn.LiveTurn.{LiveTurn}
use Rattle.live_laws.specs.declared.turn.LiveTurn.TheVariants.{Applied, Committed}
use Rattle.live_laws.specs.declared.turn.Block.{Block}
use Rattle.live_laws.specs.declared.turn.Session.{Session}
use Rattle.live_laws.specs.Turns.{block_of, reply_by, reply_to, applied_by, applied_found, applied_turn, committed_block, site_after_turn, IsTurn}
use Rattle.live_laws.specs.RunLaws.{ArrivalCarries, AreEntriesOf, AreMasters, TurnsAreJournalled}
use Rattle.live_laws.proofs.TurnSteps.{turn_steps}

-- what a turn adds to the journal
record Adds (sessions : List Session) (turn : LiveTurn) (x : SiteState) : Type 0 where
  entries : List Entry
  own : AreEntriesOf sessions turn x entries
  journal : (site_after_turn sessions turn x).journal ≡ entries ++ x.journal

-- ---- a position

applied_adds : (sessions : List Session) (origin : SiteName) (position call : ℕ) (error : Option ApplyError) (x : SiteState) → is_master_site x.schema origin ≡ true → is_ready origin position x ≡ true
    → applied_turn origin position x ≡ Applied origin position call error → Adds sessions (Applied origin position call error) x
applied_adds sessions origin position call error x master ready told = by (effect_here origin a x) error there journal
  where
    at : IsReadyAt origin position x
    at = ready_at origin position x ready

    a : Arrival
    a = at.arrival

    journal : (site_apply origin position x).journal ≡ entry_by origin a (effect_here origin a x) ∷ x.journal
    journal = ap (λ (y : SiteState). y.journal) (site_apply-ready origin position x at ∙ finished_by-master origin a x master (effect_here origin a x))

    there : applied_by origin position (effect_here origin a x) ≡ Applied origin position call error
    there = sym (ap (λ (f : Option Arrival). applied_found origin position f x) at.there) ∙ told

    is : a.position ≡ position
    is = arrived_has origin position x a at.there

    carried : ArrivalCarries origin position x a.txn
    carried = (a, (at.there, refl))

    by : (r : Result Effect Failure) (error : Option ApplyError) → applied_by origin position r ≡ Applied origin position call error → (site_apply origin position x).journal ≡ entry_by origin a r ∷ x.journal
        → Adds sessions (Applied origin position call error) x
    by (Ok effect) None told journal = record {
      entries = Done origin position 0 a.txn ∷ [];
      own = (a.txn, (carried, refl));
      journal = journal ∙ ap (λ (p : ℕ). Done origin p 0 a.txn ∷ x.journal) is;
    }
    by (Ok effect) (Some error) told journal = absurd (cc told)
    by (Err failure) None told journal = absurd (cc told)
    by (Err failure) (Some error) told journal =
        let one : failure.call ≡ call = cc told in
        let other : failure.error ≡ error = cc told in
        record {
          entries = Error origin position call error a.txn ∷ [];
          own = (a.txn, (carried, refl));
          journal = journal ∙ ap (λ (p : ℕ). Error origin p failure.call failure.error a.txn ∷ x.journal) is ∙ (λ i. Error origin position (one i) (other i) a.txn ∷ x.journal);
        }

-- ---- a block

-- what a block adds to it
record AddsBlock (sessions : List Session) (session block : ℕ) (r : Reply) (x y : SiteState) : Type 0 where
  entries : List Entry
  own : AreEntriesOf sessions (Committed session block r) x entries
  journal : y.journal ≡ entries ++ x.journal

block_adds : (sessions : List Session) (session block : ℕ) (b : Block) (x : SiteState) → block_of session block sessions ≡ Some b → (r : Reply) → reply_to (Some b) x ≡ r
    → AddsBlock sessions session block r x (committed_block (Some b) x)
block_adds sessions session block b x is r told = by (block_at b.statements x) refl told
  where
    nothing : (r : Reply) → reply.Nothing ≡ r → AddsBlock sessions session block r x x
    nothing (reply.Commit number) told = absurd (cc told)
    nothing reply.Nothing told = record { entries = []; own = refl; journal = refl }
    nothing (reply.Refused line refusal) told = absurd (cc told)

    queued : (effect : BlockEffect) → block_at b.statements x ≡ Ok effect → (r : Reply) → reply.Commit (count_of x + 1) ≡ r → AddsBlock sessions session block r x (committed effect x)
    queued effect does (reply.Commit number) told =
        let same : count_of x + 1 ≡ number = cc told in
        record {
          entries = Local number (txn_of x.schema effect.changes) ∷ [];
          own = (txn_of x.schema effect.changes, (record { stated = b; is = is; effect = effect; does = does; carries = refl }, refl));
          journal = ap (λ (n : ℕ). Local n (txn_of x.schema effect.changes) ∷ x.journal) same;
        }
    queued effect does reply.Nothing told = absurd (cc told)
    queued effect does (reply.Refused line refusal) told = absurd (cc told)

    some : (effect : BlockEffect) → block_at b.statements x ≡ Ok effect → (e : Bool) → reply_by b.lines (Ok (cond e 0 (count_of x + 1))) ≡ r → AddsBlock sessions session block r x (cond e x (committed effect x))
    some effect does true told = nothing r told
    some effect does false told =
        let above : (count_of x + 1 == 0) ≡ false = grind (arith, nat_tests) in
        let commit : reply_by b.lines (Ok (count_of x + 1)) ≡ reply.Commit (count_of x + 1) = rw above refl in
        queued effect does r (sym commit ∙ told)

    refused : (line : ℕ) (stop : LocalStop) (r : Reply) → reply.Refused line stop.refusal ≡ r → AddsBlock sessions session block r x x
    refused line stop (reply.Commit number) told = absurd (cc told)
    refused line stop reply.Nothing told = absurd (cc told)
    refused line stop (reply.Refused l refusal) told = record { entries = []; own = refl; journal = refl }

    by : (result : Result BlockEffect LocalStop) → block_at b.statements x ≡ result → reply_by b.lines (commit_answer_by result x) ≡ r → AddsBlock sessions session block r x (committed_by result x)
    by (Ok effect) does told = some effect does (is_empty effect.changes) told
    by (Err stop) does told = refused _ stop r told

committed_adds : (sessions : List Session) (session block : ℕ) (r : Reply) (x : SiteState) → is_some (block_of session block sessions) ≡ true → Committed session block (reply_to (block_of session block sessions) x) ≡ Committed session block r
    → Adds sessions (Committed session block r) x
committed_adds sessions session block r x may told = go (block_of session block sessions) refl may
  where
    reply_is : reply_to (block_of session block sessions) x ≡ r
    reply_is = cc told

    go : (found : Option Block) → block_of session block sessions ≡ found → is_some found ≡ true → Adds sessions (Committed session block r) x
    go None is some = absurd (cc some)
    go (Some b) is some =
        let adds = block_adds sessions session block b x is r (ap (λ (f : Option Block). reply_to f x) (sym is) ∙ reply_is) in
        record { entries = adds.entries; own = adds.own; journal = ap (λ (f : Option Block). (committed_block f x).journal) is ∙ adds.journal }

-- ---- a run

turn_adds : (origins : List SiteName) (sessions : List Session) (turn : LiveTurn) (x : SiteState) → AreMasters origins x → IsTurn origins sessions turn x → Adds sessions turn x
turn_adds origins sessions (Applied origin position call error) x masters is =
    let may = and_parts (is_among origins origin) (is_ready origin position x) is.may in
    applied_adds sessions origin position call error x (masters origin may.0) may.1 is.told
turn_adds origins sessions (Committed session block r) x masters is = committed_adds sessions session block r x is.may is.told

pub turns_are_journalled : TurnsAreJournalled
turns_are_journalled origins sessions [] x masters run = ([], (refl, refl))
turns_are_journalled origins sessions (turn ∷ turns) x masters run =
    let adds = turn_adds origins sessions turn x masters run.0 in
    let later = turns_are_journalled origins sessions turns (site_after_turn sessions turn x)
    (λ origin among. ap (λ (s : Schema). is_master_site s origin) (turn_steps sessions turn x).schema ∙ masters origin among) run.1 in (
      later.0 ++ adds.entries,
      (
        (later.0, (adds.entries, (refl, (adds.own, later.1.0)))),
        later.1.1 ∙ ap (λ (j : List Entry). later.0 ++ j) adds.journal ∙ sym (append_assoc later.0 adds.entries x.journal),
      ),
    )
