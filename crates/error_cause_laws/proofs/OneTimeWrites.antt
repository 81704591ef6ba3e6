-- A sign that calls may leave in tables, and that one site alone makes, and once: what is needed of it, and how it is counted.
use Rattle.std.proofs.Common.{◌≡◌, ◌≢◌, ℕ, ◌+◌, ◌≤◌, ◌==◌, Bool, true, false, cond, List, [], ◌∷◌, ◌++◌, length, map, Some, None, Ok, refl, sym, ◌∙◌, inl, inr, arith}
use Rattle.std.specs.Prelude.{Option, ◌⊎◌, nat_lt}
use Rattle.std.proofs.lemmas.Bool.Decides.{eqb_tells}
use Rattle.rep_values.specs.declared.name.SiteName.{SiteName}
use Rattle.rep_schema.specs.declared.schema.Schema.{Schema}
use Rattle.rep_schema.specs.Tables.{Rows, AreTables}
use Rattle.rep_schema.specs.Putting.{after_changes}
use Rattle.rep_calls.specs.declared.call.Call.{Call}
use Rattle.rep_calls.specs.declared.call.Txn.{Txn}
use Rattle.rep_calls.specs.declared.statement.Statement.{Statement}
use Rattle.conflict_detect.specs.ChangeCalls.{call_of}
use Rattle.txn_effects.specs.Calls.{Effect}
use Rattle.txn_effects.specs.Contents.{Content, IsContent, effect_on, content_after}
use Rattle.txn_effects.specs.declared.local.Here.{Here}
use Rattle.txn_effects.specs.declared.local.Stamps.{Stamps}
use Rattle.txn_effects.specs.Locals.{BlockEffect, local_effect}
use Rattle.deferred_queue.specs.Streams.{at_position}
use Rattle.site_state.specs.Streams.{with_one, queued_behind, stream_in}
use Rattle.convergence_laws.specs.Journals.{IsSoundTxn}

-- how often calls make it
abbrev pub writes_in : (Call → ℕ) → List Call → ℕ
writes_in count [] = 0
writes_in count (call ∷ calls) = count call + writes_in count calls

-- they add up
pub writes_in-append : (count : Call → ℕ) (calls others : List Call) → writes_in count (calls ++ others) ≡ writes_in count calls + writes_in count others
writes_in-append count [] others = omega arith
writes_in-append count (c ∷ cs) others = let later = writes_in-append count cs others in omega (arith, later)

-- what a block of a site's own has of it: it is made at most once, by its owner, which hadn't made it yet and has then
pub record Makes (owner : SiteName) (Already : Bool → List Rows → ℕ → Type 0) (here : Here) (last later : ℕ) (before after : List Rows) (count : ℕ) : Type 0 where
  pub once : count ≤ 1
  pub own : 1 ≤ count → owner ≡ here.site
  pub fresh : 1 ≤ count → Already here.is_master before last → ⊥
  pub made : 1 ≤ count → Already here.is_master after later

-- a sign: who makes it; how often a call does; tables that have it; that a site, of these tables and this last stamp, has
-- made it or won't; and tables that had it before any event
pub record OneTimeWrite (schema : Schema) : Type 1 where
  pub owner : SiteName
  pub count : Call → ℕ
  pub Present : List Rows → Type 0
  pub Already : Bool → List Rows → ℕ → Type 0
  pub Given : List Rows → Type 0
  pub comes : (origin : SiteName) (txn : Txn) (content : Content) (effect : Effect) → IsContent schema content → IsSoundTxn schema txn → effect_on schema origin txn content ≡ Ok effect
      → Present (content_after schema origin txn content).tables → Present content.tables ⊎ (1 ≤ writes_in count txn.calls)
  pub onward : (origin : SiteName) (txn : Txn) (content : Content) (effect : Effect) → IsContent schema content → IsSoundTxn schema txn → effect_on schema origin txn content ≡ Ok effect
      → writes_in count (map (call_of schema) effect.changes) ≤ writes_in count txn.calls
  pub stays : (origin : SiteName) (txn : Txn) (content : Content) (effect : Effect) → IsContent schema content → IsSoundTxn schema txn → effect_on schema origin txn content ≡ Ok effect
      → (master : Bool) (last : ℕ) → Already master content.tables last → Already master (content_after schema origin txn content).tables last
  pub still : (origin : SiteName) (txn : Txn) (content : Content) (effect : Effect) → IsContent schema content → IsSoundTxn schema txn → effect_on schema origin txn content ≡ Ok effect
      → Given content.tables → Given (content_after schema origin txn content).tables
  pub later : (master : Bool) (tables : List Rows) (low high : ℕ) → low ≤ high → Already master tables low → Already master tables high
  pub elsewhere : (tables others : List Rows) (last : ℕ) → Already false tables last → Already false others last
  pub makes : (here : Here) (stamps : Stamps) (statements : List Statement) (tables : List Rows) (block : BlockEffect) → AreTables schema tables
      → local_effect schema here stamps statements tables ≡ Ok block
      → Makes owner Already here stamps.last block.stamps.last tables (after_changes schema block.changes tables) (writes_in count (map (call_of schema) block.changes))
  pub given : (master : Bool) (tables : List Rows) (last : ℕ) → Given tables → Already master tables last

-- ---- transactions in a queue

module _ (count : Call → ℕ) where
  abbrev pub signs_of : Txn → ℕ
  signs_of txn = writes_in count txn.calls

  abbrev pub signs_queued : List Txn → ℕ
  signs_queued [] = 0
  signs_queued (txn ∷ txns) = signs_of txn + signs_queued txns

  pub queued_one : (b : Bool) (txn : Txn) (txns : List Txn) → signs_queued (with_one b txn txns) ≤ signs_of txn + signs_queued txns
  queued_one true txn txns = omega arith
  queued_one false txn txns = omega arith

  behind_few : (opened : ℕ) (queue : List Txn) → signs_queued (queued_behind opened queue) ≤ signs_queued queue
  behind_few opened [] = omega arith
  behind_few opened (t ∷ ts) = omega (arith, queued_one (nat_lt opened (length ts + 1)) t (queued_behind opened ts), behind_few opened ts)

  -- a stream has no more of them than the queue
  pub stream_few : (opened : Option ℕ) (queue : List Txn) → signs_queued (stream_in opened queue) ≤ signs_queued queue
  stream_few None queue = omega arith
  stream_few (Some n) queue = behind_few n queue

  -- a transaction in it has no more
  pub position_few : (position : ℕ) (txns : List Txn) (txn : Txn) → at_position position txns ≡ Some txn → signs_of txn ≤ signs_queued txns
  position_few position [] txn found = absurd (cc found)
  position_few position (t ∷ ts) txn found = go (position == length ts + 1) found (position_few position ts txn)
    where
      go : (b : Bool) → cond b (Some t) (at_position position ts) ≡ Some txn → (at_position position ts ≡ Some txn → signs_of txn ≤ signs_queued ts) → signs_of txn ≤ signs_of t + signs_queued ts
      go true found older = let same : t ≡ txn = cc in rw (← same) (omega arith)
      go false found older = omega (arith, older found)

  -- nor have two
  pub two_positions_few : (one other : ℕ) (txns : List Txn) (t u : Txn) → at_position one txns ≡ Some t → at_position other txns ≡ Some u → one ≢ other → signs_of t + signs_of u ≤ signs_queued txns
  two_positions_few one other [] t u found also differ = absurd (cc found)
  two_positions_few one other (v ∷ vs) t u found also differ = go (one == length vs + 1) refl (other == length vs + 1) refl found also (λ a b. two_positions_few one other vs t u a b differ)
    where
      at : (p : ℕ) → (p == length vs + 1) ≡ true → p ≡ length vs + 1
      at p is = elim (eqb_tells p (length vs + 1)) [ inl same ↦ same.1 | inr apart ↦ absurd (cc (apart.0, is)) ]

      go : (a : Bool) → (one == length vs + 1) ≡ a → (b : Bool) → (other == length vs + 1) ≡ b → cond a (Some v) (at_position one vs) ≡ Some t → cond b (Some v) (at_position other vs) ≡ Some u
          → (at_position one vs ≡ Some t → at_position other vs ≡ Some u → signs_of t + signs_of u ≤ signs_queued vs) → signs_of t + signs_of u ≤ signs_of v + signs_queued vs
      go true p true q found also older = absurd (differ (at one p ∙ sym (at other q)))
      go true p false q found also older = let same : v ≡ t = cc in rw (← same) (omega (arith, position_few other vs u also))
      go false p true q found also older = let same : v ≡ u = cc in rw (← same) (omega (arith, position_few one vs t found))
      go false p false q found also older = omega (arith, older found also)

-- what is found in a stream of a queue that may have one more stood there before, or is the new one
pub stream_one : (opened : Option ℕ) (b : Bool) (txn : Txn) (queue : List Txn) (position : ℕ) (found : Txn) → at_position position (stream_in opened (with_one b txn queue)) ≡ Some found
    → (at_position position (stream_in opened queue) ≡ Some found) ⊎ ((b ≡ true) × (found ≡ txn))
stream_one opened false txn queue position found is = inl is
stream_one None true txn queue position found is = absurd (cc is)
stream_one (Some n) true txn queue position found is = go (nat_lt n (length queue + 1)) is
  where
    by : (c : Bool) → cond c (Some txn) (at_position position (queued_behind n queue)) ≡ Some found → (at_position position (queued_behind n queue) ≡ Some found) ⊎ ((true ≡ true) × (found ≡ txn))
    by true is = inr (refl, cc)
    by false is = inl is

    go : (b : Bool) → at_position position (with_one b txn (queued_behind n queue)) ≡ Some found → (at_position position (queued_behind n queue) ≡ Some found) ⊎ ((true ≡ true) × (found ≡ txn))
    go true is = by (position == length (queued_behind n queue) + 1) is
    go false is = inl is
