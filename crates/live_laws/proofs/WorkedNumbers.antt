-- Where queue numbers fall, full runs from one site may differ: what had seen a greater number than that of a later position
-- is ready only in between.
use Rattle.std.proofs.Common.{arith}
use Rattle.std.specs.Prelude.{◌≡◌, refl, ℕ, zero, suc, List, [], ◌∷◌, length, None}
use Rattle.rep_values.specs.declared.name.SiteName.{SiteName}
use Rattle.rep_schema.specs.declared.schema.Schema.{Schema}
use Rattle.rep_schema.specs.Groups.{group_columns_of}
use Rattle.rep_calls.specs.declared.past.PastEntry.{PastEntry}
use Rattle.site_state.specs.declared.arrival.Arrival.{Arrival}
use Rattle.site_state.specs.State.{SiteState}
use Rattle.site_state.proofs.WorkedSites.{a, b, c, master, additive, row, at_first, moved, of_calls}
use Rattle.live_laws.specs.declared.turn.LiveTurn.{LiveTurn}
use Rattle.live_laws.specs.declared.turn.LiveTurn.TheVariants.{Applied}
use Rattle.live_laws.specs.declared.turn.Session.{Session}
use Rattle.live_laws.specs.Turns.{site_after, IsFullRun, CommitEachBlock}
use Rattle.live_laws.proofs.ReadyTurns.{nothing_ready_of}

abbrev three : Schema
three = additive (master a ∷ master b ∷ master c ∷ [])

abbrev arrival : ℕ → ℕ → List PastEntry → Arrival
arrival position number past = record { position = position; number = number; dep = 0; past = past; txn = of_calls (moved 0 1 10 11 ∷ []) }

-- B's second position has a lower number than its first, and C's transaction had seen B's number 5
abbrev falling : SiteState
falling = record (at_first three (row 1 10 ∷ []) a) {
  senders = record { origin = b; first = 0; arrived = arrival 1 5 [] ∷ arrival 2 3 [] ∷ [] } ∷ record { origin = c; first = 0; arrived = arrival 1 1 (record { origin = b; number = 5 } ∷ []) ∷ [] } ∷ [];
}

abbrev three_turns : List LiveTurn
three_turns = Applied b 1 0 None ∷ Applied c 1 0 None ∷ Applied b 2 0 None ∷ []

abbrev two_turns : List LiveTurn
two_turns = Applied b 1 0 None ∷ Applied b 2 0 None ∷ []

three_each : CommitEachBlock [] three_turns
three_each zero = refl
three_each (suc n) = refl

two_each : CommitEachBlock [] two_turns
two_each zero = refl
two_each (suc n) = refl

three_are_full : IsFullRun (b ∷ c ∷ []) [] three_turns falling
unfolding group_columns_of
three_are_full = record {
  run = (record { may = refl; told = refl }, (record { may = refl; told = refl }, (record { may = refl; told = refl }, tt)));
  blocks = three_each;
  none = nothing_ready_of (b ∷ c ∷ []) (site_after [] three_turns falling) refl;
}

two_are_full : IsFullRun (b ∷ c ∷ []) [] two_turns falling
unfolding group_columns_of
two_are_full = record {
  run = (record { may = refl; told = refl }, (record { may = refl; told = refl }, tt));
  blocks = two_each;
  none = nothing_ready_of (b ∷ c ∷ []) (site_after [] two_turns falling) refl;
}

-- so the law of lengths needs its premise
not_equally_long : ((origins : List SiteName) (sessions : List Session) (x : SiteState) (turns others : List LiveTurn) → IsFullRun origins sessions turns x → IsFullRun origins sessions others x → length turns ≡ length others) → ⊥
not_equally_long law = absurd (omega (arith, law (b ∷ c ∷ []) [] falling three_turns two_turns three_are_full two_are_full))
