-- Which transactions a packet can carry.
use Rattle.std.specs.Prelude.{◌≤◌, List, length}
use Rattle.rep_schema.specs.declared.schema.Schema.{Schema}
use Rattle.rep_schema.specs.Shape.{HasShape}
use Rattle.rep_calls.specs.declared.call.Txn.{Txn}
use Rattle.rep_calls.specs.declared.past.PastEntry.{PastEntry}
use Rattle.conflict_detect.specs.Fits.{TxnFits}
use Rattle.conflict_detect.specs.KeysNamed.{HasKeys}
use Rattle.packet_code.specs.declared.route.Route.{Route}
use Rattle.packet_code.specs.Limits.{IsPlainTxn, IsPlace, IsSiteName, IsCausalPast, IsPacket}
use Rattle.packet_code.specs.Route.{carried}
use Rattle.packet_code.specs.Texts.{TxnHasTextForm}

-- a transaction of 1 to 1,000 calls that fits a schema whose tables have keys is within the limits of a packet, since each
-- of its texts has the form of one
abbrev pub FittingTransactionsArePlain : Type 0
FittingTransactionsArePlain = (schema : Schema) (txn : Txn) → HasShape schema → HasKeys schema → TxnFits schema txn
    → 1 ≤ length txn.calls → length txn.calls ≤ 1000 → TxnHasTextForm txn → IsPlainTxn txn

-- so with a past that is within its limits for the sender, a packet can carry it on each route
abbrev pub FittingTransactionsCanBeCarried : Type 0
FittingTransactionsCanBeCarried = (schema : Schema) (txn : Txn) → HasShape schema → HasKeys schema → TxnFits schema txn
    → 1 ≤ length txn.calls → length txn.calls ≤ 1000 → TxnHasTextForm txn
    → (route : Route) (past : List PastEntry) → IsSiteName route.from → IsSiteName route.to → IsPlace route.number route.position route.dep
    → IsCausalPast route.from past → IsPacket (carried route past txn)
