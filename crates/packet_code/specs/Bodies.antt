-- The bytes of what a packet carries behind its head.
use Rattle.std.specs.Prelude.{◌≡◌, ℕ, ◌≤◌, List, ◌++◌, length}
use Rattle.rep_calls.specs.declared.call.Txn.{Txn}
use Rattle.rep_calls.specs.declared.past.PastEntry.{PastEntry}
use Rattle.packet_code.specs.declared.route.Route.{Route}
use Rattle.packet_code.specs.Limits.{IsPlainTxn, IsCausalPast}
use Rattle.packet_code.specs.Spelling.{past_bytes, txn_bytes}
use Rattle.packet_code.specs.Texts.{TxnHasTextForm, PastHasForm}

-- the bytes of a past and of a transaction, where these are within their limits; names and texts have their form
pub record IsBody (past : List PastEntry) (txn : Txn) (bytes : List ℕ) : Type 0 where
  pub seen : PastHasForm past
  pub texts : TxnHasTextForm txn
  pub bytes_are : IsPlainTxn txn → length past ≤ 7 → past_bytes past ++ txn_bytes txn ≡ bytes

-- the bytes of a past and of a transaction that can go on this route
pub record CanSeal (route : Route) (past : List PastEntry) (txn : Txn) (bytes : List ℕ) : Type 0 where
  pub body : IsBody past txn bytes
  pub seen : PastHasForm past → IsCausalPast route.from past
  pub plain : TxnHasTextForm txn → IsPlainTxn txn
