-- The texts of a transaction, and the names and numbers of a past. These have their form whatever they are, but a definition
-- sees bytes and numbers alone.
use Rattle.std.specs.Prelude.{◌≡◌, ◌<◌, ◌^◌, true, List}
use Rattle.std.specs.List.{AllByRecursion}
use Rattle.rep_values.specs.declared.value.Value.{Value}
use Rattle.rep_values.specs.declared.value.Value.TheVariants.{Num, Words}
use Rattle.rep_values.specs.Text.{is_text}
use Rattle.rep_schema.specs.Tables.{Cells}
use Rattle.rep_calls.specs.declared.call.Call.{Call}
use Rattle.rep_calls.specs.declared.call.Call.TheVariants.{Insert, Update, Delete}
use Rattle.rep_calls.specs.declared.call.Part.{Part}
use Rattle.rep_calls.specs.declared.call.Txn.{Txn}
use Rattle.rep_calls.specs.declared.past.PastEntry.{PastEntry}
use Rattle.packet_code.specs.Limits.{IsSiteName}

-- a number, or bytes that have the form of a text
abbrev pub HasTextForm : Value → Type 0
HasTextForm (Num n) = Unit {0}
HasTextForm (Words text) = is_text text ≡ true

-- each text among values
abbrev pub HaveTextForm : Cells → Type 0
HaveTextForm values = AllByRecursion HasTextForm values

-- the texts of a part
pub record PartHasTextForm (part : Part) : Type 0 where
  pub old : HaveTextForm part.old
  pub new : HaveTextForm part.new

-- the texts of a call
abbrev pub CallHasTextForm : Call → Type 0
CallHasTextForm (Insert table row) = HaveTextForm row
CallHasTextForm (Update table key parts) = HaveTextForm key × AllByRecursion PartHasTextForm parts
CallHasTextForm (Delete table row) = HaveTextForm row

-- the texts of a transaction
abbrev pub TxnHasTextForm : Txn → Type 0
TxnHasTextForm txn = AllByRecursion CallHasTextForm txn.calls

-- bytes that have the form of a name, and a number of eight bytes
pub record PastEntryHasForm (seen : PastEntry) : Type 0 where
  pub origin : IsSiteName seen.origin
  pub number : seen.number < 2 ^ 64

-- each name and number of a past
abbrev pub PastHasForm : List PastEntry → Type 0
PastHasForm past = AllByRecursion PastEntryHasForm past
