-- Which packets have bytes: the limits on what a packet holds.
use Rattle.std.specs.Prelude.{◌≡◌, ◌≢◌, ℕ, ◌<◌, ◌≤◌, ◌^◌, ◌==◌, ◌||◌, Bool, true, nat_le, List, length, map}
use Rattle.std.specs.List.{AllByRecursion}
use Rattle.std.specs.List.Sorted.{IsStrictlyIncreasing}
use Rattle.rep_lists.specs.RisingLaws.{RisesBy}
use Rattle.rep_values.specs.declared.value.Value.{Value}
use Rattle.rep_values.specs.declared.value.Value.TheVariants.{Num, Words}
use Rattle.rep_values.specs.declared.name.SiteName.{SiteName}
use Rattle.rep_values.specs.Name.{is_name}
use Rattle.rep_values.specs.Text.{is_text}
use Rattle.rep_values.specs.Number.{IsKeyLen, IsRowLen}
use Rattle.rep_values.specs.Order.{name_cmp}
use Rattle.rep_schema.specs.Tables.{Cells, IsInRange}
use Rattle.rep_schema.specs.Groups.{shadow_group}
use Rattle.rep_calls.specs.declared.call.Call.{Call}
use Rattle.rep_calls.specs.declared.call.Call.TheVariants.{Insert, Update, Delete}
use Rattle.rep_calls.specs.declared.call.Part.{Part}
use Rattle.rep_calls.specs.declared.call.Txn.{Txn}
use Rattle.rep_calls.specs.declared.past.PastEntry.{PastEntry}
use Rattle.packet_code.specs.declared.packet.Packet.{Packet}
use Rattle.packet_code.specs.declared.packet.Packet.TheVariants.{Carry, Mark}

-- a number from -10^15 to 10^15, or a text
abbrev pub IsPlainValue : Value → Type 0
IsPlainValue (Num n) = IsInRange n
IsPlainValue (Words text) = is_text text ≡ true

-- the values of a row, 1 to 32
pub record IsPlainRow (row : Cells) : Type 0 where
  pub number : IsRowLen (length row)
  pub values : AllByRecursion IsPlainValue row

-- the values of a key, 1 to 4
pub record IsPlainKey (key : Cells) : Type 0 where
  pub number : IsKeyLen (length key)
  pub values : AllByRecursion IsPlainValue key

-- a named group's number, below 32, or the shadow group's
abbrev pub is_group_number : ℕ → Bool
is_group_number group = nat_le group 31 || group == shadow_group

-- the old and the new values of a group, as many new ones as old ones, and not the same
pub record IsPlainPart (part : Part) : Type 0 where
  pub group : is_group_number part.group ≡ true
  pub old : IsPlainRow part.old
  pub new : IsPlainRow part.new
  pub number : length part.new ≡ length part.old
  pub differ : part.old ≢ part.new

-- 1 to 33 parts, whose groups rise
pub record ArePlainParts (parts : List Part) : Type 0 where
  pub some : 1 ≤ length parts
  pub most : length parts ≤ 33
  pub each : AllByRecursion IsPlainPart parts
  pub rise : IsStrictlyIncreasing (map (λ (part : Part). part.group) parts)

-- the number of a table fits two bytes
abbrev pub IsPlainTable : ℕ → Type 0
IsPlainTable table = table < 2 ^ 16

-- a call whose table, row, key and parts are within these limits
abbrev pub IsPlainCall : Call → Type 0
IsPlainCall (Insert table row) = IsPlainTable table × IsPlainRow row
IsPlainCall (Update table key parts) = IsPlainTable table × IsPlainKey key × ArePlainParts parts
IsPlainCall (Delete table row) = IsPlainTable table × IsPlainRow row

-- 1 to 1,000 calls
pub record IsPlainTxn (txn : Txn) : Type 0 where
  pub some : 1 ≤ length txn.calls
  pub most : length txn.calls ≤ 1000
  pub calls : AllByRecursion IsPlainCall txn.calls

-- the place of a transaction in the queue and in a stream: numbers of eight bytes from 1, and an earlier position that
-- it depends on, or 0
pub record IsPlace (number position dep : ℕ) : Type 0 where
  pub from_one : 1 ≤ number
  pub number_fits : number < 2 ^ 64
  pub position_fits : position < 2 ^ 64
  pub earlier : dep < position

-- the name of a site
abbrev pub IsSiteName : SiteName → Type 0
IsSiteName site = is_name site.0 ≡ true

-- what was seen of a master: another site than the sender, and a number of eight bytes from 1
pub record IsPastEntry (from : SiteName) (seen : PastEntry) : Type 0 where
  pub origin : IsSiteName seen.origin
  pub another : seen.origin ≢ from
  pub from_one : 1 ≤ seen.number
  pub number_fits : seen.number < 2 ^ 64

-- what a sender had seen of at most 7 masters, whose names rise by their bytes
pub record IsCausalPast (from : SiteName) (past : List PastEntry) : Type 0 where
  pub most : length past ≤ 7
  pub each : AllByRecursion (IsPastEntry from) past
  pub rise : RisesBy (λ (seen : PastEntry). seen.origin.0) name_cmp past

-- a transaction on its way within all limits
pub record IsCarry (from to : SiteName) (number position dep : ℕ) (past : List PastEntry) (txn : Txn) : Type 0 where
  pub sender : IsSiteName from
  pub receiver : IsSiteName to
  pub at : IsPlace number position dep
  pub seen : IsCausalPast from past
  pub sent : IsPlainTxn txn

-- a mark within all limits
pub record IsMark (from to : SiteName) (mark : ℕ) : Type 0 where
  pub sender : IsSiteName from
  pub receiver : IsSiteName to
  pub mark_fits : mark < 2 ^ 64

-- a packet within all limits
abbrev pub IsPacket : Packet → Type 0
IsPacket (Carry from to number position dep past txn) = IsCarry from to number position dep past txn
IsPacket (Mark from to mark) = IsMark from to mark
