-- The numbers of the refusals.
use Rattle.std.specs.Prelude.{ℕ}
use Rattle.rep_values.specs.declared.refusal.Refusal.{Refusal}
use Rattle.rep_values.specs.declared.refusal.Refusal.TheVariants as refusal

-- a refusal's number
abbrev pub refusal_number : Refusal → ℕ
refusal_number refusal.UnknownName = 1
refusal_number refusal.NameTaken = 2
refusal_number refusal.WrongPhase = 3
refusal_number refusal.RowShape = 4
refusal_number refusal.KeyTaken = 5
refusal_number refusal.NoRow = 6
refusal_number (refusal.UniqueTaken constraint) = 7
refusal_number refusal.ValueRange = 8
refusal_number refusal.KeyNotOwn = 9
refusal_number (refusal.RuleBroken group) = 10
refusal_number refusal.Barred = 11
refusal_number refusal.FilledBySite = 12
refusal_number refusal.LinkDown = 13
refusal_number refusal.NoSuchError = 14
refusal_number (refusal.StillFails error) = 15
refusal_number (refusal.QueueNotEmpty count) = 16
refusal_number (refusal.LogTooYoung purged mark) = 17
refusal_number refusal.Suspended = 18
refusal_number (refusal.LimitReached limit) = 19
refusal_number (refusal.SchemaRule rule) = 20
refusal_number (refusal.CheckFailed check) = 21
refusal_number (refusal.NotQuiet site count) = 22
refusal_number refusal.Memory = 23
