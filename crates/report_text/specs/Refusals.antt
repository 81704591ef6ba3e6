-- The words of refusals and of errors.
use Rattle.std.specs.Prelude.{ℕ, Bool, true, false, cond, List, [], ◌∷◌, decimal, codes}
use Rattle.rep_values.specs.declared.refusal.ApplyError.{ApplyError}
use Rattle.rep_values.specs.declared.refusal.ApplyError.TheVariants as error
use Rattle.rep_values.specs.declared.refusal.Limit.{Limit}
use Rattle.rep_values.specs.declared.refusal.Limit.TheVariants as limit
use Rattle.rep_values.specs.declared.refusal.Refusal.{Refusal}
use Rattle.rep_values.specs.declared.refusal.Refusal.TheVariants as refusal
use Rattle.report_text.specs.Sheet.{line}

-- the words of an error's kind have at most so many bytes, each behind a space
abbrev pub most_kind : ℕ
most_kind = 60

-- KIND: the name of an error, and that of its group, constraint or check
abbrev pub kind_words : ApplyError → List (List ℕ)
kind_words error.NoRow = codes "NoRow" ∷ []
kind_words (error.UpdateConflict group) = codes "UpdateConflict" ∷ group ∷ []
kind_words error.DeleteConflict = codes "DeleteConflict" ∷ []
kind_words (error.UniqueConflict constraint) = codes "UniqueConflict" ∷ constraint ∷ []
kind_words error.ValueRange = codes "ValueRange" ∷ []
kind_words (error.CheckFailed check) = codes "CheckFailed" ∷ check ∷ []

-- LIMIT
abbrev pub limit_word : Limit → List ℕ
limit_word limit.Masters = codes "masters"
limit_word limit.Snapshots = codes "snapshots"
limit_word limit.Tables = codes "tables"
limit_word limit.Columns = codes "columns"
limit_word limit.Keys = codes "keys"
limit_word limit.Methods = codes "methods"
limit_word limit.Constraints = codes "constraints"
limit_word limit.Levels = codes "levels"
limit_word limit.Statements = codes "statements"
limit_word limit.Checks = codes "checks"
limit_word limit.Sessions = codes "sessions"

-- the name of a refusal
abbrev pub refusal_name : Refusal → List ℕ
refusal_name refusal.UnknownName = codes "UnknownName"
refusal_name refusal.NameTaken = codes "NameTaken"
refusal_name refusal.WrongPhase = codes "WrongPhase"
refusal_name refusal.RowShape = codes "RowShape"
refusal_name refusal.KeyTaken = codes "KeyTaken"
refusal_name refusal.NoRow = codes "NoRow"
refusal_name (refusal.UniqueTaken constraint) = codes "UniqueTaken"
refusal_name refusal.ValueRange = codes "ValueRange"
refusal_name refusal.KeyNotOwn = codes "KeyNotOwn"
refusal_name (refusal.RuleBroken group) = codes "RuleBroken"
refusal_name refusal.Barred = codes "Barred"
refusal_name refusal.FilledBySite = codes "FilledBySite"
refusal_name refusal.LinkDown = codes "LinkDown"
refusal_name refusal.NoSuchError = codes "NoSuchError"
refusal_name (refusal.StillFails kind) = codes "StillFails"
refusal_name (refusal.QueueNotEmpty count) = codes "QueueNotEmpty"
refusal_name (refusal.LogTooYoung purged mark) = codes "LogTooYoung"
refusal_name refusal.Suspended = codes "Suspended"
refusal_name (refusal.LimitReached limit) = codes "LimitReached"
refusal_name (refusal.SchemaRule rule) = codes "SchemaRule"
refusal_name (refusal.CheckFailed check) = codes "CheckFailed"
refusal_name (refusal.NotQuiet site count) = codes "NotQuiet"
refusal_name refusal.Memory = codes "Memory"

-- the values of a refusal
abbrev pub refusal_values : Refusal → List (List ℕ)
refusal_values refusal.UnknownName = []
refusal_values refusal.NameTaken = []
refusal_values refusal.WrongPhase = []
refusal_values refusal.RowShape = []
refusal_values refusal.KeyTaken = []
refusal_values refusal.NoRow = []
refusal_values (refusal.UniqueTaken constraint) = constraint ∷ []
refusal_values refusal.ValueRange = []
refusal_values refusal.KeyNotOwn = []
refusal_values (refusal.RuleBroken group) = group ∷ []
refusal_values refusal.Barred = []
refusal_values refusal.FilledBySite = []
refusal_values refusal.LinkDown = []
refusal_values refusal.NoSuchError = []
refusal_values (refusal.StillFails kind) = kind_words kind
refusal_values (refusal.QueueNotEmpty count) = decimal count ∷ []
refusal_values (refusal.LogTooYoung purged mark) = decimal purged ∷ decimal mark ∷ []
refusal_values refusal.Suspended = []
refusal_values (refusal.LimitReached limit) = limit_word limit ∷ []
refusal_values (refusal.SchemaRule rule) = decimal rule ∷ []
refusal_values (refusal.CheckFailed check) = check ∷ []
refusal_values (refusal.NotQuiet site count) = site.0 ∷ decimal count ∷ []
refusal_values refusal.Memory = []

-- there is no memory: that ends a run, and is no line
abbrev pub is_memory : Refusal → Bool
is_memory refusal.Memory = true
is_memory other = false

-- error ORIGIN POSITION call C KIND
abbrev pub error_text : List ℕ → ℕ → ℕ → ApplyError → List ℕ
error_text origin position call kind = line (codes "error") (origin ∷ decimal position ∷ codes "call" ∷ decimal call ∷ kind_words kind)

-- ! LINE TEXT, and nothing where there is no memory
abbrev pub refused_text : ℕ → Refusal → List ℕ
refused_text number why = cond (is_memory why) [] (line (codes "!") (decimal number ∷ refusal_name why ∷ refusal_values why))
