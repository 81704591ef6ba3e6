-- Notes that tell all reads.
use Rattle.std.proofs.Common.{◌≡◌, ℕ, List, [], ◌++◌, Bool, true, map, Some, ap, subst}
use Rattle.std.specs.declared.option.Option.{Option}
use Rattle.script_drive.specs.Prompt.{Asked, TellsReads}
use Rattle.drive_cases.specs.declared.noting.Note.{Note}
use Rattle.drive_cases.specs.Notes.{asked_of, reads_of}

-- where none had been noted before, all that are noted are further ones
notes_are_further : (before reads further all : List Asked) → before ≡ [] → Some before ≡ Some reads → all ≡ reads ++ further → further ≡ all
notes_are_further before reads further all none is whole = cc

-- so what is told of the further reads is told of all that are noted
pub notes_are_told : (told : List ℕ → List ℕ → List Asked → Type 0) (script : List ℕ) (before notes : List Note) (whole : Bool) (left taken : Option (List ℕ))
    → TellsReads told (reads_of true before) (reads_of whole notes) left taken → before ≡ [] → whole ≡ true → left ≡ Some script → taken ≡ Some []
    → told script [] (map asked_of notes)
notes_are_told told script before notes whole left taken tells none all is empty =
    let reads = tells (map asked_of notes) script [] (ap (λ b. reads_of b notes) all) is empty in
    let noted = notes_are_further (map asked_of before) reads.0 reads.1 (map asked_of notes) (ap (map asked_of) none) reads.2 reads.3 in
    subst (λ (l : List Asked). told script [] l) noted reads.4
