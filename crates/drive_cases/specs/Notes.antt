-- What a reader's notes tell of its reads.
use Rattle.std.specs.Prelude.{List, map, Bool, true, false, Some, None}
use Rattle.std.specs.declared.option.Option.{Option}
use Rattle.script_drive.specs.Prompt.{Asked}
use Rattle.drive_cases.specs.declared.noting.Note.{Note}

-- a note tells what was left, what had been written, and whether the read failed
abbrev pub asked_of : Note → Asked
asked_of note = record { left = Some note.left.value.bytes; written = Some note.written.items; failed = note.failed }

-- all reads are told, as long as there was memory for each note
abbrev pub reads_of : Bool → List Note → Option (List Asked)
reads_of true notes = Some (map asked_of notes)
reads_of false notes = None
