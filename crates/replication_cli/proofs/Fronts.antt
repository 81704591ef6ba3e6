-- What a sink took of a text that it didn't take whole.
use Rattle.std.proofs.Common.{◌≡◌, ℕ, List, ◌++◌, take, drop, sym, ◌∙◌, ap, None, Some, take-append-drop}
use Rattle.std.specs.Prelude.{Option}
use Rattle.std.specs.Io.KnownBytes.{Appends}
use Rattle.rep_io.specs.Transfer.{TakesFront}
use Rattle.script_drive.specs.Fed.{Begins}
use Rattle.script_drive.specs.declared.status.Status.TheVariants.{WriteFault}
use Rattle.replication_cli.specs.Outcome.{TellsOf}

-- a front of the bytes is a front of the text that they are
pub front_written : (before after : Option (List ℕ)) (bytes text : List ℕ) → TakesFront before after bytes → text ≡ bytes → TellsOf WriteFault text before after
front_written before after bytes text took same earlier is = go after (rw is at took.2)
  where
    go : (taken : Option (List ℕ)) → Appends (Some earlier) taken (take took.0 bytes)
        → (written : List ℕ) × (taken ≡ Some (earlier ++ written)) × Begins written text
    go None appended = absurd appended
    go (Some ys) appended = (take took.0 bytes, ap Some appended, (drop took.0 bytes, same ∙ sym (take-append-drop took.0 bytes)))
