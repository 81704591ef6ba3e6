-- What words ask for a live part.
use Rattle.std.proofs.Common.{◌≡◌, Bool}
use Rattle.command_line.specs.declared.words.Asked.TheVariants as asked

pub live_same : (one two : Bool) → asked.Live one ≡ asked.Live two → one ≡ two
live_same one two same = cc same
