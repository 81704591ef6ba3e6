-- A letter and digits are a text.
use Rattle.std.proofs.Common.{◌^◌, ◌<◌, arith}
use Rattle.storm_script.proofs.DecimalTexts.{name_of_text}
use Rattle.storm_script.proofs.rounds.name_of.Goals as goal

pub words-requires : goal.words-requires
words-requires c =
    let fits : c.args.number < 2 ^ 64 = omega arith in
    rw (c.deref.ensures.value, c.in_ok-extend_from_slice.ensures.items, c.in_ok-text.ensures.items, c.as_bytes.ensures.value, c.format.ensures.text)
    (name_of_text c.args.number fits)
