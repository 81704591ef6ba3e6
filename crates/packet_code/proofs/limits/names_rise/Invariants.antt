-- Names looked through from the front.
use Rattle.std.proofs.Common.{◌≡◌, ◌∷◌, drop}
use Rattle.packet_code.specs.Forms.{names_rise}
use Rattle.packet_code.proofs.limits.names_rise.Given as goal

-- the last name and those behind it tell whether all rise
abbrev pub invariant-loop-seen : goal.invariant-loop-seen
invariant-loop-seen l = names_rise (l.last ∷ drop l.seen-index l.rest) ≡ names_rise l.past
