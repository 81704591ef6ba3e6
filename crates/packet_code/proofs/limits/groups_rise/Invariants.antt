-- Groups looked through from the front.
use Rattle.std.proofs.Common.{◌≡◌, ◌∷◌, drop, map}
use Rattle.rep_calls.specs.declared.call.Part.{Part}
use Rattle.packet_code.specs.Forms.{rise, groups_rise}
use Rattle.packet_code.proofs.limits.groups_rise.Given as goal

-- the last group and those behind it tell whether all rise
abbrev pub invariant-loop-part : goal.invariant-loop-part
invariant-loop-part l = rise (l.last ∷ map (λ (part : Part). part.group) (drop l.part-index l.rest)) ≡ groups_rise l.parts
