-- Words of the command line, and what they ask for, worked out by hand.
use Rattle.std.proofs.Common.{◌≡◌, [], ◌∷◌, codes, true, false, refl, Some, None}
use Rattle.command_line.specs.Words.{asked_in}
use Rattle.command_line.specs.declared.words.Asked.TheVariants as asked

run_alone : asked_in (codes "run" ∷ []) ≡ Some (asked.Run 1)
run_alone = refl

run-joined : asked_in (codes "run" ∷ codes "--appliers=08" ∷ []) ≡ Some (asked.Run 8)
run-joined = refl

run-nine : asked_in (codes "run" ∷ codes "--appliers" ∷ codes "9" ∷ []) ≡ None
run-nine = refl

run-flag : asked_in (codes "run" ∷ codes "--json" ∷ []) ≡ None
run-flag = refl

storm-between : asked_in (codes "storm" ∷ codes "7" ∷ codes "--appliers" ∷ codes "2" ∷ codes "50000" ∷ []) ≡ Some (asked.Storm 7 50000 2)
storm-between = refl

storm-flag : asked_in (codes "storm" ∷ codes "7" ∷ codes "8" ∷ codes "--json" ∷ []) ≡ None
storm-flag = refl

live_alone : asked_in (codes "live" ∷ []) ≡ Some (asked.Live false)
live_alone = refl

live-flag : asked_in (codes "live" ∷ codes "--json" ∷ []) ≡ Some (asked.Live true)
live-flag = refl

live-two_flags : asked_in (codes "live" ∷ codes "--json" ∷ codes "--json" ∷ []) ≡ None
live-two_flags = refl

live-flag_with_value : asked_in (codes "live" ∷ codes "--json=true" ∷ []) ≡ None
live-flag_with_value = refl

live-appliers : asked_in (codes "live" ∷ codes "--appliers" ∷ codes "2" ∷ []) ≡ None
live-appliers = refl

flag-live : asked_in (codes "--json" ∷ codes "live" ∷ []) ≡ None
flag-live = refl
