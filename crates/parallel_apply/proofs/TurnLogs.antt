-- One turn more in a log, and the positions that turns applied.
use Rattle.std.proofs.Common.{◌≡◌, ℕ, List, [], ◌∷◌, ◌++◌, Some, None, refl, sym, ap, ◌∙◌, append_assoc, append-nil}
use Rattle.std.specs.Prelude.{Option}
use Rattle.parallel_apply.specs.declared.turns.Installed.{Installed}
use Rattle.parallel_apply.specs.Turns.{positions_of, quiet_turns, turns_up_to}

turns_up_to-push : (installed : List Installed) (one : Installed) → turns_up_to (installed ++ one ∷ []) ≡ turns_up_to installed ++ (quiet_turns one.quiet ++ Some one.position ∷ [])
turns_up_to-push [] one = append-nil (quiet_turns one.quiet ++ Some one.position ∷ [])
turns_up_to-push (first ∷ installed) one =
    ap (λ ts. (quiet_turns first.quiet ++ Some first.position ∷ []) ++ ts) (turns_up_to-push installed one)
    ∙ sym (append_assoc (quiet_turns first.quiet ++ Some first.position ∷ []) (turns_up_to installed) (quiet_turns one.quiet ++ Some one.position ∷ []))

-- a turn that applied a position
pub turn-applied : (installed : List Installed) (quiet position : ℕ)
    → turns_up_to (installed ++ record { quiet = quiet; position = position } ∷ []) ++ quiet_turns 0 ≡ (turns_up_to installed ++ quiet_turns quiet) ++ Some position ∷ []
turn-applied installed quiet position =
    append-nil (turns_up_to (installed ++ record { quiet = quiet; position = position } ∷ []))
    ∙ turns_up_to-push installed (record { quiet = quiet; position = position })
    ∙ sym (append_assoc (turns_up_to installed) (quiet_turns quiet) (Some position ∷ []))

pub positions-append : (turns later : List (Option ℕ)) → positions_of (turns ++ later) ≡ positions_of turns ++ positions_of later
positions-append [] later = refl
positions-append (None ∷ turns) later = positions-append turns later
positions-append (Some position ∷ turns) later = ap (λ ps. position ∷ ps) (positions-append turns later)
