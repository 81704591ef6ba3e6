-- The first line of a script.
use Rattle.std.proofs.Common.{◌≡◌, ℕ, ◌+◌, ◌-◌, ◌<◌, List, [], ◌∷◌, ◌++◌, length, take, drop, get_or, refl, sym, ap, ap₂, ◌∙◌, subst, arith, take-append-drop}
use Rattle.std.proofs.lemmas.List.{drop_more, drop_all, take_all, length-drop}
use Rattle.script_drive.specs.Lines.{newline, last_line, lines_after, IsUnbroken}
use Rattle.script_drive.proofs.LineLemmas.{whole_lines-unbroken, pending-unbroken, lines_after-append}
use Rattle.script_steps.specs.Lines.{lines_of}

last_line-some : (script : List ℕ) → 0 < length script → last_line script ≡ script ∷ []
last_line-some [] some = absurd (omega (arith, some))
last_line-some (b ∷ bs) some = refl

-- bytes of which none ends a line are one line
pub lines_of-unbroken : (script : List ℕ) → 0 < length script → IsUnbroken script → lines_of script ≡ script ∷ []
lines_of-unbroken script some unbroken =
    ap₂ (λ (ls : List (List ℕ)) (p : List ℕ). ls ++ last_line p) (whole_lines-unbroken [] script unbroken) (pending-unbroken [] script unbroken) ∙ last_line-some script some

-- a line with its end is the first of them
pub lines_of-line : (line more : List ℕ) → IsUnbroken line → lines_of (line ++ newline ∷ more) ≡ line ∷ lines_of more
lines_of-line line more unbroken =
    lines_after-append [] line (newline ∷ more)
    ∙ ap₂ (λ (ls : List (List ℕ)) (p : List ℕ). ls ++ lines_after p (newline ∷ more)) (whole_lines-unbroken [] line unbroken) (pending-unbroken [] line unbroken)

-- up to a place at which a line ends
pub lines_of-at : (script : List ℕ) (end : ℕ) → end < length script → IsUnbroken (take end script) → get_or script end 0 ≡ newline → lines_of script ≡ take end script ∷ lines_of (drop (end + 1) script)
lines_of-at script end within unbroken ends =
    let parts : script ≡ take end script ++ newline ∷ drop (end + 1) script
    = sym (take-append-drop end script) ∙ ap (λ (bs : List ℕ). take end script ++ bs) (drop_more script end 0 within ∙ ap (λ (b : ℕ). b ∷ drop (end + 1) script) ends) in
    ap lines_of parts ∙ lines_of-line (take end script) (drop (end + 1) script) unbroken

-- what stands behind a place, as a range has it
pub to_end : (script : List ℕ) (place : ℕ) → take (length script - place) (drop place script) ≡ drop place script
to_end script place = take_all (length script - place) (drop place script) (omega (arith, length-drop place script))

-- where no line ends, all is one
pub lines_of-whole : (script : List ℕ) (end : ℕ) → 0 < length script → end ≡ length script → IsUnbroken (take end script) → lines_of script ≡ script ∷ lines_of (take (length script - end) (drop end script))
lines_of-whole script end some whole unbroken =
    let all : take end script ≡ script = take_all end script (omega (arith, whole)) in
    let none : take (length script - end) (drop end script) ≡ [] = to_end script end ∙ drop_all end script (omega (arith, whole)) in
    lines_of-unbroken script some (subst IsUnbroken all unbroken) ∙ ap (λ (bs : List ℕ). script ∷ lines_of bs) (sym none)
