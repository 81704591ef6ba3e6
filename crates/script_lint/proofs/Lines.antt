-- One line more, and what is left of a script.
use Rattle.std.proofs.Common.{◌≡◌, ◌<◌, ◌≤◌, ℕ, ◌+◌, List, [], ◌∷◌, ◌++◌, length, Some, refl, sym, ap, ◌∙◌, arith, append-nil}
use Rattle.std.proofs.lemmas.Bool.{lt-ltb, le-ltb}
use Rattle.schema_advice.specs.declared.broken.BrokenPart.{BrokenPart}
use Rattle.world_state.specs.declared.refused.Refused.{Refused}
use Rattle.script_drive.specs.LineBytes.{most_lines}
use Rattle.script_steps.specs.Lines.{lines_of}
use Rattle.script_steps.specs.Saying.{malformed_at, refused_so}
use Rattle.script_lint.specs.Checking.{Checked, parts_beside, with_said, checked, checked_from}
use Rattle.script_lint.specs.Adding.{with_answer, with_parts}
use Rattle.script_steps.specs.declared.answer.Verdict.TheVariants as verdict

-- what is kept of a malformed line
pub with_answer-malformed : (number rule : ℕ) (c : Checked) → with_answer (malformed_at number rule) c ≡ with_said (Some (malformed_at number rule)) c
with_answer-malformed number rule c =
    ap (λ (parts : List BrokenPart). record { world = c.world; answers = c.answers ++ malformed_at number rule ∷ []; parts = parts }) (sym (append-nil c.parts))

-- what is kept of a refusal
pub with_parts-refused : (r : Refused) (c : Checked)
    → with_parts (parts_beside r.refusal c.world.schema) (with_answer (record { line = r.line; verdict = verdict.Refused r.refusal }) c) ≡ with_said (refused_so (Some r)) c
with_parts-refused r c = refl

pub ruleset added_facts = (with_answer-malformed, with_parts-refused)

-- a line within the limit, and one that is too many
pub checked_from-more : (number : ℕ) (line : List ℕ) (lines : List (List ℕ)) (c : Checked) → number ≤ most_lines → checked_from number (line ∷ lines) c ≡ checked_from (number + 1) lines (checked number line c)
checked_from-more number line lines c few = rw (le-ltb most_lines number few) refl

pub checked_from-over : (number : ℕ) (line : List ℕ) (lines : List (List ℕ)) (c : Checked) → most_lines < number → checked_from number (line ∷ lines) c ≡ with_said (Some (malformed_at number 2)) c
checked_from-over number line lines c many = rw (lt-ltb most_lines number many) refl

-- no byte is left
pub lines_of-none : (left : List ℕ) → length left ≡ 0 → lines_of left ≡ []
lines_of-none [] none = refl
lines_of-none (byte ∷ bytes) none = absurd (omega (arith, none))

-- one line more of those that are left
pub one_more : (number : ℕ) (left line behind : List ℕ) (c c' : Checked) → number ≤ 200000 → lines_of left ≡ line ∷ lines_of behind → c' ≡ checked number line c
    → checked_from (number + 1) (lines_of behind) c' ≡ checked_from number (lines_of left) c
one_more number left line behind c c' few first is =
    ap (checked_from (number + 1) (lines_of behind)) is ∙ sym (checked_from-more number line (lines_of behind) c few) ∙ ap (λ (lines : List (List ℕ)). checked_from number lines c) (sym first)

-- the last one, which is too many
pub one_too_many : (number : ℕ) (left line behind : List ℕ) (c c' : Checked) → 200000 < number → lines_of left ≡ line ∷ lines_of behind → c' ≡ with_said (Some (malformed_at number 2)) c
    → c' ≡ checked_from number (lines_of left) c
one_too_many number left line behind c c' many first is =
    is ∙ sym (checked_from-over number line (lines_of behind) c many) ∙ ap (λ (lines : List (List ℕ)). checked_from number lines c) (sym first)

-- none is left
pub none_left : (number : ℕ) (left : List ℕ) (c : Checked) → length left ≡ 0 → c ≡ checked_from number (lines_of left) c
none_left number left c none = ap (λ (lines : List (List ℕ)). checked_from number lines c) (sym (lines_of-none left none))

pub ruleset left_facts = (one_more, one_too_many, none_left)
