-- Worked parts, as lines and as JSON.
use Rattle.std.proofs.Common.{◌≡◌, ℕ, List, [], ◌∷◌, ◌++◌, None, Some, true, false, decimal, codes, refl, ap, ◌∙◌, append_assoc}
use Rattle.std.specs.Fmt.{digits}
use Rattle.json.specs.Print.{escape_byte}
use Rattle.rep_values.specs.declared.name.SiteName.{SiteName}
use Rattle.rep_values.specs.declared.refusal.ApplyError.{ApplyError}
use Rattle.rep_values.specs.declared.refusal.ApplyError.TheVariants as error
use Rattle.rep_values.specs.declared.refusal.Refusal.{Refusal}
use Rattle.rep_values.specs.declared.refusal.Refusal.TheVariants as refusal
use Rattle.report_text.specs.Sheet.{spaced}
use Rattle.report_text.specs.Refusals.{refusal_name, refusal_values, is_memory, error_text, refused_text}
use Rattle.live_laws.specs.declared.turn.Reply.TheVariants as reply
use Rattle.live_laws.specs.declared.turn.LiveTurn.{LiveTurn}
use Rattle.live_laws.specs.declared.turn.LiveTurn.TheVariants.{Applied, Committed}
use Rattle.live_report.specs.PartTexts.{turn_line, part_text}

abbrev a : SiteName
a = record { 0 = codes "A" }

-- ---- two blocks of one session

abbrev both_blocks : List LiveTurn
both_blocks = Committed 1 1 (reply.Commit 1) ∷ Committed 1 2 (reply.Commit 2) ∷ []

as_lines : part_text false a both_blocks ≡ codes "live A\nturn session 1 block 1 commit 1\nturn session 1 block 2 commit 2\n"
unfolding digits
as_lines = refl

as_json : part_text true a both_blocks ≡ codes "live A\n{\"order\":[\"turn session 1 block 1 commit 1\",\"turn session 1 block 2 commit 2\"],\"site\":\"A\"}\n"
unfolding digits escape_byte
as_json = refl

-- ---- a turn of each other kind

abbrev other_kinds : List LiveTurn
other_kinds =
    Applied (record { 0 = codes "B" }) 7 0 None ∷ Applied (record { 0 = codes "B" }) 8 2 (Some (error.UpdateConflict (codes "G")))
    ∷ Committed 1 1 reply.Nothing ∷ Committed 2 1 (reply.Refused 12 refusal.KeyTaken) ∷ []

other_lines : part_text false a other_kinds
    ≡ codes "live A\nturn done B 7\nturn error B 8 call 2 UpdateConflict G\nturn session 1 block 1 none\nturn session 2 block 1 ! 12 KeyTaken\n"
unfolding digits
other_lines = refl

-- ---- no turns

no_turns : part_text true a [] ≡ codes "live A\n{\"order\":[],\"site\":\"A\"}\n"
unfolding escape_byte
no_turns = refl

-- ---- lines of errors and of what is refused, in lines of turns

with_error : (origin : SiteName) (position call : ℕ) (why : ApplyError) → turn_line (Applied origin position call (Some why)) ≡ codes "turn " ++ error_text origin.0 position call why
with_error origin position call why = refl

with_refusal : (session block number : ℕ) (why : Refusal) → is_memory why ≡ false
    → turn_line (Committed session block (reply.Refused number why)) ≡ codes "turn session " ++ (decimal session ++ (codes " block " ++ (decimal block ++ 32 ∷ refused_text number why)))
with_refusal session block number why other =
    let words = spaced (codes "!" ∷ decimal number ∷ refusal_name why ∷ refusal_values why) in
    let behind = append_assoc (decimal session) (codes " block " ++ (decimal block ++ words)) (10 ∷ []) ∙ ap (λ bs. decimal session ++ (codes " block " ++ bs)) (append_assoc (decimal block) words (10 ∷ [])) in
    rw other (ap (λ bs. codes "turn session " ++ bs) behind)

-- want of memory has no text of its own
without_memory : turn_line (Committed 1 1 (reply.Refused 12 refusal.Memory)) ≡ codes "turn session 1 block 1\n"
unfolding digits
without_memory = refl
