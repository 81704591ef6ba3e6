-- The names of looks and of anchors, as the style sheet and drawings have them.
use Rattle.std.specs.Prelude.{ℕ, List, codes}
use Rattle.page_text.specs.declared.look.Look.{Look}
use Rattle.page_text.specs.declared.look.Look.TheVariants as look
use Rattle.page_text.specs.declared.drawing.Anchor.{Anchor}
use Rattle.page_text.specs.declared.drawing.Anchor.TheVariants as anchor

-- the name of a look
abbrev pub look_name : Look → List ℕ
look_name look.Lane = codes "lane"
look_name look.ThinLane = codes "thin-lane"
look_name look.LateLane = codes "late-lane"
look_name look.Plain = codes "plain"
look_name look.Faint = codes "faint"
look_name look.Script = codes "script"
look_name look.Note = codes "note"
look_name look.Name = codes "name"
look_name look.Strong = codes "strong"
look_name look.Good = codes "good"
look_name look.Bad = codes "bad"
look_name look.Mended = codes "mended"
look_name look.Gone = codes "gone"
look_name look.Waiting = codes "waiting"
look_name look.Sent = codes "sent"
look_name look.Again = codes "again"
look_name look.Lost = codes "lost"
look_name look.Held = codes "held"
look_name look.Back = codes "back"
look_name look.Fetched = codes "fetched"
look_name look.Down = codes "down"
look_name look.Up = codes "up"
look_name look.Refused = codes "refused"
look_name look.Same = codes "same"
look_name look.Differs = codes "differs"

-- the name of an anchor
abbrev pub anchor_name : Anchor → List ℕ
anchor_name anchor.Start = codes "start"
anchor_name anchor.Middle = codes "middle"
anchor_name anchor.End = codes "end"
