-- Which lines of a run are drawn.
use Rattle.std.specs.Prelude.{◌≡◌, Bool, true, false, ◌||◌, not, cond, flat_map, List, [], ◌∷◌, Option, Some, None}
use Rattle.std.specs.List.{list_all, list_any}
use Rattle.live_laws.specs.declared.turn.LiveTurn.{LiveTurn}
use Rattle.site_state.specs.declared.entry.Entry.{Entry}
use Rattle.site_state.specs.declared.entry.Entry.TheVariants as entry
use Rattle.packet_fates.specs.declared.packet.Coming.TheVariants as coming
use Rattle.packet_fates.specs.declared.packet.Fared.{Fared}
use Rattle.packet_fates.specs.declared.packet.Fared.TheVariants as fared
use Rattle.packet_fates.specs.declared.packet.Packet.{Packet}
use Rattle.run_story.specs.declared.happening.Event.{Event}
use Rattle.run_story.specs.declared.happening.Event.TheVariants as event
use Rattle.run_story.specs.declared.happening.Span.{Span}
use Rattle.run_story.specs.declared.happening.Line.{Line}
use Rattle.run_story.specs.Telling.{StoryView, TellsJournals}
use Rattle.run_picture.specs.declared.folding.Showing.{Showing}
use Rattle.run_picture.specs.declared.folding.Showing.TheVariants as showing
use Rattle.lane_drawing.specs.Marks.{Mark}
use Rattle.run_picture.specs.Marks.{entries_in, line_marks, DrawsJournals}

-- an entry tells of more than that a transaction was made or applied
abbrev pub is_notable : Entry → Bool
is_notable (entry.Local number txn) = false
is_notable (entry.Done origin position onward txn) = false
is_notable (entry.Error origin position call error txn) = true
is_notable (entry.Executed origin position onward txn) = true
is_notable (entry.Dropped origin position) = true
is_notable (entry.Refreshed moment) = true

-- such an entry is among those that a span tells
abbrev pub has_notable : StoryView → Span → Bool
has_notable story s = list_any is_notable (entries_in story s)

abbrev pub came_plainly : Fared → Bool
came_plainly (fared.Came coming.New) = true
came_plainly (fared.Came coming.Again) = false
came_plainly (fared.Twice coming) = false
came_plainly fared.Lost = false
came_plainly fared.Held = false
came_plainly (fared.Released coming) = false
came_plainly fared.CutOff = false

-- a packet came as it should
abbrev pub is_plain : Packet → Bool
is_plain p = came_plainly p.fared

-- nothing happened beside packets and entries that is always drawn
abbrev pub is_still_event : Option Event → Bool
is_still_event None = true
is_still_event (Some (event.Nothing site)) = true
is_still_event (Some (event.Linked from to link)) = false
is_still_event (Some (event.Refreshed site master keys rows)) = false
is_still_event (Some (event.Joined site source rows)) = false

abbrev pub has_turns : List LiveTurn → Bool
has_turns [] = false
has_turns (turn ∷ turns) = true

-- there is more to see in a line than that transactions were made, sent and applied
abbrev pub is_to_see : StoryView → Line → Bool
is_to_see story line = not (is_still_event line.event) || (not (list_all is_plain line.sent) || (not (list_all is_plain line.answered)
    || (has_turns line.turns || list_any (has_notable story) line.entries)))

-- the marks that are shown of a line: all, or in a folded run those of lines in which there is more to see
abbrev pub shown_marks : StoryView → Bool → Line → List Mark
shown_marks story folded line = cond (not folded || is_to_see story line) (line_marks story line) []

-- the marks of a line of which this becomes
abbrev pub marks_as : Showing → StoryView → Line → List Mark
marks_as showing.Drawn story line = line_marks story line
marks_as showing.Folded story line = []
marks_as showing.Left story line = []

-- what becomes of a line: with it, the marks are those that are shown
abbrev pub IsShowing : StoryView → Bool → Line → Showing → Type 0
IsShowing story folded line showing = shown_marks story folded line ≡ marks_as showing story line

-- where no line is left out, each entry of each journal is drawn once, in order, in the mark of its kind
abbrev pub WholeStoriesAreDrawn : Type 0
WholeStoriesAreDrawn = (story : StoryView) (marks : List Mark) → TellsJournals story → marks ≡ flat_map (shown_marks story false) story.lines → DrawsJournals story marks
