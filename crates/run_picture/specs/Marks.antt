-- The marks of entries of journals in a drawing.
use Rattle.std.specs.Prelude.{◌≡◌, ℕ, ◌+◌, ◌*◌, ◌==◌, List, [], map, filter, take, drop, slice_get, flat_map, Option, Some, None}
use Rattle.page_text.specs.declared.look.Look.{Look}
use Rattle.page_text.specs.declared.look.Look.TheVariants as look
use Rattle.lane_drawing.specs.Marks.{Mark}
use Rattle.site_state.specs.declared.entry.Entry.{Entry}
use Rattle.site_state.specs.declared.entry.Entry.TheVariants as entry
use Rattle.packet_fates.specs.declared.packet.Traffic.{Traffic}
use Rattle.packet_fates.specs.declared.packet.Traffic.TheVariants.{Rows, Calls}
use Rattle.run_story.specs.declared.happening.Span.{Span}
use Rattle.run_story.specs.declared.happening.Line.{Line}
use Rattle.run_story.specs.declared.lane.Lane.{Lane}
use Rattle.run_story.specs.Telling.{StoryView, journal_of}

-- ---- of entries

-- how an entry looks, by its kind
abbrev pub look_of : Entry → Look
look_of (entry.Local number txn) = look.Strong
look_of (entry.Done origin position onward txn) = look.Good
look_of (entry.Error origin position call error txn) = look.Bad
look_of (entry.Executed origin position onward txn) = look.Mended
look_of (entry.Dropped origin position) = look.Gone
look_of (entry.Refreshed moment) = look.Waiting

-- the number of a journal: twice the place of its lane, and one more for calls
abbrev pub number_of : ℕ → Traffic → ℕ
number_of place Rows = 2 * place
number_of place Calls = 2 * place + 1

-- the mark of an entry of the journal of this number
abbrev pub mark_of_entry : ℕ → Entry → Mark
mark_of_entry number e = record { number = number; look = look_of e }

-- ---- of stories

abbrev pub entries_at : Option Lane → StoryView → Span → List Entry
entries_at None story s = []
entries_at (Some lane) story s = take s.count (drop s.first (journal_of s.traffic lane.site story.world))

-- the entries that a span tells
abbrev pub entries_in : StoryView → Span → List Entry
entries_in story s = entries_at (slice_get story.lanes s.lane) story s

-- the marks of a span
abbrev pub span_marks : StoryView → Span → List Mark
span_marks story s = map (mark_of_entry (number_of s.lane s.traffic)) (entries_in story s)

-- the marks of a line
abbrev pub line_marks : StoryView → Line → List Mark
line_marks story line = flat_map (span_marks story) line.entries

-- ---- the promise

-- the marks of one journal
abbrev pub marks_with : ℕ → List Mark → List Mark
marks_with number marks = filter (λ m. m.number == number) marks

-- each entry of the journals of each site is drawn once, in their order, in the mark of its kind
pub record DrawsJournals (story : StoryView) (marks : List Mark) : Type 0 where
  pub each : (place : ℕ) (lane : Lane) (traffic : Traffic) → slice_get story.lanes place ≡ Some lane
      → marks_with (number_of place traffic) marks ≡ map (mark_of_entry (number_of place traffic)) (journal_of traffic lane.site story.world)
