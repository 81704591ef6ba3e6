-- Each entry of each journal of a story is drawn once, where no line is left out.
use Rattle.std.proofs.Common.{◌≡◌, ℕ, zero, suc, ◌+◌, ◌*◌, ◌≤◌, List, [], ◌∷◌, ◌++◌, length, map, take, drop, refl, sym, ap, ◌∙◌, arith}
use Rattle.std.specs.Prelude.{◌==◌, ◌&&◌, Bool, true, false, cond, slice_get, flat_map, Option, None, Some}
use Rattle.std.specs.List.{filter_map, range_with_len}
use Rattle.std.proofs.lemmas.Bool.{eq-eqb, ne_eqb}
use Rattle.std.proofs.lemmas.Grind.{flat_map-append}
use Rattle.std.proofs.lemmas.List.{drop_all, map-append}
use Rattle.std.proofs.lemmas.List.Elements.{filter_map-append, filter-append}
use Rattle.rep_lists.proofs.Places.{drop_from_found}
use Rattle.site_state.specs.declared.entry.Entry.{Entry}
use Rattle.packet_fates.specs.declared.packet.Traffic.{Traffic}
use Rattle.packet_fates.specs.declared.packet.Traffic.TheVariants.{Rows, Calls}
use Rattle.run_story.specs.declared.happening.Span.{Span}
use Rattle.run_story.specs.declared.happening.Line.{Line}
use Rattle.run_story.specs.declared.lane.Lane.{Lane}
use Rattle.run_story.specs.Telling.{StoryView, journal_of, is_kind, places_in, told_places, spans_of, TellsJournals}
use Rattle.lane_drawing.specs.Marks.{Mark}
use Rattle.run_picture.specs.Marks.{number_of, mark_of_entry, entries_at, entries_in, span_marks, line_marks, marks_with, DrawsJournals}
use Rattle.run_picture.specs.Folding.{shown_marks}

-- ---- entries at places

none_past : {X : Type 0} (xs : List X) (k : ℕ) → slice_get xs k ≡ None → length xs ≤ k
none_past [] k is = omega arith
none_past (x ∷ xs) zero is = absurd cc
none_past (x ∷ xs) (suc k) is = let rest = none_past xs k is in omega (arith, rest)

take_none : {X : Type 0} (m : ℕ) (xs : List X) → xs ≡ [] → take m xs ≡ []
take_none zero xs none = refl
take_none (suc m) [] none = refl
take_none (suc m) (x ∷ xs) none = absurd cc

-- one place more
piece_more : {X : Type 0} (xs : List X) (n k : ℕ) (o : Option X) → slice_get xs k ≡ o → filter_map (slice_get xs) (range_with_len (k + 1) n) ≡ take n (drop (k + 1) xs)
    → filter_map (slice_get xs) (k ∷ range_with_len (k + 1) n) ≡ take (suc n) (drop k xs)
piece_more xs n k None is rest =
    let past : length xs ≤ k = none_past xs k is in
    let next : take n (drop (k + 1) xs) ≡ [] = take_none n (drop (k + 1) xs) (drop_all (k + 1) xs (omega (arith, past))) in
    let here : take (suc n) (drop k xs) ≡ [] = take_none (suc n) (drop k xs) (drop_all k xs past) in
    rw is (rest ∙ (next ∙ sym here))
piece_more xs n k (Some x) is rest = rw (is, drop_from_found xs k x is) (ap (λ ys. x ∷ ys) rest)

-- what stands at places one after the other is a piece of the list
filter_map-piece : {X : Type 0} (xs : List X) (n k : ℕ) → filter_map (slice_get xs) (range_with_len k n) ≡ take n (drop k xs)
filter_map-piece xs zero k = refl
filter_map-piece xs (suc n) k = piece_more xs n k (slice_get xs k) refl (filter_map-piece xs n (k + 1))

-- ---- marks of one journal

with_append : (n : ℕ) (xs ys : List Mark) → marks_with n (xs ++ ys) ≡ marks_with n xs ++ marks_with n ys
with_append n xs ys = filter-append (λ (m : Mark). m.number == n) xs ys

with_same : (n m : ℕ) (es : List Entry) → (m == n) ≡ true → marks_with n (map (mark_of_entry m) es) ≡ map (mark_of_entry m) es
with_same n m [] is = refl
with_same n m (e ∷ es) is = rw is (ap (λ (ms : List Mark). mark_of_entry m e ∷ ms) (with_same n m es is))

with_other : (n m : ℕ) (es : List Entry) → (m == n) ≡ false → marks_with n (map (mark_of_entry m) es) ≡ []
with_other n m [] is = refl
with_other n m (e ∷ es) is = rw is (with_other n m es is)

-- two journals have different numbers
same_number : (l p : ℕ) (t traffic : Traffic) → (l == p && is_kind t traffic) ≡ true → (number_of l t ≡ number_of p traffic) × ((l ≡ p) × (t ≡ traffic))
same_number l p t traffic is = grind arith

other_number : (l p : ℕ) (t traffic : Traffic) → (l == p && is_kind t traffic) ≡ false → (number_of l t == number_of p traffic) ≡ false
other_number l p Rows Rows is = ne_eqb (2 * l) (2 * p) (grind arith)
other_number l p Rows Calls is = ne_eqb (2 * l) (2 * p + 1) (omega arith)
other_number l p Calls Rows is = ne_eqb (2 * l + 1) (2 * p) (omega arith)
other_number l p Calls Calls is = ne_eqb (2 * l + 1) (2 * p + 1) (grind arith)

-- ---- the marks of spans

module _ (story : StoryView) (place : ℕ) (lane : Lane) (traffic : Traffic) (there : slice_get story.lanes place ≡ Some lane) where
  abbrev journal : List Entry
  journal = journal_of traffic lane.site story.world

  abbrev number : ℕ
  number = number_of place traffic

  span_drawn : (s : Span) → marks_with number (span_marks story s) ≡ map (mark_of_entry number) (filter_map (slice_get journal) (places_in place traffic s))
  span_drawn s = go (s.lane == place && is_kind s.traffic traffic) refl
    where
      go : (b : Bool) → (s.lane == place && is_kind s.traffic traffic) ≡ b
          → marks_with number (span_marks story s) ≡ map (mark_of_entry number) (filter_map (slice_get journal) (cond b (range_with_len s.first s.count) []))
      go true is = here (same_number s.lane place s.traffic traffic is)
        where
          here : (number_of s.lane s.traffic ≡ number) × ((s.lane ≡ place) × (s.traffic ≡ traffic))
              → marks_with number (span_marks story s) ≡ map (mark_of_entry number) (filter_map (slice_get journal) (range_with_len s.first s.count))
          here same =
              with_same number (number_of s.lane s.traffic) (entries_in story s) (eq-eqb (number_of s.lane s.traffic) number same.0)
              ∙ ap (λ (n : ℕ). map (mark_of_entry n) (entries_in story s)) same.0
              ∙ ap (λ (es : List Entry). map (mark_of_entry number) es) entries
            where
              found : slice_get story.lanes s.lane ≡ Some lane
              found = ap (λ (k : ℕ). slice_get story.lanes k) same.1.0 ∙ there

              entries : entries_in story s ≡ filter_map (slice_get journal) (range_with_len s.first s.count)
              entries =
                  ap (λ (o : Option Lane). entries_at o story s) found
                  ∙ ap (λ (t : Traffic). take s.count (drop s.first (journal_of t lane.site story.world))) same.1.1
                  ∙ sym (filter_map-piece journal s.count s.first)
      go false is = with_other number (number_of s.lane s.traffic) (entries_in story s) (other_number s.lane place s.traffic traffic is)

  spans_drawn : (spans : List Span) → marks_with number (flat_map (span_marks story) spans) ≡ map (mark_of_entry number) (filter_map (slice_get journal) (told_places place traffic spans))
  spans_drawn [] = refl
  spans_drawn (s ∷ spans) =
      with_append number (span_marks story s) (flat_map (span_marks story) spans)
      ∙ ap (λ (ms : List Mark). ms ++ marks_with number (flat_map (span_marks story) spans)) (span_drawn s)
      ∙ ap (λ (ms : List Mark). map (mark_of_entry number) (filter_map (slice_get journal) (places_in place traffic s)) ++ ms) (spans_drawn spans)
      ∙ sym (map-append (mark_of_entry number) (filter_map (slice_get journal) (places_in place traffic s)) (filter_map (slice_get journal) (told_places place traffic spans)))
      ∙ ap (λ (es : List Entry). map (mark_of_entry number) es) (sym (filter_map-append (slice_get journal) (places_in place traffic s) (told_places place traffic spans)))

-- ---- the marks of lines

-- the marks of lines are those of their spans
lines_spans : (story : StoryView) (lines : List Line) → flat_map (shown_marks story false) lines ≡ flat_map (span_marks story) (spans_of lines)
lines_spans story [] = refl
lines_spans story (line ∷ lines) =
    ap (λ (ms : List Mark). line_marks story line ++ ms) (lines_spans story lines)
    ∙ sym (flat_map-append (span_marks story) line.entries (spans_of lines))

pub whole_stories_are_drawn : (story : StoryView) (marks : List Mark) → TellsJournals story → marks ≡ flat_map (shown_marks story false) story.lines → DrawsJournals story marks
whole_stories_are_drawn story marks tells drawn = record { each = each }
  where
    each : (place : ℕ) (lane : Lane) (traffic : Traffic) → slice_get story.lanes place ≡ Some lane
        → marks_with (number_of place traffic) marks ≡ map (mark_of_entry (number_of place traffic)) (journal_of traffic lane.site story.world)
    each place lane traffic there =
        ap (λ (ms : List Mark). marks_with (number_of place traffic) ms) (drawn ∙ lines_spans story story.lines)
        ∙ spans_drawn story place lane traffic there (spans_of story.lines)
        ∙ ap (λ (es : List Entry). map (mark_of_entry (number_of place traffic)) es) (tells.each place lane traffic there)
