-- What lines keep of a story.
use Rattle.std.proofs.Common.{◌≡◌, ℕ, ◌≤◌, List, [], ◌∷◌, ◌++◌, length, map, refl, sym, ap, ◌∙◌, arith, subst}
use Rattle.std.specs.Prelude.{slice_get, Option, None, Some}
use Rattle.std.specs.List.{filter_map, range_with_len}
use Rattle.std.specs.Option.{option_map}
use Rattle.std.proofs.lemmas.Grind.{flat_map-append}
use Rattle.std.proofs.lemmas.List.{append-nil}
use Rattle.std.proofs.lemmas.Option.{slice_get-map}
use Rattle.world_state.specs.World.{first_world}
use Rattle.world_run.specs.Lent.{LentWorld}
use Rattle.packet_fates.specs.declared.packet.Traffic.{Traffic}
use Rattle.packet_fates.specs.declared.packet.Traffic.TheVariants.{Rows, Calls}
use Rattle.run_story.specs.declared.happening.Span.{Span}
use Rattle.run_story.specs.declared.happening.Line.{Line}
use Rattle.run_story.specs.declared.lane.Lane.{Lane}
use Rattle.run_story.specs.Lanes.{HasLanes}
use Rattle.run_story.specs.Telling.{StoryView, Followed, journal_of, told_places, spans_of, count_in, lane_at, spans_from, AddsLanes, Counts, AllReach, Reaches, IsTold, KeepsTold, TellsJournals}
use Rattle.run_story.proofs.Ranges.{filter_map-slice_get}
use Rattle.run_story.proofs.Spans.{looks_count, added_count}
use Rattle.run_story.proofs.Lanes.{looks_bare}

-- behind a look each lane counts the entries of its site's journals
reaches_at : (v : LentWorld) (number : ℕ) (lane : Lane) → Reaches v (lane_at v number lane)
reaches_at v number lane = record { each = each }
  where
    each : (traffic : Traffic) → length (journal_of traffic lane.site v) ≤ count_in traffic (Some (lane_at v number lane))
    each Rows = omega arith
    each Calls = omega arith

pub looks_reach : (v : LentWorld) (number : ℕ) (lanes : List Lane) → AllReach v (map (lane_at v number) lanes)
looks_reach v number lanes = record { each = each }
  where
    go : (o : Option Lane) (lane : Lane) → option_map (lane_at v number) o ≡ Some lane → Reaches v lane
    go None lane is = absurd (cc is)
    go (Some old) lane is = let same : lane_at v number old ≡ lane = cc is in subst (λ l. Reaches v l) same (reaches_at v number old)

    each : (place : ℕ) (lane : Lane) → slice_get (map (lane_at v number) lanes) place ≡ Some lane → Reaches v lane
    each place lane found = go (slice_get lanes place) lane (sym (slice_get-map (lane_at v number) lanes place) ∙ found)

-- a story whose lines keep that tells the journals as they stand
pub told_stories_tell : (story : StoryView) → IsTold story → TellsJournals story
told_stories_tell story is = record { each = each }
  where
    each : (place : ℕ) (lane : Lane) (traffic : Traffic) → slice_get story.lanes place ≡ Some lane
        → filter_map (slice_get (journal_of traffic lane.site story.world)) (told_places place traffic (spans_of story.lines)) ≡ journal_of traffic lane.site story.world
    each place lane traffic found =
        ap (λ ns. filter_map (slice_get (journal_of traffic lane.site story.world)) ns) (is.counts.each place traffic ∙ ap (λ (o : Option Lane). range_with_len 0 (count_in traffic o)) found)
        ∙ filter_map-slice_get (journal_of traffic lane.site story.world) (count_in traffic (Some lane)) 0 (let most = (is.reach.each place lane found).each traffic in omega (arith, most))

-- ---- what a line keeps

-- where no entry came and all is as before, it is kept
pub keeps_all : (old new : Followed) (entries : List Span) → new ≡ old → entries ≡ [] → KeepsTold old new entries
keeps_all old new entries same none = subst (λ (x : Followed). KeepsTold old x entries) (sym same) (subst (λ (es : List Span). KeepsTold old old es) (sym none) kept)
  where
    kept : KeepsTold old old []
    kept = record { counts = λ spans counts. subst (λ (s : List Span). Counts old.lanes s) (sym (append-nil spans)) counts; reach = λ reach. reach; lanes = λ has. has }

-- lanes may be added, whatever becomes of the world, and then a look tells what came
pub keeps_by_look : (old mid new : Followed) (number : ℕ) (entries : List Span) → AddsLanes old mid → entries ≡ spans_from mid.world 0 mid.lanes
    → new.world ≡ mid.world → new.lanes ≡ map (lane_at mid.world number) mid.lanes → KeepsTold old new entries
keeps_by_look old mid new number entries adds told same looked = record { counts = counts; reach = reach; lanes = has }
  where
    counts : (spans : List Span) → Counts old.lanes spans → Counts new.lanes (spans ++ entries)
    counts spans c = rw (looked, told) (looks_count mid.world number mid.lanes spans (added_count old mid spans adds c))

    reach : AllReach old.world old.lanes → AllReach new.world new.lanes
    reach r = rw (same, looked) (looks_reach mid.world number mid.lanes)

    has : HasLanes old.world.world old.lanes → HasLanes new.world.world new.lanes
    has before = rw (same, looked) (looks_bare mid.world number mid.lanes ∙ adds.keeps before)

-- ---- what lines keep

-- of a script without a line nothing is told
pub nothing_is_told : (story : StoryView) → story.world.world ≡ first_world → story.lanes ≡ [] → story.lines ≡ [] → IsTold story
nothing_is_told story first lanes lines = record {
  counts = rw (lanes, lines) (record { each = λ place traffic. refl });
  reach = rw lanes (record { each = λ place lane found. absurd (cc found) });
  lanes = rw (first, lanes) refl;
}

-- a line more is told
pub told_on : (story new : StoryView) (line : Line) (old behind : Followed) (entries : List Span) → IsTold story → KeepsTold old behind entries → old.world ≡ story.world
    → old.lanes ≡ story.lanes → behind.world ≡ new.world → behind.lanes ≡ new.lanes → line.entries ≡ entries → new.lines ≡ story.lines ++ line ∷ [] → IsTold new
told_on story new line old behind entries is keeps world lanes world' lanes' told more = record { counts = counts; reach = reach; lanes = has }
  where
    spans : spans_of new.lines ≡ spans_of story.lines ++ entries
    spans = ap spans_of more ∙ flat_map-append (λ (l : Line). l.entries) story.lines (line ∷ []) ∙ ap (λ (s : List Span). spans_of story.lines ++ s) (append-nil line.entries ∙ told)

    counts : Counts new.lanes (spans_of new.lines)
    counts = rw (sym lanes', spans) (keeps.counts (spans_of story.lines) (subst (λ (l : List Lane). Counts l (spans_of story.lines)) (sym lanes) is.counts))

    there : AllReach old.world old.lanes
    there = rw (world, lanes) is.reach

    reach : AllReach new.world new.lanes
    reach = rw (sym world', sym lanes') (keeps.reach there)

    had : HasLanes old.world.world old.lanes
    had = rw (world, lanes) is.lanes

    has : HasLanes new.world.world new.lanes
    has = rw (sym world', sym lanes') (keeps.lanes had)
