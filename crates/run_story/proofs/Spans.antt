-- What spans tell of journals, lane by lane.
use Rattle.std.proofs.Common.{◌≡◌, ℕ, zero, suc, ◌+◌, ◌-◌, ◌<◌, max, List, [], ◌∷◌, ◌++◌, length, map, refl, sym, ap, ◌∙◌, arith}
use Rattle.std.specs.Prelude.{◌==◌, ◌&&◌, nat_lt, Bool, true, false, cond, slice_get, Option, None, Some}
use Rattle.std.specs.List.{range_with_len, AllByRecursion}
use Rattle.std.specs.Option.{option_map}
use Rattle.std.proofs.lemmas.Bool.{ltb-true, ltb-false, eq-eqb, ne_eqb}
use Rattle.std.proofs.lemmas.Grind.{flat_map-append}
use Rattle.std.proofs.lemmas.List.{append-nil}
use Rattle.std.proofs.lemmas.Option.{slice_get-map}
use Rattle.world_run.specs.Lent.{LentWorld}
use Rattle.packet_fates.specs.declared.packet.Traffic.{Traffic}
use Rattle.packet_fates.specs.declared.packet.Traffic.TheVariants.{Rows, Calls}
use Rattle.run_story.specs.declared.happening.Span.{Span}
use Rattle.run_story.specs.declared.lane.Lane.{Lane}
use Rattle.run_story.specs.Telling.{Followed, journal_of, is_kind, places_in, told_places, count_in, new_span, lane_at, spans_at, spans_from, AddsLanes, Counts}
use Rattle.run_story.proofs.Ranges.{range_from_0-append}

pub told_places-append : (place : ℕ) (traffic : Traffic) (xs ys : List Span) → told_places place traffic (xs ++ ys) ≡ told_places place traffic xs ++ told_places place traffic ys
told_places-append place traffic xs ys = flat_map-append (places_in place traffic) xs ys

-- ---- a new span

-- it tells of its lane and its kind the places from those that were told up to the journal's end, and of others none
new_span_tells : (place lane told number : ℕ) (traffic kind : Traffic)
    → told_places place traffic (new_span lane kind told number) ≡ cond (lane == place && is_kind kind traffic) (range_with_len told (max told number - told)) []
new_span_tells place lane told number traffic kind = go (nat_lt told number) refl
  where
    here : Bool
    here = lane == place && is_kind kind traffic

    whole : (b : Bool) (n m : ℕ) → n ≡ m → cond b (range_with_len told n) [] ++ [] ≡ cond b (range_with_len told m) []
    whole b n m same = append-nil (cond b (range_with_len told n) []) ∙ ap (λ k. cond b (range_with_len told k) []) same

    none : (b : Bool) (n : ℕ) → n ≡ 0 → [] ≡ cond b (range_with_len told n) []
    none true n is = rw is refl
    none false n is = refl

    go : (b : Bool) → nat_lt told number ≡ b
        → told_places place traffic (cond b (record { lane = lane; traffic = kind; first = told; count = number - told } ∷ []) []) ≡ cond here (range_with_len told (max told number - told)) []
    go true is = whole here (number - told) (max told number - told) (omega (arith, ltb-true told number is))
    go false is = none here (max told number - told) (omega (arith, ltb-false told number is))

-- ---- the spans of a lane

-- the places that a look tells of a lane
abbrev pub new_places : LentWorld → ℕ → Traffic → Lane → List ℕ
new_places v number traffic lane = range_with_len (count_in traffic (Some lane)) (count_in traffic (Some (lane_at v number lane)) - count_in traffic (Some lane))

spans_at_tell : (v : LentWorld) (number place at : ℕ) (traffic : Traffic) (lane : Lane)
    → told_places place traffic (spans_at v at lane) ≡ cond (at == place) (new_places v number traffic lane) []
spans_at_tell v number place at traffic lane =
    told_places-append place traffic (new_span at Rows lane.told (length (journal_of Rows lane.site v))) (new_span at Calls lane.told_calls (length (journal_of Calls lane.site v)))
    ∙ ap (λ ns. ns ++ told_places place traffic (new_span at Calls lane.told_calls (length (journal_of Calls lane.site v))))
    (new_span_tells place at lane.told (length (journal_of Rows lane.site v)) traffic Rows)
    ∙ ap (λ ns. cond (at == place && is_kind Rows traffic) (range_with_len lane.told (max lane.told (length (journal_of Rows lane.site v)) - lane.told)) [] ++ ns)
    (new_span_tells place at lane.told_calls (length (journal_of Calls lane.site v)) traffic Calls)
    ∙ joined (at == place) traffic
  where
    joined : (b : Bool) (t : Traffic)
        → cond (b && is_kind Rows t) (range_with_len lane.told (max lane.told (length (journal_of Rows lane.site v)) - lane.told)) []
        ++ cond (b && is_kind Calls t) (range_with_len lane.told_calls (max lane.told_calls (length (journal_of Calls lane.site v)) - lane.told_calls)) []
        ≡ cond b (new_places v number t lane) []
    joined true Rows = append-nil (range_with_len lane.told (max lane.told (length (journal_of Rows lane.site v)) - lane.told))
    joined true Calls = refl
    joined false Rows = refl
    joined false Calls = refl

-- ---- the spans of all lanes

-- of a lane before them nothing is told
spans_from_below : (v : LentWorld) (number : ℕ) (traffic : Traffic) (lanes : List Lane) (place at : ℕ) → place < at → told_places place traffic (spans_from v at lanes) ≡ []
spans_from_below v number traffic [] place at below = refl
spans_from_below v number traffic (lane ∷ lanes) place at below =
    let other : (at == place) ≡ false = ne_eqb at place (omega arith) in
    told_places-append place traffic (spans_at v at lane) (spans_from v (at + 1) lanes)
    ∙ ap (λ ns. ns ++ told_places place traffic (spans_from v (at + 1) lanes)) (spans_at_tell v number place at traffic lane ∙ ap (λ b. cond b (new_places v number traffic lane) []) other)
    ∙ spans_from_below v number traffic lanes place (at + 1) (omega arith)

-- what a look tells of a lane, where there is one
abbrev pub new_in : LentWorld → ℕ → Traffic → Option Lane → List ℕ
new_in v number traffic None = []
new_in v number traffic (Some lane) = new_places v number traffic lane

spans_from_tell : (v : LentWorld) (number : ℕ) (traffic : Traffic) (lanes : List Lane) (place at behind : ℕ) → place ≡ at + behind
    → told_places place traffic (spans_from v at lanes) ≡ new_in v number traffic (slice_get lanes behind)
spans_from_tell v number traffic [] place at behind is = refl
spans_from_tell v number traffic (lane ∷ lanes) place at zero is =
    let here : (at == place) ≡ true = eq-eqb at place (omega arith) in
    told_places-append place traffic (spans_at v at lane) (spans_from v (at + 1) lanes)
    ∙ ap (λ ns. ns ++ told_places place traffic (spans_from v (at + 1) lanes)) (spans_at_tell v number place at traffic lane ∙ ap (λ b. cond b (new_places v number traffic lane) []) here)
    ∙ ap (λ ns. new_places v number traffic lane ++ ns) (spans_from_below v number traffic lanes place (at + 1) (omega arith))
    ∙ append-nil (new_places v number traffic lane)
spans_from_tell v number traffic (lane ∷ lanes) place at (suc behind) is =
    let other : (at == place) ≡ false = ne_eqb at place (omega arith) in
    told_places-append place traffic (spans_at v at lane) (spans_from v (at + 1) lanes)
    ∙ ap (λ ns. ns ++ told_places place traffic (spans_from v (at + 1) lanes)) (spans_at_tell v number place at traffic lane ∙ ap (λ b. cond b (new_places v number traffic lane) []) other)
    ∙ spans_from_tell v number traffic lanes place (at + 1) behind (omega arith)

-- ---- counts

-- lanes count what was told, behind a look as before it
pub looks_count : (v : LentWorld) (number : ℕ) (lanes : List Lane) (spans : List Span) → Counts lanes spans → Counts (map (lane_at v number) lanes) (spans ++ spans_from v 0 lanes)
looks_count v number lanes spans counts = record { each = each }
  where
    longer : (traffic : Traffic) (lane : Lane) → count_in traffic (Some lane) + (count_in traffic (Some (lane_at v number lane)) - count_in traffic (Some lane)) ≡ count_in traffic (Some (lane_at v number lane))
    longer Rows lane = omega arith
    longer Calls lane = omega arith

    joined : (traffic : Traffic) (o : Option Lane) → range_with_len 0 (count_in traffic o) ++ new_in v number traffic o ≡ range_with_len 0 (count_in traffic (option_map (lane_at v number) o))
    joined traffic None = refl
    joined traffic (Some lane) =
        range_from_0-append (count_in traffic (Some lane)) (count_in traffic (Some (lane_at v number lane)) - count_in traffic (Some lane))
        ∙ ap (λ n. range_with_len 0 n) (longer traffic lane)

    each : (place : ℕ) (traffic : Traffic) → told_places place traffic (spans ++ spans_from v 0 lanes) ≡ range_with_len 0 (count_in traffic (slice_get (map (lane_at v number) lanes) place))
    each place traffic =
        told_places-append place traffic spans (spans_from v 0 lanes)
        ∙ ap (λ ns. ns ++ told_places place traffic (spans_from v 0 lanes)) (counts.each place traffic)
        ∙ ap (λ ns. range_with_len 0 (count_in traffic (slice_get lanes place)) ++ ns) (spans_from_tell v number traffic lanes place 0 place (omega arith))
        ∙ joined traffic (slice_get lanes place)
        ∙ ap (λ o. range_with_len 0 (count_in traffic o)) (sym (slice_get-map (lane_at v number) lanes place))

-- ---- more lanes

fresh_counts : (traffic : Traffic) (more : List Lane) → AllByRecursion (λ (lane : Lane). (lane.told ≡ 0) × (lane.told_calls ≡ 0)) more → (place : ℕ) → count_in traffic (slice_get more place) ≡ 0
fresh_counts traffic [] fresh place = refl
fresh_counts Rows (lane ∷ more) fresh zero = fresh.0.0
fresh_counts Calls (lane ∷ more) fresh zero = fresh.0.1
fresh_counts traffic (lane ∷ more) fresh (suc place) = fresh_counts traffic more fresh.1 place

same_counts : (traffic : Traffic) (lanes more : List Lane) → AllByRecursion (λ (lane : Lane). (lane.told ≡ 0) × (lane.told_calls ≡ 0)) more → (place : ℕ)
    → count_in traffic (slice_get lanes place) ≡ count_in traffic (slice_get (lanes ++ more) place)
same_counts traffic [] more fresh place = sym (fresh_counts traffic more fresh place)
same_counts traffic (lane ∷ lanes) more fresh zero = refl
same_counts traffic (lane ∷ lanes) more fresh (suc place) = same_counts traffic lanes more fresh place

-- lanes that are added count nothing
pub added_count : (old new : Followed) (spans : List Span) → AddsLanes old new → Counts old.lanes spans → Counts new.lanes spans
added_count old new spans adds counts =
    record {
      each = λ place traffic. counts.each place traffic
          ∙ ap (λ n. range_with_len 0 n) (same_counts traffic old.lanes adds.more adds.fresh place)
          ∙ ap (λ (lanes : List Lane). range_with_len 0 (count_in traffic (slice_get lanes place))) (sym adds.all);
    }
