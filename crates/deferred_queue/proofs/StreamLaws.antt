-- What holds of the stream to a site, whatever was queued.
use Rattle.std.proofs.Common.{◌≡◌, ℕ, suc, ◌+◌, ◌<◌, ◌≤◌, ◌==◌, Bool, true, false, cond, List, [], ◌∷◌, length, Option, Some, None, refl, subst, arith}
use Rattle.std.specs.Option.{option_map}
use Rattle.std.specs.List.{cons_option}
use Rattle.std.proofs.lemmas.Bool.Decides.{nat_tests}
use Rattle.rep_values.specs.declared.name.SiteName.{SiteName}
use Rattle.deferred_queue.specs.declared.queued_txn.QueuedTxn.{QueuedTxn}
use Rattle.deferred_queue.specs.declared.destination.Destination.{Destination}
use Rattle.deferred_queue.specs.Streams.{Deferred, InStream, destination_to, with_one, queue_stream_to, at_position, stream_place, last_position, numbered}
use Rattle.deferred_queue.specs.Laws.{PositionsAreFull, NumbersRise, DependOnEarlier, DepsAreEarlier, NumbersAreQueued, SentAreInOrder, PlacesAreFound}
use Rattle.deferred_queue.proofs.Positions.{at_position-within, found_position}
use Rattle.deferred_queue.proofs.Sites.{eq_true, eq_false, eq_false_above}
use Rattle.deferred_queue.proofs.Extending.{found_destination}

-- a transaction stands at each position
pub positions_are_full : PositionsAreFull
positions_are_full = λ site deferred position from_one within. at_position-within position (queue_stream_to site deferred) from_one within

-- a number is at most the count
number_counted : (site : SiteName) (deferred : List Deferred) (position : ℕ) (a : InStream) → at_position position (queue_stream_to site deferred) ≡ Some a → a.number ≤ length deferred
number_counted site [] position a found = absurd (cc found)
number_counted site (last ∷ older) position a found = go (destination_to site last.to) (number_counted site older position a) found
  where
    top : (d : Destination) (b : Bool) → (at_position position (queue_stream_to site older) ≡ Some a → a.number ≤ length older)
        → cond b (Some (record { number = length older + 1; dep = d.dep; cargo = last.cargo })) (at_position position (queue_stream_to site older)) ≡ Some a → a.number ≤ suc (length older)
    top d true later there = let same : record { number = length older + 1; dep = d.dep; cargo = last.cargo } ≡ a = cc there in rw (← same) (omega arith)
    top d false later there = omega (arith, later there)

    go : (d : Option Destination) → (at_position position (queue_stream_to site older) ≡ Some a → a.number ≤ length older)
        → at_position position (with_one d (length older + 1) last.cargo (queue_stream_to site older)) ≡ Some a → a.number ≤ suc (length older)
    go None later there = omega (arith, later there)
    go (Some d) later there = top d (position == length (queue_stream_to site older) + 1) later there

numbers_rise_in : (site : SiteName) (deferred : List Deferred) (early late : ℕ) (a b : InStream) → early < late
    → at_position early (queue_stream_to site deferred) ≡ Some a → at_position late (queue_stream_to site deferred) ≡ Some b → a.number < b.number
numbers_rise_in site [] early late a b before at_early at_late = absurd (cc at_early)
numbers_rise_in site (last ∷ older) early late a b before at_early at_late = go (destination_to site last.to) (numbers_rise_in site older early late a b before) at_early at_late
  where
    Rest : Type 0
    Rest = at_position early (queue_stream_to site older) ≡ Some a → at_position late (queue_stream_to site older) ≡ Some b → a.number < b.number

    top : (d : Destination) (first second : Bool) → (early == length (queue_stream_to site older) + 1) ≡ first → (late == length (queue_stream_to site older) + 1) ≡ second → Rest
        → cond first (Some (record { number = length older + 1; dep = d.dep; cargo = last.cargo })) (at_position early (queue_stream_to site older)) ≡ Some a
        → cond second (Some (record { number = length older + 1; dep = d.dep; cargo = last.cargo })) (at_position late (queue_stream_to site older)) ≡ Some b → a.number < b.number
    top d true true is_first is_second rest there_early there_late = absurd (grind (arith, nat_tests, before))
    top d true false is_first is_second rest there_early there_late = absurd (grind (arith, nat_tests, before, (found_position late (queue_stream_to site older) b there_late).1))
    top d false true is_first is_second rest there_early there_late =
        let same : record { number = length older + 1; dep = d.dep; cargo = last.cargo } ≡ b = cc there_late in
        rw (← same) (omega (arith, number_counted site older early a there_early))
    top d false false is_first is_second rest there_early there_late = rest there_early there_late

    go : (d : Option Destination) → Rest → at_position early (with_one d (length older + 1) last.cargo (queue_stream_to site older)) ≡ Some a
        → at_position late (with_one d (length older + 1) last.cargo (queue_stream_to site older)) ≡ Some b → a.number < b.number
    go None rest there_early there_late = rest there_early there_late
    go (Some d) rest there_early there_late = top d (early == length (queue_stream_to site older) + 1) (late == length (queue_stream_to site older) + 1) refl refl rest there_early there_late

-- a later position has a greater number, in each stream
pub numbers_rise : NumbersRise
numbers_rise = λ site deferred early late a b. numbers_rise_in site deferred early late a b

deps_are_earlier_in : (site : SiteName) (deferred : List Deferred) (position : ℕ) (a : InStream) → DependOnEarlier deferred → at_position position (queue_stream_to site deferred) ≡ Some a → a.dep < position
deps_are_earlier_in site [] position a each found = absurd (cc found)
deps_are_earlier_in site (last ∷ older) position a each found = go (destination_to site last.to) refl (deps_are_earlier_in site older position a each.1) found
  where
    top : (d : Destination) (b : Bool) → (position == length (queue_stream_to site older) + 1) ≡ b → d.dep ≤ length (queue_stream_to site older) → (at_position position (queue_stream_to site older) ≡ Some a → a.dep < position)
        → cond b (Some (record { number = length older + 1; dep = d.dep; cargo = last.cargo })) (at_position position (queue_stream_to site older)) ≡ Some a → a.dep < position
    top d true is earlier later there =
        let same : record { number = length older + 1; dep = d.dep; cargo = last.cargo } ≡ a = cc there in
        let here : position ≡ length (queue_stream_to site older) + 1 = grind (arith, nat_tests) in
        rw (← same) (omega (arith, here, earlier))
    top d false is earlier later there = later there

    go : (d : Option Destination) → destination_to site last.to ≡ d → (at_position position (queue_stream_to site older) ≡ Some a → a.dep < position)
        → at_position position (with_one d (length older + 1) last.cargo (queue_stream_to site older)) ≡ Some a → a.dep < position
    go None is later there = later there
    go (Some d) is later there =
        let known = found_destination (λ (d : Destination). d.dep ≤ last_position d.site older) site last.to d each.0 is in
        let earlier : d.dep ≤ length (queue_stream_to site older) = subst (λ (s : SiteName). d.dep ≤ last_position s older) known.1 known.0 in
        top d (position == length (queue_stream_to site older) + 1) refl earlier later there

-- a dependency is an earlier position, in each stream
pub deps_are_earlier : DepsAreEarlier
deps_are_earlier = λ site deferred position a. deps_are_earlier_in site deferred position a

-- a number up to the count stands in the queue at itself
queued_at : (site : SiteName) (deferred : List Deferred) (position : ℕ) (a : InStream) → at_position position (queue_stream_to site deferred) ≡ Some a
    → option_map (λ (d : Deferred). d.cargo) (at_position a.number deferred) ≡ Some a.cargo
queued_at site [] position a found = absurd (cc found)
queued_at site (last ∷ older) position a found = go (destination_to site last.to) (queued_at site older position a) found
  where
    earlier : at_position position (queue_stream_to site older) ≡ Some a → option_map (λ (d : Deferred). d.cargo) (at_position a.number older) ≡ Some a.cargo
        → option_map (λ (d : Deferred). d.cargo) (at_position a.number (last ∷ older)) ≡ Some a.cargo
    earlier there is = rw (eq_false a.number (length older + 1) (omega (arith, number_counted site older position a there))) is

    top : (d : Destination) (b : Bool) → (at_position position (queue_stream_to site older) ≡ Some a → option_map (λ (d : Deferred). d.cargo) (at_position a.number older) ≡ Some a.cargo)
        → cond b (Some (record { number = length older + 1; dep = d.dep; cargo = last.cargo })) (at_position position (queue_stream_to site older)) ≡ Some a
        → option_map (λ (d : Deferred). d.cargo) (at_position a.number (last ∷ older)) ≡ Some a.cargo
    top d true later there =
        let same : record { number = length older + 1; dep = d.dep; cargo = last.cargo } ≡ a = cc there in
        rw (← same, eq_true (length older + 1) (length older + 1) refl) refl
    top d false later there = earlier there (later there)

    go : (d : Option Destination) → (at_position position (queue_stream_to site older) ≡ Some a → option_map (λ (d : Deferred). d.cargo) (at_position a.number older) ≡ Some a.cargo)
        → at_position position (with_one d (length older + 1) last.cargo (queue_stream_to site older)) ≡ Some a → option_map (λ (d : Deferred). d.cargo) (at_position a.number (last ∷ older)) ≡ Some a.cargo
    go None later there = earlier there (later there)
    go (Some d) later there = top d (position == length (queue_stream_to site older) + 1) later there

-- what stands in a stream stands in the queue
pub numbers_are_queued : NumbersAreQueued
numbers_are_queued = λ site deferred position a. queued_at site deferred position a

-- a queued transaction that isn't purged stands among those in order
in_order_at : (number : ℕ) (deferred : List Deferred) (cargo : QueuedTxn) → option_map (λ (d : Deferred). d.cargo) (at_position number deferred) ≡ Some (Some cargo)
    → (place : ℕ) × (at_position (place + 1) (numbered deferred) ≡ Some (record { number = number; cargo = cargo }))
in_order_at number [] cargo found = absurd (cc found)
in_order_at number (last ∷ older) cargo found = go (number == length older + 1) refl (in_order_at number older cargo) found
  where
    Placed : List Deferred → Type 0
    Placed deferred = (place : ℕ) × (at_position (place + 1) (numbered deferred) ≡ Some (record { number = number; cargo = cargo }))

    at_end : (t : Option QueuedTxn) → t ≡ Some cargo → number ≡ length older + 1
        → (place : ℕ) × (at_position (place + 1) (cons_option (option_map (λ (x : QueuedTxn). record { number = length older + 1; cargo = x }) t) (numbered older)) ≡ Some (record { number = number; cargo = cargo }))
    at_end None is here = absurd (cc is)
    at_end (Some t) is here = let same : t ≡ cargo = cc is in (length (numbered older), rw (eq_true (length (numbered older) + 1) (length (numbered older) + 1) refl, here, same) refl)

    before : (t : Option QueuedTxn) → Placed older
        → (place : ℕ) × (at_position (place + 1) (cons_option (option_map (λ (x : QueuedTxn). record { number = length older + 1; cargo = x }) t) (numbered older)) ≡ Some (record { number = number; cargo = cargo }))
    before None placed = placed
    before (Some t) placed = (placed.0, rw (eq_false (placed.0 + 1) (length (numbered older) + 1) (omega (arith, (found_position (placed.0 + 1) (numbered older) _ placed.1).1))) placed.1)

    go : (b : Bool) → (number == length older + 1) ≡ b → (option_map (λ (d : Deferred). d.cargo) (at_position number older) ≡ Some (Some cargo) → Placed older)
        → option_map (λ (d : Deferred). d.cargo) (cond b (Some last) (at_position number older)) ≡ Some (Some cargo) → Placed (last ∷ older)
    go true is later there = let cargo_is : last.cargo ≡ Some cargo = cc there in let here : number ≡ length older + 1 = grind (arith, nat_tests) in at_end last.cargo cargo_is here
    go false is later there = before last.cargo (later there)

-- so does what stands in a stream and isn't purged
pub sent_are_in_order : SentAreInOrder
sent_are_in_order = λ site deferred position a cargo found is. in_order_at a.number deferred cargo (rw is at (queued_at site deferred position a found))

-- a number is found in a stream where it stands
found_in : (site : SiteName) (deferred : List Deferred) (position : ℕ) (a : InStream) → at_position position (queue_stream_to site deferred) ≡ Some a
    → stream_place a.number (queue_stream_to site deferred) ≡ Some (record { position = position; dep = a.dep })
found_in site [] position a found = absurd (cc found)
found_in site (last ∷ older) position a found = go (destination_to site last.to) (found_in site older position a) found
  where
    top : (d : Destination) (b : Bool) → (position == length (queue_stream_to site older) + 1) ≡ b
        → (at_position position (queue_stream_to site older) ≡ Some a → stream_place a.number (queue_stream_to site older) ≡ Some (record { position = position; dep = a.dep }))
        → cond b (Some (record { number = length older + 1; dep = d.dep; cargo = last.cargo })) (at_position position (queue_stream_to site older)) ≡ Some a
        → cond (length older + 1 == a.number) (Some (record { position = length (queue_stream_to site older) + 1; dep = d.dep })) (stream_place a.number (queue_stream_to site older)) ≡ Some (record { position = position; dep = a.dep })
    top d true is later there =
        let same : record { number = length older + 1; dep = d.dep; cargo = last.cargo } ≡ a = cc there in
        let here : position ≡ length (queue_stream_to site older) + 1 = grind (arith, nat_tests) in
        rw (← same, eq_true (length older + 1) (length older + 1) refl, here) refl
    top d false is later there = rw (eq_false_above (length older + 1) a.number (omega (arith, number_counted site older position a there))) (later there)

    go : (d : Option Destination) → (at_position position (queue_stream_to site older) ≡ Some a → stream_place a.number (queue_stream_to site older) ≡ Some (record { position = position; dep = a.dep }))
        → at_position position (with_one d (length older + 1) last.cargo (queue_stream_to site older)) ≡ Some a
        → stream_place a.number (with_one d (length older + 1) last.cargo (queue_stream_to site older)) ≡ Some (record { position = position; dep = a.dep })
    go None later there = later there
    go (Some d) later there = top d (position == length (queue_stream_to site older) + 1) refl later there

-- each is found at its position
pub places_are_found : PlacesAreFound
places_are_found = λ site deferred position a. found_in site deferred position a
