-- What a call makes of the direction between two sites.
use Rattle.std.proofs.Common.{◌≡◌, ◌≢◌, Bool, true, false, cond, List, [], ◌∷◌, Option, Some, None, refl, ap, ◌∙◌}
use Rattle.std.specs.Prelude.{option_map}
use Rattle.std.specs.List.{AllByRecursion}
use Rattle.std.proofs.lemmas.List.Elements.{All-from_recursion, All-contains}
use Rattle.rep_lists.proofs.Each.{each_then}
use Rattle.rep_values.specs.declared.name.SiteName.{SiteName}
use Rattle.packet_code.specs.declared.packet.Packet.{Packet}
use Rattle.net_plan.specs.declared.fate.Fate.{Fate}
use Rattle.net_plan.specs.declared.fate.Fate.TheVariants.{Pass, Lose, Twice, Late}
use Rattle.net_plan.specs.Directions.{Direction, new_direction, net_of, HasDirection, is_between, direction_of, at_direction, next_fate, with_link, with_fates, without_fates, with_packet, with_sent, released, delivered}
use Rattle.net_plan.specs.Calls.{NetCall, SetLink, AddFates, ClearFates, Release, Send, Deliver, after, after_each, is_same_pair, is_call_between}
use Rattle.net_plan.specs.Laws.{GivenPairsStay, OtherDirectionsStay}
use Rattle.net_plan.proofs.Pairs.{is_same_pair-between, is_same_pair-true, is_between-new}

module _ (from to : SiteName) where
  -- a change leaves it open between which sites a direction is
  abbrev KeepsSites : (Direction → Direction) → Type 0
  KeepsSites change = (d : Direction) → is_between from to (change d) ≡ is_between from to d

  is_between-with_packet : (fate : Fate) (packet : Packet) (d : Direction) → is_between from to (with_packet fate packet d) ≡ is_between from to d
  is_between-with_packet Pass packet d = refl
  is_between-with_packet Lose packet d = refl
  is_between-with_packet Twice packet d = refl
  is_between-with_packet Late packet d = refl

  -- another direction changes
  direction_of-other : (a b : SiteName) (change : Direction → Direction) → KeepsSites change → (net : List Direction) → is_same_pair a b from to ≡ false
      → direction_of from to (at_direction a b change net) ≡ direction_of from to net
  direction_of-other a b change keeps [] other = refl
  direction_of-other a b change keeps (d ∷ ds) other = go (is_between a b d) refl (direction_of-other a b change keeps ds other)
    where
      not_both : is_between a b d ≡ true → (t : Bool) → is_between from to d ≡ t → t ≡ false
      not_both is true is' = let same = is_same_pair-between a b from to d is is' in cc
      not_both is false is' = refl

      go : (t : Bool) → is_between a b d ≡ t → direction_of from to (at_direction a b change ds) ≡ direction_of from to ds
          → direction_of from to (cond t (change d ∷ ds) (d ∷ at_direction a b change ds)) ≡ cond (is_between from to d) (Some d) (direction_of from to ds)
      go true is later = rw (keeps d, not_both is (is_between from to d) refl) refl
      go false is later = ap (cond (is_between from to d) (Some d)) later

  -- this one changes
  direction_of-changed : (change : Direction → Direction) → KeepsSites change → (net : List Direction) (d : Direction) → direction_of from to net ≡ Some d
      → direction_of from to (at_direction from to change net) ≡ Some (change d)
  direction_of-changed change keeps [] d found = absurd (cc found)
  direction_of-changed change keeps (first ∷ ds) d found = go (is_between from to first) refl (direction_of-changed change keeps ds d) found
    where
      go : (t : Bool) → is_between from to first ≡ t → (direction_of from to ds ≡ Some d → direction_of from to (at_direction from to change ds) ≡ Some (change d))
          → cond t (Some first) (direction_of from to ds) ≡ Some d → direction_of from to (cond t (change first ∷ ds) (first ∷ at_direction from to change ds)) ≡ Some (change d)
      go true is later found = rw (keeps first, is) (ap (option_map change) found)
      go false is later found = rw is (later found)

  -- either of them
  direction_of-at : (a b : SiteName) (change : Direction → Direction) → KeepsSites change → (net : List Direction) (d : Direction) → direction_of from to net ≡ Some d
      → direction_of from to (at_direction a b change net) ≡ Some (cond (is_same_pair a b from to) (change d) d)
  direction_of-at a b change keeps net d found = go (is_same_pair a b from to) refl
    where
      go : (t : Bool) → is_same_pair a b from to ≡ t → direction_of from to (at_direction a b change net) ≡ Some (cond t (change d) d)
      go true is = let same = is_same_pair-true a b from to is in rw (same.0, same.1) (direction_of-changed change keeps net d found)
      go false is = direction_of-other a b change keeps net is ∙ found

  -- what a call makes of the direction
  abbrev pub one_after : NetCall → Direction → Direction
  one_after (SetLink a b up) d = cond (is_same_pair a b from to) (with_link up d) d
  one_after (AddFates a b fates) d = cond (is_same_pair a b from to) (with_fates fates d) d
  one_after (ClearFates a b) d = cond (is_same_pair a b from to) (without_fates d) d
  one_after (Release a b) d = cond (is_same_pair a b from to) (released d) d
  one_after (Send a b packet) d = cond (is_same_pair a b from to) (with_sent packet d) d
  one_after (Deliver a b) d = cond (is_same_pair a b from to) (delivered d) d

  pub direction_of-after : (call : NetCall) (net : List Direction) (d : Direction) → direction_of from to net ≡ Some d → direction_of from to (after call net) ≡ Some (one_after call d)
  direction_of-after (SetLink a b up) net d found = direction_of-at a b (with_link up) (λ d. refl) net d found
  direction_of-after (AddFates a b fates) net d found = direction_of-at a b (with_fates fates) (λ d. refl) net d found
  direction_of-after (ClearFates a b) net d found = direction_of-at a b without_fates (λ d. refl) net d found
  direction_of-after (Release a b) net d found = direction_of-at a b released (λ d. refl) net d found
  direction_of-after (Send a b packet) net d found = direction_of-at a b (with_sent packet) (λ d. is_between-with_packet (next_fate d.fates) packet d) net d found
  direction_of-after (Deliver a b) net d found = direction_of-at a b delivered (λ d. refl) net d found

  other_stays : (net : List Direction) (call : NetCall) → is_call_between from to call ≡ false → direction_of from to (after call net) ≡ direction_of from to net
  other_stays net (SetLink a b up) other = direction_of-other a b (with_link up) (λ d. refl) net other
  other_stays net (AddFates a b fates) other = direction_of-other a b (with_fates fates) (λ d. refl) net other
  other_stays net (ClearFates a b) other = direction_of-other a b without_fates (λ d. refl) net other
  other_stays net (Release a b) other = direction_of-other a b released (λ d. refl) net other
  other_stays net (Send a b packet) other = direction_of-other a b (with_sent packet) (λ d. is_between-with_packet (next_fate d.fates) packet d) net other
  other_stays net (Deliver a b) other = direction_of-other a b delivered (λ d. refl) net other

  -- a direction that is there is some direction
  pub direction_there : (net : List Direction) → HasDirection net from to → (d : Direction) × (direction_of from to net ≡ Some d)
  direction_there net has = go (direction_of from to net) refl
    where
      go : (found : Option Direction) → direction_of from to net ≡ found → (d : Direction) × (direction_of from to net ≡ Some d)
      go None is = absurd (has is)
      go (Some d) is = (d, is)

  -- and stays there
  stays_there : (calls : List NetCall) (net : List Direction) (d : Direction) → direction_of from to net ≡ Some d → HasDirection (after_each calls net) from to
  stays_there [] net d found = λ none. absurd (cc (found, none))
  stays_there (call ∷ calls) net d found = stays_there calls (after call net) (one_after call d) (direction_of-after call net d found)

-- a net with one direction more has those that it had
HasDirection-more : (from to : SiteName) (d : Direction) (net : List Direction) → HasDirection net from to → HasDirection (d ∷ net) from to
HasDirection-more from to d net has = go (is_between from to d)
  where
    go : (t : Bool) → cond t (Some d) (direction_of from to net) ≢ None
    go true = λ none. cc none
    go false = has

HasDirection-first : (from to : SiteName) (net : List Direction) → HasDirection (new_direction from to ∷ net) from to
HasDirection-first from to net = rw (is_between-new from to) (λ none. cc none)

each_given : (pairs : List (SiteName × SiteName)) → AllByRecursion (λ (pair : SiteName × SiteName). HasDirection (net_of pairs) pair.0 pair.1) pairs
each_given [] = tt
each_given (first ∷ pairs) = (
  HasDirection-first first.0 first.1 (net_of pairs),
  each_then (λ (pair : SiteName × SiteName). HasDirection (net_of pairs) pair.0 pair.1) (λ (pair : SiteName × SiteName). HasDirection (net_of (first ∷ pairs)) pair.0 pair.1)
      (λ pair has. HasDirection-more pair.0 pair.1 (new_direction first.0 first.1) (net_of pairs) has) pairs (each_given pairs),
)

pub given_pairs_stay : GivenPairsStay
given_pairs_stay pairs calls from to given =
    let Has = λ (pair : SiteName × SiteName). HasDirection (net_of pairs) pair.0 pair.1 in
    let has = All-contains Has pairs (from, to) (All-from_recursion Has pairs (each_given pairs)) given in
    let there = direction_there from to (net_of pairs) has in
    stays_there from to calls (net_of pairs) there.0 there.1

pub other_directions_stay : OtherDirectionsStay
other_directions_stay net call from to other = other_stays from to net call other
