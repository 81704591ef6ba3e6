-- Whatever is called on a net, what is held and on the way was sent, and so is what is delivered.
use Rattle.std.proofs.Common.{◌≡◌, Bool, true, false, cond, List, [], ◌∷◌, ◌++◌, Some, refl}
use Rattle.std.specs.Prelude.{Contains, option_to_list}
use Rattle.std.specs.List.{AllByRecursion}
use Rattle.std.proofs.lemmas.List.Elements.{All-from_recursion, recursion_from_All, All-contains, All-contains_itself}
use Rattle.rep_lists.proofs.Each.{each_drop}
use Rattle.rep_values.specs.declared.name.SiteName.{SiteName}
use Rattle.packet_code.specs.declared.packet.Packet.{Packet}
use Rattle.net_plan.specs.declared.fate.Fate.{Fate}
use Rattle.net_plan.specs.declared.fate.Fate.TheVariants.{Pass, Lose, Twice, Late}
use Rattle.net_plan.specs.Directions.{Direction, net_of, is_between, direction_of, at_direction, next_fate, with_packet, with_sent, released, delivered, first_of, first_in, first_between}
use Rattle.net_plan.specs.Calls.{NetCall, SetLink, AddFates, ClearFates, Release, Send, Deliver, after, is_same_pair, sent_by, sent_in, delivered_by, delivered_in}
use Rattle.net_plan.specs.Laws.{DeliveredWasSent}
use Rattle.net_plan.proofs.Pairs.{is_same_pair-between, is_between-same_pair}

-- what holds of each of some values and of each of others holds of all
each_append : {X : Type 0} (P : X → Type 0) (xs ys : List X) → AllByRecursion P xs → AllByRecursion P ys → AllByRecursion P (xs ++ ys)
each_append P [] ys left right = right
each_append P (x ∷ xs) ys left right = (left.0, each_append P xs ys left.1 right)

-- and the other way round
each_parts : {X : Type 0} (P : X → Type 0) (xs ys : List X) → AllByRecursion P (xs ++ ys) → AllByRecursion P xs × AllByRecursion P ys
each_parts P [] ys all = (tt, all)
each_parts P (x ∷ xs) ys all = let parts = each_parts P xs ys all.1 in ((all.0, parts.0), parts.1)

module _ (from to : SiteName) (P : Packet → Type 0) where
  -- it holds of what a direction between the two sites holds and has on the way
  abbrev Carries : Direction → Type 0
  Carries d = is_between from to d ≡ true → AllByRecursion P d.held × AllByRecursion P d.on_way

  -- one direction changes
  at_carries : (a b : SiteName) (change : Direction → Direction) → ((d : Direction) → is_between a b d ≡ true → Carries d → Carries (change d))
      → (net : List Direction) → AllByRecursion Carries net → AllByRecursion Carries (at_direction a b change net)
  at_carries a b change keeps [] carry = tt
  at_carries a b change keeps (d ∷ ds) carry = go (is_between a b d) refl (at_carries a b change keeps ds carry.1)
    where
      go : (t : Bool) → is_between a b d ≡ t → AllByRecursion Carries (at_direction a b change ds) → AllByRecursion Carries (cond t (change d ∷ ds) (d ∷ at_direction a b change ds))
      go true is later = (keeps d is carry.0, carry.1)
      go false is later = (carry.0, later)

  released_carries : (d : Direction) → Carries d → Carries (released d)
  released_carries d carries is = let both = carries is in (tt, each_append P d.on_way d.held both.1 both.0)

  delivered_carries : (d : Direction) → Carries d → Carries (delivered d)
  delivered_carries d carries is = let both = carries is in (both.0, each_drop P 1 d.on_way both.1)

  -- whatever its fate is
  with_packet_carries : (fate : Fate) (packet : Packet) (d : Direction) → (is_between from to d ≡ true → P packet) → Carries d → Carries (with_packet fate packet d)
  with_packet_carries Pass packet d holds carries is = let both = carries is in (both.0, each_append P d.on_way (packet ∷ []) both.1 (holds is, tt))
  with_packet_carries Lose packet d holds carries is = carries is
  with_packet_carries Twice packet d holds carries is = let both = carries is in (both.0, each_append P d.on_way (packet ∷ packet ∷ []) both.1 (holds is, (holds is, tt)))
  with_packet_carries Late packet d holds carries is = let both = carries is in (each_append P d.held (packet ∷ []) both.0 (holds is, tt), both.1)

  -- a packet of which it holds where it goes between the two sites
  sent_holds : (a b : SiteName) (packet : Packet) → is_same_pair a b from to ≡ true → AllByRecursion P (sent_by from to (Send a b packet)) → P packet
  sent_holds a b packet same sent = go (is_same_pair a b from to) same sent
    where
      go : (t : Bool) → t ≡ true → AllByRecursion P (cond t (packet ∷ []) []) → P packet
      go true is sent = sent.0
      go false is sent = absurd (cc is)

  -- a call leaves it so
  after_carries : (call : NetCall) (net : List Direction) → AllByRecursion Carries net → AllByRecursion P (sent_by from to call) → AllByRecursion Carries (after call net)
  after_carries (SetLink a b up) net carry sent = at_carries a b _ (λ d is carries. carries) net carry
  after_carries (AddFates a b fates) net carry sent = at_carries a b _ (λ d is carries. carries) net carry
  after_carries (ClearFates a b) net carry sent = at_carries a b _ (λ d is carries. carries) net carry
  after_carries (Release a b) net carry sent = at_carries a b released (λ d is carries. released_carries d carries) net carry
  after_carries (Send a b packet) net carry sent = at_carries a b (with_sent packet)
      (λ d is carries. with_packet_carries (next_fate d.fates) packet d (λ is'. sent_holds a b packet (is_same_pair-between a b from to d is is') sent) carries) net carry
  after_carries (Deliver a b) net carry sent = at_carries a b delivered (λ d is carries. delivered_carries d carries) net carry

  first_holds : (packets : List Packet) → AllByRecursion P packets → AllByRecursion P (option_to_list (first_of packets))
  first_holds [] all = tt
  first_holds (packet ∷ packets) all = (all.0, tt)

  -- so it holds of what comes next between two sites that are these
  next_holds : (a b : SiteName) → is_same_pair a b from to ≡ true → (net : List Direction) → AllByRecursion Carries net → AllByRecursion P (option_to_list (first_between a b net))
  next_holds a b same [] carry = tt
  next_holds a b same (d ∷ ds) carry = go (is_between a b d) refl (next_holds a b same ds carry.1)
    where
      go : (t : Bool) → is_between a b d ≡ t → AllByRecursion P (option_to_list (first_between a b ds)) → AllByRecursion P (option_to_list (first_in (cond t (Some d) (direction_of a b ds))))
      go true is later = first_holds d.on_way (carry.0 (is_between-same_pair a b from to d same is)).1
      go false is later = later

  -- what a call delivers
  delivered_holds : (call : NetCall) (net : List Direction) → AllByRecursion Carries net → AllByRecursion P (delivered_by from to call net)
  delivered_holds (SetLink a b up) net carry = tt
  delivered_holds (AddFates a b fates) net carry = tt
  delivered_holds (ClearFates a b) net carry = tt
  delivered_holds (Release a b) net carry = tt
  delivered_holds (Send a b packet) net carry = tt
  delivered_holds (Deliver a b) net carry = go (is_same_pair a b from to) refl
    where
      go : (t : Bool) → is_same_pair a b from to ≡ t → AllByRecursion P (cond t (option_to_list (first_between a b net)) [])
      go true is = next_holds a b is net carry
      go false is = tt

  -- what some calls deliver, where it holds of what they send and of what the net carries
  delivered_in_holds : (calls : List NetCall) (net : List Direction) → AllByRecursion Carries net → AllByRecursion P (sent_in from to calls) → AllByRecursion P (delivered_in from to calls net)
  delivered_in_holds [] net carry sent = tt
  delivered_in_holds (call ∷ calls) net carry sent =
      let parts = each_parts P (sent_by from to call) (sent_in from to calls) sent in
      each_append P (delivered_by from to call net) (delivered_in from to calls (after call net)) (delivered_holds call net carry)
      (delivered_in_holds calls (after call net) (after_carries call net carry parts.0) parts.1)

  -- a new net carries nothing
  net_of_carries : (pairs : List (SiteName × SiteName)) → AllByRecursion Carries (net_of pairs)
  net_of_carries [] = tt
  net_of_carries (pair ∷ pairs) = (λ is. (tt, tt), net_of_carries pairs)

-- what is delivered was sent
pub delivered_was_sent : DeliveredWasSent
delivered_was_sent pairs calls from to packet has =
    let sent = sent_in from to calls in
    let all = recursion_from_All (Contains sent) sent (All-contains_itself sent) in
    let holds = delivered_in_holds from to (Contains sent) calls (net_of pairs) (net_of_carries from to (Contains sent) pairs) all in
    All-contains (Contains sent) (delivered_in from to calls (net_of pairs)) packet (All-from_recursion (Contains sent) _ holds) has
