-- Where no fates are given, packets come in the order in which they were sent.
use Rattle.std.proofs.Common.{◌≡◌, Bool, true, false, cond, List, [], ◌∷◌, ◌++◌, drop, Some, refl, sym, ap, ◌∙◌, append-nil, append_assoc}
use Rattle.std.specs.Prelude.{option_to_list}
use Rattle.std.specs.List.{AllByRecursion}
use Rattle.rep_values.specs.declared.name.SiteName.{SiteName}
use Rattle.packet_code.specs.declared.packet.Packet.{Packet}
use Rattle.net_plan.specs.declared.fate.Fate.{Fate}
use Rattle.net_plan.specs.Directions.{Direction, net_of, direction_of, is_between, with_link, with_fates, without_fates, with_sent, released, delivered, new_direction, first_of, first_in, first_between, on_way_in, on_way_between}
use Rattle.net_plan.specs.Calls.{NetCall, SetLink, AddFates, ClearFates, Release, Send, Deliver, after, after_each, is_same_pair, gives_fates, sent_by, sent_in, delivered_by, delivered_in}
use Rattle.net_plan.specs.Laws.{PassesInOrder}
use Rattle.net_plan.proofs.Pairs.{is_same_pair-true}
use Rattle.net_plan.proofs.Stays.{one_after, direction_of-after, direction_there}

-- no fate is left, and no packet is held
record IsPlain (d : Direction) : Type 0 where
  pub fates : d.fates ≡ []
  pub held : d.held ≡ []

first_and_rest : (packets : List Packet) → packets ++ [] ≡ option_to_list (first_of packets) ++ drop 1 packets
first_and_rest [] = refl
first_and_rest (packet ∷ packets) = ap (λ t. packet ∷ t) (append-nil packets)

-- a packet that is sent in a plain direction passes
sent_passes : (packet : Packet) (d : Direction) → IsPlain d → with_sent packet d ≡ record d { on_way = d.on_way ++ packet ∷ []; fates = [] }
sent_passes packet d plain = rw (plain.fates) refl

module _ (from to : SiteName) where
  -- after a call that gives no fates the direction is plain, and its packets go on in order
  record GoesOn (sent delivered : List Packet) (d after : Direction) : Type 0 where
    pub plain : IsPlain after
    pub way : d.on_way ++ sent ≡ delivered ++ after.on_way

  goes_on-as_it_is : (d : Direction) → IsPlain d → GoesOn [] [] d d
  goes_on-as_it_is d plain = record { plain = plain; way = append-nil d.on_way }

  goes_on-link : (t up : Bool) (d : Direction) → IsPlain d → GoesOn [] [] d (cond t (with_link up d) d)
  goes_on-link true up d plain = record { plain = record { fates = plain.fates; held = plain.held }; way = append-nil d.on_way }
  goes_on-link false up d plain = goes_on-as_it_is d plain

  goes_on-clear : (t : Bool) (d : Direction) → IsPlain d → GoesOn [] [] d (cond t (without_fates d) d)
  goes_on-clear true d plain = record { plain = record { fates = refl; held = plain.held }; way = append-nil d.on_way }
  goes_on-clear false d plain = goes_on-as_it_is d plain

  goes_on-fates : (t : Bool) (fates : List Fate) (d : Direction) → t ≡ false → IsPlain d → GoesOn [] [] d (cond t (with_fates fates d) d)
  goes_on-fates true fates d is plain = absurd (cc is)
  goes_on-fates false fates d is plain = goes_on-as_it_is d plain

  goes_on-release : (t : Bool) (d : Direction) → IsPlain d → GoesOn [] [] d (cond t (released d) d)
  goes_on-release true d plain = record { plain = record { fates = plain.fates; held = refl }; way = ap (λ held. d.on_way ++ held) (sym plain.held) }
  goes_on-release false d plain = goes_on-as_it_is d plain

  goes_on-send : (t : Bool) (packet : Packet) (d : Direction) → IsPlain d → GoesOn (cond t (packet ∷ []) []) [] d (cond t (with_sent packet d) d)
  goes_on-send true packet d plain = rw (sent_passes packet d plain) (record { plain = record { fates = refl; held = plain.held }; way = refl })
  goes_on-send false packet d plain = goes_on-as_it_is d plain

  goes_on-deliver : (a b : SiteName) (net : List Direction) (d : Direction) → direction_of from to net ≡ Some d → IsPlain d
      → GoesOn [] (delivered_by from to (Deliver a b) net) d (cond (is_same_pair a b from to) (delivered d) d)
  goes_on-deliver a b net d found plain = go (is_same_pair a b from to) refl
    where
      first : is_same_pair a b from to ≡ true → first_between a b net ≡ first_of d.on_way
      first is = let same = is_same_pair-true a b from to is in rw (same.0, same.1) (ap first_in found)

      go : (t : Bool) → is_same_pair a b from to ≡ t → GoesOn [] (cond t (option_to_list (first_between a b net)) []) d (cond t (delivered d) d)
      go true is = record { plain = record { fates = plain.fates; held = plain.held }; way = rw (first is) (first_and_rest d.on_way) }
      go false is = goes_on-as_it_is d plain

  goes_on : (call : NetCall) (net : List Direction) (d : Direction) → direction_of from to net ≡ Some d → IsPlain d → gives_fates from to call ≡ false
      → GoesOn (sent_by from to call) (delivered_by from to call net) d (one_after from to call d)
  goes_on (SetLink a b up) net d found plain given = goes_on-link (is_same_pair a b from to) up d plain
  goes_on (AddFates a b fates) net d found plain given = goes_on-fates (is_same_pair a b from to) fates d given plain
  goes_on (ClearFates a b) net d found plain given = goes_on-clear (is_same_pair a b from to) d plain
  goes_on (Release a b) net d found plain given = goes_on-release (is_same_pair a b from to) d plain
  goes_on (Send a b packet) net d found plain given = goes_on-send (is_same_pair a b from to) packet d plain
  goes_on (Deliver a b) net d found plain given = goes_on-deliver a b net d found plain

  -- what was delivered and what is on the way then is what was on the way and what was sent
  in_order : (calls : List NetCall) (net : List Direction) (d : Direction) → direction_of from to net ≡ Some d → IsPlain d → AllByRecursion (λ (call : NetCall). gives_fates from to call ≡ false) calls
      → delivered_in from to calls net ++ on_way_between from to (after_each calls net) ≡ d.on_way ++ sent_in from to calls
  in_order [] net d found plain none = ap on_way_in found ∙ sym (append-nil d.on_way)
  in_order (call ∷ calls) net d found plain none =
      let next = one_after from to call d in
      let step = goes_on call net d found plain none.0 in
      let later = in_order calls (after call net) next (direction_of-after from to call net d found) step.plain none.1 in
      let first = delivered_by from to call net in
      append_assoc first (delivered_in from to calls (after call net)) (on_way_between from to (after_each calls (after call net)))
      ∙ ap (λ t. first ++ t) later
      ∙ sym (append_assoc first next.on_way (sent_in from to calls))
      ∙ ap (λ t. t ++ sent_in from to calls) (sym step.way)
      ∙ append_assoc d.on_way (sent_by from to call) (sent_in from to calls)

-- a new direction is plain, and has nothing on the way
new_is_plain : (from to : SiteName) (pairs : List (SiteName × SiteName)) (d : Direction) → direction_of from to (net_of pairs) ≡ Some d → IsPlain d × (d.on_way ≡ [])
new_is_plain from to [] d found = absurd (cc found)
new_is_plain from to (pair ∷ pairs) d found = go (is_between from to (new_direction pair.0 pair.1)) found (new_is_plain from to pairs d)
  where
    go : (t : Bool) → cond t (Some (new_direction pair.0 pair.1)) (direction_of from to (net_of pairs)) ≡ Some d → (direction_of from to (net_of pairs) ≡ Some d → IsPlain d × (d.on_way ≡ []))
        → IsPlain d × (d.on_way ≡ [])
    go true found later = new_itself (new_direction pair.0 pair.1) d refl refl refl (option_inside found)
      where
        option_inside : Some (new_direction pair.0 pair.1) ≡ Some d → new_direction pair.0 pair.1 ≡ d
        option_inside found = cc found

        new_itself : (x d : Direction) → x.fates ≡ [] → x.held ≡ [] → x.on_way ≡ [] → x ≡ d → IsPlain d × (d.on_way ≡ [])
        new_itself x d fates held on_way is = (record { fates = rw (← is) fates; held = rw (← is) held }, rw (← is) on_way)
    go false found later = later found

pub passes_in_order : PassesInOrder
passes_in_order pairs calls from to has none =
    let there = direction_there from to (net_of pairs) has in
    let new = new_is_plain from to pairs there.0 there.1 in
    in_order from to calls (net_of pairs) there.0 there.1 new.0 none ∙ ap (λ t. t ++ sent_in from to calls) new.1
