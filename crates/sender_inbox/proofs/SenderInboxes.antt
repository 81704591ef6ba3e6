-- What a site's inboxes tell of its senders.
use Rattle.std.proofs.Common.{◌≡◌, ℕ, zero, suc, ◌+◌, List, [], ◌∷◌, Bool, true, false, cond, max, Some, None, refl, sym, ap, ◌∙◌, arith, subst}
use Rattle.std.specs.Prelude.{option_map}
use Rattle.std.specs.List.{AllByRecursion}
use Rattle.rep_values.specs.declared.name.SiteName.{SiteName}
use Rattle.rep_values.specs.SiteNames.{is_same_site}
use Rattle.deferred_queue.proofs.Sites.{is_same_site-true}
use Rattle.origin_marks.specs.Marks.{IsLowWater}
use Rattle.origin_marks.specs.Marks as marks
use Rattle.origin_marks.proofs.Marks.{same_mark}
use Rattle.site_state.specs.declared.entry.Entry.{Entry}
use Rattle.site_state.specs.declared.arrival.Arrival.{Arrival}
use Rattle.site_state.specs.State.{SenderState, sender_of}
use Rattle.site_state.specs.Journal.{finished, low_water}
use Rattle.site_state.specs.Pasts.{greatest_finished, seen_of}
use Rattle.site_state.specs.Fits.{FinishedHaveArrived}
use Rattle.site_state.proofs.LowWater.{low_water-is}
use Rattle.sender_inbox.specs.Incoming.{Incoming, greatest_where, seen_in}
use Rattle.sender_inbox.specs.Inboxes.{senders_in, inbox_of, sender_in, Follows}

-- the sender of a name is that of the inbox of a name
pub sender_of-inboxes : (origin : SiteName) (inboxes : List Incoming) → sender_of origin (senders_in inboxes) ≡ option_map sender_in (inbox_of origin inboxes)
sender_of-inboxes origin [] = refl
sender_of-inboxes origin (i ∷ is) = go (is_same_site i.sender.origin origin) (sender_of-inboxes origin is)
  where
    go : (b : Bool) → sender_of origin (senders_in is) ≡ option_map sender_in (inbox_of origin is)
        → cond b (Some i.sender) (sender_of origin (senders_in is)) ≡ option_map sender_in (cond b (Some i) (inbox_of origin is))
    go true later = refl
    go false later = later

-- an inbox that is found by a name has it, and what holds of all holds of it
pub found_inbox : (P : Incoming → Type 0) (origin : SiteName) (inboxes : List Incoming) (i : Incoming) → AllByRecursion P inboxes → inbox_of origin inboxes ≡ Some i → (i.sender.origin ≡ origin) × P i
found_inbox P origin [] i all found = absurd (cc found)
found_inbox P origin (j ∷ js) i all found = go (is_same_site j.sender.origin origin) refl (found_inbox P origin js i all.1) found
  where
    go : (b : Bool) → is_same_site j.sender.origin origin ≡ b → (inbox_of origin js ≡ Some i → (i.sender.origin ≡ origin) × P i) → cond b (Some j) (inbox_of origin js) ≡ Some i → (i.sender.origin ≡ origin) × P i
    go true is later found = let same : j ≡ i = cc found in subst (λ (k : Incoming). (k.sender.origin ≡ origin) × P k) same (is_same_site-true j.sender.origin origin is, all.0)
    go false is later found = later found

-- ---- marks

-- the same positions finished make the same mark
low_water-same : (f : ℕ → Bool) (origin : SiteName) (journal : List Entry) (n : ℕ) → ((p : ℕ) → f p ≡ finished origin journal p) → IsLowWater f n → n ≡ low_water origin journal
low_water-same f origin journal n same is = same_mark (finished origin journal) n (low_water origin journal)
    (record { below = λ p from_one up_to. sym (same p) ∙ is.below p from_one up_to; next = sym (same (n + 1)) ∙ is.next }) (low_water-is origin journal)

module _ (journal : List Entry) (inboxes : List Incoming) (follow : AllByRecursion (Follows journal) inboxes) (origin : SiteName) (i : Incoming) (found : inbox_of origin inboxes ≡ Some i) where
  -- an inbox has the positions as finished that the journal finishes
  pub finished_found : (p : ℕ) → marks.finished i.marked p ≡ finished origin journal p
  finished_found p =
      let is = found_inbox (Follows journal) origin inboxes i follow found in
      subst (λ (o : SiteName). marks.finished i.marked p ≡ finished o journal p) is.0 (is.1 p)

  -- and their low-water mark
  pub mark_found : (n : ℕ) → IsLowWater (marks.finished i.marked) n → n ≡ low_water origin journal
  mark_found n is = low_water-same (marks.finished i.marked) origin journal n finished_found is

  -- so what is its low-water mark
  pub low_water-found : IsLowWater (marks.finished i.marked) (low_water origin journal)
  low_water-found =
      let is = low_water-is origin journal in
      record { below = λ p from_one up_to. finished_found p ∙ is.below p from_one up_to; next = finished_found (low_water origin journal + 1) ∙ is.next }

-- ---- what no sender has

module _ (journal : List Entry) (senders : List SenderState) (arrived : FinishedHaveArrived journal senders) (origin : SiteName) (none : sender_of origin senders ≡ None) where
  -- nothing is finished of a site that is no sender
  pub unfinished_none : (p : ℕ) → finished origin journal p ≡ false
  unfinished_none p = go (finished origin journal p) refl
    where
      go : (b : Bool) → finished origin journal p ≡ b → b ≡ false
      go false is = refl
      go true is = absurd (arrived origin p is (rw none refl))

  pub low_water-none : low_water origin journal ≡ 0
  low_water-none = go (low_water origin journal) refl
    where
      go : (n : ℕ) → low_water origin journal ≡ n → n ≡ 0
      go zero is = refl
      go (suc n) is =
          let one : finished origin journal 1 ≡ true = (low_water-is origin journal).below 1 (omega arith) (omega (arith, is)) in
          absurd (cc (one, unfinished_none 1))

-- ---- what is seen

-- the greatest number among those that pass a test is the same by a test that is the same
greatest-same : (f : ℕ → Bool) (origin : SiteName) (journal : List Entry) (arrived : List Arrival) → ((p : ℕ) → f p ≡ finished origin journal p) → greatest_where f arrived ≡ greatest_finished origin journal arrived
greatest-same f origin journal [] same = refl
greatest-same f origin journal (a ∷ arrived) same = rw (same a.position, greatest-same f origin journal arrived same) refl

-- how far an inbox is seen is how far the journal's sender is
pub seen_in-follows : (journal : List Entry) (i : Incoming) → Follows journal i → seen_in i ≡ seen_of journal i.sender
seen_in-follows journal i follows = ap (λ (n : ℕ). max i.sender.first n) (greatest-same (marks.finished i.marked) i.sender.origin journal i.sender.arrived follows)
