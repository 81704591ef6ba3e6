-- One inbox of a site changes.
use Rattle.std.proofs.Common.{◌≡◌, ℕ, zero, suc, ◌+◌, ◌<◌, ◌==◌, List, [], ◌∷◌, length, get_or, set, Bool, true, false, cond, Some, None, refl, sym, ap, ◌∙◌, arith, subst}
use Rattle.std.specs.Prelude.{◌||◌}
use Rattle.std.specs.List.{position, position_from, AllByRecursion}
use Rattle.std.proofs.lemmas.Bool.Decides.{nat_tests}
use Rattle.std.proofs.lemmas.List.Quantifiers.{position-Some}
use Rattle.std.proofs.lemmas.Iterator.Adapters.{position_from-zero}
use Rattle.rep_values.specs.declared.name.SiteName.{SiteName}
use Rattle.rep_values.specs.SiteNames.{is_same_site}
use Rattle.deferred_queue.proofs.Sites.{is_same_site-true, is_same_site-refl}
use Rattle.origin_marks.specs.Marks as marks
use Rattle.site_state.specs.declared.entry.Entry.{Entry}
use Rattle.site_state.specs.State.{SenderState, sender_of, at_sender}
use Rattle.site_state.specs.Journal.{is_position, finishes, finished}
use Rattle.sender_inbox.specs.Incoming.{Incoming}
use Rattle.sender_inbox.specs.Inboxes.{senders_in, inbox_of, Follows}
use Rattle.sender_inbox.proofs.StandingErrors.{StandApart}

-- an inbox is that of a sender
abbrev pub is_from : SiteName → Incoming → Bool
is_from origin i = is_same_site i.sender.origin origin

inbox_of-at : (origin : SiteName) (inboxes : List Incoming) (place : ℕ) (d : Incoming) → place < length inboxes → is_from origin (get_or inboxes place d) ≡ true
    → ((k : ℕ) → k < place → is_from origin (get_or inboxes k d) ≡ false) → inbox_of origin inboxes ≡ Some (get_or inboxes place d)
inbox_of-at origin [] place d within here before = absurd (omega (arith, within))
inbox_of-at origin (i ∷ is) zero d within here before = rw here refl
inbox_of-at origin (i ∷ is) (suc place) d within here before = rw (before 0 (omega arith)) (inbox_of-at origin is place d (omega (arith, within)) here (λ k less. before (suc k) (omega (arith, less))))

-- the inbox at the place of a sender's is the sender's
pub inbox_of-place : (origin : SiteName) (inboxes : List Incoming) (place : ℕ) (i : Incoming) → Some place ≡ position (is_from origin) inboxes → i ≡ get_or inboxes place i → inbox_of origin inboxes ≡ Some i
inbox_of-place origin inboxes place i found is =
    let there = position-Some (is_from origin) inboxes place i (sym found) in
    inbox_of-at origin inboxes place i there.0 there.1 there.2 ∙ ap Some (sym is)

-- the same senders after an inbox whose sender is the same takes the place of another
pub senders_in-same : (inboxes : List Incoming) (place : ℕ) (i d : Incoming) → i.sender ≡ (get_or inboxes place d).sender → senders_in (set inboxes place i) ≡ senders_in inboxes
senders_in-same [] place i d same = refl
senders_in-same (j ∷ js) zero i d same = ap (λ (s : SenderState). s ∷ senders_in js) same
senders_in-same (j ∷ js) (suc place) i d same = ap (λ (ss : List SenderState). j.sender ∷ ss) (senders_in-same js place i d same)

senders_in-at : (origin : SiteName) (change : SenderState → SenderState) (inboxes : List Incoming) (place : ℕ) (i d : Incoming) → place < length inboxes → is_from origin (get_or inboxes place d) ≡ true
    → ((k : ℕ) → k < place → is_from origin (get_or inboxes k d) ≡ false) → i.sender ≡ change (get_or inboxes place d).sender → senders_in (set inboxes place i) ≡ at_sender origin change (senders_in inboxes)
senders_in-at origin change [] place i d within here before new = absurd (omega (arith, within))
senders_in-at origin change (j ∷ js) zero i d within here before new = rw (here, new) refl
senders_in-at origin change (j ∷ js) (suc place) i d within here before new =
    rw (before 0 (omega arith)) (ap (λ (ss : List SenderState). j.sender ∷ ss) (senders_in-at origin change js place i d (omega (arith, within)) here (λ k less. before (suc k) (omega (arith, less))) new))

-- the senders after a sender's inbox changed
pub senders_in-changed : (origin : SiteName) (change : SenderState → SenderState) (inboxes : List Incoming) (place : ℕ) (i new : Incoming) → Some place ≡ position (is_from origin) inboxes → i ≡ get_or inboxes place i
    → new.sender ≡ change i.sender → senders_in (set inboxes place new) ≡ at_sender origin change (senders_in inboxes)
senders_in-changed origin change inboxes place i new found is changed =
    let there = position-Some (is_from origin) inboxes place i (sym found) in
    senders_in-at origin change inboxes place new i there.0 there.1 there.2 (changed ∙ ap (λ (j : Incoming). change j.sender) is)

-- ---- a position is finished

-- an entry finishes just this position
abbrev pub Finishes : Entry → SiteName → ℕ → Type 0
Finishes e origin p = (o : SiteName) (q : ℕ) → finishes o q e ≡ is_position o q origin p

off_both : (a b : SiteName) → is_same_site a b ≡ false → is_same_site b a ≡ false
off_both a b off = go (is_same_site b a) refl
  where
    go : (c : Bool) → is_same_site b a ≡ c → c ≡ false
    go false is = refl
    go true is =
        let same : b ≡ a = is_same_site-true b a is in
        let own : is_same_site a b ≡ true = rw same (is_same_site-refl a) in
        absurd (cc (own, off))

module _ (journal : List Entry) (e : Entry) (origin : SiteName) (p : ℕ) (finishing : Finishes e origin p) where
  -- another sender's inbox goes on to follow the journal
  follows_other : (i : Incoming) → is_from origin i ≡ false → Follows journal i → Follows (e ∷ journal) i
  follows_other i off follows = λ q.
      let elsewhere : finishes i.sender.origin q e ≡ false = finishing i.sender.origin q ∙ rw (off_both i.sender.origin origin off) refl in
      follows q ∙ sym (ap (λ (b : Bool). b || finished i.sender.origin journal q) elsewhere)

  follow_others : (inboxes : List Incoming) → sender_of origin (senders_in inboxes) ≡ None → AllByRecursion (Follows journal) inboxes → AllByRecursion (Follows (e ∷ journal)) inboxes
  follow_others [] none follow = tt
  follow_others (i ∷ is) none follow = go (is_from origin i) refl none (follow_others is)
    where
      go : (b : Bool) → is_from origin i ≡ b → cond b (Some i.sender) (sender_of origin (senders_in is)) ≡ None
          → (sender_of origin (senders_in is) ≡ None → AllByRecursion (Follows journal) is → AllByRecursion (Follows (e ∷ journal)) is) → AllByRecursion (Follows (e ∷ journal)) (i ∷ is)
      go true here none later = absurd (cc none)
      go false here none later = (follows_other i here follow.0, later none follow.1)

  follow_at : (inboxes : List Incoming) (place : ℕ) (new d : Incoming) → place < length inboxes → is_from origin (get_or inboxes place d) ≡ true → ((k : ℕ) → k < place → is_from origin (get_or inboxes k d) ≡ false)
      → StandApart (senders_in inboxes) → AllByRecursion (Follows journal) inboxes → new.sender ≡ (get_or inboxes place d).sender
      → ((q : ℕ) → marks.finished new.marked q ≡ (q == p || marks.finished (get_or inboxes place d).marked q)) → AllByRecursion (Follows (e ∷ journal)) (set inboxes place new)
  follow_at [] place new d within here before apart follow same more = absurd (omega (arith, within))
  follow_at (i ∷ is) zero new d within here before apart follow same more =
      let name : i.sender.origin ≡ origin = is_same_site-true i.sender.origin origin here in
      let none : sender_of origin (senders_in is) ≡ None = subst (λ (o : SiteName). sender_of o (senders_in is) ≡ None) name apart.0 in
      let new_name : new.sender.origin ≡ origin = ap (λ (s : SenderState). s.origin) same ∙ name in (
        λ q.
            more q ∙ ap (λ (b : Bool). q == p || b) (follow.0 q) ∙ ap (λ (o : SiteName). q == p || finished o journal q) name ∙ test (finished origin journal q) q
            ∙ ap (λ (o : SiteName). is_position o q origin p || finished o journal q) (sym new_name) ∙ ap (λ (b : Bool). b || finished new.sender.origin journal q) (sym (finishing new.sender.origin q)),
        follow_others is none follow.1,
      )
    where
      test : (b : Bool) (q : ℕ) → (q == p || b) ≡ (is_position origin q origin p || b)
      test b q = rw (is_same_site-refl origin) (turned (q == p) (p == q) refl refl)
        where
          turned : (c d : Bool) → (q == p) ≡ c → (p == q) ≡ d → (c || b) ≡ (d || b)
          turned true true is at = refl
          turned false false is at = refl
          turned true false is at = absurd (grind (arith, nat_tests))
          turned false true is at = absurd (grind (arith, nat_tests))
  follow_at (i ∷ is) (suc place) new d within here before apart follow same more =
      (follows_other i (before 0 (omega arith)) follow.0, follow_at is place new d (omega (arith, within)) here (λ k less. before (suc k) (omega (arith, less))) apart.1 follow.1 same more)

  -- the inboxes follow the journal with the entry, where the sender's has one position more as finished
  pub follow_finished : (inboxes : List Incoming) (place : ℕ) (i new : Incoming) → Some place ≡ position (is_from origin) inboxes → i ≡ get_or inboxes place i → StandApart (senders_in inboxes)
      → AllByRecursion (Follows journal) inboxes → new.sender ≡ i.sender → ((q : ℕ) → marks.finished new.marked q ≡ (q == p || marks.finished i.marked q)) → AllByRecursion (Follows (e ∷ journal)) (set inboxes place new)
  follow_finished inboxes place i new found is apart follow same more =
      let there = position-Some (is_from origin) inboxes place i (sym found) in
      follow_at inboxes place new i there.0 there.1 there.2 apart follow (same ∙ ap (λ (j : Incoming). j.sender) is) (λ q. more q ∙ ap (λ (j : Incoming). q == p || marks.finished j.marked q) is)

-- ---- what is finished stays

follow_marked_at : (journal : List Entry) (inboxes : List Incoming) (place : ℕ) (new d : Incoming) → place < length inboxes → AllByRecursion (Follows journal) inboxes
    → new.sender.origin ≡ (get_or inboxes place d).sender.origin → ((q : ℕ) → marks.finished new.marked q ≡ marks.finished (get_or inboxes place d).marked q) → AllByRecursion (Follows journal) (set inboxes place new)
follow_marked_at journal [] place new d within follow same marked = absurd (omega (arith, within))
follow_marked_at journal (i ∷ is) zero new d within follow same marked = (λ q. marked q ∙ follow.0 q ∙ ap (λ (o : SiteName). finished o journal q) (sym same), follow.1)
follow_marked_at journal (i ∷ is) (suc place) new d within follow same marked = (follow.0, follow_marked_at journal is place new d (omega (arith, within)) follow.1 same marked)

-- the inboxes follow the journal where one changes and has the same positions as finished
pub follow_same : (origin : SiteName) (journal : List Entry) (inboxes : List Incoming) (place : ℕ) (i new : Incoming) → Some place ≡ position (is_from origin) inboxes → i ≡ get_or inboxes place i → AllByRecursion (Follows journal) inboxes
    → new.sender.origin ≡ i.sender.origin → ((q : ℕ) → marks.finished new.marked q ≡ marks.finished i.marked q) → AllByRecursion (Follows journal) (set inboxes place new)
follow_same origin journal inboxes place i new found is follow same marked =
    let there = position-Some (is_from origin) inboxes place i (sym found) in
    follow_marked_at journal inboxes place new i there.0 follow (same ∙ ap (λ (j : Incoming). j.sender.origin) is) (λ q. marked q ∙ ap (λ (j : Incoming). marks.finished j.marked q) is)

-- ---- where a sender's inbox is

inbox_of-from : (origin : SiteName) (n : ℕ) (inboxes : List Incoming) → position_from (is_from origin) n inboxes ≡ None → inbox_of origin inboxes ≡ None
inbox_of-from origin n [] none = refl
inbox_of-from origin n (i ∷ is) none = go (is_from origin i) (inbox_of-from origin (n + 1) is) none
  where
    go : (b : Bool) → (position_from (is_from origin) (n + 1) is ≡ None → inbox_of origin is ≡ None) → cond b (Some n) (position_from (is_from origin) (n + 1) is) ≡ None → cond b (Some i) (inbox_of origin is) ≡ None
    go true later none = absurd (cc none)
    go false later none = later none

-- a sender without a place has no inbox
pub inbox_of-none : (origin : SiteName) (inboxes : List Incoming) → position (is_from origin) inboxes ≡ None → inbox_of origin inboxes ≡ None
inbox_of-none origin inboxes none = inbox_of-from origin 0 inboxes (sym (position_from-zero (is_from origin) inboxes) ∙ none)
