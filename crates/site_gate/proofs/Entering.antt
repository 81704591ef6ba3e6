-- The first state, a ticket that is drawn, and the value that is taken out, keep the rule.
use Rattle.std.proofs.Common.{◌≡◌, ℕ, ◌+◌, ◌^◌, ◌<◌, eqb, List, [], ◌∷◌, false, ◌⊎◌, inl, inr, Some, length, get_or, set, refl, sym, ap, ◌∙◌, subst, arith, eq-eqb, ne_eqb}
use Rattle.std.proofs.lemmas.List.{set-get_or}
use Rattle.std.specs.declared.option.Option.{Option}
use mathlib.Core.Option.{Option as Maybe, some, none}
use mathlib.Core.Logic.{dite}
use native.Mathlib.Decide.{ℕ_discrete}
use lib.ListN.{get_elem?}
use prog.Atomic.{either}
use Rattle.atomic_table.specs.Table.{State, Me, step, keeps, takes, stepped, opening as opened, Allows}
use Rattle.atomic_table.proofs.Lists.{set_here}
use Rattle.site_gate.specs.Seen.{Begins, turns_in}
use Rattle.site_gate.specs.Views.{with_ticket, with_value, first_view}
use Rattle.site_gate.specs.Rule.{HasTicket, Holds, Owns, ticket_count, FitsStage, Fits, IsHome, IsOut, IsKept}
use Rattle.site_gate.specs.Plays.{Draws, Looks}
use Rattle.site_gate.specs.declared.view.View.{View}
use Rattle.site_gate.specs.declared.view.Stage.{Stage}
use Rattle.site_gate.specs.declared.view.Stage.TheVariants.{Outside, Waiting, Inside}
use Rattle.site_gate.proofs.Seen.{begins_all, turns_in-seen_to, is_own-seen_to_false, meets_more}
use Rattle.site_gate.proofs.Claims.{exclusive_set}
use Rattle.site_gate.proofs.Views.{agrees, outside_not_inside, waiting_not_inside, tickets_out-set, each_set, same_view, view_within, only_view, placed_set, unmoved, turns_made, next_ticket}

module _ {U : Type 0} where
  -- no ticket that was drawn is the next one
  next_is_free : (history : List U) (next : ℕ) (seen : List U) (stage : Stage) → FitsStage history next seen stage → HasTicket stage next → ⊥
  next_is_free history next seen Outside fits has = has
  next_is_free history next seen (Waiting ticket) fits has = let below = fits.1 in omega arith
  next_is_free history next seen (Inside ticket) fits has = let below = fits.1 in omega arith

  fits_later : (history : List U) (next : ℕ) (seen : List U) (stage : Stage) → FitsStage history next seen stage → FitsStage history (next + 1) seen stage
  fits_later history next seen Outside fits = tt
  fits_later history next seen (Waiting ticket) fits = let below = fits.1 in (fits.0, omega arith)
  fits_later history next seen (Inside ticket) fits = let below = fits.1 in (fits.0, omega arith, fits.2)

module _ {T U O : Type 0} (history_of : T → List U) (opening_of : T → O) where
  abbrev Kept : State (Option T) (View U O) → Type 0
  Kept = IsKept history_of opening_of

  -- the state in which a table is made
  pub starts : (x : T) → history_of x ≡ [] → Kept (opened (0 ∷ 0 ∷ []) (Some x ∷ []) (first_view (opening_of x)))
  starts x none_yet =
      let fits : Fits {U = U} [] (opening_of x) 0 (first_view (opening_of x)) = record { opening = refl; seen = ([], refl); joins = tt; stage = tt } in record {
        history = [];
        start = opening_of x;
        next = 0;
        words = refl;
        order = omega arith;
        few = omega arith;
        counted = omega arith;
        place = inl (x, refl, none_yet, refl);
        each = λ j v e. subst (Fits [] (opening_of x) 0) (only_view _ j v e).1 fits;
        tickets = λ i j n v w a b _ _. (only_view _ i v a).0 ∙ sym (only_view _ j w b).0;
        places = λ i j n v w a b _ _. (only_view _ i v a).0 ∙ sym (only_view _ j w b).0;
      }

  drawn : (s : State (Option T) (View U O)) (r : Kept s) (id : ℕ) (v : View U O) → get_elem? s.views id ≡ some v → v.stage ≡ Outside → r.next + 1 < 2 ^ 64
      → Kept record { words = length r.history ∷ (r.next + 1) ∷ []; homes = s.homes; views = set s.views id (with_ticket v r.next) }
  drawn s r id v at outside small =
      let w : View U O = with_ticket v r.next in
      let f = r.each id v at in
      let order = r.order in record {
        history = r.history;
        start = r.start;
        next = r.next + 1;
        words = refl;
        order = omega arith;
        few = small;
        counted = let c = r.counted in let n = tickets_out-set s.views id v w at in let z = ap ticket_count outside in omega arith;
        place = placed_set history_of opening_of r.history r.start s.views s.homes id v w at (outside_not_inside v.stage outside) r.place;
        each = each_set (Fits r.history r.start (r.next + 1)) s.views id w
            (record { opening = f.opening; seen = f.seen; joins = f.joins; stage = (order, omega arith) })
            (λ j x _ e. let g = r.each j x e in record { opening = g.opening; seen = g.seen; joins = g.joins; stage = fits_later r.history r.next (turns_in x.seen) x.stage g.stage });
        tickets = exclusive_set Holds s.views id v w at
            (λ n claims. inr (λ j x e has. next_is_free r.history r.next (turns_in x.seen) x.stage (r.each j x e).stage (subst (HasTicket x.stage) (sym claims) has))) r.tickets;
        places = exclusive_set Owns s.views id v w at (λ n claims. inl claims) r.places;
      }

  -- a seat outside draws a ticket, unless it is the last number
  pub draws : (slots id : ℕ) (me : Me (Option T) (View U O)) (old : ℕ) → me.0.stage ≡ Outside → old + 1 < 2 ^ 64
      → Allows Kept slots id me 1 (λ n. either (eqb n old) (old + 1) n) (Draws history_of opening_of (step slots 1 old (old + 1) none) me)
  draws slots id me old outside small s r count at fits =
      let n : ℕ = get_or s.words 1 0 in
      dite (ℕ_discrete n old)
      (λ hit.
      let is : old ≡ r.next = sym hit ∙ next_ticket history_of opening_of s r in
      let t = drawn s r id me.0 at outside (subst (λ k. k + 1 < 2 ^ 64) is small) in
      let words : length r.history ∷ (r.next + 1) ∷ [] ≡ set s.words 1 (either (eqb n old) (old + 1) n) =
      ap (λ k. length r.history ∷ (k + 1) ∷ []) (sym is) ∙ (ap (λ ws. set ws 1 (old + 1)) (sym r.words) ∙ ap (λ b. set s.words 1 (either b (old + 1) n)) (sym (eq-eqb n old hit))) in (
        with_ticket me.0 n,
        keeps,
        tt,
        subst (λ (x : List ℕ × ℕ). Kept record { words = x.0; homes = s.homes; views = set s.views id (with_ticket me.0 x.1) })
            (λ k. (words k, sym (next_ticket history_of opening_of s r) k)) t,
        (refl, (λ _. refl), λ miss. absurd (miss hit)),
      ))
      (λ miss. (
        me.0,
        keeps,
        tt,
        subst (λ b. Kept (stepped s 1 (either b (old + 1) n) id me.1 me.0 keeps)) (sym (ne_eqb n old miss)) (unmoved history_of opening_of s r 1 id me at),
        (refl, (λ hit. absurd (miss hit)), λ _. refl),
      ))

  -- while the seat whose ticket comes next waits, the value is at home
  is_home : (s : State (Option T) (View U O)) (r : Kept s) (id : ℕ) (v : View U O) (ticket : ℕ) → get_elem? s.views id ≡ some v → v.stage ≡ Waiting ticket → ticket ≡ length r.history
      → IsHome history_of opening_of r.history r.start s.homes ⊎ IsOut history_of opening_of s.views s.homes → IsHome history_of opening_of r.history r.start s.homes
  is_home s r id v ticket at waits now (inl home) = home
  is_home s r id v ticket at waits now (inr out) =
      let inside : FitsStage r.history r.next (turns_in out.3.seen) (Inside out.2) = subst (FitsStage r.history r.next (turns_in out.3.seen)) out.5 (r.each out.1 out.3 out.4).stage in
      let same : out.1 ≡ id = r.tickets out.1 id ticket out.3 v out.4 at (subst (λ stage. HasTicket stage ticket) (sym out.5) (inside.0 ∙ sym now)) (subst (λ stage. HasTicket stage ticket) (sym waits) refl) in
      absurd (waiting_not_inside v.stage ticket waits out.2 (ap (λ (x : View U O). x.stage) (sym (same_view s.views out.1 id out.3 v same out.4 at)) ∙ out.5))

  taken : (s : State (Option T) (View U O)) (r : Kept s) (id : ℕ) (v : View U O) (ticket : ℕ) (x : T) → get_elem? s.views id ≡ some v → v.stage ≡ Waiting ticket
      → ticket ≡ length r.history → history_of x ≡ r.history
      → Kept record { words = s.words; homes = none ∷ []; views = set s.views id (with_value v ticket (history_of x)) }
  taken s r id v ticket x at waits now is =
      let w : View U O = with_value v ticket (history_of x) in
      let f = r.each id v at in
      let waiting : FitsStage r.history r.next (turns_in v.seen) (Waiting ticket) = subst (FitsStage r.history r.next (turns_in v.seen)) waits f.stage in
      let begins : Begins (turns_in v.seen) (history_of x) = subst (Begins (turns_in v.seen)) (sym is) f.seen in
      let whole : turns_in w.seen ≡ r.history = turns_in-seen_to false v.seen (history_of x) begins ∙ is in
      let more : Begins (turns_in v.seen) (turns_in w.seen) = subst (Begins (turns_in v.seen)) (sym whole) f.seen in record {
        history = r.history;
        start = r.start;
        next = r.next;
        words = r.words;
        order = r.order;
        few = r.few;
        counted = let c = r.counted in let n = tickets_out-set s.views id v w at in let z = ap ticket_count waits in omega arith;
        place = inr (refl, id, ticket, w, set_here s.views id w (view_within s.views id v at), refl);
        each = each_set (Fits r.history r.start r.next) s.views id w
            (record { opening = f.opening; seen = begins_all whole; joins = meets_more (turns_in v.seen) (turns_in w.seen) v.joins more f.joins; stage = (now, waiting.1, whole) })
            (λ j y _ e. r.each j y e);
        tickets = exclusive_set Holds s.views id v w at (λ n claims. inl (subst (λ stage. HasTicket stage n) (sym waits) claims)) r.tickets;
        places = exclusive_set Owns s.views id v w at (λ n claims. inl (sym (is_own-seen_to_false v.seen (history_of x) n begins) ∙ claims)) r.places;
      }

  -- a seat that waits finds its turn, and takes the value out, or another is at its turn
  pub looks : (slots id : ℕ) (me : Me (Option T) (View U O)) → me.1 ≡ [] → ((ticket : ℕ) × (me.0.stage ≡ Waiting ticket))
      → Allows Kept slots id me 0 (λ n. n) (Looks history_of opening_of (step slots 0 0 0 none) me)
  looks slots id me empty waits s r count at fits =
      let n : ℕ = get_or s.words 0 0 in
      let ticket : ℕ = waits.0 in
      let one : (u : ℕ) → me.0.stage ≡ Waiting u → u ≡ ticket = λ u e. let d : Waiting u ≡ Waiting ticket = sym e ∙ waits.1 in cc in
      dite (ℕ_discrete n ticket)
      (λ hit.
      let now : ticket ≡ length r.history = sym hit ∙ turns_made history_of opening_of s r in
      let home = is_home s r id me.0 ticket at waits.1 now r.place in
      let x : T = home.0 in
      let w : View U O = with_value me.0 ticket (history_of x) in
      let f = r.each id me.0 at in
      let t = taken s r id me.0 ticket x at waits.1 now home.2 in (
        w,
        takes 0 (Some x),
        ap (λ hs. get_elem? hs 0) home.1,
        subst (λ (y : List ℕ × List (Maybe (Option T))). Kept record { words = y.0; homes = y.1; views = set s.views id w })
            (λ i. (sym (set-get_or s.words 0 0) i, ap (λ hs. set hs 0 none) (sym home.1) i)) t,
        λ u e. (
          (λ _. (
            x,
            ap (λ held. (0, Some x) ∷ held) empty,
            ap (λ q. with_value me.0 q (history_of x)) (sym (one u e)),
            agrees (opening_of x) r.start me.0.opening home.3 f.opening,
            subst (Begins (turns_in me.0.seen)) (sym home.2) f.seen,
            ap length home.2 ∙ (sym now ∙ sym (one u e)),
          )),
          λ miss. absurd (miss (hit ∙ sym (one u e))),
        ),
      ))
      (λ miss. (
        me.0,
        keeps,
        tt,
        unmoved history_of opening_of s r 0 id me at,
        λ u e. ((λ hit. absurd (miss (hit ∙ one u e))), λ _. (refl, refl)),
      ))
