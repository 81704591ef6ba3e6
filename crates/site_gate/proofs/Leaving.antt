-- A value that comes back with one turn more keeps the rule.
use Rattle.std.proofs.Common.{◌≡◌, ◌≢◌, ℕ, ◌+◌, ◌%◌, ◌^◌, ◌<◌, List, [], ◌∷◌, ◌++◌, true, ◌⊎◌, inl, inr, Some, None, length, get_or, set, refl, sym, ap, ◌∙◌, subst, arith, length-append}
use Rattle.std.specs.declared.option.Option.{Option}
use mathlib.Core.Option.{Option as Maybe, some, none}
use lib.ListN.{get_elem?}
use Rattle.atomic_table.specs.Table.{State, Me, step, gives, put_back, rest, Allows}
use Rattle.site_gate.specs.Seen.{Begins, turns_in}
use Rattle.site_gate.specs.Views.{with_turn}
use Rattle.site_gate.specs.Rule.{Agrees, HasTicket, Holds, Owns, ticket_count, FitsStage, Fits, IsHome, IsOut, IsKept}
use Rattle.site_gate.specs.Plays.{Raises}
use Rattle.site_gate.specs.declared.view.View.{View}
use Rattle.site_gate.specs.declared.view.Stage.{Stage}
use Rattle.site_gate.specs.declared.view.Stage.TheVariants.{Outside, Waiting, Inside}
use Rattle.site_gate.proofs.Seen.{begins_all, begins_more, length-Begins, length-turns_in, turns_in-seen_to, own_within, own_before_or_new, meets_more}
use Rattle.site_gate.proofs.Claims.{exclusive_set}
use Rattle.site_gate.proofs.Views.{tickets_out-set, each_set, turns_made}

no_wrap : (k : ℕ) → k + 1 < 2 ^ 64 → (k + 1) % 2 ^ 64 ≡ k + 1
no_wrap k small = omega arith

-- a turn later, a ticket that wasn't served is still of a turn to come
fits_after : {U : Type 0} (history later : List U) (next : ℕ) (seen : List U) (stage : Stage) → length later ≡ length history + 1 → (HasTicket stage (length history) → ⊥)
    → FitsStage history next seen stage → FitsStage later next seen stage
fits_after history later next seen Outside longer not_served fits = tt
fits_after history later next seen (Waiting ticket) longer not_served fits =
    let other : ticket ≢ length history = not_served in
    let order = fits.0 in (omega arith, fits.1)
fits_after history later next seen (Inside ticket) longer not_served fits = absurd (not_served fits.0)

module _ {T : Type 0} where
  abbrev holding : T → List (ℕ × Option T)
  holding x = (0, Some x) ∷ []

  abbrev held_or : T → List (ℕ × Option T) → T
  held_or d [] = d
  held_or d (held ∷ more) = elim held.1 [ None ↦ d | Some y ↦ y ]

  same_value : (x y : T) → holding x ≡ holding y → x ≡ y
  same_value x y e = ap (held_or x) e

module _ {T U O : Type 0} (history_of : T → List U) (opening_of : T → O) where
  abbrev Kept : State (Option T) (View U O) → Type 0
  Kept = IsKept history_of opening_of

  is_start : (told start : O) (o : Option O) → o ≡ Some told → Agrees start o → told ≡ start
  is_start told start o e agrees = subst (Agrees start) e agrees

  returned : (s : State (Option T) (View U O)) (r : Kept s) (id : ℕ) (v : View U O) (ticket : ℕ) (x : T) (turn : U) → get_elem? s.views id ≡ some v → v.stage ≡ Inside ticket
      → history_of x ≡ turns_in v.seen ++ turn ∷ [] → v.opening ≡ Some (opening_of x)
      → Kept record { words = (length r.history + 1) ∷ r.next ∷ []; homes = some (Some x) ∷ []; views = set s.views id (with_turn v (history_of x)) }
  returned s r id v ticket x turn at inside more begun =
      let w : View U O = with_turn v (history_of x) in
      let f = r.each id v at in
      let served : FitsStage r.history r.next (turns_in v.seen) (Inside ticket) = subst (FitsStage r.history r.next (turns_in v.seen)) inside f.stage in
      let is : history_of x ≡ r.history ++ turn ∷ [] = more ∙ ap (λ l. l ++ turn ∷ []) served.2 in
      let longer : length (history_of x) ≡ length r.history + 1 = ap length is ∙ length-append r.history (turn ∷ []) in
      let begins : Begins (turns_in v.seen) (history_of x) = (turn ∷ [], more) in
      let whole : turns_in w.seen ≡ history_of x = turns_in-seen_to true v.seen (history_of x) begins in
      let grown : (l : List U) → Begins l r.history → Begins l (history_of x) = λ l b. subst (Begins l) (sym is) (begins_more l r.history (turn ∷ []) b) in
      let seen_length : length (turns_in v.seen) ≡ length r.history = ap length served.2 in
      let marks_length = length-turns_in v.seen in
      let now = served.0 in
      let below = served.1 in record {
        history = history_of x;
        start = r.start;
        next = r.next;
        words = ap (λ k. k ∷ r.next ∷ []) (sym longer);
        order = omega arith;
        few = r.few;
        counted = let c = r.counted in let n = tickets_out-set s.views id v w at in let z = ap ticket_count inside in omega arith;
        place = inl (x, refl, refl, is_start (opening_of x) r.start v.opening begun f.opening);
        each = each_set (Fits (history_of x) r.start r.next) s.views id w
            (record { opening = f.opening; seen = begins_all whole; joins = meets_more (turns_in v.seen) (turns_in w.seen) v.joins (subst (Begins (turns_in v.seen)) (sym whole) begins) f.joins; stage = tt })
            (λ j y other e. let h = r.each j y e in record {
              opening = h.opening;
              seen = grown (turns_in y.seen) h.seen;
              joins = h.joins;
              stage = fits_after r.history (history_of x) r.next (turns_in y.seen) y.stage longer
                  (λ has. other (r.tickets j id (length r.history) y v e at has (subst (λ stage. HasTicket stage (length r.history)) (sym inside) served.0))) h.stage;
            });
        tickets = exclusive_set Holds s.views id v w at (λ n claims. absurd claims) r.tickets;
        places = exclusive_set Owns s.views id v w at (λ n claims. elim (own_before_or_new v.seen (history_of x) turn n more claims) [
          | inl owned ↦ inl owned
          | inr new ↦ inr (λ j y e owned.
              let within = own_within y.seen n owned in
              let their_length = length-turns_in y.seen in
              let order = length-Begins (turns_in y.seen) r.history (r.each j y e).seen in
              omega arith)
        ]) r.places;
      }

  is_back : (history : List U) (start : O) (views : List (View U O)) (homes : List (Maybe (Option T))) (x : T)
      → IsHome history_of opening_of history start homes ⊎ IsOut history_of opening_of views homes → set homes 0 (some (Some x)) ≡ some (Some x) ∷ []
  is_back history start views homes x (inl home) = ap (λ hs. set hs 0 (some (Some x))) home.1
  is_back history start views homes x (inr out) = ap (λ hs. set hs 0 (some (Some x))) out.0

  -- the seat inside has put the value back with one turn more, and lets the next one in
  pub raises : (slots id : ℕ) (me : Me (Option T) (View U O)) (ticket : ℕ) (x : T) (turn : U) → me.0.stage ≡ Inside ticket → me.1 ≡ (0, Some x) ∷ []
      → history_of x ≡ turns_in me.0.seen ++ turn ∷ [] → me.0.opening ≡ Some (opening_of x)
      → Allows Kept slots id me 0 (λ n. (n + 1) % 2 ^ 64) (Raises history_of opening_of (step slots 0 1 0 none) me)
  raises slots id me ticket x turn inside held more begun s r count at fits =
      let n : ℕ = get_or s.words 0 0 in
      let v : View U O = me.0 in
      let served : FitsStage r.history r.next (turns_in v.seen) (Inside ticket) = subst (FitsStage r.history r.next (turns_in v.seen)) inside (r.each id v at).stage in
      let now = served.0 in
      let below = served.1 in
      let few = r.few in
      let word : (n + 1) % 2 ^ 64 ≡ length r.history + 1 = ap (λ k. (k + 1) % 2 ^ 64) (turns_made history_of opening_of s r) ∙ no_wrap (length r.history) (omega arith) in
      let words : (length r.history + 1) ∷ r.next ∷ [] ≡ set s.words 0 ((n + 1) % 2 ^ 64) = ap (λ ws. set ws 0 (length r.history + 1)) (sym r.words) ∙ ap (set s.words 0) (sym word) in
      let homes : some (Some x) ∷ [] ≡ put_back s.homes me.1 = sym (is_back r.history r.start s.views s.homes x r.place) ∙ ap (put_back s.homes) (sym held) in
      let w : View U O = with_turn v (history_of x) in (
        w,
        gives,
        tt,
        subst (λ (y : List ℕ × List (Maybe (Option T))). Kept record { words = y.0; homes = y.1; views = set s.views id w }) (λ i. (words i, homes i))
            (returned s r id v ticket x turn at inside more begun),
        λ ticket' x' e e'. (ap rest held, ap (λ (y : T). with_turn v (history_of y)) (same_value x x' (sym held ∙ e'))),
      )
