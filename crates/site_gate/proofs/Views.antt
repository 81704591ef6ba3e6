-- The list of all views, after a step of one seat.
use Rattle.std.proofs.Common.{◌≡◌, ◌≢◌, ℕ, zero, suc, ◌+◌, ◌<◌, List, [], ◌∷◌, ◌++◌, ◌⊎◌, inl, inr, Some, None, is_some, true, length, get_or, set, refl, sym, ap, ◌∙◌, subst, arith}
use Rattle.std.proofs.lemmas.List.{set-get_or}
use Rattle.std.proofs.lemmas.List.Sums.{sum_by-cons, sum_by_push}
use Rattle.std.specs.declared.option.Option.{Option}
use mathlib.Core.Option.{Option as Maybe, some, some-injective, some-ne-none}
use lib.ListN.{get_elem?}
use Rattle.atomic_table.specs.Table.{State, Me, keeps, stepped}
use Rattle.atomic_table.proofs.Lists.{at_set, set_again, set_else}
use Rattle.site_gate.specs.Rule.{Agrees, ticket_count, tickets_out, IsHome, IsOut, IsKept}
use Rattle.site_gate.specs.declared.view.View.{View}
use Rattle.site_gate.specs.declared.view.Stage.{Stage}
use Rattle.site_gate.specs.declared.view.Stage.TheVariants.{Outside, Waiting, Inside}

module _ {O : Type 0} where
  pub agrees : (told start : O) (o : Option O) → told ≡ start → Agrees start o → Agrees told o
  agrees told start None e a = tt
  agrees told start (Some x) e a = a ∙ sym e

  -- a live view that agrees tells the opening
  pub tells_opening : (told : O) (o : Option O) → is_some o ≡ true → Agrees told o → o ≡ Some told
  tells_opening told None live a = cc
  tells_opening told (Some x) live a = ap Some a

pub outside_not_inside : (stage : Stage) → stage ≡ Outside → (ticket : ℕ) → stage ≡ Inside ticket → ⊥
outside_not_inside stage e ticket f = cc

pub waiting_not_inside : (stage : Stage) (waits : ℕ) → stage ≡ Waiting waits → (ticket : ℕ) → stage ≡ Inside ticket → ⊥
waiting_not_inside stage waits e ticket f = cc

module _ {U O : Type 0} where
  abbrev tickets_of : View U O → ℕ
  tickets_of v = ticket_count v.stage

  -- the count of tickets changes as the one view's does
  pub tickets_out-set : (views : List (View U O)) (id : ℕ) (v w : View U O) → get_elem? views id ≡ some v
      → tickets_out (set views id w) + ticket_count v.stage ≡ tickets_out views + ticket_count w.stage
  tickets_out-set [] id v w e = absurd (some-ne-none v (sym e))
  tickets_out-set (x ∷ views) zero v w e =
      let same = ap tickets_of (some-injective x v e) in
      let before = sum_by-cons tickets_of x views in
      let after = sum_by-cons tickets_of w views in
      omega arith
  tickets_out-set (x ∷ views) (suc id) v w e =
      let rest = tickets_out-set views id v w e in
      let before = sum_by-cons tickets_of x views in
      let after = sum_by-cons tickets_of x (set views id w) in
      omega arith

  pub tickets_out-append : (views : List (View U O)) (w : View U O) → tickets_out (views ++ w ∷ []) ≡ tickets_out views + ticket_count w.stage
  tickets_out-append views w = sum_by_push tickets_of views w

  -- what holds of the new view and of the others holds of all
  pub each_set : (P : View U O → Type 0) (views : List (View U O)) (id : ℕ) (w : View U O) → P w → ((j : ℕ) (v : View U O) → j ≢ id → get_elem? views j ≡ some v → P v)
      → (j : ℕ) (v : View U O) → get_elem? (set views id w) j ≡ some v → P v
  each_set P views id w mine others j v e = elim (at_set views id j w v e) [
    | inl h ↦ subst P h.1 mine
    | inr h ↦ others j v h.0 h.1
  ]

  pub same_view : (views : List (View U O)) (i j : ℕ) (v w : View U O) → i ≡ j → get_elem? views i ≡ some v → get_elem? views j ≡ some w → v ≡ w
  same_view views i j v w e a b = some-injective v w (sym a ∙ (ap (λ k. get_elem? views k) e ∙ b))

  pub view_within : (views : List (View U O)) (id : ℕ) (v : View U O) → get_elem? views id ≡ some v → id < length views
  view_within [] id v e = absurd (some-ne-none v (sym e))
  view_within (x ∷ views) zero v e = omega arith
  view_within (x ∷ views) (suc id) v e = let h = view_within views id v e in omega arith

  pub only_view : (x : View U O) (j : ℕ) (v : View U O) → get_elem? (x ∷ []) j ≡ some v → (j ≡ 0) × (x ≡ v)
  only_view x zero v e = (refl, some-injective x v e)
  only_view x (suc j) v e = absurd (some-ne-none v (sym e))

module _ {T U O : Type 0} (history_of : T → List U) (opening_of : T → O) where
  abbrev Kept : State (Option T) (View U O) → Type 0
  Kept = IsKept history_of opening_of

  abbrev IsPlaced : List U → O → List (View U O) → List (Maybe (Option T)) → Type 0
  IsPlaced history start views homes = IsHome history_of opening_of history start homes ⊎ IsOut history_of opening_of views homes

  -- a seat that isn't inside changes its view
  pub placed_set : (history : List U) (start : O) (views : List (View U O)) (homes : List (Maybe (Option T))) (id : ℕ) (v w : View U O) → get_elem? views id ≡ some v
      → ((ticket : ℕ) → v.stage ≡ Inside ticket → ⊥) → IsPlaced history start views homes → IsPlaced history start (set views id w) homes
  placed_set history start views homes id v w at away (inl home) = inl home
  placed_set history start views homes id v w at away (inr out) =
      let other : out.1 ≢ id = λ e. away out.2 (ap (λ (x : View U O). x.stage) (same_view views id out.1 v out.3 (sym e) at out.4) ∙ out.5) in
      inr (out.0, out.1, out.2, out.3, set_else views id out.1 w other ∙ out.4, out.5)

  -- a step that changes nothing keeps the rule
  pub unmoved : (s : State (Option T) (View U O)) → Kept s → (word id : ℕ) (me : Me (Option T) (View U O)) → get_elem? s.views id ≡ some me.0
      → Kept (stepped s word (get_or s.words word 0) id me.1 me.0 keeps)
  unmoved s r word id me at =
      subst (λ (x : List ℕ × List (View U O)). Kept record { words = x.0; homes = s.homes; views = x.1 }) (λ k. (sym (set-get_or s.words word 0) k, sym (set_again s.views id me.0 at) k)) r

  pub turns_made : (s : State (Option T) (View U O)) (r : Kept s) → get_or s.words 0 0 ≡ length r.history
  turns_made s r = ap (λ words. get_or words 0 0) r.words

  pub next_ticket : (s : State (Option T) (View U O)) (r : Kept s) → get_or s.words 1 0 ≡ r.next
  next_ticket s r = ap (λ words. get_or words 1 0) r.words
