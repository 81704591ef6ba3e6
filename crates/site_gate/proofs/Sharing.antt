-- Views that are split and joined keep the rule, and what joins tell is so.
use Rattle.std.proofs.Common.{◌≡◌, ℕ, List, [], ◌∷◌, ◌++◌, Bool, true, false, ◌⊎◌, inl, inr, set, refl, sym, ap, ◌∙◌, subst, arith}
use Rattle.std.specs.declared.option.Option.{Option}
use mathlib.Core.Option.{Option as Maybe, some, none}
use lib.ListN.{get_elem?}
use Rattle.atomic_table.specs.Table.{State, Me, step, keeps, Allows, Splits, Joins}
use Rattle.atomic_table.proofs.Lists.{at_snoc, at_longer, set_again, set_else}
use Rattle.site_gate.specs.Seen.{Begins, turns_in, marked, is_own, joined, meeting}
use Rattle.site_gate.specs.Seen as seen
use Rattle.site_gate.specs.Views.{split_view, joined_view, spent_view}
use Rattle.site_gate.specs.Rule.{Holds, Owns, ticket_count, Fits, IsHome, IsOut, IsKept}
use Rattle.site_gate.specs.Plays.{Meets}
use Rattle.site_gate.specs.declared.view.View.{View}
use Rattle.site_gate.specs.declared.view.Stage.TheVariants.{Outside}
use Rattle.site_gate.proofs.Seen.{turns_in-marked, is_own-marked_false, own_of_either, joined_begins, one_begins, other_begins, meets_more, meets_both}
use Rattle.site_gate.proofs.Claims.{exclusive_more, exclusive_join}
use Rattle.site_gate.proofs.Views.{outside_not_inside, tickets_out-set, tickets_out-append, each_set, placed_set, unmoved}

not_both : (b : Bool) → b ≡ true → b ≡ false → ⊥
not_both b is not_so = cc

not_true : (b : Bool) → (b ≡ true → ⊥) → b ≡ false
not_true true never = absurd (never refl)
not_true false never = refl

module _ {T U O : Type 0} (history_of : T → List U) (opening_of : T → O) where
  abbrev Kept : State (Option T) (View U O) → Type 0
  Kept = IsKept history_of opening_of

  placed_more : (history : List U) (start : O) (views : List (View U O)) (homes : List (Maybe (Option T))) (w : View U O)
      → IsHome history_of opening_of history start homes ⊎ IsOut history_of opening_of views homes
      → IsHome history_of opening_of history start homes ⊎ IsOut history_of opening_of (views ++ w ∷ []) homes
  placed_more history start views homes w (inl home) = inl home
  placed_more history start views homes w (inr out) = inr (out.0, out.1, out.2, out.3, at_longer views (w ∷ []) out.1 out.3 out.4, out.5)

  split : (s : State (Option T) (View U O)) (r : Kept s) (id : ℕ) (v : View U O) → get_elem? s.views id ≡ some v
      → Kept record { words = s.words; homes = s.homes; views = s.views ++ split_view v ∷ [] }
  split s r id v at =
      let f = r.each id v at in
      let w : View U O = split_view v in
      let fits : Fits r.history r.start r.next w = record { opening = f.opening; seen = subst (λ l. Begins l r.history) (sym (turns_in-marked false (turns_in v.seen))) f.seen; joins = tt; stage = tt } in record {
        history = r.history;
        start = r.start;
        next = r.next;
        words = r.words;
        order = r.order;
        few = r.few;
        counted = let c = r.counted in let n = tickets_out-append s.views w in omega arith;
        place = placed_more r.history r.start s.views s.homes w r.place;
        each = λ j y e. elim (at_snoc s.views w y j e) [
          | inl h ↦ r.each j y h
          | inr h ↦ subst (Fits r.history r.start r.next) h fits
        ];
        tickets = exclusive_more Holds s.views w (λ n claims. claims) r.tickets;
        places = exclusive_more Owns s.views w (λ n claims. not_both (is_own w.seen n) claims (is_own-marked_false (turns_in v.seen) n)) r.places;
      }

  -- a pass is split off
  pub splits : (id : ℕ) (v : View U O) → Splits Kept id v v (split_view v)
  splits id v s r at = subst (λ views. Kept record { words = s.words; homes = s.homes; views = views ++ split_view v ∷ [] }) (sym (set_again s.views id v at)) (split s r id v at)

  -- a pass takes in another
  pub joins : (id : ℕ) (v : View U O) (other : ℕ) (w : View U O) → v.stage ≡ Outside → w.stage ≡ Outside → Joins Kept id v other w (joined_view v w) spent_view
  joins id v other w outside outside' s r at apart there =
      let both : View U O = joined_view v w in
      let views : List (View U O) = set s.views id both in
      let there' : get_elem? s.views other ≡ some w = sym (set_else s.views id other both apart) ∙ there in
      let f = r.each id v at in
      let g = r.each other w there' in
      let one : Begins (turns_in v.seen) (turns_in both.seen) = one_begins v.seen w.seen r.history f.seen g.seen in
      let two : Begins (turns_in w.seen) (turns_in both.seen) = other_begins v.seen w.seen r.history f.seen g.seen in
      let met : seen.Meets (turns_in both.seen) (meeting v.seen w.seen) = record { one = one; other = two; apart = λ place owned. not_true (is_own w.seen place) (λ too. apart (sym (r.places id other place v w at there' owned too))) } in
      let fits : Fits r.history r.start r.next both = record {
        opening = f.opening;
        seen = joined_begins v.seen w.seen r.history f.seen g.seen;
        joins = (met, meets_both (turns_in both.seen) v.joins w.joins (meets_more (turns_in v.seen) (turns_in both.seen) v.joins one f.joins) (meets_more (turns_in w.seen) (turns_in both.seen) w.joins two g.joins));
        stage = tt;
      } in
      let blank : Fits r.history r.start r.next spent_view = record { opening = tt; seen = (r.history, refl); joins = tt; stage = tt } in record {
        history = r.history;
        start = r.start;
        next = r.next;
        words = r.words;
        order = r.order;
        few = r.few;
        counted = let c = r.counted in let n = tickets_out-set s.views id v both at in let m = tickets_out-set views other w spent_view there in let y = ap ticket_count outside in let z = ap ticket_count outside' in omega arith;
        place = placed_set history_of opening_of r.history r.start views s.homes other w spent_view there (outside_not_inside w.stage outside')
            (placed_set history_of opening_of r.history r.start s.views s.homes id v both at (outside_not_inside v.stage outside) r.place);
        each = each_set (Fits r.history r.start r.next) views other spent_view blank
            (λ j x _ e. each_set (Fits r.history r.start r.next) s.views id both fits (λ i y _ e'. r.each i y e') j x e);
        tickets = exclusive_join Holds s.views id other v w both spent_view at apart there (λ n claims. absurd claims) (λ n claims. claims) r.tickets;
        places = exclusive_join Owns s.views id other v w both spent_view at apart there (λ n claims. own_of_either v.seen w.seen n claims) (λ n claims. not_both false claims refl) r.places;
      }

  -- a look shows what the joins of a pass tell
  pub meets : (slots id : ℕ) (me : Me (Option T) (View U O)) → Allows Kept slots id me 0 (λ n. n) (Meets history_of opening_of (step slots 0 0 0 none) me)
  meets slots id me s r count at fits = (me.0, keeps, tt, unmoved history_of opening_of s r 0 id me at, (refl, refl, (r.each id me.0 at).joins))
