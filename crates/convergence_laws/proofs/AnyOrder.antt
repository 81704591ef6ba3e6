-- One join comes of parts in whatever order.
use Rattle.std.proofs.Common.{◌≡◌, ℕ, Bool, true, false, List, [], ◌∷◌, map, refl, sym, ap, ◌∙◌, inl, inr, arith}
use Rattle.std.specs.Prelude.{ℤ, ◌+ℤ◌, ◌||◌, not}
use Rattle.std.specs.List.{list_any, list_all}
use Rattle.std.specs.Ordering.{is_gt, ordering_reverse}
use Rattle.std.specs.Cmp.{IsTotalOrder, first_so, second_so}
use Rattle.std.specs.declared.cmp.Ordering.{Ordering}
use Rattle.std.specs.declared.cmp.Ordering.TheVariants.{Less, Equal, Greater}
use Rattle.std.proofs.lemmas.Int.{ints}
use Rattle.rep_schema.specs.declared.schema.Schema.{Schema}
use Rattle.rep_schema.specs.Tables.{Cells}
use Rattle.rep_schema.specs.Groups.{are_same}
use Rattle.rep_schema.proofs.ValuesAt.{are_same-Decides}
use Rattle.schema_rules.specs.declared.forms.Form.{Form}
use Rattle.schema_rules.specs.declared.forms.Form.TheVariants as form
use Rattle.rep_calls.specs.declared.call.Part.{Part}
use Rattle.resolve_methods.specs.SequenceLaws.{one_group_number, move_of, sum_of_moves}
use Rattle.rep_laws.specs.GroupForms.{wins}
use Rattle.convergence_laws.specs.Joins.{is_winner, candidates_of}
use Rattle.convergence_laws.specs.Collections.{IsReordered, Skip, Swap, Then, Among, TellApart, JoinsAreOne}
use Rattle.convergence_laws.specs.Collections as collections
use Rattle.convergence_laws.proofs.Moves.{wins_total}

-- ---- collections

pub reordered_back : {X : Type 0} {xs ys : List X} → IsReordered xs ys → IsReordered ys xs
reordered_back collections.None = collections.None
reordered_back (Skip x p) = Skip x (reordered_back p)
reordered_back (Swap x y xs) = Swap y x xs
reordered_back (Then p q) = Then (reordered_back q) (reordered_back p)

pub reordered_map : {X Y : Type 0} (f : X → Y) {xs ys : List X} → IsReordered xs ys → IsReordered (map f xs) (map f ys)
reordered_map f collections.None = collections.None
reordered_map f (Skip x p) = Skip (f x) (reordered_map f p)
reordered_map f (Swap x y xs) = Swap (f x) (f y) (map f xs)
reordered_map f (Then p q) = Then (reordered_map f p) (reordered_map f q)

pub Among-reordered : {X : Type 0} (z : X) {xs ys : List X} → IsReordered xs ys → Among z xs → Among z ys
Among-reordered z collections.None among = among
Among-reordered z (Skip x p) (inl same) = inl same
Among-reordered z (Skip x p) (inr later) = inr (Among-reordered z p later)
Among-reordered z (Swap x y xs) (inl same) = inr (inl same)
Among-reordered z (Swap x y xs) (inr (inl same)) = inl same
Among-reordered z (Swap x y xs) (inr (inr later)) = inr (inr later)
Among-reordered z (Then p q) among = Among-reordered z q (Among-reordered z p among)

-- the moves of parts in another order sum up to the same
pub sum_of_moves-reordered : {parts others : List Part} → IsReordered parts others → sum_of_moves parts ≡ sum_of_moves others
sum_of_moves-reordered collections.None = refl
sum_of_moves-reordered (Skip x p) = ap (λ s. move_of x +ℤ s) (sum_of_moves-reordered p)
sum_of_moves-reordered (Swap x y xs) = by (move_of x) (move_of y) (sum_of_moves xs)
  where
    by : (a b s : ℤ) → a +ℤ (b +ℤ s) ≡ b +ℤ (a +ℤ s)
    by a b s = omega (arith, ints)
sum_of_moves-reordered (Then p q) = sum_of_moves-reordered p ∙ sum_of_moves-reordered q

-- ---- winners

pub among_any : (now : Cells) (candidates : List Cells) → list_any (λ values. are_same values now) candidates ≡ true → Among now candidates
among_any now [] any = cc
among_any now (c ∷ cs) any = go (are_same c now) refl any (among_any now cs)
  where
    go : (b : Bool) → are_same c now ≡ b → (b || list_any (λ values. are_same values now) cs) ≡ true → (list_any (λ values. are_same values now) cs ≡ true → Among now cs) → Among now (c ∷ cs)
    go true same any later = inl ((are_same-Decides c now).0 same)
    go false other any later = inr (later any)

all_among : (test : Cells → Bool) (candidates : List Cells) (z : Cells) → list_all test candidates ≡ true → Among z candidates → test z ≡ true
all_among test [] z all among = absurd among
all_among test (c ∷ cs) z all (inl same) = ap test (sym same) ∙ first_so (test c) (list_all test cs) all
all_among test (c ∷ cs) z all (inr later) = all_among test cs z (second_so (test c) (list_all test cs) all) later

module _ (schema : Schema) (columns : List ℕ) (f : Form) where
  denied : (b : Bool) → not b ≡ true → b ≡ false
  denied true e = cc
  denied false e = refl

  -- where neither of two values wins they are tied
  tied : (x y : Cells) → is_gt (wins schema columns f x y) ≡ false → is_gt (wins schema columns f y x) ≡ false → wins schema columns f x y ≡ Equal
  tied x y a b = go (wins schema columns f x y) refl a
    where
      o : IsTotalOrder (wins schema columns f)
      o = wins_total schema columns f

      go : (r : Ordering) → wins schema columns f x y ≡ r → is_gt r ≡ false → r ≡ Equal
      go Less e g = let back : wins schema columns f y x ≡ Greater = o.antisymm y x ∙ ap ordering_reverse e in let wrong = rw back at b in cc
      go Equal e g = refl
      go Greater e g = cc

  -- two winners among the same candidates
  pub record AreWinners (candidates : List Cells) (now other : Cells) : Type 0 where
    pub first : Among now candidates
    pub second : Among other candidates
    pub tie : wins schema columns f now other ≡ Equal

  pub two_winners : (now other : Cells) (candidates reordered : List Cells) → IsReordered candidates reordered
      → is_winner schema columns f candidates now ≡ true → is_winner schema columns f reordered other ≡ true → AreWinners candidates now other
  two_winners now other candidates reordered same first second =
      let now_in : Among now candidates = among_any now candidates (first_so (list_any (λ values. are_same values now) candidates) (list_all (λ values. not (is_gt (wins schema columns f values now))) candidates) first) in
      let other_in : Among other reordered = among_any other reordered (first_so (list_any (λ values. are_same values other) reordered) (list_all (λ values. not (is_gt (wins schema columns f values other))) reordered) second) in
      let other_here : Among other candidates = Among-reordered other (reordered_back same) other_in in
      let loses : is_gt (wins schema columns f other now) ≡ false = denied _ (all_among (λ values. not (is_gt (wins schema columns f values now))) candidates other
      (second_so (list_any (λ values. are_same values now) candidates) (list_all (λ values. not (is_gt (wins schema columns f values now))) candidates) first) other_here) in
      let beaten : is_gt (wins schema columns f now other) ≡ false = denied _ (all_among (λ values. not (is_gt (wins schema columns f values other))) reordered now
      (second_so (list_any (λ values. are_same values other) reordered) (list_all (λ values. not (is_gt (wins schema columns f values other))) reordered) second) (Among-reordered now same now_in)) in
      record { first = now_in; second = other_here; tie = tied now other beaten loses }

  -- are one, where they can be told apart
  one_winner : (now other : Cells) (candidates reordered : List Cells) → IsReordered candidates reordered → TellApart schema columns f candidates
      → is_winner schema columns f candidates now ≡ true → is_winner schema columns f reordered other ≡ true → now ≡ other
  one_winner now other candidates reordered same tell first second = let two = two_winners now other candidates reordered same first second in tell now other two.first two.second two.tie

  pub candidates_reordered : (first : Cells) {parts others : List Part} → IsReordered parts others → IsReordered (candidates_of first parts) (candidates_of first others)
  candidates_reordered first same = Skip first (reordered_map (λ (p : Part). p.new) same)

pub joins_are_one : JoinsAreOne
joins_are_one schema columns form.Sum first now other parts reordered same tell one two = one ∙ ap (λ s. one_group_number first +ℤ s) (sum_of_moves-reordered same) ∙ sym two
joins_are_one schema columns (form.Greatest c) first now other parts reordered same tell one two = one_winner schema columns (form.Greatest c) now other (candidates_of first parts) (candidates_of first reordered) (candidates_reordered schema columns (form.Greatest c) first same) tell one two
joins_are_one schema columns (form.Least c) first now other parts reordered same tell one two = one_winner schema columns (form.Least c) now other (candidates_of first parts) (candidates_of first reordered) (candidates_reordered schema columns (form.Least c) first same) tell one two
joins_are_one schema columns (form.Latest c d) first now other parts reordered same tell one two = one_winner schema columns (form.Latest c d) now other (candidates_of first parts) (candidates_of first reordered) (candidates_reordered schema columns (form.Latest c d) first same) tell one two
