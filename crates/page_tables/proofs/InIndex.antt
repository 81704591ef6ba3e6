-- What is found in an index, and that puts and takes keep it.
use Rattle.std.proofs.Common.{◌≡◌, ◌≢◌, ◌⊎◌, ◌↔◌, inl, inr, ℕ, suc, ◌+◌, List, [], ◌∷◌, length, Some, None, true, false, refl, sym, ap, ◌∙◌, subst, arith}
use Rattle.std.specs.Prelude.{Option}
use Rattle.std.specs.Option.{option_cmp, is_some}
use Rattle.std.specs.List.{AllByRecursion}
use Rattle.std.specs.Cmp.{IsTotalOrder}
use Rattle.std.specs.Cmp.Lexicographic.{options_total}
use Rattle.std.specs.declared.cmp.Ordering.{Ordering}
use Rattle.std.specs.declared.cmp.Ordering.TheVariants.{Less, Equal, Greater}
use Rattle.std.proofs.lemmas.Cmp.{alike_right, tied_itself, lists_total}
use Rattle.std.proofs.lemmas.Map.Lookups.{CmpEqualImpliesEq}
use Rattle.rep_lists.specs.Rising.{find_at, put_at, take_at, found_here, put_here, taken_here}
use Rattle.rep_lists.specs.RisingLaws.{at_key, RisesBy}
use Rattle.rep_lists.proofs.Rising.{rising_put, rising_take}
use Rattle.rep_values.specs.Order.{TellsApart, value_cmp}
use Rattle.rep_values.specs.OrderLaws.{value_cmp_total, exact_values, exact_lists}
use Rattle.page_tables.specs.Pages.{entered}
use Rattle.page_tables.specs.Index.{IsIn, IsUniqueIndex, picked_cmp}

module _ {X : Type 0} (at : X → Ordering) where
  pub length-put_new : (y : X) (xs : List X) → is_some (find_at at xs) ≡ false → length (put_at at y xs) ≡ length xs + 1
  length-put_new y [] none = refl
  length-put_new y (x ∷ xs) none = go (at x) none (length-put_new y xs)
    where
      go : (o : Ordering) → is_some (found_here o x (find_at at xs)) ≡ false → (is_some (find_at at xs) ≡ false → length (put_at at y xs) ≡ length xs + 1) → length (put_here o y x xs (put_at at y xs)) ≡ length (x ∷ xs) + 1
      go Less none later = let longer = later none in omega (arith, longer)
      go Equal none later = cc
      go Greater none later = omega arith

  pub length-take_found : (xs : List X) → is_some (find_at at xs) ≡ true → length (take_at at xs) + 1 ≡ length xs
  length-take_found [] found = cc
  length-take_found (x ∷ xs) found = go (at x) found (length-take_found xs)
    where
      go : (o : Ordering) → is_some (found_here o x (find_at at xs)) ≡ true → (is_some (find_at at xs) ≡ true → length (take_at at xs) + 1 ≡ length xs) → length (taken_here o x xs (take_at at xs)) + 1 ≡ length (x ∷ xs)
      go Less found later = let shorter = later found in omega (arith, shorter)
      go Equal found later = omega arith
      go Greater found later = cc

-- so many there are where nothing was found
pub length-entered : (at : ℕ → Ordering) (slot : ℕ) (slots : List ℕ) (found : Option ℕ) → found ≡ find_at at slots → is_some found ≡ false → length (entered found at slot slots) ≡ length slots + 1
length-entered at slot slots None is none = length-put_new at slot slots (ap is_some (sym is))
length-entered at slot slots (Some other) is none = cc

-- and so many where something was found
pub length-entered_same : (at : ℕ → Ordering) (slot : ℕ) (slots : List ℕ) (found : Option ℕ) → is_some found ≡ true → length (entered found at slot slots) ≡ length slots
length-entered_same at slot slots None found = cc
length-entered_same at slot slots (Some other) found = refl

pub length-take_none : {X : Type 0} (at : X → Ordering) (xs : List X) → is_some (find_at at xs) ≡ false → length (take_at at xs) ≡ length xs
length-take_none at [] none = refl
length-take_none at (x ∷ xs) none = go (at x) none (length-take_none at xs)
  where
    go : (o : Ordering) → is_some (found_here o x (find_at at xs)) ≡ false → (is_some (find_at at xs) ≡ false → length (take_at at xs) ≡ length xs) → length (taken_here o x xs (take_at at xs)) ≡ length (x ∷ xs)
    go Less none later = let same = later none in omega (arith, same)
    go Equal none later = cc
    go Greater none later = refl

module _ {X : Type 0} (at : X → Ordering) where
  -- nothing is found where nothing stands at the place
  pub none_found : (xs : List X) → ((t : X) → IsIn t xs → at t ≢ Equal) → find_at at xs ≡ None
  none_found [] free = refl
  none_found (x ∷ xs) free = go (at x) refl (none_found xs (λ t there. free t (inr there)))
    where
      go : (o : Ordering) → at x ≡ o → find_at at xs ≡ None → found_here o x (find_at at xs) ≡ None
      go Less e rest = rest
      go Equal e rest = absurd (free x (inl refl) e)
      go Greater e rest = refl

-- what holds of each holds of one that is there
all_in : {X : Type 0} (P : X → Type 0) (xs : List X) (s : X) → AllByRecursion P xs → IsIn s xs → P s
all_in P [] s all there = absurd there
all_in P (x ∷ xs) s all there = elim there [
  | inl same ↦ subst P (sym same) all.0
  | inr later ↦ all_in P xs s all.1 later
]

module _ {X : Type 0} (at : X → Ordering) where
  -- what is found is there, and stands at the place
  pub found_in : (xs : List X) (s : X) → find_at at xs ≡ Some s → IsIn s xs × (at s ≡ Equal)
  found_in [] s found = cc
  found_in (x ∷ xs) s found = go (at x) refl found (found_in xs s)
    where
      go : (o : Ordering) → at x ≡ o → found_here o x (find_at at xs) ≡ Some s → (find_at at xs ≡ Some s → IsIn s xs × (at s ≡ Equal)) → IsIn s (x ∷ xs) × (at s ≡ Equal)
      go Less e found later = let rest = later found in (inr rest.0, rest.1)
      go Equal e found later = let same : x ≡ s = cc in (inl (sym same), subst (λ z. at z ≡ Equal) same e)
      go Greater e found later = cc

  -- a put of a new value adds that value alone
  pub in_put : (y s : X) (xs : List X) → find_at at xs ≡ None → IsIn s (put_at at y xs) ↔ ((s ≡ y) ⊎ IsIn s xs)
  in_put y s [] none = (λ there. there, λ there. there)
  in_put y s (x ∷ xs) none = go (at x) none (in_put y s xs)
    where
      go : (o : Ordering) → found_here o x (find_at at xs) ≡ None → (find_at at xs ≡ None → IsIn s (put_at at y xs) ↔ ((s ≡ y) ⊎ IsIn s xs))
          → IsIn s (put_here o y x xs (put_at at y xs)) ↔ ((s ≡ y) ⊎ ((s ≡ x) ⊎ IsIn s xs))
      go Less none later =
          let rest = later none in (
            λ there. elim there [ inl first ↦ inr (inl first) | inr more ↦ elim (rest.0 more) [ inl new ↦ inl new | inr old ↦ inr (inr old) ] ],
            λ there. elim there [ inl new ↦ inr (rest.1 (inl new)) | inr old ↦ elim old [ inl first ↦ inl first | inr more ↦ inr (rest.1 (inr more)) ] ],
          )
      go Equal none later = cc
      go Greater none later = (λ there. there, λ there. there)

module _ {X K : Type 0} (values : X → K) (R : K → K → Ordering) (total : IsTotalOrder R) where
  -- what is there and has the values is what is found
  pub in_found : (k : K) (xs : List X) (t : X) → RisesBy values R xs → IsIn t xs → R (values t) k ≡ Equal → find_at (at_key values R k) xs ≡ Some t
  in_found k [] t rising there is = absurd there
  in_found k (x ∷ xs) t rising there is = elim there [
    | inl same ↦ let here : R (values x) k ≡ Equal = subst (λ z. R (values z) k ≡ Equal) same is in rw here (ap Some (sym same))
    | inr later ↦
        let first : R (values x) (values t) ≡ Less = all_in (λ y. R (values x) (values y) ≡ Less) xs t rising.0 later in
        let before : R (values x) k ≡ Less = sym (alike_right total _ _ (values x) is) ∙ first in
        rw before (in_found k xs t rising.1 later is)
  ]

  -- a take removes that value alone
  pub in_take : (k : K) (s : X) (xs : List X) → RisesBy values R xs → IsIn s (take_at (at_key values R k) xs) ↔ (IsIn s xs × (R (values s) k ≢ Equal))
  in_take k s [] rising = (λ there. absurd there, λ there. absurd there.0)
  in_take k s (x ∷ xs) rising = go (R (values x) k) refl (in_take k s xs rising.1)
    where
      behind : (o : Ordering) → R (values x) k ≡ o → o ≢ Less → IsIn s xs → R (values s) k ≢ Equal
      behind o e past there is =
          let first : R (values x) (values s) ≡ Less = all_in (λ y. R (values x) (values y) ≡ Less) xs s rising.0 there in
          let before : R (values x) k ≡ Less = sym (alike_right total _ _ (values x) is) ∙ first in
          past (sym e ∙ before)

      go : (o : Ordering) → R (values x) k ≡ o → (IsIn s (take_at (at_key values R k) xs) ↔ (IsIn s xs × (R (values s) k ≢ Equal)))
          → IsIn s (taken_here o x xs (take_at (at_key values R k) xs)) ↔ (((s ≡ x) ⊎ IsIn s xs) × (R (values s) k ≢ Equal))
      go Less e rest = (
        λ there. elim there [ inl first ↦ (inl first, λ is. (let a : R (values x) k ≡ Equal = subst (λ z. R (values z) k ≡ Equal) first is in cc)) | inr more ↦ (inr (rest.0 more).0, (rest.0 more).1) ],
        λ there. elim there.0 [ inl first ↦ inl first | inr more ↦ inr (rest.1 (more, there.1)) ],
      )
      go Equal e rest = (
        λ there. (inr there, behind Equal e (λ d. cc) there),
        λ there. elim there.0 [ inl first ↦ absurd (there.1 (subst (λ z. R (values z) k ≡ Equal) (sym first) e)) | inr more ↦ more ],
      )
      go Greater e rest = (
        λ there. elim there [ inl first ↦ (inl first, λ is. (let a : R (values x) k ≡ Equal = subst (λ z. R (values z) k ≡ Equal) first is in cc)) | inr more ↦ (inr more, behind Greater e (λ d. cc) more) ],
        λ there. there.0,
      )

  -- a value that has the values of another one is that one
  one_of : (index : List X) (t s : X) → RisesBy values R index → IsIn t index → IsIn s index → R (values t) (values s) ≡ Equal → t ≡ s
  one_of index t s rising t_in s_in tied =
      let found_t = in_found (values s) index t rising t_in tied in
      let found_s = in_found (values s) index s rising s_in (tied_itself total (values s)) in
      let same : Some t ≡ Some s = sym found_t ∙ found_s in
      cc

  -- where a value is taken, it alone goes
  pub in_taken : (index : List X) (s t : X) → RisesBy values R index → IsIn s index → IsIn t (take_at (at_key values R (values s)) index) ↔ (IsIn t index × (t ≢ s))
  in_taken index s t rising s_in =
      let take = in_take (values s) t index rising in (
        λ kept. ((take.0 kept).0, λ same. (take.0 kept).1 (subst (λ z. R (values z) (values s) ≡ Equal) (sym same) (tied_itself total (values s)))),
        λ kept. take.1 (kept.0, λ tied. kept.1 (one_of index t s rising kept.0 s_in tied)),
      )

  module _ (Has : X → Type 0) (number : ℕ) (index : List X) (is : IsUniqueIndex values R Has number index) where
    pub index_take : (s : X) (rest : ℕ) → Has s → suc rest ≡ number → IsUniqueIndex values R (λ t. Has t × (t ≢ s)) rest (take_at (at_key values R (values s)) index)
    index_take s rest has counted =
        let there = (is.same s).1 has in
        let found = ap is_some (in_found (values s) index s is.rising there (tied_itself total (values s))) in
        let shorter = length-take_found (at_key values R (values s)) index found in
        record {
          rising = rising_take values R total (at_key values R (values s)) index is.rising;
          same = λ t. (let taken = in_taken index s t is.rising there in (λ kept. ((is.same t).0 (taken.0 kept).0, (taken.0 kept).1), λ kept. taken.1 ((is.same t).1 kept.0, kept.1)));
          count = omega (arith, shorter, counted, is.count);
        }

    -- where none has the values, none is found
    pub index_none : (k : K) → ((t : X) → Has t → R (values t) k ≢ Equal) → find_at (at_key values R k) index ≡ None
    index_none k free = none_found (at_key values R k) index (λ t there. free t ((is.same t).0 there))

    pub index_put : (s : X) → ((t : X) → Has t → R (values t) (values s) ≢ Equal) → IsUniqueIndex values R (λ t. (t ≡ s) ⊎ Has t) (suc number) (put_at (at_key values R (values s)) s index)
    index_put s free =
        let none = index_none (values s) free in
        let longer = length-put_new (at_key values R (values s)) s index (ap is_some none) in
        record {
          rising = rising_put values R total s index is.rising;
          same = λ t. (let put = in_put (at_key values R (values s)) s t index none in (
            λ there. elim (put.0 there) [ inl one ↦ inl one | inr old ↦ inr ((is.same t).0 old) ],
            λ has. put.1 (elim has [ inl one ↦ inl one | inr old ↦ inr ((is.same t).1 old) ]),
          ));
          count = omega (arith, longer, is.count);
        }

    -- what is found is there and has the values
    pub index_found : (k : K) (s : X) → find_at (at_key values R k) index ≡ Some s → Has s × (R (values s) k ≡ Equal)
    index_found k s found = let there = found_in (at_key values R k) index s found in ((is.same s).0 there.0, there.1)

    -- and it alone has them
    pub index_alone : (k : K) (s t : X) → find_at (at_key values R k) index ≡ Some s → Has t → R (values t) k ≡ Equal → t ≡ s
    index_alone k s t found has tied = let other = in_found k index t is.rising ((is.same t).1 has) tied in let same : Some t ≡ Some s = sym other ∙ found in cc

    -- where none is found, none has the values
    pub index_free : (k : K) (t : X) → find_at (at_key values R k) index ≡ None → Has t → R (values t) k ≢ Equal
    index_free k t none has tied = let other = in_found k index t is.rising ((is.same t).1 has) tied in cc

-- the same list is an index by other values that are the same of all that is there
module _ {X K : Type 0} (values others : X → K) (R : K → K → Ordering) where
  all_same : (x : X) (xs : List X) → values x ≡ others x → ((t : X) → IsIn t xs → values t ≡ others t) → AllByRecursion (λ y. R (values x) (values y) ≡ Less) xs → AllByRecursion (λ y. R (others x) (others y) ≡ Less) xs
  all_same x [] here same all = tt
  all_same x (y ∷ ys) here same all = (rw (← here, ← (same y (inl refl))) all.0, all_same x ys here (λ t there. same t (inr there)) all.1)

  pub rises_same : (xs : List X) → ((t : X) → IsIn t xs → values t ≡ others t) → RisesBy values R xs → RisesBy others R xs
  rises_same [] same rising = tt
  rises_same (x ∷ xs) same rising = (all_same x xs (same x (inl refl)) (λ t there. same t (inr there)) rising.0, rises_same xs (λ t there. same t (inr there)) rising.1)

  pub index_change : (Has Now : X → Type 0) (number now : ℕ) (index : List X) → ((t : X) → Has t ↔ Now t) → number ≡ now → ((t : X) → Has t → values t ≡ others t) → IsUniqueIndex values R Has number index → IsUniqueIndex others R Now now index
  index_change Has Now number now index as_many counted same is = record {
    rising = rises_same index (λ t there. same t ((is.same t).0 there)) is.rising;
    same = λ t. (λ there. (as_many t).0 ((is.same t).0 there), λ has. (is.same t).1 ((as_many t).1 has));
    count = is.count ∙ counted;
  }

-- the order of such values is total and tells them apart
pub picked_cmp_total : IsTotalOrder picked_cmp
picked_cmp_total = lists_total (options_total value_cmp_total)

exact_options : CmpEqualImpliesEq (option_cmp value_cmp)
exact_options None None e = refl
exact_options None (Some y) e = cc
exact_options (Some x) None e = cc
exact_options (Some x) (Some y) e = ap Some (exact_values x y e)

pub exact_picked : TellsApart picked_cmp
exact_picked = exact_lists (option_cmp value_cmp) exact_options
