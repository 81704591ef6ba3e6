-- What is found, put and taken in pages is what is found, put and taken in the page of its place.
use Rattle.std.proofs.Common.{◌≡◌, ◌≢◌, ℕ, zero, suc, ◌+◌, ◌-◌, ◌<◌, ◌≤◌, List, [], ◌∷◌, ◌++◌, append_assoc, length, take, drop, get_or, set, None, Some, refl, sym, ap, ◌∙◌, subst, arith}
use Rattle.std.specs.List.{AllByRecursion, insert, remove}
use Rattle.std.specs.Prelude.{slice_get}
use Rattle.std.proofs.lemmas.List.{drop_more}
use Rattle.std.specs.declared.cmp.Ordering.{Ordering}
use Rattle.std.specs.declared.cmp.Ordering.TheVariants.{Less, Equal, Greater}
use Rattle.rep_lists.specs.Rising.{find_at, put_at, take_at, found_here, put_here, taken_here}
use Rattle.rep_lists.proofs.Each.{each_at}
use Rattle.page_tables.specs.Pages.{page_values, at_first, IsParted, IsPage, IsPageFor}
use Rattle.std.proofs.lemmas.Option.{get_or_from_slice_get, slice_get_within}
use Rattle.rep_lists.proofs.Rising.{find_there}
use Rattle.page_tables.proofs.Parted.{all_right, parted_right, parted_left, all_before, stands_there}

module _ {X : Type 0} (at : X → Ordering) where
  -- values before the place are passed
  find_past : (xs ys : List X) → AllByRecursion (λ x. at x ≡ Less) xs → find_at at (xs ++ ys) ≡ find_at at ys
  find_past [] ys all = refl
  find_past (x ∷ xs) ys all = rw all.0 (find_past xs ys all.1)

  put_past : (y : X) (xs ys : List X) → AllByRecursion (λ x. at x ≡ Less) xs → put_at at y (xs ++ ys) ≡ xs ++ put_at at y ys
  put_past y [] ys all = refl
  put_past y (x ∷ xs) ys all = rw all.0 (ap (λ t. x ∷ t) (put_past y xs ys all.1))

  take_past : (xs ys : List X) → AllByRecursion (λ x. at x ≡ Less) xs → take_at at (xs ++ ys) ≡ xs ++ take_at at ys
  take_past [] ys all = refl
  take_past (x ∷ xs) ys all = rw all.0 (ap (λ t. x ∷ t) (take_past xs ys all.1))

  -- values behind the place aren't reached
  find_none : (ys : List X) → AllByRecursion (λ x. at x ≡ Greater) ys → find_at at ys ≡ None
  find_none [] all = refl
  find_none (y ∷ ys) all = rw all.0

  find_before : (xs ys : List X) → AllByRecursion (λ x. at x ≡ Greater) ys → find_at at (xs ++ ys) ≡ find_at at xs
  find_before [] ys all = find_none ys all
  find_before (x ∷ xs) ys all = ap (found_here (at x) x) (find_before xs ys all)

  put_first : (y : X) (ys : List X) → AllByRecursion (λ x. at x ≡ Greater) ys → put_at at y ys ≡ y ∷ ys
  put_first y [] all = refl
  put_first y (z ∷ zs) all = rw all.0

  put_before : (y : X) (xs ys : List X) → AllByRecursion (λ x. at x ≡ Greater) ys → put_at at y (xs ++ ys) ≡ put_at at y xs ++ ys
  put_before y [] ys all = put_first y ys all
  put_before y (x ∷ xs) ys all = go (at x) (put_before y xs ys all)
    where
      go : (o : Ordering) → put_at at y (xs ++ ys) ≡ put_at at y xs ++ ys → put_here o y x (xs ++ ys) (put_at at y (xs ++ ys)) ≡ put_here o y x xs (put_at at y xs) ++ ys
      go Less later = ap (λ t. x ∷ t) later
      go Equal later = refl
      go Greater later = refl

  take_none : (ys : List X) → AllByRecursion (λ x. at x ≡ Greater) ys → take_at at ys ≡ ys
  take_none [] all = refl
  take_none (y ∷ ys) all = rw all.0

  take_before : (xs ys : List X) → AllByRecursion (λ x. at x ≡ Greater) ys → take_at at (xs ++ ys) ≡ take_at at xs ++ ys
  take_before [] ys all = take_none ys all
  take_before (x ∷ xs) ys all = go (at x) (take_before xs ys all)
    where
      go : (o : Ordering) → take_at at (xs ++ ys) ≡ take_at at xs ++ ys → taken_here o x (xs ++ ys) (take_at at (xs ++ ys)) ≡ taken_here o x xs (take_at at xs) ++ ys
      go Less later = ap (λ t. x ∷ t) later
      go Equal later = refl
      go Greater later = refl

-- the values of all pages, around one of them
pub page_values-append : {X : Type 0} (ps qs : List (List X)) → page_values (ps ++ qs) ≡ page_values ps ++ page_values qs
page_values-append [] qs = refl
page_values-append (p ∷ ps) qs = ap (λ t. p ++ t) (page_values-append ps qs) ∙ sym (append_assoc p (page_values ps) (page_values qs))

pub page_values_around : {X : Type 0} (pages : List (List X)) (p : ℕ) → p < length pages → page_values pages ≡ page_values (take p pages) ++ (get_or pages p [] ++ page_values (drop (suc p) pages))
page_values_around [] p within = absurd (omega arith)
page_values_around (q ∷ qs) zero within = refl
page_values_around (q ∷ qs) (suc p) within = ap (λ t. q ++ t) (page_values_around qs p (omega arith)) ∙ sym (append_assoc q (page_values (take p qs)) _)

pub page_values-set : {X : Type 0} (pages : List (List X)) (p : ℕ) (page : List X) → p < length pages → page_values (set pages p page) ≡ page_values (take p pages) ++ (page ++ page_values (drop (suc p) pages))
page_values-set [] p page within = absurd (omega arith)
page_values-set (q ∷ qs) zero page within = refl
page_values-set (q ∷ qs) (suc p) page within = ap (λ t. q ++ t) (page_values-set qs p page (omega arith)) ∙ sym (append_assoc q (page_values (take p qs)) _)

-- a page in two
pub page_values-split : {X : Type 0} (pages : List (List X)) (p : ℕ) (a b : List X) → p < length pages → page_values (insert (set pages p a) (suc p) b) ≡ page_values (set pages p (a ++ b))
page_values-split [] p a b within = absurd (omega arith)
page_values-split (q ∷ qs) zero a b within = sym (append_assoc a b (page_values qs))
page_values-split (q ∷ qs) (suc p) a b within = ap (λ t. q ++ t) (page_values-split qs p a b (omega arith))

pub page_values-split_at : {X : Type 0} (pages : List (List X)) (p : ℕ) (a b : List X) → p < length pages → page_values (insert (set pages p a) (p + 1) b) ≡ page_values (set pages p (a ++ b))
page_values-split_at pages p a b within = let next : p + 1 ≡ suc p = omega arith in rw next (page_values-split pages p a b within)

-- a page that is left out has no values
pub page_values-remove : {X : Type 0} (pages : List (List X)) (p : ℕ) → p < length pages → get_or pages p [] ≡ [] → page_values (remove pages p) ≡ page_values pages
page_values-remove [] p within none = absurd (omega arith)
page_values-remove (q ∷ qs) zero within none = rw none
page_values-remove (q ∷ qs) (suc p) within none = ap (λ t. q ++ t) (page_values-remove qs p (omega arith) none)

module _ {X : Type 0} (at : X → Ordering) (pages : List (List X)) (p : ℕ) (for : IsPageFor at pages p) where
  pub find_paged : find_at at (page_values pages) ≡ find_at at (get_or pages p [])
  find_paged = ap (find_at at) (page_values_around pages p for.in_range) ∙ (find_past at _ _ for.before ∙ find_before at _ _ for.behind)

  pub put_paged : (y : X) → put_at at y (page_values pages) ≡ page_values (set pages p (put_at at y (get_or pages p [])))
  put_paged y = ap (put_at at y) (page_values_around pages p for.in_range) ∙ (put_past at y _ _ for.before ∙ (ap (λ t. page_values (take p pages) ++ t) (put_before at y _ _ for.behind) ∙ sym (page_values-set pages p _ for.in_range)))

  pub take_paged : take_at at (page_values pages) ≡ page_values (set pages p (take_at at (get_or pages p [])))
  take_paged = ap (take_at at) (page_values_around pages p for.in_range) ∙ (take_past at _ _ for.before ∙ (ap (λ t. page_values (take p pages) ++ t) (take_before at _ _ for.behind) ∙ sym (page_values-set pages p _ for.in_range)))

-- the value at a place lies in the first page or behind it
pub get_in_page : {X : Type 0} (page rest : List X) (i : ℕ) → i < length page → slice_get (page ++ rest) i ≡ slice_get page i
get_in_page [] rest i within = absurd (omega arith)
get_in_page (x ∷ xs) rest zero within = refl
get_in_page (x ∷ xs) rest (suc i) within = get_in_page xs rest i (omega arith)

pub get_behind_page : {X : Type 0} (page rest : List X) (i : ℕ) → length page ≤ i → slice_get (page ++ rest) i ≡ slice_get rest (i - length page)
get_behind_page [] rest i past = let same : i - 0 ≡ i = omega arith in rw same refl
get_behind_page (x ∷ xs) rest zero past = absurd (omega arith)
get_behind_page (x ∷ xs) rest (suc i) past = let less : suc i - suc (length xs) ≡ i - length xs = omega arith in rw less (get_behind_page xs rest i (omega arith))

pub page_values-drop : {X : Type 0} (pages : List (List X)) (i : ℕ) (d : List X) → i < length pages → page_values (drop i pages) ≡ get_or pages i d ++ page_values (drop (i + 1) pages)
page_values-drop pages i d within = ap page_values (drop_more pages i d within)

-- the page of a place, from where the first values of the pages stand
module _ {X : Type 0} (at : X → Ordering) where
  -- the values of the pages from one on
  parted_from : (pages : List (List X)) (p : ℕ) → p < length pages → IsParted at (page_values pages) → IsParted at (get_or pages p [] ++ page_values (drop (suc p) pages))
  parted_from pages p within parted = parted_right at (page_values (take p pages)) _ (subst (IsParted at) (page_values_around pages p within) parted)

  -- the pages before one whose first value isn't behind the place
  pub pages_before : (pages : List (List X)) (p : ℕ) → p < length pages → AllByRecursion IsPage pages → IsParted at (page_values pages) → at_first at (get_or pages p []) ≢ Greater
      → AllByRecursion (λ x. at x ≡ Less) (page_values (take p pages))
  pages_before pages p within filled parted past = go (get_or pages p []) (each_at IsPage pages p [] within filled) past (subst (IsParted at) (page_values_around pages p within) parted)
    where
      go : (page : List X) → IsPage page → at_first at page ≢ Greater → IsParted at (page_values (take p pages) ++ (page ++ page_values (drop (suc p) pages))) → AllByRecursion (λ x. at x ≡ Less) (page_values (take p pages))
      go [] is past parted = absurd (omega (arith, is.some))
      go (z ∷ zs) is past parted = all_before at (page_values (take p pages)) z (zs ++ page_values (drop (suc p) pages)) past parted

  -- the pages from one on whose first value is behind the place
  pub pages_from : (pages : List (List X)) (p : ℕ) → p < length pages → IsParted at (page_values pages) → at_first at (get_or pages p []) ≡ Greater → AllByRecursion (λ x. at x ≡ Greater) (page_values (drop p pages))
  pages_from pages p within parted here =
      let next : p + 1 ≡ suc p = omega arith in
      subst (AllByRecursion (λ x. at x ≡ Greater)) (sym (rw next at (page_values-drop pages p [] within))) (go (get_or pages p []) here (parted_from pages p within parted))
    where
      go : (page : List X) → at_first at page ≡ Greater → IsParted at (page ++ page_values (drop (suc p) pages)) → AllByRecursion (λ x. at x ≡ Greater) (page ++ page_values (drop (suc p) pages))
      go [] here parted = cc
      go (z ∷ zs) here parted = (here, parted.0 (λ less. cc))

  -- the values of a page are parted
  pub page_parted : (pages : List (List X)) (p : ℕ) → p < length pages → IsParted at (page_values pages) → IsParted at (get_or pages p [])
  page_parted pages p within parted = parted_left at (get_or pages p []) _ (parted_from pages p within parted)

-- a value that is found in a part of the values is found in them
module _ {X : Type 0} (at : X → Ordering) where
  find_left : (xs ys : List X) (s : X) → find_at at xs ≡ Some s → find_at at (xs ++ ys) ≡ Some s
  find_left [] ys s is = absurd (cc is)
  find_left (x ∷ xs) ys s is = go (at x) is (find_left xs ys s)
    where
      go : (o : Ordering) → found_here o x (find_at at xs) ≡ Some s → (find_at at xs ≡ Some s → find_at at (xs ++ ys) ≡ Some s) → found_here o x (find_at at (xs ++ ys)) ≡ Some s
      go Less is later = later is
      go Equal is later = is
      go Greater is later = absurd (cc is)

  find_right : (xs ys : List X) (s : X) → IsParted at (xs ++ ys) → find_at at ys ≡ Some s → find_at at (xs ++ ys) ≡ Some s
  find_right [] ys s parted is = is
  find_right (x ∷ xs) ys s parted is = go (at x) refl (find_right xs ys s parted.1 is)
    where
      past : at x ≢ Less → ⊥
      past other = let none = find_none at ys (all_right (λ y. at y ≡ Greater) xs ys (parted.0 other)) in cc (none, is)

      go : (o : Ordering) → at x ≡ o → find_at at (xs ++ ys) ≡ Some s → found_here o x (find_at at (xs ++ ys)) ≡ Some s
      go Less e later = later
      go Equal e later = absurd (past (λ less. cc (e, less)))
      go Greater e later = absurd (past (λ less. cc (e, less)))

  pub found_in_page : (pages : List (List X)) (p i : ℕ) (s : X) → IsParted at (page_values pages) → p < length pages → slice_get (get_or pages p []) i ≡ Some s → at s ≡ Equal → find_at at (page_values pages) ≡ Some s
  found_in_page pages p i s parted within there equal =
      let within_page : i < length (get_or pages p []) = slice_get_within (get_or pages p []) i s there in
      let read : get_or (get_or pages p []) i s ≡ s = get_or_from_slice_get (get_or pages p []) i s s there in
      let stands = stands_there at (get_or pages p []) i s within_page (ap at read ∙ equal) (page_parted at pages p within parted) in
      let here : find_at at (get_or pages p []) ≡ Some s = find_there at (get_or pages p []) i s stands ∙ ap Some read in
      ap (find_at at) (page_values_around pages p within)
      ∙ find_right (page_values (take p pages)) (get_or pages p [] ++ page_values (drop (suc p) pages)) s (subst (IsParted at) (page_values_around pages p within) parted)
      (find_left (get_or pages p []) (page_values (drop (suc p) pages)) s here)
