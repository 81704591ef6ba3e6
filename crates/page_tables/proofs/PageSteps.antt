-- Pages stay pages where a value is put and where one is taken.
use Rattle.std.proofs.Common.{◌≡◌, ◌↔◌, Bool, true, false, ℕ, zero, suc, ◌+◌, ◌-◌, ◌<◌, ◌≤◌, List, [], ◌∷◌, ◌++◌, append_assoc, length, get_or, set, refl, sym, ap, ◌∙◌, subst, inl, inr, arith}
use mathlib.Core.Bool.{false≢true}
use Rattle.std.specs.List.{AllByRecursion, insert, remove}
use Rattle.std.proofs.lemmas.Bool.{cases_lt}
use Rattle.std.proofs.lemmas.List.{length-append, length-set, get_or-set_same, get_or-set_other}
use Rattle.std.proofs.lemmas.List.Edits.{length-remove, length-insert}
use Rattle.rep_lists.proofs.Each.{each_at, each_set}
use Rattle.page_tables.specs.Pages.{page_values, most_in, IsPage, ArePages}
use Rattle.page_tables.proofs.InPages.{page_values-remove, page_values-split_at}
use Rattle.page_tables.proofs.Close.{close-set, close-split, close-set_kept, close-remove, close-join}

-- what isn't empty has a value
pub some_left : {X : Type 0} (xs : List X) (test : Bool) → ((test ≡ true) ↔ (xs ≡ [])) → test ≡ false → 1 ≤ length xs
some_left [] test is fails = absurd (false≢true (sym fails ∙ is.1 refl))
some_left (x ∷ xs) test is fails = omega arith

-- what isn't short is long
pub not_short : {A : Type 0} (n : ℕ) (test : Bool) → ((test ≡ true) ↔ (A × (n < 32))) → test ≡ false → A → 32 ≤ n
not_short n test is fails there = elim (cases_lt n 32) [ inl lt ↦ absurd (false≢true (sym fails ∙ is.1 (there, lt))) | inr ge ↦ ge ]

-- a value that is taken out may have been set before
remove-set : {X : Type 0} (xs : List X) (i : ℕ) (x : X) → remove (set xs i x) i ≡ remove xs i
remove-set [] i x = refl
remove-set (y ∷ ys) zero x = refl
remove-set (y ∷ ys) (suc i) x = ap (λ t. y ∷ t) (remove-set ys i x)

join-set : {X : Type 0} (xs : List X) (i : ℕ) (x y : X) → set (remove (set xs i x) (suc i)) i y ≡ set (remove xs (suc i)) i y
join-set [] i x y = refl
join-set (z ∷ zs) zero x y = refl
join-set (z ∷ zs) (suc i) x y = ap (λ t. z ∷ t) (join-set zs i x y)

each_remove : {X : Type 0} (P : X → Type 0) (xs : List X) (i : ℕ) → AllByRecursion P xs → AllByRecursion P (remove xs i)
each_remove P [] zero all = tt
each_remove P [] (suc i) all = tt
each_remove P (x ∷ xs) zero all = all.1
each_remove P (x ∷ xs) (suc i) all = (all.0, each_remove P xs i all.1)

each_insert : {X : Type 0} (P : X → Type 0) (xs : List X) (i : ℕ) (y : X) → i ≤ length xs → P y → AllByRecursion P xs → AllByRecursion P (insert xs i y)
each_insert P [] zero y within here all = (here, tt)
each_insert P [] (suc i) y within here all = absurd (omega (arith, within))
each_insert P (x ∷ xs) zero y within here all = (here, all)
each_insert P (x ∷ xs) (suc i) y within here all = (all.0, each_insert P xs i y (omega (arith, within)) here all.1)

module _ {X : Type 0} where
  -- the values of two neighbours in one page
  joined-join : (pages : List (List X)) (i : ℕ) → suc i < length pages → page_values (set (remove pages (suc i)) i (get_or pages i [] ++ get_or pages (suc i) [])) ≡ page_values pages
  joined-join [] i within = absurd (omega (arith, within))
  joined-join (q ∷ []) i within = absurd (omega (arith, within))
  joined-join (q ∷ r ∷ rs) zero within = append_assoc q r (page_values rs)
  joined-join (q ∷ r ∷ rs) (suc i) within = ap (λ t. q ++ t) (joined-join (r ∷ rs) i (omega (arith, within)))

  pub length-joined-set : (pages : List (List X)) (i : ℕ) (page : List X) → i < length pages → length (page_values (set pages i page)) + length (get_or pages i []) ≡ length (page_values pages) + length page
  length-joined-set [] i page within = absurd (omega (arith, within))
  length-joined-set (q ∷ qs) zero page within = let a = length-append page (page_values qs) in let b = length-append q (page_values qs) in omega (arith, a, b)
  length-joined-set (q ∷ qs) (suc i) page within =
      let rest = length-joined-set qs i page (omega (arith, within)) in
      let a = length-append q (page_values (set qs i page)) in
      let b = length-append q (page_values qs) in
      omega (arith, rest, a, b)

module _ {X : Type 0} (pages waiting : List (List X)) (places backs : ℕ) (are : ArePages pages waiting places backs) (at : ℕ) (within : at < length pages) where
  -- the page at a place with one value more
  pub are_inserted : (page : List X) → length page ≡ length (get_or pages at []) + 1 → length page ≤ 64 → length (page_values pages) < most_in (length pages + length waiting) → ArePages (set pages at page) waiting places backs
  are_inserted page longer most room =
      let same = length-set pages at page in
      let count = length-joined-set pages at page within in
      record {
        filled = each_set IsPage pages at page (record { some = omega (arith, longer); most = most }) are.filled;
        close = close-set pages at page within (omega (arith, longer)) are.close;
        blank = are.blank;
        room = omega (arith, same, are.room);
        back = omega (arith, same, are.back);
        few = omega (arith, same, are.few);
        fits = rw same (omega (arith, count, longer, room));
      }

  -- or in two halves
  pub are_split : (more : List (List X)) (a b : List X) → IsPage a → IsPage b → 32 ≤ length a → 32 ≤ length b → length a + length b ≡ length (get_or pages at []) + 1 → AllByRecursion (λ page. page ≡ []) more
      → length waiting ≡ length more + 1 → length (page_values pages) < most_in (length pages + length waiting) → ArePages (insert (set pages at a) (at + 1) b) more places backs
  are_split more a b is_a is_b half_a half_b longer blank one room =
      let next : at + 1 ≡ suc at = omega arith in
      let same = length-set pages at a in
      let inside : at + 1 ≤ length (set pages at a) = omega (arith, same, within) in
      let long = length-insert (set pages at a) (at + 1) b inside in
      let count = length-joined-set pages at (a ++ b) within in
      let both = length-append a b in
      let parts = ap length (page_values-split_at pages at a b within) in
      let all : length (insert (set pages at a) (at + 1) b) + length more ≡ length pages + length waiting = omega (arith, long, same, one) in
      record {
        filled = each_insert IsPage (set pages at a) (at + 1) b inside is_b (each_set IsPage pages at a is_a are.filled);
        close = rw next (close-split pages at a b within half_a half_b are.close);
        blank = blank;
        room = omega (arith, all, are.room);
        back = omega (arith, all, are.back);
        few = omega (arith, all, are.few);
        fits = rw all (omega (arith, count, both, parts, longer, room));
      }

  module _ (page : List X) (shorter : length page + 1 ≡ length (get_or pages at [])) where
    pub fewer : length (page_values (set pages at page)) + 1 ≡ length (page_values pages)
    fewer = let count = length-joined-set pages at page within in omega (arith, count, shorter)

    -- the page at a place with one value less, where it stays close to its neighbours
    pub are_kept : 1 ≤ length page → (at + 1 < length pages → 32 ≤ length page + length (get_or pages (at + 1) []))
        → (0 < at → 32 ≤ length (get_or pages (at - 1) []) + length page) → ArePages (set pages at page) waiting places backs
    are_kept some next before =
        let more : at + 1 ≡ suc at = omega arith in
        let same = length-set pages at page in
        let most = (each_at IsPage pages at [] within are.filled).most in
        record {
          filled = each_set IsPage pages at page (record { some = some; most = omega (arith, shorter, most) }) are.filled;
          close = close-set_kept pages at page within (rw more at next)
              (λ j e. (let first : 0 < at = omega (arith, e) in let place : at - 1 ≡ j = omega (arith, e) in rw place at (before first))) are.close;
          blank = are.blank;
          room = omega (arith, same, are.room);
          back = omega (arith, same, are.back);
          few = omega (arith, same, are.few);
          fits = rw same (omega (arith, fewer, are.fits));
        }

    -- the same, of the pages as they are then
    pub are_kept_now : 1 ≤ length page → (at + 1 < length (set pages at page) → 32 ≤ length (get_or (set pages at page) at []) + length (get_or (set pages at page) (at + 1) []))
        → (0 < at → 32 ≤ length (get_or (set pages at page) (at - 1) []) + length (get_or (set pages at page) (at - 1 + 1) [])) → ArePages (set pages at page) waiting places backs
    are_kept_now some next before =
        let same = length-set pages at page in
        let here = ap length (get_or-set_same pages at page [] within) in
        are_kept some
        (λ more. (
        let behind = ap length (get_or-set_other pages at (at + 1) page [] (λ e. absurd (omega (arith, e)))) in
        let far = next (omega (arith, more, same)) in
        omega (arith, far, here, behind)))
        (λ first. (
        let place : at - 1 + 1 ≡ at = omega (arith, first) in
        let front = ap length (get_or-set_other pages at (at - 1) page [] (λ e. absurd (omega (arith, e, first)))) in
        let far = rw place at (before first) in
        omega (arith, far, here, front)))

    module _ (more : List (List X)) (blank : AllByRecursion (λ p. p ≡ []) more) (one : length more ≡ length waiting + 1) where
      -- without the page, where it is empty
      pub are_dropped : page ≡ [] → ArePages (remove (set pages at page) at) more places backs × (page_values (remove (set pages at page) at) ≡ page_values (set pages at page))
      are_dropped empty =
          let same = length-set pages at page in
          let inside : at < length (set pages at page) = omega (arith, same, within) in
          let less = length-remove (set pages at page) at inside in
          let none = ap length empty in
          let slots = page_values-remove (set pages at page) at inside (get_or-set_same pages at page [] within ∙ empty) in
          let all : length (remove (set pages at page) at) + length more ≡ length pages + length waiting = omega (arith, less, same, one) in
          let count = ap length slots in (
            record {
              filled = rw (remove-set pages at page) (each_remove IsPage pages at are.filled);
              close = rw (remove-set pages at page) (close-remove pages at within are.filled (omega (arith, shorter, none)) are.close);
              blank = blank;
              room = omega (arith, all, are.room);
              back = omega (arith, all, are.back);
              few = omega (arith, all, are.few);
              fits = rw all (omega (arith, count, fewer, are.fits));
            },
            slots,
          )

      -- pages that have the same values, one page fewer
      abbrev JoinedAs : List (List X) → Type 0
      JoinedAs after = ArePages after more places backs × ((page_values after ≡ page_values (set pages at page)) × (length after + length more ≡ length pages + length waiting))

      -- joined with its neighbour: what is to be shown of both
      joined_ones : (i : ℕ) → suc i < length pages → (both : List X) → both ≡ get_or (set pages at page) i [] ++ get_or (set pages at page) (suc i) []
          → set (remove (set pages at page) (suc i)) i both ≡ set (remove pages (suc i)) i both
          → IsPage both → length (get_or pages i []) ≤ length both → length (get_or pages (suc i) []) ≤ length both
          → JoinedAs (set (remove (set pages at page) (suc i)) i both)
      joined_ones i inside both both_is same_pages is here next =
          let same = length-set pages at page in
          let within_set : suc i < length (set pages at page) = omega (arith, same, inside) in
          let less = length-remove (set pages at page) (suc i) within_set in
          let kept = length-set (remove (set pages at page) (suc i)) i both in
          let slots = ap (λ t. page_values (set (remove (set pages at page) (suc i)) i t)) both_is ∙ joined-join (set pages at page) i within_set in
          let all : length (set (remove (set pages at page) (suc i)) i both) + length more ≡ length pages + length waiting = omega (arith, less, kept, same, one) in
          let count = ap length slots in (
            record {
              filled = rw same_pages (each_set IsPage (remove pages (suc i)) i both is (each_remove IsPage pages (suc i) are.filled));
              close = rw same_pages (close-join pages i both inside here next are.close);
              blank = blank;
              room = omega (arith, all, are.room);
              back = omega (arith, all, are.back);
              few = omega (arith, all, are.few);
              fits = rw all (omega (arith, count, fewer, are.fits));
            },
            (slots, all),
          )

      -- with the page behind it
      pub are_joined_next : at + 1 < length pages → 1 ≤ length page → length (get_or (set pages at page) at []) + length (get_or (set pages at page) (at + 1) []) < 32
          → (both : List X) → both ≡ get_or (set pages at page) at [] ++ get_or (set pages at page) (at + 1) []
          → JoinedAs (set (remove (set pages at page) (at + 1)) at both)
      are_joined_next inside some short both both_is =
          let next : at + 1 ≡ suc at = omega arith in
          let there : suc at < length pages = omega (arith, inside) in
          let here = ap length (get_or-set_same pages at page [] within) in
          let behind = ap length (get_or-set_other pages at (suc at) page [] (λ e. absurd (omega (arith, e)))) in
          let other = each_at IsPage pages (suc at) [] there are.filled in
          let short_now = rw next at short in
          let is_now = rw next at both_is in
          let long = ap length is_now ∙ length-append (get_or (set pages at page) at []) (get_or (set pages at page) (suc at) []) in
          rw next (joined_ones at there both is_now (join-set pages at page both)
          (record { some = omega (arith, long, here, some); most = omega (arith, long, short_now) })
          (omega (arith, long, here, behind, shorter, other.some))
          (omega (arith, long, behind)))

      -- with the page before it
      pub are_joined_before : 0 < at → 1 ≤ length page → length (get_or (set pages at page) (at - 1) []) + length (get_or (set pages at page) (at - 1 + 1) []) < 32
          → (both : List X) → both ≡ get_or (set pages at page) (at - 1) [] ++ get_or (set pages at page) (at - 1 + 1) []
          → JoinedAs (set (remove (set pages at page) (at - 1 + 1)) (at - 1) both)
      are_joined_before first some short both both_is = go (at - 1) (omega (arith, first)) short both_is
        where
          go : (i : ℕ) → suc i ≡ at → length (get_or (set pages at page) i []) + length (get_or (set pages at page) (i + 1) []) < 32
              → both ≡ get_or (set pages at page) i [] ++ get_or (set pages at page) (i + 1) []
              → JoinedAs (set (remove (set pages at page) (i + 1)) i both)
          go i is_at short both_is =
              let next : i + 1 ≡ suc i = omega arith in
              let there : suc i < length pages = omega (arith, is_at, within) in
              let before : i < length pages = omega (arith, there) in
              let here = ap length (subst (λ j. get_or (set pages at page) j [] ≡ page) (sym is_at) (get_or-set_same pages at page [] within)) in
              let front = ap length (get_or-set_other pages at i page [] (λ e. absurd (omega (arith, e, is_at)))) in
              let old = ap (λ j. length (get_or pages j [])) is_at in
              let other = each_at IsPage pages i [] before are.filled in
              let short_now = rw next at short in
              let is_now = rw next at both_is in
              let long = ap length is_now ∙ length-append (get_or (set pages at page) i []) (get_or (set pages at page) (suc i) []) in
              let removed = subst (λ j. remove (set pages at page) j ≡ remove pages j) (sym is_at) (remove-set pages at page) in
              rw next (joined_ones i there both is_now (ap (λ t. set t i both) removed)
              (record { some = omega (arith, long, here, some); most = omega (arith, long, short_now) })
              (omega (arith, long, front))
              (omega (arith, long, here, front, shorter, old, other.some)))

-- the first page of all
pub are_started : {X : Type 0} (waiting more : List (List X)) (places backs : ℕ) (page : List X) → ArePages [] waiting places backs → length page ≡ 1 → AllByRecursion (λ p. p ≡ []) more → length waiting ≡ length more + 1
    → 0 < most_in (length waiting) → ArePages (page ∷ []) more places backs
are_started waiting more places backs page are single blank one room =
    let both = length-append page [] in
    record {
      filled = (record { some = omega (arith, single); most = omega (arith, single) }, tt);
      close = (tt, tt);
      blank = blank;
      room = omega (arith, one, are.room);
      back = omega (arith, one, are.back);
      few = omega (arith, one, are.few);
      fits = omega (arith, both, single, one, room);
    }

-- more pages that wait
pub are_more : {X : Type 0} (pages waiting more : List (List X)) (places backs places_now backs_now : ℕ) → ArePages pages waiting places backs → AllByRecursion (λ p. p ≡ []) more → length waiting ≤ length more
    → length pages + length more ≤ places_now → length pages + length more ≤ backs_now → length pages + length more ≤ 4294967296 → ArePages pages more places_now backs_now
are_more pages waiting more places backs places_now backs_now are blank longer room back few = record {
  filled = are.filled;
  close = are.close;
  blank = blank;
  room = room;
  back = back;
  few = few;
  fits = omega (arith, longer, are.fits);
}
