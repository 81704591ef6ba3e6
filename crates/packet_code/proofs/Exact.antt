-- Readings that read a value exactly where its spelling stands in front, put together of such readings.
use Rattle.std.proofs.Common.{◌≡◌, ℕ, zero, suc, ◌<◌, ◌≤◌, Bool, true, false, ◌&&◌, List, [], ◌∷◌, ◌++◌, length, take, drop, Option, Some, None, nat_le, if◌then◌else◌, refl, sym, ◌∙◌, ap, subst, arith, append_assoc}
use Rattle.std.specs.Prelude.{flat_map, ◌↔◌}
use Rattle.std.specs.List.{AllByRecursion}
use Rattle.std.proofs.lemmas.Bool.{leb-true, le-leb}
use Rattle.std.proofs.Math.Seq.{take-append_seam, drop-append_seam}
use Rattle.std.proofs.lemmas.List.{length-take-le, length-append, take-append-drop}
use Rattle.packet_code.specs.Reading.{Reading, ◌>>=◌, nothing, given, byte, front, made, tested, ◌▸◌, behind, either, times, limited, up_to}

-- each of them is a byte
abbrev pub AreBytes : List ℕ → Type 0
AreBytes = AllByRecursion (λ b. b < 256)

-- what is read is such a value, with its spelling in front; and each such spelling is read
pub record IsExact {A : Type 0} (Is : A → Type 0) (spell : A → List ℕ) (reading : Reading A) : Type 0 where
  pub sound : (bytes rest : List ℕ) (x : A) → AreBytes bytes → reading bytes ≡ Some (x, rest) → Is x × (spell x ++ rest ≡ bytes)
  pub complete : (x : A) (rest : List ℕ) → Is x → reading (spell x ++ rest) ≡ Some (x, rest)

-- the step that a result came through
pub bound : {A B : Type 0} (r : Option A) (f : A → Option B) (y : B) → (r >>= f) ≡ Some y → (x : A) × (r ≡ Some x) × (f x ≡ Some y)
bound None f y e = cc
bound (Some x) f y e = (x, refl, e)

pub both_true : (a b : Bool) → (a && b) ≡ true → (a ≡ true) × (b ≡ true)
both_true true b e = (refl, e)
both_true false b e = cc

-- one value read is the other, and so is what is left
pub same_read : {A : Type 0} (p q : A × List ℕ) → Some p ≡ Some q → (p.0 ≡ q.0) × (p.1 ≡ q.1)
same_read {A = A} p q e = let same = some_is p q e in (ap (λ (p : A × List ℕ). p.0) same, ap (λ (p : A × List ℕ). p.1) same)
  where
    some_is : (p q : A × List ℕ) → Some p ≡ Some q → p ≡ q
    some_is p q e = cc

-- a value with its spelling in front
abbrev pub IsInFront : {A : Type 0} → (A → Type 0) → (A → List ℕ) → List ℕ → A × List ℕ → Type 0
IsInFront Is spell bytes p = Is p.0 × (spell p.0 ++ p.1 ≡ bytes)

-- what holds of one read holds of the same
pub as_read : {A : Type 0} (Is : A → Type 0) (spell : A → List ℕ) (bytes : List ℕ) (p q : A × List ℕ) → Some p ≡ Some q
    → IsInFront Is spell bytes p → IsInFront Is spell bytes q
as_read {A = A} Is spell bytes p q e here = subst (IsInFront Is spell bytes) (some_is p q e) here
  where
    some_is : (p q : A × List ℕ) → Some p ≡ Some q → p ≡ q
    some_is p q e = cc

-- the rest of bytes are bytes
pub rest_bytes : (front rest : List ℕ) → AreBytes (front ++ rest) → AreBytes rest
rest_bytes [] rest all = all
rest_bytes (b ∷ bs) rest all = rest_bytes bs rest all.1

module _ {A : Type 0} {Is : A → Type 0} {spell : A → List ℕ} {reading : Reading A} (exact : IsExact Is spell reading) where
  -- no spelling begins another
  pub no_spelling_begins_another : (x y : A) (r s : List ℕ) → Is x → Is y → spell x ++ r ≡ spell y ++ s → (x ≡ y) × (r ≡ s)
  no_spelling_begins_another x y r s is_x is_y e =
      same_read (x, r) (y, s) (sym (exact.complete x r is_x) ∙ ap reading e ∙ exact.complete y s is_y)

  -- what is left of bytes are bytes
  pub left_bytes : (bytes rest : List ℕ) (x : A) → AreBytes bytes → reading bytes ≡ Some (x, rest) → AreBytes rest
  left_bytes bytes rest x all read = rest_bytes (spell x) rest (subst AreBytes (sym (exact.sound bytes rest x all read).1) all)

  -- the same values under other words
  pub said_so : {Is' : A → Type 0} → ((x : A) → Is x ↔ Is' x) → IsExact Is' spell reading
  said_so same = record {
    sound = λ bytes rest x all read. let s = exact.sound bytes rest x all read in ((same x).0 s.0, s.1);
    complete = λ x rest is. exact.complete x rest ((same x).1 is);
  }

  -- values that pass a test
  pub tested-exact : (test : A → Bool) (P : A → Type 0) → ((x : A) → Is x → (test x ≡ true) ↔ P x) → IsExact (λ x. Is x × P x) spell (tested test reading)
  tested-exact test P tells = record {
    sound = λ bytes rest x all read.
        let b = bound (reading bytes) _ (x, rest) read in
        go bytes rest x b.0 all b.1 (test b.0.0) refl b.2;
    complete = λ x rest is. rw (exact.complete x rest is.0, (tells x is.0).1 is.1) refl;
  }
    where
      go : (bytes rest : List ℕ) (x : A) (y : A × List ℕ) → AreBytes bytes → reading bytes ≡ Some y → (t : Bool) → test y.0 ≡ t
          → (if t then Some y else None) ≡ Some (x, rest) → (Is x × P x) × (spell x ++ rest ≡ bytes)
      go bytes rest x y all read true passed e =
          let same : y ≡ (x, rest) = cc in
          let s = exact.sound bytes rest x all (read ∙ ap Some same) in
          let p : test x ≡ true = subst (λ (z : A × List ℕ). test z.0 ≡ true) same passed in
          ((s.0, (tells x s.0).0 p), s.1)
      go bytes rest x y all read false passed e = cc

-- what is made of what is read
pub made-exact : {A B : Type 0} {Is : A → Type 0} {spell : A → List ℕ} {reading : Reading A} (Is' : B → Type 0) (spell' : B → List ℕ) (f : A → B)
    → IsExact Is spell reading → ((x : A) → Is x → Is' (f x) × (spell' (f x) ≡ spell x)) → ((y : B) → Is' y → (x : A) × Is x × (f x ≡ y))
    → IsExact Is' spell' (made f reading)
made-exact {A = A} {Is = Is} {spell = spell} {reading = reading} Is' spell' f exact there back = record {
  sound = λ bytes rest y all read.
      let b = bound (reading bytes) _ (y, rest) read in
      let s = exact.sound bytes b.0.1 b.0.0 all b.1 in
      let t = there b.0.0 s.0 in
      as_read Is' spell' bytes (f b.0.0, b.0.1) (y, rest) b.2 (t.0, ap (λ ys. ys ++ b.0.1) t.1 ∙ s.1);
  complete = λ y rest is.
      let x = back y is in
      let t = there x.0 x.1 in
      rw (← x.2) (rw (t.1, exact.complete x.0 rest x.1) refl);
}

-- one and then the other
pub pair-exact : {A B : Type 0} {Is : A → Type 0} {spell : A → List ℕ} {first : Reading A} {Is' : A → B → Type 0} {spell' : A → B → List ℕ} {second : A → Reading B}
    → IsExact Is spell first → ((x : A) → Is x → IsExact (Is' x) (spell' x) (second x))
    → IsExact (λ (p : A × B). Is p.0 × Is' p.0 p.1) (λ p. spell p.0 ++ spell' p.0 p.1) (first ▸ second)
pair-exact {A = A} {B = B} {Is = Is} {spell = spell} {first = first} {Is' = Is'} {spell' = spell'} {second = second} one other = record {
  sound = λ bytes rest p all read.
      let b = bound (first bytes) _ (p, rest) read in
      let s = one.sound bytes b.0.1 b.0.0 all b.1 in
      let all' = left_bytes one bytes b.0.1 b.0.0 all b.1 in
      let d = bound (second b.0.0 b.0.1) _ (p, rest) b.2 in
      let t = (other b.0.0 s.0).sound b.0.1 d.0.1 d.0.0 all' d.1 in
      as_read (λ (p : A × B). Is p.0 × Is' p.0 p.1) (λ p. spell p.0 ++ spell' p.0 p.1) bytes ((b.0.0, d.0.0), d.0.1) (p, rest) d.2 ((s.0, t.0), append_assoc (spell b.0.0) (spell' b.0.0 d.0.0) d.0.1 ∙ ap (λ xs. spell b.0.0 ++ xs) t.1 ∙ s.1);
  complete = λ p rest is.
      rw (append_assoc (spell p.0) (spell' p.0 p.1) rest, one.complete p.0 (spell' p.0 p.1 ++ rest) is.0, (other p.0 is.0).complete p.1 rest is.1) refl;
}

-- a value that tells how to read what stands behind it
pub behind-exact : {A B : Type 0} {Is : A → Type 0} {spell : A → List ℕ} {first : Reading A} {second : A → Reading B} (Is' : B → Type 0) (spell' : B → List ℕ)
    (head : B → A) (tail : B → List ℕ) → IsExact Is spell first → ((x : A) → Is x → IsExact (λ y. Is' y × (head y ≡ x)) tail (second x))
    → ((y : B) → Is' y → Is (head y)) → ((y : B) → spell' y ≡ spell (head y) ++ tail y) → IsExact Is' spell' (behind first second)
behind-exact {A = A} {B = B} {Is = Is} {spell = spell} {first = first} {second = second} Is' spell' head tail one other is_head split = record {
  sound = λ bytes rest y all read.
      let b = bound (first bytes) _ (y, rest) read in
      let s = one.sound bytes b.0.1 b.0.0 all b.1 in
      let all' = left_bytes one bytes b.0.1 b.0.0 all b.1 in
      let t = (other b.0.0 s.0).sound b.0.1 rest y all' b.2 in
      (t.0.0, ap (λ xs. xs ++ rest) (split y ∙ ap (λ x. spell x ++ tail y) t.0.1) ∙ append_assoc (spell b.0.0) (tail y) rest ∙ ap (λ xs. spell b.0.0 ++ xs) t.1 ∙ s.1);
  complete = λ y rest is.
      rw (split y, append_assoc (spell (head y)) (tail y) rest, one.complete (head y) (tail y ++ rest) (is_head y is)) ((other (head y) (is_head y is)).complete y rest (is, refl));
}

-- the first reading where the test holds, or else the second
pub either-exact : {A : Type 0} {Is : A → Type 0} {spell : A → List ℕ} (test : Bool) (first second : Reading A)
    → (test ≡ true → IsExact Is spell first) → (test ≡ false → IsExact Is spell second) → IsExact Is spell (either test first second)
either-exact true first second holds fails = record { sound = (holds refl).sound; complete = (holds refl).complete }
either-exact false first second holds fails = record { sound = (fails refl).sound; complete = (fails refl).complete }

-- nothing is read where there is nothing to read
pub nothing-exact : {A : Type 0} {Is : A → Type 0} {spell : A → List ℕ} → ((x : A) → ¬ Is x) → IsExact Is spell nothing
nothing-exact none = record { sound = λ bytes rest x all read. cc; complete = λ x rest is. absurd (none x is) }

-- a value of which no byte tells
pub given-exact : {A : Type 0} (x : A) → IsExact (λ y. y ≡ x) (λ y. []) (given x)
given-exact {A = A} x = record {
  sound = λ bytes rest y all read. let same = same_read (x, bytes) (y, rest) read in (sym same.0, sym same.1);
  complete = λ y rest is. rw is refl;
}

-- a byte
pub byte-exact : IsExact (λ b. b < 256) (λ b. b ∷ []) byte
unfolding byte
byte-exact = record { sound = go; complete = λ x rest is. refl }
  where
    go : (bytes rest : List ℕ) (x : ℕ) → AreBytes bytes → byte bytes ≡ Some (x, rest) → (x < 256) × (x ∷ rest ≡ bytes)
    go [] rest x all e = cc
    go (b ∷ bs) rest x all e =
        let same = same_read (b, bs) (x, rest) e in
        (subst (λ y. y < 256) same.0 all.0, rw (same.0, same.1) refl)

-- so many bytes
pub front-exact : (count : ℕ) → IsExact (λ xs. length xs ≡ count) (λ xs. xs) (front count)
unfolding front
front-exact count = record {
  sound = λ bytes rest x all read. go bytes rest x (nat_le count (length bytes)) refl read;
  complete = λ x rest is. rw (← is, nat_le_append x rest, take-append_seam x rest, drop-append_seam x rest) refl;
}
  where
    nat_le_append : (x rest : List ℕ) → nat_le (length x) (length (x ++ rest)) ≡ true
    nat_le_append x rest = le-leb (length x) (length (x ++ rest)) (omega (arith, length-append x rest))

    go : (bytes rest x : List ℕ) (t : Bool) → nat_le count (length bytes) ≡ t
        → ◌≡◌ {A = Option (List ℕ × List ℕ)} (if t then Some (take count bytes, drop count bytes) else None) (Some (x, rest)) → (length x ≡ count) × (x ++ rest ≡ bytes)
    go bytes rest x true enough e =
        let same = same_read (take count bytes, drop count bytes) (x, rest) e in
        rw (← same.0, ← same.1) (length-take-le count bytes (leb-true count (length bytes) enough), take-append-drop count bytes)
    go bytes rest x false enough e = cc

-- so many of them
pub times-exact : {A : Type 0} {Is : A → Type 0} {spell : A → List ℕ} {reading : Reading A} → IsExact Is spell reading
    → (count : ℕ) → IsExact (λ xs. (length xs ≡ count) × AllByRecursion Is xs) (flat_map spell) (times count reading)
unfolding times
times-exact {A = A} {Is = Is} {spell = spell} exact zero = record {
  sound = λ bytes rest xs all read. let e = same_read ([], bytes) (xs, rest) read in rw (← e.0, ← e.1) ((refl, tt), refl);
  complete = none_left;
}
  where
    none_left : (xs : List A) (rest : List ℕ) → (length xs ≡ 0) × AllByRecursion Is xs → ◌≡◌ {A = Option (List A × List ℕ)} (Some ([], flat_map spell xs ++ rest)) (Some (xs, rest))
    none_left [] rest is = refl
    none_left (x ∷ xs) rest is = absurd (omega (arith, is.0))
times-exact {A = A} {Is = Is} {spell = spell} {reading = reading} exact (suc n) = record {
  sound = λ bytes rest xs all read.
      let b = bound (reading bytes) _ (xs, rest) read in
      let s = exact.sound bytes b.0.1 b.0.0 all b.1 in
      let d = bound (times n reading b.0.1) _ (xs, rest) b.2 in
      let t = (times-exact exact n).sound b.0.1 d.0.1 d.0.0 (left_bytes exact bytes b.0.1 b.0.0 all b.1) d.1 in
      as_read (λ xs. (length xs ≡ suc n) × AllByRecursion Is xs) (flat_map spell) bytes (b.0.0 ∷ d.0.0, d.0.1) (xs, rest) d.2 ((ap suc t.0.0, (s.0, t.0.1)), append_assoc (spell b.0.0) (flat_map spell d.0.0) d.0.1 ∙ ap (λ ys. spell b.0.0 ++ ys) t.1 ∙ s.1);
  complete = λ xs rest is. one_more xs rest is (times-exact exact n);
}
  where
    one_more : (xs : List A) (rest : List ℕ) → (length xs ≡ suc n) × AllByRecursion Is xs → IsExact (λ xs. (length xs ≡ n) × AllByRecursion Is xs) (flat_map spell) (times n reading)
        → ◌≡◌ {A = Option (List A × List ℕ)} (reading (flat_map spell xs ++ rest) >>= λ x. times n reading x.1 >>= λ xs. Some (x.0 ∷ xs.0, xs.1)) (Some (xs, rest))
    one_more [] rest is others = absurd (omega (arith, is.0))
    one_more (x ∷ xs) rest is others =
        rw (append_assoc (spell x) (flat_map spell xs) rest, exact.complete x (flat_map spell xs ++ rest) is.1.0, others.complete xs rest (omega (arith, is.0), is.1.1)) refl

-- so many of them, where it is 1 to the most
pub limited-exact : {A : Type 0} {Is : A → Type 0} {spell : A → List ℕ} {reading : Reading A} → (most : ℕ) → IsExact Is spell reading → (count : ℕ)
    → IsExact (λ xs. (length xs ≡ count) × (1 ≤ length xs) × (length xs ≤ most) × AllByRecursion Is xs) (flat_map spell) (limited most reading count)
limited-exact {A = A} {Is = Is} {spell = spell} most exact count =
    either-exact (nat_le 1 count && nat_le count most) _ _ (λ within. said_so (times-exact exact count) (same within)) (λ outside. nothing-exact (λ xs is. none outside xs is))
  where
    same : (nat_le 1 count && nat_le count most) ≡ true → (xs : List A)
        → ((length xs ≡ count) × AllByRecursion Is xs) ↔ ((length xs ≡ count) × (1 ≤ length xs) × (length xs ≤ most) × AllByRecursion Is xs)
    same within xs = let w = both_true (nat_le 1 count) (nat_le count most) within in (
      λ is. (is.0, subst (λ n. 1 ≤ n) (sym is.0) (leb-true 1 count w.0), subst (λ n. n ≤ most) (sym is.0) (leb-true count most w.1), is.1),
      λ is. (is.0, is.3),
    )

    none : (nat_le 1 count && nat_le count most) ≡ false → (xs : List A) → (length xs ≡ count) × (1 ≤ length xs) × (length xs ≤ most) × AllByRecursion Is xs → ⊥
    none outside xs is =
        let e : (nat_le 1 count && nat_le count most) ≡ true = rw (← is.0, le-leb 1 (length xs) is.1, le-leb (length xs) most is.2) refl in
        cc

-- how many, and then each
pub counted-exact : {A : Type 0} {Is : A → Type 0} {spell : A → List ℕ} {reading : Reading A} {IsCount : ℕ → Type 0} {spell_count : ℕ → List ℕ} {count : Reading ℕ}
    → IsExact IsCount spell_count count → (most : ℕ) → ((n : ℕ) → n ≤ most → IsCount n) → IsExact Is spell reading
    → IsExact (λ xs. (1 ≤ length xs) × (length xs ≤ most) × AllByRecursion Is xs) (λ xs. spell_count (length xs) ++ flat_map spell xs) (behind count (limited most reading))
counted-exact {A = A} {Is = Is} {spell = spell} {spell_count = spell_count} number most fits exact =
    behind-exact (λ xs. (1 ≤ length xs) × (length xs ≤ most) × AllByRecursion Is xs) (λ xs. spell_count (length xs) ++ flat_map spell xs) length (flat_map spell) number
    (λ n is. said_so (limited-exact most exact n) (λ xs. (λ p. ((p.1, p.2, p.3), p.0), λ p. (p.1, p.0.0, p.0.1, p.0.2))))
    (λ xs is. fits (length xs) is.1)
    (λ xs. refl)

-- so many of them, where it is at most the most
pub up_to-exact : {A : Type 0} {Is : A → Type 0} {spell : A → List ℕ} {reading : Reading A} → (most : ℕ) → IsExact Is spell reading → (count : ℕ)
    → IsExact (λ xs. (length xs ≡ count) × (length xs ≤ most) × AllByRecursion Is xs) (flat_map spell) (up_to most reading count)
up_to-exact {A = A} {Is = Is} most exact count =
    either-exact (nat_le count most) _ _ (λ within. said_so (times-exact exact count) (same within)) (λ outside. nothing-exact (λ xs is. none outside xs is))
  where
    same : nat_le count most ≡ true → (xs : List A) → ((length xs ≡ count) × AllByRecursion Is xs) ↔ ((length xs ≡ count) × (length xs ≤ most) × AllByRecursion Is xs)
    same within xs = (λ is. (is.0, subst (λ n. n ≤ most) (sym is.0) (leb-true count most within), is.1), λ is. (is.0, is.2))

    none : nat_le count most ≡ false → (xs : List A) → (length xs ≡ count) × (length xs ≤ most) × AllByRecursion Is xs → ⊥
    none outside xs is = let e : nat_le count most ≡ true = rw (← is.0) (le-leb (length xs) most is.1) in cc

-- how many, and then each
pub counted_up_to-exact : {A : Type 0} {Is : A → Type 0} {spell : A → List ℕ} {reading : Reading A} {IsCount : ℕ → Type 0} {spell_count : ℕ → List ℕ} {count : Reading ℕ}
    → IsExact IsCount spell_count count → (most : ℕ) → ((n : ℕ) → n ≤ most → IsCount n) → IsExact Is spell reading
    → IsExact (λ xs. (length xs ≤ most) × AllByRecursion Is xs) (λ xs. spell_count (length xs) ++ flat_map spell xs) (behind count (up_to most reading))
counted_up_to-exact {A = A} {Is = Is} {spell = spell} {spell_count = spell_count} number most fits exact =
    behind-exact (λ xs. (length xs ≤ most) × AllByRecursion Is xs) (λ xs. spell_count (length xs) ++ flat_map spell xs) length (flat_map spell) number
    (λ n is. said_so (up_to-exact most exact n) (λ xs. (λ p. ((p.1, p.2), p.0), λ p. (p.1, p.0.0, p.0.1))))
    (λ xs is. fits (length xs) is.0)
    (λ xs. refl)
