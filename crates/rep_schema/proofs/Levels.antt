-- The level of a value: among levels in rising order of value, and where one more is put among them.
use Rattle.std.proofs.Common.{◌≡◌, ◌≢◌, List, [], ◌∷◌, Bool, true, false, cond, Option, Some, None, refl, sym, ap, ◌∙◌}
use Rattle.std.specs.List.{AllByRecursion, find}
use Rattle.std.specs.Ordering.{ordering_reverse}
use Rattle.std.specs.declared.cmp.Ordering.{Ordering}
use Rattle.std.specs.declared.cmp.Ordering.TheVariants.{Less, Equal, Greater}
use Rattle.std.proofs.lemmas.Bool.{false_from_ne_true}
use Rattle.std.proofs.lemmas.Cmp.{tied_itself}
use Rattle.rep_lists.specs.Rising.{IsRising, find_at, found_here, put_at, put_here}
use Rattle.rep_values.specs.declared.value.Value.{Value}
use Rattle.rep_values.specs.Equality.{value_eq, value_eq-Decides}
use Rattle.rep_values.specs.Order.{value_cmp}
use Rattle.rep_values.specs.OrderLaws.{value_cmp_total, exact_values}
use Rattle.rep_schema.specs.declared.schema.PriorityLevel.{PriorityLevel}
use Rattle.rep_schema.specs.Levels.{by_value, beside_value}

-- values that don't compare alike are two
value_eq-apart : (x y : Value) → value_cmp y x ≢ Equal → value_eq x y ≡ false
value_eq-apart x y apart = false_from_ne_true (value_eq x y) (λ same. apart (ap (λ z. value_cmp z x) (sym ((value_eq-Decides x y).0 same)) ∙ tied_itself value_cmp_total x))

-- and values that do are one
value_eq-tied : (x y : Value) → value_cmp y x ≡ Equal → value_eq x y ≡ true
value_eq-tied x y tied = (value_eq-Decides x y).1 (sym (exact_values y x tied))

-- behind a higher value a value isn't found
find_behind : (value : Value) (l : PriorityLevel) (ls : List PriorityLevel) → beside_value value l ≡ Greater → AllByRecursion (λ k. by_value l k ≡ Less) ls → find_at (beside_value value) ls ≡ None
find_behind value l [] above all = refl
find_behind value l (k ∷ ks) above all =
    let below : value_cmp value l.value ≡ Less = value_cmp_total.antisymm value l.value ∙ ap ordering_reverse above in
    let further : value_cmp value k.value ≡ Less = value_cmp_total.trans value l.value k.value below all.0 in
    let behind : beside_value value k ≡ Greater = value_cmp_total.antisymm k.value value ∙ ap ordering_reverse further in
    rw behind

-- among rising levels, the level of a value is the one that stands there
pub find_rising : (value : Value) (levels : List PriorityLevel) → IsRising by_value levels → find (λ l. value_eq value l.value) levels ≡ find_at (beside_value value) levels
find_rising value [] rising = refl
find_rising value (l ∷ ls) rising = go (beside_value value l) refl (find_rising value ls rising.1)
  where
    go : (o : Ordering) → beside_value value l ≡ o → find (λ k. value_eq value k.value) ls ≡ find_at (beside_value value) ls
        → cond (value_eq value l.value) (Some l) (find (λ k. value_eq value k.value) ls) ≡ found_here o l (find_at (beside_value value) ls)
    go Less place later = rw (value_eq-apart value l.value (λ tied. cc)) later
    go Equal place later = rw (value_eq-tied value l.value place) refl
    go Greater place later = rw (value_eq-apart value l.value (λ tied. cc)) (later ∙ find_behind value l ls place rising.0)

-- a level that is put is its value's, and every other value has the one that it had
pub find-put_at : (other : Value) (level : PriorityLevel) (levels : List PriorityLevel)
    → find (λ l. value_eq other l.value) (put_at (beside_value level.value) level levels) ≡ cond (value_eq other level.value) (Some level) (find (λ l. value_eq other l.value) levels)
find-put_at other level [] = refl
find-put_at other level (l ∷ ls) = go (beside_value level.value l) refl (find-put_at other level ls)
  where
    found : List PriorityLevel → Option PriorityLevel
    found ks = find (λ k. value_eq other k.value) ks

    -- of two levels of different values at most one is the other value's
    swap : (a b : Bool) → (a ≡ true → b ≡ false) → cond a (Some l) (cond b (Some level) (found ls)) ≡ cond b (Some level) (cond a (Some l) (found ls))
    swap true true apart = let never : true ≡ false = apart refl in cc
    swap true false apart = refl
    swap false b apart = refl

    go : (o : Ordering) → beside_value level.value l ≡ o → found (put_at (beside_value level.value) level ls) ≡ cond (value_eq other level.value) (Some level) (found ls)
        → found (put_here o level l ls (put_at (beside_value level.value) level ls)) ≡ cond (value_eq other level.value) (Some level) (cond (value_eq other l.value) (Some l) (found ls))
    go Less place later =
        ap (cond (value_eq other l.value) (Some l)) later
        ∙ swap (value_eq other l.value) (value_eq other level.value)
        (λ is. let same : other ≡ l.value = (value_eq-Decides other l.value).0 is in false_from_ne_true _ (λ both. let one : other ≡ level.value = (value_eq-Decides other level.value).0 both in
        let tied : value_cmp l.value level.value ≡ Equal = ap (λ v. value_cmp l.value v) (sym one ∙ same) ∙ tied_itself value_cmp_total l.value in cc))
    go Equal place later = tied (value_eq other level.value) (value_eq other l.value) (ap (value_eq other) (exact_values l.value level.value place))
      where
        tied : (b c : Bool) → c ≡ b → cond b (Some level) (found ls) ≡ cond b (Some level) (cond c (Some l) (found ls))
        tied true c same = refl
        tied false true same = cc
        tied false false same = refl
    go Greater place later = refl
