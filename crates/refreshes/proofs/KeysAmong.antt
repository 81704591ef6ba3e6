-- Whether a key is among others.
use Rattle.std.proofs.Common.{◌≡◌, ◌≢◌, Bool, true, false, List, [], ◌∷◌, ◌++◌, refl, sym, ◌∙◌, subst}
use Rattle.std.specs.Prelude.{◌||◌}
use Rattle.std.specs.List.{AllByRecursion}
use Rattle.std.proofs.lemmas.List.Folds.{list_any-append}
use Rattle.rep_schema.specs.Tables.{Cells}
use Rattle.rep_schema.specs.Groups.{are_same}
use Rattle.rep_schema.proofs.ValuesAt.{are_same-Decides}
use Rattle.refreshes.specs.Showing.{has_key}

-- neither of two tests
pub neither : (a b : Bool) → (a || b) ≡ false → (a ≡ false) × (b ≡ false)
neither true b none = absurd (cc none)
neither false b none = (refl, none)

pub or_neither : (a b : Bool) → a ≡ false → b ≡ false → (a || b) ≡ false
or_neither a b first second = rw (first, second) refl

-- another key is told apart
pub are_same-other : (a b : Cells) → a ≢ b → are_same a b ≡ false
are_same-other a b other = go (are_same a b) refl
  where
    go : (o : Bool) → are_same a b ≡ o → o ≡ false
    go true is = absurd (other ((are_same-Decides a b).0 is))
    go false is = refl

pub are_same-own : (a : Cells) → are_same a a ≡ true
are_same-own a = (are_same-Decides a a).1 refl

-- a key that isn't told apart is the same
pub other_key : (key k : Cells) → are_same key k ≡ false → k ≢ key
other_key key k is same = absurd (cc (is, (are_same-Decides key k).1 (sym same)))

-- neither among some nor among others
pub has_key-neither : (key : Cells) (xs ys : List Cells) → has_key key (xs ++ ys) ≡ false → (has_key key xs ≡ false) × (has_key key ys ≡ false)
has_key-neither key xs ys none = neither (has_key key xs) (has_key key ys) (sym (list_any-append (are_same key) xs ys) ∙ none)

-- what holds of each of the keys holds of one that is among them
pub all_has : (Q : Cells → Type 0) (key : Cells) (keys : List Cells) → AllByRecursion Q keys → has_key key keys ≡ true → Q key
all_has Q key [] all has = absurd (cc has)
all_has Q key (k ∷ ks) all has = go (are_same key k) refl has (all_has Q key ks all.1)
  where
    go : (o : Bool) → are_same key k ≡ o → (o || has_key key ks) ≡ true → (has_key key ks ≡ true → Q key) → Q key
    go true is has later = subst Q (sym ((are_same-Decides key k).0 is)) all.0
    go false is has later = later has
