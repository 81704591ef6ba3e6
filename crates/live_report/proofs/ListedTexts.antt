-- A list of texts in JSON tells these texts, whatever follows it.
use Rattle.std.proofs.Common.{◌≡◌, ℕ, List, [], ◌∷◌, ◌++◌, map, Bool, true, false, ◌==◌, Some, refl, sym, ap, ◌∙◌, append_assoc}
use Rattle.std.proofs.lemmas.Bool.{eqb-false}
use Rattle.std.proofs.lemmas.List.{append_cancel_left}
use Rattle.json.specs.Text.{content, plain}
use Rattle.json.specs.Print.{escape}
use Rattle.json.proofs.Printed.Strings.{content-escape}
use Rattle.serde_json.specs.Data.{Items, string}
use Rattle.serde_json.specs.View.{items_of}
use Rattle.serde_json.specs.Written.{items_text}

-- texts with other first bytes aren't the same
differ : (a b : ℕ) (xs ys : List ℕ) → (a == b) ≡ false → a ∷ xs ≡ b ∷ ys → ⊥
differ a b xs ys off same = eqb-false a b off (cc same)

-- two quoted texts are the same, and so is what follows them
record SameTexts (s t rest more : List ℕ) : Type 0 where
  text : s ≡ t
  tail : rest ≡ more

first_text : (s t rest more : List ℕ) → escape s ++ 34 ∷ rest ≡ escape t ++ 34 ∷ more → SameTexts s t rest more
first_text s t rest more same =
    let found : Some s ≡ Some t = sym (content-escape s rest) ∙ ap (content plain) same ∙ content-escape t more in
    let text : s ≡ t = cc found in
    let behind : 34 ∷ rest ≡ 34 ∷ more = append_cancel_left (escape s) (34 ∷ rest) (34 ∷ more) (same ∙ ap (λ u. escape u ++ 34 ∷ more) (sym text)) in
    record { text = text; tail = cc behind }

module _ {X : Type 0} (text : X → List ℕ) where
  abbrev texts : List X → Items
  texts xs = items_of (map (λ x. string (text x)) xs)

  -- a text between quotes, the items behind it, and what follows them
  apart : (s items rest : List ℕ) → ((escape s ++ 34 ∷ []) ++ items) ++ rest ≡ escape s ++ 34 ∷ (items ++ rest)
  apart s items rest = append_assoc (escape s ++ 34 ∷ []) items rest ∙ append_assoc (escape s) (34 ∷ []) (items ++ rest)

  -- the first text of each, and the others where they are known to be the same
  next_texts : (x y : X) (xs ys : List X) (rest more : List ℕ)
      → ((rest more : List ℕ) → items_text true (texts xs) ++ rest ≡ items_text true (texts ys) ++ more → map text xs ≡ map text ys)
      → ((escape (text x) ++ 34 ∷ []) ++ items_text true (texts xs)) ++ rest ≡ ((escape (text y) ++ 34 ∷ []) ++ items_text true (texts ys)) ++ more → map text (x ∷ xs) ≡ map text (y ∷ ys)
  next_texts x y xs ys rest more known same =
      let one = first_text (text x) (text y) (items_text true (texts xs) ++ rest) (items_text true (texts ys) ++ more)
      (sym (apart (text x) (items_text true (texts xs)) rest) ∙ same ∙ apart (text y) (items_text true (texts ys)) more) in
      let later = known rest more one.tail in
      λ i. one.text i ∷ later i

  pub listed_texts : (later : Bool) (xs ys : List X) (rest more : List ℕ) → items_text later (texts xs) ++ rest ≡ items_text later (texts ys) ++ more → map text xs ≡ map text ys
  listed_texts later [] [] rest more same = refl
  listed_texts true [] (y ∷ ys) rest more same = absurd (differ 93 44 _ _ refl same)
  listed_texts false [] (y ∷ ys) rest more same = absurd (differ 93 34 _ _ refl same)
  listed_texts true (x ∷ xs) [] rest more same = absurd (differ 44 93 _ _ refl same)
  listed_texts false (x ∷ xs) [] rest more same = absurd (differ 34 93 _ _ refl same)
  listed_texts true (x ∷ xs) (y ∷ ys) rest more same = next_texts x y xs ys rest more (listed_texts true xs ys) (cc same)
  listed_texts false (x ∷ xs) (y ∷ ys) rest more same = next_texts x y xs ys rest more (listed_texts true xs ys) (cc same)
