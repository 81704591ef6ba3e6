-- What markup is, and that pages are markup.
use Rattle.std.specs.Prelude.{◌≡◌, ℕ, ◌==◌, ◌&&◌, ◌||◌, not, Bool, true, false, List, [], ◌∷◌, ◌++◌}
use Rattle.std.specs.List.{list_any, list_all}
use Rattle.page_text.specs.declared.tag.Tag.{Tag}
use Rattle.page_text.specs.declared.attribute.Attribute.{Attribute}
use Rattle.page_text.specs.declared.page.Page.{Page}
use Rattle.page_text.specs.Markup.{attribute_name, escaped, element}
use Rattle.page_text.specs.Pages.{root_bytes}

-- the same bytes
abbrev pub are_same : List ℕ → List ℕ → Bool
are_same [] [] = true
are_same [] (y ∷ ys) = false
are_same (x ∷ xs) [] = false
are_same (x ∷ xs) (y ∷ ys) = x == y && are_same xs ys

-- no two attributes have the same name
abbrev pub differ : List Attribute → Bool
differ [] = true
differ (a ∷ more) = not (list_any (λ b. are_same (attribute_name a) (attribute_name b)) more) && differ more

-- bytes are markup: nothing, a text, markup and markup behind it, or an element with markup inside, whose attributes have
-- different names
pub data IsMarkup : List ℕ → Type 0 where
  nothing : IsMarkup []
  text : (words : List ℕ) → IsMarkup (escaped words)
  beside : (front more : List ℕ) → IsMarkup front → IsMarkup more → IsMarkup (front ++ more)
  around : (tag : Tag) (attributes : List Attribute) (inside : List ℕ) → differ attributes ≡ true → IsMarkup inside
      → IsMarkup (element tag attributes inside)

-- a byte that neither begins nor ends markup or a value: none of <, > and "
abbrev pub is_harmless : ℕ → Bool
is_harmless b = not (b == 60 || b == 62 || b == 34)

-- as it stands in a page, a text has such bytes alone
abbrev pub TextsHoldNoMarkup : Type 0
TextsHoldNoMarkup = (text : List ℕ) → list_all is_harmless (escaped text) ≡ true

-- the element of a page is markup, whatever its style sheet
abbrev pub PagesAreMarkup : Type 0
PagesAreMarkup = (style : List ℕ) (page : Page) → IsMarkup (root_bytes style page)
