-- Rows with the same key, and rows with the same values at some places.
use Rattle.std.proofs.Common.{◌≡◌, ℕ, ◌<◌, List, length, get_or, None, refl, sym, ap, ◌∙◌}
use Rattle.std.specs.Prelude.{◌↔◌, slice_get, IsTrue}
use Rattle.std.specs.declared.cmp.Ordering.{Ordering}
use Rattle.std.specs.declared.cmp.Ordering.TheVariants.{Less, Equal, Greater}
use Rattle.std.specs.Ordering.{is_eq}
use Rattle.std.proofs.lemmas.List.{get_or-map}
use Rattle.std.proofs.lemmas.Cmp.{tied_itself}
use Rattle.rep_values.specs.OrderLaws.{key_cmp_total, exact_keys}
use Rattle.rep_schema.specs.declared.schema.Column.{Column}
use Rattle.rep_schema.specs.Tables.{Cells, key_of, row_beside, picked}

-- a row that stands at a key has that key
pub key_of-at : (columns : List Column) (key row : Cells) → row_beside columns key row ≡ Equal → key_of columns row ≡ key
key_of-at columns key row here = exact_keys (key_of columns row) key here

-- a row stands at its own key
pub row_beside-own : (columns : List Column) (key row : Cells) → key_of columns row ≡ key → row_beside columns key row ≡ Equal
row_beside-own columns key row own = rw (← own) (tied_itself key_cmp_total (key_of columns row))

-- where it stands tells whether the key is its own
pub is_eq-beside : (columns : List Column) (key row : Cells) → IsTrue (is_eq (row_beside columns key row)) ↔ (key_of columns row ≡ key)
is_eq-beside columns key row = go (row_beside columns key row) refl
  where
    go : (o : Ordering) → row_beside columns key row ≡ o → IsTrue (is_eq o) ↔ (key_of columns row ≡ key)
    go Less place = (λ yes. cc, λ own. let here = row_beside-own columns key row own in cc)
    go Equal place = (λ yes. key_of-at columns key row place, λ own. refl)
    go Greater place = (λ yes. cc, λ own. let here = row_beside-own columns key row own in cc)

-- rows with the same values at some places have the same value at each
pub same_at : (places : List ℕ) (a b : Cells) (i d : ℕ) → i < length places → picked places a ≡ picked places b → slice_get a (get_or places i d) ≡ slice_get b (get_or places i d)
same_at places a b i d in_range same =
    sym (get_or-map (slice_get a) places i d None in_range) ∙ ap (λ xs. get_or xs i None) same ∙ get_or-map (slice_get b) places i d None in_range
