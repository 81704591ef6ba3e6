-- Rows show what a test shows of others where they do under the keys of both.
use Rattle.std.proofs.Common.{◌≡◌, ℕ, suc, Bool, List, [], ◌∷◌, Some, None, refl, subst}
use Rattle.std.specs.Prelude.{Option, slice_get}
use Rattle.std.specs.List.{AllByRecursion}
use Rattle.rep_schema.specs.declared.schema.Column.{Column}
use Rattle.rep_schema.specs.Tables.{Cells, Rows, key_of, find_row}
use Rattle.rep_schema.proofs.FoundRows.{found_row, key_of-found}
use Rattle.refreshes.specs.Showing.{ShowsKey, ShowsOthers}

-- what holds at each place holds of all
pub all_from_places : {X : Type 0} (P : X → Type 0) (xs : List X) → ((i : ℕ) (x : X) → slice_get xs i ≡ Some x → P x) → AllByRecursion P xs
all_from_places P [] holds = tt
all_from_places P (x ∷ xs) holds = (holds 0 x refl, all_from_places P xs (λ i y there. holds (suc i) y there))

module _ (columns : List Column) (test : Cells → Bool) (keys : List Cells) (master rows : Rows) where
  abbrev ShowsRows : Rows → Type 0
  ShowsRows some = AllByRecursion (λ row. ShowsKey columns test keys master rows (key_of columns row)) some

  pub shows_all : (some : Rows) → ShowsOthers columns test keys master rows → ShowsRows some
  shows_all [] others = tt
  shows_all (row ∷ some) others = (others.shows (key_of columns row), shows_all some others)

  by_row : (key row : Cells) (some : Rows) → ShowsRows some → find_row columns key some ≡ Some row → ShowsKey columns test keys master rows key
  by_row key row some all found =
      subst (ShowsKey columns test keys master rows) (key_of-found columns key row some found)
      (found_row columns key row some found (λ x. ShowsKey columns test keys master rows (key_of columns x)) all)

  pub shows_from_rows : ShowsRows rows → ShowsRows master → ShowsOthers columns test keys master rows
  shows_from_rows own others = record { shows = λ key. go key (find_row columns key rows) refl (find_row columns key master) refl }
    where
      go : (key : Cells) (here : Option Cells) → find_row columns key rows ≡ here → (there : Option Cells) → find_row columns key master ≡ there → ShowsKey columns test keys master rows key
      go key (Some row) is there was = by_row key row rows own is
      go key None is (Some row) was = by_row key row master others was
      go key None is None was = λ none. rw (is, was) refl
