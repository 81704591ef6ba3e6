-- The newest entry of a journal alone can be sorted.
use Rattle.std.proofs.Common.{◌≡◌, ℕ, ◌+◌, true, List, [], ◌∷◌, length, reverse, drop, Some, sym, subst, ◌∙◌, ap, arith, drop_of_length-le}
use Rattle.std.specs.Prelude.{slice_get}
use Rattle.std.specs.List.{AllByRecursion}
use Rattle.std.proofs.lemmas.List.{length-reverse}
use Rattle.rep_lists.proofs.Places.{drop_from_found}
use Rattle.rep_values.specs.declared.name.SiteName.{SiteName}
use Rattle.rep_schema.specs.declared.schema.Schema.{Schema}
use Rattle.site_state.specs.declared.entry.Entry.{Entry}
use Rattle.rep_schema.specs.Sites.{is_master_site}
use Rattle.journal_sort.specs.Sorting.{IsFinishOf, CanBeSorted, AreInOrder, entries_from}

pub newest_can_be_sorted : (schema : Schema) (origin : SiteName) (newest : ℕ) (journal : List Entry) (e : Entry) → newest + 1 ≡ length journal
    → slice_get (reverse journal) newest ≡ Some e → IsFinishOf origin e → is_master_site schema origin ≡ true → CanBeSorted schema origin newest journal
newest_can_be_sorted schema origin newest journal e last found finishes is_master = record {
  within = omega (arith, last);
  master = is_master;
  entries = subst (AllByRecursion (IsFinishOf origin)) (sym alone) (finishes, tt);
  order = subst (AreInOrder schema) (sym alone) (tt, tt);
}
  where
    none_behind : drop (newest + 1) (reverse journal) ≡ []
    none_behind = drop_of_length-le (reverse journal) (omega (arith, last, length-reverse journal))

    alone : entries_from newest journal ≡ e ∷ []
    alone = drop_from_found (reverse journal) newest e found ∙ ap (λ es. e ∷ es) none_behind
