-- Journals of a few entries, sorted and not.
use Rattle.std.specs.Prelude.{◌≡◌, refl, ◌<◌, List, [], ◌∷◌}
use Rattle.std.proofs.Common.{arith}
use Rattle.std.proofs.lemmas.List.Sorted.{IsPermutation-append_comm}
use Rattle.rep_schema.specs.declared.schema.Schema.{Schema}
use Rattle.rep_schema.specs.Tables.{Rows}
use Rattle.rep_schema.specs.Groups.{group_columns_of}
use Rattle.rep_calls.specs.declared.call.Call.TheVariants as call
use Rattle.site_state.specs.declared.entry.Entry.{Entry}
use Rattle.site_state.specs.declared.entry.Entry.TheVariants.{Done}
use Rattle.site_state.specs.Contents.{journal_content}
use Rattle.site_state.proofs.WorkedSites.{a, b, master, plain, row, moved, of_calls}
use Rattle.journal_sort.specs.Sorting.{AreInOrder, CanBeSorted, IsSorted}

abbrev two : Schema
two = plain (master a ∷ master b ∷ [])

abbrev rows : List Rows
rows = (row 1 10 ∷ row 2 20 ∷ []) ∷ []

-- three transactions of a; the third one goes on where the first one ended
abbrev first : Entry
first = Done a 1 0 (of_calls (moved 255 1 10 11 ∷ []))

abbrev second : Entry
second = Done a 2 0 (of_calls (moved 255 2 20 21 ∷ []))

abbrev third : Entry
third = Done a 3 0 (of_calls (moved 255 1 11 12 ∷ []))

-- ---- the second one was applied before the others

second_first_is_sortable : CanBeSorted two a 0 (third ∷ first ∷ second ∷ [])
unfolding group_columns_of
second_first_is_sortable = record {
  within = omega arith;
  master = refl;
  entries = (refl, (refl, (refl, tt)));
  order = (((λ shared. absurd (cc shared)), ((λ shared. absurd (cc shared)), tt)), (((λ shared. omega arith), tt), (tt, tt)));
}

second_first_sorted : IsSorted 0 (first ∷ second ∷ []) (second ∷ first ∷ [])
second_first_sorted = record {
  older = refl;
  entries = IsPermutation-append_comm (first ∷ []) (second ∷ []);
  rising = ((refl, tt), (tt, tt));
}

same_content : journal_content two b rows (third ∷ first ∷ second ∷ []) ≡ journal_content two b rows (third ∷ second ∷ first ∷ [])
unfolding group_columns_of
same_content = refl

-- ---- what isn't in order, and what isn't sorted

higher_first_is_not_in_order : AreInOrder two (third ∷ first ∷ []) → ⊥
unfolding group_columns_of
higher_first_is_not_in_order order = let less : 3 < 1 = order.0.0 refl in omega (arith, less)

falling_is_not_sorted : IsSorted 0 (first ∷ second ∷ []) (first ∷ second ∷ []) → ⊥
falling_is_not_sorted sorted = cc sorted.rising.0.0

across_the_place_is_not_sorted : IsSorted 1 (first ∷ second ∷ []) (second ∷ first ∷ []) → ⊥
across_the_place_is_not_sorted sorted = cc sorted.older

-- ---- base rows that are no table: a row behind a greater key is found only when that one is gone

abbrev out_of_order : List Rows
out_of_order = (row 5 50 ∷ row 3 30 ∷ []) ∷ []

abbrev moves_a_row : Entry
moves_a_row = Done a 1 0 (of_calls (moved 255 3 30 31 ∷ []))

abbrev deletes_a_row : Entry
deletes_a_row = Done a 2 0 (of_calls (call.Delete 0 (row 5 50) ∷ []))

they_are_sortable : CanBeSorted two a 0 (moves_a_row ∷ deletes_a_row ∷ [])
unfolding group_columns_of
they_are_sortable = record {
  within = omega arith;
  master = refl;
  entries = (refl, (refl, tt));
  order = (((λ shared. absurd (cc shared)), tt), (tt, tt));
}

moved_behind_the_delete : (journal_content two b out_of_order (moves_a_row ∷ deletes_a_row ∷ [])).tables ≡ (row 3 31 ∷ []) ∷ []
unfolding group_columns_of
moved_behind_the_delete = refl

not_found_before_the_delete : (journal_content two b out_of_order (deletes_a_row ∷ moves_a_row ∷ [])).tables ≡ (row 3 30 ∷ []) ∷ []
unfolding group_columns_of
not_found_before_the_delete = refl
