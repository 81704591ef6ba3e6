-- Making empty pages.
use Rattle.std.proofs.Common.{◌≡◌, ◌≤◌, ◌⊎◌, [], vec_len, vec_capacity}
use Rattle.std.specs.List.{AllByRecursion}
use Rattle.page_tables.proofs.directory.fill_up.Given as goal

abbrev pub invariant-loop : goal.invariant-loop
invariant-loop l = record {
  counted : vec_len l.waiting ≡ l.counter;
  kept : vec_len l.fn.waiting ≤ l.counter;
  most : (l.counter ≤ l.number) ⊎ (l.counter ≡ vec_len l.fn.waiting);
  blank : AllByRecursion (λ page. page ≡ []) l.waiting.items;
  room : vec_capacity l.waiting ≡ vec_capacity l.fn.waiting;
}
