-- Moving slots from the end of one page to another, which then has them the other way round.
use Rattle.std.proofs.Common.{◌≡◌, ◌+◌, ◌≤◌, ◌++◌, reverse, vec_len, vec_capacity}
use Rattle.page_tables.proofs.page.move_half.Given as goal

-- the slots here, and those moved so far from the last on
abbrev pub invariant-loop : goal.invariant-loop
invariant-loop l = record {
  kept : l.slots.items ++ reverse l.behind.items ≡ l.fn.slots.items;
  here : vec_len l.slots + l.counter ≡ 64;
  there : vec_len l.behind ≡ l.counter;
  room_here : vec_capacity l.slots ≡ vec_capacity l.fn.slots;
  room_there : 64 ≤ vec_capacity l.behind;
}
