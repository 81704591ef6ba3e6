-- What a list ends as, where a `&mut` to one of its values is returned.
use Rattle.std.specs.Prelude.{ℕ, List, slice_set}
use Rattle.std.specs.Borrow.{Lends, Fml, RattleType, MutBor}
use Rattle.rep_lists.specs.contracts.items.Items.{the_row}

-- once the borrow r ends, the place has the last value written through r
abbrev pub lends_place : (T : RattleType) → MutBor (List T.Denot) → ℕ → MutBor T.Denot → Fml
lends_place T items place r = Lends (the_row T) T items r (slice_set items.now place)
