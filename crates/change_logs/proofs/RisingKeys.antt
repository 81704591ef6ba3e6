-- Keys in rising order, and more keys among them.
use Rattle.std.proofs.Common.{List, [], ◌∷◌}
use Rattle.rep_lists.specs.Rising.{IsRising, put_at}
use Rattle.rep_lists.proofs.Rising.{rising_put}
use Rattle.rep_values.specs.Order.{key_cmp}
use Rattle.rep_values.specs.OrderLaws.{key_cmp_total}
use Rattle.rep_schema.specs.Tables.{Cells}
use Rattle.change_logs.specs.Noting.{with_keys}

-- keys that come among rising ones leave them rising
pub rising-with_keys : (more keys : List Cells) → IsRising key_cmp keys → IsRising key_cmp (with_keys more keys)
rising-with_keys [] keys rising = rising
rising-with_keys (k ∷ more) keys rising = rising-with_keys more (put_at (λ j. key_cmp j k) k keys) (rising_put (λ (j : Cells). j) key_cmp key_cmp_total k keys rising)
