-- The key comes among those that are left, behind lower ones.
use Rattle.std.proofs.Common.{◌≡◌, ◌++◌, take, drop}
use Rattle.rep_lists.specs.Rising.{put_at}
use Rattle.rep_values.specs.Order.{key_cmp}
use Rattle.change_logs.proofs.touched.scan.Given as goal

abbrev pub invariant-loop-place : goal.invariant-loop-place
invariant-loop-place l = put_at (λ k. key_cmp k l.key) l.key l.keys.items ≡ take l.place l.keys.items ++ put_at (λ k. key_cmp k l.key) l.key (drop l.place l.keys.items)
