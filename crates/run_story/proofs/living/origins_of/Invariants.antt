-- Gathering the other masters.
use Rattle.std.proofs.Common.{◌≡◌, ◌++◌, drop, filter}
use Rattle.rep_schema.specs.Sites.{is_master_site}
use Rattle.run_story.proofs.living.origins_of.Given as goal

-- those so far, and those among the senders to come
abbrev pub invariant-loop-sender : goal.invariant-loop-sender
invariant-loop-sender l = filter (is_master_site l.schema) l.sender-items ≡ l.names ++ filter (is_master_site l.schema) (drop l.sender-index l.sender-items)
