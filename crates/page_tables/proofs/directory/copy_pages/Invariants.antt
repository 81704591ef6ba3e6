-- Copying pages one by one.
use Rattle.std.proofs.Common.{◌≡◌, ◌≤◌, take, vec_capacity}
use Rattle.page_tables.proofs.directory.copy_pages.Given as goal

-- the pages so far are copied, and there are places for the others
abbrev pub invariant-loop-page : goal.invariant-loop-page
invariant-loop-page l = (l.copied.items ≡ take l.page-index l.pages) × (l.places ≤ vec_capacity l.copied)
