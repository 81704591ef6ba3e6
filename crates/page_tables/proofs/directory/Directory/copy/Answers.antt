use Rattle.std.proofs.Common.{arith, ◌∙◌}
use Rattle.page_tables.proofs.InStarts.{length-sums}
use Rattle.page_tables.proofs.directory.Directory.copy.Goals as goal

-- each page has one start
pub copy_starts-requires : goal.copy_starts-requires
copy_starts-requires c =
    let starts = length-sums _ _ (c.deref-2.ensures.value ∙ c.requires.starts.sums) in
    omega (arith, starts)
