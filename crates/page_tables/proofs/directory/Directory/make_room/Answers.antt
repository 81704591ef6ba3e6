use Rattle.std.proofs.Common.{arith}
use Rattle.page_tables.proofs.InStarts.{length-sums}
use Rattle.page_tables.proofs.directory.Directory.make_room.Goals as goal

pub overflow_sub-number-2 : goal.overflow_sub-number-2
overflow_sub-number-2 c =
    let same = length-sums c.args.self.now.pages.items c.args.self.now.starts.items c.requires.whole.starts.sums in
    omega (arith, same, c.count.ensures, c.len-2.ensures, c.if-number-count.false)
