use Rattle.std.proofs.Common.{◌≡◌, ◌+◌, ◌++◌, [], get_or, set, remove, sym, ap, ◌∙◌, arith}
use Rattle.std.proofs.lemmas.Grind.{common_steps}
use Rattle.page_tables.specs.Pages.{starts_of}
use Rattle.page_tables.proofs.InStarts.{length-sums, merged}
use Rattle.page_tables.proofs.directory.Directory.join_pages.Goals as goal

pub remove-requires : goal.remove-requires
remove-requires c = let same = length-sums c.args.self.now.pages.items c.args.self.now.starts.items c.requires.starts in omega (arith, same, c.requires.at)

pub returns-clause-starts : goal.returns-clause-starts
returns-clause-starts c =
    let pages = c.args.self.now.pages.items in
    let now : set c.remove-next.new.self.items c.args.at c.join.new.self ≡ set (remove pages (c.args.at + 1)) c.args.at (get_or pages c.args.at [] ++ get_or pages (c.args.at + 1) []) = grind (arith, common_steps) in
    c.remove.ensures.items ∙ (merged pages c.args.self.now.starts.items c.requires.starts c.args.at (omega (arith, c.requires.at)) c.requires.at ∙ ap starts_of (sym now))
