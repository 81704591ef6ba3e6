use Rattle.std.proofs.Common.{sym, ap, ◌∙◌, arith}
use Rattle.page_tables.specs.Pages.{starts_of}
use Rattle.page_tables.proofs.InStarts.{length-sums, dropped}
use Rattle.page_tables.proofs.directory.Directory.drop_page.Goals as goal

pub remove-requires : goal.remove-requires
remove-requires c = let same = length-sums c.args.self.now.pages.items c.args.self.now.starts.items c.requires.starts in omega (arith, same, c.requires.at)

pub returns-clause-starts : goal.returns-clause-starts
returns-clause-starts c =
    c.remove.ensures.items
    ∙ (dropped c.args.self.now.pages.items c.args.self.now.starts.items c.requires.starts c.args.at c.requires.at c.requires.empty ∙ ap starts_of (sym c.remove-page.ensures.items))
