use Rattle.std.proofs.Common.{rules, sym, ◌∙◌}
use Rattle.page_tables.proofs.InPages.{found_in_page}
use Rattle.page_tables.proofs.page_search.found_near.Goals as goal

pub returns-in-Equal : goal.returns-in-Equal
returns-in-Equal g c =
    found_in_page (g.S.Sought.at c.args.sought.now) c.args.pages.now c.args.near.page c.args.near.place c.in_ok-slot.slot c.requires (search rules)
    (sym c.slot_of.ensures ∙ c.in_ok-slot.was) (sym c.beside.ensures ∙ c.in-Equal.is)
