use Rattle.page_text.proofs.Texts.{texts_hold_no_markup}
use Rattle.page_text.proofs.Pages.{pages_are_markup_lem}
use Rattle.page_text.proofs.laws.pages_are_markup.Goals as goal

pub returns-clause-pages : goal.returns-clause-pages
returns-clause-pages c = pages_are_markup_lem

pub returns-clause-texts : goal.returns-clause-texts
returns-clause-texts c = texts_hold_no_markup
