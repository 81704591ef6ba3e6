-- What holds of pages of slots, of where they start, and of the empty pages that wait.
use Rattle.std.specs.Prelude.{ℕ, ◌+◌, List, [], length, slice_index_or, slice_set, vec_capacity}
use Rattle.page_tables.specs.Pages.{page_values, most_in, ArePages, AreStarts}
use Rattle.page_tables.specs.declared.directory.Directory.{Directory}

-- the slots of all pages, in their order
abbrev pub slots_in : Directory → List ℕ
slots_in directory = page_values directory.pages.items

-- the slots of one page
abbrev pub page_at : Directory → ℕ → List ℕ
page_at directory at = slice_index_or directory.pages.items at []

-- the slots of all pages, where one page has these
abbrev pub slots_with : Directory → ℕ → List ℕ → List ℕ
slots_with directory at page = page_values (slice_set directory.pages.items at page)

-- how many pages there are, with those that wait
abbrev pub page_count : Directory → ℕ
page_count directory = length directory.pages.items + length directory.waiting.items

-- for how many slots there is room in all
abbrev pub room_in : Directory → ℕ
room_in directory = most_in (page_count directory)

-- pages that are kept and pages that wait, and where the pages start
pub record IsDirectory (directory : Directory) : Type 0 where
  pub are : ArePages directory.pages.items directory.waiting.items (vec_capacity directory.pages) (vec_capacity directory.waiting)
  pub starts : AreStarts directory.pages.items directory.waiting.items directory.starts.items (vec_capacity directory.starts)
