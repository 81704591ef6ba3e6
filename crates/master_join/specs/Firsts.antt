-- First numbers set one after another.
use Rattle.std.specs.Prelude.{List, [], ◌∷◌}
use Rattle.rep_calls.specs.declared.past.PastEntry.{PastEntry}
use Rattle.site_state.specs.State.{SiteState}
use Rattle.site_state.specs.Joining.{site_first}

-- the first numbers of senders are set, the last one given first
abbrev pub with_firsts : List PastEntry → SiteState → SiteState
with_firsts [] x = x
with_firsts (given ∷ more) x = site_first given.origin given.number (with_firsts more x)
