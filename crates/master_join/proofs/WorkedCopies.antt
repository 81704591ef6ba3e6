-- A copy of a site, and what hinders a join.
use Rattle.std.specs.Prelude.{◌≡◌, refl, ℕ, List, [], ◌∷◌, Some}
use Rattle.rep_values.specs.declared.name.SiteName.{SiteName}
use Rattle.rep_schema.specs.declared.schema.Schema.{Schema}
use Rattle.rep_schema.specs.Groups.{group_columns_of}
use Rattle.rep_calls.specs.declared.past.PastEntry.{PastEntry}
use Rattle.packet_code.specs.declared.packet.Packet.TheVariants.{Carry}
use Rattle.site_state.specs.State.{SiteState, opened_of, first_number}
use Rattle.site_state.specs.Contents.{tables_of}
use Rattle.site_state.specs.Streams.{count_of}
use Rattle.site_state.specs.Commits.{site_commit}
use Rattle.site_state.specs.Packets.{site_accept}
use Rattle.site_state.specs.Passes.{site_pass}
use Rattle.site_state.specs.Making.{master_here, new_site}
use Rattle.site_state.specs.Joining.{site_copy, unfinished}
use Rattle.site_state.proofs.WorkedSites.{a, b, c, d, s, master, late_master, snapshot_of, additive, row, at_first, add, moved, of_calls}
use Rattle.master_join.specs.Firsts.{with_firsts}

abbrev schema : Schema
schema = additive (master a ∷ master b ∷ master c ∷ late_master d ∷ snapshot_of s a ∷ [])

abbrev told : SiteName → ℕ → PastEntry
told site number = record { origin = site; number = number }

-- ---- the copy of a site that has changed its one row

abbrev source : SiteState
source = site_commit (add 1 5 ∷ []) (at_first schema (row 1 10 ∷ []) a)

-- b is told twice, and the first one counts; c isn't told; s is no sender of d
abbrev firsts : List PastEntry
firsts = told a 1 ∷ told b 7 ∷ told s 4 ∷ told b 9 ∷ []

abbrev copied : SiteState
copied = site_copy source (master_here schema d) firsts

rows_of_now : tables_of copied ≡ (row 1 15 ∷ []) ∷ []
unfolding group_columns_of
rows_of_now = refl

nothing_is_queued : count_of copied ≡ 0
unfolding group_columns_of
nothing_is_queued = refl

open_to_early_masters : opened_of a copied ≡ Some 0
unfolding group_columns_of
open_to_early_masters = refl

first_of_the_source : first_number a copied ≡ 1
unfolding group_columns_of
first_of_the_source = refl

first_that_is_given : first_number b copied ≡ 7
unfolding group_columns_of
first_that_is_given = refl

none_given : first_number c copied ≡ 0
unfolding group_columns_of
none_given = refl

-- numbers that are set one after another make the same
set_one_after_another : with_firsts firsts (new_site schema (master_here schema d) [] [] (tables_of source)) ≡ copied
unfolding group_columns_of
set_one_after_another = refl

-- ---- what hinders a join at a

abbrev failing : SiteName → SiteState → SiteState
failing from x = site_pass from (site_accept (Carry from a 1 1 0 [] (of_calls (moved 0 2 10 15 ∷ []))) x)

position_that_never_came : unfinished (told b 2 ∷ told c 0 ∷ []) source ≡ 2
unfolding group_columns_of
position_that_never_came = refl

-- the position is finished, and its error stands
error_of_a_master : unfinished (told b 1 ∷ []) (failing b source) ≡ 1
unfolding group_columns_of
error_of_a_master = refl

error_of_a_snapshot_site : unfinished (told b 0 ∷ []) (failing s source) ≡ 0
unfolding group_columns_of
error_of_a_snapshot_site = refl
