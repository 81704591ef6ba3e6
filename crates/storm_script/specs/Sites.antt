-- The sites of a storm, the six directions between them, and what may become of a packet, by their places.
use Rattle.std.specs.Prelude.{ℕ, List, [], ◌∷◌, codes, slice_index_or}
use Rattle.rep_values.specs.declared.name.SiteName.{SiteName}
use Rattle.net_plan.specs.declared.fate.Fate.{Fate}
use Rattle.net_plan.specs.declared.fate.Fate.TheVariants as fate
use Rattle.script_parse.specs.Parts.{site_of}
use Rattle.storm_script.specs.declared.ways.Way.{Way}

-- the first site
abbrev pub site_a : SiteName
site_a = site_of (codes "A")

-- the second site
abbrev pub site_b : SiteName
site_b = site_of (codes "B")

-- the third site
abbrev pub site_c : SiteName
site_c = site_of (codes "C")

-- the sites in declared order
abbrev pub sites : List SiteName
sites = site_a ∷ site_b ∷ site_c ∷ []

-- the site at a place
abbrev pub site_at : ℕ → SiteName
site_at place = slice_index_or sites place site_a

-- from a site to another one
abbrev pub way : SiteName → SiteName → Way
way from to = record { from = from; to = to }

-- A B, A C, B A, B C, C A, C B
abbrev pub ways : List Way
ways = way site_a site_b ∷ way site_a site_c ∷ way site_b site_a ∷ way site_b site_c ∷ way site_c site_a ∷ way site_c site_b ∷ []

-- the direction at a place
abbrev pub way_at : ℕ → Way
way_at place = slice_index_or ways place (way site_a site_b)

-- pass, lose, twice, late
abbrev pub fates : List Fate
fates = fate.Pass ∷ fate.Lose ∷ fate.Twice ∷ fate.Late ∷ []

-- the fate at a place
abbrev pub fate_at : ℕ → Fate
fate_at place = slice_index_or fates place fate.Pass
