-- The site of a name gets a level.
use Rattle.std.proofs.Common.{ap, ◌∙◌, w64}
use Rattle.std.specs.Prelude.{slice_set}
use Rattle.std.specs.List.{position}
use Rattle.std.proofs.Math.Facts.{to_z-of_z}
use Rattle.rep_schema.specs.Named.{is_site}
use Rattle.rep_declare.specs.Additions.{with_sites, with_site_level}
use Rattle.rep_declare.proofs.Changed.{changed_read, none_read}
use Rattle.rep_declare.proofs.additions.add_site_level.Goals as goal

pub returns-in-Some : goal.returns-in-Some
returns-in-Some c =
    let sites = c.args.schema.now.sites in
    let one = c.at_mut.result.now in
    ap (λ all. with_sites all c.args.schema.now)
    (ap (λ level. slice_set sites c.in-Some.place (with_site_level level one)) (to_z-of_z {w = w64} c.ranges.level)
    ∙ changed_read (is_site c.args.site.now) (with_site_level c.args.level) sites c.site_place.result c.in-Some.place one
    (c.site_place.ensures ∙ ap (position (is_site c.args.site.now)) c.as_slice.ensures) c.in-Some.is c.at_mut.ensures.value)

pub returns-in_default : goal.returns-in_default
returns-in_default c =
    ap (λ all. with_sites all c.args.schema.now)
    (none_read (is_site c.args.site.now) (with_site_level c.args.level) c.args.schema.now.sites c.site_place.result
    (c.site_place.ensures ∙ ap (position (is_site c.args.site.now)) c.as_slice.ensures) c.in_default.is)
