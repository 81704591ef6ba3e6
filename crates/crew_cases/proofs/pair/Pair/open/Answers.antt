-- Two new sites begin a run.
use Rattle.std.proofs.Common.{◌≡◌, false, None, sym, subst}
use Rattle.rep_schema.specs.declared.schema.Schema.{Schema}
use Rattle.schema_rules.specs.Rules.{broken_rule}
use Rattle.rep_values.specs.SiteNames.{is_same_site}
use Rattle.site_state.specs.State.{SiteState}
use Rattle.crew_cases.specs.Runs.{AreInARun, opened}
use Rattle.crew_cases.proofs.pair.Pair.open.Goals as goal

as_opened : (schema : Schema) (from to : SiteState) → from ≡ opened schema from.here → to ≡ opened schema to.here → AreInARun (opened schema from.here) (opened schema to.here) → AreInARun from to
as_opened schema from to is also a = subst (λ (x : SiteState). AreInARun x to) (sym is) (subst (λ (y : SiteState). AreInARun (opened schema from.here) y) (sym also) a)

pub invariant_of-result : goal.invariant_of-result
invariant_of-result c =
    let unbroken : broken_rule c.args.schema.now ≡ None = c.in-Ok.ensures.sound in
    let apart : is_same_site c.in_ok-from.from.here.site c.in_ok-to.to.here.site ≡ false = rw (c.in_ok-from.ensures.name, c.in_ok-to.ensures.name) (sym c.if-is_same.ensures.value) in
    as_opened c.args.schema.now c.in_ok-from.from c.in_ok-to.to c.in_ok-from.ensures.opened c.in_ok-to.ensures.opened
    (c.two_sites_run.ensures.begin c.args.schema.now c.in_ok-from.from.here c.in_ok-to.to.here (record { shape = c.requires; unbroken = unbroken }) c.in_ok-from.ensures.master c.in_ok-to.ensures.master apart)
