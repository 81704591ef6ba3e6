use Rattle.std.proofs.Common.{◌≡◌, ℕ, ◌<◌, ◌++◌, length, map, take, drop, refl, ap, ◌∙◌, subst, arith}
use Rattle.rep_lists.proofs.InPlace.{changed_more}
use Rattle.site_state.specs.State.{SiteState}
use Rattle.site_state.specs.Joining.{site_open}
use Rattle.world_commands.proofs.joins.open_first.Goals as goal

pub loop-place-init : goal.loop-place-init
loop-place-init c = record { opened = refl; number = refl; few = omega arith }

pub loop-place-preserved : goal.loop-place-preserved
loop-place-preserved c =
    let first = c.args.sites.now.items in
    let within : c.loop-place.place < length first = omega (arith, c.loop-place-test.true, c.requires, c.args.sites.now.ok.0) in
    let opens : SiteState → SiteState = site_open c.args.site.now in
    record {
      opened = changed_more opens first c.loop-place.sites.items c.loop-place.place c.index_mut.result.now c.open_to.new.self within c.loop-place.invariant.opened (c.open_to.ensures ∙ ap opens c.index_mut.ensures.value);
      number = c.loop-place.invariant.number;
      few = omega (arith, c.loop-place-test.true);
    }

pub returns : goal.returns
returns c =
    let first = c.args.sites.now.items in
    let all : c.loop-place.place ≡ c.args.count = omega (arith, c.loop-place-test.false, c.loop-place.invariant.few) in
    subst (λ (n : ℕ). c.loop-place.sites.items ≡ map (site_open c.args.site.now) (take n first) ++ drop n first) all c.loop-place.invariant.opened
