-- The sites that are here are those of the world.
use Rattle.std.proofs.Common.{◌≡◌, ℕ, ◌<◌, List, length, Some, None, refl, sym, ap, ◌∙◌, option_copied}
use Rattle.std.specs.Prelude.{slice_get, Option}
use Rattle.std.specs.Borrow.{Bor}
use Rattle.std.specs.Slice.{IsItemAt}
use Rattle.std.proofs.lemmas.Option.{slice_get_read}
use Rattle.site_state.specs.State.{SiteState}
use Rattle.site_events.specs.Cluster.{site_of}
use Rattle.world_run.specs.declared.built_world.World.TheInside.{Inside}
use Rattle.world_run.specs.Lent.{site_here}
use Rattle.world_run.proofs.Lent.{site_of-here}
use Rattle.world_run.proofs.built_world.World.site.Goals as goal

-- what is read is what stands there
read_there : (xs : List SiteState) (i : ℕ) (x : SiteState) (r : Option (Bor SiteState)) → i < length xs → slice_get xs i ≡ Some x → IsItemAt xs i r → option_copied r ≡ Some x
read_there xs i x None within there item = absurd (cc (item.2 within))
read_there xs i x (Some y) within there item = sym (slice_get_read xs (length xs) i y.now refl within item.1) ∙ there

pub returns-in_err-place : goal.returns-in_err-place
returns-in_err-place c =
    let name = c.args.name.now in
    rw c.from_residual.ensures (sym c.in_err-place.ensures ∙ ap (site_of name) c.deref.ensures.value ∙ ap (λ (i : Inside). site_of name i.parts.sites) c.self-inside.view_is
    ∙ site_of-here name c.self.inside.lent c.self.inside.parts c.self.invariant.1 ∙ ap (site_here name) c.self.view_is)

pub returns : goal.returns
returns c =
    let name = c.args.name.now in
    let at = rw c.deref.ensures.value at c.in_ok-place.ensures in
    read_there _ c.in_ok-place.place at.site c.get.result at.within at.there (rw c.deref-2.ensures.value at c.get.ensures.lookup)
    ∙ sym at.found ∙ ap (λ (i : Inside). site_of name i.parts.sites) c.self-inside.view_is
    ∙ site_of-here name c.self.inside.lent c.self.inside.parts c.self.invariant.1 ∙ ap (site_here name) c.self.view_is
