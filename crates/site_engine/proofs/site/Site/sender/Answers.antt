use Rattle.std.proofs.Common.{List, sym, ap, ◌∙◌}
use Rattle.std.proofs.lemmas.Simd.{map-map}
use Rattle.std.specs.Prelude.{slice_get}
use Rattle.rep_values.specs.declared.name.SiteName.{SiteName}
use Rattle.site_state.specs.State.{SenderState}
use Rattle.sender_inbox.specs.Inboxes.{sender_in}
use Rattle.site_engine.proofs.site.Site.sender.Goals as goal

pub returns : goal.returns
returns g c =
    let found = rw c.deref.ensures.value at c.origin_at.ensures in
    rw (← c.self.view_is) (found ∙ ap (λ (names : List SiteName). slice_get names c.args.place) (sym (map-map (λ (s : SenderState). s.origin) sender_in _)))
