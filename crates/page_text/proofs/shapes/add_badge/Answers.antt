use Rattle.std.specs.Prelude.{[], ◌∷◌}
use Rattle.std.proofs.lemmas.Result.{on_ok_weaker}
use Rattle.page_text.specs.declared.tag.Tag.TheVariants.{Group}
use Rattle.page_text.specs.declared.attribute.Attribute.TheVariants.{Class, Lane}
use Rattle.page_text.specs.Markup.{opened, closed}
use Rattle.page_text.specs.Shapes.{badge_inside}
use Rattle.page_text.proofs.Putting.{put_around}
use Rattle.page_text.proofs.shapes.add_badge.Goals as goal

pub returns : goal.returns
returns c =
    let badge = c.args.badge.now in
    on_ok_weaker c.close.result
    (λ d. put_around c.args.out.now.items (opened Group (Class badge.look ∷ Lane badge.lane ∷ [])) (badge_inside badge) (closed Group) _ _ _ c.in_ok-open.ensures c.in_ok-add_badge_inside.ensures d)
    c.close.ensures
