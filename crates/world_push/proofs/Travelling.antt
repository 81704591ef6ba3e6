-- Packets that travel from one site to another, as steps of a push there, and of one back.
use Rattle.std.proofs.Common.{◌≡◌, List, [], ◌∷◌, ◌++◌, map, refl, sym, ap, ◌∙◌}
use Rattle.rep_values.specs.declared.name.SiteName.{SiteName}
use Rattle.net_plan.specs.Directions.{HasDirection}
use Rattle.world_state.specs.World.{WorldState}
use Rattle.world.specs.Following.{Travel, travel_done, There, Back, steps_done, PushesInPart}
use Rattle.world.proofs.Following.{in_part, in_part_linked}
use Rattle.world_push.specs.Travelling.{travels_done, Travels}

-- none did
pub travels_none : (from to : SiteName) (w y : WorldState) → y ≡ w → Travels from to w y
travels_none from to w y is = record { list = []; made = is }

-- one did
pub travels_one : (from to : SiteName) (travel : Travel) (w y : WorldState) → y ≡ travel_done from to travel w → Travels from to w y
travels_one from to travel w y is = record { list = travel ∷ []; made = is }

travels_done-append : (from to : SiteName) (first next : List Travel) (w : WorldState) → travels_done from to (first ++ next) w ≡ travels_done from to next (travels_done from to first w)
travels_done-append from to [] next w = refl
travels_done-append from to (travel ∷ travels) next w = travels_done-append from to travels next (travel_done from to travel w)

-- some did and then more
pub travels_then : (from to : SiteName) (w y z : WorldState) → Travels from to w y → Travels from to y z → Travels from to w z
travels_then from to w y z first second = record {
  list = first.list ++ second.list;
  made = second.made ∙ ap (λ (v : WorldState). travels_done from to second.list v) first.made ∙ sym (travels_done-append from to first.list second.list w);
}

there_done : (from to : SiteName) (travels : List Travel) (w : WorldState) → travels_done from to travels w ≡ steps_done from to (map (λ (travel : Travel). There travel) travels) w
there_done from to [] w = refl
there_done from to (travel ∷ travels) w = there_done from to travels (travel_done from to travel w)

back_done : (from to : SiteName) (travels : List Travel) (w : WorldState) → travels_done to from travels w ≡ steps_done from to (map (λ (travel : Travel). Back travel) travels) w
back_done from to [] w = refl
back_done from to (travel ∷ travels) w = back_done from to travels (travel_done to from travel w)

-- a push there does it
pub travels_there : (from to : SiteName) (w y : WorldState) → Travels from to w y → PushesInPart from to w y
travels_there from to w y travels = in_part from to (map (λ (travel : Travel). There travel) travels.list) w y (travels.made ∙ there_done from to travels.list w)

-- and a push back does
pub travels_back : (from to : SiteName) (w y : WorldState) → Travels to from w y → PushesInPart from to w y
travels_back from to w y travels = in_part from to (map (λ (travel : Travel). Back travel) travels.list) w y (travels.made ∙ back_done from to travels.list w)

-- a direction that was there is there
pub travels_linked : (from to a b : SiteName) (w y : WorldState) → Travels from to w y → HasDirection w.net a b → HasDirection y.net a b
travels_linked from to a b w y travels = in_part_linked from to a b w y (travels_there from to w y travels)
