-- Calls that travel from one site to another, as steps of a push there, and of one back.
use Rattle.std.proofs.Common.{◌≡◌, List, [], ◌∷◌, ◌++◌, map, refl, sym, ap, ◌∙◌}
use Rattle.rep_values.specs.declared.name.SiteName.{SiteName}
use Rattle.net_plan.specs.Directions.{HasDirection}
use Rattle.world_state.specs.Procs.{Procs}
use Rattle.world.specs.Following.{Travel, There, Back}
use Rattle.world.specs.Calling.{calls_travel, calls_steps, CallsPushInPart}
use Rattle.world.proofs.CallsFollowing.{calls_in_part, calls_part_linked}
use Rattle.world_calls.specs.Travelling.{calls_travels, CallsTravel}

-- none did
pub travel_none : (from to : SiteName) (p q : Procs) → q ≡ p → CallsTravel from to p q
travel_none from to p q is = record { list = []; made = is }

-- one did
pub travel_one : (from to : SiteName) (travel : Travel) (p q : Procs) → q ≡ calls_travel from to travel p → CallsTravel from to p q
travel_one from to travel p q is = record { list = travel ∷ []; made = is }

calls_travels-append : (from to : SiteName) (first next : List Travel) (p : Procs) → calls_travels from to (first ++ next) p ≡ calls_travels from to next (calls_travels from to first p)
calls_travels-append from to [] next p = refl
calls_travels-append from to (travel ∷ travels) next p = calls_travels-append from to travels next (calls_travel from to travel p)

-- some did and then more
pub travel_then : (from to : SiteName) (p q r : Procs) → CallsTravel from to p q → CallsTravel from to q r → CallsTravel from to p r
travel_then from to p q r first second = record {
  list = first.list ++ second.list;
  made = second.made ∙ ap (λ (s : Procs). calls_travels from to second.list s) first.made ∙ sym (calls_travels-append from to first.list second.list p);
}

there_done : (from to : SiteName) (travels : List Travel) (p : Procs) → calls_travels from to travels p ≡ calls_steps from to (map (λ (travel : Travel). There travel) travels) p
there_done from to [] p = refl
there_done from to (travel ∷ travels) p = there_done from to travels (calls_travel from to travel p)

back_done : (from to : SiteName) (travels : List Travel) (p : Procs) → calls_travels to from travels p ≡ calls_steps from to (map (λ (travel : Travel). Back travel) travels) p
back_done from to [] p = refl
back_done from to (travel ∷ travels) p = back_done from to travels (calls_travel to from travel p)

-- a push there does it
pub travel_there : (from to : SiteName) (p q : Procs) → CallsTravel from to p q → CallsPushInPart from to p q
travel_there from to p q travels = calls_in_part from to (map (λ (travel : Travel). There travel) travels.list) p q (travels.made ∙ there_done from to travels.list p)

-- and a push back does
pub travel_back : (from to : SiteName) (p q : Procs) → CallsTravel to from p q → CallsPushInPart from to p q
travel_back from to p q travels = calls_in_part from to (map (λ (travel : Travel). Back travel) travels.list) p q (travels.made ∙ back_done from to travels.list p)

-- a direction that was there is there
pub travel_linked : (from to a b : SiteName) (p q : Procs) → CallsTravel from to p q → HasDirection p.net a b → HasDirection q.net a b
travel_linked from to a b p q travels = calls_part_linked from to a b p q (travel_there from to p q travels)
