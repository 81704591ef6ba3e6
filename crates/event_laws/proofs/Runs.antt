-- Events, and others behind them.
use Rattle.std.proofs.Common.{◌≡◌, List, [], ◌∷◌, ◌++◌, refl, ap}
use Rattle.site_events.specs.Cluster.{Cluster}
use Rattle.site_events.specs.Events.{Event, happens, run}

-- events behind others are events behind what those lead to
pub run-append : (es fs : List Event) (v : Cluster) → run (es ++ fs) v ≡ run es (run fs v)
run-append [] fs v = refl
run-append (e ∷ es) fs v = ap (happens e) (run-append es fs v)
