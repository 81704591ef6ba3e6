use Rattle.net_plan.specs.Directions.{with_sent}
use Rattle.packet_cases.proofs.StillThere.{HasDirection-tried, KeepsSites-sent}
use Rattle.packet_cases.proofs.plan.send.Goals as goal

pub returns : goal.returns
returns c = HasDirection-tried c.send.result c.args.way.now.from c.args.way.now.to (with_sent c.in_ok-packet.packet) (KeepsSites-sent c.args.way.now.from c.args.way.now.to c.in_ok-packet.packet) c.args.net.now c.send.new.self c.send.ensures.ok c.send.ensures.err c.requires
