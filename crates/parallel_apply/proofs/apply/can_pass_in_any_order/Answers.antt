use Rattle.event_laws.proofs.Confluence.{arrivals_fit}
use Rattle.parallel_apply.proofs.apply.can_pass_in_any_order.Goals as goal

pub returns : goal.returns
returns g c =
    let x = c.args.site.now in
    record {
      sound = c.requires.sound;
      master = c.requires.master;
      content = c.laws.ensures.fits.content;
      fits = arrivals_fit x.schema c.args.origin.now x.senders c.laws.ensures.fits.senders;
      passes = c.arrivals_can_pass.ensures;
      numbered = c.requires.numbered;
    }
