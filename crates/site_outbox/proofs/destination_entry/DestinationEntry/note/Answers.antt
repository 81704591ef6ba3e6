use Rattle.site_outbox.proofs.Noting.{noted_one}
use Rattle.site_outbox.proofs.destination_entry.DestinationEntry.note.Goals as goal

pub returns-in-Some-clause-noted : goal.returns-in-Some-clause-noted
returns-in-Some-clause-noted c = λ streams are.
    noted_one c.args.index.now.streams c.note-dep.new.self.streams c.args.tokens.now.list streams c.args.self.now c.in-Some.field-0 c.in-Some.is (c.note-dep.ensures.noted (streams c.args.self.now.site) (are c.args.self.now.site))
    c.note-dep.ensures.others are
