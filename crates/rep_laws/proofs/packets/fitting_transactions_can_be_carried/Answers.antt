-- Each call that fits is within the limits.
use Rattle.rep_laws.specs.Packets.{FittingTransactionsArePlain}
use Rattle.rep_laws.proofs.PlainCalls.{plain_calls}
use Rattle.rep_laws.proofs.packets.fitting_transactions_can_be_carried.Goals as goal

plain : FittingTransactionsArePlain
plain = λ schema txn shape keys fits some most form. record { some = some; most = most; calls = plain_calls schema shape keys txn.calls fits.calls form }

pub returns-clause-plain : goal.returns-clause-plain
returns-clause-plain c = plain

pub returns-clause-carried : goal.returns-clause-carried
returns-clause-carried c = λ schema txn shape keys fits some most form route past sender receiver at seen.
    record { sender = sender; receiver = receiver; at = at; seen = seen; sent = plain schema txn shape keys fits some most form }
