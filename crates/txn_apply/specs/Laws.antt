-- Laws of works.
use Rattle.rep_values.specs.declared.name.SiteName.{SiteName}
use Rattle.rep_calls.specs.declared.call.Txn.{Txn}
use Rattle.conflict_detect.specs.Fits.{TxnFits}
use Rattle.txn_effects.specs.Contents.{Content, content_after}
use Rattle.dependency_index.specs.Tokens.{AreIndependent}
use Rattle.rep_laws.specs.Commuting.{IsSound}
use Rattle.txn_apply.specs.Works.{WorkState, Supports}

-- what agrees with a work's rows does so after a transaction that is independent of the work's
abbrev pub SupportOutlastsIndependentTransactions : Type 0
SupportOutlastsIndependentTransactions = (work : WorkState) (origin : SiteName) (other : Txn) (content : Content)
    → IsSound work.schema → TxnFits work.schema other → AreIndependent work.schema work.txn other
    → Supports work content → Supports work (content_after work.schema origin other content)
