-- A packet that is foreign changes nothing, and one within all limits names others than its sender.
use Rattle.std.proofs.Common.{◌≡◌, List, [], ◌∷◌, Bool, true, false, refl}
use Rattle.std.specs.List.{AllByRecursion}
use Rattle.rep_values.specs.declared.name.SiteName.{SiteName}
use Rattle.rep_calls.specs.declared.past.PastEntry.{PastEntry}
use Rattle.rep_values.specs.SiteNames.{is_same_site}
use Rattle.deferred_queue.proofs.Sites.{is_same_site-true}
use Rattle.packet_code.specs.declared.packet.Packet.{Packet}
use Rattle.packet_code.specs.Limits.{IsPastEntry}
use Rattle.site_state.specs.declared.answers.Accepted.TheVariants as accepted
use Rattle.site_state.specs.State.{SiteState}
use Rattle.site_state.specs.Arrivals.{NamesOthers}
use Rattle.site_state.specs.Packets.{is_foreign, site_accept, accept_answer}

pub foreign_state : (packet : Packet) (x : SiteState) → is_foreign packet x ≡ true → x ≡ site_accept packet x
foreign_state packet x foreign = rw foreign refl

pub foreign_answer : (packet : Packet) (x : SiteState) → is_foreign packet x ≡ true → accepted.Foreign ≡ accept_answer packet x
foreign_answer packet x foreign = rw foreign refl

-- what a packet's sender had seen is of others than itself
pub names_others : (from : SiteName) (past : List PastEntry) → AllByRecursion (IsPastEntry from) past → NamesOthers from past
names_others from [] seen = refl
names_others from (one ∷ past) seen = rw (other (is_same_site one.origin from) refl, names_others from past seen.1) refl
  where
    other : (b : Bool) → is_same_site one.origin from ≡ b → b ≡ false
    other true is = absurd (seen.0.another (is_same_site-true one.origin from is))
    other false is = refl
