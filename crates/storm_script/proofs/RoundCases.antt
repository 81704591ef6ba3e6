-- A round whose number 10 divides, and any other.
use Rattle.std.proofs.Common.{◌≡◌, ◌≢◌, ℕ, ◌%◌, ◌==◌, false, List, ◌++◌, refl, sym, arith}
use Rattle.std.proofs.lemmas.Bool.Decides.{nat_tests}
use Rattle.rep_values.specs.declared.name.SiteName.{SiteName}
use Rattle.net_plan.specs.declared.fate.Fate.{Fate}
use Rattle.script_parse.specs.declared.command.Command.{Command}
use Rattle.storm_script.specs.declared.ways.Way.{Way}
use Rattle.storm_script.specs.Draws.{next_draw, drawn, state_behind}
use Rattle.storm_script.specs.Sites.{site_at, way_at}
use Rattle.storm_script.specs.Rounds.{transaction, fated_push, three_fates, drawn_push, storm_round, behind_round}

other : (i : ℕ) → i % 10 ≢ 0 → (i % 10 == 0) ≡ false
other i not = grind (arith, nat_tests)

-- the transaction that a round's draws name
abbrev pub drawn_transaction : ℕ → ℕ → List Command
drawn_transaction i x = transaction i (site_at (drawn 3 (state_behind 1 x))) (drawn 100 (state_behind 2 x))

-- each tenth round ends with a push
pub round-tenth : (i x : ℕ) → i % 10 ≡ 0 → storm_round i x ≡ drawn_transaction i x ++ drawn_push (state_behind 2 x)
unfolding storm_round
round-tenth i x tenth = rw tenth refl

-- any other is a transaction
pub round-other : (i x : ℕ) → i % 10 ≢ 0 → storm_round i x ≡ drawn_transaction i x
unfolding storm_round
round-other i x not = rw (other i not) refl

-- each tenth round draws six numbers
pub behind_round-tenth : (i x : ℕ) → i % 10 ≡ 0 → behind_round i x ≡ state_behind 6 x
unfolding behind_round
behind_round-tenth i x tenth = rw tenth refl

-- any other draws two
pub behind_round-other : (i x : ℕ) → i % 10 ≢ 0 → behind_round i x ≡ state_behind 2 x
unfolding behind_round
behind_round-other i x not = rw (other i not) refl

-- the commands of a tenth round, as its draws name them one after another
pub round-drawn : (i x first second third r r' id : ℕ) (site : SiteName) (way : Way) (fated : List Fate) (before after : List Command) → i % 10 ≡ 0
    → first ≡ next_draw x → r ≡ drawn 3 first → site ≡ site_at r → second ≡ next_draw first → id ≡ drawn 100 second
    → third ≡ next_draw second → r' ≡ drawn 6 third → way ≡ way_at r' → fated ≡ three_fates third
    → before ≡ transaction i site id → after ≡ before ++ fated_push way fated → after ≡ storm_round i x
round-drawn i x first second third r r' id site way fated before after tenth is_first is_r is_site is_second is_id is_third is_r' is_way is_fated is_before is_after =
    rw (is_after, is_before, is_site, is_r, is_id, is_way, is_r', is_fated, is_third, is_second, is_first) (sym (round-tenth i x tenth))
