use Rattle.std.proofs.Common.{None, get_or, ◌≡◌, ◌+◌, ◌-◌, ◌<◌, ◌∷◌, length, map, drop, take, Some, refl, sym, ◌∙◌, arith}
use Rattle.std.specs.Prelude.{is_some}
use Rattle.std.proofs.lemmas.List.{drop_all, length-set, map-set}
use Rattle.std.proofs.Math.Seq.{take-set-lt}
use Rattle.std.proofs.lemmas.Option.{slice_get_read}
use Rattle.rep_lists.proofs.Each.{each_set, each_at}
use Rattle.rep_lists.proofs.Places.{drop_from_place}
use Rattle.txn_effects.specs.Sets.{names_one_twice, sets_by_column}
use Rattle.txn_effects.specs.ByColumn.{set_of, set_at}
use Rattle.local_txn.proofs.NamedSets.{named-within, nothing_set, numbered-none, set_at-cells, unknown-set, known-more, twice-more, each-more}
use Rattle.local_txn.proofs.sets.SetsByColumn.of.Goals as goal
use Rattle.local_txn.proofs.sets.SetsByColumn.of.Goals.{then-twice, else-twice}

pub loop-i-init : goal.loop-i-init
loop-i-init c =
    let none = drop_all (length c.args.sets.now) c.args.sets.now (omega arith) in
    record {
      known = rw none refl;
      twice = rw none refl;
      size = refl;
      numbered = numbered-none c.args.sets.now 32;
      each = rw none (nothing_set c.args.sets.now c.args.columns.now 32 c.requires.few);
    }

pub returns-in_default-clause-err : goal.returns-in_default-clause-err
returns-in_default-clause-err c =
    let sets = c.args.sets.now in
    let i = c.loop-i.i - 1 in
    let next : i + 1 ≡ c.loop-i.i = omega arith in
    let s = c.index-sets-i.result in
    let here : drop i sets ≡ s ∷ drop (i + 1) sets = drop_from_place sets i s (omega arith) c.index-sets-i.is in
    let unknown = unknown-set c.args.columns.now sets i s here (sym c.place_near.ensures ∙ c.in_default.is) in
    rw unknown refl

pub loop-i-preserved : goal.loop-i-preserved
loop-i-preserved c =
    let sets = c.args.sets.now in
    let columns = c.args.columns.now in
    let i = c.loop-i.i - 1 in
    let next : i + 1 ≡ c.loop-i.i = omega arith in
    let s = c.index-sets-i.result in
    let place = c.in-Some.place in
    let here : drop i sets ≡ s ∷ drop (i + 1) sets = drop_from_place sets i s (omega arith) c.index-sets-i.is in
    let placed = sym c.place_near.ensures ∙ c.in-Some.is in
    let of_number : set_of sets (Some i) ≡ Some s = slice_get_read sets (length sets) i s refl (omega arith) c.index-sets-i.is in
    let within : place < length columns = named-within columns sets i s here place placed c.requires.apart in
    let in_cells : place < length c.loop-i.cells = omega (arith, within, c.requires.few, c.loop-i.invariant.size) in
    let so_far : c.loop-i.twice ≡ names_one_twice (drop (i + 1) sets) = rw next c.loop-i.invariant.twice in
    let each : map (set_of sets) (take (length columns) c.loop-i.cells) ≡ sets_by_column columns (drop (i + 1) sets) = rw next c.loop-i.invariant.each in
    let twice_here : is_some (get_or c.loop-i.cells place None) ≡ is_some (set_at (sets_by_column columns (drop (i + 1) sets)) place) =
    each_at (λ cell. is_some cell ≡ is_some (set_of sets cell)) c.loop-i.cells place None in_cells c.loop-i.invariant.numbered
    ∙ rw (← each, set_at-cells sets c.loop-i.cells (length columns) place None within in_cells) refl in
    let more = twice-more columns sets i s here place placed c.requires.apart in
    record {
      known = known-more columns sets i s here place placed c.requires.apart (rw next c.loop-i.invariant.known);
      twice = elim c.if-twice.branch [
        | then-twice w ↦ w.twice-is ∙ w.if-twice.true ∙ sym (more ∙ rw (← so_far, w.if-twice.true) refl)
        | else-twice w ↦ w.twice-is ∙ w.is_some-twice.ensures ∙ twice_here ∙ sym (more ∙ rw (← so_far, w.if-twice.false) refl)
      ];
      size = length-set c.loop-i.cells place (Some i) ∙ c.loop-i.invariant.size;
      numbered = each_set (λ cell. is_some cell ≡ is_some (set_of sets cell)) c.loop-i.cells place (Some i) (rw of_number refl) c.loop-i.invariant.numbered;
      each = rw (take-set-lt (length columns) c.loop-i.cells place (Some i) within, map-set, of_number, each) (sym (each-more columns sets i s here place placed c.requires.apart));
    }
