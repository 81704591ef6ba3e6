use Rattle.std.proofs.Common.{arith, ◌≡◌, ◌+◌, ◌-◌, ◌++◌, ℕ, List, length, take, drop, length-drop, subst, sym, ap, ◌∙◌, take-add}
use Rattle.std.proofs.KnownBytes.{Appends-trans}
use Rattle.std.specs.Io.KnownBytes.{Appends}
use Rattle.std.proofs.Math.Seq.{take-length}
use Rattle.rep_io.proofs.sink.offer.Goals as goal

-- the bytes from a place on, as the code cuts them
cut-drop : (bytes : List ℕ) (at : ℕ) → take (length bytes - at) (drop at bytes) ≡ drop at bytes
cut-drop bytes at = ap (λ n. take n (drop at bytes)) (sym (length-drop at bytes)) ∙ take-length (drop at bytes)

-- what was taken, and the next bytes that are
take-next : (bytes : List ℕ) (at n : ℕ) → take at bytes ++ take n (take (length bytes - at) (drop at bytes)) ≡ take (at + n) bytes
take-next bytes at n = ap (λ rest. take at bytes ++ take n rest) (cut-drop bytes at) ∙ sym (take-add at n bytes)

pub loop-preserved : goal.loop-preserved
loop-preserved g c =
    let bytes : List ℕ = c.args.bytes.now in
    let at : ℕ = c.loop.at in
    let n : ℕ = c.in_ok-at.field-0 in
    let written = c.in_ok-at.ensures.bytes in
    let left : length (take (length bytes - at) (drop at bytes)) ≡ length bytes - at = ap length (cut-drop bytes at) ∙ length-drop at bytes in
    let bound = written.bound in
    let some = written.some in
    let both = Appends-trans _ _ _ _ _ c.loop.invariant.taken written.taken in
    let later = c.in_ok-at.ensures.cause.later in record {
      within = omega arith;
      far = omega arith;
      taken = subst (Appends (g.K.Sink.taken c.args.sink.now) (g.K.Sink.taken c.write.new.self)) (take-next bytes at n) both;
      later = omega arith;
    }
