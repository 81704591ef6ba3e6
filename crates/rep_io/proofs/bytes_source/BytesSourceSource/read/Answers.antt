use Rattle.std.proofs.Common.{rules, arith, ◌≡◌, ◌<◌, ◌+◌, ◌-◌, ℕ, List, min, length, drop, length-append, length-drop, length-take-le, ◌∙◌, sym}
use Rattle.std.proofs.lemmas.List.{drop_all}
use Rattle.rep_io.proofs.Copies.{drop-copied}
use Rattle.rep_io.proofs.bytes_source.BytesSourceSource.read.Goals as goal

pub returns-clause-bytes : goal.returns-clause-bytes
returns-clause-bytes c =
    let n : ℕ = c.min-count.result in
    let at : ℕ = c.self.inside.at in
    let bytes : List ℕ = c.self.inside.bytes.items in
    let count : n ≡ min (length c.args.into.now) (length bytes - at) = search rules in
    let copied : length c.copy_from_slice.new.self ≡ n = c.copy_from_slice.ensures.len ∙ length-take-le n c.args.into.now (omega arith) in
    record {
      bound = search rules;
      given = sym c.self.view_is ∙ drop-copied bytes _ (drop n c.args.into.now) at n (rw c.deref.ensures.value at c.copy_from_slice.ensures.after) copied;
      end = λ none some.
          let room : 0 < length c.args.into.now = omega (arith, length-append c.copy_from_slice.new.self (drop n c.args.into.now), length-drop n c.args.into.now) in
          drop_all (at + n) bytes (omega arith);
      failed = tt;
    }
