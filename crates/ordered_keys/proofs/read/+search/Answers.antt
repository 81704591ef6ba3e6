use Rattle.std.proofs.Common.{◌≡◌, sym}
use Rattle.std.specs.declared.cmp.Ordering.TheVariants.{Less, Equal, Greater}
use Rattle.rep_values.specs.Order.{key_cmp}
use Rattle.ordered_keys.specs.Trees.{entries}
use Rattle.ordered_keys.specs.Keys.{by_key}
use Rattle.ordered_keys.proofs.Found.{left_rises, right_rises, found-right, absent-right, found-here, found-left, absent-left}
use Rattle.ordered_keys.proofs.read.+search.Goals as goal

pub returns-in-Less-clause-found : goal.returns-in-Less-clause-found
returns-in-Less-clause-found g t c = λ rises.
    let root = c.in-Fork.root.value in
    let rising = rw c.in-Fork.is at rises in
    let order : key_cmp (g.E.Noted.key root.entry) c.args.key.now ≡ Less = sym (rw (c.key.ensures, c.deref.ensures, c.in-Less.is) at c.compare_keys.ensures) in
    let there = rw c.deref-in-Less.ensures at c.search.ensures.found in
    let number = rw c.deref-in-Less-2.ensures at c.sum.ensures.number in
    rw (c.in-Fork.is, c.behind.ensures, number)
    (found-right g.E.Noted.key c.args.key.now root.entry (entries root.left) (entries root.right) rising order c.search.result (there (right_rises (by_key g.E.Noted.key) root.entry (entries root.right) (entries root.left) rising)))

pub returns-in-Less-clause-absent : goal.returns-in-Less-clause-absent
returns-in-Less-clause-absent g t c = λ rises.
    let root = c.in-Fork.root.value in
    let rising = rw c.in-Fork.is at rises in
    let order : key_cmp (g.E.Noted.key root.entry) c.args.key.now ≡ Less = sym (rw (c.key.ensures, c.deref.ensures, c.in-Less.is) at c.compare_keys.ensures) in
    let gap = rw c.deref-in-Less.ensures at c.search.ensures.absent in
    let number = rw c.deref-in-Less-2.ensures at c.sum.ensures.number in
    rw (c.in-Fork.is, c.behind.ensures, number)
    (absent-right g.E.Noted.key c.args.key.now root.entry (entries root.left) (entries root.right) rising order c.search.result (gap (right_rises (by_key g.E.Noted.key) root.entry (entries root.right) (entries root.left) rising)))

pub returns-in-Equal-clause-found : goal.returns-in-Equal-clause-found
returns-in-Equal-clause-found g t c = λ rises.
    let root = c.in-Fork.root.value in
    let rising = rw c.in-Fork.is at rises in
    let order : key_cmp (g.E.Noted.key root.entry) c.args.key.now ≡ Equal = sym (rw (c.key.ensures, c.deref.ensures, c.in-Equal.is) at c.compare_keys.ensures) in
    let number = rw c.deref-in-Equal.ensures at c.sum-in-Equal.ensures.number in
    rw (c.in-Fork.is, number) (found-here g.E.Noted.key c.args.key.now root.entry (entries root.left) (entries root.right) rising order)

pub returns-in-Greater-clause-found : goal.returns-in-Greater-clause-found
returns-in-Greater-clause-found g t c = λ rises.
    let root = c.in-Fork.root.value in
    let rising = rw c.in-Fork.is at rises in
    let there = rw c.deref-in-Greater.ensures at c.search-in-Greater.ensures.found in
    rw c.in-Fork.is
    (found-left g.E.Noted.key c.args.key.now root.entry (entries root.left) (entries root.right) rising c.search-in-Greater.result (there (left_rises (by_key g.E.Noted.key) root.entry (entries root.right) (entries root.left) rising)))

pub returns-in-Greater-clause-absent : goal.returns-in-Greater-clause-absent
returns-in-Greater-clause-absent g t c = λ rises.
    let root = c.in-Fork.root.value in
    let rising = rw c.in-Fork.is at rises in
    let order : key_cmp (g.E.Noted.key root.entry) c.args.key.now ≡ Greater = sym (rw (c.key.ensures, c.deref.ensures, c.in-Greater.is) at c.compare_keys.ensures) in
    let gap = rw c.deref-in-Greater.ensures at c.search-in-Greater.ensures.absent in
    rw c.in-Fork.is
    (absent-left g.E.Noted.key c.args.key.now root.entry (entries root.left) (entries root.right) rising order c.search-in-Greater.result (gap (left_rises (by_key g.E.Noted.key) root.entry (entries root.right) (entries root.left) rising)))
