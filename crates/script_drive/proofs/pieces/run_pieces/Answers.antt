use Rattle.std.proofs.Common.{arith, ◌≡◌, ◌≤◌, ◌+◌, ◌++◌, ℕ, List, [], length, take, sym, ap, ◌∙◌, subst, refl, length-append, is_err, true, false}
use Rattle.std.proofs.lemmas.List.{length-take-le}
use Rattle.std.proofs.KnownBytes.{Consumes-nil, Consumes-trans}
use Rattle.script_drive.specs.Fed.{run_beginning}
use Rattle.script_drive.specs.Halts.{progress}
use Rattle.script_drive.specs.Outcome.{RanBy}
use Rattle.script_drive.specs.Prompt.{Asked}
use Rattle.script_drive.proofs.DriveLemmas.{RunsSoFar, runs_first, read_nothing, ran_read, ran_done, ran_last, ran_halt, runs_on}
use Rattle.script_drive.proofs.pieces.run_pieces.Goals as goal

pub loop-init : goal.loop-init
loop-init g c =
    let left = g.R.Reader.left c.args.source.now in
    let taken = g.K.Sink.taken c.args.sink.now in
    let reads = g.R.Reader.reads c.args.reader.now in
    let start = c.args.run.now.state in
    let further : progress (run_beginning start) ≡ progress c.args.run.now = ap progress (sym c.requires.fresh) in record {
      so_far = (
        [],
        Consumes-nil left,
        omega arith,
        omega arith,
        subst (RunsSoFar g.X.LineRunner.step g.X.LineRunner.allowed g.X.LineRunner.known start left taken taken reads reads []) (sym c.requires.fresh)
            (runs_first g.X.LineRunner.step g.X.LineRunner.allowed g.X.LineRunner.known start left taken reads),
      );
      known = c.requires.known;
      within = omega arith;
      reads = omega arith;
      writes = omega arith;
    }

pub returns-in_default-clause-told : goal.returns-in_default-clause-told
returns-in_default-clause-told g c =
    let left = g.R.Reader.left in
    let taken = g.K.Sink.taken in
    let reads = g.R.Reader.reads in
    let so_far = c.loop.invariant.so_far in
    let failed : is_err c.read.result ≡ true = ap is_err c.in_default.is in
    let asked : Asked = record { left = left c.loop.source; written = taken c.loop.sink; failed = is_err c.read.result } in
    ran_read g.X.LineRunner.step g.X.LineRunner.allowed g.X.LineRunner.known (c.args.run.now.state) (left c.args.source.now) (left c.loop.source) (left c.read.new.source) (taken c.args.sink.now) (taken c.loop.sink)
    (reads c.args.reader.now) (reads c.loop.reader) (reads c.read.new.self) so_far.0 c.loop.run asked c.loop.invariant.known so_far.1 c.in_default.ensures.bytes.failed so_far.4 refl refl failed c.read.ensures.asked

pub returns-in-Err-clause-told : goal.returns-in-Err-clause-told
returns-in-Err-clause-told g c =
    let left = g.R.Reader.left in
    let taken = g.K.Sink.taken in
    let reads = g.R.Reader.reads in
    let start = c.args.run.now.state in
    let so_far = c.loop.invariant.so_far in
    let bytes = c.in-Ok.ensures.bytes in
    let n : ℕ = c.in-Ok.count in
    let answered : is_err c.read.result ≡ false = ap is_err c.in-Ok.is in
    let asked : Asked = record { left = left c.loop.source; written = taken c.loop.sink; failed = is_err c.read.result } in
    let all = read_nothing (left c.args.source.now) (left c.loop.source) (left c.read.new.source) so_far.0 n c.read.new.into c.if-count-eq0.true so_far.1 bytes.given in
    subst (λ s. RanBy g.X.LineRunner.step g.X.LineRunner.allowed g.X.LineRunner.known start s (left c.args.source.now) (left c.read.new.source) (taken c.args.sink.now) (taken c.finish.new.sink) (reads c.args.reader.now) (reads c.read.new.self))
    (sym c.status.ensures)
    (ran_last g.X.LineRunner.step g.X.LineRunner.allowed g.X.LineRunner.known start c.in-Err.halt (left c.args.source.now) (left c.loop.source) (left c.read.new.source) (taken c.args.sink.now) (taken c.loop.sink) (taken c.finish.new.sink)
    (reads c.args.reader.now) (reads c.loop.reader) (reads c.read.new.self) so_far.0 c.loop.run asked so_far.1 all (bytes.end c.if-count-eq0.true (omega arith)) so_far.4 refl refl answered c.read.ensures.asked
    c.in-Err.ensures.halted c.in-Err.ensures.some)

pub returns-then-count-eq0-clause-told : goal.returns-then-count-eq0-clause-told
returns-then-count-eq0-clause-told g c =
    let left = g.R.Reader.left in
    let taken = g.K.Sink.taken in
    let reads = g.R.Reader.reads in
    let start = c.args.run.now.state in
    let so_far = c.loop.invariant.so_far in
    let bytes = c.in-Ok.ensures.bytes in
    let n : ℕ = c.in-Ok.count in
    let answered : is_err c.read.result ≡ false = ap is_err c.in-Ok.is in
    let asked : Asked = record { left = left c.loop.source; written = taken c.loop.sink; failed = is_err c.read.result } in
    let all = read_nothing (left c.args.source.now) (left c.loop.source) (left c.read.new.source) so_far.0 n c.read.new.into c.if-count-eq0.true so_far.1 bytes.given in
    ran_done g.X.LineRunner.step g.X.LineRunner.allowed g.X.LineRunner.known start (left c.args.source.now) (left c.loop.source) (left c.read.new.source) (taken c.args.sink.now) (taken c.loop.sink) (taken c.finish.new.sink)
    (reads c.args.reader.now) (reads c.loop.reader) (reads c.read.new.self) so_far.0 c.loop.run asked c.finish.new.self.state c.in_default-finish.ensures.known so_far.1 all (bytes.end c.if-count-eq0.true (omega arith)) so_far.4 refl refl answered c.read.ensures.asked
    c.in_default-finish.ensures.fed

pub returns-in-Err-feed-clause-told : goal.returns-in-Err-feed-clause-told
returns-in-Err-feed-clause-told g c =
    let left = g.R.Reader.left in
    let taken = g.K.Sink.taken in
    let reads = g.R.Reader.reads in
    let start = c.args.run.now.state in
    let so_far = c.loop.invariant.so_far in
    let bytes = c.in-Ok.ensures.bytes in
    let n : ℕ = c.in-Ok.count in
    let answered : is_err c.read.result ≡ false = ap is_err c.in-Ok.is in
    let asked : Asked = record { left = left c.loop.source; written = taken c.loop.sink; failed = is_err c.read.result } in
    let piece : List ℕ = take n c.read.new.into in
    let bound = bytes.bound in
    let size : length piece ≡ n = length-take-le n c.read.new.into bound in
    let few : length piece ≤ 4096 = omega arith in
    subst (λ s. RanBy g.X.LineRunner.step g.X.LineRunner.allowed g.X.LineRunner.known start s (left c.args.source.now) (left c.read.new.source) (taken c.args.sink.now) (taken c.feed.new.sink) (reads c.args.reader.now) (reads c.read.new.self))
    (sym c.status-in-Err-feed.ensures)
    (ran_halt g.X.LineRunner.step g.X.LineRunner.allowed g.X.LineRunner.known start c.in-Err-feed.halt (left c.args.source.now) (left c.loop.source) (left c.read.new.source) (taken c.args.sink.now) (taken c.loop.sink) (taken c.feed.new.sink)
    (reads c.args.reader.now) (reads c.loop.reader) (reads c.read.new.self) so_far.0 piece c.loop.run asked so_far.1 bytes.given few so_far.4 refl refl answered c.read.ensures.asked
    c.in-Err-feed.ensures.halted)

pub loop-preserved : goal.loop-preserved
loop-preserved g c =
    let left = g.R.Reader.left in
    let taken = g.K.Sink.taken in
    let reads = g.R.Reader.reads in
    let start = c.args.run.now.state in
    let so_far = c.loop.invariant.so_far in
    let bytes = c.in-Ok.ensures.bytes in
    let fed = c.in_default-feed.ensures in
    let n : ℕ = c.in-Ok.count in
    let answered : is_err c.read.result ≡ false = ap is_err c.in-Ok.is in
    let asked : Asked = record { left = left c.loop.source; written = taken c.loop.sink; failed = is_err c.read.result } in
    let piece : List ℕ = take n c.read.new.into in
    let size : length piece ≡ n = length-take-le n c.read.new.into bytes.bound in
    let both : length (so_far.0 ++ piece) ≡ length so_far.0 + n = length-append so_far.0 piece ∙ ap (λ k. length so_far.0 + k) size in
    let some = c.if-count-eq0.false in
    let further = fed.further in
    let far = so_far.2 in
    let sized = so_far.3 in
    let later = c.in-Ok.ensures.cause.later in
    let written = fed.cause.later in record {
      so_far = (
        so_far.0 ++ piece,
        Consumes-trans (left c.args.source.now) (left c.loop.source) (left c.read.new.source) so_far.0 piece so_far.1 bytes.given,
        omega arith,
        omega arith,
        runs_on g.X.LineRunner.step g.X.LineRunner.allowed g.X.LineRunner.known start (left c.args.source.now) (left c.loop.source) (taken c.args.sink.now) (taken c.loop.sink) (taken c.feed.new.sink)
            (reads c.args.reader.now) (reads c.loop.reader) (reads c.read.new.self) so_far.0 piece c.loop.run c.feed.new.self asked so_far.1 so_far.4 refl refl answered c.read.ensures.asked fed.fed,
      );
      known = fed.known;
      within = fed.within (omega arith);
      reads = omega arith;
      writes = omega arith;
    }
