-- Each step passes over a space, takes a token, or finds none.
use Rattle.std.proofs.Common.{◌≡◌, ◌≤◌, ◌∙◌, ◌++◌, ◌∷◌, [], ap, sym, arith, length, true, refl, Some}
use Rattle.std.specs.Option.{option_map}
use Rattle.rep_values.specs.Bytes.{is_printable}
use Rattle.script_lex.specs.Forms.{longest}
use Rattle.script_lex.specs.Tokens.{tokens_from}
use Rattle.script_lex.specs.Lexemes.{lexeme_token}
use Rattle.script_lex.specs.Spans.{span_token, is_span}
use Rattle.script_lex.proofs.Longest.{longest_up_to-le}
use Rattle.script_lex.proofs.TextBytes.{all_drop}
use Rattle.script_lex.proofs.SpansAt.{left_whole, left_drop, left_space, span_token_at, is_span_at}
use Rattle.script_lex.proofs.Steps.{after_space, after_cut, after_none, cut_shorter, found_more, all_more, broken, finished, all_found, none_found}
use Rattle.script_lex.proofs.lexer.spans_of.Goals as goal

pub loop-first-init : goal.loop-first-init
loop-first-init c = record {
  left = ([], none_found (tokens_from 0 c.args.line.now), λ kept. rw (c.reserve.ensures.items, c.requires.empty) refl);
  form = rw (c.reserve.ensures.items, c.requires.empty) refl;
  rest = left_whole c.args.line.now;
  printable = c.requires.printable;
}

pub loop-first-preserved-then-first-eq32 : goal.loop-first-preserved-then-first-eq32
loop-first-preserved-then-first-eq32 c =
    let parts = c.in-Some.ensures in
    let so-far = c.loop-first.invariant.left in
    record {
      left = (so-far.0, ap (option_map (λ ts. so-far.0 ++ ts)) (sym (after_space _ _ _ parts c.if-first-eq32.true)) ∙ so-far.1, so-far.2);
      form = c.loop-first.invariant.form;
      rest = left_space c.args.line.now c.loop-first.rest.now c.in-Some.after.now c.in-Some.first c.loop-first.invariant.rest parts;
      printable = all_drop is_printable 1 (c.in-Some.first ∷ c.in-Some.after.now) (rw parts at c.loop-first.invariant.printable);
    }

pub returns-in_default-token_front-clause-read : goal.returns-in_default-token_front-clause-read
returns-in_default-token_front-clause-read c =
    broken _ _ _ c.loop-first.invariant.left.1
    (after_none c.loop-first.rest.now c.in-Some.first c.in-Some.after.now c.in-Some.ensures c.if-first-eq32.false c.in_default-token_front.ensures.cut)

pub loop-first-smaller : goal.loop-first-smaller
loop-first-smaller c =
    let cut = c.in-Some-token_front.ensures.cut in
    cut_shorter c.loop-first.rest.now c.in-Some-token_front.behind.now (lexeme_token c.in-Some-token_front.lexeme) cut.0 cut.1

pub loop-first-preserved : goal.loop-first-preserved
loop-first-preserved c =
    let line = c.args.line.now in
    let rest = c.loop-first.rest.now in
    let cut = c.in-Some-token_front.ensures.cut in
    let stands = c.in-Some-token_front.ensures.stands in
    let x = c.in-Some-token_front.lexeme in
    let left = c.loop-first.invariant.rest in
    let some : 1 ≤ length rest = omega (arith, ap length c.in-Some.ensures) in
    let token : span_token line c.of-span.result ≡ lexeme_token x = rw c.of-span.ensures (span_token_at line rest left x stands) in
    let formed : is_span line c.of-span.result ≡ true = rw c.of-span.ensures (is_span_at line rest left x some stands cut.2) in
    let step = after_cut rest c.in-Some-token_front.behind.now c.in-Some.first c.in-Some.after.now (Some (span_token line c.of-span.result)) c.in-Some.ensures c.if-first-eq32.false (cut.0 ∙ ap Some (sym token)) cut.1 in
    let so-far = c.loop-first.invariant.left in
    record {
      left = found_more (span_token line) _ _ so-far.0 c.of-span.result _ _ c.push.result _ _ _ so-far.1 so-far.2 step c.is_err-lacks.ensures.value c.push.ensures.items;
      form = all_more (is_span line) _ _ c.of-span.result c.push.result c.loop-first.invariant.form formed c.push.ensures.items;
      rest = left_drop line rest c.in-Some-token_front.behind.now (longest rest) left cut.1 (longest_up_to-le (length rest) rest);
      printable = rw cut.1 (all_drop is_printable (longest rest) rest c.loop-first.invariant.printable);
    }

pub returns-then-lacks-clause-read : goal.returns-then-lacks-clause-read
returns-then-lacks-clause-read c = all_found _ _ _ c.loop-first.invariant.left.1 c.in_default.ensures

pub returns-clause-read : goal.returns-clause-read
returns-clause-read c = rw (c.loop-first.invariant.left.2 c.if-lacks.false) (finished _ _ _ c.loop-first.invariant.left.1 c.in_default.ensures)
