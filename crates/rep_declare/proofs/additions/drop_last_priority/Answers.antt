-- Taking the last priority group away.
use Rattle.std.proofs.Common.{◌≡◌, ◌++◌, [], ◌∷◌, length, ap, sym, ◌∙◌, arith}
use Rattle.rep_declare.specs.Additions.{with_priorities}
use Rattle.rep_declare.proofs.PriorityNames.{without_last}
use Rattle.rep_declare.proofs.additions.drop_last_priority.Goals as goal

pub returns : goal.returns
returns c groups last is =
    let kept = c.into_vec-kept.result in
    let all : kept.items ≡ groups ++ last ∷ [] = c.into_vec-kept.ensures ∙ c.replace.ensures.value ∙ is in
    let long : kept.len ≡ length (groups ++ last ∷ []) = kept.ok.0 ∙ ap length all in
    ap (λ left. with_priorities left c.args.schema.now)
    (c.from_vec.ensures ∙ sym (without_last groups c.pop.new.self.items last c.pop.result (sym all ∙ c.pop.ensures.items) (λ some. c.pop.ensures.variant.1 (omega (arith, some, long)))))
