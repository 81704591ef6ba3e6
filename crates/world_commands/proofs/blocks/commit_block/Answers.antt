use Rattle.std.proofs.Common.{inl, inr, sym, ap, ◌∙◌}
use Rattle.std.proofs.lemmas.Result.{err_from_is_err_and}
use Rattle.site_events.specs.Cluster.{site_of}
use Rattle.site_state.specs.Commits.{block_at, site_commit, commit_answer, commit_answer_by}
use Rattle.world_state.specs.Blocks.{stop_in, stop_at_site}
use Rattle.world_state.specs.Answers.{number_there, answered_number}
use Rattle.world_laws.proofs.Finding.{at_none}
use Rattle.world.proofs.Written.{site_of-read, at_site-written}
use Rattle.world_commands.proofs.blocks.commit_block.Goals as goal

pub returns-in_default-clause-ok : goal.returns-in_default-clause-ok
returns-in_default-clause-ok c =
    sym (at_none c.args.block.now.site (site_commit c.args.block.now.statements) c.args.sites.now.items (ap (site_of c.args.block.now.site) (sym c.deref.ensures.value) ∙ c.in_default.ensures))

pub returns-clause-ok : goal.returns-clause-ok
returns-clause-ok c = at_site-written _ _ _ _ _ c.deref.ensures.value c.in-Some.ensures c.index_mut.ensures.value (site_commit c.args.block.now.statements) c.commit.new.self
    (c.in_ok-number.ensures.ok ∙ ap (λ statements. site_commit statements c.index_mut.result.now) c.as_slice.ensures)

pub returns-clause-passes : goal.returns-clause-passes
returns-clause-passes c =
    let there = site_of-read _ _ _ _ _ c.deref.ensures.value c.in-Some.ensures c.index_mut.ensures.value in
    ap (stop_at_site c.args.block.now.statements) there ∙ ap stop_in (ap (λ statements. commit_answer statements c.index_mut.result.now) (sym c.as_slice.ensures) ∙ c.in_ok-number.ensures.number)

pub returns-clause-number : goal.returns-clause-number
returns-clause-number c =
    let there = site_of-read _ _ _ _ _ c.deref.ensures.value c.in-Some.ensures c.index_mut.ensures.value in
    sym (ap (number_there (λ x. answered_number (commit_answer c.args.block.now.statements x))) there
    ∙ ap answered_number (ap (λ statements. commit_answer statements c.index_mut.result.now) (sym c.as_slice.ensures) ∙ c.in_ok-number.ensures.number))

pub returns-in_err-number-clause-err : goal.returns-in_err-number-clause-err
returns-in_err-number-clause-err c =
    let p = err_from_is_err_and c.from_residual.result c.from_residual.ensures.1 in
    let there = site_of-read _ _ _ _ _ c.deref.ensures.value c.in-Some.ensures c.index_mut.ensures.value in
    rw (p.1, p.2) (elim c.in_err-number.ensures.err [
      | inl memory ↦ inl memory
      | inr stop ↦ inr (ap (stop_at_site c.args.block.now.statements) there ∙ ap (λ outcome. stop_in (commit_answer_by outcome c.index_mut.result.now)) (ap (λ statements. block_at statements c.index_mut.result.now) (sym c.as_slice.ensures) ∙ stop))
    ])
