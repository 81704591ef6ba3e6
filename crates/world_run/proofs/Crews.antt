-- What a crew's pass finished is what the entries tell that the journal has more.
use Rattle.std.proofs.Common.{◌≡◌, ℕ, ◌-◌, length, take, ap, ◌∙◌}
use Rattle.rep_values.specs.declared.name.SiteName.{SiteName}
use Rattle.site_state.specs.State.{SiteState}
use Rattle.site_state.specs.Passes.{site_pass, pass_answer}
use Rattle.site_rounds.specs.Parts.{finished_in}
use Rattle.site_rounds.proofs.Growing.{pass_finishes}

pub counted_by_pass : (origin : SiteName) (x y : SiteState) → y ≡ site_pass origin x → (before after added : ℕ) → before ≡ length x.journal → after ≡ length y.journal → added ≡ after - before
    → finished_in (take added y.journal) ≡ pass_answer origin x
counted_by_pass origin x y is before after added begins ends adds =
    ap (λ (n : ℕ). finished_in (take n y.journal)) (adds ∙ ap (λ (n : ℕ). after - n) begins ∙ ap (λ (n : ℕ). n - length x.journal) ends)
    ∙ ap (λ (z : SiteState). finished_in (take (length z.journal - length x.journal) z.journal)) is ∙ pass_finishes origin x
