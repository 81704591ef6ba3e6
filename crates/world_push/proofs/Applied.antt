-- What a receiver tells of what it applied, and that what it does is a step of a push.
use Rattle.std.proofs.Common.{◌≡◌, ℕ, zero, suc, ◌<◌, List, [], ◌∷◌, ◌++◌, length, Option, Some, refl, sym, ap, ◌∙◌, arith, append_assoc, append-nil, get_or, set, inl, inr}
use Rattle.std.specs.Prelude.{flat_map}
use Rattle.std.specs.List.{insert, remove}
use Rattle.rep_values.specs.declared.name.SiteName.{SiteName}
use Rattle.error_queue.specs.declared.entry.ErrorEntry.{ErrorEntry}
use Rattle.report_text.specs.declared.printed.PushCount.{PushCount}
use Rattle.report_text.specs.Texts.{push_text}
use Rattle.site_state.specs.State.{SiteState}
use Rattle.site_state.specs.Journal.{low_water}
use Rattle.site_state.specs.Passes.{is_done, is_error, added_count}
use Rattle.site_events.specs.Cluster.{site_of, at_site}
use Rattle.world_state.specs.World.{WorldState}
use Rattle.site_state.specs.Rounds.{site_until_quiet}
use Rattle.world_state.specs.Pushes.{world_until_quiet}
use Rattle.world_state.specs.PushAnswers.{count_in, errors_in}
use Rattle.site_rounds.specs.NewErrors.{error_entry_text, new_errors}
use Rattle.site_rounds.specs.Parts.{PartlyApplied, parts_done}
use Rattle.site_rounds.proofs.Growing.{until_quiet_grows}
use Rattle.site_rounds.proofs.NoErrors.{no_new_errors}
use Rattle.site_rounds.proofs.Parts.{partly_until_quiet}
use Rattle.world.specs.Finding.{IsAt}
use Rattle.world.specs.Following.{MakePasses, PushesInPart}
use Rattle.world.specs.Texts.{new_error_text}
use Rattle.world.proofs.Written.{site_of-read, at_site-written}
use Rattle.world.proofs.Following.{in_part_one}
use Rattle.world_push.specs.Applying.{told_text, IsApplying}

-- ---- no errors

-- where no error was counted none is told
errors_in-none : (origin : SiteName) (x : SiteState) → added_count is_error x (site_until_quiet origin x) ≡ 0 → errors_in origin (Some x) ≡ []
errors_in-none origin x none = no_new_errors x (site_until_quiet origin x) (until_quiet_grows origin x) none (site_until_quiet origin x).senders

-- ---- what is told

abbrev counts_of : ℕ → ℕ → ℕ → ℕ → PushCount
counts_of sent done errors low = record { sent = sent; done = done; errors = errors; low = low }

-- what is counted of a push that sent so many positions
pub count_is : (origin : SiteName) (sent done errors low : ℕ) (x y : SiteState) → y ≡ site_until_quiet origin x → done ≡ added_count is_done x y → errors ≡ added_count is_error x y → low ≡ low_water origin y.journal
    → counts_of sent done errors low ≡ count_in sent origin (Some x)
count_is origin sent done errors low x y applied done_is errors_is low_is =
    ap (λ (d : ℕ). counts_of sent d errors low) (done_is ∙ ap (added_count is_done x) applied)
    ∙ ap (λ (e : ℕ). counts_of sent (added_count is_done x (site_until_quiet origin x)) e low) (errors_is ∙ ap (added_count is_error x) applied)
    ∙ ap (λ (l : ℕ). counts_of sent (added_count is_done x (site_until_quiet origin x)) (added_count is_error x (site_until_quiet origin x)) l)
    (low_is ∙ ap (λ (z : SiteState). low_water origin z.journal) applied)

module _ (origin to : SiteName) (sent done errors low before : ℕ) (x y : SiteState) (old lined : List ℕ) (applied : y ≡ site_until_quiet origin x) (begins : before ≡ length x.journal)
    (done_is : done ≡ added_count is_done x y) (errors_is : errors ≡ added_count is_error x y) (low_is : low ≡ low_water origin y.journal)
    (line : lined ≡ old ++ push_text origin.0 to.0 (record { sent = sent; done = done; errors = errors; low = low })) where
  abbrev all : List ℕ
  all = push_text origin.0 to.0 (count_in sent origin (Some x))

  counted : push_text origin.0 to.0 (record { sent = sent; done = done; errors = errors; low = low }) ≡ all
  counted = ap (push_text origin.0 to.0) (count_is origin sent done errors low x y applied done_is errors_is low_is)

  lined_is : lined ≡ old ++ all
  lined_is = line ∙ ap (λ (text : List ℕ). old ++ text) counted

  -- no error was counted
  pub told-none : errors ≡ 0 → lined ≡ old ++ told_text origin to sent (Some x)
  told-none none =
      let no : added_count is_error x (site_until_quiet origin x) ≡ 0 = ap (added_count is_error x) (sym applied) ∙ sym errors_is ∙ none in
      lined_is ∙ ap (λ (text : List ℕ). old ++ text) (sym (append-nil all))
      ∙ ap (λ (es : List ErrorEntry). old ++ (all ++ flat_map new_error_text es)) (sym (errors_in-none origin x no))

  -- errors are listed
  pub told-some : (listed : List ℕ) → listed ≡ lined ++ flat_map error_entry_text (new_errors before y) → listed ≡ old ++ told_text origin to sent (Some x)
  told-some listed is =
      let new : flat_map error_entry_text (new_errors before y) ≡ flat_map new_error_text (errors_in origin (Some x))
      = ap (λ (n : ℕ). flat_map error_entry_text (new_errors n y)) begins ∙ ap (λ (z : SiteState). flat_map error_entry_text (new_errors (length x.journal) z)) applied in
      is ∙ ap (λ (text : List ℕ). text ++ flat_map error_entry_text (new_errors before y)) lined_is
      ∙ ap (λ (text : List ℕ). (old ++ all) ++ text) new
      ∙ append_assoc old all (flat_map new_error_text (errors_in origin (Some x)))

-- ---- the world

-- what is taken out and put in again is set
insert-removed : {X : Type 0} (xs : List X) (place : ℕ) (y : X) → place < length xs → insert (remove xs place) place y ≡ set xs place y
insert-removed [] place y within = absurd (omega (arith, within))
insert-removed (x ∷ xs) zero y within = refl
insert-removed (x ∷ xs) (suc place) y within = ap (λ (zs : List _). x ∷ zs) (insert-removed xs place y (omega (arith, within)))

-- what is told of the receiver is told of the site of its name
pub told-there : (origin name : SiteName) (sites : List SiteState) (place : ℕ) → IsAt name sites place → (x : SiteState) → x ≡ get_or sites place x
    → (to : SiteName) (sent : ℕ) (old told : List ℕ) → told ≡ old ++ told_text origin to sent (Some x) → told ≡ old ++ told_text origin to sent (site_of name sites)
told-there origin name sites place found x read to sent old told is =
    is ∙ ap (λ (there : Option SiteState). old ++ told_text origin to sent there) (sym (site_of-read name sites sites place x refl found read))

-- and so is what is counted
pub counted-there : (origin name : SiteName) (sites : List SiteState) (place : ℕ) → IsAt name sites place → (x : SiteState) → x ≡ get_or sites place x
    → (sent : ℕ) (count : PushCount) → count ≡ count_in sent origin (Some x) → count ≡ count_in sent origin (site_of name sites)
counted-there origin name sites place found x read sent count is = is ∙ ap (count_in sent origin) (sym (site_of-read name sites sites place x refl found read))

module _ (origin name : SiteName) (w : WorldState) (place : ℕ) (found : IsAt name w.sites place) (x : SiteState) (read : x ≡ get_or w.sites place x) where
  -- it is taken out, and put in again as it is then
  module _ (y : SiteState) (others sites : List SiteState) (taken : others ≡ remove w.sites place) (put : sites ≡ insert others place y) where
    put_is : (change : SiteState → SiteState) → y ≡ change x → sites ≡ at_site name change w.sites
    put_is change is =
        put ∙ ap (λ (rest : List SiteState). insert rest place y) taken ∙ insert-removed w.sites place y found.within
        ∙ at_site-written name w.sites w.sites place x refl found read change y is

    put_in_part : PartlyApplied x y → PushesInPart origin name w (record w { sites = sites })
    put_in_part parts = in_part_one origin name (MakePasses parts.0) w _ (ap (λ (xs : List SiteState). record w { sites = xs }) (put_is (parts_done parts.0) parts.1))

    -- its passes are a step of a push
    pub applying_in_part : IsApplying origin x y → PushesInPart origin name w (record w { sites = sites })
    applying_in_part (inl parts) = put_in_part parts
    applying_in_part (inr is) = let parts = partly_until_quiet origin x in put_in_part (parts.0, is ∙ parts.1)

    -- all of them applies what came until all is quiet
    pub until_quiet_world : y ≡ site_until_quiet origin x → record w { sites = sites } ≡ world_until_quiet origin name w
    until_quiet_world is = ap (λ (xs : List SiteState). record w { sites = xs }) (put_is (site_until_quiet origin) is)
