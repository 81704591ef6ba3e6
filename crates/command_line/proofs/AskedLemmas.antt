-- What `clap` reads of words that ask for something.
use Rattle.std.proofs.Common.{◌≡◌, ℕ, List, [], ◌∷◌, ◌++◌, codes, true, false, refl, nat_eq, Bool, is_some, ◌∙◌}
use Rattle.std.specs.Prelude.{◌&&◌, ◌||◌}
use Rattle.std.specs.Cmp.Lexicographic.{pointwise}
use Rattle.command_line.specs.Words.{asked_in, is_joined, is_option, most_appliers, most_count, most_seed}
use Rattle.command_line.specs.Forms.{are_appliers, has_appliers, is_appliers, is_count, are_seed_and_count, is_live, is_run, is_seed, is_storm}
use Rattle.command_line.proofs.FormLemmas.{is_live-live_by, is_run-run_by, is_storm-storm_by}
use Rattle.command_line.proofs.ReadLemmas.{IsRead, read_live, read_live-flag, read_run, read_run-apart, read_run-joined, read_storm, read_storm-apart_between, read_storm-apart_first, read_storm-apart_last, read_storm-joined_between, read_storm-joined_first, read_storm-joined_last}
use Rattle.command_line.proofs.WordLemmas.{IsPlain, at_flag, at_joined, at_number, at_option, same_text}
use Rattle.command_line.proofs.NumeralLemmas.{both_true}

run_read : (words : List (List ℕ)) → is_run words ≡ true → IsRead (codes "run" ∷ words)
run_read [] e = read_run
run_read (a ∷ []) e = at_joined (λ w. IsRead (codes "run" ∷ w ∷ [])) a (both_true (is_joined a) _ e).0 read_run-joined
run_read (a ∷ b ∷ []) e =
    let h = both_true (is_option a) _ e in
    at_option (λ w. IsRead (codes "run" ∷ w ∷ b ∷ [])) a h.0 (at_number 1 most_appliers (λ w. IsRead (codes "run" ∷ codes "--appliers" ∷ w ∷ [])) b h.1 read_run-apart)
run_read (a ∷ b ∷ c ∷ words) e = absurd (cc e)

-- a seed and a count, at their places among words
at_storm : (P : List ℕ → List ℕ → Type 0) (seed count : List ℕ) → are_seed_and_count seed count ≡ true
    → ((x : ℕ) (xs : List ℕ) → IsPlain x → (y : ℕ) (ys : List ℕ) → IsPlain y → P (x ∷ xs) (y ∷ ys)) → P seed count
at_storm P seed count e p =
    let h = both_true (is_seed seed) (is_count count) e in
    at_number 0 most_seed (λ w. P w count) seed h.0 (λ x xs q. at_number 1 most_count (P (x ∷ xs)) count h.1 (p x xs q))

-- `--appliers=N` and then a seed and a count, at their places among words
at_joined_storm : (P : List ℕ → List ℕ → List ℕ → Type 0) (joined seed count : List ℕ) → (has_appliers joined && are_seed_and_count seed count) ≡ true
    → ((x : ℕ) (xs : List ℕ) → IsPlain x → (y : ℕ) (ys : List ℕ) → IsPlain y → (value : List ℕ) → P (codes "--appliers=" ++ value) (x ∷ xs) (y ∷ ys)) → P joined seed count
at_joined_storm P joined seed count e p =
    let h = both_true (has_appliers joined) (are_seed_and_count seed count) e in
    at_joined (λ w. P w seed count) joined (both_true (is_joined joined) _ h.0).0 (λ value. at_storm (P (codes "--appliers=" ++ value)) seed count h.1 (λ x xs q y ys r. p x xs q y ys r value))

-- `--appliers N` and then a seed and a count, at their places among words
at_apart_storm : (P : List ℕ → List ℕ → List ℕ → List ℕ → Type 0) (option value seed count : List ℕ) → (are_appliers option value && are_seed_and_count seed count) ≡ true
    → ((x : ℕ) (xs : List ℕ) → IsPlain x → (y : ℕ) (ys : List ℕ) → IsPlain y → (z : ℕ) (zs : List ℕ) → IsPlain z → P (codes "--appliers") (z ∷ zs) (x ∷ xs) (y ∷ ys)) → P option value seed count
at_apart_storm P option value seed count e p =
    let h = both_true (are_appliers option value) (are_seed_and_count seed count) e in
    let o = both_true (is_option option) (is_appliers value) h.0 in
    at_option (λ w. P w value seed count) option o.0 (at_number 1 most_appliers (λ w. P (codes "--appliers") w seed count) value o.1
    (λ z zs s. at_storm (P (codes "--appliers") (z ∷ zs)) seed count h.1 (λ x xs q y ys r. p x xs q y ys r z zs s)))

either_of : (a b c : Bool) (X : Type 0) → (a || b || c) ≡ true → (a ≡ true → X) → (b ≡ true → X) → (c ≡ true → X) → X
either_of true b c X e f g h = f refl
either_of false true c X e f g h = g refl
either_of false false c X e f g h = h e

storm_reads : (words : List (List ℕ)) → is_storm words ≡ true → IsRead (codes "storm" ∷ words)
storm_reads [] e = absurd (cc e)
storm_reads (a ∷ []) e = absurd (cc e)
storm_reads (a ∷ b ∷ []) e = at_storm (λ s n. IsRead (codes "storm" ∷ s ∷ n ∷ [])) a b e read_storm
storm_reads (a ∷ b ∷ c ∷ []) e = either_of _ _ _ _ e
    (λ h. at_joined_storm (λ j s n. IsRead (codes "storm" ∷ j ∷ s ∷ n ∷ [])) a b c h read_storm-joined_first)
    (λ h. at_joined_storm (λ j s n. IsRead (codes "storm" ∷ s ∷ j ∷ n ∷ [])) b a c h read_storm-joined_between)
    (λ h. at_joined_storm (λ j s n. IsRead (codes "storm" ∷ s ∷ n ∷ j ∷ [])) c a b h read_storm-joined_last)
storm_reads (a ∷ b ∷ c ∷ d ∷ []) e = either_of _ _ _ _ e
    (λ h. at_apart_storm (λ o v s n. IsRead (codes "storm" ∷ o ∷ v ∷ s ∷ n ∷ [])) a b c d h read_storm-apart_first)
    (λ h. at_apart_storm (λ o v s n. IsRead (codes "storm" ∷ s ∷ o ∷ v ∷ n ∷ [])) b c a d h read_storm-apart_between)
    (λ h. at_apart_storm (λ o v s n. IsRead (codes "storm" ∷ s ∷ n ∷ o ∷ v ∷ [])) c d a b h read_storm-apart_last)
storm_reads (a ∷ b ∷ c ∷ d ∷ e ∷ words) is = absurd (cc is)

live_reads : (words : List (List ℕ)) → is_live words ≡ true → IsRead (codes "live" ∷ words)
live_reads [] e = read_live
live_reads (a ∷ []) e = at_flag (λ w. IsRead (codes "live" ∷ w ∷ [])) a e read_live-flag
live_reads (a ∷ b ∷ words) e = absurd (cc e)

-- words that ask for something are read as what they ask for
pub asked-read : (words : List (List ℕ)) → is_some (asked_in words) ≡ true → IsRead words
asked-read [] e = absurd (cc e)
asked-read (name ∷ words) e = go (pointwise nat_eq name (codes "run")) (pointwise nat_eq name (codes "storm")) (pointwise nat_eq name (codes "live")) refl refl refl
  where
    go : (r s l : Bool) → pointwise nat_eq name (codes "run") ≡ r → pointwise nat_eq name (codes "storm") ≡ s → pointwise nat_eq name (codes "live") ≡ l
        → IsRead (name ∷ words)
    go true s l run storm live = rw (same_text name (codes "run") run) (run_read words (is_run-run_by words ∙ rw run at e))
    go false true l run storm live = rw (same_text name (codes "storm") storm) (storm_reads words (is_storm-storm_by words ∙ rw (run, storm) at e))
    go false false true run storm live = rw (same_text name (codes "live") live) (live_reads words (is_live-live_by words ∙ rw (run, storm, live) at e))
    go false false false run storm live = let bad : false ≡ true = rw (run, storm, live) at e in absurd (cc bad)
