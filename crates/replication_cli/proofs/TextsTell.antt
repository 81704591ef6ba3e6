-- What a line prints counts as what came of it does.
use Rattle.std.proofs.Common.{◌≡◌, ℕ, ◌+◌, ◌^◌, ◌<◌, ◌==◌, Bool, true, false, cond, List, [], ◌∷◌, ◌++◌, Some, None, refl, sym, ap, subst, ◌∙◌, add-zero, append-nil, lit≤}
use Rattle.std.specs.Prelude.{Option, ◌&&◌, not, codes, decimal, flat_map}
use Rattle.rep_values.specs.Name.{is_name, same_bytes}
use Rattle.rep_values.specs.declared.name.SiteName.{SiteName}
use Rattle.rep_values.specs.declared.name.TableName.{TableName}
use Rattle.rep_schema.specs.Named.{table_place}
use Rattle.report_text.specs.declared.printed.PushCount.{PushCount}
use Rattle.report_text.specs.Texts.{commit_text, nothing_committed_text, push_words, push_text, refresh_fast_text, refresh_complete_text, sent_text, nothing_sent_text}
use Rattle.script_parse.specs.declared.command.Command.{Command}
use Rattle.script_parse.specs.declared.command.Command.TheVariants as command
use Rattle.script_parse.specs.declared.command.Shown.{Shown}
use Rattle.script_parse.specs.declared.command.Shown.TheVariants as shown
use Rattle.script_parse.specs.declared.proc_line.ProcLine.{ProcLine}
use Rattle.script_parse.specs.declared.proc_line.ProcLine.TheVariants as proc_line
use Rattle.script_parse.specs.Spelled.{IsWellFormed}
use Rattle.site_state.specs.State.{SiteState}
use Rattle.site_events.specs.Cluster.{site_of}
use Rattle.proc_state.specs.State.{ProcState}
use Rattle.world_state.specs.declared.block.Block.{Block}
use Rattle.world_state.specs.declared.call_block.CallBlock.{CallBlock}
use Rattle.world_state.specs.World.{WorldState}
use Rattle.world_state.specs.Answers.{RefreshTold, commit_number, refresh_answer}
use Rattle.world_state.specs.PushAnswers.{push_count, push_errors}
use Rattle.world_state.specs.Procs.{Procs, proc_of}
use Rattle.world_state.specs.CallBlocks.{sent_number}
use Rattle.world.specs.declared.answer.Answer.{Answer}
use Rattle.world.specs.declared.answer.Outcome.TheVariants as outcome
use Rattle.world.specs.Outcomes.{committed, block_outcome, world_outcome}
use Rattle.world.specs.Texts.{committed_text, block_text, new_error_text, refreshed_text, log_purged_text, shown_found, call_block_text, procs_text, shown_calls, show_text, world_text}
use Rattle.world.specs.Doing.{IsDone}
use Rattle.replication_cli.specs.declared.tally.Tally.{Tally}
use Rattle.replication_cli.specs.Words.{word_at, digits_number}
use Rattle.replication_cli.specs.Tallies.{is_commit, is_refused, is_push, errors_of, with_text, with_outcome, NumbersFit}
use Rattle.replication_cli.specs.Runs.{IsNamedBlock}
use Rattle.replication_cli.proofs.WordsOfLines.{word_of_line, name_is_word, decimal_is_word, decimal_is_not_none, digits_number-decimal}

-- ---- counting

abbrev counted : ℕ → ℕ → ℕ → ℕ → Tally
counted commits refused pushes errors = record { commits = commits; refused = refused; pushes = pushes; errors = errors }

-- a text is counted by its tests
with_text_is : (t : Tally) (text : List ℕ) (commit refused push : Bool) (errors : ℕ) → is_commit text ≡ commit → is_refused text ≡ refused → is_push text ≡ push → errors_of text ≡ errors
    → with_text t text ≡ counted (t.commits + cond commit 1 0) (t.refused + cond refused 1 0) (t.pushes + cond push 1 0) (t.errors + errors)
with_text_is t text commit refused push errors is_c is_r is_p is_e =
    ap (λ (b : Bool). counted (t.commits + cond b 1 0) (t.refused + cond (is_refused text) 1 0) (t.pushes + cond (is_push text) 1 0) (t.errors + errors_of text)) is_c
    ∙ ap (λ (b : Bool). counted (t.commits + cond commit 1 0) (t.refused + cond b 1 0) (t.pushes + cond (is_push text) 1 0) (t.errors + errors_of text)) is_r
    ∙ ap (λ (b : Bool). counted (t.commits + cond commit 1 0) (t.refused + cond refused 1 0) (t.pushes + cond b 1 0) (t.errors + errors_of text)) is_p
    ∙ ap (λ (e : ℕ). counted (t.commits + cond commit 1 0) (t.refused + cond refused 1 0) (t.pushes + cond push 1 0) (t.errors + e)) is_e

no_errors : (text : List ℕ) → is_push text ≡ false → errors_of text ≡ 0
no_errors text is = ap (λ (b : Bool). cond b (digits_number (word_at 8 text)) 0) is

some_errors : (text : List ℕ) → is_push text ≡ true → errors_of text ≡ digits_number (word_at 8 text)
some_errors text is = ap (λ (b : Bool). cond b (digits_number (word_at 8 text)) 0) is

-- one that is of no commit with calls, of no refusal and of no push counts nothing
plain : (t : Tally) (text : List ℕ) → is_commit text ≡ false → is_refused text ≡ false → is_push text ≡ false → with_text t text ≡ t
plain t text is_c is_r is_p = with_text_is t text false false false 0 is_c is_r is_p (no_errors text is_p) ∙ simp add-zero refl

-- ---- commits

tells_commit : (text : List ℕ) (some none : Bool) → same_bytes (word_at 2 text) (codes "none") ≡ none → same_bytes (word_at 0 text) (codes "commit") ≡ some → is_commit text ≡ (some && not none)
tells_commit text some none is_none is_some = rw (is_none, is_some) refl

committed_tells : (t : Tally) (site : SiteName) (number : ℕ) → is_name site.0 ≡ true → NumbersFit (committed number) → with_text t (committed_text site number) ≡ with_outcome t (committed number)
committed_tells t site number named fits = go (number == 0) fits
  where
    nothing : List ℕ
    nothing = nothing_committed_text site.0

    some : List ℕ
    some = commit_text site.0 number

    nothing_third : word_at 2 (nothing ++ []) ≡ codes "none"
    nothing_third = word_of_line 2 (codes "commit") (site.0 ∷ codes "none" ∷ []) [] (lit≤ tt) (refl, (name_is_word site.0 named, (refl, tt)))

    some_third : number < 2 ^ 64 → word_at 2 (some ++ []) ≡ decimal number
    some_third small = word_of_line 2 (codes "commit") (site.0 ∷ decimal number ∷ []) [] (lit≤ tt) (refl, (name_is_word site.0 named, (decimal_is_word number small, tt)))

    nothing_is : is_commit (nothing ++ []) ≡ false
    nothing_is = tells_commit (nothing ++ []) true true (ap (λ (w : List ℕ). same_bytes w (codes "none")) nothing_third) refl

    some_is : number < 2 ^ 64 → is_commit (some ++ []) ≡ true
    some_is small = tells_commit (some ++ []) true false (ap (λ (w : List ℕ). same_bytes w (codes "none")) (some_third small) ∙ decimal_is_not_none number small) refl

    whole : (text : List ℕ) → text ++ [] ≡ text
    whole text = append-nil text

    go : (b : Bool) → NumbersFit (cond b outcome.NothingCommitted (outcome.Committed number)) → with_text t (cond b nothing some) ≡ with_outcome t (cond b outcome.NothingCommitted (outcome.Committed number))
    go true fits = plain t nothing (ap is_commit (sym (whole nothing)) ∙ nothing_is) refl refl
    go false fits = with_text_is t some true false false 0 (ap is_commit (sym (whole some)) ∙ some_is fits) refl refl refl ∙ simp add-zero refl

block_tells : (t : Tally) (o : Option Block) (number : ℕ) → IsNamedBlock o → NumbersFit (block_outcome o number) → with_text t (block_text o number) ≡ with_outcome t (block_outcome o number)
block_tells t None number named fits = plain t [] refl refl refl
block_tells t (Some block) number named fits = committed_tells t block.site number named fits

-- ---- pushes

pushed_tells : (t : Tally) (from to : SiteName) (count : PushCount) (more : List ℕ) → is_name from.0 ≡ true → is_name to.0 ≡ true → NumbersFit (outcome.Pushed count)
    → with_text t (push_text from.0 to.0 count ++ more) ≡ with_outcome t (outcome.Pushed count)
pushed_tells t from to count more from_named to_named fits =
    let text : List ℕ = push_text from.0 to.0 count ++ more in
    let ninth : word_at 8 text ≡ decimal count.errors =
    word_of_line 8 (codes "push") (push_words from.0 to.0 count) more (lit≤ tt)
    (refl, (name_is_word from.0 from_named, (name_is_word to.0 to_named, (refl, (decimal_is_word count.sent fits.0, (refl, (decimal_is_word count.done fits.1, (refl, (decimal_is_word count.errors fits.2, (refl, (decimal_is_word count.low fits.3, tt))))))))))) in
    let errors : errors_of text ≡ count.errors = some_errors text refl ∙ ap digits_number ninth ∙ digits_number-decimal count.errors fits.2 in
    with_text_is t text false false true count.errors refl refl refl errors ∙ simp add-zero refl

-- ---- other lines

refreshed_tells : (t : Tally) (site : SiteName) (told : Option RefreshTold) → with_text t (refreshed_text site told) ≡ t
refreshed_tells t site None = plain t [] refl refl refl
refreshed_tells t site (Some told) = go told.by_logs
  where
    go : (b : Bool) → with_text t (cond b (refresh_fast_text site.0 told.count.keys told.count.rows) (refresh_complete_text site.0 told.count.rows)) ≡ t
    go true = plain t (refresh_fast_text site.0 told.count.keys told.count.rows) refl refl refl
    go false = plain t (refresh_complete_text site.0 told.count.rows) refl refl refl

log_purged_tells : (t : Tally) (master : SiteName) (table : TableName) (o : Option ℕ) (w : WorldState) → with_text t (log_purged_text master table o w) ≡ t
log_purged_tells t master table None w = plain t [] refl refl refl
log_purged_tells t master table (Some place) w = plain t (log_purged_text master table (Some place) w) refl refl refl

found_tells : (t : Tally) (what : Shown) (site : SiteName) (o : Option SiteState) (w : WorldState) → with_text t (shown_found what site o w) ≡ t
found_tells t what site None w = plain t [] refl refl refl
found_tells t shown.Tables site (Some x) w = plain t (shown_found shown.Tables site (Some x) w) refl refl refl
found_tells t shown.Queue site (Some x) w = plain t (shown_found shown.Queue site (Some x) w) refl refl refl
found_tells t shown.Errors site (Some x) w = plain t (shown_found shown.Errors site (Some x) w) refl refl refl
found_tells t shown.Marks site (Some x) w = plain t (shown_found shown.Marks site (Some x) w) refl refl refl
found_tells t shown.Journal site (Some x) w = plain t (shown_found shown.Journal site (Some x) w) refl refl refl
found_tells t shown.Log site (Some x) w = plain t (shown_found shown.Log site (Some x) w) refl refl refl
found_tells t shown.Calls site (Some x) w = plain t [] refl refl refl

calls_found_tell : (t : Tally) (site : SiteName) (o : Option ProcState) → with_text t (shown_calls site o) ≡ t
calls_found_tell t site None = plain t [] refl refl refl
calls_found_tell t site (Some x) = plain t (shown_calls site (Some x)) refl refl refl

show_tells : (t : Tally) (what : Shown) (site : SiteName) (w : WorldState) → with_text t (show_text what site w) ≡ t
show_tells t shown.Tables site w = found_tells t shown.Tables site (site_of site w.sites) w
show_tells t shown.Queue site w = found_tells t shown.Queue site (site_of site w.sites) w
show_tells t shown.Errors site w = found_tells t shown.Errors site (site_of site w.sites) w
show_tells t shown.Marks site w = found_tells t shown.Marks site (site_of site w.sites) w
show_tells t shown.Journal site w = found_tells t shown.Journal site (site_of site w.sites) w
show_tells t shown.Log site w = found_tells t shown.Log site (site_of site w.sites) w
show_tells t shown.Calls site w = calls_found_tell t site (proc_of site w.procs.sites)

call_block_tells : (t : Tally) (o : Option CallBlock) (number : ℕ) → with_text t (call_block_text o number) ≡ t
call_block_tells t None number = plain t [] refl refl refl
call_block_tells t (Some block) number = go (number == 0)
  where
    go : (b : Bool) → with_text t (cond b (nothing_sent_text block.site.0) (sent_text block.site.0 number)) ≡ t
    go true = plain t (nothing_sent_text block.site.0) refl refl refl
    go false = plain t (sent_text block.site.0 number) refl refl refl

procs_tell : (t : Tally) (line : ProcLine) (p : Procs) → with_text t (procs_text line p) ≡ t
procs_tell t (proc_line.Table table columns) p = plain t [] refl refl refl
procs_tell t (proc_line.Procedure procedure table does) p = plain t [] refl refl refl
procs_tell t (proc_line.Calls site) p = plain t [] refl refl refl
procs_tell t (proc_line.Call call) p = plain t [] refl refl refl
procs_tell t (proc_line.Send to) p = call_block_tells t p.block (sent_number p)
procs_tell t (proc_line.Push from to) p = plain t (procs_text (proc_line.Push from to) p) refl refl refl
procs_tell t (proc_line.Fates from to fates) p = plain t [] refl refl refl
procs_tell t (proc_line.Execute site origin position) p = plain t (procs_text (proc_line.Execute site origin position) p) refl refl refl

-- ---- each line

-- the text of a line that isn't refused counts as its outcome does
pub text_tells : (t : Tally) (c : Command) (w : WorldState) → IsWellFormed c → IsNamedBlock w.block → NumbersFit (world_outcome c w) → with_text t (world_text c w) ≡ with_outcome t (world_outcome c w)
text_tells t command.Nothing w formed named fits = plain t [] refl refl refl
text_tells t (command.Declare declaration) w formed named fits = plain t [] refl refl refl
text_tells t (command.Snapshot site table parent tests) w formed named fits = plain t [] refl refl refl
text_tells t (command.Row table values) w formed named fits = plain t [] refl refl refl
text_tells t command.Resume w formed named fits = plain t [] refl refl refl
text_tells t (command.Statement statement) w formed named fits = plain t [] refl refl refl
text_tells t (command.Txn site) w formed named fits = plain t [] refl refl refl
text_tells t command.Commit w formed named fits = block_tells t w.block (commit_number w) named fits
text_tells t command.Abandon w formed named fits = plain t [] refl refl refl
text_tells t (command.Push from to count) w formed named fits = pushed_tells t from to (push_count from to count w) (flat_map new_error_text (push_errors from to count w)) formed.0 formed.1 fits
text_tells t (command.Fates from to fates) w formed named fits = plain t [] refl refl refl
text_tells t (command.ClearFates from to) w formed named fits = plain t [] refl refl refl
text_tells t (command.Link from to word) w formed named fits = plain t [] refl refl refl
text_tells t (command.Clock site time) w formed named fits = plain t [] refl refl refl
text_tells t (command.Purge site) w formed named fits = plain t (world_text (command.Purge site) w) refl refl refl
text_tells t (command.Execute site origin position) w formed named fits = plain t (world_text (command.Execute site origin position) w) refl refl refl
text_tells t (command.DropError site origin position) w formed named fits = plain t (world_text (command.DropError site origin position) w) refl refl refl
text_tells t (command.Refresh site how) w formed named fits = refreshed_tells t site (refresh_answer site how w)
text_tells t (command.PurgeLog master table) w formed named fits = log_purged_tells t master table (table_place w.schema table) w
text_tells t command.Suspend w formed named fits = plain t [] refl refl refl
text_tells t (command.Join site source) w formed named fits = plain t (world_text (command.Join site source) w) refl refl refl
text_tells t (command.Show what site) w formed named fits = show_tells t what site w
text_tells t (command.Procedures line) w formed named fits = procs_tell t line w.procs

-- so what came of a line that was done is counted as what it prints
pub outcome_counted : (number : ℕ) (t u : Tally) (c : Command) (old new : WorldState) (answer : Answer) → IsWellFormed c → IsNamedBlock old.block → IsDone number c old new answer → NumbersFit answer.outcome
    → u ≡ with_outcome t answer.outcome → u ≡ with_text t answer.lines.bytes
outcome_counted number t u c old new answer formed named done fits is =
    is ∙ ap (with_outcome t) done.outcome ∙ sym (text_tells t c old formed named (subst NumbersFit done.outcome fits)) ∙ ap (with_text t) (sym done.text)
