-- The bytes that a script prints tell the turns of its live part.
use Rattle.std.proofs.Common.{◌≡◌, ℕ, ◌+◌, ◌≤◌, List, [], ◌∷◌, ◌++◌, length, filter, Bool, true, false, cond, Some, None, refl, sym, ap, ◌∙◌, subst, arith}
use Rattle.std.specs.Prelude.{◌||◌, nat_lt, if◌then◌else◌, Option, Result, Ok, Err}
use Rattle.std.specs.List.{AllByRecursion}
use Rattle.std.proofs.lemmas.List.{append_cancel_left}
use Rattle.rep_values.specs.declared.name.SiteName.{SiteName}
use Rattle.rep_schema.specs.declared.schema.Schema.{Schema}
use Rattle.rep_schema.specs.declared.schema.SiteEntry.{SiteEntry}
use Rattle.rep_schema.specs.Named.{site_named}
use Rattle.rep_schema.specs.Sites.{sends_to, names_of, senders_to, senders_of, is_master_site, is_among}
use Rattle.script_drive.specs.Lines.{lines_after}
use Rattle.script_drive.specs.Runs.{Stepped, halts, printed, last_state}
use Rattle.script_drive.specs.Limits.{limited}
use Rattle.report_text.specs.Texts.{malformed_text}
use Rattle.rep_values.specs.SiteNames.{is_same_site}
use Rattle.deferred_queue.proofs.Sites.{is_same_site-true}
use Rattle.script_parse.specs.declared.live_lines.LiveCommand.{LiveCommand}
use Rattle.script_parse.specs.declared.live_lines.LiveCommand.TheVariants as live_command
use Rattle.script_parse.specs.LiveLines.{live_parsed}
use Rattle.script_drive.specs.LineBytes.{most_lines, most_bytes, line_step}
use Rattle.site_state.specs.State.{SiteState}
use Rattle.site_state.specs.Steps.{begun}
use Rattle.site_events.specs.Cluster.{Cluster, site_of}
use Rattle.site_events.specs.Events.{Event, run}
use Rattle.event_laws.specs.Starts.{IsStart}
use Rattle.event_laws.specs.Waiting.{SitesLinkAsDeclared}
use Rattle.event_laws.proofs.Sites.{found_all}
use Rattle.event_laws.proofs.MarkLaws.{run_schema}
use Rattle.event_laws.proofs.OrderLaws.{are_finished_once, are_cleared_once}
use Rattle.event_laws.proofs.Streams.{arrivals_are_of_streams, links_stay}
use Rattle.live_laws.specs.declared.turn.LiveTurn.{LiveTurn}
use Rattle.live_laws.specs.Turns.{IsFullRun}
use Rattle.live_laws.specs.Printed.{IsPrintable}
use Rattle.live_laws.proofs.RisingNumbers.{every_site_has_rising_numbers}
use Rattle.live_report.specs.PartTexts.{part_text}
use Rattle.live_report.specs.PartLaws.{PrintedPartsAreKnown}
use Rattle.world_state.specs.World.{WorldState}
use Rattle.world_state.specs.Phases.{is_setup}
use Rattle.world_state.specs.Pushes.{pushed_in}
use Rattle.world.specs.Following.{IsBuilt}
use Rattle.world_laws.specs.AlikeWorlds.{IsOfConvergence, Declaring, Going}
use Rattle.world_push.specs.Lending.{live_refusal, reaching, brought_from, live_opened}
use Rattle.world_push.proofs.LiveParts.{lent_behind, opened_built}
use Rattle.world_run.specs.Ended.{RanPart}
use Rattle.world_run.specs.declared.live_part.OpenPart.{OpenPart}
use Rattle.world_run.specs.declared.live_part.LivePart.{LivePart}
use Rattle.world_run.specs.declared.live_part.LivePart.TheVariants as part
use Rattle.world_run.specs.LiveParts.{most_sessions, sessions_of, part_opened, session_in, origins_of, IsFullPart}
use Rattle.world_run.specs.LiveScripts.{LiveState, live_start, answered, plain_in, end_in, command_step, read_step, live_step, FullIn, PrintedTurnsAreKnown}
use Rattle.world_run.proofs.ReadNames.{IsSiteName}
use Rattle.world_run.proofs.OwnCounts.{HasName, AreNamed, KeepsCounts, keeps_then, pushed_keeps, site_keeps, IsSmall, kept_small}
use Rattle.world_run.proofs.SentOnward.{runs_send_on}
use Rattle.world_run.proofs.QueueBounds.{AreRun, positions_fit}
use Rattle.world_run.proofs.LiveWorldsStay.{IsLive, LivesOn, start_live, live_kept, opened_behind}
use Rattle.world_run.proofs.LiveBlocks.{block_count, blocks_of-within, is_yet, part_blocks, IsRunning, start_running, Does, Halts, Goes, Ends, line_does}

-- ---- the sites of a world

run_is : (schema : Schema) (start : Cluster) (events : List Event) → IsStart schema start → SitesLinkAsDeclared schema start.sites → AreRun schema (run events start).sites
run_is schema start events is meshed = record {
  shape = meshed.declared.shape;
  declared = (links_stay schema start events is meshed).declared.each;
  of_schema = run_schema schema start events is;
  sent = runs_send_on schema start events is;
  once = are_finished_once schema start events is;
  cleared = are_cleared_once schema start events is;
  streams = arrivals_are_of_streams schema start events is meshed;
  rising = every_site_has_rising_numbers schema start events is meshed;
}

-- behind Setup they are as events leave them
built_is_run : (w : WorldState) → is_setup w.phase ≡ false → IsOfConvergence w → AreRun w.schema w.sites
built_is_run w behind (Declaring so_far) = absurd (cc (behind, so_far.setup.setup))
built_is_run w behind (Going a) =
    subst (λ (s : Schema). AreRun s w.sites) a.of_schema
    (subst (AreRun a.schema) (sym a.leads.simulates.sites) (run_is a.schema a.start a.leads.events a.fit.start a.meshed))

-- as a site is lent out, the schema stays and nothing is journalled
brought_keeps : (names : List SiteName) (name : SiteName) (w : WorldState) → KeepsCounts w (brought_from names name w)
brought_keeps [] name w = record { own = refl; schema = refl }
brought_keeps (from ∷ more) name w =
    let come : WorldState = pushed_in from name None w in
    keeps_then w come (brought_from more name come) (pushed_keeps from name None w) (brought_keeps more name come)

opened_keeps : (name : SiteName) (w : WorldState) → KeepsCounts w (live_opened name w)
opened_keeps name w =
    let come : WorldState = brought_from (reaching name w) name w in
    keeps_then w come (live_opened name w) (brought_keeps (reaching name w) name w) (site_keeps name begun come (λ x. refl))

-- ---- what can be printed

named_among : (names : List SiteName) (origin : SiteName) → AllByRecursion IsSiteName names → is_among names origin ≡ true → IsSiteName origin
named_among [] origin all among = absurd (cc among)
named_among (n ∷ ns) origin all among = go (is_same_site n origin) refl among (named_among ns origin all.1)
  where
    go : (b : Bool) → is_same_site n origin ≡ b → (b || is_among ns origin) ≡ true → (is_among ns origin ≡ true → IsSiteName origin) → IsSiteName origin
    go true is among later = subst IsSiteName (is_same_site-true n origin is) all.0
    go false is among later = later among

all-filter : {X : Type 0} (P : X → Type 0) (test : X → Bool) (xs : List X) → AllByRecursion P xs → AllByRecursion P (filter test xs)
all-filter P test [] all = tt
all-filter P test (x ∷ xs) all = go (test x) (all-filter P test xs all.1)
  where
    go : (b : Bool) → AllByRecursion P (filter test xs) → AllByRecursion P (cond b (x ∷ filter test xs) (filter test xs))
    go true later = (all.0, later)
    go false later = later

names_named : (entries : List SiteEntry) → AllByRecursion HasName entries → AllByRecursion IsSiteName (names_of entries)
names_named [] all = tt
names_named (e ∷ es) all = (all.0, names_named es all.1)

senders_named : (schema : Schema) (site : SiteName) → AreNamed schema → AllByRecursion IsSiteName (senders_of schema site)
senders_named schema site named = go (site_named schema site)
  where
    go : (o : Option SiteEntry) → AllByRecursion IsSiteName (names_of (senders_to schema.sites o))
    go None = tt
    go (Some to) = names_named (senders_to schema.sites (Some to)) (all-filter HasName (λ from. sends_to from to) schema.sites named)

-- ---- a part

module _ (p : OpenPart) (w : WorldState) (built : IsBuilt w) (passes : live_refusal p.site w ≡ None) where
  -- the site of a part stands among sites as events leave them
  opened_is_run : AreRun (live_opened p.site w).schema (live_opened p.site w).sites
  opened_is_run =
      let behind : is_setup w.phase ≡ false = lent_behind p.site w passes in
      built_is_run (live_opened p.site w) (opened_behind p.site w built.of_script behind) (opened_built p.site w built behind).of_convergence

  -- its turns can be printed, where little came together before
  opened_printable : (n : ℕ) → IsSmall n w → n ≤ most_lines → length (sessions_of p) ≤ most_sessions → block_count (sessions_of p) ≤ n
      → (x : SiteState) → site_of p.site (live_opened p.site w).sites ≡ Some x → IsPrintable (origins_of p.site x) (sessions_of p) x
  opened_printable n before few sessions blocks x here =
      let small : IsSmall n (live_opened p.site w) = kept_small n w (live_opened p.site w) (opened_keeps p.site w) before in
      let same : x.schema ≡ (live_opened p.site w).schema = found_all (λ (y : SiteState). y.schema ≡ (live_opened p.site w).schema) p.site (live_opened p.site w).sites x opened_is_run.of_schema here in
      let named : AreNamed x.schema = subst AreNamed (sym same) small.named in
      record {
        names = λ origin among. named_among (origins_of p.site x) origin (all-filter IsSiteName (is_master_site x.schema) (senders_of x.schema p.site) (senders_named x.schema p.site named)) among;
        positions = λ origin position arrived.
            positions_fit (live_opened p.site w).schema (live_opened p.site w).sites opened_is_run (omega (arith, small.own, few)) p.site origin x position here arrived;
        sessions_fit = omega (arith, sessions);
        blocks_fit = λ session. omega (arith, blocks_of-within session (sessions_of p), blocks, few);
      }

  -- two full runs of a part are the same, where what is printed of each begins the same bytes
  known_part : PrintedPartsAreKnown → (json : Bool) (n : ℕ) → IsSmall n w → n ≤ most_lines → length (sessions_of p) ≤ most_sessions → block_count (sessions_of p) ≤ n
      → (turns others : List LiveTurn) (rest more : List ℕ) → IsFullPart p.site (sessions_of p) turns w → IsFullPart p.site (sessions_of p) others w
      → part_text json p.site turns ++ rest ≡ part_text json p.site others ++ more → turns ≡ others
  known_part law json n small few sessions blocks turns others rest more full other printed_alike =
      let both : Some other.opened ≡ Some full.opened = sym other.here ∙ full.here in
      let same : other.opened ≡ full.opened = cc both in
      law json p.site (origins_of p.site full.opened) (sessions_of p) full.opened turns others rest more
      (opened_printable n small few sessions blocks full.opened full.here) (opened_is_run.rising p.site full.opened full.here) full.full
      (subst (λ (y : SiteState). IsFullRun (origins_of p.site y) (sessions_of p) others y) same other.full) printed_alike

-- ---- behind the end of a part

-- a part that was run stays as it was
command_stays : (turns : List LiveTurn) (s : LiveState) (n : ℕ) (e : RanPart) → s.part ≡ part.Ended e → (c : LiveCommand) → (command_step turns s n c).state.part ≡ part.Ended e
command_stays turns s n e is (live_command.Plain c) = subst (λ (old : LivePart). (plain_in old s n c).state.part ≡ part.Ended e) (sym is) is
command_stays turns s n e is (live_command.Open site) = subst (λ (old : LivePart). (answered s n (part_opened old site s.world)).state.part ≡ part.Ended e) (sym is) is
command_stays turns s n e is live_command.Session = subst (λ (old : LivePart). (answered s n (session_in old)).state.part ≡ part.Ended e) (sym is) is
command_stays turns s n e is live_command.End = subst (λ (old : LivePart). (end_in turns old s n).state.part ≡ part.Ended e) (sym is) is

line_stays : (turns : List LiveTurn) (s : LiveState) (n : ℕ) (e : RanPart) → s.part ≡ part.Ended e → (line : List ℕ) → (line_step (live_step turns) s n line).state.part ≡ part.Ended e
unfolding limited live_step
line_stays turns s n e is line = go (nat_lt most_lines n) (nat_lt most_bytes (length line))
  where
    by : (o : Result LiveCommand ℕ) → (read_step turns s n o).state.part ≡ part.Ended e
    by (Err rule) = is
    by (Ok c) = command_stays turns s n e is c

    go : (a b : Bool) → (if a then halts s (malformed_text n 2) else if b then halts s (malformed_text n 1) else read_step turns s n (live_parsed line)).state.part ≡ part.Ended e
    go true b = is
    go false true = is
    go false false = by (live_parsed line)

run_stays : (turns : List LiveTurn) (s : LiveState) (n : ℕ) (e : RanPart) → s.part ≡ part.Ended e → (lines : List (List ℕ)) → (last_state (line_step (live_step turns)) s n lines).part ≡ part.Ended e
run_stays turns s n e is [] = is
run_stays turns s n e is (line ∷ lines) = go z.stops (run_stays turns z.state (n + 1) e stays lines)
  where
    z : Stepped LiveState
    z = line_step (live_step turns) s n line

    stays : z.state.part ≡ part.Ended e
    stays = line_stays turns s n e is line

    go : (b : Bool) → (last_state (line_step (live_step turns)) z.state (n + 1) lines).part ≡ part.Ended e
        → (if b then z.state else last_state (line_step (live_step turns)) z.state (n + 1) lines).part ≡ part.Ended e
    go true later = stays
    go false later = later

-- ---- a whole run

-- what comes behind a first line, and what is printed from it on
abbrev behind_first : List LiveTurn → ℕ → List (List ℕ) → Stepped LiveState → LiveState
behind_first turns n lines z = if z.stops then z.state else last_state (line_step (live_step turns)) z.state (n + 1) lines

abbrev printed_first : List LiveTurn → ℕ → List (List ℕ) → Stepped LiveState → List ℕ
printed_first turns n lines z = z.prints ++ (if z.stops then [] else printed (line_step (live_step turns)) z.state (n + 1) lines)

-- both lists are full behind lines, and the lines print the same by them
record PrintAlike (turns others : List LiveTurn) (s : LiveState) (n : ℕ) (lines : List (List ℕ)) : Type 0 where
  full : FullIn turns (last_state (line_step (live_step turns)) s n lines).part
  other : FullIn others (last_state (line_step (live_step others)) s n lines).part
  prints : printed (line_step (live_step turns)) s n lines ≡ printed (line_step (live_step others)) s n lines

-- where no part has an end there are no turns
none_yet : (turns others : List LiveTurn) (old : LivePart) → is_yet old ≡ true → FullIn turns old → FullIn others old → turns ≡ others
none_yet turns others part.NotYet yet full other = full ∙ sym other
none_yet turns others (part.Open p) yet full other = full ∙ sym other
none_yet turns others (part.Ended e) yet full other = absurd (cc yet)

module _ (law : PrintedPartsAreKnown) (turns others : List LiveTurn) where
  -- the end of a part tells its turns
  ended_known : (s : LiveState) (n : ℕ) (lines : List (List ℕ)) (p : OpenPart) → IsLive s → IsRunning n s → s.part ≡ part.Open p → n ≤ most_lines
      → FullIn turns (behind_first turns n lines (end_in turns (part.Open p) s n)).part → FullIn others (behind_first others n lines (end_in others (part.Open p) s n)).part
      → printed_first turns n lines (end_in turns (part.Open p) s n) ≡ printed_first others n lines (end_in others (part.Open p) s n) → turns ≡ others
  ended_known s n lines p live running stands few full other prints =
      let lives : LivesOn (part.Open p) s.world = subst (λ (l : LivePart). LivesOn l s.world) stands live.part in
      let blocks : block_count (sessions_of p) ≤ n = subst (λ (l : LivePart). part_blocks l ≤ n) stands running.blocks in
      known_part p s.world live.built lives.0 law s.json n running.small few lives.1 blocks turns others
      (printed (line_step (live_step turns)) (end_in turns (part.Open p) s n).state (n + 1) lines) (printed (line_step (live_step others)) (end_in others (part.Open p) s n).state (n + 1) lines)
      (subst (FullIn turns) (run_stays turns (end_in turns (part.Open p) s n).state (n + 1) _ refl lines) full)
      (subst (FullIn others) (run_stays others (end_in others (part.Open p) s n).state (n + 1) _ refl lines) other) prints

  -- a first line
  line_known : (s : LiveState) (n : ℕ) (line : List ℕ) (lines : List (List ℕ)) → IsLive s → IsRunning n s → Does s n (λ t. line_step (live_step t) s n line)
      → ((s' : LiveState) → IsLive s' → IsRunning (n + 1) s' → PrintAlike turns others s' (n + 1) lines → turns ≡ others) → PrintAlike turns others s n (line ∷ lines) → turns ≡ others
  line_known s n line lines live running (Halts out is) later alike =
      none_yet turns others s.part running.yet
      (subst (λ (z : Stepped LiveState). FullIn turns (behind_first turns n lines z).part) (is turns) alike.full)
      (subst (λ (z : Stepped LiveState). FullIn others (behind_first others n lines z).part) (is others) alike.other)
  line_known s n line lines live running (Goes s' out is running') later alike =
      let prints : out ++ printed (line_step (live_step turns)) s' (n + 1) lines ≡ out ++ printed (line_step (live_step others)) s' (n + 1) lines =
      sym (ap (printed_first turns n lines) (is turns)) ∙ alike.prints ∙ ap (printed_first others n lines) (is others) in
      later s' (subst (λ (z : Stepped LiveState). IsLive z.state) (is turns) (live_kept turns s n line live)) running' (record {
        full = subst (λ (z : Stepped LiveState). FullIn turns (behind_first turns n lines z).part) (is turns) alike.full;
        other = subst (λ (z : Stepped LiveState). FullIn others (behind_first others n lines z).part) (is others) alike.other;
        prints = append_cancel_left out _ _ prints;
      })
  line_known s n line lines live running (Ends p stands few is) later alike =
      ended_known s n lines p live running stands few
      (subst (λ (z : Stepped LiveState). FullIn turns (behind_first turns n lines z).part) (is turns) alike.full)
      (subst (λ (z : Stepped LiveState). FullIn others (behind_first others n lines z).part) (is others) alike.other)
      (sym (ap (printed_first turns n lines) (is turns)) ∙ alike.prints ∙ ap (printed_first others n lines) (is others))

  run_known : (s : LiveState) (n : ℕ) (lines : List (List ℕ)) → IsLive s → IsRunning n s → PrintAlike turns others s n lines → turns ≡ others
  run_known s n [] live running alike = none_yet turns others s.part running.yet alike.full alike.other
  run_known s n (line ∷ lines) live running alike = line_known s n line lines live running (line_does s n running line) (λ s' live' running' alike'. run_known s' (n + 1) lines live' running' alike') alike

pub printed_turns_are_known : PrintedPartsAreKnown → PrintedTurnsAreKnown
printed_turns_are_known law json script turns others full other prints =
    run_known law turns others (live_start json) 1 (lines_after [] script) (start_live json) (start_running json) (record { full = full; other = other; prints = prints })
