-- A join that isn't refused, where its source was read at its place: the copy of it makes the world that the line makes.
use Rattle.std.proofs.Common.{◌≡◌, ℕ, List, [], ◌∷◌, ◌++◌, map, get_or, true, Some, None, sym, ap, ◌∙◌}
use Rattle.rep_values.specs.declared.name.SiteName.{SiteName}
use Rattle.rep_schema.specs.declared.schema.Schema.{Schema}
use Rattle.rep_schema.specs.Tables.{Rows}
use Rattle.script_parse.specs.declared.command.Command.TheVariants as command
use Rattle.site_state.specs.State.{SiteState}
use Rattle.rep_schema.specs.Sites.{is_master_site}
use Rattle.site_state.specs.Contents.{tables_of}
use Rattle.site_state.specs.Joining.{site_open}
use Rattle.site_events.specs.Cluster.{site_of}
use Rattle.site_events.specs.Joins.{copied, joined}
use Rattle.world_state.specs.World.{WorldState}
use Rattle.world_state.specs.Answers.{number_there, row_count, join_count}
use Rattle.world.specs.Finding.{IsAt}
use Rattle.world.specs.Following.{IsBuilt}
use Rattle.world.specs.Precheck.{precheck_refusal}
use Rattle.world.proofs.Written.{site_of-world}
use Rattle.world.proofs.Joining.{CanJoin, can_join}
use Rattle.world_commands.specs.Joining.{world_join}

module _ (w : WorldState) (built : IsBuilt w) (site source : SiteName) (passes : precheck_refusal (command.Join site source) w ≡ None) (seen : WorldState) (xs : List SiteState)
    (world_is : seen ≡ w) (xs_are : xs ≡ seen.sites) where
  can : CanJoin w site source
  can = can_join w site source built passes

  -- the source is there
  pub source_is_there : site_of source xs ≡ None → ⊥
  source_is_there none =
      let there : site_of source xs ≡ Some can.from = ap (site_of source) (xs_are ∙ ap (λ (v : WorldState). v.sites) world_is) ∙ can.found in
      cc (there, none)

  -- this is it
  module _ (place : ℕ) (x : SiteState) (at : IsAt source xs place) (stands : x ≡ get_or seen.sites place x) where
    found : site_of source w.sites ≡ Some x
    found = site_of-world source seen w xs place x world_is xs_are at stands

    from_is : can.from ≡ x
    from_is = cc (can.found, found)

    -- by its schema the one that joins is a master
    pub joins_as_master : is_master_site x.schema site ≡ true
    joins_as_master = ap (λ (s : Schema). is_master_site s site) (ap (λ (y : SiteState). y.schema) (sym from_is) ∙ can.of_schema) ∙ can.master

    -- with its copy behind the others, which are open to that, the world is the one that the line makes
    pub world_joined : (ys new : List SiteState) (made : SiteState) → ys ≡ seen.sites → made ≡ copied ys x site → new ≡ map (site_open site) seen.sites ++ made ∷ []
        → record seen { sites = new } ≡ world_join site source w
    world_joined ys new made ys_are is put =
        let same : seen.sites ≡ w.sites = ap (λ (v : WorldState). v.sites) world_is in
        let copy : made ≡ copied w.sites can.from site = is ∙ ap (λ (zs : List SiteState). copied zs x site) (ys_are ∙ same) ∙ ap (λ (y : SiteState). copied w.sites y site) (sym from_is) in
        let all : new ≡ joined site source w.sites =
        put ∙ ap (λ (zs : List SiteState). map (site_open site) zs ++ made ∷ []) same ∙ ap (λ (y : SiteState). map (site_open site) w.sites ++ y ∷ []) copy ∙ sym can.sites in
        ap (λ (zs : List SiteState). record seen { sites = zs }) all ∙ ap (λ (v : WorldState). record v { sites = joined site source w.sites }) world_is

    -- and its rows are those that are taken over
    pub rows_taken_over : (rows : ℕ) (tables : List Rows) → rows ≡ row_count tables → tables ≡ tables_of x → rows ≡ join_count source w
    rows_taken_over rows tables counted are = counted ∙ ap row_count are ∙ sym (ap (number_there (λ (y : SiteState). row_count (tables_of y))) found)
