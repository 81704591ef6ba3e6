use Rattle.std.proofs.Common.{inl, inr, sym, subst}
use Rattle.page_tables.proofs.Declarations.{IsAside, stored_aside}
use Rattle.page_tables.proofs.change.change_of.Goals as goal

-- neither a table nor a constraint is declared
pub returns-in-Site : goal.returns-in-Site
returns-in-Site c =
    let aside : IsAside c.args.declaration.now = elim c.in-Site.is [
      | inl a ↦ subst IsAside (sym a.1) tt
      | inr (inl a) ↦ subst IsAside (sym a.1) tt
      | inr (inr (inl a)) ↦ subst IsAside (sym a.2) tt
      | inr (inr (inr (inl a))) ↦ subst IsAside (sym a.3) tt
      | inr (inr (inr (inr (inl a)))) ↦ subst IsAside (sym a.3) tt
      | inr (inr (inr (inr (inr (inl a))))) ↦ subst IsAside (sym a.3) tt
      | inr (inr (inr (inr (inr (inr (inl a)))))) ↦ subst IsAside (sym a.2) tt
      | inr (inr (inr (inr (inr (inr (inr (inl a))))))) ↦ subst IsAside (sym a.3) tt
      | inr (inr (inr (inr (inr (inr (inr (inr (inl a)))))))) ↦ subst IsAside (sym a.5) tt
      | inr (inr (inr (inr (inr (inr (inr (inr (inr a)))))))) ↦ subst IsAside (sym a.1) tt
    ] in
    stored_aside c.args.declaration.now c.args.schema.now c.args.stored.now aside c.requires.indexed
