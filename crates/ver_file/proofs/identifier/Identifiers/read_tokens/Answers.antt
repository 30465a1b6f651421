use Rattle.std.proofs.Common.{◌≡◌, ◌++◌, ◌∷◌, [], List, Some, length, sym, ap, ◌∙◌, subst, append_assoc}
use Rattle.std.proofs.lemmas.List.{append-nil}
use Rattle.ver_syntax.specs.declared.row.Row.{Row}
use Rattle.ver_items.specs.Declarations.{Declared, heading_of}
use Rattle.ver_file.specs.Firsts.{declared_among, declared_under}
use Rattle.ver_file.specs.Tables.{AreRead}
use Rattle.ver_file.proofs.ReadLemmas.{declared_left, heading_after, heading_begun, heading_kept, none_left, next_declared}
use Rattle.ver_file.proofs.identifier.Identifiers.read_tokens.Goals as goal
use Rattle.ver_file.proofs.identifier.Identifiers.read_tokens.Goals.{then-begins_declaration, else-begins_declaration}

pub row-preserved : goal.row-preserved
row-preserved g c =
    let text = c.args.text.now in
    let r = c.in-Some.row in
    let after = (g.T.Stretch.tokens c.next.new.self) in
    let heading = c.if-begins_declaration.heading in
    let cut : (g.T.Stretch.tokens c.row.left) ≡ r ∷ after = c.in-Some.ensures in
    let e : heading ≡ heading_after text c.row.heading r after =
    elim c.if-begins_declaration.branch as (λ _. heading ≡ heading_after text c.row.heading r after) [
      | then-begins_declaration w ↦
          w.heading-is ∙ ap (λ h. Some h) (w.of.ensures ∙ ap (heading_of text) w.before-declaration.ensures)
          ∙ sym (heading_begun text c.row.heading r after (sym c.begins_declaration.ensures ∙ w.if-begins_declaration.true))
      | else-begins_declaration w ↦ w.heading-is ∙ sym (heading_kept text c.row.heading r after (sym c.begins_declaration.ensures ∙ w.if-begins_declaration.false))
    ] in
    record {
      count = c.in_ok-read.ensures.count;
      read = λ others ds h.
          let (done, are, all) = c.row.invariant.read others ds h in (
            done ++ declared_under text heading (r ∷ []),
            c.in_ok-read.ensures.read (after ++ others) done (subst (λ (rows : List Row). AreRead text (rows ++ others) done c.row.self) cut are),
            all ∙ ap (λ rows. done ++ declared_left text c.row.heading rows) cut
                ∙ ap (λ more. done ++ more) (next_declared text c.row.heading r after)
                ∙ ap (λ g. done ++ (declared_under text g (r ∷ []) ++ declared_left text g after)) (sym e)
                ∙ sym (append_assoc done (declared_under text heading (r ∷ [])) (declared_left text heading after)),
          );
    }

pub returns-clause-read : goal.returns-clause-read
returns-clause-read g c = λ others ds h.
    let text = c.args.text.now in
    let (done, are, all) = c.row.invariant.read others ds h in
    let e : ds ++ declared_among text (g.T.Stretch.tokens c.args.rows.now) ≡ done =
    all ∙ ap (λ more. done ++ more) (none_left text c.row.heading (g.T.Stretch.tokens c.row.left) (ap length c.in_default.ensures.0)) ∙ append-nil done in
    subst (λ (left : List Declared). AreRead text others left c.row.self) (sym e)
    (subst (λ (rows : List Row). AreRead text (rows ++ others) done c.row.self) c.in_default.ensures.0 are)
