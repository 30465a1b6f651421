use Rattle.std.proofs.Common.{◌≡◌, ◌∷◌, flat_map, fold, map, sym, ap, ◌∙◌}
use Rattle.name_tables.specs.Distinct.{with_name}
use Rattle.ver_file.specs.Firsts.{first_of, named_by}
use Rattle.ver_file.specs.Flaws.{connection_flaws, named, repeated}
use Rattle.ver_items.specs.Sections.{Section, instances_in}
use Rattle.ver_file.proofs.FirstLemmas.{next_flaws}
use Rattle.ver_file.proofs.FlawLemmas.{next_section, no_section}
use Rattle.ver_file.proofs.check.check_instances.Goals as goal

pub instance-preserved : goal.instance-preserved
instance-preserved g c =
    let text = c.args.scope.now.text.now in
    let s : Section = record { head = c.instance-in-instance.inside.head; body = g.T.Stretch.tokens c.instance-in-instance.inside.body } in
    let e : c.instance.instance-iterator ≡ s ∷ c.next.new.self = c.in-Some.ensures.steps ∙ ap (λ t. t ∷ c.next.new.self) (sym c.instance-in-instance.view_is) in
    record {
      names =
          ap (λ names. fold with_name names (map (named_by text) c.next.new.self)) c.in_ok-twice.ensures.names
          ∙ sym (ap (λ ss. fold with_name c.instance.seen.instances (map (named_by text) ss)) e)
          ∙ c.instance.invariant.names;
      twice =
          (λ i. first_of (c.in_ok-twice.ensures.first i) (repeated (c.in_ok-twice.ensures.names i) (map (named text) c.next.new.self)))
          ∙ sym (next_section text c.instance.twice c.instance.seen.instances s c.instance.instance-iterator c.next.new.self e)
          ∙ c.instance.invariant.twice;
      grammar =
          ap (λ first. first_of first (flat_map (connection_flaws text) c.next.new.self)) c.in_ok-grammar.ensures
          ∙ sym (next_flaws (connection_flaws text) c.instance.grammar c.in-Some.instance c.instance.instance-iterator c.next.new.self c.in-Some.ensures.steps)
          ∙ c.instance.invariant.grammar;
    }

pub returns-clause-twice : goal.returns-clause-twice
returns-clause-twice g c =
    sym (no_section c.args.scope.now.text.now c.instance.twice c.instance.seen.instances c.instance.instance-iterator c.in-None.ensures.steps.0)
    ∙ c.instance.invariant.twice
    ∙ ap (λ ss. first_of c.args.firsts.twice (repeated c.args.seen.now.instances (map (named c.args.scope.now.text.now) ss)))
    (c.into_iter-instance-iterator.ensures.into_iter_gives ∙ c.new-instance-items.ensures ∙ ap (λ (s : Section). instances_in s) c.item.view_is)
