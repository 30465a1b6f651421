use Rattle.std.proofs.Common.{Bool, true, false, ◌≡◌, ◌++◌, flat_map, refl, sym, ap, ◌∙◌}
use Rattle.std.specs.Option.{option_or}
use Rattle.ver_syntax.specs.Rows.{rows_of}
use Rattle.ver_items.specs.Declarations.{declared_by, declared_of}
use Rattle.ver_items.specs.SectionSteps.{section_in}
use Rattle.ver_file.specs.Bodies.{end_in}
use Rattle.ver_file.specs.FirstFlaws.{IsFlawless}
use Rattle.ver_file.specs.Firsts.{range_flaws_in, twice_in}
use Rattle.ver_file.specs.Flaws.{range_flaws, syntax_flaws}
use Rattle.ver_file.specs.Netlists.{assigned_by, assigned_of, instances_by, instances_of, nets_named}
use Rattle.ver_file.proofs.BodyLemmas.{built_more, flawless_before, next_end}
use Rattle.ver_file.proofs.CheckLemmas.{items_more, names_more, nested_more}
use Rattle.ver_file.proofs.NetLemmas.{not_first}
use Rattle.ver_file.proofs.OtherLemmas.{other_assigned, other_end}
use Rattle.ver_file.proofs.build.read_tokens.Goals as goal

contrary : (b : Bool) → b ≡ true → b ≡ false → ⊥
contrary true e f = absurd (cc)
contrary false e f = absurd (cc)

pub push_instances-requires : goal.push_instances-requires
push_instances-requires g c =
    let text = c.args.scope.now.text.now in
    let item = section_in (g.T.Stretch.tokens c.args.rows.now) in
    let b : IsFlawless c.args.body.now.firsts =
    flawless_before c.args.body.now.firsts c.in_ok-firsts.firsts (range_flaws_in text item) (twice_in text c.args.seen.now.instances item)
    (flat_map (syntax_flaws text) item) c.in_ok-firsts.ensures.clash c.in_ok-firsts.ensures.twice c.in_ok-firsts.ensures.grammar
    (c.are_none.ensures.none c.if-not-are_none.false) in
    c.requires.scope.distinct b.clash

pub push_assigned-requires : goal.push_assigned-requires
push_assigned-requires g c =
    let text = c.args.scope.now.text.now in
    let item = section_in (g.T.Stretch.tokens c.args.rows.now) in
    let b : IsFlawless c.args.body.now.firsts =
    flawless_before c.args.body.now.firsts c.in_ok-firsts.firsts (range_flaws_in text item) (twice_in text c.args.seen.now.instances item)
    (flat_map (syntax_flaws text) item) c.in_ok-firsts.ensures.clash c.in_ok-firsts.ensures.twice c.in_ok-firsts.ensures.grammar
    (c.are_none.ensures.none c.if-not-are_none.false) in
    c.requires.scope.distinct b.clash

pub returns-clause-scope : goal.returns-clause-scope
returns-clause-scope g c = record {
  table = c.requires.scope.table;
  distinct = λ none.
      c.requires.scope.distinct
      (not_first c.args.body.now.firsts.clash (range_flaws_in c.args.scope.now.text.now (section_in (g.T.Stretch.tokens c.args.rows.now))) (sym c.in_ok-firsts.ensures.clash ∙ none)).0;
}

pub returns-then-not-are_none-clause-scope : goal.returns-then-not-are_none-clause-scope
returns-then-not-are_none-clause-scope g c = record {
  table = c.requires.scope.table;
  distinct = λ none.
      c.requires.scope.distinct
      (not_first c.args.body.now.firsts.clash (range_flaws_in c.args.scope.now.text.now (section_in (g.T.Stretch.tokens c.args.rows.now))) (sym c.in_ok-firsts.ensures.clash ∙ none)).0;
}

pub returns-then-not-are_none-clause-read : goal.returns-then-not-are_none-clause-read
returns-then-not-are_none-clause-read g c = λ left h.
    let text = c.args.scope.now.text.now in
    let rows = g.T.Stretch.tokens c.args.rows.now in
    let old = c.args.body.now in
    let all = section_in rows ++ left in
    record {
      clash =
          nested_more (range_flaws (declared_of text)) (declared_by text) old.firsts.clash c.in_ok-firsts.firsts.clash all left rows rows refl refl c.in_ok-firsts.ensures.clash
          ∙ h.clash;
      twice =
          names_more text old.firsts.twice c.in_ok-firsts.firsts.twice c.args.seen.now.instances c.check_item.new.seen.instances all left rows rows refl refl
          c.in_ok-firsts.ensures.twice c.in_ok-firsts.ensures.names
          ∙ h.twice;
      grammar =
          items_more (syntax_flaws text) old.firsts.grammar c.in_ok-firsts.firsts.grammar all left rows rows refl refl c.in_ok-firsts.ensures.grammar
          ∙ h.grammar;
      instances = λ none. absurd (contrary c.are_none.result (c.are_none.ensures.only none) c.if-not-are_none.true);
      assigned = λ none. absurd (contrary c.are_none.result (c.are_none.ensures.only none) c.if-not-are_none.true);
      end =
          next_end old.end c.or-body.result (end_in (rows_of text)) all left rows rows refl refl
          (c.or-body.ensures ∙ ap (option_or old.end) (c.end_in.ensures ∙ other_end rows (g.T.Stretch.tokens c.others_in-others.result) c.others_in-others.ensures)) h.end;
    }

pub returns-clause-read : goal.returns-clause-read
returns-clause-read g c = λ left h.
    let text = c.args.scope.now.text.now in
    let rows = g.T.Stretch.tokens c.args.rows.now in
    let others = g.T.Stretch.tokens c.others_in-others.result in
    let old = c.args.body.now in
    let all = section_in rows ++ left in
    let item = section_in rows in
    let before = flawless_before old.firsts c.in_ok-firsts.firsts (range_flaws_in text item) (twice_in text c.args.seen.now.instances item)
    (flat_map (syntax_flaws text) item) c.in_ok-firsts.ensures.clash c.in_ok-firsts.ensures.twice c.in_ok-firsts.ensures.grammar in
    record {
      clash =
          nested_more (range_flaws (declared_of text)) (declared_by text) old.firsts.clash c.in_ok-firsts.firsts.clash all left rows rows refl refl c.in_ok-firsts.ensures.clash
          ∙ h.clash;
      twice =
          names_more text old.firsts.twice c.in_ok-firsts.firsts.twice c.args.seen.now.instances c.check_item.new.seen.instances all left rows rows refl refl
          c.in_ok-firsts.ensures.twice c.in_ok-firsts.ensures.names
          ∙ h.twice;
      grammar =
          items_more (syntax_flaws text) old.firsts.grammar c.in_ok-firsts.firsts.grammar all left rows rows refl refl c.in_ok-firsts.ensures.grammar
          ∙ h.grammar;
      instances = λ none.
          built_more (instances_by text) old.instances c.push_instances.new.to (instances_of text) all left rows rows c.of-item.result
          (h.instances (before none)) refl refl c.of-item.ensures c.in_ok-push_instances.ensures;
      assigned = λ none.
          built_more (assigned_by text) old.assigned c.push_assigned.new.to (assigned_of text) all left rows rows c.of-item.result
          (h.assigned (before none)) refl refl c.of-item.ensures
          (c.in_ok-push_assigned.ensures
          ∙ ap (λ ss. old.assigned ++ flat_map (nets_named text) ss) (other_assigned text rows others (g.T.Stretch.tokens c.after_first-after.result) c.of-item.result c.others_in-others.ensures c.after_first-after.ensures c.of-item.ensures));
      end =
          next_end old.end c.or-body.result (end_in (rows_of text)) all left rows rows refl refl
          (c.or-body.ensures ∙ ap (option_or old.end) (c.end_in.ensures ∙ other_end rows others c.others_in-others.ensures)) h.end;
    }
