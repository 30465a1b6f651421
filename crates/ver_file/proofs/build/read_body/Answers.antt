use Rattle.std.proofs.Common.{◌≡◌, ◌++◌, [], None, flat_map, sym, ap, ◌∙◌}
use Rattle.ver_syntax.specs.Rows.{rows_of}
use Rattle.ver_items.specs.Declarations.{declared_by, declared_of}
use Rattle.ver_items.specs.SectionSteps.{rows_in}
use Rattle.ver_file.specs.Bodies.{end_in}
use Rattle.ver_file.specs.FirstFlaws.{AreFirsts}
use Rattle.ver_file.specs.Firsts.{first_of, range_flaws_in, twice_in}
use Rattle.ver_file.specs.Flaws.{name_flaws, range_flaws, syntax_flaws}
use Rattle.ver_file.specs.Netlists.{assigned_by, assigned_of, instances_by, instances_of}
use Rattle.ver_file.proofs.BodyLemmas.{flawless, last_end}
use Rattle.ver_file.proofs.CheckLemmas.{flaws_done, names_done, nested_done}
use Rattle.ver_file.proofs.FlawLemmas.{first_append}
use Rattle.ver_items.proofs.RowLemmas.{items_hold}
use Rattle.ver_file.proofs.SectionInLemmas.{items_done, items_fewer}
use Rattle.ver_file.proofs.build.read_body.Goals as goal

pub item-init : goal.item-init
item-init c =
    let text = c.args.scope.now.text.now in
    record {
      scope = record { table = c.requires.clash.table; distinct = c.requires.clash.without };
      read = record {
        clash =
            (λ i. first_of (c.requires.clash.first i) (range_flaws_in text (c.new-items.ensures i)))
            ∙ sym (first_append None (name_flaws text) (flat_map (range_flaws (declared_of text)) (declared_of text)));
        twice = λ i. first_of None (twice_in text (c.in_ok-seen.ensures i) (c.new-items.ensures i));
        grammar = ap (λ ss. first_of None (flat_map (syntax_flaws text) ss)) c.new-items.ensures;
        instances = λ none. sym (λ i. c.new-instances.ensures i ++ flat_map (instances_by text) (c.new-items.ensures i));
        assigned = λ none. sym (λ i. c.new-assigned.ensures i ++ flat_map (assigned_by text) (c.new-items.ensures i));
        end = ap end_in (sym (ap rows_in c.new-items.ensures ∙ items_hold text));
      };
    }

pub item-smaller : goal.item-smaller
item-smaller c =
    items_fewer c.read.new.item c.item.items c.read.new.self c.in_ok-read.field-0 c.in_ok-read.ensures.next c.in_ok-read.ensures.more c.if-branch.true

pub returns : goal.returns
returns c =
    let text = c.args.scope.now.text.now in
    let body = c.item.body in
    let read = c.item.invariant.read in
    let none : c.item.items ≡ [] = c.in_ok-read.ensures.end c.if-branch.false in
    let firsts : AreFirsts text body.firsts = record {
      clash = sym (nested_done (range_flaws (declared_of text)) (declared_by text) body.firsts.clash c.item.items none) ∙ read.clash;
      twice = sym (names_done text body.firsts.twice c.item.seen.instances c.item.items none) ∙ read.twice;
      grammar = sym (flaws_done (syntax_flaws text) body.firsts.grammar c.item.items none) ∙ read.grammar;
    } in
    record {
      firsts = firsts;
      instances = λ e. items_done (instances_by text) body.instances (instances_of text) c.item.items (read.instances (flawless text body.firsts firsts e)) none;
      assigned = λ e. items_done (assigned_by text) body.assigned (assigned_of text) c.item.items (read.assigned (flawless text body.firsts firsts e)) none;
      end = last_end body.end (end_in (rows_of text)) c.item.items none read.end;
    }
