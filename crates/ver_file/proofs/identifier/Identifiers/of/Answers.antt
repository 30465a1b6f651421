use Rattle.std.proofs.Common.{◌++◌, [], List, flat_map, sym, ap, ◌∙◌, subst, append_assoc}
use Rattle.ver_text.specs.declared.kind.Kind.{Kind}
use Rattle.ver_syntax.specs.declared.row.Row.{Row}
use Rattle.ver_syntax.specs.Reading.{HasKinds}
use Rattle.ver_syntax.specs.Rows.{kinds_in}
use Rattle.ver_syntax.proofs.RowLemmas.{kinds_kept}
use Rattle.ver_items.specs.Declarations.{declared_by, declared_of}
use Rattle.ver_items.specs.Sections.{items}
use Rattle.ver_items.specs.SectionSteps.{rows_in, section_in}
use Rattle.ver_items.specs.Stretches.{tokens_in}
use Rattle.ver_items.proofs.RowLemmas.{items_hold, kinds_append, next_rows}
use Rattle.ver_file.specs.Firsts.{declared_among}
use Rattle.ver_file.specs.Tables.{AreRead}
use Rattle.ver_file.proofs.ReadLemmas.{all_read, kinds_end}
use Rattle.ver_file.proofs.SectionInLemmas.{declared_item, item_more, items_done, items_less, kept_begun, kept_next}
use Rattle.ver_file.proofs.identifier.Identifiers.of.Goals as goal

pub item-init : goal.item-init
item-init c =
    let text = c.args.text.now in
    record {
      count = c.in_ok-found.ensures.count;
      read = (
        [],
        subst (λ (rows : List Row). AreRead text rows [] c.in_ok-found.found) (sym (ap rows_in c.new-items.ensures ∙ items_hold text)) (c.in_ok-found.ensures.read text),
        ap (flat_map (declared_by text)) (sym c.new-items.ensures),
      );
      kept = kept_begun c.in_ok-kept.kept (items text) c.new-items.result c.in_ok-kept.ensures c.new-items.ensures;
      kinds = ([], c.new-machine.ensures, sym (ap (λ its. kinds_in (rows_in its)) c.new-items.ensures ∙ ap kinds_in (items_hold text) ∙ kinds_kept text));
    }

pub item-preserved : goal.item-preserved
item-preserved c =
    let text = c.args.text.now in
    let rows = c.read_by.new.item in
    let left = c.read_by.new.self in
    let next = (c.in_ok-read_by.ensures.next c.in-Item.is).0 in
    let (done, are, all) = c.item.invariant.read in
    let (kinds, has, whole) = c.item.invariant.kinds in
    record {
      count = c.in_ok-read_item-in-Item.ensures.count;
      read = (
        done ++ declared_among text rows,
        subst (λ (its : List Row). AreRead text (rows_in left) (done ++ declared_among text its) c.read_item.new.self) c.tokens-rows.ensures
            (c.in_ok-read_item-in-Item.ensures.read (rows_in left) done
            (subst (λ (its : List Row). AreRead text its done c.item.found)
            (next_rows rows c.item.items left next ∙ ap (λ its. its ++ rows_in left) (sym c.tokens-rows.ensures)) are)),
        item_more (declared_by text) done (declared_of text) c.item.items left rows all next
            ∙ ap (λ ds. (done ++ ds) ++ flat_map (declared_by text) left) (declared_item text rows),
      );
      kept = c.in_ok-kept-in-Item.ensures (items text) left
          (kept_next c.item.kept (items text) c.item.items (section_in (tokens_in c.tokens-rows.result) ++ left) c.item.invariant.kept
          (next ∙ ap (λ (its : List Row). section_in its ++ left) (sym c.tokens-rows.ensures)));
      kinds = (
        kinds ++ kinds_in rows,
        c.in_ok-read_by.ensures.kinds kinds has,
        whole
            ∙ ap (λ its. kinds ++ kinds_in its) (next_rows rows c.item.items left next)
            ∙ ap (λ ks. kinds ++ ks) (kinds_append rows (rows_in left))
            ∙ sym (append_assoc kinds (kinds_in rows) (kinds_in (rows_in left))),
      );
    }

pub item-smaller : goal.item-smaller
item-smaller c =
    let (next, some) = c.in_ok-read_by.ensures.next c.in-Item.is in
    items_less c.read_by.new.item c.item.items c.read_by.new.self next some

pub returns-in-End-clause-module : goal.returns-in-End-clause-module
returns-in-End-clause-module c =
    let text = c.args.text.now in
    let end = c.in_ok-read_by.ensures.end c.in-End.is in
    let (done, are, all) = c.item.invariant.read in
    let (kinds, has, whole) = c.item.invariant.kinds in
    let read = c.in_ok-read_by.ensures.kinds kinds has in
    let (tokens, grammar) = c.is_module.ensures.module text
    (subst (λ (ks : List Kind). HasKinds ks c.read_by.new.machine) (kinds_end text kinds c.item.items c.read_by.new.item whole end.0 end.1) read) c.if-is_module.true in (
      tokens,
      grammar,
      all_read text done c.item.found c.item.items end.0 (items_done (declared_by text) done (declared_of text) c.item.items all end.0) are,
    )
