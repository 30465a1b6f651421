use Rattle.std.proofs.Common.{◌≡◌, ◌++◌, ◌∷◌, [], false, take, rules, sym, ap, ◌∙◌}
use Rattle.std.proofs.lemmas.List.{append_assoc}
use Rattle.std.specs.List.{before_first}
use Rattle.ver_items.specs.Begins.{begins}
use Rattle.ver_items.proofs.SectionLemmas.{before_others}
use Rattle.ver_items.proofs.StretchLemmas.{more_read, part_read}
use Rattle.ver_items.proofs.cut.CutStretch.split.Goals as goal

pub row-preserved : goal.row-preserved
row-preserved c =
    let p = begins c.args.begin in
    let r = c.in-Some.row in
    let after = c.next.new.self in
    let step : c.row.rest ≡ r ∷ after = sym c.again-after.ensures ∙ c.in-Some.ensures in
    let no : p r ≡ false = search rules in
    record {
      read = more_read c.args.self.now c.row.rest (r ∷ []) after c.row.count c.row.invariant.read step;
      before =
          c.row.invariant.before
          ∙ ap (λ rs. take c.row.count c.args.self.now ++ before_first p rs) step
          ∙ ap (λ rs. take c.row.count c.args.self.now ++ rs) (before_others p r after false no)
          ∙ sym (append_assoc (take c.row.count c.args.self.now) (r ∷ []) (before_first p after))
          ∙ ap (λ rs. rs ++ before_first p after) (sym (part_read c.args.self.now c.row.rest (r ∷ []) after c.row.count c.row.invariant.read step));
    }
