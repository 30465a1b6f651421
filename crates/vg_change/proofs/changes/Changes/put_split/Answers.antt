use Rattle.std.proofs.Common.{◌≡◌, ℕ, true, List, [], ◌∷◌, ◌++◌, length, sym, ap, ◌∙◌, subst, arith}
use Rattle.std.specs.List.{Contains}
use Rattle.spef_file.specs.Indexes.{IsIndexOf}
use Rattle.spef_file.specs.Tables.{is_section}
use Rattle.spef_net.specs.declared.net.ParNet.{ParNet}
use Rattle.ver_module.specs.Netlists.{Netlist}
use Rattle.ver_patch.specs.Pins.{AreRewirable}
use Rattle.vg_design.specs.Designs.{Design}
use Rattle.vg_design.specs.declared.pins.PinnedNet.{PinnedNet}
use Rattle.vg_patch.specs.Edits.{Edit, Rise, end_of}
use Rattle.vg_split.specs.Conditions.{IsSplit}
use Rattle.vg_scan.specs.declared.lines.Span.{Span}
use Rattle.vg_split.specs.Splits.{Split as SplitSpec}
use Rattle.vg_change.specs.Changes.{Changes as ChangesSpec, IsChange, IsSectionEdit}
use Rattle.vg_change.specs.Placed.{cells_of, rewires_of, wires_of}
use Rattle.vg_change.specs.Steps.{placed_by}
use Rattle.vg_change.proofs.PutLemmas.{has_put, rise_last}
use Rattle.vg_change.proofs.RowLemmas.{id_within, section_here, section_within}
use Rattle.vg_change.proofs.RewirableLemmas.{rewirable_more}
use Rattle.vg_change.proofs.changes.Changes.put_split.Goals as goal

pub span_of-span-requires : goal.span_of-span-requires
span_of-span-requires c =
    let d_is = ap (λ (s : ChangesSpec). s.design) c.self.view_is in
    let index = c.index-index.result.now in
    let of = subst (λ (e : Design). IsIndexOf e.spef index) d_is c.index-index.ensures in
    let name_is = c.as_bytes.ensures ∙ ap (λ (y : SplitSpec). y.par.name) c.x.view_is ∙ ap (λ (p : ParNet). p.name) c.requires.split.par in
    subst (λ (m : List ℕ). is_section index.sections m ≡ true) (sym name_is)
    (section_here c.args.self.design c.requires.joined.0 c.args.pinned.now.net c.requires.joined.1 index of)

pub replace_by-requires-clause-behind : goal.replace_by-requires-clause-behind
replace_by-requires-clause-behind c =
    let d_is = ap (λ (s : ChangesSpec). s.design) c.self.view_is in
    let index = c.index-index.result.now in
    let of = subst (λ (e : Design). IsIndexOf e.spef index) d_is c.index-index.ensures in
    let name_is = c.as_bytes.ensures ∙ ap (λ (y : SplitSpec). y.par.name) c.x.view_is in
    let section = c.span_of-span.ensures.0 in
    let row = subst (λ (m : List ℕ). Contains index.sections (m, section)) name_is c.span_of-span.ensures.1 in
    let behind = c.requires.behind index section (record { index_of = of; row = row }) in
    omega (arith, behind, ap (λ (s : ChangesSpec). end_of s.sections) c.self.view_is, ap (λ (s : Span). s.from) c.span_of-span.ensures.2)

pub push_cells-requires : goal.push_cells-requires
push_cells-requires c =
    let d_is = ap (λ (s : ChangesSpec). s.design) c.self.view_is in
    record {
      id =
          omega (
            arith,
            id_within c.args.self.design c.requires.joined.0 c.args.pinned.now.net c.requires.joined.1,
            ap (λ (p : PinnedNet). p.net.id) c.pinned.view_is,
            ap (λ (m : Netlist). length m.nets) c.netlist.ensures,
            ap (λ (e : Design). length e.netlist.nets) d_is,
          );
    }

pub invariant_of-result : goal.invariant_of-result
invariant_of-result c =
    let self = c.args.self in
    let n = c.args.pinned.now.net in
    let x = c.args.x.now in
    let view = c.self.view_is in
    let was : IsChange self = subst IsChange view c.self.invariant in
    let d_is = ap (λ (s : ChangesSpec). s.design) view in
    let p_is = ap (λ (s : ChangesSpec). s.prefix) view in
    let index = c.index-index.result.now in
    let of = subst (λ (e : Design). IsIndexOf e.spef index) d_is c.index-index.ensures in
    let name_is = c.as_bytes.ensures ∙ ap (λ (y : SplitSpec). y.par.name) c.x.view_is in
    let section = c.span_of-span.ensures.0 in
    let row = subst (λ (m : List ℕ). Contains index.sections (m, section)) name_is c.span_of-span.ensures.1 in
    let behind = c.requires.behind index section (record { index_of = of; row = row }) in
    let within = section_within self.design index x.par.name section of row in
    let from_is = ap (λ (s : Span). s.from) c.span_of-span.ensures.2 in
    let to_is = ap (λ (s : Span). s.to) c.span_of-span.ensures.2 in
    let e : Edit = record { from = c.span_of-span.result.from; to = c.span_of-span.result.to; text = c.in_ok-text.text.items } in
    let sections_are : c.replace_by.new.self ≡ self.sections ++ e ∷ [] = c.in_ok-replace_by.ensures.last ∙ ap (λ (s : ChangesSpec). s.sections ++ e ∷ []) view in
    let rewires_are : c.push_rewires.new.to ≡ self.rewires ++ rewires_of self.design.netlist (placed_by n x) x
    = c.in_ok-push_rewires.ensures ∙ ap (λ (s : ChangesSpec). s.rewires ++ rewires_of s.design.netlist (placed_by n x) x) view in
    let own = subst IsSplit c.x.view_is c.x.invariant.0 in
    let now : IsChange (record self { sections = c.replace_by.new.self; rewires = c.push_rewires.new.to; cells = c.push_cells.new.to; wires = c.push_wires.new.to })
    = record {
      prefix = was.prefix;
      free = was.free;
      repeaters = was.repeaters;
      rise =
          subst (Rise 0 (length self.design.spef)) (sym sections_are)
          (rise_last 0 self.sections e (length self.design.spef) was.rise (omega arith) (omega (arith, behind, from_is)) (omega (arith, within.0, from_is, to_is))
          (omega (arith, within.1, to_is)));
      rewirable =
          subst (AreRewirable self.design.netlist) (sym rewires_are)
          (rewirable_more self.design.netlist n x own c.requires.split.par self.rewires was.rewirable c.requires.fresh);
    } in
    subst IsChange
    (λ j. record {
      design = sym d_is j;
      prefix = sym p_is j;
      sections = c.replace_by.new.self;
      rewires = c.push_rewires.new.to;
      cells = c.push_cells.new.to;
      wires = c.push_wires.new.to;
    }) now

pub returns : goal.returns
returns c =
    let self = c.args.self in
    let n = c.args.pinned.now.net in
    let x = c.args.x.now in
    let view = c.self.view_is in
    let d_is = ap (λ (s : ChangesSpec). s.design) view in
    let index = c.index-index.result.now in
    let of = subst (λ (e : Design). IsIndexOf e.spef index) d_is c.index-index.ensures in
    let name_is = c.as_bytes.ensures ∙ ap (λ (y : SplitSpec). y.par.name) c.x.view_is in
    let section = c.span_of-span.ensures.0 in
    let row = subst (λ (m : List ℕ). Contains index.sections (m, section)) name_is c.span_of-span.ensures.1 in
    let said = c.in_ok-text.ensures in
    let from_is = ap (λ (s : Span). s.from) c.span_of-span.ensures.2 in
    let to_is = ap (λ (s : Span). s.to) c.span_of-span.ensures.2 in
    let e : Edit = record { from = c.span_of-span.result.from; to = c.span_of-span.result.to; text = c.in_ok-text.text.items } in
    let edit : IsSectionEdit self.design.spef x e = record {
      index = index;
      section = section;
      nets = said.nets;
      named = record { index_of = of; row = row };
      stages = said.stages;
      is = λ j. record { from = from_is j; to = to_is j; text = said.is j };
    } in
    has_put self n x e c.self.inside.design.now c.self.inside.prefix.now c.replace_by.new.self c.push_rewires.new.to c.push_cells.new.to c.push_wires.new.to
    c.requires.split edit d_is (ap (λ (s : ChangesSpec). s.prefix) view) (c.in_ok-replace_by.ensures.last ∙ ap (λ (s : ChangesSpec). s.sections ++ e ∷ []) view)
    (c.in_ok-push_rewires.ensures ∙ ap (λ (s : ChangesSpec). s.rewires ++ rewires_of s.design.netlist (placed_by n x) x) view)
    (c.in_ok-push_cells.ensures
    ∙ ap (λ (m : Netlist). c.self.inside.cells ++ cells_of m c.pinned.inside.0.0.id x) c.netlist.ensures
    ∙ ap (λ (s : ChangesSpec). s.cells ++ cells_of s.design.netlist c.pinned.inside.0.0.id x) view
    ∙ ap (λ (p : PinnedNet). self.cells ++ cells_of self.design.netlist p.net.id x) c.pinned.view_is)
    (c.in_ok-push_wires.ensures ∙ ap (λ (s : ChangesSpec). s.wires ++ wires_of x) view)
