use Rattle.std.proofs.Common.{subst, sym, ◌∙◌}
use Rattle.std.proofs.lemmas.Result.{err_from_is_err_and}
use Rattle.spef_file.specs.IndexFiles.{file_of}
use Rattle.lib_linear.specs.Libraries.{Denotes as DenotesLibrary}
use Rattle.ver_file.specs.Modules.{Denotes as DenotesModule}
use Rattle.design_read.specs.Designs.{AreRowsOf, texts_of}
use Rattle.design_read.proofs.LibraryLemmas.{few, rising}
use Rattle.design_read.proofs.ReadLemmas.{file_is, spef_first, lib_first, ver_first, cons_first}
use Rattle.design_read.proofs.read.read_design.Goals as goal

pub returns-in_err-index-clause-fault : goal.returns-in_err-index-clause-fault
returns-in_err-index-clause-fault c =
    let p = err_from_is_err_and c.from_residual.result c.from_residual.ensures.1 in
    rw (p.1, p.2) (λ spef is. spef_first spef c.args.text is c.args.lib.now c.args.verilog.now c.args.cons.now c.in_err-index.field-0.0 c.in_err-index.ensures.fault)

pub returns-in_err-library-clause-fault : goal.returns-in_err-library-clause-fault
returns-in_err-library-clause-fault c =
    let p = err_from_is_err_and c.from_residual-in_err-library.result c.from_residual-in_err-library.ensures.1 in
    rw (p.1, p.2)
    (λ spef is. lib_first (texts_of spef c.args.lib.now c.args.verilog.now c.args.cons.now) c.in_err-library.field-0.0
    (file_is spef c.args.text is (file_of c.in_ok-index.index) c.in_ok-index.ensures.index.said) c.in_err-library.ensures.fault)

pub returns-in_err-netlist-clause-fault : goal.returns-in_err-netlist-clause-fault
returns-in_err-netlist-clause-fault c =
    let p = err_from_is_err_and c.from_residual-in_err-netlist.result c.from_residual-in_err-netlist.ensures.1 in
    rw (p.1, p.2)
    (λ spef is. ver_first (texts_of spef c.args.lib.now c.args.verilog.now c.args.cons.now) c.in_err-netlist.field-0.0
    (file_is spef c.args.text is (file_of c.in_ok-index.index) c.in_ok-index.ensures.index.said) (c.in_ok-library.library, c.in_ok-library.ensures.library)
    c.in_err-netlist.ensures.fault)

pub returns-in_err-cons-clause-fault : goal.returns-in_err-cons-clause-fault
returns-in_err-cons-clause-fault c =
    let p = err_from_is_err_and c.from_residual-in_err-cons.result c.from_residual-in_err-cons.ensures.1 in
    rw (p.1, p.2)
    (λ spef is. cons_first (texts_of spef c.args.lib.now c.args.verilog.now c.args.cons.now) c.in_err-cons.field-0.0
    (file_is spef c.args.text is (file_of c.in_ok-index.index) c.in_ok-index.ensures.index.said) (c.in_ok-library.library, c.in_ok-library.ensures.library)
    (c.in_ok-netlist.netlist, c.in_ok-netlist.ensures.netlist) c.in_err-cons.ensures.fault)

pub new-requires-clause-rising : goal.new-requires-clause-rising
new-requires-clause-rising c = rising _ c.in_ok-library.library c.in_ok-library.ensures.library

pub new-requires-clause-few : goal.new-requires-clause-few
new-requires-clause-few c = few _ c.in_ok-library.library c.in_ok-library.ensures.library

pub returns-clause-design : goal.returns-clause-design
returns-clause-design c =
    let made = c.in_ok-design.ensures in
    λ spef is. record {
      is_spef = file_is spef c.args.text is (file_of c.in_ok-index.index) c.in_ok-index.ensures.index.said;
      spef = made.spef ∙ is;
      library = subst (λ said. DenotesLibrary c.args.lib.now said) (sym made.library) c.in_ok-library.ensures.library;
      netlist = subst (λ said. DenotesModule c.args.verilog.now said) (sym made.netlist) c.in_ok-netlist.ensures.netlist;
      rows = subst (λ rows. AreRowsOf c.args.cons.now rows) (sym made.rows) c.in_ok-cons.ensures.rows;
    }
