use Rattle.std.proofs.Common.{◌≡◌, ◌∙◌, ◌<◌, ℕ, List, [], sym, ap, arith, length, get_or, BTreeMap, Vec, Global}
use Rattle.std.specs.Prelude.{option_map, unwrap_or}
use Rattle.std.proofs.lemmas.List.FromFn.{get_or-map-range_with_len, length-map-range_with_len}
use Rattle.ver_net.specs.declared.pin_ref.PinRef.{PinRef}
use Rattle.std.specs.List.{range_with_len}
use Rattle.std.proofs.Common.{map}
use Rattle.ver_net.specs.Tables.{row_kept}
use Rattle.ver_net.proofs.sparse.SparseRows.row.Goals as goal

row_at : (rows : BTreeMap ℕ (Vec PinRef Global)) (count net : ℕ) (view : List (List PinRef)) → map (row_kept rows) (range_with_len 0 count) ≡ view → net < length view
    → row_kept rows net ≡ get_or view net []
row_at rows count net view is within =
    sym (get_or-map-range_with_len (row_kept rows) 0 count net net [] (omega (arith, ap length is, length-map-range_with_len (row_kept rows) 0 count, within)) (omega arith))
    ∙ ap (λ ps. get_or ps net []) is

pub returns-in-Some : goal.returns-in-Some
returns-in-Some c =
    c.as_slice.ensures.value
    ∙ ap (λ o. unwrap_or (option_map (λ (row : Vec PinRef Global). row.items) o) []) c.in-Some.ensures.value
    ∙ row_at c.self.inside.rows c.self.inside.count c.args.net c.args.self.now c.self.view_is c.requires

pub returns-in-None : goal.returns-in-None
returns-in-None c =
    ap (λ o. unwrap_or (option_map (λ (row : Vec PinRef Global). row.items) o) []) c.in-None.ensures.value
    ∙ row_at c.self.inside.rows c.self.inside.count c.args.net c.args.self.now c.self.view_is c.requires
