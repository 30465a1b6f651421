-- What a net that is split into stages keeps of its cells.
use Rattle.std.proofs.Common.{◌≡◌, ℕ, ◌+◌, ◌-◌, ◌<◌, ◌^◌, Bool, true, length, get_or, slice_index, sym, ap, ◌∙◌, arith, inl, inr, Option}
use Rattle.std.proofs.lemmas.Bool.{cases_eq, false≢true}
use Rattle.std.proofs.lemmas.List.{get_or_default}
use Rattle.elmore.specs.Cells.{rep_of}
use Rattle.elmore.specs.Path.{Falls}
use Rattle.elmore.proofs.HeadLemmas.{head_cell, head_other}
use Rattle.elmore.proofs.TreeLemmas.{tree_falls}
use Rattle.vg_split.specs.Stages.{heads, heads_to, AreStages}
use Rattle.vg_split.specs.declared.stages.Stages.{Stages}
use Rattle.vg_split.proofs.StageLists.{few_heads, head_below, head_is}
use Rattle.vg_split.specs.Conditions.{IsSplit}
use Rattle.vg_split.specs.Splits.{Split, forest, head, is_celled, stage_from}
use Rattle.vg_split.proofs.StageNumberLemmas.{head_number, number_below, number_head, number_some, own_number}

pub falls : (x : Split) → Falls (forest x).parent
falls x = tree_falls x.problem.tree.nodes x.problem.tree.a_tree

-- a stage begins at a node
pub head_low : (x : Split) (k : ℕ) → k < length (heads (forest x)) → head x k < length x.problem.tree.nodes
head_low x k low = head_below (forest x) (length x.problem.tree.nodes) k low

-- a cell stands below the root
pub cell_below : (x : Split) → IsSplit x → (w : ℕ) → is_celled x w ≡ true → 0 < w
cell_below x is w has = elim (cases_eq w 0) [
  | inl e ↦ absurd (false≢true (sym (ap (λ (o : Option ℕ). bare o) is.root) ∙ ap (is_celled x) (sym e) ∙ has))
  | inr other ↦ omega (arith, other)
]
  where
    bare : Option ℕ → Bool
    bare o = Rattle.std.specs.Prelude.is_some (rep_of x.problem.reps o)

-- the stage that begins at a cell
pub from_low : (x : Split) (w : ℕ) → w < length x.problem.tree.nodes → is_celled x w ≡ true → stage_from x w < length (heads (forest x))
from_low x w low has = number_below (forest x) w low (head_cell (forest x).cell w has)

pub from_head : (x : Split) (w : ℕ) → w < length x.problem.tree.nodes → is_celled x w ≡ true → head x (stage_from x w) ≡ w
from_head x w low has = number_head (forest x) w low (head_cell (forest x).cell w has)

pub from_some : (x : Split) → IsSplit x → (w : ℕ) → is_celled x w ≡ true → 0 < stage_from x w
from_some x is w has = number_some (forest x) w (cell_below x is w has)

pub cell_stage : (x : Split) (stages : Stages) → AreStages (forest x) stages → (w : ℕ) → w < length x.problem.tree.nodes → is_celled x w ≡ true
    → slice_index stages.stage_of.items w ≡ stage_from x w
cell_stage x stages are w low has = own_number (forest x) (falls x) (slice_index stages.stage_of.items w) w low has (are.each w low)

-- a stage behind the root's begins at a cell
pub head_celled : (x : Split) (k : ℕ) → 0 < k → k < length (heads (forest x)) → is_celled x (head x k) ≡ true
head_celled x k some low =
    head_other (forest x).cell (head x k) (head_is (forest x) (forest x).n k low)
    (λ e. absurd (omega (arith, some, head_number (forest x) k low, ap (λ v. length (heads_to (forest x) v)) e)))

-- the numbers of cells are those of a machine
pub number_fits : (x : Split) → IsSplit x → (k : ℕ) → k < length (heads (forest x)) → x.first + (k - 1) < 2 ^ 64
number_fits x is k low = omega (arith, is.few, low, few_heads (forest x) (forest x).n, is.tree, is.one_each)

-- a number that stands for a cell's stage
pub record IsNumber (x : Split) (node number : ℕ) : Type 0 where
  pub is : number ≡ stage_from x node
  pub some : 0 < number
  pub fits : x.first + (number - 1) < 2 ^ 64

pub number_is : (x : Split) (stages : Stages) (node number : ℕ) → IsSplit x → AreStages (forest x) stages → node < length x.problem.tree.nodes
    → is_celled x node ≡ true → number ≡ get_or stages.stage_of.items node number → IsNumber x node number
number_is x stages node number is are low has read =
    let e : number ≡ stage_from x node
    = read ∙ get_or_default stages.stage_of.items node number 0 (omega (arith, low, are.one_each)) ∙ cell_stage x stages are node low has in
    record {
      is = e;
      some = omega (arith, e, from_some x is node has);
      fits = omega (arith, e, number_fits x is (stage_from x node) (from_low x node low has));
    }
