use Rattle.cand_pool.proofs.UnionOrder.{union_heavies, union_taken, union_all, union_undominated, union_rises}
use Rattle.cand_pool.proofs.laws.union_undominated.Goals as goal

pub returns : goal.returns
returns c = record { order = union_heavies; taken = union_taken; all = union_all; undominated = union_undominated; rises = union_rises }
