-- What a net passes, refusal by refusal.
use Rattle.std.proofs.Common.{◌≡◌, ℕ, true, false, List, [], ◌∷◌, length, arith, sym, ap, ◌∙◌, subst}
use Rattle.std.specs.List.{list_any}
use Rattle.elmore.specs.declared.tree.Node.{Node}
use Rattle.rc_tree.specs.Answers.{IsTreeOf}
use Rattle.rc_tree.specs.Chains.{AreJoined}
use Rattle.rc_tree.specs.Faults.{NoneFloats, HasLoop}
use Rattle.rc_tree.proofs.OneTreeLemmas.{one_tree}
use Rattle.spef_net.specs.declared.net.ParConn.{ParConn}
use Rattle.spef_net.specs.declared.net.ParNet.{ParNet}
use Rattle.spef_wire.specs.declared.refusal.Refusal.TheVariants.{Floating, Loop, NoSink, Unconstrained, TooLarge}
use Rattle.spef_wire.specs.Refusals.{is_sink, IsDrivenAt, IsNetTree, IsWithinNetLimits, IsFirstRefusal, PassesUpTo}

-- one connection drives a net, so its root is one
pub root_once : (net : ParNet) (a b : ℕ) → IsDrivenAt net a → IsDrivenAt net b → a ≡ b
root_once net a b p q = let same : p.driver ∷ [] ≡ q.driver ∷ [] = sym p.alone ∙ q.alone in let e : p.driver ≡ q.driver = cc in sym p.at ∙ ap (λ (conn : ParConn). conn.node) e ∙ q.at

-- no node floats
passes_floating : (net : ParNet) (root : ℕ) → PassesUpTo 12 net → IsDrivenAt net root → NoneFloats (length net.nodes) net.ress root → PassesUpTo 13 net
passes_floating net root passed driven joined (Floating name) low floats =
    floats.floating.floats
    (subst (λ (r : ℕ). AreJoined net.ress r floats.v) (root_once net root floats.root driven floats.driven) (joined floats.v floats.floating.node))
passes_floating net root passed driven joined r low h = passed r (omega (arith, low)) h

pub first_loop : (net : ParNet) (root : ℕ) → PassesUpTo 12 net → IsDrivenAt net root → HasLoop (length net.nodes) net.ress root → IsFirstRefusal net Loop
first_loop net root passed driven loop = record {
  holds = record { root = root; driven = driven; loop = loop };
  first = passes_floating net root passed driven loop.joined;
}

-- the net has a tree
pub passes_loop : (net : ParNet) (root : ℕ) (tree : List Node) (order : List ℕ) → PassesUpTo 12 net → IsDrivenAt net root
    → IsTreeOf (length net.nodes) root net.caps net.ress tree order → PassesUpTo 14 net
passes_loop net root tree order passed driven a_tree Loop low looped = looped.loop.count a_tree.no_loop
passes_loop net root tree order passed driven a_tree r low h = passes_floating net root passed driven a_tree.joined r (omega (arith, low)) h

pub passes_sink : (net : ParNet) → PassesUpTo 14 net → list_any is_sink net.conns ≡ true → PassesUpTo 15 net
passes_sink net passed sink NoSink low none = let clash : true ≡ false = sym sink ∙ none in absurd (cc)
passes_sink net passed sink r low h = passed r (omega (arith, low)) h

pub first_no_sink : (net : ParNet) → PassesUpTo 14 net → list_any is_sink net.conns ≡ false → IsFirstRefusal net NoSink
first_no_sink net passed none = record { holds = none; first = passed }

passes_16 : (net : ParNet) → PassesUpTo 15 net → PassesUpTo 16 net
passes_16 net passed (Unconstrained node) low h = h
passes_16 net passed r low h = passed r (omega (arith, low)) h

-- a net has one tree
tree_once : (net : ParNet) (tree : List Node) (order : List ℕ) (others : List Node) (numbers : List ℕ) → IsNetTree net tree order → IsNetTree net others numbers → tree ≡ others
tree_once net tree order others numbers p q =
    let same = one_tree (length net.nodes) p.root net.caps net.ress tree others order numbers p.a_tree
    (subst (λ (r : ℕ). IsTreeOf (length net.nodes) r net.caps net.ress others numbers) (root_once net q.root p.root q.driven p.driven) q.a_tree) in
    same.0

-- its tree passes no limit
pub passes_limits : (net : ParNet) (tree : List Node) (order : List ℕ) → PassesUpTo 15 net → IsNetTree net tree order → IsWithinNetLimits net tree → PassesUpTo 17 net
passes_limits net tree order passed a_tree within TooLarge low large =
    large.past (subst (λ (t : List Node). IsWithinNetLimits net t) (tree_once net tree order large.tree large.order a_tree large.a_tree) within)
passes_limits net tree order passed a_tree within r low h = passes_16 net passed r (omega (arith, low)) h
