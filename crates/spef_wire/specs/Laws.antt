-- What a user knows of the answers for the net of a name.
use Rattle.std.specs.Prelude.{◌≡◌, ℕ, ◌<◌, ◌≤◌, List}
use Rattle.elmore.specs.declared.tree.Node.{Node}
use Rattle.spef_net.specs.declared.net.ParNet.{ParNet}
use Rattle.spef_wire.specs.Refusals.{number_of, IsNetTree, PassesUpTo}
use Rattle.spef_wire.specs.Nets.{IsNetNamed, IsRefusalOf}
use Rattle.spef_wire.specs.declared.refusal.Refusal.{Refusal}

-- a file has at most one net of a name
abbrev pub OneNet : Type 0
OneNet = (text name : List ℕ) (net other : ParNet) → IsNetNamed text name net → IsNetNamed text name other → net ≡ other

-- a net has at most one tree
abbrev pub OneTree : Type 0
OneTree =
    (net : ParNet) (tree other : List Node) (order places : List ℕ) → IsNetTree net tree order
    → IsNetTree net other places
    → (tree ≡ other) × (order ≡ places)

-- a name has at most one refusal, by the parasitics alone
abbrev pub OneRefusal : Type 0
OneRefusal = (text name : List ℕ) (a b : Refusal) → IsRefusalOf text name a → IsRefusalOf text name b → a ≡ b

-- where all refusals below a number are passed, none of them refuses the net
abbrev pub PassedOrRefused : Type 0
PassedOrRefused =
    (text name : List ℕ) (net : ParNet) (n : ℕ) (refusal : Refusal) → IsNetNamed text name net
    → PassesUpTo n net → 3 ≤ n
    → IsRefusalOf text name refusal → number_of refusal < n → ⊥
