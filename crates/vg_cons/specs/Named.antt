-- A node by the texts of its name.
use Rattle.vg_scan.specs.declared.name.NodeName.{NodeName}
use Rattle.vg_cons.specs.declared.node.NodeRef.{NodeRef}

-- the name that these texts are
abbrev pub named : NodeRef → NodeName
named node = record { owner = node.owner.now; leaf = node.leaf.now }
