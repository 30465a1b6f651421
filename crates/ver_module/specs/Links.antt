-- The links that a module lends.
use Rattle.ver_module.specs.declared.link.Link.{Link}
use Rattle.ver_module.specs.declared.link.Link.TheVariants.{Open, One, Many}
use Rattle.ver_module.specs.declared.link.LinkRef.{LinkRef}
use Rattle.ver_module.specs.declared.link.LinkRef.TheVariants.{Open as LentOpen, One as LentOne, Many as LentMany}

-- the link that is lent
abbrev pub lent_link : LinkRef → Link
lent_link LentOpen = Open
lent_link (LentOne net) = One net
lent_link (LentMany nets) = Many nets.now
