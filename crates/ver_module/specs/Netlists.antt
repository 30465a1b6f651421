-- The netlist that a module is: its nets, and its instances with their connections. Source: IEEE Std 1364-2005, clauses
-- 3.3 and 4.3 (nets and vectors), 6.1 (continuous assignments), 12.1.2 (instances) and 12.3.6 (connections by name).
use Rattle.std.specs.Prelude.{◌≡◌, ℕ, ◌<◌, ◌^◌, Bool, List, [], ◌∷◌, ◌++◌, length, map, Option, Some, None, ⊤}
use Rattle.std.specs.Fmt.{decimal}
use Rattle.std.specs.List.{All}
use Rattle.vg_scan.specs.declared.lines.Span.{Span}
use Rattle.ver_module.specs.declared.direction.PortDir.{PortDir}
use Rattle.ver_module.specs.declared.net.Identifier.{Identifier}
use Rattle.ver_module.specs.declared.link.Link.{Link}
use Rattle.ver_module.specs.declared.link.Link.TheVariants.{Open, One, Many}
use Rattle.ver_module.specs.Ranges.{bits_of}

-- ---- nets

-- A net: a scalar, or one bit of a vector.
pub record Net : Type 0 where
  pub name : List ℕ
  pub base : List ℕ
  pub bit : Option ℕ
  pub escaped : Bool
  pub port : Option PortDir
  pub supply : Bool

-- the name of a bit of an identifier, or of the identifier itself
abbrev pub net_name : List ℕ → Option ℕ → List ℕ
net_name base None = base
net_name base (Some bit) = base ++ 91 ∷ decimal bit ++ 93 ∷ []

-- a net has the name of its identifier, a bit with its number
abbrev pub IsNamed : Net → Type 0
IsNamed net = net.name ≡ net_name net.base net.bit

-- the net of an identifier of this name that a bit is, or its one net
abbrev pub net_of : List ℕ → Identifier → Option ℕ → Net
net_of base identifier bit = record {
  name = net_name base bit;
  base = base;
  bit = bit;
  escaped = identifier.escaped;
  port = identifier.port;
  supply = identifier.supply;
}

-- the nets of an identifier: a vector gives its bits from its left bound
abbrev pub nets_by : List ℕ → Identifier → List Net
nets_by base identifier = map (net_of base identifier) (bits_of identifier.range)

-- the nets of identifiers of these names
unfoldable pub nets_with : List (List ℕ) → List Identifier → List Net
nets_with [] identifiers = []
nets_with (name ∷ names) [] = []
nets_with (name ∷ names) (identifier ∷ more) = nets_by name identifier ++ nets_with names more

-- The nets of a module by their identifiers: the names of these, all distinct, and what holds of all nets of each.
pub record NetTable : Type 0 where
  pub names : List (List ℕ)
  pub identifiers : List Identifier

-- all nets, those of one identifier after those of another
abbrev pub nets_in : NetTable → List Net
nets_in table = nets_with table.names table.identifiers

-- ---- instances

-- A pin of an instance, where its connection's expression stands, and what it is linked to.
pub record Pin : Type 0 where
  pub name : List ℕ
  pub span : Span
  pub link : Link

-- An instance of a cell, with its pins in order.
pub record Instance : Type 0 where
  pub name : List ℕ
  pub cell : List ℕ
  pub pins : List Pin

-- instances, of which the last has one pin more
abbrev pub with_pin : List Instance → Pin → List Instance
with_pin [] pin = []
with_pin (i ∷ []) pin = record { name = i.name; cell = i.cell; pins = i.pins ++ pin ∷ [] } ∷ []
with_pin (i ∷ next ∷ more) pin = i ∷ with_pin (next ∷ more) pin

-- ---- the whole

-- A module: its nets and its instances. A link and an assignment have nets by their numbers.
pub record Netlist : Type 0 where
  pub name : List ℕ
  pub nets : List Net
  pub instances : List Instance
  pub assigned : List ℕ
  pub head_end : ℕ
  pub end_at : ℕ

-- the nets of a link are among so many
abbrev pub IsWithin : ℕ → Link → Type 0
IsWithin count Open = ⊤
IsWithin count (One net) = net < count
IsWithin count (Many nets) = All (λ net. net < count) nets

-- the nets of all links are among so many
abbrev pub AreWithin : ℕ → List Instance → Type 0
AreWithin count instances = All (λ i. All (λ p. IsWithin count p.link) i.pins) instances

-- A netlist links and assigns only nets that it has. Its nets, its instances and the pins of each are numbered below
-- 2^32.
pub record IsSound (m : Netlist) : Type 0 where
  pub links : AreWithin (length m.nets) m.instances
  pub assigned : All (λ net. net < length m.nets) m.assigned
  pub few_nets : length m.nets < 2 ^ 32
  pub few_instances : length m.instances < 2 ^ 32
  pub few_pins : All (λ i. length i.pins < 2 ^ 32) m.instances
