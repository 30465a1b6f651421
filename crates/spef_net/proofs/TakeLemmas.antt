-- A line is taken, or refused.
use Rattle.std.proofs.Common.{◌≡◌, ℕ, Bool, true, false, ◌||◌, ◌&&◌, cond, eqb, not, List, [], ◌∷◌, ◌++◌, refl, sym, ap, ◌∙◌, subst, Option, Some, None, is_some, Result, Ok, Err}
use Rattle.vg_num.specs.declared.fault.NumFault.{NumFault}
use Rattle.vg_scan.specs.declared.name.NodeName.{NodeName}
use Rattle.spef_net.specs.declared.net.ConnKind.{ConnKind}
use Rattle.spef_net.specs.declared.net.Direction.{Direction}
use Rattle.spef_net.specs.declared.part.Part.{Part}
use Rattle.spef_net.specs.declared.fault.NetKind.{NetKind}
use Rattle.spef_net.specs.declared.fault.NetKind.TheVariants.{Conn, Foreign, SelfCoupled}
use Rattle.spef_net.specs.Statements.{Opens, Nothing, Connects, Star, Ground, Coupling, Resistor}
use Rattle.std.specs.List.{slice_get}
use Rattle.vg_scan.specs.Nodes.{has_node, node_value}
use Rattle.spef_nodes.specs.Names.{is_own}
use Rattle.spef_nodes.specs.Members.{with_node, is_inner}
use Rattle.spef_nodes.specs.Nodes.{fresh, joined, starred, note_at, is_joined, is_starred}
use Rattle.spef_net.specs.Statements.{Stated, ground, coupling, resistor}
use Rattle.spef_net.specs.Rows.{own_one, is_inductance, joined_of, starred_of}
use Rattle.spef_net.specs.Faults.{number_fault, fault_of}
use Rattle.spef_net.specs.Builders.{PartialNet, IsPartialNet, noted_by, ConnAdded, AddsCap, AddsRes, Taken, Takes}
use Rattle.spef_nodes.specs.Members.{is_known}
use Rattle.spef_net.specs.Sights.{Sees, SeesTwo}
use Rattle.spef_nodes.proofs.NodeListLemmas.{known-with_node}
use Rattle.spef_net.proofs.NotedLemmas.{again_is, joined_is, fresh_is}
use Rattle.spef_net.specs.Views.{IsFaultOrMemory}
use Rattle.spef_net.proofs.BuilderLemmas.{IsNext, noted_there, partial_more, head_next, nothing_next, conn_next, star_next, again_next, ground_next, coupling_next, resistor_next}

-- a line without a fault
taken : (connected : List NodeName) (net : List ℕ) (before : List Stated) (old next new : PartialNet) (line : Stated) (u : Unit {0}) → fault_of connected net before line ≡ None
    → IsPartialNet connected net before old → new ≡ next → IsNext connected net before old line next → Taken (Ok u) connected net before line new
taken connected net before old next new line u f s is n =
    (f, subst (λ (d : PartialNet). IsPartialNet connected net (before ++ line ∷ []) d) (sym is) (partial_more connected net before old line next s n))

-- faults, by what is known
conn_fault : (connected : List NodeName) (net : List ℕ) (before : List Stated) (old mid : PartialNet) (kind : ConnKind) (direction : Direction) (node : NodeName) (note : List ℕ) (id : ℕ) → IsPartialNet connected net before old
    → mid ≡ record old { nodes = with_node old.nodes node } → slice_get (with_node old.nodes node) id ≡ Some node
    → fault_of connected net before (Ok (Connects kind direction node note)) ≡ cond (is_joined (note_at mid.notes id) || is_starred (note_at mid.notes id)) (Some Conn) None
unfolding fault_of
conn_fault connected net before old mid kind direction node note id s grown at =
    let there : note_at mid.notes id ≡ noted_by (joined_of before) (starred_of before) node = ap (λ m. note_at m.notes id) grown ∙ noted_there connected net before old node id s at in
    sym (ap (λ b. cond b (Some Conn) None) (again_is (node_value (joined_of before) node) (node_value (starred_of before) node)))
    ∙ sym (ap (λ n. cond (is_joined n || is_starred n) (Some Conn) None) there)

star_fault : (connected : List NodeName) (net : List ℕ) (before : List Stated) (old mid : PartialNet) (node : NodeName) (note : List ℕ) (id : ℕ) → IsPartialNet connected net before old
    → mid ≡ record old { nodes = with_node old.nodes node } → slice_get (with_node old.nodes node) id ≡ Some node → is_inner net node ≡ true
    → fault_of connected net before (Ok (Star node note)) ≡ cond (not (is_joined (note_at mid.notes id))) None (Some Conn)
unfolding fault_of
star_fault connected net before old mid node note id s grown at inner =
    let there : note_at mid.notes id ≡ noted_by (joined_of before) (starred_of before) node = ap (λ m. note_at m.notes id) grown ∙ noted_there connected net before old node id s at in
    ap (λ b. cond (b && not (is_some (node_value (joined_of before) node))) None (Some Conn)) inner
    ∙ sym (ap (λ b. cond (not b) None (Some Conn)) (ap is_joined there ∙ joined_is (node_value (joined_of before) node) (node_value (starred_of before) node)))

outer_fault : (connected : List NodeName) (net : List ℕ) (before : List Stated) (node : NodeName) (note : List ℕ) → is_inner net node ≡ false → fault_of connected net before (Ok (Star node note)) ≡ Some Conn
unfolding fault_of
outer_fault connected net before node note inner = ap (λ b. cond (b && not (is_some (node_value (joined_of before) node))) None (Some Conn)) inner

ground_fault : (connected : List NodeName) (net : List ℕ) (before : List Stated) (old : PartialNet) (node : NodeName) (value : Result ℕ NumFault) → IsPartialNet connected net before old
    → fault_of connected net before (Ok (Ground node value)) ≡ cond (is_known old.nodes net node) (number_fault value) (Some Foreign)
unfolding fault_of
ground_fault connected net before old node value s = sym (ap (λ b. cond b (number_fault value) (Some Foreign)) (s.own node))

coupling_fault : (connected : List NodeName) (net : List ℕ) (before : List Stated) (old : PartialNet) (a b : NodeName) (value : Result ℕ NumFault) → IsPartialNet connected net before old
    → fault_of connected net before (Ok (Coupling a b value))
    ≡ cond (is_known old.nodes net a && is_known old.nodes net b) (Some SelfCoupled) (cond (is_known old.nodes net a || is_known old.nodes net b) (number_fault value) (Some Foreign))
unfolding fault_of
coupling_fault connected net before old a b value s =
    sym (ap (λ t. cond (t && is_own connected net b) (Some SelfCoupled) (cond (t || is_own connected net b) (number_fault value) (Some Foreign))) (s.own a))
    ∙ sym (ap (λ t. cond (is_known old.nodes net a && t) (Some SelfCoupled) (cond (is_known old.nodes net a || t) (number_fault value) (Some Foreign))) (s.own b))

resistor_fault : (connected : List NodeName) (net : List ℕ) (before : List Stated) (old : PartialNet) (a b : NodeName) (value : Result ℕ NumFault) → IsPartialNet connected net before old
    → fault_of connected net before (Ok (Resistor a b value)) ≡ cond (is_known old.nodes net a && is_known old.nodes net b) (number_fault value) (Some Foreign)
unfolding fault_of
resistor_fault connected net before old a b value s =
    sym (ap (λ t. cond (t && is_own connected net b) (number_fault value) (Some Foreign)) (s.own a))
    ∙ sym (ap (λ t. cond (is_known old.nodes net a && t) (number_fault value) (Some Foreign)) (s.own b))

opens_fault : (connected : List NodeName) (net : List ℕ) (before : List Stated) (part : Part) → fault_of connected net before (Ok (Opens part)) ≡ None
unfolding fault_of
opens_fault connected net before part = refl

nothing_fault : (connected : List NodeName) (net : List ℕ) (before : List Stated) → fault_of connected net before (Ok Nothing) ≡ None
unfolding fault_of
nothing_fault connected net before = refl

-- heads, and lines that say nothing
pub takes_head : (net : List ℕ) (old new : PartialNet) (part : Part) (inductive : Bool) (u : Unit {0}) → inductive ≡ (old.inductive || is_inductance (Ok (Opens part))) → new ≡ record old { inductive = inductive }
    → Takes (Ok u) net old (Ok (Opens part)) new
takes_head net old new part inductive u e is = λ connected before counted s.
    taken connected net before old (record old { inductive = inductive }) new (Ok (Opens part)) u (opens_fault connected net before part) s is (head_next connected net before old part inductive s e)

pub takes_nothing : (net : List ℕ) (old : PartialNet) (u : Unit {0}) → Takes (Ok u) net old (Ok Nothing) old
takes_nothing net old u = λ connected before counted s.
    taken connected net before old old old (Ok Nothing) u (nothing_fault connected net before) s refl (nothing_next connected net before old s)

-- connections
pub conn_again : (net : List ℕ) (old mid new : PartialNet) (kind : ConnKind) (direction : Direction) (node : NodeName) (note : List ℕ) (id : ℕ)
    → mid ≡ record old { nodes = with_node old.nodes node } → slice_get (with_node old.nodes node) id ≡ Some node
    → (is_joined (note_at mid.notes id) || is_starred (note_at mid.notes id)) ≡ true → Takes (Err Conn) net old (Ok (Connects kind direction node note)) new
conn_again net old mid new kind direction node note id grown at e = λ connected before counted s.
    conn_fault connected net before old mid kind direction node note id s grown at ∙ ap (λ b. cond b (Some Conn) None) e

or_split : (a b : Bool) → (a || b) ≡ false → (a ≡ false) × (b ≡ false)
or_split true b e = absurd (cc)
or_split false b e = (refl, e)

-- nothing is noted of a node whose number has no note
still_fresh : (connected : List NodeName) (net : List ℕ) (before : List Stated) (old mid : PartialNet) (node : NodeName) (id : ℕ) → IsPartialNet connected net before old
    → mid ≡ record old { nodes = with_node old.nodes node } → slice_get (with_node old.nodes node) id ≡ Some node → is_joined (note_at mid.notes id) ≡ false → is_starred (note_at mid.notes id) ≡ false
    → noted_by (joined_of before) (starred_of before) node ≡ fresh
still_fresh connected net before old mid node id s grown at e f =
    let there : note_at mid.notes id ≡ noted_by (joined_of before) (starred_of before) node = ap (λ m. note_at m.notes id) grown ∙ noted_there connected net before old node id s at in
    fresh_is (node_value (joined_of before) node) (node_value (starred_of before) node) (sym (ap is_joined there) ∙ e) (sym (ap is_starred there) ∙ f)

pub takes_conn : (net : List ℕ) (old mid new : PartialNet) (kind : ConnKind) (direction : Direction) (node : NodeName) (note : List ℕ) (id : ℕ) (u : Unit {0})
    → mid ≡ record old { nodes = with_node old.nodes node } → slice_get (with_node old.nodes node) id ≡ Some node
    → (is_joined (note_at mid.notes id) || is_starred (note_at mid.notes id)) ≡ false → ConnAdded mid (record { kind = kind; node = id; direction = direction }) note new
    → Takes (Ok u) net old (Ok (Connects kind direction node note)) new
takes_conn net old mid new kind direction node note id u grown at e added = λ connected before counted s.
    let (put, is) = added in
    let known : is_known old.nodes net node ≡ true = s.own node ∙ ap (λ b. b || is_inner net node) counted in
    let n = or_split (is_joined (note_at mid.notes id)) (is_starred (note_at mid.notes id)) e in
    taken connected net before old _ new (Ok (Connects kind direction node note)) u
    (conn_fault connected net before old mid kind direction node note id s grown at ∙ ap (λ b. cond b (Some Conn) None) e) s
    (is ∙ ap (λ (m : PartialNet). let r : PartialNet = record m { notes = new.notes; conns = m.conns ++ record { kind = kind; node = id; direction = direction } ∷ [] } in r) grown)
    (conn_next connected net before old kind direction node note id new.notes s known at (still_fresh connected net before old mid node id s grown at n.0 n.1)
    (λ i. put i ∙ ap (λ (m : PartialNet). cond (eqb i id) (joined note) (note_at m.notes i)) grown))

-- nodes inside the net
pub star_outer : (net : List ℕ) (old new : PartialNet) (node : NodeName) (note : List ℕ) → is_inner net node ≡ false → Takes (Err Conn) net old (Ok (Star node note)) new
star_outer net old new node note e = λ connected before counted s. outer_fault connected net before node note e

pub star_joined : (net : List ℕ) (old mid new : PartialNet) (node : NodeName) (note : List ℕ) (id : ℕ)
    → mid ≡ record old { nodes = with_node old.nodes node } → slice_get (with_node old.nodes node) id ≡ Some node → is_inner net node ≡ true
    → is_joined (note_at mid.notes id) ≡ true → Takes (Err Conn) net old (Ok (Star node note)) new
star_joined net old mid new node note id grown at inner e = λ connected before counted s.
    star_fault connected net before old mid node note id s grown at inner ∙ ap (λ b. cond (not b) None (Some Conn)) e

both_first : (a b : Bool) → (a && b) ≡ true → a ≡ true
both_first true b e = refl
both_first false b e = absurd (cc)

pub or_right : (a b : Bool) → b ≡ true → (a || b) ≡ true
or_right true b e = refl
or_right false b e = e

pub takes_star : (net : List ℕ) (old mid new : PartialNet) (node : NodeName) (note : List ℕ) (id : ℕ) (u : Unit {0})
    → mid ≡ record old { nodes = with_node old.nodes node } → slice_get (with_node old.nodes node) id ≡ Some node → is_inner net node ≡ true
    → is_joined (note_at mid.notes id) ≡ false → is_starred (note_at mid.notes id) ≡ false
    → ((i : ℕ) → note_at new.notes i ≡ cond (eqb i id) (starred note) (note_at mid.notes i)) → new ≡ record mid { notes = new.notes } → Takes (Ok u) net old (Ok (Star node note)) new
takes_star net old mid new node note id u grown at inner e f put is = λ connected before counted s.
    taken connected net before old _ new (Ok (Star node note)) u
    (star_fault connected net before old mid node note id s grown at inner ∙ ap (λ b. cond (not b) None (Some Conn)) e) s
    (is ∙ ap (λ (m : PartialNet). let r : PartialNet = record m { notes = new.notes } in r) grown)
    (star_next connected net before old node note id new.notes s (or_right (has_node old.nodes node) (is_inner net node) inner) at (still_fresh connected net before old mid node id s grown at e f)
    (λ i. put i ∙ ap (λ (m : PartialNet). cond (eqb i id) (starred note) (note_at m.notes i)) grown))

pub takes_again : (net : List ℕ) (old mid : PartialNet) (node : NodeName) (note : List ℕ) (id : ℕ) (u : Unit {0})
    → mid ≡ record old { nodes = with_node old.nodes node } → slice_get (with_node old.nodes node) id ≡ Some node → is_inner net node ≡ true
    → is_joined (note_at mid.notes id) ≡ false → is_starred (note_at mid.notes id) ≡ true → Takes (Ok u) net old (Ok (Star node note)) mid
takes_again net old mid node note id u grown at inner e f = λ connected before counted s.
    let there : note_at mid.notes id ≡ noted_by (joined_of before) (starred_of before) node = ap (λ m. note_at m.notes id) grown ∙ noted_there connected net before old node id s at in
    taken connected net before old _ mid (Ok (Star node note)) u
    (star_fault connected net before old mid node note id s grown at inner ∙ ap (λ b. cond (not b) None (Some Conn)) e) s grown
    (again_next connected net before old node note s (or_right (has_node old.nodes node) (is_inner net node) inner) (sym (ap is_starred there) ∙ f))

-- a capacitor or a resistor more, with its nodes last where they are new
abbrev CapAdded : PartialNet → NodeName → ℕ → PartialNet → Type 0
CapAdded old node value new =
    (id : ℕ) × (slice_get (with_node old.nodes node) id ≡ Some node)
    × (new ≡ record old { nodes = with_node old.nodes node; caps = old.caps ++ (id, value) ∷ [] })

abbrev ResAdded : PartialNet → NodeName → NodeName → ℕ → PartialNet → Type 0
ResAdded old a b value new =
    (i : ℕ) × (j : ℕ) × (slice_get (with_node old.nodes a) i ≡ Some a) × (slice_get (with_node (with_node old.nodes a) b) j ≡ Some b)
    × (new ≡ record old { nodes = with_node (with_node old.nodes a) b; ress = old.ress ++ (i, j, value) ∷ [] })

-- the capacitor of a node is added, or the fault of its value is answered
abbrev TakesValue : Result (Unit {0}) NetKind → PartialNet → NodeName → Result ℕ NumFault → PartialNet → Type 0
TakesValue (Ok _) old node value new = (v : ℕ) × (value ≡ Ok v) × CapAdded old node v new
TakesValue (Err kind) old node value new = IsFaultOrMemory (number_fault value) kind

added_value : (result : Result (Unit {0}) NetKind) (old mid new : PartialNet) (node : NodeName) (id : ℕ) (value : Result ℕ NumFault)
    → mid ≡ record old { nodes = with_node old.nodes node } → slice_get (with_node old.nodes node) id ≡ Some node → AddsCap result mid id value new → TakesValue result old node value new
added_value (Ok u) old mid new node id value grown at added =
    let (v, good, is) = added in
    (v, good, (id, at, is ∙ ap (λ (m : PartialNet). let r : PartialNet = record m { caps = m.caps ++ (id, v) ∷ [] } in r) grown))
added_value (Err kind) old mid new node id value grown at added = added

-- capacitors
pub ground_foreign : (net : List ℕ) (old new : PartialNet) (node : NodeName) (value : Result ℕ NumFault) → is_known old.nodes net node ≡ false → Takes (Err Foreign) net old (Ok (Ground node value)) new
ground_foreign net old new node value e = λ connected before counted s.
    ground_fault connected net before old node value s ∙ ap (λ b. cond b (number_fault value) (Some Foreign)) e

pub takes_ground : (result : Result (Unit {0}) NetKind) (net : List ℕ) (old new : PartialNet) (node : NodeName) (value : Result ℕ NumFault)
    → is_known old.nodes net node ≡ true → TakesValue result old node value new → Takes result net old (Ok (Ground node value)) new
takes_ground (Ok u) net old new node value e t = λ connected before counted s.
    let (v, good, added) = t in
    let (id, at, is) = added in
    let f : fault_of connected net before (Ok (Ground node value)) ≡ None =
    ground_fault connected net before old node value s ∙ ap (λ b. cond b (number_fault value) (Some Foreign)) e ∙ ap number_fault good in
    subst (λ (n : Result ℕ NumFault). fault_of connected net before (Ok (Ground node n)) ≡ None → Taken (Ok u) connected net before (Ok (Ground node n)) new) (sym good)
    (λ g. taken connected net before old _ new (Ok (Ground node (Ok v))) u g s is (ground_next connected net before old node v id s e at)) f
takes_ground (Err kind) net old new node value e t = λ connected before counted s.
    subst (λ (o : Option NetKind). IsFaultOrMemory o kind) (sym (ground_fault connected net before old node value s ∙ ap (λ b. cond b (number_fault value) (Some Foreign)) e)) t

abbrev coupled : Bool → Bool → Result ℕ NumFault → Option NetKind
coupled a b value = cond (a && b) (Some SelfCoupled) (cond (a || b) (number_fault value) (Some Foreign))

coupled_is : (connected : List NodeName) (net : List ℕ) (before : List Stated) (old : PartialNet) (a b : NodeName) (value : Result ℕ NumFault) (p q : Bool) → IsPartialNet connected net before old → is_known old.nodes net a ≡ p → is_known old.nodes net b ≡ q
    → fault_of connected net before (Ok (Coupling a b value)) ≡ coupled p q value
coupled_is connected net before old a b value p q s e f = coupling_fault connected net before old a b value s ∙ ap (λ t. coupled t (is_known old.nodes net b) value) e ∙ ap (λ t. coupled p t value) f

pub coupling_foreign : (net : List ℕ) (old new : PartialNet) (a b : NodeName) (value : Result ℕ NumFault) → is_known old.nodes net a ≡ false → is_known old.nodes net b ≡ false → Takes (Err Foreign) net old (Ok (Coupling a b value)) new
coupling_foreign net old new a b value e f = λ connected before counted s. coupled_is connected net before old a b value false false s e f

pub coupling_self : (net : List ℕ) (old new : PartialNet) (a b : NodeName) (value : Result ℕ NumFault) → is_known old.nodes net a ≡ true → is_known old.nodes net b ≡ true → Takes (Err SelfCoupled) net old (Ok (Coupling a b value)) new
coupling_self net old new a b value e f = λ connected before counted s. coupled_is connected net before old a b value true true s e f

takes_value : (result : Result (Unit {0}) NetKind) (connected : List NodeName) (net : List ℕ) (before : List Stated) (old : PartialNet) (new : PartialNet) (a b node : NodeName) (value : Result ℕ NumFault) → IsPartialNet connected net before old
    → node ≡ own_one connected net a b → is_known old.nodes net node ≡ true → fault_of connected net before (Ok (Coupling a b value)) ≡ number_fault value
    → TakesValue result old node value new → Taken result connected net before (Ok (Coupling a b value)) new
takes_value (Ok u) connected net before old new a b node value s is_one known f t =
    let (v, good, added) = t in
    let (id, at, is) = added in
    subst (λ (n : Result ℕ NumFault). fault_of connected net before (Ok (Coupling a b n)) ≡ None → Taken (Ok u) connected net before (Ok (Coupling a b n)) new) (sym good)
    (λ g. taken connected net before old _ new (Ok (Coupling a b (Ok v))) u g s is (coupling_next connected net before old a b node v id is_one s known at)) (f ∙ ap number_fault good)
takes_value (Err kind) connected net before old new a b node value s is_one known f t = subst (λ (o : Option NetKind). IsFaultOrMemory o kind) (sym f) t

pub takes_first : (result : Result (Unit {0}) NetKind) (net : List ℕ) (old new : PartialNet) (a b : NodeName) (value : Result ℕ NumFault)
    → is_known old.nodes net a ≡ true → is_known old.nodes net b ≡ false → TakesValue result old a value new → Takes result net old (Ok (Coupling a b value)) new
takes_first result net old new a b value e f t = λ connected before counted s.
    takes_value result connected net before old new a b a value s (sym (ap (λ t. cond t a b) (sym (s.own a) ∙ e))) e (coupled_is connected net before old a b value true false s e f) t

pub takes_second : (result : Result (Unit {0}) NetKind) (net : List ℕ) (old new : PartialNet) (a b : NodeName) (value : Result ℕ NumFault)
    → is_known old.nodes net a ≡ false → is_known old.nodes net b ≡ true → TakesValue result old b value new → Takes result net old (Ok (Coupling a b value)) new
takes_second result net old new a b value e f t = λ connected before counted s.
    takes_value result connected net before old new a b b value s (sym (ap (λ t. cond t a b) (sym (s.own a) ∙ e))) f (coupled_is connected net before old a b value false true s e f) t

-- resistors
pub resistor_foreign : (net : List ℕ) (old new : PartialNet) (a b : NodeName) (value : Result ℕ NumFault) → (is_known old.nodes net a && is_known old.nodes net b) ≡ false → Takes (Err Foreign) net old (Ok (Resistor a b value)) new
resistor_foreign net old new a b value e = λ connected before counted s.
    resistor_fault connected net before old a b value s ∙ ap (λ t. cond t (number_fault value) (Some Foreign)) e

pub resistor_number : (net : List ℕ) (old new : PartialNet) (a b : NodeName) (value : Result ℕ NumFault) (kind : NetKind) → (is_known old.nodes net a && is_known old.nodes net b) ≡ true
    → number_fault value ≡ Some kind → ((connected : List NodeName) (before : List Stated) → IsPartialNet connected net before old → fault_of connected net before (Ok (Resistor a b value)) ≡ Some kind)
resistor_number net old new a b value kind e f = λ connected before s.
    resistor_fault connected net before old a b value s ∙ ap (λ t. cond t (number_fault value) (Some Foreign)) e ∙ f

both_second : (a b : Bool) → (a && b) ≡ true → b ≡ true
both_second true b e = e
both_second false b e = absurd (cc)

pub takes_resistor : (net : List ℕ) (old new : PartialNet) (a b : NodeName) (v : ℕ) (u : Unit {0})
    → (is_known old.nodes net a && is_known old.nodes net b) ≡ true → ResAdded old a b v new → Takes (Ok u) net old (Ok (Resistor a b (Ok v))) new
takes_resistor net old new a b v u e added = λ connected before counted s.
    let (i, j, at, after, is) = added in
    taken connected net before old _ new (Ok (Resistor a b (Ok v))) u
    (resistor_fault connected net before old a b (Ok v) s ∙ ap (λ t. cond t None (Some Foreign)) e) s is
    (resistor_next connected net before old a b v i j s (both_first (is_known old.nodes net a) (is_known old.nodes net b) e) (both_second (is_known old.nodes net a) (is_known old.nodes net b) e) at after)

pub takes_good_resistor : (net : List ℕ) (old new : PartialNet) (a b : NodeName) (value : Result ℕ NumFault) (v : ℕ) (u : Unit {0})
    → value ≡ Ok v → (is_known old.nodes net a && is_known old.nodes net b) ≡ true → ResAdded old a b v new → Takes (Ok u) net old (Ok (Resistor a b value)) new
takes_good_resistor net old new a b value v u good e added =
    subst (λ (n : Result ℕ NumFault). Takes (Ok u) net old (Ok (Resistor a b n)) new) (sym good) (takes_resistor net old new a b v u e added)

-- what is seen of the nodes' texts
pub ground_seen_foreign : (net : List ℕ) (old mid : PartialNet) (o : Option NodeName) (value : Result ℕ NumFault) → Sees (Ok None) net old o mid → Takes (Err Foreign) net old (ground o value) mid
ground_seen_foreign net old mid o value seen =
    let (node, is, (known, same)) = seen in
    subst (λ (o : Option NodeName). Takes (Err Foreign) net old (ground o value) mid) (sym is) (ground_foreign net old mid node value known)

pub ground_seen : (result : Result (Unit {0}) NetKind) (net : List ℕ) (old mid new : PartialNet) (o : Option NodeName) (value : Result ℕ NumFault) (id : ℕ) → Sees (Ok (Some id)) net old o mid → AddsCap result mid id value new
    → Takes result net old (ground o value) new
ground_seen result net old mid new o value id seen added =
    let (node, is, (known, at, grown)) = seen in
    subst (λ (o : Option NodeName). Takes result net old (ground o value) new) (sym is) (takes_ground result net old new node value known (added_value result old mid new node id value grown at added))

pub coupling_seen_foreign : (net : List ℕ) (old new : PartialNet) (o : Option (NodeName × NodeName)) (value : Result ℕ NumFault) → SeesTwo (Ok (None, None)) net old o new → Takes (Err Foreign) net old (coupling o value) new
coupling_seen_foreign net old new o value seen =
    let (a, b, mid, is, (known, same), (also, kept)) = seen in
    subst (λ (o : Option (NodeName × NodeName)). Takes (Err Foreign) net old (coupling o value) new) (sym is)
    (coupling_foreign net old new a b value known (sym (ap (λ (m : PartialNet). is_known m.nodes net b) same) ∙ also))

-- the second node is known or not as before the first
as_before : (net : List ℕ) (old mid : PartialNet) (a b : NodeName) (t : Bool) → mid ≡ record old { nodes = with_node old.nodes a } → is_known old.nodes net a ≡ true → is_known mid.nodes net b ≡ t → is_known old.nodes net b ≡ t
as_before net old mid a b t grown known e = sym (known-with_node old.nodes net a b known) ∙ sym (ap (λ (m : PartialNet). is_known m.nodes net b) grown) ∙ e

pub coupling_seen_self : (net : List ℕ) (old new : PartialNet) (o : Option (NodeName × NodeName)) (value : Result ℕ NumFault) (i j : ℕ) → SeesTwo (Ok (Some i, Some j)) net old o new → Takes (Err SelfCoupled) net old (coupling o value) new
coupling_seen_self net old new o value i j seen =
    let (a, b, mid, is, (known, at, grown), (also, after, more)) = seen in
    subst (λ (o : Option (NodeName × NodeName)). Takes (Err SelfCoupled) net old (coupling o value) new) (sym is)
    (coupling_self net old new a b value known (as_before net old mid a b true grown known also))

pub coupling_seen_first : (result : Result (Unit {0}) NetKind) (net : List ℕ) (old both_seen new : PartialNet) (o : Option (NodeName × NodeName)) (value : Result ℕ NumFault) (id : ℕ) → SeesTwo (Ok (Some id, None)) net old o both_seen → AddsCap result both_seen id value new
    → Takes result net old (coupling o value) new
coupling_seen_first result net old both_seen new o value id seen added =
    let (a, b, mid, is, (known, at, grown), (also, kept)) = seen in
    subst (λ (o : Option (NodeName × NodeName)). Takes result net old (coupling o value) new) (sym is)
    (takes_first result net old new a b value known (as_before net old mid a b false grown known also) (added_value result old both_seen new a id value (kept ∙ grown) at added))

pub coupling_seen_second : (result : Result (Unit {0}) NetKind) (net : List ℕ) (old both_seen new : PartialNet) (o : Option (NodeName × NodeName)) (value : Result ℕ NumFault) (id : ℕ) → SeesTwo (Ok (None, Some id)) net old o both_seen → AddsCap result both_seen id value new
    → Takes result net old (coupling o value) new
coupling_seen_second result net old both_seen new o value id seen added =
    let (a, b, mid, is, (known, same), (also, at, grown)) = seen in
    subst (λ (o : Option (NodeName × NodeName)). Takes result net old (coupling o value) new) (sym is)
    (takes_second result net old new a b value known (sym (ap (λ (m : PartialNet). is_known m.nodes net b) same) ∙ also)
    (added_value result old both_seen new b id value
    (grown ∙ ap (λ (m : PartialNet). let r : PartialNet = record m { nodes = with_node m.nodes b } in r) same)
    (sym (ap (λ (m : PartialNet). slice_get (with_node m.nodes b) id) same) ∙ at) added))

pub resistor_seen_first : (net : List ℕ) (old new : PartialNet) (o : Option (NodeName × NodeName)) (value : Result ℕ NumFault) (other : Option ℕ) → SeesTwo (Ok (None, other)) net old o new → Takes (Err Foreign) net old (resistor o value) new
resistor_seen_first net old new o value other seen =
    let (a, b, mid, is, (known, same), more) = seen in
    subst (λ (o : Option (NodeName × NodeName)). Takes (Err Foreign) net old (resistor o value) new) (sym is)
    (resistor_foreign net old new a b value (ap (λ t. t && is_known old.nodes net b) known))

pub resistor_seen_second : (net : List ℕ) (old new : PartialNet) (o : Option (NodeName × NodeName)) (value : Result ℕ NumFault) (i : ℕ) → SeesTwo (Ok (Some i, None)) net old o new → Takes (Err Foreign) net old (resistor o value) new
resistor_seen_second net old new o value i seen =
    let (a, b, mid, is, (known, at, grown), (also, kept)) = seen in
    subst (λ (o : Option (NodeName × NodeName)). Takes (Err Foreign) net old (resistor o value) new) (sym is)
    (resistor_foreign net old new a b value (ap (λ t. t && is_known old.nodes net b) known ∙ as_before net old mid a b false grown known also))

added_res : (result : Result (Unit {0}) NetKind) (net : List ℕ) (old seen new : PartialNet) (a b : NodeName) (value : Result ℕ NumFault) (i j : ℕ) → (is_known old.nodes net a && is_known old.nodes net b) ≡ true
    → seen ≡ record old { nodes = with_node (with_node old.nodes a) b } → slice_get (with_node old.nodes a) i ≡ Some a → slice_get (with_node (with_node old.nodes a) b) j ≡ Some b
    → AddsRes result seen (i, j) value new → Takes result net old (Ok (Resistor a b value)) new
added_res (Ok u) net old seen new a b value i j known grown at after added =
    let (v, good, is) = added in
    takes_good_resistor net old new a b value v u good known (i, j, at, after, is ∙ ap (λ (m : PartialNet). let r : PartialNet = record m { ress = m.ress ++ (i, j, v) ∷ [] } in r) grown)
added_res (Err kind) net old seen new a b value i j known grown at after added = λ connected before counted s.
    subst (λ (o : Option NetKind). IsFaultOrMemory o kind) (sym (resistor_fault connected net before old a b value s ∙ ap (λ t. cond t (number_fault value) (Some Foreign)) known)) added

pub resistor_seen : (result : Result (Unit {0}) NetKind) (net : List ℕ) (old both_seen new : PartialNet) (o : Option (NodeName × NodeName)) (value : Result ℕ NumFault) (i j : ℕ) → SeesTwo (Ok (Some i, Some j)) net old o both_seen → AddsRes result both_seen (i, j) value new
    → Takes result net old (resistor o value) new
resistor_seen result net old both_seen new o value i j seen added =
    let (a, b, mid, is, (known, at, grown), (also, after, more)) = seen in
    let nodes : mid.nodes ≡ with_node old.nodes a = ap (λ (m : PartialNet). m.nodes) grown in
    subst (λ (o : Option (NodeName × NodeName)). Takes result net old (resistor o value) new) (sym is)
    (added_res result net old both_seen new a b value i j (ap (λ t. t && is_known old.nodes net b) known ∙ as_before net old mid a b true grown known also)
    (more ∙ ap (λ (m : PartialNet). let r : PartialNet = record m { nodes = with_node m.nodes b } in r) grown) at
    (sym (ap (λ (m : PartialNet). slice_get (with_node m.nodes b) j) grown) ∙ after) added)
