-- One line of a section after another.
use Rattle.std.proofs.Common.{◌≡◌, ℕ, zero, suc, ◌+◌, ◌<◌, Bool, true, false, cond, ◌||◌, List, [], ◌∷◌, map, length, take, drop, get_or, refl, sym, ap, ◌∙◌, Option, Some, None, ◌⊎◌, inl, inr, Result, Ok, Err}
use Rattle.std.proofs.lemmas.List.{append-nil}
use Rattle.std.proofs.lemmas.Slice.Eq.{bytes_eq-Decides}
use Rattle.std.specs.Str.Lines.{lines}
use Rattle.std.specs.List.{fold, filter_map, cons_option}
use Rattle.vg_num.specs.declared.fault.NumFault.{NumFault}
use Rattle.vg_scan.specs.Lines.{Line}
use Rattle.vg_scan.specs.declared.name.NodeName.{NodeName}
use Rattle.spef_file.specs.Files.{File}
use Rattle.spef_net.specs.declared.part.Part.{Part}
use Rattle.spef_net.specs.declared.part.Part.TheVariants.{Nowhere, Conns, Caps, Ress, Inducs}
use Rattle.spef_net.specs.declared.fault.NetKind.{NetKind}
use Rattle.spef_net.specs.declared.fault.NetKind.TheVariants.{Conn, Cap, Res, Number, Foreign, SelfCoupled, Memory}
use Rattle.spef_net.specs.Statements.{Opens, Nothing, Connects, Star, Ground, Coupling, Resistor}
use Rattle.vg_scan.specs.Nodes.{same_node, has_node}
use Rattle.spef_nodes.specs.Names.{node_in}
use Rattle.spef_nodes.specs.Members.{with_node, distinct}
use Rattle.spef_net.specs.Statements.{Stated, ground, coupling, resistor, cap_line, res_line, conn_line, connection, connected, star, starred, is_at, direction_in, statement_in, statement_of, part_after, statements_from}
use Rattle.spef_net.specs.Lines.{note_after}
use Rattle.spef_net.specs.declared.net.ConnKind.{ConnKind}
use Rattle.spef_net.specs.declared.net.ConnKind.TheVariants.{Pin, Port}
use Rattle.spef_net.specs.declared.net.Direction.{Direction}
use Rattle.std.specs.Prelude.{codes}
use Rattle.std.specs.Str.{bytes_eq}
use Rattle.spef_net.specs.Rows.{joined_in, connected_of}
use Rattle.vg_scan.specs.Faults.{IsClear}
use Rattle.vg_scan.proofs.FaultLemmas.{first_fault as first_here}
use Rattle.spef_net.specs.Faults.{fault_of, fault_at, IsFirstFaultIn}
use Rattle.spef_net.specs.Builders.{PartialNet, start_of, IsPartialNet, IsCounted, Takes}
use Rattle.spef_nodes.specs.NodeReaders.{NetNodes}
use Rattle.spef_net.specs.Connections.{is_conns, with_joined}
use Rattle.spef_net.specs.Views.{IsFaultOrMemory, fault_in}
use Rattle.spef_nodes.proofs.NodeListLemmas.{has-distinct}
use Rattle.spef_net.proofs.TakeLemmas.{or_right}

-- a line that opens no part and names no connection
pub record IsQuiet (line : Stated) : Type 0 where
  pub part : (part : Part) → part ≡ part_after part line
  pub joined : joined_in line ≡ None

bad : (kind : NetKind) → IsQuiet (Err kind)
bad kind = record { part = λ part. refl; joined = refl }

ground-quiet : (node : Option NodeName) (value : Result ℕ NumFault) → IsQuiet (ground node value)
ground-quiet (Some node) value = record { part = λ part. refl; joined = refl }
ground-quiet None value = bad Cap

coupling-quiet : (nodes : Option (NodeName × NodeName)) (value : Result ℕ NumFault) → IsQuiet (coupling nodes value)
coupling-quiet (Some nodes) value = record { part = λ part. refl; joined = refl }
coupling-quiet None value = bad Cap

resistor-quiet : (nodes : Option (NodeName × NodeName)) (value : Result ℕ NumFault) → IsQuiet (resistor nodes value)
resistor-quiet (Some nodes) value = record { part = λ part. refl; joined = refl }
resistor-quiet None value = bad Res

cap-quiet : (file : File) (line : Line) → IsQuiet (cap_line file line)
unfolding cap_line
cap-quiet file [] = bad Cap
cap-quiet file (a ∷ []) = bad Cap
cap-quiet file (a ∷ b ∷ []) = bad Cap
cap-quiet file (a ∷ b ∷ c ∷ []) = ground-quiet _ _
cap-quiet file (a ∷ b ∷ c ∷ d ∷ []) = coupling-quiet _ _
cap-quiet file (a ∷ b ∷ c ∷ d ∷ e ∷ es) = bad Cap

res-quiet : (file : File) (line : Line) → IsQuiet (res_line file line)
unfolding res_line
res-quiet file [] = bad Res
res-quiet file (a ∷ []) = bad Res
res-quiet file (a ∷ b ∷ []) = bad Res
res-quiet file (a ∷ b ∷ c ∷ []) = bad Res
res-quiet file (a ∷ b ∷ c ∷ d ∷ []) = resistor-quiet _ _
res-quiet file (a ∷ b ∷ c ∷ d ∷ e ∷ es) = bad Res

-- where no connections stand, a line that is no head is such a one
pub quiet : (file : File) (part : Part) (line : List ℕ) (ws : Line) → is_conns part ≡ false → IsQuiet (statement_in part file line ws)
quiet file Nowhere line ws e = bad Conn
quiet file Conns line ws e = absurd (cc)
quiet file Caps line ws e = cap-quiet file ws
quiet file Ress line ws e = res-quiet file ws
quiet file Inducs line ws e = record { part = λ part. refl; joined = refl }

connected-part : (kind : ConnKind) (note : List ℕ) (node : Option NodeName) (direction : Option Direction) (part : Part) → part ≡ part_after part (connected kind note node direction)
connected-part kind note (Some node) (Some direction) part = by_test (is_at kind node)
  where
    by_test : (b : Bool) → part ≡ part_after part (cond b (Ok (Connects kind direction node note)) (Err Conn))
    by_test true = refl
    by_test false = refl
connected-part kind note (Some node) None part = refl
connected-part kind note None direction part = refl

connection-part : (file : File) (kind : ConnKind) (line : List ℕ) (ws : Line) (part : Part) → part ≡ part_after part (connection file kind line ws)
connection-part file kind line [] part = refl
connection-part file kind line (a ∷ []) part = refl
connection-part file kind line (a ∷ b ∷ ws) part = connected-part kind (note_after 3 line) (node_in file a) (direction_in b) part

starred-part : (note : List ℕ) (node : Option NodeName) (part : Part) → part ≡ part_after part (starred note node)
starred-part note (Some node) part = refl
starred-part note None part = refl

star-part : (file : File) (line : List ℕ) (ws : Line) (part : Part) → part ≡ part_after part (star file line ws)
star-part file line [] part = refl
star-part file line (a ∷ ws) part = starred-part (note_after 2 line) (node_in file a) part

tag-part : (p q r : Bool) (a b c : Stated) (part : Part) → part ≡ part_after part a → part ≡ part_after part b → part ≡ part_after part c → part ≡ part_after part (cond p a (cond q b (cond r c (Err Conn))))
tag-part true q r a b c part x y z = x
tag-part false true r a b c part x y z = y
tag-part false false true a b c part x y z = z
tag-part false false false a b c part x y z = refl

conn-part : (file : File) (line : List ℕ) (ws : Line) (part : Part) → part ≡ part_after part (conn_line file line ws)
unfolding conn_line
conn-part file line [] part = refl
conn-part file line (tag ∷ ws) part =
    tag-part (bytes_eq tag (codes "*I")) (bytes_eq tag (codes "*P")) (bytes_eq tag (codes "*N")) (connection file Pin line ws) (connection file Port line ws) (star file line ws) part
    (connection-part file Pin line ws part) (connection-part file Port line ws part) (star-part file line ws part)

-- a line that is no head opens no part
pub same_part : (file : File) (within part : Part) (line : List ℕ) (ws : Line) → part ≡ part_after part (statement_in within file line ws)
same_part file Nowhere part line ws = refl
same_part file Conns part line ws = conn-part file line ws part
same_part file Caps part line ws = (cap-quiet file ws).part part
same_part file Ress part line ws = (res-quiet file ws).part part
same_part file Inducs part line ws = refl

-- the lines that are left
pub left : (file : File) (part : Part) (line : List ℕ) (others : List (List ℕ)) → statements_from file part (line ∷ others) ≡ statement_of file part line ∷ statements_from file (part_after part (statement_of file part line)) others
unfolding statements_from
left file part line others = refl

pub none_left : (file : File) (part : Part) → statements_from file part [] ≡ []
unfolding statements_from
none_left file part = refl

joined_first : (old : List NodeName) (row : Option (NodeName × List ℕ)) (rows : List (NodeName × List ℕ)) → fold with_node (with_joined old row) (map (λ r. r.0) rows) ≡ fold with_node old (map (λ r. r.0) (cons_option row rows))
joined_first old None rows = refl
joined_first old (Some row) rows = refl

-- the gather, one line later
pub gather_more : (file : File) (part next : Part) (line : List ℕ) (others : List (List ℕ)) (old new : List NodeName)
    → next ≡ part_after part (statement_of file part line) → new ≡ with_joined old (joined_in (statement_of file part line))
    → fold with_node new (connected_of (statements_from file next others)) ≡ fold with_node old (connected_of (statements_from file part (line ∷ others)))
gather_more file part next line others old new p n =
    let s = statement_of file part line in
    ap (λ q. fold with_node new (connected_of (statements_from file q others))) p
    ∙ ap (λ ns. fold with_node ns (connected_of (statements_from file (part_after part s) others))) n
    ∙ joined_first old (joined_in s) (filter_map joined_in (statements_from file (part_after part s) others))
    ∙ ap (λ ss. fold with_node old (connected_of ss)) (sym (left file part line others))

-- the same of the line at a place of a text
pub one_later : (file : File) (part opened : Part) (bytes : List ℕ) (at next : ℕ) (text line : List ℕ) (old new : List NodeName)
    → opened ≡ part_after part (statement_of file part text) → new ≡ with_joined old (joined_in (statement_of file part text)) → text ≡ line → lines (drop at bytes) ≡ line ∷ lines (drop next bytes)
    → fold with_node new (connected_of (statements_from file opened (lines (drop next bytes)))) ≡ fold with_node old (connected_of (statements_from file part (lines (drop at bytes))))
one_later file part opened bytes at next text line old new p n is first =
    gather_more file part opened text (lines (drop next bytes)) old new p n
    ∙ ap (λ l. fold with_node old (connected_of (statements_from file part (l ∷ lines (drop next bytes))))) is
    ∙ ap (λ ls. fold with_node old (connected_of (statements_from file part ls))) (sym first)

-- a line whose form or names are bad
bad_fault : (connected : List NodeName) (net : List ℕ) (before : List Stated) (line : Stated) (kind : NetKind) → fault_in line ≡ Some kind → fault_of connected net before line ≡ Some kind
unfolding fault_of
bad_fault connected net before (Ok statement) kind e = absurd (cc)
bad_fault connected net before (Err k) kind e = e

pub bad_line : (net : List ℕ) (old new : PartialNet) (line : Stated) (kind : NetKind) → IsFaultOrMemory (fault_in line) kind → Takes (Err kind) net old line new
bad_line net old new line Memory h = λ connected before counted s. tt
bad_line net old new line Conn h = λ connected before counted s. bad_fault connected net before line Conn h
bad_line net old new line Cap h = λ connected before counted s. bad_fault connected net before line Cap h
bad_line net old new line Res h = λ connected before counted s. bad_fault connected net before line Res h
bad_line net old new line Foreign h = λ connected before counted s. bad_fault connected net before line Foreign h
bad_line net old new line SelfCoupled h = λ connected before counted s. bad_fault connected net before line SelfCoupled h
bad_line net old new line (Number f) h = λ connected before counted s. bad_fault connected net before line (Number f) h

same_refl : (node : NodeName) → same_node node node ≡ true
same_refl node =
    let a : Rattle.std.specs.Str.bytes_eq node.owner node.owner ≡ true = (bytes_eq-Decides node.owner node.owner).1 refl in
    let b : Rattle.std.specs.Str.bytes_eq node.leaf node.leaf ≡ true = (bytes_eq-Decides node.leaf node.leaf).1 refl in
    rw (a, b) refl

counted_here : (node : NodeName) (note : List ℕ) (rows : List (NodeName × List ℕ)) → has_node (map (λ r. r.0) ((node, note) ∷ rows)) node ≡ true
counted_here node note rows = ap (λ b. b || has_node (map (λ r. r.0) rows) node) (same_refl node)

counted_later : (node : NodeName) (row : Option (NodeName × List ℕ)) (rows : List (NodeName × List ℕ)) → has_node (map (λ r. r.0) rows) node ≡ true → has_node (map (λ r. r.0) (cons_option row rows)) node ≡ true
counted_later node None rows e = e
counted_later node (Some row) rows e = or_right (same_node node row.0) (has_node (map (λ r. r.0) rows) node) e

has_joined : (all : List Stated) (n : ℕ) (line : Stated) (others : List Stated) (node : NodeName) (note : List ℕ) → drop n all ≡ line ∷ others → joined_in line ≡ Some (node, note) → has_node (connected_of all) node ≡ true
has_joined [] zero line others node note e j = absurd (cc)
has_joined [] (suc n) line others node note e j = absurd (cc)
has_joined (l ∷ ls) zero line others node note e j =
    let same : l ≡ line = cc in
    ap (λ o. has_node (map (λ r. r.0) (cons_option o (filter_map joined_in ls))) node) (ap joined_in same ∙ j) ∙ counted_here node note (filter_map joined_in ls)
has_joined (l ∷ ls) (suc n) line others node note e j = counted_later node (joined_in l) (filter_map joined_in ls) (has_joined ls n line others node note e j)

pub is_counted : (all : List Stated) (n : ℕ) (line : Stated) (others : List Stated) → drop n all ≡ line ∷ others → IsCounted (connected_of all) line
is_counted all n (Err kind) others e = tt
is_counted all n (Ok (Opens part)) others e = tt
is_counted all n (Ok Nothing) others e = tt
is_counted all n (Ok (Connects kind direction node note)) others e = has_joined all n (Ok (Connects kind direction node note)) others node note e refl
is_counted all n (Ok (Star node note)) others e = tt
is_counted all n (Ok (Ground node value)) others e = tt
is_counted all n (Ok (Coupling a b value)) others e = tt
is_counted all n (Ok (Resistor a b value)) others e = tt

-- before the first line
pub no_lines : (connected : List NodeName) (start : NetNodes) → start.nodes ≡ distinct connected → IsPartialNet connected start.net [] (start_of start)
no_lines connected start e = record {
  nodes = e ∙ ap distinct (sym (append-nil connected));
  own = λ node. ap (λ ns. has_node ns node || Rattle.spef_nodes.specs.Members.is_inner start.net node) e ∙ ap (λ b. b || Rattle.spef_nodes.specs.Members.is_inner start.net node) (has-distinct connected node);
  noted = record { here = λ i node at. refl; beyond = λ i low. refl; others = λ node f. refl };
  conns = refl;
  caps = refl;
  ress = refl;
  inductive = refl;
}

known : (fault : Option NetKind) (kind : NetKind) → IsFaultOrMemory fault kind → (kind ≡ Memory) ⊎ (fault ≡ Some kind)
known fault Memory h = inl refl
known fault Conn h = inr h
known fault Cap h = inr h
known fault Res h = inr h
known fault Foreign h = inr h
known fault SelfCoupled h = inr h
known fault (Number f) h = inr h

-- the first faulty line, from what is known of the lines before it
pub first_fault : (net : List ℕ) (all : List Stated) (n first : ℕ) (line : Stated) (kind : NetKind) → n < length all → get_or all n (Ok Nothing) ≡ line → IsClear (fault_at net all) n
    → IsFaultOrMemory (fault_of (connected_of all) net (take n all) line) kind → (kind ≡ Memory) ⊎ IsFirstFaultIn net all first (record { kind = kind; line = first + n })
first_fault net all n first line kind l e clear f =
    elim (known (fault_of (connected_of all) net (take n all) line) kind f) [
      | inl memory ↦ inl memory
      | inr fault ↦ inr (first_here (fault_at net all) (length all) first n (first + n) kind clear (ap (fault_of (connected_of all) net (take n all)) e ∙ fault) l refl)
    ]
